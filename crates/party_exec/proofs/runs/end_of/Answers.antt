use Rattle.std.proofs.Common.{◌∙◌, length, ap}
use Rattle.dbp_rules.specs.Lookups.{wired_task}
use Rattle.dbp_rules.specs.declared.wiring.TaskWiring.{TaskWiring}
use Rattle.word_rule.specs.declared.seats.TaskSeat.{TaskSeat}
use Rattle.party_turns.proofs.Fresh.{time_count}
use Rattle.party_exec.proofs.runs.end_of.Goals as goal

pub returns-clause-occurrences : goal.returns-clause-occurrences
returns-clause-occurrences c =
    let w = c.args.words.now in
    c.len.ensures
    ∙ ap (λ (x : TaskWiring). length x.times) c.wired_of.ensures
    ∙ ap (λ (s : TaskSeat). length (wired_task w.wiring s.task).times) c.seat-seat.ensures
    ∙ time_count w c.args.party.now.seat c.requires
