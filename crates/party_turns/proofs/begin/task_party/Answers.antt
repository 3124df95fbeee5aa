use Rattle.std.proofs.Common.{◌∙◌, ℕ, refl, ap, length, arith}
use Rattle.dbp_plan.specs.declared.diagram.Task.{Task}
use Rattle.dbp_rules.specs.Lookups.{no_task_wiring}
use Rattle.dbp_rules.specs.Start.{start_task}
use Rattle.dbp_rules.specs.declared.wiring.TaskWiring.{TaskWiring}
use Rattle.party_turns.specs.Rows.{first_and_zeros}
use Rattle.party_turns.proofs.Fresh.{first_has, time_count}
use Rattle.party_turns.proofs.Shutting.{closed, few_times}
use Rattle.party_turns.proofs.begin.task_party.Goals as goal

pub start-requires-clause-places : goal.start-requires-clause-places
start-requires-clause-places c = rw c.declared_of-task.ensures (omega (arith, (closed c.args.words.now c.args.seat c.requires.first.here).body))

pub start-requires-clause-outs : goal.start-requires-clause-outs
start-requires-clause-outs c = rw c.declared_of-task.ensures (closed c.args.words.now c.args.seat c.requires.first.here).outs.1

pub room_for_rows-requires-clause-rows : goal.room_for_rows-requires-clause-rows
room_for_rows-requires-clause-rows c = omega (arith, few_times c.args.words.now c.args.seat c.requires.first.here, ap (λ (t : TaskWiring). length t.times) c.wired_of.ensures, c.len-occurrences.ensures)

pub invariant_of-result : goal.invariant_of-result
invariant_of-result c =
    let w = c.args.words.now in
    let seat = c.args.seat in
    let count = c.len-occurrences.ensures ∙ ap (λ (t : TaskWiring). length t.times) c.wired_of.ensures ∙ time_count w seat c.requires.first.here in
    record {
      computed = first_has w seat c.in_ok-work.work c.in_ok-rows.rows c.requires.first
          (c.in_ok-work.ensures ∙ ap (λ (t : Task). (start_task no_task_wiring t).work) c.declared_of-task.ensures)
          (c.in_ok-rows.ensures ∙ ap (λ (x : Task × ℕ). first_and_zeros x.0 x.1) (λ j. (c.declared_of-task.ensures j, count j)));
    }

pub returns : goal.returns
returns c =
    let w = c.args.words.now in
    let seat = c.args.seat in
    let count = c.len-occurrences.ensures ∙ ap (λ (t : TaskWiring). length t.times) c.wired_of.ensures ∙ time_count w seat c.requires.first.here in
    record {
      seat = c.requires.first;
      turns = refl;
      work = c.in_ok-work.ensures ∙ ap (λ (t : Task). (start_task no_task_wiring t).work) c.declared_of-task.ensures;
      rows = c.in_ok-rows.ensures ∙ ap (λ (x : Task × ℕ). first_and_zeros x.0 x.1) (λ j. (c.declared_of-task.ensures j, count j));
    }
