use Rattle.std.proofs.Common.{rules, List, Some, None, refl, subst, inl, inr, ◌∙◌}
use Rattle.party_exec.specs.Crews.{last_seed_of, turn_runs}
use Rattle.party_exec.specs.declared.crew_entry.CrewEntry.{CrewEntry}
use Rattle.dbp_top.specs.Commands.{Names, runner_of, serves_all}
use Rattle.dbp_top.specs.Runs.{CrewsAfter, HasDrawn, RunsAfter, text_to_run}
use Rattle.dbp_answers.specs.declared.command.Command.{Command}
use Rattle.dbp_answers.specs.declared.command.Command.TheVariants.{Run, Soak}
use Rattle.dbp_top.proofs.CommandRows.{one-command}
use Rattle.dbp_top.proofs.NamedSizes.{named-size}
use Rattle.dbp_top.proofs.Endings.{ends-named}
use Rattle.dbp_top.proofs.top.ending.Goals as goal

pub returns-in-Some-Run-None-clause-ends : goal.returns-in-Some-Run-None-clause-ends
returns-in-Some-Run-None-clause-ends g c =
    let named : Names c.args.arguments.now (Run None) = (c.command_of.ensures (Run None)).0 (let a = c.in-Some-Run-None.is in let b = c.in-Some-Run-None.field-0-is in let d = c.in-Some-Run-None.field-0-0-is in cc) in
    ends-named g.S.Source.left g.S.Source.faults g.S.Source.ends g.K.Sink.written g.K.Sink.faults serves_all c.args.arguments.now (Run None) c.args.source.now c.run_ending.new.source c.args.sink.now c.run_ending.new.sink c.run_ending.result named refl
    (c.run_ending.ensures.ends None)

pub returns-in-Some-Run-None-clause-crews : goal.returns-in-Some-Run-None-clause-crews
returns-in-Some-Run-None-clause-crews g c =
    let named : Names c.args.arguments.now (Run None) = (c.command_of.ensures (Run None)).0 (let a = c.in-Some-Run-None.is in let b = c.in-Some-Run-None.field-0-is in let d = c.in-Some-Run-None.field-0-0-is in cc) in
    record {
      named = λ command other.
          subst (λ (d : Command). CrewsAfter g.C.Crew.runs (runner_of d) c.run_ending.result (text_to_run d (g.S.Source.left c.args.source.now)) c.args.crew.now c.run_ending.new.crew c.args.turns.now c.args.turns.now)
          (one-command c.args.arguments.now (Run None) command named other) (c.run_ending.ensures.runs, refl);
      unnamed = λ none. absurd (none (Run None) named);
    }

pub returns-in-Some-Run-Some-clause-ends : goal.returns-in-Some-Run-Some-clause-ends
returns-in-Some-Run-Some-clause-ends g c =
    let seed = c.in-Some-Run-Some.seed in
    let named : Names c.args.arguments.now (Run (Some seed)) = (c.command_of.ensures (Run (Some seed))).0 (let a = c.in-Some-Run-Some.is in let b = c.in-Some-Run-Some.field-0-is in let d = c.in-Some-Run-Some.field-0-0-is in cc) in
    ends-named g.S.Source.left g.S.Source.faults g.S.Source.ends g.K.Sink.written g.K.Sink.faults serves_all c.args.arguments.now (Run (Some seed)) c.args.source.now c.run_ending-in-Some-Run-Some.new.source c.args.sink.now
    c.run_ending-in-Some-Run-Some.new.sink c.run_ending-in-Some-Run-Some.result named refl (c.run_ending-in-Some-Run-Some.ensures.ends (Some seed))

pub returns-in-Some-Run-Some-clause-crews : goal.returns-in-Some-Run-Some-clause-crews
returns-in-Some-Run-Some-clause-crews g c =
    let seed = c.in-Some-Run-Some.seed in
    let named : Names c.args.arguments.now (Run (Some seed)) = (c.command_of.ensures (Run (Some seed))).0 (let a = c.in-Some-Run-Some.is in let b = c.in-Some-Run-Some.field-0-is in let d = c.in-Some-Run-Some.field-0-0-is in cc) in
    let input = g.S.Source.left c.args.source.now in
    let turns = c.args.turns.now in
    let new_turns = c.run_ending-in-Some-Run-Some.new.crew in
    let status = c.run_ending-in-Some-Run-Some.result in
    let runs : RunsAfter status input (turn_runs turns) (turn_runs new_turns) =
    subst (λ (old : List CrewEntry). RunsAfter status input old (turn_runs new_turns)) c.seed.ensures.runs c.run_ending-in-Some-Run-Some.ensures.runs in
    let drawn : HasDrawn seed (turn_runs turns) (turn_runs new_turns) (last_seed_of new_turns) =
    elim c.run_ending-in-Some-Run-Some.ensures.drawn [ inl same ↦ inl (same ∙ c.seed.ensures.runs) | inr last ↦ inr (last ∙ c.seed.ensures.seed) ] in
    record {
      named = λ command other.
          subst (λ (d : Command). CrewsAfter g.C.Crew.runs (runner_of d) status (text_to_run d input) c.args.crew.now c.args.crew.now turns new_turns)
          (one-command c.args.arguments.now (Run (Some seed)) command named other) (refl, runs, c.run_ending-in-Some-Run-Some.ensures.seed ∙ c.seed.ensures.seed, drawn);
      unnamed = λ none. absurd (none (Run (Some seed)) named);
    }

pub soak_ending-requires : goal.soak_ending-requires
soak_ending-requires g c =
    let command = Soak c.in-Some-Soak.seed c.in-Some-Soak.size in
    let size = named-size c.args.arguments.now command ((c.command_of.ensures command).0 (let a = c.in-Some-Soak.is in let b = c.in-Some-Soak.field-0-is in cc)) in
    search (rules, size)

pub returns-in-Some-Soak-clause-ends : goal.returns-in-Some-Soak-clause-ends
returns-in-Some-Soak-clause-ends g c =
    let command = Soak c.in-Some-Soak.seed c.in-Some-Soak.size in
    let named : Names c.args.arguments.now command = (c.command_of.ensures command).0 (let a = c.in-Some-Soak.is in let b = c.in-Some-Soak.field-0-is in cc) in
    ends-named g.S.Source.left g.S.Source.faults g.S.Source.ends g.K.Sink.written g.K.Sink.faults serves_all c.args.arguments.now command c.args.source.now c.soak_ending.new._source c.args.sink.now c.soak_ending.new.sink c.soak_ending.result named refl
    c.soak_ending.ensures.ends

pub returns-in-Some-Soak-clause-crews : goal.returns-in-Some-Soak-clause-crews
returns-in-Some-Soak-clause-crews g c =
    let command = Soak c.in-Some-Soak.seed c.in-Some-Soak.size in
    let named : Names c.args.arguments.now command = (c.command_of.ensures command).0 (let a = c.in-Some-Soak.is in let b = c.in-Some-Soak.field-0-is in cc) in
    record {
      named = λ other is.
          subst (λ (d : Command). CrewsAfter g.C.Crew.runs (runner_of d) c.soak_ending.result (text_to_run d (g.S.Source.left c.args.source.now)) c.args.crew.now c.soak_ending.new.crew c.args.turns.now c.args.turns.now)
          (one-command c.args.arguments.now command other named is) (c.soak_ending.ensures.runs, refl);
      unnamed = λ none. absurd (none command named);
    }
