use Rattle.std.proofs.Common.{ℕ, List, Some, None, refl, subst}
use Rattle.std.specs.Io.KnownBytes.{Appends}
use Rattle.dbp_answers.specs.Answer.{Answers}
use Rattle.dbp_top.specs.Runs.{RunsAfter}
use Rattle.dbp_answers.specs.declared.command.Command.TheVariants.{Run}
use Rattle.dbp_answers.specs.declared.status.Status.TheVariants.{NoMemory}
use Rattle.dbp_top.proofs.CrewRuns.{runs-not-written, runs-out-of-memory, runs-written}
use Rattle.dbp_top.proofs.Endings.{ends-written}
use Rattle.dbp_top.proofs.top.run_ending.Goals as goal

pub returns-in_default-clause-runs : goal.returns-in_default-clause-runs
returns-in_default-clause-runs g c =
    let a = g.C.Crew.runs c.args.crew.now in
    let b = g.C.Crew.runs c.run_answer.new.crew in
    let input = c.in-Ok.input.items in
    let bytes = c.in-Ok.ensures.bytes in
    let end = c.in-Ok.ensures.end in
    runs-out-of-memory (g.S.Source.left c.args.source.now) (g.S.Source.left c.read_all.new.source) input bytes.1 end.0 a b
    (subst (λ (l : List ℕ). RunsAfter NoMemory (Some l) a b) c.deref.ensures.value c.in_default.ensures.runs)

pub returns-in-Ok-write_all-clause-ends : goal.returns-in-Ok-write_all-clause-ends
returns-in-Ok-write_all-clause-ends g c = λ turns.
    let input = c.in-Ok.input.items in
    let text = c.in-Ok-run_answer.text.items in
    let status = c.in-Ok-run_answer.status in
    let answered : Answers input (Run turns) status text = subst (λ (l : List ℕ). Answers l (Run turns) status text) c.deref.ensures.value (c.in-Ok-run_answer.ensures.answer turns) in
    let wrote = c.in-Ok-write_all.ensures.ok in
    let written : Appends (g.K.Sink.written c.args.sink.now) (g.K.Sink.written c.write_all.new.sink) text = subst (λ (l : List ℕ). Appends (g.K.Sink.written c.args.sink.now) (g.K.Sink.written c.write_all.new.sink) l) c.deref-2.ensures.value wrote.0 in
    ends-written g.S.Source.left g.S.Source.faults g.S.Source.ends g.K.Sink.written g.K.Sink.faults (Run turns) c.args.source.now c.read_all.new.source c.args.sink.now c.write_all.new.sink input text status refl
    c.in-Ok.ensures.bytes c.in-Ok.ensures.end answered (written, wrote.1)

pub returns-in-Ok-write_all-clause-runs : goal.returns-in-Ok-write_all-clause-runs
returns-in-Ok-write_all-clause-runs g c =
    let a = g.C.Crew.runs c.args.crew.now in
    let b = g.C.Crew.runs c.run_answer.new.crew in
    let input = c.in-Ok.input.items in
    let text = c.in-Ok-run_answer.text.items in
    let status = c.in-Ok-run_answer.status in
    let answered : Answers input (Run None) status text = subst (λ (l : List ℕ). Answers l (Run None) status text) c.deref.ensures.value (c.in-Ok-run_answer.ensures.answer None) in
    runs-written (g.S.Source.left c.args.source.now) (g.S.Source.left c.read_all.new.source) input c.in-Ok.ensures.bytes.1 c.in-Ok.ensures.end.0 a b None status text answered
    (subst (λ (l : List ℕ). RunsAfter status (Some l) a b) c.deref.ensures.value c.in-Ok-run_answer.ensures.runs)

pub returns-clause-runs : goal.returns-clause-runs
returns-clause-runs g c =
    let a = g.C.Crew.runs c.args.crew.now in
    let b = g.C.Crew.runs c.run_answer.new.crew in
    let input = c.in-Ok.input.items in
    let text = c.in-Ok-run_answer.text.items in
    let status = c.in-Ok-run_answer.status in
    let answered : Answers input (Run None) status text = subst (λ (l : List ℕ). Answers l (Run None) status text) c.deref.ensures.value (c.in-Ok-run_answer.ensures.answer None) in
    runs-not-written (g.S.Source.left c.args.source.now) (g.S.Source.left c.read_all.new.source) input c.in-Ok.ensures.bytes.1 c.in-Ok.ensures.end.0 a b None status text answered
    (subst (λ (l : List ℕ). RunsAfter status (Some l) a b) c.deref.ensures.value c.in-Ok-run_answer.ensures.runs)
