-- The runs of a command's crew, as a call went on.
use Rattle.std.proofs.Common.{◌≡◌, ℕ, List, Option, Some, Result, Ok as Fine, Err, sym, subst, inl, inr}
use Rattle.std.specs.Prelude.{IfOk, MatchResult}
use Rattle.std.specs.Io.KnownBytes.{Consumes, IsAtEnd}
use Rattle.party_exec.specs.declared.crew_entry.CrewEntry.{CrewEntry}
use Rattle.dbp_plan.specs.declared.plan.Plan.{Plan}
use Rattle.trace_io.specs.declared.code.Code.{Code}
use Rattle.trace_io.specs.Texts.{Accepts, Refuses}
use Rattle.dbp_answers.specs.Answer.{Answers, made, overran, refused}
use Rattle.dbp_top.specs.Runs.{HasRefusedInput, HasRunInput, RanOnce, RunsAfter}
use Rattle.dbp_answers.specs.Stops.{status_of_stop}
use Rattle.dbp_answers.specs.declared.command.Command.TheVariants.{Run}
use Rattle.dbp_answers.specs.declared.status.Status.{Status}
use Rattle.dbp_answers.specs.declared.status.Status.TheVariants.{NoMemory, WriteFault}
use Rattle.dbp_answers.specs.declared.stop.Stop.{Stop}
use Rattle.dbp_answers.specs.declared.stop.Stop.TheVariants as stop
use Rattle.std.proofs.KnownBytes.{Consumes-whole}

-- after an answer without a text: of a run that was refused nothing was run, and out of memory may come at any time
pub runs-told : {A E : Type 0} (input : List ℕ) (a b : List CrewEntry) (why : Stop) (r : Result (Status × A) E) → IfOk r (λ told. told.0 ≡ status_of_stop why)
    → RunsAfter (status_of_stop why) (Some input) a b → MatchResult r (λ told. RunsAfter told.0 (Some input) a b) (λ _. RunsAfter NoMemory (Some input) a b)
runs-told input a b why (Fine told) status runs = subst (λ (s : Status). RunsAfter s (Some input) a b) (sym status) runs
runs-told input a b (stop.Refused refusal) (Err fail) status runs = inl runs.0
runs-told input a b (stop.Overrun line) (Err fail) status runs = absurd runs
runs-told input a b stop.NoMemory (Err fail) status runs = runs

-- ---- the input that was read to its end is what the source had

module _ (old new : Option (List ℕ)) (input : List ℕ) (taken : Consumes old new input) (end : IsAtEnd new) (a b : List CrewEntry) where
  run-known : HasRunInput (Some input) a b → HasRunInput old a b
  run-known runs = (runs.0, runs.1, Consumes-whole old new input (λ bytes. Accepts bytes runs.0) taken end runs.2)

  refusal-known : HasRefusedInput (Some input) a b → HasRefusedInput old a b
  refusal-known runs = (runs.0, Consumes-whole old new input (λ bytes. (line : ℕ) × (code : Code) × Refuses bytes line code) taken end runs.1)

  pub runs-written : (turns : Option ℕ) (status : Status) (text : List ℕ) → Answers input (Run turns) status text → RunsAfter status (Some input) a b → RunsAfter status old a b
  runs-written turns status text (made made_text makes) runs = run-known runs
  runs-written turns status text (refused why is) runs = refusal-known runs
  runs-written turns status text (overran line is) runs = absurd runs

  pub runs-not-written : (turns : Option ℕ) (status : Status) (text : List ℕ) → Answers input (Run turns) status text → RunsAfter status (Some input) a b → RunsAfter WriteFault old a b
  runs-not-written turns status text (made made_text makes) runs = inr (run-known runs)
  runs-not-written turns status text (refused why is) runs = inl (refusal-known runs)
  runs-not-written turns status text (overran line is) runs = absurd runs

  pub runs-out-of-memory : RunsAfter NoMemory (Some input) a b → RunsAfter NoMemory old a b
  runs-out-of-memory (inl same) = inl same
  runs-out-of-memory (inr runs) = inr (run-known runs)

-- ---- one run of a plan

-- of the plan that a text has
pub run-of-text : {A E : Type 0} (text : List ℕ) (p : Plan) (a b : List CrewEntry) (r : Result A E) → Accepts text p → RanOnce p a b r
    → MatchResult r (λ _. HasRunInput (Some text) a b) (λ _. RunsAfter NoMemory (Some text) a b)
run-of-text text p a b (Fine summary) accepted more = (p, more, accepted)
run-of-text text p a b (Err fail) accepted (inl same) = inl same
run-of-text text p a b (Err fail) accepted (inr more) = inr (p, more, accepted)
