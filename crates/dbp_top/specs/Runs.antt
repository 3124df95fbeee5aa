-- The crews after a call.
use Rattle.std.specs.Prelude.{◌≡◌, ◌⊎◌, ℕ, List, [], ◌∷◌, ◌++◌, Option, Some, IfSome, Result, Ok as Fine, Err}
use Rattle.std.specs.declared.alloc.Global.{Global}
use Rattle.std.specs.declared.string.String.{String}
use Rattle.dbp_plan.specs.declared.plan.Plan.{Plan}
use Rattle.dbp_load.specs.Texts.{generated_text}
use Rattle.party_exec.specs.Crews.{last_seed_of, seed_of, turn_runs}
use Rattle.party_exec.specs.Entries.{entry_of}
use Rattle.party_exec.specs.declared.crew_entry.CrewEntry.{CrewEntry}
use Rattle.party_exec.specs.declared.turn_crew.TurnCrew.{TurnCrew}
use Rattle.trace_io.specs.declared.code.Code.{Code}
use Rattle.trace_io.specs.Texts.{Accepts, Refuses}
use Rattle.dbp_top.specs.Commands.{Names, Runner, drawn_turns, nobody, runner_of, the_crew}
use Rattle.dbp_answers.specs.declared.command.Command.{Command}
use Rattle.dbp_answers.specs.declared.command.Command.TheVariants.{Soak}
use Rattle.dbp_answers.specs.Stops.{status_of_stop}
use Rattle.dbp_answers.specs.declared.status.Status.{Status}
use Rattle.dbp_answers.specs.declared.status.Status.TheVariants.{Ok, Overrun, Refused, Usage, ReadFault, WriteFault, NoMemory, TooLarge}
use Rattle.dbp_answers.specs.declared.stop.Stop.{Stop}

-- the runs grew by the entry of one run of this plan
abbrev pub IsOneRunMore : Plan → List CrewEntry → List CrewEntry → Type 0
IsOneRunMore plan old new = new ≡ old ++ entry_of plan ∷ []

-- the runs grew by the entry of one run of a plan; it is the input's, if the source's bytes are known
abbrev pub HasRunInput : Option (List ℕ) → List CrewEntry → List CrewEntry → Type 0
HasRunInput input old new = (plan : Plan) × IsOneRunMore plan old new × IfSome input (λ bytes. Accepts bytes plan)

-- the runs are as before, and the input is refused, if the source's bytes are known
abbrev pub HasRefusedInput : Option (List ℕ) → List CrewEntry → List CrewEntry → Type 0
HasRefusedInput input old new = (new ≡ old) × IfSome input (λ bytes. (line : ℕ) × (code : Code) × Refuses bytes line code)

-- the runs of the command's crew after each status; no run overruns
abbrev pub RunsAfter : Status → Option (List ℕ) → List CrewEntry → List CrewEntry → Type 0
RunsAfter Ok input old new = HasRunInput input old new
RunsAfter Refused input old new = HasRefusedInput input old new
RunsAfter Overrun input old new = ⊥
RunsAfter Usage input old new = new ≡ old
RunsAfter ReadFault input old new = new ≡ old
RunsAfter WriteFault input old new = HasRefusedInput input old new ⊎ HasRunInput input old new
RunsAfter NoMemory input old new = (new ≡ old) ⊎ HasRunInput input old new
RunsAfter TooLarge input old new = new ≡ old

-- no run was made, or the last one drew from this number
abbrev pub HasDrawn : ℕ → List CrewEntry → List CrewEntry → ℕ → Type 0
HasDrawn seed old new last_seed = (new ≡ old) ⊎ (last_seed ≡ seed)

-- the text whose plan a command runs: the generated one, or the input
abbrev pub text_to_run : Command → Option (List ℕ) → Option (List ℕ)
text_to_run (Soak seed size) input = Some (generated_text seed size)
text_to_run command input = input

module _ {C : Type 0} (runs : C → List CrewEntry) where
  -- both crews after a call with this runner: a crew that doesn't run is as before; drawn turns begin at the command's
  -- number, and a run that was made drew from it
  abbrev pub CrewsAfter : Runner → Status → Option (List ℕ) → C → C → TurnCrew → TurnCrew → Type 0
  CrewsAfter nobody status input crew new_crew turns new_turns = (new_crew ≡ crew) × (new_turns ≡ turns)
  CrewsAfter the_crew status input crew new_crew turns new_turns = RunsAfter status input (runs crew) (runs new_crew) × (new_turns ≡ turns)
  CrewsAfter (drawn_turns seed) status input crew new_crew turns new_turns =
      (new_crew ≡ crew) × RunsAfter status input (turn_runs turns) (turn_runs new_turns) × (seed_of new_turns ≡ seed)
      × HasDrawn seed (turn_runs turns) (turn_runs new_turns) (last_seed_of new_turns)

  -- both crews after a call with these arguments
  pub record Crews (arguments : List (String Global)) (status : Status) (input : Option (List ℕ)) (crew new_crew : C) (turns new_turns : TurnCrew) : Type 0 where
    pub named : (command : Command) → Names arguments command → CrewsAfter (runner_of command) status (text_to_run command input) crew new_crew turns new_turns
    pub unnamed : ((command : Command) → Names arguments command → ⊥) → (new_crew ≡ crew) × (new_turns ≡ turns)

-- one run of the plan was made, or memory ran out before or after it
abbrev pub RanOnce : {A E : Type 0} → Plan → List CrewEntry → List CrewEntry → Result A E → Type 0
RanOnce plan old new (Fine made) = IsOneRunMore plan old new
RanOnce plan old new (Err fail) = (new ≡ old) ⊎ IsOneRunMore plan old new

-- after a text the input's plan was run; after a refusal nothing was, and the input is refused; no run overruns
abbrev pub RunsAfterText : {A : Type 0} → List ℕ → List CrewEntry → List CrewEntry → Result A Stop → Type 0
RunsAfterText input old new (Fine text) = RunsAfter Ok (Some input) old new
RunsAfterText input old new (Err stop) = RunsAfter (status_of_stop stop) (Some input) old new
