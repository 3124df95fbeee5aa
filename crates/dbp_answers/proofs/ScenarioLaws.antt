-- Answers of the command that writes a scenario.
use Rattle.std.proofs.Common.{◌≡◌, ℕ, List, Option, None, Some, refl, sym, ap, subst, ◌∙◌}
use Rattle.dbp_plan.specs.declared.plan.Plan.{Plan}
use Rattle.dbp_plan.specs.Lookups.{task_at}
use Rattle.dbp_replay.specs.StepForms.{task_named}
use Rattle.dia_check.specs.Checks.{IsCheckedOf}
use Rattle.dia_read.specs.Canonical.{canonical_text}
use Rattle.dia_read.specs.declared.document.Doc.{Doc}
use Rattle.dia_read.specs.Printable.{HasItemLines}
use Rattle.slot_need.specs.declared.fail.NeedFail.{NeedFail}
use Rattle.slot_need.specs.declared.fail.NeedFail.TheVariants as need
use Rattle.slot_need.specs.Bodies.{IsCheckedDiagramOf, scenario_body}
use Rattle.slot_need.specs.Faults.{IsNeedFail, need_fault}
use Rattle.slot_need.proofs.NeedFaults.{no-memory-fault}
use Rattle.trace_io.specs.Texts.{Accepts}
use Rattle.dbp_answers.specs.Answer.{Answers, IsRefused, Makes, PlanText, made, no_scenario, of_body, of_plan, of_plan_refused, of_shape, scenario_text}
use Rattle.dbp_answers.specs.Commands.{Output, a_scenario}
use Rattle.dbp_answers.specs.ScenarioCodes.{code_of_task, fault_code, scenario_code}
use Rattle.dbp_answers.specs.Stops.{IsStopOf, stop_of_code}
use Rattle.dbp_answers.specs.declared.command.Command.TheVariants.{Need}
use Rattle.dbp_answers.specs.declared.command_code.CommandCode.{CommandCode}
use Rattle.dbp_answers.specs.declared.command_code.CommandCode.TheVariants.{NoTask, NotFixed, NotOnEvents, SharedEvent, TooLong}
use Rattle.dbp_answers.specs.declared.refusal.Refusal.{Refusal}
use Rattle.dbp_answers.specs.declared.refusal.Refusal.TheVariants.{OfCommand}
use Rattle.dbp_answers.specs.declared.status.Status.TheVariants.{Ok}
use Rattle.dbp_answers.proofs.AnswerLaws.{not-shape-and-plan, not-text-and-plan, one-output}
use Rattle.dbp_answers.proofs.ScenarioCodes.{code-of-failure, code-with}

module _ (input : List ℕ) (p : Plan) (accepted : Accepts input p) (name : List ℕ) where
  pub refused-for : (code : CommandCode) → scenario_code p.diagram name ≡ Some code → IsRefused input (Need name) (OfCommand code)
  refused-for code is = of_plan_refused (a_scenario name) p (OfCommand code) accepted refl (no_scenario name code is)

  -- what is told of a failure is why the input is refused; out of memory tells nothing
  pub failure-stop : (task : ℕ) (fail : NeedFail) → task_named p.diagram name ≡ Some task → IsNeedFail p.diagram task fail → IsStopOf input (Need name) (stop_of_code (fault_code p.diagram (Some fail)))
  failure-stop task fail at is = told (fault_code p.diagram (Some fail)) refl
    where
      told : (code : Option CommandCode) → fault_code p.diagram (Some fail) ≡ code → IsStopOf input (Need name) (stop_of_code code)
      told None same = tt
      told (Some code) same = refused-for code (code-of-failure p.diagram name task fail code at is same)

  written : (task : ℕ) → task_named p.diagram name ≡ Some task → need_fault p.diagram task ≡ None → (text : List ℕ) × Answers input (Need name) Ok text
  written task at none =
      let text = canonical_text (scenario_body accepted.doc.body p.diagram task) in
      (text, made text (of_plan (Need name) (a_scenario name) p text accepted refl (scenario_text name task at none)))

  refused-or-written : (task : Option ℕ) → task_named p.diagram name ≡ task → ((refusal : Refusal) → IsRefused input (Need name) refusal → ⊥) → (text : List ℕ) × Answers input (Need name) Ok text
  refused-or-written None none fits = absurd (fits (OfCommand NoTask) (refused-for NoTask (ap (code_of_task p.diagram) none)))
  refused-or-written (Some task) at fits = by_fault (need_fault p.diagram task) refl
    where
      told : (fault : NeedFail) (code : CommandCode) → need_fault p.diagram task ≡ Some fault → fault_code p.diagram (Some fault) ≡ Some code → (text : List ℕ) × Answers input (Need name) Ok text
      told fault code is same = absurd (fits (OfCommand code) (refused-for code (code-with p.diagram name task (Some fault) at is ∙ same)))

      by_fault : (fault : Option NeedFail) → need_fault p.diagram task ≡ fault → (text : List ℕ) × Answers input (Need name) Ok text
      by_fault None none = written task at none
      by_fault (Some need.NotFixed) is = told need.NotFixed NotFixed is refl
      by_fault (Some (need.NotOnEvents i)) is = told (need.NotOnEvents i) (NotOnEvents (task_at p.diagram i).name) is refl
      by_fault (Some (need.SharedEvent i)) is = told (need.SharedEvent i) (SharedEvent (task_at p.diagram i).name) is refl
      by_fault (Some (need.TooLong until)) is = told (need.TooLong until) TooLong is refl
      by_fault (Some need.NoMemory) is = absurd (no-memory-fault p.diagram task is)

  -- an input that isn't refused has the text of the scenario
  pub has-scenario : ((refusal : Refusal) → IsRefused input (Need name) refusal → ⊥) → (text : List ℕ) × Answers input (Need name) Ok text
  has-scenario = refused-or-written (task_named p.diagram name) refl

-- ---- the written text

-- the diagram is that of the document's body
pub diagram-of-body : (input : List ℕ) (p : Plan) (a : Accepts input p) → HasItemLines a.doc → IsCheckedDiagramOf a.doc.body p.diagram
diagram-of-body input p a each = record {
  lines = a.doc.lines;
  each = each;
  checked = subst (IsCheckedOf a.doc) (sym a.planned.diagram) a.checked;
}

-- what is written of a plan is the text of the scenario of the task
pub record IsScenarioOf (doc : Doc) (p : Plan) (name text : List ℕ) : Type 0 where
  pub task : ℕ
  pub named : task_named p.diagram name ≡ Some task
  pub faultless : need_fault p.diagram task ≡ None
  pub same : canonical_text (scenario_body doc.body p.diagram task) ≡ text

scenario-of-plan : (doc : Doc) (p : Plan) (name text : List ℕ) → PlanText doc p (a_scenario name) text → IsScenarioOf doc p name text
scenario-of-plan doc p name text (scenario_text name' task at none) = record { task = task; named = at; faultless = none; same = refl }

-- a text that `need` wrote of an input is that of its document and its plan
pub record IsScenarioIn (input name text : List ℕ) : Type 0 where
  pub plan : Plan
  pub accepted : Accepts input plan
  pub is : IsScenarioOf accepted.doc plan name text

scenario-of-input : (input name text : List ℕ) → Makes input (Need name) text → IsScenarioIn input name text
scenario-of-input input name text (of_body c make doc looked spelled) = absurd (not-text-and-plan c make looked refl)
scenario-of-input input name text (of_shape c t looked is) = absurd (not-shape-and-plan c looked refl)
scenario-of-input input name text (of_plan c output p t accepted looked is) = record {
  plan = p;
  accepted = accepted;
  is = scenario-of-plan accepted.doc p name t (subst (λ (o : Output). PlanText accepted.doc p o t) (one-output c output (a_scenario name) looked refl) is);
}

pub written-scenario : (input name text : List ℕ) → Answers input (Need name) Ok text → IsScenarioIn input name text
written-scenario input name text (made t makes) = scenario-of-input input name t makes
