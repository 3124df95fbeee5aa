use Rattle.std.proofs.Common.{◌≡◌, ℕ, List, Some, subst}
use Rattle.dbp_plan.specs.declared.plan.Plan.{Plan}
use Rattle.dbp_replay.specs.StepForms.{task_named}
use Rattle.dbp_replay.proofs.There.{named-below}
use Rattle.slot_need.specs.Bodies.{IsScenario}
use Rattle.slot_need.specs.Live.{NeedsAllSlots}
use Rattle.slot_need.specs.Scenarios.{last_firing}
use Rattle.slot_need.proofs.Accepted.{accepted}
use Rattle.trace_io.specs.Texts.{Accepts}
use Rattle.dbp_answers.proofs.ScenarioLaws.{diagram-of-body, written-scenario}
use Rattle.dbp_answers.proofs.laws.a_scenario_is_accepted.Goals as goal

pub returns : goal.returns
returns c = λ input name text plan also written.
    let found = written-scenario input name text written in
    let p = found.plan in
    let doc = found.accepted.doc in
    let task = found.is.task in
    let of = diagram-of-body input p found.accepted (c.each_item_has_a_line.ensures input doc found.accepted.spelled) in
    let printable = c.a_document_can_be_printed.ensures input doc found.accepted.spelled in
    let holds = accepted c.canonical_text_spells.ensures c.each_item_has_a_line.ensures doc.body p.diagram task of printable (named-below p.diagram name task found.is.named) found.is.faultless c.each_plan_has_one_service.ensures.there in
    let P : Plan → List ℕ → Type 0 = λ q l. (i : ℕ) × (task_named q.diagram name ≡ Some i) × ((r : Plan) × Accepts l r × IsScenario q.diagram i r × NeedsAllSlots r i (last_firing q.diagram i)) in
    subst (λ (q : Plan). P q text) (c.one_plan.ensures.one input p plan found.accepted also) (subst (P p) found.is.same (task, found.is.named, holds))
