use Rattle.std.proofs.Common.{◌≡◌, None, sym, subst}
use Rattle.dbp_plan.specs.declared.plan.Plan.{Plan}
use Rattle.dia_read.specs.declared.document.Body.{Body}
use Rattle.dia_read.specs.Canonical.{canonical_text}
use Rattle.dia_read.specs.Printable.{IsPrintable}
use Rattle.trace_io.specs.Texts.{Accepts}
use Rattle.slot_need.specs.Bodies.{IsScenario, scenario_body}
use Rattle.slot_need.specs.Faults.{need_fault}
use Rattle.slot_need.specs.Live.{NeedsAllSlots}
use Rattle.slot_need.specs.Scenarios.{last_firing}
use Rattle.slot_need.proofs.Accepted.{accepted, printable-again, ranked-diagram}
use Rattle.slot_need.proofs.Outcomes.{of-ok}
use Rattle.slot_need.proofs.document.need.Goals as goal

pub scenario_body-requires-clause-ranked : goal.scenario_body-requires-clause-ranked
scenario_body-requires-clause-ranked c = ranked-diagram c.args.body c.args.diagram.now c.requires.diagram c.requires.printable

pub returns-clause-printable : goal.returns-clause-printable
returns-clause-printable c =
    let d = c.args.diagram.now in
    let w = c.args.task in
    of-ok (λ (written : Body). written ≡ scenario_body c.args.body d w) IsPrintable (need_fault d w ≡ None) c.scenario_body.result
    (λ none written is. subst IsPrintable (sym is) (printable-again c.canonical_text_spells.ensures c.each_item_has_a_line.ensures c.args.body d w c.requires.diagram c.requires.printable c.requires.task none))
    c.scenario_body.ensures.fit c.scenario_body.ensures.body

pub returns-clause-accepted : goal.returns-clause-accepted
returns-clause-accepted c =
    let d = c.args.diagram.now in
    let w = c.args.task in
    of-ok (λ (written : Body). written ≡ scenario_body c.args.body d w) (λ written. (p : Plan) × Accepts (canonical_text written) p × IsScenario d w p × NeedsAllSlots p w (last_firing d w)) (need_fault d w ≡ None) c.scenario_body.result
    (λ none written is. subst (λ (other : Body). (p : Plan) × Accepts (canonical_text other) p × IsScenario d w p × NeedsAllSlots p w (last_firing d w)) (sym is)
    (accepted c.canonical_text_spells.ensures c.each_item_has_a_line.ensures c.args.body d w c.requires.diagram c.requires.printable c.requires.task none c.each_plan_has_one_service.ensures.there))
    c.scenario_body.ensures.fit c.scenario_body.ensures.body
