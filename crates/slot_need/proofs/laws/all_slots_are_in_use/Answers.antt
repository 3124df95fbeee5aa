use Rattle.dbp_plan.specs.Table.{table_row}
use Rattle.dbp_rules.specs.declared.step.Count.TheVariants.{Ranked}
use Rattle.dbp_rules.specs.Wired.{wiring_of}
use Rattle.slot_need.proofs.FullSlots.{Laws, all-used}
use Rattle.slot_need.proofs.laws.all_slots_are_in_use.Goals as goal

pub returns : goal.returns
returns c =
    let laws : Laws = record {
      spells = c.canonical_text_spells.ensures;
      lines = c.each_item_has_a_line.ensures;
      serves = c.each_plan_has_one_service.ensures.there;
      one = c.one_plan.ensures.one;
      stands = c.a_record_stands_after_each_batch.ensures.there;
      leads = λ p. c.played_steps_are_allowed.ensures.leads p (wiring_of p Ranked);
      means = c.some_meaning.ensures;
      sound = λ p. c.allowed_steps_lead_to_sound_states.ensures p Ranked;
      parts = λ p table. c.soundness_has_ten_parts.ensures.parts p Ranked (table_row table);
    } in
    all-used laws
