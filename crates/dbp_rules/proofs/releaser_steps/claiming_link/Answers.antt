-- The links that leave the task are those that can claim the slot.
use Rattle.std.proofs.Common.{◌≡◌, ℕ, List, length, refl, ap, sym, ◌∙◌, arith}
use Rattle.std.specs.Prelude.{◌==◌}
use Rattle.std.proofs.lemmas.Bool.{and_parts}
use Rattle.std.proofs.lemmas.List.{take_all}
use Rattle.std.specs.List.{find}
use Rattle.dbp_rules.specs.Lookups.{link, wired_task}
use Rattle.dbp_rules.specs.PartyRules as rule
use Rattle.dbp_rules.specs.Wired.{links_at}
use Rattle.dbp_rules.specs.declared.parts.ReleaserPart.{ReleaserPart}
use Rattle.dbp_rules.specs.declared.wiring.LinkEnd.TheVariants.{Writer}
use Rattle.dbp_rules.specs.declared.wiring.TaskWiring.{TaskWiring}
use Rattle.dbp_rules.specs.declared.wiring.Wiring.{Wiring}
use Rattle.dbp_rules.proofs.IntoTask.{leaving_below}
use Rattle.dbp_rules.proofs.Searches.{find_among, find_at, find_past}
use Rattle.dbp_rules.proofs.releaser_steps.claiming_link.Goals as goal

-- the items of the loop are the links that leave the task
leaving : (w : Wiring) (i : ℕ) (t : TaskWiring) (items : List ℕ) → items ≡ t.leaving → t ≡ wired_task w i → (wired_task w i).leaving ≡ links_at Writer w.links i → items ≡ links_at Writer w.links i
leaving w i t items own is all = own ∙ ap (λ (x : TaskWiring). x.leaving) is ∙ all

-- the first of them that claims the slot is the least link that does
least : (w : Wiring) (r : ReleaserPart) (i slot : ℕ) (items : List ℕ) → items ≡ links_at Writer w.links i → find (rule.claims_slot_in w r i slot) items ≡ rule.least (rule.claims_slot_in w r i slot) (length w.links)
least w r i slot items is =
    ap (find (rule.claims_slot_in w r i slot)) is
    ∙ find_among (λ k. (link w k).writer == i) (rule.claims_slot_in w r i slot) (length w.links) (λ k claims. (and_parts ((link w k).writer == i) _ claims).0)

pub loop-k-init : goal.loop-k-init
loop-k-init c = refl

pub claims_slot-requires-clause-link : goal.claims_slot-requires-clause-link
claims_slot-requires-clause-link c =
    leaving_below c.args.wiring.now c.args.i c.loop-k.k-index c.items-k-items.result.now (leaving c.args.wiring.now c.args.i c.task.result.now c.items-k-items.result.now c.items-k-items.ensures.value c.task.ensures (c.requires.links.leaving c.args.i c.requires.task)) c.loop-k-test.true

pub returns-then-claims_slot : goal.returns-then-claims_slot
returns-then-claims_slot c =
    let w = c.args.wiring.now in
    let items = c.items-k-items.result.now in
    sym (find_at (rule.claims_slot_in w c.args.part.now c.args.i c.args.slot) items c.loop-k.k-index c.loop-k-test.true c.loop-k.invariant (sym c.claims_slot.ensures ∙ c.if-claims_slot.true))
    ∙ least w c.args.part.now c.args.i c.args.slot items (leaving w c.args.i c.task.result.now items c.items-k-items.ensures.value c.task.ensures (c.requires.links.leaving c.args.i c.requires.task))

pub loop-k-preserved : goal.loop-k-preserved
loop-k-preserved c =
    find_past (rule.claims_slot_in c.args.wiring.now c.args.part.now c.args.i c.args.slot) c.items-k-items.result.now c.loop-k.k-index c.loop-k-test.true c.loop-k.invariant (sym c.claims_slot.ensures ∙ c.if-claims_slot.false)

pub returns : goal.returns
returns c =
    let w = c.args.wiring.now in
    let items = c.items-k-items.result.now in
    let all = take_all c.loop-k.k-index items (omega arith) in
    sym (sym (ap (find (rule.claims_slot_in w c.args.part.now c.args.i c.args.slot)) all) ∙ c.loop-k.invariant)
    ∙ least w c.args.part.now c.args.i c.args.slot items (leaving w c.args.i c.task.result.now items c.items-k-items.ensures.value c.task.ensures (c.requires.links.leaving c.args.i c.requires.task))
