-- What stands at the places of a plan's wiring.
use Rattle.std.proofs.Common.{◌≡◌, ℕ, zero, suc, ◌+◌, ◌*◌, ◌<◌, ◌≤◌, ◌^◌, max, true, List, [], ◌∷◌, length, slice_get, Some, filter, refl, sym, ap, ◌∙◌, arith, inl, inr}
use Rattle.std.specs.Prelude.{◌==◌}
use Rattle.std.specs.List.{fold}
use Rattle.std.proofs.lemmas.Bool.{cases_Bool, eq-eqb}
use Rattle.std.proofs.lemmas.List.FromFn.{length-map-range_with_len}
use Rattle.std.proofs.Math.Nat.{mul-le-mul_left}
use Rattle.std.proofs.lemmas.Option.{same_Some, slice_get_within, slice_get-get_or}
use Rattle.dbp_plan.specs.declared.diagram.Link.{Link}
use Rattle.dbp_plan.specs.declared.plan.Plan.{Plan}
use Rattle.dbp_plan.specs.declared.schedule.Sample.{Sample}
use Rattle.dbp_plan.specs.Occurrences.{occurrence_count}
use Rattle.dbp_plan.specs.Lookups.{link_at, no_link, declared_task, no_declared_task}
use Rattle.dbp_plan.specs.Samples.{own_samples}
use Rattle.dbp_plan.proofs.OwnSamples.{range-place}
use Rattle.dbp_slots.specs.Slots.{longest_delay}
use Rattle.release_list.specs.Releases.{releases_of}
use Rattle.release_list.proofs.Room.{released_few}
use Rattle.dbp_rules.specs.declared.step.Count.{Count}
use Rattle.dbp_rules.specs.Lookups.{no_task_wiring, wired_task}
use Rattle.dbp_rules.specs.Shapes.{HasSamples}
use Rattle.dbp_rules.specs.Wired.{task_wiring, wiring_of}
use Rattle.dbp_rules.proofs.Numbered.{length-made, made_or}

pub wired_tasks : (p : Plan) (count : Count) → length (wiring_of p count).tasks ≡ length p.diagram.tasks
wired_tasks p count = length-made (task_wiring p count) p.diagram.tasks

pub wired_is : (p : Plan) (count : Count) (i : ℕ) → i < length p.diagram.tasks → wired_task (wiring_of p count) i ≡ task_wiring p count (i, declared_task p i)
wired_is p count i below = made_or (task_wiring p count) p.diagram.tasks i no_declared_task no_task_wiring below

-- ---- delays

most_from : (from : ℕ) (links : List Link) → from ≤ fold (λ most l. max most l.delay) from links
most_from from [] = omega arith
most_from from (l ∷ links) = omega (arith, most_from (max from l.delay) links)

most_of : (from w k : ℕ) (links : List Link) (l : Link) → slice_get links k ≡ Some l → l.writer ≡ w → l.delay ≤ fold (λ most m. max most m.delay) from (filter (λ m. m.writer == w) links)
most_of from w k [] l at is = absurd (cc (at))
most_of from w zero (m ∷ links) l at is =
    let same : m ≡ l = same_Some m l at in
    let own : (m.writer == w) ≡ true = eq-eqb m.writer w (ap (λ (x : Link). x.writer) same ∙ is) in
    let delay : m.delay ≡ l.delay = ap (λ (x : Link). x.delay) same in
    rw own (omega (arith, most_from (max from m.delay) (filter (λ m. m.writer == w) links)))
most_of from w (suc k) (m ∷ links) l at is =
    elim (cases_Bool (m.writer == w)) [
      | inl own ↦ rw own (most_of (max from m.delay) w k links l at is)
      | inr other ↦ rw other (most_of from w k links l at is)
    ]

-- a link's delay is among those that its writer keeps slots for
pub delay_kept : (links : List Link) (k : ℕ) → k < length links → (link_at links k).delay ≤ longest_delay links (link_at links k).writer
delay_kept links k below = most_of 0 (link_at links k).writer k links (link_at links k) (slice_get-get_or links k no_link below) refl

-- ---- samples and releases

pub samples_wired : (p : Plan) (count : Count) → HasSamples p (wiring_of p count).samples
samples_wired p count = record {
  size = length-map-range_with_len of_input 0 (length p.diagram.inputs);
  each = λ x own at.
      let inside : x < length p.diagram.inputs = omega (arith, slice_get_within (wiring_of p count).samples x own at, length-map-range_with_len of_input 0 (length p.diagram.inputs)) in
      same_Some own (own_samples x p.samples) (sym at ∙ range-place of_input (length p.diagram.inputs) x inside);
}
  where
    of_input : ℕ → List Sample
    of_input input = own_samples input p.samples

pub releases_few : (p : Plan) → length (releases_of p.diagram.links p.batches) + 1 < 2 ^ 32
releases_few p =
    let links : length p.diagram.links + 2 ≤ 130 = omega (arith, p.rules.ranked.closed.links) in
    let few : occurrence_count p.batches ≤ 100000 = omega (arith, p.rules.few) in
    let first : occurrence_count p.batches * (length p.diagram.links + 2) ≤ occurrence_count p.batches * 130 = mul-le-mul_left (occurrence_count p.batches) links in
    omega (arith, released_few p.diagram.links p.batches)
