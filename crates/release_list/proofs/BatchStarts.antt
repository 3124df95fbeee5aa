-- Where each batch begins in the releaser's list, and what stands there.
use Rattle.std.proofs.Common.{◌≡◌, ℕ, zero, suc, ◌+◌, ◌<◌, ◌≤◌, List, [], ◌∷◌, ◌++◌, length, take, drop, map, Some, refl, sym, ap, ◌∙◌, arith, append_assoc, length-append}
use Rattle.std.specs.Prelude.{count_by, slice_get}
use Rattle.std.specs.List.Sorted.{IsStrictlyIncreasing}
use Rattle.std.proofs.Math.Seq.{take-append-add}
use Rattle.std.proofs.lemmas.List.{length-map, length-take-le, take-append-drop, take-append-le, take_all, take_at}
use Rattle.std.proofs.lemmas.List.Concat.{flat_map-append}
use Rattle.std.proofs.lemmas.List.Elements.{All-take}
use Rattle.std.proofs.lemmas.Option.{same_Some, slice_get-map, slice_get_within}
use Rattle.dbp_plan.specs.declared.diagram.Link.{Link}
use Rattle.dbp_plan.specs.declared.schedule.Batch.{Batch}
use Rattle.dbp_plan.specs.Lookups.{link_at}
use Rattle.dbp_plan.specs.Occurrences.{times_of}
use Rattle.dbp_plan.specs.ListItems.{after_place, front_place}
use Rattle.release_list.specs.declared.release.Release.{Release}
use Rattle.release_list.specs.declared.release.Release.TheVariants.{Aim, OpenGate}
use Rattle.release_list.specs.Releases.{batch_start, claims_of, releases_at, releases_of}
use Rattle.release_list.specs.Schedule.{is_aim, is_claim, is_open, aims, claims, opens}
use Rattle.release_list.proofs.Located.{Located, Once, every_aim, every_claim, every_open}

module _ (links : List Link) (bs : List Batch) where
  abbrev list : List Release
  list = releases_of links bs

  -- the list is cut at a batch's start

  cut_before : (number : ℕ) → list ≡ releases_of links (take number bs) ++ releases_of links (drop number bs)
  cut_before number = ap (releases_of links) (sym (take-append-drop number bs)) ∙ flat_map-append (releases_at links) (take number bs) (drop number bs)

  pub before_start : (number : ℕ) → take (batch_start links bs number) list ≡ releases_of links (take number bs)
  before_start number =
      ap (take (batch_start links bs number)) (cut_before number)
      ∙ take_at (releases_of links (take number bs)) (releases_of links (drop number bs)) (batch_start links bs number) refl

  pub start_within : (number : ℕ) → batch_start links bs number ≤ length list
  start_within number = omega (arith, ap length (cut_before number), length-append (releases_of links (take number bs)) (releases_of links (drop number bs)))

  -- after the last batch the whole list has gone by
  pub start_at_end : (number : ℕ) → length bs ≤ number → batch_start links bs number ≡ length list
  start_at_end number past = ap (λ (l : List Batch). length (releases_of links l)) (take_all number bs past)

-- a batch's actions, and those before and after it
cut_at : (links : List Link) (bs : List Batch) (number : ℕ) (b : Batch) → slice_get bs number ≡ Some b
    → releases_of links bs ≡ releases_of links (take number bs) ++ (releases_at links b ++ releases_of links (drop (suc number) bs))
cut_at links [] number b there = absurd cc
cut_at links (a ∷ bs) zero b there = ap (λ x. releases_at links x ++ releases_of links bs) (same_Some a b there)
cut_at links (a ∷ bs) (suc number) b there =
    ap (λ l. releases_at links a ++ l) (cut_at links bs number b there)
    ∙ sym (append_assoc (releases_at links a) (releases_of links (take number bs)) (releases_at links b ++ releases_of links (drop (suc number) bs)))

start_after : (links : List Link) (bs : List Batch) (number : ℕ) (b : Batch) → slice_get bs number ≡ Some b → batch_start links bs (suc number) ≡ batch_start links bs number + length (releases_at links b)
start_after links [] number b there = absurd cc
start_after links (a ∷ bs) zero b there =
    let same : length (releases_at links a) ≡ length (releases_at links b) = ap (λ x. length (releases_at links x)) (same_Some a b there) in
    omega (arith, same, length-append (releases_at links a) [])
start_after links (a ∷ bs) (suc number) b there =
    omega
    (arith, start_after links bs number b there, length-append (releases_at links a) (releases_of links (take (suc number) bs)), length-append (releases_at links a) (releases_of links (take number bs)))

-- a batch begins where the one before it ends
pub start_next : (links : List Link) (bs : List Batch) (number : ℕ) (b : Batch) → slice_get bs number ≡ Some b → batch_start links bs (number + 1) ≡ batch_start links bs number + length (releases_at links b)
start_next links bs number b there =
    let next : number + 1 ≡ suc number = omega arith in
    ap (batch_start links bs) next ∙ start_after links bs number b there

module _ (links : List Link) (bs : List Batch) (number : ℕ) (b : Batch) (there : slice_get bs number ≡ Some b) where
  abbrev batch : List Release
  batch = releases_at links b

  abbrev front : List Release
  front = releases_of links (take number bs)

  abbrev rest : List Release
  rest = releases_of links (drop (suc number) bs)

  pub item_of_batch : (inside : ℕ) (action : Release) → slice_get batch inside ≡ Some action → slice_get (releases_of links bs) (batch_start links bs number + inside) ≡ Some action
  item_of_batch inside action item =
      ap (λ l. slice_get l (batch_start links bs number + inside)) (cut_at links bs number b there)
      ∙ after_place front (batch ++ rest) inside
      ∙ front_place batch rest inside (slice_get_within batch inside action item)
      ∙ item

  pub before_item : (inside : ℕ) → inside ≤ length batch → take (batch_start links bs number + inside) (releases_of links bs) ≡ front ++ take inside batch
  before_item inside within =
      ap (take (batch_start links bs number + inside)) (cut_at links bs number b there)
      ∙ take-append-add front (batch ++ rest) inside
      ∙ ap (λ l. front ++ l) (take-append-le inside batch rest within)

  -- the other way round of `locate`
  pub located : (inside : ℕ) (action : Release) → slice_get batch inside ≡ Some action → Located links bs (batch_start links bs number + inside) action
  located inside action item = record {
    number = number;
    batch = b;
    there = there;
    inside = inside;
    item = item;
    before = before_item inside (omega (arith, slice_get_within batch inside action item));
  }

-- and the index of what was located
pub located_at : (links : List Link) (bs : List Batch) (index : ℕ) (action : Release) → slice_get (releases_of links bs) index ≡ Some action → (at : Located links bs index action)
    → index ≡ batch_start links bs at.number + at.inside
located_at links bs index action here at =
    let list = releases_of links bs in
    let batch = releases_at links at.batch in
    let before : length (take index list) ≡ index = length-take-le index list (omega (arith, slice_get_within list index action here)) in
    let own : length (take at.inside batch) ≡ at.inside = length-take-le at.inside batch (omega (arith, slice_get_within batch at.inside action at.item)) in
    omega (arith, ap length at.before, length-append (releases_of links (take at.number bs)) (take at.inside batch))

-- how often a task was aimed and opened and a link claimed, where a batch begins
module _ (links : List Link) (bs : List Batch) (once : Once bs) (number : ℕ) where
  once_before : Once (take number bs)
  once_before = All-take (λ (b : Batch). IsStrictlyIncreasing b.tasks) number bs once

  pub aims_at_start : (i : ℕ) → aims (releases_of links bs) (batch_start links bs number) i ≡ length (times_of (take number bs) i)
  aims_at_start i = ap (count_by (is_aim i)) (before_start links bs number) ∙ every_aim links (take number bs) i once_before

  pub claims_at_start : (k : ℕ) → k < length links → claims (releases_of links bs) (batch_start links bs number) k ≡ length (times_of (take number bs) (link_at links k).reader)
  claims_at_start k below = ap (count_by (is_claim k)) (before_start links bs number) ∙ every_claim links (take number bs) k below once_before

  pub opens_at_start : (i : ℕ) → opens (releases_of links bs) (batch_start links bs number) i ≡ length (times_of (take number bs) i)
  opens_at_start i = ap (count_by (is_open i)) (before_start links bs number) ∙ every_open links (take number bs) i once_before

-- a batch's actions: its aims, then its claims, then its opens
module _ (links : List Link) (b : Batch) where
  pub length-releases_at : length (releases_at links b) ≡ length b.tasks + length (claims_of links b.tasks) + length b.tasks
  length-releases_at =
      omega
      (arith, length-append (map Aim b.tasks) (claims_of links b.tasks ++ map OpenGate b.tasks), length-append (claims_of links b.tasks) (map OpenGate b.tasks), length-map b.tasks Aim, length-map b.tasks OpenGate)

  pub aim_of_batch : (n i : ℕ) → slice_get b.tasks n ≡ Some i → slice_get (releases_at links b) n ≡ Some (Aim i)
  aim_of_batch n i item =
      front_place (map Aim b.tasks) (claims_of links b.tasks ++ map OpenGate b.tasks) n (omega (arith, length-map b.tasks Aim, slice_get_within b.tasks n i item))
      ∙ slice_get-map Aim b.tasks n ∙ rw item refl

  pub claim_of_batch : (n : ℕ) (action : Release) → slice_get (claims_of links b.tasks) n ≡ Some action → slice_get (releases_at links b) (length b.tasks + n) ≡ Some action
  claim_of_batch n action item =
      ap (λ m. slice_get (releases_at links b) (m + n)) (sym (length-map b.tasks Aim))
      ∙ after_place (map Aim b.tasks) (claims_of links b.tasks ++ map OpenGate b.tasks) n
      ∙ front_place (claims_of links b.tasks) (map OpenGate b.tasks) n (slice_get_within (claims_of links b.tasks) n action item)
      ∙ item

  pub open_of_batch : (n i : ℕ) → slice_get b.tasks n ≡ Some i → slice_get (releases_at links b) (length b.tasks + (length (claims_of links b.tasks) + n)) ≡ Some (OpenGate i)
  open_of_batch n i item =
      ap (λ m. slice_get (releases_at links b) (m + (length (claims_of links b.tasks) + n))) (sym (length-map b.tasks Aim))
      ∙ after_place (map Aim b.tasks) (claims_of links b.tasks ++ map OpenGate b.tasks) (length (claims_of links b.tasks) + n)
      ∙ after_place (claims_of links b.tasks) (map OpenGate b.tasks) n
      ∙ slice_get-map OpenGate b.tasks n ∙ rw item refl
