-- The releaser's actions of a batch, task by task.
use Rattle.std.proofs.Common.{◌≡◌, ◌≢◌, ℕ, zero, suc, ◌+◌, ◌<◌, true, false, List, [], ◌∷◌, ◌++◌, length, map, get_or, slice_get, take, drop, Some, refl, sym, ap, ◌∙◌, arith, inl, inr, drop-cons}
use Rattle.std.specs.Prelude.{◌==◌}
use Rattle.std.specs.List.{flat_map}
use Rattle.std.specs.List.Sorted.{IsStrictlyIncreasing}
use Rattle.std.proofs.lemmas.Bool.{cases_Bool, eq-eqb}
use Rattle.std.proofs.lemmas.List.{append-nil, take-append-drop, take_more, length-map, map-append}
use Rattle.std.proofs.lemmas.List.Concat.{flat_map-append, flat_map-cons}
use Rattle.std.proofs.lemmas.List.Folds.{list_any_at}
use Rattle.std.proofs.lemmas.List.Kept.{AllPairs-from_increasing}
use Rattle.std.proofs.lemmas.Option.{slice_get-get_or, slice_get-map}
use Rattle.std.proofs.Math.ListN.{get_or-map}
use Rattle.dbp_plan.specs.declared.diagram.Link.{Link}
use Rattle.dbp_plan.specs.declared.schedule.Batch.{Batch}
use Rattle.dbp_plan.specs.Occurrences.{names, time_of, times_of}
use Rattle.dbp_plan.specs.ListItems.{after_place, front_place}
use Rattle.release_list.specs.declared.release.Release.{Release}
use Rattle.release_list.specs.declared.release.Release.TheVariants as release
use Rattle.release_list.specs.Releases.{batch_start, claims_into, claims_of, links_into, releases_at}
use Rattle.release_list.proofs.BatchStarts.{aim_of_batch, claim_of_batch, item_of_batch, open_of_batch}
use Rattle.dbp_rules.specs.declared.wiring.Wiring.{Wiring}
use Rattle.instance_steps.specs.Recorders.{plan_in, wiring_in}
use Rattle.instance_steps.specs.Releases.{batch_at, no_batch}
use Rattle.instance_steps.specs.declared.recorder.Recorder.{Recorder}

-- ---- lists

-- what a function makes of one item more
pub map_more : {X : Type 0} (f : ℕ → X) (xs : List ℕ) (n : ℕ) → n < length xs → map f (take (n + 1) xs) ≡ map f (take n xs) ++ f (get_or xs n 0) ∷ []
map_more f xs n below = ap (map f) (take_more xs n 0 below) ∙ map-append f (take n xs) (get_or xs n 0 ∷ [])

-- a batch names each of its tasks, and no other
pub names_task : (b : Batch) (n : ℕ) → n < length b.tasks → names (get_or b.tasks n 0) b ≡ true
names_task b n below = list_any_at (λ k. k == get_or b.tasks n 0) b.tasks n 0 below (eq-eqb (get_or b.tasks n 0) (get_or b.tasks n 0) refl)

pub unnamed_task : (b : Batch) (j m : ℕ) → names j b ≡ false → m < length b.tasks → get_or b.tasks m 0 ≢ j
unnamed_task b j m not_ below = λ same.
    let is : names j b ≡ true = list_any_at (λ k. k == j) b.tasks m 0 below (eq-eqb (get_or b.tasks m 0) j same) in
    absurd (cc (is, not_))

-- the tasks before a place are others
pub earlier_task : (tasks : List ℕ) (m n : ℕ) → IsStrictlyIncreasing tasks → m < n → n < length tasks → get_or tasks m 0 ≢ get_or tasks n 0
earlier_task tasks m n rising less below = λ same. let before : get_or tasks m 0 < get_or tasks n 0 = AllPairs-from_increasing tasks rising m n 0 less below in absurd (omega arith)

-- a list cut at a place
pub cut_there : (xs : List ℕ) (n : ℕ) → n < length xs → xs ≡ take n xs ++ (get_or xs n 0 ∷ drop (suc n) xs)
cut_there xs n below = sym (take-append-drop n xs) ∙ ap (λ (l : List ℕ). take n xs ++ l) (drop-cons xs n 0 below)

-- the lists of the first tasks, with one task more
pub listed_more : {X : Type 0} (f : ℕ → List X) (xs : List ℕ) (n : ℕ) → n < length xs → flat_map f (take (n + 1) xs) ≡ flat_map f (take n xs) ++ f (get_or xs n 0)
listed_more {X} f xs n below =
    let last : flat_map f (get_or xs n 0 ∷ []) ≡ f (get_or xs n 0) = flat_map-cons f (get_or xs n 0) [] ∙ append-nil (f (get_or xs n 0)) in
    ap (flat_map f) (take_more xs n 0 below) ∙ flat_map-append f (take n xs) (get_or xs n 0 ∷ []) ∙ ap (λ (l : List X). flat_map f (take n xs) ++ l) last

-- ---- the first instance

-- a task that batches before this one name first occurs before it
pub first_before : (bs : List Batch) (number i time : ℕ) → ((k : ℕ) → k < number → k < length bs → (get_or bs k no_batch).time < time) → 0 < length (times_of (take number bs) i) → time_of bs i 1 < time
first_before [] zero i time before some = absurd (omega arith)
first_before [] (suc number) i time before some = absurd (omega arith)
first_before (b ∷ bs) zero i time before some = absurd (omega arith)
first_before (b ∷ bs) (suc number) i time before some = elim (cases_Bool (names i b)) [
  | inl named ↦ rw named (before 0 (omega arith) (omega arith))
  | inr not_ ↦
      let some_ : 0 < length (times_of (take number bs) i) = rw not_ at some in
      let rest : time_of bs i 1 < time = first_before bs number i time (λ k less inside. before (suc k) (omega arith) (omega arith)) some_ in
      rw not_ rest
]

-- a task that no batch before this one names occurs first in it, if it names the task
pub first_here : (bs : List Batch) (number i : ℕ) → number < length bs → names i (get_or bs number no_batch) ≡ true → length (times_of (take number bs) i) ≡ 0 → time_of bs i 1 ≡ (get_or bs number no_batch).time
first_here [] number i there named none = absurd (omega arith)
first_here (b ∷ bs) zero i there named none = rw named refl
first_here (b ∷ bs) (suc number) i there named none = elim (cases_Bool (names i b)) [
  | inl also ↦ let some : suc (length (times_of (take number bs) i)) ≡ 0 = rw also at none in absurd (omega (arith, some))
  | inr not_ ↦
      let none_ : length (times_of (take number bs) i) ≡ 0 = rw not_ at none in
      rw not_ (first_here bs number i (omega arith) named none_)
]

-- ---- the actions

module _ (a : Recorder) (number : ℕ) (there : number < length (plan_in a).batches) where
  abbrev pub batch_of : Batch
  batch_of = batch_at (plan_in a) number

  pub batch_there : slice_get (plan_in a).batches number ≡ Some (batch_at (plan_in a) number)
  batch_there = slice_get-get_or (plan_in a).batches number no_batch there

  pub batch_rises : IsStrictlyIncreasing (batch_at (plan_in a) number).tasks
  batch_rises = (plan_in a).rules.in_order number no_batch there

  pub task_named : (n : ℕ) → n < length (batch_at (plan_in a) number).tasks → get_or (batch_at (plan_in a) number).tasks n 0 < length (plan_in a).diagram.tasks
  task_named n below = (plan_in a).rules.named number no_batch there n 0 below

  -- batches before this one are earlier
  pub batches_before : (k : ℕ) → k < number → (get_or (plan_in a).batches k no_batch).time < (batch_at (plan_in a) number).time
  batches_before k less =
      let times : List ℕ = map (λ b. b.time) (plan_in a).batches in
      let size : length (map (λ (b : Batch). b.time) (plan_in a).batches) ≡ length (plan_in a).batches = length-map (plan_in a).batches (λ b. b.time) in
      let pair : get_or times k 0 < get_or times number 0 = AllPairs-from_increasing times (plan_in a).rules.rising k number 0 less (omega arith) in
      omega (arith, pair, get_or-map (λ (b : Batch). b.time) (plan_in a).batches k no_batch, get_or-map (λ (b : Batch). b.time) (plan_in a).batches number no_batch)

  listed : (index : ℕ) (action : Release) → slice_get (releases_at (plan_in a).diagram.links (batch_at (plan_in a) number)) index ≡ Some action
      → slice_get (wiring_in a).releases (batch_start (plan_in a).diagram.links (plan_in a).batches number + index) ≡ Some action
  listed index action is =
      ap (λ (w : Wiring). slice_get w.releases (batch_start (plan_in a).diagram.links (plan_in a).batches number + index)) a.core.wired
      ∙ item_of_batch (plan_in a).diagram.links (plan_in a).batches number (batch_at (plan_in a) number) batch_there index action is

  task_at : (n : ℕ) → n < length (batch_at (plan_in a) number).tasks → slice_get (batch_at (plan_in a) number).tasks n ≡ Some (get_or (batch_at (plan_in a) number).tasks n 0)
  task_at n below = slice_get-get_or (batch_at (plan_in a) number).tasks n 0 below

  pub aim_listed : (n : ℕ) → n < length (batch_at (plan_in a) number).tasks
      → slice_get (wiring_in a).releases (batch_start (plan_in a).diagram.links (plan_in a).batches number + n) ≡ Some (release.Aim (get_or (batch_at (plan_in a) number).tasks n 0))
  aim_listed n below = listed n _ (aim_of_batch (plan_in a).diagram.links (batch_at (plan_in a) number) n _ (task_at n below))

  pub open_listed : (n : ℕ) → n < length (batch_at (plan_in a) number).tasks
      → slice_get (wiring_in a).releases (batch_start (plan_in a).diagram.links (plan_in a).batches number + (length (batch_at (plan_in a) number).tasks + (length (claims_of (plan_in a).diagram.links (batch_at (plan_in a) number).tasks) + n)))
      ≡ Some (release.OpenGate (get_or (batch_at (plan_in a) number).tasks n 0))
  open_listed n below = listed _ _ (open_of_batch (plan_in a).diagram.links (batch_at (plan_in a) number) n _ (task_at n below))

  -- the claims of the task at this place
  claim_item : (tasks : List ℕ) (n j : ℕ) → n < length tasks → j < length (links_into (plan_in a).diagram.links (get_or tasks n 0))
      → slice_get (claims_of (plan_in a).diagram.links tasks) (length (claims_of (plan_in a).diagram.links (take n tasks)) + j) ≡ Some (release.Claim (get_or (links_into (plan_in a).diagram.links (get_or tasks n 0)) j 0))
  claim_item tasks n j below inside =
      let links : List Link = (plan_in a).diagram.links in
      let i : ℕ = get_or tasks n 0 in
      let before : List Release = claims_of links (take n tasks) in
      let rest : List Release = claims_of links (drop (suc n) tasks) in
      let own : List Release = claims_into links i in
      let cut : claims_of (plan_in a).diagram.links tasks ≡ claims_of (plan_in a).diagram.links (take n tasks) ++ (claims_into (plan_in a).diagram.links (get_or tasks n 0) ++ claims_of (plan_in a).diagram.links (drop (suc n) tasks)) =
      ap (claims_of links) (cut_there tasks n below) ∙ flat_map-append (claims_into links) (take n tasks) (i ∷ drop (suc n) tasks)
      ∙ ap (λ (l : List Release). claims_of links (take n tasks) ++ l) (flat_map-cons (claims_into links) i (drop (suc n) tasks)) in
      let size : length (claims_into (plan_in a).diagram.links (get_or tasks n 0)) ≡ length (links_into (plan_in a).diagram.links (get_or tasks n 0)) = length-map (links_into links i) release.Claim in
      let item : slice_get (links_into (plan_in a).diagram.links (get_or tasks n 0)) j ≡ Some (get_or (links_into (plan_in a).diagram.links (get_or tasks n 0)) j 0) = slice_get-get_or (links_into links i) j 0 inside in
      ap (λ (l : List Release). slice_get l (length before + j)) cut
      ∙ after_place before (own ++ rest) j
      ∙ front_place own rest j (omega (arith, size, inside))
      ∙ slice_get-map release.Claim (links_into links i) j
      ∙ rw item refl

  pub claim_listed : (n j : ℕ) → n < length (batch_at (plan_in a) number).tasks → j < length (links_into (plan_in a).diagram.links (get_or (batch_at (plan_in a) number).tasks n 0))
      → slice_get (wiring_in a).releases (batch_start (plan_in a).diagram.links (plan_in a).batches number + (length (batch_at (plan_in a) number).tasks + (length (claims_of (plan_in a).diagram.links (take n (batch_at (plan_in a) number).tasks)) + j)))
      ≡ Some (release.Claim (get_or (links_into (plan_in a).diagram.links (get_or (batch_at (plan_in a) number).tasks n 0)) j 0))
  claim_listed n j below inside =
      listed _ _ (claim_of_batch (plan_in a).diagram.links (batch_at (plan_in a) number) _ _ (claim_item (batch_at (plan_in a) number).tasks n j below inside))
