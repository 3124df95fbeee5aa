-- A slot is free for each aim: claimed and kept slots are fewer than a task's slots.
use Rattle.std.proofs.Common.{◌≡◌, ◌≢◌, ℕ, zero, suc, ◌+◌, ◌<◌, ◌≤◌, ◌⊎◌, Bool, true, false, cond, Contains, List, [], ◌∷◌, length, map, get_or, Some, refl, sym, ◌∙◌, ap, subst, arith, inl, inr}
use Rattle.std.specs.Prelude.{count_by, filter, nat_lt, slice_get, ◌==◌, ◌||◌}
use Rattle.std.specs.List.{list_any, range_with_len}
use Rattle.std.proofs.lemmas.Bool.{and_parts, cases_Bool, cases_lt, eq-eqb, eqb-true, lt-ltb, ltb-true}
use Rattle.std.proofs.lemmas.List.{length-map, length-take-le}
use Rattle.std.proofs.lemmas.List.Folds.{list_any_at}
use Rattle.std.proofs.lemmas.List.Sums.{length-filter}
use Rattle.std.proofs.Math.Bool.{or-true}
use Rattle.dbp_plan.specs.declared.plan.Plan.{Plan}
use Rattle.dbp_plan.specs.Lookups.{link_at, no_link}
use Rattle.dbp_slots.proofs.FreeSlots.{one_free}
use Rattle.dbp_slots.specs.FreeSlot.{IsLeastFree}
use Rattle.dbp_slots.specs.Slots.{counts_of, is_to_higher, is_to_lower}
use Rattle.dbp_plan.proofs.Counts.{count-cons}
use Rattle.release_list.specs.declared.release.Release.TheVariants as release
use Rattle.dbp_rules.specs.PartyRules as rule
use Rattle.dbp_rules.specs.PartyRules.{claimed_in, has_claim_in}
use Rattle.dbp_rules.specs.Lookups.{claim_in, entry_in, is_counted, link, wired_task}
use Rattle.dbp_rules.specs.Promises.{HasFreeSlotIn, IsLeastAimIn}
use Rattle.dbp_rules.specs.Shapes.{IsWired}
use Rattle.dbp_rules.specs.Wired.{slot_count, wiring_of}
use Rattle.dbp_rules.specs.declared.parts.ReleaserPart.{ReleaserPart}
use Rattle.dbp_rules.specs.declared.step.Count.{Count}
use Rattle.dbp_rules.specs.declared.step.Count.TheVariants.{All, Ranked}
use Rattle.dbp_rules.specs.declared.wiring.TaskWiring.{TaskWiring}
use Rattle.dbp_rules.specs.declared.wiring.Wiring.{Wiring}
use Rattle.dbp_rules.proofs.Aims.{IsAllowedAim, aim_allowed, allowed_aim}
use Rattle.dbp_rules.proofs.IntoTask.{count_or}
use Rattle.dbp_rules.proofs.SoundOwn.{IsOwn, own_wiring, rank_is}
use Rattle.dbp_rules.proofs.WiringParts.{wired_is}
use Rattle.dbp_rules.proofs.Wirings.{wiring-whole}

-- ---- counts

-- numbers that pass are no more than the items at them that do
count_items : {X : Type 0} (f : ℕ → Bool) (g : X → Bool) (a : ℕ) (xs : List X) (d : X) → ((k : ℕ) → k < length xs → f (a + k) ≡ true → g (get_or xs k d) ≡ true) → count_by f (range_with_len a (length xs)) ≤ count_by g xs
count_items f g a [] d each = omega arith
count_items f g a (x ∷ xs) d each =
    let rest : count_by f (range_with_len (a + 1) (length xs)) ≤ count_by g xs = count_items f g (a + 1) xs d (λ k below passes.
    let same : a + 1 + k ≡ a + suc k = omega arith in
    each (suc k) (omega arith) (ap f (sym same) ∙ passes)) in
    let here : a + 0 ≡ a = omega arith in
    let first : cond (f a) 1 0 ≤ cond (g x) 1 0 = one (f a) (g x) (λ passes. each 0 (omega arith) (ap f here ∙ passes)) in
    rw (count-cons f a (range_with_len (a + 1) (length xs)), count-cons g x xs) (omega (arith, rest, first))
  where
    one : (p q : Bool) → (p ≡ true → q ≡ true) → cond {A = ℕ} p 1 0 ≤ cond q 1 0
    one true q passes = rw (passes refl) (omega arith)
    one false q passes = omega arith

-- ---- of a plan's own wiring

module _ (p : Plan) (count : Count) (r : ReleaserPart) (i : ℕ) where
  abbrev w : Wiring
  w = wiring_of p count

  own : IsOwn p w
  own = own_wiring p count

  -- a link that keeps a slot leaves the task and is counted
  keeps : (k : ℕ) → has_claim_in w r i k ≡ true → ((link w k).writer ≡ i) × (is_counted w k ≡ true)
  keeps k is =
      let out = and_parts ((link w k).writer == i) _ is in
      let counted = and_parts (is_counted w k) _ out.1 in
      (eqb-true (link w k).writer i out.0, counted.0)

  ends : (k : ℕ) → k < length p.diagram.links → ((link w k).writer < length p.diagram.tasks) × ((link w k).reader < length p.diagram.tasks)
  ends k below =
      let ends_ = p.rules.ranked.closed.ends k no_link below in
      (ends_.0, ends_.1)

  -- the rank of a link's writer and of its reader, in the diagram's words
  writer_rank : (k : ℕ) → k < length p.diagram.links → (link w k).writer ≡ i → (wired_task w (link w k).writer).rank ≡ get_or p.diagram.ranks i 0
  writer_rank k below out = rank_is p count (link w k).writer (ends k below).0 ∙ ap (λ (n : ℕ). get_or p.diagram.ranks n 0) out

  reader_rank : (k : ℕ) → k < length p.diagram.links → (wired_task w (link w k).reader).rank ≡ get_or p.diagram.ranks (link w k).reader 0
  reader_rank k below = rank_is p count (link w k).reader (ends k below).1

  -- it goes to a lower task or to a higher one
  lower_or_higher : (k : ℕ) → k < length p.diagram.links → (link w k).writer ≡ i → (is_to_lower p.diagram.ranks i (link_at p.diagram.links k) || is_to_higher p.diagram.ranks i (link_at p.diagram.links k)) ≡ true
  lower_or_higher k below out =
      let inside : k < length w.links = below in
      let from : (wired_task w (link w k).writer).rank ≡ get_or p.diagram.ranks i 0 = writer_rank k below out in
      let to : (wired_task w (link w k).reader).rank ≡ get_or p.diagram.ranks (link w k).reader 0 = reader_rank k below in
      let apart : (wired_task w (link w k).writer).rank ≢ (wired_task w (link w k).reader).rank = own.ranks (link w k).writer (link w k).reader (own.whole.writer k inside) (own.whole.reader k inside) (own.apart k inside) in
      elim (cases_lt (get_or p.diagram.ranks i 0) (get_or p.diagram.ranks (link w k).reader 0)) [
        | inl less ↦ rw (eq-eqb (link w k).writer i out, lt-ltb (get_or p.diagram.ranks i 0) (get_or p.diagram.ranks (link w k).reader 0) less) refl
        | inr more ↦
            let other : get_or p.diagram.ranks i 0 ≢ get_or p.diagram.ranks (link w k).reader 0 = λ same. apart (from ∙ same ∙ sym to) in
            let above : get_or p.diagram.ranks (link w k).reader 0 < get_or p.diagram.ranks i 0 = omega arith in
            elim (cases_Bool (nat_lt (get_or p.diagram.ranks i 0) (get_or p.diagram.ranks (link w k).reader 0))) [
              | inl yes_ ↦ rw (eq-eqb (link w k).writer i out, yes_) refl
              | inr not_ ↦ rw (eq-eqb (link w k).writer i out, not_, lt-ltb (get_or p.diagram.ranks (link w k).reader 0) (get_or p.diagram.ranks i 0) above) refl
            ]
      ]

-- under `Ranked` to a lower one
to_lower : (p : Plan) (r : ReleaserPart) (i k : ℕ) → k < length p.diagram.links → has_claim_in (wiring_of p Ranked) r i k ≡ true → is_to_lower p.diagram.ranks i (link_at p.diagram.links k) ≡ true
to_lower p r i k below is =
    let w : Wiring = wiring_of p Ranked in
    let both = keeps p Ranked r i k is in
    let less : (wired_task (wiring_of p Ranked) (link (wiring_of p Ranked) k).writer).rank < (wired_task (wiring_of p Ranked) (link (wiring_of p Ranked) k).reader).rank = ltb-true _ _ both.1 in
    let lower : get_or p.diagram.ranks i 0 < get_or p.diagram.ranks (link_at p.diagram.links k).reader 0 = omega (arith, less, writer_rank p Ranked r i k below both.0, reader_rank p Ranked r i k below) in
    rw (eq-eqb (link_at p.diagram.links k).writer i both.0, lt-ltb (get_or p.diagram.ranks i 0) (get_or p.diagram.ranks (link_at p.diagram.links k).reader 0) lower) refl

-- how many claims keep a slot of the task
claims_few : (p : Plan) (count : Count) (r : ReleaserPart) (i : ℕ) → count_by (has_claim_in (wiring_of p count) r i) (range_with_len 0 (length p.diagram.links)) + 1 + (counts_of p.diagram i).delayed ≤ slot_count count (counts_of p.diagram i)
claims_few p Ranked r i =
    let few : count_by (has_claim_in (wiring_of p Ranked) r i) (range_with_len 0 (length p.diagram.links)) ≤ count_by (is_to_lower p.diagram.ranks i) p.diagram.links =
    count_items (has_claim_in (wiring_of p Ranked) r i) (is_to_lower p.diagram.ranks i) 0 p.diagram.links no_link (λ k below is. let here : 0 + k ≡ k = omega arith in to_lower p r i k below (ap (has_claim_in (wiring_of p Ranked) r i) (sym here) ∙ is)) in
    omega (arith, few)
claims_few p All r i =
    let few : count_by (has_claim_in (wiring_of p All) r i) (range_with_len 0 (length p.diagram.links)) ≤ count_by (λ l. is_to_lower p.diagram.ranks i l || is_to_higher p.diagram.ranks i l) p.diagram.links =
    count_items (has_claim_in (wiring_of p All) r i) (λ l. is_to_lower p.diagram.ranks i l || is_to_higher p.diagram.ranks i l) 0 p.diagram.links no_link
    (λ k below is. let here : 0 + k ≡ k = omega arith in lower_or_higher p All r i k below (keeps p All r i k (ap (has_claim_in (wiring_of p All) r i) (sym here) ∙ is)).0) in
    omega (arith, few, count_or (is_to_lower p.diagram.ranks i) (is_to_higher p.diagram.ranks i) p.diagram.links)

pub has_free_slot : (p : Plan) (count : Count) (r : ReleaserPart) (i : ℕ) → i < length p.diagram.tasks → length (entry_in r i).kept ≡ (wired_task (wiring_of p count) i).kept → HasFreeSlotIn (wiring_of p count) r i
has_free_slot p count r i named size =
    let kept : length (rule.kept_after_aim (entry_in r i)) ≡ length (entry_in r i).kept = length-take-le (length (entry_in r i).kept) ((entry_in r i).current ∷ (entry_in r i).kept) (omega arith) in
    let claimed : length (claimed_in (wiring_of p count) r i) ≡ count_by (has_claim_in (wiring_of p count) r i) (range_with_len 0 (length p.diagram.links)) =
    length-map (filter (has_claim_in (wiring_of p count) r i) (range_with_len 0 (length p.diagram.links))) (λ k. (claim_in r k).slot) ∙ length-filter (has_claim_in (wiring_of p count) r i) (range_with_len 0 (length p.diagram.links)) in
    let slots : (wired_task (wiring_of p count) i).slots ≡ slot_count count (counts_of p.diagram i) = ap (λ (t : TaskWiring). t.slots) (wired_is p count i named) in
    let delayed : (wired_task (wiring_of p count) i).kept ≡ (counts_of p.diagram i).delayed = ap (λ (t : TaskWiring). t.kept) (wired_is p count i named) in
    omega (arith, claims_few p count r i, claimed, kept, size, slots, delayed)

-- ---- members of lists

pub any_contains : (xs : List ℕ) (n : ℕ) → list_any (λ k. k == n) xs ≡ true → Contains xs n
any_contains [] n is = absurd (cc (is))
any_contains (x ∷ xs) n is = elim (cases_Bool (x == n)) [
  | inl same ↦ (0, omega arith, eqb-true x n same)
  | inr other ↦
      let rest : list_any (λ k. k == n) xs ≡ true = rw other at is in
      let there : Contains xs n = any_contains xs n rest in
      (suc there.0, omega (arith, there.1), there.2)
]

pub contains_any : (xs : List ℕ) (n : ℕ) → Contains xs n → list_any (λ k. k == n) xs ≡ true
contains_any xs n there = list_any_at (λ k. k == n) xs there.0 n there.1 (eq-eqb (get_or xs there.0 n) n there.2)

-- a number from a on that passes and has this value
record IsValue (test : ℕ → Bool) (of : ℕ → ℕ) (n a len : ℕ) : Type 0 where
  pub number : ℕ
  pub from : a ≤ number
  pub below : number < a + len
  pub passes : test number ≡ true
  pub value : of number ≡ n

value_later : (passes : ℕ → Bool) (value : ℕ → ℕ) (n a len : ℕ) → IsValue passes value n (a + 1) len → IsValue passes value n a (suc len)
value_later passes value n a len v = record { number = v.number; from = omega (arith, v.from); below = omega (arith, v.below); passes = v.passes; value = v.value }

value_found : (passes : ℕ → Bool) (value : ℕ → ℕ) (n a len : ℕ) → list_any (λ k. k == n) (map value (filter passes (range_with_len a len))) ≡ true → IsValue passes value n a len
value_found passes value n a zero is = absurd (cc (is))
value_found passes value n a (suc len) is = elim (cases_Bool (passes a)) [
  | inl yes_ ↦ elim (cases_Bool (value a == n)) [
    | inl same ↦ record { number = a; from = omega arith; below = omega arith; passes = yes_; value = eqb-true (value a) n same }
    | inr other ↦
        let rest : list_any (λ k. k == n) (map value (filter passes (range_with_len (a + 1) len))) ≡ true = rw (yes_, other) at is in
        value_later passes value n a len (value_found passes value n (a + 1) len rest)
  ]
  | inr not_ ↦
      let rest : list_any (λ k. k == n) (map value (filter passes (range_with_len (a + 1) len))) ≡ true = rw not_ at is in
      value_later passes value n a len (value_found passes value n (a + 1) len rest)
]

value_there : (passes : ℕ → Bool) (value : ℕ → ℕ) (n a len k : ℕ) → a ≤ k → k < a + len → passes k ≡ true → value k ≡ n → list_any (λ x. x == n) (map value (filter passes (range_with_len a len))) ≡ true
value_there passes value n a zero k from below is at = absurd (omega arith)
value_there passes value n a (suc len) k from below is at = elim (cases_lt a k) [
  | inl later ↦
      let rest : list_any (λ x. x == n) (map value (filter passes (range_with_len (a + 1) len))) ≡ true = value_there passes value n (a + 1) len k (omega arith) (omega arith) is at in
      elim (cases_Bool (passes a)) [
        | inl yes_ ↦ rw (yes_, rest) (or-true (value a == n))
        | inr not_ ↦ rw (not_, rest) refl
      ]
  | inr here ↦
      let same : k ≡ a = omega arith in
      let passed_ : passes a ≡ true = ap passes (sym same) ∙ is in
      let value_ : (value a == n) ≡ true = eq-eqb (value a) n (ap value (sym same) ∙ at) in
      rw (passed_, value_) refl
]

-- ---- the least slot

-- the search for a number that no list has, from n on
free_from : (claims kept : List ℕ) (slots n rest : ℕ) → n + rest ≡ slots → ((m : ℕ) → m < n → Contains claims m ⊎ Contains kept m)
    → ((slot : ℕ) × IsLeastFree claims kept slots slot) ⊎ ((m : ℕ) → m < slots → Contains claims m ⊎ Contains kept m)
free_from claims kept slots n zero sum taken = inr (λ m below. taken m (omega arith))
free_from claims kept slots n (suc rest) sum taken = elim (cases_Bool (list_any (λ k. k == n) claims)) [
  | inl claimed ↦ free_from claims kept slots (n + 1) rest (omega arith) (λ m below. elim (cases_lt m n) [
    | inl less ↦ taken m less
    | inr last ↦ let same : n ≡ m = omega arith in inl (subst (λ (x : ℕ). Contains claims x) same (any_contains claims n claimed))
  ])
  | inr unclaimed ↦ elim (cases_Bool (list_any (λ k. k == n) kept)) [
    | inl keeps_ ↦ free_from claims kept slots (n + 1) rest (omega arith) (λ m below. elim (cases_lt m n) [
      | inl less ↦ taken m less
      | inr last ↦ let same : n ≡ m = omega arith in inr (subst (λ (x : ℕ). Contains kept x) same (any_contains kept n keeps_))
    ])
    | inr unkept ↦ inl (
      n,
      record {
        below = omega arith;
        unclaimed = λ there. let is : list_any (λ k. k == n) claims ≡ true = contains_any claims n there in absurd (cc (is, unclaimed));
        unkept = λ there. let is : list_any (λ k. k == n) kept ≡ true = contains_any kept n there in absurd (cc (is, unkept));
        least = taken;
      },
    )
  ]
]

-- a link that claims the slot keeps it, and the other way round
claims_keeps : (w : Wiring) (r : ReleaserPart) (i slot k : ℕ) → rule.claims_slot_in w r i slot k ≡ true → (has_claim_in w r i k ≡ true) × ((claim_in r k).slot ≡ slot)
claims_keeps w r i slot k is =
    let out = and_parts ((link w k).writer == i) _ is in
    let counted = and_parts (is_counted w k) _ out.1 in
    let known = and_parts (nat_lt (entry_in r (link w k).reader).known (claim_in r k).instance) ((claim_in r k).slot == slot) counted.1 in
    (rw (out.0, counted.0, known.0) refl, eqb-true (claim_in r k).slot slot known.1)

keeps_claims : (w : Wiring) (r : ReleaserPart) (i slot k : ℕ) → has_claim_in w r i k ≡ true → (claim_in r k).slot ≡ slot → rule.claims_slot_in w r i slot k ≡ true
keeps_claims w r i slot k is same =
    let out = and_parts ((link w k).writer == i) _ is in
    let counted = and_parts (is_counted w k) (nat_lt (entry_in r (link w k).reader).known (claim_in r k).instance) out.1 in
    rw (out.0, counted.0, counted.1, eq-eqb (claim_in r k).slot slot same) refl

-- what a claim keeps, some link claims
pub claimed_by : (w : Wiring) (r : ReleaserPart) (i slot k : ℕ) → k < length w.links → rule.claims_slot_in w r i slot k ≡ true → Contains (claimed_in w r i) slot
claimed_by w r i slot k fits is =
    let both = claims_keeps w r i slot k is in
    any_contains (claimed_in w r i) slot (value_there (has_claim_in w r i) (λ j. (claim_in r j).slot) slot 0 (length w.links) k (omega arith) (omega arith) both.0 both.1)

pub claiming : (w : Wiring) (r : ReleaserPart) (i slot : ℕ) → Contains (claimed_in w r i) slot → (k : ℕ) × (k < length w.links) × (rule.claims_slot_in w r i slot k ≡ true)
claiming w r i slot claimed =
    let v : IsValue (has_claim_in w r i) (λ j. (claim_in r j).slot) slot 0 (length w.links) = value_found (has_claim_in w r i) (λ j. (claim_in r j).slot) slot 0 (length w.links) (contains_any (claimed_in w r i) slot claimed) in
    (v.number, omega (arith, v.below), keeps_claims w r i slot v.number v.passes v.value)

pub exact_aim : (w : Wiring) (r : ReleaserPart) (i slot : ℕ) → slice_get w.releases r.place ≡ Some (release.Aim i) → (entry_in r i).aimed ≡ (entry_in r i).known
    → IsLeastFree (claimed_in w r i) (rule.kept_after_aim (entry_in r i)) (wired_task w i).slots slot → IsLeastAimIn w r i slot
exact_aim w r i slot here known free = record {
  free = free;
  allowed = allowed_aim w r i slot (record {
    here = here;
    known = known;
    below = free.below;
    fresh = elim (cases_Bool (rule.stays_kept (entry_in r i) slot)) [
      | inl stays ↦ absurd (free.unkept (any_contains (rule.kept_after_aim (entry_in r i)) slot stays))
      | inr gone ↦ gone
    ];
    unclaimed = λ k fits. elim (cases_Bool (rule.claims_slot_in w r i slot k)) [
      | inl claims_ ↦
          absurd (free.unclaimed (claimed_by w r i slot k fits claims_))
      | inr none ↦ none
    ];
  });
  least = λ n also.
      let a : IsAllowedAim w r i n = aim_allowed w r i n also in
      elim (cases_lt n slot) [
        | inl less ↦ elim (free.least n less) [
          | inl claimed ↦
              let by = claiming w r i n claimed in
              let is : rule.claims_slot_in w r i n by.0 ≡ true = by.2 in
              absurd (cc (is, a.unclaimed by.0 by.1))
          | inr stays ↦ let is : rule.stays_kept (entry_in r i) n ≡ true = contains_any (rule.kept_after_aim (entry_in r i)) n stays in absurd (cc (is, a.fresh))
        ]
        | inr more ↦ more
      ];
}

-- an aim is one of a task of the diagram
pub aim_named : (p : Plan) (count : Count) (place i : ℕ) → slice_get (wiring_of p count).releases place ≡ Some (release.Aim i) → i < length p.diagram.tasks
aim_named p count place i here =
    let whole : IsWired p (wiring_of p count) = wiring-whole p count in
    (whole.releases.at_aim place i here).named

pub some_aim : (p : Plan) (count : Count) (r : ReleaserPart) (i : ℕ) → length (entry_in r i).kept ≡ (wired_task (wiring_of p count) i).kept
    → slice_get (wiring_of p count).releases r.place ≡ Some (release.Aim i) → (entry_in r i).aimed ≡ (entry_in r i).known → (slot : ℕ) × IsLeastAimIn (wiring_of p count) r i slot
some_aim p count r i size here known =
    let few : HasFreeSlotIn (wiring_of p count) r i = has_free_slot p count r i (aim_named p count r.place i here) size in
    elim (free_from (claimed_in (wiring_of p count) r i) (rule.kept_after_aim (entry_in r i)) (wired_task (wiring_of p count) i).slots 0 (wired_task (wiring_of p count) i).slots (omega arith) (λ m below. absurd (omega arith))) [
      | inl found ↦ (found.0, exact_aim (wiring_of p count) r i found.0 here known found.1)
      | inr taken ↦ absurd (one_free (claimed_in (wiring_of p count) r i) (rule.kept_after_aim (entry_in r i)) (wired_task (wiring_of p count) i).slots few taken)
    ]
