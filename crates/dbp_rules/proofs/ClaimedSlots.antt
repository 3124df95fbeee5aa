-- The slots that claims keep from a task, found among the links that leave it, and the least slot that is free.
use Rattle.std.proofs.Common.{◌≡◌, ℕ, zero, suc, ◌+◌, ◌-◌, ◌<◌, ◌≤◌, Bool, true, false, List, [], ◌∷◌, ◌++◌, length, map, take, get_or, filter, refl, sym, ◌∙◌, ap, subst, arith, inl, inr}
use Rattle.std.specs.Prelude.{◌==◌}
use Rattle.std.specs.List.{range_with_len}
use Rattle.std.proofs.lemmas.Bool.{and_parts, cases_Bool}
use Rattle.std.proofs.lemmas.List.Elements.{Contains-append_cases, Contains-append_left, Contains-append_right}
use Rattle.std.proofs.lemmas.List.FromFn.{length-range_with_len}
use Rattle.std.proofs.lemmas.List.Sums.{count_by-le-length, length-filter}
use Rattle.dbp_slots.specs.FreeSlot.{IsLeastFree}
use Rattle.dbp_plan.specs.Lookups.{link_at}
use Rattle.dbp_rules.specs.PartyRules.{claimed_in, has_claim_in, kept_after_aim}
use Rattle.dbp_rules.specs.PartyShapes.{LinksFit}
use Rattle.dbp_rules.specs.Lookups.{claim_in, link, wired_task}
use Rattle.dbp_rules.specs.Wired.{links_at}
use Rattle.dbp_rules.specs.declared.parts.ReleaserPart.{ReleaserPart}
use Rattle.dbp_rules.specs.declared.parts.TaskEntry.{TaskEntry}
use Rattle.dbp_rules.specs.declared.wiring.LinkEnd.TheVariants.{Writer}
use Rattle.dbp_rules.specs.declared.wiring.TaskWiring.{TaskWiring}
use Rattle.dbp_rules.specs.declared.wiring.Wiring.{Wiring}

-- ---- claims

-- those that pass a test and a wider one are those that pass the test
filter_among : (wide f : ℕ → Bool) → ((k : ℕ) → f k ≡ true → wide k ≡ true) → (xs : List ℕ) → filter f (filter wide xs) ≡ filter f xs
filter_among wide f within [] = refl
filter_among wide f within (x ∷ xs) = elim (cases_Bool (wide x)) [
  | inl yes_ ↦ elim (cases_Bool (f x)) [
    | inl is ↦ rw (yes_, is) (ap (λ ys. x ∷ ys) (filter_among wide f within xs))
    | inr isnt ↦ rw (yes_, isnt) (filter_among wide f within xs)
  ]
  | inr not_ ↦ elim (cases_Bool (f x)) [
    | inl is ↦ let bad : wide x ≡ true = within x is in absurd (cc (bad, not_))
    | inr isnt ↦ rw (not_, isnt) (filter_among wide f within xs)
  ]
]

-- the slots claimed over these links
abbrev pub claimed_over : Wiring → ReleaserPart → ℕ → List ℕ → List ℕ
claimed_over w r i ks = map (λ k. (claim_in r k).slot) (filter (has_claim_in w r i) ks)

-- the links that leave the task have all of them
pub all_claimed : (w : Wiring) (r : ReleaserPart) (i : ℕ) (ks : List ℕ) → ks ≡ links_at Writer w.links i → claimed_over w r i ks ≡ claimed_in w r i
all_claimed w r i ks is =
    ap (claimed_over w r i) is
    ∙ ap (map (λ k. (claim_in r k).slot)) (filter_among (λ k. (link w k).writer == i) (has_claim_in w r i) (λ k claims. (and_parts ((link w k).writer == i) _ claims).0) (range_with_len 0 (length w.links)))

-- the slots of one link more
pub claimed_more : (w : Wiring) (r : ReleaserPart) (i n : ℕ) (ks : List ℕ) → n < length ks → has_claim_in w r i (get_or ks n 0) ≡ true
    → claimed_over w r i (take (n + 1) ks) ≡ claimed_over w r i (take n ks) ++ (claim_in r (get_or ks n 0)).slot ∷ []
claimed_more w r i n [] below is = absurd (omega arith)
claimed_more w r i zero (k ∷ ks) below is = rw is refl
claimed_more w r i (suc n) (k ∷ ks) below is =
    let rest : claimed_over w r i (take (n + 1) ks) ≡ claimed_over w r i (take n ks) ++ (claim_in r (get_or ks n 0)).slot ∷ [] = claimed_more w r i n ks (omega arith) is in
    let one : suc n + 1 ≡ suc (n + 1) = omega arith in
    ap (λ m. claimed_over w r i (take m (k ∷ ks))) one
    ∙ (elim (cases_Bool (has_claim_in w r i k)) as (λ _. claimed_over w r i (k ∷ take (n + 1) ks) ≡ claimed_over w r i (k ∷ take n ks) ++ (claim_in r (get_or ks n 0)).slot ∷ []) [
      | inl yes_ ↦ rw yes_ (ap (λ ys. (claim_in r k).slot ∷ ys) rest)
      | inr not_ ↦ rw not_ rest
    ])

pub unclaimed_more : (w : Wiring) (r : ReleaserPart) (i n : ℕ) (ks : List ℕ) → n < length ks → has_claim_in w r i (get_or ks n 0) ≡ false
    → claimed_over w r i (take (n + 1) ks) ≡ claimed_over w r i (take n ks)
unclaimed_more w r i n [] below isnt = absurd (omega arith)
unclaimed_more w r i zero (k ∷ ks) below isnt = rw isnt refl
unclaimed_more w r i (suc n) (k ∷ ks) below isnt =
    let rest : claimed_over w r i (take (n + 1) ks) ≡ claimed_over w r i (take n ks) = unclaimed_more w r i n ks (omega arith) isnt in
    let one : suc n + 1 ≡ suc (n + 1) = omega arith in
    ap (λ m. claimed_over w r i (take m (k ∷ ks))) one
    ∙ (elim (cases_Bool (has_claim_in w r i k)) as (λ _. claimed_over w r i (k ∷ take (n + 1) ks) ≡ claimed_over w r i (k ∷ take n ks)) [
      | inl yes_ ↦ rw yes_ (ap (λ ys. (claim_in r k).slot ∷ ys) rest)
      | inr not_ ↦ rw not_ rest
    ])

-- there are no more of them than links
pub claimed_few : (w : Wiring) (r : ReleaserPart) (i : ℕ) (ks : List ℕ) → length (claimed_over w r i ks) ≤ length ks
claimed_few w r i [] = omega arith
claimed_few w r i (k ∷ ks) = elim (cases_Bool (has_claim_in w r i k)) [
  | inl yes_ ↦ rw yes_ (omega (arith, claimed_few w r i ks))
  | inr not_ ↦ rw not_ (omega (arith, claimed_few w r i ks))
]

-- ---- the links that leave a task

-- as its wiring lists them
pub leaving_is : (w : Wiring) (i : ℕ) (t : TaskWiring) (ks : List ℕ) → LinksFit w → i < length w.tasks → ks ≡ t.leaving → t ≡ wired_task w i → ks ≡ links_at Writer w.links i
leaving_is w i t ks fit below own is = own ∙ ap (λ x. x.leaving) is ∙ fit.leaving i below

pub leaving_few : (w : Wiring) (i : ℕ) (ks : List ℕ) → ks ≡ links_at Writer w.links i → length ks ≤ length w.links
leaving_few w i ks is =
    let size : length (links_at Writer w.links i) ≤ length (range_with_len 0 (length w.links)) = rw (length-filter (λ k. (link_at w.links k).writer == i) (range_with_len 0 (length w.links))) (count_by-le-length (λ k. (link_at w.links k).writer == i) (range_with_len 0 (length w.links))) in
    omega (arith, ap length is, size, length-range_with_len 0 (length w.links))

-- ---- free slots

-- a slot that is kept may stand among the claimed ones
pub free_moved : (claims kept : List ℕ) (current slots slot : ℕ) → IsLeastFree (claims ++ current ∷ []) kept slots slot → IsLeastFree claims (current ∷ kept) slots slot
free_moved claims kept current slots slot free = record {
  below = free.below;
  unclaimed = λ there. free.unclaimed (Contains-append_left claims (current ∷ []) slot there);
  unkept = λ there. elim (Contains-append_cases (current ∷ []) kept slot there) [
    | inl first ↦ free.unclaimed (Contains-append_right claims (current ∷ []) slot first)
    | inr rest ↦ free.unkept rest
  ];
  least = λ s below. elim (free.least s below) [
    | inl taken ↦ elim (Contains-append_cases claims (current ∷ []) s taken) [
      | inl claimed ↦ inl claimed
      | inr first ↦ inr (Contains-append_left (current ∷ []) kept s first)
    ]
    | inr keeps ↦ inr (Contains-append_right (current ∷ []) kept s keeps)
  ];
}

-- the first of the slots that stay kept is the current one
pub free_staying : (e : TaskEntry) (claims : List ℕ) (slots slot : ℕ) → 1 ≤ length e.kept → IsLeastFree (claims ++ e.current ∷ []) (take (length e.kept - 1) e.kept) slots slot → IsLeastFree claims (kept_after_aim e) slots slot
free_staying e claims slots slot some free =
    let one : length e.kept ≡ suc (length e.kept - 1) = omega arith in
    let first : e.current ∷ take (length e.kept - 1) e.kept ≡ kept_after_aim e = sym (ap (λ n. take n (e.current ∷ e.kept)) one) in
    subst (λ xs. IsLeastFree claims xs slots slot) first (free_moved claims (take (length e.kept - 1) e.kept) e.current slots slot free)
