use Rattle.std.proofs.Common.{◌≡◌, ℕ, ◌/◌, Bool, nat_eq, List, take, length, refl, sym, ◌∙◌, ap}
use Rattle.std.proofs.lemmas.Bool.Decides.{Decides-eqb}
use Rattle.std.proofs.lemmas.Slice.Eq.{slice_eq-Decides}
use Rattle.std.specs.Bool.{Decides}
use Rattle.std.specs.Cmp.Lexicographic.{pointwise}
use Rattle.std.specs.Simd.{first_chunks}
use Rattle.dbp_plan.specs.NameInside.{IsNameInside, name_view, name_inverse, name_inverse_ok}
use Rattle.dbp_plan.specs.declared.name.Name.TheInside.{Inside}
use Rattle.dbp_plan.proofs.Chunks.{same_chunks}
use Rattle.dbp_plan.proofs.name.Name.is.Goals as goal

-- equal names are kept alike
same_inside : (m n : Inside) → IsNameInside m → IsNameInside n → name_view m ≡ name_view n → m ≡ n
same_inside m n is_m is_n same = sym (name_inverse_ok m is_m) ∙ ap name_inverse same ∙ name_inverse_ok n is_n

-- the chunks of eight are compared byte by byte
chunks-Decides : (xs ys : List (List ℕ)) (r : Bool) → r ≡ pointwise (pointwise nat_eq) xs ys → Decides r (xs ≡ ys)
chunks-Decides = slice_eq-Decides (λ a b. slice_eq-Decides Decides-eqb a b (pointwise nat_eq a b) refl)

-- and decide whether the bytes are the same
held-Decides : (xs ys : List ℕ) (fronts backs : List (List ℕ)) (r : Bool) → length xs ≡ 24 → length ys ≡ 24
    → fronts ≡ first_chunks 8 (length xs / 8) xs → backs ≡ first_chunks 8 (length ys / 8) ys → r ≡ pointwise (pointwise nat_eq) fronts backs → Decides r (xs ≡ ys)
held-Decides xs ys fronts backs r size_x size_y front back is =
    let three_x : fronts ≡ first_chunks 8 3 xs = front ∙ ap (λ n. first_chunks 8 (n / 8) xs) size_x in
    let three_y : backs ≡ first_chunks 8 3 ys = back ∙ ap (λ n. first_chunks 8 (n / 8) ys) size_y in
    let decided = chunks-Decides fronts backs r is in (
      (λ yes. same_chunks 8 3 xs ys size_x size_y (sym three_x ∙ decided.0 yes ∙ three_y)),
      (λ same. decided.1 (front ∙ ap (λ l. first_chunks 8 (length l / 8) l) same ∙ sym back)),
    )

pub returns-then-eq : goal.returns-then-eq
returns-then-eq c =
    let decided = held-Decides _ _ _ _ c.eq.result c.self.told c.other.told c.as_chunks.ensures.front c.as_chunks-2.ensures.front c.eq.ensures in
    let counted = Decides-eqb c.self.inside.count c.other.inside.count in (
      (λ yes. sym c.self.view_is ∙ (λ i. take (counted.0 yes i) (decided.0 c.if-eq.true i)) ∙ c.other.view_is),
      (λ same. counted.1 (ap (λ n. n.count) (same_inside c.self.inside c.other.inside c.self.invariant c.other.invariant (c.self.view_is ∙ same ∙ sym c.other.view_is)))),
    )

pub returns-else-eq : goal.returns-else-eq
returns-else-eq c =
    let decided = held-Decides _ _ _ _ c.eq.result c.self.told c.other.told c.as_chunks.ensures.front c.as_chunks-2.ensures.front c.eq.ensures in (
      (λ yes. absurd (cc (yes, c.if-eq.false))),
      (λ same. decided.1 (ap (λ n. n.held) (same_inside c.self.inside c.other.inside c.self.invariant c.other.invariant (c.self.view_is ∙ same ∙ sym c.other.view_is)))),
    )
