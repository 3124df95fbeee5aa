-- The bounds of a diagram's tasks, one by one.
use Rattle.std.proofs.Common.{◌≡◌, ℕ, zero, suc, ◌+◌, List, [], ◌∷◌, ◌++◌, ◌⊎◌, Some, length, get_or, slice_get, refl, subst, sym, ap, ◌∙◌, inl, inr, arith, length-append}
use Rattle.std.proofs.Math.ListN.{get_or-append}
use Rattle.std.proofs.lemmas.Bool.{cases_lt}
use Rattle.std.proofs.lemmas.List.{get_or_push, same_lists}
use Rattle.std.proofs.lemmas.Option.{get_or_from_slice_get, slice_get-get_or, slice_get_within}
use Rattle.dbp_plan.specs.declared.diagram.Diagram.{Diagram}
use Rattle.dbp_plan.specs.declared.plan.Plan.{Plan}
use Rattle.rank_order.specs.Order.{ServesByRank}
use Rattle.rta_check.specs.declared.bound.Bound.{Bound}
use Rattle.rta_check.specs.declared.bound.Bound.TheVariants.{At, Beyond}
use Rattle.rta_check.specs.Bounds.{AreBounds, KeepsBounds}
use Rattle.rta_check.specs.Periods.{IsPeriodic}
use Rattle.rta_check.specs.Phases.{DiffersInPhase}
use Rattle.rta_check.specs.Responses.{IsBound, IsResponse}
use Rattle.rta_check.proofs.OneBound.{only_bound, some_bound}
use Rattle.rta_check.proofs.Theorem.{kept_in_each_phase, no_overrun}

-- an item of a list with one more
one_of_more : {A : Type 0} (xs : List A) (y : A) (i : ℕ) (x : A) → slice_get (xs ++ y ∷ []) i ≡ Some x → (slice_get xs i ≡ Some x) ⊎ ((i ≡ length xs) × (x ≡ y))
one_of_more xs y i x there =
    let more = xs ++ y ∷ [] in
    let inside = slice_get_within more i x there in
    let is : get_or more i y ≡ x = get_or_from_slice_get more i x y there in
    elim (cases_lt i (length xs)) [
      | inl less ↦ inl (slice_get-get_or xs i y less ∙ ap Some (sym (get_or-append xs (y ∷ []) y i less) ∙ is))
      | inr last ↦
          let at : length xs ≡ i = omega (arith, inside, last, length-append xs (y ∷ [])) in
          inr (sym at, sym is ∙ get_or_push xs y y i at)
    ]

bound_of_equal : (d : Diagram) (n i : ℕ) (b a : Bound) → n ≡ i → b ≡ a → IsBound d n b → IsBound d i a
bound_of_equal d n i b a place same is = subst (λ (k : ℕ). IsBound d k a) place (subst (IsBound d n) same is)

-- a bound that isn't beyond is a response time
response_of : (d : Diagram) (i : ℕ) (b : Bound) → IsBound d i b → (b ≡ Beyond → ⊥) → (r : ℕ) × IsResponse d i r
response_of d i (At r) is inside = (r, is)
response_of d i Beyond is inside = absurd (inside refl)

-- the bounds of the first n tasks
pub record AreBoundsUpTo (d : Diagram) (n : ℕ) (bounds : List Bound) : Type 0 where
  pub count : length bounds ≡ n
  pub each : (i : ℕ) (b : Bound) → slice_get bounds i ≡ Some b → IsBound d i b

pub bounds_more : (d : Diagram) (n : ℕ) (bounds : List Bound) (b : Bound) → AreBoundsUpTo d n bounds → IsBound d n b → AreBoundsUpTo d (n + 1) (bounds ++ b ∷ [])
bounds_more d n bounds b before is = record {
  count = omega (arith, before.count, length-append bounds (b ∷ []));
  each = λ i a there. elim (one_of_more bounds b i a there) [
    | inl earlier ↦ before.each i a earlier
    | inr last ↦ bound_of_equal d n i b a (sym (last.0 ∙ before.count)) (sym last.1) is
  ];
}

-- each plan that differs in phase keeps the bounds
pub bounds_kept : (d : Diagram) (bounds : List Bound) (p : Plan) → ServesByRank d → IsPeriodic d → AreBounds d bounds → DiffersInPhase d p.diagram → KeepsBounds bounds p
bounds_kept d bounds p ranked periodic are differs = record {
  each = λ i r there. kept_in_each_phase d p i r ranked periodic (are.each i (At r) there) differs;
  no_overrun = λ none. no_overrun d p ranked periodic
      (λ i less.
      let b = get_or bounds i Beyond in
      let there : slice_get bounds i ≡ Some b = slice_get-get_or bounds i Beyond (omega (arith, less, are.count)) in
      response_of d i b (are.each i b there) (λ beyond. none i (there ∙ ap Some beyond)))
      differs;
}

-- ---- there is one list

bounds_up_to : (d : Diagram) (n : ℕ) → (bounds : List Bound) × AreBoundsUpTo d n bounds
bounds_up_to d zero = ([], record { count = refl; each = λ i b there. absurd (omega (arith, slice_get_within [] i b there)) })
bounds_up_to d (suc n) =
    let (bounds, before) = bounds_up_to d n in
    let (last, is) = some_bound d n in
    let more = bounds_more d n bounds last before is in
    (bounds ++ last ∷ [], record { count = omega (arith, more.count); each = more.each })

pub some_bounds : (d : Diagram) → (bounds : List Bound) × AreBounds d bounds
some_bounds d =
    let (bounds, are) = bounds_up_to d (length d.tasks) in
    (bounds, record { count = are.count; each = are.each })

pub only_bounds : (d : Diagram) (bounds others : List Bound) → AreBounds d bounds → AreBounds d others → bounds ≡ others
only_bounds d bounds others are also =
    same_lists bounds others (are.count ∙ sym also.count)
    (λ k b less. only_bound d k (get_or bounds k b) (get_or others k b)
    (are.each k (get_or bounds k b) (slice_get-get_or bounds k b less))
    (also.each k (get_or others k b) (slice_get-get_or others k b (omega (arith, less, are.count, also.count)))))
