-- The lists of each input's samples, if a task has a `when`, and none if no task has one.
use Rattle.std.proofs.Common.{◌≡◌, ◌≢◌, ℕ, zero, suc, ◌∷◌, false, ◌<◌, All, AllPairs, List, [], length, get_or, map, refl, sym, ap, subst, arith, inl, inr}
use Rattle.std.specs.Prelude.{◌==◌, IsTrue, is_some}
use Rattle.std.specs.List.Sorted.{IsNonDecreasingBy}
use Rattle.std.specs.List.{list_any, range_with_len}
use Rattle.std.proofs.lemmas.Bool.{both_ways, cases_Bool, eq-eqb, ne_eqb, or_parts}
use Rattle.std.proofs.lemmas.List.Elements.{All-push}
use Rattle.std.proofs.lemmas.List.FromFn.{get_or-map-range_with_len, length-map-range_with_len}
use Rattle.std.proofs.lemmas.Option.{slice_get-get_or}
use Rattle.dbp_plan.specs.declared.diagram.Diagram.{Diagram}
use Rattle.dbp_plan.specs.declared.diagram.Task.{Task}
use Rattle.dbp_plan.specs.declared.schedule.Sample.{Sample}
use Rattle.dbp_plan.specs.Closed.{IsClosed}
use Rattle.dbp_plan.specs.Samples.{is_before, own_samples}
use Rattle.dbp_plan.proofs.InputValues.{input_rising}
use Rattle.dbp_plan.proofs.ListMaps.{filter-all}
use Rattle.trace_io.specs.Guards.{HasItsSamples, RiseInTime, own_lists}
use Rattle.trace_io.proofs.Plans.{input_at}

module _ (d : Diagram) (closed : IsClosed d) (samples : List Sample) where
  abbrev by_input : List (List Sample)
  by_input = map (λ input. own_samples input samples) (range_with_len 0 (length d.inputs))

  pub own-samples : All (HasItsSamples samples by_input) d.tasks
  own-samples k t below input is =
      let inside : input < length d.inputs = input_at d closed k (get_or d.tasks k t) input (slice_get-get_or d.tasks k t below) is in
      get_or-map-range_with_len (λ x. own_samples x samples) 0 (length d.inputs) input input [] inside (omega arith)

  pub own-rise : AllPairs (λ a b. IsTrue (is_before a b)) samples → RiseInTime by_input
  own-rise order k e below =
      let inside : k < length d.inputs = omega (arith, below, length-map-range_with_len (λ x. own_samples x samples) 0 (length d.inputs)) in
      let here : get_or by_input k e ≡ own_samples k samples = get_or-map-range_with_len (λ x. own_samples x samples) 0 (length d.inputs) k k e inside (omega arith) in
      rw here (input_rising k samples order)

pub none-rise : RiseInTime []
none-rise k e below = absurd (omega (arith, below))

-- ---- a single input has all samples

all-of-one : (samples : List Sample) → All (λ s. s.input < 1) samples → own_samples 0 samples ≡ samples
all-of-one samples named = filter-all (λ s. s.input == 0) samples (λ k s below. let less = named k s below in eq-eqb (get_or samples k s).input 0 (omega (arith, less)))

module _ (d : Diagram) (closed : IsClosed d) (samples : List Sample) (one : length d.inputs ≡ 1) (named : All (λ s. s.input < length d.inputs) samples) where
  all-own : own_samples 0 samples ≡ samples
  all-own = all-of-one samples (λ k s below. omega (arith, named k s below, one))

  pub one-samples : (lists : List (List Sample)) → All (HasItsSamples samples (own_lists (length d.inputs) samples lists)) d.tasks
  one-samples lists k t below input is =
      let inside : input < length d.inputs = input_at d closed k (get_or d.tasks k t) input (slice_get-get_or d.tasks k t below) is in
      let first : input ≡ 0 = omega (arith, inside, one) in
      rw (one, first) (sym all-own)

  pub one-rise : (lists : List (List Sample)) → AllPairs (λ a b. IsTrue (is_before a b)) samples → RiseInTime (own_lists (length d.inputs) samples lists)
  one-rise lists order =
      let rising : IsNonDecreasingBy (λ s. s.time) samples = subst (IsNonDecreasingBy (λ s. s.time)) all-own (input_rising 0 samples order) in
      rw one (All-push (IsNonDecreasingBy (λ (s : Sample). s.time)) [] samples none-rise rising)

-- several have lists of their own
pub several : (inputs : ℕ) (samples : List Sample) (lists : List (List Sample)) → inputs ≢ 1 → own_lists inputs samples lists ≡ lists
several inputs samples lists more = rw (ne_eqb inputs 1 more) refl

-- without a `when` no list is wanted
pub no-guards : (tasks : List Task) (samples : List Sample) → list_any (λ t. is_some t.when) tasks ≡ false → All (HasItsSamples samples []) tasks
no-guards [] samples none k t below input is = absurd (omega (arith, below))
no-guards (u ∷ tasks) samples none zero t below input is = absurd (both_ways (is_some u.when) (or_parts (is_some u.when) (list_any (λ t. is_some t.when) tasks) none).0 (ap is_some is))
no-guards (u ∷ tasks) samples none (suc k) t below input is =
    no-guards tasks samples (or_parts (is_some u.when) (list_any (λ t. is_some t.when) tasks) none).1 k t (omega (arith, below)) input is

-- nor without samples
pub none-given : (tasks : List Task) → All (HasItsSamples [] []) tasks
none-given tasks k t below input is = refl

no-sample : (input : ℕ) (none : List Sample) → none ≡ [] → get_or (none ∷ []) input [] ≡ []
no-sample zero none is = is
no-sample (suc input) none is = refl

pub none-of-one : (inputs : ℕ) (tasks : List Task) → All (HasItsSamples [] (own_lists inputs [] [])) tasks
none-of-one inputs tasks k t below input is = elim (cases_Bool (inputs == 1)) [
  | inl one ↦ rw one (no-sample input [] refl)
  | inr more ↦ rw more refl
]

pub none-of-one-rise : (inputs : ℕ) → RiseInTime (own_lists inputs [] [])
none-of-one-rise inputs = elim (cases_Bool (inputs == 1)) [
  | inl one ↦ rw one (All-push (IsNonDecreasingBy (λ (s : Sample). s.time)) [] [] none-rise (λ i j s order below. absurd (omega (arith, below))))
  | inr more ↦ rw more none-rise
]
