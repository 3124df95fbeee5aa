-- The tasks above a task, gathered one by one.
use Rattle.std.proofs.Common.{◌≡◌, ℕ, suc, ◌+◌, ◌*◌, ◌<◌, ◌≤◌, List, [], ◌∷◌, ◌++◌, true, false, All, length, refl, ap, arith, length-append}
use Rattle.std.specs.Prelude.{if◌then◌else◌, slice_index, sum_by}
use Rattle.std.specs.List.{range_with_len}
use Rattle.std.proofs.lemmas.Bool.{le-ltb, lt-ltb}
use Rattle.std.proofs.lemmas.List.Elements.{All-push}
use Rattle.std.proofs.lemmas.List.Sums.{sum_by_push}
use Rattle.dbp_plan.specs.declared.diagram.Diagram.{Diagram}
use Rattle.dbp_plan.specs.Lookups.{task_at}
use Rattle.rta_check.specs.declared.higher.Higher.{Higher}
use Rattle.rta_check.specs.Levels.{IsHigher, higher_request}
use Rattle.rta_check.specs.Periods.{period_of}
use Rattle.rta_check.specs.Requests.{div_ceil, is_above, request_of}
use Rattle.rta_check.proofs.Demands.{sum_more_from}

-- of the first n tasks these are those above task i
pub record AreCounted (d : Diagram) (i n : ℕ) (hs : List Higher) : Type 0 where
  pub requests : (r : ℕ) → sum_by (higher_request r) hs ≡ sum_by (λ j. if is_above d j i then request_of d r j else 0) (range_with_len 0 n)
  pub each : All IsHigher hs
  pub few : length hs ≤ n

-- one number more
sum_more : (f : ℕ → ℕ) (n : ℕ) → sum_by f (range_with_len 0 (n + 1)) ≡ sum_by f (range_with_len 0 n) + f n
sum_more f n =
    let here : 0 + n ≡ n = omega arith in
    let next : suc n ≡ n + 1 = omega arith in
    omega (arith, sum_more_from f 0 n, ap f here, ap (λ k. sum_by f (range_with_len 0 k)) next)

module _ (d : Diagram) (i n : ℕ) (hs : List Higher) (before : AreCounted d i n hs) where
  -- task n is above
  pub higher_counted : (h : Higher) → slice_index d.ranks n < slice_index d.ranks i → IsHigher h → h.period ≡ period_of (task_at d n).clock → h.cost ≡ (task_at d n).cost → AreCounted d i (n + 1) (hs ++ h ∷ [])
  higher_counted h less is period cost =
      let above : is_above d n i ≡ true = lt-ltb _ _ less in
      record {
        requests = λ r.
            let request : higher_request r h ≡ request_of d r n = (λ k. div_ceil r (period k) * cost k) in
            let counted : (if is_above d n i then request_of d r n else 0) ≡ request_of d r n = rw above refl in
            omega (
              arith,
              before.requests r,
              sum_by_push (higher_request r) hs h,
              sum_more (λ j. if is_above d j i then request_of d r j else 0) n,
              request,
              counted,
            );
        each = All-push IsHigher hs h before.each is;
        few = omega (arith, before.few, length-append hs (h ∷ []));
      }

  -- or it isn't
  pub other_counted : slice_index d.ranks i ≤ slice_index d.ranks n → AreCounted d i (n + 1) hs
  other_counted most =
      let lower : is_above d n i ≡ false = le-ltb _ _ most in
      record {
        requests = λ r.
            let none : (if is_above d n i then request_of d r n else 0) ≡ 0 = rw lower refl in
            omega (arith, before.requests r, sum_more (λ j. if is_above d j i then request_of d r j else 0) n, none);
        each = before.each;
        few = omega (arith, before.few);
      }
