-- In the span between two samples of an input its value stays, so a clock has there all of its base times that are asked for, or none.
use Rattle.std.proofs.Common.{◌≡◌, ℕ, ℤ, pos, ◌+◌, ◌-◌, ◌<◌, ◌≤◌, Bool, true, false, List, [], ◌∷◌, ◌++◌, length, take, drop, get_or, map, slice_get, Some, refl, sym, ap, subst, ◌∙◌, arith, inl, inr}
use Rattle.std.specs.Prelude.{filter, not}
use Rattle.std.specs.List.Sorted.{IsNonDecreasingBy}
use Rattle.std.specs.Ordering.{int_eq}
use Rattle.std.proofs.lemmas.Bool.{cases_eq, cases_lt}
use Rattle.std.proofs.lemmas.List.{append-nil, drop-append-le, length-take-le, take-append-drop, take-take, take_all}
use Rattle.std.proofs.lemmas.List.Elements.{filter-append}
use Rattle.std.proofs.lemmas.List.Sums.{count_by-le-length, length-filter}
use Rattle.std.proofs.lemmas.Option.{get_or_from_slice_get, slice_get-get_or, slice_get_past, slice_get_within}
use Rattle.dbp_plan.specs.declared.schedule.Sample.{Sample}
use Rattle.dbp_plan.specs.ListItems.{at_place, drop_place, take_inside}
use Rattle.dbp_plan.specs.Samples.{last_value, value_until}
use Rattle.dbp_plan.proofs.InputValues.{value_in_front}
use Rattle.dbp_plan.proofs.ListMaps.{filter-all, filter-none}
use Rattle.dbp_plan.proofs.ListParts.{take_push}
use Rattle.trace_io.specs.Spans.{IsCountBefore, IsSpanEnd, IsSpanStart, is_on_by}

-- the end of a span, if its sample is there and if it isn't
end-at : (times : List ℕ) (own : List Sample) (k n : ℕ) (s : Sample) → IsSpanEnd times own k n → slice_get own k ≡ Some s → IsCountBefore times s.time n
end-at times own k n s end at = rw at at end

end-last : (times : List ℕ) (own : List Sample) (k n : ℕ) → IsSpanEnd times own k n → length own ≤ k → n ≡ length times
end-last times own k n end past = rw (slice_get_past own k past) at end

pub end-within : (times : List ℕ) (own : List Sample) (k n : ℕ) → IsSpanEnd times own k n → n ≤ length times
end-within times own k n end = elim (cases_lt k (length own)) [
  | inl less ↦ let (s, at) = at_place own k less in (end-at times own k n s end at).within
  | inr past ↦ omega (arith, end-last times own k n end past)
]

module _ (times : List ℕ) (own : List Sample) (k from to : ℕ) (start : IsSpanStart times own k from) (end : IsSpanEnd times own k to) (inside : k ≤ length own) (rising : IsNonDecreasingBy (λ s. s.time) own) where
  start-within : from ≤ length times
  start-within = elim (cases_eq k 0) [
    | inl none ↦ omega (arith, start.first none)
    | inr some ↦ end-within times own (k - 1) from (start.next (k - 1) (omega arith))
  ]

  -- the sample that begins the span, if there is one, isn't after what comes from there on
  begun : (j t : ℕ) (s : Sample) → from ≤ j → slice_get times j ≡ Some t → (m : ℕ) → k ≡ m + 1 → slice_get own m ≡ Some s → s.time ≤ t
  begun j t s past at m next at_s = (end-at times own m from s (start.next m next) at_s).after j t past at

  -- nothing before the span's beginning is after its end
  pub span-order : from ≤ to
  span-order = elim (cases_lt to from) [
    | inl back ↦
        let (t, at) = at_place times to (omega (arith, back, start-within)) in
        elim (cases_eq k 0) [
          | inl none ↦ absurd (omega (arith, start.first none, back))
          | inr some ↦ elim (cases_lt k (length own)) [
            | inl less ↦
                let (s, at_s) = at_place own (k - 1) (omega arith) in
                let (u, at_u) = at_place own k less in
                let before : t < s.time = (end-at times own (k - 1) from s (start.next (k - 1) (omega arith)) at_s).before to t back at in
                let after : u.time ≤ t = (end-at times own k to u end at_u).after to t (omega arith) at in
                let is_s : get_or own (k - 1) s ≡ s = get_or_from_slice_get own (k - 1) s s at_s in
                let is_u : get_or own k s ≡ u = get_or_from_slice_get own k u s at_u in
                let rise : (get_or own (k - 1) s).time ≤ (get_or own k s).time = rising (k - 1) k s (omega arith) less in
                let rise_again : s.time ≤ u.time = rw (is_s, is_u) at rise in
                absurd (omega (arith, before, after, rise_again))
            | inr past ↦ absurd (omega (arith, end-last times own k to end past, start-within, back))
          ]
        ]
    | inr fore ↦ fore
  ]

  -- a time of the span has the samples before the span's end at or before it, and the others after it
  in-span : (first : ℤ) (j t : ℕ) → from ≤ j → j < to → slice_get times j ≡ Some t → value_until first own t ≡ last_value first (map (λ s. s.value) (take k own))
  in-span first j t past less at = value_in_front first own t k inside
      (λ m d before. elim (cases_lt m k) [
        | inl there ↦
            let (s, at_s) = at_place own (k - 1) (omega arith) in
            let is_s : get_or own (k - 1) d ≡ s = get_or_from_slice_get own (k - 1) s d at_s in
            let order : (get_or own m d).time ≤ (get_or own (k - 1) d).time = rising m (k - 1) d (omega arith) (omega arith) in
            let order_again : (get_or own m d).time ≤ s.time = rw is_s at order in
            omega (arith, order_again, begun j t s past at (k - 1) (omega arith) at_s)
        | inr over ↦ absurd (omega (arith, over, before))
      ])
      (λ m d after below.
      let (u, at_u) = at_place own k (omega arith) in
      let is_u : get_or own k d ≡ u = get_or_from_slice_get own k u d at_u in
      let order : (get_or own k d).time ≤ (get_or own m d).time = rising k m d after below in
      let order_again : u.time ≤ (get_or own m d).time = rw is_u at order in
      omega (arith, order_again, (end-at times own k to u end at_u).before j t less at))

  -- the items of the span
  abbrev span : List ℕ
  span = drop from (take to times)

  pub front-and-span : take to times ≡ take from times ++ span
  front-and-span = sym (take-append-drop from (take to times)) ∙ ap (λ front. front ++ span) (take-take from to times span-order)

  span-item : (j t : ℕ) → slice_get span j ≡ Some t → (from + j < to) × (slice_get times (from + j) ≡ Some t)
  span-item j t at = take_inside times to (from + j) t (sym (drop_place (take to times) from j) ∙ at)

  module _ (first : ℤ) where
    abbrev on : ℕ → Bool
    on = is_on_by first own

    -- whether the input isn't 0 in the span
    abbrev on-before : Bool
    on-before = not (int_eq (last_value first (map (λ s. s.value) (take k own))) (pos 0))

    on-in-span : (j t : ℕ) → slice_get span j ≡ Some t → on t ≡ on-before
    on-in-span j t at =
        let item = span-item j t at in
        ap (λ (v : ℤ). not (int_eq v (pos 0))) (in-span first (from + j) t (omega arith) item.0 item.1)

    -- all of it passes if the input isn't 0
    pub span-on : on-before ≡ true → filter on (take to times) ≡ filter on (take from times) ++ span
    span-on passes =
        ap (filter on) front-and-span ∙ filter-append on (take from times) span
        ∙ ap (λ more. filter on (take from times) ++ more) (filter-all on span (λ j d below. on-in-span j (get_or span j d) (slice_get-get_or span j d below) ∙ passes))

    -- and none of it if it is
    pub span-off : on-before ≡ false → filter on (take to times) ≡ filter on (take from times)
    span-off fails =
        ap (filter on) front-and-span ∙ filter-append on (take from times) span
        ∙ ap (λ more. filter on (take from times) ++ more) (filter-none on span (λ j d below. on-in-span j (get_or span j d) (slice_get-get_or span j d below) ∙ fails))
        ∙ append-nil (filter on (take from times))

  -- the span after it begins where it ends
  pub next-start : IsSpanStart times own (k + 1) to
  next-start = record {
    first = λ none. absurd (omega arith);
    next = λ j is. let same : j ≡ k = omega arith in subst (λ m. IsSpanEnd times own m to) (sym same) end;
  }

pub first-start : (times : List ℕ) (own : List Sample) → IsSpanStart times own 0 0
first-start times own = record { first = λ none. refl; next = λ j is. absurd (omega arith) }

-- after the last span no time is left
pub last-start : (times : List ℕ) (own : List Sample) (k n : ℕ) → k ≡ length own + 1 → IsSpanStart times own k n → take n times ≡ times
last-start times own k n is start =
    let all : n ≡ length times = end-last times own (length own) n (start.next (length own) is) (omega arith) in
    take_all n times (omega arith)

pub few-on : (p : ℕ → Bool) (n : ℕ) (times : List ℕ) → n ≤ length times → length (filter p (take n times)) ≤ n
few-on p n times inside = omega (arith, length-filter p (take n times), count_by-le-length p (take n times), length-take-le n times inside)

-- one time more of a span
pub span-push : (times : List ℕ) (from n t : ℕ) → from ≤ n → slice_get times n ≡ Some t → drop from (take (n + 1) times) ≡ drop from (take n times) ++ t ∷ []
span-push times from n t fore at =
    let inside : n < length times = slice_get_within times n t at in
    let size : length (take n times) ≡ n = length-take-le n times (omega (arith, inside)) in
    ap (drop from) (take_push times n t at) ∙ drop-append-le from (take n times) (t ∷ []) (omega (arith, size, fore))
