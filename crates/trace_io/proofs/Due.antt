-- Steps of the two loops over the clocks.
use Rattle.std.proofs.Common.{◌≡◌, ◌≢◌, ℕ, ◌+◌, ◌<◌, true, false, All, List, [], ◌∷◌, ◌++◌, length, get_or, set, arith, refl, ap, ◌∙◌, sym, inl, inr, Option, None, Some}
use Rattle.std.specs.Prelude.{◌==◌, ◌||◌, min, slice_index, unwrap_or}
use Rattle.std.specs.List.{list_any}
use Rattle.std.specs.List.Sorted.{IsStrictlyIncreasing}
use Rattle.std.proofs.Math.Bool.{or-false, or-true}
use Rattle.std.proofs.lemmas.Bool.{cases_eq, cases_lt, eq-eqb, ne_eqb}
use Rattle.std.proofs.lemmas.List.{length_push, length-set, get_or-set_other, get_or-set_same}
use Rattle.std.proofs.lemmas.List.Elements.{All-push, All-weaker}
use Rattle.std.proofs.lemmas.List.Folds.{list_any-append}
use Rattle.std.proofs.lemmas.List.Sums.{sum_by-set}
use Rattle.dbp_plan.specs.declared.diagram.Clock.{Clock}
use Rattle.dbp_plan.proofs.BatchTasks.{named_below}
use Rattle.dbp_plan.specs.Clocks.{time_at}
use Rattle.trace_io.specs.Merging.{AreNext, IsLeast, TakesDue, is_at, next_of}
use Rattle.std.proofs.lemmas.Grind.{common_steps}

-- a list of numbers stays in order if a greater one is added
pub rising-push : (xs : List ℕ) (x : ℕ) → IsStrictlyIncreasing xs → All (λ y. y < x) xs → IsStrictlyIncreasing (xs ++ x ∷ [])
rising-push xs x up below k fits = grind (arith, common_steps, up k, below k 0)

-- one more name
pub named-push : (xs : List ℕ) (x i : ℕ) → list_any (λ t. t == i) (xs ++ x ∷ []) ≡ (list_any (λ t. t == i) xs || list_any (λ t. t == i) (x ∷ []))
named-push xs x i = list_any-append (λ t. t == i) xs (x ∷ [])

pub one-name : (x i : ℕ) → x ≢ i → list_any (λ t. t == i) (x ∷ []) ≡ false
one-name x i other = let no : (x == i) ≡ false = ne_eqb x i other in rw no refl

pub own-name : (x : ℕ) → list_any (λ t. t == x) (x ∷ []) ≡ true
own-name x = rw (eq-eqb x x refl) refl

-- clock n is due
pub take-one : (until : ℕ) (events : List (List ℕ)) (clocks : List Clock) (before after : List ℕ) (time n : ℕ) (tasks : List ℕ)
    → n < length before → TakesDue until events clocks before after time n tasks
    → ((d : Clock) → is_at time (next_of until events clocks before n d) ≡ true)
    → TakesDue until events clocks before (set after n (get_or after n 0 + 1)) time (n + 1) (tasks ++ n ∷ [])
take-one until events clocks before after time n tasks fits t here =
    let room : n < length after = rw t.places fits in
    record {
      in_order = rising-push tasks n t.in_order t.named;
      named = All-push (λ i. i < n + 1) tasks n (All-weaker (λ i. i < n) (λ i. i < n + 1) (λ i less. omega arith) tasks t.named) (omega arith);
      due = λ i d less. elim (cases_lt i n) [
        | inl below ↦ named-push tasks n i ∙ rw (one-name n i (λ e. absurd (omega arith)), or-false (list_any (λ t. t == i) tasks)) (t.due i d below)
        | inr above ↦
            let same : i ≡ n = omega arith in
            rw same (named-push tasks n n ∙ rw (own-name n, or-true (list_any (λ t. t == n) tasks)) (sym (here d)))
      ];
      places = length-set after n (get_or after n 0 + 1) ∙ t.places;
      moved = λ i d less. elim (cases_lt i n) [
        | inl below ↦ get_or-set_other after n i (get_or after n 0 + 1) 0 (λ e. absurd (omega arith)) ∙ t.moved i d below
        | inr above ↦
            let same : i ≡ n = omega arith in
            rw same (get_or-set_same after n (get_or after n 0 + 1) 0 room ∙ rw (here d) (ap (λ m. m + 1) (t.kept n (omega arith))))
      ];
      kept = λ i less. get_or-set_other after n i (get_or after n 0 + 1) 0 (λ e. absurd (omega arith)) ∙ t.kept i (omega arith);
      counted = omega (arith, t.counted, length_push tasks n, sum_by-set (λ x. x) after n (get_or after n 0 + 1) 0 room);
    }

-- clock n isn't due
pub pass-one : (until : ℕ) (events : List (List ℕ)) (clocks : List Clock) (before after : List ℕ) (time n : ℕ) (tasks : List ℕ)
    → TakesDue until events clocks before after time n tasks
    → ((d : Clock) → is_at time (next_of until events clocks before n d) ≡ false)
    → TakesDue until events clocks before after time (n + 1) tasks
pass-one until events clocks before after time n tasks t here = record {
  in_order = t.in_order;
  named = All-weaker (λ i. i < n) (λ i. i < n + 1) (λ i less. omega arith) tasks t.named;
  due = λ i d less. elim (cases_lt i n) [
    | inl below ↦ t.due i d below
    | inr above ↦ let same : i ≡ n = omega arith in rw same (named_below tasks n t.named ∙ sym (here d))
  ];
  places = t.places;
  moved = λ i d less. elim (cases_lt i n) [
    | inl below ↦ t.moved i d below
    | inr above ↦ let same : i ≡ n = omega arith in rw same (rw (here d) (omega (arith, t.kept n (omega arith))))
  ];
  kept = λ i less. t.kept i (omega arith);
  counted = t.counted;
}

-- an occurrence of clock n is taken, and its next time is found anew
pub next-one : (until : ℕ) (events : List (List ℕ)) (clocks : List Clock) (taken next : List ℕ) (n t : ℕ)
    → n < length taken → n < length next → AreNext until events clocks taken next
    → ((d : Clock) → t ≡ unwrap_or (time_at until events (get_or clocks n d) (get_or taken n 0 + 1)) until)
    → AreNext until events clocks (set taken n (get_or taken n 0 + 1)) (set next n t)
next-one until events clocks taken next n t fits room are here = (
  length-set next n t ∙ are.0,
  λ i d less. elim (cases_eq i n) [
    | inl same ↦
        rw same (get_or-set_same next n t 0 room ∙ here d
        ∙ ap (λ k. unwrap_or (time_at until events (get_or clocks n d) k) until) (sym (get_or-set_same taken n (get_or taken n 0 + 1) 0 fits)))
    | inr other ↦
        get_or-set_other next n i t 0 (λ same. other same) ∙ are.1 i d less
        ∙ ap (λ k. unwrap_or (time_at until events (get_or clocks i d) k) until) (sym (get_or-set_other taken n i (get_or taken n 0 + 1) 0 (λ same. other same)))
  ],
)

-- whether a next occurrence, or the end, is at a time before the end
pub at-next : (until time : ℕ) (o : Option ℕ) → time < until → unwrap_or o until ≡ time → is_at time o ≡ true
at-next until time None below is = absurd (omega arith)
at-next until time (Some t) below is = eq-eqb t time is

pub not-at-next : (until time : ℕ) (o : Option ℕ) → unwrap_or o until ≢ time → is_at time o ≡ false
not-at-next until time None other = refl
not-at-next until time (Some t) other = ne_eqb t time other

-- ---- the least of some times

pub least-none : (until : ℕ) (times : List ℕ) → IsLeast until times 0 until
least-none until times = record { within = omega arith; stands = λ early. absurd (omega (arith, early)); below = λ i less. absurd (omega (arith, less)) }

-- one time more
pub least-more : (until : ℕ) (times : List ℕ) (n least : ℕ) → IsLeast until times n least → IsLeast until times (n + 1) (min least (slice_index times n))
least-more until times n least is = record {
  within = omega (arith, is.within);
  stands = λ early. elim (cases_lt (slice_index times n) least) [
    | inl new ↦ (n, omega arith, omega (arith, new))
    | inr old ↦ let there = is.stands (omega (arith, early, old)) in (there.0, omega (arith, there.1), omega (arith, there.2, old))
  ];
  below = λ i less. elim (cases_lt i n) [
    | inl before ↦ omega (arith, is.below i before)
    | inr here ↦ let same : i ≡ n = omega (arith, less, here) in rw same (omega arith)
  ];
}

-- another time behind them
pub least-set : (until : ℕ) (times : List ℕ) (n t least : ℕ) → IsLeast until times n least → IsLeast until (set times n t) n least
least-set until times n t least is = record {
  within = is.within;
  stands = λ early. let there = is.stands early in (there.0, there.1, get_or-set_other times n there.0 t 0 (λ e. absurd (omega (arith, e, there.1))) ∙ there.2);
  below = λ i less. rw (get_or-set_other times n i t 0 (λ e. absurd (omega (arith, e, less)))) (is.below i less);
}
