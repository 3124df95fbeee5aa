-- Tasks of a diagram without a fault: each is on an event of its own.
use Rattle.std.proofs.Common.{◌≡◌, ◌≢◌, ℕ, zero, suc, ◌<◌, ◌≤◌, Bool, true, false, List, length, take, slice_get, get_or, Option, Some, None, refl, sym, ap, ◌∙◌, subst, inl, inr, arith}
use Rattle.std.specs.Prelude.{is_some, nat_lt, ◌==◌}
use Rattle.std.specs.List.{find, position, position_or_len, range_with_len}
use Rattle.std.proofs.lemmas.Bool.{both_ways, cases_Bool, cases_lt, eq-eqb, eqb-true, lt-ltb, or_parts}
use Rattle.std.proofs.lemmas.List.Sums.{position_or_len_is}
use Rattle.std.proofs.lemmas.Option.{get_or_from_slice_get, none-some, same_Some, slice_get-get_or, slice_get_within}
use Rattle.dbp_plan.specs.declared.diagram.Clock.{Clock}
use Rattle.dbp_plan.specs.declared.diagram.Clock.TheVariants.{Every, On}
use Rattle.dbp_plan.specs.declared.diagram.Diagram.{Diagram}
use Rattle.dbp_plan.specs.declared.diagram.ServedBy.{ServedBy}
use Rattle.dbp_plan.specs.declared.diagram.ServedBy.TheVariants.{Rank, Deadline}
use Rattle.dbp_plan.specs.declared.diagram.Task.{Task}
use Rattle.dbp_plan.specs.declared.limits.TheConstants.{MAX_TIME}
use Rattle.dbp_plan.specs.ListItems.{take_place}
use Rattle.dbp_plan.specs.Lookups.{no_declared_task, task_at}
use Rattle.dbp_plan.specs.Policies.{served_by}
use Rattle.dia_check.proofs.LinkLists.{any-at}
use Rattle.dia_check.proofs.PortLaws.{position-there}
use Rattle.rank_order.specs.Order.{ServesByRank}
use Rattle.slot_need.specs.declared.fail.NeedFail.{NeedFail}
use Rattle.slot_need.specs.declared.fail.NeedFail.TheVariants.{NoMemory, NotFixed, NotOnEvents, SharedEvent, TooLong}
use Rattle.slot_need.specs.Faults.{fault_under, is_off_events, is_periodic, is_same_event, is_sharing, length_fault, need_fault}
use Rattle.slot_need.specs.Scenarios.{is_on, scenario_end}
use Rattle.slot_need.proofs.Ranges.{found-first, found-within}

-- ---- what no fault says

short-enough : (end : ℕ) → length_fault end ≡ None → end ≤ MAX_TIME
short-enough end none = elim (cases_lt MAX_TIME end) [
  | inl past ↦ let is : nat_lt MAX_TIME end ≡ true = lt-ltb MAX_TIME end past in absurd (cc)
  | inr within ↦ within
]

record IsFaultless (by : ServedBy) (off shared : Option ℕ) (end : ℕ) : Type 0 where
  pub fixed : by ≡ Rank
  pub on_events : off ≡ None
  pub apart : shared ≡ None
  pub short : end ≤ MAX_TIME

no-fault : (by : ServedBy) (off shared : Option ℕ) (end : ℕ) → fault_under by off shared end ≡ None → IsFaultless by off shared end
no-fault Rank None None end none = record { fixed = refl; on_events = refl; apart = refl; short = short-enough end none }
no-fault _ _ _ end none = absurd (cc)

-- ---- what a fault says

-- a task that a fault names was found, and no fault is that memory ran out
abbrev FaultNames : Option ℕ → Option ℕ → NeedFail → Type 0
FaultNames off shared (NotOnEvents task) = off ≡ Some task
FaultNames off shared (SharedEvent task) = shared ≡ Some task
FaultNames off shared NoMemory = ⊥
FaultNames off shared _ = Unit {0}

too-long : (end : ℕ) → nat_lt MAX_TIME end ≡ true → length_fault end ≡ Some (TooLong end)
too-long end past = rw past refl

not-too-long : (end : ℕ) → nat_lt MAX_TIME end ≡ false → length_fault end ≡ None
not-too-long end within = rw within refl

fault-names : (by : ServedBy) (off shared : Option ℕ) (end : ℕ) (fault : NeedFail) → fault_under by off shared end ≡ Some fault → FaultNames off shared fault
fault-names Deadline off shared end fault is = subst (FaultNames off shared) (same_Some NotFixed fault is) tt
fault-names Rank (Some task) shared end fault is = subst (FaultNames (Some task) shared) (same_Some (NotOnEvents task) fault is) refl
fault-names Rank None (Some task) end fault is = subst (FaultNames None (Some task)) (same_Some (SharedEvent task) fault is) refl
fault-names Rank None None end fault is = elim (cases_Bool (nat_lt MAX_TIME end)) [
  | inl past ↦ subst (FaultNames None None) (same_Some (TooLong end) fault (sym (too-long end past) ∙ is)) tt
  | inr within ↦ absurd (none-some fault (sym (not-too-long end within) ∙ is))
]

module _ (d : Diagram) (w : ℕ) where
  names-of-fault : (fault : NeedFail) → need_fault d w ≡ Some fault → FaultNames (position is_off_events d.tasks) (find (is_sharing d) (range_with_len 0 (length d.tasks))) fault
  names-of-fault fault is = fault-names (served_by d.policy) (position is_off_events d.tasks) (find (is_sharing d) (range_with_len 0 (length d.tasks))) (scenario_end d w) fault is

  pub no-memory-fault : need_fault d w ≡ Some NoMemory → ⊥
  no-memory-fault = names-of-fault NoMemory

  pub sharing-within : (task : ℕ) → need_fault d w ≡ Some (SharedEvent task) → task < length d.tasks
  sharing-within task is = found-within (is_sharing d) (length d.tasks) task (names-of-fault (SharedEvent task) is)

-- ---- searches that find nothing

no-position : {A : Type 0} (test : A → Bool) (xs : List A) → position test xs ≡ None → (k : ℕ) (x : A) → slice_get xs k ≡ Some x → test x ≡ false
no-position test xs none k x at = elim (cases_Bool (test x)) [
  | inl passes ↦ absurd (cc (none, position-there test xs (any-at test xs k x at passes)))
  | inr fails ↦ fails
]

none-among-first : (test : ℕ → Bool) (n : ℕ) → find test (range_with_len 0 n) ≡ None → (i : ℕ) → i < n → test i ≡ false
none-among-first test n none i below = up_to (suc i) i (omega arith) below
  where
    up_to : (m : ℕ) (i : ℕ) → i < m → i < n → test i ≡ false
    up_to zero i less below = absurd (omega arith)
    up_to (suc m) i less below = elim (cases_Bool (test i)) [
      | inl passes ↦ absurd (cc (none, found-first test n i below passes (λ j before. up_to m j (omega arith) (omega arith))))
      | inr fails ↦ fails
    ]

pub position-at : {A : Type 0} (test : A → Bool) (xs : List A) (i : ℕ) (x : A) → slice_get xs i ≡ Some x → test x ≡ true → ((j : ℕ) (y : A) → j < i → slice_get xs j ≡ Some y → test y ≡ false) → position test xs ≡ Some i
position-at test xs i x at passes others =
    let inside = slice_get_within xs i x at in
    let first : position_or_len test xs ≡ i =
    position_or_len_is test xs i x (omega (arith, inside)) (λ k less. others k (get_or xs k x) less (slice_get-get_or xs k x (omega (arith, less, inside)))) (λ below. ap test (get_or_from_slice_get xs i x x at) ∙ passes) in
    let there : nat_lt i (length xs) ≡ true = lt-ltb i (length xs) inside in
    rw (first, there) refl

-- ---- the tasks

-- a task that occurs at each occurrence of this event, and at no other time
pub record IsOnEvent (t : Task) (event : ℕ) : Type 0 where
  pub clock : t.clock ≡ On event
  pub always : t.when ≡ None

no-guard : (when : Option ℕ) → is_some when ≡ false → when ≡ None
no-guard None none = refl
no-guard (Some input) none = absurd (cc)

event-of : (c : Clock) → is_periodic c ≡ false → (event : ℕ) × (c ≡ On event)
event-of (Every period offset) not = absurd (cc)
event-of (On event) not = (event, refl)

same-event : (a b : Clock) (e f : ℕ) → a ≡ On e → b ≡ On f → is_same_event a b ≡ false → e ≢ f
same-event a b e f is_a is_b not same =
    let here : is_same_event (On e) (On f) ≡ false = ap (λ c. is_same_event c (On f)) (sym is_a) ∙ ap (is_same_event a) (sym is_b) ∙ not in
    both_ways (e == f) here (eq-eqb e f same)

module _ (d : Diagram) (w : ℕ) (none : need_fault d w ≡ None) where
  faultless : IsFaultless (served_by d.policy) (position is_off_events d.tasks) (find (is_sharing d) (range_with_len 0 (length d.tasks))) (scenario_end d w)
  faultless = no-fault (served_by d.policy) (position is_off_events d.tasks) (find (is_sharing d) (range_with_len 0 (length d.tasks))) (scenario_end d w) none

  pub by-rank : ServesByRank d
  by-rank = faultless.fixed

  pub short-scenario : scenario_end d w ≤ MAX_TIME
  short-scenario = faultless.short

  pub on-event : (i : ℕ) (t : Task) → slice_get d.tasks i ≡ Some t → (event : ℕ) × IsOnEvent t event
  on-event i t at =
      let (clock, guard) = or_parts (is_periodic t.clock) (is_some t.when) (no-position is_off_events d.tasks faultless.on_events i t at) in
      let (event, is) = event-of t.clock clock in
      (event, record { clock = is; always = no-guard t.when guard })

  pub events-differ : (i j : ℕ) (s t : Task) (e f : ℕ) → i < j → slice_get d.tasks i ≡ Some s → slice_get d.tasks j ≡ Some t → s.clock ≡ On e → t.clock ≡ On f → e ≢ f
  events-differ i j s t e f less at_s at_t is_e is_f =
      let fails : is_sharing d j ≡ false = none-among-first (is_sharing d) (length d.tasks) faultless.apart j (slice_get_within d.tasks j t at_t) in
      let own : task_at d j ≡ t = get_or_from_slice_get d.tasks j t no_declared_task at_t in
      let test : Task → Bool = λ u. is_same_event u.clock (task_at d j).clock in
      same-event s.clock (task_at d j).clock e f is_e (ap (λ (u : Task). u.clock) own ∙ is_f) (elim (cases_Bool (test s)) [
        | inl passes ↦ absurd (both_ways (is_sharing d j) fails (any-at test (take j d.tasks) i s (take_place d.tasks j i less ∙ at_s) passes))
        | inr isnt ↦ isnt
      ])

  -- the first task on the event of a task is this one
  pub first-on-event : (i : ℕ) (t : Task) (event : ℕ) → slice_get d.tasks i ≡ Some t → t.clock ≡ On event → position (λ u. is_on event u.clock) d.tasks ≡ Some i
  first-on-event i t event at is =
      position-at (λ u. is_on event u.clock) d.tasks i t at (ap (is_on event) is ∙ eq-eqb event event refl)
      (λ j s less at_s.
      let (other, on) = on-event j s at_s in
      elim (cases_Bool (is_on event s.clock)) [
        | inl passes ↦ absurd (events-differ j i s t other event less at_s at on.clock is (eqb-true other event (ap (is_on event) (sym on.clock) ∙ passes)))
        | inr fails ↦ fails
      ])
