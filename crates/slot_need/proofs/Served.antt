-- In a scenario its task runs through: each instance is served as it is released, until it ends, and no other task before the last has ended.
use Rattle.std.proofs.Common.{◌≡◌, ◌≢◌, ℕ, zero, suc, ◌+◌, ◌-◌, ◌*◌, ◌<◌, ◌≤◌, ◌⊎◌, true, List, [], ◌∷◌, length, slice_get, Option, Some, refl, sym, ap, ◌∙◌, subst, inl, inr, arith}
use Rattle.std.specs.Prelude.{IsTrue, slice_index, slice_index_or, ◌==◌}
use Rattle.std.specs.List.{list_any}
use Rattle.std.proofs.Math.Nat.{mul-le-mul_right}
use Rattle.std.proofs.lemmas.Bool.{and_parts, both_ways, cases_Bool, cases_eq, cases_lt, eq-eqb, eqb-true, lt-ltb, ltb-true}
use Rattle.std.proofs.lemmas.List.FromFn.{get_or-map-range_with_len, length-map-range_with_len}
use Rattle.dbp_plan.specs.declared.diagram.Diagram.{Diagram}
use Rattle.dbp_plan.specs.declared.plan.Plan.{Plan}
use Rattle.dbp_plan.specs.Lookups.{declared_task, task_at}
use Rattle.dbp_plan.specs.Occurrences.{times_of}
use Rattle.dia_check.proofs.LinkLists.{any-at}
use Rattle.rank_order.specs.Ends.{IsEnd, NoOverrun}
use Rattle.rank_order.specs.Instances.{Instance, IsInstance, before_it, release_of}
use Rattle.rank_order.specs.Order.{ServesByRank, goes_before}
use Rattle.rank_order.specs.Service.{GoesBefore, IsService, Ran, Waits, left_of, served_ticks}
use Rattle.rank_order.proofs.Choices.{same_instance, tick_of, tick_own}
use Rattle.rank_order.proofs.InstanceEnds.{some_cost}
use Rattle.rank_order.proofs.Jump.{IsQuiet, runs}
use Rattle.rank_order.proofs.OneService.{serves_waiting}
use Rattle.rank_order.proofs.ServedTicks.{left_falls, served_grows, served_next, served_none, unserved}
use Rattle.slot_need.specs.Bodies.{IsScenario}
use Rattle.slot_need.specs.Scenarios.{firing_count, firing_of_reader, firing_time, lower_readers}
use Rattle.slot_need.proofs.TaskFirings.{is-reader}

-- under service by rank the higher rank goes first
ranked-first : (d : Diagram) (i j a b : ℕ) → ServesByRank d → slice_index d.ranks i < slice_index d.ranks j → IsTrue (goes_before d i a j b)
ranked-first d i j a b fixed less = rw (fixed, lt-ltb (slice_index d.ranks i) (slice_index d.ranks j) less) refl

-- where a number of a list stands
place-in : (xs : List ℕ) (i : ℕ) → list_any (λ r. r == i) xs ≡ true → (j : ℕ) × (slice_get xs j ≡ Some i)
place-in [] i is = absurd (cc)
place-in (x ∷ xs) i is = elim (cases_Bool (x == i)) [
  | inl here ↦ (0, ap Some (eqb-true x i here))
  | inr isnt ↦ let (j, at) = place-in xs i (rw isnt at is) in (suc j, at)
]

module _ (d : Diagram) (w : ℕ) (there : w < length d.tasks) (fixed : ServesByRank d) (p : Plan) (is : IsScenario d w p) (serve : ℕ → Option Instance) (service : IsService p serve) where
  abbrev count : ℕ
  count = firing_count d w

  abbrev cost : ℕ
  cost = (task_at d w).cost

  -- the instance of the task with this number, from 1
  abbrev pub own : ℕ → Instance
  own n = record { task = w; number = n }

  own-cost : (declared_task p w).cost ≡ cost
  own-cost = ap (λ (e : Diagram). (task_at e w).cost) is.diagram

  pub own-named : w < length p.diagram.tasks
  own-named = subst (λ (e : Diagram). w < length e.tasks) (sym is.diagram) there

  pub cost-some : 1 ≤ cost
  cost-some = omega (arith, some_cost p w own-named, own-cost)

  -- ---- releases

  pub own-count : length (times_of p.batches w) ≡ count
  own-count = ap (λ (ts : List ℕ). length ts) is.task ∙ length-map-range_with_len (firing_time d w) 0 count

  pub own-release : (n : ℕ) → 1 ≤ n → n ≤ count → release_of p (own n) ≡ (n - 1) * cost
  own-release n some within =
      ap (λ (ts : List ℕ). slice_index_or ts (n - 1) 0) is.task ∙ get_or-map-range_with_len (firing_time d w) 0 count (n - 1) (n - 1) 0 (omega (arith, some, within)) (omega arith)

  pub own-instance : (n : ℕ) → 1 ≤ n → n ≤ count → IsInstance p (own n)
  own-instance n some within = record { task = own-named; from_one = some; within = omega (arith, within, own-count) }

  -- an instance of another task is the one of a reader below
  pub record IsReaders (x : Instance) : Type 0 where
    pub place : ℕ
    pub at : slice_get (lower_readers d w) place ≡ Some x.task
    pub only : x.number ≡ 1
    pub release : release_of p x ≡ firing_time d w (firing_of_reader d w place)

  of-reader : (x : Instance) → IsInstance p x → (j : ℕ) → slice_get (lower_readers d w) j ≡ Some x.task → IsReaders x
  of-reader x instance j at =
      let times = is.readers j x.task at in
      let one : length (times_of p.batches x.task) ≡ 1 = ap (λ (ts : List ℕ). length ts) times in
      let only : x.number ≡ 1 = omega (arith, instance.from_one, instance.within, one) in
      record {
        place = j;
        at = at;
        only = only;
        release = ap (λ (n : ℕ). slice_index_or (times_of p.batches x.task) (n - 1) 0) only ∙ ap (λ (ts : List ℕ). slice_index_or ts 0 0) times;
      }

  pub instance-cases : (x : Instance) → IsInstance p x → (x.task ≡ w) ⊎ IsReaders x
  instance-cases x instance = elim (cases_eq x.task w) [
    | inl same ↦ inl same
    | inr apart ↦ elim (cases_Bool (list_any (λ r. r == x.task) (lower_readers d w))) [
      | inl is_in ↦ let (j, at) = place-in (lower_readers d w) x.task is_in in inr (of-reader x instance j at)
      | inr isnt ↦
          let named : x.task < length d.tasks = subst (λ (e : Diagram). x.task < length e.tasks) is.diagram instance.task in
          let none : times_of p.batches x.task ≡ [] =
          is.others x.task named apart (λ j at. both_ways (list_any (λ r. r == x.task) (lower_readers d w)) isnt (any-at (λ r. r == x.task) (lower_readers d w) j x.task at (eq-eqb x.task x.task refl))) in
          absurd (omega (arith, instance.from_one, instance.within, ap (λ (ts : List ℕ). length ts) none))
    ]
  ]

  same-own : (x : Instance) → x.task ≡ w → x ≡ own x.number
  same-own x same = same_instance x (own x.number) same refl

  -- each release is at a firing
  release-at : (x : Instance) → IsInstance p x → (m : ℕ) × (release_of p x ≡ m * cost)
  release-at x instance = elim (instance-cases x instance) [
    | inl same ↦
        let within : x.number ≤ count = omega (arith, instance.within, ap (λ (i : ℕ). length (times_of p.batches i)) same, own-count) in
        (x.number - 1, ap (release_of p) (same-own x same) ∙ own-release x.number instance.from_one within)
    | inr reader ↦ (firing_of_reader d w reader.place, reader.release)
  ]

  quiet : (k : ℕ) → IsQuiet p (k * cost) cost
  quiet k y instance before =
      let (m, at) = release-at y instance in
      elim (cases_lt k m) [
        | inl after ↦ let least : (k + 1) * cost ≤ m * cost = mul-le-mul_right cost (omega (arith, after)) in absurd (omega (arith, least, before, at))
        | inr within ↦ let most : m * cost ≤ k * cost = mul-le-mul_right cost within in omega (arith, most, at)
      ]

  -- ---- the service

  -- at the firing with this number all earlier instances of the task have ended, and no other was served
  pub record IsThrough (k : ℕ) : Type 0 where
    pub ended : (n : ℕ) → 1 ≤ n → n ≤ k → left_of p serve (own n) (k * cost) ≡ 0
    pub unserved : (y : Instance) → y.task ≢ w → served_ticks serve y (k * cost) ≡ 0

  goes-first : (x y : Instance) → x.task ≡ w → IsReaders y → GoesBefore p x y
  goes-first x y same reader =
      let lower = (and_parts _ _ (is-reader d w reader.place y.task reader.at).0).0 in
      let less : slice_index d.ranks w < slice_index d.ranks y.task = ltb-true _ _ lower in
      ranked-first p.diagram x.task y.task (release_of p x) (release_of p y) (subst ServesByRank (sym is.diagram) fixed)
      (subst (λ (e : Diagram). slice_index e.ranks x.task < slice_index e.ranks y.task) (sym is.diagram) (subst (λ (i : ℕ). slice_index d.ranks i < slice_index d.ranks y.task) (sym same) less))

  module _ (k : ℕ) (below : k < count) (before : IsThrough k) where
    abbrev x : Instance
    x = own (k + 1)

    instance : IsInstance p x
    instance = own-instance (k + 1) (omega arith) (omega (arith, below))

    release : release_of p x ≡ k * cost
    release = let one : k + 1 - 1 ≡ k = omega arith in own-release (k + 1) (omega arith) (omega (arith, below)) ∙ ap (λ (m : ℕ). m * cost) one

    none-yet : served_ticks serve x (k * cost) ≡ 0
    none-yet = unserved p serve (serves_waiting p serve service) x (k * cost) (omega (arith, release))

    waits : Waits p (left_of p serve) (k * cost) x
    waits = record { instance = instance; released = omega (arith, release); unfinished = omega (arith, none-yet, cost-some, own-cost) }

    first-of : (y : Instance) → Waits p (left_of p serve) (k * cost) y → (y ≡ x) ⊎ GoesBefore p x y
    first-of y w_y = elim (instance-cases y w_y.instance) [
      | inr reader ↦ inr (goes-first x y refl reader)
      | inl same ↦
          let is_own = same-own y same in
          let within : y.number ≤ count = omega (arith, w_y.instance.within, ap (λ (i : ℕ). length (times_of p.batches i)) same, own-count) in
          let at : release_of p y ≡ (y.number - 1) * cost = ap (release_of p) is_own ∙ own-release y.number w_y.instance.from_one within in
          elim (cases_lt k y.number) [
            | inr ended ↦ absurd (omega (arith, w_y.unfinished, ap (λ (z : Instance). left_of p serve z (k * cost)) is_own, before.ended y.number w_y.instance.from_one ended))
            | inl later ↦ elim (cases_lt (k + 1) y.number) [
              | inl past ↦ let least : (k + 1) * cost ≤ (y.number - 1) * cost = mul-le-mul_right cost (omega (arith, past)) in absurd (omega (arith, least, at, w_y.released, cost-some))
              | inr last ↦ inl (is_own ∙ ap own (omega (arith, later, last)))
            ]
          ]
    ]

    ran : Ran serve x (k * cost) cost
    ran = runs p serve service (k * cost) cost (quiet k) x (waits, first-of) (omega (arith, none-yet, own-cost)) cost (omega arith)

    next-firing : k * cost + cost ≡ (k + 1) * cost
    next-firing = omega arith

    next : IsThrough (k + 1)
    next = record {
      ended = λ n some within. elim (cases_lt k n) [
        | inl last ↦
            let same : n ≡ k + 1 = omega (arith, last, within) in
            subst (λ (m : ℕ). left_of p serve (own m) ((k + 1) * cost) ≡ 0) (sym same)
            (omega (arith, ran.own, none-yet, own-cost, ap (λ (t : ℕ). served_ticks serve x t) next-firing))
        | inr earlier ↦ omega (arith, before.ended n some earlier, left_falls p serve (own n) (k * cost) ((k + 1) * cost) (mul-le-mul_right cost (omega arith)))
      ];
      unserved = λ y apart.
          omega (arith, ran.others y (λ same. apart (ap (λ (z : Instance). z.task) same)), before.unserved y apart, ap (λ (t : ℕ). served_ticks serve y t) next-firing);
    }

  pub through : (k : ℕ) → k ≤ count → IsThrough k
  through zero within = record {
    ended = λ n some below. absurd (omega (arith, some, below));
    unserved = λ y apart. let start : 0 * cost ≡ 0 = omega arith in ap (λ (t : ℕ). served_ticks serve y t) start ∙ served_none serve y;
  }
  through (suc k) within =
      let more : k + 1 ≡ suc k = omega arith in
      subst IsThrough more (next k (omega (arith, within)) (through k (omega (arith, within))))

  -- ---- what follows

  pub no-overrun : NoOverrun p (left_of p serve)
  no-overrun = record {
    none = λ t x late. elim (instance-cases x late.instance) [
      | inr reader ↦ absurd (omega (arith, late.not_first, reader.only))
      | inl same ↦
          let is_own = same-own x same in
          let within : x.number ≤ count = omega (arith, late.instance.within, ap (λ (i : ℕ). length (times_of p.batches i)) same, own-count) in
          let at : t ≡ (x.number - 1) * cost = sym late.at ∙ ap (release_of p) is_own ∙ own-release x.number late.instance.from_one within in
          let done = (through (x.number - 1) (omega (arith, within))).ended (x.number - 1) (omega (arith, late.not_first)) (omega arith) in
          let here : left_of p serve (before_it x) t ≡ 0 = ap (λ (i : ℕ). left_of p serve (record { task = i; number = x.number - 1 }) t) same ∙ ap (λ (u : ℕ). left_of p serve (own (x.number - 1)) u) at ∙ done in
          absurd (omega (arith, late.unfinished, here))
    ];
  }

  -- a reader ends after the last instance of the task
  pub ends-late : (x : Instance) → x.task ≢ w → (e : ℕ) → IsEnd serve x e → count * cost < e
  ends-late x apart e end = elim (cases_lt end.last (count * cost)) [
    | inr later ↦ omega (arith, later, end.after)
    | inl early ↦
        let tick : tick_of x (serve end.last) ≡ 1 = ap (tick_of x) end.served ∙ tick_own x in
        let same : suc end.last + (count * cost - suc end.last) ≡ count * cost = omega (arith, early) in
        let grown = served_grows serve x (suc end.last) (count * cost - suc end.last) in
        absurd (omega (arith, served_next serve x end.last, tick, grown, ap (λ (t : ℕ). served_ticks serve x t) same, (through count (omega arith)).unserved x apart))
  ]
