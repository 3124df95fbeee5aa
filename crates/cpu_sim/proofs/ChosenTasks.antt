-- At an event: the tasks that are chosen, and for which processors.
use Rattle.std.proofs.Common.{◌≡◌, ◌≢◌, ℕ, ◌+◌, ◌<◌, ◌≤◌, ◌⊎◌, Bool, true, false, List, length, get_or, Option, Some, None, refl, sym, ap, ◌∙◌, subst, inl, inr, arith}
use Rattle.std.specs.Prelude.{◌&&◌, not}
use Rattle.std.specs.Option.{option_map}
use Rattle.std.proofs.lemmas.Bool.{cases_Bool, eq-eqb, eqb-true, le-ltb, lt-ltb}
use Rattle.std.proofs.lemmas.Option.{same_Some}
use Rattle.dbp_plan.specs.declared.plan.Plan.{Plan}
use Rattle.dbp_plan.specs.declared.schedule.Batch.{Batch}
use Rattle.dbp_plan.specs.Lookups.{declared_task}
use Rattle.dbp_plan.proofs.PlanRules.{closed_task}
use Rattle.instance_steps.proofs.Turned.{and_false}
use Rattle.rank_order.specs.Instances.{Instance}
use Rattle.rank_order.specs.Queue.{Holds}
use Rattle.rank_order.specs.Service.{GoesBefore, IsFirst}
use Rattle.rank_order.proofs.Jump.{IsQuiet}
use Rattle.virtual_time.proofs.Steps.{quiet, waits_from, waits_is}
use Rattle.virtual_time.proofs.TickStages.{below_next}
use Rattle.cpu_sim.specs.Choices.{is_blocked_in, last_of}
use Rattle.cpu_sim.specs.Processors.{MayBeServed, left_on, served_on}
use Rattle.cpu_sim.specs.Record.{cpu_count}
use Rattle.cpu_sim.specs.Services.{services}
use Rattle.cpu_sim.specs.Simulations.{IsEvent, IsJump, IsNext, is_chosen, is_done, is_open, is_task, served_before}
use Rattle.cpu_sim.specs.declared.simulation.Simulation.{Simulation}
use Rattle.cpu_sim.proofs.Choices.{held_at}
use Rattle.cpu_sim.proofs.OneCpu.{some-serves}
use Rattle.cpu_sim.proofs.ProcessorJump.{RunsFor}
use Rattle.cpu_sim.proofs.SomeServiceOn.{services-are}

pub small_cpu : (p : Plan) (i : ℕ) → i < length p.diagram.tasks → (declared_task p i).cpu < cpu_count
small_cpu p i small = omega (arith, (closed_task p i small).cpu)

-- ---- one processor more

module _ (p : Plan) (chosen : List (Option ℕ)) where
  task_there : (o : Option ℕ) (i : ℕ) → is_task i o ≡ true → o ≡ Some i
  task_there None i is = absurd (cc)
  task_there (Some j) i is = ap (λ (k : ℕ). Some k) (eqb-true j i is)

  -- one that isn't chosen for the processor stays as it is
  apart_from : (c i : ℕ) → (get_or chosen c None ≡ Some i → ⊥) → (is_chosen p chosen i ≡ false) ⊎ ((declared_task p i).cpu ≢ c)
  apart_from c i other = elim (cases_Bool (is_chosen p chosen i)) [
    | inr not_it ↦ inl not_it
    | inl it ↦ inr (λ own. other (ap (λ (k : ℕ). get_or chosen k None) (sym own) ∙ task_there (get_or chosen (declared_task p i).cpu None) i it))
  ]

  pub done_other : (c i : ℕ) → (get_or chosen c None ≡ Some i → ⊥) → is_done p chosen (c + 1) i ≡ is_done p chosen c i
  done_other c i other = elim (apart_from c i other) [
    | inl not_it ↦ rw not_it refl
    | inr apart ↦ ap (λ (b : Bool). is_chosen p chosen i && b) (below_next (declared_task p i).cpu c apart)
  ]

  pub open_other : (c i : ℕ) → (get_or chosen c None ≡ Some i → ⊥) → is_open p chosen (c + 1) i ≡ is_open p chosen c i
  open_other c i other = elim (apart_from c i other) [
    | inl not_it ↦ rw not_it refl
    | inr apart ↦ ap (λ (b : Bool). is_chosen p chosen i && not b) (below_next (declared_task p i).cpu c apart)
  ]

  pub none_done : (i : ℕ) → is_done p chosen 0 i ≡ false
  none_done i = ap (λ (b : Bool). is_chosen p chosen i && b) (le-ltb (declared_task p i).cpu 0 (omega arith)) ∙ and_false (is_chosen p chosen i)

  pub all_done : (i : ℕ) → i < length p.diagram.tasks → is_done p chosen cpu_count i ≡ is_open p chosen 0 i
  all_done i small =
      ap (λ (b : Bool). is_chosen p chosen i && b) (lt-ltb (declared_task p i).cpu cpu_count (small_cpu p i small))
      ∙ sym (ap (λ (b : Bool). is_chosen p chosen i && not b) (le-ltb (declared_task p i).cpu 0 (omega arith)))

  pub none_open : (i : ℕ) → i < length p.diagram.tasks → is_open p chosen cpu_count i ≡ false
  none_open i small = ap (λ (b : Bool). is_chosen p chosen i && not b) (lt-ltb (declared_task p i).cpu cpu_count (small_cpu p i small)) ∙ and_false (is_chosen p chosen i)

  module _ (c i : ℕ) (next : IsNext chosen c i) (own : (declared_task p i).cpu ≡ c) where
    is-chosen : is_chosen p chosen i ≡ true
    is-chosen = ap (λ (k : ℕ). is_task i (get_or chosen k None)) own ∙ ap (is_task i) next.there ∙ eq-eqb i i refl

    pub done_after : is_done p chosen (c + 1) i ≡ true
    done_after = rw (is-chosen, lt-ltb (declared_task p i).cpu (c + 1) (omega (arith, own))) refl

    pub not_done : is_done p chosen c i ≡ false
    not_done = rw (is-chosen, le-ltb (declared_task p i).cpu c (omega (arith, own))) refl

    pub open_before : is_open p chosen c i ≡ true
    open_before = rw (is-chosen, le-ltb (declared_task p i).cpu c (omega (arith, own))) refl

    pub is_open_first : is_open p chosen 0 i ≡ true
    is_open_first = rw (is-chosen, le-ltb (declared_task p i).cpu 0 (omega arith)) refl

    pub not_open : is_open p chosen (c + 1) i ≡ false
    not_open = rw (is-chosen, lt-ltb (declared_task p i).cpu (c + 1) (omega (arith, own))) refl

-- ---- the instances that are chosen

module _ (p : Plan) (s : Simulation) (chosen : List (Option ℕ)) (e : IsEvent p s chosen) where
  pub record IsChosen (c i : ℕ) : Type 0 where
    pub small : i < length p.diagram.tasks
    pub some : 0 < get_or s.run.rest.items i 0
    pub within : get_or s.run.rest.items i 0 ≤ (declared_task p i).cost
    pub own : (declared_task p i).cpu ≡ c
    pub free : is_blocked_in p s.run i ≡ false
    pub serves : services p c s.run.time ≡ Some (last_of p s.run.released i)
    pub left : left_on p (services p) (last_of p s.run.released i) s.run.time ≡ get_or s.run.rest.items i 0
    pub served : served_on p (services p) s.run.time (last_of p s.run.released i) ≡ served_before p s.run i

  pub chosen_at : (c i : ℕ) → IsNext chosen c i → IsChosen c i
  chosen_at c i next =
      let serves : services p c s.run.time ≡ Some (last_of p s.run.released i) = e.choices c (omega (arith, next.small)) ∙ ap (option_map (last_of p s.run.released)) next.there in
      let first : IsFirst (GoesBefore p) (MayBeServed p (services p) c s.run.time) (Some (last_of p s.run.released i)) =
      subst (IsFirst (GoesBefore p) (MayBeServed p (services p) c s.run.time)) serves ((services-are p).each c s.run.time) in
      let at = e.simulation.run.at in
      let is = waits_is p (λ j. (declared_task p j).cpu) (services p) s.run.released (λ k. s.run.time) s.run.rest.items s.run.ends at (s.run.time + 1) e.until (last_of p s.run.released i) (omega arith) first.0.waits in
      let under = at.under i first.0.waits.instance.task is.0 in
      record {
        small = first.0.waits.instance.task;
        some = is.0;
        within = omega (arith, under);
        own = first.0.own;
        free = first.0.free;
        serves = serves;
        left = sym under;
        served = omega (arith, under, is.0);
      }

  pub none_at : (c : ℕ) → c < cpu_count → get_or chosen c None ≡ None → services p c s.run.time ≡ None
  none_at c small none = e.choices c (omega (arith, small)) ∙ ap (option_map (last_of p s.run.released)) none

  -- who is served is chosen
  pub chosen_of : (c : ℕ) (x : Instance) → services p c s.run.time ≡ Some x → (i : ℕ) × IsNext chosen c i × (x ≡ last_of p s.run.released i)
  chosen_of c x is =
      let first : IsFirst (GoesBefore p) (MayBeServed p (services p) c s.run.time) (Some x) = subst (IsFirst (GoesBefore p) (MayBeServed p (services p) c s.run.time)) is ((services-are p).each c s.run.time) in
      let cpu = (closed_task p x.task first.0.waits.instance.task).cpu in
      let own : (declared_task p x.task).cpu ≡ c = first.0.own in
      let small : c < cpu_count = omega (arith, cpu, own) in
      go small (get_or chosen c None) refl (sym is ∙ e.choices c (omega (arith, small)))
    where
      go : c < cpu_count → (o : Option ℕ) → get_or chosen c None ≡ o → Some x ≡ option_map (last_of p s.run.released) (get_or chosen c None) → (i : ℕ) × IsNext chosen c i × (x ≡ last_of p s.run.released i)
      go small None at same = let same' : Some x ≡ None = same ∙ ap (option_map (last_of p s.run.released)) at in absurd (cc)
      go small (Some i) at same = (i, record { small = small; there = at }, same_Some _ _ (same ∙ ap (option_map (last_of p s.run.released)) at))

  -- ---- the jump

  module _ (d : ℕ) (jump : IsJump p s.run chosen d) where
    pub early : (k : ℕ) (a : Batch) → k < s.run.released → k < length p.batches → (get_or p.batches k a).time ≤ s.run.time
    early = e.simulation.run.at.early 0

    pub quiet_for : IsQuiet p s.run.time d
    quiet_for = quiet p (λ j. (declared_task p j).cpu) (services p) s.run.released (λ k. s.run.time) s.run.rest.items s.run.ends e.simulation.run.at (s.run.time + d) jump.until 0 d (omega arith)

    pub runs_at : (c i : ℕ) → IsNext chosen c i → RunsFor p i (served_before p s.run i) d
    runs_at c i next =
        let is = chosen_at c i next in
        let fits = jump.fits c i next.small next.there in
        record {
          fits = omega (arith, fits, is.within);
          no_read = λ n above below r inside at. let sooner = jump.no_read c i r next.small next.there inside (omega (arith, above, at)) in omega (arith, sooner, at, below);
        }

    pub runs : (c : ℕ) (x : Instance) → services p c s.run.time ≡ Some x → RunsFor p x.task (served_on p (services p) s.run.time x) d
    runs c x is =
        let (i, next, same) = chosen_of c x is in
        let at = chosen_at c i next in
        let own : RunsFor p i (served_on p (services p) s.run.time (last_of p s.run.released i)) d = subst (λ (n : ℕ). RunsFor p i n d) (sym at.served) (runs_at c i next) in
        subst (λ (y : Instance). RunsFor p y.task (served_on p (services p) s.run.time y) d) (sym same) own

  -- at an event where an instance waits, one is chosen
  pub some_chosen : (i a : ℕ) → Holds s.run.ready i a → (c : ℕ) × (j : ℕ) × IsNext chosen c j
  some_chosen i a held =
      let is = held_at p s.run e.simulation.run e.until held.0 i a held.1 in
      let waits = waits_from p (λ j. (declared_task p j).cpu) (services p) s.run.released (λ k. s.run.time) s.run.rest.items s.run.ends e.simulation.run.at i is.small is.some in
      let (c, z, serves) = some-serves p (services p) (services-are p) s.run.time (last_of p s.run.released i) waits in
      let (j, next, same) = chosen_of c z serves in
      (c, j, next)
