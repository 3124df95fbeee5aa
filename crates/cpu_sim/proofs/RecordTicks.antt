-- The events so far on several processors: one service more, one end more, one batch more, and what a jump adds.
use Rattle.std.proofs.Common.{◌≡◌, ◌≢◌, ℕ, zero, suc, ◌+◌, ◌-◌, ◌<◌, ◌≤◌, List, [], ◌∷◌, ◌++◌, append_assoc, length, take, get_or, Option, Some, None, refl, sym, ap, ◌∙◌, subst, arith}
use Rattle.std.specs.List.{flat_map, range_with_len}
use Rattle.std.proofs.lemmas.List.{append-nil}
use Rattle.dbp_plan.specs.declared.plan.Plan.{Plan}
use Rattle.dbp_plan.specs.declared.schedule.Batch.{Batch}
use Rattle.rank_order.specs.Instances.{Instance}
use Rattle.rank_order.specs.Service.{served_ticks}
use Rattle.rank_order.proofs.Jump.{IsQuiet}
use Rattle.instance_steps.specs.Events.{Event, batch_events, end_events}
use Rattle.virtual_time.specs.Pieces.{end_events_of, release_events_at, service_events_of}
use Rattle.virtual_time.proofs.PieceEvents.{an_end, no_end, no_steps, none_after, none_inside, none_later, release_more, releases_so_far}
use Rattle.cpu_sim.specs.Processors.{IsServiceOn, left_on, served_on}
use Rattle.cpu_sim.specs.Record.{cpu_count, ends_below, events_at, events_before, events_so_far, services_below}
use Rattle.cpu_sim.proofs.ProcessorJump.{RunsFor, runs_served, stays_on}
use Rattle.cpu_sim.proofs.OneServiceOn.{serves-one-of}

-- ---- lists over processors

-- one processor more
more-from : (f : ℕ → List Event) (a n : ℕ) → flat_map f (range_with_len a (suc n)) ≡ flat_map f (range_with_len a n) ++ f (a + n)
more-from f a zero = append-nil (f a) ∙ ap f (let e : a ≡ a + 0 = omega arith in e)
more-from f a (suc n) =
    ap (λ (l : List Event). f a ++ l) (more-from f (a + 1) n)
    ∙ sym (append_assoc (f a) (flat_map f (range_with_len (a + 1) n)) (f (a + 1 + n)))
    ∙ ap (λ (k : ℕ). (f a ++ flat_map f (range_with_len (a + 1) n)) ++ f k) (let e : a + 1 + n ≡ a + suc n = omega arith in e)

pub one-more : (f : ℕ → List Event) (n : ℕ) → flat_map f (range_with_len 0 (n + 1)) ≡ flat_map f (range_with_len 0 n) ++ f n
one-more f n =
    ap (λ (k : ℕ). flat_map f (range_with_len 0 k)) (let e : n + 1 ≡ suc n = omega arith in e)
    ∙ more-from f 0 n ∙ ap (λ (k : ℕ). flat_map f (range_with_len 0 n) ++ f k) (let e : 0 + n ≡ n = omega arith in e)

pub none-of : (f : ℕ → List Event) (cs : List ℕ) → ((c : ℕ) → f c ≡ []) → flat_map f cs ≡ []
none-of f [] none = refl
none-of f (c ∷ cs) none = ap (λ (l : List Event). l ++ flat_map f cs) (none c) ∙ none-of f cs none

-- what comes after the last of four lists
after-all : (a e r s x : List Event) → (a ++ (e ++ (r ++ s))) ++ x ≡ a ++ (e ++ (r ++ (s ++ x)))
after-all a e r s x =
    append_assoc a (e ++ (r ++ s)) x
    ∙ ap (λ (l : List Event). a ++ l) (append_assoc e (r ++ s) x ∙ ap (λ (l : List Event). e ++ l) (append_assoc r s x))

module _ (p : Plan) (serve : ℕ → ℕ → Option Instance) where
  pub next_events : (t : ℕ) → events_before p serve (suc t) ≡ events_before p serve t ++ events_at p serve t
  unfolding events_before
  next_events t = refl

  pub no_events_yet : (m : ℕ) → events_so_far p serve m 0 0 0 ≡ []
  unfolding events_before
  no_events_yet m = refl

  -- ---- one processor more

  -- the service of the processor n is made
  pub one_service_more : (m b n t : ℕ) (o : Option Instance) → serve n t ≡ o → events_so_far p serve m b (n + 1) t ≡ events_so_far p serve m b n t ++ service_events_of p (serve n) o t
  one_service_more m b n t o is =
      let one : ℕ → List Event = λ c. service_events_of p (serve c) (serve c t) t in
      let released = release_events_at p (take b p.batches) t in
      ap (λ (l : List Event). events_before p serve t ++ (ends_below p serve m t ++ (released ++ l))) (one-more one n)
      ∙ sym (after-all (events_before p serve t) (ends_below p serve m t) released (services_below p serve n t) (service_events_of p (serve n) (serve n t) t))
      ∙ ap (λ (q : Option Instance). events_so_far p serve m b n t ++ service_events_of p (serve n) q t) is

  pub no_service_more : (m b n t : ℕ) → serve n t ≡ None → events_so_far p serve m b (n + 1) t ≡ events_so_far p serve m b n t
  no_service_more m b n t is = one_service_more m b n t None is ∙ append-nil (events_so_far p serve m b n t)

  -- no processor serves
  pub no_services : (m b n t : ℕ) → ((c : ℕ) → serve c t ≡ None) → events_so_far p serve m b n t ≡ events_so_far p serve m b 0 t
  no_services m b n t none =
      let made : services_below p serve n t ≡ [] =
      none-of (λ c. service_events_of p (serve c) (serve c t) t) (range_with_len 0 n) (λ c. ap (λ (o : Option Instance). service_events_of p (serve c) o t) (none c)) in
      ap (λ (l : List Event). events_before p serve t ++ (ends_below p serve m t ++ (release_events_at p (take b p.batches) t ++ l))) made

  -- no batch so far has the time of the tick
  so-far-ends : (m b t : ℕ) → release_events_at p (take b p.batches) t ≡ [] → events_so_far p serve m b 0 t ≡ events_before p serve t ++ ends_below p serve m t
  so-far-ends m b t none =
      ap (λ (l : List Event). events_before p serve t ++ (ends_below p serve m t ++ (l ++ []))) none
      ∙ ap (λ (l : List Event). events_before p serve t ++ l) (append-nil (ends_below p serve m t))

  -- the end on the processor m is made
  pub one_end_more : (m b t : ℕ) (o : Option Instance) → release_events_at p (take b p.batches) (suc t) ≡ [] → serve m t ≡ o
      → events_so_far p serve (m + 1) b 0 (suc t) ≡ events_so_far p serve m b 0 (suc t) ++ end_events_of p (serve m) o (suc t)
  one_end_more m b t o none is =
      let one : ℕ → List Event = λ c. end_events_of p (serve c) (serve c t) (suc t) in
      so-far-ends (m + 1) b (suc t) none
      ∙ ap (λ (l : List Event). events_before p serve (suc t) ++ l) (one-more one m)
      ∙ sym (append_assoc (events_before p serve (suc t)) (ends_below p serve m (suc t)) (end_events_of p (serve m) (serve m t) (suc t)))
      ∙ ap (λ (l : List Event). l ++ end_events_of p (serve m) (serve m t) (suc t)) (sym (so-far-ends m b (suc t) none))
      ∙ ap (λ (q : Option Instance). events_so_far p serve m b 0 (suc t) ++ end_events_of p (serve m) q (suc t)) is

  -- ---- a batch is released

  pub one_batch_more : (m b t : ℕ) (e : Batch) → b < length p.batches → (get_or p.batches b e).time ≡ t → events_so_far p serve m (b + 1) 0 t ≡ events_so_far p serve m b 0 t ++ batch_events p (get_or p.batches b e)
  one_batch_more m b t e small due =
      let released = release_events_at p (take b p.batches) t in
      ap (λ (l : List Event). events_before p serve t ++ (ends_below p serve m t ++ (l ++ []))) (release_more p b t e small due)
      ∙ ap (λ (l : List Event). events_before p serve t ++ (ends_below p serve m t ++ l)) (append-nil (released ++ batch_events p (get_or p.batches b e)))
      ∙ sym (after-all (events_before p serve t) (ends_below p serve m t) released [] (batch_events p (get_or p.batches b e)))

  -- ---- all of a tick

  pub all_made : (b t : ℕ) → ((k : ℕ) (e : Batch) → b ≤ k → k < length p.batches → (get_or p.batches k e).time ≢ t)
      → events_so_far p serve cpu_count b cpu_count t ≡ events_before p serve (suc t)
  all_made b t none =
      ap (λ (l : List Event). events_before p serve t ++ (ends_below p serve cpu_count t ++ (l ++ services_below p serve cpu_count t))) (sym (releases_so_far p b t none))
      ∙ sym (next_events t)

  -- if no processor serves, and all batches are released
  pub last_made : (b t : ℕ) → b ≡ length p.batches → ((c : ℕ) → serve c t ≡ None) → events_so_far p serve cpu_count b 0 t ≡ events_before p serve (t + 1)
  last_made b t last none =
      sym (no_services cpu_count b cpu_count t none)
      ∙ all_made b t (λ k e le kl same. omega (arith, le, kl, last))
      ∙ ap (events_before p serve) (let e : suc t ≡ t + 1 = omega arith in e)

-- ---- a jump of d ticks, in which no batch is released, and in which each one that is served runs and makes no read

module _ (p : Plan) (serve : ℕ → ℕ → Option Instance) (service : IsServiceOn p serve) (b t d : ℕ) (some : 0 < d)
    (early : (k : ℕ) (e : Batch) → k < b → k < length p.batches → (get_or p.batches k e).time ≤ t)
    (later : (k : ℕ) (e : Batch) → b ≤ k → k < length p.batches → t + d ≤ (get_or p.batches k e).time)
    (quiet : IsQuiet p t d)
    (runs : (c : ℕ) (x : Instance) → serve c t ≡ Some x → RunsFor p x.task (served_on p serve t x) d) where
  served-in : (c k : ℕ) (o : Option Instance) → k < d → serve c t ≡ o → serve c (t + k) ≡ o
  served-in c k o less is = stays_on p serve service t d quiet runs c k less ∙ is

  ticks-at : (c k : ℕ) (x : Instance) → k ≤ d → serve c t ≡ Some x → served_ticks (serve c) x (t + k) ≡ served_on p serve t x + k
  ticks-at c k x le is =
      let own = (serves-one-of p serve service c t x is).own in
      ap (λ (n : ℕ). served_ticks (serve n) x (t + k)) (sym own) ∙ runs_served p serve service t d quiet runs c x is k le

  -- ---- the ticks inside have no events

  module _ (k : ℕ) (small : suc k < d) where
    now-inside : suc (t + k) ≡ t + suc k
    now-inside = omega arith

    no-end-inside : (c : ℕ) (o : Option Instance) → serve c t ≡ o → end_events_of p (serve c) (serve c (t + k)) (suc (t + k)) ≡ []
    no-end-inside c None is = ap (λ (o : Option Instance). end_events_of p (serve c) o (suc (t + k))) (served-in c k None (omega (arith, small)) is)
    no-end-inside c (Some x) is =
        let ticks = ticks-at c (suc k) x (omega (arith, small)) is in
        let at = ap (served_ticks (serve c) x) now-inside in
        ap (λ (o : Option Instance). end_events_of p (serve c) o (suc (t + k))) (served-in c k (Some x) (omega (arith, small)) is)
        ∙ no_end p (serve c) x (suc (t + k)) (omega (arith, ticks, at, (runs c x is).fits, small))

    no-service-inside : (c : ℕ) (o : Option Instance) → serve c t ≡ o → service_events_of p (serve c) (serve c (suc (t + k))) (suc (t + k)) ≡ []
    no-service-inside c None is = ap (λ (o : Option Instance). service_events_of p (serve c) o (suc (t + k))) (ap (serve c) now-inside ∙ served-in c (suc k) None small is)
    no-service-inside c (Some x) is =
        let ticks = ticks-at c (suc k) x (omega (arith, small)) is in
        let at = ap (served_ticks (serve c) x) now-inside in
        ap (λ (o : Option Instance). service_events_of p (serve c) o (suc (t + k))) (ap (serve c) now-inside ∙ served-in c (suc k) (Some x) small is)
        ∙ no_steps p (serve c) x (suc (t + k)) (omega (arith, ticks, at)) ((runs c x is).no_read (served_ticks (serve c) x (suc (t + k))) (omega (arith, ticks, at)) (omega (arith, ticks, at, small)))

    inside : events_at p serve (suc (t + k)) ≡ []
    inside =
        let ends : ends_below p serve cpu_count (suc (t + k)) ≡ [] = none-of (λ c. end_events_of p (serve c) (serve c (t + k)) (suc (t + k))) (range_with_len 0 cpu_count) (λ c. no-end-inside c (serve c t) refl) in
        let releases : release_events_at p p.batches (suc (t + k)) ≡ [] = none_inside p b t d some early later (suc (t + k)) (omega arith) (omega (arith, small)) in
        let steps : services_below p serve cpu_count (suc (t + k)) ≡ [] = none-of (λ c. service_events_of p (serve c) (serve c (suc (t + k))) (suc (t + k))) (range_with_len 0 cpu_count) (λ c. no-service-inside c (serve c t) refl) in
        ap (λ (l : List Event). l ++ (release_events_at p p.batches (suc (t + k)) ++ services_below p serve cpu_count (suc (t + k)))) ends
        ∙ ap (λ (l : List Event). l ++ services_below p serve cpu_count (suc (t + k))) releases
        ∙ steps

  quiet_ticks : (k : ℕ) → suc k ≤ d → events_before p serve (t + suc k) ≡ events_before p serve (suc t)
  quiet_ticks zero le = let e : t + 1 ≡ suc t = omega arith in ap (events_before p serve) e
  quiet_ticks (suc k) le =
      let e : t + suc (suc k) ≡ suc (t + suc k) = omega arith in
      let f : t + suc k ≡ suc (t + k) = omega arith in
      ap (events_before p serve) e ∙ next_events p serve (t + suc k)
      ∙ ap (λ (l : List Event). events_before p serve (t + suc k) ++ l) (ap (events_at p serve) f ∙ inside k (omega (arith, le)))
      ∙ append-nil (events_before p serve (t + suc k)) ∙ quiet_ticks k (omega (arith, le))

  -- ---- after the jump

  no-ends : (u : ℕ) → ends_below p serve 0 u ≡ []
  no-ends zero = refl
  no-ends (suc u) = refl

  after : release_events_at p (take b p.batches) (t + d) ≡ []
  after = none_after p b t d some early later

  -- before the ends are made, these are the events with all services of the first tick
  pub jump_made : events_so_far p serve 0 b 0 (t + d) ≡ events_so_far p serve cpu_count b cpu_count t
  jump_made =
      let last : t + suc (d - 1) ≡ t + d = omega (arith, some) in
      so-far-ends p serve 0 b (t + d) after
      ∙ ap (λ (l : List Event). events_before p serve (t + d) ++ l) (no-ends (t + d))
      ∙ append-nil (events_before p serve (t + d))
      ∙ ap (events_before p serve) (sym last) ∙ quiet_ticks (d - 1) (omega (arith, some))
      ∙ sym (all_made p serve b t (none_later p b t d some early later))

  -- then by processor: the end of the one that was served, if it has come
  end_made : (c : ℕ) (o : Option Instance) (l : List Event) → serve c t ≡ o → end_events_of p (serve c) o (t + d) ≡ l → events_so_far p serve (c + 1) b 0 (t + d) ≡ events_so_far p serve c b 0 (t + d) ++ l
  end_made c o l is ends =
      let last : t + d ≡ suc (t + (d - 1)) = omega (arith, some) in
      let before : release_events_at p (take b p.batches) (suc (t + (d - 1))) ≡ [] = subst (λ (u : ℕ). release_events_at p (take b p.batches) u ≡ []) last after in
      subst (λ (u : ℕ). events_so_far p serve (c + 1) b 0 u ≡ events_so_far p serve c b 0 u ++ end_events_of p (serve c) o u) (sym last)
      (one_end_more p serve c b (t + (d - 1)) o before (served-in c (d - 1) o (omega (arith, some)) is))
      ∙ ap (λ (r : List Event). events_so_far p serve c b 0 (t + d) ++ r) ends

  pub none_ends : (c : ℕ) → serve c t ≡ None → events_so_far p serve (c + 1) b 0 (t + d) ≡ events_so_far p serve c b 0 (t + d)
  none_ends c is = end_made c None [] is refl ∙ append-nil (events_so_far p serve c b 0 (t + d))

  pub one_goes_on : (c : ℕ) (x : Instance) → serve c t ≡ Some x → d < left_on p serve x t → events_so_far p serve (c + 1) b 0 (t + d) ≡ events_so_far p serve c b 0 (t + d)
  one_goes_on c x is more =
      end_made c (Some x) [] is (no_end p (serve c) x (t + d) (omega (arith, ticks-at c d x (omega arith) is, more)))
      ∙ append-nil (events_so_far p serve c b 0 (t + d))

  pub one_ends : (c : ℕ) (x : Instance) → serve c t ≡ Some x → d ≡ left_on p serve x t → events_so_far p serve (c + 1) b 0 (t + d) ≡ events_so_far p serve c b 0 (t + d) ++ end_events p x.task
  one_ends c x is all = end_made c (Some x) (end_events p x.task) is (an_end p (serve c) x (t + d) (omega (arith, ticks-at c d x (omega arith) is, all)))

  -- if no processor serves, nothing is added
  pub idle_made : ((c : ℕ) → serve c t ≡ None) → events_so_far p serve cpu_count b 0 (t + d) ≡ events_so_far p serve cpu_count b 0 t
  idle_made none = to-all cpu_count ∙ jump_made ∙ no_services p serve cpu_count b cpu_count t none
    where
      to-all : (n : ℕ) → events_so_far p serve n b 0 (t + d) ≡ events_so_far p serve 0 b 0 (t + d)
      to-all zero = refl
      to-all (suc n) = ap (λ (m : ℕ). events_so_far p serve m b 0 (t + d)) (let e : suc n ≡ n + 1 = omega arith in e) ∙ none_ends n (none n) ∙ to-all n
