-- What the ticks of a jump add to the events so far: those of its first tick, and of an end after its last.
use Rattle.std.proofs.Common.{◌≡◌, ℕ, zero, suc, ◌+◌, ◌-◌, ◌<◌, ◌≤◌, List, [], ◌++◌, length, get_or, Option, Some, None, sym, ap, ◌∙◌, subst, arith}
use Rattle.std.proofs.lemmas.List.{append-nil}
use Rattle.dbp_plan.specs.declared.plan.Plan.{Plan}
use Rattle.dbp_plan.specs.declared.schedule.Batch.{Batch}
use Rattle.rank_order.specs.Instances.{Instance}
use Rattle.rank_order.specs.Service.{GoesBefore, IsFirst, IsService, Waits, left_of, served_ticks}
use Rattle.rank_order.proofs.Jump as jump
use Rattle.rank_order.proofs.Jump.{IsQuiet}
use Rattle.instance_steps.specs.Events.{Event, end_events}
use Rattle.virtual_time.specs.Pieces.{end_events_of, release_events_at, service_events_of}
use Rattle.virtual_time.proofs.PieceEvents.{NoReadAt, an_end, no_end, no_steps, none_after, none_inside, none_later}
use Rattle.virtual_sim.specs.Record.{end_events_at, events_at, events_before, events_so_far}
use Rattle.virtual_sim.proofs.SoFar.{next_events, with_service}

module _ (p : Plan) (serve : ℕ → Option Instance) (service : IsService p serve) (b t d : ℕ)
    (early : (k : ℕ) (e : Batch) → k < b → k < length p.batches → (get_or p.batches k e).time ≤ t)
    (later : (k : ℕ) (e : Batch) → b ≤ k → k < length p.batches → t + suc d ≤ (get_or p.batches k e).time)
    (quiet : IsQuiet p t (suc d)) where
  -- ticks without events
  quiet_ticks : ((k : ℕ) → suc k < suc d → events_at p serve (suc (t + k)) ≡ []) → (k : ℕ) → suc k ≤ suc d → events_before p serve (t + suc k) ≡ events_before p serve (suc t)
  quiet_ticks none zero le = let e : t + 1 ≡ suc t = omega arith in ap (events_before p serve) e
  quiet_ticks none (suc k) le =
      let e : t + suc (suc k) ≡ suc (t + suc k) = omega arith in
      let f : t + suc k ≡ suc (t + k) = omega arith in
      ap (events_before p serve) e ∙ next_events p serve (t + suc k)
      ∙ ap (λ (l : List Event). events_before p serve (t + suc k) ++ l) (ap (events_at p serve) f ∙ none k le)
      ∙ append-nil (events_before p serve (t + suc k)) ∙ quiet_ticks none k (omega (arith, le))

  -- after the jump: what the first tick adds, and then the end after the last tick
  after_jump : (o : Option Instance) (l : List Event) → serve t ≡ o → end_events_at p serve (t + suc d) ≡ l → events_before p serve (t + suc d) ≡ events_before p serve (suc t)
      → events_so_far p serve b (t + suc d) ≡ (events_so_far p serve b t ++ service_events_of p serve o t) ++ l
  after_jump o l now ends ticks =
      ap (λ (r : List Event). events_before p serve (t + suc d) ++ (end_events_at p serve (t + suc d) ++ r)) (none_after p b t (suc d) (omega arith) early later)
      ∙ ap (λ (r : List Event). events_before p serve (t + suc d) ++ r) (append-nil (end_events_at p serve (t + suc d)) ∙ ends)
      ∙ ap (λ (r : List Event). r ++ l) (ticks ∙ sym (with_service p serve b t (none_later p b t (suc d) (omega arith) early later)) ∙ ap (λ (q : Option Instance). events_so_far p serve b t ++ service_events_of p serve q t) now)

  -- the one that is served runs for the jump, and makes no read inside it
  module _ (x : Instance) (first : IsFirst (GoesBefore p) (Waits p (left_of p serve) t) (Some x)) (fits : suc d ≤ left_of p serve x t)
      (no_read : (c : ℕ) → served_ticks serve x t < c → c < served_ticks serve x t + suc d → NoReadAt p x.task c) where
    served_in : (k : ℕ) → k < suc d → serve (t + k) ≡ Some x
    served_in k lt = jump.serves p serve service t (suc d) quiet x first fits k lt

    ticks_at : (k : ℕ) → k ≤ suc d → served_ticks serve x (t + k) ≡ served_ticks serve x t + k
    ticks_at k le = (jump.runs p serve service t (suc d) quiet x first fits k le).own

    inside : (k : ℕ) → suc k < suc d → events_at p serve (suc (t + k)) ≡ []
    inside k small =
        let e : t + suc k ≡ suc (t + k) = omega arith in
        let before : serve (t + k) ≡ Some x = served_in k (omega (arith, small)) in
        let now : serve (suc (t + k)) ≡ Some x = subst (λ (u : ℕ). serve u ≡ Some x) e (served_in (suc k) small) in
        let own : served_ticks serve x (suc (t + k)) ≡ served_ticks serve x t + suc k = subst (λ (u : ℕ). served_ticks serve x u ≡ served_ticks serve x t + suc k) e (ticks_at (suc k) (omega (arith, small))) in
        let ends : end_events_at p serve (suc (t + k)) ≡ [] = ap (λ (o : Option Instance). end_events_of p serve o (suc (t + k))) before ∙ no_end p serve x (suc (t + k)) (omega (arith, own, fits, small)) in
        let releases = none_inside p b t (suc d) (omega arith) early later (suc (t + k)) (omega arith) (omega (arith, small)) in
        let steps : service_events_of p serve (serve (suc (t + k))) (suc (t + k)) ≡ [] =
        ap (λ (o : Option Instance). service_events_of p serve o (suc (t + k))) now
        ∙ no_steps p serve x (suc (t + k)) (omega (arith, own)) (no_read (served_ticks serve x (suc (t + k))) (omega (arith, own)) (omega (arith, own, small))) in
        ap (λ (l : List Event). l ++ (release_events_at p p.batches (suc (t + k)) ++ service_events_of p serve (serve (suc (t + k))) (suc (t + k)))) ends
        ∙ ap (λ (l : List Event). l ++ service_events_of p serve (serve (suc (t + k))) (suc (t + k))) releases
        ∙ steps

    now : serve t ≡ Some x
    now = subst (λ (u : ℕ). serve u ≡ Some x) (let e : t + 0 ≡ t = omega arith in e) (served_in 0 (omega arith))

    last_end : (l : List Event) → end_events_of p serve (Some x) (suc (t + d)) ≡ l → end_events_at p serve (t + suc d) ≡ l
    last_end l is =
        let e : t + suc d ≡ suc (t + d) = omega arith in
        ap (end_events_at p serve) e ∙ ap (λ (o : Option Instance). end_events_of p serve o (suc (t + d))) (served_in d (omega arith)) ∙ is

    own_left : left_of p serve x (suc (t + d)) ≡ left_of p serve x t - suc d
    own_left =
        let e : t + suc d ≡ suc (t + d) = omega arith in
        let r : served_ticks serve x (suc (t + d)) ≡ served_ticks serve x t + suc d = subst (λ (u : ℕ). served_ticks serve x u ≡ served_ticks serve x t + suc d) e (ticks_at (suc d) (omega arith)) in
        omega (arith, r)

    -- to its end
    pub jump_to_end : suc d ≡ left_of p serve x t → events_so_far p serve b (t + suc d) ≡ (events_so_far p serve b t ++ service_events_of p serve (Some x) t) ++ end_events p x.task
    jump_to_end all =
        after_jump (Some x) (end_events p x.task) now
        (last_end (end_events p x.task) (an_end p serve x (suc (t + d)) (omega (arith, own_left, all))))
        (quiet_ticks inside d (omega arith))

    -- to an event before it
    pub jump_to_event : suc d < left_of p serve x t → events_so_far p serve b (t + suc d) ≡ events_so_far p serve b t ++ service_events_of p serve (Some x) t
    jump_to_event some =
        after_jump (Some x) [] now (last_end [] (no_end p serve x (suc (t + d)) (omega (arith, own_left, some)))) (quiet_ticks inside d (omega arith))
        ∙ append-nil (events_so_far p serve b t ++ service_events_of p serve (Some x) t)

  -- none waits
  module _ (none : (y : Instance) → Waits p (left_of p serve) t y → ⊥) where
    unserved_in : (k : ℕ) → k < suc d → serve (t + k) ≡ None
    unserved_in k lt = jump.nobody p serve service t (suc d) quiet none k lt

    empty_inside : (k : ℕ) → suc k < suc d → events_at p serve (suc (t + k)) ≡ []
    empty_inside k small =
        let e : t + suc k ≡ suc (t + k) = omega arith in
        let before = unserved_in k (omega (arith, small)) in
        let now' : serve (suc (t + k)) ≡ None = subst (λ (u : ℕ). serve u ≡ None) e (unserved_in (suc k) small) in
        let releases = none_inside p b t (suc d) (omega arith) early later (suc (t + k)) (omega arith) (omega (arith, small)) in
        ap (λ (o : Option Instance). end_events_of p serve o (suc (t + k)) ++ (release_events_at p p.batches (suc (t + k)) ++ service_events_of p serve (serve (suc (t + k))) (suc (t + k)))) before
        ∙ ap (λ (l : List Event). l ++ service_events_of p serve (serve (suc (t + k))) (suc (t + k))) releases
        ∙ ap (λ (o : Option Instance). service_events_of p serve o (suc (t + k))) now'

    pub jump_idle : events_so_far p serve b (t + suc d) ≡ events_so_far p serve b t
    jump_idle =
        let e : t + suc d ≡ suc (t + d) = omega arith in
        let now' : serve t ≡ None = subst (λ (u : ℕ). serve u ≡ None) (let z : t + 0 ≡ t = omega arith in z) (unserved_in 0 (omega arith)) in
        let ends : end_events_at p serve (t + suc d) ≡ [] = ap (end_events_at p serve) e ∙ ap (λ (o : Option Instance). end_events_of p serve o (suc (t + d))) (unserved_in d (omega arith)) in
        after_jump None [] now' ends (quiet_ticks empty_inside d (omega arith))
        ∙ append-nil (events_so_far p serve b t ++ []) ∙ append-nil (events_so_far p serve b t)
