-- Which releases a tick has, and when it has none, no end, or no steps of service.
use Rattle.std.proofs.Common.{◌≡◌, ◌≢◌, ℕ, ◌+◌, ◌<◌, ◌≤◌, eqb, List, [], ◌∷◌, ◌++◌, length, take, drop, get_or, take-append-drop, Option, Some, refl, sym, ap, ◌∙◌, ⊎_elim, arith}
use Rattle.std.specs.List.{flat_map, filter, range_with_len}
use Rattle.std.proofs.lemmas.Bool.{cases_lt, ne_eqb, eq-eqb}
use Rattle.std.proofs.lemmas.Grind.{flat_map-append}
use Rattle.std.proofs.lemmas.List.{append-nil, get_or-drop, get_or-take, length-drop, length-take, take_more}
use Rattle.std.proofs.lemmas.List.Elements.{filter-append}
use Rattle.std.proofs.lemmas.List.FromFn.{length-range_with_len, get_or-range_with_len}
use Rattle.dbp_plan.specs.declared.plan.Plan.{Plan}
use Rattle.dbp_plan.specs.declared.schedule.Batch.{Batch}
use Rattle.dbp_plan.specs.Lookups.{declared_task, no_read}
use Rattle.dbp_plan.proofs.ListMaps.{filter-none}
use Rattle.rank_order.specs.Instances.{Instance}
use Rattle.rank_order.specs.Service.{left_of, served_ticks}
use Rattle.instance_steps.specs.Events.{Event, batch_events, end_events, look_events, read_events}
use Rattle.virtual_time.specs.Pieces.{end_events_of, release_events_at, service_events_of}

-- the read of the task is due after so many ticks
abbrev pub NoReadAt : Plan → ℕ → ℕ → Type 0
NoReadAt p i served = (r : ℕ) → r < length (declared_task p i).reads → (get_or (declared_task p i).reads r no_read).at ≢ served

pub no_reads : (p : Plan) (i served : ℕ) → NoReadAt p i served → read_events p i served ≡ []
no_reads p i served none =
    ap (flat_map (look_events i)) (filter-none (λ r. eqb (get_or (declared_task p i).reads r no_read).at served) (range_with_len 0 (length (declared_task p i).reads)) (λ k d lt.
    let n = length-range_with_len 0 (length (declared_task p i).reads) in
    let kl : k < length (declared_task p i).reads = omega (arith, lt, n) in
    let is : get_or (range_with_len 0 (length (declared_task p i).reads)) k d ≡ k = get_or-range_with_len 0 (length (declared_task p i).reads) k d kl ∙ (let z : 0 + k ≡ k = omega arith in z) in
    ne_eqb _ _ (λ e. none k kl (ap (λ (m : ℕ). (get_or (declared_task p i).reads m no_read).at) (sym is) ∙ e))))

module _ (p : Plan) where
  pub no_releases : (bs : List Batch) (t : ℕ) → ((k : ℕ) (d : Batch) → k < length bs → (get_or bs k d).time ≢ t) → release_events_at p bs t ≡ []
  no_releases bs t none = ap (flat_map (batch_events p)) (filter-none (λ b. eqb b.time t) bs (λ k d lt. ne_eqb _ _ (none k d lt)))

  pub releases-append : (bs cs : List Batch) (t : ℕ) → release_events_at p (bs ++ cs) t ≡ release_events_at p bs t ++ release_events_at p cs t
  releases-append bs cs t =
      ap (flat_map (batch_events p)) (filter-append (λ (b : Batch). eqb b.time t) bs cs)
      ∙ flat_map-append (batch_events p) (filter (λ (b : Batch). eqb b.time t) bs) (filter (λ (b : Batch). eqb b.time t) cs)

  -- a batch more
  pub release_more : (b t : ℕ) (d : Batch) → b < length p.batches → (get_or p.batches b d).time ≡ t → release_events_at p (take (b + 1) p.batches) t ≡ release_events_at p (take b p.batches) t ++ batch_events p (get_or p.batches b d)
  release_more b t d small due =
      let one : release_events_at p (get_or p.batches b d ∷ []) t ≡ batch_events p (get_or p.batches b d) = rw (eq-eqb (get_or p.batches b d).time t due) (append-nil (batch_events p (get_or p.batches b d))) in
      ap (λ (l : List Batch). release_events_at p l t) (take_more p.batches b d small)
      ∙ releases-append (take b p.batches) (get_or p.batches b d ∷ []) t
      ∙ ap (λ (l : List Event). release_events_at p (take b p.batches) t ++ l) one

  -- if no later batch has the time
  pub releases_so_far : (b t : ℕ) → ((k : ℕ) (d : Batch) → b ≤ k → k < length p.batches → (get_or p.batches k d).time ≢ t) → release_events_at p p.batches t ≡ release_events_at p (take b p.batches) t
  releases_so_far b t none =
      let later : release_events_at p (drop b p.batches) t ≡ [] = no_releases (drop b p.batches) t (λ k d lt same.
      let at = get_or-drop b p.batches k d in
      none (b + k) d (omega arith) (let n = length-drop b p.batches in omega (arith, lt, n)) (ap (λ (c : Batch). c.time) (sym at) ∙ same)) in
      ap (λ (l : List Batch). release_events_at p l t) (sym (take-append-drop b p.batches))
      ∙ releases-append (take b p.batches) (drop b p.batches) t
      ∙ ap (λ (l : List Event). release_events_at p (take b p.batches) t ++ l) later
      ∙ append-nil (release_events_at p (take b p.batches) t)

-- d ticks from t on, if the first b batches aren't after t, and the others not before the end of these ticks
module _ (p : Plan) (b t d : ℕ) (some : 0 < d)
    (early : (k : ℕ) (e : Batch) → k < b → k < length p.batches → (get_or p.batches k e).time ≤ t)
    (later : (k : ℕ) (e : Batch) → b ≤ k → k < length p.batches → t + d ≤ (get_or p.batches k e).time) where
  -- none has the time of a tick inside
  pub none_inside : (u : ℕ) → t < u → u < t + d → release_events_at p p.batches u ≡ []
  none_inside u above below = no_releases p p.batches u (λ k e kl same. ⊎_elim
      (λ (lt : k < b). let l = early k e lt kl in omega (arith, l, same, above))
      (λ (ge : b ≤ k). let l = later k e ge kl in omega (arith, l, same, below))
      (cases_lt k b))

  -- no later one has the time of the first tick
  pub none_later : (k : ℕ) (e : Batch) → b ≤ k → k < length p.batches → (get_or p.batches k e).time ≢ t
  none_later k e ge kl same = let l = later k e ge kl in omega (arith, l, same, some)

  -- none of the first b has the time after the last tick
  pub none_after : release_events_at p (take b p.batches) (t + d) ≡ []
  none_after = no_releases p (take b p.batches) (t + d) (λ k e lt same.
      let n = length-take b p.batches in
      let kb : k < b = omega (arith, lt, n) in
      let at = get_or-take b p.batches k e kb in
      let l = early k e kb (omega (arith, lt, n)) in
      let s = ap (λ (c : Batch). c.time) at in
      omega (arith, l, same, s, some))

module _ (p : Plan) (serve : ℕ → Option Instance) where
  -- an instance that has something left doesn't end
  pub no_end : (x : Instance) (t : ℕ) → 0 < left_of p serve x t → end_events_of p serve (Some x) t ≡ []
  no_end x t some = rw (ne_eqb (left_of p serve x t) 0 (λ e. omega (arith, e, some))) refl

  pub an_end : (x : Instance) (t : ℕ) → left_of p serve x t ≡ 0 → end_events_of p serve (Some x) t ≡ end_events p x.task
  an_end x t none = rw (eq-eqb (left_of p serve x t) 0 none) refl

  -- one that was served before, and that makes no read, makes no step
  pub no_steps : (x : Instance) (t : ℕ) → 0 < served_ticks serve x t → NoReadAt p x.task (served_ticks serve x t) → service_events_of p serve (Some x) t ≡ []
  no_steps x t some none = rw (ne_eqb (served_ticks serve x t) 0 (λ e. omega (arith, e, some))) (no_reads p x.task (served_ticks serve x t) none)
