-- What the releaser knows of ended instances: of a task that occurs once it never loads how many have ended.
use Rattle.std.proofs.Common.{◌≡◌, ◌≢◌, ℕ, zero, suc, ◌+◌, true, List, [], ◌∷◌, ◌++◌, length, map, take, slice_get, Option, Some, None, refl, sym, ap, ◌∙◌, inl, inr}
use Rattle.std.specs.Prelude.{filter, replicate, slice_index_or, slice_set, ◌==◌}
use Rattle.std.specs.List.{flat_map, range_with_len}
use Rattle.std.proofs.lemmas.Bool.{both_ways, cases_Bool, eq-eqb}
use Rattle.dbp_plan.specs.declared.plan.Plan.{Plan}
use Rattle.dbp_plan.specs.declared.schedule.Batch.{Batch}
use Rattle.dbp_plan.specs.ListItems.{take_inside}
use Rattle.dbp_plan.specs.Lookups.{declared_task}
use Rattle.dbp_plan.specs.Numbers.{is_in}
use Rattle.dbp_plan.specs.Occurrences.{time_of}
use Rattle.dia_check.proofs.LinkLists.{any-at}
use Rattle.rank_order.specs.Instances.{Instance}
use Rattle.rank_order.specs.Service.{left_of, served_ticks}
use Rattle.release_list.specs.Releases.{links_into}
use Rattle.dbp_rules.specs.declared.parts.TaskEntry.{TaskEntry}
use Rattle.dbp_rules.specs.declared.state.State.{State}
use Rattle.dbp_rules.specs.declared.step.Step.{Step}
use Rattle.dbp_rules.specs.declared.step.Step.TheVariants.{Seen, Aim, Claim, OpenGate, Start, Hear, Look, Take, Shut, Put, Done, End}
use Rattle.dbp_rules.specs.declared.wiring.TaskWiring.{TaskWiring}
use Rattle.dbp_rules.specs.declared.wiring.Wiring.{Wiring}
use Rattle.dbp_rules.specs.Lookups.{no_task_entry, task_entry}
use Rattle.dbp_rules.specs.Rules.{next}
use Rattle.dbp_rules.specs.Start.{start_entry, start_of}
use Rattle.instance_steps.specs.Events.{Event, aim_of, step_of, aim_events, batch_events, begin_events, claim_events, end_events, look_events, put_events, read_events, reads_at, seen_events}
use Rattle.instance_steps.specs.Plays.{IsStepOf, Plays}
use Rattle.virtual_time.specs.Pieces.{begin_events_at, end_events_of, release_events_at, service_events_of}
use Rattle.virtual_sim.specs.Record.{end_events_at, events_at, events_before, events_so_far}
use Rattle.slot_need.proofs.KeptItems.{stood}

-- ---- steps

-- a change of one entry that keeps what is known of it
known-set : (xs : List TaskEntry) (j i : ℕ) (y : TaskEntry) → y.known ≡ (slice_index_or xs j no_task_entry).known
    → (slice_index_or (slice_set xs j y) i no_task_entry).known ≡ (slice_index_or xs i no_task_entry).known
known-set [] j i y same = refl
known-set (x ∷ xs) zero zero y same = same
known-set (x ∷ xs) zero (suc i) y same = refl
known-set (x ∷ xs) (suc j) zero y same = refl
known-set (x ∷ xs) (suc j) (suc i) y same = known-set xs j i y same

-- a change of another entry
other-set : (xs : List TaskEntry) (j i : ℕ) (y : TaskEntry) → j ≢ i → slice_index_or (slice_set xs j y) i no_task_entry ≡ slice_index_or xs i no_task_entry
other-set [] j i y apart = refl
other-set (x ∷ xs) zero zero y apart = absurd (apart refl)
other-set (x ∷ xs) zero (suc i) y apart = refl
other-set (x ∷ xs) (suc j) zero y apart = refl
other-set (x ∷ xs) (suc j) (suc i) y apart = other-set xs j i y (λ same. apart (ap suc same))

known_next : (p : Plan) (w : Wiring) (s : State) (i : ℕ) (e : Step) → e ≢ Seen i → (task_entry (next p w s e) i).known ≡ (task_entry s i).known
known_next p w s i (Seen j) other = ap (λ (e : TaskEntry). e.known) (other-set s.releaser.tasks j i _ (λ same. other (ap Seen same)))
known_next p w s i (Aim j slot) other = known-set s.releaser.tasks j i _ refl
known_next p w s i (Claim k) other = refl
known_next p w s i (OpenGate j) other = refl
known_next p w s i (Start j) other = refl
known_next p w s i (Hear j) other = refl
known_next p w s i (Look j r) other = refl
known_next p w s i (Take j r) other = refl
known_next p w s i (Shut j) other = refl
known_next p w s i (Put j port) other = refl
known_next p w s i (Done j) other = refl
known_next p w s i (End j) other = refl

-- ---- events

-- none of the events is a load of how many instances of the task have ended
abbrev pub Spares : ℕ → List Event → Type 0
Spares i [] = Unit {0}
Spares i (v ∷ vs) = (v ≢ step_of (Seen i)) × Spares i vs

other-step : (w : Wiring) (s : State) (i : ℕ) (v : Event) (e : Step) → IsStepOf w s v e → v ≢ step_of (Seen i) → e ≢ Seen i
other-step w s i (step_of x) e is other same = other (ap step_of (sym is ∙ same))
other-step w s i (aim_of j) e is other same = let no : Aim j is.0 ≡ Seen i = sym is.1 ∙ same in cc

known_of_play : (p : Plan) (w : Wiring) (i : ℕ) (vs : List Event) (es : List Step) (s t : State) → Spares i vs → Plays p w s vs es t → (task_entry t i).known ≡ (task_entry s i).known
known_of_play p w i [] [] s t spares same = ap (λ (x : State). (task_entry x i).known) same
known_of_play p w i [] (e ∷ es) s t spares none = absurd none
known_of_play p w i (v ∷ vs) [] s t spares none = absurd none
known_of_play p w i (v ∷ vs) (e ∷ es) s t spares plays =
    known_of_play p w i vs es (next p w s e) t spares.1 plays.2 ∙ known_next p w s i e (other-step w s i v e plays.0 spares.0)

-- ---- pieces

module _ (i : ℕ) where
  spares-append : (vs us : List Event) → Spares i vs → Spares i us → Spares i (vs ++ us)
  spares-append [] us first second = second
  spares-append (v ∷ vs) us first second = (first.0, spares-append vs us first.1 second)

  spares-map : {A : Type 0} (f : A → Event) (xs : List A) → ((x : A) → f x ≢ step_of (Seen i)) → Spares i (map f xs)
  spares-map f [] other = tt
  spares-map f (x ∷ xs) other = (other x, spares-map f xs other)

  spares-flat_map : {A : Type 0} (f : A → List Event) (xs : List A) → ((k : ℕ) (x : A) → slice_get xs k ≡ Some x → Spares i (f x)) → Spares i (flat_map f xs)
  spares-flat_map f [] each = tt
  spares-flat_map f (x ∷ xs) each = spares-append (f x) (flat_map f xs) (each 0 x refl) (spares-flat_map f xs (λ k y at. each (suc k) y at))

  spares-replicate : (n : ℕ) (v : Event) → v ≢ step_of (Seen i) → Spares i (replicate n v)
  spares-replicate zero v other = tt
  spares-replicate (suc n) v other = (other, spares-replicate n v other)

  spares-end : (p : Plan) (j : ℕ) → Spares i (end_events p j)
  spares-end p j = (
    (λ same. cc),
    spares-append (put_events j (length (declared_task p j).outs)) (step_of (Done j) ∷ step_of (End j) ∷ [])
        (spares-map (λ port. step_of (Put j port)) (range_with_len 0 (length (declared_task p j).outs)) (λ port same. cc)) ((λ same. cc), ((λ same. cc), tt)),
  )

  spares-begin : (p : Plan) (j : ℕ) → Spares i (begin_events p j)
  spares-begin p j = ((λ same. cc), spares-replicate (1 + length (links_into p.diagram.links j)) (step_of (Hear j)) (λ same. cc))

  spares-read : (p : Plan) (j served : ℕ) → Spares i (read_events p j served)
  spares-read p j served = spares-flat_map (look_events j) (reads_at (declared_task p j).reads served) (λ k r at. ((λ same. cc), ((λ same. cc), tt)))

  module _ (p : Plan) (serve : ℕ → Option Instance) where
    spares-end-of : (o : Option Instance) (t : ℕ) → Spares i (end_events_of p serve o t)
    spares-end-of None t = tt
    spares-end-of (Some x) t = elim (cases_Bool (left_of p serve x t == 0)) [ inl is ↦ rw is (spares-end p x.task) | inr isnt ↦ rw isnt tt ]

    spares-end-at : (t : ℕ) → Spares i (end_events_at p serve t)
    spares-end-at zero = tt
    spares-end-at (suc t) = spares-end-of (serve t) (suc t)

    spares-begin-at : (j served : ℕ) → Spares i (begin_events_at p j served)
    spares-begin-at j served = elim (cases_Bool (served == 0)) [ inl is ↦ rw is (spares-begin p j) | inr isnt ↦ rw isnt tt ]

    spares-service : (o : Option Instance) (t : ℕ) → Spares i (service_events_of p serve o t)
    spares-service None t = tt
    spares-service (Some x) t =
        spares-append (begin_events_at p x.task (served_ticks serve x t)) (read_events p x.task (served_ticks serve x t))
        (spares-begin-at x.task (served_ticks serve x t)) (spares-read p x.task (served_ticks serve x t))

    -- the task occurs once
    module _ (only : (k : ℕ) (b : Batch) → slice_get p.batches k ≡ Some b → is_in b.tasks i ≡ true → b.time ≡ time_of p.batches i 1) where
      spares-seen : (k : ℕ) (b : Batch) → slice_get p.batches k ≡ Some b → (n j : ℕ) → slice_get b.tasks n ≡ Some j → Spares i (seen_events p b.time j)
      spares-seen k b at n j named = elim (cases_Bool (time_of p.batches j 1 == b.time)) [
        | inl is ↦ rw is tt
        | inr isnt ↦
            rw isnt (
              λ same.
                  let task : j ≡ i = (let steps : step_of (Seen j) ≡ step_of (Seen i) = same in cc) in
                  let here : is_in b.tasks i ≡ true = any-at (λ m. m == i) b.tasks n j named (eq-eqb j i task) in
                  both_ways (time_of p.batches j 1 == b.time) isnt (eq-eqb (time_of p.batches j 1) b.time (ap (λ m. time_of p.batches m 1) task ∙ sym (only k b at here))),
              tt,
            )
      ]

      spares-batch : (k : ℕ) (b : Batch) → slice_get p.batches k ≡ Some b → Spares i (batch_events p b)
      spares-batch k b at =
          spares-append (flat_map (aim_events p b.time) b.tasks) (flat_map (claim_events p) b.tasks ++ map (λ j. step_of (OpenGate j)) b.tasks)
          (spares-flat_map (aim_events p b.time) b.tasks (λ n j named. spares-append (seen_events p b.time j) (aim_of j ∷ []) (spares-seen k b at n j named) ((λ same. cc), tt)))
          (spares-append (flat_map (claim_events p) b.tasks) (map (λ j. step_of (OpenGate j)) b.tasks)
          (spares-flat_map (claim_events p) b.tasks (λ n j named. spares-map (λ k. step_of (Claim k)) (links_into p.diagram.links j) (λ l same. cc)))
          (spares-map (λ j. step_of (OpenGate j)) b.tasks (λ j same. cc)))

      spares-release : (bs : List Batch) → ((k : ℕ) (b : Batch) → slice_get bs k ≡ Some b → (l : ℕ) × (slice_get p.batches l ≡ Some b)) → (t : ℕ) → Spares i (release_events_at p bs t)
      spares-release bs from t = spares-flat_map (batch_events p) (filter (λ b. b.time == t) bs) (λ k b at.
          let (n, there, passes) = stood (λ (b : Batch). b.time == t) bs k b at in
          let (l, own) = from n b there in
          spares-batch l b own)

      spares-before : (t : ℕ) → Spares i (events_before p serve t)
      unfolding events_before
      spares-before zero = tt
      spares-before (suc t) =
          spares-append (events_before p serve t) (events_at p serve t) (spares-before t)
          (spares-append (end_events_at p serve t) (release_events_at p p.batches t ++ service_events_of p serve (serve t) t) (spares-end-at t)
          (spares-append (release_events_at p p.batches t) (service_events_of p serve (serve t) t) (spares-release p.batches (λ k b at. (k, at)) t) (spares-service (serve t) t)))

      spares-so-far : (b t : ℕ) → Spares i (events_so_far p serve b t)
      spares-so-far b t =
          spares-append (events_before p serve t) (end_events_at p serve t ++ release_events_at p (take b p.batches) t) (spares-before t)
          (spares-append (end_events_at p serve t) (release_events_at p (take b p.batches) t) (spares-end-at t)
          (spares-release (take b p.batches) (λ k c at. (k, (take_inside p.batches b k c at).1)) t))

      known_at_start : (ts : List TaskWiring) (k : ℕ) → (slice_index_or (map start_entry ts) k no_task_entry).known ≡ 0
      known_at_start [] k = refl
      known_at_start (t ∷ ts) zero = refl
      known_at_start (t ∷ ts) (suc k) = known_at_start ts k

      -- so the releaser knows of no ended instance
      pub none-known : (w : Wiring) (b t : ℕ) (es : List Step) (s : State) → Plays p w (start_of p w) (events_so_far p serve b t) es s → (task_entry s i).known ≡ 0
      none-known w b t es s plays = known_of_play p w i (events_so_far p serve b t) es (start_of p w) s (spares-so-far b t) plays ∙ known_at_start w.tasks i
