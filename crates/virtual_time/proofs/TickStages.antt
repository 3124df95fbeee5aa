-- The stages of a tick: what is recorded goes on, processor by processor, by the begins and the reads, and then by the ends.
use Rattle.std.proofs.Common.{◌≡◌, ◌≢◌, ℕ, zero, suc, ◌+◌, ◌-◌, ◌<◌, ◌≤◌, Bool, true, false, List, [], ◌∷◌, ◌++◌, length, get_or, set, sum, Option, Some, None, refl, sym, ap, ◌∙◌, subst, inl, inr, arith, append_assoc, get_or-set_other, get_or-set_same}
use Rattle.std.specs.Prelude.{◌==◌, ◌&&◌, if◌then◌else◌, is_some, nat_lt, not}
use Rattle.std.proofs.lemmas.Bool.{cases_eq, cases_lt, eq-eqb, le-ltb, lt-ltb, ne_eqb}
use Rattle.std.proofs.lemmas.List.{append-nil, length_push}
use Rattle.std.proofs.lemmas.List.Sums.{sum_by-set}
use Rattle.dbp_plan.specs.declared.plan.Plan.{Plan}
use Rattle.dbp_plan.specs.Lookups.{declared_task}
use Rattle.dbp_rules.specs.Lookups.{task, task_entry}
use Rattle.dbp_rules.specs.Moves.{read_place}
use Rattle.dbp_rules.specs.Wired.{wiring_of}
use Rattle.dbp_rules.specs.declared.parts.Place.{Place}
use Rattle.dbp_rules.specs.declared.parts.Place.TheVariants.{Idle, Shut}
use Rattle.dbp_rules.specs.declared.state.State.{State}
use Rattle.dbp_rules.specs.declared.step.Count.{Count}
use Rattle.instance_steps.specs.Events.{Event, end_events, read_events}
use Rattle.instance_steps.specs.Recorders.{state_in}
use Rattle.instance_steps.specs.TaskPieces.{HasRowsToRead, MayStep, place_after}
use Rattle.instance_steps.specs.declared.recorder.Recorder.{Recorder}
use Rattle.instance_steps.proofs.Turned.{and_false}
use Rattle.rank_order.specs.Instances.{Instance}
use Rattle.rank_order.specs.Service.{Ran, ServesWaiting, Waits, left_of, served_ticks}
use Rattle.rank_order.proofs.Choices.{same_instance, tick_of, tick_other, tick_own}
use Rattle.rank_order.proofs.ServedTicks.{served_next, served_within}
use Rattle.virtual_time.specs.Pieces.{begin_events_at, end_events_of, service_events_of}
use Rattle.virtual_time.specs.Recordings.{IsRecorded, place_of}
use Rattle.virtual_time.specs.State.{GoesOn, IsSimulatedTo, NoBatchBefore, instance, left_by, release_count}
use Rattle.virtual_time.proofs.Budgets.{all_reads_early}
use Rattle.virtual_time.proofs.PieceEvents.{an_end, no_end}
use Rattle.virtual_time.proofs.Recordings.{all_read, place_all, place_some, same_places}
use Rattle.virtual_time.proofs.Running.{sets_at}
use Rattle.virtual_time.proofs.SomeRecorded.{begins_from, elsewhere, ends_from, here, reads_from, with_place}
use Rattle.virtual_time.proofs.Steps.{busy_count_one, rests_on, runs_on, runs_out, waits_is}

-- Whoever is served waits, on the processor of its task; a processor of a task is below the count. If an instance waits, one
-- is served; and the protocol lets the one that is served step, and read.
pub record Serves (p : Plan) (count : Count) (on : ℕ → ℕ) (serve : ℕ → ℕ → Option Instance) (cpus : ℕ) : Type 0 where
  pub waiting : (c : ℕ) → ServesWaiting p (serve c)
  pub own : (c t : ℕ) (x : Instance) → serve c t ≡ Some x → on x.task ≡ c
  pub there : (i : ℕ) → on i < cpus
  pub busy : (t : ℕ) (x : Instance) → Waits p (left_by p on serve) t x → (c : ℕ) × (z : Instance) × (serve c t ≡ Some z)
  pub may : (t b : ℕ) (now : ℕ → ℕ) (rest : List ℕ) (ends : List (List ℕ)) → IsSimulatedTo p on serve b now rest ends → NoBatchBefore p b (t + 1)
      → (s : State) → ((j : ℕ) → j < length p.diagram.tasks → (task s j).part.ended ≡ length (get_or ends j []))
      → ((j : ℕ) → j < length p.diagram.tasks → (task_entry s j).aimed ≡ release_count p.batches b j)
      → (c : ℕ) (x : Instance) → serve c t ≡ Some x → now (on x.task) ≡ t → MayStep (wiring_of p count) s x.task
  pub rows : (t b : ℕ) (rest : List ℕ) (ends : List (List ℕ)) → IsSimulatedTo p on serve b (λ c. t) rest ends → NoBatchBefore p b (t + 1)
      → (events : List Event) (places : ℕ → Place) (r : Recorder) → IsRecorded p count b events places ends r
      → (c : ℕ) (x : Instance) → serve c t ≡ Some x → HasRowsToRead p (wiring_of p count) (state_in r) x.task ((declared_task p x.task).cost - get_or rest x.task 0)

-- where a task stands: after the reads of the tick if it has made them, else before them
abbrev pub place_at : Plan → ℕ → Bool → ℕ → Place
place_at p i made rest = if made then place_after p i ((declared_task p i).cost - rest + 1) else place_of p i rest

-- The processors have come to these times, and the protocol stands there. These tasks have made their reads of the tick.
-- With what is spent already, no more than this is left of all instances.
pub record Stands (p : Plan) (count : Count) (on : ℕ → ℕ) (serve : ℕ → ℕ → Option Instance) (b : ℕ) (now : ℕ → ℕ) (events : List Event) (made : ℕ → Bool) (spent most : ℕ) : Type 0 where
  pub rest : List ℕ
  pub ends : List (List ℕ)
  pub at : IsSimulatedTo p on serve b now rest ends
  pub recorder : Recorder
  pub recorded : IsRecorded p count b events (λ i. place_at p i (made i) (get_or rest i 0)) ends recorder
  pub few : sum rest + spent ≤ most

-- the same with other times of no task's processor, and others that have made their reads if all have
pub retimed : (p : Plan) (on : ℕ → ℕ) (serve : ℕ → ℕ → Option Instance) (b : ℕ) (now later : ℕ → ℕ) (rest : List ℕ) (ends : List (List ℕ)) → ((i : ℕ) → later (on i) ≡ now (on i)) → ((c : ℕ) → now c ≤ later c)
    → IsSimulatedTo p on serve b now rest ends → IsSimulatedTo p on serve b later rest ends
retimed p on serve b now later rest ends same up at = record {
  rests = at.rests;
  lists = at.lists;
  counts = at.counts;
  ended = at.ended;
  past = λ j k jl kl. omega (arith, at.past j k jl kl, same j);
  under = λ j jl more. at.under j jl more ∙ ap (left_of p (serve (on j)) (instance j (release_count p.batches b j))) (sym (same j));
  early = λ c k d kl kb. omega (arith, at.early c k d kl kb, up c);
  in_time = at.in_time;
}

pub restaged : (p : Plan) (count : Count) (on : ℕ → ℕ) (serve : ℕ → ℕ → Option Instance) (b : ℕ) (now later : ℕ → ℕ) (events events' : List Event) (made made' : ℕ → Bool) (spent spent' most : ℕ)
    → ((i : ℕ) → later (on i) ≡ now (on i)) → ((c : ℕ) → now c ≤ later c) → events' ≡ events → ((i : ℕ) → made' i ≡ made i) → spent' ≤ spent
    → Stands p count on serve b now events made spent most → Stands p count on serve b later events' made' spent' most
restaged p count on serve b now later events events' made made' spent spent' most same up is tasks less s = record {
  rest = s.rest;
  ends = s.ends;
  at = retimed p on serve b now later s.rest s.ends same up s.at;
  recorder = s.recorder;
  recorded = same_places p count b events events' (λ i. place_at p i (made i) (get_or s.rest i 0)) (λ i. place_at p i (made' i) (get_or s.rest i 0)) s.ends s.recorder s.recorded is
      (λ i il. ap (λ (m : Bool). place_at p i m (get_or s.rest i 0)) (tasks i));
  few = omega (arith, s.few, less);
}

-- ---- tests

-- the instance is one of the task
abbrev pub is_of : ℕ → Option Instance → Bool
is_of i None = false
is_of i (Some x) = x.task == i

and_not : (a b c : Bool) → b ≡ c → (a && b) ≡ (a && c)
and_not a b c same = ap (λ (d : Bool). a && d) same

pub below_next : (k c : ℕ) → k ≢ c → nat_lt k (c + 1) ≡ nat_lt k c
below_next k c apart = elim (cases_lt k c) [
  | inl less ↦ rw (lt-ltb k (c + 1) (omega (arith, less)), lt-ltb k c less) refl
  | inr more ↦ rw (le-ltb k (c + 1) (omega (arith, more, apart)), le-ltb k c more) refl
]

module _ (on : ℕ → ℕ) (serve : ℕ → ℕ → Option Instance) (t : ℕ) where
  -- tasks whose instance is served in the tick, on a processor below c or on another
  abbrev pub has_made : ℕ → ℕ → Bool
  has_made c i = is_of i (serve (on i) t) && nat_lt (on i) c

  abbrev pub is_open : ℕ → ℕ → Bool
  is_open c i = is_of i (serve (on i) t) && not (nat_lt (on i) c)

-- the times to which the processors have come, if those below c have served in the tick
abbrev pub come_to : ℕ → ℕ → ℕ → ℕ
come_to t c k = if nat_lt k c then suc t else t

-- how many of the first c processors serve
abbrev pub served_below : (ℕ → ℕ → Option Instance) → ℕ → ℕ → ℕ
served_below serve t zero = 0
served_below serve t (suc c) = served_below serve t c + (if is_some (serve c t) then 1 else 0)

module _ (p : Plan) (count : Count) (on : ℕ → ℕ) (serve : ℕ → ℕ → Option Instance) (cpus : ℕ) (serves : Serves p count on serve cpus) (t : ℕ) where
  -- the task isn't served on c
  same_made : (c i : ℕ) → is_of i (serve c t) ≡ false → has_made on serve t (c + 1) i ≡ has_made on serve t c i
  same_made c i none = elim (cases_eq (on i) c) [
    | inl own ↦ let z : is_of i (serve (on i) t) ≡ false = ap (λ (k : ℕ). is_of i (serve k t)) own ∙ none in rw z refl
    | inr other ↦ and_not (is_of i (serve (on i) t)) (nat_lt (on i) (c + 1)) (nat_lt (on i) c) (below_next (on i) c other)
  ]

  same_open : (c i : ℕ) → is_of i (serve c t) ≡ false → is_open on serve t (c + 1) i ≡ is_open on serve t c i
  same_open c i none = elim (cases_eq (on i) c) [
    | inl own ↦ let z : is_of i (serve (on i) t) ≡ false = ap (λ (k : ℕ). is_of i (serve k t)) own ∙ none in rw z refl
    | inr other ↦ and_not (is_of i (serve (on i) t)) (not (nat_lt (on i) (c + 1))) (not (nat_lt (on i) c)) (ap not (below_next (on i) c other))
  ]

  come_own : (c : ℕ) → come_to t c c ≡ t
  come_own c = rw (le-ltb c c (omega arith)) refl

  come_after : (c : ℕ) → come_to t (c + 1) c ≡ suc t
  come_after c = rw (lt-ltb c (c + 1) (omega arith)) refl

  come_other : (c k : ℕ) → k ≢ c → come_to t (c + 1) k ≡ come_to t c k
  come_other c k apart = rw (below_next k c apart) refl

  come_up : (c k : ℕ) → come_to t c k ≤ come_to t (c + 1) k
  come_up c k = elim (cases_eq k c) [
    | inl own ↦ subst (λ (m : ℕ). come_to t c m ≤ come_to t (c + 1) m) (sym own) (omega (arith, come_own c, come_after c))
    | inr other ↦ omega (arith, come_other c k other)
  ]

  goes : (c : ℕ) → GoesOn on c 1 (come_to t c) (come_to t (c + 1))
  goes c = record { own = omega (arith, come_own c, come_after c); others = λ i apart. come_other c (on i) apart; up = come_up c }

  module _ (b : ℕ) (until : NoBatchBefore p b (t + 1)) (c : ℕ) where
    -- what is known of the instance that is served on c
    pub record IsLast (now : ℕ → ℕ) (rest : List ℕ) (x : Instance) : Type 0 where
      pub small : x.task < length p.diagram.tasks
      pub on_c : on x.task ≡ c
      pub some : 0 < get_or rest x.task 0
      pub within : get_or rest x.task 0 ≤ (declared_task p x.task).cost
      pub number : x.number ≡ release_count p.batches b x.task
      pub served : served_ticks (serve c) x t ≡ (declared_task p x.task).cost - get_or rest x.task 0

    is_last : (now : ℕ → ℕ) (rest : List ℕ) (ends : List (List ℕ)) → IsSimulatedTo p on serve b now rest ends → now c ≡ t → (x : Instance) → serve c t ≡ Some x → IsLast now rest x
    is_last now rest ends at come x is =
        let w : Waits p (left_of p (serve c)) t x = serves.waiting c t x is in
        let on_c : on x.task ≡ c = serves.own c t x is in
        let there : now (on x.task) ≡ t = ap now on_c ∙ come in
        let left : left_of p (serve (on x.task)) x (now (on x.task)) ≡ left_of p (serve c) x t = ap (λ (k : ℕ). left_of p (serve k) x (now (on x.task))) on_c ∙ ap (left_of p (serve c) x) there in
        let w' : Waits p (left_by p on serve) (now (on x.task)) x = record { instance = w.instance; released = omega (arith, w.released, there); unfinished = omega (arith, w.unfinished, left) } in
        let last : (0 < get_or rest x.task 0) × (x.number ≡ release_count p.batches b x.task) = waits_is p on serve b now rest ends at (t + 1) until x (omega (arith, there)) w' in
        let under = at.under x.task w.instance.task last.0 in
        let same : left_of p (serve (on x.task)) (instance x.task (release_count p.batches b x.task)) (now (on x.task)) ≡ left_of p (serve (on x.task)) x (now (on x.task)) =
        ap (λ (z : Instance). left_of p (serve (on x.task)) z (now (on x.task))) (same_instance (instance x.task (release_count p.batches b x.task)) x refl (sym last.1)) in
        let most = served_within p (serve c) (serves.waiting c) x t in
        record {
          small = w.instance.task;
          on_c = on_c;
          some = last.0;
          within = omega (arith, under, same, left);
          number = last.1;
          served = omega (arith, under, same, left, most, last.0);
        }

    not_of : (x : Instance) (j : ℕ) → serve c t ≡ Some x → j ≢ x.task → is_of j (serve c t) ≡ false
    not_of x j is apart = ap (is_of j) is ∙ ne_eqb x.task j (λ same. apart (sym same))

    nobody_of : (j : ℕ) → serve c t ≡ None → is_of j (serve c t) ≡ false
    nobody_of j none = ap (is_of j) none

    -- ---- the begin and the reads

    module _ (events : List Event) (most : ℕ) (s : Stands p count on serve b (λ k. t) events (has_made on serve t c) 0 most) where
      made_none : serve c t ≡ None → Stands p count on serve b (λ k. t) (events ++ service_events_of p (serve c) (serve c t) t) (has_made on serve t (c + 1)) 0 most
      made_none none =
          let nothing : service_events_of p (serve c) (serve c t) t ≡ [] = ap (λ (o : Option Instance). service_events_of p (serve c) o t) none in
          restaged p count on serve b (λ k. t) (λ k. t) events (events ++ service_events_of p (serve c) (serve c t) t) (has_made on serve t c) (has_made on serve t (c + 1)) 0 0 most (λ i. refl) (λ k. omega arith)
          (ap (λ (l : List Event). events ++ l) nothing ∙ append-nil events) (λ i. same_made c i (nobody_of i none)) (omega arith) s

      made_some : (x : Instance) → serve c t ≡ Some x → Stands p count on serve b (λ k. t) (events ++ service_events_of p (serve c) (serve c t) t) (has_made on serve t (c + 1)) 0 most
      made_some x is =
          let l : IsLast (λ k. t) s.rest x = is_last (λ k. t) s.rest s.ends s.at refl x is in
          let not_yet : has_made on serve t c x.task ≡ false = rw (l.on_c, le-ltb c c (omega arith)) (and_false (is_of x.task (serve c t))) in
          let own : place_at p x.task (has_made on serve t c x.task) (get_or s.rest x.task 0) ≡ place_of p x.task (get_or s.rest x.task 0) = ap (λ (m : Bool). place_at p x.task m (get_or s.rest x.task 0)) not_yet in
          let may : (r : Recorder) (vs : List Event) (q : ℕ → Place) → IsRecorded p count b vs q s.ends r → MayStep (wiring_of p count) (state_in r) x.task = λ r vs q g. serves.may t b (λ k. t) s.rest s.ends s.at until (state_in r) g.ended g.aimed c x is refl in
          let gate : (task (state_in s.recorder) x.task).words.gate ≡ (task (state_in s.recorder) x.task).part.ended + 1 =
          let gates = s.recorded.gates x.task l.small in
          let ended = s.recorded.ended x.task l.small in
          let counted = s.at.counts x.task l.small in
          let one = busy_count_one (get_or s.rest x.task 0) l.some in
          omega (arith, gates, ended, counted, one) in
          let (r, g) = begins_from p count b events (λ j. place_at p j (has_made on serve t c j) (get_or s.rest j 0)) s.ends s.recorder s.recorded x.task l.small (may s.recorder events (λ j. place_at p j (has_made on serve t c j) (get_or s.rest j 0)) s.recorded)
          ((declared_task p x.task).cost - get_or s.rest x.task 0)
          (λ none. own ∙ ap (place_of p x.task) (let all : get_or s.rest x.task 0 ≡ (declared_task p x.task).cost = omega (arith, none, l.within) in all) ∙ place_all p x.task)
          (λ some. own ∙ place_some p x.task (get_or s.rest x.task 0) l.some (omega (arith, some)))
          gate in
          let begun : ℕ → Place = with_place (λ j. place_at p j (has_made on serve t c j) (get_or s.rest j 0)) x.task (place_after p x.task ((declared_task p x.task).cost - get_or s.rest x.task 0)) in
          let (r', g') = reads_from p count b (events ++ begin_events_at p x.task ((declared_task p x.task).cost - get_or s.rest x.task 0)) begun s.ends r g x.task l.small (may r (events ++ begin_events_at p x.task ((declared_task p x.task).cost - get_or s.rest x.task 0)) begun g)
          ((declared_task p x.task).cost - get_or s.rest x.task 0) (here (λ j. place_at p j (has_made on serve t c j) (get_or s.rest j 0)) x.task (place_after p x.task ((declared_task p x.task).cost - get_or s.rest x.task 0)))
          (serves.rows t b s.rest s.ends s.at until (events ++ begin_events_at p x.task ((declared_task p x.task).cost - get_or s.rest x.task 0)) begun r g c x is) in
          let steps : service_events_of p (serve c) (serve c t) t ≡ begin_events_at p x.task ((declared_task p x.task).cost - get_or s.rest x.task 0) ++ read_events p x.task ((declared_task p x.task).cost - get_or s.rest x.task 0) =
          ap (λ (o : Option Instance). service_events_of p (serve c) o t) is ∙ ap (λ (n : ℕ). begin_events_at p x.task n ++ read_events p x.task n) l.served in
          let all : events ++ service_events_of p (serve c) (serve c t) t ≡ (events ++ begin_events_at p x.task ((declared_task p x.task).cost - get_or s.rest x.task 0)) ++ read_events p x.task ((declared_task p x.task).cost - get_or s.rest x.task 0) =
          ap (λ (vs : List Event). events ++ vs) steps ∙ sym (append_assoc events (begin_events_at p x.task ((declared_task p x.task).cost - get_or s.rest x.task 0)) (read_events p x.task ((declared_task p x.task).cost - get_or s.rest x.task 0))) in
          let now_made : has_made on serve t (c + 1) x.task ≡ true = rw (l.on_c, is, lt-ltb c (c + 1) (omega arith), eq-eqb x.task x.task refl) refl in
          record {
            rest = s.rest;
            ends = s.ends;
            at = s.at;
            recorder = r';
            recorded = same_places p count b _ (events ++ service_events_of p (serve c) (serve c t) t) (with_place begun x.task (place_after p x.task ((declared_task p x.task).cost - get_or s.rest x.task 0 + 1))) (λ j. place_at p j (has_made on serve t (c + 1) j) (get_or s.rest j 0)) s.ends r' g' all
                (λ j jl. elim (cases_eq j x.task) [
                  | inl e ↦
                      subst (λ (k : ℕ). place_at p k (has_made on serve t (c + 1) k) (get_or s.rest k 0) ≡ with_place begun x.task (place_after p x.task ((declared_task p x.task).cost - get_or s.rest x.task 0 + 1)) k) (sym e)
                      (ap (λ (m : Bool). place_at p x.task m (get_or s.rest x.task 0)) now_made ∙ sym (here begun x.task (place_after p x.task ((declared_task p x.task).cost - get_or s.rest x.task 0 + 1))))
                  | inr apart ↦
                      ap (λ (m : Bool). place_at p j m (get_or s.rest j 0)) (same_made c j (not_of x j is apart))
                      ∙ sym (elsewhere begun x.task (place_after p x.task ((declared_task p x.task).cost - get_or s.rest x.task 0 + 1)) j apart
                      ∙ elsewhere (λ j. place_at p j (has_made on serve t c j) (get_or s.rest j 0)) x.task (place_after p x.task ((declared_task p x.task).cost - get_or s.rest x.task 0)) j apart)
                ]);
            few = s.few;
          }

      pub made_next : Stands p count on serve b (λ k. t) (events ++ service_events_of p (serve c) (serve c t) t) (has_made on serve t (c + 1)) 0 most
      made_next = by (serve c t) refl
        where
          by : (o : Option Instance) → serve c t ≡ o → Stands p count on serve b (λ k. t) (events ++ service_events_of p (serve c) (serve c t) t) (has_made on serve t (c + 1)) 0 most
          by None is = made_none is
          by (Some x) is = made_some x is

    -- ---- the end

    -- the instance alone is served on c
    ran : (x : Instance) → serve c t ≡ Some x → Ran (serve c) x t 1
    ran x is =
        let next : t + 1 ≡ suc t = omega arith in
        record {
          own =
              let tick : tick_of x (serve c t) ≡ 1 = ap (tick_of x) is ∙ tick_own x in
              omega (arith, ap (served_ticks (serve c) x) next, served_next (serve c) x t, tick);
          others = λ y apart.
              let tick : tick_of y (serve c t) ≡ 0 = ap (tick_of y) is ∙ tick_other y x (λ same. apart (sym same)) in
              omega (arith, ap (served_ticks (serve c) y) next, served_next (serve c) y t, tick);
        }

    nobody_served : serve c t ≡ None → (y : Instance) → served_ticks (serve c) y (come_to t c c + 1) ≡ served_ticks (serve c) y (come_to t c c)
    nobody_served none y =
        let next : t + 1 ≡ suc t = omega arith in
        let tick : tick_of y (serve c t) ≡ 0 = ap (tick_of y) none in
        let same : served_ticks (serve c) y (t + 1) ≡ served_ticks (serve c) y t = omega (arith, ap (served_ticks (serve c) y) next, served_next (serve c) y t, tick) in
        subst (λ (u : ℕ). served_ticks (serve c) y (u + 1) ≡ served_ticks (serve c) y u) (sym (come_own c)) same

    module _ (events : List Event) (most : ℕ) (s : Stands p count on serve b (come_to t c) events (is_open on serve t c) (served_below serve t c) most) where
      ended_none : serve c t ≡ None → Stands p count on serve b (come_to t (c + 1)) (events ++ end_events_of p (serve c) (serve c t) (suc t)) (is_open on serve t (c + 1)) (served_below serve t (c + 1)) most
      ended_none none =
          let nothing : end_events_of p (serve c) (serve c t) (suc t) ≡ [] = ap (λ (o : Option Instance). end_events_of p (serve c) o (suc t)) none in
          let one : c + 1 ≡ suc c = omega arith in
          let spent : served_below serve t (c + 1) ≡ served_below serve t c = ap (served_below serve t) one ∙ ap (λ (o : Option Instance). served_below serve t c + (if is_some o then 1 else 0)) none ∙ (let z : served_below serve t c + 0 ≡ served_below serve t c = omega arith in z) in
          record {
            rest = s.rest;
            ends = s.ends;
            at = rests_on p on serve b (come_to t c) s.rest s.ends s.at c 1 (come_to t (c + 1)) (goes c) (nobody_served none);
            recorder = s.recorder;
            recorded = same_places p count b events (events ++ end_events_of p (serve c) (serve c t) (suc t)) (λ i. place_at p i (is_open on serve t c i) (get_or s.rest i 0)) (λ i. place_at p i (is_open on serve t (c + 1) i) (get_or s.rest i 0)) s.ends s.recorder s.recorded
                (ap (λ (l : List Event). events ++ l) nothing ∙ append-nil events) (λ i il. ap (λ (m : Bool). place_at p i m (get_or s.rest i 0)) (same_open c i (nobody_of i none)));
            few = omega (arith, s.few, spent);
          }

      module _ (x : Instance) (is : serve c t ≡ Some x) where
        l : IsLast (come_to t c) s.rest x
        l = is_last (come_to t c) s.rest s.ends s.at (come_own c) x is

        here_now : come_to t c (on x.task) ≡ t
        here_now = ap (come_to t c) l.on_c ∙ come_own c

        goes_here : GoesOn on (on x.task) 1 (come_to t c) (come_to t (c + 1))
        goes_here = subst (λ (k : ℕ). GoesOn on k 1 (come_to t c) (come_to t (c + 1))) (sym l.on_c) (goes c)

        ran_here : Ran (serve (on x.task)) (instance x.task (release_count p.batches b x.task)) (come_to t c (on x.task)) 1
        ran_here =
            let same : x ≡ instance x.task (release_count p.batches b x.task) = same_instance x (instance x.task (release_count p.batches b x.task)) refl l.number in
            subst (λ (k : ℕ). Ran (serve k) (instance x.task (release_count p.batches b x.task)) (come_to t c (on x.task)) 1) (sym l.on_c)
            (subst (λ (u : ℕ). Ran (serve c) (instance x.task (release_count p.batches b x.task)) u 1) (sym here_now)
            (subst (λ (z : Instance). Ran (serve c) z t 1) same (ran x is)))

        spent_more : served_below serve t (c + 1) ≡ served_below serve t c + 1
        spent_more =
            let one : c + 1 ≡ suc c = omega arith in
            ap (served_below serve t) one ∙ ap (λ (o : Option Instance). served_below serve t c + (if is_some o then 1 else 0)) is

        inside : x.task < length s.rest
        inside = omega (arith, s.at.rests, l.small)

        inside_ends : x.task < length s.ends
        inside_ends = omega (arith, s.at.lists, l.small)

        less_left : sum (set s.rest x.task (get_or s.rest x.task 0 - 1)) + served_below serve t (c + 1) ≤ most
        less_left = omega (arith, sum_by-set (λ (n : ℕ). n) s.rest x.task (get_or s.rest x.task 0 - 1) 0 inside, s.few, spent_more, l.some)

        was_open : is_open on serve t c x.task ≡ true
        was_open = rw (l.on_c, is, le-ltb c c (omega arith), eq-eqb x.task x.task refl) refl

        is_shut : is_open on serve t (c + 1) x.task ≡ false
        is_shut = rw (l.on_c, is, lt-ltb c (c + 1) (omega arith), eq-eqb x.task x.task refl) refl

        stood : place_at p x.task (is_open on serve t c x.task) (get_or s.rest x.task 0) ≡ place_after p x.task ((declared_task p x.task).cost - get_or s.rest x.task 0 + 1)
        stood = ap (λ (m : Bool). place_at p x.task m (get_or s.rest x.task 0)) was_open

        left_now : left_of p (serve c) x (suc t) ≡ get_or s.rest x.task 0 - 1
        left_now =
            let own = (ran x is).own in
            let next : t + 1 ≡ suc t = omega arith in
            omega (arith, own, ap (served_ticks (serve c) x) next, l.served, l.within, l.some)

        other_rest : (v : ℕ) (j : ℕ) → j ≢ x.task → get_or (set s.rest x.task v) j 0 ≡ get_or s.rest j 0
        other_rest v j apart = get_or-set_other s.rest x.task j v 0 apart

        ended_later : 1 < get_or s.rest x.task 0 → Stands p count on serve b (come_to t (c + 1)) (events ++ end_events_of p (serve c) (serve c t) (suc t)) (is_open on serve t (c + 1)) (served_below serve t (c + 1)) most
        ended_later more =
            let rest' : List ℕ = set s.rest x.task (get_or s.rest x.task 0 - 1) in
            let own_rest : get_or (set s.rest x.task (get_or s.rest x.task 0 - 1)) x.task 0 ≡ get_or s.rest x.task 0 - 1 = get_or-set_same s.rest x.task (get_or s.rest x.task 0 - 1) 0 inside in
            let nothing : end_events_of p (serve c) (serve c t) (suc t) ≡ [] = ap (λ (o : Option Instance). end_events_of p (serve c) o (suc t)) is ∙ no_end p (serve c) x (suc t) (omega (arith, left_now, more)) in
            let left' : (declared_task p x.task).cost - (get_or s.rest x.task 0 - 1) ≡ (declared_task p x.task).cost - get_or s.rest x.task 0 + 1 = omega (arith, more, l.within) in
            let own_place : place_at p x.task (is_open on serve t (c + 1) x.task) (get_or (set s.rest x.task (get_or s.rest x.task 0 - 1)) x.task 0) ≡ place_after p x.task ((declared_task p x.task).cost - get_or s.rest x.task 0 + 1) =
            ap (λ (m : Bool). place_at p x.task m (get_or (set s.rest x.task (get_or s.rest x.task 0 - 1)) x.task 0)) is_shut
            ∙ ap (place_of p x.task) own_rest
            ∙ place_some p x.task (get_or s.rest x.task 0 - 1) (omega (arith, more)) (omega (arith, more, l.within))
            ∙ ap (place_after p x.task) left' in
            record {
              rest = rest';
              ends = s.ends;
              at = runs_on p on serve b (come_to t c) s.rest s.ends s.at x.task 1 (come_to t (c + 1)) goes_here l.small l.some ran_here (set s.rest x.task (get_or s.rest x.task 0 - 1)) more (sets_at 0 s.rest x.task (get_or s.rest x.task 0 - 1) inside);
              recorder = s.recorder;
              recorded = same_places p count b events (events ++ end_events_of p (serve c) (serve c t) (suc t)) (λ i. place_at p i (is_open on serve t c i) (get_or s.rest i 0)) (λ i. place_at p i (is_open on serve t (c + 1) i) (get_or (set s.rest x.task (get_or s.rest x.task 0 - 1)) i 0)) s.ends s.recorder s.recorded
                  (ap (λ (vs : List Event). events ++ vs) nothing ∙ append-nil events)
                  (λ j jl. elim (cases_eq j x.task) [
                    | inl e ↦ subst (λ (k : ℕ). place_at p k (is_open on serve t (c + 1) k) (get_or (set s.rest x.task (get_or s.rest x.task 0 - 1)) k 0) ≡ place_at p k (is_open on serve t c k) (get_or s.rest k 0)) (sym e) (own_place ∙ sym stood)
                    | inr apart ↦
                        ap (λ (m : Bool). place_at p j m (get_or (set s.rest x.task (get_or s.rest x.task 0 - 1)) j 0)) (same_open c j (not_of x j is apart))
                        ∙ ap (place_at p j (is_open on serve t c j)) (other_rest (get_or s.rest x.task 0 - 1) j apart)
                  ]);
              few = less_left;
            }

        ended_here : 1 ≡ get_or s.rest x.task 0 → Stands p count on serve b (come_to t (c + 1)) (events ++ end_events_of p (serve c) (serve c t) (suc t)) (is_open on serve t (c + 1)) (served_below serve t (c + 1)) most
        ended_here one =
            let ends' : List (List ℕ) = set s.ends x.task (get_or s.ends x.task [] ++ (come_to t c (on x.task) + 1) ∷ []) in
            let own_rest : get_or (set s.rest x.task 0) x.task 0 ≡ 0 = get_or-set_same s.rest x.task 0 0 inside in
            let own_ends : length (get_or (set s.ends x.task (get_or s.ends x.task [] ++ (come_to t c (on x.task) + 1) ∷ [])) x.task []) ≡ length (get_or s.ends x.task []) + 1 =
            ap (length {A = ℕ}) (get_or-set_same s.ends x.task (get_or s.ends x.task [] ++ (come_to t c (on x.task) + 1) ∷ []) [] inside_ends) ∙ length_push (get_or s.ends x.task []) (come_to t c (on x.task) + 1) in
            let other_ends : (j : ℕ) → j ≢ x.task → length (get_or (set s.ends x.task (get_or s.ends x.task [] ++ (come_to t c (on x.task) + 1) ∷ [])) j []) ≡ length (get_or s.ends j []) =
            λ j apart. ap (length {A = ℕ}) (get_or-set_other s.ends x.task j (get_or s.ends x.task [] ++ (come_to t c (on x.task) + 1) ∷ []) [] apart) in
            let made : end_events_of p (serve c) (serve c t) (suc t) ≡ end_events p x.task = ap (λ (o : Option Instance). end_events_of p (serve c) o (suc t)) is ∙ an_end p (serve c) x (suc t) (omega (arith, left_now, one)) in
            let whole : (declared_task p x.task).cost - get_or s.rest x.task 0 + 1 ≡ (declared_task p x.task).cost = omega (arith, one, l.within) in
            let shut : place_at p x.task (is_open on serve t c x.task) (get_or s.rest x.task 0) ≡ Shut =
            stood ∙ ap (place_after p x.task) whole ∙ ap (read_place (length (declared_task p x.task).reads)) (all_reads_early p x.task l.small) ∙ all_read (length (declared_task p x.task).reads) in
            let may : MayStep (wiring_of p count) (state_in s.recorder) x.task = serves.may t b (come_to t c) s.rest s.ends s.at until (state_in s.recorder) s.recorded.ended s.recorded.aimed c x is here_now in
            let (r, g) = ends_from p count b events (λ j. place_at p j (is_open on serve t c j) (get_or s.rest j 0)) s.ends s.recorder s.recorded x.task l.small may
            (set s.ends x.task (get_or s.ends x.task [] ++ (come_to t c (on x.task) + 1) ∷ [])) shut own_ends other_ends in
            let none : get_or s.rest x.task 0 - 1 ≡ 0 = omega (arith, one) in
            record {
              rest = set s.rest x.task 0;
              ends = ends';
              at = runs_out p on serve b (come_to t c) s.rest s.ends s.at x.task 1 (come_to t (c + 1)) goes_here l.small l.some ran_here (set s.rest x.task 0)
                  (set s.ends x.task (get_or s.ends x.task [] ++ (come_to t c (on x.task) + 1) ∷ [])) one (sets_at 0 s.rest x.task 0 inside)
                  (sets_at [] s.ends x.task (get_or s.ends x.task [] ++ (come_to t c (on x.task) + 1) ∷ []) inside_ends);
              recorder = r;
              recorded = same_places p count b (events ++ end_events p x.task) (events ++ end_events_of p (serve c) (serve c t) (suc t)) (with_place (λ j. place_at p j (is_open on serve t c j) (get_or s.rest j 0)) x.task Idle) (λ i. place_at p i (is_open on serve t (c + 1) i) (get_or (set s.rest x.task 0) i 0))
                  (set s.ends x.task (get_or s.ends x.task [] ++ (come_to t c (on x.task) + 1) ∷ [])) r g
                  (ap (λ (vs : List Event). events ++ vs) made)
                  (λ j jl. elim (cases_eq j x.task) [
                    | inl e ↦
                        subst (λ (k : ℕ). place_at p k (is_open on serve t (c + 1) k) (get_or (set s.rest x.task 0) k 0) ≡ with_place (λ j. place_at p j (is_open on serve t c j) (get_or s.rest j 0)) x.task Idle k) (sym e)
                        (ap (λ (m : Bool). place_at p x.task m (get_or (set s.rest x.task 0) x.task 0)) is_shut ∙ ap (place_of p x.task) own_rest ∙ sym (here (λ j. place_at p j (is_open on serve t c j) (get_or s.rest j 0)) x.task Idle))
                    | inr apart ↦
                        ap (λ (m : Bool). place_at p j m (get_or (set s.rest x.task 0) j 0)) (same_open c j (not_of x j is apart))
                        ∙ ap (place_at p j (is_open on serve t c j)) (other_rest 0 j apart)
                        ∙ sym (elsewhere (λ j. place_at p j (is_open on serve t c j) (get_or s.rest j 0)) x.task Idle j apart)
                  ]);
              few = subst (λ (v : ℕ). sum (set s.rest x.task v) + served_below serve t (c + 1) ≤ most) none less_left;
            }

      pub ended_next : Stands p count on serve b (come_to t (c + 1)) (events ++ end_events_of p (serve c) (serve c t) (suc t)) (is_open on serve t (c + 1)) (served_below serve t (c + 1)) most
      ended_next = by (serve c t) refl
        where
          by : (o : Option Instance) → serve c t ≡ o → Stands p count on serve b (come_to t (c + 1)) (events ++ end_events_of p (serve c) (serve c t) (suc t)) (is_open on serve t (c + 1)) (served_below serve t (c + 1)) most
          by None is = ended_none is
          by (Some x) is = elim (cases_eq 1 (get_or s.rest x.task 0)) [
            | inl one ↦ ended_here x is one
            | inr more ↦ ended_later x is (omega (arith, more, (l x is).some))
          ]
