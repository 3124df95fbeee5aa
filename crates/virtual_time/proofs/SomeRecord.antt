-- A plan without an overrun has a record: tick by tick, until nothing is left of any instance.
use Rattle.std.specs.Prelude.{IfSome}
use Rattle.std.proofs.Common.{◌≡◌, ℕ, zero, suc, ◌+◌, ◌-◌, ◌<◌, ◌≤◌, true, false, cond, List, [], ◌++◌, length, map, get_or, replicate, sum, take, Option, Some, refl, sym, ap, ◌∙◌, subst, inl, inr, arith, append_assoc}
use Rattle.std.specs.List.{range_with_len}
use Rattle.std.proofs.lemmas.Bool.{cases_eq, cases_lt, le-ltb, lt-ltb}
use Rattle.std.proofs.lemmas.List.{append-nil, get_or-replicate, get_or_default, get_or_past, get_or-take, length-replicate, length-take, take_all}
use Rattle.std.proofs.lemmas.List.FromFn.{get_or-map-range_with_len, length-map-range_with_len}
use Rattle.dbp_plan.specs.declared.plan.Plan.{Plan}
use Rattle.dbp_plan.specs.declared.schedule.Batch.{Batch}
use Rattle.dbp_plan.specs.Lookups.{declared_task}
use Rattle.dbp_plan.specs.Occurrences.{names, times_of}
use Rattle.dbp_plan.proofs.PlanRules as rules
use Rattle.dbp_rules.specs.Lookups.{task, task_entry, wired_task}
use Rattle.dbp_rules.specs.Start.{start_of, start_task}
use Rattle.dbp_rules.specs.Wired.{wiring_of}
use Rattle.dbp_rules.specs.declared.state.State.{State}
use Rattle.dbp_rules.specs.declared.state.TaskState.{TaskState}
use Rattle.dbp_rules.specs.declared.step.Count.{Count}
use Rattle.dbp_rules.specs.declared.step.Step.{Step}
use Rattle.instance_steps.specs.Events.{Event, batch_events}
use Rattle.instance_steps.specs.Plays.{Plays}
use Rattle.instance_steps.specs.Recorders.{state_in}
use Rattle.instance_steps.specs.Releases.{batch_at, no_batch}
use Rattle.instance_steps.proofs.SomeSteps.{some_start}
use Rattle.instance_steps.proofs.Turned.{and_false}
use Rattle.rank_order.specs.Ends.{Late, NoOverrun}
use Rattle.rank_order.specs.Instances.{Instance, IsInstance}
use Rattle.rank_order.specs.Service.{left_of}
use Rattle.virtual_time.specs.Pieces.{end_events_of, release_events_at, service_events_of}
use Rattle.virtual_time.specs.Recordings.{IsRecorded, place_of}
use Rattle.virtual_time.specs.State.{NoBatchBefore, Renewed, instance, left_by, release_count}
use Rattle.virtual_time.proofs.FirstStates.{first_ended, first_entry, first_gate, first_place}
use Rattle.virtual_time.proofs.PieceEvents.{no_releases, release_more, releases_so_far}
use Rattle.virtual_time.proofs.Recordings.{same_places}
use Rattle.virtual_time.proofs.Releases.{brought, released}
use Rattle.virtual_time.proofs.Running.{sum_zero}
use Rattle.virtual_time.proofs.SomeRecorded.{releases_from}
use Rattle.virtual_time.proofs.Steps.{busy_count_none, busy_count_one, ended_left, waits_from}
use Rattle.virtual_time.proofs.TickStages.{Serves, Stands, come_to, ended_next, has_made, is_open, is_of, made_next, place_at, restaged, served_below}
use Rattle.virtual_time.proofs.Whole.{named_there}

-- ---- the start

-- the batches before so many are those before the time
pub record Comes (p : Plan) (b t : ℕ) : Type 0 where
  pub before : (k : ℕ) (d : Batch) → k < b → k < length p.batches → (get_or p.batches k d).time < t
  pub later : NoBatchBefore p b t
  pub below : b ≤ length p.batches

start_stands : (p : Plan) (count : Count) (on : ℕ → ℕ) (serve : ℕ → ℕ → Option Instance) → Stands p count on serve 0 (λ c. 0) [] (λ i. false) 0 0
start_stands p count on serve =
    let (r, first) = some_start p count in
    let rest : List ℕ = replicate (length p.diagram.tasks) 0 in
    let ends : List (List ℕ) = replicate (length p.diagram.tasks) [] in
    let make : ℕ → TaskState = λ i. start_task (wired_task (wiring_of p count) i) (declared_task p i) in
    let range : List ℕ = range_with_len 0 (length (wiring_of p count).tasks) in
    let none : (i : ℕ) → i < length p.diagram.tasks → get_or rest i 0 ≡ 0 = λ i il. get_or-replicate (length p.diagram.tasks) i 0 0 il in
    let nil : (i : ℕ) → i < length p.diagram.tasks → length (get_or ends i []) ≡ 0 = λ i il. ap (length {A = ℕ}) (get_or-replicate (length p.diagram.tasks) i [] [] il) in
    let long : length rest ≡ length p.diagram.tasks = length-replicate (length p.diagram.tasks) 0 in
    let zero' : sum rest ≡ 0 = sum_zero rest (λ i il. none i (omega (arith, il, long))) in
    record {
      rest = rest;
      ends = ends;
      at = record {
        rests = long;
        lists = length-replicate (length p.diagram.tasks) [];
        counts = λ i il. let n = nil i il in let z = busy_count_none (get_or rest i 0) (none i il) in omega (arith, n, z);
        ended = λ i k il kl. let n = nil i il in absurd (omega (arith, n, kl));
        past = λ i k il kl. let n = nil i il in absurd (omega (arith, n, kl));
        under = λ i il some. let z = none i il in absurd (omega (arith, z, some));
        early = λ c k d kl kb. absurd (omega (arith, kl));
        in_time = λ x there two le. absurd (omega (arith, two, le));
      };
      recorder = r;
      recorded = record {
        plan = first.plan;
        wiring = first.wiring;
        steps = [];
        plays = first.state;
        kept = subst (λ (o : Option (List Step)). IfSome o (λ l. l ≡ [])) (sym first.steps) tt;
        rows = first.rows;
        released = ap (λ (t : State). t.releaser.place) first.state;
        aimed = λ i il. ap (λ (t : State). (task_entry t i).aimed) first.state ∙ first_entry (wiring_of p count).tasks i;
        gates = λ i il. ap (λ (t : State). (task t i).words.gate) first.state ∙ first_gate make (λ k. refl) (λ k. refl) (λ k. refl) range i;
        ended = λ i il. ap (λ (t : State). (task t i).part.ended) first.state ∙ first_ended make (λ k. refl) (λ k. refl) (λ k. refl) range i ∙ sym (nil i il);
        place = λ i il. ap (λ (t : State). (task t i).part.place) first.state ∙ first_place make (λ k. refl) (λ k. refl) (λ k. refl) range i ∙ sym (ap (place_of p i) (none i il));
      };
      few = omega (arith, zero');
    }

-- ---- the release of a tick

-- what is left after the release of a batch
some_renewed : (p : Plan) (b : ℕ) (rest : List ℕ) → b < length p.batches → length rest ≡ length p.diagram.tasks → (rest' : List ℕ) × Renewed p (batch_at p b) rest rest'
some_renewed p b rest more long =
    let left : ℕ → ℕ = λ i. cond (names i (batch_at p b)) (declared_task p i).cost (get_or rest i 0) in
    let all : List ℕ = map left (range_with_len 0 (length rest)) in
    let size : length (map left (range_with_len 0 (length rest))) ≡ length rest = length-map-range_with_len left 0 (length rest) in (
      all,
      record {
        long = size;
        named = λ i is.
            let small : i < length rest = omega (arith, named_there p b more i is, long) in
            get_or-map-range_with_len left 0 (length rest) i i 0 small (omega arith) ∙ rw is refl;
        others = λ i isnt. elim (cases_lt i (length rest)) [
          | inl small ↦ get_or-map-range_with_len left 0 (length rest) i i 0 small (omega arith) ∙ rw isnt refl
          | inr past ↦ get_or_past (map left (range_with_len 0 (length rest))) i 0 (omega (arith, size, past)) ∙ sym (get_or_past rest i 0 past)
        ];
      },
    )

-- ---- the events of a tick on the first processors: the services, and the ends after it

module _ (p : Plan) (serve : ℕ → ℕ → Option Instance) where
  abbrev pub services_to : ℕ → ℕ → List Event
  services_to zero t = []
  services_to (suc c) t = services_to c t ++ service_events_of p (serve c) (serve c t) t

  abbrev pub ends_to : ℕ → ℕ → List Event
  ends_to zero t = []
  ends_to (suc c) t = ends_to c t ++ end_events_of p (serve c) (serve c t) (suc t)

-- a processor that serves is counted
some_served : (serve : ℕ → ℕ → Option Instance) (t c n : ℕ) (z : Instance) → serve c t ≡ Some z → c < n → 0 < served_below serve t n
some_served serve t c zero z is less = absurd (omega (arith, less))
some_served serve t c (suc n) z is less = elim (cases_eq c n) [
  | inl last ↦
      let here : serve n t ≡ Some z = ap (λ (k : ℕ). serve k t) (sym last) ∙ is in
      rw here (omega arith)
  | inr before ↦ omega (arith, some_served serve t c n z is (omega (arith, less, before)))
]

-- such a record, of events that stand before each tick's releases
pub record HasRecord (p : Plan) (count : Count) (on : ℕ → ℕ) (serve : ℕ → ℕ → Option Instance) (cpus : ℕ) (front : ℕ → List Event) : Type 0 where
  pub last : ℕ
  pub released : (k : ℕ) (d : Batch) → k < length p.batches → (get_or p.batches k d).time ≤ last
  pub ended : (x : Instance) → IsInstance p x → left_by p on serve x last ≡ 0
  pub steps : List Step
  pub state : State
  pub plays : Plays p (wiring_of p count) (start_of p (wiring_of p count)) ((front last ++ release_events_at p p.batches last) ++ services_to p serve cpus last) steps state

module _ (p : Plan) (count : Count) (on : ℕ → ℕ) (serve : ℕ → ℕ → Option Instance) (cpus : ℕ) (serves : Serves p count on serve cpus) (in_time : NoOverrun p (left_by p on serve)) where
  -- ---- the release

  module _ (b t most : ℕ) (front : List Event) (comes : Comes p b t) (s : Stands p count on serve b (λ c. t) front (λ i. false) 0 most) where
    none_before : release_events_at p (take b p.batches) t ≡ []
    none_before = no_releases p (take b p.batches) t (λ k d lt same.
        let n = length-take b p.batches in
        let kb : k < b = omega (arith, lt, n) in
        let at = ap (λ (c : Batch). c.time) (get_or-take b p.batches k d kb) in
        let early = comes.before k d kb (omega (arith, lt, n)) in
        omega (arith, at, early, same))

    -- no batch is due
    unreleased : NoBatchBefore p b (t + 1) → Stands p count on serve b (λ c. t) (front ++ release_events_at p p.batches t) (λ i. false) 0 most
    unreleased until =
        let nothing : release_events_at p p.batches t ≡ [] = releases_so_far p b t (λ k d ge kl same. let l = until.later k d ge kl in omega (arith, l, same)) ∙ none_before in
        restaged p count on serve b (λ c. t) (λ c. t) front (front ++ release_events_at p p.batches t) (λ i. false) (λ i. false) 0 0 most (λ i. refl) (λ c. omega arith)
        (ap (λ (l : List Event). front ++ l) nothing ∙ append-nil front) (λ i. refl) (omega arith) s

    module _ (more : b < length p.batches) (due : (batch_at p b).time ≡ t) where
      -- nothing is left of its tasks
      free : (i : ℕ) → names i (batch_at p b) ≡ true → get_or s.rest i 0 ≡ 0
      free i named = elim (cases_eq (get_or s.rest i 0) 0) [
        | inl none ↦ none
        | inr left ↦
            let il : i < length p.diagram.tasks = named_there p b more i named in
            let some : 0 < get_or s.rest i 0 = omega (arith, left) in
            let counted = s.at.counts i il in
            let one = busy_count_one (get_or s.rest i 0) some in
            let (is, at) = brought p on serve serves.waiting b t s.rest s.ends s.at more due i il named in
            let back : release_count p.batches b i + 1 - 1 ≡ release_count p.batches b i = omega arith in
            let under = s.at.under i il some in
            let late : Late p (left_by p on serve) t (instance i (release_count p.batches b i + 1)) = record {
              instance = is;
              not_first = omega (arith, counted, one);
              at = at;
              unfinished = subst (λ (n : ℕ). 0 < left_of p (serve (on i)) (instance i n) t) (sym back) (omega (arith, under, some));
            } in
            absurd (in_time.none t (instance i (release_count p.batches b i + 1)) late)
      ]

      released_now : (most' : ℕ) × Stands p count on serve (b + 1) (λ c. t) (front ++ release_events_at p p.batches t) (λ i. false) 0 most'
      released_now =
          let (rest', renewed) = some_renewed p b s.rest more s.at.rests in
          let (r, g) = releases_from p count b front s.rest rest' s.ends s.recorder s.recorded more free
          (λ i named.
          let il = named_there p b more i named in
          let counted = s.at.counts i il in
          let none = busy_count_none (get_or s.rest i 0) (free i named) in
          (il, omega (arith, counted, none))) renewed in
          let own : release_events_at p p.batches t ≡ batch_events p (batch_at p b) =
          releases_so_far p (b + 1) t (λ k d ge kl same. let after = rules.rising p b k no_batch d (omega (arith, ge)) kl in omega (arith, after, due, same))
          ∙ release_more p b t no_batch more due
          ∙ ap (λ (l : List Event). l ++ batch_events p (batch_at p b)) none_before in (
            sum rest',
            record {
              rest = rest';
              ends = s.ends;
              at = released p on serve serves.waiting b t s.rest s.ends s.at more due rest' renewed (λ i il named. free i named);
              recorder = r;
              recorded = subst (λ (l : List Event). IsRecorded p count (b + 1) (front ++ l) (λ i. place_of p i (get_or rest' i 0)) s.ends r) (sym own) g;
              few = omega arith;
            },
          )

      comes_next : Comes p (b + 1) (suc t)
      comes_next = record {
        before = λ k d lt kl. elim (cases_eq k b) [
          | inl last ↦
              let same : (get_or p.batches k d).time ≡ (batch_at p b).time = ap (λ (m : ℕ). (get_or p.batches m d).time) last ∙ ap (λ (c : Batch). c.time) (get_or_default p.batches b d no_batch more) in
              omega (arith, same, due)
          | inr other ↦ let early = comes.before k d (omega (arith, lt, other)) kl in omega (arith, early)
        ];
        later = record { later = λ k d ge kl. let after = rules.rising p b k no_batch d (omega (arith, ge)) kl in omega (arith, after, due) };
        below = omega (arith, more);
      }

    -- in any case
    pub some_released : (b' : ℕ) × (most' : ℕ) × Comes p b' (suc t) × Stands p count on serve b' (λ c. t) (front ++ release_events_at p p.batches t) (λ i. false) 0 most'
    some_released = elim (cases_lt b (length p.batches)) [
      | inr over ↦ stays (record { later = λ k d ge kl. absurd (omega (arith, ge, kl, over)) })
      | inl more ↦ elim (cases_eq (batch_at p b).time t) [
        | inl due ↦ let (most', new) = released_now more due in (b + 1, most', comes_next more due, new)
        | inr early ↦ stays (record {
          later = λ k d ge kl. elim (cases_eq k b) [
            | inl last ↦
                let same : (get_or p.batches k d).time ≡ (batch_at p b).time = ap (λ (m : ℕ). (get_or p.batches m d).time) last ∙ ap (λ (c : Batch). c.time) (get_or_default p.batches b d no_batch more) in
                let own = comes.later.later k d ge kl in
                omega (arith, same, own, early)
            | inr other ↦
                let after = rules.rising p b k no_batch d (omega (arith, ge, other)) kl in
                let own = comes.later.later b no_batch (omega arith) more in
                omega (arith, after, own)
          ];
        })
      ]
    ]
      where
        stays : NoBatchBefore p b (t + 1) → (b' : ℕ) × (most' : ℕ) × Comes p b' (suc t) × Stands p count on serve b' (λ c. t) (front ++ release_events_at p p.batches t) (λ i. false) 0 most'
        stays until = (
          b,
          most,
          record {
            before = λ k d lt kl. let early = comes.before k d lt kl in omega (arith, early);
            later = record { later = λ k d ge kl. let l = until.later k d ge kl in omega (arith, l) };
            below = comes.below;
          },
          unreleased until,
        )

  -- ---- the services and the ends of all processors

  module _ (b t most : ℕ) (until : NoBatchBefore p b (t + 1)) (events : List Event) where
    made_to : Stands p count on serve b (λ k. t) events (λ i. false) 0 most → (c : ℕ) → Stands p count on serve b (λ k. t) (events ++ services_to p serve c t) (has_made on serve t c) 0 most
    made_to s zero =
        restaged p count on serve b (λ k. t) (λ k. t) events (events ++ []) (λ i. false) (has_made on serve t 0) 0 0 most (λ i. refl) (λ k. omega arith) (append-nil events)
        (λ i. rw (le-ltb (on i) 0 (omega arith)) (and_false (is_of i (serve (on i) t)))) (omega arith) s
    made_to s (suc c) =
        let one : suc c ≡ c + 1 = omega arith in
        restaged p count on serve b (λ k. t) (λ k. t) ((events ++ services_to p serve c t) ++ service_events_of p (serve c) (serve c t) t) (events ++ services_to p serve (suc c) t)
        (has_made on serve t (c + 1)) (has_made on serve t (suc c)) 0 0 most (λ i. refl) (λ k. omega arith)
        (sym (append_assoc events (services_to p serve c t) (service_events_of p (serve c) (serve c t) t))) (λ i. ap (λ (n : ℕ). has_made on serve t n i) one) (omega arith)
        (made_next p count on serve cpus serves t b until c (events ++ services_to p serve c t) most (made_to s c))

    ended_to : Stands p count on serve b (λ k. t) events (has_made on serve t cpus) 0 most → (c : ℕ) → Stands p count on serve b (come_to t c) (events ++ ends_to p serve c t) (is_open on serve t c) (served_below serve t c) most
    ended_to s zero =
        restaged p count on serve b (λ k. t) (come_to t 0) events (events ++ []) (has_made on serve t cpus) (is_open on serve t 0) 0 0 most
        (λ i. rw (le-ltb (on i) 0 (omega arith)) refl) (λ k. rw (le-ltb k 0 (omega arith)) (omega arith)) (append-nil events)
        (λ i. rw (le-ltb (on i) 0 (omega arith), lt-ltb (on i) cpus (serves.there i)) refl) (omega arith) s
    ended_to s (suc c) =
        let one : suc c ≡ c + 1 = omega arith in
        restaged p count on serve b (come_to t (c + 1)) (come_to t (suc c)) ((events ++ ends_to p serve c t) ++ end_events_of p (serve c) (serve c t) (suc t)) (events ++ ends_to p serve (suc c) t)
        (is_open on serve t (c + 1)) (is_open on serve t (suc c)) (served_below serve t (c + 1)) (served_below serve t (suc c)) most
        (λ i. ap (λ (n : ℕ). come_to t n (on i)) one) (λ k. let same = ap (λ (n : ℕ). come_to t n k) one in omega (arith, same))
        (sym (append_assoc events (ends_to p serve c t) (end_events_of p (serve c) (serve c t) (suc t)))) (λ i. ap (λ (n : ℕ). is_open on serve t n i) one)
        (let same = ap (λ (n : ℕ). served_below serve t n) one in omega (arith, same))
        (ended_next p count on serve cpus serves t b until c (events ++ ends_to p serve c t) most (ended_to s c))

    all_ended : Stands p count on serve b (λ k. t) events (has_made on serve t cpus) 0 most → Stands p count on serve b (λ k. suc t) (events ++ ends_to p serve cpus t) (λ i. false) (served_below serve t cpus) most
    all_ended s =
        restaged p count on serve b (come_to t cpus) (λ k. suc t) (events ++ ends_to p serve cpus t) (events ++ ends_to p serve cpus t) (is_open on serve t cpus) (λ i. false) (served_below serve t cpus) (served_below serve t cpus) most
        (λ i. rw (lt-ltb (on i) cpus (serves.there i)) refl) (λ k. late k) refl
        (λ i. rw (lt-ltb (on i) cpus (serves.there i)) (sym (and_false (is_of i (serve (on i) t))))) (omega arith) (ended_to s cpus)
      where
        late : (k : ℕ) → come_to t cpus k ≤ suc t
        late k = elim (cases_lt k cpus) [
          | inl less ↦ rw (lt-ltb k cpus less) (omega arith)
          | inr more ↦ rw (le-ltb k cpus more) (omega arith)
        ]

  -- ---- tick by tick

  module _ (front : ℕ → List Event) (at_first : front 0 ≡ [])
      (then_ : (t : ℕ) → front (suc t) ≡ ((front t ++ release_events_at p p.batches t) ++ services_to p serve cpus t) ++ ends_to p serve cpus t) where
    record Reaches (t : ℕ) : Type 0 where
      b : ℕ
      most : ℕ
      comes : Comes p b t
      stands : Stands p count on serve b (λ c. t) (front t) (λ i. false) 0 most

    reaches : (t : ℕ) → Reaches t
    reaches zero = record {
      b = 0;
      most = 0;
      comes = record { before = λ k d lt kl. absurd (omega (arith, lt)); later = record { later = λ k d ge kl. omega arith }; below = omega arith };
      stands = restaged p count on serve 0 (λ c. 0) (λ c. 0) [] (front 0) (λ i. false) (λ i. false) 0 0 0 (λ i. refl) (λ c. omega arith) at_first (λ i. refl) (omega arith) (start_stands p count on serve);
    }
    reaches (suc t) =
        let before : Reaches t = reaches t in
        let (b, most, comes, s) = some_released before.b t before.most (front t) before.comes before.stands in
        let until : NoBatchBefore p b (t + 1) = record { later = λ k d ge kl. let l = comes.later.later k d ge kl in omega (arith, l) } in
        let made = made_to b t most until (front t ++ release_events_at p p.batches t) s cpus in
        let ended = all_ended b t most until ((front t ++ release_events_at p p.batches t) ++ services_to p serve cpus t) made in
        record {
          b = b;
          most = most;
          comes = comes;
          stands = restaged p count on serve b (λ c. suc t) (λ c. suc t) (((front t ++ release_events_at p p.batches t) ++ services_to p serve cpus t) ++ ends_to p serve cpus t) (front (suc t))
              (λ i. false) (λ i. false) (served_below serve t cpus) 0 most (λ i. refl) (λ c. omega arith) (then_ t) (λ i. refl) (omega arith) ended;
        }

    -- after the last batch, something is served, or nothing is left
    module _ (n t b : ℕ) (last : b ≡ length p.batches) (comes : Comes p b t) (s : Stands p count on serve b (λ c. t) (front t) (λ i. false) 0 n) where
      until : NoBatchBefore p b (t + 1)
      until = record { later = λ k d ge kl. absurd (omega (arith, ge, kl, last)) }

      made : Stands p count on serve b (λ k. t) ((front t ++ release_events_at p p.batches t) ++ services_to p serve cpus t) (has_made on serve t cpus) 0 n
      made = made_to b t n until (front t ++ release_events_at p p.batches t) (unreleased b t n (front t) comes s until) cpus

      idle : served_below serve t cpus ≡ 0 → (i : ℕ) → i < length p.diagram.tasks → get_or made.rest i 0 ≡ 0
      idle none i il = elim (cases_eq (get_or made.rest i 0) 0) [
        | inl is ↦ is
        | inr some ↦
            let waits = waits_from p on serve b (λ k. t) made.rest made.ends made.at i il (omega (arith, some)) in
            let (c, z, is) = serves.busy t (instance i (release_count p.batches b i)) waits in
            let there : c < cpus = let own = serves.own c t z is in let few = serves.there z.task in omega (arith, own, few) in
            absurd (omega (arith, none, some_served serve t c cpus z is there))
      ]

      is_record : served_below serve t cpus ≡ 0 → HasRecord p count on serve cpus front
      is_record none = record {
        last = t;
        released = λ k d kl. made.at.early 0 k d (omega (arith, kl, last)) kl;
        ended = λ x here.
            let counted = made.at.counts x.task here.task in
            let nothing = busy_count_none (get_or made.rest x.task 0) (idle none x.task here.task) in
            let all = ap (λ (bs : List Batch). length (times_of bs x.task)) (take_all b p.batches (omega (arith, last))) in
            let within = here.within in
            ended_left p on serve b (λ k. t) made.rest made.ends made.at x.task x.number here.task here.from_one (omega (arith, counted, nothing, all, within));
        steps = made.recorded.steps;
        state = state_in made.recorder;
        plays = made.recorded.plays;
      }

      goes_on : 0 < served_below serve t cpus → (0 < n) × Stands p count on serve b (λ c. suc t) (front (suc t)) (λ i. false) 0 (n - 1)
      goes_on some =
          let ended = all_ended b t n until ((front t ++ release_events_at p p.batches t) ++ services_to p serve cpus t) made in
          let few = ended.few in (
            omega (arith, some, few),
            record {
              rest = ended.rest;
              ends = ended.ends;
              at = ended.at;
              recorder = ended.recorder;
              recorded = same_places p count b (((front t ++ release_events_at p p.batches t) ++ services_to p serve cpus t) ++ ends_to p serve cpus t) (front (suc t))
                  (λ i. place_at p i false (get_or ended.rest i 0)) (λ i. place_at p i false (get_or ended.rest i 0)) ended.ends ended.recorder ended.recorded (then_ t) (λ i il. refl);
              few = omega (arith, few, some);
            },
          )

      comes_on : Comes p b (suc t)
      comes_on = record {
        before = λ k d lt kl. let early = comes.before k d lt kl in omega (arith, early);
        later = record { later = λ k d ge kl. absurd (omega (arith, ge, kl, last)) };
        below = comes.below;
      }

    finishes : (n t b : ℕ) → b ≡ length p.batches → Comes p b t → Stands p count on serve b (λ c. t) (front t) (λ i. false) 0 n → HasRecord p count on serve cpus front
    finishes zero t b last comes s = elim (cases_eq (served_below serve t cpus) 0) [
      | inl none ↦ is_record 0 t b last comes s none
      | inr some ↦ let (more, next) = goes_on 0 t b last comes s (omega (arith, some)) in absurd (omega (arith, more))
    ]
    finishes (suc n) t b last comes s = elim (cases_eq (served_below serve t cpus) 0) [
      | inl none ↦ is_record (suc n) t b last comes s none
      | inr some ↦
          let (more, next) = goes_on (suc n) t b last comes s (omega (arith, some)) in
          let less : suc n - 1 ≡ n = omega arith in
          finishes n (suc t) b last (comes_on (suc n) t b last comes s) (subst (λ (m : ℕ). Stands p count on serve b (λ c. suc t) (front (suc t)) (λ i. false) 0 m) less next)
    ]

    pub some_record : HasRecord p count on serve cpus front
    some_record =
        let there : Reaches 1000000001 = reaches 1000000001 in
        let last : there.b ≡ length p.batches = elim (cases_lt there.b (length p.batches)) [
          | inl more ↦
              let late = there.comes.later.later there.b no_batch (omega arith) more in
              let small = rules.small_times p there.b no_batch more in
              absurd (omega (arith, late, small))
          | inr over ↦ let below = there.comes.below in omega (arith, over, below)
        ] in
        finishes there.most 1000000001 there.b last there.comes there.stands
