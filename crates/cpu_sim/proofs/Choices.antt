-- One pass over the queue finds for each processor the instance that it serves.
use Rattle.std.proofs.Common.{◌≡◌, ◌≢◌, ℕ, ◌+◌, ◌<◌, ◌≤◌, true, false, List, length, get_or, get_or-set_other, get_or-set_same, set, Option, Some, None, refl, sym, ap, ◌∙◌, subst, inl, inr, arith}
use Rattle.std.specs.Prelude.{IsTrue, is_some}
use Rattle.std.specs.Option.{option_map}
use Rattle.std.proofs.lemmas.Bool.{cases_eq, cases_lt, false≢true}
use Rattle.std.proofs.lemmas.Option.{same_Some, slice_get_within}
use Rattle.dbp_plan.specs.declared.plan.Plan.{Plan}
use Rattle.dbp_plan.specs.Lookups.{declared_task}
use Rattle.rank_order.specs.declared.held.Held.{Held}
use Rattle.rank_order.specs.declared.ready.Ready.{Ready}
use Rattle.rank_order.specs.Instances.{Instance, release_of}
use Rattle.rank_order.specs.Order.{goes_before}
use Rattle.rank_order.specs.Queue.{Holds, IsAt}
use Rattle.rank_order.specs.Service.{GoesBefore, IsFirst, Waits}
use Rattle.rank_order.proofs.Choices.{same_instance}
use Rattle.rank_order.proofs.OneService.{one_choice}
use Rattle.rank_order.proofs.Queues.{few_items, in_order}
use Rattle.virtual_time.specs.Runs.{IsRun}
use Rattle.virtual_time.specs.State.{NoBatchBefore}
use Rattle.virtual_time.specs.declared.run.Run.{Run}
use Rattle.virtual_time.proofs.Steps.{waits_from, waits_is}
use Rattle.cpu_sim.specs.Choices.{AreChoices, IsFirstFree, all_cpus_at, is_blocked_in, last_of}
use Rattle.cpu_sim.specs.Processors.{MayBeServed, is_blocked, left_on, served_on}
use Rattle.cpu_sim.specs.Services.{services}
use Rattle.cpu_sim.proofs.SomeServiceOn.{services-are}

-- at one index stands one task's instance
one_task : (ready : Ready) (k i a j c : ℕ) → IsAt ready k i a → IsAt ready k j c → i ≡ j
one_task ready k i a j c at other =
    let same : at.held ≡ other.held = same_Some _ _ (sym at.there ∙ other.there) in
    sym at.is_of ∙ ap (λ (h : Held). h.task) same ∙ other.is_of

-- no index beyond the tasks is taken
pub few_held : (ready : Ready) (k i a : ℕ) → IsAt ready k i a → k < ready.tasks
few_held ready k i a at =
    let few = few_items ready.items.items ready.tasks ready.apart ready.inside in
    omega (arith, few, slice_get_within ready.items.items k at.held at.there)

module _ (p : Plan) (run : Run) (h : IsRun p (all_cpus_at p run.time) run) (until : NoBatchBefore p run.released (run.time + 1)) where
  pub record IsHeld (i : ℕ) : Type 0 where
    pub small : i < length p.diagram.tasks
    pub some : 0 < get_or run.rest.items i 0

  -- what the queue holds are last released instances of which something is left
  pub held_at : (k i a : ℕ) → IsAt run.ready k i a → IsHeld i
  held_at k i a at = let w = (h.tracks.held i a).0 (k, at) in record { small = w.0; some = w.1 }

  -- and it holds all that wait
  at_of : (y : Instance) → Waits p (left_on p (services p)) run.time y → Holds run.ready y.task (release_of p y) × (y ≡ last_of p run.released y.task)
  at_of y waits =
      let is = waits_is p (λ j. (declared_task p j).cpu) (services p) run.released (λ c. run.time) run.rest.items run.ends h.at (run.time + 1) until y (omega arith) waits in
      let same : y ≡ last_of p run.released y.task = same_instance y (last_of p run.released y.task) refl is.1 in
      ((h.tracks.held y.task (release_of p y)).1 (waits.instance.task, is.0, ap (release_of p) same), same)

  release_at : (k i a : ℕ) → IsAt run.ready k i a → a ≡ release_of p (last_of p run.released i)
  release_at k i a at = ((h.tracks.held i a).0 (k, at)).2

  -- the first one that is free is served, if the whole queue was gone over
  first_is : (c n : ℕ) (o : Option ℕ) → ((k i a : ℕ) → n ≤ k → IsAt run.ready k i a → ⊥) → IsFirstFree p run c n o → IsFirst (GoesBefore p) (MayBeServed p (services p) c run.time) (option_map (last_of p run.released) o)
  first_is c n None none first = λ y may.
      let (holds, same) = at_of y may.waits in
      elim (cases_lt holds.0 n) [
        | inr past ↦ none holds.0 y.task (release_of p y) past holds.1
        | inl before ↦
            let blocked = first holds.0 y.task (release_of p y) before holds.1 may.own in
            false≢true (sym may.free ∙ ap (is_blocked p (served_on p (services p) run.time)) same ∙ blocked)
      ]
  first_is c n (Some i) none f = (
    record {
      waits = waits_from p (λ j. (declared_task p j).cpu) (services p) run.released (λ c. run.time) run.rest.items run.ends h.at i (held_at f.index i f.release f.at).small (held_at f.index i f.release f.at).some;
      own = f.own;
      free = f.free;
    },
    λ y may.
        let (holds, same) = at_of y may.waits in
        elim (cases_lt holds.0 f.index) [
          | inl before ↦
              let blocked = f.others holds.0 y.task (release_of p y) before holds.1 may.own in
              absurd (false≢true (sym may.free ∙ ap (is_blocked p (served_on p (services p) run.time)) same ∙ blocked))
          | inr from ↦ elim (cases_eq holds.0 f.index) [
            | inl here ↦
                let task : y.task ≡ i = one_task run.ready f.index y.task (release_of p y) i f.release (subst (λ (m : ℕ). IsAt run.ready m y.task (release_of p y)) here holds.1) f.at in
                inl (same ∙ ap (last_of p run.released) task)
            | inr apart ↦
                let later = (in_order run.ready p.diagram h.tracks.made).pairs f.index holds.0 i f.release y.task (release_of p y) (omega (arith, from, apart)) f.at holds.1 in
                inr (subst (λ (m : ℕ). IsTrue (goes_before p.diagram i m y.task (release_of p y))) (release_at f.index i f.release f.at) later)
          ]
        ],
  )

  pub chosen_is : (c n : ℕ) (o : Option ℕ) → ((k i a : ℕ) → n ≤ k → IsAt run.ready k i a → ⊥) → IsFirstFree p run c n o → services p c run.time ≡ option_map (last_of p run.released) o
  chosen_is c n o none first =
      one_choice p (MayBeServed p (services p) c run.time) (services p c run.time) (option_map (last_of p run.released) o) ((services-are p).each c run.time) (first_is c n o none first)

  -- ---- one more item of the queue

  module _ (n i a : ℕ) (at : IsAt run.ready n i a) where
    none_more : (c : ℕ) → ((declared_task p i).cpu ≡ c → is_blocked_in p run i ≡ true) → IsFirstFree p run c n None → IsFirstFree p run c (n + 1) None
    none_more c blocked first k i' a' less at' own = elim (cases_lt k n) [
      | inl before ↦ first k i' a' before at' own
      | inr from ↦
          let here : k ≡ n = omega (arith, from, less) in
          let same : i ≡ i' = one_task run.ready n i a i' a' at (subst (λ (m : ℕ). IsAt run.ready m i' a') here at') in
          subst (λ (j : ℕ). is_blocked_in p run j ≡ true) same (blocked (ap (λ (j : ℕ). (declared_task p j).cpu) same ∙ own))
    ]

    some_more : (c j : ℕ) → IsFirstFree p run c n (Some j) → IsFirstFree p run c (n + 1) (Some j)
    some_more c j f = record { index = f.index; release = f.release; before = omega (arith, f.before); at = f.at; own = f.own; free = f.free; others = f.others }

    -- another processor's item
    pub other_item : (c : ℕ) (o : Option ℕ) → (declared_task p i).cpu ≢ c → IsFirstFree p run c n o → IsFirstFree p run c (n + 1) o
    other_item c None apart first = none_more c (λ own. absurd (apart own)) first
    other_item c (Some j) apart first = some_more c j first

    -- one that is blocked
    pub blocked_item : (c : ℕ) (o : Option ℕ) → is_blocked_in p run i ≡ true → IsFirstFree p run c n o → IsFirstFree p run c (n + 1) o
    blocked_item c None blocked first = none_more c (λ own. blocked) first
    blocked_item c (Some j) blocked first = some_more c j first

    -- one of a processor that has one
    pub later_item : (c j : ℕ) (o : Option ℕ) → o ≡ Some j → IsFirstFree p run c n o → IsFirstFree p run c (n + 1) o
    later_item c j o is first = subst (IsFirstFree p run c (n + 1)) (sym is) (some_more c j (subst (IsFirstFree p run c n) is first))

    -- the first that is free
    pub free_item : (c : ℕ) → (declared_task p i).cpu ≡ c → is_blocked_in p run i ≡ false → IsFirstFree p run c n None → IsFirstFree p run c (n + 1) (Some i)
    free_item c own free first = record { index = n; release = a; before = omega arith; at = at; own = own; free = free; others = first }

    -- the pass goes on: past one that is blocked, past one whose processor has another, and with one that is chosen
    abbrev AreFirst : ℕ → List (Option ℕ) → Type 0
    AreFirst n chosen = (c : ℕ) → c < 8 → IsFirstFree p run c n (get_or chosen c None)

    pub passes_blocked : (chosen : List (Option ℕ)) → is_blocked_in p run i ≡ true → AreFirst n chosen → AreFirst (n + 1) chosen
    passes_blocked chosen blocked first c less = blocked_item c (get_or chosen c None) blocked (first c less)

    pub passes_later : (chosen : List (Option ℕ)) → is_some (get_or chosen (declared_task p i).cpu None) ≡ true → AreFirst n chosen → AreFirst (n + 1) chosen
    passes_later chosen taken first c less = elim (cases_eq (declared_task p i).cpu c) [
      | inr apart ↦ other_item c (get_or chosen c None) apart (first c less)
      | inl own ↦ go (get_or chosen c None) refl (ap (λ (d : ℕ). is_some (get_or chosen d None)) (sym own) ∙ taken) (first c less)
    ]
      where
        go : (o : Option ℕ) → get_or chosen c None ≡ o → is_some (get_or chosen c None) ≡ true → IsFirstFree p run c n (get_or chosen c None) → IsFirstFree p run c (n + 1) (get_or chosen c None)
        go None is some first = absurd (false≢true (sym (ap (λ (o : Option ℕ). is_some o) is) ∙ some))
        go (Some j) is some first = later_item c j (get_or chosen c None) is first

    pub takes_it : (chosen : List (Option ℕ)) → length chosen ≡ 8 → (declared_task p i).cpu < 8 → is_some (get_or chosen (declared_task p i).cpu None) ≡ false → is_blocked_in p run i ≡ false
        → AreFirst n chosen → AreFirst (n + 1) (set chosen (declared_task p i).cpu (Some i))
    takes_it chosen long below none free first c less = elim (cases_eq c (declared_task p i).cpu) [
      | inr apart ↦
          subst (IsFirstFree p run c (n + 1)) (sym (get_or-set_other chosen (declared_task p i).cpu c (Some i) None apart))
          (other_item c (get_or chosen c None) (λ own. apart (sym own)) (first c less))
      | inl own ↦
          let cpu = (declared_task p i).cpu in
          let is : get_or chosen c None ≡ None = ap (λ (d : ℕ). get_or chosen d None) own ∙ none_is (get_or chosen cpu None) none in
          subst (IsFirstFree p run c (n + 1)) (sym (ap (λ (d : ℕ). get_or (set chosen cpu (Some i)) d None) own ∙ get_or-set_same chosen cpu (Some i) None (omega (arith, long, below))))
          (free_item c (sym own) free (subst (IsFirstFree p run c n) is (first c less)))
    ]
      where
        none_is : (o : Option ℕ) → is_some o ≡ false → o ≡ None
        none_is None is = refl
        none_is (Some j) is = absurd (cc)

  -- the whole queue was gone over
  pub choices_are : (chosen : List (Option ℕ)) (n : ℕ) → ((k i a : ℕ) → n ≤ k → IsAt run.ready k i a → ⊥) → ((c : ℕ) → c < 8 → IsFirstFree p run c n (get_or chosen c None)) → AreChoices p run chosen
  choices_are chosen n none first c less = chosen_is c n (get_or chosen c None) none (first c less)

  pub none_past : (n : ℕ) → length p.diagram.tasks ≤ n → (k i a : ℕ) → n ≤ k → IsAt run.ready k i a → ⊥
  none_past n past k i a le at = let few = few_held run.ready k i a at in omega (arith, few, h.tracks.made.tasks, past, le)
