-- A piece of an instance, and the release of a batch, added to what is recorded; how long that is, and where tasks stand.
use Rattle.std.specs.Prelude.{Bool, ◌||◌, ◌==◌, if◌then◌else◌, IfSome, Option, Some, None, unwrap_or}
use Rattle.std.specs.Option.{option_map}
use Rattle.std.proofs.Common.{◌≡◌, ◌≢◌, ℕ, ◌+◌, ◌-◌, ◌<◌, ◌≤◌, true, false, List, [], ◌++◌, length, get_or, refl, sym, ap, ◌∙◌, subst, ⊎_elim, arith}
use Rattle.std.proofs.lemmas.Bool.{cases_eq, cases_Bool, eq-eqb, le-ltb, ne_eqb}
use Rattle.dbp_plan.specs.declared.plan.Plan.{Plan}
use Rattle.dbp_plan.specs.declared.table.Table.{Table}
use Rattle.dbp_plan.specs.Lookups.{declared_task}
use Rattle.dbp_plan.specs.Occurrences.{names}
use Rattle.dbp_rules.specs.Lookups.{entry_in, task}
use Rattle.dbp_rules.specs.Moves.{read_place}
use Rattle.dbp_rules.specs.Start.{start_of}
use Rattle.dbp_rules.specs.Wired.{wiring_of}
use Rattle.dbp_rules.specs.declared.parts.Place.{Place}
use Rattle.dbp_rules.specs.declared.parts.Place.TheVariants.{Idle, Shut}
use Rattle.dbp_rules.specs.declared.parts.ReleaserPart.{ReleaserPart}
use Rattle.dbp_rules.specs.declared.state.State.{State}
use Rattle.dbp_rules.specs.declared.state.TaskState.{TaskState}
use Rattle.dbp_rules.specs.declared.step.Count.{Count}
use Rattle.dbp_rules.specs.declared.step.Step.{Step}
use Rattle.dbp_rules.specs.declared.wiring.Wiring.{Wiring}
use Rattle.instance_steps.specs.EndedRows.{HasEndedRows}
use Rattle.instance_steps.specs.Events.{Event, batch_events}
use Rattle.instance_steps.specs.Plays.{Plays}
use Rattle.instance_steps.specs.Recorders.{AddsSteps, plan_in, record_in, state_in, steps_in, table_in}
use Rattle.instance_steps.specs.Releases.{HasEnded, ReleasesBatch, batch_at}
use Rattle.instance_steps.specs.TaskPieces.{AddsPiece, place_after}
use Rattle.instance_steps.specs.declared.recorder.Recorder.{Recorder}
use Rattle.instance_steps.proofs.PlaysLaws.{plays_long, plays_on}
use Rattle.instance_steps.proofs.RowsKept.{ended_rows_stay}
use Rattle.virtual_time.specs.Recordings.{IsRecorded, place_of, places_with}
use Rattle.virtual_time.specs.State.{Renewed, release_count}

-- the same table, of a state in which as many instances have ended
same_rows : (p : Plan) (r r' : Recorder) → ((i : ℕ) → (task (state_in r') i).part.ended ≡ (task (state_in r) i).part.ended) → table_in r' ≡ table_in r → HasEndedRows p (state_in r) (table_in r) → HasEndedRows p (state_in r') (table_in r')
same_rows p r r' ended same rows = subst (λ (t : Table). HasEndedRows p (state_in r') t) (sym same) (ended_rows_stay p (state_in r) (state_in r') (table_in r) ended rows)

-- the list that is kept, if one is, with more steps
kept_more : (old new : Option (List Step)) (steps added : List Step) → new ≡ option_map (λ (l : List Step). l ++ added) old → IfSome old (λ l. l ≡ steps) → IfSome new (λ l. l ≡ steps ++ added)
kept_more None new steps added more kept = subst (λ (o : Option (List Step)). IfSome o (λ l. l ≡ steps ++ added)) (sym more) kept
kept_more (Some list) new steps added more kept = subst (λ (o : Option (List Step)). IfSome o (λ l. l ≡ steps ++ added)) (sym more) (ap (λ (l : List Step). l ++ added) kept)

module _ (p : Plan) (count : Count) (r r' : Recorder) (b : ℕ) (events : List Event) (places : ℕ → Place) (ends : List (List ℕ)) (h : IsRecorded p count b events places ends r) where
  abbrev start : State
  start = start_of p (wiring_of p count)

  -- the steps play the events that are added
  pub added_plays : (more : List Event) (adds : AddsSteps r r' more) → Plays p (wiring_of p count) start (events ++ more) (h.steps ++ adds.added) (state_in r')
  added_plays more adds =
      let own : Plays p (wiring_of p count) (state_in r) more adds.added (state_in r') =
      subst (λ (q : Plan). Plays q (wiring_of p count) (state_in r) more adds.added (state_in r')) h.plan
      (subst (λ (w : Wiring). Plays (plan_in r) w (state_in r) more adds.added (state_in r')) h.wiring adds.plays) in
      plays_on p (wiring_of p count) events more h.steps adds.added start (state_in r) (state_in r') h.plays own

  pub added_kept : (more : List Event) (adds : AddsSteps r r' more) → IfSome (record_in r') (λ l. l ≡ h.steps ++ adds.added)
  added_kept more adds = kept_more (record_in r) (record_in r') h.steps adds.added adds.steps h.kept

  -- a piece of an instance of task i
  pub adds_piece : (more : List Event) (i instances : ℕ) (place : Place) (places' : ℕ → Place) (ends' : List (List ℕ)) → AddsPiece r r' more i instances place
      → places' i ≡ place → ((j : ℕ) → j ≢ i → places' j ≡ places j) → instances ≡ length (get_or ends' i []) → ((j : ℕ) → j ≢ i → length (get_or ends' j []) ≡ length (get_or ends j []))
      → HasEndedRows p (state_in r') (table_in r') → IsRecorded p count b (events ++ more) places' ends' r'
  adds_piece more i instances place places' ends' adds here others ended ended_others rows = record {
    plan = adds.steps.plan ∙ h.plan;
    wiring = adds.steps.wiring ∙ h.wiring;
    steps = h.steps ++ adds.steps.added;
    plays = added_plays more adds.steps;
    kept = added_kept more adds.steps;
    rows = rows;
    released = ap (λ (q : ReleaserPart). q.place) adds.changes.releaser ∙ h.released;
    aimed = λ j jl. ap (λ (q : ReleaserPart). (entry_in q j).aimed) adds.changes.releaser ∙ h.aimed j jl;
    gates = λ j jl. ⊎_elim
        (λ (e : j ≡ i). subst (λ (k : ℕ). (task (state_in r') k).words.gate ≡ release_count p.batches b k) (sym e) (adds.changes.gate ∙ subst (λ (k : ℕ). (task (state_in r) k).words.gate ≡ release_count p.batches b k) e (h.gates j jl)))
        (λ (ne : j ≢ i). ap (λ (t : TaskState). t.words.gate) (adds.changes.others j ne) ∙ h.gates j jl)
        (cases_eq j i);
    ended = λ j jl. ⊎_elim
        (λ (e : j ≡ i). subst (λ (k : ℕ). (task (state_in r') k).part.ended ≡ length (get_or ends' k [])) (sym e) (adds.changes.ended ∙ ended))
        (λ (ne : j ≢ i). ap (λ (t : TaskState). t.part.ended) (adds.changes.others j ne) ∙ h.ended j jl ∙ sym (ended_others j ne))
        (cases_eq j i);
    place = λ j jl. ⊎_elim
        (λ (e : j ≡ i). subst (λ (k : ℕ). (task (state_in r') k).part.place ≡ places' k) (sym e) (adds.changes.place ∙ sym here))
        (λ (ne : j ≢ i). ap (λ (t : TaskState). t.part.place) (adds.changes.others j ne) ∙ h.place j jl ∙ sym (others j ne))
        (cases_eq j i);
  }

  -- a piece in which no instance ends
  pub same_ended : (more : List Event) (i : ℕ) (place : Place) → AddsPiece r r' more i (task (state_in r) i).part.ended place → (j : ℕ) → (task (state_in r') j).part.ended ≡ (task (state_in r) j).part.ended
  same_ended more i place adds j = ⊎_elim
      (λ (e : j ≡ i). subst (λ (k : ℕ). (task (state_in r') k).part.ended ≡ (task (state_in r) k).part.ended) (sym e) adds.changes.ended)
      (λ (ne : j ≢ i). ap (λ (t : TaskState). t.part.ended) (adds.changes.others j ne))
      (cases_eq j i)

  pub goes_on : (more : List Event) (i : ℕ) (place : Place) (places' : ℕ → Place) → i < length p.diagram.tasks → AddsPiece r r' more i (task (state_in r) i).part.ended place
      → places' i ≡ place → ((j : ℕ) → j ≢ i → places' j ≡ places j) → table_in r' ≡ table_in r → IsRecorded p count b (events ++ more) places' ends r'
  goes_on more i place places' il adds here others table =
      adds_piece more i (task (state_in r) i).part.ended place places' ends adds here others (h.ended i il) (λ j ne. refl)
      (same_rows p r r' (same_ended more i place adds) table h.rows)

idle_if : (a b : Bool) (x : Place) → b ≡ true → (if a || b then Idle else x) ≡ Idle
idle_if true b x is = refl
idle_if false b x is = rw is refl

-- idle if all is left
pub place_all : (p : Plan) (i : ℕ) → place_of p i (declared_task p i).cost ≡ Idle
place_all p i = idle_if ((declared_task p i).cost == 0) ((declared_task p i).cost == (declared_task p i).cost) (place_after p i ((declared_task p i).cost - (declared_task p i).cost)) (eq-eqb (declared_task p i).cost (declared_task p i).cost refl)

-- and under way if some is
pub place_some : (p : Plan) (i rest : ℕ) → 0 < rest → rest < (declared_task p i).cost → place_of p i rest ≡ place_after p i ((declared_task p i).cost - rest)
place_some p i rest some less = rw (ne_eqb rest 0 (λ e. omega (arith, e, some)), ne_eqb rest (declared_task p i).cost (λ e. omega (arith, e, less))) refl

-- after all its reads
pub all_read : (n : ℕ) → read_place n n ≡ Shut
all_read n = rw (le-ltb n n (omega arith)) refl

-- the release of the batch with the number b, of whose tasks nothing was left
pub adds_batch : (p : Plan) (count : Count) (r r' : Recorder) (b : ℕ) (events : List Event) (rest rest' : List ℕ) (ends : List (List ℕ)) → IsRecorded p count b events (λ i. place_of p i (get_or rest i 0)) ends r
    → AddsSteps r r' (batch_events p (batch_at p b)) → ReleasesBatch p (state_in r) (state_in r') b (batch_at p b) → table_in r' ≡ table_in r
    → Renewed p (batch_at p b) rest rest' → ((i : ℕ) → names i (batch_at p b) ≡ true → get_or rest i 0 ≡ 0)
    → IsRecorded p count (b + 1) (events ++ batch_events p (batch_at p b)) (λ i. place_of p i (get_or rest' i 0)) ends r'
adds_batch p count r r' b events rest rest' ends h adds releases table renewed free = record {
  plan = adds.plan ∙ h.plan;
  wiring = adds.wiring ∙ h.wiring;
  steps = h.steps ++ adds.added;
  plays = added_plays p count r r' b events (λ i. place_of p i (get_or rest i 0)) ends h (batch_events p (batch_at p b)) adds;
  kept = added_kept p count r r' b events (λ i. place_of p i (get_or rest i 0)) ends h (batch_events p (batch_at p b)) adds;
  rows = same_rows p r r' (λ i. ap (λ t. t.ended) (releases.parts i)) table h.rows;
  released = releases.released;
  aimed = releases.aimed;
  gates = releases.gates;
  ended = λ i il. ap (λ t. t.ended) (releases.parts i) ∙ h.ended i il;
  place = λ i il. ap (λ t. t.place) (releases.parts i) ∙ h.place i il ∙ ⊎_elim
      (λ (e : names i (batch_at p b) ≡ true). ap (place_of p i) (free i e) ∙ sym (ap (place_of p i) (renewed.named i e) ∙ place_all p i))
      (λ (e : names i (batch_at p b) ≡ false). ap (place_of p i) (sym (renewed.others i e)))
      (cases_Bool (names i (batch_at p b)));
}

-- the tasks of a batch of which nothing is left have ended their aimed instances
pub has_ended : (p : Plan) (count : Count) (r : Recorder) (b : ℕ) (events : List Event) (places : ℕ → Place) (ends : List (List ℕ)) → IsRecorded p count b events places ends r
    → ((i : ℕ) → names i (batch_at p b) ≡ true → (i < length p.diagram.tasks) × (length (get_or ends i []) ≡ release_count p.batches b i)) → HasEnded (state_in r) (batch_at p b)
has_ended p count r b events places ends h all i named = h.ended i (all i named).0 ∙ (all i named).1 ∙ sym (h.aimed i (all i named).0)

-- ---- lengths

kept_length : (kept : Option (List Step)) (steps : List Step) → IfSome kept (λ l. l ≡ steps) → length (unwrap_or kept []) ≤ length steps
kept_length None steps is = omega arith
kept_length (Some list) steps is = omega (arith, ap length is)

pub recorded_length : (p : Plan) (count : Count) (b : ℕ) (events : List Event) (places : ℕ → Place) (ends : List (List ℕ)) (r : Recorder) → IsRecorded p count b events places ends r → length (steps_in r) ≤ length events
recorded_length p count b events places ends r h =
    omega (arith, kept_length (record_in r) h.steps h.kept, plays_long p (wiring_of p count) events h.steps (start_of p (wiring_of p count)) (state_in r) h.plays)

-- ---- places

pub with_here : (p : Plan) (rest : List ℕ) (i : ℕ) (place : Place) → places_with p rest i place i ≡ place
with_here p rest i place = rw (eq-eqb i i refl) refl

pub with_other : (p : Plan) (rest : List ℕ) (i j : ℕ) (place : Place) → j ≢ i → places_with p rest i place j ≡ place_of p j (get_or rest j 0)
with_other p rest i j place ne = rw (ne_eqb j i ne) refl

pub same_places : (p : Plan) (count : Count) (b : ℕ) (events events' : List Event) (places places' : ℕ → Place) (ends : List (List ℕ)) (r : Recorder) → IsRecorded p count b events places ends r
    → events' ≡ events → ((i : ℕ) → i < length p.diagram.tasks → places' i ≡ places i) → IsRecorded p count b events' places' ends r
same_places p count b events events' places places' ends r h same each = record {
  plan = h.plan;
  wiring = h.wiring;
  steps = h.steps;
  plays = subst (λ (l : List Event). Plays p (wiring_of p count) (start_of p (wiring_of p count)) l h.steps (state_in r)) (sym same) h.plays;
  kept = h.kept;
  rows = h.rows;
  released = h.released;
  aimed = h.aimed;
  gates = h.gates;
  ended = h.ended;
  place = λ i il. h.place i il ∙ sym (each i il);
}
