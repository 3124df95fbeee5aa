-- What is recorded can go on by each piece that comes next: the begin, the reads and the end of an instance, and a batch.
use Rattle.std.proofs.Common.{◌≡◌, ◌≢◌, ℕ, ◌+◌, ◌<◌, List, [], ◌++◌, length, get_or, refl, sym, ap, ◌∙◌, subst, inl, inr, arith, true}
use Rattle.std.specs.Prelude.{◌==◌, if◌then◌else◌}
use Rattle.std.proofs.lemmas.Bool.{cases_eq, eq-eqb, ne_eqb}
use Rattle.std.proofs.lemmas.List.{append-nil}
use Rattle.dbp_plan.specs.declared.plan.Plan.{Plan}
use Rattle.dbp_plan.specs.Occurrences.{names}
use Rattle.dbp_rules.specs.Lookups.{task}
use Rattle.dbp_rules.specs.Wired.{wiring_of}
use Rattle.dbp_rules.specs.declared.parts.Place.{Place}
use Rattle.dbp_rules.specs.declared.parts.Place.TheVariants.{Idle, Shut}
use Rattle.dbp_rules.specs.declared.step.Count.{Count}
use Rattle.dbp_rules.specs.declared.wiring.Wiring.{Wiring}
use Rattle.instance_steps.specs.EndedRows.{HasEndedRows}
use Rattle.instance_steps.specs.Events.{Event, batch_events, begin_events, end_events, read_events}
use Rattle.instance_steps.specs.Recorders.{AddsSteps, plan_in, state_in, table_in, wiring_in}
use Rattle.instance_steps.specs.Releases.{HasEnded, HasReleased, ReleasesBatch, batch_at}
use Rattle.instance_steps.specs.TaskPieces.{AddsPiece, HasRowsToRead, MayStep, place_after}
use Rattle.instance_steps.specs.declared.recorder.Recorder.{Recorder}
use Rattle.instance_steps.proofs.SomePieces.{some_begin, some_end, some_reads}
use Rattle.instance_steps.proofs.SomeReleases.{some_release}
use Rattle.virtual_time.specs.Pieces.{begin_events_at}
use Rattle.virtual_time.specs.Recordings.{IsRecorded, place_of}
use Rattle.virtual_time.specs.State.{Renewed, release_count}
use Rattle.virtual_time.proofs.Recordings.{adds_batch, adds_piece, goes_on, has_ended, same_places}

-- the places of all tasks but one, which stands at this place
abbrev pub with_place : (ℕ → Place) → ℕ → Place → ℕ → Place
with_place places i place j = if j == i then place else places j

pub here : (places : ℕ → Place) (i : ℕ) (place : Place) → with_place places i place i ≡ place
here places i place = rw (eq-eqb i i refl) refl

pub elsewhere : (places : ℕ → Place) (i : ℕ) (place : Place) (j : ℕ) → j ≢ i → with_place places i place j ≡ places j
elsewhere places i place j apart = rw (ne_eqb j i apart) refl

module _ (p : Plan) (count : Count) (b : ℕ) (events : List Event) (places : ℕ → Place) (ends : List (List ℕ)) (a : Recorder) (g : IsRecorded p count b events places ends a) where
  -- a task is there, and may step
  named_in : (i : ℕ) → i < length p.diagram.tasks → i < length (plan_in a).diagram.tasks
  named_in i small = subst (λ (q : Plan). i < length q.diagram.tasks) (sym g.plan) small

  may_in : (i : ℕ) → MayStep (wiring_of p count) (state_in a) i → MayStep (wiring_in a) (state_in a) i
  may_in i may = subst (λ (w : Wiring). MayStep w (state_in a) i) (sym g.wiring) may

  module _ (i : ℕ) (small : i < length p.diagram.tasks) (may : MayStep (wiring_of p count) (state_in a) i) where
    -- the instance begins, unless it began before
    pub begins_from : (served : ℕ) → (served ≡ 0 → places i ≡ Idle) → (0 < served → places i ≡ place_after p i served) → (task (state_in a) i).words.gate ≡ (task (state_in a) i).part.ended + 1
        → (r : Recorder) × IsRecorded p count b (events ++ begin_events_at p i served) (with_place places i (place_after p i served)) ends r
    begins_from served idle under gate = elim (cases_eq served 0) [
      | inl none ↦
          let (r, piece, same) = some_begin a i (named_in i small) (may_in i may) (g.place i small ∙ idle none) gate in
          let own : AddsPiece a r (begin_events p i) i (task (state_in a) i).part.ended (place_after p i 0) =
          subst (λ (q : Plan). AddsPiece a r (begin_events q i) i (task (state_in a) i).part.ended (place_after q i 0)) g.plan piece in
          let made : begin_events_at p i served ≡ begin_events p i = rw (eq-eqb served 0 none) refl in (
            r,
            subst (λ (l : List Event). IsRecorded p count b (events ++ l) (with_place places i (place_after p i served)) ends r) (sym made)
                (goes_on p count a r b events places ends g (begin_events p i) i (place_after p i 0) (with_place places i (place_after p i served)) small own
                (here places i (place_after p i served) ∙ ap (place_after p i) none) (elsewhere places i (place_after p i served)) same),
          )
      | inr some ↦
          let made : begin_events_at p i served ≡ [] = rw (ne_eqb served 0 some) refl in (
            a,
            same_places p count b events (events ++ begin_events_at p i served) places (with_place places i (place_after p i served)) ends a g
                (ap (λ (l : List Event). events ++ l) made ∙ append-nil events)
                (λ j jl. elim (cases_eq j i) [
                  | inl own ↦ subst (λ (k : ℕ). with_place places i (place_after p i served) k ≡ places k) (sym own) (here places i (place_after p i served) ∙ sym (under (omega (arith, some))))
                  | inr other ↦ elsewhere places i (place_after p i served) j other
                ]),
          )
    ]

    -- it makes its reads
    pub reads_from : (served : ℕ) → places i ≡ place_after p i served → HasRowsToRead p (wiring_of p count) (state_in a) i served
        → (r : Recorder) × IsRecorded p count b (events ++ read_events p i served) (with_place places i (place_after p i (served + 1))) ends r
    reads_from served at rows =
        let stands : (task (state_in a) i).part.place ≡ place_after (plan_in a) i served = g.place i small ∙ at ∙ ap (λ (q : Plan). place_after q i served) (sym g.plan) in
        let there : HasRowsToRead (plan_in a) (wiring_in a) (state_in a) i served =
        subst (λ (q : Plan). HasRowsToRead q (wiring_in a) (state_in a) i served) (sym g.plan) (subst (λ (w : Wiring). HasRowsToRead p w (state_in a) i served) (sym g.wiring) rows) in
        let (r, piece, same) = some_reads a i (named_in i small) (may_in i may) served stands there in
        let own : AddsPiece a r (read_events p i served) i (task (state_in a) i).part.ended (place_after p i (served + 1)) =
        subst (λ (q : Plan). AddsPiece a r (read_events q i served) i (task (state_in a) i).part.ended (place_after q i (served + 1))) g.plan piece in (
          r,
          goes_on p count a r b events places ends g (read_events p i served) i (place_after p i (served + 1)) (with_place places i (place_after p i (served + 1))) small own
              (here places i (place_after p i (served + 1))) (elsewhere places i (place_after p i (served + 1))) same,
        )

    -- it ends
    pub ends_from : (ends' : List (List ℕ)) → places i ≡ Shut → length (get_or ends' i []) ≡ length (get_or ends i []) + 1 → ((j : ℕ) → j ≢ i → length (get_or ends' j []) ≡ length (get_or ends j []))
        → (r : Recorder) × IsRecorded p count b (events ++ end_events p i) (with_place places i Idle) ends' r
    ends_from ends' at own_end others =
        let rows : HasEndedRows (plan_in a) (state_in a) (table_in a) = subst (λ (q : Plan). HasEndedRows q (state_in a) (table_in a)) (sym g.plan) g.rows in
        let (r, piece, after) = some_end a i (named_in i small) (may_in i may) (g.place i small ∙ at) rows in
        let own : AddsPiece a r (end_events p i) i ((task (state_in a) i).part.ended + 1) Idle = subst (λ (q : Plan). AddsPiece a r (end_events q i) i ((task (state_in a) i).part.ended + 1) Idle) g.plan piece in
        let rows' : HasEndedRows p (state_in r) (table_in r) = subst (λ (q : Plan). HasEndedRows q (state_in r) (table_in r)) (piece.steps.plan ∙ g.plan) after in (
          r,
          adds_piece p count a r b events places ends g (end_events p i) i ((task (state_in a) i).part.ended + 1) Idle (with_place places i Idle) ends' own
              (here places i Idle) (elsewhere places i Idle) (ap (λ (n : ℕ). n + 1) (g.ended i small) ∙ sym own_end) others rows',
        )

-- the next batch is released
pub releases_from : (p : Plan) (count : Count) (b : ℕ) (events : List Event) (rest rest' : List ℕ) (ends : List (List ℕ)) (a : Recorder) → IsRecorded p count b events (λ i. place_of p i (get_or rest i 0)) ends a
    → b < length p.batches → ((i : ℕ) → names i (batch_at p b) ≡ true → get_or rest i 0 ≡ 0) → ((i : ℕ) → names i (batch_at p b) ≡ true → (i < length p.diagram.tasks) × (length (get_or ends i []) ≡ release_count p.batches b i))
    → Renewed p (batch_at p b) rest rest' → (r : Recorder) × IsRecorded p count (b + 1) (events ++ batch_events p (batch_at p b)) (λ i. place_of p i (get_or rest' i 0)) ends r
releases_from p count b events rest rest' ends a g more free all renewed =
    let there : b < length (plan_in a).batches = subst (λ (q : Plan). b < length q.batches) (sym g.plan) more in
    let released : HasReleased (plan_in a) (state_in a) b = subst (λ (q : Plan). HasReleased q (state_in a) b) (sym g.plan) g.released in
    let ended : HasEnded (state_in a) (batch_at (plan_in a) b) = subst (λ (q : Plan). HasEnded (state_in a) (batch_at q b)) (sym g.plan) (has_ended p count a b events (λ i. place_of p i (get_or rest i 0)) ends g all) in
    let (r, adds, releases, same) = some_release a b there released ended in
    let adds' : AddsSteps a r (batch_events p (batch_at p b)) = subst (λ (q : Plan). AddsSteps a r (batch_events q (batch_at q b))) g.plan adds in
    let releases' : ReleasesBatch p (state_in a) (state_in r) b (batch_at p b) = subst (λ (q : Plan). ReleasesBatch q (state_in a) (state_in r) b (batch_at q b)) g.plan releases in
    (r, adds_batch p count a r b events rest rest' ends g adds' releases' same renewed free)
