-- The reads of a tick, step by step.
use Rattle.std.proofs.Common.{◌≡◌, ◌≢◌, ℕ, ◌+◌, ◌<◌, true, List, [], ◌∷◌, ◌++◌, length, get_or, take, refl, sym, ap, ◌∙◌, subst, arith}
use Rattle.std.specs.Prelude.{count_by, filter, nat_lt, ◌==◌}
use Rattle.std.specs.List.{flat_map, range_with_len}
use Rattle.std.proofs.Math.Logic.{∥∥₁_elim}
use Rattle.std.proofs.Props.{props}
use Rattle.std.proofs.lemmas.Bool.{eq-eqb, ne_eqb, lt-ltb}
use Rattle.std.proofs.lemmas.List.{append-nil, get_or_default, take_all}
use Rattle.std.proofs.lemmas.List.Concat.{flat_map-append}
use Rattle.std.proofs.lemmas.List.Sums.{count_by_more_no, count_by_more_yes}
use Rattle.release_list.proofs.IntoLinks.{numbers_more}
use Rattle.sync_meaning.specs.SomeMeaning.{meaning_of}
use Rattle.dbp_plan.specs.Table.{table_row}
use Rattle.dbp_plan.specs.declared.diagram.Read.{Read}
use Rattle.dbp_plan.specs.declared.diagram.Task.{Task}
use Rattle.dbp_plan.specs.declared.plan.Plan.{Plan}
use Rattle.dbp_plan.specs.Lookups.{declared_task, no_read}
use Rattle.dbp_rules.specs.Moves.{read_place}
use Rattle.dbp_rules.specs.Lookups.{claim_in, link, link_entry, read_at, task, wired_task}
use Rattle.dbp_rules.specs.Promises.{IsClaimFilled}
use Rattle.dbp_rules.specs.Rules.{is_ready}
use Rattle.dbp_rules.specs.Sound.{Sound}
use Rattle.dbp_rules.specs.SoundParts.{last_filled, read_of}
use Rattle.dbp_rules.specs.declared.parts.LinkEntry.{LinkEntry}
use Rattle.dbp_rules.specs.declared.parts.Place.{Place}
use Rattle.dbp_rules.specs.declared.parts.Place.TheVariants as place
use Rattle.dbp_rules.specs.declared.parts.ReleaserPart.{ReleaserPart}
use Rattle.dbp_rules.specs.declared.state.State.{State}
use Rattle.dbp_rules.specs.declared.state.TaskState.{TaskState}
use Rattle.dbp_rules.specs.declared.step.Count.{Count}
use Rattle.dbp_rules.specs.declared.step.Count.TheVariants.{All, Ranked}
use Rattle.dbp_rules.specs.declared.step.Step.TheVariants.{Look, Take}
use Rattle.dbp_rules.specs.declared.wiring.Wiring.{Wiring}
use Rattle.dbp_rules.proofs.SoundLooks.{filled_ready, ranked_ready}
use Rattle.dbp_rules.proofs.SoundOwn.{IsOwnRead}
use Rattle.instance_steps.specs.Events.{Event, look_events, read_events, step_of}
use Rattle.instance_steps.specs.Plays.{Moves}
use Rattle.instance_steps.specs.Recorders.{AddsStep, plan_in, state_in, wiring_in}
use Rattle.instance_steps.specs.TaskPieces.{AddsPiece, ChangesTask, HasRowsToRead, MayStep, place_after, turn_in}
use Rattle.instance_steps.specs.declared.recorder.Recorder.{Recorder}
use Rattle.instance_steps.proofs.Adding.{own_in, piece_as, piece_none, piece_on, piece_step, still_free, still_named, task_there, wired_there}
use Rattle.instance_steps.proofs.TaskMoves as moves
use Rattle.instance_steps.proofs.Turned.{count_earlier, read_found, turn_counts, turn_within}

abbrev pub reads_of : Recorder → ℕ → List Read
reads_of r i = (declared_task (plan_in r) i).reads

reads_in : (r : Recorder) (i : ℕ) → i < length (plan_in r).diagram.tasks → length (wired_task (wiring_in r) i).reads ≡ length (reads_of r i)
reads_in r i named = ((own_in r).whole.each_task i (wired_there r i named)).reads

-- ---- one read

module _ (a : Recorder) (i j : ℕ) (named : i < length (plan_in a).diagram.tasks) (inside : j < length (declared_task (plan_in a) i).reads) (may : MayStep (wiring_in a) (state_in a) i)
    (at : (task (state_in a) i).part.place ≡ place.Look (turn_in (plan_in a) i j))
    (row : (wiring_in a).count ≡ All → IsClaimFilled (wiring_in a) (state_in a) (get_or (declared_task (plan_in a) i).reads j no_read).link) where
  ready_by : (c : Count) → (wiring_in a).count ≡ c → Sound (plan_in a) (wiring_in a) (table_row (meaning_of (plan_in a))) (state_in a) → is_ready (wiring_in a) (state_in a) i (turn_in (plan_in a) i j) ≡ true
  ready_by All all sound =
      filled_ready (plan_in a) (wiring_in a) (table_row (meaning_of (plan_in a))) (state_in a) (own_in a) sound i (turn_in (plan_in a) i j) (wired_there a i named) at
      (subst (λ (m : ℕ). IsClaimFilled (wiring_in a) (state_in a) (get_or (declared_task (plan_in a) i).reads m no_read).link) (sym (read_found a i j named inside)) (row all))
  ready_by Ranked ranked sound =
      ranked_ready (plan_in a) (wiring_in a) (table_row (meaning_of (plan_in a))) (state_in a) (own_in a) sound i (turn_in (plan_in a) i j) (wired_there a i named) at ranked (moves.may_step_free (wiring_in a) (state_in a) i may)

  ready : is_ready (wiring_in a) (state_in a) i (turn_in (plan_in a) i j) ≡ true
  ready = ∥∥₁_elim a.core.sound (hlevel props) (λ sound. ready_by (wiring_in a).count refl sound)

  pub look_may : Moves (plan_in a) (wiring_in a) (state_in a) (Look i j)
  look_may = moves.look_moves (plan_in a) (wiring_in a) (state_in a) i named (task_there a i named) may (turn_in (plan_in a) i j) j at (read_found a i j named inside) ready

  module _ (b : Recorder) (look : AddsStep a b (Look i j)) where
    look_piece : AddsPiece a b (step_of (Look i j) ∷ []) i (task (state_in a) i).part.ended (place.Take (turn_in (plan_in a) i j))
    look_piece = piece_step a b (Look i j) i _ _ look look_may (moves.look_changes (plan_in a) (wiring_in a) (state_in a) i named (task_there a i named) may (turn_in (plan_in a) i j) j at ready)

    look_named : i < length (plan_in b).diagram.tasks
    look_named = still_named a b _ i _ look_piece named

    look_free : MayStep (wiring_in b) (state_in b) i
    look_free = still_free a b _ i _ look_piece may

    pub take_may : Moves (plan_in b) (wiring_in b) (state_in b) (Take i j)
    take_may =
        moves.take_moves (plan_in b) (wiring_in b) (state_in b) i look_named (task_there b i look_named) look_free (turn_in (plan_in a) i j) j look_piece.changes.place
        (ap (λ (w : Wiring). (read_at (wired_task w i) (turn_in (plan_in a) i j)).read) look.wiring ∙ read_found a i j named inside)

    pub take_whole : (c : Recorder) → AddsStep b c (Take i j) → AddsPiece a c (look_events i j) i (task (state_in a) i).part.ended (read_place (length (declared_task (plan_in a) i).reads) (turn_in (plan_in a) i j + 1))
    take_whole c step =
        let one : AddsPiece b c (step_of (Take i j) ∷ []) i (task (state_in b) i).part.ended (read_place (length (wired_task (wiring_in b) i).reads) (turn_in (plan_in a) i j + 1)) =
        piece_step b c (Take i j) i _ _ step take_may (moves.take_changes (plan_in b) (wiring_in b) (state_in b) i look_named (task_there b i look_named) look_free (turn_in (plan_in a) i j) j look_piece.changes.place) in
        let size : length (wired_task (wiring_in b) i).reads ≡ length (reads_of a i) = ap (λ (w : Wiring). length (wired_task w i).reads) look.wiring ∙ reads_in a i named in
        piece_on a b c (step_of (Look i j) ∷ []) (step_of (Take i j) ∷ []) i _ _ _ _ look_piece
        (piece_as b c _ i _ _ _ _ look_piece.changes.ended (ap (λ (n : ℕ). read_place n (turn_in (plan_in a) i j + 1)) size) one)

-- ---- the reads of a tick

-- the events of the first reads of the list, as far as they are made at the tick, and how many are made before the next
abbrev pub events_to : List Read → ℕ → ℕ → ℕ → List Event
events_to reads i served k = flat_map (look_events i) (filter (λ r. (get_or reads r no_read).at == served) (range_with_len 0 k))

abbrev pub made_to : List Read → ℕ → ℕ → ℕ
made_to reads served k = count_by (λ r. nat_lt r.at served) reads + count_by (λ r. r.at == served) (take k reads)

events_more : (reads : List Read) (i served k : ℕ) → (get_or reads k no_read).at ≡ served → events_to reads i served (k + 1) ≡ events_to reads i served k ++ look_events i k
events_more reads i served k is =
    let more : filter (λ r. (get_or reads r no_read).at == served) (range_with_len 0 (k + 1)) ≡ filter (λ r. (get_or reads r no_read).at == served) (range_with_len 0 k) ++ k ∷ [] =
    numbers_more (λ r. (get_or reads r no_read).at == served) k ∙ rw (eq-eqb (get_or reads k no_read).at served is) refl in
    ap (flat_map (look_events i)) more ∙ flat_map-append (look_events i) (filter (λ r. (get_or reads r no_read).at == served) (range_with_len 0 k)) (k ∷ [])

events_same : (reads : List Read) (i served k : ℕ) → (get_or reads k no_read).at ≢ served → events_to reads i served (k + 1) ≡ events_to reads i served k
events_same reads i served k isnt =
    let same : filter (λ r. (get_or reads r no_read).at == served) (range_with_len 0 (k + 1)) ≡ filter (λ r. (get_or reads r no_read).at == served) (range_with_len 0 k) =
    numbers_more (λ r. (get_or reads r no_read).at == served) k ∙ rw (ne_eqb (get_or reads k no_read).at served isnt) (append-nil (filter (λ r. (get_or reads r no_read).at == served) (range_with_len 0 k))) in
    ap (flat_map (look_events i)) same

-- a row that is filled stays so if only the reader changes
still_filled : (a : Recorder) (new : State) (i j instances : ℕ) (q : Place) → i < length (plan_in a).diagram.tasks → j < length (reads_of a i) → ChangesTask (state_in a) new i instances q
    → IsClaimFilled (wiring_in a) (state_in a) (get_or (reads_of a i) j no_read).link → IsClaimFilled (wiring_in a) new (get_or (reads_of a i) j no_read).link
still_filled a new i j instances q named inside changes filled =
    let w : Wiring = wiring_in a in
    let n : ℕ = turn_in (plan_in a) i j in
    let few : n < length (wired_task (wiring_in a) i).reads = omega (arith, turn_within a i j named inside, reads_in a i named) in
    let own : IsOwnRead (plan_in a) (wiring_in a) i (turn_in (plan_in a) i j) = (own_in a).reads i n (wired_there a i named) few in
    let same : (read_of (plan_in a) (wiring_in a) i (turn_in (plan_in a) i j)).link ≡ (get_or (reads_of a i) j no_read).link = ap (λ (m : ℕ). (get_or (reads_of a i) m no_read).link) (read_found a i j named inside) in
    let k : ℕ = (get_or (reads_of a i) j no_read).link in
    let below : k < length (wiring_in a).links = subst (λ (x : ℕ). x < length (wiring_in a).links) same own.below in
    let reader : (link (wiring_in a) (get_or (reads_of a i) j no_read).link).reader ≡ i = subst (λ (x : ℕ). (link (wiring_in a) x).reader ≡ i) same own.reader in
    let apart : (link (wiring_in a) (get_or (reads_of a i) j no_read).link).writer ≢ i = λ is. (own_in a).apart k below (is ∙ sym reader) in
    let entry : link_entry new (get_or (reads_of a i) j no_read).link ≡ link_entry (state_in a) (get_or (reads_of a i) j no_read).link = ap (λ (r : ReleaserPart). claim_in r (get_or (reads_of a i) j no_read).link) changes.releaser in
    let writer : task new (link (wiring_in a) (get_or (reads_of a i) j no_read).link).writer ≡ task (state_in a) (link (wiring_in a) (get_or (reads_of a i) j no_read).link).writer = changes.others (link (wiring_in a) (get_or (reads_of a i) j no_read).link).writer apart in
    omega (arith, filled, ap (λ (c : LinkEntry). c.number) entry, ap (λ (t : TaskState). last_filled t) writer)

look_below : (reads n : ℕ) → n < reads → read_place reads n ≡ place.Look n
look_below reads n below = rw (lt-ltb n reads below) refl

-- the reads so far
abbrev pub HasRead : Recorder → ℕ → ℕ → Recorder → ℕ → Type 0
HasRead a i served b k = AddsPiece a b (events_to (reads_of a i) i served k) i (task (state_in a) i).part.ended (read_place (length (reads_of a i)) (made_to (reads_of a i) served k))

module _ (a : Recorder) (i served : ℕ) (named : i < length (plan_in a).diagram.tasks) where
  pub reads_none : (task (state_in a) i).part.place ≡ place_after (plan_in a) i served → HasRead a i served a 0
  reads_none at =
      let none : made_to (reads_of a i) served 0 ≡ count_by (λ r. nat_lt r.at served) (reads_of a i) = omega arith in
      piece_as a a [] i _ _ _ _ refl (at ∙ ap (read_place (length (reads_of a i))) (sym none)) (piece_none a i)

  pub reads_all : (b : Recorder) (k : ℕ) → k ≡ length (reads_of a i) → HasRead a i served b k → AddsPiece a b (read_events (plan_in a) i served) i (task (state_in a) i).part.ended (place_after (plan_in a) i (served + 1))
  reads_all b k is piece =
      let whole : HasRead a i served b (length (reads_of a i)) = subst (λ (n : ℕ). HasRead a i served b n) is piece in
      let all : made_to (reads_of a i) served (length (reads_of a i)) ≡ count_by (λ r. nat_lt r.at (served + 1)) (reads_of a i) =
      ap (λ (l : List Read). count_by (λ r. nat_lt r.at served) (reads_of a i) + count_by (λ r. r.at == served) l) (take_all (length (reads_of a i)) (reads_of a i) (omega arith)) ∙ sym (count_earlier served (reads_of a i)) in
      piece_as a b (read_events (plan_in a) i served) i _ _ _ _ refl (ap (read_place (length (reads_of a i))) all) whole

  module _ (b : Recorder) (k : ℕ) (below : k < length (reads_of a i)) (so_far : HasRead a i served b k) where
    -- a read that is made at another tick
    pub reads_skip : (get_or (reads_of a i) k no_read).at ≢ served → HasRead a i served b (k + 1)
    reads_skip isnt =
        let made : made_to (reads_of a i) served k ≡ made_to (reads_of a i) served (k + 1) =
        ap (λ (n : ℕ). count_by (λ r. nat_lt r.at served) (reads_of a i) + n) (sym (count_by_more_no (λ (r : Read). r.at == served) (reads_of a i) k no_read below (ne_eqb (get_or (reads_of a i) k no_read).at served isnt))) in
        subst (λ (vs : List Event). AddsPiece a b vs i (task (state_in a) i).part.ended (read_place (length (reads_of a i)) (made_to (reads_of a i) served (k + 1)))) (sym (events_same (reads_of a i) i served k isnt))
        (piece_as a b (events_to (reads_of a i) i served k) i _ _ _ _ refl (ap (read_place (length (reads_of a i))) made) so_far)

    -- one that is made at this tick
    module _ (is : (get_or (reads_of a i) k no_read).at ≡ served) where
      pub looks_named : i < length (plan_in b).diagram.tasks
      looks_named = still_named a b _ i _ so_far named

      pub looks_inside : k < length (declared_task (plan_in b) i).reads
      looks_inside = subst (λ (p : Plan). k < length (declared_task p i).reads) (sym so_far.steps.plan) below

      pub looks_free : MayStep (wiring_in a) (state_in a) i → MayStep (wiring_in b) (state_in b) i
      looks_free may = still_free a b _ i _ so_far may

      turn_is : turn_in (plan_in b) i k ≡ made_to (reads_of a i) served k
      turn_is = ap (λ (p : Plan). turn_in p i k) so_far.steps.plan ∙ turn_counts (reads_of a i) k served is

      pub looks_at : (task (state_in b) i).part.place ≡ place.Look (turn_in (plan_in b) i k)
      looks_at =
          let few : made_to (reads_of a i) served k < length (reads_of a i) = omega (arith, turn_within a i k named below, turn_counts (reads_of a i) k served is) in
          so_far.changes.place ∙ look_below (length (reads_of a i)) (made_to (reads_of a i) served k) few ∙ ap (λ (n : ℕ). place.Look n) (sym turn_is)

      pub looks_row : HasRowsToRead (plan_in a) (wiring_in a) (state_in a) i served → (wiring_in b).count ≡ All → IsClaimFilled (wiring_in b) (state_in b) (get_or (declared_task (plan_in b) i).reads k no_read).link
      looks_row rows all =
          let all_ : (wiring_in a).count ≡ All = ap (λ (w : Wiring). w.count) (sym so_far.steps.wiring) ∙ all in
          let filled : IsClaimFilled (wiring_in a) (state_in b) (get_or (declared_task (plan_in a) i).reads k no_read).link = still_filled a (state_in b) i k _ _ named below so_far.changes (rows all_ k below is) in
          subst (λ (p : Plan). IsClaimFilled (wiring_in b) (state_in b) (get_or (declared_task p i).reads k no_read).link) (sym so_far.steps.plan)
          (subst (λ (w : Wiring). IsClaimFilled w (state_in b) (get_or (declared_task (plan_in a) i).reads k no_read).link) (sym so_far.steps.wiring) filled)

      pub reads_more : (c : Recorder) → AddsPiece b c (look_events i k) i (task (state_in b) i).part.ended (read_place (length (declared_task (plan_in b) i).reads) (turn_in (plan_in b) i k + 1)) → HasRead a i served c (k + 1)
      reads_more c one =
          let one_more : count_by (λ r. r.at == served) (take (k + 1) (reads_of a i)) ≡ count_by (λ r. r.at == served) (take k (reads_of a i)) + 1 =
          count_by_more_yes (λ (r : Read). r.at == served) (reads_of a i) k no_read below (eq-eqb (get_or (reads_of a i) k no_read).at served is) in
          let made : turn_in (plan_in b) i k + 1 ≡ made_to (reads_of a i) served (k + 1) = omega (arith, turn_is, one_more) in
          let size : length (declared_task (plan_in b) i).reads ≡ length (reads_of a i) = ap (λ (p : Plan). length (declared_task p i).reads) so_far.steps.plan in
          let place_ : read_place (length (declared_task (plan_in b) i).reads) (turn_in (plan_in b) i k + 1) ≡ read_place (length (reads_of a i)) (made_to (reads_of a i) served (k + 1)) =
          ap (λ (n : ℕ). read_place n (turn_in (plan_in b) i k + 1)) size ∙ ap (read_place (length (reads_of a i))) made in
          let whole : AddsPiece a c (events_to (reads_of a i) i served k ++ look_events i k) i (task (state_in a) i).part.ended (read_place (length (reads_of a i)) (made_to (reads_of a i) served (k + 1))) =
          piece_on a b c (events_to (reads_of a i) i served k) (look_events i k) i _ _ _ _ so_far (piece_as b c (look_events i k) i _ _ _ _ so_far.changes.ended place_ one) in
          subst (λ (vs : List Event). AddsPiece a c vs i (task (state_in a) i).part.ended (read_place (length (reads_of a i)) (made_to (reads_of a i) served (k + 1)))) (sym (events_more (reads_of a i) i served k is)) whole

-- the read that the code looks at
pub read_is : (a b : Recorder) (i k : ℕ) (t : Task) (items : List Read) (read : Read) → plan_in b ≡ plan_in a → t ≡ declared_task (plan_in b) i → items ≡ t.reads → k < length (reads_of a i)
    → get_or (reads_of a i) k no_read ≡ get_or items k read
read_is a b i k t items read plan there list below =
    let same : items ≡ reads_of a i = list ∙ ap (λ (x : Task). x.reads) there ∙ ap (λ (p : Plan). (declared_task p i).reads) plan in
    get_or_default (reads_of a i) k no_read read below ∙ ap (λ (l : List Read). get_or l k read) (sym same)
