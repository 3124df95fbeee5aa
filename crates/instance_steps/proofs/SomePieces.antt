-- For each piece of an instance there is a recorder that has made it: its begin, its reads of a tick, its end.
use Rattle.std.proofs.Common.{◌≡◌, ℕ, ◌+◌, ◌<◌, ◌++◌, length, get_or, set, refl, ◌∙◌, arith, inl, inr}
use Rattle.std.specs.Prelude.{replicate}
use Rattle.std.proofs.lemmas.Bool.{cases_eq}
use Rattle.dbp_plan.specs.declared.table.Table.{Table}
use Rattle.dbp_plan.specs.declared.table.TaskRows.{TaskRows}
use Rattle.dbp_plan.specs.ListItems.{at_place}
use Rattle.dbp_plan.specs.Lookups.{declared_task, no_read}
use Rattle.dbp_rules.specs.Lookups.{task, wired_task}
use Rattle.dbp_rules.specs.Moves.{hear_place, put_place, read_place}
use Rattle.dbp_rules.specs.Promises.{IsClaimFilled}
use Rattle.dbp_rules.specs.declared.parts.Place.TheVariants as place
use Rattle.dbp_rules.specs.declared.step.Count.TheVariants.{All}
use Rattle.dbp_rules.specs.declared.step.Step.TheVariants.{Start, Hear, Look, Take, Shut, Put, Done, End}
use Rattle.instance_steps.specs.EndedRows.{HasEndedRows}
use Rattle.instance_steps.specs.Events.{begin_events, end_events, look_events, put_events, read_events, step_of}
use Rattle.instance_steps.specs.Recorders.{plan_in, state_in, table_in, wiring_in}
use Rattle.instance_steps.specs.TaskPieces.{AddsPiece, HasRowsToRead, MayStep, place_after, turn_in}
use Rattle.instance_steps.specs.declared.recorder.Recorder.{Recorder}
use Rattle.instance_steps.proofs.Begins as begins
use Rattle.instance_steps.proofs.Begins.{links_of}
use Rattle.instance_steps.proofs.EndedTask.{row_gained, rows_there}
use Rattle.instance_steps.proofs.Ends as ends
use Rattle.instance_steps.proofs.Ends.{outs_of}
use Rattle.instance_steps.proofs.MadeReads as reads
use Rattle.instance_steps.proofs.MadeReads.{HasRead, reads_of}
use Rattle.instance_steps.proofs.SomeSteps.{some_rounds, some_step}

module _ (a : Recorder) (i : ℕ) (named : i < length (plan_in a).diagram.tasks) (may : MayStep (wiring_in a) (state_in a) i) where
  -- ---- the begin

  some_hears : (task (state_in a) i).part.place ≡ place.Hear 0
      → (b : Recorder) × AddsPiece a b (replicate (1 + links_of a i) (step_of (Hear i))) i (task (state_in a) i).part.ended (place_after (plan_in a) i 0) × (table_in b ≡ table_in a)
  some_hears at =
      let (b, heard, same) = some_rounds
      (λ b n. AddsPiece a b (replicate n (step_of (Hear i))) i (task (state_in a) i).part.ended (hear_place (wired_task (wiring_in a) i) n)) a (1 + links_of a i)
      (begins.hears_none a i named may at)
      (λ b n below so_far.
      let (c, step, kept) = some_step b (Hear i) (begins.hear_may a i named may b n below so_far) in
      (c, begins.hear_more a i named may b n below so_far c step, kept))
      (1 + links_of a i) (omega arith) in
      (b, begins.hears_all a i named may b (1 + links_of a i) refl heard, same)

  -- ---- the reads

  some_read : (j : ℕ) → j < length (declared_task (plan_in a) i).reads → (task (state_in a) i).part.place ≡ place.Look (turn_in (plan_in a) i j)
      → ((wiring_in a).count ≡ All → IsClaimFilled (wiring_in a) (state_in a) (get_or (declared_task (plan_in a) i).reads j no_read).link)
      → (b : Recorder) × AddsPiece a b (look_events i j) i (task (state_in a) i).part.ended (read_place (length (declared_task (plan_in a) i).reads) (turn_in (plan_in a) i j + 1)) × (table_in b ≡ table_in a)
  some_read j inside at row =
      let (b, look, same) = some_step a (Look i j) (reads.look_may a i j named inside may at row) in
      let (c, take, also) = some_step b (Take i j) (reads.take_may a i j named inside may at row b look) in
      (c, reads.take_whole a i j named inside may at row b look c take, also ∙ same)

  -- ---- the end

  some_puts : (task (state_in a) i).part.place ≡ place.Put 0
      → (b : Recorder) × AddsPiece a b (put_events i (outs_of a i)) i (task (state_in a) i).part.ended place.Done × (table_in b ≡ table_in a)
  some_puts at =
      let (b, put, same) = some_rounds
      (λ b n. AddsPiece a b (put_events i n) i (task (state_in a) i).part.ended (put_place (outs_of a i) n)) a (outs_of a i)
      (ends.puts_none a i named may at)
      (λ b n below so_far.
      let (c, step, kept) = some_step b (Put i n) (ends.put_may a i named may b n below so_far) in
      (c, ends.put_more a i named may b n below so_far c step, kept))
      (outs_of a i) (omega arith) in
      (b, ends.puts_all a i named may b put, same)

module _ (a : Recorder) (i : ℕ) (named : i < length (plan_in a).diagram.tasks) (may : MayStep (wiring_in a) (state_in a) i) where
  pub some_begin : (task (state_in a) i).part.place ≡ place.Idle → (task (state_in a) i).words.gate ≡ (task (state_in a) i).part.ended + 1
      → (b : Recorder) × AddsPiece a b (begin_events (plan_in a) i) i (task (state_in a) i).part.ended (place_after (plan_in a) i 0) × (table_in b ≡ table_in a)
  some_begin idle gate =
      let (b, start, same) = some_step a (Start i) (begins.start_may a i named may idle gate) in
      let (c, heard, also) = some_hears b i (begins.start_named a i named may idle gate b start) (begins.start_free a i named may idle gate b start) (begins.start_place a i named may idle gate b start) in
      (c, begins.begin_whole a i named may idle gate b start c heard, also ∙ same)

  pub some_reads : (served : ℕ) → (task (state_in a) i).part.place ≡ place_after (plan_in a) i served → HasRowsToRead (plan_in a) (wiring_in a) (state_in a) i served
      → (b : Recorder) × AddsPiece a b (read_events (plan_in a) i served) i (task (state_in a) i).part.ended (place_after (plan_in a) i (served + 1)) × (table_in b ≡ table_in a)
  some_reads served at rows =
      let (b, made, same) = some_rounds
      (λ b k. HasRead a i served b k) a (length (reads_of a i))
      (reads.reads_none a i served named at)
      (λ b k below so_far. elim (cases_eq (get_or (reads_of a i) k no_read).at served) [
        | inl is ↦
            let (c, one, kept) = some_read b i (reads.looks_named a i served named b k below so_far is) (reads.looks_free a i served named b k below so_far is may) k
            (reads.looks_inside a i served named b k below so_far is) (reads.looks_at a i served named b k below so_far is) (reads.looks_row a i served named b k below so_far is rows) in
            (c, reads.reads_more a i served named b k below so_far is c one, kept)
        | inr isnt ↦ (b, reads.reads_skip a i served named b k below so_far isnt, refl)
      ])
      (length (reads_of a i)) (omega arith) in
      (b, reads.reads_all a i served named b (length (reads_of a i)) refl made, same)

  -- the steps of the end
  some_end_steps : (task (state_in a) i).part.place ≡ place.Shut
      → (b : Recorder) × AddsPiece a b (end_events (plan_in a) i) i ((task (state_in a) i).part.ended + 1) place.Idle × (table_in b ≡ table_in a)
  some_end_steps at =
      let (b, shut, one) = some_step a (Shut i) (ends.shut_may a i named may at) in
      let (c, puts, two) = some_puts b i (ends.shut_named a i named may at b shut) (ends.shut_free a i named may at b shut) (ends.shut_place a i named may at b shut) in
      let (d, done, three) = some_step c (Done i) (ends.done_may a i named may at b shut c puts) in
      let (e, last, four) = some_step d (End i) (ends.end_may a i named may at b shut c puts d done) in
      (e, ends.end_whole a i named may at b shut c puts d done e last, four ∙ three ∙ two ∙ one)

  -- and with the row in the table
  pub some_end : (task (state_in a) i).part.place ≡ place.Shut → HasEndedRows (plan_in a) (state_in a) (table_in a)
      → (b : Recorder) × AddsPiece a b (end_events (plan_in a) i) i ((task (state_in a) i).part.ended + 1) place.Idle × HasEndedRows (plan_in b) (state_in b) (table_in b)
  some_end at has =
      let (b, piece, same) = some_end_steps at in
      let (old, there) = at_place (table_in b).tasks i (rows_there a b i _ piece named has same) in
      let more : TaskRows = record { ports = old.ports; words = old.words ++ (task (state_in b) i).work.row } in
      let later : Table = record { tasks = set (table_in b).tasks i more } in (
        record { core = b.core; steps = b.steps; table = later },
        record {
          steps = record { plan = piece.steps.plan; wiring = piece.steps.wiring; added = piece.steps.added; steps = piece.steps.steps; plays = piece.steps.plays };
          changes = piece.changes;
        },
        row_gained a b i _ piece named has same (task (state_in b) i).work.row refl old there more later refl refl refl,
      )
