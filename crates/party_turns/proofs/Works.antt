-- Steps after which a task has more: a word that it has taken, a row that it has computed, its next states.
use Rattle.std.proofs.Common.{◌≡◌, ◌≢◌, ℕ, zero, suc, ℤ, pos, ◌+◌, ◌-◌, ◌*◌, ◌<◌, ◌≤◌, List, ◌++◌, length, map, get_or, set, slice_get, Some, take, drop, refl, sym, ◌∙◌, ap, subst, arith, inl, inr, length-append, length-drop, length-set, get_or-set_same, get_or-set_other}
use Rattle.std.proofs.lemmas.Bool.{cases_eq}
use Rattle.std.proofs.lemmas.List.{length-map}
use Rattle.std.proofs.Math.Nat.{mul-le-mul_right}
use Rattle.std.specs.Prelude.{slice_range}
use Rattle.std.proofs.lemmas.Option.{get_or_from_slice_get, slice_get-get_or}
use Rattle.dbp_plan.specs.declared.diagram.Read.{Read}
use Rattle.dbp_plan.specs.declared.diagram.Task.{Task}
use Rattle.dbp_plan.specs.declared.plan.Plan.{Plan}
use Rattle.dbp_plan.specs.declared.table.TaskRows.{TaskRows}
use Rattle.dbp_plan.specs.Lookups.{declared_task, no_declared_task, no_read}
use Rattle.dbp_plan.specs.Occurrences.{count_until, time_of, times_of}
use Rattle.dbp_plan.specs.Samples.{input_value}
use Rattle.dbp_plan.specs.Table.{row_at}
use Rattle.dbp_plan.proofs.ListEdits.{take_past}
use Rattle.sync_meaning.proofs.OneMeaning.{meaning_solves}
use Rattle.sync_meaning.specs.SomeMeaning.{meaning_of, meaning_of-is}
use Rattle.sync_meaning.specs.SomeMeaningRows.{Solves, row_of}
use Rattle.sync_meaning.specs.SomeMeaningStreams.{length-states_at}
use Rattle.sync_meaning.specs.SomeMeaningTables.{row_in}
use Rattle.dbp_rules.specs.Moves as move
use Rattle.dbp_rules.specs.PartyRules.{Loaded, task_after, turn_at}
use Rattle.dbp_rules.specs.Lookups.{read_at, time, wired_task}
use Rattle.dbp_rules.specs.Promises.{IsMeant}
use Rattle.dbp_rules.specs.SoundParts.{meant_value, place_of_read, read_of, shut_by, taken_by}
use Rattle.dbp_rules.specs.Shapes.{IsTaskWired}
use Rattle.dbp_rules.specs.Work.{WorkWords}
use Rattle.dbp_rules.specs.declared.parts.Place.{Place}
use Rattle.dbp_rules.specs.declared.parts.Place.TheVariants as place
use Rattle.dbp_rules.specs.declared.parts.TaskPart.{TaskPart}
use Rattle.dbp_rules.specs.declared.step.Count.TheVariants.{All}
use Rattle.dbp_rules.specs.declared.step.Step.TheVariants.{Take, Shut, End}
use Rattle.dbp_rules.specs.declared.wiring.TaskWiring.{TaskWiring}
use Rattle.dbp_rules.proofs.SoundComputing.{HasComputed as HasWorked, HasItsWords, worked_is}
use Rattle.dbp_rules.proofs.SoundGoes.{early_read, taken_read}
use Rattle.dbp_rules.proofs.SoundOwn.{IsOwn, own_wiring}
use Rattle.dbp_rules.proofs.SoundStart.{take_front}
use Rattle.word_rule.specs.Roles.{meaning_row, run_wiring}
use Rattle.party_turns.specs.Computed.{HasComputed}
use Rattle.party_turns.proofs.Written.{written_before, written_here, written_size}

-- the meaning's rows solve its equations
pub row_solves : (p : Plan) → Solves p.diagram p.samples p.batches (meaning_row p)
row_solves p = meaning_solves p.diagram p.samples p.batches (meaning_of p) p.rules (meaning_of-is p)

row_width : (p : Plan) (i n : ℕ) → length (row_of p.diagram p.samples p.batches (meaning_row p) i (declared_task p i) n) ≡ length (declared_task p i).outs
row_width p i zero = length-map (declared_task p i).outs (λ o. o.first)
row_width p i (suc n) = length-map (declared_task p i).outs _

-- a row has as many words as its task has outs
pub meant_width : (p : Plan) (i n : ℕ) → i < length p.diagram.tasks → n ≤ length (times_of p.batches i) → length (meaning_row p i n) ≡ length (declared_task p i).outs
meant_width p i n named less =
    ap length ((row_solves p).each i n (declared_task p i) (slice_get-get_or p.diagram.tasks i no_declared_task named) less) ∙ row_width p i n

-- the word that the meaning gives a read
meant_is : (p : Plan) (i m r : ℕ) (word : ℤ) → IsMeant p (meaning_of p) i m r word → meant_value p (meaning_row p) i m (get_or (declared_task p i).reads r no_read) ≡ word
meant_is p i m r word is =
    let same : get_or (declared_task p i).reads r no_read ≡ is.read = get_or_from_slice_get (declared_task p i).reads r is.read no_read is.has_read in
    let number : ℕ = count_until (times_of p.batches is.is.link.writer) (time_of p.batches i m) - is.is.link.delay in
    let row : meaning_row p is.is.link.writer number ≡ is.is.row = row_in (meaning_of p) is.is.link.writer number is.is.row is.is.is_row in
    let here : meant_value p (meaning_row p) i m is.read ≡ get_or (meaning_row p is.is.link.writer number) is.read.port (pos 0) = rw is.is.has_link refl in
    ap (λ (x : Read). meant_value p (meaning_row p) i m x) same
    ∙ here
    ∙ ap (λ (l : List ℤ). get_or l is.read.port (pos 0)) row
    ∙ get_or_from_slice_get is.is.row is.read.port word (pos 0) is.is.has_value

module _ (p : Plan) (i : ℕ) (below : i < length (run_wiring p).tasks) (t : TaskPart) (work : WorkWords) (rows : TaskRows) (has : HasComputed p i t work rows) where
  abbrev w : TaskWiring
  w = wired_task (run_wiring p) i

  abbrev d : Task
  d = declared_task p i

  abbrev reads : ℕ
  reads = length (wired_task (run_wiring p) i).reads

  own : IsOwn p (run_wiring p)
  own = own_wiring p All

  own_task : IsTaskWired p (run_wiring p) i w
  own_task = own.whole.each_task i below

  named : i < length p.diagram.tasks
  named = omega (arith, below, own.whole.tasks)

  -- ---- take

  pub after_take : (n r spot : ℕ) (word : ℤ) (l : Loaded) → t.place ≡ place.Take n → n < reads → r ≡ (read_at w n).read → spot ≡ length d.states + length d.senses + r → IsMeant p (meaning_of p) i (t.ended + 1) r word
      → HasComputed p i (task_after w t (Take i r) l) (record work { now = set work.now spot word }) rows
  after_take n r spot word l at few read here meant =
      let turn : turn_at t.place ≡ n = ap turn_at at in
      let now_taken : taken_by reads t.place ≡ n = ap (taken_by reads) at in
      let not_shut : shut_by t.place ≡ 0 = ap shut_by at in
      let next : Place = move.read_place reads (turn_at t.place + 1) in
      let next_taken : taken_by reads (move.read_place reads (turn_at t.place + 1)) ≡ n + 1 = ap (λ (m : ℕ). taken_by reads (move.read_place reads (m + 1))) turn ∙ taken_read reads (n + 1) (omega arith) in
      let next_shut : shut_by (move.read_place reads (turn_at t.place + 1)) ≡ 0 = (early_read reads (turn_at t.place + 1)).shut in
      let place_is : place_of_read p (run_wiring p) i n ≡ spot = ap (λ (x : ℕ). length d.states + length d.senses + x) (sym read) ∙ sym here in
      let room : spot < length work.now = omega (arith, has.words.now, here, read, (own_task.each_read n few).read) in
      let word_is : word ≡ meant_value p (meaning_row p) i (t.ended + 1) (read_of p (run_wiring p) i n) = sym (meant_is p i (t.ended + 1) r word meant) ∙ ap (λ (x : ℕ). meant_value p (meaning_row p) i (t.ended + 1) (get_or d.reads x no_read)) read in
      record {
        words = record {
          now = length-set work.now spot word ∙ has.words.now;
          next = has.words.next;
          states = take_past (length d.states) spot work.now word (omega arith) ∙ has.words.states;
          taken = λ m less. elim (cases_eq m n) [
            | inl same ↦ rw (same, place_is, get_or-set_same work.now spot word (pos 0) room) word_is
            | inr other ↦
                let apart : place_of_read p (run_wiring p) i m ≢ spot = λ also. other (own.turns i m n below (omega arith) few (omega (arith, also, place_is))) in
                get_or-set_other work.now spot (place_of_read p (run_wiring p) i m) word (pos 0) apart ∙ has.words.taken m (omega arith)
          ];
          later = λ some. absurd (omega arith);
          row = has.words.row ∙ ap (meaning_row p i) (omega (arith, not_shut, next_shut));
        };
        rows = record { room = has.rows.room; each = λ m less. has.rows.each m (omega (arith, less, not_shut, next_shut)) };
      }

  -- ---- shut

  its_words : t.place ≡ place.Shut → HasItsWords p (run_wiring p) (meaning_row p) i t.ended work
  its_words at =
      let all : taken_by reads t.place ≡ reads = ap (taken_by reads) at in
      record { size = has.words.now; states = has.words.states; taken = λ n few. has.words.taken n (omega (arith, few, all)) }

  pub after_shut : (new : WorkWords) (made : TaskRows) (l : Loaded) → t.place ≡ place.Shut → t.ended < length (times_of p.batches i)
      → new ≡ move.after_compute d (map (λ x. input_value p.diagram.inputs p.samples x.input (time w (t.ended + 1))) d.senses) work
      → made.ports ≡ rows.ports → made.words ≡ take ((t.ended + 1) * rows.ports) rows.words ++ new.row ++ drop ((t.ended + 1 + 1) * rows.ports) rows.words
      → HasComputed p i (task_after w t (Shut i) l) new made
  after_shut new made l at few worked ports words =
      let done : HasWorked p (run_wiring p) (meaning_row p) i t.ended new = subst (λ (x : WorkWords). HasWorked p (run_wiring p) (meaning_row p) i t.ended x) (sym worked) (worked_is p (run_wiring p) (meaning_row p) own (row_solves p) i t.ended work below few (its_words at)) in
      let there : slice_get p.diagram.tasks i ≡ Some d = slice_get-get_or p.diagram.tasks i no_declared_task named in
      let width : length new.row ≡ rows.ports = ap length done.row ∙ meant_width p i (t.ended + 1) named (omega arith) ∙ sym has.rows.room.ports in
      let room : (t.ended + 1 + 1) * rows.ports ≤ length rows.words = row_room (t.ended + 1) (omega arith) in
      let not_shut : shut_by t.place ≡ 0 = ap shut_by at in
      record {
        words = record {
          now = done.given.size;
          next = ap length done.later ∙ length-states_at p.diagram p.samples p.batches p.rules (meaning_row p) i (t.ended + 1) d there;
          states = done.given.states;
          taken = done.given.taken;
          later = λ _. done.later;
          row = done.row;
        };
        rows = record {
          room = record {
            ports = ports ∙ has.rows.room.ports;
            size = ap length words ∙ written_size rows.words new.row rows.ports (t.ended + 1) width room ∙ has.rows.room.size;
          };
          each = λ n less. elim (cases_eq n (t.ended + 1)) [
            | inl last ↦
                ap (λ (x : ℕ). row_at made x) last ∙ made_row made ports words (t.ended + 1) ∙ written_here rows.words new.row rows.ports (t.ended + 1) width room ∙ done.row ∙ ap (meaning_row p i) (sym last)
            | inr before ↦
                made_row made ports words n ∙ written_before rows.words new.row rows.ports (t.ended + 1) width room n (omega arith) ∙ has.rows.each n (omega arith)
          ];
        };
      }
    where
      row_room : (n : ℕ) → n ≤ length (times_of p.batches i) → (n + 1) * rows.ports ≤ length rows.words
      row_room n less =
          let scaled : (n + 1) * rows.ports ≤ (length (times_of p.batches i) + 1) * rows.ports = mul-le-mul_right rows.ports (omega arith) in
          let size : length rows.words ≡ (length (times_of p.batches i) + 1) * rows.ports = has.rows.room.size ∙ ap (λ (x : ℕ). (length (times_of p.batches i) + 1) * x) (sym has.rows.room.ports) in
          omega arith

      made_row : {xs : List ℤ} (made : TaskRows) → made.ports ≡ rows.ports → made.words ≡ xs → (n : ℕ) → row_at made n ≡ slice_range xs (n * rows.ports) ((n + 1) * rows.ports)
      made_row made ports words n =
          ap (λ (x : ℕ). slice_range made.words (n * x) ((n + 1) * x)) ports ∙ ap (λ (ws : List ℤ). slice_range ws (n * rows.ports) ((n + 1) * rows.ports)) words

  -- ---- end

  pub after_end : (l : Loaded) → t.place ≡ place.End → HasComputed p i (task_after w t (End i) l) (move.after_advance work) rows
  after_end l at =
      let shut : shut_by t.place ≡ 1 = ap shut_by at in
      record {
        words = record {
          now = length-append work.later (drop (length work.later) work.now) ∙ omega (arith, length-drop (length work.later) work.now, has.words.now, has.words.next);
          next = has.words.next;
          states = take_front work.later (drop (length work.later) work.now) (length d.states) has.words.next ∙ has.words.later (omega arith);
          taken = λ n few. absurd (omega arith);
          later = λ some. absurd (omega arith);
          row = has.words.row ∙ ap (meaning_row p i) (omega (arith, shut));
        };
        rows = record { room = has.rows.room; each = λ n few. has.rows.each n (omega (arith, few, shut)) };
      }
