-- In a sound state each take hears the word of the meaning, and each computed row is the meaning's.
use Rattle.std.proofs.Common.{◌≡◌, ℕ, ℤ, ◌+◌, ◌-◌, ◌<◌, ◌≤◌, List, length, get_or, slice_get, Some, None, sym, ◌∙◌, ap, subst, arith}
use Rattle.std.proofs.lemmas.Option.{slice_get-get_or}
use Rattle.dbp_plan.specs.declared.diagram.Read.{Read}
use Rattle.dbp_plan.specs.declared.plan.Plan.{Plan}
use Rattle.dbp_plan.specs.declared.table.Table.{Table}
use Rattle.dbp_plan.specs.Occurrences.{count_until, times_of, time_of}
use Rattle.dbp_plan.specs.Table.{IsRow, table_row}
use Rattle.dbp_plan.specs.Lookups.{declared_task, no_declared_task, no_read}
use Rattle.dbp_plan.proofs.TableRows.{has_rows}
use Rattle.sync_meaning.proofs.OneMeaning.{one_meaning, read_is}
use Rattle.sync_meaning.specs.Meaning.{IsMeaning, IsRead}
use Rattle.sync_meaning.specs.SomeMeaning.{meaning_of, meaning_of-is}
use Rattle.sync_meaning.specs.SomeMeaningRows.{value_at}
use Rattle.sync_meaning.specs.SomeMeaningTables.{row_in}
use Rattle.dbp_rules.specs.Lookups.{read_at, task, task_entry, wired_task}
use Rattle.dbp_rules.specs.Promises.{TakesTheMeaning}
use Rattle.dbp_rules.specs.Rules as rule
use Rattle.dbp_rules.specs.Shapes.{PlaceIn, TaskShape, running_count}
use Rattle.dbp_rules.specs.Sound.{Sound}
use Rattle.dbp_rules.specs.SoundParts.{last_shut, meant_value}
use Rattle.dbp_rules.specs.declared.parts.Place.{Place}
use Rattle.dbp_rules.specs.declared.parts.Place.TheVariants as place
use Rattle.dbp_rules.specs.declared.state.State.{State}
use Rattle.dbp_rules.specs.declared.step.Step.TheVariants.{Take}
use Rattle.dbp_rules.specs.declared.wiring.Wiring.{Wiring}
use Rattle.dbp_rules.proofs.Allowed.{or_else_none}
use Rattle.dbp_rules.proofs.SoundAnswers.{named_read, take_hears}
use Rattle.dbp_rules.proofs.SoundGoes.{shut_running}
use Rattle.dbp_rules.proofs.SoundOwn.{IsOwn}
use Rattle.dbp_rules.proofs.StepPlaces.{at_take}

-- a task's running instance is one of its occurrences
started_few : (p : Plan) (w : Wiring) (rows : ℕ → ℕ → List ℤ) (s : State) (i : ℕ) → IsOwn p w → Sound p w rows s → i < length w.tasks → (task s i).part.ended + running_count (task s i).part.place ≤ length (times_of p.batches i)
started_few p w rows s i own sound below =
    let fits : TaskShape w (declared_task p i) i (task_entry s i).aimed (task s i) = sound.shape.each_task i below in
    omega (arith, sound.shape.aimed i below, own.whole.releases.aims_times s.releaser.place i, fits.gate, fits.aimed)

pub take_meant : (p : Plan) (w : Wiring) (table : Table) (s : State) (i r : ℕ) → IsOwn p w → IsMeaning p.diagram p.samples p.batches table → Sound p w (table_row table) s → i < length p.diagram.tasks → rule.refusal w s (Take i r) ≡ None
    → TakesTheMeaning p w table s i r
take_meant p w table s i r own meaning sound named free =
    let below : i < length w.tasks = omega (arith, named, own.whole.tasks) in
    let n : ℕ = rule.turn_at (task s i).part.place in
    let at : (task s i).part.place ≡ place.Take n = at_take w s i r free in
    let few : n < length (wired_task w i).reads = subst (λ (x : Place). PlaceIn (wired_task w i) x) at (sound.shape.each_task i below).place in
    let number : (read_at (wired_task w i) n).read ≡ r = named_read p w (table_row table) s own sound i r 8 (or_else_none (rule.steps_next w s i 8 r) _ free).0 (place.Take n) at in
    let inside : r < length (declared_task p i).reads = omega (arith, number, ((own.whole.each_task i below).each_read n few).read) in
    let read : Read = get_or (declared_task p i).reads r no_read in
    let has : slice_get (declared_task p i).reads r ≡ Some (get_or (declared_task p i).reads r no_read) = slice_get-get_or (declared_task p i).reads r no_read inside in
    let ended : ℕ = (task s i).part.ended in
    let room : (task s i).part.ended < length (times_of p.batches i) = omega (arith, started_few p w (table_row table) s i own sound below, ap running_count at) in
    let one : (task s i).part.ended + 1 - 1 ≡ (task s i).part.ended = omega arith in
    let time : time_of p.batches i ((task s i).part.ended + 1) ≡ get_or (times_of p.batches i) (task s i).part.ended 0 = ap (λ (m : ℕ). get_or (times_of p.batches i) m 0) one in
    let there : slice_get p.diagram.tasks i ≡ Some (declared_task p i) = slice_get-get_or p.diagram.tasks i no_declared_task named in
    let is : IsRead p.diagram.links (λ v. count_until (times_of p.batches v) (get_or (times_of p.batches i) (task s i).part.ended 0)) table read (value_at p.diagram p.samples p.batches (table_row table) (get_or (times_of p.batches i) (task s i).part.ended 0) (get_or (declared_task p i).reads r no_read)) =
    read_is p.diagram p.samples p.batches table meaning i (task s i).part.ended r (declared_task p i) (get_or (declared_task p i).reads r no_read) there room has in
    record {
      word = meant_value p (table_row table) i ((task s i).part.ended + 1) (get_or (declared_task p i).reads r no_read);
      hears = take_hears p w (table_row table) s own sound i r named free;
      meant = record {
        read = get_or (declared_task p i).reads r no_read;
        has_read = has;
        is = subst (λ (t : ℕ). IsRead p.diagram.links (λ v. count_until (times_of p.batches v) t) table (get_or (declared_task p i).reads r no_read) (value_at p.diagram p.samples p.batches (table_row table) t (get_or (declared_task p i).reads r no_read))) (sym time) is;
      };
    }

-- ---- rows

-- the number of a computed row is that of an occurrence
pub shut_few : (p : Plan) (w : Wiring) (rows : ℕ → ℕ → List ℤ) (s : State) (i : ℕ) → IsOwn p w → Sound p w rows s → i < length w.tasks → last_shut (task s i) ≤ length (times_of p.batches i)
shut_few p w rows s i own sound below = omega (arith, started_few p w rows s i own sound below, shut_running (task s i).part.place)

-- a row of the meaning is a row of each table that meets its equations
pub meaning_row : (p : Plan) (table : Table) (i n : ℕ) (row : List ℤ) → IsMeaning p.diagram p.samples p.batches table → i < length p.diagram.tasks → n ≤ length (times_of p.batches i) → row ≡ table_row (meaning_of p) i n → IsRow table i n row
meaning_row p table i n row meaning named few is =
    let same : meaning_of p ≡ table = one_meaning p (meaning_of p) table (meaning_of-is p) meaning in
    let has = has_rows p.diagram.tasks p.batches table meaning.rows i n named few in
    let here : has.0 ≡ row = sym (row_in table i n has.0 has.1) ∙ ap (λ (y : Table). table_row y i n) (sym same) ∙ sym is in
    subst (λ (x : List ℤ). IsRow table i n x) here has.1
