-- A task that writes its slot, or ends, keeps a state sound: what holds of the task and of its links.
use Rattle.std.proofs.Common.{◌≡◌, ◌≢◌, ℕ, ℤ, pos, ◌+◌, ◌<◌, ◌≤◌, ◌⊎◌, List, length, drop, get_or, set, take, None, refl, sym, ◌∙◌, ap, subst, arith, inl, inr, ltb, get_or-set_other, get_or-set_same}
use Rattle.std.proofs.lemmas.Bool.{cases_eq, cond_both, ltb-false}
use Rattle.std.proofs.lemmas.List.{ext_get_or}
use Rattle.dbp_plan.specs.declared.plan.Plan.{Plan}
use Rattle.dbp_plan.specs.Lookups.{declared_task}
use Rattle.sync_meaning.specs.SomeMeaningRows.{states_at}
use Rattle.dbp_rules.specs.Moves as move
use Rattle.dbp_rules.specs.Lookups.{link, link_entry, no_slot, slot_at, task, task_entry, wired_task}
use Rattle.dbp_rules.specs.Rules as rule
use Rattle.dbp_rules.specs.Shapes.{EntryShape, IsShape, PlaceIn, TaskShape, heard_by, place_number, running_count}
use Rattle.dbp_rules.specs.Sound.{Sound}
use Rattle.dbp_rules.specs.SoundParts.{LinkSound, Stands, TaskSound, filled_by, last_shut, meant_value, place_of_read, put_by, read_of, shut_by, taken_by}
use Rattle.dbp_rules.specs.Work.{WorkWords}
use Rattle.dbp_rules.specs.declared.parts.LinkEntry.{LinkEntry}
use Rattle.dbp_rules.specs.declared.parts.Place.{Place}
use Rattle.dbp_rules.specs.declared.parts.Place.TheVariants as place
use Rattle.dbp_rules.specs.declared.parts.TaskEntry.{TaskEntry}
use Rattle.dbp_rules.specs.declared.state.Slot.{Slot}
use Rattle.dbp_rules.specs.declared.state.State.{State}
use Rattle.dbp_rules.specs.declared.state.TaskState.{TaskState}
use Rattle.dbp_rules.specs.declared.step.Broken.TheVariants as broken
use Rattle.dbp_rules.specs.declared.step.Step.TheVariants.{Put, Done, End}
use Rattle.dbp_rules.specs.declared.wiring.Wiring.{Wiring}
use Rattle.dbp_rules.proofs.StepPlaces.{at_step}
use Rattle.dbp_rules.proofs.Allowed.{next_none, or_else_none}
use Rattle.dbp_rules.proofs.Frames.{after_set}
use Rattle.dbp_rules.proofs.SoundFrame.{task_step}
use Rattle.dbp_rules.proofs.SoundGoes.{reader_on, writer_same}
use Rattle.dbp_rules.proofs.SoundLooks.{claims_next, stands_running}
use Rattle.dbp_rules.proofs.SoundOwn.{IsOwn}
use Rattle.dbp_rules.proofs.SoundStart.{take_front}
use Rattle.dbp_rules.proofs.StateKept.{step_kept}

-- a task that has heard its orders has heard its current slot
pub own_current : (p : Plan) (w : Wiring) (rows : ℕ → ℕ → List ℤ) (i : ℕ) (e : TaskEntry) (t : TaskState) → TaskSound p w rows i e t → TaskShape w (declared_task p i) i e.aimed t
    → heard_by (1 + length (wired_task w i).links) t.part.place ≡ 1 + length (wired_task w i).links → move.own_slot t.part ≡ e.current
own_current p w rows i e t ok shape all =
    let some : 0 < length t.part.heard.items = omega (arith, shape.heard) in
    ap (λ o. o.slot) (ok.heard some ∙ ok.aim)

-- the task with another slot at its own, at another place, and with other work
abbrev pub written : TaskState → Place → Slot → WorkWords → TaskState
written t q x work = record { words = record t.words { slots = set t.words.slots (move.own_slot t.part) x }; part = move.at_place t.part q; work = work }

-- what the slot and the work are to be at the place
pub record Writes (p : Plan) (w : Wiring) (rows : ℕ → ℕ → List ℤ) (i m aimed : ℕ) (q : Place) (x : Slot) (work : WorkWords) : Type 0 where
  pub whole : (l : ℕ) → x.stamp ≡ l + 1 → (l ≤ m + filled_by q) × (x.words ≡ rows i l)
  pub filled : aimed ≤ m + filled_by q → x.stamp ≡ aimed + 1
  pub filling : filled_by q < shut_by q → x.stamp ≡ 0
  pub put : (port : ℕ) → port < put_by (wired_task w i).ports q → get_or x.words port (pos 0) ≡ get_or (rows i (m + 1)) port (pos 0)
  pub states : take (length (declared_task p i).states) work.now ≡ states_at p.diagram p.samples p.batches rows i (declared_task p i) m
  pub taken : (n : ℕ) → n < taken_by (length (wired_task w i).reads) q → get_or work.now (place_of_read p w i n) (pos 0) ≡ meant_value p rows i (m + 1) (read_of p w i n)
  pub row : work.row ≡ rows i (m + shut_by q)
  pub later : 0 < shut_by q → work.later ≡ states_at p.diagram p.samples p.batches rows i (declared_task p i) (m + 1)

pub task_writes : (p : Plan) (w : Wiring) (rows : ℕ → ℕ → List ℤ) (i : ℕ) (e : TaskEntry) (t : TaskState) (q : Place) (x : Slot) (work : WorkWords) → TaskSound p w rows i e t → TaskShape w (declared_task p i) i e.aimed t → EntryShape (wired_task w i) e
    → running_count t.part.place ≡ 1 → filled_by t.part.place ≡ 0 → move.own_slot t.part ≡ e.current → Writes p w rows i t.part.ended e.aimed q x work → TaskSound p w rows i e (written t q x work)
task_writes p w rows i e t q x work ok shape fits busy from same new =
    let some : 0 < e.aimed = omega (arith, shape.gate, shape.aimed) in
    let inside : move.own_slot t.part < length t.words.slots = omega (arith, shape.slots.0, fits.current, same) in
    let here : get_or (set t.words.slots (move.own_slot t.part) x) e.current no_slot ≡ x = ap (λ (n : ℕ). get_or (set t.words.slots (move.own_slot t.part) x) n no_slot) (sym same) ∙ get_or-set_same t.words.slots (move.own_slot t.part) x no_slot inside in
    record {
      known = ok.known;
      ended = ok.ended;
      aimed = ok.aimed;
      aim = ok.aim;
      heard = ok.heard;
      whole = λ n l. after_set (λ m u. m < (wired_task w i).slots → u.stamp ≡ l + 1 → (l ≤ t.part.ended + filled_by q) × (u.words ≡ rows i l)) t.words.slots (move.own_slot t.part) x no_slot inside
          (λ _ stamp. new.whole l stamp)
          (λ m other below stamp. ((omega (arith, (ok.whole m l below stamp).0, from)), (ok.whole m l below stamp).1)) n;
      filled = λ all. rw here (new.filled all);
      filling = λ less. rw here (new.filling (omega arith));
      put = λ port below. rw here (new.put port below);
      kept = λ j below.
          let other : get_or e.kept j 0 ≢ move.own_slot t.part = λ also. ok.kept_apart some j below (also ∙ same) in
          rw (get_or-set_other t.words.slots (move.own_slot t.part) (get_or e.kept j 0) x no_slot other) (ok.kept j below);
      kept_apart = ok.kept_apart;
      states = new.states;
      taken = new.taken;
      row = new.row;
      later = new.later;
    }

-- a link out of the task
pub link_written : (p : Plan) (w : Wiring) (rows : ℕ → ℕ → List ℤ) (i k : ℕ) (c : LinkEntry) (v : TaskEntry) (t : TaskState) (e : TaskEntry) (reader : TaskState) (q : Place) (x : Slot) (work : WorkWords)
    → TaskSound p w rows i v t → TaskShape w (declared_task p i) i v.aimed t → EntryShape (wired_task w i) v
    → running_count t.part.place ≡ 1 → filled_by t.part.place ≡ 0 → move.own_slot t.part ≡ v.current
    → (Stands w k c e reader → c.slot ≡ v.current → c.number ≡ v.aimed)
    → (t.part.ended + filled_by q < v.aimed) ⊎ (x.stamp ≡ v.aimed + 1)
    → ((n : ℕ) → reader.part.place ≡ place.Take n → Stands w k c e reader)
    → LinkSound p w k c v t e reader → LinkSound p w k c v (written t q x work) e reader
link_written p w rows i k c v t e reader q x work ok shape fits busy from same now after reading old =
    let inside : move.own_slot t.part < length t.words.slots = omega (arith, shape.slots.0, fits.current, same) in
    let here : get_or (set t.words.slots (move.own_slot t.part) x) v.current no_slot ≡ x = ap (λ (n : ℕ). get_or (set t.words.slots (move.own_slot t.part) x) n no_slot) (sym same) ∙ get_or-set_same t.words.slots (move.own_slot t.part) x no_slot inside in
    let apart : c.slot ≢ v.current → get_or (set t.words.slots (move.own_slot t.part) x) c.slot no_slot ≡ get_or t.words.slots c.slot no_slot =
    λ other. get_or-set_other t.words.slots (move.own_slot t.part) c.slot x no_slot (λ also. other (also ∙ same)) in
    record {
      holds = λ stands. elim (cases_eq c.slot v.current) [
        | inl is ↦
            let number : c.number ≡ v.aimed = now stands is in
            elim after [
              | inl few ↦ inr (is, number, omega arith)
              | inr stamp ↦ inl (rw (is, here) (stamp ∙ ap (λ n. n + 1) (sym number)))
            ]
        | inr other ↦ elim (old.holds stands) [
          | inl stamp ↦ inl (rw (apart other) stamp)
          | inr to ↦ absurd (other to.0)
        ]
      ];
      current = λ stands is. inl (now stands is);
      heard = old.heard;
      ready = λ n at to. elim (cases_eq c.slot v.current) [
        | inl is ↦
            let number : c.number ≡ v.aimed = now (reading n at) is in
            let stamp : (slot_at t.words.slots v.current).stamp ≡ v.aimed + 1 = subst (λ (x : ℕ). (slot_at t.words.slots x).stamp ≡ v.aimed + 1) is (old.ready n at to ∙ ap (λ n. n + 1) number) in
            absurd (omega (arith, (ok.whole v.current v.aimed fits.current stamp).0, from, shape.gate, shape.aimed, busy))
        | inr other ↦ rw (apart other) (old.ready n at to)
      ];
    }

-- places after a put
pub put_running : (ports n : ℕ) → (filled_by (move.put_place ports n) ≡ 0) × (shut_by (move.put_place ports n) ≡ 1) × ((reads : ℕ) → taken_by reads (move.put_place ports n) ≡ reads)
put_running ports n = cond_both (ltb n ports) (place.Put n) place.Done (λ q. (filled_by q ≡ 0) × (shut_by q ≡ 1) × ((reads : ℕ) → taken_by reads q ≡ reads)) (λ _. (refl, refl, λ reads. refl)) (λ _. (refl, refl, λ reads. refl))

pub put_most : (ports n : ℕ) → put_by ports (move.put_place ports n) ≤ n
put_most ports n = cond_both (ltb n ports) (place.Put n) place.Done (λ q. put_by ports q ≤ n) (λ _. omega arith) (λ past. omega (arith, ltb-false n ports past))

pub put_takes : (ports n m : ℕ) → move.put_place ports n ≡ place.Take m → ⊥
put_takes ports n m = cond_both (ltb n ports) (place.Put n) place.Done (λ q. q ≡ place.Take m → ⊥) (λ _ same. absurd (cc (same))) (λ _ same. absurd (cc (same)))

module _ (p : Plan) (w : Wiring) (rows : ℕ → ℕ → List ℤ) (s : State) (own : IsOwn p w) (sound : Sound p w rows s) where
  there : (i : ℕ) → i < length p.diagram.tasks → i < length w.tasks
  there i named = omega (arith, named, own.whole.tasks)

  -- a step that writes the task's own slot
  pub write_sound : (i : ℕ) (q : Place) (x : Slot) (work : WorkWords) → i < length w.tasks → IsShape p w (rule.with_task s i (written (task s i) q x work)) → rule.blocker_refusal w.count w s i ≡ None
      → running_count (task s i).part.place ≡ 1 → filled_by (task s i).part.place ≡ 0 → heard_by (1 + length (wired_task w i).links) (task s i).part.place ≡ 1 + length (wired_task w i).links
      → ((task s i).part.ended + filled_by q < (task_entry s i).aimed) ⊎ (x.stamp ≡ (task_entry s i).aimed + 1)
      → Writes p w rows i (task s i).part.ended (task_entry s i).aimed q x work
      → ((n : ℕ) → q ≡ place.Take n → ⊥)
      → Sound p w rows (rule.with_task s i (written (task s i) q x work))
  write_sound i q x work below shape free busy from all after new no_take =
      let ok : TaskSound p w rows i (task_entry s i) (task s i) = sound.tasks i below in
      let fits : TaskShape w (declared_task p i) i (task_entry s i).aimed (task s i) = sound.shape.each_task i below in
      let entry : EntryShape (wired_task w i) (task_entry s i) = sound.shape.each_entry i below in
      let same : move.own_slot (task s i).part ≡ (task_entry s i).current = own_current p w rows i (task_entry s i) (task s i) ok fits all in
      task_step p w rows s own sound i (written (task s i) q x work) below shape refl
      (task_writes p w rows i (task_entry s i) (task s i) q x work ok fits entry busy from same new)
      (λ k inside is old. link_written p w rows i k (link_entry s k) (task_entry s i) (task s i) (task_entry s (link w k).reader) (task s (link w k).reader) q x work ok fits entry busy from same
      (subst (λ (v : ℕ). Stands w k (link_entry s k) (task_entry s (link w k).reader) (task s (link w k).reader) → (link_entry s k).slot ≡ (task_entry s v).current → (link_entry s k).number ≡ (task_entry s v).aimed) is
      (claims_next p w rows s own sound k inside (rw is busy) (rw is free)))
      after
      (λ n at. stands_running p w rows s own sound k inside (ap running_count at))
      old)
      (λ k inside is old. reader_on p w k (link_entry s k) (task_entry s (link w k).writer) (task s (link w k).writer) (task_entry s i) (task_entry s i) (task s i) (written (task s i) q x work) (omega arith) (omega arith) old.heard
      (λ n at _. absurd (no_take n at)) old)

  -- the row that a task has computed has a word for each port
  row_size : (i : ℕ) → i < length w.tasks → shut_by (task s i).part.place ≡ 1 → length (rows i ((task s i).part.ended + 1)) ≡ (wired_task w i).ports
  row_size i below shut =
      let row : (task s i).work.row ≡ rows i (last_shut (task s i)) = (sound.tasks i below).row in
      let number : last_shut (task s i) ≡ (task s i).part.ended + 1 = omega arith in
      sym (ap length (row ∙ ap (rows i) number)) ∙ (sound.shape.each_task i below).row ∙ sym (own.whole.each_task i below).ports

  pub put_sound : (i port : ℕ) → i < length p.diagram.tasks → rule.refusal w s (Put i port) ≡ None → Sound p w rows (rule.next p w s (Put i port))
  put_sound i port named free =
      let below : i < length w.tasks = there i named in
      let ok : TaskSound p w rows i (task_entry s i) (task s i) = sound.tasks i below in
      let fits : TaskShape w (declared_task p i) i (task_entry s i).aimed (task s i) = sound.shape.each_task i below in
      let both = or_else_none (rule.steps_next w s i 10 port) (rule.blocker_refusal w.count w s i) free in
      let first : (task s i).part.place ≡ place.Put (place_number (task s i).part.place) = at_step w s i 10 port (rule.blocker_refusal w.count w s i) free in
      let kind : (rule.place_kind (wired_task w i) (task s i).part.place).1 ≡ port = (next_none broken.TaskPlace (rule.place_kind (wired_task w i) (task s i).part.place) 10 port both.0).1 in
      let number : place_number (task s i).part.place ≡ port = sym (ap (λ (q : Place). (rule.place_kind (wired_task w i) q).1) first) ∙ kind in
      let at : (task s i).part.place ≡ place.Put port = first ∙ ap (λ (n : ℕ). place.Put n) number in
      let all : heard_by (1 + length (wired_task w i).links) (task s i).part.place ≡ 1 + length (wired_task w i).links = ap (heard_by (1 + length (wired_task w i).links)) at in
      let from : filled_by (task s i).part.place ≡ 0 = ap filled_by at in
      let shut : shut_by (task s i).part.place ≡ 1 = ap shut_by at in
      let busy : running_count (task s i).part.place ≡ 1 = ap running_count at in
      let puts : put_by (wired_task w i).ports (task s i).part.place ≡ port = ap (put_by (wired_task w i).ports) at in
      let taken : taken_by (length (wired_task w i).reads) (task s i).part.place ≡ length (wired_task w i).reads = ap (taken_by (length (wired_task w i).reads)) at in
      let same : move.own_slot (task s i).part ≡ (task_entry s i).current = own_current p w rows i (task_entry s i) (task s i) ok fits all in
      let slot : Slot = slot_at (task s i).words.slots (move.own_slot (task s i).part) in
      let empty : slot.stamp ≡ 0 = ap (λ (n : ℕ). (slot_at (task s i).words.slots n).stamp) same ∙ ok.filling (omega arith) in
      let word : ℤ = get_or (task s i).work.row port (pos 0) in
      let q : Place = move.put_place (wired_task w i).ports (port + 1) in
      let to = put_running (wired_task w i).ports (port + 1) in
      let inside : port < (wired_task w i).ports = subst (λ (x : Place). PlaceIn (wired_task w i) x) at fits.place in
      let size : length slot.words ≡ (wired_task w i).ports = fits.slots.1 (move.own_slot (task s i).part) (omega (arith, same, (sound.shape.each_entry i below).current)) in
      let old : (m : ℕ) → m < port → get_or slot.words m (pos 0) ≡ get_or (rows i ((task s i).part.ended + 1)) m (pos 0) = λ m less. ap (λ (n : ℕ). get_or (slot_at (task s i).words.slots n).words m (pos 0)) same ∙ ok.put m (omega arith) in
      let row : (task s i).work.row ≡ rows i ((task s i).part.ended + 1) = ok.row ∙ ap (rows i) (omega arith) in
      write_sound i (move.put_place (wired_task w i).ports (port + 1)) (record (slot_at (task s i).words.slots (move.own_slot (task s i).part)) { words = set (slot_at (task s i).words.slots (move.own_slot (task s i).part)).words port (get_or (task s i).work.row port (pos 0)) }) (task s i).work below
      (step_kept p w s sound.shape (Put i port) named free) both.1 busy from all (inl (omega (arith, to.0, fits.gate, fits.aimed)))
      (record {
        whole = λ l stamp. absurd (omega arith);
        filled = λ few. absurd (omega (arith, to.0, fits.gate, fits.aimed));
        filling = λ _. empty;
        put = λ m less. elim (cases_eq m port) [
          | inl is ↦ rw (is, get_or-set_same slot.words port word (pos 0) (omega arith)) (ap (λ (xs : List ℤ). get_or xs port (pos 0)) row)
          | inr other ↦ get_or-set_other slot.words port m word (pos 0) other ∙ old m (omega (arith, put_most (wired_task w i).ports (port + 1)))
        ];
        states = ok.states;
        taken = λ n less. ok.taken n (omega (arith, to.2 (length (wired_task w i).reads)));
        row = row ∙ ap (rows i) (omega (arith, to.1));
        later = λ _. ok.later (omega arith);
      })
      (λ n takes. put_takes (wired_task w i).ports (port + 1) n takes)

  pub done_sound : (i : ℕ) → i < length p.diagram.tasks → rule.refusal w s (Done i) ≡ None → Sound p w rows (rule.next p w s (Done i))
  done_sound i named free =
      let below : i < length w.tasks = there i named in
      let ok : TaskSound p w rows i (task_entry s i) (task s i) = sound.tasks i below in
      let fits : TaskShape w (declared_task p i) i (task_entry s i).aimed (task s i) = sound.shape.each_task i below in
      let both = or_else_none (rule.steps_next w s i 11 0) (rule.blocker_refusal w.count w s i) free in
      let at : (task s i).part.place ≡ place.Done = at_step w s i 11 0 (rule.blocker_refusal w.count w s i) free in
      let all : heard_by (1 + length (wired_task w i).links) (task s i).part.place ≡ 1 + length (wired_task w i).links = ap (heard_by (1 + length (wired_task w i).links)) at in
      let from : filled_by (task s i).part.place ≡ 0 = ap filled_by at in
      let shut : shut_by (task s i).part.place ≡ 1 = ap shut_by at in
      let busy : running_count (task s i).part.place ≡ 1 = ap running_count at in
      let puts : put_by (wired_task w i).ports (task s i).part.place ≡ (wired_task w i).ports = ap (put_by (wired_task w i).ports) at in
      let taken : taken_by (length (wired_task w i).reads) (task s i).part.place ≡ length (wired_task w i).reads = ap (taken_by (length (wired_task w i).reads)) at in
      let same : move.own_slot (task s i).part ≡ (task_entry s i).current = own_current p w rows i (task_entry s i) (task s i) ok fits all in
      let slot : Slot = slot_at (task s i).words.slots (move.own_slot (task s i).part) in
      let size : length slot.words ≡ (wired_task w i).ports = fits.slots.1 (move.own_slot (task s i).part) (omega (arith, same, (sound.shape.each_entry i below).current)) in
      let now : (task_entry s i).aimed ≡ (task s i).part.ended + 1 = omega (arith, fits.gate, fits.aimed, ok.known, ok.ended, ok.aimed) in
      let words : slot.words ≡ rows i ((task s i).part.ended + 1) = ext_get_or (pos 0) slot.words (rows i ((task s i).part.ended + 1)) (size ∙ sym (row_size i below shut)) (λ m less. ap (λ (n : ℕ). get_or (slot_at (task s i).words.slots n).words m (pos 0)) same ∙ ok.put m (omega arith)) in
      write_sound i place.End (record (slot_at (task s i).words.slots (move.own_slot (task s i).part)) { stamp = (task s i).part.ended + 2 }) (task s i).work below
      (step_kept p w s sound.shape (Done i) named free) both.1 busy from all (inr (omega arith))
      (record {
        whole = λ l stamp. let number : (task s i).part.ended + 1 ≡ l = omega arith in (omega arith, words ∙ ap (rows i) number);
        filled = λ few. omega arith;
        filling = λ less. absurd (omega arith);
        put = λ m less. ap (λ (xs : List ℤ). get_or xs m (pos 0)) words;
        states = ok.states;
        taken = λ n less. ok.taken n (omega arith);
        row = ok.row ∙ ap (rows i) (omega arith);
        later = λ _. ok.later (omega arith);
      })
      (λ n takes. absurd (cc (takes)))

  -- ---- end

  pub end_sound : (i : ℕ) → i < length p.diagram.tasks → rule.refusal w s (End i) ≡ None → Sound p w rows (rule.next p w s (End i))
  end_sound i named free =
      let below : i < length w.tasks = there i named in
      let ok : TaskSound p w rows i (task_entry s i) (task s i) = sound.tasks i below in
      let fits : TaskShape w (declared_task p i) i (task_entry s i).aimed (task s i) = sound.shape.each_task i below in
      let at : (task s i).part.place ≡ place.End = at_step w s i 12 0 (rule.blocker_refusal w.count w s i) free in
      let filled : filled_by (task s i).part.place ≡ 1 = ap filled_by at in
      let shut : shut_by (task s i).part.place ≡ 1 = ap shut_by at in
      let t : TaskState = record { words = move.with_ended (task s i).words ((task s i).part.ended + 1); part = move.after_end (task s i).part; work = move.after_advance (task s i).work } in
      task_step p w rows s own sound i (record { words = move.with_ended (task s i).words ((task s i).part.ended + 1); part = move.after_end (task s i).part; work = move.after_advance (task s i).work }) below
      (step_kept p w s sound.shape (End i) named free) refl
      (record {
        known = omega (arith, ok.known, ok.ended);
        ended = refl;
        aimed = ok.aimed;
        aim = ok.aim;
        heard = λ some. absurd (omega arith);
        whole = λ n l less stamp. ((omega (arith, (ok.whole n l less stamp).0)), (ok.whole n l less stamp).1);
        filled = λ few. ok.filled (omega arith);
        filling = λ less. absurd (omega arith);
        put = λ port less. absurd (omega arith);
        kept = ok.kept;
        kept_apart = ok.kept_apart;
        states = take_front (task s i).work.later (drop (length (task s i).work.later) (task s i).work.now) (length (declared_task p i).states) fits.later ∙ ok.later (omega arith);
        taken = λ n less. absurd (omega arith);
        row = ok.row ∙ ap (rows i) (omega arith);
        later = λ some. absurd (omega arith);
      })
      (λ k inside is old. writer_same p w k (link_entry s k) (task_entry s i) (task_entry s i) (task s i) (record { words = move.with_ended (task s i).words ((task s i).part.ended + 1); part = move.after_end (task s i).part; work = move.after_advance (task s i).work }) (task_entry s (link w k).reader) (task s (link w k).reader) refl refl refl (omega arith) (omega arith) old)
      (λ k inside is old. reader_on p w k (link_entry s k) (task_entry s (link w k).writer) (task s (link w k).writer) (task_entry s i) (task_entry s i) (task s i) (record { words = move.with_ended (task s i).words ((task s i).part.ended + 1); part = move.after_end (task s i).part; work = move.after_advance (task s i).work }) (omega arith) (omega (arith, ok.ended))
      (λ j less _. absurd (omega arith)) (λ n takes _. absurd (cc (takes))) old)
