-- Each step of a task keeps what the code needs of the task.
use Rattle.std.proofs.Common.{◌≡◌, ℕ, ℤ, ◌+◌, ◌<◌, ◌≤◌, List, [], ◌∷◌, ◌++◌, length, get_or, set, take, drop, refl, sym, ◌∙◌, ap, subst, arith, inl, inr, get_or-set_other, get_or-set_same, length-append, length-drop}
use Rattle.std.proofs.lemmas.Bool.{cases_eq, cases_lt, lt-ltb, le-ltb}
use Rattle.std.proofs.lemmas.List.{get_or_append_left, length-map, length-set, length-take-le}
use Rattle.std.proofs.Math.Seq.{get_or-append_seam}
use Rattle.dbp_plan.specs.declared.diagram.Task.{Task}
use Rattle.dbp_plan.specs.Closed.{IsClosedTask, let_base, place_count}
use Rattle.sync_meaning.specs.SomeMeaningEnvs.{env_from, env_from-is, states_after-are}
use Rattle.dbp_rules.specs.Moves as move
use Rattle.dbp_rules.specs.Lookups.{no_order, no_slot, slot_at, wired_task}
use Rattle.dbp_rules.specs.Shapes.{OrderFits, PlaceIn, SlotsFit, TaskShape, heard_by, running_count, slot_owner}
use Rattle.dbp_rules.specs.Work.{WorkWords}
use Rattle.dbp_rules.specs.declared.parts.Order.{Order}
use Rattle.dbp_rules.specs.declared.parts.Place.{Place}
use Rattle.dbp_rules.specs.declared.parts.Place.TheVariants as place
use Rattle.dbp_rules.specs.declared.state.Slot.{Slot}
use Rattle.dbp_rules.specs.declared.state.TaskState.{TaskState}
use Rattle.dbp_rules.specs.declared.state.TaskWords.{TaskWords}
use Rattle.dbp_rules.specs.declared.wiring.TaskWiring.{TaskWiring}
use Rattle.dbp_rules.specs.declared.wiring.Wiring.{Wiring}

-- a place that the task goes on to within its instance: as many orders are heard there
pub record GoesOn (t : TaskWiring) (orders : ℕ) (q : Place) : Type 0 where
  pub inside : PlaceIn t q
  pub busy : running_count q ≡ 1
  pub heard : heard_by (1 + length t.links) q ≡ orders

pub goes_to_read : (t : TaskWiring) (n : ℕ) → GoesOn t (1 + length t.links) (move.read_place (length t.reads) n)
goes_to_read t n = elim (cases_lt n (length t.reads)) [
  | inl more ↦ rw (lt-ltb n (length t.reads) more) (record { inside = more; busy = refl; heard = refl })
  | inr none ↦ rw (le-ltb n (length t.reads) none) (record { inside = omega arith; busy = refl; heard = refl })
]

pub goes_to_hear : (t : TaskWiring) (n : ℕ) → n ≤ length t.links → GoesOn t (n + 1) (move.hear_place t (n + 1))
goes_to_hear t n few = elim (cases_lt (n + 1) (1 + length t.links)) [
  | inl more ↦ rw (lt-ltb (n + 1) (1 + length t.links) more) (record { inside = omega arith; busy = refl; heard = refl })
  | inr none ↦
      let all : n + 1 ≡ 1 + length t.links = omega arith in
      rw (le-ltb (n + 1) (1 + length t.links) none, all) (goes_to_read t 0)
]

pub goes_to_put : (t : TaskWiring) (n : ℕ) → GoesOn t (1 + length t.links) (move.put_place t.ports n)
goes_to_put t n = elim (cases_lt n t.ports) [
  | inl more ↦ rw (lt-ltb n t.ports more) (record { inside = more; busy = refl; heard = refl })
  | inr none ↦ rw (le-ltb n t.ports none) (record { inside = omega arith; busy = refl; heard = refl })
]

-- words whose slots fit as before
pub stamped_fit : (t : TaskWiring) (w : TaskWords) (n stamp : ℕ) → SlotsFit t w.slots → n < t.slots → SlotsFit t (move.with_stamp w n stamp).slots
stamped_fit t w n stamp fit below =
    let inside : n < length w.slots = rw fit.0 below in (
      length-set w.slots n (record (slot_at w.slots n) { stamp = stamp }) ∙ fit.0,
      λ m. elim (cases_eq m n) [
        | inl same ↦ λ few. rw (same, get_or-set_same) (fit.1 n below)
        | inr other ↦ λ few. rw (get_or-set_other w.slots n m (record (slot_at w.slots n) { stamp = stamp }) no_slot other) (fit.1 m few)
      ],
    )

pub word_fits : (t : TaskWiring) (w : TaskWords) (n port : ℕ) (word : ℤ) → SlotsFit t w.slots → n < t.slots → SlotsFit t (move.with_word w n port word).slots
word_fits t w n port word fit below =
    let written : Slot = record (slot_at w.slots n) { words = set (slot_at w.slots n).words port word } in
    let inside : n < length w.slots = rw fit.0 below in (
      length-set w.slots n written ∙ fit.0,
      λ m. elim (cases_eq m n) [
        | inl same ↦ λ few. rw (same, get_or-set_same) (length-set (slot_at w.slots n).words port word ∙ fit.1 n below)
        | inr other ↦ λ few. rw (get_or-set_other w.slots n m written no_slot other) (fit.1 m few)
      ],
    )

-- the heard orders are in range with one more
pub orders_more : (w : Wiring) (i n : ℕ) (items : List Order) (o : Order) → length items ≡ n → ((m : ℕ) → m < length items → OrderFits (wired_task w (slot_owner w i m)) (get_or items m no_order)) → OrderFits (wired_task w (slot_owner w i n)) o
    → (m : ℕ) → m < length (items ++ o ∷ []) → OrderFits (wired_task w (slot_owner w i m)) (get_or (items ++ o ∷ []) m no_order)
orders_more w i n items o size each fits m below = elim (cases_lt m n) [
  | inl before ↦ rw (get_or_append_left items (o ∷ []) no_order m (omega (arith, size))) (each m (omega (arith, size)))
  | inr last_ ↦
      let same : m ≡ n = omega (arith, size, length-append items (o ∷ [])) in
      rw same (subst (λ (k : ℕ). OrderFits (wired_task w (slot_owner w i n)) (get_or (items ++ o ∷ []) k no_order)) size (rw (get_or-append_seam items o [] no_order) fits))
]

module _ (w : Wiring) (d : Task) (i last : ℕ) (s : TaskState) (ok : TaskShape w d i last s) where
  -- the task goes on within its instance, with the same orders, words that fit and work that fits
  pub goes_on : (q : Place) (words : TaskWords) (work : WorkWords) → running_count s.part.place ≡ 1 → heard_by (1 + length (wired_task w i).links) s.part.place ≡ 1 + length (wired_task w i).links → GoesOn (wired_task w i) (1 + length (wired_task w i).links) q
      → words.gate ≡ s.words.gate → words.aim ≡ s.words.aim → SlotsFit (wired_task w i) words.slots → length work.now ≡ place_count d → length work.later ≡ length d.states → length work.row ≡ length d.outs
      → TaskShape w d i last (record { words = words; part = move.at_place s.part q; work = work })
  goes_on q words work busy all goes gate aim fit now later row = record {
    gate = rw (gate, goes.busy) (omega (arith, ok.gate, busy));
    aimed = rw gate ok.aimed;
    aim = rw aim ok.aim;
    slots = fit;
    place = goes.inside;
    heard = ok.heard ∙ all ∙ sym goes.heard;
    each_heard = ok.each_heard;
    now = now;
    later = later;
    row = row;
  }

  pub start_kept : s.part.place ≡ place.Idle → s.words.gate ≡ s.part.ended + 1 → TaskShape w d i last (record s { part = move.at_place s.part (place.Hear 0) })
  start_kept at open_ = record {
    gate = omega (arith, open_);
    aimed = ok.aimed;
    aim = ok.aim;
    slots = ok.slots;
    place = omega arith;
    heard = ok.heard ∙ ap (heard_by (1 + length (wired_task w i).links)) at;
    each_heard = ok.each_heard;
    now = ok.now;
    later = ok.later;
    row = ok.row;
  }

  pub hear_kept : (n : ℕ) (o : Order) → s.part.place ≡ place.Hear n → OrderFits (wired_task w (slot_owner w i n)) o → TaskShape w d i last (record s { part = move.after_hear (wired_task w i) s.part n o })
  hear_kept n o at fits =
      let inside : PlaceIn (wired_task w i) (place.Hear n) = subst (λ (q : Place). PlaceIn (wired_task w i) q) at ok.place in
      let few : n ≤ length (wired_task w i).links = omega (arith, inside) in
      let size : length s.part.heard.items ≡ n = ok.heard ∙ ap (heard_by (1 + length (wired_task w i).links)) at in
      let busy : running_count s.part.place ≡ 1 = ap running_count at in
      let goes : GoesOn (wired_task w i) (n + 1) (move.hear_place (wired_task w i) (n + 1)) = goes_to_hear (wired_task w i) n few in
      record {
        gate = omega (arith, ok.gate, busy, goes.busy);
        aimed = ok.aimed;
        aim = ok.aim;
        slots = ok.slots;
        place = goes.inside;
        heard = length-append s.part.heard.items (o ∷ []) ∙ omega (arith, size, goes.heard);
        each_heard = orders_more w i n s.part.heard.items o size ok.each_heard fits;
        now = ok.now;
        later = ok.later;
        row = ok.row;
      }

  pub end_kept : s.part.place ≡ place.End → TaskShape w d i last (record { words = move.with_ended s.words (s.part.ended + 1); part = move.after_end s.part; work = move.after_advance s.work })
  end_kept at =
      let busy : running_count s.part.place ≡ 1 = ap running_count at in
      let shorter : length s.work.later ≤ length s.work.now = omega (arith, ok.now, ok.later) in
      record {
        gate = omega (arith, ok.gate);
        aimed = ok.aimed;
        aim = ok.aim;
        slots = ok.slots;
        place = omega arith;
        heard = refl;
        each_heard = λ n below. absurd (omega arith);
        now = length-append s.work.later (drop (length s.work.later) s.work.now) ∙ omega (arith, length-drop (length s.work.later) s.work.now, ok.now);
        later = ok.later;
        row = ok.row;
      }

-- the work after an instance has computed
pub record WorkFits (d : Task) (work : WorkWords) : Type 0 where
  pub now : length work.now ≡ place_count d
  pub later : length work.later ≡ length d.states
  pub row : length work.row ≡ length d.outs

pub computed_fits : (d : Task) (inputs events links : ℕ) (given : List ℤ) → IsClosedTask inputs events links d → length given ≡ let_base d → WorkFits d (move.work_words_of d given)
computed_fits d inputs events links given closed size =
    let env = env_from-is d given closed.order size in
    let states : length (take (length d.states) (env_from d given)) ≡ length d.states = length-take-le (length d.states) (env_from d given) (omega (arith, env.size)) in
    record {
      now = env.size;
      later = (states_after-are d (env_from d given) (take (length d.states) (env_from d given)) closed.one_next closed.next_states states).size ∙ states;
      row = length-map d.outs _;
    }
