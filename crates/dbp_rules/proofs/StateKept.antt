-- Each allowed step keeps what the code needs of the state.
use Rattle.std.proofs.Common.{◌≡◌, ℕ, ℤ, ◌+◌, ◌-◌, ◌<◌, ◌≤◌, List, ◌∷◌, ◌++◌, length, take, drop, Option, Some, None, Result, refl, sym, ◌∙◌, ap, subst, arith, inl, inr, length-append, length-drop}
use Rattle.std.specs.Prelude.{slice_get}
use Rattle.std.proofs.lemmas.Bool.{cases_Bool, eqb-true}
use Rattle.std.proofs.lemmas.List.{length-map, length-set, length-take-le}
use Rattle.dbp_plan.specs.declared.diagram.Task.{Task}
use Rattle.dbp_plan.specs.declared.plan.Plan.{Plan}
use Rattle.dbp_plan.specs.declared.limits.TheConstants.{MAX_OCCURRENCES}
use Rattle.dbp_plan.specs.Closed.{let_base}
use Rattle.dbp_plan.specs.Lookups.{declared_task}
use Rattle.release_list.specs.Schedule.{aims}
use Rattle.release_list.specs.declared.release.Release.TheVariants as release
use Rattle.dbp_rules.specs.Moves as move
use Rattle.dbp_rules.specs.Lookups.{link, task, task_entry, wired_task}
use Rattle.dbp_rules.specs.Rules as rule
use Rattle.dbp_rules.specs.Shapes.{EntryShape, IsShape, IsTaskWired, TaskShape, heard_by, running_count}
use Rattle.dbp_rules.specs.Work.{WorkWords}
use Rattle.dbp_rules.specs.declared.parts.Place.TheVariants as place
use Rattle.dbp_rules.specs.declared.state.State.{State}
use Rattle.dbp_rules.specs.declared.step.Broken.TheVariants as broken
use Rattle.dbp_rules.specs.declared.step.Heard.{Heard}
use Rattle.dbp_rules.specs.declared.step.Illegal.{Illegal}
use Rattle.dbp_rules.specs.declared.step.Step.{Step}
use Rattle.dbp_rules.specs.declared.step.Step.TheVariants.{Seen, Aim, Claim, OpenGate, Start, Hear, Look, Take, Shut, Put, Done, End}
use Rattle.dbp_rules.specs.declared.wiring.Wiring.{Wiring}
use Rattle.dbp_rules.proofs.ShapeFacts.{aimed_few, own_fits, place_in, word_ordered}
use Rattle.dbp_rules.proofs.StepPlaces.{at_step}
use Rattle.dbp_rules.proofs.Aims.{IsAllowedAim, aim_allowed}
use Rattle.dbp_rules.proofs.Allowed.{at_claim, at_open, next_none}
use Rattle.dbp_rules.proofs.Counted.{aims_claim, aims_open, aims_other, aims_same}
use Rattle.dbp_rules.proofs.Frames.{aim_changes, claim_changes, entry_changes, further_on, task_changes}
use Rattle.dbp_rules.proofs.Keeping.{claimed_fits, kept_on}
use Rattle.dbp_rules.proofs.TaskKept.{WorkFits, computed_fits, end_kept, goes_on, goes_to_put, goes_to_read, hear_kept, stamped_fit, start_kept, word_fits}

module _ (p : Plan) (w : Wiring) (s : State) (shape : IsShape p w s) where
  seen_kept : (i : ℕ) → i < length w.tasks → IsShape p w (rule.next p w s (Seen i))
  seen_kept i below =
      let e : EntryShape (wired_task w i) (task_entry s i) = shape.each_entry i below in
      entry_changes p w s i (move.after_seen (task_entry s i) (task s i).words.ended) shape below refl (record { current = e.current; kept = e.kept; kept_slots = e.kept_slots })

  aim_kept : (i slot : ℕ) → i < length w.tasks → rule.refusal w s (Aim i slot) ≡ None → IsShape p w (rule.next p w s (Aim i slot))
  aim_kept i slot below free =
      let a : IsAllowedAim w s.releaser i slot = aim_allowed w s.releaser i slot free in
      let here : slice_get w.releases s.releaser.place ≡ Some (release.Aim i) = a.here in
      let fits : slot < (wired_task w i).slots = a.below in
      let e : EntryShape (wired_task w i) (task_entry s i) = shape.each_entry i below in
      let ok : TaskShape w (declared_task p i) i (task_entry s i).aimed (task s i) = shape.each_task i below in
      let t : IsTaskWired p w i (wired_task w i) = shape.wiring.each_task i below in
      let more : aims w.releases (s.releaser.place + 1) i ≡ aims w.releases s.releaser.place i + 1 = aims_same w.releases s.releaser.place i here in
      aim_changes p w s i (move.after_aim (task_entry s i) slot) (record (task s i) { words = move.words_after_aim (task s i).words (move.after_aim (task_entry s i) slot) }) shape below
      (omega (arith, shape.aimed i below, more))
      (λ j other. aims_other w.releases s.releaser.place i j here other)
      (record {
        current = fits;
        kept = length-take-le (length (task_entry s i).kept) ((task_entry s i).current ∷ (task_entry s i).kept) (omega arith) ∙ e.kept;
        kept_slots = λ j few. kept_on (wired_task w i).slots (wired_task w i).kept (task_entry s i).current j (task_entry s i).kept e.kept e.current e.kept_slots few;
      })
      (record {
        gate = ok.gate;
        aimed = omega (arith, ok.aimed);
        aim = (fits, omega (arith, shape.aimed i below, more, shape.wiring.releases.aims_times (s.releaser.place + 1) i, t.few, ap length t.times));
        slots = ok.slots;
        place = ok.place;
        heard = ok.heard;
        each_heard = ok.each_heard;
        now = ok.now;
        later = ok.later;
        row = ok.row;
      })

  claim_kept : (k : ℕ) → k < length w.links → rule.refusal w s (Claim k) ≡ None → IsShape p w (rule.next p w s (Claim k))
  claim_kept k below free =
      let next = next_none broken.Place (rule.release_kind (slice_get w.releases s.releaser.place)) 3 k free in
      let here : slice_get w.releases s.releaser.place ≡ Some (release.Claim k) = at_claim (slice_get w.releases s.releaser.place) k next.0 next.1 in
      let writer : (link w k).writer < length w.tasks = shape.wiring.writer k below in
      let e : EntryShape (wired_task w (link w k).writer) (task_entry s (link w k).writer) = shape.each_entry (link w k).writer writer in
      let slot : move.claimed_slot (link w k).delay (task_entry s (link w k).writer).current (task_entry s (link w k).writer).kept < (wired_task w (link w k).writer).slots =
      claimed_fits (wired_task w (link w k).writer).slots (wired_task w (link w k).writer).kept (link w k).delay (task_entry s (link w k).writer) e.current e.kept_slots (shape.wiring.delay k below) in
      let number : (task_entry s (link w k).writer).aimed - (link w k).delay ≤ MAX_OCCURRENCES = omega (arith, aimed_few p w s shape (link w k).writer writer) in
      let c = move.claim_entry (link w k).delay (task_entry s (link w k).writer) (task_entry s (link w k).reader) in
      further_on p w (rule.with_claim s k c) (claim_changes p w s k c shape below (record { claim = (slot, number); order = (slot, number) })) (λ j. aims_claim w.releases s.releaser.place k j here)

  open_kept : (i : ℕ) → i < length w.tasks → rule.refusal w s (OpenGate i) ≡ None → IsShape p w (rule.next p w s (OpenGate i))
  open_kept i below free =
      let next = next_none broken.Place (rule.release_kind (slice_get w.releases s.releaser.place)) 4 i free in
      let here : slice_get w.releases s.releaser.place ≡ Some (release.OpenGate i) = at_open (slice_get w.releases s.releaser.place) i next.0 next.1 in
      let ok : TaskShape w (declared_task p i) i (task_entry s i).aimed (task s i) = shape.each_task i below in
      let t = record (task s i) { words = move.words_after_open (task s i).words (task_entry s i).aimed } in
      further_on p w (rule.with_task s i t) (task_changes p w s i t shape below (record {
        gate = omega (arith, ok.gate, ok.aimed);
        aimed = omega arith;
        aim = ok.aim;
        slots = ok.slots;
        place = ok.place;
        heard = ok.heard;
        each_heard = ok.each_heard;
        now = ok.now;
        later = ok.later;
        row = ok.row;
      })) (λ j. aims_open w.releases s.releaser.place i j here)

  start_on : (i : ℕ) → i < length w.tasks → (task s i).part.place ≡ place.Idle → IsShape p w (rule.next p w s (Start i))
  start_on i below at =
      let ok : TaskShape w (declared_task p i) i (task_entry s i).aimed (task s i) = shape.each_task i below in
      elim (cases_Bool (rule.is_open s i)) [
        | inl is ↦
            let gate : (task s i).words.gate ≡ (task s i).part.ended + 1 = eqb-true (task s i).words.gate ((task s i).part.ended + 1) is in
            rw is (task_changes p w s i (record (task s i) { part = move.at_place (task s i).part (place.Hear 0) }) shape below (start_kept w (declared_task p i) i (task_entry s i).aimed (task s i) ok at gate))
        | inr isnt ↦ rw isnt (task_changes p w s i (task s i) shape below ok)
      ]

  hear_on : (i n : ℕ) → i < length w.tasks → (task s i).part.place ≡ place.Hear n → IsShape p w (rule.next p w s (Hear i))
  hear_on i n below at =
      let ok : TaskShape w (declared_task p i) i (task_entry s i).aimed (task s i) = shape.each_task i below in
      let few : n ≤ length (wired_task w i).links = omega (arith, place_in p w s shape i (place.Hear n) below at) in
      rw at (task_changes p w s i (record (task s i) { part = move.after_hear (wired_task w i) (task s i).part n (rule.order_word w s i n) }) shape below (hear_kept w (declared_task p i) i (task_entry s i).aimed (task s i) ok n (rule.order_word w s i n) at (word_ordered p w s shape i n below few)))

  look_on : (i r n : ℕ) → i < length w.tasks → (task s i).part.place ≡ place.Look n → IsShape p w (rule.next p w s (Look i r))
  look_on i r n below at =
      let ok : TaskShape w (declared_task p i) i (task_entry s i).aimed (task s i) = shape.each_task i below in
      let few : n < length (wired_task w i).reads = place_in p w s shape i (place.Look n) below at in
      elim (cases_Bool (rule.is_ready w s i n)) [
        | inl is ↦ rw (at, is) (task_changes p w s i (record (task s i) { part = move.at_place (task s i).part (place.Take n) }) shape below
            (goes_on w (declared_task p i) i (task_entry s i).aimed (task s i) ok (place.Take n) (task s i).words (task s i).work (ap running_count at) (ap (heard_by (1 + length (wired_task w i).links)) at) (record { inside = few; busy = refl; heard = refl }) refl refl ok.slots ok.now ok.later ok.row))
        | inr isnt ↦ rw (at, isnt) (task_changes p w s i (task s i) shape below ok)
      ]

  take_on : (i r n : ℕ) → i < length w.tasks → (task s i).part.place ≡ place.Take n → IsShape p w (rule.next p w s (Take i r))
  take_on i r n below at =
      let ok : TaskShape w (declared_task p i) i (task_entry s i).aimed (task s i) = shape.each_task i below in
      let work : WorkWords = move.with_read (declared_task p i) (task s i).work r (rule.read_value w s i n) in
      rw at (task_changes p w s i (record { words = (task s i).words; part = move.after_take (wired_task w i) (task s i).part n; work = work }) shape below
      (goes_on w (declared_task p i) i (task_entry s i).aimed (task s i) ok (move.read_place (length (wired_task w i).reads) (n + 1)) (task s i).words work (ap running_count at) (ap (heard_by (1 + length (wired_task w i).links)) at)
      (goes_to_read (wired_task w i) (n + 1)) refl refl ok.slots (length-set (task s i).work.now (length (declared_task p i).states + length (declared_task p i).senses + r) (rule.read_value w s i n) ∙ ok.now) ok.later ok.row))

  shut_on : (i : ℕ) → i < length w.tasks → (task s i).part.place ≡ place.Shut → IsShape p w (rule.next p w s (Shut i))
  shut_on i below at =
      let ok : TaskShape w (declared_task p i) i (task_entry s i).aimed (task s i) = shape.each_task i below in
      let t : IsTaskWired p w i (wired_task w i) = shape.wiring.each_task i below in
      let all : heard_by (1 + length (wired_task w i).links) (task s i).part.place ≡ 1 + length (wired_task w i).links = ap (heard_by (1 + length (wired_task w i).links)) at in
      let d : Task = declared_task p i in
      let senses : List ℤ = rule.sense_values p w s i in
      let count : length senses ≡ length d.senses = length-map d.senses _ in
      let room : length (take (let_base d) (move.with_senses d senses (task s i).work).now) ≡ let_base d =
      length-take-le (let_base d) (move.with_senses d senses (task s i).work).now
      (omega (arith, ok.now, count, length-append (take (length d.states) (task s i).work.now) (senses ++ drop (length d.states + length senses) (task s i).work.now), length-append senses (drop (length d.states + length senses) (task s i).work.now), length-take-le (length d.states) (task s i).work.now (omega (arith, ok.now)), length-drop (length d.states + length senses) (task s i).work.now)) in
      let fits : WorkFits d (move.after_compute d senses (task s i).work) = computed_fits d (length p.diagram.inputs) (length p.diagram.events) (length p.diagram.links) (take (let_base d) (move.with_senses d senses (task s i).work).now) t.closed room in
      task_changes p w s i (record { words = move.with_stamp (task s i).words (move.own_slot (task s i).part) 0; part = move.at_place (task s i).part (place.Put 0); work = move.after_compute d senses (task s i).work }) shape below
      (goes_on w d i (task_entry s i).aimed (task s i) ok (place.Put 0) (move.with_stamp (task s i).words (move.own_slot (task s i).part) 0) (move.after_compute d senses (task s i).work) (ap running_count at) all
      (record { inside = t.some_port; busy = refl; heard = refl }) refl refl (stamped_fit (wired_task w i) (task s i).words (move.own_slot (task s i).part) 0 ok.slots (own_fits p w s shape i (task s i).part.place below refl all)) fits.now fits.later fits.row)

  put_on : (i port n : ℕ) → i < length w.tasks → (task s i).part.place ≡ place.Put n → IsShape p w (rule.next p w s (Put i port))
  put_on i port n below at =
      let ok : TaskShape w (declared_task p i) i (task_entry s i).aimed (task s i) = shape.each_task i below in
      let all : heard_by (1 + length (wired_task w i).links) (task s i).part.place ≡ 1 + length (wired_task w i).links = ap (heard_by (1 + length (wired_task w i).links)) at in
      let words = move.with_word (task s i).words (move.own_slot (task s i).part) port _ in
      task_changes p w s i _ shape below
      (goes_on w (declared_task p i) i (task_entry s i).aimed (task s i) ok (move.put_place (wired_task w i).ports (port + 1)) words (task s i).work (ap running_count at) all
      (goes_to_put (wired_task w i) (port + 1)) refl refl (word_fits (wired_task w i) (task s i).words (move.own_slot (task s i).part) port _ ok.slots (own_fits p w s shape i (task s i).part.place below refl all)) ok.now ok.later ok.row)

  done_on : (i : ℕ) → i < length w.tasks → (task s i).part.place ≡ place.Done → IsShape p w (rule.next p w s (Done i))
  done_on i below at =
      let ok : TaskShape w (declared_task p i) i (task_entry s i).aimed (task s i) = shape.each_task i below in
      let all : heard_by (1 + length (wired_task w i).links) (task s i).part.place ≡ 1 + length (wired_task w i).links = ap (heard_by (1 + length (wired_task w i).links)) at in
      let stamp : ℕ = (task s i).part.ended + 2 in
      task_changes p w s i (record { words = move.with_stamp (task s i).words (move.own_slot (task s i).part) stamp; part = move.at_place (task s i).part place.End; work = (task s i).work }) shape below
      (goes_on w (declared_task p i) i (task_entry s i).aimed (task s i) ok place.End (move.with_stamp (task s i).words (move.own_slot (task s i).part) stamp) (task s i).work (ap running_count at) all
      (record { inside = omega arith; busy = refl; heard = refl }) refl refl (stamped_fit (wired_task w i) (task s i).words (move.own_slot (task s i).part) stamp ok.slots (own_fits p w s shape i (task s i).part.place below refl all)) ok.now ok.later ok.row)

  end_on : (i : ℕ) → i < length w.tasks → (task s i).part.place ≡ place.End → IsShape p w (rule.next p w s (End i))
  end_on i below at =
      let ok : TaskShape w (declared_task p i) i (task_entry s i).aimed (task s i) = shape.each_task i below in
      task_changes p w s i _ shape below (end_kept w (declared_task p i) i (task_entry s i).aimed (task s i) ok at)

  -- a task of the diagram is one of the wiring
  there : (i : ℕ) → i < length p.diagram.tasks → i < length w.tasks
  there i below = rw shape.wiring.tasks below

  pub step_kept : (e : Step) → rule.IsNamed p.diagram e → rule.refusal w s e ≡ None → IsShape p w (rule.next p w s e)
  step_kept (Seen i) named free = seen_kept i (there i named)
  step_kept (Aim i slot) named free = aim_kept i slot (there i named) free
  step_kept (Claim k) named free = claim_kept k (rw shape.wiring.links named) free
  step_kept (OpenGate i) named free = open_kept i (there i named) free
  step_kept (Start i) named free = start_on i (there i named) (at_step w s i 5 0 _ free)
  step_kept (Hear i) named free = hear_on i _ (there i named) (at_step w s i 6 0 _ free)
  step_kept (Look i r) named free = look_on i r _ (there i named) (at_step w s i 7 r _ free)
  step_kept (Take i r) named free = take_on i r _ (there i named) (at_step w s i 8 r _ free)
  step_kept (Shut i) named free = shut_on i (there i named) (at_step w s i 9 0 _ free)
  step_kept (Put i port) named free = put_on i port _ (there i named) (at_step w s i 10 port _ free)
  step_kept (Done i) named free = done_on i (there i named) (at_step w s i 11 0 _ free)
  step_kept (End i) named free = end_on i (there i named) (at_step w s i 12 0 _ free)

-- so does a step that is asked for, allowed or not
answers_kept : (why : Option Illegal) (p : Plan) (w : Wiring) (s new : State) (e : Step) (result : Result Heard Illegal) → IsShape p w s → (why ≡ None → IsShape p w (rule.next p w s e)) → rule.IsAnswer why p w s e result new → IsShape p w new
answers_kept None p w s new e result shape go is = subst (λ (x : State). IsShape p w x) (sym is.1) (go refl)
answers_kept (Some x) p w s new e result shape go is = subst (λ (x : State). IsShape p w x) (sym is.1) shape

pub asked_kept : (p : Plan) (w : Wiring) (s new : State) (e : Step) (result : Result Heard Illegal) → IsShape p w s → rule.IsNamed p.diagram e → rule.IsStep p w s e result new → IsShape p w new
asked_kept p w s new e result shape named is = answers_kept (rule.refusal w s e) p w s new e result shape (λ free. step_kept p w s shape e named free) is
