-- Each step changes no word but the one that it stores, and no other party's part.
use Rattle.std.proofs.Common.{◌≡◌, ◌≢◌, ℕ, ℤ, pos, ◌+◌, ◌<◌, List, length, get_or, set, Option, Some, None, refl, sym, ◌∙◌, ap, arith, inl, inr, get_or-set_other, get_or-set_same}
use Rattle.std.proofs.lemmas.Bool.{cases_eq}
use Rattle.dbp_slots.specs.TableWords.{TableWord, gate, ended, aim, claim, stamp, word}
use Rattle.dbp_plan.specs.declared.plan.Plan.{Plan}
use Rattle.dbp_plan.specs.Lookups.{declared_task}
use Rattle.dbp_rules.specs.Moves as move
use Rattle.dbp_rules.specs.Lookups.{link, no_order, no_slot, no_task, slot_at, task, task_entry, wired_task}
use Rattle.dbp_rules.specs.Rules as rule
use Rattle.dbp_rules.specs.Shapes.{IsShape, TaskShape, heard_by, place_number}
use Rattle.dbp_rules.specs.SharedWords.{KeepsOtherParts, KeepsOtherWords, made_by, order_value, signed_value, stored_by, value_in}
use Rattle.dbp_rules.specs.Work.{WorkWords}
use Rattle.dbp_rules.specs.declared.parts.Order.{Order}
use Rattle.dbp_rules.specs.declared.parts.Place.TheVariants as place
use Rattle.dbp_rules.specs.declared.parts.TaskEntry.{TaskEntry}
use Rattle.dbp_rules.specs.declared.parts.TaskPart.{TaskPart}
use Rattle.dbp_rules.specs.declared.state.Slot.{Slot}
use Rattle.dbp_rules.specs.declared.state.State.{State}
use Rattle.dbp_rules.specs.declared.state.TaskState.{TaskState}
use Rattle.dbp_rules.specs.declared.state.TaskWords.{TaskWords}
use Rattle.dbp_rules.specs.declared.step.Broken.TheVariants as broken
use Rattle.dbp_rules.specs.declared.step.Illegal.{Illegal}
use Rattle.dbp_rules.specs.declared.step.Step.{Step}
use Rattle.dbp_rules.specs.declared.step.Step.TheVariants.{Seen, Aim, Claim, OpenGate, Start, Hear, Look, Take, Shut, Put, Done, End}
use Rattle.dbp_rules.specs.declared.wiring.Wiring.{Wiring}
use Rattle.dbp_rules.proofs.Allowed.{at_next, or_else_none, place_of}

-- ---- a state in which one task was replaced

-- what is the same of the task is the same of each task
pub of_each : {X : Type 0} (f : TaskState → X) (s : State) (i j : ℕ) (t : TaskState) → i < length s.tasks → (i ≡ j → f t ≡ f (task s i)) → f (task (rule.with_task s i t) j) ≡ f (task s j)
of_each f s i j t inside same = elim (cases_eq j i) [
  | inl is ↦
      let here : get_or (set s.tasks i t) j no_task ≡ t = ap (λ (k : ℕ). get_or (set s.tasks i t) k no_task) is ∙ get_or-set_same s.tasks i t no_task inside in
      ap f here ∙ same (sym is) ∙ ap (λ (k : ℕ). f (get_or s.tasks k no_task)) (sym is)
  | inr other ↦ ap f (get_or-set_other s.tasks i j t no_task other)
]

-- the word of a task's words; that of a link is none of them
abbrev own_value : TaskWords → TableWord → ℕ
own_value t (gate i) = t.gate
own_value t (ended i) = t.ended
own_value t (aim i) = order_value t.aim
own_value t (claim k) = 0
own_value t (stamp i n) = (slot_at t.slots n).stamp
own_value t (word i n p) = signed_value (get_or (slot_at t.slots n).words p (pos 0))

abbrev owner : TableWord → ℕ
owner (gate i) = i
owner (ended i) = i
owner (aim i) = i
owner (claim k) = 0
owner (stamp i n) = i
owner (word i n p) = i

value_task : (s : State) (i : ℕ) (t : TaskState) (q : TableWord) → i < length s.tasks → (i ≡ owner q → own_value t.words q ≡ own_value (task s i).words q) → value_in (rule.with_task s i t) q ≡ value_in s q
value_task s i t (gate j) inside same = of_each (λ x. x.words.gate) s i j t inside same
value_task s i t (ended j) inside same = of_each (λ x. x.words.ended) s i j t inside same
value_task s i t (aim j) inside same = of_each (λ x. order_value x.words.aim) s i j t inside same
value_task s i t (claim k) inside same = refl
value_task s i t (stamp j n) inside same = of_each (λ x. (slot_at x.words.slots n).stamp) s i j t inside same
value_task s i t (word j n p) inside same = of_each (λ x. signed_value (get_or (slot_at x.words.slots n).words p (pos 0))) s i j t inside same

-- states with the same tasks and orders have the same words
value_same : (a b : State) (q : TableWord) → a.tasks ≡ b.tasks → a.orders ≡ b.orders → value_in a q ≡ value_in b q
value_same a b (gate j) tasks orders = ap (λ (ts : List TaskState). (get_or ts j no_task).words.gate) tasks
value_same a b (ended j) tasks orders = ap (λ (ts : List TaskState). (get_or ts j no_task).words.ended) tasks
value_same a b (aim j) tasks orders = ap (λ (ts : List TaskState). order_value (get_or ts j no_task).words.aim) tasks
value_same a b (claim k) tasks orders = ap (λ (os : List Order). order_value (get_or os k no_order)) orders
value_same a b (stamp j n) tasks orders = ap (λ (ts : List TaskState). (slot_at (get_or ts j no_task).words.slots n).stamp) tasks
value_same a b (word j n p) tasks orders = ap (λ (ts : List TaskState). signed_value (get_or (slot_at (get_or ts j no_task).words.slots n).words p (pos 0))) tasks

-- a task whose words stay
words_stay : (s : State) (i : ℕ) (part : TaskPart) (work : WorkWords) (q : TableWord) → i < length s.tasks → value_in (rule.with_task s i (record { words = (task s i).words; part = part; work = work })) q ≡ value_in s q
words_stay s i part work q inside = value_task s i (record { words = (task s i).words; part = part; work = work }) q inside (λ _. refl)

-- ---- what each step that stores leaves of the task's words

but_aim : (t : TaskWords) (e : TaskEntry) (i : ℕ) (q : TableWord) → Some (aim i) ≢ Some q → i ≡ owner q → own_value (move.words_after_aim t e) q ≡ own_value t q
but_aim t e i (gate j) other is = refl
but_aim t e i (ended j) other is = refl
but_aim t e i (aim j) other is = absurd (other (ap (λ (n : ℕ). Some (aim n)) is))
but_aim t e i (claim k) other is = refl
but_aim t e i (stamp j n) other is = refl
but_aim t e i (word j n p) other is = refl

but_gate : (t : TaskWords) (m i : ℕ) (q : TableWord) → Some (gate i) ≢ Some q → i ≡ owner q → own_value (move.words_after_open t m) q ≡ own_value t q
but_gate t m i (gate j) other is = absurd (other (ap (λ (n : ℕ). Some (gate n)) is))
but_gate t m i (ended j) other is = refl
but_gate t m i (aim j) other is = refl
but_gate t m i (claim k) other is = refl
but_gate t m i (stamp j n) other is = refl
but_gate t m i (word j n p) other is = refl

but_ended : (t : TaskWords) (m i : ℕ) (q : TableWord) → Some (ended i) ≢ Some q → i ≡ owner q → own_value (move.with_ended t m) q ≡ own_value t q
but_ended t m i (gate j) other is = refl
but_ended t m i (ended j) other is = absurd (other (ap (λ (n : ℕ). Some (ended n)) is))
but_ended t m i (aim j) other is = refl
but_ended t m i (claim k) other is = refl
but_ended t m i (stamp j n) other is = refl
but_ended t m i (word j n p) other is = refl

slot_other : (ss : List Slot) (n m : ℕ) (x : Slot) → m ≢ n → get_or (set ss n x) m no_slot ≡ get_or ss m no_slot
slot_other ss n m x other = get_or-set_other ss n m x no_slot other

-- what a replaced slot has in common with the old one is the same of each slot
of_each_slot : {X : Type 0} (f : Slot → X) (ss : List Slot) (n m : ℕ) (x : Slot) → n < length ss → f x ≡ f (get_or ss n no_slot) → f (get_or (set ss n x) m no_slot) ≡ f (get_or ss m no_slot)
of_each_slot f ss n m x inside same = elim (cases_eq m n) [
  | inl is ↦
      let here : get_or (set ss n x) m no_slot ≡ x = ap (λ (k : ℕ). get_or (set ss n x) k no_slot) is ∙ get_or-set_same ss n x no_slot inside in
      ap f here ∙ same ∙ ap (λ (k : ℕ). f (get_or ss k no_slot)) (sym is)
  | inr other ↦ ap f (slot_other ss n m x other)
]

but_stamp : (t : TaskWords) (n v i : ℕ) (q : TableWord) → n < length t.slots → Some (stamp i n) ≢ Some q → i ≡ owner q → own_value (move.with_stamp t n v) q ≡ own_value t q
but_stamp t n v i (gate j) inside other is = refl
but_stamp t n v i (ended j) inside other is = refl
but_stamp t n v i (aim j) inside other is = refl
but_stamp t n v i (claim k) inside other is = refl
but_stamp t n v i (stamp j m) inside other is =
    let apart : m ≢ n = λ same. other (ap (λ (x : ℕ). Some (stamp x n)) is ∙ ap (λ (x : ℕ). Some (stamp j x)) (sym same)) in
    ap (λ (x : Slot). x.stamp) (slot_other t.slots n m (record (slot_at t.slots n) { stamp = v }) apart)
but_stamp t n v i (word j m p) inside other is = of_each_slot (λ x. signed_value (get_or x.words p (pos 0))) t.slots n m (record (slot_at t.slots n) { stamp = v }) inside refl

but_word : (t : TaskWords) (n port i : ℕ) (v : ℤ) (q : TableWord) → n < length t.slots → Some (word i n port) ≢ Some q → i ≡ owner q → own_value (move.with_word t n port v) q ≡ own_value t q
but_word t n port i v (gate j) inside other is = refl
but_word t n port i v (ended j) inside other is = refl
but_word t n port i v (aim j) inside other is = refl
but_word t n port i v (claim k) inside other is = refl
but_word t n port i v (stamp j m) inside other is = of_each_slot (λ x. x.stamp) t.slots n m (record (slot_at t.slots n) { words = set (slot_at t.slots n).words port v }) inside refl
but_word t n port i v (word j m p) inside other is = elim (cases_eq m n) [
  | inl slot ↦
      let apart : p ≢ port = λ same. other (ap (λ (x : ℕ). Some (word x n port)) is ∙ ap (λ (x : ℕ). Some (word j x port)) (sym slot) ∙ ap (λ (x : ℕ). Some (word j m x)) (sym same)) in
      let here : get_or (set t.slots n (record (slot_at t.slots n) { words = set (slot_at t.slots n).words port v })) m no_slot ≡ record (slot_at t.slots n) { words = set (slot_at t.slots n).words port v } =
      ap (λ (k : ℕ). get_or (set t.slots n (record (slot_at t.slots n) { words = set (slot_at t.slots n).words port v })) k no_slot) slot ∙ get_or-set_same t.slots n (record (slot_at t.slots n) { words = set (slot_at t.slots n).words port v }) no_slot inside in
      ap (λ (x : Slot). signed_value (get_or x.words p (pos 0))) here
      ∙ ap signed_value (get_or-set_other (slot_at t.slots n).words port p v (pos 0) apart)
      ∙ ap (λ (k : ℕ). signed_value (get_or (slot_at t.slots k).words p (pos 0))) (sym slot)
  | inr apart ↦ ap (λ (x : Slot). signed_value (get_or x.words p (pos 0))) (slot_other t.slots n m (record (slot_at t.slots n) { words = set (slot_at t.slots n).words port v }) apart)
]

-- ---- the steps

-- a task that steps leaves the others' parts
others_stay : (s : State) (i j : ℕ) (t : TaskState) → Some i ≢ Some j → ((task (rule.with_task s i t) j).part ≡ (task s j).part) × ((task (rule.with_task s i t) j).work ≡ (task s j).work)
others_stay s i j t other =
    let apart : j ≢ i = λ same. other (ap Some (sym same)) in
    let same : get_or (set s.tasks i t) j no_task ≡ get_or s.tasks j no_task = get_or-set_other s.tasks i j t no_task apart in
    (ap (λ (x : TaskState). x.part) same, ap (λ (x : TaskState). x.work) same)

-- a task whose part and whose work stay
parts_stay : (s : State) (i j : ℕ) (words : TaskWords) → i < length s.tasks
    → ((task (rule.with_task s i (record (task s i) { words = words })) j).part ≡ (task s j).part) × ((task (rule.with_task s i (record (task s i) { words = words })) j).work ≡ (task s j).work)
parts_stay s i j words inside = (of_each (λ x. x.part) s i j (record (task s i) { words = words }) inside (λ _. refl), of_each (λ x. x.work) s i j (record (task s i) { words = words }) inside (λ _. refl))

module _ (p : Plan) (w : Wiring) (s : State) (shape : IsShape p w s) where
  there : (i : ℕ) → i < length p.diagram.tasks → i < length s.tasks
  there i named = omega (arith, named, shape.wiring.tasks, shape.tasks)

  -- the slot that a task has heard of is one of its own
  own_inside : (i kind operand : ℕ) (rest : Option Illegal) → i < length p.diagram.tasks → rule.or_else (rule.steps_next w s i kind operand) rest ≡ None
      → ((n : ℕ) → heard_by (1 + length (wired_task w i).links) (place_of kind n) ≡ 1 + length (wired_task w i).links) → move.own_slot (task s i).part < length (task s i).words.slots
  own_inside i kind operand rest named free all =
      let fits : TaskShape w (declared_task p i) i (task_entry s i).aimed (task s i) = shape.each_task i (omega (arith, named, shape.wiring.tasks)) in
      let at : (task s i).part.place ≡ place_of kind (place_number (task s i).part.place) = at_next broken.TaskPlace (wired_task w i) (task s i).part.place kind operand (or_else_none _ _ free).0 in
      let heard : length (task s i).part.heard.items ≡ 1 + length (wired_task w i).links = fits.heard ∙ ap (heard_by (1 + length (wired_task w i).links)) at ∙ all (place_number (task s i).part.place) in
      omega (arith, (fits.each_heard 0 (omega (arith, heard))).0, fits.slots.0)

  pub words_kept : (e : Step) → rule.IsNamed p.diagram e → rule.refusal w s e ≡ None → KeepsOtherWords (stored_by s e) s (rule.next p w s e)
  words_kept (Seen i) named free q other = value_same (rule.next p w s (Seen i)) s q refl refl
  words_kept (Aim i slot) named free q other =
      value_same (rule.next p w s (Aim i slot)) (rule.with_task s i (record (task s i) { words = move.words_after_aim (task s i).words (move.after_aim (task_entry s i) slot) })) q refl refl
      ∙ value_task s i (record (task s i) { words = move.words_after_aim (task s i).words (move.after_aim (task_entry s i) slot) }) q (there i named) (but_aim (task s i).words (move.after_aim (task_entry s i) slot) i q other)
  words_kept (Claim k) named free (gate j) other = refl
  words_kept (Claim k) named free (ended j) other = refl
  words_kept (Claim k) named free (aim j) other = refl
  words_kept (Claim k) named free (claim j) other =
      let apart : j ≢ k = λ same. other (ap (λ (n : ℕ). Some (claim n)) (sym same)) in
      ap order_value (get_or-set_other s.orders k j (move.claim_order (move.claim_entry (link w k).delay (task_entry s (link w k).writer) (task_entry s (link w k).reader))) no_order apart)
  words_kept (Claim k) named free (stamp j n) other = refl
  words_kept (Claim k) named free (word j n port) other = refl
  words_kept (OpenGate i) named free q other =
      value_same (rule.next p w s (OpenGate i)) (rule.with_task s i (record (task s i) { words = move.words_after_open (task s i).words (task_entry s i).aimed })) q refl refl
      ∙ value_task s i (record (task s i) { words = move.words_after_open (task s i).words (task_entry s i).aimed }) q (there i named) (but_gate (task s i).words (task_entry s i).aimed i q other)
  words_kept (Start i) named free q other = words_stay s i (move.after_start (task s i).part (rule.is_open s i)) (task s i).work q (there i named)
  words_kept (Hear i) named free q other = words_stay s i (move.after_hear (wired_task w i) (task s i).part (rule.hears_at (task s i).part.place) (rule.order_word w s i (rule.hears_at (task s i).part.place))) (task s i).work q (there i named)
  words_kept (Look i r) named free q other = words_stay s i (move.after_look (task s i).part (rule.turn_at (task s i).part.place) (rule.is_ready w s i (rule.turn_at (task s i).part.place))) (task s i).work q (there i named)
  words_kept (Take i r) named free q other =
      words_stay s i (move.after_take (wired_task w i) (task s i).part (rule.turn_at (task s i).part.place)) (move.with_read (declared_task p i) (task s i).work r (rule.read_value w s i (rule.turn_at (task s i).part.place))) q (there i named)
  words_kept (Shut i) named free q other =
      let inside : move.own_slot (task s i).part < length (task s i).words.slots = own_inside i 9 0 (rule.blocker_refusal w.count w s i) named free (λ n. refl) in
      value_task s i (record { words = move.with_stamp (task s i).words (move.own_slot (task s i).part) 0; part = move.at_place (task s i).part (place.Put 0); work = move.after_compute (declared_task p i) (rule.sense_values p w s i) (task s i).work }) q (there i named)
      (but_stamp (task s i).words (move.own_slot (task s i).part) 0 i q inside other)
  words_kept (Put i port) named free q other =
      let inside : move.own_slot (task s i).part < length (task s i).words.slots = own_inside i 10 port (rule.blocker_refusal w.count w s i) named free (λ n. refl) in
      value_task s i (record { words = move.with_word (task s i).words (move.own_slot (task s i).part) port (get_or (task s i).work.row port (pos 0)); part = move.at_place (task s i).part (move.put_place (wired_task w i).ports (port + 1)); work = (task s i).work }) q (there i named)
      (but_word (task s i).words (move.own_slot (task s i).part) port i (get_or (task s i).work.row port (pos 0)) q inside other)
  words_kept (Done i) named free q other =
      let inside : move.own_slot (task s i).part < length (task s i).words.slots = own_inside i 11 0 (rule.blocker_refusal w.count w s i) named free (λ n. refl) in
      value_task s i (record { words = move.with_stamp (task s i).words (move.own_slot (task s i).part) ((task s i).part.ended + 2); part = move.at_place (task s i).part place.End; work = (task s i).work }) q (there i named)
      (but_stamp (task s i).words (move.own_slot (task s i).part) ((task s i).part.ended + 2) i q inside other)
  words_kept (End i) named free q other =
      value_task s i (record { words = move.with_ended (task s i).words ((task s i).part.ended + 1); part = move.after_end (task s i).part; work = move.after_advance (task s i).work }) q (there i named)
      (but_ended (task s i).words ((task s i).part.ended + 1) i q other)

  pub parts_kept : (e : Step) → rule.IsNamed p.diagram e → KeepsOtherParts (made_by e) s (rule.next p w s e)
  parts_kept (Seen i) named = record { releaser = λ some. absurd (some refl); tasks = λ j other. (refl, refl) }
  parts_kept (Aim i slot) named = record { releaser = λ some. absurd (some refl); tasks = λ j other. parts_stay s i j (move.words_after_aim (task s i).words (move.after_aim (task_entry s i) slot)) (there i named) }
  parts_kept (Claim k) named = record { releaser = λ some. absurd (some refl); tasks = λ j other. (refl, refl) }
  parts_kept (OpenGate i) named = record { releaser = λ some. absurd (some refl); tasks = λ j other. parts_stay s i j (move.words_after_open (task s i).words (task_entry s i).aimed) (there i named) }
  parts_kept (Start i) named = record { releaser = λ _. refl; tasks = λ j other. others_stay s i j _ other }
  parts_kept (Hear i) named = record { releaser = λ _. refl; tasks = λ j other. others_stay s i j _ other }
  parts_kept (Look i r) named = record { releaser = λ _. refl; tasks = λ j other. others_stay s i j _ other }
  parts_kept (Take i r) named = record { releaser = λ _. refl; tasks = λ j other. others_stay s i j _ other }
  parts_kept (Shut i) named = record { releaser = λ _. refl; tasks = λ j other. others_stay s i j _ other }
  parts_kept (Put i port) named = record { releaser = λ _. refl; tasks = λ j other. others_stay s i j _ other }
  parts_kept (Done i) named = record { releaser = λ _. refl; tasks = λ j other. others_stay s i j _ other }
  parts_kept (End i) named = record { releaser = λ _. refl; tasks = λ j other. others_stay s i j _ other }
