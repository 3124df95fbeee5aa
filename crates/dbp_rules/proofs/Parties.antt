-- A step's refusal and what it makes of its party are said by that party's part, and the parts of a sound state are in shape.
use Rattle.std.proofs.Common.{◌≡◌, ℕ, ℤ, ◌<◌, ◌≤◌, List, length, Option, Some, None, refl, sym, ◌∙◌, ap, subst, arith, inl, inr, get_or-set_same}
use Rattle.std.proofs.lemmas.Bool.{cases_Bool}
use Rattle.std.proofs.lemmas.Option.{same_Some}
use Rattle.dbp_plan.specs.declared.plan.Plan.{Plan}
use Rattle.dbp_plan.specs.Lookups.{declared_task}
use Rattle.sync_meaning.specs.SomeMeaning.{meaning_of}
use Rattle.dbp_plan.specs.Table.{table_row}
use Rattle.dbp_rules.specs.PartyRules as party
use Rattle.dbp_rules.specs.PartyShapes.{LinksFit, ReleaserLoads, ReleaserShape, TaskLoads, TaskPartShape}
use Rattle.dbp_rules.specs.Lookups.{no_task, task, task_entry, wired_task}
use Rattle.dbp_rules.specs.Rules as rule
use Rattle.dbp_rules.specs.SharedWords.{made_by}
use Rattle.dbp_rules.specs.Shapes.{IsTaskWired, IsWired, OrderFits, PlaceIn, TaskShape, place_number, slot_owner}
use Rattle.dbp_rules.specs.Sound.{Sound}
use Rattle.dbp_rules.specs.Start.{start_of, start_releaser}
use Rattle.dbp_rules.specs.Wired.{wiring_of}
use Rattle.dbp_rules.specs.declared.parts.Place.{Place}
use Rattle.dbp_rules.specs.declared.parts.Place.TheVariants as place
use Rattle.dbp_rules.specs.declared.state.State.{State}
use Rattle.dbp_rules.specs.declared.state.TaskState.{TaskState}
use Rattle.dbp_rules.specs.declared.step.Broken.TheVariants as broken
use Rattle.dbp_rules.specs.declared.step.Count.{Count}
use Rattle.dbp_rules.specs.declared.step.Count.TheVariants.{All}
use Rattle.dbp_rules.specs.declared.step.Illegal.{Illegal}
use Rattle.dbp_rules.specs.declared.step.Step.{Step}
use Rattle.dbp_rules.specs.declared.step.Step.TheVariants.{Seen, Aim, Claim, OpenGate, Start, Hear, Look, Take, Shut, Put, Done, End}
use Rattle.dbp_rules.specs.declared.wiring.Wiring.{Wiring}
use Rattle.dbp_rules.proofs.Allowed.{at_next, or_else_none}
use Rattle.dbp_rules.proofs.ShapeFacts.{word_ordered}
use Rattle.dbp_rules.proofs.SoundStart.{first_sound}

-- ---- refusals

or_else_nothing : (x : Option Illegal) → rule.or_else x None ≡ x
or_else_nothing None = refl
or_else_nothing (Some x) = refl

-- if all links are counted no task blocks another
not_blocked : (w : Wiring) (s : State) (i : ℕ) → w.count ≡ All → rule.blocker_refusal w.count w s i ≡ None
not_blocked w s i all = ap (λ (c : Count). rule.blocker_refusal c w s i) all

forbidden_by : (w : Wiring) (s : State) (e : Step) (i j : ℕ) → w.count ≡ All → Some j ≡ Some i → rule.ranked_refusal w s j e ≡ party.task_refusal (wired_task w i) (task s i).part e
forbidden_by w s e i j all is =
    subst (λ (n : ℕ). rule.ranked_refusal w s j e ≡ party.task_refusal (wired_task w n) (task s n).part e) (same_Some j i is)
    (ap (rule.or_else (party.task_refusal (wired_task w j) (task s j).part e)) (not_blocked w s j all) ∙ or_else_nothing (party.task_refusal (wired_task w j) (task s j).part e))

start_by : (w : Wiring) (s : State) (i : ℕ) → w.count ≡ All → rule.refusal w s (Start i) ≡ party.task_refusal (wired_task w i) (task s i).part (Start i)
start_by w s i all = elim (cases_Bool (rule.is_open s i)) [
  | inl is ↦ rw (is, not_blocked w s i all) (or_else_nothing (party.task_refusal (wired_task w i) (task s i).part (Start i)))
  | inr isnt ↦ rw isnt (or_else_nothing (party.task_refusal (wired_task w i) (task s i).part (Start i)))
]

pub releaser_refused : (w : Wiring) (s : State) (e : Step) → made_by e ≡ None → rule.refusal w s e ≡ party.releaser_refusal w s.releaser e
releaser_refused w s (Seen i) is = refl
releaser_refused w s (Aim i slot) is = refl
releaser_refused w s (Claim k) is = refl
releaser_refused w s (OpenGate i) is = refl
releaser_refused w s (Start i) is = absurd (cc (is))
releaser_refused w s (Hear i) is = absurd (cc (is))
releaser_refused w s (Look i r) is = absurd (cc (is))
releaser_refused w s (Take i r) is = absurd (cc (is))
releaser_refused w s (Shut i) is = absurd (cc (is))
releaser_refused w s (Put i port) is = absurd (cc (is))
releaser_refused w s (Done i) is = absurd (cc (is))
releaser_refused w s (End i) is = absurd (cc (is))

pub task_refused : (w : Wiring) (s : State) (e : Step) (i : ℕ) → w.count ≡ All → made_by e ≡ Some i → rule.refusal w s e ≡ party.task_refusal (wired_task w i) (task s i).part e
task_refused w s (Seen j) i all is = absurd (cc (is))
task_refused w s (Aim j slot) i all is = absurd (cc (is))
task_refused w s (Claim k) i all is = absurd (cc (is))
task_refused w s (OpenGate j) i all is = absurd (cc (is))
task_refused w s (Start j) i all is = subst (λ (n : ℕ). rule.refusal w s (Start j) ≡ party.task_refusal (wired_task w n) (task s n).part (Start j)) (same_Some j i is) (start_by w s j all)
task_refused w s (Hear j) i all is = forbidden_by w s (Hear j) i j all is
task_refused w s (Look j r) i all is = forbidden_by w s (Look j r) i j all is
task_refused w s (Take j r) i all is = forbidden_by w s (Take j r) i j all is
task_refused w s (Shut j) i all is = forbidden_by w s (Shut j) i j all is
task_refused w s (Put j port) i all is = forbidden_by w s (Put j port) i j all is
task_refused w s (Done j) i all is = forbidden_by w s (Done j) i j all is
task_refused w s (End j) i all is = forbidden_by w s (End j) i j all is

allowed_by : (w : Wiring) (s : State) (e : Step) (i j : ℕ) (rest : Option Illegal) → Some j ≡ Some i → rule.or_else (party.task_refusal (wired_task w j) (task s j).part e) rest ≡ None → party.task_refusal (wired_task w i) (task s i).part e ≡ None
allowed_by w s e i j rest is free =
    subst (λ (n : ℕ). party.task_refusal (wired_task w n) (task s n).part e ≡ None) (same_Some j i is) (or_else_none (party.task_refusal (wired_task w j) (task s j).part e) rest free).0

pub task_allowed : (w : Wiring) (s : State) (e : Step) (i : ℕ) → made_by e ≡ Some i → rule.refusal w s e ≡ None → party.task_refusal (wired_task w i) (task s i).part e ≡ None
task_allowed w s (Seen j) i is free = absurd (cc (is))
task_allowed w s (Aim j slot) i is free = absurd (cc (is))
task_allowed w s (Claim k) i is free = absurd (cc (is))
task_allowed w s (OpenGate j) i is free = absurd (cc (is))
task_allowed w s (Start j) i is free = allowed_by w s (Start j) i j _ is free
task_allowed w s (Hear j) i is free = allowed_by w s (Hear j) i j _ is free
task_allowed w s (Look j r) i is free = allowed_by w s (Look j r) i j _ is free
task_allowed w s (Take j r) i is free = allowed_by w s (Take j r) i j _ is free
task_allowed w s (Shut j) i is free = allowed_by w s (Shut j) i j _ is free
task_allowed w s (Put j port) i is free = allowed_by w s (Put j port) i j _ is free
task_allowed w s (Done j) i is free = allowed_by w s (Done j) i j _ is free
task_allowed w s (End j) i is free = allowed_by w s (End j) i j _ is free

-- ---- next parts

pub releaser_moved : (p : Plan) (w : Wiring) (s : State) (e : Step) → made_by e ≡ None → (rule.next p w s e).releaser ≡ party.releaser_after w s.releaser e (rule.loaded_value w s e)
releaser_moved p w s (Seen i) is = refl
releaser_moved p w s (Aim i slot) is = refl
releaser_moved p w s (Claim k) is = refl
releaser_moved p w s (OpenGate i) is = refl
releaser_moved p w s (Start i) is = absurd (cc (is))
releaser_moved p w s (Hear i) is = absurd (cc (is))
releaser_moved p w s (Look i r) is = absurd (cc (is))
releaser_moved p w s (Take i r) is = absurd (cc (is))
releaser_moved p w s (Shut i) is = absurd (cc (is))
releaser_moved p w s (Put i port) is = absurd (cc (is))
releaser_moved p w s (Done i) is = absurd (cc (is))
releaser_moved p w s (End i) is = absurd (cc (is))

moved_to : (w : Wiring) (s : State) (e : Step) (i j : ℕ) (t : TaskState) → i < length s.tasks → Some j ≡ Some i → t.part ≡ rule.next_part w s j e → (task (rule.with_task s j t) i).part ≡ rule.next_part w s i e
moved_to w s e i j t inside is same =
    let at : j ≡ i = same_Some j i is in
    subst (λ (n : ℕ). (task (rule.with_task s j t) n).part ≡ rule.next_part w s n e) at
    (ap (λ (x : TaskState). x.part) (get_or-set_same s.tasks j t no_task (rw at inside)) ∙ same)

pub task_moved : (p : Plan) (w : Wiring) (s : State) (e : Step) (i : ℕ) → i < length s.tasks → made_by e ≡ Some i → (task (rule.next p w s e) i).part ≡ party.task_after (wired_task w i) (task s i).part e (rule.loaded_value w s e)
task_moved p w s (Seen j) i inside is = absurd (cc (is))
task_moved p w s (Aim j slot) i inside is = absurd (cc (is))
task_moved p w s (Claim k) i inside is = absurd (cc (is))
task_moved p w s (OpenGate j) i inside is = absurd (cc (is))
task_moved p w s (Start j) i inside is = moved_to w s (Start j) i j _ inside is refl
task_moved p w s (Hear j) i inside is = moved_to w s (Hear j) i j _ inside is refl
task_moved p w s (Look j r) i inside is = moved_to w s (Look j r) i j _ inside is refl
task_moved p w s (Take j r) i inside is = moved_to w s (Take j r) i j _ inside is refl
task_moved p w s (Shut j) i inside is = moved_to w s (Shut j) i j _ inside is refl
task_moved p w s (Put j port) i inside is = moved_to w s (Put j port) i j _ inside is refl
task_moved p w s (Done j) i inside is = moved_to w s (Done j) i j _ inside is refl
task_moved p w s (End j) i inside is = moved_to w s (End j) i j _ inside is refl

-- ---- shapes

pub links_fit : (p : Plan) (w : Wiring) → IsWired p w → LinksFit w
links_fit p w whole = record { writer = whole.writer; reader = whole.reader; leaving = λ i below. (whole.each_task i below).leaving }

module _ (p : Plan) (w : Wiring) (rows : ℕ → ℕ → List ℤ) (s : State) (sound : Sound p w rows s) where
  there : (i : ℕ) → i < length p.diagram.tasks → i < length w.tasks
  there i named = omega (arith, named, sound.shape.wiring.tasks)

  -- no task is aimed more often than it occurs
  aimed_times : (i : ℕ) → i < length w.tasks → (task_entry s i).aimed ≤ length (wired_task w i).times
  aimed_times i below =
      let t : IsTaskWired p w i (wired_task w i) = sound.shape.wiring.each_task i below in
      omega (arith, sound.shape.aimed i below, sound.shape.wiring.releases.aims_times s.releaser.place i, ap length t.times)

  known_aimed : (i : ℕ) → i < length w.tasks → (task s i).words.ended ≤ (task_entry s i).aimed
  known_aimed i below =
      let ok : TaskShape w (declared_task p i) i (task_entry s i).aimed (task s i) = sound.shape.each_task i below in
      omega (arith, ok.gate, ok.aimed, (sound.tasks i below).ended)

  pub releaser_in_shape : ReleaserShape p w s.releaser
  releaser_in_shape = record {
    place = sound.place;
    entries = sound.shape.entries;
    links = sound.shape.claims;
    aimed = sound.shape.aimed;
    known = λ i below. omega (arith, (sound.tasks i below).known, known_aimed i below);
    ahead = λ i below. (sound.tasks i below).aimed;
    each_entry = sound.shape.each_entry;
    claimed = λ k below. (sound.claims k below).instance;
    number = λ k below. (sound.claims k below).number;
    slot = λ k below. (sound.shape.each_link k below).claim.0;
  }

  -- as many slots are kept as the wiring says
  pub kept_size : (i : ℕ) → i < length p.diagram.tasks → length (task_entry s i).kept ≡ (wired_task w i).kept
  kept_size i named = (sound.shape.each_entry i (there i named)).kept

  pub task_in_shape : (i : ℕ) → i < length p.diagram.tasks → TaskPartShape w i (task s i).part
  task_in_shape i named =
      let below : i < length w.tasks = there i named in
      let ok : TaskShape w (declared_task p i) i (task_entry s i).aimed (task s i) = sound.shape.each_task i below in
      record {
        place = ok.place;
        occurs = omega (arith, ok.gate, ok.aimed, aimed_times i below);
        heard = ok.heard;
        each_heard = ok.each_heard;
      }

  pub releaser_loads : (e : Step) → rule.IsNamed p.diagram e → ReleaserLoads s.releaser e (rule.loaded_value w s e)
  releaser_loads (Seen i) named = ((sound.tasks i (there i named)).known, known_aimed i (there i named))
  releaser_loads (Aim i slot) named = tt
  releaser_loads (Claim k) named = tt
  releaser_loads (OpenGate i) named = tt
  releaser_loads (Start i) named = tt
  releaser_loads (Hear i) named = tt
  releaser_loads (Look i r) named = tt
  releaser_loads (Take i r) named = tt
  releaser_loads (Shut i) named = tt
  releaser_loads (Put i port) named = tt
  releaser_loads (Done i) named = tt
  releaser_loads (End i) named = tt

  gate_times : (i : ℕ) → i < length w.tasks → (task s i).words.gate ≤ length (wired_task w i).times
  gate_times i below =
      let ok : TaskShape w (declared_task p i) i (task_entry s i).aimed (task s i) = sound.shape.each_task i below in
      omega (arith, ok.aimed, aimed_times i below)

  hear_fits : (i : ℕ) → i < length w.tasks → rule.refusal w s (Hear i) ≡ None → OrderFits (wired_task w (slot_owner w i (rule.hears_at (task s i).part.place))) (rule.order_word w s i (rule.hears_at (task s i).part.place))
  hear_fits i below free =
      let n : ℕ = place_number (task s i).part.place in
      let at : (task s i).part.place ≡ place.Hear (place_number (task s i).part.place) = at_next broken.TaskPlace (wired_task w i) (task s i).part.place 6 0 (or_else_none _ _ free).0 in
      let inside : PlaceIn (wired_task w i) (place.Hear (place_number (task s i).part.place)) = subst (λ (q : Place). PlaceIn (wired_task w i) q) at (sound.shape.each_task i below).place in
      let few : rule.hears_at (task s i).part.place ≤ length (wired_task w i).links = omega (arith, ap rule.hears_at at, inside) in
      word_ordered p w s sound.shape i (rule.hears_at (task s i).part.place) below few

  pub task_loads : (e : Step) (i : ℕ) → i < length p.diagram.tasks → made_by e ≡ Some i → rule.refusal w s e ≡ None → TaskLoads w i (task s i).part e (rule.loaded_value w s e)
  task_loads (Seen j) i named is free = tt
  task_loads (Aim j slot) i named is free = tt
  task_loads (Claim k) i named is free = tt
  task_loads (OpenGate j) i named is free = tt
  task_loads (Start j) i named is free = subst (λ (n : ℕ). (task s n).words.gate ≤ length (wired_task w i).times) (sym (same_Some j i is)) (gate_times i (there i named))
  task_loads (Hear j) i named is free =
      let same : i ≡ j = sym (same_Some j i is) in
      subst (λ (n : ℕ). OrderFits (wired_task w (slot_owner w i (rule.hears_at (task s i).part.place))) (rule.order_word w s n (rule.hears_at (task s n).part.place))) same
      (hear_fits i (there i named) (subst (λ (n : ℕ). rule.refusal w s (Hear n) ≡ None) (sym same) free))
  task_loads (Look j r) i named is free = tt
  task_loads (Take j r) i named is free = tt
  task_loads (Shut j) i named is free = tt
  task_loads (Put j port) i named is free = tt
  task_loads (Done j) i named is free = tt
  task_loads (End j) i named is free = tt

-- ---- the first parts

pub first_releaser_in_shape : (p : Plan) (count : Count) → ReleaserShape p (wiring_of p count) (start_releaser (wiring_of p count))
first_releaser_in_shape p count = releaser_in_shape p (wiring_of p count) (table_row (meaning_of p)) (start_of p (wiring_of p count)) (first_sound p count)

pub first_task_in_shape : (p : Plan) (count : Count) (i : ℕ) → i < length p.diagram.tasks → TaskPartShape (wiring_of p count) i (task (start_of p (wiring_of p count)) i).part
first_task_in_shape p count i named = task_in_shape p (wiring_of p count) (table_row (meaning_of p)) (start_of p (wiring_of p count)) (first_sound p count) i named
