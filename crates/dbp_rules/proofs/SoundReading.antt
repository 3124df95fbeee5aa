-- A task's steps before its shut keep a state sound, and a take loads the word of the meaning.
use Rattle.std.proofs.Common.{◌≡◌, ◌≢◌, ℕ, zero, suc, ℤ, pos, ◌+◌, ◌-◌, ◌<◌, true, List, [], ◌∷◌, ◌++◌, length, get_or, take, Some, None, refl, sym, ◌∙◌, ap, subst, arith, inl, inr, get_or-set_other, get_or-set_same}
use Rattle.std.specs.Prelude.{slice_get}
use Rattle.std.proofs.lemmas.Bool.{cases_Bool, cases_eq, cases_lt, eqb-true}
use Rattle.std.proofs.lemmas.List.{get_or_append_left, get_or_push, length_push}
use Rattle.std.proofs.lemmas.Option.{slice_get-get_or}
use Rattle.dbp_plan.specs.declared.diagram.Link.{Link}
use Rattle.dbp_plan.specs.declared.diagram.Read.{Read}
use Rattle.dbp_plan.specs.declared.plan.Plan.{Plan}
use Rattle.dbp_plan.specs.Occurrences.{count_until, times_of, time_of}
use Rattle.dbp_plan.specs.declared.schedule.Batch.{Batch}
use Rattle.dbp_plan.specs.Lookups.{link_at, no_link, declared_task}
use Rattle.dbp_plan.proofs.ListEdits.{take_past}
use Rattle.release_list.specs.Schedule.{seen_by}
use Rattle.dbp_rules.specs.Moves as move
use Rattle.dbp_rules.specs.Lookups.{link, link_entry, no_order, order, read_at, slot_at, task, task_entry, wired_task}
use Rattle.dbp_rules.specs.Rules as rule
use Rattle.dbp_rules.specs.Shapes.{IsShape, TaskShape, heard_by, link_in, place_number, running_count}
use Rattle.dbp_rules.specs.Sound.{Sound}
use Rattle.dbp_rules.specs.SoundParts.{LinkSound, TaskSound, meant_value, place_of_read, read_of, taken_by}
use Rattle.dbp_rules.specs.Work.{WorkWords}
use Rattle.dbp_rules.specs.declared.parts.Order.{Order}
use Rattle.dbp_rules.specs.declared.parts.Place.{Place}
use Rattle.dbp_rules.specs.declared.parts.Place.TheVariants as place
use Rattle.dbp_rules.specs.declared.parts.TaskPart.{TaskPart}
use Rattle.dbp_rules.specs.declared.state.State.{State}
use Rattle.dbp_rules.specs.declared.step.Broken.TheVariants as broken
use Rattle.dbp_rules.specs.declared.step.Step.TheVariants.{Start, Hear, Look, Take}
use Rattle.dbp_rules.specs.declared.wiring.Wiring.{Wiring}
use Rattle.dbp_rules.proofs.ShapeFacts.{place_in}
use Rattle.dbp_rules.proofs.StepPlaces.{at_step, at_look, at_take}
use Rattle.dbp_rules.proofs.Allowed.{next_none, or_else_none}
use Rattle.dbp_rules.proofs.SoundFrame.{task_step}
use Rattle.dbp_rules.proofs.SoundGoes.{IsEarly, early_hear, early_heard, early_idle, early_look, early_read, early_take, reader_on, take_hear, take_read, taken_hear, taken_read, task_goes, writer_same}
use Rattle.dbp_rules.proofs.SoundOwn.{IsOwn, IsOwnRead, claims_aims, opens_claims}
use Rattle.dbp_rules.proofs.StateKept.{step_kept}

-- what an instance sees, by its number less one
pub seen_more : (links : List Link) (batches : List Batch) (k n : ℕ) → seen_by links batches k (n + 1) ≡ count_until (times_of batches (link_at links k).writer) (time_of batches (link_at links k).reader (n + 1))
seen_more links batches k n = let one : n + 1 ≡ suc n = omega arith in rw one refl

module _ (p : Plan) (w : Wiring) (rows : ℕ → ℕ → List ℤ) (s : State) (own : IsOwn p w) (sound : Sound p w rows s) where
  there : (i : ℕ) → i < length p.diagram.tasks → i < length w.tasks
  there i named = omega (arith, named, own.whole.tasks)

  -- a task that goes on before its shut
  goes_sound : (i : ℕ) (part : TaskPart) (work : WorkWords) → i < length w.tasks → IsShape p w (rule.with_task s i (record { words = (task s i).words; part = part; work = work }))
      → IsEarly (task s i).part.place → IsEarly part.place → part.ended ≡ (task s i).part.ended
      → (0 < length part.heard.items → move.heard_order part 0 ≡ (task s i).words.aim)
      → take (length (declared_task p i).states) work.now ≡ take (length (declared_task p i).states) (task s i).work.now
      → ((n : ℕ) → n < taken_by (length (wired_task w i).reads) part.place → get_or work.now (place_of_read p w i n) (pos 0) ≡ meant_value p rows i ((task s i).part.ended + 1) (read_of p w i n))
      → work.row ≡ (task s i).work.row
      → ((k : ℕ) → k < length w.links → (link w k).reader ≡ i → (j : ℕ) → j + 1 < length part.heard.items → link_in (wired_task w i) j ≡ k → move.heard_order part (j + 1) ≡ move.claim_order (link_entry s k))
      → ((k : ℕ) → k < length w.links → (link w k).reader ≡ i → (n : ℕ) → part.place ≡ place.Take n → (read_of p w i n).link ≡ k → (slot_at (task s (link w k).writer).words.slots (link_entry s k).slot).stamp ≡ (link_entry s k).number + 1)
      → Sound p w rows (rule.with_task s i (record { words = (task s i).words; part = part; work = work }))
  goes_sound i part work below shape from to same heard states taken row orders ready =
      task_step p w rows s own sound i (record { words = (task s i).words; part = part; work = work }) below shape refl
      (task_goes p w rows i (task_entry s i) (task s i) part work (sound.tasks i below) from to same heard states taken row)
      (λ k fits is old. writer_same p w k (link_entry s k) (task_entry s i) (task_entry s i) (task s i) (record { words = (task s i).words; part = part; work = work }) (task_entry s (link w k).reader) (task s (link w k).reader) refl refl refl (omega (arith, same, from.filled, to.filled)) (omega (arith, same, from.shut, to.shut)) old)
      (λ k fits is old. reader_on p w k (link_entry s k) (task_entry s (link w k).writer) (task s (link w k).writer) (task_entry s i) (task_entry s i) (task s i) (record { words = (task s i).words; part = part; work = work }) (omega arith) (omega arith)
      (λ j inside here. orders k fits is j inside (subst (λ (x : ℕ). link_in (wired_task w x) j ≡ k) is here))
      (λ n at here. ready k fits is n at (subst (λ (x : ℕ). (read_of p w x n).link ≡ k) is here))
      old)

  -- what the task has heard of a link
  pub old_orders : (i : ℕ) → (k : ℕ) → k < length w.links → (link w k).reader ≡ i → (j : ℕ) → j + 1 < length (task s i).part.heard.items → link_in (wired_task w i) j ≡ k → move.heard_order (task s i).part (j + 1) ≡ move.claim_order (link_entry s k)
  old_orders i k fits is j inside here =
      let old : LinkSound p w k (link_entry s k) (task_entry s (link w k).writer) (task s (link w k).writer) (task_entry s (link w k).reader) (task s (link w k).reader) = sound.links k fits in
      subst (λ (x : ℕ). j + 1 < length (task s x).part.heard.items → link_in (wired_task w x) j ≡ k → move.heard_order (task s x).part (j + 1) ≡ move.claim_order (link_entry s k)) is (old.heard j) inside here

  -- ---- start

  pub start_sound : (i : ℕ) → i < length p.diagram.tasks → rule.refusal w s (Start i) ≡ None → Sound p w rows (rule.next p w s (Start i))
  start_sound i named free =
      let below : i < length w.tasks = there i named in
      let ok : TaskSound p w rows i (task_entry s i) (task s i) = sound.tasks i below in
      let at : (task s i).part.place ≡ place.Idle = at_step w s i 5 0 _ free in
      let shape : IsShape p w (rule.next p w s (Start i)) = step_kept p w s sound.shape (Start i) named free in
      let none : taken_by (length (wired_task w i).reads) (task s i).part.place ≡ 0 = ap (taken_by (length (wired_task w i).reads)) at in
      let idle : IsEarly (task s i).part.place = subst (λ (q : Place). IsEarly q) (sym at) early_idle in
      elim (cases_Bool (rule.is_open s i)) [
        | inl is ↦
            let kept : IsShape p w (rule.with_task s i (record (task s i) { part = move.at_place (task s i).part (place.Hear 0) })) = rw is at shape in
            rw is (goes_sound i (move.at_place (task s i).part (place.Hear 0)) (task s i).work below kept idle (early_hear 0) refl ok.heard refl (λ n less. absurd (omega arith)) refl (old_orders i) (λ k fits into n takes. absurd (cc (takes))))
        | inr isnt ↦
            let kept : IsShape p w (rule.with_task s i (task s i)) = rw isnt at shape in
            rw isnt (goes_sound i (task s i).part (task s i).work below kept idle idle refl ok.heard refl (λ n less. absurd (omega arith)) refl (old_orders i) (λ k fits into n takes. absurd (cc (at, takes))))
      ]

  -- ---- hear

  hear_own : (i n : ℕ) (items : List Order) → length items ≡ n → (0 < length items → get_or items 0 no_order ≡ (task s i).words.aim) → get_or (items ++ rule.order_word w s i n ∷ []) 0 no_order ≡ (task s i).words.aim
  hear_own i zero items size old = get_or_push items (task s i).words.aim no_order 0 size
  hear_own i (suc j) items size old =
      let some : 0 < length items = omega arith in
      get_or_append_left items (rule.order_word w s i (suc j) ∷ []) no_order 0 some ∙ old some

  hear_link : (i k n j : ℕ) (items : List Order) → length items ≡ n → order s k ≡ move.claim_order (link_entry s k)
      → (j + 1 < length items → link_in (wired_task w i) j ≡ k → get_or items (j + 1) no_order ≡ move.claim_order (link_entry s k))
      → j + 1 < n + 1 → link_in (wired_task w i) j ≡ k → get_or (items ++ rule.order_word w s i n ∷ []) (j + 1) no_order ≡ move.claim_order (link_entry s k)
  hear_link i k zero j items size word old below here = absurd (omega arith)
  hear_link i k (suc m) j items size word old below here = elim (cases_lt (j + 1) (suc m)) [
    | inl before ↦
        let inside : j + 1 < length items = omega arith in
        get_or_append_left items (rule.order_word w s i (suc m) ∷ []) no_order (j + 1) inside ∙ old inside here
    | inr last ↦
        let same : m ≡ j = omega arith in
        let at : length items ≡ j + 1 = omega arith in
        get_or_push items (rule.order_word w s i (suc m)) no_order (j + 1) at ∙ ap (λ x. order s x) (ap (λ x. link_in (wired_task w i) x) same ∙ here) ∙ word
  ]

  pub hear_sound : (i : ℕ) → i < length p.diagram.tasks → rule.refusal w s (Hear i) ≡ None → Sound p w rows (rule.next p w s (Hear i))
  hear_sound i named free =
      let below : i < length w.tasks = there i named in
      let ok : TaskSound p w rows i (task_entry s i) (task s i) = sound.tasks i below in
      let fits : TaskShape w (declared_task p i) i (task_entry s i).aimed (task s i) = sound.shape.each_task i below in
      let n : ℕ = rule.hears_at (task s i).part.place in
      let first : (task s i).part.place ≡ place.Hear (place_number (task s i).part.place) = at_step w s i 6 0 _ free in
      let at : (task s i).part.place ≡ place.Hear n = first ∙ ap (λ (m : ℕ). place.Hear m) (sym (ap rule.hears_at first)) in
      let size : length (task s i).part.heard.items ≡ n = fits.heard ∙ ap (heard_by (1 + length (wired_task w i).links)) at in
      let o : Order = rule.order_word w s i n in
      let longer : length ((task s i).part.heard.items ++ rule.order_word w s i n ∷ []) ≡ n + 1 = length_push (task s i).part.heard.items (rule.order_word w s i n) ∙ ap (λ x. x + 1) size in
      let none : taken_by (length (wired_task w i).reads) (move.hear_place (wired_task w i) (n + 1)) ≡ 0 = taken_hear (wired_task w i) (n + 1) in
      goes_sound i (move.after_hear (wired_task w i) (task s i).part n (rule.order_word w s i n)) (task s i).work below (step_kept p w s sound.shape (Hear i) named free)
      (subst (λ (q : Place). IsEarly q) (sym at) (early_hear n)) (early_heard (wired_task w i) (n + 1)) refl
      (λ _. hear_own i n (task s i).part.heard.items size ok.heard) refl (λ m less. absurd (omega arith)) refl
      (λ k inside into j less here. hear_link i k n j (task s i).part.heard.items size (sound.claims k inside).order (old_orders i k inside into j) (omega arith) here)
      (λ k inside into m takes. absurd (take_hear (wired_task w i) (n + 1) m takes))

  -- ---- look

  -- the order that the task has heard for a read is the claim of its link
  module _ (i n : ℕ) (below : i < length w.tasks) (few : n < length (wired_task w i).reads) (all : heard_by (1 + length (wired_task w i).links) (task s i).part.place ≡ 1 + length (wired_task w i).links) where
    abbrev k : ℕ
    k = (read_of p w i n).link

    read : IsOwnRead p w i n
    read = own.reads i n below few

    pub read_claim : rule.read_order w s i n ≡ move.claim_order (link_entry s k)
    read_claim =
        let inside : read.place + 1 < length (task s i).part.heard.items = omega (arith, read.few, (sound.shape.each_task i below).heard, all) in
        ap (λ x. move.heard_order (task s i).part x) read.order ∙ old_orders i k read.below read.reader read.place inside read.there

    pub read_from : rule.read_slot w s i n ≡ slot_at (task s (link w k).writer).words.slots (link_entry s k).slot
    read_from = ap (λ x. slot_at (task s x).words.slots (rule.read_order w s i n).slot) read.writer ∙ ap (λ (x : Order). slot_at (task s (link w k).writer).words.slots x.slot) read_claim

    pub read_ready : rule.is_ready w s i n ≡ true → (slot_at (task s (link w k).writer).words.slots (link_entry s k).slot).stamp ≡ (link_entry s k).number + 1
    read_ready is =
        let same : (rule.read_slot w s i n).stamp ≡ (rule.read_order w s i n).number + 1 = eqb-true (rule.read_slot w s i n).stamp ((rule.read_order w s i n).number + 1) is in
        ap (λ x. x.stamp) (sym read_from) ∙ same ∙ ap (λ (x : Order). x.number + 1) read_claim

  pub look_sound : (i r : ℕ) → i < length p.diagram.tasks → rule.refusal w s (Look i r) ≡ None → Sound p w rows (rule.next p w s (Look i r))
  look_sound i r named free =
      let below : i < length w.tasks = there i named in
      let ok : TaskSound p w rows i (task_entry s i) (task s i) = sound.tasks i below in
      let n : ℕ = rule.turn_at (task s i).part.place in
      let at : (task s i).part.place ≡ place.Look n = at_look w s i r free in
      let few : n < length (wired_task w i).reads = place_in p w s sound.shape i (place.Look n) below at in
      let all : heard_by (1 + length (wired_task w i).links) (task s i).part.place ≡ 1 + length (wired_task w i).links = ap (heard_by (1 + length (wired_task w i).links)) at in
      let count : taken_by (length (wired_task w i).reads) (task s i).part.place ≡ n = ap (taken_by (length (wired_task w i).reads)) at in
      let shape : IsShape p w (rule.next p w s (Look i r)) = step_kept p w s sound.shape (Look i r) named free in
      let early : IsEarly (task s i).part.place = subst (λ (q : Place). IsEarly q) (sym at) (early_look n) in
      elim (cases_Bool (rule.is_ready w s i n)) [
        | inl is ↦
            let kept : IsShape p w (rule.with_task s i (record (task s i) { part = move.at_place (task s i).part (place.Take n) })) = rw is at shape in
            rw is (goes_sound i (move.at_place (task s i).part (place.Take n)) (task s i).work below kept early (early_take n) refl ok.heard refl (λ m less. ok.taken m (omega arith)) refl (old_orders i)
            (λ k fits into m takes here.
            let turn : n ≡ m = ap rule.turn_at takes in
            let same : (read_of p w i n).link ≡ k = ap (λ x. (read_of p w i x).link) turn ∙ here in
            subst (λ (x : ℕ). (slot_at (task s (link w x).writer).words.slots (link_entry s x).slot).stamp ≡ (link_entry s x).number + 1) same (read_ready i n below few all is)))
        | inr isnt ↦
            let kept : IsShape p w (rule.with_task s i (task s i)) = rw isnt at shape in
            rw isnt (goes_sound i (task s i).part (task s i).work below kept early early refl ok.heard refl ok.taken refl (old_orders i) (λ k fits into m takes. absurd (cc (at, takes))))
      ]

  -- ---- take

  -- a claim of a running reader is for the running instance
  pub claimed_instance : (k : ℕ) → k < length w.links → running_count (task s (link w k).reader).part.place ≡ 1 → (link_entry s k).instance ≡ (task s (link w k).reader).part.ended + 1
  claimed_instance k fits busy =
      let reader : (link w k).reader < length w.tasks = own.whole.reader k fits in
      let ok : TaskSound p w rows (link w k).reader (task_entry s (link w k).reader) (task s (link w k).reader) = sound.tasks (link w k).reader reader in
      let shape : TaskShape w (declared_task p (link w k).reader) (link w k).reader (task_entry s (link w k).reader).aimed (task s (link w k).reader) = sound.shape.each_task (link w k).reader reader in
      omega (arith, (sound.claims k fits).instance, opens_claims p w own.whole s.releaser.place k fits, claims_aims p w own.whole s.releaser.place k fits, sound.gates (link w k).reader reader, sound.shape.aimed (link w k).reader reader, shape.gate, ok.known, ok.ended, ok.aimed)

  -- the number of a claim of a running reader is that of the row which its instance is to read
  pub claimed_number : (i k : ℕ) → k < length w.links → (link w k).reader ≡ i → running_count (task s i).part.place ≡ 1
      → (link_entry s k).number ≡ count_until (times_of p.batches (link w k).writer) (time_of p.batches i ((task s i).part.ended + 1)) - (link w k).delay
  claimed_number i k fits is busy =
      let number : (link_entry s k).number ≡ seen_by w.links p.batches k (link_entry s k).instance - (link w k).delay = (sound.claims k fits).number in
      let instance : (link_entry s k).instance ≡ (task s i).part.ended + 1 =
      subst (λ (x : ℕ). (link_entry s k).instance ≡ (task s x).part.ended + 1) is (claimed_instance k fits (rw is busy)) in
      number
      ∙ ap (λ (x : ℕ). seen_by w.links p.batches k x - (link w k).delay) instance
      ∙ ap (λ (x : ℕ). x - (link w k).delay) (seen_more w.links p.batches k (task s i).part.ended)
      ∙ ap (λ (x : ℕ). count_until (times_of p.batches (link w k).writer) (time_of p.batches x ((task s i).part.ended + 1)) - (link w k).delay) is

  -- each take loads the word that the meaning gives the read
  pub take_word : (i n : ℕ) → i < length w.tasks → (task s i).part.place ≡ place.Take n → rule.read_value w s i n ≡ meant_value p rows i ((task s i).part.ended + 1) (read_of p w i n)
  take_word i n below at =
      let few : n < length (wired_task w i).reads = place_in p w s sound.shape i (place.Take n) below at in
      let all : heard_by (1 + length (wired_task w i).links) (task s i).part.place ≡ 1 + length (wired_task w i).links = ap (heard_by (1 + length (wired_task w i).links)) at in
      let read : IsOwnRead p w i n = own.reads i n below few in
      let r : Read = read_of p w i n in
      let k : ℕ = (read_of p w i n).link in
      let v : ℕ = (link w (read_of p w i n).link).writer in
      let fits : k < length w.links = read.below in
      let busy : running_count (task s i).part.place ≡ 1 = ap running_count at in
      let writer : v < length w.tasks = own.whole.writer k fits in
      let old : LinkSound p w k (link_entry s k) (task_entry s v) (task s v) (task_entry s (link w k).reader) (task s (link w k).reader) = sound.links k fits in
      let stamp : (slot_at (task s v).words.slots (link_entry s k).slot).stamp ≡ (link_entry s k).number + 1 =
      subst (λ (x : ℕ). (task s x).part.place ≡ place.Take n → (read_of p w x n).link ≡ k → (slot_at (task s v).words.slots (link_entry s k).slot).stamp ≡ (link_entry s k).number + 1) read.reader (old.ready n) at refl in
      let words : (slot_at (task s v).words.slots (link_entry s k).slot).words ≡ rows v (link_entry s k).number = ((sound.tasks v writer).whole (link_entry s k).slot (link_entry s k).number (sound.shape.each_link k fits).claim.0 stamp).1 in
      let number : (link_entry s k).number ≡ count_until (times_of p.batches v) (time_of p.batches i ((task s i).part.ended + 1)) - (link w k).delay = claimed_number i k fits read.reader busy in
      let linked : slice_get p.diagram.links k ≡ Some (link w k) = ap (λ (ls : List Link). slice_get ls k) (sym own.whole.links) ∙ slice_get-get_or w.links k no_link fits in
      let row : (rule.read_slot w s i n).words ≡ rows v (count_until (times_of p.batches v) (time_of p.batches i ((task s i).part.ended + 1)) - (link w k).delay) = ap (λ x. x.words) (read_from i n below few all) ∙ words ∙ ap (rows v) number in
      rw (row, read.port, linked) refl

  pub take_sound : (i r : ℕ) → i < length p.diagram.tasks → rule.refusal w s (Take i r) ≡ None → Sound p w rows (rule.next p w s (Take i r))
  take_sound i r named free =
      let below : i < length w.tasks = there i named in
      let ok : TaskSound p w rows i (task_entry s i) (task s i) = sound.tasks i below in
      let shape : TaskShape w (declared_task p i) i (task_entry s i).aimed (task s i) = sound.shape.each_task i below in
      let n : ℕ = rule.turn_at (task s i).part.place in
      let at : (task s i).part.place ≡ place.Take n = at_take w s i r free in
      let few : n < length (wired_task w i).reads = place_in p w s sound.shape i (place.Take n) below at in
      let count : taken_by (length (wired_task w i).reads) (task s i).part.place ≡ n = ap (taken_by (length (wired_task w i).reads)) at in
      let next : taken_by (length (wired_task w i).reads) (move.read_place (length (wired_task w i).reads) (n + 1)) ≡ n + 1 = taken_read (length (wired_task w i).reads) (n + 1) (omega arith) in
      let kind : (rule.place_kind (wired_task w i) (task s i).part.place).1 ≡ r = (next_none broken.TaskPlace (rule.place_kind (wired_task w i) (task s i).part.place) 8 r (or_else_none _ _ free).0).1 in
      let number : (read_at (wired_task w i) n).read ≡ r = sym (ap (λ (q : Place). (rule.place_kind (wired_task w i) q).1) at) ∙ kind in
      let spot : ℕ = length (declared_task p i).states + length (declared_task p i).senses + r in
      let here : place_of_read p w i n ≡ spot = ap (λ (x : ℕ). length (declared_task p i).states + length (declared_task p i).senses + x) number in
      let room : spot < length (task s i).work.now = omega (arith, shape.now, number, ((own.whole.each_task i below).each_read n few).read) in
      let word : ℤ = rule.read_value w s i n in
      goes_sound i (move.after_take (wired_task w i) (task s i).part n) (move.with_read (declared_task p i) (task s i).work r (rule.read_value w s i n)) below (step_kept p w s sound.shape (Take i r) named free)
      (subst (λ (q : Place). IsEarly q) (sym at) (early_take n)) (early_read (length (wired_task w i).reads) (n + 1)) refl ok.heard
      (take_past (length (declared_task p i).states) spot (task s i).work.now (rule.read_value w s i n) (omega arith))
      (λ m less. elim (cases_eq m n) [
        | inl same ↦ rw (same, here, get_or-set_same (task s i).work.now spot (rule.read_value w s i n) (pos 0) room) (take_word i n below at)
        | inr other ↦
            let apart : place_of_read p w i m ≢ spot = λ also. other (own.turns i m n below (omega arith) few (omega (arith, also, number))) in
            get_or-set_other (task s i).work.now spot (place_of_read p w i m) (rule.read_value w s i n) (pos 0) apart ∙ ok.taken m (omega arith)
      ])
      refl (old_orders i) (λ k fits into m takes. absurd (take_read (length (wired_task w i).reads) (n + 1) m takes))
