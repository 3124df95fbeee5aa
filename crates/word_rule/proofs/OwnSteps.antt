-- A step that its party's part allows is one of the state that the table shows: what it loads, what it stores, and what it
-- makes of the part.
use Rattle.std.proofs.Common.{◌≡◌, ℕ, ℤ, pos, ◌+◌, ◌^◌, ◌<◌, List, length, Some, None, true, inl, inr, refl, sym, ◌∙◌, ap, subst, arith}
use Rattle.std.proofs.lemmas.Bool.{cases_Bool}
use Rattle.std.proofs.lemmas.Option.{same_Some}
use Rattle.std.specs.Prelude.{FitsSigned, slice_index_or}
use Rattle.std.specs.Int.{w64}
use Rattle.dbp_plan.specs.declared.plan.Plan.{Plan}
use Rattle.dbp_plan.specs.Lookups.{declared_task, no_read}
use Rattle.sync_meaning.specs.SomeMeaning.{meaning_of, meaning_of-is}
use Rattle.dbp_slots.specs.TableWords.{IsWord, Sizes, TableWord, sizes_of}
use Rattle.dbp_rules.specs.LoadedWords.{loaded_by, loaded_in, loaded_of, number_of_releaser, number_of_task, number_to_load, stored_number}
use Rattle.dbp_rules.specs.PartyRules.{Loaded, is_stamp_of, no_word, read_order_in, releaser_after, releaser_refusal, task_after, task_refusal, turn_at}
use Rattle.dbp_rules.specs.Lookups.{link, task, wired_task}
use Rattle.dbp_rules.specs.Promises.{IsMeant}
use Rattle.dbp_rules.specs.Rules as rule
use Rattle.dbp_rules.specs.SharedWords.{made_by, maker_part, stored_by, stored_in, value_in}
use Rattle.dbp_rules.specs.Sound.{Sound}
use Rattle.dbp_rules.specs.SoundParts.{shut_by}
use Rattle.dbp_rules.specs.WordRanges.{PutWordFits, SlotWordsFit}
use Rattle.dbp_rules.specs.declared.parts.ReleaserPart.{ReleaserPart}
use Rattle.dbp_rules.specs.declared.parts.TaskPart.{TaskPart}
use Rattle.dbp_rules.specs.declared.state.State.{State}
use Rattle.dbp_rules.specs.declared.step.Count.TheVariants.{All}
use Rattle.dbp_rules.specs.declared.step.Heard.TheVariants as heard
use Rattle.dbp_rules.specs.declared.step.Step.{Step}
use Rattle.dbp_rules.specs.declared.step.Step.TheVariants.{Seen, Aim, Claim, OpenGate, Start, Hear, Look, Take, Shut, Put, Done, End}
use Rattle.dbp_rules.specs.declared.wiring.Wiring.{Wiring}
use Rattle.dbp_rules.proofs.LoadedWords.{loaded_inside, loads_number}
use Rattle.dbp_rules.proofs.Parties.{releaser_loads, releaser_moved, releaser_refused, task_loads, task_moved, task_refused}
use Rattle.dbp_rules.proofs.SoundAnswers.{delayed_hears}
use Rattle.dbp_rules.proofs.SoundOwn.{own_wiring}
use Rattle.dbp_rules.proofs.StepPlaces.{at_put}
use Rattle.dbp_rules.proofs.StoredNumbers.{number_stored, stored_inside}
use Rattle.dbp_rules.proofs.TableSizes.{same_sizes, slots_few}
use Rattle.dbp_rules.proofs.TakenWords.{take_meant}
use Rattle.dbp_rules.proofs.WiringParts.{wired_tasks}
use Rattle.word_rule.specs.Roles as role
use Rattle.word_rule.specs.Roles.{PutFits, RoleLoads, RolePromise, meaning_row, role_after, role_refusal, run_wiring, task_of, task_part_of}
use Rattle.word_rule.specs.Showing.{ShowsRole}
use Rattle.word_rule.specs.declared.views.Role.{Role}
use Rattle.word_rule.specs.declared.views.Role.TheVariants.{Releaser, Task}
use Rattle.word_rule.proofs.Showings.{releaser_at, task_at}

-- a step that loads a word stores none
pub loads_alone : (w : Wiring) (t : TaskPart) (e : Step) (q : TableWord) → loaded_in w t e ≡ Some q → stored_in t e ≡ None
loads_alone w t (Seen i) q is = refl
loads_alone w t (Aim i slot) q is = absurd (cc (is))
loads_alone w t (Claim k) q is = absurd (cc (is))
loads_alone w t (OpenGate i) q is = absurd (cc (is))
loads_alone w t (Start i) q is = refl
loads_alone w t (Hear i) q is = refl
loads_alone w t (Look i r) q is = refl
loads_alone w t (Take i r) q is = refl
loads_alone w t (Shut i) q is = absurd (cc (is))
loads_alone w t (Put i port) q is = absurd (cc (is))
loads_alone w t (Done i) q is = absurd (cc (is))
loads_alone w t (End i) q is = absurd (cc (is))

-- a step that stores a word loads none
pub stores_alone : (w : Wiring) (t : TaskPart) (e : Step) (q : TableWord) → stored_in t e ≡ Some q → loaded_in w t e ≡ None
stores_alone w t (Seen i) q is = absurd (cc (is))
stores_alone w t (Aim i slot) q is = refl
stores_alone w t (Claim k) q is = refl
stores_alone w t (OpenGate i) q is = refl
stores_alone w t (Start i) q is = absurd (cc (is))
stores_alone w t (Hear i) q is = absurd (cc (is))
stores_alone w t (Look i r) q is = absurd (cc (is))
stores_alone w t (Take i r) q is = absurd (cc (is))
stores_alone w t (Shut i) q is = refl
stores_alone w t (Put i port) q is = refl
stores_alone w t (Done i) q is = refl
stores_alone w t (End i) q is = refl

-- and hears nothing
pub stores_silent : (t : TaskPart) (e : Step) (q : TableWord) → stored_in t e ≡ Some q → loaded_of e 0 ≡ no_word
stores_silent t (Seen i) q is = absurd (cc (is))
stores_silent t (Aim i slot) q is = refl
stores_silent t (Claim k) q is = refl
stores_silent t (OpenGate i) q is = refl
stores_silent t (Start i) q is = absurd (cc (is))
stores_silent t (Hear i) q is = absurd (cc (is))
stores_silent t (Look i r) q is = absurd (cc (is))
stores_silent t (Take i r) q is = absurd (cc (is))
stores_silent t (Shut i) q is = refl
stores_silent t (Put i port) q is = refl
stores_silent t (Done i) q is = refl
stores_silent t (End i) q is = refl

module _ (p : Plan) (split : ℕ) (s : State) (sound : Sound p (run_wiring p) (meaning_row p) s) (fit : SlotWordsFit s) (id : ℕ) where
  few_slots : (i : ℕ) → i < length (run_wiring p).tasks → (wired_task (run_wiring p) i).slots < 2 ^ 32
  few_slots i below = slots_few p All i (let n = wired_tasks p All in omega arith)

  -- ---- refusal and the maker's part

  pub allowed : (v : Role) → ShowsRole split s id v → (e : Step) → made_by e ≡ task_of v → role_refusal (run_wiring p) v e ≡ None → rule.refusal (run_wiring p) s e ≡ None
  allowed (Releaser r seats) shown e mine free =
      let me = releaser_at split s id r seats shown in
      releaser_refused (run_wiring p) s e mine ∙ (ap (λ (x : ReleaserPart). releaser_refusal (run_wiring p) x e) (sym me.1) ∙ free)
  allowed (Task i t) shown e mine free =
      let me = task_at split s id i t shown in
      task_refused (run_wiring p) s e i refl mine ∙ (ap (λ (x : TaskPart). task_refusal (wired_task (run_wiring p) i) x e) (sym me.1) ∙ free)

  pub maker : (v : Role) → ShowsRole split s id v → (e : Step) → made_by e ≡ task_of v → maker_part s e ≡ task_part_of v
  maker (Releaser r seats) shown e mine = rw mine refl
  maker (Task i t) shown e mine = let me = task_at split s id i t shown in rw mine (sym me.1)

  module _ (e : Step) (named : rule.IsNamed p.diagram e) (free : rule.refusal (run_wiring p) s e ≡ None) where
    abbrev l : Loaded
    l = rule.loaded_value (run_wiring p) s e

    abbrev new : State
    new = rule.next p (run_wiring p) s e

    -- ---- the next part

    -- the tasks of the state are the diagram's
    task_there : (i : ℕ) → i < length p.diagram.tasks → i < length s.tasks
    task_there i below = let a = sound.shape.tasks in let b = wired_tasks p All in omega arith

    pub moved : (v : Role) → ShowsRole split s id v → made_by e ≡ task_of v → ((i : ℕ) → task_of v ≡ Some i → i < length p.diagram.tasks) → ShowsRole split new id (role_after (run_wiring p) v e l)
    moved (Releaser r seats) shown mine below =
        let me = releaser_at split s id r seats shown in
        rw me.0 (ap (λ (x : ReleaserPart). releaser_after (run_wiring p) x e l) me.1 ∙ sym (releaser_moved p (run_wiring p) s e mine), me.2)
    moved (Task i t) shown mine below =
        let me = task_at split s id i t shown in
        rw me.0 (refl, ap (λ (x : TaskPart). task_after (wired_task (run_wiring p) i) x e l) me.1 ∙ sym (task_moved p (run_wiring p) s e i (task_there i (below i refl)) mine))

    pub in_range : (v : Role) → ShowsRole split s id v → made_by e ≡ task_of v → ((i : ℕ) → task_of v ≡ Some i → i < length p.diagram.tasks) → RoleLoads (run_wiring p) v e l
    in_range (Releaser r seats) shown mine below =
        let me = releaser_at split s id r seats shown in
        rw me.1 (releaser_loads p (run_wiring p) (meaning_row p) s sound e named)
    in_range (Task i t) shown mine below =
        let me = task_at split s id i t shown in
        rw me.1 (task_loads p (run_wiring p) (meaning_row p) s sound e i (below i refl) mine free)

    -- ---- what it loads

    pub loads_word : (q : TableWord) → loaded_by (run_wiring p) s e ≡ Some q → IsWord (sizes_of p.diagram) q
    loads_word q is = subst (λ (x : Sizes). IsWord x q) (same_sizes p) (loaded_inside p (run_wiring p) s sound.shape e q named free is)

    pub loads_from : (q : TableWord) → loaded_by (run_wiring p) s e ≡ Some q → rule.loaded_value (run_wiring p) s e ≡ loaded_of e (value_in s q)
    loads_from q is =
        let number : number_to_load (run_wiring p) s e ≡ value_in s q = rw is refl in
        loads_number p (run_wiring p) s sound.shape few_slots fit e named free ∙ ap (loaded_of e) number

    pub loads_nothing : loaded_by (run_wiring p) s e ≡ None → rule.loaded_value (run_wiring p) s e ≡ loaded_of e 0
    loads_nothing is =
        let number : number_to_load (run_wiring p) s e ≡ 0 = rw is refl in
        loads_number p (run_wiring p) s sound.shape few_slots fit e named free ∙ ap (loaded_of e) number

    -- ---- what it stores

    pub stores_word : (q : TableWord) → stored_by s e ≡ Some q → IsWord (sizes_of p.diagram) q
    stores_word q is = subst (λ (x : Sizes). IsWord x q) (same_sizes p) (stored_inside p (run_wiring p) s sound.shape e q named free is)

    pub stores_number : (q : TableWord) → stored_by s e ≡ Some q → value_in new q ≡ stored_number (run_wiring p) s e
    stores_number q is = number_stored p (run_wiring p) s sound.shape e q named free is

  -- the row of a task that puts is its instance's by the meaning
  put_row : (i port : ℕ) (t : TaskPart) → i < length p.diagram.tasks → t ≡ (task s i).part → rule.refusal (run_wiring p) s (Put i port) ≡ None → (task s i).work.row ≡ meaning_row p i (t.ended + 1)
  put_row i port t below is free =
      let inside : i < length (run_wiring p).tasks = let n = wired_tasks p All in omega arith in
      let shut : shut_by (task s i).part.place ≡ 1 = ap shut_by (at_put (run_wiring p) s i port free) in
      let ended : (task s i).part.ended ≡ t.ended = ap (λ (x : TaskPart). x.ended) (sym is) in
      (sound.tasks i inside).row ∙ ap (meaning_row p i) (omega (arith, shut, ended))

  -- the number that a task stores is said by its part
  numbers : (i : ℕ) (t : TaskPart) → i < length p.diagram.tasks → t ≡ (task s i).part → (e : Step) → Some i ≡ made_by e → rule.refusal (run_wiring p) s e ≡ None
      → number_of_task (task s i).part (task s i).work.row e ≡ number_of_task t (meaning_row p i (t.ended + 1)) e
  numbers i t below is (Put j port) mine free =
      let one : j ≡ i = same_Some j i (sym mine) in
      ap (λ (x : List ℤ). number_of_task t x (Put j port)) (put_row i port t below is (subst (λ (k : ℕ). rule.refusal (run_wiring p) s (Put k port) ≡ None) one free))
  numbers i t below is (Seen j) mine free = refl
  numbers i t below is (Aim j slot) mine free = refl
  numbers i t below is (Claim k) mine free = refl
  numbers i t below is (OpenGate j) mine free = refl
  numbers i t below is (Start j) mine free = refl
  numbers i t below is (Hear j) mine free = refl
  numbers i t below is (Look j r) mine free = refl
  numbers i t below is (Take j r) mine free = refl
  numbers i t below is (Shut j) mine free = refl
  numbers i t below is (Done j) mine free = ap (λ (x : TaskPart). x.ended + 2) (sym is)
  numbers i t below is (End j) mine free = ap (λ (x : TaskPart). x.ended + 1) (sym is)

  pub number_is : (v : Role) → ShowsRole split s id v → (e : Step) → made_by e ≡ task_of v → ((i : ℕ) → task_of v ≡ Some i → i < length p.diagram.tasks) → rule.refusal (run_wiring p) s e ≡ None
      → stored_number (run_wiring p) s e ≡ role.number_stored p v e
  number_is (Releaser r seats) shown e mine below free =
      let me = releaser_at split s id r seats shown in
      rw mine (ap (λ (x : ReleaserPart). number_of_releaser (run_wiring p) x e) (sym me.1))
  number_is (Task i t) shown e mine below free =
      let me = task_at split s id i t shown in
      rw mine (numbers i t (below i refl) me.1 e (sym mine) free)

  -- the word of a put has 64 bits
  pub put_fits : (v : Role) → ShowsRole split s id v → (e : Step) → made_by e ≡ task_of v → ((i : ℕ) → task_of v ≡ Some i → i < length p.diagram.tasks) → rule.refusal (run_wiring p) s e ≡ None → PutFits p v e → PutWordFits s e
  put_fits (Task i t) shown (Put j port) mine below free fits =
      let me = task_at split s id i t shown in
      let one : j ≡ i = same_Some j i mine in
      let row = put_row i port t (below i refl) me.1 (subst (λ (k : ℕ). rule.refusal (run_wiring p) s (Put k port) ≡ None) one free) in
      subst (λ (k : ℕ). FitsSigned w64 (slice_index_or (task s k).work.row port (pos 0))) (sym one) (subst (λ (x : List ℤ). FitsSigned w64 (slice_index_or x port (pos 0))) (sym row) fits)
  put_fits (Releaser r seats) shown (Put j port) mine below free fits = absurd (cc (mine))
  put_fits v shown (Seen j) mine below free fits = tt
  put_fits v shown (Aim j slot) mine below free fits = tt
  put_fits v shown (Claim k) mine below free fits = tt
  put_fits v shown (OpenGate j) mine below free fits = tt
  put_fits v shown (Start j) mine below free fits = tt
  put_fits v shown (Hear j) mine below free fits = tt
  put_fits v shown (Look j r) mine below free fits = tt
  put_fits v shown (Take j r) mine below free fits = tt
  put_fits v shown (Shut j) mine below free fits = tt
  put_fits v shown (Done j) mine below free fits = tt
  put_fits v shown (End j) mine below free fits = tt

  -- ---- promises

  one_word : (a b : ℤ) → heard.Word a ≡ heard.Word b → a ≡ b
  one_word a b e = cc (e)

  ready_is : (i r : ℕ) → rule.hears (run_wiring p) s (Look i r) ≡ heard.Ready → rule.is_ready (run_wiring p) s i (turn_at (task s i).part.place) ≡ true
  ready_is i r is = elim (cases_Bool (rule.is_ready (run_wiring p) s i (turn_at (task s i).part.place))) [
    | inl ready ↦ ready
    | inr isnt ↦ let bad : heard.NotYet ≡ heard.Ready = rw isnt at is in absurd (cc (bad))
  ]

  take_promised : (i j r : ℕ) (t : TaskPart) → i < length p.diagram.tasks → t ≡ (task s i).part → j ≡ i → rule.refusal (run_wiring p) s (Take j r) ≡ None → IsMeant p (meaning_of p) i (t.ended + 1) r (rule.read_value (run_wiring p) s j (turn_at (task s j).part.place))
  take_promised i j r t named is one free =
      let takes = take_meant p (run_wiring p) (meaning_of p) s i r (own_wiring p All) (meaning_of-is p) sound named (subst (λ (k : ℕ). rule.refusal (run_wiring p) s (Take k r) ≡ None) one free) in
      let word : takes.word ≡ rule.read_value (run_wiring p) s i (turn_at (task s i).part.place) = sym (one_word (rule.read_value (run_wiring p) s i (turn_at (task s i).part.place)) takes.word takes.hears) in
      subst (λ (k : ℕ). IsMeant p (meaning_of p) i (t.ended + 1) r (rule.read_value (run_wiring p) s k (turn_at (task s k).part.place))) (sym one)
      (subst (λ (y : TaskPart × ℤ). IsMeant p (meaning_of p) i (y.0.ended + 1) r y.1) (λ z. (sym is z, word z)) takes.meant)

  look_promised : (i j r : ℕ) (t : TaskPart) → i < length p.diagram.tasks → t ≡ (task s i).part → j ≡ i → rule.refusal (run_wiring p) s (Look j r) ≡ None
      → 0 < (link (run_wiring p) (slice_index_or (declared_task p i).reads r no_read).link).delay
      → is_stamp_of (read_order_in (wired_task (run_wiring p) i) t (turn_at t.place)) (rule.read_slot (run_wiring p) s j (turn_at (task s j).part.place)).stamp ≡ true
  look_promised i j r t named is one free late =
      let free_here = subst (λ (k : ℕ). rule.refusal (run_wiring p) s (Look k r) ≡ None) one free in
      let ready = ready_is i r (delayed_hears p (run_wiring p) (meaning_row p) s (own_wiring p All) sound i r named free_here late) in
      subst (λ (k : ℕ). is_stamp_of (read_order_in (wired_task (run_wiring p) i) t (turn_at t.place)) (rule.read_slot (run_wiring p) s k (turn_at (task s k).part.place)).stamp ≡ true) (sym one)
      (ap (λ (x : TaskPart). is_stamp_of (read_order_in (wired_task (run_wiring p) i) x (turn_at x.place)) (rule.read_slot (run_wiring p) s i (turn_at (task s i).part.place)).stamp) is ∙ ready)

  pub promised : (v : Role) → ShowsRole split s id v → (e : Step) → made_by e ≡ task_of v → ((i : ℕ) → task_of v ≡ Some i → i < length p.diagram.tasks) → rule.refusal (run_wiring p) s e ≡ None → RolePromise p v e (rule.loaded_value (run_wiring p) s e)
  promised (Releaser r seats) shown e mine below free = tt
  promised (Task i t) shown (Take j r) mine below free = take_promised i j r t (below i refl) (task_at split s id i t shown).1 (same_Some j i mine) free
  promised (Task i t) shown (Look j r) mine below free = look_promised i j r t (below i refl) (task_at split s id i t shown).1 (same_Some j i mine) free
  promised (Task i t) shown (Seen j) mine below free = tt
  promised (Task i t) shown (Aim j slot) mine below free = tt
  promised (Task i t) shown (Claim k) mine below free = tt
  promised (Task i t) shown (OpenGate j) mine below free = tt
  promised (Task i t) shown (Start j) mine below free = tt
  promised (Task i t) shown (Hear j) mine below free = tt
  promised (Task i t) shown (Shut j) mine below free = tt
  promised (Task i t) shown (Put j port) mine below free = tt
  promised (Task i t) shown (Done j) mine below free = tt
  promised (Task i t) shown (End j) mine below free = tt
