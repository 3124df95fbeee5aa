-- A step of a seat is one that the table allows it, and its play is said.
use Rattle.std.proofs.Common.{◌≡◌, ℕ, ◌<◌, length, get_or, Some, refl, sym, ◌∙◌, ap, subst, arith}
use Rattle.std.proofs.lemmas.Option.{same_Some}
use Rattle.atomic_table.specs.Table.{Allows, keeps}
use Rattle.dbp_plan.specs.declared.plan.Plan.{Plan}
use Rattle.dbp_slots.specs.Layout.{sizes}
use Rattle.dbp_slots.specs.TableWords.{IsWord, TableWord, address_of, sizes_of, word_count}
use Rattle.dbp_slots.proofs.Spots.{word_inside}
use Rattle.dbp_rules.specs.LoadedWords.{loaded_of}
use Rattle.dbp_rules.specs.declared.step.Step.{Step}
use Rattle.word_rule.specs.OwnSteps.{IsOwnStep, view_after}
use Rattle.word_rule.specs.Plays.{Makes, OneStep, Seated, address_in}
use Rattle.word_rule.specs.Roles.{number_stored, run_wiring, word_loaded, word_stored}
use Rattle.word_rule.specs.Showing.{Keeps}
use Rattle.word_rule.specs.declared.seats.SlotWords.{SlotWords}
use Rattle.word_rule.specs.declared.views.View.{View}
use Rattle.word_rule.proofs.StepLaws.{keeps_loaded, keeps_stored, loaded_there, nothing_there, promise_after, range_after, shape_after}

module _ (slots id : ℕ) (me : Seated) (e : Step) (own : IsOwnStep me.0.plan me.0 e) (q : TableWord) where
  abbrev v : View
  v = me.0

  abbrev address : ℕ
  address = address_of (sizes_of v.plan.diagram) q

  -- a step that loads the word q
  load_allowed : word_loaded (run_wiring v.plan) v.role e ≡ Some q → (then : ℕ → Seated → Type 0) → ((x : ℕ) (new : Seated) → OneStep me new → Makes e (loaded_of e x) me new → then x new)
      → Allows (Keeps v.plan) slots id me address (λ n. n) then
  load_allowed loads then tell t h len there fits =
      let x = get_or t.words address 0 in
      let is = loaded_there v.plan t h id v there e own.named own.mine own.free own.put q loads in (
        view_after v.plan v e (loaded_of e x),
        keeps,
        tt,
        (keeps_loaded v.plan t h id v there e own.named own.mine own.free own.put q loads x refl).after,
        tell x (view_after v.plan v e (loaded_of e x), me.1) (record { plan = refl; steps = refl; slots = refl }) (record {
          part = refl;
          loads = range_after v.plan t h id v there e own.named own.mine own.free own.put (loaded_of e x) is;
          promise = promise_after v.plan t h id v there e own.named own.mine own.free own.put (loaded_of e x) is;
          shape = shape_after v.plan t h id v there e own.named own.mine own.free own.put (loaded_of e x) is;
        }),
      )

  -- a step that stores x into the word q
  store_allowed : word_stored v.role e ≡ Some q → (x : ℕ) → number_stored v.plan v.role e ≡ x → (then : Seated → Type 0) → ((new : Seated) → OneStep me new → Makes e (loaded_of e 0) me new → then new)
      → Allows (Keeps v.plan) slots id me address (λ _. x) (λ _. then)
  store_allowed stores x number then tell t h len there fits =
      let is = nothing_there v.plan t h id v there e own.named own.mine own.free own.put q stores in (
        view_after v.plan v e (loaded_of e 0),
        keeps,
        tt,
        rw (← number) (keeps_stored v.plan t h id v there e own.named own.mine own.free own.put q stores).after,
        tell (view_after v.plan v e (loaded_of e 0), me.1) (record { plan = refl; steps = refl; slots = refl }) (record {
          part = refl;
          loads = range_after v.plan t h id v there e own.named own.mine own.free own.put (loaded_of e 0) is;
          promise = promise_after v.plan t h id v there e own.named own.mine own.free own.put (loaded_of e 0) is;
          shape = shape_after v.plan t h id v there e own.named own.mine own.free own.put (loaded_of e 0) is;
        }),
      )

-- a step of a party loads one word
pub one_word_loaded : (me : Seated) (e d : Step) (q r : TableWord) → word_loaded (run_wiring me.0.plan) me.0.role e ≡ Some q → e ≡ d
    → word_loaded (run_wiring me.0.plan) me.0.role d ≡ Some r → address_in me q ≡ address_in me r
one_word_loaded me e d q r loads same other = ap (address_in me) (same_Some q r (sym loads ∙ ap (λ (x : Step). word_loaded (run_wiring me.0.plan) me.0.role x) same ∙ other))

-- ---- at the terms of a call

-- the seat of the words whose view has their plan
module _ (w : SlotWords) (me : Seated) (here : me.0.plan ≡ w.plan) where
  pub in_key : me.0.plan ≡ w.table.shared.key
  in_key = here ∙ sym w.keyed

  pub wiring_is : run_wiring me.0.plan ≡ w.wiring
  wiring_is = ap run_wiring here ∙ sym w.wired

  pub sizes_are : sizes w.layout ≡ sizes_of me.0.plan.diagram
  sizes_are = w.laid ∙ ap (λ (x : Plan). sizes_of x.diagram) (sym here)

  pub same_tasks : length w.plan.diagram.tasks ≡ length me.0.plan.diagram.tasks
  same_tasks = ap (λ (x : Plan). length x.diagram.tasks) (sym here)

  pub same_links : length w.plan.diagram.links ≡ length me.0.plan.diagram.links
  same_links = ap (λ (x : Plan). length x.diagram.links) (sym here)

  address_fits : (q : TableWord) → IsWord (sizes_of me.0.plan.diagram) q → address_of (sizes_of me.0.plan.diagram) q < w.table.shared.table_id.words
  address_fits q inside =
      let below = (word_inside (sizes_of me.0.plan.diagram) q inside).1 in
      let size = w.sized ∙ ap (λ (x : Plan). word_count (sizes_of x.diagram)) (sym here) in
      omega arith

  module _ (slots id : ℕ) (e : Step) (own : IsOwnStep me.0.plan me.0 e) (q : TableWord) (inside : IsWord (sizes_of me.0.plan.diagram) q) (a : ℕ) (at : a ≡ address_of (sizes_of me.0.plan.diagram) q) where
    -- what a load of the table requires, if its play at the address is `then`
    pub may_load : word_loaded (run_wiring me.0.plan) me.0.role e ≡ Some q → (then : ℕ → ℕ → Seated → Type 0)
        → ((x : ℕ) (new : Seated) → OneStep me new → Makes e (loaded_of e x) me new → then (address_of (sizes_of me.0.plan.diagram) q) x new)
        → (a < w.table.shared.table_id.words) × Allows (Keeps w.table.shared.key) slots id me a (λ n. n) (then a)
    may_load loads then tell =
        let fits = address_fits q inside in (
          omega arith,
          subst (λ (n : ℕ). Allows (Keeps w.table.shared.key) slots id me n (λ n. n) (then n)) (sym at)
              (subst (λ (k : Plan). Allows (Keeps k) slots id me (address_of (sizes_of me.0.plan.diagram) q) (λ n. n) (then (address_of (sizes_of me.0.plan.diagram) q))) in_key
              (load_allowed slots id me e own q loads (then (address_of (sizes_of me.0.plan.diagram) q)) tell)),
        )

    -- what a store of x requires
    pub may_store : word_stored me.0.role e ≡ Some q → (x : ℕ) → number_stored me.0.plan me.0.role e ≡ x → (then : ℕ → Seated → Type 0)
        → ((new : Seated) → OneStep me new → Makes e (loaded_of e 0) me new → then (address_of (sizes_of me.0.plan.diagram) q) new)
        → (a < w.table.shared.table_id.words) × Allows (Keeps w.table.shared.key) slots id me a (λ _. x) (λ _. then a)
    may_store stores x number then tell =
        let fits = address_fits q inside in (
          omega arith,
          subst (λ (n : ℕ). Allows (Keeps w.table.shared.key) slots id me n (λ _. x) (λ _. then n)) (sym at)
              (subst (λ (k : Plan). Allows (Keeps k) slots id me (address_of (sizes_of me.0.plan.diagram) q) (λ _. x) (λ _. then (address_of (sizes_of me.0.plan.diagram) q))) in_key
              (store_allowed slots id me e own q stores x number (then (address_of (sizes_of me.0.plan.diagram) q)) tell)),
        )
