-- The calls of a task: each is one step of its part, which the table allows, and its data are those of its view afterwards.
use Rattle.std.proofs.Common.{◌≡◌, ℕ, zero, suc, ◌+◌, ◌*◌, ◌<◌, ◌≤◌, ◌^◌, List, length, Some, None, refl, sym, ◌∙◌, ap, subst, arith}
use Rattle.std.proofs.lemmas.Option.{same_Some}
use mathlib.Core.Option.{none}
use Rattle.atomic_table.specs.Table.{Allows, step}
use Rattle.dbp_plan.specs.declared.diagram.Link.{Link}
use Rattle.dbp_plan.specs.declared.plan.Plan.{Plan}
use Rattle.dbp_slots.specs.Layout.{sizes}
use Rattle.dbp_slots.specs.TableWords.{IsWord, Sizes, address_of, gate, sizes_of}
use Rattle.dbp_rules.specs.LoadedWords.{order_of, sizes_of_wiring, word_of_order}
use Rattle.dbp_rules.specs.PartyRules.{Loaded, a_number, an_order, hears_at, task_after, task_refusal}
use Rattle.dbp_rules.specs.PartyShapes.{TaskPartShape}
use Rattle.dbp_rules.specs.Lookups.{wired_task}
use Rattle.dbp_rules.specs.Shapes.{IsTaskWired, IsWired, OrderFits, PlaceIn, heard_by, link_in, place_number, slot_owner}
use Rattle.dbp_rules.specs.declared.parts.Order.{Order}
use Rattle.dbp_rules.specs.declared.parts.Place.{Place}
use Rattle.dbp_rules.specs.declared.parts.Place.TheVariants as place
use Rattle.dbp_rules.specs.declared.parts.TaskPart.{TaskPart}
use Rattle.dbp_rules.specs.declared.parts.TheConstants.{MAX_ORDERS}
use Rattle.dbp_rules.specs.declared.step.Broken.TheVariants as broken
use Rattle.dbp_rules.specs.declared.step.Count.TheVariants.{All}
use Rattle.dbp_rules.specs.declared.step.Step.{Step}
use Rattle.dbp_rules.specs.declared.step.Step.TheVariants.{Hear, Start}
use Rattle.dbp_rules.specs.declared.wiring.TaskWiring.{TaskWiring}
use Rattle.dbp_rules.specs.declared.wiring.Wiring.{Wiring}
use Rattle.dbp_rules.proofs.Allowed.{at_next}
use Rattle.dbp_rules.proofs.TableSizes.{same_sizes, task_count}
use Rattle.dbp_rules.proofs.WiringParts.{wired_tasks}
use Rattle.dbp_rules.proofs.Wirings.{wiring-whole}
use Rattle.word_rule.specs.OwnSteps.{IsOwnStep}
use Rattle.word_rule.specs.Plays.{Hears, IsTask, Makes, OneStep, Seated, Starts}
use Rattle.word_rule.specs.Roles.{PutFits, RoleLoads, RoleShape, role_after, role_refusal, run_wiring, task_of, word_loaded}
use Rattle.word_rule.specs.Seats.{TaskSits}
use Rattle.word_rule.specs.Showing.{Keeps}
use Rattle.word_rule.specs.declared.seats.SlotWords.{SlotWords}
use Rattle.word_rule.specs.declared.seats.TaskSeat.{TaskSeat}
use Rattle.word_rule.specs.declared.views.Role.{Role}
use Rattle.word_rule.specs.declared.views.Role.TheVariants.{Task}
use Rattle.word_rule.proofs.SeatSteps.{may_load, one_word_loaded, same_tasks, sizes_are, wiring_is}

-- what a task's seat has after its step
pub task_then : (me new : Seated) (i : ℕ) (t : TaskPart) (e : Step) (l : Loaded) → IsTask me i t → OneStep me new → Makes e l me new → IsTask new i (task_after (wired_task (run_wiring me.0.plan) i) t e l)
task_then me new i t e l is one makes =
    let after : TaskPart = task_after (wired_task (run_wiring me.0.plan) i) t e l in
    let now : new.0.role ≡ Task i after = makes.part ∙ ap (λ (x : Role). role_after (run_wiring me.0.plan) x e l) is.role in
    let shape : TaskPartShape (run_wiring me.0.plan) i after = subst (RoleShape me.0.plan) now makes.shape in
    record {
      role = now;
      no_slots = one.slots ∙ is.no_slots;
      named = subst (λ (p : Plan). i < length p.diagram.tasks) (sym one.plan) is.named;
      shape = subst (λ (p : Plan). TaskPartShape (run_wiring p) i after) (sym one.plan) shape;
    }

-- the order at a place of the task is a word of the table
order_word_inside : (p : Plan) (w : Wiring) → IsWired p w → sizes_of_wiring w ≡ sizes_of p.diagram → (i : ℕ) → i < length w.tasks → (n : ℕ) → n < 1 + length (wired_task w i).links → IsWord (sizes_of p.diagram) (word_of_order w i n)
order_word_inside p w whole same i inside zero few = let a = ap (λ (x : Sizes). length x.tasks) same in let b = task_count w in omega arith
order_word_inside p w whole same i inside (suc n) few =
    let below : link_in (wired_task w i) n < length w.links = (whole.each_task i inside).into n (omega arith) in
    let a = ap (λ (x : Sizes). x.links) same in omega arith

module _ (w : SlotWords) (s : TaskSeat) (here : TaskSits w s) where
  abbrev me : Seated
  me = s.seat.me

  abbrev p : Plan
  p = s.seat.me.0.plan

  abbrev o : Wiring
  o = run_wiring s.seat.me.0.plan

  abbrev i : ℕ
  i = s.task

  pub shape : TaskPartShape o s.task s.part
  shape = s.same.shape

  whole : IsWired p o
  whole = wiring-whole p All

  pub inside : s.task < length o.tasks
  inside = let a = wired_tasks p All in let b = s.same.named in omega arith

  pub task_wired : IsTaskWired p o s.task (wired_task o s.task)
  task_wired = whole.each_task s.task inside

  pub task_named : s.task < length w.plan.diagram.tasks
  task_named = let a = same_tasks w me here.1 in let b = s.same.named in omega arith

  pub task_word : s.task < length (sizes_of p.diagram).tasks
  task_word = let a = inside in let b = ap (λ (x : Sizes). length x.tasks) (same_sizes p) in let c = task_count o in omega arith

  pub task_in_layout : s.task < length (sizes w.layout).tasks
  task_in_layout = let a = task_word in let b = ap (λ (x : Sizes). length x.tasks) (sizes_are w me here.1) in omega arith

  pub wired_is : wired_task o s.task ≡ wired_task w.wiring s.task
  wired_is = ap (λ (x : Wiring). wired_task x s.task) (wiring_is w me here.1)

  pub own_free : (e : Step) → task_refusal (wired_task w.wiring s.task) s.part e ≡ None → task_refusal (wired_task o s.task) s.part e ≡ None
  own_free e free = ap (λ (x : TaskWiring). task_refusal x s.part e) wired_is ∙ free

  pub role_task : task_of me.0.role ≡ Some s.task
  role_task = ap task_of s.same.role

  -- the seat's party is one task
  pub one_task : (j : ℕ) → task_of me.0.role ≡ Some j → s.task ≡ j
  one_task j is = same_Some s.task j (sym role_task ∙ is)

  -- ---- start

  start_own : task_refusal (wired_task w.wiring s.task) s.part (Start s.task) ≡ None → IsOwnStep p s.seat.me.0 (Start s.task)
  start_own free = record {
    named = s.same.named;
    mine = sym role_task;
    free = ap (λ (x : Role). role_refusal o x (Start s.task)) s.same.role ∙ own_free (Start s.task) free;
    put = subst (λ (x : Role). PutFits p x (Start s.task)) (sym s.same.role) tt;
  }

  pub start_ended : s.part.ended + 1 < 2 ^ 32
  start_ended = let a = shape.occurs in let b = task_wired.few in omega arith

  start_range : (x : ℕ) (new : Seated) → Makes (Start s.task) (a_number x) me new → x ≤ length (wired_task o s.task).times
  start_range x new makes = subst (λ (r : Role). RoleLoads o r (Start s.task) (a_number x)) s.same.role makes.loads

  pub start_load : task_refusal (wired_task w.wiring s.task) s.part (Start s.task) ≡ None → (a slots : ℕ) → a ≡ 1 + 3 * s.task
      → (a < w.table.shared.table_id.words) × Allows (Keeps w.table.shared.key) slots s.seat.id me a (λ n. n) (Starts (step slots a 0 0 none) me)
  start_load free a slots at =
      may_load w me here.1 slots s.seat.id (Start s.task) (start_own free) (gate s.task) task_word a at refl (λ n. Starts (step slots n 0 0 none) me)
      (λ x new one makes. record {
        one = one;
        small = let few = start_range x new makes in let all = task_wired.few in omega arith;
        word = λ j is q loads. one_word_loaded me (Start s.task) (Start j) (gate s.task) q refl (ap Start (one_task j is)) loads;
        makes = λ j is. subst (λ (k : ℕ). Makes (Start k) (a_number x) me new) (one_task j is) makes;
      })

  pub start_then : (x a slots : ℕ) (new : Seated) (part : TaskPart) → Starts (step slots a 0 0 none) me x new → part ≡ task_after (wired_task w.wiring s.task) s.part (Start s.task) (a_number x) → IsTask new s.task part
  start_then x a slots new part starts is = subst (IsTask new s.task) (sym is) (task_then me new s.task s.part (Start s.task) (a_number x) s.same starts.one (starts.makes s.task role_task))

  -- ---- hear

  module _ (free : task_refusal (wired_task w.wiring s.task) s.part (Hear s.task) ≡ None) where
    hear_own : IsOwnStep p s.seat.me.0 (Hear s.task)
    hear_own = record {
      named = s.same.named;
      mine = sym role_task;
      free = ap (λ (x : Role). role_refusal o x (Hear s.task)) s.same.role ∙ own_free (Hear s.task) free;
      put = subst (λ (x : Role). PutFits p x (Hear s.task)) (sym s.same.role) tt;
    }

    hear_place : s.part.place ≡ place.Hear (hears_at s.part.place)
    hear_place =
        let first : s.part.place ≡ place.Hear (place_number s.part.place) = at_next broken.TaskPlace (wired_task o s.task) s.part.place 6 0 (own_free (Hear s.task) free) in
        first ∙ ap (λ (n : ℕ). place.Hear n) (sym (ap hears_at first))

    hear_few : hears_at s.part.place < 1 + length (wired_task o s.task).links
    hear_few = subst (λ (q : Place). PlaceIn (wired_task o s.task) q) hear_place shape.place

    hear_count : length s.part.heard.items ≡ hears_at s.part.place
    hear_count = shape.heard ∙ ap (heard_by (1 + length (wired_task o s.task).links)) hear_place

    pub hear_room : length s.part.heard.items < MAX_ORDERS
    hear_room = let a = hear_few in let b = hear_count in let c = task_wired.links in omega arith

    pub hear_links : 1 + length (wired_task w.wiring s.task).links < 2 ^ 32
    hear_links = let a = task_wired.links in let b = ap (λ (x : TaskWiring). length x.links) wired_is in omega arith

    pub hear_number : hears_at s.part.place + 1 < 2 ^ 32
    hear_number = let a = hear_few in let b = task_wired.links in omega arith

    hear_at : (a : ℕ) → a ≡ address_of (sizes_of w.plan.diagram) (word_of_order w.wiring s.task (hears_at s.part.place)) → a ≡ address_of (sizes_of p.diagram) (word_of_order o s.task (hears_at s.part.place))
    hear_at a at =
        at ∙ ap (λ (x : Plan). address_of (sizes_of x.diagram) (word_of_order w.wiring s.task (hears_at s.part.place))) (sym here.1)
        ∙ ap (λ (x : Wiring). address_of (sizes_of p.diagram) (word_of_order x s.task (hears_at s.part.place))) (sym (wiring_is w me here.1))

    pub hear_load : (a slots : ℕ) → a ≡ address_of (sizes_of w.plan.diagram) (word_of_order w.wiring s.task (hears_at s.part.place))
        → (a < w.table.shared.table_id.words) × Allows (Keeps w.table.shared.key) slots s.seat.id me a (λ n. n) (Hears (step slots a 0 0 none) me)
    hear_load a slots at =
        may_load w me here.1 slots s.seat.id (Hear s.task) hear_own (word_of_order o s.task (hears_at s.part.place)) (order_word_inside p o whole (same_sizes p) s.task inside (hears_at s.part.place) hear_few)
        a (hear_at a at) (ap (λ (r : Role). word_loaded o r (Hear s.task)) s.same.role) (λ n. Hears (step slots n 0 0 none) me)
        (λ x new one makes. record {
          one = one;
          word = λ j is q loads. one_word_loaded me (Hear s.task) (Hear j) (word_of_order o s.task (hears_at s.part.place)) q (ap (λ (r : Role). word_loaded o r (Hear s.task)) s.same.role) (ap Hear (one_task j is)) loads;
          makes = λ j is. subst (λ (k : ℕ). Makes (Hear k) (an_order (order_of x)) me new) (one_task j is) makes;
        })

    pub hear_then : (x a slots : ℕ) (new : Seated) (part : TaskPart) (order : Order) → Hears (step slots a 0 0 none) me x new → order ≡ order_of x → part ≡ task_after (wired_task w.wiring s.task) s.part (Hear s.task) (an_order order)
        → IsTask new s.task part
    hear_then x a slots new part order hears read is =
        let after : IsTask new s.task (task_after (wired_task o s.task) s.part (Hear s.task) (an_order (order_of x))) =
        task_then me new s.task s.part (Hear s.task) (an_order (order_of x)) s.same hears.one (hears.makes s.task role_task) in
        subst (IsTask new s.task)
        (ap (λ (y : TaskWiring). task_after y s.part (Hear s.task) (an_order (order_of x))) wired_is ∙ ap (λ (r : Order). task_after (wired_task w.wiring s.task) s.part (Hear s.task) (an_order r)) (sym read) ∙ sym is)
        after

    pub hear_fits : (x a slots : ℕ) (new : Seated) (order : Order) → Hears (step slots a 0 0 none) me x new → order ≡ order_of x → OrderFits (wired_task w.wiring (slot_owner w.wiring s.task (hears_at s.part.place))) order
    hear_fits x a slots new order hears read =
        let loads = (hears.makes s.task role_task).loads in
        let fits : OrderFits (wired_task o (slot_owner o s.task (hears_at s.part.place))) (order_of x) = subst (λ (r : Role). RoleLoads o r (Hear s.task) (an_order (order_of x))) s.same.role loads in
        subst (λ (v : Wiring). OrderFits (wired_task v (slot_owner v s.task (hears_at s.part.place))) order) (wiring_is w me here.1)
        (subst (λ (r : Order). OrderFits (wired_task o (slot_owner o s.task (hears_at s.part.place))) r) (sym read) fits)

-- ---- addresses of orders

module _ (w : SlotWords) (i : ℕ) (below : i < length w.plan.diagram.tasks) where
  abbrev whole_wiring : IsWired w.plan (run_wiring w.plan)
  whole_wiring = wiring-whole w.plan All

  pub in_layout : i < length (sizes w.layout).tasks
  in_layout =
      let a = ap (λ (x : Sizes). length x.tasks) w.laid in let b = ap (λ (x : Sizes). length x.tasks) (same_sizes w.plan) in
      let c = task_count (run_wiring w.plan) in let d = wired_tasks w.plan All in omega arith

  pub link_in_layout : (n : ℕ) → n < length (wired_task w.wiring i).links → link_in (wired_task w.wiring i) n < (sizes w.layout).links
  link_in_layout n few =
      let tasks : i < length (run_wiring w.plan).tasks = let d = wired_tasks w.plan All in omega arith in
      let same : wired_task w.wiring i ≡ wired_task (run_wiring w.plan) i = ap (λ (x : Wiring). wired_task x i) w.wired in
      let there : link_in (wired_task (run_wiring w.plan) i) n < length (run_wiring w.plan).links = (whole_wiring.each_task i tasks).into n (let a = ap (λ (x : TaskWiring). length x.links) same in omega arith) in
      let a = ap (λ (x : TaskWiring). link_in x n) same in let b = ap (λ (x : Sizes). x.links) w.laid in let c = ap (λ (l : List Link). length l) whole_wiring.links in omega arith

-- the task is one of the wiring, and its place one of its places
pub in_wiring : (w : SlotWords) (s : TaskSeat) → TaskSits w s → s.task < length w.wiring.tasks
in_wiring w s here = let a = inside w s here in let b = ap (λ (x : Wiring). length x.tasks) (wiring_is w s.seat.me here.1) in omega arith

pub place_in : (w : SlotWords) (s : TaskSeat) → TaskSits w s → PlaceIn (wired_task w.wiring s.task) s.part.place
place_in w s here = subst (λ (x : TaskWiring). PlaceIn x s.part.place) (wired_is w s here) s.same.shape.place
