-- The calls of a task at its instance: each is one step of its part, which the table allows, and its data are those of its view afterwards.
use Rattle.std.proofs.Common.{◌≡◌, ◌≢◌, ℕ, ℤ, pos, ◌+◌, ◌*◌, ◌<◌, ◌≤◌, ◌^◌, FitsSigned, w64, true, false, ne_eqb, length, get_or, Some, None, refl, sym, ◌∙◌, ap, subst, arith}
use mathlib.Core.Option.{none}
use Rattle.atomic_table.specs.Table.{Allows, step}
use Rattle.dbp_plan.specs.declared.plan.Plan.{Plan}
use Rattle.dbp_plan.specs.declared.limits.TheConstants.{MAX_OCCURRENCES}
use Rattle.dbp_plan.specs.Lookups.{declared_task, no_read}
use Rattle.dbp_slots.specs.Layout.{sizes}
use Rattle.dbp_slots.specs.TableWords.{IsSlot, IsWord, Sizes, SlotSizes, TableWord, address_of, ended, sizes_of, stamp, task_sizes, word}
use Rattle.sync_meaning.specs.SomeMeaning.{meaning_of}
use Rattle.dbp_rules.specs.LoadedWords.{loaded_of, number_of_task, value_of_word}
use Rattle.dbp_rules.specs.Moves.{own_slot}
use Rattle.dbp_rules.specs.PartyRules.{Loaded, a_number, place_kind, a_value, is_stamp_of, no_word, read_order_in, task_after, task_refusal, turn_at}
use Rattle.dbp_rules.specs.Lookups.{link, read_at, wired_task}
use Rattle.dbp_rules.specs.Promises.{IsMeant}
use Rattle.dbp_rules.specs.SharedWords.{made_by, signed_value}
use Rattle.dbp_rules.specs.Rules.{IsNamed}
use Rattle.dbp_rules.specs.Shapes.{IsReadWired, OrderFits, PlaceIn, heard_by, place_number}
use Rattle.dbp_rules.specs.declared.parts.Order.{Order}
use Rattle.dbp_rules.specs.declared.parts.Place.{Place}
use Rattle.dbp_rules.specs.declared.parts.Place.TheVariants as place
use Rattle.dbp_rules.specs.declared.parts.TaskPart.{TaskPart}
use Rattle.dbp_rules.specs.declared.step.Broken.TheVariants as broken
use Rattle.dbp_rules.specs.declared.step.Step.{Step}
use Rattle.dbp_rules.specs.declared.step.Step.TheVariants.{Look, Take, Shut, Put, Done, End}
use Rattle.dbp_rules.specs.declared.wiring.ReadWiring.{ReadWiring}
use Rattle.dbp_rules.specs.declared.wiring.TaskWiring.{TaskWiring}
use Rattle.dbp_rules.specs.declared.wiring.Wiring.{Wiring}
use Rattle.dbp_rules.proofs.Allowed.{at_next, next_none}
use Rattle.dbp_rules.proofs.TableSizes.{is_slot, same_sizes, sizes_of_task}
use Rattle.word_rule.specs.OwnSteps.{IsOwnStep}
use Rattle.word_rule.specs.Plays.{Ends, Finishes, IsTask, Looks, Makes, OneStep, Puts, Seated, Shuts, Takes}
use Rattle.word_rule.specs.Roles.{PutFits, RolePromise, meaning_row, number_stored, role_refusal, run_wiring, word_loaded, word_stored}
use Rattle.word_rule.specs.Seats.{TaskSits}
use Rattle.word_rule.specs.Showing.{Keeps}
use Rattle.word_rule.specs.declared.seats.SlotWords.{SlotWords}
use Rattle.word_rule.specs.declared.seats.TaskSeat.{TaskSeat}
use Rattle.word_rule.specs.declared.views.Role.{Role}
use Rattle.word_rule.specs.declared.views.Role.TheVariants.{Task}
use Rattle.word_rule.proofs.SeatSteps.{may_load, may_store, one_word_loaded, sizes_are, wiring_is}
use Rattle.word_rule.proofs.TaskCalls.{inside, one_task, own_free, role_task, shape, task_then, task_wired, task_word, wired_is}

module _ (w : SlotWords) (s : TaskSeat) (here : TaskSits w s) where
  abbrev me : Seated
  me = s.seat.me

  abbrev p : Plan
  p = s.seat.me.0.plan

  abbrev o : Wiring
  o = run_wiring s.seat.me.0.plan

  own : (e : Step) → IsNamed p.diagram e → made_by e ≡ Some s.task → PutFits p (Task s.task s.part) e → task_refusal (wired_task w.wiring s.task) s.part e ≡ None → IsOwnStep p me.0 e
  own e named mine put free = record {
    named = named;
    mine = mine ∙ sym (role_task w s here);
    free = ap (λ (x : Role). role_refusal o x e) s.same.role ∙ own_free w s here e free;
    put = subst (λ (x : Role). PutFits p x e) (sym s.same.role) put;
  }

  -- the seat's role refuses what its part refuses
  allows : (e : Step) → role_refusal o me.0.role e ≡ None → task_refusal (wired_task o s.task) s.part e ≡ None
  allows e free = ap (λ (x : Role). role_refusal o x e) (sym s.same.role) ∙ free

  -- what its part has after the step
  then_is : (e : Step) (l : Loaded) (part : TaskPart) → part ≡ task_after (wired_task w.wiring s.task) s.part e l → part ≡ task_after (wired_task o s.task) s.part e l
  then_is e l part is = is ∙ ap (λ (y : TaskWiring). task_after y s.part e l) (sym (wired_is w s here))

  slot_inside : (i n : ℕ) → i < length o.tasks → n < (wired_task o i).slots → IsSlot (sizes_of p.diagram) i n
  slot_inside i n below fits = subst (λ (x : Sizes). IsSlot x i n) (same_sizes p) (is_slot o i n below fits)

  port_inside : (i port : ℕ) → port < (wired_task o i).ports → port < (task_sizes (sizes_of p.diagram) i).ports
  port_inside i port fits = let a = ap (λ (x : Sizes). (task_sizes x i).ports) (same_sizes p) in let b = ap (λ (x : SlotSizes). x.ports) (sizes_of_task o i) in omega arith

  in_layout : (q : TableWord) → IsWord (sizes_of p.diagram) q → IsWord (sizes w.layout) q
  in_layout q = subst (λ (x : Sizes). IsWord x q) (sym (sizes_are w me here.1))

  address_is : (q : TableWord) (a : ℕ) → a ≡ address_of (sizes w.layout) q → a ≡ address_of (sizes_of p.diagram) q
  address_is q a at = at ∙ ap (λ (x : Sizes). address_of x q) (sizes_are w me here.1)

  -- ---- reads: a task that has heard all its orders, at a turn

  module _ (few : turn_at s.part.place < length (wired_task o s.task).reads) (all : length s.part.heard.items ≡ 1 + length (wired_task o s.task).links) where
    abbrev from : ReadWiring
    from = read_at (wired_task o s.task) (turn_at s.part.place)

    abbrev order : Order
    order = read_order_in (wired_task o s.task) s.part (turn_at s.part.place)

    wires : IsReadWired o (length (declared_task p s.task).reads) s.task from
    wires = (task_wired w s here).each_read (turn_at s.part.place) few

    order_there : from.order < length s.part.heard.items
    order_there = let a = wires.order in omega arith

    order_fits : OrderFits (wired_task o from.writer) order
    order_fits = subst (λ (i : ℕ). OrderFits (wired_task o i) order) (sym wires.owner) ((shape w s here).each_heard from.order order_there)

    stamp_inside : IsWord (sizes_of p.diagram) (stamp from.writer order.slot)
    stamp_inside = slot_inside from.writer order.slot wires.writer order_fits.0

    word_inside : IsWord (sizes_of p.diagram) (word from.writer order.slot from.port)
    word_inside = (stamp_inside, port_inside from.writer from.port wires.port)

  -- at a take
  module _ (r : ℕ) (free : task_refusal (wired_task w.wiring s.task) s.part (Take s.task r) ≡ None) where
    take_place : s.part.place ≡ place.Take (turn_at s.part.place)
    take_place =
        let first : s.part.place ≡ place.Take (place_number s.part.place) = at_next broken.TaskPlace (wired_task o s.task) s.part.place 8 r (own_free w s here (Take s.task r) free) in
        first ∙ ap (λ (n : ℕ). place.Take n) (sym (ap turn_at first))

    take_few : turn_at s.part.place < length (wired_task o s.task).reads
    take_few = subst (λ (q : Place). PlaceIn (wired_task o s.task) q) take_place (shape w s here).place

    take_all : length s.part.heard.items ≡ 1 + length (wired_task o s.task).links
    take_all = (shape w s here).heard ∙ ap (heard_by (1 + length (wired_task o s.task).links)) take_place

    pub take_turn : turn_at s.part.place < length (wired_task w.wiring s.task).reads
    take_turn = let a = take_few in let b = ap (λ (y : TaskWiring). length y.reads) (wired_is w s here) in omega arith

    pub take_heard : (read_at (wired_task w.wiring s.task) (turn_at s.part.place)).order < length s.part.heard.items
    take_heard = subst (λ (y : TaskWiring). (read_at y (turn_at s.part.place)).order < length s.part.heard.items) (wired_is w s here) (order_there take_few take_all)

    pub take_more : turn_at s.part.place + 1 < 2 ^ 32
    take_more = let a = take_few in let b = (task_wired w s here).reads in let c = (task_wired w s here).closed.reads in omega arith

    abbrev taken : TableWord
    taken = word (read_at (wired_task o s.task) (turn_at s.part.place)).writer (read_order_in (wired_task o s.task) s.part (turn_at s.part.place)).slot (read_at (wired_task o s.task) (turn_at s.part.place)).port

    taken_is : (read_from : ReadWiring) (row_order : Order) → read_from ≡ read_at (wired_task w.wiring s.task) (turn_at s.part.place) → row_order ≡ read_order_in (wired_task w.wiring s.task) s.part (turn_at s.part.place) → word read_from.writer row_order.slot read_from.port ≡ taken
    taken_is read_from row_order read heard =
        ap (λ (y : ReadWiring × Order). word y.0.writer y.1.slot y.0.port) (λ i. (read i, heard i))
        ∙ ap (λ (y : TaskWiring). word (read_at y (turn_at s.part.place)).writer (read_order_in y s.part (turn_at s.part.place)).slot (read_at y (turn_at s.part.place)).port) (sym (wired_is w s here))

    pub take_word : (from : ReadWiring) (order : Order) → from ≡ read_at (wired_task w.wiring s.task) (turn_at s.part.place) → order ≡ read_order_in (wired_task w.wiring s.task) s.part (turn_at s.part.place)
        → IsWord (sizes w.layout) (word from.writer order.slot from.port)
    take_word from order read heard = subst (λ (q : TableWord). IsWord (sizes w.layout) q) (sym (taken_is from order read heard)) (in_layout taken (word_inside take_few take_all))

    -- the seat's part allows one take
    one_take : (k : ℕ) → role_refusal o me.0.role (Take s.task k) ≡ None → r ≡ k
    one_take k other =
        sym (next_none broken.TaskPlace (place_kind (wired_task o s.task) s.part.place) 8 r (own_free w s here (Take s.task r) free)).1
        ∙ (next_none broken.TaskPlace (place_kind (wired_task o s.task) s.part.place) 8 k (allows (Take s.task k) other)).1

    pub take_load : (from : ReadWiring) (order : Order) (a slots : ℕ) → from ≡ read_at (wired_task w.wiring s.task) (turn_at s.part.place) → order ≡ read_order_in (wired_task w.wiring s.task) s.part (turn_at s.part.place)
        → a ≡ address_of (sizes w.layout) (word from.writer order.slot from.port)
        → (a < w.table.shared.table_id.words) × Allows (Keeps w.table.shared.key) slots s.seat.id me a (λ n. n) (Takes (step slots a 0 0 none) me)
    take_load from order a slots read heard at =
        may_load w me here.1 slots s.seat.id (Take s.task r) (own (Take s.task r) s.same.named refl tt free) taken (word_inside take_few take_all)
        a (address_is taken a (at ∙ ap (address_of (sizes w.layout)) (taken_is from order read heard))) (ap (λ (v : Role). word_loaded o v (Take s.task r)) s.same.role) (λ n. Takes (step slots n 0 0 none) me)
        (λ x new one makes. record {
          one = one;
          word = λ j k is q loads.
              one_word_loaded me (Take s.task k) (Take j k) taken q (ap (λ (v : Role). word_loaded o v (Take s.task k)) s.same.role) (ap (λ (i : ℕ). Take i k) (one_task w s here j is)) loads;
          makes = λ j k is other.
              let task : s.task ≡ j = one_task w s here j is in
              let same : r ≡ k = one_take k (subst (λ (i : ℕ). role_refusal o me.0.role (Take i k) ≡ None) (sym task) other) in
              subst (λ (y : ℕ × ℕ). Makes (Take y.0 y.1) (a_value (value_of_word x)) me new) (λ z. (task z, same z)) makes;
        })

    took : (x a slots : ℕ) (new : Seated) → Takes (step slots a 0 0 none) me x new → Makes (Take s.task r) (a_value (value_of_word x)) me new
    took x a slots new takes = takes.makes s.task r (role_task w s here) (ap (λ (v : Role). role_refusal o v (Take s.task r)) s.same.role ∙ own_free w s here (Take s.task r) free)

    pub take_then : (x a slots : ℕ) (new : Seated) (part : TaskPart) → Takes (step slots a 0 0 none) me x new → part ≡ task_after (wired_task w.wiring s.task) s.part (Take s.task r) no_word → IsTask new s.task part
    take_then x a slots new part takes is =
        subst (IsTask new s.task) (sym (then_is (Take s.task r) no_word part is)) (task_then me new s.task s.part (Take s.task r) (a_value (value_of_word x)) s.same takes.one (took x a slots new takes))

    pub take_meant : (x a slots : ℕ) (new : Seated) (value : ℤ) → Takes (step slots a 0 0 none) me x new → value ≡ value_of_word x → IsMeant w.plan (meaning_of w.plan) s.task (s.part.ended + 1) r value
    take_meant x a slots new value takes read =
        let promise : IsMeant p (meaning_of p) s.task (s.part.ended + 1) r (value_of_word x) = subst (λ (v : Role). RolePromise p v (Take s.task r) (a_value (value_of_word x))) s.same.role (took x a slots new takes).promise in
        subst (λ (y : Plan × ℤ). IsMeant y.0 (meaning_of y.0) s.task (s.part.ended + 1) r y.1) (λ z. (here.1 z, sym read z)) promise

  -- at a look
  module _ (r : ℕ) (free : task_refusal (wired_task w.wiring s.task) s.part (Look s.task r) ≡ None) where
    look_place : s.part.place ≡ place.Look (turn_at s.part.place)
    look_place =
        let first : s.part.place ≡ place.Look (place_number s.part.place) = at_next broken.TaskPlace (wired_task o s.task) s.part.place 7 r (own_free w s here (Look s.task r) free) in
        first ∙ ap (λ (n : ℕ). place.Look n) (sym (ap turn_at first))

    look_few : turn_at s.part.place < length (wired_task o s.task).reads
    look_few = subst (λ (q : Place). PlaceIn (wired_task o s.task) q) look_place (shape w s here).place

    look_all : length s.part.heard.items ≡ 1 + length (wired_task o s.task).links
    look_all = (shape w s here).heard ∙ ap (heard_by (1 + length (wired_task o s.task).links)) look_place

    pub look_turn : turn_at s.part.place < length (wired_task w.wiring s.task).reads
    look_turn = let a = look_few in let b = ap (λ (y : TaskWiring). length y.reads) (wired_is w s here) in omega arith

    pub look_heard : (read_at (wired_task w.wiring s.task) (turn_at s.part.place)).order < length s.part.heard.items
    look_heard = subst (λ (y : TaskWiring). (read_at y (turn_at s.part.place)).order < length s.part.heard.items) (wired_is w s here) (order_there look_few look_all)

    pub look_number : (read_order_in (wired_task w.wiring s.task) s.part (turn_at s.part.place)).number + 1 < 2 ^ 32
    look_number =
        let few : (read_order_in (wired_task o s.task) s.part (turn_at s.part.place)).number ≤ MAX_OCCURRENCES = (order_fits look_few look_all).1 in
        subst (λ (y : TaskWiring). (read_order_in y s.part (turn_at s.part.place)).number + 1 < 2 ^ 32) (wired_is w s here) (omega arith)

    abbrev looked : TableWord
    looked = stamp (read_at (wired_task o s.task) (turn_at s.part.place)).writer (read_order_in (wired_task o s.task) s.part (turn_at s.part.place)).slot

    looked_is : (read_from : ReadWiring) (row_order : Order) → read_from ≡ read_at (wired_task w.wiring s.task) (turn_at s.part.place) → row_order ≡ read_order_in (wired_task w.wiring s.task) s.part (turn_at s.part.place) → stamp read_from.writer row_order.slot ≡ looked
    looked_is read_from row_order read heard =
        ap (λ (y : ReadWiring × Order). stamp y.0.writer y.1.slot) (λ i. (read i, heard i))
        ∙ ap (λ (y : TaskWiring). stamp (read_at y (turn_at s.part.place)).writer (read_order_in y s.part (turn_at s.part.place)).slot) (sym (wired_is w s here))

    pub look_word : (from : ReadWiring) (order : Order) → from ≡ read_at (wired_task w.wiring s.task) (turn_at s.part.place) → order ≡ read_order_in (wired_task w.wiring s.task) s.part (turn_at s.part.place)
        → IsWord (sizes w.layout) (stamp from.writer order.slot)
    look_word from order read heard = subst (λ (q : TableWord). IsWord (sizes w.layout) q) (sym (looked_is from order read heard)) (in_layout looked (stamp_inside look_few look_all))

    -- the seat's part allows one look
    one_look : (k : ℕ) → role_refusal o me.0.role (Look s.task k) ≡ None → r ≡ k
    one_look k other =
        sym (next_none broken.TaskPlace (place_kind (wired_task o s.task) s.part.place) 7 r (own_free w s here (Look s.task r) free)).1
        ∙ (next_none broken.TaskPlace (place_kind (wired_task o s.task) s.part.place) 7 k (allows (Look s.task k) other)).1

    pub look_load : (from : ReadWiring) (order : Order) (a slots : ℕ) → from ≡ read_at (wired_task w.wiring s.task) (turn_at s.part.place) → order ≡ read_order_in (wired_task w.wiring s.task) s.part (turn_at s.part.place)
        → a ≡ address_of (sizes w.layout) (stamp from.writer order.slot)
        → (a < w.table.shared.table_id.words) × Allows (Keeps w.table.shared.key) slots s.seat.id me a (λ n. n) (Looks (step slots a 0 0 none) me)
    look_load from order a slots read heard at =
        may_load w me here.1 slots s.seat.id (Look s.task r) (own (Look s.task r) s.same.named refl tt free) looked (stamp_inside look_few look_all)
        a (address_is looked a (at ∙ ap (address_of (sizes w.layout)) (looked_is from order read heard))) (ap (λ (v : Role). word_loaded o v (Look s.task r)) s.same.role) (λ n. Looks (step slots n 0 0 none) me)
        (λ x new one makes. record {
          one = one;
          word = λ j k is q loads.
              one_word_loaded me (Look s.task k) (Look j k) looked q (ap (λ (v : Role). word_loaded o v (Look s.task k)) s.same.role) (ap (λ (i : ℕ). Look i k) (one_task w s here j is)) loads;
          makes = λ j k is other.
              let task : s.task ≡ j = one_task w s here j is in
              let same : r ≡ k = one_look k (subst (λ (i : ℕ). role_refusal o me.0.role (Look i k) ≡ None) (sym task) other) in
              subst (λ (y : ℕ × ℕ). Makes (Look y.0 y.1) (a_number x) me new) (λ z. (task z, same z)) makes;
        })

    looked_then : (x a slots : ℕ) (new : Seated) → Looks (step slots a 0 0 none) me x new → Makes (Look s.task r) (a_number x) me new
    looked_then x a slots new looks = looks.makes s.task r (role_task w s here) (ap (λ (v : Role). role_refusal o v (Look s.task r)) s.same.role ∙ own_free w s here (Look s.task r) free)

    pub look_then : (x a slots : ℕ) (new : Seated) (part : TaskPart) → Looks (step slots a 0 0 none) me x new → part ≡ task_after (wired_task w.wiring s.task) s.part (Look s.task r) (a_number x) → IsTask new s.task part
    look_then x a slots new part looks is =
        subst (IsTask new s.task) (sym (then_is (Look s.task r) (a_number x) part is)) (task_then me new s.task s.part (Look s.task r) (a_number x) s.same looks.one (looked_then x a slots new looks))

    pub look_delayed : (x a slots : ℕ) (new : Seated) → Looks (step slots a 0 0 none) me x new → 0 < (link w.wiring (get_or (declared_task w.plan s.task).reads r no_read).link).delay
        → is_stamp_of (read_order_in (wired_task w.wiring s.task) s.part (turn_at s.part.place)) x ≡ true
    look_delayed x a slots new looks late =
        let promise = subst (λ (v : Role). RolePromise p v (Look s.task r) (a_number x)) s.same.role (looked_then x a slots new looks).promise in
        let late_here : 0 < (link o (get_or (declared_task p s.task).reads r no_read).link).delay =
        subst (λ (y : Wiring × Plan). 0 < (link y.0 (get_or (declared_task y.1 s.task).reads r no_read).link).delay) (λ z. (sym (wiring_is w me here.1) z, sym here.1 z)) late in
        ap (λ (y : TaskWiring). is_stamp_of (read_order_in y s.part (turn_at s.part.place)) x) (sym (wired_is w s here)) ∙ promise late_here

    -- another stamp isn't the one of the row that was ordered
    pub look_fails : (order : Order) (x : ℕ) → order ≡ read_order_in (wired_task w.wiring s.task) s.part (turn_at s.part.place) → x ≢ order.number + 1 → is_stamp_of (read_order_in (wired_task w.wiring s.task) s.part (turn_at s.part.place)) x ≡ false
    look_fails order x heard other = ap (λ (r : Order). is_stamp_of r x) (sym heard) ∙ ne_eqb x (order.number + 1) other

  -- ---- the slot that the task fills

  module _ (all : length s.part.heard.items ≡ 1 + length (wired_task o s.task).links) where
    own_there : 0 < length s.part.heard.items
    own_there = omega arith

    own_fits : own_slot s.part < (wired_task o s.task).slots
    own_fits = ((shape w s here).each_heard 0 own_there).0

    own_stamp : IsWord (sizes_of p.diagram) (stamp s.task (own_slot s.part))
    own_stamp = slot_inside s.task (own_slot s.part) (inside w s here) own_fits

  number_is : (e : Step) (x : ℕ) → number_of_task s.part (meaning_row p s.task (s.part.ended + 1)) e ≡ x → number_stored p me.0.role e ≡ x
  number_is e x is = ap (λ (v : Role). number_stored p v e) s.same.role ∙ is

  -- a step that stores a word of that slot, or the ended number
  module _ (e : Step) (q : TableWord) (named : IsNamed p.diagram e) (mine : made_by e ≡ Some s.task) (put : PutFits p (Task s.task s.part) e) (free : task_refusal (wired_task w.wiring s.task) s.part e ≡ None)
      (in_table : IsWord (sizes_of p.diagram) q) (stores : word_stored (Task s.task s.part) e ≡ Some q) (x : ℕ) (number : number_of_task s.part (meaning_row p s.task (s.part.ended + 1)) e ≡ x) where
    store_it : (a slots : ℕ) → a ≡ address_of (sizes w.layout) q → (then : ℕ → Seated → Type 0) → ((new : Seated) → OneStep me new → Makes e (loaded_of e 0) me new → then (address_of (sizes_of p.diagram) q) new)
        → (a < w.table.shared.table_id.words) × Allows (Keeps w.table.shared.key) slots s.seat.id me a (λ _. x) (λ _. then a)
    store_it a slots at then tell =
        may_store w me here.1 slots s.seat.id e (own e named mine put free) q in_table a (address_is q a at) (ap (λ (v : Role). word_stored v e) s.same.role ∙ stores) x (number_is e x number) then tell

  after_store : (e : Step) (new : Seated) (part : TaskPart) → OneStep me new → Makes e no_word me new → part ≡ task_after (wired_task w.wiring s.task) s.part e no_word → IsTask new s.task part
  after_store e new part one makes is = subst (IsTask new s.task) (sym (then_is e no_word part is)) (task_then me new s.task s.part e no_word s.same one makes)

  -- at a shut
  module _ (free : task_refusal (wired_task w.wiring s.task) s.part (Shut s.task) ≡ None) where
    shut_place : s.part.place ≡ place.Shut
    shut_place = at_next broken.TaskPlace (wired_task o s.task) s.part.place 9 0 (own_free w s here (Shut s.task) free)

    shut_all : length s.part.heard.items ≡ 1 + length (wired_task o s.task).links
    shut_all = (shape w s here).heard ∙ ap (heard_by (1 + length (wired_task o s.task).links)) shut_place

    pub shut_heard : 0 < length s.part.heard.items
    shut_heard = own_there shut_all

    pub shut_word : (slot : ℕ) → slot ≡ own_slot s.part → IsWord (sizes w.layout) (stamp s.task slot)
    shut_word slot is = subst (λ (n : ℕ). IsWord (sizes w.layout) (stamp s.task n)) (sym is) (in_layout (stamp s.task (own_slot s.part)) (own_stamp shut_all))

    pub shut_store : (slot a slots : ℕ) → slot ≡ own_slot s.part → a ≡ address_of (sizes w.layout) (stamp s.task slot)
        → (a < w.table.shared.table_id.words) × Allows (Keeps w.table.shared.key) slots s.seat.id me a (λ _. 0) (λ _. Shuts (step slots a 0 0 none) me 0)
    shut_store slot a slots is at =
        store_it (Shut s.task) (stamp s.task (own_slot s.part)) s.same.named refl tt free (own_stamp shut_all) refl 0 refl a slots (at ∙ ap (λ (n : ℕ). address_of (sizes w.layout) (stamp s.task n)) is)
        (λ n. Shuts (step slots n 0 0 none) me 0)
        (λ new one makes. record { one = one; makes = λ j named. subst (λ (k : ℕ). Makes (Shut k) no_word me new) (one_task w s here j named) makes })

    pub shut_then : (a slots : ℕ) (new : Seated) (part : TaskPart) → Shuts (step slots a 0 0 none) me 0 new → part ≡ task_after (wired_task w.wiring s.task) s.part (Shut s.task) no_word → IsTask new s.task part
    shut_then a slots new part shuts is = after_store (Shut s.task) new part shuts.one (shuts.makes s.task (role_task w s here)) is

  -- at a put
  module _ (port : ℕ) (free : task_refusal (wired_task w.wiring s.task) s.part (Put s.task port) ≡ None) where
    put_first : s.part.place ≡ place.Put (place_number s.part.place)
    put_first = at_next broken.TaskPlace (wired_task o s.task) s.part.place 10 port (own_free w s here (Put s.task port) free)

    put_port : place_number s.part.place ≡ port
    put_port =
        sym (ap (λ (q : Place). (place_kind (wired_task o s.task) q).1) put_first)
        ∙ (next_none broken.TaskPlace (place_kind (wired_task o s.task) s.part.place) 10 port (own_free w s here (Put s.task port) free)).1

    put_place : s.part.place ≡ place.Put port
    put_place = put_first ∙ ap (λ (n : ℕ). place.Put n) put_port

    put_few : port < (wired_task o s.task).ports
    put_few = subst (λ (q : Place). PlaceIn (wired_task o s.task) q) put_place (shape w s here).place

    put_all : length s.part.heard.items ≡ 1 + length (wired_task o s.task).links
    put_all = (shape w s here).heard ∙ ap (heard_by (1 + length (wired_task o s.task).links)) put_place

    pub put_heard : 0 < length s.part.heard.items
    put_heard = own_there put_all

    put_inside : IsWord (sizes_of p.diagram) (word s.task (own_slot s.part) port)
    put_inside = (own_stamp put_all, port_inside s.task port put_few)

    pub put_word : (slot : ℕ) → slot ≡ own_slot s.part → IsWord (sizes w.layout) (word s.task slot port)
    put_word slot is = subst (λ (n : ℕ). IsWord (sizes w.layout) (word s.task n port)) (sym is) (in_layout (word s.task (own_slot s.part) port) put_inside)

    pub put_more : port + 1 < 2 ^ 32
    put_more = let a = put_few in let b = (task_wired w s here).ports in let c = (task_wired w s here).closed.outs in omega arith

    -- the seat's part allows one put
    one_put : (k : ℕ) → role_refusal o me.0.role (Put s.task k) ≡ None → port ≡ k
    one_put k other =
        sym (next_none broken.TaskPlace (place_kind (wired_task o s.task) s.part.place) 10 port (own_free w s here (Put s.task port) free)).1
        ∙ (next_none broken.TaskPlace (place_kind (wired_task o s.task) s.part.place) 10 k (allows (Put s.task k) other)).1

    module _ (value : ℤ) (fits : FitsSigned w64 value) (meant : value ≡ get_or (meaning_row w.plan s.task (s.part.ended + 1)) port (pos 0)) where
      meant_here : value ≡ get_or (meaning_row p s.task (s.part.ended + 1)) port (pos 0)
      meant_here = meant ∙ ap (λ (x : Plan). get_or (meaning_row x s.task (s.part.ended + 1)) port (pos 0)) (sym here.1)

      pub put_store : (slot a slots x : ℕ) → slot ≡ own_slot s.part → a ≡ address_of (sizes w.layout) (word s.task slot port) → x ≡ signed_value value
          → (a < w.table.shared.table_id.words) × Allows (Keeps w.table.shared.key) slots s.seat.id me a (λ _. x) (λ _. Puts (step slots a x 0 none) me x)
      put_store slot a slots x is at number =
          store_it (Put s.task port) (word s.task (own_slot s.part) port) s.same.named refl (subst (λ (z : ℤ). FitsSigned w64 z) meant_here fits) free put_inside refl x (ap signed_value (sym meant_here) ∙ sym number)
          a slots (at ∙ ap (λ (n : ℕ). address_of (sizes w.layout) (word s.task n port)) is) (λ n. Puts (step slots n x 0 none) me x)
          (λ new one makes. record {
            one = one;
            makes = λ j k named other.
                let task : s.task ≡ j = one_task w s here j named in
                let same : port ≡ k = one_put k (subst (λ (i : ℕ). role_refusal o me.0.role (Put i k) ≡ None) (sym task) other) in
                subst (λ (y : ℕ × ℕ). Makes (Put y.0 y.1) no_word me new) (λ z. (task z, same z)) makes;
          })

    pub put_then : (x a slots : ℕ) (new : Seated) (part : TaskPart) → Puts (step slots a x 0 none) me x new → part ≡ task_after (wired_task w.wiring s.task) s.part (Put s.task port) no_word → IsTask new s.task part
    put_then x a slots new part puts is =
        after_store (Put s.task port) new part puts.one
        (puts.makes s.task port (role_task w s here) (ap (λ (v : Role). role_refusal o v (Put s.task port)) s.same.role ∙ own_free w s here (Put s.task port) free)) is

  -- at a done
  module _ (free : task_refusal (wired_task w.wiring s.task) s.part (Done s.task) ≡ None) where
    done_place : s.part.place ≡ place.Done
    done_place = at_next broken.TaskPlace (wired_task o s.task) s.part.place 11 0 (own_free w s here (Done s.task) free)

    done_all : length s.part.heard.items ≡ 1 + length (wired_task o s.task).links
    done_all = (shape w s here).heard ∙ ap (heard_by (1 + length (wired_task o s.task).links)) done_place

    pub done_heard : 0 < length s.part.heard.items
    done_heard = own_there done_all

    pub done_word : (slot : ℕ) → slot ≡ own_slot s.part → IsWord (sizes w.layout) (stamp s.task slot)
    done_word slot is = subst (λ (n : ℕ). IsWord (sizes w.layout) (stamp s.task n)) (sym is) (in_layout (stamp s.task (own_slot s.part)) (own_stamp done_all))

    pub done_store : (slot a slots x : ℕ) → slot ≡ own_slot s.part → a ≡ address_of (sizes w.layout) (stamp s.task slot) → x ≡ s.part.ended + 2
        → (a < w.table.shared.table_id.words) × Allows (Keeps w.table.shared.key) slots s.seat.id me a (λ _. x) (λ _. Finishes (step slots a x 0 none) me x)
    done_store slot a slots x is at number =
        store_it (Done s.task) (stamp s.task (own_slot s.part)) s.same.named refl tt free (own_stamp done_all) refl x (sym number) a slots (at ∙ ap (λ (n : ℕ). address_of (sizes w.layout) (stamp s.task n)) is)
        (λ n. Finishes (step slots n x 0 none) me x)
        (λ new one makes. record { one = one; makes = λ j named. subst (λ (k : ℕ). Makes (Done k) no_word me new) (one_task w s here j named) makes })

    pub done_then : (x a slots : ℕ) (new : Seated) (part : TaskPart) → Finishes (step slots a x 0 none) me x new → part ≡ task_after (wired_task w.wiring s.task) s.part (Done s.task) no_word → IsTask new s.task part
    done_then x a slots new part finishes is = after_store (Done s.task) new part finishes.one (finishes.makes s.task (role_task w s here)) is

  -- at an end
  module _ (free : task_refusal (wired_task w.wiring s.task) s.part (End s.task) ≡ None) where
    end_place : s.part.place ≡ place.End
    end_place = at_next broken.TaskPlace (wired_task o s.task) s.part.place 12 0 (own_free w s here (End s.task) free)

    pub end_ended : s.part.ended + 1 < 2 ^ 32
    end_ended = let a = (shape w s here).occurs in let b = (task_wired w s here).few in omega arith

    pub end_store : (a slots x : ℕ) → a ≡ 2 + 3 * s.task → x ≡ s.part.ended + 1
        → (a < w.table.shared.table_id.words) × Allows (Keeps w.table.shared.key) slots s.seat.id me a (λ _. x) (λ _. Ends (step slots a x 0 none) me x)
    end_store a slots x at number =
        store_it (End s.task) (ended s.task) s.same.named refl tt free (task_word w s here) refl x (sym number) a slots at
        (λ n. Ends (step slots n x 0 none) me x)
        (λ new one makes. record { one = one; makes = λ j named. subst (λ (k : ℕ). Makes (End k) no_word me new) (one_task w s here j named) makes })

    pub end_then : (x a slots : ℕ) (new : Seated) (part : TaskPart) → Ends (step slots a x 0 none) me x new → part ≡ task_after (wired_task w.wiring s.task) s.part (End s.task) no_word → IsTask new s.task part
    end_then x a slots new part ends is = after_store (End s.task) new part ends.one (ends.makes s.task (role_task w s here)) is
