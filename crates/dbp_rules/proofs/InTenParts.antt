-- The ten parts of soundness say what its records say.
use Rattle.std.proofs.Common.{◌≡◌, ℕ, zero, suc, ℤ, ◌+◌, ◌-◌, ◌<◌, ◌≤◌, ◌⊎◌, Bool, true, false, List, length, refl, sym, ◌∙◌, ap, subst, arith, inl, inr}
use Rattle.std.proofs.lemmas.Bool.{cases_lt}
use Rattle.dbp_plan.specs.declared.diagram.Link.{Link}
use Rattle.dbp_plan.specs.declared.limits.TheConstants.{MAX_OCCURRENCES}
use Rattle.dbp_plan.specs.declared.plan.Plan.{Plan}
use Rattle.dbp_plan.specs.Occurrences.{times_of, time_of}
use Rattle.dbp_plan.specs.Lookups.{link_at}
use Rattle.release_list.specs.Schedule.{aims, seen_by}
use Rattle.dbp_rules.specs.Moves.{heard_order}
use Rattle.dbp_rules.specs.Lookups.{link, link_entry, order, task, task_entry, wired_task, is_counted}
use Rattle.dbp_rules.specs.Rules.{order_word}
use Rattle.dbp_rules.specs.Shapes.{IsShape, OrderFits, PlaceIn, TaskShape, heard_by, link_in, running_count, slot_owner}
use Rattle.dbp_rules.specs.Sound.{Sound}
use Rattle.dbp_rules.specs.SoundParts.{LinkSound, TaskSound, last_shut, last_passed, read_of}
use Rattle.dbp_rules.specs.TenParts.{HoldsInTenParts, IsOnCurrent, IsReleasedBefore, IsStanding, TaskChain, TaskWork, slot_of_claim}
use Rattle.dbp_rules.specs.declared.parts.Order.{Order}
use Rattle.dbp_rules.specs.declared.parts.Place.{Place}
use Rattle.dbp_rules.specs.declared.parts.Place.TheVariants as place
use Rattle.dbp_rules.specs.declared.state.State.{State}
use Rattle.dbp_rules.specs.declared.wiring.TaskWiring.{TaskWiring}
use Rattle.dbp_rules.specs.declared.wiring.Wiring.{Wiring}
use Rattle.dbp_rules.proofs.SoundLooks.{come}
use Rattle.dbp_rules.proofs.SoundOwn.{IsOwn, IsOwnRead, seen_aims}
use Rattle.dbp_rules.proofs.SoundReading.{old_orders}

-- ---- places

rests_or_runs : (q : Place) → (running_count q ≡ 0) ⊎ (running_count q ≡ 1)
rests_or_runs place.Idle = inl refl
rests_or_runs (place.Hear n) = inr refl
rests_or_runs (place.Look n) = inr refl
rests_or_runs (place.Take n) = inr refl
rests_or_runs place.Shut = inr refl
rests_or_runs (place.Put n) = inr refl
rests_or_runs place.Done = inr refl
rests_or_runs place.End = inr refl

heard_most : (t : TaskWiring) (q : Place) → PlaceIn t q → heard_by (1 + length t.links) q ≤ 1 + length t.links
heard_most t place.Idle inside = omega arith
heard_most t (place.Hear n) inside = omega arith
heard_most t (place.Look n) inside = omega arith
heard_most t (place.Take n) inside = omega arith
heard_most t place.Shut inside = omega arith
heard_most t (place.Put n) inside = omega arith
heard_most t place.Done inside = omega arith
heard_most t place.End inside = omega arith

passed_some : (b : Bool) (known ended instance : ℕ) → last_passed b known ended < instance → 0 < instance
passed_some true known ended instance below = omega arith
passed_some false known ended instance below = omega arith

module _ (p : Plan) (w : Wiring) (rows : ℕ → ℕ → List ℤ) (s : State) (own : IsOwn p w) where
  -- ---- what is released before

  -- an instance that sees fewer of the writer's was released before the writer's later ones
  released_before : (k a n : ℕ) → k < length w.links → 0 < a → n ≤ length (times_of p.batches (link w k).writer) → seen_by w.links p.batches k a < n
      → time_of p.batches (link w k).reader a < time_of p.batches (link w k).writer n
  released_before k a n fits some most seen =
      let inside : k < length p.diagram.links = omega (arith, fits, ap length own.whole.links) in
      let early : seen_by w.links p.batches k a < n → n ≤ length (times_of p.batches (link w k).writer) → time_of p.batches (link w k).reader a < time_of p.batches (link w k).writer n =
      subst (λ (ls : List Link). seen_by ls p.batches k a < n → n ≤ length (times_of p.batches (link_at ls k).writer) → time_of p.batches (link_at ls k).reader a < time_of p.batches (link_at ls k).writer n)
      (sym own.whole.links) (λ less. own.whole.releases.early k a n inside some less) in
      early seen most

  -- and the other way round
  sees_fewer : (k a n : ℕ) → 0 < n → time_of p.batches (link w k).reader a < time_of p.batches (link w k).writer n → seen_by w.links p.batches k a < n
  sees_fewer k zero n some before = omega arith
  sees_fewer k (suc a) n some before = elim (cases_lt (seen_by w.links p.batches k (suc a)) n) [
    | inl less ↦ less
    | inr more ↦
        let one : n - 1 + 1 ≡ n = omega arith in
        let came : time_of p.batches (link w k).writer (n - 1 + 1) ≤ time_of p.batches (link w k).reader (suc a) = come p (link w k).writer (n - 1) (time_of p.batches (link w k).reader (suc a)) (omega (arith, more, some)) in
        let late : time_of p.batches (link w k).writer n ≤ time_of p.batches (link w k).reader (suc a) = subst (λ (m : ℕ). time_of p.batches (link w k).writer m ≤ time_of p.batches (link w k).reader (suc a)) one came in
        absurd (omega arith)
  ]

  aimed_few : (i : ℕ) → i < length w.tasks → (task_entry s i).aimed ≡ aims w.releases s.releaser.place i → (task_entry s i).aimed ≤ length (times_of p.batches i)
  aimed_few i below aimed = omega (arith, aimed, own.whole.releases.aims_times s.releaser.place i)

  times_few : (i : ℕ) → i < length w.tasks → length (times_of p.batches i) ≤ MAX_OCCURRENCES
  times_few i below = omega (arith, (own.whole.each_task i below).few, ap length (own.whole.each_task i below).times)

  -- ---- from the records to the parts

  module _ (sound : Sound p w rows s) where
    heard_is : (i j : ℕ) → i < length w.tasks → j < length (task s i).part.heard.items → heard_order (task s i).part j ≡ order_word w s i j
    heard_is i zero below inside = (sound.tasks i below).heard inside
    heard_is i (suc j) below inside =
        let shape : TaskShape w _ i (task_entry s i).aimed (task s i) = sound.shape.each_task i below in
        let few : j < length (wired_task w i).links = omega (arith, inside, shape.heard, heard_most (wired_task w i) (task s i).part.place shape.place) in
        let k : ℕ = link_in (wired_task w i) j in
        let fits : link_in (wired_task w i) j < length w.links = (own.whole.each_task i below).into j few in
        let one : suc j ≡ j + 1 = omega arith in
        ap (λ (n : ℕ). heard_order (task s i).part n) one
        ∙ old_orders p w rows s own sound i (link_in (wired_task w i) j) fits (own.into i j below few) j (omega arith) refl
        ∙ sym (sound.claims (link_in (wired_task w i) j) fits).order

    chain : (i : ℕ) → i < length w.tasks → TaskChain w s i (task_entry s i) (task s i)
    chain i below =
        let ok : TaskSound p w rows i (task_entry s i) (task s i) = sound.tasks i below in
        let shape : TaskShape w _ i (task_entry s i).aimed (task s i) = sound.shape.each_task i below in
        record {
          known = ok.known;
          ended = omega (arith, ok.ended, shape.gate);
          gate = shape.aimed;
          aimed = ok.aimed;
          own = ok.ended;
          running = λ busy. omega (arith, busy, shape.gate, shape.aimed, ok.known, ok.ended, ok.aimed);
          heard = λ j inside. heard_is i j below inside;
        }

    on_current : (k : ℕ) → k < length w.links → IsStanding w s k → IsOnCurrent w s k
        → ((link_entry s k).number ≡ (task_entry s (link w k).writer).aimed) ⊎ ((is_counted w k ≡ false) × (last_shut (task s (link w k).writer) < (task_entry s (link w k).writer).aimed) × IsReleasedBefore p w s k)
    on_current k fits stands here = elim ((sound.links k fits).current stands here) [
      | inl number ↦ inl number
      | inr early ↦
          let v : ℕ = (link w k).writer in
          let writer : v < length w.tasks = own.whole.writer k fits in
          let some : 0 < (link_entry s k).instance = passed_some (is_counted w k) (task_entry s (link w k).reader).known (task s (link w k).reader).words.ended (link_entry s k).instance stands in
          inr (early.0, early.1, released_before k (link_entry s k).instance (task_entry s v).aimed fits some (aimed_few v writer (sound.shape.aimed v writer)) early.2)
    ]

    ready : (i : ℕ) → i < length w.tasks → (n : ℕ) → (task s i).part.place ≡ place.Take n → (slot_of_claim w s (read_of p w i n).link).stamp ≡ (link_entry s (read_of p w i n).link).number + 1
    ready i below n at =
        let few : n < length (wired_task w i).reads = subst (λ (x : Place). PlaceIn (wired_task w i) x) at (sound.shape.each_task i below).place in
        let read : IsOwnRead p w i n = own.reads i n below few in
        let k : ℕ = (read_of p w i n).link in
        subst (λ (x : ℕ). (task s x).part.place ≡ place.Take n → (read_of p w x n).link ≡ k → (slot_of_claim w s k).stamp ≡ (link_entry s k).number + 1) read.reader ((sound.links k read.below).ready n) at refl

    pub in_ten_parts : HoldsInTenParts p w rows s
    in_ten_parts = record {
      there = record {
        entries = sound.shape.entries;
        claims = sound.shape.claims;
        tasks = sound.shape.tasks;
        orders = sound.shape.orders;
        each_task = λ i below.
            let t = sound.shape.each_task i below in
            record { place = t.place; heard = t.heard; slots = t.slots; now = t.now; later = t.later; row = t.row };
      };
      numbers = record {
        place = sound.place;
        aimed = sound.shape.aimed;
        opened = sound.gates;
        claimed = λ k fits. (sound.claims k fits).instance;
        number = λ k fits. (sound.claims k fits).number;
        aim = λ i below. (sound.tasks i below).aim;
        order = λ k fits. (sound.claims k fits).order;
      };
      chain = chain;
      slots = record {
        current = λ i below. (sound.shape.each_entry i below).current;
        kept = λ i below. (sound.shape.each_entry i below).kept;
        kept_slots = λ i j below inside. (sound.shape.each_entry i below).kept_slots j inside;
        claimed = λ k fits. (sound.shape.each_link k fits).claim.0;
      };
      stamps = λ i n l below inside stamp. (sound.tasks i below).whole n l inside stamp;
      current = λ i below. record { filled = (sound.tasks i below).filled; filling = (sound.tasks i below).filling; put = (sound.tasks i below).put };
      kept = record {
        stamp = λ i j below inside. (sound.tasks i below).kept j inside;
        apart = λ i j below inside some. (sound.tasks i below).kept_apart some j inside;
      };
      claims = λ k fits stands. (sound.links k fits).holds stands;
      on_current = on_current;
      work = λ i below. record { states = (sound.tasks i below).states; taken = (sound.tasks i below).taken; ready = ready i below; row = (sound.tasks i below).row; later = (sound.tasks i below).later };
    }

  -- ---- from the parts to the records

  module _ (parts : HoldsInTenParts p w rows s) where
    number_few : (k : ℕ) → k < length w.links → (link_entry s k).number ≤ MAX_OCCURRENCES
    number_few k fits =
        let v : ℕ = (link w k).writer in
        let writer : v < length w.tasks = own.whole.writer k fits in
        let seen : seen_by w.links p.batches k (link_entry s k).instance ≤ aims w.releases s.releaser.place v = rw (parts.numbers.claimed k fits) (seen_aims p w own.whole s.releaser.place k fits) in
        omega (arith, parts.numbers.number k fits, seen, own.whole.releases.aims_times s.releaser.place v, times_few v writer)

    order_fits : (k : ℕ) → k < length w.links → OrderFits (wired_task w (link w k).writer) (order s k)
    order_fits k fits = subst (λ (o : Order). OrderFits (wired_task w (link w k).writer) o) (sym (parts.numbers.order k fits)) (parts.slots.claimed k fits, number_few k fits)

    aim_fits : (i : ℕ) → i < length w.tasks → OrderFits (wired_task w i) (task s i).words.aim
    aim_fits i below =
        let few : (task_entry s i).aimed ≤ MAX_OCCURRENCES = omega (arith, aimed_few i below (parts.numbers.aimed i below), times_few i below) in
        subst (λ (o : Order). OrderFits (wired_task w i) o) (sym (parts.numbers.aim i below)) (parts.slots.current i below, few)

    word_fits : (i n : ℕ) → i < length w.tasks → n < 1 + length (wired_task w i).links → OrderFits (wired_task w (slot_owner w i n)) (order_word w s i n)
    word_fits i zero below inside = aim_fits i below
    word_fits i (suc n) below inside = order_fits (link_in (wired_task w i) n) ((own.whole.each_task i below).into n (omega arith))

    heard_fits : (i n : ℕ) → i < length w.tasks → n < length (task s i).part.heard.items → OrderFits (wired_task w (slot_owner w i n)) (heard_order (task s i).part n)
    heard_fits i n below inside =
        let t = parts.there.each_task i below in
        let few : n < 1 + length (wired_task w i).links = omega (arith, inside, t.heard, heard_most (wired_task w i) (task s i).part.place t.place) in
        subst (λ (o : Order). OrderFits (wired_task w (slot_owner w i n)) o) (sym ((parts.chain i below).heard n inside)) (word_fits i n below few)

    gate : (i : ℕ) → i < length w.tasks → (task s i).part.ended + running_count (task s i).part.place ≤ (task s i).words.gate
    gate i below =
        let c : TaskChain w s i (task_entry s i) (task s i) = parts.chain i below in
        elim (rests_or_runs (task s i).part.place) [
          | inl rests ↦ omega (arith, rests, c.own, c.ended)
          | inr runs ↦ omega (arith, runs, c.running runs)
        ]

    shape : IsShape p w s
    shape = record {
      wiring = own.whole;
      entries = parts.there.entries;
      claims = parts.there.claims;
      tasks = parts.there.tasks;
      orders = parts.there.orders;
      aimed = parts.numbers.aimed;
      each_entry = λ i below. record { current = parts.slots.current i below; kept = parts.slots.kept i below; kept_slots = λ j inside. parts.slots.kept_slots i j below inside };
      each_task = λ i below.
          let t = parts.there.each_task i below in
          record {
            gate = gate i below;
            aimed = (parts.chain i below).gate;
            aim = aim_fits i below;
            slots = t.slots;
            place = t.place;
            heard = t.heard;
            each_heard = λ n inside. heard_fits i n below inside;
            now = t.now;
            later = t.later;
            row = t.row;
          };
      each_link = λ k fits. record { claim = (parts.slots.claimed k fits, number_few k fits); order = order_fits k fits };
    }

    task_of : (i : ℕ) → i < length w.tasks → TaskSound p w rows i (task_entry s i) (task s i)
    task_of i below =
        let c : TaskChain w s i (task_entry s i) (task s i) = parts.chain i below in
        let x : TaskWork p w rows s i (task s i) = parts.work i below in
        record {
          known = c.known;
          ended = c.own;
          aimed = c.aimed;
          aim = parts.numbers.aim i below;
          heard = λ some. c.heard 0 some;
          whole = λ n l inside stamp. parts.stamps i n l below inside stamp;
          filled = (parts.current i below).filled;
          filling = (parts.current i below).filling;
          put = (parts.current i below).put;
          kept = λ j inside. parts.kept.stamp i j below inside;
          kept_apart = λ some j inside. parts.kept.apart i j below inside some;
          states = x.states;
          taken = x.taken;
          row = x.row;
          later = x.later;
        }

    link_of : (k : ℕ) → k < length w.links → LinkSound p w k (link_entry s k) (task_entry s (link w k).writer) (task s (link w k).writer) (task_entry s (link w k).reader) (task s (link w k).reader)
    link_of k fits =
        let r : ℕ = (link w k).reader in
        let reader : r < length w.tasks = own.whole.reader k fits in
        record {
          holds = λ stands. parts.claims k fits stands;
          current = λ stands here. elim (parts.on_current k fits stands here) [
            | inl number ↦ inl number
            | inr early ↦ inr (early.0, early.1, sees_fewer k (link_entry s k).instance (task_entry s (link w k).writer).aimed (omega (arith, early.1)) early.2)
          ];
          heard = λ j inside into.
              let one : j + 1 ≡ suc j = omega arith in
              let words : heard_order (task s r).part (suc j) ≡ order_word w s r (suc j) = (parts.chain r reader).heard (suc j) (omega arith) in
              ap (λ (n : ℕ). heard_order (task s r).part n) one ∙ words ∙ ap (λ (n : ℕ). order s n) into ∙ parts.numbers.order k fits;
          ready = λ n at read. subst (λ (x : ℕ). (slot_of_claim w s x).stamp ≡ (link_entry s x).number + 1) read ((parts.work r reader).ready n at);
        }

    pub from_ten_parts : Sound p w rows s
    from_ten_parts = record {
      shape = shape;
      place = parts.numbers.place;
      gates = parts.numbers.opened;
      claims = λ k fits. record { instance = parts.numbers.claimed k fits; number = parts.numbers.number k fits; order = parts.numbers.order k fits };
      tasks = task_of;
      links = link_of;
    }
