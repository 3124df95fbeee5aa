-- The words of the table before the first step have their numbers.
use Rattle.std.proofs.Common.{◌≡◌, ◌≢◌, ℕ, zero, suc, pos, ◌+◌, ◌<◌, true, false, List, length, get_or, set, map, replicate, refl, sym, ◌∙◌, ap, arith, length-set, get_or-set_same, get_or-set_other}
use Rattle.std.specs.Prelude.{nat_lt}
use Rattle.std.proofs.lemmas.Bool.Decides.{nat_tests}
use Rattle.std.proofs.lemmas.List.{length-replicate}
use mathlib.Core.Logic.{dite}
use native.Mathlib.Decide.{ℕ_discrete}
use Rattle.dbp_plan.specs.declared.diagram.Out.{Out}
use Rattle.dbp_plan.specs.declared.plan.Plan.{Plan}
use Rattle.dbp_plan.specs.Lookups.{declared_task}
use Rattle.dbp_slots.specs.TableWords.{IsWord, Sizes, TableWord, SlotSizes, address_of, aim, claim, ended, gate, sizes_of, stamp, task_sizes, word, word_count}
use Rattle.dbp_slots.proofs.Spots.{one_word, word_inside}
use Rattle.dbp_rules.specs.LoadedWords.{start_number}
use Rattle.dbp_rules.specs.SharedWords.{signed_value}
use Rattle.dbp_rules.specs.Wired.{wiring_of}
use Rattle.dbp_rules.specs.Lookups.{wired_task}
use Rattle.dbp_rules.specs.declared.step.Count.TheVariants.{All}
use Rattle.dbp_rules.proofs.TableSizes.{same_sizes, sizes_of_task, task_count}
use Rattle.dbp_rules.proofs.WiringParts.{wired_tasks}
use Rattle.dbp_rules.proofs.Wirings.{wiring-whole}
use Rattle.dbp_rules.proofs.WordRanges.{repeat_each}
use Rattle.word_rule.specs.FirstWords.{HasNumbersSoFar, HasSlotFilled, IsNotInFirstSlot, number_so_far}
use Rattle.word_rule.specs.Showing.{HasFirstNumbers}

module _ (s : Sizes) (i : ℕ) (outs : List Out) (task : i < length s.tasks) (slot : 0 < (task_sizes s i).slots) (ports : length outs ≡ (task_sizes s i).ports) where
  stamp_inside : IsWord s (stamp i 0)
  stamp_inside = (task, slot)

  word_of_slot : (port : ℕ) → port < length outs → IsWord s (word i 0 port)
  word_of_slot port below = ((task, slot), omega arith)

  pub stamp_address : (words : List ℕ) → length words ≡ word_count s → address_of s (stamp i 0) < length words
  stamp_address words size = let a = (word_inside s (stamp i 0) stamp_inside).1 in omega arith

  pub word_address : (words : List ℕ) (port : ℕ) → length words ≡ word_count s → port < length outs → address_of s (word i 0 port) < length words
  word_address words port size below = let a = (word_inside s (word i 0 port) (word_of_slot port below)).1 in omega arith

  pub filled_none : (old : List ℕ) → length old ≡ word_count s → HasSlotFilled s i outs 0 old (set old (address_of s (stamp i 0)) 1)
  filled_none old size = record {
    size = length-set old _ 1;
    stamped = get_or-set_same old (address_of s (stamp i 0)) 1 0 (stamp_address old size);
    values = λ port none. absurd (omega arith);
    others = λ q inside apart. get_or-set_other old (address_of s (stamp i 0)) (address_of s q) 1 0 (λ e. apart.0 (one_word s q (stamp i 0) inside stamp_inside e));
  }

  pub filled_more : (old words : List ℕ) (n x : ℕ) → length old ≡ word_count s → n < length outs → x ≡ signed_value (get_or (map (λ o. o.first) outs) n (pos 0)) → HasSlotFilled s i outs n old words
      → HasSlotFilled s i outs (n + 1) old (set words (address_of s (word i 0 n)) x)
  filled_more old words n x size below is so_far =
      let here = address_of s (word i 0 n) in
      let inside = word_of_slot n below in
      record {
        size = length-set words here x ∙ so_far.size;
        stamped = get_or-set_other words here (address_of s (stamp i 0)) x 0 (λ e. absurd (cc (one_word s (stamp i 0) (word i 0 n) stamp_inside inside e))) ∙ so_far.stamped;
        values = λ port few. dite (ℕ_discrete port n)
            (λ same. ap (λ (k : ℕ). get_or (set words here x) (address_of s (word i 0 k)) 0) same ∙ (get_or-set_same words here x 0 (word_address words n (so_far.size ∙ size) below) ∙ (is ∙ ap (λ (k : ℕ). signed_value (get_or (map (λ o. o.first) outs) k (pos 0))) (sym same))))
            (λ other.
            let less : port < n = omega arith in
            get_or-set_other words here (address_of s (word i 0 port)) x 0 (λ e. other (port_is port n (one_word s (word i 0 port) (word i 0 n) (word_of_slot port (omega arith)) inside e))) ∙ so_far.values port less);
        others = λ q in_table apart. get_or-set_other words here (address_of s q) x 0 (λ e. apart.1 n (one_word s q (word i 0 n) in_table inside e)) ∙ so_far.others q in_table apart;
      }
    where
      port_is : (port n : ℕ) → word i 0 port ≡ word i 0 n → port ≡ n
      port_is port n e = cc (e)

-- ---- all tasks

lt_next : (i n : ℕ) → i ≢ n → nat_lt i (n + 1) ≡ nat_lt i n
lt_next i n other = grind (arith, nat_tests)

lt_here : (i n : ℕ) → i ≡ n → nat_lt i (n + 1) ≡ true
lt_here i n is = grind (arith, nat_tests)

lt_below : (i n : ℕ) → i < n → nat_lt i n ≡ true
lt_below i n less = grind (arith, nat_tests)

lt_none : (i : ℕ) → nat_lt i 0 ≡ false
lt_none i = grind (arith, nat_tests)

module _ (p : Plan) where
  abbrev s : Sizes
  s = sizes_of p.diagram

  pub task_count_is : length (sizes_of p.diagram).tasks ≡ length p.diagram.tasks
  task_count_is = let a = ap (λ (x : Sizes). length x.tasks) (same_sizes p) in let b = task_count (wiring_of p All) in let c = wired_tasks p All in omega arith

  sizes_are : (i : ℕ) → task_sizes (sizes_of p.diagram) i ≡ record { slots = (wired_task (wiring_of p All) i).slots; ports = (wired_task (wiring_of p All) i).ports }
  sizes_are i = ap (λ (x : Sizes). task_sizes x i) (sym (same_sizes p)) ∙ sizes_of_task (wiring_of p All) i

  pub ports_are : (i : ℕ) → i < length p.diagram.tasks → length (declared_task p i).outs ≡ (task_sizes (sizes_of p.diagram) i).ports
  ports_are i below =
      let a = ap (λ (x : SlotSizes). x.ports) (sizes_are i) in
      let inside : i < length (wiring_of p All).tasks = let c = wired_tasks p All in omega arith in
      let b = ((wiring-whole p All).each_task i inside).ports in omega arith

  pub some_slot : (i : ℕ) → i < length p.diagram.tasks → 0 < (task_sizes (sizes_of p.diagram) i).slots
  some_slot i below =
      let a = ap (λ (x : SlotSizes). x.slots) (sizes_are i) in
      let inside : i < length (wiring_of p All).tasks = let c = wired_tasks p All in omega arith in
      let b = ((wiring-whole p All).each_task i inside).some_slot in omega arith

  -- ---- none

  none_yet : (q : TableWord) → number_so_far p 0 q ≡ 0
  none_yet (gate i) = refl
  none_yet (ended i) = refl
  none_yet (aim i) = refl
  none_yet (claim k) = refl
  none_yet (stamp i zero) = rw (lt_none i) refl
  none_yet (stamp i (suc n)) = refl
  none_yet (word i zero port) = rw (lt_none i) refl
  none_yet (word i (suc n) port) = refl

  pub so_far_none : (words : List ℕ) → words ≡ replicate (word_count (sizes_of p.diagram)) 0 → HasNumbersSoFar p 0 words
  so_far_none words is = record {
    size = ap (λ (l : List ℕ). length l) is ∙ length-replicate {A = ℕ} (word_count (sizes_of p.diagram)) 0;
    each = λ q inside.
        ap (λ (l : List ℕ). get_or l (address_of (sizes_of p.diagram) q) 0) is
        ∙ (repeat_each (λ (x : ℕ). x ≡ 0) (word_count (sizes_of p.diagram)) 0 0 refl refl (address_of (sizes_of p.diagram) q) ∙ sym (none_yet q));
  }

  -- ---- one task more

  module _ (old words : List ℕ) (n : ℕ) (below : n < length p.diagram.tasks) (so_far : HasNumbersSoFar p n old) (filled : HasSlotFilled (sizes_of p.diagram) n (declared_task p n).outs (length (declared_task p n).outs) old words) where
    kept : (q : TableWord) → IsWord (sizes_of p.diagram) q → IsNotInFirstSlot n q → get_or words (address_of (sizes_of p.diagram) q) 0 ≡ number_so_far p n q
    kept q inside apart = filled.others q inside apart ∙ so_far.each q inside

    stamp_apart : (i : ℕ) → i ≢ n → IsNotInFirstSlot n (stamp i 0)
    stamp_apart i other = (λ e. other (cc (e)), λ port e. absurd (cc (e)))

    word_apart : (i port : ℕ) → i ≢ n → IsNotInFirstSlot n (word i 0 port)
    word_apart i port other = (λ e. absurd (cc (e)), λ k e. other (cc (e)))

    stamp_next : (i : ℕ) → IsWord (sizes_of p.diagram) (stamp i 0) → get_or words (address_of (sizes_of p.diagram) (stamp i 0)) 0 ≡ number_so_far p (n + 1) (stamp i 0)
    stamp_next i inside = dite (ℕ_discrete i n)
        (λ same. rw (lt_here i n same) (ap (λ (k : ℕ). get_or words (address_of (sizes_of p.diagram) (stamp k 0)) 0) same ∙ filled.stamped))
        (λ other. rw (lt_next i n other) (kept (stamp i 0) inside (stamp_apart i other)))

    word_next : (i port : ℕ) → IsWord (sizes_of p.diagram) (word i 0 port) → get_or words (address_of (sizes_of p.diagram) (word i 0 port)) 0 ≡ number_so_far p (n + 1) (word i 0 port)
    word_next i port inside = dite (ℕ_discrete i n)
        (λ same.
        let few : port < length (declared_task p n).outs = let a = inside.1 in let b = ap (λ (k : ℕ). (task_sizes (sizes_of p.diagram) k).ports) same in let c = ports_are n below in omega arith in
        rw (lt_here i n same) (ap (λ (k : ℕ). get_or words (address_of (sizes_of p.diagram) (word k 0 port)) 0) same ∙ (filled.values port few ∙ ap (λ (k : ℕ). start_number p (word k 0 port)) (sym same))))
        (λ other. rw (lt_next i n other) (kept (word i 0 port) inside (word_apart i port other)))

    each_next : (q : TableWord) → IsWord (sizes_of p.diagram) q → get_or words (address_of (sizes_of p.diagram) q) 0 ≡ number_so_far p (n + 1) q
    each_next (gate i) inside = kept (gate i) inside (λ e. absurd (cc (e)), λ port e. absurd (cc (e)))
    each_next (ended i) inside = kept (ended i) inside (λ e. absurd (cc (e)), λ port e. absurd (cc (e)))
    each_next (aim i) inside = kept (aim i) inside (λ e. absurd (cc (e)), λ port e. absurd (cc (e)))
    each_next (claim k) inside = kept (claim k) inside (λ e. absurd (cc (e)), λ port e. absurd (cc (e)))
    each_next (stamp i zero) inside = stamp_next i inside
    each_next (stamp i (suc m)) inside = kept (stamp i (suc m)) inside (λ e. absurd (cc (e)), λ port e. absurd (cc (e)))
    each_next (word i zero port) inside = word_next i port inside
    each_next (word i (suc m) port) inside = kept (word i (suc m) port) inside (λ e. absurd (cc (e)), λ k e. absurd (cc (e)))

    pub so_far_more : HasNumbersSoFar p (n + 1) words
    so_far_more = record { size = filled.size ∙ so_far.size; each = each_next }

  -- ---- all

  all_there : (q : TableWord) → IsWord (sizes_of p.diagram) q → number_so_far p (length p.diagram.tasks) q ≡ start_number p q
  all_there (gate i) inside = refl
  all_there (ended i) inside = refl
  all_there (aim i) inside = refl
  all_there (claim k) inside = refl
  all_there (stamp i zero) inside = let below : i < length p.diagram.tasks = let a = inside.0 in let b = task_count_is in omega arith in rw (lt_below i (length p.diagram.tasks) below) refl
  all_there (stamp i (suc n)) inside = refl
  all_there (word i zero port) inside = let below : i < length p.diagram.tasks = let a = inside.0.0 in let b = task_count_is in omega arith in rw (lt_below i (length p.diagram.tasks) below) refl
  all_there (word i (suc n) port) inside = refl

  pub so_far_all : (words : List ℕ) → HasNumbersSoFar p (length p.diagram.tasks) words → HasFirstNumbers p words
  so_far_all words so_far = record { size = so_far.size; each = λ q inside. so_far.each q inside ∙ all_there q inside }
