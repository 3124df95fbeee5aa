-- The words of the table by the region that they stand in.
use Rattle.std.proofs.Common.{◌≡◌, ℕ, zero, suc, ◌+◌, ◌-◌, ◌*◌, ◌/◌, ◌%◌, ◌<◌, ◌≤◌, length, refl, sym, ◌∙◌, ap, arith, inl, inr}
use Rattle.std.proofs.lemmas.Bool.{cases_lt}
use Rattle.std.proofs.lemmas.Nat.{div-mul-add, mod-mul-add, div-add-mod', div_below, mod_below}
use Rattle.dbp_slots.specs.TableWords.{Sizes, TableWord, gate, ended, aim, claim, stamp, word, task_sizes, slot_size, block_begin, word_count, address_of, IsSlot, IsWord, IsWordAt}
use Rattle.dbp_slots.proofs.Blocks.{begins_rise, block_of, next_begin, slot_inside, one_block}

-- a task's word with this number of three, a link's word, or a slot's word with this number
pub data Spot : Type 0 where
  control : ℕ → ℕ → Spot
  link : ℕ → Spot
  inside : ℕ → ℕ → ℕ → Spot

abbrev spot_of : TableWord → Spot
spot_of (gate i) = control i 0
spot_of (ended i) = control i 1
spot_of (aim i) = control i 2
spot_of (claim k) = link k
spot_of (stamp i n) = inside i n 0
spot_of (word i n p) = inside i n (suc p)

abbrev word_at : Spot → TableWord
word_at (control i zero) = gate i
word_at (control i (suc zero)) = ended i
word_at (control i (suc (suc _))) = aim i
word_at (link k) = claim k
word_at (inside i n zero) = stamp i n
word_at (inside i n (suc p)) = word i n p

word_again : (w : TableWord) → word_at (spot_of w) ≡ w
word_again (gate i) = refl
word_again (ended i) = refl
word_again (aim i) = refl
word_again (claim k) = refl
word_again (stamp i n) = refl
word_again (word i n p) = refl

abbrev spot_address : Sizes → Spot → ℕ
spot_address s (control i r) = 1 + 3 * i + r
spot_address s (link k) = 1 + 3 * length s.tasks + k
spot_address s (inside i n r) = block_begin s i + n * slot_size (task_sizes s i) + r

abbrev IsSpot : Sizes → Spot → Type 0
IsSpot s (control i r) = (i < length s.tasks) × (r < 3)
IsSpot s (link k) = k < s.links
IsSpot s (inside i n r) = IsSlot s i n × (r < slot_size (task_sizes s i))

spot_is : (s : Sizes) (w : TableWord) → IsWord s w → IsSpot s (spot_of w) × (address_of s w ≡ spot_address s (spot_of w))
spot_is s (gate i) is = ((is, omega arith), omega arith)
spot_is s (ended i) is = ((is, omega arith), omega arith)
spot_is s (aim i) is = ((is, omega arith), omega arith)
spot_is s (claim k) is = (is, omega arith)
spot_is s (stamp i n) is = ((is, omega arith), omega arith)
spot_is s (word i n p) is = ((is.0, omega arith), omega arith)

-- an address of a block
from_begin : (s : Sizes) (i n r : ℕ) → block_begin s i ≤ block_begin s i + n * slot_size (task_sizes s i) + r
from_begin s i n r = omega arith

spot_inside : (s : Sizes) (e : Spot) → IsSpot s e → (1 ≤ spot_address s e) × (spot_address s e < word_count s)
spot_inside s (control i r) is = (omega arith, omega arith)
spot_inside s (link k) is = (omega arith, omega arith)
spot_inside s (inside i n r) is =
    (omega arith, omega (arith, slot_inside s i n r is.0 is.1, begins_rise s (i + 1) (length s.tasks) (omega arith)))

-- slots of one size stand apart
same_slot : (size n m r q : ℕ) → r < size → q < size → n * size + r ≡ m * size + q → (n ≡ m) × (r ≡ q)
same_slot size n m r q r_below q_below same = (
  sym (div-mul-add n size r r_below) ∙ ap (λ z. z / size) same ∙ div-mul-add m size q q_below,
  sym (mod-mul-add n size r r_below) ∙ ap (λ z. z % size) same ∙ mod-mul-add m size q q_below,
)

one_spot : (s : Sizes) (d e : Spot) → IsSpot s d → IsSpot s e → spot_address s d ≡ spot_address s e → d ≡ e
one_spot s (control i r) (control j q) is_d is_e same =
    let tasks : i ≡ j = omega arith in
    let numbers : r ≡ q = omega arith in
    cc
one_spot s (control i r) (link k) is_d is_e same = absurd (omega arith)
one_spot s (control i r) (inside j m q) is_d is_e same = absurd (omega arith)
one_spot s (link k) (control i r) is_d is_e same = absurd (omega arith)
one_spot s (link k) (link j) is_d is_e same = let links : k ≡ j = omega arith in cc
one_spot s (link k) (inside j m q) is_d is_e same = absurd (omega arith)
one_spot s (inside i n r) (control j q) is_d is_e same = absurd (omega arith)
one_spot s (inside i n r) (link k) is_d is_e same = absurd (omega arith)
one_spot s (inside i n r) (inside j m q) is_d is_e same =
    let tasks : i ≡ j =
    one_block s i j (spot_address s (inside i n r)) (spot_address s (inside j m q)) is_d.0.0 is_e.0.0
    (from_begin s i n r) (slot_inside s i n r is_d.0 is_d.1) (from_begin s j m q) (slot_inside s j m q is_e.0 is_e.1) same in
    in_block i j n m r q tasks is_d.1 is_e.1 same
  where
    in_block : (i j n m r q : ℕ) → i ≡ j → r < slot_size (task_sizes s i) → q < slot_size (task_sizes s j) → spot_address s (inside i n r) ≡ spot_address s (inside j m q) → inside i n r ≡ inside j m q
    in_block i j n m r q tasks r_below q_below same =
        let size = slot_size (task_sizes s i) in
        let sizes : slot_size (task_sizes s j) ≡ size = ap (λ k. slot_size (task_sizes s k)) (sym tasks) in
        let begins : block_begin s j ≡ block_begin s i = ap (block_begin s) (sym tasks) in
        let q_fits : q < size = omega (arith, sizes) in
        let moved : block_begin s i + n * size + r ≡ block_begin s i + m * size + q = rw (sizes, begins) at same in
        let here : n * size + r ≡ m * size + q = omega (arith, moved) in
        let (slots, numbers) = same_slot size n m r q r_below q_fits here in
        cc (tasks, slots, numbers)

pub word_inside : (s : Sizes) (w : TableWord) → IsWord s w → (1 ≤ address_of s w) × (address_of s w < word_count s)
word_inside s w is =
    let (spot, address) = spot_is s w is in
    let (first, last) = spot_inside s (spot_of w) spot in
    (omega arith, omega arith)

pub one_word : (s : Sizes) (v w : TableWord) → IsWord s v → IsWord s w → address_of s v ≡ address_of s w → v ≡ w
one_word s v w is_v is_w same =
    let (spot_v, address_v) = spot_is s v is_v in
    let (spot_w, address_w) = spot_is s w is_w in
    sym (word_again v) ∙ ap word_at (one_spot s (spot_of v) (spot_of w) spot_v spot_w (sym address_v ∙ same ∙ address_w)) ∙ word_again w

-- each address after word 0 is a spot's

block_spot : (s : Sizes) (a i : ℕ) → i < length s.tasks → block_begin s i ≤ a → a < block_begin s (i + 1) → (e : Spot) × IsSpot s e × (spot_address s e ≡ a)
block_spot s a i below from to =
    let size = slot_size (task_sizes s i) in
    let offset = a - block_begin s i in
    let short : offset < (task_sizes s i).slots * size = omega (arith, next_begin s i below) in
    let slot : offset / size < (task_sizes s i).slots = div_below offset size (task_sizes s i).slots (omega arith) short in
    (inside i (offset / size) (offset % size), ((below, slot), mod_below offset size (omega arith)), omega (arith, div-add-mod' offset size))

any_spot : (s : Sizes) (a : ℕ) → 1 ≤ a → a < word_count s → (e : Spot) × IsSpot s e × (spot_address s e ≡ a)
any_spot s a first within =
    let tasks = length s.tasks in
    elim (cases_lt a (1 + 3 * tasks)) [
      | inl control_word ↦ (control ((a - 1) / 3) ((a - 1) % 3), (omega arith, omega arith), omega arith)
      | inr later ↦ elim (cases_lt a (1 + 3 * tasks + s.links)) [
        | inl link_word ↦ (link (a - 1 - 3 * tasks), omega arith, omega arith)
        | inr last ↦
            let (i, below, from, to) = block_of s tasks a (omega arith) within in
            block_spot s a i below from to
      ]
    ]

spot_word : (s : Sizes) (e : Spot) → IsSpot s e → IsWordAt s (spot_address s e) (word_at e)
spot_word s (control i zero) is = record { in_table = is.0; is = omega arith }
spot_word s (control i (suc zero)) is = record { in_table = is.0; is = omega arith }
spot_word s (control i (suc (suc r))) is = record { in_table = is.0; is = omega arith }
spot_word s (link k) is = record { in_table = is; is = omega arith }
spot_word s (inside i n zero) is = record { in_table = is.0; is = omega arith }
spot_word s (inside i n (suc p)) is = record { in_table = (is.0, omega arith); is = omega arith }

pub word_at_address : (s : Sizes) (a : ℕ) → 1 ≤ a → a < word_count s → (w : TableWord) × IsWordAt s a w
word_at_address s a first within =
    let (e, is, there) = any_spot s a first within in
    let found = spot_word s e is in
    (word_at e, record { in_table = found.in_table; is = found.is ∙ there })
