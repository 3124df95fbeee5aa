-- The bodies of generated tasks, by how many reads they have.
use Rattle.std.proofs.Common.{◌≡◌, ℕ, zero, suc, ◌+◌, ◌-◌, ◌<◌, ◌≤◌, Bool, true, false, All, List, [], ◌∷◌, length, pos, refl, arith}
use Rattle.std.specs.Prelude.{count_by, fold, codes}
use Rattle.std.proofs.lemmas.List.Elements.{All-append, All-from_recursion, All-head, All-tail}
use Rattle.dia_exprs.specs.Printable.{IsPrintableTree}
use Rattle.dia_exprs.proofs.PrintableTrees.{printable-nodes}
use Rattle.dia_lines.specs.declared.item.Part.{Part}
use Rattle.dia_lines.specs.declared.item.Part.TheVariants.{State, Sense, Next, Out}
use Rattle.dia_tokens.specs.Printable.{IsPrintableName}
use Rattle.dbp_plan.specs.Limits.{max_delay, max_delay-is}
use Rattle.dbp_plan.specs.Tree.{Tree}
use Rattle.dia_read.specs.Printable.{is_read_part, is_out_part, IsPrintablePart}
use Rattle.dia_check.proofs.PlaceLaws.{only-one}
use Rattle.dbp_load.specs.Bodies.{parts_of, early_read, late_read, late_names, names_of_reads, few_reads, read_name, read_of}
use Rattle.drawn_numbers.specs.Draws.{drawn, after_draws}
use Rattle.dbp_load.specs.Expressions.{with_read, first_sum, out_tree, out_expr, next_tree, next_expr}
use Rattle.dbp_load.specs.Listed.{first_items}
use Rattle.drawn_numbers.proofs.DrawLaws.{drawn-below}
use Rattle.dbp_load.proofs.ListedItems.{all-listed}
use Rattle.dbp_load.proofs.NameTexts.{s-prints, g-prints, g0-prints, q-prints, y-prints, read-prints, task-prints}

-- what holds of each body holds by the number of its reads
module _ (P : (early : ℕ) → Bool → early ≤ 3 → Type 0) where
  pub by-reads : ((few : 0 ≤ 3) → P 0 true few) → ((few : 0 ≤ 3) → P 0 false few)
      → ((few : 1 ≤ 3) → P 1 true few) → ((few : 1 ≤ 3) → P 1 false few)
      → ((few : 2 ≤ 3) → P 2 true few) → ((few : 2 ≤ 3) → P 2 false few)
      → ((few : 3 ≤ 3) → P 3 true few) → ((few : 3 ≤ 3) → P 3 false few)
      → (early : ℕ) (late : Bool) (few : early ≤ 3) → P early late few
  by-reads a b c d e f g h zero true few = a few
  by-reads a b c d e f g h zero false few = b few
  by-reads a b c d e f g h (suc zero) true few = c few
  by-reads a b c d e f g h (suc zero) false few = d few
  by-reads a b c d e f g h (suc (suc zero)) true few = e few
  by-reads a b c d e f g h (suc (suc zero)) false few = f few
  by-reads a b c d e f g h (suc (suc (suc zero))) true few = g few
  by-reads a b c d e f g h (suc (suc (suc zero))) false few = h few
  by-reads a b c d e f g h (suc (suc (suc (suc n)))) late few = absurd (omega arith)

-- few lines
pub record HasFewLines (parts : List Part) : Type 0 where
  pub lines : length parts ≤ 8
  pub reads : count_by is_read_part parts ≤ 4
  pub outs : count_by is_out_part parts ≤ 1

module _ (size draws i : ℕ) where
  pub few-lines : (early : ℕ) (late : Bool) (few : early ≤ 3) → HasFewLines (parts_of size draws i early late few)
  few-lines = by-reads (λ early late few. HasFewLines (parts_of size draws i early late few))
      (λ few. record { lines = omega arith; reads = omega arith; outs = omega arith })
      (λ few. record { lines = omega arith; reads = omega arith; outs = omega arith })
      (λ few. record { lines = omega arith; reads = omega arith; outs = omega arith })
      (λ few. record { lines = omega arith; reads = omega arith; outs = omega arith })
      (λ few. record { lines = omega arith; reads = omega arith; outs = omega arith })
      (λ few. record { lines = omega arith; reads = omega arith; outs = omega arith })
      (λ few. record { lines = omega arith; reads = omega arith; outs = omega arith })
      (λ few. record { lines = omega arith; reads = omega arith; outs = omega arith })

-- ---- they can be printed

sum-prints : (t : Tree (List ℕ)) (reads : List (List ℕ)) → IsPrintableTree t → All IsPrintableName reads → IsPrintableTree (fold with_read t reads)
sum-prints t [] tree names = tree
sum-prints t (read ∷ reads) tree names =
    sum-prints (with_read t read) reads (tree, All-head IsPrintableName read reads names) (All-tail IsPrintableName read reads names)

first-prints : IsPrintableTree first_sum
first-prints = ((s-prints, omega arith), g0-prints)

out-prints : (reads : List (List ℕ)) → All IsPrintableName reads → IsPrintableTree (out_tree reads)
out-prints reads names = (sum-prints first_sum reads first-prints names, omega arith)

next-prints : IsPrintableTree next_tree
next-prints = (s-prints, omega arith)

late-prints : (late : Bool) → All IsPrintableName (late_names late)
late-prints true = only-one IsPrintableName (codes "q") q-prints
late-prints false = λ k d below. absurd (omega arith)

names-print : (early : ℕ) (late : Bool) → early ≤ 3 → All IsPrintableName (names_of_reads early late)
names-print early late few =
    All-append IsPrintableName (first_items read_name early) (late_names late)
    (all-listed read_name IsPrintableName early (λ j below. read-prints j (omega arith))) (late-prints late)

read-of-prints : (name : List ℕ) (delay writer : ℕ) → IsPrintableName name → delay ≤ max_delay → writer < 32 → IsPrintablePart (read_of name delay writer)
read-of-prints name delay writer named delayed small = (named, delayed, task-prints writer (omega arith), y-prints, omega arith)

module _ (size draws i : ℕ) (few_tasks : size ≤ 32) (inside : i < size) where
  early-prints : (j : ℕ) → j < 3 → 0 < i → IsPrintablePart (early_read draws i j)
  early-prints j below some =
      let writer = drawn-below i (after_draws j draws) some in
      read-of-prints (read_name j) 0 (drawn i (after_draws j draws)) (read-prints j (omega arith)) (omega arith) (omega (arith, writer))

  late-read-prints : (early : ℕ) → i + 1 < size → IsPrintablePart (late_read size draws i early)
  late-read-prints early more =
      let writer = drawn-below (size - 1 - i) (after_draws early draws) (omega arith) in
      read-of-prints (codes "q") 1 (i + 1 + drawn (size - 1 - i) (after_draws early draws)) q-prints (omega (arith, max_delay-is)) (omega (arith, writer))

  out-part : (early : ℕ) (late : Bool) (few : early ≤ 3) → IsPrintablePart (Out (codes "y") (pos i) (out_expr (names_of_reads early late) (few_reads early late few)))
  out-part early late few = (y-prints, omega arith, printable-nodes 0 (out_tree (names_of_reads early late)) (out-prints (names_of_reads early late) (names-print early late few)))

  next-part : IsPrintablePart (Next (codes "s") next_expr)
  next-part = (s-prints, printable-nodes 0 next_tree next-prints)

  state-part : IsPrintablePart (State (codes "s") (pos 0))
  state-part = (s-prints, omega arith)

  sense-part : IsPrintablePart (Sense (codes "g0") (codes "g"))
  sense-part = (g0-prints, g-prints)

  abbrev Prints : (early : ℕ) → Bool → early ≤ 3 → Type 0
  Prints early late few = early ≤ i → (late ≡ true → i + 1 < size) → All IsPrintablePart (parts_of size draws i early late few)

  pub parts-print : (early : ℕ) (late : Bool) (few : early ≤ 3) → Prints early late few
  parts-print = by-reads Prints
      (λ few fits later. All-from_recursion IsPrintablePart (parts_of size draws i 0 true few) (state-part, (sense-part, (late-read-prints 0 (later refl), (next-part, (out-part 0 true few, tt))))))
      (λ few fits later. All-from_recursion IsPrintablePart (parts_of size draws i 0 false few) (state-part, (sense-part, (next-part, (out-part 0 false few, tt)))))
      (λ few fits later. All-from_recursion IsPrintablePart (parts_of size draws i 1 true few) (state-part, (sense-part, (early-prints 0 (omega arith) (omega arith), (late-read-prints 1 (later refl), (next-part, (out-part 1 true few, tt)))))))
      (λ few fits later. All-from_recursion IsPrintablePart (parts_of size draws i 1 false few) (state-part, (sense-part, (early-prints 0 (omega arith) (omega arith), (next-part, (out-part 1 false few, tt))))))
      (λ few fits later. All-from_recursion IsPrintablePart (parts_of size draws i 2 true few) (state-part, (sense-part, (early-prints 0 (omega arith) (omega arith), (early-prints 1 (omega arith) (omega arith), (late-read-prints 2 (later refl), (next-part, (out-part 2 true few, tt))))))))
      (λ few fits later. All-from_recursion IsPrintablePart (parts_of size draws i 2 false few) (state-part, (sense-part, (early-prints 0 (omega arith) (omega arith), (early-prints 1 (omega arith) (omega arith), (next-part, (out-part 2 false few, tt)))))))
      (λ few fits later. All-from_recursion IsPrintablePart (parts_of size draws i 3 true few) (state-part, (sense-part, (early-prints 0 (omega arith) (omega arith), (early-prints 1 (omega arith) (omega arith), (early-prints 2 (omega arith) (omega arith), (late-read-prints 3 (later refl), (next-part, (out-part 3 true few, tt)))))))))
      (λ few fits later. All-from_recursion IsPrintablePart (parts_of size draws i 3 false few) (state-part, (sense-part, (early-prints 0 (omega arith) (omega arith), (early-prints 1 (omega arith) (omega arith), (early-prints 2 (omega arith) (omega arith), (next-part, (out-part 3 false few, tt))))))))
