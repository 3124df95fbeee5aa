-- The rows of the table of commands, and that no two of them fit the same arguments.
use Rattle.std.proofs.Common.{◌≡◌, ℕ, zero, suc, ◌<◌, Bool, true, Some, List, [], ◌∷◌, ◌++◌, length, map, get_or, refl, sym, ap, subst, ◌∙◌, arith}
use Rattle.std.specs.Prelude.{◌&&◌, slice_get, string_bytes}
use Rattle.std.specs.List.{list_all, flat_map}
use Rattle.std.specs.declared.alloc.Global.{Global}
use Rattle.std.specs.declared.string.String.{String}
use Rattle.std.proofs.lemmas.Bool.{and_parts}
use Rattle.std.proofs.lemmas.List.{length-map}
use Rattle.std.proofs.lemmas.Option.{same_Some, slice_get-map, slice_get-get_or, slice_get_within}
use Rattle.dbp_top.specs.Commands.{HasAllCommands, CommandRow, Names, by_row, command_list, command_table, first_operands, made, row_of}
use Rattle.dbp_top.specs.Patterns.{AllFit, listed_forms}
use Rattle.dbp_answers.specs.declared.command.Command.{Command}
use Rattle.dbp_top.specs.declared.operands.Maker.TheVariants as maker
use Rattle.dbp_top.specs.declared.operands.Operands.{Operands}
use Rattle.dbp_top.specs.declared.table.Row.{Row}
use Rattle.dbp_top.proofs.ArgumentForms.{all-fit-once, are_apart, not-both}

-- no arguments fit two of the rows
abbrev pub are_distinct : List CommandRow → Bool
are_distinct [] = true
are_distinct (l ∷ ls) = list_all (λ m. are_apart l.0 m.0) ls && are_distinct ls

all-at : (p : CommandRow → Bool) (ls : List CommandRow) (k : ℕ) (m : CommandRow) → list_all p ls ≡ true → slice_get ls k ≡ Some m → p m ≡ true
all-at p [] k m all at = absurd cc
all-at p (l ∷ ls) zero m all at = let same : l ≡ m = cc in subst (λ (n : CommandRow). p n ≡ true) same (and_parts (p l) (list_all p ls) all).0
all-at p (l ∷ ls) (suc k) m all at = all-at p ls k m (and_parts (p l) (list_all p ls) all).1 at

pub one-row : (ls : List CommandRow) (k j : ℕ) (l m : CommandRow) (ws : List (List ℕ)) (b x y : Operands) → are_distinct ls ≡ true → slice_get ls k ≡ Some l → slice_get ls j ≡ Some m
    → AllFit l.0 ws b x → AllFit m.0 ws b y → l ≡ m
one-row [] k j l m ws b x y distinct at here fit other = absurd cc
one-row (n ∷ ls) zero zero l m ws b x y distinct at here fit other = cc
one-row (n ∷ ls) zero (suc j) l m ws b x y distinct at here fit other =
    let both = and_parts (list_all (λ m. are_apart n.0 m.0) ls) (are_distinct ls) distinct in
    let same : n ≡ l = cc in
    absurd (not-both n.0 m.0 ws b b x y (all-at (λ m. are_apart n.0 m.0) ls j m both.0 here) (subst (λ (z : CommandRow). AllFit z.0 ws b x) (sym same) fit) other)
one-row (n ∷ ls) (suc k) zero l m ws b x y distinct at here fit other =
    let both = and_parts (list_all (λ m. are_apart n.0 m.0) ls) (are_distinct ls) distinct in
    let same : n ≡ m = cc in
    absurd (not-both n.0 l.0 ws b b y x (all-at (λ m. are_apart n.0 m.0) ls k l both.0 at) (subst (λ (z : CommandRow). AllFit z.0 ws b y) (sym same) other) fit)
one-row (n ∷ ls) (suc k) (suc j) l m ws b x y distinct at here fit other =
    one-row ls k j l m ws b x y (and_parts (list_all (λ m. are_apart n.0 m.0) ls) (are_distinct ls) distinct).1 at here fit other

pub one-command : (arguments : List (String Global)) (c d : Command) → Names arguments c → Names arguments d → c ≡ d
one-command arguments c d (by_row k l _ at (x, fit, makes)) (by_row j m _ here (y, other, also)) =
    let ws : List (List ℕ) = map (λ (w : String Global). string_bytes w) arguments in
    let same : l ≡ m = one-row command_table k j l m ws first_operands x y refl at here fit other in
    let given : x ≡ y = all-fit-once m.0 ws first_operands x y (subst (λ (z : CommandRow). AllFit z.0 ws first_operands x) same fit) other in
    same_Some c d (sym makes ∙ (λ i. made (same i).1 (given i)) ∙ also)

-- ---- the rows

row-count : (rows : List Row) → HasAllCommands rows → length rows ≡ length command_table
row-count rows all = sym (length-map rows row_of) ∙ ap length all

-- a row of the code is the one at its index of the table
pub row-listed : (rows : List Row) (k : ℕ) (d : Row) → HasAllCommands rows → k < length rows → slice_get command_table k ≡ Some (row_of (get_or rows k d))
row-listed rows k d all below =
    ap (λ (ls : List CommandRow). slice_get ls k) (sym all) ∙ slice_get-map row_of rows k ∙ rw (slice_get-get_or rows k d below) refl

-- each row of the table is one of the code
pub listed-row : (rows : List Row) (k : ℕ) (d : Row) (l : CommandRow) → HasAllCommands rows → slice_get command_table k ≡ Some l → (k < length rows) × (row_of (get_or rows k d) ≡ l)
listed-row rows k d l all at =
    let below : k < length rows = omega (arith, slice_get_within command_table k l at, row-count rows all) in
    let both : Some (row_of (get_or rows k d)) ≡ Some l = sym (row-listed rows k d all below) ∙ at in
    (below, cc)

flat-map-map : {X Y : Type 0} (f : Y → List ℕ) (h : X → Y) (xs : List X) → flat_map (λ x. f (h x)) xs ≡ flat_map f (map h xs)
flat-map-map f h [] = refl
flat-map-map f h (x ∷ xs) = ap (λ l. f (h x) ++ l) (flat-map-map f h xs)

-- the lines of all rows list all commands
pub all-listed : (rows : List Row) → HasAllCommands rows → flat_map (λ r. listed_forms (row_of r).0) rows ≡ command_list
all-listed rows all =
    let text : CommandRow → List ℕ = λ l. listed_forms l.0 in
    flat-map-map text row_of rows ∙ ap (λ (ls : List CommandRow). flat_map text ls) all

-- what stands for a row if there is none
abbrev pub no_row : Row
no_row = record { patterns = record { ref_ptr = (0, 0); now = [] }; maker = maker.Mean }
