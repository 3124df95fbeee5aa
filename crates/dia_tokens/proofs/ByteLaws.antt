-- What the kinds of bytes say of the bytes.
use Rattle.std.proofs.Common.{◌≡◌, ℕ, Bool, true, List, [], ◌∷◌, ◌∙◌, sym, arith}
use Rattle.std.proofs.lemmas.Bool.Decides.{nat_tests}
use Rattle.std.specs.Int.{IsInRange}
use Rattle.std.specs.List.{fold, list_all}
use Rattle.std.proofs.Math.Bool.{and-true, and_assoc}
use Rattle.std.specs.Prelude.{IsTrue, not, ◌&&◌}
use Rattle.std.specs.Char.{is_ascii_digit}
use Rattle.dbp_plan.specs.Name.{is_name_byte}
use Rattle.dia_tokens.specs.declared.kind.Kind.TheVariants.{Letter, Dash}
use Rattle.dia_tokens.specs.Kinds.{kind_of, symbol_kind_of, is_digit, is_name}

pub digit-bounds : (b : ℕ) → is_digit b ≡ true → IsInRange 48 57 b
unfolding kind_of symbol_kind_of
digit-bounds b e = grind (arith, nat_tests)

pub digit-at : (b : ℕ) → IsInRange 48 57 b → is_digit b ≡ true
unfolding kind_of symbol_kind_of
digit-at b h = grind (arith, nat_tests)

pub dash-is : (b : ℕ) → kind_of b ≡ Dash → b ≡ 45
unfolding kind_of symbol_kind_of
dash-is b e = grind (arith, nat_tests)

pub letter-begins : (b : ℕ) → kind_of b ≡ Letter → IsTrue (not (is_ascii_digit b))
unfolding kind_of symbol_kind_of
letter-begins b e = grind (arith, nat_tests)

pub name-byte : (b : ℕ) → is_name b ≡ true → IsTrue (is_name_byte b)
unfolding kind_of symbol_kind_of
name-byte b e = grind (arith, nat_tests)

-- the fold of a test by `and` says whether all pass it
folds-on : {X : Type 0} (p : X → Bool) (a : Bool) (xs : List X) → fold (λ b x. b && p x) a xs ≡ (a && list_all p xs)
folds-on p a [] = sym (and-true a)
folds-on p a (x ∷ xs) = folds-on p (a && p x) xs ∙ and_assoc a (p x) (list_all p xs)

pub folds-all : {X : Type 0} (p : X → Bool) (xs : List X) → fold (λ b x. b && p x) true xs ≡ list_all p xs
folds-all p xs = folds-on p true xs
