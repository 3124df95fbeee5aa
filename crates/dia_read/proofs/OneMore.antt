-- What is said of lines, and of one more after them.
use Rattle.std.proofs.Common.{◌≡◌, ℕ, ◌+◌, Bool, true, false, cond, List, [], ◌∷◌, ◌++◌, length, filter, reverse, refl, sym, ap, ◌∙◌, append_assoc, arith}
use Rattle.std.specs.Prelude.{◌==◌}
use Rattle.std.proofs.lemmas.Bool.Decides.{nat_tests}
use Rattle.std.proofs.lemmas.List.{reverse-append}
use Rattle.std.proofs.lemmas.List.Elements.{filter-append}
use Rattle.dia_lines.specs.Statements.{Statement, header, policy, until}
use Rattle.dia_lines.specs.Lines.{Content, says, row, step, statements}
use Rattle.dia_read.specs.Documents.{versions, policies, ends, lines_from, lines_with, kept, kept_text}

pub reverse-more : (x : Content) (before : List Content) → reverse (x ∷ before) ≡ reverse before ++ x ∷ []
reverse-more x before = reverse-append (x ∷ []) before

pub statements-append : (a b : List Content) → statements (a ++ b) ≡ statements a ++ statements b
statements-append [] b = refl
statements-append (says s ∷ a) b = ap (λ ss. s ∷ ss) (statements-append a b)
statements-append (row t ∷ a) b = statements-append a b
statements-append (step t ∷ a) b = statements-append a b

versions-append : (a b : List Statement) → versions (a ++ b) ≡ versions a ++ versions b
versions-append [] b = refl
versions-append (header v ∷ a) b = ap (λ vs. v ∷ vs) (versions-append a b)
versions-append (s ∷ a) b = versions-append a b

policies-append : (a b : List Statement) → policies (a ++ b) ≡ policies a ++ policies b
policies-append [] b = refl
policies-append (policy p ∷ a) b = ap (λ ps. p ∷ ps) (policies-append a b)
policies-append (s ∷ a) b = policies-append a b

ends-append : (a b : List Statement) → ends (a ++ b) ≡ ends a ++ ends b
ends-append [] b = refl
ends-append (until e ∷ a) b = ap (λ es. e ∷ es) (ends-append a b)
ends-append (s ∷ a) b = ends-append a b

pub versions-more : (said : List Content) (x : Content) → versions (statements (said ++ x ∷ [])) ≡ versions (statements said) ++ versions (statements (x ∷ []))
versions-more said x = ap versions (statements-append said (x ∷ [])) ∙ versions-append (statements said) (statements (x ∷ []))

pub policies-more : (said : List Content) (x : Content) → policies (statements (said ++ x ∷ [])) ≡ policies (statements said) ++ policies (statements (x ∷ []))
policies-more said x = ap policies (statements-append said (x ∷ [])) ∙ policies-append (statements said) (statements (x ∷ []))

pub ends-more : (said : List Content) (x : Content) → ends (statements (said ++ x ∷ [])) ≡ ends (statements said) ++ ends (statements (x ∷ []))
ends-more said x = ap ends (statements-append said (x ∷ [])) ∙ ends-append (statements said) (statements (x ∷ []))

pub filter-more : (kind : Statement → Bool) (said : List Content) (x : Content) → filter kind (statements (said ++ x ∷ [])) ≡ filter kind (statements said) ++ filter kind (statements (x ∷ []))
filter-more kind said x = ap (filter kind) (statements-append said (x ∷ [])) ∙ filter-append kind (statements said) (statements (x ∷ []))

lines_from-more : (n : ℕ) (kind : Content → Bool) (said : List Content) (x : Content) → lines_from n kind (said ++ x ∷ []) ≡ lines_from n kind said ++ lines_from (n + length said) kind (x ∷ [])
lines_from-more n kind [] x = ap (λ m. lines_from m kind (x ∷ [])) (omega arith)
lines_from-more n kind (y ∷ said) x =
    go (kind y) (lines_from-more (n + 1) kind said x ∙ ap (λ m. lines_from (n + 1) kind said ++ lines_from m kind (x ∷ [])) (omega arith))
  where
    go : (b : Bool) → lines_from (n + 1) kind (said ++ x ∷ []) ≡ lines_from (n + 1) kind said ++ lines_from (n + length (y ∷ said)) kind (x ∷ [])
        → cond b (n ∷ lines_from (n + 1) kind (said ++ x ∷ [])) (lines_from (n + 1) kind (said ++ x ∷ []))
        ≡ cond b (n ∷ lines_from (n + 1) kind said) (lines_from (n + 1) kind said) ++ lines_from (n + length (y ∷ said)) kind (x ∷ [])
    go true rest = ap (λ ns. n ∷ ns) rest
    go false rest = rest

-- the number of the line after so many others
pub lines-more : (kind : Content → Bool) (said : List Content) (x : Content) → lines_with kind (said ++ x ∷ []) ≡ lines_with kind said ++ lines_from (length said + 1) kind (x ∷ [])
lines-more kind said x = lines_from-more 1 kind said x ∙ ap (λ m. lines_with kind said ++ lines_from m kind (x ∷ [])) (omega arith)

pub kept-more : (kind : Content → Bool) (said : List Content) (x : Content) → kept kind (said ++ x ∷ []) ≡ kept kind said ++ kept kind (x ∷ [])
kept-more kind [] x = refl
kept-more kind (y ∷ said) x = go (kind y) (kept-more kind said x)
  where
    go : (b : Bool) → kept kind (said ++ x ∷ []) ≡ kept kind said ++ kept kind (x ∷ [])
        → cond b (kept_text y ++ 10 ∷ kept kind (said ++ x ∷ [])) (kept kind (said ++ x ∷ []))
        ≡ cond b (kept_text y ++ 10 ∷ kept kind said) (kept kind said) ++ kept kind (x ∷ [])
    go true rest = ap (λ bs. kept_text y ++ 10 ∷ bs) rest ∙ sym (append_assoc (kept_text y) (10 ∷ kept kind said) (kept kind (x ∷ [])))
    go false rest = rest

pub nothing-left : (xs : List ℕ) → (length xs == 0) ≡ true → xs ≡ []
nothing-left [] e = refl
nothing-left (x ∷ xs) e = absurd (grind (arith, nat_tests))
