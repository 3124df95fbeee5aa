-- Arguments of these forms, and the operands that they give.
use Rattle.std.proofs.Common.{◌≡◌, ℕ, suc, ◌+◌, Bool, true, false, Option, Some, None, List, [], ◌∷◌, ◌++◌, length, map, drop, get_or, refl, sym, ap, subst, ◌∙◌, inl, inr}
use Rattle.std.specs.Prelude.{◌<◌, ◌↔◌, ◌==◌, ◌||◌, not, string_bytes}
use Rattle.std.specs.declared.alloc.Global.{Global}
use Rattle.std.specs.declared.string.String.{String}
use Rattle.std.specs.Str.Parse.{digits_value}
use Rattle.std.specs.Str.Pattern.{FindsTextPrefix, StripsPrefix}
use Rattle.std.proofs.lemmas.Bool.{eq-eqb, or_cases}
use Rattle.std.proofs.lemmas.List.{append-nil, at_drop_more, drop_at}
use Rattle.std.proofs.lemmas.Option.{same_Some}
use Rattle.dbp_plan.specs.Name.{IsName}
use Rattle.dbp_top.specs.Patterns.{AllFit, Fits, ArgumentForm, IsNumber, IsSize, form_of, name, number, size, with_name, with_number, with_size, argument}
use Rattle.dbp_top.specs.declared.pattern.Pattern.{Pattern}
use Rattle.dbp_top.specs.declared.pattern.Pattern.TheVariants.{Exact}
use Rattle.dbp_top.specs.declared.operands.Operands.{Operands}

-- what is left after a prefix is one text
pub after-prefix : (prefix rest other : List ℕ) → prefix ++ rest ≡ prefix ++ other → rest ≡ other
after-prefix prefix rest other same =
    sym (drop_at prefix rest (length prefix) refl) ∙ ap (λ (l : List ℕ). drop (length prefix) l) same ∙ drop_at prefix other (length prefix) refl

pub stripped : (prefix w x : List ℕ) → StripsPrefix (FindsTextPrefix prefix) w x → w ≡ prefix ++ x
stripped prefix w x s = s.1.1 ∙ ap (λ (l : List ℕ). prefix ++ l) (sym s.2)

-- ---- arguments have one list of operands

pub fits-once : (f : ArgumentForm) (w : List ℕ) (b x y : Operands) → Fits f w b x → Fits f w b y → x ≡ y
fits-once (argument text) w b x y fit other = fit.1 ∙ sym other.1
fits-once (number prefix) w b x y fit other =
    let same = after-prefix prefix fit.0 other.0 (sym fit.1 ∙ other.1) in
    fit.3 ∙ ap (λ (d : List ℕ). with_number b (digits_value 10 d)) same ∙ sym other.3
fits-once size w b x y fit other = fit.1 ∙ sym other.1
fits-once name w b x y fit other = fit.1 ∙ sym other.1

pub all-fit-length : (fs : List ArgumentForm) (ws : List (List ℕ)) (b x : Operands) → AllFit fs ws b x → length fs ≡ length ws
all-fit-length [] [] b x fit = refl
all-fit-length [] (w ∷ ws) b x fit = absurd fit
all-fit-length (f ∷ fs) [] b x fit = absurd fit
all-fit-length (f ∷ fs) (w ∷ ws) b x fit = ap suc (all-fit-length fs ws fit.0 x fit.2)

pub all-fit-once : (fs : List ArgumentForm) (ws : List (List ℕ)) (b x y : Operands) → AllFit fs ws b x → AllFit fs ws b y → x ≡ y
all-fit-once [] [] b x y fit other = fit ∙ sym other
all-fit-once [] (w ∷ ws) b x y fit other = absurd fit
all-fit-once (f ∷ fs) [] b x y fit other = absurd fit
all-fit-once (f ∷ fs) (w ∷ ws) b x y fit other =
    let same : fit.0 ≡ other.0 = fits-once f w b fit.0 other.0 fit.1 other.1 in
    all-fit-once fs ws other.0 x y (subst (λ (n : Operands). AllFit fs ws n x) same fit.2) other.2

-- ---- forms of which no argument has both

-- two texts differ at a place that both have
abbrev pub differ : List ℕ → List ℕ → Bool
differ [] _ = false
differ (a ∷ p) [] = false
differ (a ∷ p) (b ∷ q) = not (a == b) || differ p q

abbrev pub prefix_of : ArgumentForm → List ℕ
prefix_of (argument text) = text
prefix_of (number prefix) = prefix
prefix_of size = []
prefix_of name = []

-- some place has two forms of which no argument has both, or the lists differ in length
abbrev pub are_apart : List ArgumentForm → List ArgumentForm → Bool
are_apart [] [] = false
are_apart [] (g ∷ gs) = true
are_apart (f ∷ fs) [] = true
are_apart (f ∷ fs) (g ∷ gs) = differ (prefix_of f) (prefix_of g) || are_apart fs gs

not-same : (a b : ℕ) → not (a == b) ≡ true → a ≡ b → ⊥
not-same a b differs same = let is = eq-eqb a b same in absurd cc

differ-apart : (p q r s : List ℕ) → differ p q ≡ true → p ++ r ≡ q ++ s → ⊥
differ-apart [] q r s d e = absurd cc
differ-apart (a ∷ p) [] r s d e = absurd cc
differ-apart (a ∷ p) (b ∷ q) r s d e =
    elim (or_cases (not (a == b)) (differ p q) d) [
      | inl first ↦ not-same a b first cc
      | inr rest ↦ differ-apart p q r s rest cc
    ]

begins : (f : ArgumentForm) (w : List ℕ) (b x : Operands) → Fits f w b x → (rest : List ℕ) × (w ≡ prefix_of f ++ rest)
begins (argument text) w b x fit = ([], fit.0 ∙ sym (append-nil text))
begins (number prefix) w b x fit = (fit.0, fit.1)
begins size w b x fit = (w, refl)
begins name w b x fit = (w, refl)

pub not-both : (fs gs : List ArgumentForm) (ws : List (List ℕ)) (b c x y : Operands) → are_apart fs gs ≡ true → AllFit fs ws b x → AllFit gs ws c y → ⊥
not-both [] [] ws b c x y apart fit other = absurd cc
not-both [] (g ∷ gs) [] b c x y apart fit other = other
not-both [] (g ∷ gs) (w ∷ ws) b c x y apart fit other = fit
not-both (f ∷ fs) [] [] b c x y apart fit other = fit
not-both (f ∷ fs) [] (w ∷ ws) b c x y apart fit other = other
not-both (f ∷ fs) (g ∷ gs) [] b c x y apart fit other = fit
not-both (f ∷ fs) (g ∷ gs) (w ∷ ws) b c x y apart fit other =
    elim (or_cases (differ (prefix_of f) (prefix_of g)) (are_apart fs gs) apart) [
      | inl first ↦
          let left = begins f w b fit.0 fit.1 in
          let right = begins g w c other.0 other.1 in
          differ-apart (prefix_of f) (prefix_of g) left.0 right.0 first (sym left.1 ∙ right.1)
      | inr rest ↦ not-both fs gs ws fit.0 other.0 x y rest fit.2 other.2
    ]

-- ---- what the code says of an argument

pub given-number : (prefix w x : List ℕ) (m : ℕ) (before after : Operands) → w ≡ prefix ++ x → IsNumber x × (m ≡ digits_value 10 x)
    → (Some (with_number before m) ≡ Some after) ↔ Fits (number prefix) w before after
given-number prefix w x m before after split is = (
  λ told. (x, split, is.0, sym (same_Some (with_number before m) after told) ∙ ap (with_number before) is.1),
  λ fit.
      let rest : x ≡ fit.0 = after-prefix prefix x fit.0 (sym split ∙ fit.1) in
      ap (λ (n : Operands). Some n) (ap (with_number before) (is.1 ∙ ap (λ (d : List ℕ). digits_value 10 d) rest) ∙ sym fit.3),
)

pub given-size : (w : List ℕ) (m : ℕ) (before after : Operands) → IsSize w × (m ≡ digits_value 10 w)
    → (Some (with_size before m) ≡ Some after) ↔ Fits size w before after
given-size w m before after is = (
  λ told. (is.0, sym (same_Some (with_size before m) after told) ∙ ap (with_size before) is.1),
  λ fit. ap (λ (n : Operands). Some n) (ap (with_size before) is.1 ∙ sym fit.1),
)

pub given-name : (w n : List ℕ) (before after : Operands) → IsName w → n ≡ w → (Some (with_name before n) ≡ Some after) ↔ Fits name w before after
given-name w n before after is same = (
  λ told. (is, sym (same_Some (with_name before n) after told) ∙ ap (with_name before) same),
  λ fit. ap (λ (o : Operands). Some o) (ap (with_name before) same ∙ sym fit.1),
)

-- ---- arguments one after another

pub one-more : (f : ArgumentForm) (fs : List ArgumentForm) (w : List ℕ) (ws : List (List ℕ)) (before n : Operands) (r : Option Operands) → ((after : Operands) → (r ≡ Some after) ↔ Fits f w before after) → r ≡ Some n
    → (given : Operands) → AllFit (f ∷ fs) (w ∷ ws) before given ↔ AllFit fs ws n given
one-more f fs w ws before n r tells is given = (
  λ all. let some : Some all.0 ≡ Some n = sym ((tells all.0).1 all.1) ∙ is in let same : all.0 ≡ n = cc in subst (λ (m : Operands). AllFit fs ws m given) same all.2,
  λ rest. (n, (tells n).0 is, rest),
)

pub none-fits : (f : ArgumentForm) (fs : List ArgumentForm) (w : List ℕ) (ws : List (List ℕ)) (before : Operands) (r : Option Operands) → ((after : Operands) → (r ≡ Some after) ↔ Fits f w before after) → r ≡ None
    → (given : Operands) → AllFit (f ∷ fs) (w ∷ ws) before given → ⊥
none-fits f fs w ws before r tells is given all = let no : None ≡ Some all.0 = sym is ∙ (tells all.0).1 all.1 in cc

-- the argument and the form at a place come before those that are left
pub next-argument : (ps : List Pattern) (arguments : List (String Global)) (k : ℕ) (p : Pattern) (w : String Global) → k < length ps → k < length arguments → (before given : Operands)
    → AllFit (map form_of (drop k ps)) (map (λ w. string_bytes w) (drop k arguments)) before given
    ≡ AllFit (form_of (get_or ps k p) ∷ map form_of (drop (k + 1) ps)) (string_bytes (get_or arguments k w) ∷ map (λ w. string_bytes w) (drop (k + 1) arguments)) before given
next-argument ps arguments k p w below within before given =
    let forms : drop k ps ≡ get_or ps k p ∷ drop (k + 1) ps = at_drop_more (λ (l : List Pattern). l) ps k p below in
    let left : drop k arguments ≡ get_or arguments k w ∷ drop (k + 1) arguments = at_drop_more (λ (l : List (String Global)). l) arguments k w within in
    λ i. AllFit (map form_of (forms i)) (map (λ w. string_bytes w) (left i)) before given

-- what stands for a pattern if there is none
abbrev pub no_pattern : Pattern
no_pattern = Exact (record { ref_ptr = (0, 0); now = [] })
