-- A line without the spaces and tabs around it.
use Rattle.std.proofs.Common.{◌≡◌, ℕ, suc, ◌+◌, ◌-◌, ◌<◌, Bool, true, List, [], ◌∷◌, ◌++◌, length, take, drop, reverse, refl, sym, ap, ◌∙◌, append_assoc, arith, inl, inr, length-append, length-drop, subst}
use Rattle.std.specs.List.{list_all, prefix_len, suffix_len}
use Rattle.std.proofs.lemmas.List.{reverse-append, reverse-reverse, length-reverse, take-append-drop, take_at, drop_at, append-nil}
use Rattle.std.proofs.lemmas.List.Folds.{list_all-append}
use Rattle.std.proofs.lemmas.List.Sums.{suffix_len-le-length}
use Rattle.std.proofs.lemmas.Bool.{cases_Bool, and_parts, and_from}
use Rattle.dia_lines.specs.Sections.{is_space, IsAlone}
use Rattle.dia_lines.specs.Trimmed.{after_spaces, before_spaces, trimmed}

passes_before : (p : ℕ → Bool) (xs : List ℕ) → list_all p (take (prefix_len p xs) xs) ≡ true
passes_before p [] = refl
passes_before p (x ∷ xs) =
    elim (cases_Bool (p x)) [
      | inl y ↦
          let len : prefix_len p (x ∷ xs) ≡ suc (prefix_len p xs) = rw y (omega arith) in
          subst (λ (n : ℕ). list_all p (take n (x ∷ xs)) ≡ true) (sym len) (and_from _ _ y (passes_before p xs))
      | inr n ↦
          let len : prefix_len p (x ∷ xs) ≡ 0 = rw n refl in
          subst (λ (n : ℕ). list_all p (take n (x ∷ xs)) ≡ true) (sym len) refl
    ]

passes_reversed : (p : ℕ → Bool) (xs : List ℕ) → list_all p xs ≡ true → list_all p (reverse xs) ≡ true
passes_reversed p [] h = refl
passes_reversed p (x ∷ xs) h =
    let both = and_parts (p x) (list_all p xs) h in
    ap (list_all p) (reverse-append (x ∷ []) xs) ∙ list_all-append p (reverse xs) (x ∷ [])
    ∙ and_from _ _ (passes_reversed p xs both.1) (and_from _ _ both.0 refl)

passes_forward : (p : ℕ → Bool) (xs : List ℕ) → list_all p (reverse xs) ≡ true → list_all p xs ≡ true
passes_forward p xs h = subst (λ (ys : List ℕ). list_all p ys ≡ true) (reverse-reverse xs) (passes_reversed p (reverse xs) h)

-- after elements that pass stand those that begin with one that doesn't
length_before : (p : ℕ → Bool) (xs ys : List ℕ) → list_all p xs ≡ true → prefix_len p ys ≡ 0 → prefix_len p (xs ++ ys) ≡ length xs
length_before p [] ys h e = e
length_before p (x ∷ xs) ys h e =
    let both = and_parts (p x) (list_all p xs) h in
    rw both.0 (let r = length_before p xs ys both.1 e in omega arith)

length_after : (p : ℕ → Bool) (xs ys : List ℕ) → list_all p ys ≡ true → suffix_len p xs ≡ 0 → suffix_len p (xs ++ ys) ≡ length ys
length_after p xs ys h e = rw reverse-append (length_before p (reverse ys) (reverse xs) (passes_reversed p ys h) e ∙ length-reverse ys)

begins_so : (p : ℕ → Bool) (xs ys : List ℕ) → 0 < length xs → prefix_len p xs ≡ 0 → prefix_len p (xs ++ ys) ≡ 0
begins_so p [] ys h e = absurd (omega arith)
begins_so p (x ∷ xs) ys h e =
    elim (cases_Bool (p x)) [
      | inl y ↦ absurd (let z : prefix_len p (x ∷ xs) ≡ 1 + prefix_len p xs = rw y refl in omega arith)
      | inr n ↦ rw n refl
    ]

passes_after : (p : ℕ → Bool) (xs : List ℕ) → list_all p (drop (length xs - suffix_len p xs) xs) ≡ true
passes_after p xs =
    let n : ℕ = length xs - suffix_len p xs in
    let le = suffix_len-le-length p xs in
    let whole : reverse xs ≡ reverse (drop n xs) ++ reverse (take n xs) = ap reverse (sym (take-append-drop n xs)) ∙ reverse-append (take n xs) (drop n xs) in
    let len : length (reverse (drop n xs)) ≡ suffix_len p xs = length-reverse (drop n xs) ∙ length-drop n xs ∙ (omega arith) in
    let front : take (suffix_len p xs) (reverse xs) ≡ reverse (drop n xs) = ap (take (suffix_len p xs)) whole ∙ take_at (reverse (drop n xs)) (reverse (take n xs)) (suffix_len p xs) len in
    passes_forward p (drop n xs) (subst (λ (ys : List ℕ). list_all p ys ≡ true) front (passes_before p (reverse xs)))

-- around the line without its spaces and tabs stand spaces and tabs
pub trimmed-alone : (line : List ℕ) → IsAlone (trimmed line) line
unfolding trimmed
trimmed-alone line =
    let text : List ℕ = after_spaces line in
    let n : ℕ = prefix_len is_space line in
    let m : ℕ = length text - suffix_len is_space text in (
      take n line,
      drop m text,
      passes_before is_space line,
      passes_after is_space text,
      sym (append_assoc (take n line) (take m text) (drop m text) ∙ ap (λ (ys : List ℕ). take n line ++ ys) (take-append-drop m text) ∙ take-append-drop n line),
    )

-- a text that neither begins nor ends with a space or a tab is what stays of a line with spaces and tabs around it
pub alone-trimmed : (text line : List ℕ) → 0 < length text → prefix_len is_space text ≡ 0 → suffix_len is_space text ≡ 0 → IsAlone text line → trimmed line ≡ text
unfolding trimmed
alone-trimmed text line some opens closes a =
    let before : List ℕ = a.0 in
    let after : List ℕ = a.1 in
    let whole : line ≡ before ++ (text ++ after) = a.4 ∙ append_assoc before text after in
    let start : prefix_len is_space (before ++ (text ++ after)) ≡ length before = length_before is_space before (text ++ after) a.2 (begins_so is_space text after some opens) in
    let later : after_spaces line ≡ text ++ after = ap after_spaces whole ∙ drop_at before (text ++ after) _ (sym start) in
    let end : suffix_len is_space (text ++ after) ≡ length after = length_after is_space text after a.3 closes in
    let len : length text ≡ length (text ++ after) - suffix_len is_space (text ++ after) = omega (arith, length-append text after, end) in
    ap before_spaces later ∙ take_at text after _ len

-- a line of spaces and tabs
pub trimmed-nil : (line : List ℕ) → list_all is_space line ≡ true → trimmed line ≡ []
unfolding trimmed
trimmed-nil line h =
    let start : prefix_len is_space (line ++ []) ≡ length line = length_before is_space line [] h refl in
    let later : after_spaces line ≡ [] = ap after_spaces (sym (append-nil line)) ∙ drop_at line [] _ (sym start) in
    ap before_spaces later

alone_nil : (line : List ℕ) → IsAlone [] line → list_all is_space line ≡ true
alone_nil line a =
    let whole : line ≡ a.0 ++ a.1 = a.4 ∙ ap (λ (front : List ℕ). front ++ a.1) (append-nil a.0) in
    rw (whole, list_all-append) (and_from _ _ a.2 a.3)

pub nil-trimmed : (line : List ℕ) → trimmed line ≡ [] → list_all is_space line ≡ true
nil-trimmed line e = alone_nil line (subst (λ (text : List ℕ). IsAlone text line) e (trimmed-alone line))
