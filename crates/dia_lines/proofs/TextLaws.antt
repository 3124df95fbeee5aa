-- The first line of a text, and the lines after it.
use Rattle.std.proofs.Common.{◌≡◌, ◌≢◌, ℕ, zero, suc, ◌+◌, ◌-◌, ◌<◌, ◌≤◌, Bool, true, false, cond, not, Option, Some, None, List, [], ◌∷◌, ◌++◌, length, refl, sym, ap, ◌∙◌, arith, length-drop, inl, inr, eqb, eq-eqb, take}
use Rattle.std.specs.Prelude.{slice_index, slice_index_or, unwrap_or}
use Rattle.std.proofs.lemmas.Bool.Decides.{nat_tests}
use Rattle.std.specs.List.{list_all, slice_split, onto_first, position_or_len, before_first, after_first}
use Rattle.std.proofs.lemmas.List.{length-take}
use Rattle.std.proofs.lemmas.List.Splits.{slice_split_first, slice_split_none, slice_split-cons_yes, slice_split-cons_no}
use Rattle.std.proofs.lemmas.List.Sums.{prefix_len-le-length, fails_before_first, position_or_len_is}
use Rattle.std.proofs.lemmas.List.Elements.{All-from_get_or}
use Rattle.std.proofs.lemmas.Bool.{cases_Bool, both_ways, and_parts, eqb-true, false_from_ne_true}
use Rattle.memchr.specs.Find.{IsFirstByte, is_byte}
use Rattle.dia_lines.specs.Text.{is_end, is_inside, without_return, lines_of_parts, lines_of}
use Rattle.dia_lines.specs.FirstLine.{cut_line}

-- where the first line feed stands, or else the end
pub first-end : (bs : List ℕ) (r : Option ℕ) → IsFirstByte (is_byte 10) bs r → unwrap_or r (length bs) ≡ position_or_len is_end bs
first-end bs None none =
    sym (position_or_len_is is_end bs (length bs) 0 (omega arith) (λ k within. false_from_ne_true (is_end (slice_index bs k)) (none k (omega arith) within)) (λ within. absurd (omega arith)))
first-end bs (Some k) found =
    sym (position_or_len_is is_end bs k 0 (omega arith) (λ j within. false_from_ne_true (is_end (slice_index bs j)) (found.0.before j (omega arith) within)) (λ within. found.1))

-- if no byte ends a line, there is one part
one_part : (bs : List ℕ) → position_or_len is_end bs ≡ length bs → slice_split is_end bs ≡ bs ∷ []
one_part bs e = slice_split_none is_end bs (All-from_get_or (λ b. is_end b ≡ false) bs 0 (λ k within. fails_before_first is_end bs k 0 (omega arith)))

some_part : (bs : List ℕ) → (part : List ℕ) × (parts : List (List ℕ)) × (slice_split is_end bs ≡ part ∷ parts)
some_part [] = ([], [], refl)
some_part (b ∷ bs) =
    elim (cases_Bool (is_end b)) [
      | inl y ↦ ([], slice_split is_end bs, slice_split-cons_yes is_end b bs y)
      | inr n ↦ let r = some_part bs in (b ∷ r.0, r.1, slice_split-cons_no is_end b bs n ∙ ap (onto_first b) r.2)
    ]

more_parts : (text next : List ℕ) (parts : List (List ℕ)) → lines_of_parts (text ∷ next ∷ parts) ≡ without_return text ∷ lines_of_parts (next ∷ parts)
more_parts [] next parts = refl
more_parts (b ∷ bs) next parts = refl

last_line : (bytes : List ℕ) → 0 < length bytes → lines_of_parts (bytes ∷ []) ≡ bytes ∷ []
last_line [] h = absurd (omega arith)
last_line (b ∷ bs) h = refl

pub lines_of-nil : lines_of [] ≡ []
unfolding lines_of
lines_of-nil = refl

pub lines_of-cut_line : (bytes : List ℕ) → 0 < length bytes → lines_of bytes ≡ (cut_line bytes).0 ∷ lines_of (cut_line bytes).1
unfolding lines_of
lines_of-cut_line bytes h =
    elim (cases_Bool (eqb (position_or_len is_end bytes) (length bytes))) [
      | inl y ↦
          let same : position_or_len is_end bytes ≡ length bytes = eqb-true _ _ y in
          rw y (ap lines_of_parts (one_part bytes same) ∙ last_line bytes h ∙ ap (λ (ls : List (List ℕ)). bytes ∷ ls) (sym lines_of-nil))
      | inr n ↦
          let le = prefix_len-le-length (λ b. not (is_end b)) bytes in
          let other : position_or_len is_end bytes ≢ length bytes = λ e. both_ways _ n (eq-eqb _ _ e) in
          let lt : position_or_len is_end bytes < length bytes = omega arith in
          let after : List ℕ = after_first is_end bytes in
          let r = some_part after in
          rw n (ap lines_of_parts (slice_split_first is_end bytes 0 lt ∙ ap (λ (ps : List (List ℕ)). before_first is_end bytes ∷ ps) r.2)
          ∙ more_parts (before_first is_end bytes) r.0 r.1
          ∙ ap (λ (ps : List (List ℕ)). without_return (before_first is_end bytes) ∷ lines_of_parts ps) (sym r.2))
    ]

-- the lines are the first one and those of the bytes after it
pub lines_of-first : (bytes line rest : List ℕ) → 0 < length bytes → (line, rest) ≡ cut_line bytes → lines_of bytes ≡ line ∷ lines_of rest
lines_of-first bytes line rest h e = lines_of-cut_line bytes h ∙ ap (λ (p : List ℕ × List ℕ). p.0 ∷ lines_of p.1) (sym e)

pub cut_line-shorter : (bytes : List ℕ) → 0 < length bytes → length (cut_line bytes).1 < length bytes
cut_line-shorter bytes h =
    elim (cases_Bool (eqb (position_or_len is_end bytes) (length bytes))) [
      | inl y ↦ rw y h
      | inr n ↦ rw n (simp length-drop (omega arith))
    ]

trimmed-shorter : (text : List ℕ) → length (without_return text) ≤ length text
trimmed-shorter text = go (eqb (slice_index_or text (length text - 1) 0) 13)
  where
    go : (b : Bool) → length (cond b (take (length text - 1) text) text) ≤ length text
    go true = omega (arith, length-take (length text - 1) text)
    go false = omega arith

-- the line and the bytes after it are no more than all
pub cut_line-within : (bytes : List ℕ) → 0 < length bytes → length (cut_line bytes).0 + length (cut_line bytes).1 ≤ length bytes
cut_line-within bytes h =
    let n = position_or_len is_end bytes in
    elim (cases_Bool (eqb n (length bytes))) [
      | inl y ↦ rw y (omega arith)
      | inr other ↦ rw other (omega (arith, trimmed-shorter (take n bytes), length-take n bytes, length-drop (n + 1) bytes, prefix_len-le-length (λ b. not (is_end b)) bytes))
    ]

fewer : (n : ℕ) (bytes : List ℕ) → length bytes ≤ n → length (lines_of bytes) ≤ length bytes
fewer n [] h = rw lines_of-nil (omega arith)
fewer zero (b ∷ bs) h = absurd (omega arith)
fewer (suc n) (b ∷ bs) h =
    let some : 0 < length (b ∷ bs) = omega arith in
    let shorter = cut_line-shorter (b ∷ bs) some in
    let rest : length (lines_of (cut_line (b ∷ bs)).1) ≤ length (cut_line (b ∷ bs)).1 = fewer n (cut_line (b ∷ bs)).1 (omega arith) in
    rw (lines_of-cut_line (b ∷ bs) some) (omega arith)

-- there are no more lines than bytes
pub length-lines_of : (bytes : List ℕ) → length (lines_of bytes) ≤ length bytes
length-lines_of bytes = fewer (length bytes) bytes (omega arith)

-- ---- a line after which a line feed stands

split-inside : (text after : List ℕ) → list_all is_inside text ≡ true → slice_split is_end (text ++ 10 ∷ after) ≡ text ∷ slice_split is_end after
split-inside [] after h = slice_split-cons_yes is_end 10 after refl
split-inside (b ∷ bs) after h =
    let both = and_parts (is_inside b) (list_all is_inside bs) h in
    let first = both.0 in
    let inside : is_end b ≡ false = grind (arith, nat_tests) in
    slice_split-cons_no is_end b (bs ++ 10 ∷ after) inside ∙ ap (onto_first b) (split-inside bs after both.1)

no-return : (text : List ℕ) (i : ℕ) → list_all is_inside text ≡ true → eqb (slice_index_or text i 0) 13 ≡ false
no-return [] i h = refl
no-return (b ∷ bs) zero h = let first = (and_parts (is_inside b) (list_all is_inside bs) h).0 in grind (arith, nat_tests)
no-return (b ∷ bs) (suc i) h = no-return bs i (and_parts (is_inside b) (list_all is_inside bs) h).1

pub lines_of-line : (text after : List ℕ) → list_all is_inside text ≡ true → lines_of (text ++ 10 ∷ after) ≡ text ∷ lines_of after
unfolding lines_of
lines_of-line text after h =
    let r = some_part after in
    let whole : without_return text ≡ text = rw (no-return text (length text - 1) h) refl in
    ap lines_of_parts (split-inside text after h ∙ ap (λ (ps : List (List ℕ)). text ∷ ps) r.2)
    ∙ more_parts text r.0 r.1
    ∙ ap (λ (line : List ℕ). line ∷ lines_of_parts (r.0 ∷ r.1)) whole
    ∙ ap (λ (ps : List (List ℕ)). text ∷ lines_of_parts ps) (sym r.2)
