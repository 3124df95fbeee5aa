-- The text of a number in a room, with the comma (44) before or after it.
use Rattle.std.proofs.Common.{◌≡◌, ℕ, suc, ◌+◌, ◌-◌, ◌<◌, ◌≤◌, List, [], ◌∷◌, ◌++◌, length, take, drop, set, arith, ap, ◌∙◌}
use Rattle.std.proofs.Math.Seq.{take-append_seam, take-append-add}
use Rattle.std.proofs.lemmas.List.{append_assoc, drop-set, drop-set-add, length-append, length-drop, set_split, take-take}

-- the digits from place s on end before place 40, behind which stands the rest
abbrev Ends : List ℕ → List ℕ → List ℕ → ℕ → Type 0
Ends room digits rest s = drop s room ≡ digits ++ rest

pub few-digits : (room digits rest : List ℕ) (s : ℕ) → s ≤ 40 → length room ≡ 64 → length rest ≡ 24 → Ends room digits rest s → length digits + s ≡ 40
few-digits room digits rest s within all behind is = omega (arith, length-drop s room, ap length is, length-append digits rest, within, all, behind)

pub with-comma-after : (room digits rest : List ℕ) (s : ℕ) → s ≤ 40 → length room ≡ 64 → length rest ≡ 24 → Ends room digits rest s
    → take (41 - s) (drop s (set room 40 44)) ≡ digits ++ 44 ∷ []
with-comma-after room digits rest s within all behind is =
    let few : length digits + s ≡ 40 = few-digits room digits rest s within all behind is in
    let place : 40 ≡ s + length digits = omega (arith, few) in
    let count : 41 - s ≡ length digits + 1 = omega (arith, few) in
    let room_left : length digits < length (digits ++ rest) = omega (arith, length-append digits rest, behind) in
    let written : drop s (set room 40 44) ≡ digits ++ 44 ∷ drop (suc (length digits)) (digits ++ rest) =
    ap (λ i. drop s (set room i 44)) place ∙ drop-set-add s room (length digits) 44 ∙ ap (λ l. set l (length digits) 44) is
    ∙ set_split (digits ++ rest) (length digits) 44 room_left ∙ ap (λ l. l ++ 44 ∷ drop (suc (length digits)) (digits ++ rest)) (take-append_seam digits rest) in
    rw (count, written) (take-append-add digits (44 ∷ drop (suc (length digits)) (digits ++ rest)) 1)

pub with-comma-before : (room digits rest : List ℕ) (s : ℕ) → s < 40 → length room ≡ 64 → length rest ≡ 24 → Ends room digits rest (s + 1)
    → take (40 - s) (drop s (set room s 44)) ≡ 44 ∷ digits
with-comma-before room digits rest s within all behind is =
    let few : length digits + (s + 1) ≡ 40 = few-digits room digits rest (s + 1) (omega arith) all behind is in
    let count : 40 - s ≡ suc (length digits) = omega (arith, few) in
    let written : drop s (set room s 44) ≡ 44 ∷ (digits ++ rest) = drop-set room s 44 (omega (arith, all)) ∙ ap (λ l. 44 ∷ l) is in
    rw (count, written) (ap (λ l. 44 ∷ l) (take-append_seam digits rest))

-- a piece that is added, and then cut, leaves its first n bytes
pub cut-piece : (text bytes : List ℕ) (n : ℕ) → n ≤ 24 → take (length text + n) (text ++ take 24 bytes) ≡ text ++ take n bytes
cut-piece text bytes n fits = take-append-add text (take 24 bytes) n ∙ ap (λ l. text ++ l) (take-take n 24 bytes fits)

-- a comma and what follows it are one text
pub after-comma : (text time rest : List ℕ) → text ++ (time ++ 44 ∷ []) ++ rest ≡ text ++ (time ++ 44 ∷ rest)
after-comma text time rest = append_assoc text (time ++ 44 ∷ []) rest ∙ ap (λ l. text ++ l) (append_assoc time (44 ∷ []) rest)
