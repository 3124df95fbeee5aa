-- The lines of lets: going over a body to the line of one.
use Rattle.std.proofs.Common.{◌≡◌, ℕ, suc, ◌+◌, ◌<◌, List, ◌∷◌, length, drop, get_or, slice_get, refl, ap}
use Rattle.dia_lines.specs.declared.item.Part.{Part}
use Rattle.dia_lines.specs.declared.item.Part.TheVariants.{State, Sense, Read, Let, Next, Out}
use Rattle.dia_check.specs.Faults.{let_lines}
use Rattle.dbp_plan.proofs.ListParts.{split-at}

-- ---- one step

module _ (ps : List Part) (ns : List ℕ) (k : ℕ) (p : Part) (n : ℕ) (in_ps : k < length ps) (in_ns : k < length ns) (is_p : p ≡ get_or ps k p) (is_n : n ≡ get_or ns k n) where
  pub lines-here : let_lines (drop k ps) (drop k ns) ≡ let_lines (p ∷ drop (k + 1) ps) (n ∷ drop (k + 1) ns)
  lines-here = rw (split-at ps k p in_ps is_p, split-at ns k n in_ns is_n) refl

pub another-line : (p : Part) (ps : List Part) (n : ℕ) (ns : List ℕ) → ((m : _) (e : _) → p ≡ Let m e → ⊥) → let_lines (p ∷ ps) (n ∷ ns) ≡ let_lines ps ns
another-line (State m v) ps n ns isnt = refl
another-line (Sense m i) ps n ns isnt = refl
another-line (Read m d w q a) ps n ns isnt = refl
another-line (Let m e) ps n ns isnt = absurd (isnt m e refl)
another-line (Next m e) ps n ns isnt = refl
another-line (Out m v e) ps n ns isnt = refl

pub get-after : (n : ℕ) (ns : List ℕ) (j m : ℕ) → j ≡ suc m → slice_get (n ∷ ns) j ≡ slice_get ns m
get-after n ns j m is = ap (slice_get (n ∷ ns)) is
