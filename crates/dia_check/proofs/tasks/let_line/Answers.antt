use Rattle.std.proofs.Common.{◌≡◌, ◌<◌, ◌+◌, ℕ, suc, List, ◌∷◌, length, drop, get_or, slice_get, refl, sym, ap, ◌∙◌, arith, rules}
use Rattle.dia_check.specs.Faults.{let_lines}
use Rattle.dbp_plan.proofs.ListParts.{at-any}
use Rattle.dia_check.proofs.LetLines.{lines-here, another-line, get-after}
use Rattle.dia_check.proofs.tasks.let_line.Goals as goal
use Rattle.dia_check.proofs.tasks.let_line.Goals.{in-Let+else-left-eq0, in_default}

pub loop-place-preserved : goal.loop-place-preserved
loop-place-preserved c =
    let k = c.loop-place.place in
    let ps = c.args.parts.now in
    let ns = c.args.lines.now in
    let p = c.index-parts-place.result in
    let in_ps : k < length ps = search rules in
    let in_ns : k < length ns = omega (arith, in_ps, c.requires.lines) in
    let n : ℕ = get_or ns k 0 in
    let here : let_lines (drop k ps) (drop k ns) ≡ let_lines (p ∷ drop (k + 1) ps) (n ∷ drop (k + 1) ns) = lines-here ps ns k p n in_ps in_ns c.index-parts-place.is (at-any ns k 0 in_ns) in
    elim c.match-part.branch [
      | in-Let+else-left-eq0 w ↦
          let rest = let_lines (drop (k + 1) ps) (drop (k + 1) ns) in
          let these : let_lines (drop k ps) (drop k ns) ≡ n ∷ rest = here ∙ rw w.in-Let.is refl in
          let left = c.loop-place.left in
          let next : left ≡ suc c.match-part.left = omega (arith, w.left-is, w.if-left-eq0.false) in
          let there : left < length (n ∷ rest) = rw these at c.loop-place.invariant.1 in
          (c.loop-place.invariant.0 ∙ ap (λ (ls : List ℕ). slice_get ls left) these ∙ get-after n rest left c.match-part.left next, omega (arith, next, there))
      | in_default w ↦
          let same : let_lines (drop k ps) (drop k ns) ≡ let_lines (drop (k + 1) ps) (drop (k + 1) ns) = here ∙ another-line p (drop (k + 1) ps) n (drop (k + 1) ns) w.in_default.not-Let in
          rw (same, sym w.left-is) at c.loop-place.invariant
    ]
