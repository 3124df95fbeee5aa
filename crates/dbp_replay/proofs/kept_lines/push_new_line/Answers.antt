use Rattle.std.proofs.Common.{◌≡◌, ℕ, List, [], ◌∷◌, ◌++◌, length, drop, Some, sym, ap, ◌∙◌, append_assoc}
use Rattle.std.proofs.Math.Seq.{drop-append_seam}
use Rattle.std.proofs.lemmas.List.{take_rest}
use Rattle.std.proofs.lemmas.List.Elements.{All-set}
use Rattle.dbp_replay.specs.KeptLines.{IsKept}
use Rattle.dbp_replay.specs.Texts.{step_text}
use Rattle.dbp_replay.proofs.kept_lines.push_new_line.Goals as goal

-- what was added to a text in two parts stands after its old end
added : (old first second new : List ℕ) (end : ℕ) → end ≡ length old → new ≡ (old ++ first) ++ second → drop end new ≡ first ++ second
added old first second new end at grown = rw (at, grown, append_assoc) (drop-append_seam old (first ++ second))

pub returns-in_ok-line-clause-kept : goal.returns-in_ok-line-clause-kept
returns-in_ok-line-clause-kept c =
    let d = c.args.diagram.now in
    let old : List ℕ = c.args.text.now.items in
    let words : List ℕ = step_text d c.args.step.now in
    let now : List ℕ = c.deref.result.now in
    let start : ℕ = length c.as_slice-start.result.now in
    let end : start ≡ length old = ap length c.as_slice-start.ensures.value in
    let grown : now ≡ (old ++ words) ++ 10 ∷ [] = cc (c.in_ok-push.ensures.items, c.in_ok-push_step.ensures, c.deref.ensures.value) in
    let line : c.in_ok-line.line.text.items ≡ words ++ 10 ∷ [] = c.in_ok-line.ensures.text ∙ take_rest now start ∙ added old words (10 ∷ []) now start end grown in
    let kept : IsKept d (Some c.in_ok-line.line) = line ∙ ap (λ e. step_text d e ++ 10 ∷ []) (sym c.in_ok-line.ensures.step) in
    All-set (IsKept d) c.args.lines.now.items c.args.place (Some c.in_ok-line.line) kept c.requires.kept
