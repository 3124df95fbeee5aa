use Rattle.std.proofs.lemmas.Int.{to_z-of_z}
use mir.Val.{to_z, of_z}
use Rattle.std.proofs.Common.{rules, ◌≡◌, ℕ, ℤ, pos, ◌+◌, List, fold, get_or, refl, sym, ap, ◌∙◌, w64}
use Rattle.std.specs.Prelude.{◌%◌, ◌^◌}
use Rattle.std.proofs.lemmas.List.{take_all}
use Rattle.std.proofs.lemmas.List.Sums.{fold_more}
use Rattle.dbp_rules.specs.SharedWords.{signed_value}
use Rattle.dbp_answers.specs.Summaries.{with_value}
use Rattle.dbp_answers.proofs.summaries.with_values.Goals as goal

pub loop-value-init : goal.loop-value-init
loop-value-init c = refl

pub loop-value-preserved : goal.loop-value-preserved
loop-value-preserved c =
    let values = c.args.values.now in
    let i = c.loop-value.value-index in
    let v : ℤ = get_or values i (pos 0) in
    let shown : to_z w64 (of_z w64 v) ≡ v = search (rules, to_z-of_z) in
    let word : c.value_to_word-sum.result ≡ signed_value v = c.value_to_word-sum.ensures ∙ ap signed_value shown in
    ap (λ (n : ℕ). (c.loop-value.sum + n) % 2 ^ 64) word ∙ ap (λ (s : ℕ). with_value s v) c.loop-value.invariant ∙ sym (fold_more with_value c.args.total values i (pos 0) c.loop-value-test.true)

pub returns : goal.returns
returns c = c.loop-value.invariant ∙ ap (λ (l : List ℤ). fold with_value c.args.total l) (take_all c.loop-value.value-index c.args.values.now c.loop-value-test.false)
