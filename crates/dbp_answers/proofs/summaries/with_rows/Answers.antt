use Rattle.std.proofs.Common.{◌≡◌, ℕ, ℤ, ◌-◌, List, length, take, drop, fold, min, sym, ap, ◌∙◌, inl, inr, arith}
use Rattle.std.proofs.lemmas.Bool.{cases_lt}
use Rattle.std.proofs.lemmas.List.{drop_all, length-drop, take_all}
use Rattle.dbp_answers.specs.Summaries.{with_value}
use Rattle.dbp_answers.proofs.summaries.with_rows.Goals as goal

-- what is left after so many of the words, or none if there are fewer
rest : (words : List ℤ) (n first : ℕ) → first ≡ min (length words) n → take (length words - first) (drop first words) ≡ drop n words
rest words n first is = elim (cases_lt n (length words)) [
  | inl less ↦
      let same : first ≡ n = omega (arith, is, less) in
      take_all (length words - first) (drop first words) (omega (arith, length-drop first words)) ∙ ap (λ (k : ℕ). drop k words) same
  | inr more ↦
      take_all (length words - first) (drop first words) (omega (arith, length-drop first words))
      ∙ drop_all first words (omega (arith, is, more))
      ∙ sym (drop_all n words (omega (arith, more)))
]

pub returns : goal.returns
returns c =
    let words = c.args.rows.now.words in
    let same = c.items-words.ensures.value in
    let first = rw same at c.min-first.ensures in
    let given = c.items-words.result.now in
    let left : take (length given - c.min-first.result) (drop c.min-first.result given) ≡ drop c.args.rows.now.ports words =
    rw same (rest words c.args.rows.now.ports c.min-first.result first) in
    c.with_values.ensures ∙ ap (λ (l : List ℤ). fold with_value c.args.total l) left
