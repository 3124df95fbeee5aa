use Rattle.std.proofs.Common.{◌≡◌, ℕ, ◌+◌, Some, None, List, map, drop, get_or, string_bytes, sym, ap, subst, ◌∙◌, arith}
use Rattle.std.specs.Prelude.{◌↔◌}
use Rattle.std.proofs.lemmas.List.{length-map}
use Rattle.dbp_top.specs.Commands.{first_operands}
use Rattle.dbp_top.specs.Patterns.{Fits, form_of}
use Rattle.dbp_top.specs.declared.operands.Operands.{Operands}
use Rattle.dbp_top.proofs.ArgumentForms.{all-fit-length, next-argument, no_pattern, none-fits, one-more}
use Rattle.dbp_top.proofs.table.operands_in.Goals as goal

pub returns-then-patterns-arguments : goal.returns-then-patterns-arguments
returns-then-patterns-arguments c =
    let differ = c.if-patterns-arguments.true in
    λ given. (
      λ is. absurd cc,
      λ all.
          let lengths = all-fit-length (map form_of c.args.patterns.now) (map (λ w. string_bytes w) c.args.arguments.now) first_operands given all in
          absurd (omega (arith, lengths, differ, length-map c.args.patterns.now form_of, length-map c.args.arguments.now (λ w. string_bytes w))),
    )

pub returns-in_err-operands : goal.returns-in_err-operands
returns-in_err-operands c =
    let ps = c.args.patterns.now in
    let arguments = c.args.arguments.now in
    let k = c.loop-place.place in
    let argument = c.index-arguments-place.result in
    let before = c.loop-place.operands in
    let form = form_of (get_or ps k no_pattern) in
    let told : c.as_str.result.now ≡ string_bytes (get_or arguments k argument) = c.as_str.ensures.value ∙ ap (λ w. string_bytes w) c.index-arguments-place.is in
    let tells = subst (λ (w : List ℕ). (after : Operands) → (c.after_argument.result ≡ Some after) ↔ Fits form w before after) told c.after_argument.ensures in
    let none = c.from_residual.ensures in
    λ given. (
      λ is. absurd (let no : None ≡ Some given = sym none ∙ is in cc),
      λ all.
          let rest = (c.loop-place.invariant given).0 all in
          let next = subst (λ (T : Type 0). T) (next-argument ps arguments k no_pattern argument (omega arith) (omega arith) before given) rest in
          absurd (none-fits form _ _ _ before c.after_argument.result tells c.in_err-operands.was given next),
    )

pub loop-place-preserved : goal.loop-place-preserved
loop-place-preserved c =
    let ps = c.args.patterns.now in
    let arguments = c.args.arguments.now in
    let k = c.loop-place.place in
    let argument = c.index-arguments-place.result in
    let before = c.loop-place.operands in
    let form = form_of (get_or ps k no_pattern) in
    let told : c.as_str.result.now ≡ string_bytes (get_or arguments k argument) = c.as_str.ensures.value ∙ ap (λ w. string_bytes w) c.index-arguments-place.is in
    let tells = subst (λ (w : List ℕ). (after : Operands) → (c.after_argument.result ≡ Some after) ↔ Fits form w before after) told c.after_argument.ensures in
    λ given.
    let same = next-argument ps arguments k no_pattern argument (omega arith) (omega arith) before given in
    let more = one-more form (map form_of (drop (k + 1) ps)) (string_bytes (get_or arguments k argument)) (map (λ w. string_bytes w) (drop (k + 1) arguments)) before c.in_ok-operands.operands c.after_argument.result tells c.in_ok-operands.was given in
    let before_it = c.loop-place.invariant given in
    (λ all. more.0 (subst (λ (T : Type 0). T) same (before_it.0 all)), λ rest. before_it.1 (subst (λ (T : Type 0). T) (sym same) (more.1 rest)))
