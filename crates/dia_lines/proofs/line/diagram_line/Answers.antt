use Rattle.std.proofs.Common.{◌≡◌, None, sym, subst, ◌∙◌, rules}
use Rattle.std.proofs.lemmas.Result.{err_from_is_err_and}
use Rattle.dia_tokens.specs.Line.{Spells as SpellsTokens}
use Rattle.dia_lines.specs.Lines.{token_fault}
use Rattle.dia_lines.proofs.Reading.{diagram-found, diagram-passed, diagram-refused, diagram-faulty, text-refused}
use Rattle.dia_lines.proofs.line.diagram_line.Goals as goal

pub returns-in_err-line_tokens-clause-fault : goal.returns-in_err-line_tokens-clause-fault
returns-in_err-line_tokens-clause-fault c before after =
    let p = err_from_is_err_and c.from_residual.result c.from_residual.ensures.1 in
    rw (p.1, p.2) (text-refused before c.args.line.now c.in_err-line_tokens.field-0.0 c.in_err-line_tokens.ensures.fault)

pub returns-in-Some-clause-fault : goal.returns-in-Some-clause-fault
returns-in-Some-clause-fault c before after =
    let spelled = subst (SpellsTokens c.args.line.now) (sym c.deref.ensures.value) c.in_ok-line_tokens.ensures.found in
    rw c.from.ensures (diagram-faulty before c.args.position after c.args.line.now c.deref.result.now spelled c.in-Some.code (search rules))

pub returns-in_err-line-in-None-clause-fault : goal.returns-in_err-line-in-None-clause-fault
returns-in_err-line-in-None-clause-fault c before after =
    let p = err_from_is_err_and c.from_residual-in_err-line-in-None.result c.from_residual-in_err-line-in-None.ensures.1 in
    let spelled = subst (SpellsTokens c.args.line.now) (sym c.deref-in-None.ensures.value) c.in_ok-line_tokens.ensures.found in
    rw (p.1, p.2) (diagram-refused before c.args.position after c.args.line.now c.deref-in-None.result.now spelled (subst (λ ts. token_fault c.args.position.place ts ≡ None) (c.deref.ensures.value ∙ sym c.deref-in-None.ensures.value) (search rules)) c.in_err-line-in-None.field-0.0 c.in_err-line-in-None.ensures.fault)

pub returns-in-Ok-clause-found : goal.returns-in-Ok-clause-found
returns-in-Ok-clause-found c before after =
    let spelled = subst (SpellsTokens c.args.line.now) (sym c.deref-in-None.ensures.value) c.in_ok-line_tokens.ensures.found in
    diagram-found before c.args.position after c.args.line.now c.deref-in-None.result.now spelled (subst (λ ts. token_fault c.args.position.place ts ≡ None) (c.deref.ensures.value ∙ sym c.deref-in-None.ensures.value) (search rules)) c.in_ok-line-in-None.line c.in-Ok.counts c.in_ok-line-in-None.ensures.found (search rules)

pub returns-in-Err-clause-fault : goal.returns-in-Err-clause-fault
returns-in-Err-clause-fault c before after =
    let spelled = subst (SpellsTokens c.args.line.now) (sym c.deref-in-None.ensures.value) c.in_ok-line_tokens.ensures.found in
    rw c.from-in-Err.ensures (diagram-passed before c.args.position after c.args.line.now c.deref-in-None.result.now spelled (subst (λ ts. token_fault c.args.position.place ts ≡ None) (c.deref.ensures.value ∙ sym c.deref-in-None.ensures.value) (search rules)) c.in_ok-line-in-None.line c.in-Err.limit c.in_ok-line-in-None.ensures.found (search rules))
