use Rattle.std.proofs.Common.{◌≡◌, [], refl, rules}
use Rattle.std.proofs.lemmas.List.{nil_from_length}
use Rattle.std.proofs.lemmas.Result.{err_from_is_err_and}
use Rattle.std.specs.Prelude.{codes}
use Rattle.dia_tokens.specs.declared.line.LineFail.TheVariants.{BadByte}
use Rattle.dia_lines.specs.Statements.{nothing, done}
use Rattle.dia_lines.specs.Lines.{says, step}
use Rattle.dia_lines.proofs.Reading.{text-error, byte-error, script-nothing, script-done, script-step}
use Rattle.dia_lines.proofs.line.script_line.Goals as goal

pub returns-in_err-text-clause-fault : goal.returns-in_err-text-clause-fault
returns-in_err-text-clause-fault c =
    let p = err_from_is_err_and c.from_residual.result c.from_residual.ensures.1 in
    rw (p.1, p.2) (text-error c.args.line.now c.in_err-text.field-0.0 c.in_err-text.ensures.fault)

pub returns-in_err-text-clause-bad_byte : goal.returns-in_err-text-clause-bad_byte
returns-in_err-text-clause-bad_byte c bad =
    let p = err_from_is_err_and c.from_residual.result c.from_residual.ensures.1 in
    let same = c.in_err-text.ensures.bad_byte bad in
    let is : c.in_err-text.field-0.0 ≡ BadByte = cc in
    byte-error c.from_residual.result c.in_err-text.field-0.0 p.0 p.1 p.2 is

pub returns-then-is_empty-clause-found : goal.returns-then-is_empty-clause-found
returns-then-is_empty-clause-found c =
    let found = c.in_ok-text.ensures.found in
    let e : c.in_ok-text.text ≡ [] = nil_from_length c.in_ok-text.text (search rules) in
    (says nothing, script-nothing c.args.line.now c.in_ok-text.text found.0 found.1 found.2 e, tt)

pub returns-then-eq-clause-found : goal.returns-then-eq-clause-found
returns-then-eq-clause-found c =
    let found = c.in_ok-text.ensures.found in
    let e : c.in_ok-text.text ≡ codes "done" = search rules in
    (says done, script-done c.args.line.now c.in_ok-text.text found.0 found.1 found.2 e, tt)

pub returns-else-eq-clause-found : goal.returns-else-eq-clause-found
returns-else-eq-clause-found c =
    let found = c.in_ok-text.ensures.found in
    (step c.in_ok-text.text, script-step c.args.line.now c.in_ok-text.text found.0 found.1 found.2 (search rules) (search rules), refl)
