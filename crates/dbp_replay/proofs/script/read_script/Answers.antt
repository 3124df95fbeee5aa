use Rattle.std.proofs.Common.{◌≡◌, ◌∙◌, ◌<◌, ℕ, List, [], get_or, length, slice_get, Some, None, Ok, Err, ap, refl, sym, subst, rules, arith}
use Rattle.std.proofs.lemmas.Option.{slice_get-get_or}
use Rattle.dbp_rules.specs.declared.step.Step.{Step}
use Rattle.dia_read.proofs.OneMore.{nothing-left}
use Rattle.dbp_replay.specs.Scripts.{IsScriptFault, Says, no_section, at_a_line}
use Rattle.dbp_replay.proofs.KeptSteps.{NamedTo, named-none, section-kept, line-kept, has-number, named-more, line-fault, named-all}
use Rattle.dbp_replay.proofs.script.read_script.Goals as goal

pub returns-in_default-clause-fault : goal.returns-in_default-clause-fault
returns-in_default-clause-fault c =
    let none : c.args.doc.now.body.script ≡ None = search rules in
    rw c.refused.ensures (no_section none)

pub loop-lines-init : goal.loop-lines-init
loop-lines-init c = named-none c.args.diagram.now c.items-rest.result.now c.new-steps.result c.new-steps.ensures

pub step_on-requires : goal.step_on-requires
step_on-requires c =
    let doc = c.args.doc.now in
    let text = c.items-rest.result.now in
    let section : doc.body.script ≡ Some text = c.in-Some.is ∙ ap (λ t. Some t) (sym c.items-rest.ensures.value) in
    line-kept c.args.diagram.now text c.loop-lines.steps c.loop-lines.rest.now c.next_line.result.0.now c.next_line.result.1.now c.loop-lines.invariant c.next_line.ensures.value (section-kept doc text section c.requires.printable.script)

pub push-requires : goal.push-requires
push-requires c =
    let doc = c.args.doc.now in
    let text = c.items-rest.result.now in
    let section : doc.body.script ≡ Some text = c.in-Some.is ∙ ap (λ t. Some t) (sym c.items-rest.ensures.value) in
    let below : length c.loop-lines.steps < length doc.lines.script =
    has-number c.args.diagram.now text c.loop-lines.steps c.loop-lines.rest.now c.next_line.result.0.now c.next_line.result.1.now c.loop-lines.invariant c.next_line.ensures.value doc c.requires.lines section (section-kept doc text section c.requires.printable.script) in
    omega (arith, below, c.items-lines.ensures.fits)

pub bounds-lines-len : goal.bounds-lines-len
bounds-lines-len c =
    let doc = c.args.doc.now in
    let text = c.items-rest.result.now in
    let section : doc.body.script ≡ Some text = c.in-Some.is ∙ ap (λ t. Some t) (sym c.items-rest.ensures.value) in
    let below : length c.loop-lines.steps < length doc.lines.script =
    has-number c.args.diagram.now text c.loop-lines.steps c.loop-lines.rest.now c.next_line.result.0.now c.next_line.result.1.now c.loop-lines.invariant c.next_line.ensures.value doc c.requires.lines section (section-kept doc text section c.requires.printable.script) in
    rw (c.len.ensures, c.items-lines.ensures.value) below

pub returns-in-Err-clause-fault : goal.returns-in-Err-clause-fault
returns-in-Err-clause-fault c =
    let d = c.args.diagram.now in
    let doc = c.args.doc.now in
    let text = c.items-rest.result.now in
    let line = c.next_line.result.0.now in
    let after = c.next_line.result.1.now in
    let steps = c.loop-lines.steps in
    let code = c.in-Err.code in
    let at = get_or c.items-lines.result.now c.len.result 0 in
    let section : doc.body.script ≡ Some text = c.in-Some.is ∙ ap (λ t. Some t) (sym c.items-rest.ensures.value) in
    let says : Says d line (Err code) = subst (Says d line) c.in-Err.is c.in_ok-step.ensures in
    let below : length steps < length doc.lines.script =
    has-number d text steps c.loop-lines.rest.now line after c.loop-lines.invariant c.next_line.ensures.value doc c.requires.lines section (section-kept doc text section c.requires.printable.script) in
    let number : slice_get doc.lines.script (length steps) ≡ Some at =
    slice_get-get_or doc.lines.script (length steps) 0 below ∙ ap (λ (n : ℕ). Some n) (rw (c.len.ensures, c.items-lines.ensures.value) refl) in
    let fault : IsScriptFault d doc at code = at_a_line text at code section (line-fault d text steps c.loop-lines.rest.now line after c.loop-lines.invariant c.next_line.ensures.value doc.lines.script at code number says) in
    rw c.refused-in-Err.ensures fault

pub loop-lines-preserved : goal.loop-lines-preserved
loop-lines-preserved c =
    let d = c.args.diagram.now in
    let text = c.items-rest.result.now in
    let line = c.next_line.result.0.now in
    let after = c.next_line.result.1.now in
    let says : Says d line (Ok c.in-Ok.step) = subst (Says d line) c.in-Ok.is c.in_ok-step.ensures in
    subst (λ (steps : List Step). NamedTo d text steps after) (sym c.in_ok-push-in-Ok.ensures.ok)
    (named-more d text c.loop-lines.steps c.loop-lines.rest.now line after c.loop-lines.invariant c.next_line.ensures.value c.in-Ok.step says)

pub returns-clause-script : goal.returns-clause-script
returns-clause-script c =
    let text = c.items-rest.result.now in
    let section : c.args.doc.now.body.script ≡ Some text = c.in-Some.is ∙ ap (λ t. Some t) (sym c.items-rest.ensures.value) in
    let end : c.loop-lines.rest.now ≡ [] = nothing-left c.loop-lines.rest.now (search rules) in
    named-all c.args.diagram.now c.args.doc.now text c.loop-lines.steps c.loop-lines.rest.now c.loop-lines.invariant section end
