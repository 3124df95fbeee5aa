use Rattle.std.proofs.Common.{◌≤◌, FitsSigned, List, arith, get_or, length, rules, subst, sym, take, take_all, w64, All}
use Rattle.std.proofs.lemmas.List.{take_more}
use Rattle.std.proofs.lemmas.List.Elements.{All-push}
use Rattle.dbp_plan.specs.declared.diagram.Out.{Out}
use Rattle.dbp_rules.proofs.word.firsts_have_64_bits.Goals as goal

pub loop-out-preserved : goal.loop-out-preserved
loop-out-preserved c =
    let out = c.out-item.result in
    let fits : FitsSigned w64 c.out-item.result.first = search rules in
    let here = subst (λ (o : Out). FitsSigned w64 o.first) c.out-item.is fits in
    subst (λ (l : List Out). All (λ (o : Out). FitsSigned w64 o.first) l) (sym (take_more c.args.outs.now c.loop-out.out-index out c.loop-out-test.true))
    (All-push (λ (o : Out). FitsSigned w64 o.first) (take c.loop-out.out-index c.args.outs.now) (get_or c.args.outs.now c.loop-out.out-index out) c.loop-out.invariant here)

pub returns : goal.returns
returns c =
    let done : length c.args.outs.now ≤ c.loop-out.out-index = omega arith in
    subst (λ (l : List Out). All (λ (o : Out). FitsSigned w64 o.first) l) (take_all c.loop-out.out-index c.args.outs.now done) c.loop-out.invariant
