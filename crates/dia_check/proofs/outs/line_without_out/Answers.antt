use Rattle.std.proofs.Common.{◌≡◌, ◌<◌, ℕ, true, false, length, get_or, sym, ◌∙◌, arith, rules}
use Rattle.dbp_plan.proofs.ListParts.{at-any}
use Rattle.dia_check.specs.Faults.{has_lets, lacks_outs}
use Rattle.dia_check.proofs.NoOuts.{line-here, line-hidden, line-later, no-line}
use Rattle.dia_check.proofs.outs.line_without_out.Goals as goal

pub returns-then-lacks_outs : goal.returns-then-lacks_outs
returns-then-lacks_outs c =
    let doc = c.args.doc.now in
    let ts = doc.body.tasks in
    let ns = doc.lines.tasks in
    let k = c.loop-place.place in
    let t = c.index-tasks-place.result in
    let items = c.items-tasks.ensures.value in
    let below : k < length ts = search rules in
    let is : t ≡ get_or ts k t = rw items at c.index-tasks-place.is in
    let in_ns : k < length ns = omega (arith, below, c.requires.tasks) in
    let n : ℕ = get_or ns k 0 in
    let lacks : lacks_outs t ≡ true = cc (c.lacks_outs.ensures, c.if-lacks_outs.true) in
    rw c.items-lines.ensures.value (sym (c.loop-place.invariant ∙ line-here ts ns k t n below in_ns is (at-any ns k 0 in_ns) lacks))

pub returns-then-has_lets : goal.returns-then-has_lets
returns-then-has_lets c =
    let doc = c.args.doc.now in
    let ts = doc.body.tasks in
    let ns = doc.lines.tasks in
    let k = c.loop-place.place in
    let t = c.index-tasks-place.result in
    let items = c.items-tasks.ensures.value in
    let below : k < length ts = search rules in
    let is : t ≡ get_or ts k t = rw items at c.index-tasks-place.is in
    let in_ns : k < length ns = omega (arith, below, c.requires.tasks) in
    let n : ℕ = get_or ns k 0 in
    let has : lacks_outs t ≡ false = cc (c.lacks_outs.ensures, c.if-lacks_outs.false) in
    let lets : has_lets t ≡ true = cc (c.has_lets.ensures, c.if-has_lets.true) in
    sym (c.loop-place.invariant ∙ line-hidden ts ns k t n below in_ns is (at-any ns k 0 in_ns) has lets)

pub loop-place-preserved : goal.loop-place-preserved
loop-place-preserved c =
    let doc = c.args.doc.now in
    let ts = doc.body.tasks in
    let ns = doc.lines.tasks in
    let k = c.loop-place.place in
    let t = c.index-tasks-place.result in
    let items = c.items-tasks.ensures.value in
    let below : k < length ts = search rules in
    let is : t ≡ get_or ts k t = rw items at c.index-tasks-place.is in
    let in_ns : k < length ns = omega (arith, below, c.requires.tasks) in
    let n : ℕ = get_or ns k 0 in
    let has : lacks_outs t ≡ false = cc (c.lacks_outs.ensures, c.if-lacks_outs.false) in
    let none : has_lets t ≡ false = cc (c.has_lets.ensures, c.if-has_lets.false) in
    c.loop-place.invariant ∙ line-later ts ns k t n below in_ns is (at-any ns k 0 in_ns) has none

pub returns : goal.returns
returns c =
    let doc = c.args.doc.now in
    sym (c.loop-place.invariant ∙ no-line doc.body.tasks doc.lines.tasks c.loop-place.place (search rules))
