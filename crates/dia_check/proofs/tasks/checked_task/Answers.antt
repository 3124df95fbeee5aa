use Rattle.std.proofs.Common.{◌≡◌, false, true}
use Rattle.std.proofs.lemmas.Bool.{both_ways}
use Rattle.dia_check.specs.Faults.{lacks_outs}
use Rattle.dia_check.proofs.NoOuts.{refused, whole, with-outs}
use Rattle.dia_check.proofs.TaskParts.{let-refused}
use Rattle.dia_check.proofs.tasks.checked_task.Goals as goal

pub returns-then-lacks_outs-clause-fault : goal.returns-then-lacks_outs-clause-fault
returns-then-lacks_outs-clause-fault c =
    let lacks : lacks_outs c.args.raw.now ≡ true = cc (c.lacks_outs.ensures, c.if-lacks_outs.true) in
    refused c.args.raw.now c.args.begins c.args.lines.now lacks

pub returns-in-Ok-clause-whole : goal.returns-in-Ok-clause-whole
returns-in-Ok-clause-whole c =
    let has : lacks_outs c.args.raw.now ≡ false = cc (c.lacks_outs.ensures, c.if-lacks_outs.false) in
    whole c.args.raw.now has c.in-Ok.ensures.whole

pub returns-in-Ok-clause-no_out : goal.returns-in-Ok-clause-no_out
returns-in-Ok-clause-no_out c =
    let has : lacks_outs c.args.raw.now ≡ false = cc (c.lacks_outs.ensures, c.if-lacks_outs.false) in
    λ lacks. absurd (both_ways (lacks_outs c.args.raw.now) has lacks)

pub returns-in-Err-clause-fault : goal.returns-in-Err-clause-fault
returns-in-Err-clause-fault c =
    let has : lacks_outs c.args.raw.now ≡ false = cc (c.lacks_outs.ensures, c.if-lacks_outs.false) in
    rw c.let_refusal.ensures
    (let-refused c.args.raw.now c.args.begins c.args.lines.now c.in-Err.fail (with-outs c.args.raw.now has) c.requires.lines c.in-Err.ensures.fail)

pub returns-in-Err-clause-no_out : goal.returns-in-Err-clause-no_out
returns-in-Err-clause-no_out c =
    let has : lacks_outs c.args.raw.now ≡ false = cc (c.lacks_outs.ensures, c.if-lacks_outs.false) in
    λ lacks. absurd (both_ways (lacks_outs c.args.raw.now) has lacks)
