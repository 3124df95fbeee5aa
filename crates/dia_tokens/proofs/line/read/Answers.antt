use Rattle.std.proofs.Common.{sym, subst, rules}
use Rattle.dia_tokens.specs.Line.{a_bad_byte}
use Rattle.dia_tokens.specs.Pieces.{seen}
use Rattle.dia_tokens.proofs.LexLaws.{Shrinks, Shrinks-at}
use Rattle.dia_tokens.proofs.ReadLaws.{Reads-starts, Reads-value, Reads-fault, Reads-bad, Reads-tokens, Reads-faulty}
use Rattle.dia_tokens.proofs.ValueLaws.{shaped-at}
use Rattle.dia_tokens.proofs.line.read.Goals as goal
use Rattle.dia_tokens.proofs.line.read.Goals.{in-Ok+in_ok-push_token-in-Ok, in-Err}

pub returns-then-not-all_allowed-clause-fault : goal.returns-then-not-all_allowed-clause-fault
returns-then-not-all_allowed-clause-fault c = a_bad_byte c.args.line.now (search rules)

pub loop-fail-init : goal.loop-fail-init
loop-fail-init c = rw c.clear.ensures.items (Reads-starts c.args.line.now)

pub returns-in-Some-clause-fault : goal.returns-in-Some-clause-fault
returns-in-Some-clause-fault c = rw c.from.ensures (Reads-faulty (rw c.in-Some.is at c.loop-fail.invariant) c.in-Nothing.ensures (search rules))

pub returns-in-None-clause-found : goal.returns-in-None-clause-found
returns-in-None-clause-found c = Reads-tokens (rw c.in-None.is at c.loop-fail.invariant) c.in-Nothing.ensures (search rules)

pub returns-in-Bad-clause-fault : goal.returns-in-Bad-clause-fault
returns-in-Bad-clause-fault c = Reads-bad c.loop-fail.invariant c.in-Bad.ensures (search rules)

pub token_of-requires : goal.token_of-requires
token_of-requires c = shaped-at c.loop-fail.signed c.loop-fail.rest.now (seen c.in-Found.piece) c.in-Found.after.now c.in-Found.ensures

pub loop-fail-smaller : goal.loop-fail-smaller
loop-fail-smaller c = subst (Shrinks c.loop-fail.rest.now) (sym c.in-Found.ensures) (Shrinks-at c.loop-fail.signed c.loop-fail.rest.now)

pub loop-fail-preserved : goal.loop-fail-preserved
loop-fail-preserved c =
    elim c.match-token_of.branch [
      | in-Ok+in_ok-push_token-in-Ok w ↦
          rw (w.out-is, w.fault-is, w.in_ok-push_token-in-Ok.ensures, c.may_sign-signed.ensures) (Reads-value c.loop-fail.invariant c.in-Found.ensures w.in-Ok.ensures.found)
      | in-Err w ↦ rw (w.out-is, w.fault-is, w.first_fault.ensures, c.may_sign-signed.ensures) (Reads-fault w.in-Err.fail c.loop-fail.invariant c.in-Found.ensures w.in-Err.ensures.fails)
    ]
