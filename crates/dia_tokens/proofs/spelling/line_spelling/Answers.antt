use Rattle.std.proofs.Common.{sym, subst, rules}
use Rattle.dia_tokens.specs.Line.{a_bad_byte}
use Rattle.dia_tokens.specs.Pieces.{seen}
use Rattle.dia_tokens.proofs.LexLaws.{Shrinks, Shrinks-at}
use Rattle.dia_tokens.proofs.ReadLaws.{Reads-bad}
use Rattle.dia_tokens.proofs.Spelled.{spelled-starts, spelled-value, spelled-fault, spelled-whole, spelled-faulty}
use Rattle.dia_tokens.proofs.ValueLaws.{shaped-at}
use Rattle.dia_tokens.proofs.spelling.line_spelling.Goals as goal
use Rattle.dia_tokens.proofs.spelling.line_spelling.Goals.{in-Some-fault_of, in_default}

pub returns-then-not-all_allowed-clause-fault : goal.returns-then-not-all_allowed-clause-fault
returns-then-not-all_allowed-clause-fault c = a_bad_byte c.args.line.now (search rules)

pub loop-fail-init : goal.loop-fail-init
loop-fail-init c = rw c.in_ok-text.ensures.items (spelled-starts c.args.line.now)

pub returns-in-Some-clause-fault : goal.returns-in-Some-clause-fault
returns-in-Some-clause-fault c = rw c.from.ensures (spelled-faulty (rw c.in-Some.is at c.loop-fail.invariant) c.in-Nothing.ensures (search rules))

pub returns-in-None-clause-found : goal.returns-in-None-clause-found
returns-in-None-clause-found c = spelled-whole (rw c.in-None.is at c.loop-fail.invariant) c.in-Nothing.ensures (search rules)

pub returns-in-Bad-clause-fault : goal.returns-in-Bad-clause-fault
returns-in-Bad-clause-fault c = Reads-bad c.loop-fail.invariant.reads c.in-Bad.ensures (search rules)

pub fault_of-requires : goal.fault_of-requires
fault_of-requires c = shaped-at c.loop-fail.signed c.loop-fail.rest.now (seen c.in-Found.piece) c.in-Found.after.now c.in-Found.ensures

pub loop-fail-smaller : goal.loop-fail-smaller
loop-fail-smaller c = subst (Shrinks c.loop-fail.rest.now) (sym c.in-Found.ensures) (Shrinks-at c.loop-fail.signed c.loop-fail.rest.now)

pub loop-fail-preserved : goal.loop-fail-preserved
loop-fail-preserved c =
    elim c.match-fault_of.branch [
      | in-Some-fault_of w ↦ rw (w.fault-is, w.first_fault.ensures, c.in_ok-push_piece-in-Found.ensures, c.may_sign-signed.ensures) (spelled-fault w.in-Some-fault_of.fail c.loop-fail.invariant c.in-Found.ensures w.in-Some-fault_of.ensures.fails)
      | in_default w ↦ rw (w.fault-is, c.in_ok-push_piece-in-Found.ensures, c.may_sign-signed.ensures) (spelled-value c.loop-fail.invariant c.in-Found.ensures w.in_default.ensures.narrow w.in_default.ensures.short)
    ]
