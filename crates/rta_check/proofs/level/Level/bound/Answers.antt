use Rattle.std.proofs.Common.{◌∙◌, arith}
use Rattle.rta_check.proofs.Starts.{next_start, start_solves}
use Rattle.rta_check.proofs.level.Level.bound.Goals as goal

pub returns-then-asked-from : goal.returns-then-asked-from
returns-then-asked-from c = λ d task of.
    let l = c.args.self.now in
    let ticks = c.loop-ticks.ticks in
    let before = c.loop-ticks.invariant in
    let within = c.loop-ticks-test.true in
    let own = start_solves l ticks c.requires.level before.start within (omega (arith, c.if-asked-from.true, c.from.ensures, c.request_bound-asked.ensures)) in
    record {
      solves = record { some = before.some; within = omega (arith, within, of.period); equal = own ∙ of.requests ticks };
      least = λ s solves. before.start s solves.some (omega (arith, solves.within, of.period)) (omega (arith, solves.equal, of.requests s));
    }

pub loop-ticks-preserved : goal.loop-ticks-preserved
loop-ticks-preserved c =
    let before = c.loop-ticks.invariant in
    record {
      start = λ s some within enough.
          let later = next_start c.args.self.now c.loop-ticks.ticks c.requires.level before.start s some within enough in
          omega (arith, later, c.min-ticks.ensures, c.request_bound-asked.ensures);
      some = omega (arith, before.some, c.min-ticks.ensures, c.from-in-loop-ticks.ensures, c.if-asked-from.false, c.from.ensures);
    }
