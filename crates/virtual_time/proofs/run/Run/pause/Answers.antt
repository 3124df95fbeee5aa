use Rattle.std.proofs.Common.{arith, ℕ, set, ◌-◌, refl, ap}
use Rattle.std.proofs.lemmas.List.{get_or_read}
use Rattle.virtual_time.proofs.Running.{paused}
use Rattle.virtual_time.proofs.run.Run.pause.Goals as goal

pub returns-clause-run : goal.returns-clause-run
returns-clause-run g c =
    let (run, (small, (served, short))) = c.requires in
    let r = c.args.self.now in
    let read = get_or_read r.rest.items c.args.task c.index_mut.result.now (omega (arith, small, run.at.rests)) c.index_mut.ensures.value 0 in
    λ later goes. paused c.args.plan.now g.cpus r run c.args.task c.args.ticks small (omega (arith, short)) served later goes
    _ short refl refl (ap (λ (n : ℕ). set r.rest.items c.args.task (n - c.args.ticks)) read) refl refl
