use Rattle.std.proofs.Common.{◌∙◌, sym}
use Rattle.cpu_sim.proofs.Finals.{are_ends, is_meaning, kept_record}
use Rattle.cpu_sim.proofs.simulation.simulate_cpus_shared.Goals as goal

pub returns : goal.returns
returns c =
    let p = c.args.plan.now.value in
    let s = c.in_ok-run.field-0 in
    let e = c.in_ok-run.ensures in
    record {
      table = c.finish-steps.ensures.table ∙ is_meaning p s e.simulation e.released e.idle;
      script = kept_record p s e.simulation e.released e.idle c.in-Some.script (sym c.finish-steps.ensures.steps ∙ c.in-Some.is);
      ends = are_ends p s e.simulation e.released e.idle;
    }
