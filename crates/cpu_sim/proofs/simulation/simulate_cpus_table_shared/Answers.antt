use Rattle.std.proofs.Common.{◌∙◌}
use Rattle.cpu_sim.proofs.Finals.{in_time, is_meaning}
use Rattle.cpu_sim.proofs.simulation.simulate_cpus_table_shared.Goals as goal

pub returns : goal.returns
returns c =
    let p = c.args.plan.now.value in
    let s = c.in_ok-recorder.field-0 in
    let e = c.in_ok-recorder.ensures in
    record {
      meant = c.finish-table.ensures.table ∙ is_meaning p s e.simulation e.released e.idle;
      in_time = in_time p s e.simulation e.released e.idle;
    }
