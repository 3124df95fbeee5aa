use Rattle.dbp_replay.proofs.KeptSteps.{kept-tokens}
use Rattle.dbp_replay.proofs.script.step_on.Goals as goal

pub out_of_memory-requires : goal.out_of_memory-requires
out_of_memory-requires c =
    let spelled = kept-tokens c.args.line.now c.args.line.now c.requires in
    c.in-Err.ensures.only spelled.0 spelled.1
