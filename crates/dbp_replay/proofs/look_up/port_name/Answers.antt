use Rattle.std.proofs.Common.{◌≡◌, slice_get, Some, ap, sym, ◌∙◌}
use Rattle.dbp_plan.specs.declared.diagram.Out.{Out}
use Rattle.dbp_plan.specs.ListItems.{read_place}
use Rattle.dbp_plan.specs.Lookups.{task_at}
use Rattle.dbp_replay.specs.NamedItems.{out_name}
use Rattle.dbp_replay.proofs.look_up.port_name.Goals as goal

pub returns : goal.returns
returns c =
    let outs : c.items.result.now ≡ (task_at c.args.diagram.now c.args.i).outs = rw c.task_at.ensures at c.items.ensures.value in
    let o = c.index-items-port.result in
    let here : slice_get (task_at c.args.diagram.now c.args.i).outs c.args.port ≡ Some o =
    read_place (task_at c.args.diagram.now c.args.i).outs c.args.port o c.requires.port (rw outs at c.index-items-port.is) in
    c.bytes.ensures.value ∙ ap (λ (x : Out). x.name) (sym c.index-items-port.is) ∙ sym (ap out_name here)
