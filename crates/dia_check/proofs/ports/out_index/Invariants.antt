use Rattle.std.proofs.Common.{◌≡◌, ◌≤◌, ◌+◌, drop}
use Rattle.std.specs.List.{flat_map}
use Rattle.dbp_plan.specs.NameLists.{index_of, is_among}
use Rattle.dia_check.specs.Names.{out_name}
use Rattle.dia_check.proofs.ports.out_index.Given as goal

abbrev pub invariant-loop-part : goal.invariant-loop-part
invariant-loop-part l = record {
  there : is_among (flat_map out_name l.parts) l.name ≡ is_among (flat_map out_name (drop l.part-index l.parts)) l.name;
  first : index_of (flat_map out_name l.parts) l.name ≡ l.index + index_of (flat_map out_name (drop l.part-index l.parts)) l.name;
  few : l.index ≤ l.part-index;
}
