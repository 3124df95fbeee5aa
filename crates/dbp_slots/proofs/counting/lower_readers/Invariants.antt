use Rattle.std.proofs.Common.{◌≡◌, ◌≤◌, count_by, take}
use Rattle.dbp_slots.specs.Slots.{is_to_lower}
use Rattle.dbp_slots.proofs.counting.lower_readers.Given as goal

abbrev pub invariant-loop-link : goal.invariant-loop-link
invariant-loop-link l = record { counted : l.count ≡ count_by (is_to_lower l.diagram.ranks l.task) (take l.link-index l.link-items); few : l.count ≤ l.link-index }
