-- What the canonical lines of a document say.
use Rattle.std.specs.Prelude.{ℕ, pos}
use Rattle.std.specs.Option.{option_map}
use Rattle.dbp_plan.specs.Expr.{tree_of}
use Rattle.dia_lines.specs.declared.item.Decl.{Decl}
use Rattle.dia_lines.specs.declared.item.Decl.TheVariants.{Input, Event}
use Rattle.dia_lines.specs.declared.item.Part.{Part}
use Rattle.dia_lines.specs.declared.item.Part.TheVariants as part
use Rattle.dia_lines.specs.declared.item.RawClock.{RawClock}
use Rattle.dia_lines.specs.declared.item.RawClock.TheVariants.{Every, On}
use Rattle.dia_lines.specs.declared.item.TaskLine.{TaskLine}
use Rattle.dia_lines.proofs.DelayLaws.{given_delay}
use Rattle.dia_lines.specs.Statements.{Statement, TaskHeader, Clock, every, on, input, event, task, state, sense, read, a_let, a_next, out}
use Rattle.dia_print.specs.ItemTokens.{named_cpu}

abbrev pub decl_statement : Decl → Statement
decl_statement (Input n first) = input n first
decl_statement (Event n) = event n

abbrev pub clock_of : RawClock → Clock
clock_of (Every period offset) = every (pos period) (pos offset)
clock_of (On n) = on n

abbrev pub header_of : ℕ → TaskLine → TaskHeader
header_of version t = record {
  name = t.name;
  clock = clock_of t.clock;
  when = t.when;
  prio = option_map pos t.prio;
  deadline = option_map pos t.deadline;
  cost = pos t.cost;
  cpu = option_map pos (named_cpu version t.cpu);
}

abbrev pub task_statement : ℕ → TaskLine → Statement
task_statement version t = task (header_of version t)

abbrev pub part_statement : Part → Statement
part_statement (part.State n first) = state n first
part_statement (part.Sense n from) = sense n from
part_statement (part.Read n delay writer port at) = read n (given_delay delay) writer port (pos at)
part_statement (part.Let n e) = a_let n (tree_of e)
part_statement (part.Next n e) = a_next n (tree_of e)
part_statement (part.Out n first e) = out n first (tree_of e)
