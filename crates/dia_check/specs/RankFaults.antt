-- The first fault of a diagram's ranks.
use Rattle.std.specs.Prelude.{◌≡◌, ℕ, ◌==◌, ◌&&◌, nat_lt, if◌then◌else◌, List, [], ◌++◌, map, slice_get, slice_index, Option, Some, None, is_none}
use Rattle.std.specs.Option.{option_and_then}
use Rattle.dbp_plan.specs.declared.diagram.Diagram.{Diagram}
use Rattle.dbp_plan.specs.declared.diagram.Link.{Link}
use Rattle.dbp_plan.specs.declared.diagram.Policy.{Policy}
use Rattle.dbp_plan.specs.declared.diagram.Policy.TheVariants.{Fp, Edf}
use Rattle.dbp_plan.specs.declared.diagram.Task.{Task}
use Rattle.dbp_plan.specs.Policies.{urgency}
use Rattle.dbp_plan.specs.Ranks.{ranks_of}
use Rattle.dbp_plan.specs.FirstFault.{faults_after, first_fault}
use Rattle.dia_check.specs.declared.fail.CheckCode.{CheckCode}
use Rattle.dia_check.specs.declared.fail.CheckCode.TheVariants as code
use Rattle.dia_check.specs.declared.fail.CheckFail.{CheckFail}
use Rattle.dia_check.specs.declared.fail.CheckFail.TheVariants as fail
use Rattle.dia_check.specs.declared.fail.RankFault.{RankFault}
use Rattle.dia_check.specs.declared.fail.RankFault.TheVariants.{MissingPrio, MissingDeadline, UndelayedUpward}
use Rattle.dia_check.specs.declared.shaped.ReadLine.{ReadLine}
use Rattle.dia_check.specs.declared.shaped.Shaped.{Shaped}

-- a task lacks what the policy ranks it by
abbrev pub missing : Policy → RankFault
missing Fp = MissingPrio
missing Edf = MissingDeadline

-- of a task: what the policy ranks it by is missing
abbrev pub task_rank_fault : Policy → Task → Option RankFault
task_rank_fault policy t = if is_none (urgency policy t) then Some (missing policy) else None

-- of a link, if the tasks have these ranks: it is direct, and its reader is above its writer
abbrev pub link_rank_fault : List ℕ → Link → Option RankFault
link_rank_fault ranks l = if l.delay == 0 && nat_lt (slice_index ranks l.reader) (slice_index ranks l.writer) then Some (UndelayedUpward l.writer l.reader) else None

-- of a read line: that of its link
abbrev pub read_rank_fault : List ℕ → List Link → ReadLine → Option RankFault
read_rank_fault ranks links r = option_and_then (link_rank_fault ranks) (slice_get links r.link)

-- each task with the number of its line and its fault, then each read line
abbrev pub rank_faults : Shaped → List (ℕ × Option RankFault)
rank_faults s =
    let d = s.diagram in
    faults_after (λ before t. task_rank_fault d.policy t) [] d.tasks s.task_lines
    ++ map (λ r. (r.line, read_rank_fault (ranks_of d.policy d.tasks) d.links r)) s.read_lines

abbrev pub HasNoRankFault : Shaped → Type 0
HasNoRankFault s = first_fault (rank_faults s) ≡ None

abbrev pub code_of_rank : RankFault → CheckCode
code_of_rank MissingPrio = code.MissingPrio
code_of_rank MissingDeadline = code.MissingDeadline
code_of_rank (UndelayedUpward writer reader) = code.UndelayedUpward writer reader

-- the refusal for a fault of ranks at the line with the number
abbrev pub rank_refusal : ℕ × RankFault → CheckFail
rank_refusal f = fail.Refused f.0 (code_of_rank f.1)

-- the first fault is at this line, and its code is this
abbrev pub IsRankFault : Shaped → ℕ → CheckCode → Type 0
IsRankFault s line fault = (f : RankFault) × (first_fault (rank_faults s) ≡ Some (line, f)) × (fault ≡ code_of_rank f)

-- the first fault, unless memory ran out
abbrev pub IsRankRefusal : Shaped → CheckFail → Type 0
IsRankRefusal s (fail.Refused line fault) = IsRankFault s line fault
IsRankRefusal s fail.NoMemory = Unit {0}

-- the diagram with the ranks of its tasks
abbrev pub ranked_diagram : Diagram → Diagram
ranked_diagram d = record d { ranks = ranks_of d.policy d.tasks }
