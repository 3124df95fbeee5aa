-- What holds of a plan's simulations on whichever processors.
use Rattle.std.proofs.Common.{◌≡◌, ℕ, All, Bool, List, false, refl}
use Rattle.cpu_sim.proofs.OneCpuRecord.{one-cpu-record, record-leads}
use Rattle.dbp_plan.specs.Lookups.{declared_task}
use Rattle.dbp_plan.specs.declared.plan.Plan.{Plan}
use Rattle.dbp_replay.proofs.AllowedSteps.{all_there}
use Rattle.dbp_replay.specs.NamedItems.{IsThere}
use Rattle.dbp_replay.specs.Replays.{first}
use Rattle.dbp_rules.specs.Lawful.{Leads}
use Rattle.dbp_rules.specs.Wired.{wiring_of}
use Rattle.dbp_rules.specs.declared.state.State.{State}
use Rattle.dbp_rules.specs.declared.step.Step.{Step}
use Rattle.rank_order.specs.Ends.{IsOverrun}
use Rattle.rank_order.specs.Instances.{Instance}
use Rattle.sync_meaning.specs.SomeMeaning.{meaning_of, meaning_of-is}
use Rattle.trace_io.specs.Lines.{lines_of}
use Rattle.trace_io.specs.Texts.{Accepts}
use Rattle.virtual_sim.proofs.EndEvents.{record_leads}
use Rattle.virtual_sim.proofs.OneRecord.{one_record}
use Rattle.dbp_answers.specs.Answer.{Answers, IsOverrunLine, line_of, made, of_plan, of_plan_overrun, overrun, simulated_lines, table_lines}
use Rattle.dbp_answers.specs.Commands.{a_simulation, at_plan, count_of, looks, the_table}
use Rattle.dbp_answers.specs.OverrunLines.{overrun_line}
use Rattle.dbp_answers.specs.Simulations.{IsInTime, IsRecordIn, left_in, steps_by_rank}
use Rattle.dbp_answers.specs.declared.command.Command.{Command}
use Rattle.dbp_answers.specs.declared.command.Command.TheVariants.{Mean}
use Rattle.dbp_answers.specs.declared.processors.Processors.{Processors}
use Rattle.dbp_answers.specs.declared.processors.Processors.TheVariants.{One, Declared}
use Rattle.dbp_answers.specs.declared.status.Status.TheVariants.{Ok}

-- ---- the record

pub record-in-time : (p : Plan) (c : Processors) (steps : List Step) → IsRecordIn p c steps → IsInTime p c
record-in-time p One steps is = is.in_time
record-in-time p Declared steps is = is.in_time

pub one-record-in : (p : Plan) (c : Processors) (es fs : List Step) → IsRecordIn p c es → IsRecordIn p c fs → es ≡ fs
one-record-in p One es fs is was = one_record p es fs is was
one-record-in p Declared es fs is was = one-cpu-record p es fs is was

-- each of its steps is allowed
pub record-leads-in : (p : Plan) (c : Processors) (steps : List Step) → IsRecordIn p c steps
    → (s : State) × Leads p (wiring_of p (count_of (steps_by_rank c))) (first p (count_of (steps_by_rank c))) steps s
record-leads-in p One steps is = record_leads p steps is
record-leads-in p Declared steps is = (is.state, record-leads p steps is)

-- and names what the diagram has
pub recorded-there : (p : Plan) (c : Processors) (steps : List Step) → IsRecordIn p c steps → All (IsThere p.diagram) steps
recorded-there p c steps is =
    let leads = record-leads-in p c steps is in
    all_there p (count_of (steps_by_rank c)) steps leads.0 leads.1

-- ---- the lines

-- a simulation without an overrun has those of the meaning
pub in-time-simulated : (input : List ℕ) (p : Plan) (c : Processors) (command : Command) → Accepts input p → IsInTime p c → looks command ≡ at_plan (a_simulation c false)
    → (text : List ℕ) × Answers input Mean Ok text × Answers input command Ok text
in-time-simulated input p c command accepted in_time looked =
    let table = meaning_of p in
    let text = lines_of p.diagram p.batches table in (
      text,
      made text (of_plan Mean the_table p text accepted refl (table_lines table (meaning_of-is p))),
      made text (of_plan command (a_simulation c false) p text accepted looked (simulated_lines c table in_time (meaning_of-is p))),
    )

-- one with an overrun has its line
pub overrun-told : (input : List ℕ) (p : Plan) (c : Processors) (command : Command) (record_it : Bool) (x : Instance) (t : ℕ) → Accepts input p → looks command ≡ at_plan (a_simulation c record_it)
    → IsOverrun p (left_in p c) t x → IsOverrunLine input command (overrun_line (declared_task p x.task).name x.number t)
overrun-told input p c command record_it x t accepted looked late =
    line_of (declared_task p x.task).name x.number t (of_plan_overrun (a_simulation c record_it) p x t accepted looked (overrun c record_it x t late))
