-- Answers of the command that writes response times.
use Rattle.std.proofs.Common.{◌≡◌, ◌≢◌, ℕ, List, Option, None, Some, false, slice_get, refl}
use Rattle.dbp_plan.specs.declared.plan.Plan.{Plan}
use Rattle.dbp_plan.specs.Lookups.{declared_task}
use Rattle.rta_check.specs.declared.bound.Bound.{Bound}
use Rattle.rta_check.specs.declared.bound.Bound.TheVariants.{Beyond}
use Rattle.rta_check.specs.declared.fail.RtaFail.{RtaFail}
use Rattle.rta_check.specs.declared.fail.RtaFail.TheVariants as rta
use Rattle.rta_check.specs.Bounds.{AreBounds, rta_fault}
use Rattle.rta_check.proofs.BoundLists.{bounds_kept, some_bounds}
use Rattle.rta_check.proofs.RtaFaults.{no_fault_ranked, no_fault_periodic, no_memory_fault}
use Rattle.trace_io.specs.Texts.{Accepts}
use Rattle.dbp_answers.specs.Answer.{Answers, IsRefused, bounds_of_tasks, made, not_fixed, not_periodic, of_plan, of_plan_refused}
use Rattle.dbp_answers.specs.BoundLines.{bound_lines}
use Rattle.dbp_answers.specs.Commands.{the_response_times}
use Rattle.dbp_answers.specs.Simulations.{IsInTime}
use Rattle.dbp_answers.specs.declared.command.Command.TheVariants.{Mean, Rta, Sim}
use Rattle.dbp_answers.specs.declared.command_code.CommandCode.TheVariants.{NotFixed, NotPeriodic}
use Rattle.dbp_answers.specs.declared.processors.Processors.TheVariants.{One}
use Rattle.dbp_answers.specs.declared.refusal.Refusal.{Refusal}
use Rattle.dbp_answers.specs.declared.refusal.Refusal.TheVariants.{OfCommand}
use Rattle.dbp_answers.specs.declared.status.Status.TheVariants.{Ok}
use Rattle.dbp_answers.proofs.Simulated.{in-time-simulated}

module _ (input : List ℕ) (p : Plan) (accepted : Accepts input p) where
  -- a plan without a fault has its lines
  pub response-lines : (bounds : List Bound) → rta_fault p.diagram ≡ None → AreBounds p.diagram bounds → Answers input Rta Ok (bound_lines p.diagram bounds)
  response-lines bounds none are = made (bound_lines p.diagram bounds) (of_plan Rta the_response_times p (bound_lines p.diagram bounds) accepted refl (bounds_of_tasks bounds none are))

  -- one with a fault is refused
  pub refused-not-fixed : rta_fault p.diagram ≡ Some rta.NotFixed → IsRefused input Rta (OfCommand NotFixed)
  refused-not-fixed fault = of_plan_refused the_response_times p (OfCommand NotFixed) accepted refl (not_fixed fault)

  pub refused-not-periodic : (task : ℕ) → rta_fault p.diagram ≡ Some (rta.NotPeriodic task) → IsRefused input Rta (OfCommand (NotPeriodic (declared_task p task).name))
  refused-not-periodic task fault = of_plan_refused the_response_times p (OfCommand (NotPeriodic (declared_task p task).name)) accepted refl (not_periodic task fault)

  lines-or-refused : (fault : Option RtaFail) → rta_fault p.diagram ≡ fault → ((refusal : Refusal) → IsRefused input Rta refusal → ⊥) → (text : List ℕ) × Answers input Rta Ok text
  lines-or-refused None none fits =
      let (bounds, are) = some_bounds p.diagram in
      (bound_lines p.diagram bounds, response-lines bounds none are)
  lines-or-refused (Some rta.NotFixed) fault fits = absurd (fits (OfCommand NotFixed) (refused-not-fixed fault))
  lines-or-refused (Some (rta.NotPeriodic task)) fault fits = absurd (fits (OfCommand (NotPeriodic (declared_task p task).name)) (refused-not-periodic task fault))
  lines-or-refused (Some rta.NoMemory) fault fits = absurd (no_memory_fault p.diagram fault)

  pub has-response-times : ((refusal : Refusal) → IsRefused input Rta refusal → ⊥) → (text : List ℕ) × Answers input Rta Ok text
  has-response-times = lines-or-refused (rta_fault p.diagram) refl

  -- if each task has one, no release overruns
  bounded-in-time : (bounds : List Bound) → rta_fault p.diagram ≡ None → AreBounds p.diagram bounds → ((task : ℕ) → slice_get bounds task ≢ Some Beyond) → IsInTime p One
  bounded-in-time bounds none are bounded = (bounds_kept p.diagram bounds p (no_fault_ranked p.diagram none) (no_fault_periodic p.diagram none) are refl).no_overrun bounded

  pub bounded-simulated : (bounds : List Bound) → rta_fault p.diagram ≡ None → AreBounds p.diagram bounds → ((task : ℕ) → slice_get bounds task ≢ Some Beyond)
      → (text : List ℕ) × Answers input Mean Ok text × Answers input (Sim false) Ok text
  bounded-simulated bounds none are bounded = in-time-simulated input p One (Sim false) accepted (bounded-in-time bounds none are bounded) refl
