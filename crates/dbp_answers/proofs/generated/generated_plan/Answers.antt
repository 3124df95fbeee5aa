use Rattle.std.proofs.Common.{List, ℕ, subst}
use Rattle.dbp_answers.specs.Stops.{IsFaultOf}
use Rattle.dbp_answers.proofs.GeneratedPlans.{never-refused}
use Rattle.dbp_answers.proofs.generated.generated_plan.Goals as goal

pub no_memory-requires : goal.no_memory-requires
no_memory-requires c =
    let text = c.in_ok-text.text.items in
    let stop = c.in-Err.stop in
    let fault = subst (λ (l : List ℕ). IsFaultOf l stop) c.deref.ensures.value c.in-Err.ensures.fault in
    let found = c.in_ok-text.ensures.accepted in
    never-refused c.one_plan.ensures.none text found.0 stop found.1 fault
