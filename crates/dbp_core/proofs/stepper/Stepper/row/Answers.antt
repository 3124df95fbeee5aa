use Rattle.std.proofs.Common.{◌≡◌, ◌<◌, ◌≤◌, List, length, get_or, ap, ◌∙◌, subst, sym, arith}
use Rattle.std.proofs.lemmas.List.{get_or_default}
use Rattle.std.proofs.Math.Logic.{∥∥₁_elim}
use Rattle.std.proofs.Props.{props}
use Rattle.dbp_plan.specs.Occurrences.{times_of}
use Rattle.sync_meaning.specs.SomeMeaning.{meaning_of}
use Rattle.dbp_plan.specs.Table.{table_row}
use Rattle.dbp_rules.specs.Listing.{with_releases}
use Rattle.dbp_rules.specs.Lookups.{no_task, task as state_of}
use Rattle.dbp_rules.specs.SoundParts.{last_shut}
use Rattle.dbp_rules.specs.declared.state.TaskState.{TaskState}
use Rattle.dbp_rules.specs.declared.wiring.Wiring.{Wiring}
use Rattle.dbp_rules.proofs.SoundOwn.{IsOwn, own_wiring}
use Rattle.dbp_rules.proofs.TakenWords.{meaning_row, shut_few}
use Rattle.dbp_core.proofs.stepper.Stepper.row.Goals as goal

pub returns-clause-meaning : goal.returns-clause-meaning
returns-clause-meaning c = λ table meaning.
    let core = c.args.self.now in
    let wiring = with_releases core.plan.value core.wiring in
    let own : IsOwn core.plan.value (with_releases core.plan.value core.wiring) = subst (λ (x : Wiring). IsOwn core.plan.value x) (sym core.wired) (own_wiring core.plan.value core.wiring.count) in
    let below : c.args.task < length core.wiring.tasks = omega (arith, c.requires, core.shape.wiring.tasks) in
    let few : last_shut (state_of core.state c.args.task) ≤ length (times_of core.plan.value.batches c.args.task) =
    ∥∥₁_elim core.sound (hlevel props) (λ sound. shut_few core.plan.value wiring (table_row (meaning_of core.plan.value)) core.state c.args.task own sound below) in
    let is : (state_of core.state c.args.task).work.row ≡ table_row (meaning_of core.plan.value) c.args.task (last_shut (state_of core.state c.args.task)) =
    ∥∥₁_elim core.sound (hlevel props) (λ sound. (sound.tasks c.args.task below).row) in
    let same : c.items.result.now ≡ core.state.tasks = c.items.ensures.value in
    let row_is : c.row.result.now ≡ (state_of core.state c.args.task).work.row =
    c.row.ensures ∙ ap (λ (ts : List TaskState). (get_or ts c.args.task c.index-items-task.result).work.row) same ∙ ap (λ (t : TaskState). t.work.row) (get_or_default core.state.tasks c.args.task c.index-items-task.result no_task (omega (arith, below, core.shape.tasks))) in
    meaning_row core.plan.value table c.args.task (last_shut (state_of core.state c.args.task)) c.row.result.now meaning c.requires few (row_is ∙ is)
