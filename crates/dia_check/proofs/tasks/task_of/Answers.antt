use Rattle.std.proofs.Common.{ap, ◌∙◌}
use Rattle.dia_check.specs.Diagrams.{clock_of, when_of}
use Rattle.dia_check.proofs.TaskParts.{assembled}
use Rattle.dia_check.proofs.tasks.task_of.Goals as goal

pub returns-clause-task : goal.returns-clause-task
returns-clause-task c number reads =
    assembled c.args.body.now number c.args.raw.now c.in_ok-work.work c.in_ok-sources.sources c.args.reads c.clock_of.result c.when_of.result c.in_ok-work.ensures.work (rw c.items.ensures.value at c.in_ok-sources.ensures) reads
    (c.clock_of.ensures ∙ ap (λ events. clock_of events c.args.raw.now.clock) c.requires.scope.events)
    (c.when_of.ensures ∙ ap (λ inputs. when_of inputs c.args.raw.now.when) c.requires.scope.inputs)
