use Rattle.std.proofs.Common.{◌≡◌, ◌+◌, length, map, take}
use Rattle.dbp_plan.specs.Samples.{input_value}
use Rattle.dbp_rules.specs.Lookups.{time}
use Rattle.dbp_rules.specs.Moves as move
use Rattle.dbp_rules.proofs.work.Work.sense.Given as goal

abbrev pub invariant-loop-sense : goal.invariant-loop-sense
invariant-loop-sense l = record {
  place : l.place ≡ length l.task.states + l.sense-index;
  work : l.self ≡ move.with_senses l.task (take l.sense-index (map (λ x. input_value l.plan.diagram.inputs l.plan.samples x.input (time l.wired (l.ended + 1))) l.task.senses)) l.initial.self;
}
