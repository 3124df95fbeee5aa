-- What a policy ranks tasks by, and what it serves instances by.
use Rattle.std.specs.Prelude.{ℕ, ◌-◌, ◌^◌, Option}
use Rattle.std.specs.Option.{option_map}
use Rattle.dbp_plan.specs.declared.diagram.Policy.{Policy}
use Rattle.dbp_plan.specs.declared.diagram.Policy.TheVariants.{Fp, Edf}
use Rattle.dbp_plan.specs.declared.diagram.ServedBy.{ServedBy}
use Rattle.dbp_plan.specs.declared.diagram.ServedBy.TheVariants.{Rank, Deadline}
use Rattle.dbp_plan.specs.declared.diagram.Task.{Task}

-- the number by which the policy ranks the task, if the task has it: the smaller, the higher. A greater priority is higher
abbrev pub urgency : Policy → Task → Option ℕ
urgency Fp t = option_map (λ prio. (2 ^ 32 - 1) - prio) t.prio
urgency Edf t = t.deadline

-- fixed priorities serve by rank, earliest deadline first by deadline
abbrev pub served_by : Policy → ServedBy
served_by Fp = Rank
served_by Edf = Deadline
