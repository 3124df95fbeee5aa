use Rattle.std.proofs.Common.{ℕ, ℤ, ◌+◌, ◌*◌, ◌<◌, ◌≤◌, All, List, ◌++◌, length, map, take, drop, arith, sym, ap, subst, ◌∙◌}
use Rattle.dbp_plan.specs.declared.diagram.Task.{Task}
use Rattle.dbp_plan.specs.declared.plan.Plan.{Plan}
use Rattle.dbp_plan.specs.Closed.{let_base}
use Rattle.dbp_plan.specs.Samples.{input_value}
use Rattle.dbp_rules.specs.Moves as move
use Rattle.dbp_rules.specs.Lookups.{time}
use Rattle.dbp_rules.specs.Shapes.{HasSamples}
use Rattle.dbp_rules.specs.declared.parts.TaskPart.{TaskPart}
use Rattle.dbp_rules.specs.declared.wiring.TaskWiring.{TaskWiring}
use Rattle.dbp_rules.specs.declared.wiring.Wiring.{Wiring}
use Rattle.party_turns.proofs.Shutting.{closed, few_times, has_computed, has_samples, row_fits, running, sense_room}
use Rattle.party_turns.proofs.work_turns.compute.Goals as goal

pub sense-requires-clause-samples : goal.sense-requires-clause-samples
sense-requires-clause-samples c = subst (λ (x : Plan × Wiring). HasSamples x.0 x.1.samples) (λ j. (sym c.plan.ensures j, sym c.wiring.ensures j)) (has_samples c.args.words.now c.args.seat.now c.requires.here)

pub sense-requires-clause-inputs : goal.sense-requires-clause-inputs
sense-requires-clause-inputs c =
    subst (λ (x : Plan × Task). All (λ s. s.input < length x.0.diagram.inputs) x.1.senses) (λ j. (sym c.plan.ensures j, sym c.declared_of-task.ensures j)) (closed c.args.words.now c.args.seat.now c.requires.here).sensed

pub sense-requires-clause-room : goal.sense-requires-clause-room
sense-requires-clause-room c = rw c.declared_of-task.ensures (sense_room c.args.words.now c.args.seat.now c.requires.here c.requires.place c.args.work.now c.args.rows.now c.requires.before)

pub compute-requires-clause-closed : goal.compute-requires-clause-closed
compute-requires-clause-closed c = rw c.declared_of-task.ensures (_, _, _, closed c.args.words.now c.args.seat.now c.requires.here)

pub overflow_add-ended : goal.overflow_add-ended
overflow_add-ended c =
    let ended = ap (λ (t : TaskPart). t.ended) c.part.ensures in
    omega (arith, running c.args.words.now c.args.seat.now c.requires.here c.requires.place c.args.work.now c.args.rows.now c.requires.before, few_times c.args.words.now c.args.seat.now c.requires.here)

pub write_row-requires-clause-there : goal.write_row-requires-clause-there
write_row-requires-clause-there c =
    let ended = ap (λ (t : TaskPart). t.ended) c.part.ensures in
    subst (λ (n : ℕ). (n + 1 + 1) * c.args.rows.now.ports ≤ length c.args.rows.now.words) (sym ended) (row_fits c.args.words.now c.args.seat.now c.requires.here c.requires.place c.args.work.now c.args.rows.now c.requires.before)

pub returns : goal.returns
returns c =
    let rows = c.args.rows.now in
    let own = c.declared_of-task.ensures in
    let at = ap (λ (x : TaskWiring × TaskPart). time x.0 (x.1.ended + 1)) (λ j. (c.wired_of-wired.ensures j, c.part.ensures j)) in
    let senses = c.sense.ensures ∙ ap (λ (x : Task × Plan × ℕ). move.with_senses x.0 (map (λ y. input_value x.1.diagram.inputs x.1.samples y.input x.2) x.0.senses) c.args.work.now) (λ j. (own j, c.plan.ensures j, at j)) in
    let computes = c.compute.ensures ∙ ap (λ (x : Task). move.work_words_of x (take (let_base x) c.sense.new.self.now)) own in
    let words = c.write_row.ensures.words ∙ ap (λ (x : TaskPart × List ℤ). take ((x.0.ended + 1) * rows.ports) rows.words ++ x.1 ++ drop ((x.0.ended + 1 + 1) * rows.ports) rows.words) (λ j. (c.part.ensures j, c.row.ensures j)) in
    has_computed c.args.words.now c.args.seat.now c.requires.here c.requires.place c.args.work.now c.args.rows.now c.requires.before c.sense.new.self senses c.compute.new.self computes c.write_row.new.rows c.write_row.ensures.ports words
