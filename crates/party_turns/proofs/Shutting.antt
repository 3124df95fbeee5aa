-- What a task's computation at its shut needs, and what it has then computed.
use Rattle.std.proofs.Common.{◌≡◌, ℕ, ◌+◌, ◌*◌, ◌<◌, ◌≤◌, ◌++◌, length, map, take, drop, sym, ◌∙◌, ap, subst, arith}
use Rattle.std.proofs.Math.Nat.{mul-le-mul_right}
use Rattle.dbp_plan.specs.declared.diagram.Task.{Task}
use Rattle.dbp_plan.specs.declared.limits.TheConstants.{MAX_OCCURRENCES}
use Rattle.dbp_plan.specs.declared.plan.Plan.{Plan}
use Rattle.dbp_plan.specs.declared.table.TaskRows.{TaskRows}
use Rattle.dbp_plan.specs.Closed.{IsClosedTask, let_base, place_count}
use Rattle.dbp_plan.specs.Lookups.{declared_task}
use Rattle.dbp_plan.specs.Occurrences.{times_of}
use Rattle.dbp_plan.specs.Samples.{input_value}
use Rattle.dbp_rules.specs.Moves as move
use Rattle.dbp_rules.specs.PartyRules.{no_word}
use Rattle.dbp_rules.specs.Lookups.{time, wired_task}
use Rattle.dbp_rules.specs.Shapes.{HasSamples, IsWired, running_count}
use Rattle.dbp_rules.specs.Work.{WorkWords}
use Rattle.dbp_rules.specs.declared.parts.Place.TheVariants as place
use Rattle.dbp_rules.specs.declared.step.Count.TheVariants.{All as AllLinks}
use Rattle.dbp_rules.specs.declared.wiring.TaskWiring.{TaskWiring}
use Rattle.dbp_rules.specs.declared.wiring.Wiring.{Wiring}
use Rattle.dbp_rules.proofs.Wirings.{wiring-whole}
use Rattle.word_rule.specs.Roles.{run_wiring}
use Rattle.word_rule.specs.Seats.{TaskSits}
use Rattle.word_rule.specs.declared.seats.SlotWords.{SlotWords}
use Rattle.word_rule.specs.declared.seats.TaskSeat.{TaskSeat}
use Rattle.word_rule.proofs.TaskCalls.{inside, task_wired, wired_is}
use Rattle.party_turns.specs.Computed.{HasComputed, plan_of_task}
use Rattle.party_turns.proofs.Seats.{time_inside}
use Rattle.party_turns.proofs.Works.{after_shut}

module _ (w : SlotWords) (s : TaskSeat) (here : TaskSits w s) where
  abbrev p : Plan
  p = plan_of_task s

  abbrev d : Task
  d = declared_task w.plan s.task

  pub closed : IsClosedTask (length w.plan.diagram.inputs) (length w.plan.diagram.events) (length w.plan.diagram.links) (declared_task w.plan s.task)
  closed = subst (λ (x : Plan). IsClosedTask (length x.diagram.inputs) (length x.diagram.events) (length x.diagram.links) (declared_task x s.task)) here.1 (task_wired w s here).closed

  pub few_times : length (wired_task w.wiring s.task).times ≤ MAX_OCCURRENCES
  few_times = let a = (task_wired w s here).few in let b = ap (λ (x : TaskWiring). length x.times) (wired_is w s here) in omega arith

  pub has_samples : HasSamples w.plan w.wiring.samples
  has_samples = (subst (λ (x : Wiring). IsWired w.plan x) (sym w.wired) (wiring-whole w.plan AllLinks)).samples

  module _ (at : s.part.place ≡ place.Shut) (work : WorkWords) (rows : TaskRows) (has : HasComputed (plan_of_task s) s.task s.part work rows) where
    pub now_size : length work.now ≡ place_count (declared_task w.plan s.task)
    now_size = has.words.now ∙ ap (λ (x : Plan). place_count (declared_task x s.task)) here.1

    pub sense_room : length (declared_task w.plan s.task).states + length (declared_task w.plan s.task).senses ≤ length work.now
    sense_room = let a = now_size in omega arith

    pub running : s.part.ended < length (wired_task w.wiring s.task).times
    running = time_inside w s here (ap running_count at)

    pub occurs : s.part.ended < length (times_of (plan_of_task s).batches s.task)
    occurs = let a = running in let b = ap (λ (x : TaskWiring). length x.times) (wired_is w s here) in let c = ap length (task_wired w s here).times in omega arith

    pub row_fits : (s.part.ended + 1 + 1) * rows.ports ≤ length rows.words
    row_fits =
        let scaled : (s.part.ended + 1 + 1) * rows.ports ≤ (length (times_of (plan_of_task s).batches s.task) + 1) * rows.ports = mul-le-mul_right rows.ports (let a = occurs in omega arith) in
        let size : length rows.words ≡ (length (times_of (plan_of_task s).batches s.task) + 1) * rows.ports = has.rows.room.size ∙ ap (λ (x : ℕ). (length (times_of (plan_of_task s).batches s.task) + 1) * x) (sym has.rows.room.ports) in
        omega arith

    module _ (sensed : WorkWords)
        (senses : sensed ≡ move.with_senses (declared_task w.plan s.task) (map (λ x. input_value w.plan.diagram.inputs w.plan.samples x.input (time (wired_task w.wiring s.task) (s.part.ended + 1))) (declared_task w.plan s.task).senses) work)
        (new : WorkWords) (computes : new ≡ move.work_words_of (declared_task w.plan s.task) (take (let_base (declared_task w.plan s.task)) sensed.now)) where
      worked : new ≡ move.after_compute (declared_task p s.task) (map (λ x. input_value p.diagram.inputs p.samples x.input (time (wired_task (run_wiring p) s.task) (s.part.ended + 1))) (declared_task p s.task).senses) work
      worked =
          computes
          ∙ ap (λ (x : WorkWords). move.work_words_of (declared_task w.plan s.task) (take (let_base (declared_task w.plan s.task)) x.now)) senses
          ∙ ap (λ (x : Plan × TaskWiring). move.after_compute (declared_task x.0 s.task) (map (λ y. input_value x.0.diagram.inputs x.0.samples y.input (time x.1 (s.part.ended + 1))) (declared_task x.0 s.task).senses) work) (λ j. (sym here.1 j, sym (wired_is w s here) j))

      pub has_computed : (made : TaskRows) → made.ports ≡ rows.ports → made.words ≡ take ((s.part.ended + 1) * rows.ports) rows.words ++ new.row ++ drop ((s.part.ended + 1 + 1) * rows.ports) rows.words
          → HasComputed (plan_of_task s) s.task (move.at_place s.part (place.Put 0)) new made
      has_computed made ports words = after_shut p s.task (inside w s here) s.part work rows has new made no_word at occurs worked ports words
