-- The instance that is served first may step under the condition on ranks.
use Rattle.std.proofs.Common.{◌≡◌, ℕ, ◌+◌, ◌-◌, ◌<◌, ◌⊎◌, List, [], Option, length, get_or, ap, ◌∙◌, ⊎_elim, arith}
use Rattle.std.proofs.lemmas.Bool.{cases_eq}
use Rattle.dbp_plan.specs.declared.plan.Plan.{Plan}
use Rattle.dbp_plan.specs.Occurrences.{times_of}
use Rattle.rank_order.specs.Instances.{Instance, release_of}
use Rattle.rank_order.specs.Queue.{IsServedFirst}
use Rattle.rank_order.specs.Service.{GoesBefore, Waits}
use Rattle.rank_order.specs.ServiceOf.{service}
use Rattle.rank_order.proofs.HigherRanks.{released_earlier}
use Rattle.dbp_rules.specs.Lookups.{task, task_entry}
use Rattle.dbp_rules.specs.Rules.{own_time}
use Rattle.dbp_rules.specs.Wired.{wiring_of}
use Rattle.dbp_rules.specs.declared.state.State.{State}
use Rattle.dbp_rules.specs.declared.step.Count.TheVariants.{Ranked}
use Rattle.dbp_rules.specs.declared.wiring.TaskWiring.{TaskWiring}
use Rattle.dbp_rules.proofs.WiringParts.{wired_is, wired_tasks}
use Rattle.instance_steps.specs.TaskPieces.{MayStep}
use Rattle.virtual_time.specs.Runs.{IsRun}
use Rattle.virtual_time.specs.State.{IsSimulatedTo, NoBatchBefore, instance, left_by, release_count}
use Rattle.virtual_time.specs.declared.run.Run.{Run}
use Rattle.virtual_time.proofs.Steps.{busy_count_one, busy_count_none, waits_from}
use Rattle.virtual_sim.specs.Simulations.{one_processor}
use Rattle.virtual_sim.proofs.FirstServed.{first_small, first_some, is_choice}

-- an instance of which something is left, and before which none goes that waits
module _ (p : Plan) (on : ℕ → ℕ) (serve : ℕ → ℕ → Option Instance) (b : ℕ) (now : ℕ → ℕ) (rest : List ℕ) (ends : List (List ℕ)) (at : IsSimulatedTo p on serve b now rest ends) (s : State)
    (ended : (j : ℕ) → j < length p.diagram.tasks → (task s j).part.ended ≡ length (get_or ends j [])) (aimed : (j : ℕ) → j < length p.diagram.tasks → (task_entry s j).aimed ≡ release_count p.batches b j) where
  -- the time that the steps look at is the release of the last released instance, if something is left of it
  own_release : (j : ℕ) → j < length p.diagram.tasks → 0 < get_or rest j 0 → own_time (wiring_of p Ranked) s j ≡ release_of p (instance j (release_count p.batches b j))
  own_release j jl some =
      let count = at.counts j jl in
      let one = busy_count_one (get_or rest j 0) some in
      let e = ended j jl in
      ap (λ (w : TaskWiring). get_or w.times ((task s j).part.ended + 1 - 1) 0) (wired_is p Ranked j jl)
      ∙ ap (λ (n : ℕ). get_or (times_of p.batches j) n 0) (let n : (task s j).part.ended + 1 - 1 ≡ release_count p.batches b j - 1 = omega (arith, count, one, e) in n)

  pub may_first : (i : ℕ) → i < length p.diagram.tasks → 0 < get_or rest i 0
      → ((y : Instance) → Waits p (left_by p on serve) (now (on y.task)) y → (y ≡ instance i (release_count p.batches b i)) ⊎ GoesBefore p (instance i (release_count p.batches b i)) y) → MayStep (wiring_of p Ranked) s i
  may_first i il own first ranked q ql higher unfinished =
      let qn : q < length p.diagram.tasks = let n = wired_tasks p Ranked in omega (arith, ql, n) in
      let ranks : get_or p.diagram.ranks q 0 < get_or p.diagram.ranks i 0 =
      let a = ap (λ (w : TaskWiring). w.rank) (wired_is p Ranked q qn) in let b = ap (λ (w : TaskWiring). w.rank) (wired_is p Ranked i il) in omega (arith, a, b, higher) in
      let some : 0 < get_or rest q 0 = ⊎_elim
      (λ (z : get_or rest q 0 ≡ 0).
      let none = busy_count_none (get_or rest q 0) z in let count = at.counts q qn in let e = ended q qn in let a = aimed q qn in absurd (omega (arith, none, count, e, a, unfinished)))
      (λ (nz : get_or rest q 0 ≡ 0 → ⊥). omega (arith, nz))
      (cases_eq (get_or rest q 0) 0) in
      let x : Instance = instance i (release_count p.batches b i) in
      let y : Instance = instance q (release_count p.batches b q) in
      let waits = waits_from p on serve b now rest ends at q qn some in
      let earlier : release_of p x < release_of p y = ⊎_elim
      (λ (same : y ≡ x). let e = ap (λ (z : Instance). get_or p.diagram.ranks z.task 0) same in absurd (omega (arith, e, ranks)))
      (λ (before : GoesBefore p x y). released_earlier p i q il qn ranks (release_of p x) (release_of p y) before)
      (first y waits) in
      let a = own_release i il own in
      let c = own_release q qn some in
      omega (arith, earlier, a, c)

-- the queue's first instance is one
module _ (p : Plan) (r : Run) (run : IsRun p (one_processor p r.time) r) (s : State) (ended : (j : ℕ) → j < length p.diagram.tasks → (task s j).part.ended ≡ length (get_or r.ends j []))
    (aimed : (j : ℕ) → j < length p.diagram.tasks → (task_entry s j).aimed ≡ release_count p.batches r.released j) where
  pub may_step : (i limit : ℕ) → IsServedFirst r.ready i → NoBatchBefore p r.released limit → r.time < limit → MayStep (wiring_of p Ranked) s i
  may_step i limit first until lt =
      may_first p (λ k. 0) (λ c. service p) r.released (λ c. r.time) r.rest.items r.ends run.at s ended aimed i (first_small p r run i first) (first_some p r run i first)
      (λ y w. (is_choice p r run i first limit until lt).1 y w)
