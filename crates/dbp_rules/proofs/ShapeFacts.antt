-- What a state in shape says of a task.
use Rattle.std.proofs.Common.{◌≡◌, ℕ, zero, suc, ◌+◌, ◌<◌, ◌≤◌, length, subst, ap, ◌∙◌, arith}
use Rattle.dbp_plan.specs.declared.limits.TheConstants.{MAX_OCCURRENCES}
use Rattle.dbp_plan.specs.declared.plan.Plan.{Plan}
use Rattle.dbp_plan.specs.Lookups.{declared_task}
use Rattle.dbp_rules.specs.Moves as move
use Rattle.dbp_rules.specs.Lookups.{task, task_entry, wired_task}
use Rattle.dbp_rules.specs.Rules as rule
use Rattle.dbp_rules.specs.Shapes.{IsShape, IsTaskWired, OrderFits, PlaceIn, TaskShape, heard_by, link_in, slot_owner}
use Rattle.dbp_rules.specs.declared.parts.Place.{Place}
use Rattle.dbp_rules.specs.declared.state.State.{State}
use Rattle.dbp_rules.specs.declared.wiring.Wiring.{Wiring}

module _ (p : Plan) (w : Wiring) (s : State) (shape : IsShape p w s) where
  -- the place of a task, said otherwise, is one of its places
  pub place_in : (i : ℕ) (q : Place) → i < length w.tasks → (task s i).part.place ≡ q → PlaceIn (wired_task w i) q
  place_in i q below at = subst (λ (x : Place). PlaceIn (wired_task w i) x) at (shape.each_task i below).place

  -- what is ordered at a place of the hears fits
  pub word_ordered : (i n : ℕ) → i < length w.tasks → n ≤ length (wired_task w i).links → OrderFits (wired_task w (slot_owner w i n)) (rule.order_word w s i n)
  word_ordered i zero below few = (shape.each_task i below).aim
  word_ordered i (suc n) below few = (shape.each_link (link_in (wired_task w i) n) ((shape.wiring.each_task i below).into n (omega arith))).order

  -- a task is aimed no more often than it occurs
  pub aimed_few : (i : ℕ) → i < length w.tasks → (task_entry s i).aimed ≤ MAX_OCCURRENCES
  aimed_few i below =
      let t : IsTaskWired p w i (wired_task w i) = shape.wiring.each_task i below in
      omega (arith, shape.aimed i below, shape.wiring.releases.aims_times s.releaser.place i, t.few, ap length t.times)

  -- a task that has heard all its orders fills one of its slots
  pub own_fits : (i : ℕ) (q : Place) → i < length w.tasks → (task s i).part.place ≡ q → heard_by (1 + length (wired_task w i).links) q ≡ 1 + length (wired_task w i).links → move.own_slot (task s i).part < (wired_task w i).slots
  own_fits i q below at all =
      let ok : TaskShape w (declared_task p i) i (task_entry s i).aimed (task s i) = shape.each_task i below in
      let heard : length (task s i).part.heard.items ≡ 1 + length (wired_task w i).links = ok.heard ∙ ap (heard_by (1 + length (wired_task w i).links)) at ∙ all in
      (ok.each_heard 0 (omega (arith, heard))).0
