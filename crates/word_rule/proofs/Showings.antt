-- What a table that keeps the rule shows of each seat.
use Rattle.std.proofs.Common.{◌≡◌, ℕ, zero, suc, ◌<◌, List, [], ◌∷◌, length, Option, Some, None, refl, sym, ap, arith}
use mathlib.Core.Option.{some, some-ne-none}
use lib.ListN.{get_elem?}
use Rattle.dbp_plan.specs.declared.plan.Plan.{Plan}
use Rattle.dbp_rules.specs.Lookups.{task}
use Rattle.dbp_rules.specs.declared.parts.ReleaserPart.{ReleaserPart}
use Rattle.dbp_rules.specs.declared.parts.TaskPart.{TaskPart}
use Rattle.dbp_rules.specs.declared.state.State.{State}
use Rattle.word_rule.specs.Roles.{task_of}
use Rattle.word_rule.specs.Showing.{Keeps, ShowsRole, TableState}
use Rattle.word_rule.specs.declared.views.Role.{Role}
use Rattle.word_rule.specs.declared.views.Role.TheVariants.{Releaser, Task}
use Rattle.word_rule.specs.declared.views.View.{View}

pub seat_below : {A : Type 0} (l : List A) (i : ℕ) (a : A) → get_elem? l i ≡ some a → i < length l
seat_below [] i a e = absurd (some-ne-none a (sym e))
seat_below (x ∷ xs) zero a e = omega arith
seat_below (x ∷ xs) (suc i) a e = let h = seat_below xs i a e in omega arith

-- the seat of a party
abbrev pub seat_of : Option ℕ → ℕ
seat_of None = 0
seat_of (Some i) = suc i

module _ (split : ℕ) (s : State) where
  pub releaser_at : (id : ℕ) (r : ReleaserPart) (seats : ℕ) → ShowsRole split s id (Releaser r seats) → (id ≡ 0) × (r ≡ s.releaser) × (seats ≡ split)
  releaser_at zero r seats h = (refl, h.0, h.1)
  releaser_at (suc j) r seats h = elim h [ ]

  pub task_at : (id i : ℕ) (t : TaskPart) → ShowsRole split s id (Task i t) → (id ≡ suc i) × (t ≡ (task s i).part)
  task_at zero i t h = elim h [ ]
  task_at (suc j) i t h = (ap suc (sym h.0), h.1)

  pub seat_is : (id : ℕ) (role : Role) → ShowsRole split s id role → id ≡ seat_of (task_of role)
  seat_is zero (Releaser r seats) h = refl
  seat_is (suc j) (Releaser r seats) h = elim h [ ]
  seat_is zero (Task i t) h = elim h [ ]
  seat_is (suc j) (Task i t) h = ap suc (sym h.0)

-- the task of a seat is one of those whose seats were split off
pub task_split : (p : Plan) (t : TableState) (h : Keeps p t) (id : ℕ) (v : View) (i : ℕ) → get_elem? t.views id ≡ some v → id ≡ suc i → i < h.split
task_split p t h id v i there is = let below = seat_below t.views id v there in let seats = h.shows.seats in omega arith

-- and is one of the diagram's
pub task_named : (p : Plan) (t : TableState) (h : Keeps p t) (id : ℕ) (v : View) (i : ℕ) → get_elem? t.views id ≡ some v → id ≡ suc i → i < length p.diagram.tasks
task_named p t h id v i there is = let below = task_split p t h id v i there is in let few = h.shows.few in omega arith
