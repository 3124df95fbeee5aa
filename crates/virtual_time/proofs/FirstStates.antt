-- The states of the tasks before the first step: nothing is aimed, no gate is open, none has ended, and all are idle.
use Rattle.std.proofs.Common.{◌≡◌, ℕ, zero, suc, List, [], ◌∷◌, map, get_or, refl}
use Rattle.dbp_rules.specs.Lookups.{no_task, no_task_entry}
use Rattle.dbp_rules.specs.Start.{start_entry}
use Rattle.dbp_rules.specs.declared.parts.Place.TheVariants.{Idle}
use Rattle.dbp_rules.specs.declared.state.TaskState.{TaskState}
use Rattle.dbp_rules.specs.declared.wiring.TaskWiring.{TaskWiring}

pub first_entry : (ts : List TaskWiring) (i : ℕ) → (get_or (map start_entry ts) i no_task_entry).aimed ≡ 0
first_entry [] i = refl
first_entry (t ∷ ts) zero = refl
first_entry (t ∷ ts) (suc i) = first_entry ts i

module _ (make : ℕ → TaskState) (gate : (k : ℕ) → (make k).words.gate ≡ 0) (ended : (k : ℕ) → (make k).part.ended ≡ 0) (idle : (k : ℕ) → (make k).part.place ≡ Idle) where
  pub first_gate : (ks : List ℕ) (i : ℕ) → (get_or (map make ks) i no_task).words.gate ≡ 0
  first_gate [] i = refl
  first_gate (k ∷ ks) zero = gate k
  first_gate (k ∷ ks) (suc i) = first_gate ks i

  pub first_ended : (ks : List ℕ) (i : ℕ) → (get_or (map make ks) i no_task).part.ended ≡ 0
  first_ended [] i = refl
  first_ended (k ∷ ks) zero = ended k
  first_ended (k ∷ ks) (suc i) = first_ended ks i

  pub first_place : (ks : List ℕ) (i : ℕ) → (get_or (map make ks) i no_task).part.place ≡ Idle
  first_place [] i = refl
  first_place (k ∷ ks) zero = idle k
  first_place (k ∷ ks) (suc i) = first_place ks i
