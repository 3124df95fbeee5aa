-- What stays whole if one record of a state is replaced.
use Rattle.std.proofs.Common.{◌≡◌, ◌≢◌, ℕ, ◌+◌, ◌<◌, List, length, get_or, set, sym, ◌∙◌, inl, inr, get_or-set_other, get_or-set_same}
use Rattle.std.proofs.lemmas.List.{length-set}
use Rattle.std.proofs.lemmas.Bool.{cases_eq}
use Rattle.dbp_plan.specs.declared.plan.Plan.{Plan}
use Rattle.dbp_plan.specs.Lookups.{declared_task}
use Rattle.release_list.specs.Schedule.{aims}
use Rattle.dbp_rules.specs.Moves.{claim_order}
use Rattle.dbp_rules.specs.Lookups.{no_link_entry, no_order, no_task, no_task_entry, task, task_entry, wired_task}
use Rattle.dbp_rules.specs.Rules.{further, with_claim, with_entry, with_task}
use Rattle.dbp_rules.specs.Shapes.{EntryShape, IsShape, LinkShape, TaskShape}
use Rattle.dbp_rules.specs.declared.parts.LinkEntry.{LinkEntry}
use Rattle.dbp_rules.specs.declared.parts.TaskEntry.{TaskEntry}
use Rattle.dbp_rules.specs.declared.state.State.{State}
use Rattle.dbp_rules.specs.declared.state.TaskState.{TaskState}
use Rattle.dbp_rules.specs.declared.wiring.Wiring.{Wiring}

-- a fact of each item, after one is replaced
pub after_set : {X : Type 0} (Q : ℕ → X → Type 0) (xs : List X) (i : ℕ) (x d : X) → i < length xs → Q i x → ((j : ℕ) → j ≢ i → Q j (get_or xs j d)) → (j : ℕ) → Q j (get_or (set xs i x) j d)
after_set Q xs i x d below here there j = elim (cases_eq j i) [
  | inl same ↦ rw (same, get_or-set_same) here
  | inr other ↦ rw get_or-set_other (there j other)
]

pub task_changes : (p : Plan) (w : Wiring) (s : State) (i : ℕ) (t : TaskState) → IsShape p w s → i < length w.tasks → TaskShape w (declared_task p i) i (task_entry s i).aimed t → IsShape p w (with_task s i t)
task_changes p w s i t shape below ok = record {
  wiring = shape.wiring;
  entries = shape.entries;
  claims = shape.claims;
  tasks = length-set s.tasks i t ∙ shape.tasks;
  orders = shape.orders;
  aimed = shape.aimed;
  each_entry = shape.each_entry;
  each_task = after_set (λ j u. j < length w.tasks → TaskShape w (declared_task p j) j (task_entry s j).aimed u) s.tasks i t no_task (rw shape.tasks below) (λ _. ok) (λ j other fits. shape.each_task j fits);
  each_link = shape.each_link;
}

-- an entry that was aimed no further
pub entry_changes : (p : Plan) (w : Wiring) (s : State) (i : ℕ) (e : TaskEntry) → IsShape p w s → i < length w.tasks → e.aimed ≡ (task_entry s i).aimed → EntryShape (wired_task w i) e → IsShape p w (with_entry s i e)
entry_changes p w s i e shape below same ok =
    let inside : i < length s.releaser.tasks = rw shape.entries below in
    record {
      wiring = shape.wiring;
      entries = length-set s.releaser.tasks i e ∙ shape.entries;
      claims = shape.claims;
      tasks = shape.tasks;
      orders = shape.orders;
      aimed = after_set (λ j u. j < length w.tasks → u.aimed ≡ aims w.releases s.releaser.place j) s.releaser.tasks i e no_task_entry inside (λ fits. same ∙ shape.aimed i fits) (λ j other fits. shape.aimed j fits);
      each_entry = after_set (λ j u. j < length w.tasks → EntryShape (wired_task w j) u) s.releaser.tasks i e no_task_entry inside (λ _. ok) (λ j other fits. shape.each_entry j fits);
      each_task = after_set (λ j u. j < length w.tasks → TaskShape w (declared_task p j) j u.aimed (task s j)) s.releaser.tasks i e no_task_entry inside (λ fits. rw same (shape.each_task i fits)) (λ j other fits. shape.each_task j fits);
      each_link = shape.each_link;
    }

-- an entry that was aimed once more, with its task
pub aim_changes : (p : Plan) (w : Wiring) (s : State) (i : ℕ) (e : TaskEntry) (t : TaskState) → IsShape p w s → i < length w.tasks
    → e.aimed ≡ aims w.releases (s.releaser.place + 1) i → ((j : ℕ) → j ≢ i → aims w.releases (s.releaser.place + 1) j ≡ aims w.releases s.releaser.place j)
    → EntryShape (wired_task w i) e → TaskShape w (declared_task p i) i e.aimed t → IsShape p w (further (with_task (with_entry s i e) i t))
aim_changes p w s i e t shape below counted others entry ok =
    let inside : i < length s.releaser.tasks = rw shape.entries below in
    let within : i < length s.tasks = rw shape.tasks below in
    record {
      wiring = shape.wiring;
      entries = length-set s.releaser.tasks i e ∙ shape.entries;
      claims = shape.claims;
      tasks = length-set s.tasks i t ∙ shape.tasks;
      orders = shape.orders;
      aimed = after_set (λ j u. j < length w.tasks → u.aimed ≡ aims w.releases (s.releaser.place + 1) j) s.releaser.tasks i e no_task_entry inside (λ _. counted) (λ j other fits. shape.aimed j fits ∙ sym (others j other));
      each_entry = after_set (λ j u. j < length w.tasks → EntryShape (wired_task w j) u) s.releaser.tasks i e no_task_entry inside (λ _. entry) (λ j other fits. shape.each_entry j fits);
      each_task = λ j. elim (cases_eq j i) [
        | inl same ↦ λ _. rw (same, get_or-set_same, get_or-set_same) ok
        | inr other ↦ λ fits. rw (get_or-set_other s.tasks i j t no_task other, get_or-set_other s.releaser.tasks i j e no_task_entry other) (shape.each_task j fits)
      ];
      each_link = shape.each_link;
    }

-- the releaser goes on, past an action that aims nothing
pub further_on : (p : Plan) (w : Wiring) (s : State) → IsShape p w s → ((j : ℕ) → aims w.releases (s.releaser.place + 1) j ≡ aims w.releases s.releaser.place j) → IsShape p w (further s)
further_on p w s shape same = record {
  wiring = shape.wiring;
  entries = shape.entries;
  claims = shape.claims;
  tasks = shape.tasks;
  orders = shape.orders;
  aimed = λ j fits. shape.aimed j fits ∙ sym (same j);
  each_entry = shape.each_entry;
  each_task = shape.each_task;
  each_link = shape.each_link;
}

pub claim_changes : (p : Plan) (w : Wiring) (s : State) (k : ℕ) (c : LinkEntry) → IsShape p w s → k < length w.links → LinkShape w k c (claim_order c) → IsShape p w (with_claim s k c)
claim_changes p w s k c shape below ok =
    let inside : k < length s.releaser.links = rw shape.claims below in
    let within : k < length s.orders = rw shape.orders below in
    record {
      wiring = shape.wiring;
      entries = shape.entries;
      claims = length-set s.releaser.links k c ∙ shape.claims;
      tasks = shape.tasks;
      orders = length-set s.orders k (claim_order c) ∙ shape.orders;
      aimed = shape.aimed;
      each_entry = shape.each_entry;
      each_task = shape.each_task;
      each_link = λ j. elim (cases_eq j k) [
        | inl same ↦ λ _. rw (same, get_or-set_same, get_or-set_same) ok
        | inr other ↦ λ fits. rw (get_or-set_other s.orders k j (claim_order c) no_order other, get_or-set_other s.releaser.links k j c no_link_entry other) (shape.each_link j fits)
      ];
    }
