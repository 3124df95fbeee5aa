-- What stays sound if one task's records, or one link's, are replaced.
use Rattle.std.proofs.Common.{◌≡◌, ◌≢◌, ℕ, ℤ, ◌+◌, ◌<◌, ◌≤◌, List, length, set, refl, sym, ◌∙◌, arith, inl, inr, get_or-set_other, get_or-set_same}
use Rattle.std.proofs.lemmas.Bool.{cases_eq}
use Rattle.dbp_plan.specs.declared.plan.Plan.{Plan}
use Rattle.release_list.specs.Schedule.{claims, opens}
use Rattle.dbp_rules.specs.Moves.{claim_order}
use Rattle.dbp_rules.specs.Lookups.{link, link_entry, no_link_entry, no_order, no_task, no_task_entry, order, task, task_entry}
use Rattle.dbp_rules.specs.Rules.{with_entry, with_task}
use Rattle.dbp_rules.specs.Shapes.{IsShape}
use Rattle.dbp_rules.specs.Sound.{Sound}
use Rattle.dbp_rules.specs.SoundParts.{ClaimSound, LinkSound, TaskSound}
use Rattle.dbp_rules.specs.declared.parts.LinkEntry.{LinkEntry}
use Rattle.dbp_rules.specs.declared.parts.TaskEntry.{TaskEntry}
use Rattle.dbp_rules.specs.declared.state.State.{State}
use Rattle.dbp_rules.specs.declared.state.TaskState.{TaskState}
use Rattle.dbp_rules.specs.declared.wiring.Wiring.{Wiring}
use Rattle.dbp_rules.proofs.SoundOwn.{IsOwn}

-- the new state has these records at the task's place, and all others as they were
pub record Changed (s new : State) (i : ℕ) (e : TaskEntry) (t : TaskState) : Type 0 where
  pub entry : task_entry new i ≡ e
  pub entries : (j : ℕ) → j ≢ i → task_entry new j ≡ task_entry s j
  pub own : task new i ≡ t
  pub others : (j : ℕ) → j ≢ i → task new j ≡ task s j
  pub claims : (k : ℕ) → link_entry new k ≡ link_entry s k
  pub orders : (k : ℕ) → order new k ≡ order s k

pub changed_task : (s : State) (i : ℕ) (t : TaskState) → i < length s.tasks → Changed s (with_task s i t) i (task_entry s i) t
changed_task s i t below = record {
  entry = refl;
  entries = λ j other. refl;
  own = get_or-set_same s.tasks i t no_task below;
  others = λ j other. get_or-set_other s.tasks i j t no_task other;
  claims = λ k. refl;
  orders = λ k. refl;
}

pub changed_entry : (s : State) (i : ℕ) (e : TaskEntry) → i < length s.releaser.tasks → Changed s (with_entry s i e) i e (task s i)
changed_entry s i e below = record {
  entry = get_or-set_same s.releaser.tasks i e no_task_entry below;
  entries = λ j other. get_or-set_other s.releaser.tasks i j e no_task_entry other;
  own = refl;
  others = λ j other. refl;
  claims = λ k. refl;
  orders = λ k. refl;
}

pub changed_both : (s : State) (i : ℕ) (e : TaskEntry) (t : TaskState) → i < length s.releaser.tasks → i < length s.tasks → Changed s (with_task (with_entry s i e) i t) i e t
changed_both s i e t below inside = record {
  entry = get_or-set_same s.releaser.tasks i e no_task_entry below;
  entries = λ j other. get_or-set_other s.releaser.tasks i j e no_task_entry other;
  own = get_or-set_same s.tasks i t no_task inside;
  others = λ j other. get_or-set_other s.tasks i j t no_task other;
  claims = λ k. refl;
  orders = λ k. refl;
}

module _ (p : Plan) (w : Wiring) (rows : ℕ → ℕ → List ℤ) (s : State) (own : IsOwn p w) (sound : Sound p w rows s) where
  pub task_frame : (new : State) (i : ℕ) (e : TaskEntry) (t : TaskState) → IsShape p w new → new.releaser.place ≤ length w.releases → Changed s new i e t
      → t.words.gate ≡ opens w.releases new.releaser.place i
      → ((j : ℕ) → j ≢ i → opens w.releases new.releaser.place j ≡ opens w.releases s.releaser.place j)
      → ((k : ℕ) → claims w.releases new.releaser.place k ≡ claims w.releases s.releaser.place k)
      → TaskSound p w rows i e t
      → ((k : ℕ) → k < length w.links → (link w k).writer ≡ i → LinkSound p w k (link_entry s k) e t (task_entry s (link w k).reader) (task s (link w k).reader))
      → ((k : ℕ) → k < length w.links → (link w k).reader ≡ i → LinkSound p w k (link_entry s k) (task_entry s (link w k).writer) (task s (link w k).writer) e t)
      → Sound p w rows new
  task_frame new i e t shape at changed gate opened claimed ok writes reads = record {
    shape = shape;
    place = at;
    gates = λ j below. elim (cases_eq j i) [
      | inl same ↦ rw (same, changed.own) gate
      | inr other ↦ rw (changed.others j other, opened j other) (sound.gates j below)
    ];
    claims = λ k below. rw (changed.claims k, changed.orders k) (record { instance = (sound.claims k below).instance ∙ sym (claimed k); number = (sound.claims k below).number; order = (sound.claims k below).order });
    tasks = λ j below. elim (cases_eq j i) [
      | inl same ↦ rw (same, changed.own, changed.entry) ok
      | inr other ↦ rw (changed.others j other, changed.entries j other) (sound.tasks j below)
    ];
    links = λ k below. elim (cases_eq (link w k).writer i) [
      | inl is ↦
          let apart : (link w k).reader ≢ i = λ also. own.apart k below (is ∙ sym also) in
          rw (changed.claims k, changed.others (link w k).reader apart, changed.entries (link w k).reader apart) (
          let first : task new (link w k).writer ≡ t = rw is changed.own in
          let second : task_entry new (link w k).writer ≡ e = rw is changed.entry in
          rw (first, second) (writes k below is))
      | inr isnt ↦ rw (changed.claims k, changed.others (link w k).writer isnt, changed.entries (link w k).writer isnt) (elim (cases_eq (link w k).reader i) [
        | inl is ↦
            let first : task new (link w k).reader ≡ t = rw is changed.own in
            let second : task_entry new (link w k).reader ≡ e = rw is changed.entry in
            rw (first, second) (reads k below is)
        | inr nor ↦ rw (changed.others (link w k).reader nor, changed.entries (link w k).reader nor) (sound.links k below)
      ])
    ];
  }

  -- a step that changes the task's own records alone
  pub task_step : (i : ℕ) (t : TaskState) → i < length w.tasks → IsShape p w (with_task s i t) → t.words.gate ≡ (task s i).words.gate → TaskSound p w rows i (task_entry s i) t
      → ((k : ℕ) → k < length w.links → (link w k).writer ≡ i → LinkSound p w k (link_entry s k) (task_entry s i) (task s i) (task_entry s (link w k).reader) (task s (link w k).reader) → LinkSound p w k (link_entry s k) (task_entry s i) t (task_entry s (link w k).reader) (task s (link w k).reader))
      → ((k : ℕ) → k < length w.links → (link w k).reader ≡ i → LinkSound p w k (link_entry s k) (task_entry s (link w k).writer) (task s (link w k).writer) (task_entry s i) (task s i) → LinkSound p w k (link_entry s k) (task_entry s (link w k).writer) (task s (link w k).writer) (task_entry s i) t)
      → Sound p w rows (with_task s i t)
  task_step i t below shape gate ok writes reads =
      let inside : i < length s.tasks = rw sound.shape.tasks below in
      task_frame (with_task s i t) i (task_entry s i) t shape sound.place (changed_task s i t inside) (gate ∙ sound.gates i below) (λ j other. refl) (λ k. refl) ok
      (λ k fits is. writes k fits is (rw is at (sound.links k fits)))
      (λ k fits is. reads k fits is (rw is at (sound.links k fits)))

  -- a claim
  pub claim_frame : (new : State) (k : ℕ) (c : LinkEntry) → IsShape p w new → k < length w.links → s.releaser.place < length w.releases → new.releaser.place ≡ s.releaser.place + 1
      → new.releaser.tasks ≡ s.releaser.tasks → new.tasks ≡ s.tasks → new.releaser.links ≡ set s.releaser.links k c → new.orders ≡ set s.orders k (claim_order c)
      → ((j : ℕ) → opens w.releases (s.releaser.place + 1) j ≡ opens w.releases s.releaser.place j)
      → ClaimSound p w (s.releaser.place + 1) k c (claim_order c)
      → ((j : ℕ) → j ≢ k → claims w.releases (s.releaser.place + 1) j ≡ claims w.releases s.releaser.place j)
      → LinkSound p w k c (task_entry s (link w k).writer) (task s (link w k).writer) (task_entry s (link w k).reader) (task s (link w k).reader)
      → Sound p w rows new
  claim_frame new k c shape below more place entries tasks links orders opened claimed others ok =
      let inside : k < length s.releaser.links = rw sound.shape.claims below in
      let within : k < length s.orders = rw sound.shape.orders below in
      let task_is : (j : ℕ) → task new j ≡ task s j = λ j. rw tasks refl in
      let entry_is : (j : ℕ) → task_entry new j ≡ task_entry s j = λ j. rw entries refl in
      let link_same : link_entry new k ≡ c = rw links (get_or-set_same s.releaser.links k c no_link_entry inside) in
      let link_other : (j : ℕ) → j ≢ k → link_entry new j ≡ link_entry s j = λ j other. rw links (get_or-set_other s.releaser.links k j c no_link_entry other) in
      let order_same : order new k ≡ claim_order c = rw orders (get_or-set_same s.orders k (claim_order c) no_order within) in
      let order_other : (j : ℕ) → j ≢ k → order new j ≡ order s j = λ j other. rw orders (get_or-set_other s.orders k j (claim_order c) no_order other) in
      record {
        shape = shape;
        place = omega (arith, more, place);
        gates = λ j fits. rw (task_is j, place) (sound.gates j fits ∙ sym (opened j));
        claims = λ j fits. elim (cases_eq j k) [
          | inl same ↦ rw (same, link_same, order_same, place) claimed
          | inr other ↦ rw (link_other j other, order_other j other, place) (record { instance = (sound.claims j fits).instance ∙ sym (others j other); number = (sound.claims j fits).number; order = (sound.claims j fits).order })
        ];
        tasks = λ j fits. rw (task_is j, entry_is j) (sound.tasks j fits);
        links = λ j fits. rw (task_is (link w j).writer, task_is (link w j).reader, entry_is (link w j).writer, entry_is (link w j).reader) (elim (cases_eq j k) [
          | inl same ↦ rw (same, link_same) ok
          | inr other ↦ rw (link_other j other) (sound.links j fits)
        ]);
      }
