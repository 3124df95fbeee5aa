-- The aims of a batch, task by task.
use Rattle.std.proofs.Common.{◌≡◌, ◌≢◌, ℕ, ◌+◌, ◌<◌, false, List, [], length, get_or, slice_get, take, Some, sym, ap, ◌∙◌, subst, arith, inl, inr}
use Rattle.std.specs.List.{flat_map}
use Rattle.std.proofs.lemmas.Bool.{cases_lt}
use Rattle.std.proofs.lemmas.List.{take_all}
use Rattle.dbp_plan.specs.declared.plan.Plan.{Plan}
use Rattle.dbp_plan.specs.Occurrences.{names, time_of, times_of}
use Rattle.release_list.specs.declared.release.Release.TheVariants as release
use Rattle.release_list.specs.Schedule.{aims}
use Rattle.release_list.proofs.BatchStarts.{aims_at_start}
use Rattle.dbp_rules.specs.Lookups.{task, task_entry}
use Rattle.dbp_rules.specs.Wired.{wiring_of}
use Rattle.dbp_rules.specs.declared.parts.TaskEntry.{TaskEntry}
use Rattle.dbp_rules.specs.declared.parts.TaskPart.{TaskPart}
use Rattle.dbp_rules.specs.declared.wiring.Wiring.{Wiring}
use Rattle.instance_steps.specs.Events.{Event, aim_events}
use Rattle.instance_steps.specs.Recorders.{count_in, plan_in, state_in, wiring_in}
use Rattle.instance_steps.specs.Releases.{AddsRelease, HasEnded, HasReleased, batch_at}
use Rattle.instance_steps.specs.declared.recorder.Recorder.{Recorder}
use Rattle.instance_steps.proofs.Adding.{wired_there}
use Rattle.instance_steps.proofs.BatchTasks.{aim_listed, batch_rises, batches_before, earlier_task, first_before, first_here, listed_more, names_task, task_named, unnamed_task}
use Rattle.instance_steps.proofs.ReleaserMoves.{release_as, release_none, release_on}

-- the tasks of the batch, and its time
abbrev pub tasks_of : Recorder → ℕ → List ℕ
tasks_of a number = (batch_at (plan_in a) number).tasks

abbrev pub time_at : Recorder → ℕ → ℕ
time_at a number = (batch_at (plan_in a) number).time

-- the first n tasks are aimed
abbrev pub HasAimed : Recorder → ℕ → Recorder → ℕ → Type 0
HasAimed a number b n = AddsRelease a b (flat_map (aim_events (plan_in a) (time_at a number)) (take n (tasks_of a number))) ((state_in a).releaser.place + n)

abbrev pub KeepsEntries : Recorder → ℕ → Recorder → ℕ → Type 0
KeepsEntries a number b n = (j : ℕ) → ((m : ℕ) → m < n → get_or (tasks_of a number) m 0 ≢ j) → task_entry (state_in b) j ≡ task_entry (state_in a) j

module _ (a : Recorder) (number : ℕ) (there : number < length (plan_in a).batches) (released : HasReleased (plan_in a) (state_in a) number) (ended : HasEnded (state_in a) (batch_at (plan_in a) number)) where
  pub aimed_none : HasAimed a number a 0
  aimed_none = release_as a a [] _ _ (omega arith) (release_none a)

  pub aimed_all : (b : Recorder) (n : ℕ) → n ≡ length (tasks_of a number) → HasAimed a number b n
      → AddsRelease a b (flat_map (aim_events (plan_in a) (time_at a number)) (tasks_of a number)) ((state_in a).releaser.place + length (tasks_of a number))
  aimed_all b n is adds =
      let whole : HasAimed a number b (length (tasks_of a number)) = subst (λ (k : ℕ). HasAimed a number b k) is adds in
      subst (λ (l : List ℕ). AddsRelease a b (flat_map (aim_events (plan_in a) (time_at a number)) l) ((state_in a).releaser.place + length (tasks_of a number))) (take_all (length (tasks_of a number)) (tasks_of a number) (omega arith)) whole

  pub entries_all : (b : Recorder) (n : ℕ) → n ≡ length (tasks_of a number) → KeepsEntries a number b n → (j : ℕ) → names j (batch_at (plan_in a) number) ≡ false → task_entry (state_in b) j ≡ task_entry (state_in a) j
  entries_all b n is keeps j not_ = keeps j (λ m less. unnamed_task (batch_at (plan_in a) number) j m not_ (omega (arith, less, is)))

  module _ (b : Recorder) (n : ℕ) (below : n < length (tasks_of a number)) (adds : HasAimed a number b n) (keeps : KeepsEntries a number b n) where
    abbrev pub i : ℕ
    i = get_or (tasks_of a number) n 0

    own_entry : task_entry (state_in b) (get_or (tasks_of a number) n 0) ≡ task_entry (state_in a) (get_or (tasks_of a number) n 0)
    own_entry = keeps (get_or (tasks_of a number) n 0) (λ m less. earlier_task (tasks_of a number) m n (batch_rises a number there) less below)

    pub next_aim : slice_get (wiring_in b).releases (state_in b).releaser.place ≡ Some (release.Aim (get_or (tasks_of a number) n 0))
    next_aim =
        ap (λ (w : Wiring). slice_get w.releases (state_in b).releaser.place) adds.steps.wiring
        ∙ ap (λ (k : ℕ). slice_get (wiring_in a).releases k) (adds.moves.place ∙ ap (λ (k : ℕ). k + n) released)
        ∙ aim_listed a number there n below

    pub next_ended : (task (state_in b) (get_or (tasks_of a number) n 0)).part.ended ≡ (task_entry (state_in b) (get_or (tasks_of a number) n 0)).aimed
    next_ended =
        ap (λ (t : TaskPart). t.ended) (adds.moves.parts (get_or (tasks_of a number) n 0))
        ∙ ended (get_or (tasks_of a number) n 0) (names_task (batch_at (plan_in a) number) n below)
        ∙ ap (λ (e : TaskEntry). e.aimed) (sym own_entry)

    -- as many instances are aimed as the batches before name the task
    aimed_before : (task_entry (state_in a) (get_or (tasks_of a number) n 0)).aimed ≡ length (times_of (take number (plan_in a).batches) (get_or (tasks_of a number) n 0))
    aimed_before =
        a.core.shape.aimed (get_or (tasks_of a number) n 0) (wired_there a (get_or (tasks_of a number) n 0) (task_named a number there n below))
        ∙ ap (λ (w : Wiring). aims w.releases (state_in a).releaser.place (get_or (tasks_of a number) n 0)) a.core.wired
        ∙ ap (λ (k : ℕ). aims (wiring_of (plan_in a) (count_in a)).releases k (get_or (tasks_of a number) n 0)) released
        ∙ aims_at_start (plan_in a).diagram.links (plan_in a).batches (plan_in a).rules.in_order number (get_or (tasks_of a number) n 0)

    pub next_first : time_of (plan_in b).batches (get_or (tasks_of a number) n 0) 1 ≡ time_at a number → (task_entry (state_in b) (get_or (tasks_of a number) n 0)).aimed ≡ 0
    next_first first = elim (cases_lt 0 (task_entry (state_in a) (get_or (tasks_of a number) n 0)).aimed) [
      | inr none ↦ omega (arith, none, ap (λ (e : TaskEntry). e.aimed) own_entry)
      | inl some ↦
          let early : time_of (plan_in a).batches (get_or (tasks_of a number) n 0) 1 < time_at a number =
          first_before (plan_in a).batches number (get_or (tasks_of a number) n 0) (time_at a number) (λ k less inside. batches_before a number there k less) (omega (arith, some, aimed_before)) in
          let same : time_of (plan_in b).batches (get_or (tasks_of a number) n 0) 1 ≡ time_of (plan_in a).batches (get_or (tasks_of a number) n 0) 1 = ap (λ (p : Plan). time_of p.batches (get_or (tasks_of a number) n 0) 1) adds.steps.plan in
          absurd (omega (arith, early, same, first))
    ]

    pub next_unaimed : (task_entry (state_in b) (get_or (tasks_of a number) n 0)).aimed ≡ 0 → time_of (plan_in b).batches (get_or (tasks_of a number) n 0) 1 ≡ time_at a number
    next_unaimed none =
        ap (λ (p : Plan). time_of p.batches (get_or (tasks_of a number) n 0) 1) adds.steps.plan
        ∙ first_here (plan_in a).batches number (get_or (tasks_of a number) n 0) there (names_task (batch_at (plan_in a) number) n below)
        (sym aimed_before ∙ ap (λ (e : TaskEntry). e.aimed) (sym own_entry) ∙ none)

    module _ (c : Recorder) (one : AddsRelease b c (aim_events (plan_in b) (time_at a number) (get_or (tasks_of a number) n 0)) ((state_in b).releaser.place + 1)) where
      pub aimed_more : HasAimed a number c (n + 1)
      aimed_more =
          let here : AddsRelease b c (aim_events (plan_in a) (time_at a number) (get_or (tasks_of a number) n 0)) ((state_in a).releaser.place + (n + 1)) =
          subst (λ (p : Plan). AddsRelease b c (aim_events p (time_at a number) (get_or (tasks_of a number) n 0)) ((state_in a).releaser.place + (n + 1))) adds.steps.plan
          (release_as b c _ _ _ (omega (arith, adds.moves.place)) one) in
          subst (λ (vs : List Event). AddsRelease a c vs ((state_in a).releaser.place + (n + 1))) (sym (listed_more (aim_events (plan_in a) (time_at a number)) (tasks_of a number) n below))
          (release_on a b c _ _ _ _ adds here)

      pub entries_more : ((j : ℕ) → j ≢ get_or (tasks_of a number) n 0 → task_entry (state_in c) j ≡ task_entry (state_in b) j) → KeepsEntries a number c (n + 1)
      entries_more others j apart = others j (λ same. apart n (omega arith) (sym same)) ∙ keeps j (λ m less. apart m (omega arith))
