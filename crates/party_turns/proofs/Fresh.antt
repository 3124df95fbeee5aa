-- Parties before the first step.
use Rattle.std.proofs.Common.{◌≡◌, ⊎_elim, ℕ, zero, suc, ℤ, pos, ◌+◌, ◌*◌, ◌<◌, List, [], ◌∷◌, ◌++◌, length, slice_get, Some, None, refl, sym, ◌∙◌, ap, subst, arith, length-append}
use Rattle.std.specs.Prelude.{replicate}
use Rattle.std.proofs.lemmas.List.{length-map, length-replicate}
use Rattle.std.proofs.lemmas.List.FromFn.{get_or-map-range_with_len}
use Rattle.std.proofs.lemmas.Option.{same_Some}
use Rattle.dbp_plan.specs.declared.plan.Plan.{Plan}
use Rattle.dbp_plan.specs.declared.table.TaskRows.{TaskRows}
use Rattle.dbp_plan.specs.Lookups.{declared_task}
use Rattle.dbp_plan.specs.Occurrences.{times_of}
use Rattle.dbp_plan.specs.Ranges.{range_after, range_front}
use Rattle.dbp_plan.specs.Table.{row_at}
use Rattle.dbp_rules.specs.Lookups.{no_task, no_task_wiring, task, wired_task}
use Rattle.dbp_rules.specs.Sound.{Sound}
use Rattle.dbp_rules.specs.Start.{first_part, first_row, start_of, start_task}
use Rattle.dbp_rules.specs.Work.{WorkWords}
use Rattle.dbp_rules.specs.declared.parts.TaskPart.{TaskPart}
use Rattle.dbp_rules.specs.declared.state.TaskState.{TaskState}
use Rattle.dbp_rules.specs.declared.step.Count.TheVariants.{All}
use Rattle.dbp_rules.specs.declared.wiring.TaskWiring.{TaskWiring}
use Rattle.dbp_rules.specs.declared.wiring.Wiring.{Wiring}
use Rattle.dbp_rules.proofs.SoundStart.{first_sound}
use Rattle.word_rule.specs.FirstSeats.{AreFirstTasks, IsFirstTask}
use Rattle.word_rule.specs.Roles.{meaning_row, run_wiring}
use Rattle.word_rule.specs.Seats.{TaskSits}
use Rattle.word_rule.specs.declared.seats.SlotWords.{SlotWords}
use Rattle.word_rule.specs.declared.seats.TaskSeat.{TaskSeat}
use Rattle.word_rule.proofs.Begins.{get_push}
use Rattle.word_rule.proofs.TaskCalls.{in_wiring, task_wired, wired_is}
use Rattle.party_turns.specs.Computed.{HasComputed, HasMeantRows, HasMeantValues, plan_of_task}
use Rattle.party_turns.specs.Parties.{IsFresh, IsFreshReleaser}
use Rattle.party_turns.specs.Rows.{first_and_zeros}
use Rattle.party_turns.specs.declared.party.Party.{Party}
use Rattle.party_turns.specs.declared.party.Party.TheVariants.{Releaser}
use Rattle.party_turns.specs.declared.releaser_party.ReleaserParty.{ReleaserParty}

-- what a task has computed before its first step: its states have their first values, and its row the first values
module _ (p : Plan) (i : ℕ) (below : i < length (run_wiring p).tasks) where
  sound : Sound p (run_wiring p) (meaning_row p) (start_of p (run_wiring p))
  sound = first_sound p All

  starts : task (start_of p (run_wiring p)) i ≡ start_task (wired_task (run_wiring p) i) (declared_task p i)
  starts = get_or-map-range_with_len (λ (j : ℕ). start_task (wired_task (run_wiring p) j) (declared_task p j)) 0 (length (run_wiring p).tasks) i i no_task below (omega arith)

  in_state : HasMeantValues p i (task (start_of p (run_wiring p)) i).part (task (start_of p (run_wiring p)) i).work
  in_state =
      let task_sound = sound.tasks i below in
      let shape = sound.shape.each_task i below in
      record { now = shape.now; next = shape.later; states = task_sound.states; taken = task_sound.taken; later = task_sound.later; row = task_sound.row }

  first_words : HasMeantValues p i first_part (start_task no_task_wiring (declared_task p i)).work
  first_words = subst (λ (t : TaskState). HasMeantValues p i t.part t.work) starts in_state

  first_rows : HasMeantRows p i 0 (first_and_zeros (declared_task p i) (length (times_of p.batches i)))
  first_rows =
      let outs : ℕ = length (declared_task p i).outs in
      let zeros : List ℤ = replicate (length (times_of p.batches i) * outs) (pos 0) in
      let size : length (first_row (declared_task p i)) ≡ outs = length-map (declared_task p i).outs (λ o. o.first) in
      record {
        room = record {
          ports = refl;
          size = length-append (first_row (declared_task p i)) (replicate (length (times_of p.batches i) * length (declared_task p i).outs) (pos 0)) ∙ omega (arith, size, length-replicate (length (times_of p.batches i) * length (declared_task p i).outs) (pos 0));
        };
        each = λ n few.
            let none : n ≡ 0 = omega arith in
            ap (λ (m : ℕ). row_at (first_and_zeros (declared_task p i) (length (times_of p.batches i))) m) none
            ∙ range_front (first_row (declared_task p i)) zeros (0 * outs) ((0 + 1) * outs) (omega arith) (omega (arith, size))
            ∙ range_after [] (first_row (declared_task p i)) (0 * outs) ((0 + 1) * outs) (omega arith) (omega (arith, size))
            ∙ first_words.row
            ∙ ap (meaning_row p i) (sym none);
      }

  pub first_computed : HasComputed p i first_part (start_task no_task_wiring (declared_task p i)).work (first_and_zeros (declared_task p i) (length (times_of p.batches i)))
  first_computed = record { words = first_words; rows = first_rows }

-- how many occurrences the seat's task has
pub time_count : (w : SlotWords) (s : TaskSeat) → TaskSits w s → length (wired_task w.wiring s.task).times ≡ length (times_of w.plan.batches s.task)
time_count w s here =
    ap (λ (x : TaskWiring). length x.times) (sym (wired_is w s here)) ∙ ap (λ (xs : List ℕ). length xs) (task_wired w s here).times ∙ ap (λ (x : Plan). length (times_of x.batches s.task)) here.1

-- a fresh task's party has computed what its type says
pub first_has : (w : SlotWords) (s : TaskSeat) (work : WorkWords) (rows : TaskRows) → IsFirstTask w s.task s → work ≡ (start_task no_task_wiring (declared_task w.plan s.task)).work
    → rows ≡ first_and_zeros (declared_task w.plan s.task) (length (times_of w.plan.batches s.task)) → HasComputed (plan_of_task s) s.task s.part work rows
first_has w s work rows first is_work is_rows =
    let below : s.task < length (run_wiring w.plan).tasks = omega (arith, in_wiring w s first.here, ap (λ (x : Wiring). length x.tasks) w.wired) in
    subst (λ (x : Plan × TaskPart × WorkWords × TaskRows). HasComputed x.0 s.task x.1 x.2 x.3) (λ j. (sym first.here.1 j, sym first.part j, sym is_work j, sym is_rows j)) (first_computed w.plan s.task below)

-- the releaser's party, pushed to none
pub pushed_first : (ps qs : List Party) (p : ReleaserParty) → ps ≡ qs ++ Releaser p ∷ [] → qs ≡ [] → ps ≡ Releaser p ∷ []
pushed_first ps qs p is none = is ∙ ap (λ (l : List Party). l ++ Releaser p ∷ []) none

pub fresh_first : (w : SlotWords) (ps : List Party) (p : ReleaserParty) → ps ≡ Releaser p ∷ [] → IsFreshReleaser w p → (k : ℕ) (q : Party) → slice_get ps k ≡ Some q → IsFresh w k q
fresh_first w ps p is first zero q at = subst (IsFresh w 0) (same_Some (Releaser p) q (ap (λ (l : List Party). slice_get l 0) (sym is) ∙ at)) first
fresh_first w ps p is first (suc k) q at = let none : None ≡ Some q = ap (λ (l : List Party). slice_get l (suc k)) (sym is) ∙ at in absurd (cc)

-- one party more
pub fresh_push : (w : SlotWords) (ps : List Party) (p : Party) → ((k : ℕ) (q : Party) → slice_get ps k ≡ Some q → IsFresh w k q) → IsFresh w (length ps) p
    → (k : ℕ) (q : Party) → slice_get (ps ++ p ∷ []) k ≡ Some q → IsFresh w k q
fresh_push w ps p each last k q at = ⊎_elim
    (λ (was : slice_get ps k ≡ Some q). each k q was)
    (λ (here : (k ≡ length ps) × (p ≡ q)). subst (λ (y : ℕ × Party). IsFresh w y.0 y.1) (λ j. (sym here.0 j, here.1 j)) last)
    (get_push ps p q k at)

-- the seats of tasks that have no party yet, from task n's on
pub record AreLeft (w : SlotWords) (n : ℕ) (xs : List TaskSeat) : Type 0 where
  pub each : (k : ℕ) (s : TaskSeat) → slice_get xs k ≡ Some s → IsFirstTask w (n + k) s

pub left_next : (w : SlotWords) (n m : ℕ) (xs ys : List TaskSeat) (x : TaskSeat) → xs ≡ x ∷ ys → m ≡ n + 1 → AreLeft w n xs → IsFirstTask w n x × AreLeft w m ys
left_next w n m xs ys x e more h =
    let all : AreLeft w n (x ∷ ys) = subst (AreLeft w n) e h in
    let none : n + 0 ≡ n = omega arith in (
      subst (λ (k : ℕ). IsFirstTask w k x) none (all.each 0 x refl),
      record { each = λ k s at. let there : n + suc k ≡ m + k = omega arith in subst (λ (j : ℕ). IsFirstTask w j s) there (all.each (suc k) s at) },
    )

pub all_left : (w : SlotWords) (xs ys : List TaskSeat) → AreFirstTasks w xs → ys ≡ xs → AreLeft w 0 ys
all_left w xs ys h same = record {
  each = λ k s at. let here : k ≡ 0 + k = omega arith in subst (λ (n : ℕ). IsFirstTask w n s) here (h.each k s (ap (λ (l : List TaskSeat). slice_get l k) (sym same) ∙ at));
}
