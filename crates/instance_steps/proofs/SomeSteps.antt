-- There is a recorder before the first step, and one after each step that is allowed.
use Rattle.std.proofs.Common.{◌≡◌, ℕ, suc, zero, ◌+◌, ◌<◌, ◌≤◌, List, [], ◌∷◌, ◌++◌, map, None, Ok, refl, ◌∙◌, subst, arith}
use Rattle.std.specs.Option.{option_map}
use Rattle.std.proofs.Math.Logic.{∥∥₁_elim}
use denote.RawPtr.{null_ptr}
use Rattle.dbp_plan.specs.declared.plan.Plan.{Plan}
use Rattle.dbp_plan.specs.declared.table.Table.{Table}
use Rattle.sync_meaning.specs.FirstRows.{first_rows}
use Rattle.dbp_rules.specs.Listing.{without_releases}
use Rattle.dbp_rules.specs.Rules.{IsStep, hears, next}
use Rattle.dbp_rules.specs.Start.{start_of}
use Rattle.dbp_rules.specs.Wired.{wiring_of}
use Rattle.dbp_rules.specs.declared.step.Count.{Count}
use Rattle.dbp_rules.specs.declared.step.Step.{Step}
use Rattle.dbp_rules.proofs.SoundKept.{asked_sound}
use Rattle.dbp_rules.proofs.SoundStart.{first_sound}
use Rattle.dbp_rules.proofs.StartShape.{start_shape}
use Rattle.dbp_rules.proofs.StateKept.{asked_kept}
use Rattle.dbp_rules.proofs.Wirings.{wiring-whole}
use Rattle.dbp_rules.proofs.WiringParts.{wired_tasks}
use Rattle.dbp_core.specs.declared.stepper.Stepper.{Stepper}
use Rattle.instance_steps.specs.EndedRows.{HasEndedRows}
use Rattle.instance_steps.specs.Plays.{Moves}
use Rattle.instance_steps.specs.Recorders.{AddsStep, plan_in, record_in, state_in, table_in, wiring_in}
use Rattle.instance_steps.specs.declared.recorder.Recorder.{Recorder}
use Rattle.instance_steps.proofs.RowsKept.{ended_rows_start}

-- ---- a step

pub some_step : (a : Recorder) (e : Step) → Moves (plan_in a) (wiring_in a) (state_in a) e → (b : Recorder) × AddsStep a b e × (table_in b ≡ table_in a)
some_step a e moves =
    let is : IsStep (plan_in a) (wiring_in a) (state_in a) e (Ok (hears (wiring_in a) (state_in a) e)) (next (plan_in a) (wiring_in a) (state_in a) e) = rw moves.allowed (refl, refl) in
    let core : Stepper = record {
      plan = a.core.plan;
      wiring = a.core.wiring;
      state = next (plan_in a) (wiring_in a) (state_in a) e;
      wired = a.core.wired;
      shape = asked_kept (plan_in a) (wiring_in a) (state_in a) (next (plan_in a) (wiring_in a) (state_in a) e) e (Ok (hears (wiring_in a) (state_in a) e)) a.core.shape moves.named is;
      sound = ∥∥₁_elim a.core.sound (hlevel) (λ sound. ∣ asked_sound (plan_in a) (wiring_in a) (state_in a) (next (plan_in a) (wiring_in a) (state_in a) e) e (Ok (hears (wiring_in a) (state_in a) e)) a.core.wired sound moves.named is ∣₁);
    } in (
      record { core = core; steps = option_map (λ (kept : List Step). kept ++ e ∷ []) a.steps; table = a.table },
      record { plan = refl; wiring = refl; state = refl; steps = refl },
      refl,
    )

-- ---- the start

-- it keeps no steps
pub record StandsAtStart (p : Plan) (count : Count) (a : Recorder) : Type 0 where
  pub plan : plan_in a ≡ p
  pub wiring : wiring_in a ≡ wiring_of p count
  pub state : state_in a ≡ start_of p (wiring_of p count)
  pub steps : record_in a ≡ None
  pub rows : HasEndedRows p (state_in a) (table_in a)

pub some_start : (p : Plan) (count : Count) → (a : Recorder) × StandsAtStart p count a
some_start p count =
    let table : Table = record { tasks = map first_rows p.diagram.tasks } in
    let core : Stepper = record {
      plan = record { ptr = null_ptr; value = p };
      wiring = without_releases (wiring_of p count);
      state = start_of p (wiring_of p count);
      wired = refl;
      shape = start_shape p (wiring_of p count) (wiring-whole p count);
      sound = ∣ first_sound p count ∣₁;
    } in (
      record { core = core; steps = None; table = table },
      record {
        plan = refl;
        wiring = refl;
        state = refl;
        steps = refl;
        rows = ended_rows_start p (wiring_of p count) table (wired_tasks p count) refl;
      },
    )

-- ---- a loop

-- if there is always a next recorder, up to the end, there is one for each number of rounds
pub some_rounds : (P : Recorder → ℕ → Type 0) (a : Recorder) (end : ℕ) → P a 0
    → ((b : Recorder) (n : ℕ) → n < end → P b n → (c : Recorder) × P c (n + 1) × (table_in c ≡ table_in b))
    → (n : ℕ) → n ≤ end → (b : Recorder) × P b n × (table_in b ≡ table_in a)
some_rounds P a end first round zero within = (a, first, refl)
some_rounds P a end first round (suc n) within =
    let (b, so_far, same) = some_rounds P a end first round n (omega (arith, within)) in
    let (c, more, also) = round b n (omega (arith, within)) so_far in
    let one : n + 1 ≡ suc n = omega arith in
    (c, subst (λ (k : ℕ). P c k) one more, also ∙ same)
