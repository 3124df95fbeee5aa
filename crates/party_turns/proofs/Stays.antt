-- Steps that leave all that a task has computed: its part is another one, and none of it is new there.
use Rattle.std.proofs.Common.{◌≡◌, ℕ, ◌+◌, length, refl, sym, ◌∙◌, ap, arith, inl, inr}
use Rattle.std.proofs.lemmas.Bool.{cases_Bool}
use Rattle.dbp_plan.specs.declared.plan.Plan.{Plan}
use Rattle.dbp_plan.specs.declared.table.TaskRows.{TaskRows}
use Rattle.dbp_plan.specs.Lookups.{declared_task}
use Rattle.sync_meaning.specs.SomeMeaningRows.{states_at}
use Rattle.dbp_rules.specs.Moves as move
use Rattle.dbp_rules.specs.PartyRules.{Loaded, hears_at, is_opened_by, is_stamp_of, loaded_number, read_order_in, task_after, turn_at}
use Rattle.dbp_rules.specs.Lookups.{wired_task}
use Rattle.dbp_rules.specs.SoundParts.{meant_value, read_of, shut_by, taken_by}
use Rattle.dbp_rules.specs.Work.{WorkWords}
use Rattle.dbp_rules.specs.declared.parts.Place.TheVariants as place
use Rattle.dbp_rules.specs.declared.parts.TaskPart.{TaskPart}
use Rattle.dbp_rules.specs.declared.step.Step.TheVariants.{Start, Hear, Look, Put, Done}
use Rattle.dbp_rules.specs.declared.wiring.TaskWiring.{TaskWiring}
use Rattle.dbp_rules.proofs.SoundGoes.{early_heard, taken_hear}
use Rattle.dbp_rules.proofs.SoundWriting.{put_running}
use Rattle.word_rule.specs.Roles.{meaning_row, run_wiring}
use Rattle.party_turns.specs.Computed.{HasComputed, last_computed}

module _ (p : Plan) (i : ℕ) (t : TaskPart) (work : WorkWords) (rows : TaskRows) (has : HasComputed p i t work rows) where
  abbrev w : TaskWiring
  w = wired_task (run_wiring p) i

  -- in the same instance, if no more is taken and the slot is as shut as it was
  pub stays : (new : TaskPart) → new.ended ≡ t.ended → shut_by new.place ≡ shut_by t.place → taken_by (length w.reads) new.place ≡ taken_by (length w.reads) t.place → HasComputed p i new work rows
  stays new ended shut taken =
      let last : last_computed new ≡ last_computed t = omega (arith, ended, shut) in
      record {
        words = record {
          now = has.words.now;
          next = has.words.next;
          states = has.words.states ∙ ap (λ (n : ℕ). states_at p.diagram p.samples p.batches (meaning_row p) i (declared_task p i) n) (sym ended);
          taken = λ n few. has.words.taken n (omega (arith, few, taken)) ∙ ap (λ (m : ℕ). meant_value p (meaning_row p) i (m + 1) (read_of p (run_wiring p) i n)) (sym ended);
          later = λ some. has.words.later (omega (arith, some, shut)) ∙ ap (λ (m : ℕ). states_at p.diagram p.samples p.batches (meaning_row p) i (declared_task p i) (m + 1)) (sym ended);
          row = has.words.row ∙ ap (meaning_row p i) (sym last);
        };
        rows = record { room = has.rows.room; each = λ n few. has.rows.each n (omega (arith, few, last)) };
      }

  pub after_start : (l : Loaded) → t.place ≡ place.Idle → HasComputed p i (task_after w t (Start i) l) work rows
  after_start l at = elim (cases_Bool (is_opened_by t (loaded_number l))) [ inl opened ↦ rw opened (stays (move.at_place t (place.Hear 0)) refl (ap shut_by (sym at)) (ap (taken_by (length w.reads)) (sym at))) | inr closed ↦ rw closed has ]

  pub after_hear : (n : ℕ) (l : Loaded) → t.place ≡ place.Hear n → HasComputed p i (task_after w t (Hear i) l) work rows
  after_hear n l at =
      stays (task_after w t (Hear i) l) refl
      ((early_heard w (hears_at t.place + 1)).shut ∙ ap shut_by (sym at))
      (taken_hear w (hears_at t.place + 1) ∙ ap (taken_by (length w.reads)) (sym at))

  pub after_look : (n r : ℕ) (l : Loaded) → t.place ≡ place.Look n → HasComputed p i (task_after w t (Look i r) l) work rows
  after_look n r l at = elim (cases_Bool (is_stamp_of (read_order_in w t (turn_at t.place)) (loaded_number l))) [
    | inl ready ↦ rw ready (stays (move.at_place t (place.Take (turn_at t.place))) refl (ap shut_by (sym at)) (ap turn_at at ∙ ap (taken_by (length w.reads)) (sym at)))
    | inr other ↦ rw other has
  ]

  pub after_put : (n port : ℕ) (l : Loaded) → t.place ≡ place.Put n → HasComputed p i (task_after w t (Put i port) l) work rows
  after_put n port l at =
      let next = put_running w.ports (port + 1) in
      stays (task_after w t (Put i port) l) refl (next.1 ∙ ap shut_by (sym at)) (next.2 (length w.reads) ∙ ap (taken_by (length w.reads)) (sym at))

  pub after_done : (l : Loaded) → t.place ≡ place.Done → HasComputed p i (task_after w t (Done i) l) work rows
  after_done l at = stays (task_after w t (Done i) l) refl (ap shut_by (sym at)) (ap (taken_by (length w.reads)) (sym at))
