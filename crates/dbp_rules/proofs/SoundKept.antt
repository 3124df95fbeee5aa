-- Each allowed step keeps a state sound.
use Rattle.std.proofs.Common.{◌≡◌, ℕ, ℤ, ◌+◌, ◌<◌, ◌≤◌, List, length, Option, Some, None, refl, sym, ap, subst, arith, inl}
use Rattle.dbp_plan.specs.declared.plan.Plan.{Plan}
use Rattle.dbp_plan.specs.Occurrences.{times_of}
use Rattle.dbp_plan.specs.Lookups.{declared_task}
use Rattle.std.specs.Prelude.{Result}
use Rattle.sync_meaning.proofs.OneMeaning.{meaning_solves}
use Rattle.sync_meaning.specs.SomeMeaning.{meaning_of, meaning_of-is}
use Rattle.sync_meaning.specs.SomeMeaningRows.{Solves}
use Rattle.dbp_plan.specs.Table.{table_row}
use Rattle.dbp_rules.specs.Moves as move
use Rattle.dbp_rules.specs.Lookups.{slot_at, task, task_entry, wired_task}
use Rattle.dbp_rules.specs.Rules as rule
use Rattle.dbp_rules.specs.Shapes.{TaskShape, heard_by, running_count}
use Rattle.dbp_rules.specs.Sound.{Sound}
use Rattle.dbp_rules.specs.SoundParts.{TaskSound, filled_by, taken_by}
use Rattle.dbp_rules.specs.Wired.{wiring_of}
use Rattle.dbp_rules.specs.declared.parts.Place.TheVariants as place
use Rattle.dbp_rules.specs.declared.state.State.{State}
use Rattle.dbp_rules.specs.declared.step.Broken.TheVariants as broken
use Rattle.dbp_rules.specs.declared.step.Count.{Count}
use Rattle.dbp_rules.specs.declared.step.Heard.{Heard}
use Rattle.dbp_rules.specs.declared.step.Illegal.{Illegal}
use Rattle.dbp_rules.specs.declared.step.Step.{Step}
use Rattle.dbp_rules.specs.declared.step.Step.TheVariants.{Seen, Aim, Claim, OpenGate, Start, Hear, Look, Take, Shut, Put, Done, End}
use Rattle.dbp_rules.specs.declared.wiring.Wiring.{Wiring}
use Rattle.dbp_rules.proofs.Allowed.{at_next, or_else_none}
use Rattle.dbp_rules.proofs.SoundComputing.{HasComputed, HasItsWords, worked_is}
use Rattle.dbp_rules.proofs.SoundOwn.{IsOwn, own_wiring}
use Rattle.dbp_rules.proofs.SoundReading.{hear_sound, look_sound, start_sound, take_sound}
use Rattle.dbp_rules.proofs.SoundReleaser.{aim_sound, claim_sound, open_sound, seen_sound}
use Rattle.dbp_rules.proofs.SoundWriting.{done_sound, end_sound, put_sound, write_sound}
use Rattle.dbp_rules.proofs.StateKept.{step_kept}

module _ (p : Plan) (w : Wiring) (rows : ℕ → ℕ → List ℤ) (s : State) (own : IsOwn p w) (solves : Solves p.diagram p.samples p.batches rows) (sound : Sound p w rows s) where
  pub shut_sound : (i : ℕ) → i < length p.diagram.tasks → rule.refusal w s (Shut i) ≡ None → Sound p w rows (rule.next p w s (Shut i))
  shut_sound i named free =
      let below : i < length w.tasks = omega (arith, named, own.whole.tasks) in
      let ok : TaskSound p w rows i (task_entry s i) (task s i) = sound.tasks i below in
      let fits : TaskShape w (declared_task p i) i (task_entry s i).aimed (task s i) = sound.shape.each_task i below in
      let both = or_else_none (rule.steps_next w s i 9 0) (rule.blocker_refusal w.count w s i) free in
      let at : (task s i).part.place ≡ place.Shut = at_next broken.TaskPlace (wired_task w i) (task s i).part.place 9 0 both.0 in
      let all : heard_by (1 + length (wired_task w i).links) (task s i).part.place ≡ 1 + length (wired_task w i).links = ap (heard_by (1 + length (wired_task w i).links)) at in
      let from : filled_by (task s i).part.place ≡ 0 = ap filled_by at in
      let busy : running_count (task s i).part.place ≡ 1 = ap running_count at in
      let taken : taken_by (length (wired_task w i).reads) (task s i).part.place ≡ length (wired_task w i).reads = ap (taken_by (length (wired_task w i).reads)) at in
      let few : (task_entry s i).aimed ≤ length (times_of p.batches i) = omega (arith, sound.shape.aimed i below, own.whole.releases.aims_times s.releaser.place i) in
      let room : (task s i).part.ended < length (times_of p.batches i) = omega (arith, fits.gate, fits.aimed) in
      let has : HasItsWords p w rows i (task s i).part.ended (task s i).work = record { size = fits.now; states = ok.states; taken = λ n less. ok.taken n (omega (arith, taken, less)) } in
      let done : HasComputed p w rows i (task s i).part.ended (move.after_compute (declared_task p i) (rule.sense_values p w s i) (task s i).work) = worked_is p w rows own solves i (task s i).part.ended (task s i).work below room has in
      write_sound p w rows s own sound i (place.Put 0) (record (slot_at (task s i).words.slots (move.own_slot (task s i).part)) { stamp = 0 }) (move.after_compute (declared_task p i) (rule.sense_values p w s i) (task s i).work) below
      (step_kept p w s sound.shape (Shut i) named free) both.1 busy from all (inl (omega (arith, fits.gate, fits.aimed)))
      (record {
        whole = λ l stamp. absurd (omega arith);
        filled = λ more. absurd (omega (arith, fits.gate, fits.aimed));
        filling = λ _. refl;
        put = λ port less. absurd (omega arith);
        states = done.given.states;
        taken = done.given.taken;
        row = done.row;
        later = λ _. done.later;
      })
      (λ n takes. absurd (cc (takes)))

  pub step_sound : (e : Step) → rule.IsNamed p.diagram e → rule.refusal w s e ≡ None → Sound p w rows (rule.next p w s e)
  step_sound (Seen i) named free = seen_sound p w rows s own sound i named
  step_sound (Aim i slot) named free = aim_sound p w rows s own sound i slot named free
  step_sound (Claim k) named free = claim_sound p w rows s own sound k named free
  step_sound (OpenGate i) named free = open_sound p w rows s own sound i named free
  step_sound (Start i) named free = start_sound p w rows s own sound i named free
  step_sound (Hear i) named free = hear_sound p w rows s own sound i named free
  step_sound (Look i r) named free = look_sound p w rows s own sound i r named free
  step_sound (Take i r) named free = take_sound p w rows s own sound i r named free
  step_sound (Shut i) named free = shut_sound i named free
  step_sound (Put i port) named free = put_sound p w rows s own sound i port named free
  step_sound (Done i) named free = done_sound p w rows s own sound i named free
  step_sound (End i) named free = end_sound p w rows s own sound i named free

-- so it is under the plan's own wiring, under both counts
pub sound_kept : (p : Plan) (count : Count) (rows : ℕ → ℕ → List ℤ) (s : State) (e : Step) → Solves p.diagram p.samples p.batches rows → Sound p (wiring_of p count) rows s
    → rule.IsNamed p.diagram e → rule.refusal (wiring_of p count) s e ≡ None → Sound p (wiring_of p count) rows (rule.next p (wiring_of p count) s e)
sound_kept p count rows s e solves sound named free = step_sound p (wiring_of p count) rows s (own_wiring p count) solves sound e named free

-- and by each result of a step, under a plan's own wiring, if the rows are those of the meaning
pub asked_sound : (p : Plan) (w : Wiring) (s new : State) (e : Step) (result : Result Heard Illegal) → w ≡ wiring_of p w.count → Sound p w (table_row (meaning_of p)) s → rule.IsNamed p.diagram e → rule.IsStep p w s e result new
    → Sound p w (table_row (meaning_of p)) new
asked_sound p w s new e result wired_task sound named is =
    let solves : Solves p.diagram p.samples p.batches (table_row (meaning_of p)) = meaning_solves p.diagram p.samples p.batches (meaning_of p) p.rules (meaning_of-is p) in
    let own : IsOwn p w = subst (λ (x : Wiring). IsOwn p x) (sym wired_task) (own_wiring p w.count) in
    answered (rule.refusal w s e) (λ free. step_sound p w (table_row (meaning_of p)) s own solves sound e named free) is
  where
    answered : (o : Option Illegal) → (o ≡ None → Sound p w (table_row (meaning_of p)) (rule.next p w s e)) → rule.IsAnswer o p w s e result new → Sound p w (table_row (meaning_of p)) new
    answered None stepped is = subst (λ (x : State). Sound p w (table_row (meaning_of p)) x) (sym is.1) (stepped refl)
    answered (Some why) stepped is = subst (λ (x : State). Sound p w (table_row (meaning_of p)) x) (sym is.1) sound
