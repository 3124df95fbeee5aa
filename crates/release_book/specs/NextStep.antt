-- The releaser's next step, by its part alone, and what the step makes of the part.
use Rattle.std.specs.Prelude.{◌≡◌, ℕ, ◌<◌, length, nat_lt, slice_get, Option, Some, None}
use Rattle.release_book.specs.declared.release_step.ReleaseStep.{ReleaseStep}
use Rattle.release_book.specs.declared.release_step.ReleaseStep.TheVariants.{Seen, Aim, Claim, OpenGate, Finished}
use Rattle.release_list.specs.declared.release.Release.{Release}
use Rattle.release_list.specs.declared.release.Release.TheVariants as release
use Rattle.dbp_rules.specs.PartyRules.{a_number, least, releaser_after}
use Rattle.dbp_rules.specs.PartyShapes.{ReleaserLoads}
use Rattle.dbp_rules.specs.Lookups.{entry_in, wired_task}
use Rattle.dbp_rules.specs.Promises.{IsLeastAimIn}
use Rattle.dbp_rules.specs.declared.parts.ReleaserPart.{ReleaserPart}
use Rattle.dbp_rules.specs.declared.step.Step.{Step}
use Rattle.dbp_rules.specs.declared.step.Step.TheVariants as step
use Rattle.dbp_rules.specs.declared.wiring.Wiring.{Wiring}

-- ---- which step is next

-- the first task of which fewer instances are known to have ended than it has occurrences, if there is one
abbrev pub first_unended : Wiring → ReleaserPart → Option ℕ
first_unended w r = least (λ i. nat_lt (entry_in r i).known (length (wired_task w i).times)) (length w.tasks)

-- after the last action such a task is seen; if there is none the releaser has finished
abbrev pub end_step : Option ℕ → ReleaseStep
end_step (Some i) = Seen i
end_step None = Finished

-- at the task's aim it is seen while fewer instances are known to have ended than are aimed, else it is aimed at the least slot
-- that it may be aimed at
pub record IsNextAtAim (w : Wiring) (r : ReleaserPart) (i : ℕ) (e : ReleaseStep) : Type 0 where
  pub sees : (entry_in r i).known < (entry_in r i).aimed → e ≡ Seen i
  pub aims : (entry_in r i).aimed ≡ (entry_in r i).known → (slot : ℕ) × (e ≡ Aim i slot) × IsLeastAimIn w r i slot

-- the step at this action, or after the last one
abbrev pub IsNextAt : Wiring → ReleaserPart → Option Release → ReleaseStep → Type 0
IsNextAt w r (Some (release.Aim i)) e = IsNextAtAim w r i e
IsNextAt w r (Some (release.Claim k)) e = e ≡ Claim k
IsNextAt w r (Some (release.OpenGate i)) e = e ≡ OpenGate i
IsNextAt w r None e = e ≡ end_step (first_unended w r)

-- the step at the part's place in the list of actions
abbrev pub IsNextStep : Wiring → ReleaserPart → ReleaseStep → Type 0
IsNextStep w r e = IsNextAt w r (slice_get w.releases r.place) e

-- ---- as a step of the protocol

-- the step of the protocol that it is, if it is one
abbrev pub step_of : ReleaseStep → Option Step
step_of (Seen i) = Some (step.Seen i)
step_of (Aim i slot) = Some (step.Aim i slot)
step_of (Claim k) = Some (step.Claim k)
step_of (OpenGate i) = Some (step.OpenGate i)
step_of Finished = None

-- a number that the step may hear: for a seen one from the known to the aimed one, else any
abbrev pub MayHear : ReleaserPart → ReleaseStep → ℕ → Type 0
MayHear r (Seen i) heard = ReleaserLoads r (step.Seen i) (a_number heard)
MayHear r _ heard = Unit {0}

-- the part after the step, for which this number was heard
abbrev pub after_step : Wiring → ReleaserPart → Option Step → ℕ → ReleaserPart
after_step w r (Some e) heard = releaser_after w r e (a_number heard)
after_step w r None heard = r

abbrev pub part_after : Wiring → ReleaserPart → ReleaseStep → ℕ → ReleaserPart
part_after w r e heard = after_step w r (step_of e) heard
