-- How the tasks stand after a run.
use Rattle.std.proofs.Common.{◌≡◌, ℕ, suc, ◌+◌, ◌<◌, List, length, get_or, slice_get, Some, ◌∙◌, ap, subst, arith}
use Rattle.dbp_plan.specs.Occurrences.{times_of}
use Rattle.dbp_plan.specs.ListItems.{all_place, read_place}
use Rattle.word_rule.specs.Seats.{TaskSits}
use Rattle.word_rule.specs.declared.seats.SlotWords.{SlotWords}
use Rattle.party_turns.specs.Parties.{HasFinished, HaveFinished, IsPartyAt}
use Rattle.party_turns.specs.declared.party.Party.{Party}
use Rattle.party_turns.specs.declared.party.Party.TheVariants.{Releaser, Task}
use Rattle.party_turns.specs.declared.releaser_party.ReleaserParty.{ReleaserParty}
use Rattle.party_turns.specs.declared.task_party.TaskParty.{TaskParty}
use Rattle.party_turns.proofs.Fresh.{time_count}
use Rattle.party_exec.specs.Entries.{task_end}
use Rattle.party_exec.specs.declared.crew_entry.TaskEnd.{TaskEnd}

-- the party is that of the task i, and all occurrences of its task have ended
pub record IsEnded (w : SlotWords) (i : ℕ) (s : TaskParty) : Type 0 where
  pub here : TaskSits w s.seat
  pub task : s.seat.task ≡ i
  pub ended : s.seat.part.ended ≡ length (times_of w.plan.batches i)

ended_there : (w : SlotWords) (i : ℕ) (s : TaskParty) → IsPartyAt w (suc i) (Task s) → HasFinished w (Task s) → IsEnded w i s
ended_there w i s there done = record {
  here = there.0;
  task = there.1;
  ended = done ∙ time_count w s.seat there.0 ∙ ap (λ n. length (times_of w.plan.batches n)) there.1;
}

-- the party that was read after the releaser's and those of the tasks before
module _ (w : SlotWords) (ps : List Party) (done : HaveFinished w ps) (i : ℕ) (few : i < length w.plan.diagram.tasks) (p : Party) (read : p ≡ get_or ps (i + 1) p) where
  stands : slice_get ps (i + 1) ≡ Some p
  stands = read_place ps (i + 1) p (omega (arith, few, done.parties.size)) read

  there : IsPartyAt w (suc i) p
  there = let next : i + 1 ≡ suc i = omega arith in subst (λ (k : ℕ). IsPartyAt w k p) next (done.parties.each (i + 1) p stands)

  finished : HasFinished w p
  finished = all_place (HasFinished w) ps (i + 1) p done.finished stands

  pub task_there : (s : TaskParty) → p ≡ Task s → IsEnded w i s
  task_there s is = ended_there w i s (subst (IsPartyAt w (suc i)) is there) (subst (HasFinished w) is finished)

  pub no_releaser : (s : ReleaserParty) → p ≡ Releaser s → ⊥
  no_releaser s is = subst (IsPartyAt w (suc i)) is there

pub end_is : (w : SlotWords) (i : ℕ) (s : TaskParty) (e : TaskEnd) → IsEnded w i s → e.ended ≡ s.seat.part.ended → e.occurrences ≡ length (times_of w.plan.batches s.seat.task) → e ≡ task_end w.plan i
end_is w i s e is ended occurrences = λ j. record {
  ended = (ended ∙ is.ended) j;
  occurrences = (occurrences ∙ ap (λ n. length (times_of w.plan.batches n)) is.task) j;
}
