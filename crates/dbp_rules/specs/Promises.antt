-- What an allowed step promises its task and all others.
use Rattle.std.specs.Prelude.{◌≡◌, ◌≢◌, ℕ, ℤ, ◌+◌, ◌<◌, ◌≤◌, ◌⊎◌, List, length, slice_get, Option, Some, None}
use Rattle.dbp_plan.specs.declared.diagram.Read.{Read}
use Rattle.dbp_plan.specs.declared.plan.Plan.{Plan}
use Rattle.dbp_plan.specs.declared.table.Table.{Table}
use Rattle.dbp_plan.specs.Occurrences.{count_until, times_of, time_of}
use Rattle.dbp_plan.specs.Lookups.{declared_task}
use Rattle.dbp_slots.specs.FreeSlot.{IsLeastFree}
use Rattle.sync_meaning.specs.Meaning.{IsRead}
use Rattle.dbp_rules.specs.Moves.{own_slot}
use Rattle.dbp_rules.specs.PartyRules.{claimed_in, releaser_refusal, kept_after_aim}
use Rattle.dbp_rules.specs.Lookups.{entry_in, link, link_entry, slot_at, task, wired_task}
use Rattle.dbp_rules.specs.Rules.{hears, next}
use Rattle.dbp_rules.specs.SoundParts.{last_filled}
use Rattle.dbp_rules.specs.TenParts.{IsStanding, slot_of_claim}
use Rattle.dbp_rules.specs.declared.parts.ReleaserPart.{ReleaserPart}
use Rattle.dbp_rules.specs.declared.state.State.{State}
use Rattle.dbp_rules.specs.declared.step.Heard.TheVariants.{Word}
use Rattle.dbp_rules.specs.declared.step.Step.{Step}
use Rattle.dbp_rules.specs.declared.step.Step.TheVariants.{Aim, Take, Shut, Put, Done}
use Rattle.dbp_rules.specs.declared.wiring.Wiring.{Wiring}

-- ---- what a take hears

-- the word is the one that the meaning gives the read of the task's instance
pub record IsMeant (p : Plan) (table : Table) (i instance r : ℕ) (word : ℤ) : Type 0 where
  pub read : Read
  pub has_read : slice_get (declared_task p i).reads r ≡ Some read
  pub is : IsRead p.diagram.links (λ v. count_until (times_of p.batches v) (time_of p.batches i instance)) table read word

-- the take hears the word of the running instance
pub record TakesTheMeaning (p : Plan) (w : Wiring) (table : Table) (s : State) (i r : ℕ) : Type 0 where
  pub word : ℤ
  pub hears : hears w s (Take i r) ≡ Word word
  pub meant : IsMeant p table i ((task s i).part.ended + 1) r word

-- ---- what a look finds

-- the link's writer has filled the row that is claimed over it
abbrev pub IsClaimFilled : Wiring → State → ℕ → Type 0
IsClaimFilled w s k = (link_entry s k).number ≤ last_filled (task s (link w k).writer)

-- ---- claimed slots

-- no claim that stands names the task's slot
abbrev pub IsUnclaimed : Wiring → State → ℕ → ℕ → Type 0
IsUnclaimed w s i slot = (k : ℕ) → k < length w.links → (link w k).writer ≡ i → IsStanding w s k → (link_entry s k).slot ≢ slot

-- the task whose slot the step changes
abbrev pub filled_of : Step → Option ℕ
filled_of (Shut i) = Some i
filled_of (Put i p) = Some i
filled_of (Done i) = Some i
filled_of _ = None

-- the claimed instance itself fills the claimed slot
pub record IsFilledByItsOwn (w : Wiring) (s : State) (e : Step) (k : ℕ) : Type 0 where
  pub writer : filled_of e ≡ Some (link w k).writer
  pub slot : (link_entry s k).slot ≡ own_slot (task s (link w k).writer).part
  pub number : (link_entry s k).number ≡ (task s (link w k).writer).part.ended + 1

-- a slot that a claim of an instance which hasn't ended names stays as it is, except if the claimed instance fills it
abbrev pub SparesClaims : Plan → Wiring → State → Step → Type 0
SparesClaims p w s e = (k : ℕ) → k < length w.links → (task s (link w k).reader).words.ended < (link_entry s k).instance
    → (slot_at (task (next p w s e) (link w k).writer).words.slots (link_entry s k).slot ≡ slot_of_claim w s k) ⊎ IsFilledByItsOwn w s e k

-- ---- free slots

-- the slots that claims of the task name whose instances aren't known to have ended
abbrev pub claimed_of : Wiring → State → ℕ → List ℕ
claimed_of w s i = claimed_in w s.releaser i

-- the claimed slots and those that stay kept are fewer than the task's slots
abbrev pub HasFreeSlotIn : Wiring → ReleaserPart → ℕ → Type 0
HasFreeSlotIn w r i = length (claimed_in w r i) + length (kept_after_aim (entry_in r i)) < (wired_task w i).slots

abbrev pub HasFreeSlot : Wiring → State → ℕ → Type 0
HasFreeSlot w s i = HasFreeSlotIn w s.releaser i

-- the least slot that is in neither may be aimed at, and is the least that may
pub record IsLeastAimIn (w : Wiring) (r : ReleaserPart) (i slot : ℕ) : Type 0 where
  pub free : IsLeastFree (claimed_in w r i) (kept_after_aim (entry_in r i)) (wired_task w i).slots slot
  pub allowed : releaser_refusal w r (Aim i slot) ≡ None
  pub least : (n : ℕ) → releaser_refusal w r (Aim i n) ≡ None → slot ≤ n

abbrev pub IsLeastAim : Wiring → State → ℕ → ℕ → Type 0
IsLeastAim w s i slot = IsLeastAimIn w s.releaser i slot
