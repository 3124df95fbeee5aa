-- What each party's part keeps by itself: what is named is there, and numbers fit.
use Rattle.std.specs.Prelude.{◌≡◌, ℕ, ◌+◌, ◌-◌, ◌<◌, ◌≤◌, length}
use Rattle.dbp_plan.specs.declared.plan.Plan.{Plan}
use Rattle.release_list.specs.Schedule.{aims, claims, seen_by}
use Rattle.dbp_rules.specs.Moves.{heard_order}
use Rattle.dbp_rules.specs.PartyRules.{Loaded, hears_at, loaded_number, loaded_order}
use Rattle.dbp_rules.specs.Lookups.{claim_in, entry_in, link, wired_task}
use Rattle.dbp_rules.specs.Rules.{IsNamedWithin}
use Rattle.dbp_rules.specs.Shapes.{EntryShape, OrderFits, PlaceIn, heard_by, running_count, slot_owner}
use Rattle.dbp_rules.specs.Wired.{links_at}
use Rattle.dbp_rules.specs.declared.parts.ReleaserPart.{ReleaserPart}
use Rattle.dbp_rules.specs.declared.parts.TaskPart.{TaskPart}
use Rattle.dbp_rules.specs.declared.step.Step.{Step}
use Rattle.dbp_rules.specs.declared.step.Step.TheVariants.{Seen, Start, Hear}
use Rattle.dbp_rules.specs.declared.wiring.LinkEnd.TheVariants.{Writer}
use Rattle.dbp_rules.specs.declared.wiring.Wiring.{Wiring}

-- ---- of the wiring

-- each link has its ends among the tasks, and each task knows the links that leave it
pub record LinksFit (w : Wiring) : Type 0 where
  pub writer : (k : ℕ) → k < length w.links → (link w k).writer < length w.tasks
  pub reader : (k : ℕ) → k < length w.links → (link w k).reader < length w.tasks
  pub leaving : (i : ℕ) → i < length w.tasks → (wired_task w i).leaving ≡ links_at Writer w.links i

-- the task or the link that a step names is one of the wiring's
abbrev pub IsNamedIn : Wiring → Step → Type 0
IsNamedIn w e = IsNamedWithin (length w.tasks) (length w.links) e

-- ---- of a task's part

-- its place is one of the task's places, its running instance is one of the task's occurrences, and it has heard the orders
-- whose hears come before the place, each of them in range
pub record TaskPartShape (w : Wiring) (i : ℕ) (t : TaskPart) : Type 0 where
  pub place : PlaceIn (wired_task w i) t.place
  pub occurs : t.ended + running_count t.place ≤ length (wired_task w i).times
  pub heard : length t.heard.items ≡ heard_by (1 + length (wired_task w i).links) t.place
  pub each_heard : (n : ℕ) → n < length t.heard.items → OrderFits (wired_task w (slot_owner w i n)) (heard_order t n)

-- what its step loads is in range: an opened instance is one of the occurrences, and an order names a slot of its task
abbrev pub TaskLoads : Wiring → ℕ → TaskPart → Step → Loaded → Type 0
TaskLoads w i t (Start j) l = loaded_number l ≤ length (wired_task w i).times
TaskLoads w i t (Hear j) l = OrderFits (wired_task w (slot_owner w i (hears_at t.place))) (loaded_order l)
TaskLoads w i t _ l = Unit {0}

-- ---- of the releaser's part

-- its numbers are those of its place: how many instances are aimed and claimed, and which row each claim is for; of each task
-- at most one instance more is aimed than is known to have ended; and the slots that it knows are the tasks' slots
pub record ReleaserShape (p : Plan) (w : Wiring) (r : ReleaserPart) : Type 0 where
  pub place : r.place ≤ length w.releases
  pub entries : length r.tasks ≡ length w.tasks
  pub links : length r.links ≡ length w.links
  pub aimed : (i : ℕ) → i < length w.tasks → (entry_in r i).aimed ≡ aims w.releases r.place i
  pub known : (i : ℕ) → i < length w.tasks → (entry_in r i).known ≤ (entry_in r i).aimed
  pub ahead : (i : ℕ) → i < length w.tasks → (entry_in r i).aimed ≤ (entry_in r i).known + 1
  pub each_entry : (i : ℕ) → i < length w.tasks → EntryShape (wired_task w i) (entry_in r i)
  pub claimed : (k : ℕ) → k < length w.links → (claim_in r k).instance ≡ claims w.releases r.place k
  pub number : (k : ℕ) → k < length w.links → (claim_in r k).number ≡ seen_by w.links p.batches k (claim_in r k).instance - (link w k).delay
  pub slot : (k : ℕ) → k < length w.links → (claim_in r k).slot < (wired_task w (link w k).writer).slots

-- what it sees of a task is a number from the known to the aimed one
abbrev pub ReleaserLoads : ReleaserPart → Step → Loaded → Type 0
ReleaserLoads r (Seen i) l = ((entry_in r i).known ≤ loaded_number l) × (loaded_number l ≤ (entry_in r i).aimed)
ReleaserLoads r _ l = Unit {0}
