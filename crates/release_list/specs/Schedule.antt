-- What a list of the releaser's actions says before each of its places.
use Rattle.std.specs.Prelude.{◌≡◌, ℕ, zero, suc, ◌+◌, ◌<◌, ◌≤◌, ◌==◌, Bool, false, List, length, count_by, take, slice_get, Some}
use Rattle.dbp_plan.specs.declared.diagram.Diagram.{Diagram}
use Rattle.dbp_plan.specs.declared.diagram.Link.{Link}
use Rattle.dbp_plan.specs.declared.schedule.Batch.{Batch}
use Rattle.dbp_plan.specs.Occurrences.{times_of, time_of, count_until}
use Rattle.dbp_plan.specs.Lookups.{link_at}
use Rattle.release_list.specs.declared.release.Release.{Release}
use Rattle.release_list.specs.declared.release.Release.TheVariants.{Aim, Claim, OpenGate}

-- whether the action aims the task, claims the link, opens the task's gate
abbrev pub is_aim : ℕ → Release → Bool
is_aim task (Aim i) = task == i
is_aim task (Claim k) = false
is_aim task (OpenGate i) = false

abbrev pub is_claim : ℕ → Release → Bool
is_claim link (Aim i) = false
is_claim link (Claim k) = link == k
is_claim link (OpenGate i) = false

abbrev pub is_open : ℕ → Release → Bool
is_open task (Aim i) = false
is_open task (Claim k) = false
is_open task (OpenGate i) = task == i

-- how many aims of the task, claims of the link, opens of the task's gate stand before the place
abbrev pub aims : List Release → ℕ → ℕ → ℕ
aims releases place task = count_by (is_aim task) (take place releases)

abbrev pub claims : List Release → ℕ → ℕ → ℕ
claims releases place link = count_by (is_claim link) (take place releases)

abbrev pub opens : List Release → ℕ → ℕ → ℕ
opens releases place task = count_by (is_open task) (take place releases)

-- the number of the writer's last instance at the release of the reader's n-th; none before the first
abbrev pub seen_by : List Link → List Batch → ℕ → ℕ → ℕ
seen_by links batches k zero = 0
seen_by links batches k (suc n) = count_until (times_of batches (link_at links k).writer) (time_of batches (link_at links k).reader (suc n))

-- at an aim all that was aimed of the task is claimed and opened
pub record AtAim (d : Diagram) (releases : List Release) (place i : ℕ) : Type 0 where
  pub named : i < length d.tasks
  pub opened : opens releases place i ≡ aims releases place i
  pub claimed : (k : ℕ) → k < length d.links → (link_at d.links k).reader ≡ i → claims releases place k ≡ aims releases place i

-- at a claim the reader's instance is aimed, and the link not claimed for it nor its gate opened yet; of each task is aimed
-- what has come by its time
pub record AtClaim (d : Diagram) (batches : List Batch) (releases : List Release) (place k : ℕ) : Type 0 where
  pub named : k < length d.links
  pub claimed : claims releases place k + 1 ≡ aims releases place (link_at d.links k).reader
  pub opened : opens releases place (link_at d.links k).reader + 1 ≡ aims releases place (link_at d.links k).reader
  pub seen : seen_by d.links batches k (aims releases place (link_at d.links k).reader) ≡ aims releases place (link_at d.links k).writer
  pub all_aims : (w : ℕ) → aims releases place w ≡ count_until (times_of batches w) (time_of batches (link_at d.links k).reader (aims releases place (link_at d.links k).reader))

-- at an open the task's instance is aimed, and all links into the task are claimed for it
pub record AtOpen (d : Diagram) (releases : List Release) (place i : ℕ) : Type 0 where
  pub named : i < length d.tasks
  pub aimed : aims releases place i ≡ opens releases place i + 1
  pub claimed : (k : ℕ) → k < length d.links → (link_at d.links k).reader ≡ i → claims releases place k ≡ aims releases place i

-- the order that the list keeps, by the numbers before each of its places
pub record IsSchedule (d : Diagram) (batches : List Batch) (releases : List Release) : Type 0 where
  -- of a task at most one instance is aimed and not opened; the claims of a link into it lie between
  pub opens_aims : (place i : ℕ) → opens releases place i ≤ aims releases place i
  pub aims_opens : (place i : ℕ) → aims releases place i ≤ opens releases place i + 1
  pub opens_claims : (place k : ℕ) → k < length d.links → opens releases place (link_at d.links k).reader ≤ claims releases place k
  pub claims_aims : (place k : ℕ) → k < length d.links → claims releases place k ≤ aims releases place (link_at d.links k).reader
  -- what a claimed instance sees is aimed
  pub seen : (place k : ℕ) → k < length d.links → seen_by d.links batches k (claims releases place k) ≤ aims releases place (link_at d.links k).writer
  -- no more instances are aimed than there are
  pub aims_times : (place i : ℕ) → aims releases place i ≤ length (times_of batches i)
  -- in the end each instance is aimed and opened, and each link is claimed for each instance of its reader
  pub all_aims : (i : ℕ) → aims releases (length releases) i ≡ length (times_of batches i)
  pub all_claims : (k : ℕ) → k < length d.links → claims releases (length releases) k ≡ length (times_of batches (link_at d.links k).reader)
  pub all_opens : (i : ℕ) → opens releases (length releases) i ≡ length (times_of batches i)
  -- a later instance isn't released earlier; one of the writer that the reader's doesn't see is released later than it
  pub rising : (i a b : ℕ) → 0 < a → a ≤ b → b ≤ length (times_of batches i) → time_of batches i a ≤ time_of batches i b
  pub early : (k a n : ℕ) → k < length d.links → 0 < a → seen_by d.links batches k a < n → n ≤ length (times_of batches (link_at d.links k).writer)
      → time_of batches (link_at d.links k).reader a < time_of batches (link_at d.links k).writer n
  pub at_aim : (place i : ℕ) → slice_get releases place ≡ Some (Aim i) → AtAim d releases place i
  pub at_claim : (place k : ℕ) → slice_get releases place ≡ Some (Claim k) → AtClaim d batches releases place k
  pub at_open : (place i : ℕ) → slice_get releases place ≡ Some (OpenGate i) → AtOpen d releases place i
