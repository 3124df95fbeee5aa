-- How many steps of a relation lead from a number to the start.
use Rattle.std.specs.Prelude.{◌≡◌, ◌⊎◌, ℕ, zero, suc, ◌+◌, ◌<◌, ◌≤◌, Contains, List, length, slice_index_or}
use Rattle.rank_find.specs.declared.distance.TheConstants.{FAR}
use Rattle.rank_find.specs.Links.{IsWriter}

-- from j so many steps lead to the start
abbrev pub Leads : (ℕ → ℕ → Type 0) → ℕ → ℕ → ℕ → Type 0
Leads R start zero j = j ≡ start
Leads R start (suc steps) j = (i : ℕ) × R j i × Leads R start steps i

abbrev pub distance_of : List ℕ → ℕ → ℕ
distance_of distances j = slice_index_or distances j FAR

-- The distances up to a bound: from j as many steps lead to the start as its distance is, and no fewer. Numbers from which
-- none lead there within the bound are far.
pub record AreDistances (R : ℕ → ℕ → Type 0) (start bound : ℕ) (distances : List ℕ) : Type 0 where
  pub within : (j : ℕ) → distance_of distances j < FAR → distance_of distances j ≤ bound
  pub leads : (j : ℕ) → distance_of distances j < FAR → Leads R start (distance_of distances j) j
  pub least : (j steps : ℕ) → Leads R start steps j → steps ≤ bound → distance_of distances j ≤ steps

-- of the numbers to which i leads in one step this one has the least distance, and of these it is the least
pub record IsNearest (R : ℕ → ℕ → Type 0) (distances : List ℕ) (i next : ℕ) : Type 0 where
  pub step : R i next
  pub near : distance_of distances next < FAR
  pub nearest : (j : ℕ) → R i j → distance_of distances next ≤ distance_of distances j
  pub least : (j : ℕ) → j < next → R i j → distance_of distances next < distance_of distances j

-- no step leads from i to a number that isn't far
abbrev pub LeadsNowhere : (ℕ → ℕ → Type 0) → List ℕ → ℕ → Type 0
LeadsNowhere R distances i = (j : ℕ) → R i j → FAR ≤ distance_of distances j

-- ---- lists of writers

-- all writers are tasks
abbrev pub AreNamed : List (List ℕ) → Type 0
AreNamed writers = (i j : ℕ) → IsWriter writers i j → i < length writers

-- the task is one of these, and came nearer: it has this distance now
pub record IsLowered (tasks : List ℕ) (distance : ℕ) (old new : List ℕ) (j : ℕ) : Type 0 where
  pub among : Contains tasks j
  pub now : distance_of new j ≡ distance
  pub before : distance < distance_of old j

-- these tasks are no farther than this distance now, and all else is as it was
pub record AreLowered (tasks : List ℕ) (distance : ℕ) (old new : List ℕ) : Type 0 where
  pub size : length new ≡ length old
  pub same : (j : ℕ) → (distance_of new j ≡ distance_of old j) ⊎ IsLowered tasks distance old new j
  pub each : (j : ℕ) → Contains tasks j → distance_of new j ≤ distance

-- the task writes to one of the first tasks, which was at this distance, and came nearer: it is one step farther now
pub record IsReached (writers : List (List ℕ)) (count distance : ℕ) (old new : List ℕ) (j : ℕ) : Type 0 where
  pub over : ℕ
  pub first : over < count
  pub at : distance_of old over ≡ distance
  pub writes : IsWriter writers j over
  pub now : distance_of new j ≡ distance + 1
  pub before : distance + 1 < distance_of old j

-- the writers of those first tasks that were at this distance are no farther than one step more now, and all else is as it was
pub record AreReached (writers : List (List ℕ)) (count distance : ℕ) (old new : List ℕ) : Type 0 where
  pub size : length new ≡ length old
  pub same : (j : ℕ) → (distance_of new j ≡ distance_of old j) ⊎ IsReached writers count distance old new j
  pub each : (t j : ℕ) → t < count → distance_of old t ≡ distance → IsWriter writers j t → distance_of new j ≤ distance + 1
