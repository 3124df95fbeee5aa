-- The nearest of the numbers to which a step leads.
use Rattle.std.proofs.Common.{◌≡◌, ℕ, ◌+◌, ◌<◌, ◌≤◌, List, Option, Some, None, refl, arith, below_more}
use Rattle.std.specs.Prelude.{MatchOption}
use Rattle.rank_find.specs.declared.distance.TheConstants.{FAR}
use Rattle.rank_find.specs.Distances.{IsNearest, LeadsNowhere, distance_of}

module _ (R : ℕ → ℕ → Type 0) (distances : List ℕ) (i : ℕ) where
  -- the nearest of the first numbers
  pub record IsNearestBelow (count next : ℕ) : Type 0 where
    pub inside : next < count
    pub step : R i next
    pub near : distance_of distances next < FAR
    pub nearest : (j : ℕ) → j < count → R i j → distance_of distances next ≤ distance_of distances j
    pub least : (j : ℕ) → j < next → R i j → distance_of distances next < distance_of distances j

  abbrev pub NearestSoFar : ℕ → Option ℕ → ℕ → Type 0
  NearestSoFar count nearest least =
      MatchOption nearest
      ((least ≡ FAR) × ((j : ℕ) → j < count → R i j → FAR ≤ distance_of distances j))
      (λ next. (least ≡ distance_of distances next) × IsNearestBelow count next)

  bounds : (count : ℕ) (nearest : Option ℕ) (least : ℕ) → NearestSoFar count nearest least → (least ≤ FAR) × ((j : ℕ) → j < count → R i j → least ≤ distance_of distances j)
  bounds count None least (far, none) = (omega arith, λ j below step. omega (arith, none j below step))
  bounds count (Some next) least (at, is) = (omega (arith, is.near), λ j below step. omega (arith, is.nearest j below step))

  pub nearest_stays : (count : ℕ) (nearest : Option ℕ) (least : ℕ) → NearestSoFar count nearest least → (R i count → least ≤ distance_of distances count) → NearestSoFar (count + 1) nearest least
  nearest_stays count None least (far, none) farther = (far, below_more (λ j. R i j → FAR ≤ distance_of distances j) count none (λ step. omega (arith, farther step)))
  nearest_stays count (Some next) least (at, is) farther = (
    at,
    record {
      inside = omega (arith, is.inside);
      step = is.step;
      near = is.near;
      nearest = below_more (λ j. R i j → distance_of distances next ≤ distance_of distances j) count is.nearest (λ step. omega (arith, farther step));
      least = is.least;
    },
  )

  pub nearest_changes : (count : ℕ) (nearest : Option ℕ) (least : ℕ) → NearestSoFar count nearest least → R i count → distance_of distances count < least → NearestSoFar (count + 1) (Some count) (distance_of distances count)
  nearest_changes count nearest least so_far step nearer =
      let bound = bounds count nearest least so_far in (
        refl,
        record {
          inside = omega arith;
          step = step;
          near = omega (arith, bound.0);
          nearest = below_more (λ j. R i j → distance_of distances count ≤ distance_of distances j) count (λ j below other. omega (arith, bound.1 j below other)) (λ other. omega arith);
          least = λ j below other. omega (arith, bound.1 j below other);
        },
      )

  pub nearest_all : (count : ℕ) (nearest : Option ℕ) (least : ℕ) → ((j : ℕ) → R i j → j < count) → NearestSoFar count nearest least → MatchOption nearest (LeadsNowhere R distances i) (IsNearest R distances i)
  nearest_all count None least below (far, none) = λ j step. none j (below j step) step
  nearest_all count (Some next) least below (at, is) = record { step = is.step; near = is.near; nearest = λ j step. is.nearest j (below j step) step; least = is.least }
