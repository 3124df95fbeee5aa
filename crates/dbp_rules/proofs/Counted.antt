-- How the counts of aims go on from a place of the releaser's list.
use Rattle.std.proofs.Common.{◌≡◌, ◌≢◌, ℕ, ◌+◌, List, Some, refl, ◌∙◌, arith}
use Rattle.std.specs.Prelude.{slice_get}
use Rattle.std.proofs.lemmas.Bool.{eq-eqb, ne_eqb}
use Rattle.dbp_plan.proofs.Counts.{count-more}
use Rattle.release_list.specs.Schedule.{aims, is_aim}
use Rattle.release_list.specs.declared.release.Release.{Release}
use Rattle.release_list.specs.declared.release.Release.TheVariants.{Aim, Claim, OpenGate}

pub aims_same : (rs : List Release) (n i : ℕ) → slice_get rs n ≡ Some (Aim i) → aims rs (n + 1) i ≡ aims rs n i + 1
aims_same rs n i here = count-more (is_aim i) rs n (Aim i) here ∙ rw (eq-eqb i i refl) refl

pub aims_other : (rs : List Release) (n i j : ℕ) → slice_get rs n ≡ Some (Aim i) → j ≢ i → aims rs (n + 1) j ≡ aims rs n j
aims_other rs n i j here other = count-more (is_aim j) rs n (Aim i) here ∙ rw (ne_eqb j i other) (omega arith)

pub aims_claim : (rs : List Release) (n k j : ℕ) → slice_get rs n ≡ Some (Claim k) → aims rs (n + 1) j ≡ aims rs n j
aims_claim rs n k j here = count-more (is_aim j) rs n (Claim k) here ∙ omega arith

pub aims_open : (rs : List Release) (n i j : ℕ) → slice_get rs n ≡ Some (OpenGate i) → aims rs (n + 1) j ≡ aims rs n j
aims_open rs n i j here = count-more (is_aim j) rs n (OpenGate i) here ∙ omega arith
