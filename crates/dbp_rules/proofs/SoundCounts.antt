-- How the counts of opens and claims go on from a place of the releaser's list.
use Rattle.std.proofs.Common.{◌≡◌, ◌≢◌, ℕ, ◌+◌, List, Some, refl, ◌∙◌, arith}
use Rattle.std.specs.Prelude.{slice_get}
use Rattle.std.proofs.lemmas.Bool.{eq-eqb, ne_eqb}
use Rattle.release_list.specs.Schedule.{claims, is_claim, is_open, opens}
use Rattle.release_list.specs.declared.release.Release.{Release}
use Rattle.release_list.specs.declared.release.Release.TheVariants.{Aim, Claim, OpenGate}
use Rattle.dbp_plan.proofs.Counts.{count-more}

pub aim_opens : (rs : List Release) (n i j : ℕ) → slice_get rs n ≡ Some (Aim i) → opens rs (n + 1) j ≡ opens rs n j
aim_opens rs n i j here = count-more (is_open j) rs n (Aim i) here ∙ omega arith

pub aim_claims : (rs : List Release) (n i j : ℕ) → slice_get rs n ≡ Some (Aim i) → claims rs (n + 1) j ≡ claims rs n j
aim_claims rs n i j here = count-more (is_claim j) rs n (Aim i) here ∙ omega arith

pub opens_same : (rs : List Release) (n i : ℕ) → slice_get rs n ≡ Some (OpenGate i) → opens rs (n + 1) i ≡ opens rs n i + 1
opens_same rs n i here = count-more (is_open i) rs n (OpenGate i) here ∙ rw (eq-eqb i i refl) refl

pub opens_other : (rs : List Release) (n i j : ℕ) → slice_get rs n ≡ Some (OpenGate i) → j ≢ i → opens rs (n + 1) j ≡ opens rs n j
opens_other rs n i j here other = count-more (is_open j) rs n (OpenGate i) here ∙ rw (ne_eqb j i other) (omega arith)

pub open_claims : (rs : List Release) (n i j : ℕ) → slice_get rs n ≡ Some (OpenGate i) → claims rs (n + 1) j ≡ claims rs n j
open_claims rs n i j here = count-more (is_claim j) rs n (OpenGate i) here ∙ omega arith

pub claims_same : (rs : List Release) (n k : ℕ) → slice_get rs n ≡ Some (Claim k) → claims rs (n + 1) k ≡ claims rs n k + 1
claims_same rs n k here = count-more (is_claim k) rs n (Claim k) here ∙ rw (eq-eqb k k refl) refl

pub claims_other : (rs : List Release) (n k j : ℕ) → slice_get rs n ≡ Some (Claim k) → j ≢ k → claims rs (n + 1) j ≡ claims rs n j
claims_other rs n k j here other = count-more (is_claim j) rs n (Claim k) here ∙ rw (ne_eqb j k other) (omega arith)

pub claim_opens : (rs : List Release) (n k j : ℕ) → slice_get rs n ≡ Some (Claim k) → opens rs (n + 1) j ≡ opens rs n j
claim_opens rs n k j here = count-more (is_open j) rs n (Claim k) here ∙ omega arith
