-- One batch of the releaser's list: what stands before a place among its aims, its claims or its opens.
use Rattle.std.proofs.Common.{◌≡◌, ℕ, ◌+◌, ◌<◌, ◌≤◌, ◌⊎◌, inl, inr, Bool, List, [], ◌∷◌, ◌++◌, length, take, map, Some, refl, sym, ap, ◌∙◌, arith}
use Rattle.std.specs.Prelude.{◌==◌, count_by, slice_get}
use Rattle.std.specs.List.Sorted.{IsStrictlyIncreasing}
use Rattle.std.proofs.lemmas.Bool.{eq-eqb}
use Rattle.dbp_plan.specs.declared.diagram.Link.{Link}
use Rattle.dbp_plan.specs.declared.schedule.Batch.{Batch}
use Rattle.dbp_plan.specs.Lookups.{link_at}
use Rattle.release_list.specs.declared.release.Release.{Release}
use Rattle.release_list.specs.declared.release.Release.TheVariants.{Aim, Claim, OpenGate}
use Rattle.release_list.specs.Releases.{links_into, claims_into, claims_of, releases_at}
use Rattle.release_list.specs.Schedule.{is_aim, is_claim, is_open, aims, claims, opens}
use Rattle.dbp_plan.proofs.BatchTasks.{often, count-often}
use Rattle.dbp_plan.proofs.Counts.{before_few, count-append, count-cons, count-map, count-never, none_found}
use Rattle.release_list.proofs.IntoLinks.{none_into, once_into}
use Rattle.release_list.proofs.JoinedLists.{split}

-- what has no claims but the claims

no_claims : (test : Release → Bool) (links : List Link) (tasks : List ℕ) → ((ks : List ℕ) → count_by test (map Claim ks) ≡ 0) → count_by test (claims_of links tasks) ≡ 0
no_claims test links [] none = refl
no_claims test links (i ∷ tasks) none =
    count-append test (claims_into links i) (claims_of links tasks) ∙ rw (none (links_into links i), no_claims test links tasks none) refl

claims_past : (links : List Link) (tasks : List ℕ) (k : ℕ) → length links ≤ k → count_by (is_claim k) (claims_of links tasks) ≡ 0
claims_past links [] k past = refl
claims_past links (i ∷ tasks) k past =
    count-append (is_claim k) (claims_into links i) (claims_of links tasks)
    ∙ rw (count-map (is_claim k) Claim (links_into links i), none_into links i (length links) k past, claims_past links tasks k past) refl

claims_each : (links : List Link) (tasks : List ℕ) (k : ℕ) → k < length links → count_by (is_claim k) (claims_of links tasks) ≡ count_by (λ j. (link_at links k).reader == j) tasks
claims_each links [] k below = refl
claims_each links (i ∷ tasks) k below =
    count-append (is_claim k) (claims_into links i) (claims_of links tasks)
    ∙ rw (count-map (is_claim k) Claim (links_into links i), once_into links i (length links) k below, claims_each links tasks k below)
    (sym (count-cons (λ j. (link_at links k).reader == j) i tasks))

module _ (links : List Link) (b : Batch) (rises : IsStrictlyIncreasing b.tasks) where
  abbrev reader : ℕ → ℕ
  reader k = (link_at links k).reader

  abbrev aim_part : List Release
  aim_part = map Aim b.tasks

  abbrev claim_part : List Release
  claim_part = claims_of links b.tasks

  abbrev open_part : List Release
  open_part = map OpenGate b.tasks

  -- how much of what each part has

  aim_aims : (i : ℕ) → count_by (is_aim i) aim_part ≡ often i b
  aim_aims i = count-map (is_aim i) Aim b.tasks ∙ count-often i b rises

  aim_claims : (k : ℕ) → count_by (is_claim k) aim_part ≡ 0
  aim_claims k = count-map (is_claim k) Aim b.tasks ∙ count-never b.tasks

  aim_opens : (i : ℕ) → count_by (is_open i) aim_part ≡ 0
  aim_opens i = count-map (is_open i) Aim b.tasks ∙ count-never b.tasks

  claim_aims : (i : ℕ) → count_by (is_aim i) claim_part ≡ 0
  claim_aims i = no_claims (is_aim i) links b.tasks (λ ks. count-map (is_aim i) Claim ks ∙ count-never ks)

  claim_claims : (k : ℕ) → k < length links → count_by (is_claim k) claim_part ≡ often (reader k) b
  claim_claims k below = claims_each links b.tasks k below ∙ count-often (reader k) b rises

  claim_opens : (i : ℕ) → count_by (is_open i) claim_part ≡ 0
  claim_opens i = no_claims (is_open i) links b.tasks (λ ks. count-map (is_open i) Claim ks ∙ count-never ks)

  open_aims : (i : ℕ) → count_by (is_aim i) open_part ≡ 0
  open_aims i = count-map (is_aim i) OpenGate b.tasks ∙ count-never b.tasks

  open_claims : (k : ℕ) → count_by (is_claim k) open_part ≡ 0
  open_claims k = count-map (is_claim k) OpenGate b.tasks ∙ count-never b.tasks

  open_opens : (i : ℕ) → count_by (is_open i) open_part ≡ often i b
  open_opens i = count-map (is_open i) OpenGate b.tasks ∙ count-often i b rises

  parts : (test : Release → Bool) (rest : List Release) → count_by test (aim_part ++ (claim_part ++ rest)) ≡ count_by test aim_part + (count_by test claim_part + count_by test rest)
  parts test rest = count-append test aim_part (claim_part ++ rest) ∙ ap (λ n. count_by test aim_part + n) (count-append test claim_part rest)

  pub whole_aims : (i : ℕ) → count_by (is_aim i) (releases_at links b) ≡ often i b
  whole_aims i = omega (arith, parts (is_aim i) open_part, aim_aims i, claim_aims i, open_aims i)

  pub whole_claims : (k : ℕ) → k < length links → count_by (is_claim k) (releases_at links b) ≡ often (reader k) b
  whole_claims k below = omega (arith, parts (is_claim k) open_part, aim_claims k, claim_claims k below, open_claims k)

  pub whole_opens : (i : ℕ) → count_by (is_open i) (releases_at links b) ≡ often i b
  whole_opens i = omega (arith, parts (is_open i) open_part, aim_opens i, claim_opens i, open_opens i)

  pub claimed_there : (place k : ℕ) → slice_get (releases_at links b) place ≡ Some (Claim k) → length links ≤ k → ⊥
  claimed_there place k here past =
      none_found (is_claim k) (releases_at links b) place (Claim k) here (eq-eqb k k refl)
      (omega (arith, parts (is_claim k) open_part, aim_claims k, claims_past links b.tasks k past, open_claims k))

  -- what is known at a place among the aims, the claims, the opens

  pub record AmongAims (place : ℕ) (action : Release) : Type 0 where
    pub item : (n : ℕ) × (slice_get aim_part n ≡ Some action)
    pub claimed : (k : ℕ) → claims (releases_at links b) place k ≡ 0
    pub opened : (i : ℕ) → opens (releases_at links b) place i ≡ 0

  pub record AmongClaims (place : ℕ) (action : Release) : Type 0 where
    pub item : (n : ℕ) × (slice_get claim_part n ≡ Some action)
    pub aimed : (i : ℕ) → aims (releases_at links b) place i ≡ often i b
    pub opened : (i : ℕ) → opens (releases_at links b) place i ≡ 0

  pub record AmongOpens (place : ℕ) (action : Release) : Type 0 where
    pub item : (n : ℕ) × (slice_get open_part n ≡ Some action)
    pub aimed : (i : ℕ) → aims (releases_at links b) place i ≡ often i b
    pub claimed : (k : ℕ) → k < length links → claims (releases_at links b) place k ≡ often (reader k) b

  among_aims : (place : ℕ) (action : Release) → slice_get aim_part place ≡ Some action → take place (releases_at links b) ≡ take place aim_part → AmongAims place action
  among_aims place action here before = record {
    item = (place, here);
    claimed = λ k. omega (arith, ap (count_by (is_claim k)) before, before_few (is_claim k) aim_part place, aim_claims k);
    opened = λ i. omega (arith, ap (count_by (is_open i)) before, before_few (is_open i) aim_part place, aim_opens i);
  }

  among_claims : (place rest : ℕ) (action : Release) → slice_get claim_part rest ≡ Some action → take place (releases_at links b) ≡ aim_part ++ take rest claim_part → AmongClaims place action
  among_claims place rest action here before =
      let both : (test : Release → Bool) → count_by test (take place (releases_at links b)) ≡ count_by test aim_part + count_by test (take rest claim_part) =
      λ test. ap (count_by test) before ∙ count-append test aim_part (take rest claim_part) in
      record {
        item = (rest, here);
        aimed = λ i. omega (arith, both (is_aim i), aim_aims i, before_few (is_aim i) claim_part rest, claim_aims i);
        opened = λ i. omega (arith, both (is_open i), aim_opens i, before_few (is_open i) claim_part rest, claim_opens i);
      }

  among_opens : (place rest : ℕ) (action : Release) → slice_get open_part rest ≡ Some action → take place (releases_at links b) ≡ aim_part ++ (claim_part ++ take rest open_part) → AmongOpens place action
  among_opens place rest action here before =
      let all : (test : Release → Bool) → count_by test (take place (releases_at links b)) ≡ count_by test aim_part + (count_by test claim_part + count_by test (take rest open_part)) =
      λ test. ap (count_by test) before ∙ parts test (take rest open_part) in
      record {
        item = (rest, here);
        aimed = λ i. omega (arith, all (is_aim i), aim_aims i, claim_aims i, before_few (is_aim i) open_part rest, open_aims i);
        claimed = λ k below. omega (arith, all (is_claim k), aim_claims k, claim_claims k below, before_few (is_claim k) open_part rest, open_claims k);
      }

  pub part : (place : ℕ) (action : Release) → slice_get (releases_at links b) place ≡ Some action → AmongAims place action ⊎ (AmongClaims place action ⊎ AmongOpens place action)
  part place action here =
      elim (split aim_part (claim_part ++ open_part) place action here) [
        | inl first ↦ inl (among_aims place action first.item first.before)
        | inr second ↦ elim (split claim_part open_part second.rest action second.item) [
          | inl first ↦ inr (inl (among_claims place second.rest action first.item (second.before ∙ ap (λ l. aim_part ++ l) first.before)))
          | inr third ↦ inr (inr (among_opens place third.rest action third.item (second.before ∙ ap (λ l. aim_part ++ l) third.before)))
        ]
      ]

  -- an action stands in its own part

  pub at_claim_part : (place k : ℕ) → slice_get (releases_at links b) place ≡ Some (Claim k) → AmongClaims place (Claim k)
  at_claim_part place k here =
      elim (part place (Claim k) here) [
        | inl first ↦ absurd (none_found (is_claim k) aim_part first.item.0 (Claim k) first.item.1 (eq-eqb k k refl) (aim_claims k))
        | inr rest ↦ elim rest [
          | inl second ↦ second
          | inr third ↦ absurd (none_found (is_claim k) open_part third.item.0 (Claim k) third.item.1 (eq-eqb k k refl) (open_claims k))
        ]
      ]

  pub at_open_part : (place i : ℕ) → slice_get (releases_at links b) place ≡ Some (OpenGate i) → AmongOpens place (OpenGate i)
  at_open_part place i here =
      elim (part place (OpenGate i) here) [
        | inl first ↦ absurd (none_found (is_open i) aim_part first.item.0 (OpenGate i) first.item.1 (eq-eqb i i refl) (aim_opens i))
        | inr rest ↦ elim rest [
          | inl second ↦ absurd (none_found (is_open i) claim_part second.item.0 (OpenGate i) second.item.1 (eq-eqb i i refl) (claim_opens i))
          | inr third ↦ third
        ]
      ]

  -- at any place the opens lag the claims, and these the aims; and no link is claimed before all is aimed
  pub record InOrder (place : ℕ) : Type 0 where
    pub aimed : (i : ℕ) → aims (releases_at links b) place i ≤ often i b
    pub opens_aims : (i : ℕ) → opens (releases_at links b) place i ≤ aims (releases_at links b) place i
    pub opens_claims : (k : ℕ) → k < length links → opens (releases_at links b) place (reader k) ≤ claims (releases_at links b) place k
    pub claims_aims : (k : ℕ) → k < length links → claims (releases_at links b) place k ≤ aims (releases_at links b) place (reader k)
    pub aims_first : ((k : ℕ) → claims (releases_at links b) place k ≡ 0) ⊎ ((i : ℕ) → aims (releases_at links b) place i ≡ often i b)

  pub in_order : (place : ℕ) (action : Release) → slice_get (releases_at links b) place ≡ Some action → InOrder place
  in_order place action here =
      let aimed : (i : ℕ) → aims (releases_at links b) place i ≤ often i b = λ i. omega (arith, before_few (is_aim i) (releases_at links b) place, whole_aims i) in
      let claimed : (k : ℕ) → k < length links → claims (releases_at links b) place k ≤ often (reader k) b = λ k below. omega (arith, before_few (is_claim k) (releases_at links b) place, whole_claims k below) in
      let opened : (i : ℕ) → opens (releases_at links b) place i ≤ often i b = λ i. omega (arith, before_few (is_open i) (releases_at links b) place, whole_opens i) in
      elim (part place action here) [
        | inl first ↦ record {
          aimed = aimed;
          opens_aims = λ i. omega (arith, first.opened i);
          opens_claims = λ k below. omega (arith, first.opened (reader k));
          claims_aims = λ k below. omega (arith, first.claimed k);
          aims_first = inl first.claimed;
        }
        | inr rest ↦ elim rest [
          | inl second ↦ record {
            aimed = aimed;
            opens_aims = λ i. omega (arith, second.opened i);
            opens_claims = λ k below. omega (arith, second.opened (reader k));
            claims_aims = λ k below. omega (arith, second.aimed (reader k), claimed k below);
            aims_first = inr second.aimed;
          }
          | inr third ↦ record {
            aimed = aimed;
            opens_aims = λ i. omega (arith, third.aimed i, opened i);
            opens_claims = λ k below. omega (arith, third.claimed k below, opened (reader k));
            claims_aims = λ k below. omega (arith, third.aimed (reader k), third.claimed k below);
            aims_first = inr third.aimed;
          }
        ]
      ]
