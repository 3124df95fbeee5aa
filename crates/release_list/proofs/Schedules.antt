-- The releaser's list of a plan keeps the order of the protocol.
use Rattle.std.proofs.Common.{◌≡◌, ℕ, zero, suc, ◌+◌, ◌-◌, ◌<◌, ◌≤◌, inl, inr, true, All, List, length, get_or, take, Some, refl, sym, subst, ap, ◌∙◌, arith}
use Rattle.std.specs.Prelude.{◌==◌, count_by, slice_get}
use Rattle.std.specs.List.Sorted.{IsStrictlyIncreasing}
use Rattle.std.proofs.lemmas.Bool.{cases_lt, cases_eq, eq-eqb, eqb-true}
use Rattle.std.proofs.lemmas.List.{take_all}
use Rattle.std.proofs.lemmas.List.Folds.{Any-from_list_any}
use Rattle.std.proofs.lemmas.Option.{get_or_from_slice_get, slice_get-get_or, slice_get_within}
use Rattle.dbp_plan.specs.declared.diagram.Diagram.{Diagram}
use Rattle.dbp_plan.specs.declared.schedule.Batch.{Batch}
use Rattle.dbp_plan.specs.declared.schedule.Sample.{Sample}
use Rattle.dbp_plan.specs.Occurrences.{count_until, names, times_of, time_of}
use Rattle.dbp_plan.specs.ListItems.{all_place, at_place}
use Rattle.dbp_plan.specs.Plan.{IsPlan}
use Rattle.dbp_plan.specs.Times.{times-rise}
use Rattle.dbp_plan.specs.Lookups.{link_at}
use Rattle.dbp_plan.proofs.BatchTasks.{often, often_one, often_named}
use Rattle.dbp_plan.proofs.Counts.{before_few, found}
use Rattle.dbp_plan.proofs.Numbers.{Rise, rise, number-is}
use Rattle.dbp_plan.proofs.OccurrenceLemmas.{time_here}
use Rattle.dbp_plan.proofs.TaskTimes.{times_more, come_before, come_counted, time_of-rises}
use Rattle.release_list.specs.declared.release.Release.{Release}
use Rattle.release_list.specs.declared.release.Release.TheVariants.{Aim, Claim, OpenGate}
use Rattle.release_list.specs.Releases.{releases_at, releases_of}
use Rattle.release_list.specs.Schedule.{AtAim, AtClaim, AtOpen, IsSchedule, aims, claims, opens, is_aim, is_claim, is_open, seen_by}
use Rattle.release_list.proofs.BatchParts.{AmongClaims, AmongOpens, InOrder, at_claim_part, at_open_part, claimed_there, in_order, whole_aims, whole_claims, whole_opens}
use Rattle.release_list.proofs.Located.{Located, locate, every_aim, every_claim, every_open, aims_at, claims_at, opens_at}

module _ (d : Diagram) (samples : List Sample) (bs : List Batch) (plan : IsPlan d samples bs) where
  abbrev reader : ℕ → ℕ
  reader k = (link_at d.links k).reader

  abbrev writer : ℕ → ℕ
  writer k = (link_at d.links k).writer

  abbrev list : List Release
  list = releases_of d.links bs

  up : Rise bs
  up = rise bs plan.rising

  rises : (number : ℕ) (b : Batch) → slice_get bs number ≡ Some b → IsStrictlyIncreasing b.tasks
  rises number b there = all_place (λ (a : Batch). IsStrictlyIncreasing a.tasks) bs number b plan.in_order there

  -- times

  rising : (i a b : ℕ) → 0 < a → a ≤ b → b ≤ length (times_of bs i) → time_of bs i a ≤ time_of bs i b
  rising i a b some less fits =
      elim (cases_eq a b) [
        | inl same ↦ rw same (omega arith)
        | inr apart ↦ omega (arith, time_of-rises bs i a b (times-rise bs i plan.rising) some (omega arith) fits)
      ]

  seen_some : (k a : ℕ) → 0 < a → seen_by d.links bs k a ≡ count_until (times_of bs (writer k)) (time_of bs (reader k) a)
  seen_some k zero some = absurd (omega arith)
  seen_some k (suc a) some = refl

  early : (k a n : ℕ) → 0 < a → seen_by d.links bs k a < n → n ≤ length (times_of bs (writer k)) → time_of bs (reader k) a < time_of bs (writer k) n
  early k a n some unseen fits =
      let times : List ℕ = times_of bs (writer k) in
      elim (cases_lt (time_of bs (reader k) a) (time_of bs (writer k) n)) [
        | inl less ↦ less
        | inr come ↦
            let counted : n - 1 < count_until times (time_of bs (reader k) a) =
            come_counted times (n - 1) (get_or times (n - 1) 0) (time_of bs (reader k) a) (times-rise bs (writer k) plan.rising) (slice_get-get_or times (n - 1) 0 (omega arith)) come in
            absurd (omega (arith, seen_some k a some))
      ]

  -- an instance of the first batches sees only what these batches name
  seen_first : (number k a : ℕ) → a ≤ length (times_of (take number bs) (reader k)) → seen_by d.links bs k a ≤ length (times_of (take number bs) (writer k))
  seen_first number k zero within = omega arith
  seen_first number k (suc a) within =
      let place : suc a - 1 ≡ a = omega arith in
      rw place (come_before bs number (reader k) (writer k) a up (omega arith))

  -- the numbers before each place

  pub record AtPlace (place : ℕ) : Type 0 where
    pub opens_aims : (i : ℕ) → opens list place i ≤ aims list place i
    pub aims_opens : (i : ℕ) → aims list place i ≤ opens list place i + 1
    pub opens_claims : (k : ℕ) → k < length d.links → opens list place (reader k) ≤ claims list place k
    pub claims_aims : (k : ℕ) → k < length d.links → claims list place k ≤ aims list place (reader k)
    pub seen : (k : ℕ) → k < length d.links → seen_by d.links bs k (claims list place k) ≤ aims list place (writer k)

  all_aims : (i : ℕ) → count_by (is_aim i) list ≡ length (times_of bs i)
  all_aims i = every_aim d.links bs i plan.in_order

  all_claims : (k : ℕ) → k < length d.links → count_by (is_claim k) list ≡ length (times_of bs (reader k))
  all_claims k below = every_claim d.links bs k below plan.in_order

  all_opens : (i : ℕ) → count_by (is_open i) list ≡ length (times_of bs i)
  all_opens i = every_open d.links bs i plan.in_order

  at_end : (place : ℕ) → length list ≤ place → AtPlace place
  at_end place past =
      let all : take place list ≡ list = take_all place list past in
      let aimed : (i : ℕ) → aims list place i ≡ length (times_of bs i) = λ i. ap (count_by (is_aim i)) all ∙ all_aims i in
      let claimed : (k : ℕ) → k < length d.links → claims list place k ≡ length (times_of bs (reader k)) = λ k below. ap (count_by (is_claim k)) all ∙ all_claims k below in
      let opened : (i : ℕ) → opens list place i ≡ length (times_of bs i) = λ i. ap (count_by (is_open i)) all ∙ all_opens i in
      let whole : take (length bs) bs ≡ bs = take_all (length bs) bs (omega arith) in
      record {
        opens_aims = λ i. omega (arith, aimed i, opened i);
        aims_opens = λ i. omega (arith, aimed i, opened i);
        opens_claims = λ k below. omega (arith, opened (reader k), claimed k below);
        claims_aims = λ k below. omega (arith, aimed (reader k), claimed k below);
        seen = λ k below.
            let size : (i : ℕ) → length (times_of (take (length bs) bs) i) ≡ length (times_of bs i) = λ i. ap (λ l. length (times_of l i)) whole in
            omega (arith, seen_first (length bs) k (claims list place k) (omega (arith, size (reader k), claimed k below)), size (writer k), aimed (writer k));
      }

  -- a place within a batch
  module _ (place : ℕ) (action : Release) (at : Located d.links bs place action) where
    abbrev before : ℕ → ℕ
    before i = length (times_of (take at.number bs) i)

    aimed : (i : ℕ) → aims list place i ≡ before i + aims (releases_at d.links at.batch) at.inside i
    aimed i = aims_at d.links bs plan.in_order place action at i

    claimed : (k : ℕ) → k < length d.links → claims list place k ≡ before (reader k) + claims (releases_at d.links at.batch) at.inside k
    claimed k below = claims_at d.links bs plan.in_order place action at k below

    opened : (i : ℕ) → opens list place i ≡ before i + opens (releases_at d.links at.batch) at.inside i
    opened i = opens_at d.links bs plan.in_order place action at i

    order : InOrder d.links at.batch (rises at.number at.batch at.there) at.inside
    order = in_order d.links at.batch (rises at.number at.batch at.there) at.inside action at.item

    within : AtPlace place
    within = record {
      opens_aims = λ i. omega (arith, aimed i, opened i, order.opens_aims i);
      aims_opens = λ i. omega (arith, aimed i, opened i, order.aimed i, often_one i at.batch);
      opens_claims = λ k below. omega (arith, opened (reader k), claimed k below, order.opens_claims k below);
      claims_aims = λ k below. omega (arith, aimed (reader k), claimed k below, order.claims_aims k below);
      seen = λ k below. elim order.aims_first [
        | inl none ↦ omega (arith, seen_first at.number k (claims list place k) (omega (arith, claimed k below, none k)), aimed (writer k))
        | inr first ↦
            let with_own : (i : ℕ) → length (times_of (take (suc at.number) bs) i) ≡ before i + often i at.batch = λ i. times_more bs at.number i at.batch at.there in
            omega (arith, seen_first (suc at.number) k (claims list place k) (omega (arith, claimed k below, order.claims_aims k below, order.aimed (reader k), with_own (reader k))), with_own (writer k), aimed (writer k), first (writer k))
      ];
    }

    is_batch : get_or bs at.number at.batch ≡ at.batch
    is_batch = get_or_from_slice_get bs at.number at.batch at.batch at.there

    -- a task that the batch names is one of the diagram's
    named : (i : ℕ) → 0 < often i at.batch → i < length d.tasks
    named i some =
        let found = Any-from_list_any (λ n. n == i) at.batch.tasks (often_named i at.batch some) in
        let tasks : All (λ j. j < length d.tasks) at.batch.tasks = all_place (λ (b : Batch). All (λ j. j < length d.tasks) b.tasks) bs at.number at.batch plan.named at.there in
        let below : found.1 < length d.tasks = rw found.3 at (tasks found.0 found.1 found.2) in
        omega (arith, eqb-true found.1 i found.4)

    -- the batch's time is that of the instance that it names
    time_is : (i : ℕ) → 0 < often i at.batch → get_or (times_of bs i) (before i) 0 ≡ at.batch.time
    time_is i some =
        let inside : at.number < length bs = slice_get_within bs at.number at.batch at.there in
        let named : names i (get_or bs at.number at.batch) ≡ true = ap (names i) is_batch ∙ often_named i at.batch some in
        get_or_from_slice_get (times_of bs i) (before i) (get_or bs at.number at.batch).time 0 (time_here bs at.number i at.batch inside named) ∙ ap (λ (b : Batch). b.time) is_batch

    -- by it the batches up to this one have come
    come : (i : ℕ) → count_until (times_of bs i) at.batch.time ≡ before i + often i at.batch
    come i =
        let inside : at.number < length bs = slice_get_within bs at.number at.batch at.there in
        let next : at.number + 1 ≡ suc at.number = omega arith in
        ap (λ (b : Batch). count_until (times_of bs i) b.time) (sym is_batch) ∙ number-is bs i at.number at.batch up inside
        ∙ ap (λ n. length (times_of (take n bs) i)) next ∙ times_more bs at.number i at.batch at.there

  at_aim : (place i : ℕ) → slice_get list place ≡ Some (Aim i) → AtAim d list place i
  at_aim place i here =
      let at : Located d.links bs place (Aim i) = locate d.links bs place (Aim i) here in
      let once : IsStrictlyIncreasing at.batch.tasks = rises at.number at.batch at.there in
      let order : InOrder d.links at.batch once at.inside = order place (Aim i) at in
      let some : aims (releases_at d.links at.batch) at.inside i + 1 ≤ often i at.batch =
      omega (arith, found (is_aim i) (releases_at d.links at.batch) at.inside (Aim i) at.item (eq-eqb i i refl), whole_aims d.links at.batch once i) in
      let one : often i at.batch ≤ 1 = often_one i at.batch in
      record {
        named = named place (Aim i) at i (omega arith);
        opened = omega (arith, aimed place (Aim i) at i, opened place (Aim i) at i, order.opens_aims i);
        claimed = λ k below into.
            let less : claims (releases_at d.links at.batch) at.inside k ≤ aims (releases_at d.links at.batch) at.inside i =
            subst (λ r. claims (releases_at d.links at.batch) at.inside k ≤ aims (releases_at d.links at.batch) at.inside r) into (order.claims_aims k below) in
            let same : before place (Aim i) at (reader k) ≡ before place (Aim i) at i = ap (before place (Aim i) at) into in
            omega (arith, aimed place (Aim i) at i, claimed place (Aim i) at k below);
      }

  at_open : (place i : ℕ) → slice_get list place ≡ Some (OpenGate i) → AtOpen d list place i
  at_open place i here =
      let at : Located d.links bs place (OpenGate i) = locate d.links bs place (OpenGate i) here in
      let once : IsStrictlyIncreasing at.batch.tasks = rises at.number at.batch at.there in
      let own : AmongOpens d.links at.batch once at.inside (OpenGate i) = at_open_part d.links at.batch once at.inside i at.item in
      let some : opens (releases_at d.links at.batch) at.inside i + 1 ≤ often i at.batch =
      omega (arith, found (is_open i) (releases_at d.links at.batch) at.inside (OpenGate i) at.item (eq-eqb i i refl), whole_opens d.links at.batch once i) in
      let one : often i at.batch ≤ 1 = often_one i at.batch in
      record {
        named = named place (OpenGate i) at i (omega arith);
        aimed = omega (arith, aimed place (OpenGate i) at i, opened place (OpenGate i) at i, own.aimed i);
        claimed = λ k below into.
            let same : before place (OpenGate i) at (reader k) ≡ before place (OpenGate i) at i = ap (before place (OpenGate i) at) into in
            let all : often (reader k) at.batch ≡ often i at.batch = ap (λ r. often r at.batch) into in
            omega (arith, aimed place (OpenGate i) at i, claimed place (OpenGate i) at k below, own.aimed i, own.claimed k below);
      }

  claim_named : (place k : ℕ) → slice_get list place ≡ Some (Claim k) → k < length d.links
  claim_named place k here =
      let at : Located d.links bs place (Claim k) = locate d.links bs place (Claim k) here in
      elim (cases_lt k (length d.links)) [
        | inl below ↦ below
        | inr past ↦ absurd (claimed_there d.links at.batch (rises at.number at.batch at.there) at.inside k at.item past)
      ]

  at_claim : (place k : ℕ) → slice_get list place ≡ Some (Claim k) → AtClaim d bs list place k
  at_claim place k here =
      let at : Located d.links bs place (Claim k) = locate d.links bs place (Claim k) here in
      let once : IsStrictlyIncreasing at.batch.tasks = rises at.number at.batch at.there in
      let own : AmongClaims d.links at.batch once at.inside (Claim k) = at_claim_part d.links at.batch once at.inside k at.item in
      let below : k < length d.links = claim_named place k here in
      let some : claims (releases_at d.links at.batch) at.inside k + 1 ≤ often (reader k) at.batch =
      omega (arith, found (is_claim k) (releases_at d.links at.batch) at.inside (Claim k) at.item (eq-eqb k k refl), whole_claims d.links at.batch once k below) in
      let one : often (reader k) at.batch ≤ 1 = often_one (reader k) at.batch in
      let reached : aims list place (reader k) ≡ before place (Claim k) at (reader k) + 1 = omega (arith, aimed place (Claim k) at (reader k), own.aimed (reader k)) in
      let instance : aims list place (reader k) - 1 ≡ before place (Claim k) at (reader k) = omega arith in
      let now : time_of bs (reader k) (aims list place (reader k)) ≡ at.batch.time = ap (λ n. get_or (times_of bs (reader k)) n 0) instance ∙ time_is place (Claim k) at (reader k) (omega arith) in
      let all : (w : ℕ) → aims list place w ≡ count_until (times_of bs w) (time_of bs (reader k) (aims list place (reader k))) =
      λ w. aimed place (Claim k) at w ∙ ap (λ n. before place (Claim k) at w + n) (own.aimed w) ∙ sym (come place (Claim k) at w) ∙ ap (count_until (times_of bs w)) (sym now) in
      record {
        named = below;
        claimed = omega (arith, claimed place (Claim k) at k below);
        opened = omega (arith, opened place (Claim k) at (reader k), own.opened (reader k));
        seen = seen_some k (aims list place (reader k)) (omega arith) ∙ sym (all (writer k));
        all_aims = all;
      }

  each_place : (place : ℕ) → AtPlace place
  each_place place =
      elim (cases_lt place (length list)) [
        | inl inside ↦
            let here : (action : Release) × (slice_get list place ≡ Some action) = at_place list place inside in
            within place here.0 (locate d.links bs place here.0 here.1)
        | inr past ↦ at_end place past
      ]

  pub scheduled : IsSchedule d bs list
  scheduled =
      let whole : take (length list) list ≡ list = take_all (length list) list (omega arith) in
      record {
        opens_aims = λ place. (each_place place).opens_aims;
        aims_opens = λ place. (each_place place).aims_opens;
        opens_claims = λ place. (each_place place).opens_claims;
        claims_aims = λ place. (each_place place).claims_aims;
        seen = λ place. (each_place place).seen;
        aims_times = λ place i. omega (arith, before_few (is_aim i) list place, all_aims i);
        all_aims = λ i. ap (count_by (is_aim i)) whole ∙ all_aims i;
        all_claims = λ k below. ap (count_by (is_claim k)) whole ∙ all_claims k below;
        all_opens = λ i. ap (count_by (is_open i)) whole ∙ all_opens i;
        rising = rising;
        early = λ k a n below. early k a n;
        at_aim = at_aim;
        at_claim = at_claim;
        at_open = at_open;
      }
