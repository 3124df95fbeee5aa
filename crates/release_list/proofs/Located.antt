-- A place of the releaser's list is one of a batch's, after those of the batches before it.
use Rattle.std.proofs.Common.{◌≡◌, ℕ, suc, ◌+◌, ◌<◌, inl, inr, Bool, All, List, [], ◌∷◌, ◌++◌, length, take, Some, refl, sym, ap, ◌∙◌, arith, append_assoc}
use Rattle.std.specs.Prelude.{count_by, slice_get}
use Rattle.std.specs.List.Sorted.{IsStrictlyIncreasing}
use Rattle.std.proofs.lemmas.List.Elements.{All-take}
use Rattle.dbp_plan.specs.declared.diagram.Link.{Link}
use Rattle.dbp_plan.specs.declared.schedule.Batch.{Batch}
use Rattle.dbp_plan.specs.Occurrences.{times_of}
use Rattle.dbp_plan.specs.Lookups.{link_at}
use Rattle.dbp_plan.proofs.Counts.{count-append}
use Rattle.dbp_plan.proofs.TaskTimes.{times_cons}
use Rattle.release_list.specs.declared.release.Release.{Release}
use Rattle.release_list.specs.Releases.{releases_at, releases_of}
use Rattle.release_list.specs.Schedule.{is_aim, is_claim, is_open, aims, claims, opens}
use Rattle.release_list.proofs.BatchParts.{whole_aims, whole_claims, whole_opens}
use Rattle.release_list.proofs.JoinedLists.{split}

pub record Located (links : List Link) (bs : List Batch) (place : ℕ) (action : Release) : Type 0 where
  pub number : ℕ
  pub batch : Batch
  pub there : slice_get bs number ≡ Some batch
  pub inside : ℕ
  pub item : slice_get (releases_at links batch) inside ≡ Some action
  pub before : take place (releases_of links bs) ≡ releases_of links (take number bs) ++ take inside (releases_at links batch)

pub locate : (links : List Link) (bs : List Batch) (place : ℕ) (action : Release) → slice_get (releases_of links bs) place ≡ Some action → Located links bs place action
locate links [] place action here = absurd (cc (here))
locate links (b ∷ bs) place action here =
    elim (split (releases_at links b) (releases_of links bs) place action here) [
      | inl first ↦ record { number = 0; batch = b; there = refl; inside = place; item = first.item; before = first.before }
      | inr second ↦
          let rest : Located links bs second.rest action = locate links bs second.rest action second.item in
          record {
            number = suc rest.number;
            batch = rest.batch;
            there = rest.there;
            inside = rest.inside;
            item = rest.item;
            before =
                second.before ∙ ap (λ l. releases_at links b ++ l) rest.before
                ∙ sym (append_assoc (releases_at links b) (releases_of links (take rest.number bs)) (take rest.inside (releases_at links rest.batch)));
          }
    ]

-- all batches name each of their tasks once
abbrev pub Once : List Batch → Type 0
Once bs = All (λ b. IsStrictlyIncreasing b.tasks) bs

once_first : (b : Batch) (bs : List Batch) → Once (b ∷ bs) → IsStrictlyIncreasing b.tasks
once_first b bs once = once 0 b (omega arith)

once_rest : (b : Batch) (bs : List Batch) → Once (b ∷ bs) → Once bs
once_rest b bs once = λ k d below. once (suc k) d (omega arith)

module _ (links : List Link) where
  abbrev reader : ℕ → ℕ
  reader k = (link_at links k).reader

  pub every_aim : (bs : List Batch) (i : ℕ) → Once bs → count_by (is_aim i) (releases_of links bs) ≡ length (times_of bs i)
  every_aim [] i once = refl
  every_aim (b ∷ bs) i once =
      omega (arith, count-append (is_aim i) (releases_at links b) (releases_of links bs), whole_aims links b (once_first b bs once) i, every_aim bs i (once_rest b bs once), times_cons b bs i)

  pub every_claim : (bs : List Batch) (k : ℕ) → k < length links → Once bs → count_by (is_claim k) (releases_of links bs) ≡ length (times_of bs (reader k))
  every_claim [] k below once = refl
  every_claim (b ∷ bs) k below once =
      omega (arith, count-append (is_claim k) (releases_at links b) (releases_of links bs), whole_claims links b (once_first b bs once) k below, every_claim bs k below (once_rest b bs once), times_cons b bs (reader k))

  pub every_open : (bs : List Batch) (i : ℕ) → Once bs → count_by (is_open i) (releases_of links bs) ≡ length (times_of bs i)
  every_open [] i once = refl
  every_open (b ∷ bs) i once =
      omega (arith, count-append (is_open i) (releases_at links b) (releases_of links bs), whole_opens links b (once_first b bs once) i, every_open bs i (once_rest b bs once), times_cons b bs i)

  -- the numbers before a place: those of the batches before it, and those of its own
  module _ (bs : List Batch) (once : Once bs) (place : ℕ) (action : Release) (at : Located links bs place action) where
    both : (test : Release → Bool) → count_by test (take place (releases_of links bs)) ≡ count_by test (releases_of links (take at.number bs)) + count_by test (take at.inside (releases_at links at.batch))
    both test = ap (count_by test) at.before ∙ count-append test (releases_of links (take at.number bs)) (take at.inside (releases_at links at.batch))

    front_once : Once (take at.number bs)
    front_once = All-take (λ (b : Batch). IsStrictlyIncreasing b.tasks) at.number bs once

    pub aims_at : (i : ℕ) → aims (releases_of links bs) place i ≡ length (times_of (take at.number bs) i) + aims (releases_at links at.batch) at.inside i
    aims_at i = omega (arith, both (is_aim i), every_aim (take at.number bs) i front_once)

    pub claims_at : (k : ℕ) → k < length links → claims (releases_of links bs) place k ≡ length (times_of (take at.number bs) (reader k)) + claims (releases_at links at.batch) at.inside k
    claims_at k below = omega (arith, both (is_claim k), every_claim (take at.number bs) k below front_once)

    pub opens_at : (i : ℕ) → opens (releases_of links bs) place i ≡ length (times_of (take at.number bs) i) + opens (releases_at links at.batch) at.inside i
    opens_at i = omega (arith, both (is_open i), every_open (take at.number bs) i front_once)
