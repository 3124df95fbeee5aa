-- When an aim is allowed.
use Rattle.std.proofs.Common.{◌≡◌, ℕ, zero, suc, ◌<◌, Bool, true, false, length, Option, Some, None, refl, arith, inl, inr}
use Rattle.std.specs.Prelude.{◌==◌, nat_lt, not, slice_get, if◌then◌else◌}
use Rattle.std.specs.Option.{option_or}
use Rattle.std.proofs.lemmas.Bool.{cases_Bool, cases_lt, eq-eqb, eqb-true, lt-ltb, ltb-true}
use Rattle.release_list.specs.declared.release.Release.TheVariants as release
use Rattle.dbp_rules.specs.PartyRules as rule
use Rattle.dbp_rules.specs.Lookups.{entry_in, wired_task}
use Rattle.dbp_rules.specs.declared.parts.ReleaserPart.{ReleaserPart}
use Rattle.dbp_rules.specs.declared.step.Broken.TheVariants as broken
use Rattle.dbp_rules.specs.declared.step.Step.TheVariants.{Aim}
use Rattle.dbp_rules.specs.declared.wiring.Wiring.{Wiring}
use Rattle.dbp_rules.proofs.Allowed.{at_aim, next_none, none_found, or_else_none, unless_none}

-- ---- searches that find nothing

neither : (x y : Option ℕ) → option_or x y ≡ None → (x ≡ None) × (y ≡ None)
neither None y none = (refl, none)
neither (Some x) y none = absurd (cc)

pub least_none : (f : ℕ → Bool) (n k : ℕ) → rule.least f n ≡ None → k < n → f k ≡ false
least_none f zero k none below = absurd (omega arith)
least_none f (suc n) k none below =
    let both = neither (rule.least f n) (if f n then Some n else None) none in
    elim (cases_lt k n) [
      | inl less ↦ least_none f n k both.0 less
      | inr at ↦
          let same : k ≡ n = omega arith in
          elim (cases_Bool (f n)) [
            | inl is ↦ let bad : Some n ≡ None = rw is at both.1 in absurd (cc (bad))
            | inr isnt ↦ rw same isnt
          ]
    ]

none_least : (f : ℕ → Bool) (n : ℕ) → ((k : ℕ) → k < n → f k ≡ false) → rule.least f n ≡ None
none_least f zero all = refl
none_least f (suc n) all = rw (none_least f n (λ k below. all k (omega arith)), all n (omega arith)) refl

not_true : (b : Bool) → not b ≡ true → b ≡ false
not_true true is = absurd (cc (is))
not_true false is = refl

-- ---- aims

-- the aim is the releaser's next action, the last instance is known to have ended, and the slot is one of the task's,
-- which neither stays kept nor is claimed over a counted link
pub record IsAllowedAim (w : Wiring) (r : ReleaserPart) (i slot : ℕ) : Type 0 where
  pub here : slice_get w.releases r.place ≡ Some (release.Aim i)
  pub known : (entry_in r i).aimed ≡ (entry_in r i).known
  pub below : slot < (wired_task w i).slots
  pub fresh : rule.stays_kept (entry_in r i) slot ≡ false
  pub unclaimed : (k : ℕ) → k < length w.links → rule.claims_slot_in w r i slot k ≡ false

pub aim_allowed : (w : Wiring) (r : ReleaserPart) (i slot : ℕ) → rule.releaser_refusal w r (Aim i slot) ≡ None → IsAllowedAim w r i slot
aim_allowed w r i slot free =
    let first = or_else_none (rule.releaser_next w r 2 i) _ free in
    let second = or_else_none (rule.unless ((entry_in r i).aimed == (entry_in r i).known) broken.LastNotEnded (entry_in r i).aimed (entry_in r i).known) _ first.1 in
    let third = or_else_none (rule.unless (nat_lt slot (wired_task w i).slots) broken.SlotRange (wired_task w i).slots slot) _ second.1 in
    let fourth = or_else_none (rule.unless (not (rule.stays_kept (entry_in r i) slot)) broken.SlotKept slot slot) _ third.1 in
    let next = next_none broken.Place (rule.release_kind (slice_get w.releases r.place)) 2 i first.0 in
    record {
      here = at_aim (slice_get w.releases r.place) i next.0 next.1;
      known = eqb-true (entry_in r i).aimed (entry_in r i).known (unless_none ((entry_in r i).aimed == (entry_in r i).known) broken.LastNotEnded (entry_in r i).aimed (entry_in r i).known second.0);
      below = ltb-true slot (wired_task w i).slots (unless_none (nat_lt slot (wired_task w i).slots) broken.SlotRange (wired_task w i).slots slot third.0);
      fresh = not_true (rule.stays_kept (entry_in r i) slot) (unless_none (not (rule.stays_kept (entry_in r i) slot)) broken.SlotKept slot slot fourth.0);
      unclaimed = λ k fits. least_none (rule.claims_slot_in w r i slot) (length w.links) k (none_found (rule.least (rule.claims_slot_in w r i slot) (length w.links)) broken.SlotClaimed slot fourth.1) fits;
    }

pub allowed_aim : (w : Wiring) (r : ReleaserPart) (i slot : ℕ) → IsAllowedAim w r i slot → rule.releaser_refusal w r (Aim i slot) ≡ None
allowed_aim w r i slot a =
    let known : ((entry_in r i).aimed == (entry_in r i).known) ≡ true = eq-eqb (entry_in r i).aimed (entry_in r i).known a.known in
    let below : nat_lt slot (wired_task w i).slots ≡ true = lt-ltb slot (wired_task w i).slots a.below in
    let none : rule.least (rule.claims_slot_in w r i slot) (length w.links) ≡ None = none_least (rule.claims_slot_in w r i slot) (length w.links) a.unclaimed in
    rw (a.here, eq-eqb i i refl, known, below, a.fresh, none) refl
