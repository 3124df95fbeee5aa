-- Whether a slot is claimed or stays kept.
use Rattle.std.proofs.Common.{◌≡◌, ℕ, zero, suc, ◌<◌, ◌⊎◌, Bool, true, Contains, length, Option, Some, None, refl, sym, ap, ◌∙◌, arith, inl, inr}
use Rattle.std.specs.Prelude.{is_some, unwrap_or, if◌then◌else◌}
use Rattle.std.specs.Bool.{Decides}
use Rattle.std.specs.Option.{option_or}
use Rattle.std.proofs.lemmas.Bool.{cases_Bool}
use Rattle.dbp_rules.specs.PartyRules as rule
use Rattle.dbp_rules.specs.PartyRules.{claimed_in, kept_after_aim}
use Rattle.dbp_rules.specs.declared.parts.ReleaserPart.{ReleaserPart}
use Rattle.dbp_rules.specs.declared.parts.TaskEntry.{TaskEntry}
use Rattle.dbp_rules.specs.declared.wiring.Wiring.{Wiring}
use Rattle.dbp_rules.proofs.Aims.{least_none}
use Rattle.dbp_rules.proofs.FreeAims.{any_contains, claimed_by, claiming, contains_any}

either : (x y : Option ℕ) (k : ℕ) → option_or x y ≡ Some k → (x ≡ Some k) ⊎ (y ≡ Some k)
either None y k is = inr is
either (Some x) y k is = inl is

-- the least number that passes does so
least_found : (f : ℕ → Bool) (n k : ℕ) → rule.least f n ≡ Some k → (k < n) × (f k ≡ true)
least_found f zero k is = absurd (cc (is))
least_found f (suc n) k is = elim (either (rule.least f n) (if f n then Some n else None) k is) [
  | inl before ↦ let found = least_found f n k before in (omega (arith, found.0), found.1)
  | inr last ↦ elim (cases_Bool (f n)) [
    | inl passes ↦
        let here : Some n ≡ Some k = rw passes at last in
        let same : n ≡ k = ap (λ o. unwrap_or o 0) here in
        (omega (arith, same), sym (ap f same) ∙ passes)
    | inr fails ↦ let bad : None ≡ Some k = rw fails at last in absurd (cc (bad))
  ]
]

-- a slot is claimed if a link is found that claims it
pub claims_answer : (w : Wiring) (r : ReleaserPart) (i slot : ℕ) (o : Option ℕ) → o ≡ rule.least (rule.claims_slot_in w r i slot) (length w.links) → Decides (is_some o) (Contains (claimed_in w r i) slot)
claims_answer w r i slot None is = (
  λ bad. absurd (cc (bad)),
  λ there.
      let by = claiming w r i slot there in
      let none = least_none (rule.claims_slot_in w r i slot) (length w.links) by.0 (sym is) by.1 in
      absurd (cc (none, by.2)),
)
claims_answer w r i slot (Some k) is = (
  λ _. let found = least_found (rule.claims_slot_in w r i slot) (length w.links) k (sym is) in claimed_by w r i slot k found.0 found.1,
  λ _. refl,
)

pub kept_answer : (e : TaskEntry) (slot : ℕ) → Decides (rule.stays_kept e slot) (Contains (kept_after_aim e) slot)
kept_answer e slot = (any_contains (kept_after_aim e) slot, contains_any (kept_after_aim e) slot)
