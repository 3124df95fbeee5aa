-- What is known of an allowed step.
use Rattle.std.proofs.Common.{◌≡◌, ℕ, Bool, true, false, Option, Some, None, refl, sym, ap, ◌∙◌, arith, inl, inr, eqb}
use Rattle.std.specs.Prelude.{◌==◌, if◌then◌else◌}
use Rattle.std.proofs.lemmas.Bool.{cases_Bool, eqb-true}
use Rattle.release_list.specs.declared.release.Release.{Release}
use Rattle.release_list.specs.declared.release.Release.TheVariants.{Aim, Claim, OpenGate}
use Rattle.dbp_rules.specs.Rules.{is_next, none_of, or_else, place_kind, release_kind, unless}
use Rattle.dbp_rules.specs.Shapes.{place_number}
use Rattle.dbp_rules.specs.declared.parts.Place.{Place}
use Rattle.dbp_rules.specs.declared.parts.Place.TheVariants as place
use Rattle.dbp_rules.specs.declared.step.Broken.{Broken}
use Rattle.dbp_rules.specs.declared.step.Illegal.{Illegal}
use Rattle.dbp_rules.specs.declared.wiring.TaskWiring.{TaskWiring}

pub or_else_none : (x y : Option Illegal) → or_else x y ≡ None → (x ≡ None) × (y ≡ None)
or_else_none None y none = (refl, none)
or_else_none (Some x) y none = absurd (cc)

pub unless_none : (b : Bool) (broken : Broken) (l r : ℕ) → unless b broken l r ≡ None → b ≡ true
unless_none true broken l r none = refl
unless_none false broken l r none = absurd (cc)

pub none_found : (o : Option ℕ) (b : Broken) (r : ℕ) → none_of o b r ≡ None → o ≡ None
none_found None b r none = refl
none_found (Some x) b r none = absurd (cc)

pub next_none : (b : Broken) (next : ℕ × ℕ) (kind operand : ℕ) → is_next b next kind operand ≡ None → (next.0 ≡ kind) × (next.1 ≡ operand)
next_none b next kind operand none = elim (cases_Bool (eqb next.0 kind)) [
  | inl same ↦
      let left : unless (eqb next.1 operand) b next.0 13 ≡ None = rw same at none in
      (eqb-true next.0 kind same, eqb-true next.1 operand (unless_none (eqb next.1 operand) b next.0 13 left))
  | inr other ↦ let bad : unless false b next.0 kind ≡ None = rw other at none in absurd (cc)
]

pub at_aim : (o : Option Release) (i : ℕ) → (release_kind o).0 ≡ 2 → (release_kind o).1 ≡ i → o ≡ Some (Aim i)
at_aim None i kind is = absurd (omega arith)
at_aim (Some (Aim j)) i kind is = ap (λ n. Some (Aim n)) is
at_aim (Some (Claim j)) i kind is = absurd (omega arith)
at_aim (Some (OpenGate j)) i kind is = absurd (omega arith)

pub at_claim : (o : Option Release) (k : ℕ) → (release_kind o).0 ≡ 3 → (release_kind o).1 ≡ k → o ≡ Some (Claim k)
at_claim None k kind is = absurd (omega arith)
at_claim (Some (Aim j)) k kind is = absurd (omega arith)
at_claim (Some (Claim j)) k kind is = ap (λ n. Some (Claim n)) is
at_claim (Some (OpenGate j)) k kind is = absurd (omega arith)

pub at_open : (o : Option Release) (i : ℕ) → (release_kind o).0 ≡ 4 → (release_kind o).1 ≡ i → o ≡ Some (OpenGate i)
at_open None i kind is = absurd (omega arith)
at_open (Some (Aim j)) i kind is = absurd (omega arith)
at_open (Some (Claim j)) i kind is = absurd (omega arith)
at_open (Some (OpenGate j)) i kind is = ap (λ n. Some (OpenGate n)) is

-- the place of this kind with this number
abbrev pub place_of : ℕ → ℕ → Place
place_of kind n =
    if kind == 5 then place.Idle
    else (if kind == 6 then place.Hear n
    else (if kind == 7 then place.Look n
    else (if kind == 8 then place.Take n
    else (if kind == 9 then place.Shut
    else (if kind == 10 then place.Put n
    else (if kind == 11 then place.Done else place.End))))))

place_again : (t : TaskWiring) (q : Place) → place_of (place_kind t q).0 (place_number q) ≡ q
place_again t place.Idle = refl
place_again t (place.Hear n) = refl
place_again t (place.Look n) = refl
place_again t (place.Take n) = refl
place_again t place.Shut = refl
place_again t (place.Put n) = refl
place_again t place.Done = refl
place_again t place.End = refl

-- the place of a task from the kind of its next step
pub at_next : (b : Broken) (t : TaskWiring) (q : Place) (kind operand : ℕ) → is_next b (place_kind t q) kind operand ≡ None → q ≡ place_of kind (place_number q)
at_next b t q kind operand none = sym (place_again t q) ∙ ap (λ k. place_of k (place_number q)) (next_none b (place_kind t q) kind operand none).0
