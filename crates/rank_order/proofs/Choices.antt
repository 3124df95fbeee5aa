-- The first of those for which something holds: there is one at most, and it depends only on what holds.
use Rattle.std.proofs.Common.{◌≡◌, ◌≢◌, ℕ, ◌⊎◌, Option, Some, None, refl, sym, ap, ◌∙◌, subst, inl, inr, ⊎_elim}
use Rattle.std.specs.Prelude.{if◌then◌else◌}
use Rattle.std.proofs.lemmas.Bool.{cases_eq, eq-eqb, ne_eqb}
use Rattle.rank_order.specs.Instances.{Instance}
use Rattle.rank_order.specs.Service.{IsFirst, is_served}

module _ {X : Type 0} (before : X → X → Type 0) (not_both : (x y : X) → before x y → before y x → ⊥) where
  pub one_first : (Q : X → Type 0) (o o' : Option X) → IsFirst before Q o → IsFirst before Q o' → o ≡ o'
  one_first Q None None h k = refl
  one_first Q None (Some y) h k = absurd (h y k.0)
  one_first Q (Some x) None h k = absurd (k x h.0)
  one_first Q (Some x) (Some y) h k =
      ⊎_elim (λ same. ap Some (sym same)) (λ earlier. ⊎_elim (λ same. ap Some same) (λ later. absurd (not_both x y earlier later)) (k.1 x h.0)) (h.1 y k.0)

-- the same first, if the same holds
pub first_like : {X : Type 0} (before : X → X → Type 0) (Q R : X → Type 0) (o : Option X) → ((x : X) → Q x → R x) → ((x : X) → R x → Q x)
    → IsFirst before Q o → IsFirst before R o
first_like before Q R None there back h = λ y r. h y (back y r)
first_like before Q R (Some x) there back h = (there x h.0, λ y r. h.1 y (back y r))

pub same_instance : (x y : Instance) → x.task ≡ y.task → x.number ≡ y.number → x ≡ y
same_instance x y task number =
    ap (λ (i : ℕ). let z : Instance = record { task = i; number = x.number } in z) task
    ∙ ap (λ (n : ℕ). let z : Instance = record { task = y.task; number = n } in z) number

pub cases_instance : (x y : Instance) → (x ≡ y) ⊎ (x ≢ y)
cases_instance x y =
    ⊎_elim
    (λ task. ⊎_elim (λ number. inl (same_instance x y task number)) (λ apart. inr (λ same. apart (ap (λ (z : Instance). z.number) same))) (cases_eq x.number y.number))
    (λ apart. inr (λ same. apart (ap (λ (z : Instance). z.task) same)))
    (cases_eq x.task y.task)

-- a tick's part in the served ticks of the instance
abbrev pub tick_of : Instance → Option Instance → ℕ
tick_of x o = if is_served x o then 1 else 0

pub tick_own : (x : Instance) → tick_of x (Some x) ≡ 1
tick_own x = rw (eq-eqb x.task x.task refl, eq-eqb x.number x.number refl) refl

pub tick_other : (x y : Instance) → y ≢ x → tick_of x (Some y) ≡ 0
tick_other x y apart = elim (cases_eq y.task x.task) [
  | inl same ↦ rw (eq-eqb y.task x.task same, ne_eqb y.number x.number (λ number. apart (same_instance y x same number))) refl
  | inr other ↦ rw (ne_eqb y.task x.task other) refl
]

-- whether a tick is given to the instance
pub tick_cases : (o : Option Instance) (x : Instance) → ((o ≡ Some x) × (tick_of x o ≡ 1)) ⊎ ((o ≢ Some x) × (tick_of x o ≡ 0))
tick_cases None x = inr ((λ same. cc), refl)
tick_cases (Some y) x = elim (cases_instance y x) [
  | inl same ↦ inl (ap Some same, subst (λ (z : Instance). tick_of x (Some z) ≡ 1) (sym same) (tick_own x))
  | inr apart ↦ inr ((λ same. apart (cc)), tick_other x y apart)
]
