-- The turns of the reads that are made at one tick: after those of earlier ticks, in order of declaration.
use Rattle.std.proofs.Common.{◌≡◌, ◌≢◌, ℕ, zero, suc, ◌+◌, ◌-◌, ◌<◌, Bool, true, false, cond, List, [], ◌∷◌, length, get_or, take, refl, ap, ◌∙◌, arith, inl, inr}
use Rattle.std.specs.Prelude.{count_by, nat_lt, ◌==◌, ◌&&◌}
use Rattle.std.specs.List.{enumerate_from}
use Rattle.std.proofs.lemmas.Bool.{cases_eq, cases_lt, eq-eqb, ne_eqb, lt-ltb, le-ltb}
use Rattle.std.proofs.lemmas.Option.{slice_get-get_or}
use Rattle.dbp_plan.specs.declared.diagram.Read.{Read}
use Rattle.dbp_plan.specs.Lookups.{declared_task, no_read}
use Rattle.dbp_plan.proofs.Counts.{count-cons}
use Rattle.dbp_rules.specs.Lookups.{read_at, wired_task}
use Rattle.dbp_rules.specs.Wired.{is_sooner, turn_of}
use Rattle.dbp_rules.specs.declared.wiring.ReadWiring.{ReadWiring}
use Rattle.dbp_rules.specs.declared.wiring.TaskWiring.{TaskWiring}
use Rattle.dbp_rules.proofs.SoundOwn.{turn_found}
use Rattle.dbp_rules.proofs.Turns.{turn_below}
use Rattle.dbp_rules.proofs.Wirings.{turn}
use Rattle.instance_steps.specs.Recorders.{count_in, plan_in, wiring_in}
use Rattle.instance_steps.specs.TaskPieces.{turn_in}
use Rattle.instance_steps.specs.declared.recorder.Recorder.{Recorder}
use Rattle.instance_steps.proofs.Adding.{wired_in}

-- ---- counts

and_true : (b : Bool) → (b && true) ≡ b
and_true true = refl
and_true false = refl

pub and_false : (b : Bool) → (b && false) ≡ false
and_false true = refl
and_false false = refl

take_none : (k : ℕ) → take {A = Read} k [] ≡ []
take_none zero = refl
take_none (suc k) = refl

-- a sooner read is one of an earlier tick, or an earlier one of the same
one_sooner : (a n : ℕ) (x q : Read) → cond {A = ℕ} (is_sooner (a, x) (n, q)) 1 0 ≡ cond (nat_lt x.at q.at) 1 0 + cond ((x.at == q.at) && nat_lt a n) 1 0
one_sooner a n x q = elim (cases_lt x.at q.at) [
  | inl less ↦
      let other : x.at ≢ q.at = λ same. omega arith in
      rw (lt-ltb x.at q.at less, ne_eqb x.at q.at other) (omega arith)
  | inr more ↦ rw (le-ltb x.at q.at more) (omega arith)
]

count_sooner : (a n : ℕ) (q : Read) (xs : List Read) → count_by (λ y. is_sooner y (n, q)) (enumerate_from a xs) ≡ count_by (λ x. nat_lt x.at q.at) xs + count_by (λ x. x.at == q.at) (take (n - a) xs)
count_sooner a n q [] = rw (take_none (n - a)) (omega arith)
count_sooner a n q (x ∷ xs) =
    let rest : count_by (λ y. is_sooner y (n, q)) (enumerate_from (a + 1) xs) ≡ count_by (λ x. nat_lt x.at q.at) xs + count_by (λ x. x.at == q.at) (take (n - (a + 1)) xs) = count_sooner (a + 1) n q xs in
    let first : count_by (λ y. is_sooner y (n, q)) (enumerate_from a (x ∷ xs)) ≡ cond (is_sooner (a, x) (n, q)) 1 0 + count_by (λ y. is_sooner y (n, q)) (enumerate_from (a + 1) xs) =
    count-cons (λ y. is_sooner y (n, q)) (a, x) (enumerate_from (a + 1) xs) in
    let lower : count_by (λ x. nat_lt x.at q.at) (x ∷ xs) ≡ cond (nat_lt x.at q.at) 1 0 + count_by (λ x. nat_lt x.at q.at) xs = count-cons (λ (x : Read). nat_lt x.at q.at) x xs in
    elim (cases_lt a n) [
      | inl less ↦
          let here : cond {A = ℕ} ((x.at == q.at) && nat_lt a n) 1 0 ≡ cond (x.at == q.at) 1 0 = rw (lt-ltb a n less, and_true (x.at == q.at)) refl in
          let one : n - a ≡ suc (n - (a + 1)) = omega arith in
          let more : count_by (λ x. x.at == q.at) (take (n - a) (x ∷ xs)) ≡ cond (x.at == q.at) 1 0 + count_by (λ x. x.at == q.at) (take (n - (a + 1)) xs) =
          ap (λ (k : ℕ). count_by (λ x. x.at == q.at) (take k (x ∷ xs))) one ∙ count-cons (λ (x : Read). x.at == q.at) x (take (n - (a + 1)) xs) in
          omega (arith, rest, first, lower, here, more, one_sooner a n x q)
      | inr past ↦
          let here : cond {A = ℕ} ((x.at == q.at) && nat_lt a n) 1 0 ≡ 0 = rw (le-ltb a n past, and_false (x.at == q.at)) refl in
          let none : n - a ≡ 0 = omega arith in
          let none_ : n - (a + 1) ≡ 0 = omega arith in
          let more : count_by (λ x. x.at == q.at) (take (n - a) (x ∷ xs)) ≡ 0 = ap (λ (k : ℕ). count_by (λ x. x.at == q.at) (take k (x ∷ xs))) none in
          let less : count_by (λ x. x.at == q.at) (take (n - (a + 1)) xs) ≡ 0 = ap (λ (k : ℕ). count_by (λ x. x.at == q.at) (take k xs)) none_ in
          omega (arith, rest, first, lower, here, more, less, one_sooner a n x q)
    ]

-- the turn of a read that is made at this tick
pub turn_counts : (reads : List Read) (j served : ℕ) → (get_or reads j no_read).at ≡ served → turn_of reads (j, get_or reads j no_read) ≡ count_by (λ r. nat_lt r.at served) reads + count_by (λ r. r.at == served) (take j reads)
turn_counts reads j served is =
    let all : j - 0 ≡ j = omega arith in
    count_sooner 0 j (get_or reads j no_read) reads
    ∙ ap (λ (k : ℕ). count_by (λ r. nat_lt r.at (get_or reads j no_read).at) reads + count_by (λ r. r.at == (get_or reads j no_read).at) (take k reads)) all
    ∙ ap (λ (t : ℕ). count_by (λ r. nat_lt r.at t) reads + count_by (λ r. r.at == t) (take j reads)) is

-- reads of earlier ticks than the next: those of earlier ones, and of this one
one_earlier : (t : ℕ) (x : Read) → cond {A = ℕ} (nat_lt x.at (t + 1)) 1 0 ≡ cond (nat_lt x.at t) 1 0 + cond (x.at == t) 1 0
one_earlier t x = elim (cases_lt x.at t) [
  | inl less ↦
      let other : x.at ≢ t = λ same. omega arith in
      rw (lt-ltb x.at t less, lt-ltb x.at (t + 1) (omega arith), ne_eqb x.at t other) (omega arith)
  | inr more ↦ elim (cases_eq x.at t) [
    | inl same ↦ rw (le-ltb x.at t more, lt-ltb x.at (t + 1) (omega arith), eq-eqb x.at t same) (omega arith)
    | inr other ↦ rw (le-ltb x.at t more, le-ltb x.at (t + 1) (omega arith), ne_eqb x.at t other) (omega arith)
  ]
]

pub count_earlier : (t : ℕ) (xs : List Read) → count_by (λ r. nat_lt r.at (t + 1)) xs ≡ count_by (λ r. nat_lt r.at t) xs + count_by (λ r. r.at == t) xs
count_earlier t [] = omega arith
count_earlier t (x ∷ xs) =
    omega
    (arith, count_earlier t xs, one_earlier t x, count-cons (λ (r : Read). nat_lt r.at (t + 1)) x xs, count-cons (λ (r : Read). nat_lt r.at t) x xs, count-cons (λ (r : Read). r.at == t) x xs)

-- ---- the read of a turn

module _ (r : Recorder) (i j : ℕ) (named : i < length (plan_in r).diagram.tasks) (inside : j < length (declared_task (plan_in r) i).reads) where
  pub turn_within : turn_in (plan_in r) i j < length (declared_task (plan_in r) i).reads
  turn_within = turn_below (declared_task (plan_in r) i).reads j (get_or (declared_task (plan_in r) i).reads j no_read) (slice_get-get_or (declared_task (plan_in r) i).reads j no_read inside)

  pub read_found : (read_at (wired_task (wiring_in r) i) (turn_in (plan_in r) i j)).read ≡ j
  read_found =
      ap (λ (t : TaskWiring). (read_at t (turn_in (plan_in r) i j)).read) (wired_in r i named)
      ∙ ap (λ (x : ReadWiring). x.read) (turn (plan_in r) (count_in r) i named (turn_in (plan_in r) i j) turn_within)
      ∙ turn_found (declared_task (plan_in r) i).reads j inside
