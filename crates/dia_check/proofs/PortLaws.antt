-- Searches of tasks and outs by name.
use Rattle.std.proofs.Common.{◌≡◌, ℕ, suc, ◌+◌, ◌<◌, arith, Bool, true, false, List, [], ◌∷◌, length, slice_get, Option, Some, None, refl, sym, ap, ◌∙◌, inl, inr}
use Rattle.std.specs.Prelude.{nat_lt}
use Rattle.std.specs.List.{find, flat_map, list_any, position, position_or_len}
use Rattle.std.specs.Option.{is_some, option_map}
use Rattle.std.specs.Str.{bytes_eq}
use Rattle.std.proofs.lemmas.Bool.{cases_Bool, or_parts}
use Rattle.std.proofs.lemmas.Bool.Decides.{nat_tests}
use Rattle.std.proofs.lemmas.List.Folds.{find_at}
use Rattle.std.proofs.lemmas.Option.{same_Some}
use Rattle.dbp_plan.specs.NameLists.{is_among, index_of}
use Rattle.dbp_plan.proofs.FirstIndexes.{first-below, first-in-map}
use Rattle.dia_read.specs.declared.document.RawTask.{RawTask}
use Rattle.dia_check.specs.Indexes.{find_index, port_index}
use Rattle.dia_check.specs.Names.{out_name, port_names, task_names}
use Rattle.dia_check.specs.Tests.{is_task}

-- ---- the first that passes a test

pub last-none : {A : Type 0} (test : A → Bool) (xs : List A) → list_any test xs ≡ false → position_or_len test xs ≡ length xs
last-none test [] none = refl
last-none test (x ∷ xs) none =
    let parts = or_parts (test x) (list_any test xs) none in
    let next : 1 + length xs ≡ suc (length xs) = omega arith in
    rw parts.0 (ap (λ n. 1 + n) (last-none test xs parts.1) ∙ next)

pub position-there : {A : Type 0} (test : A → Bool) (xs : List A) → list_any test xs ≡ true → position test xs ≡ Some (position_or_len test xs)
position-there test xs there =
    let below = first-below test xs there in
    let is : nat_lt (position_or_len test xs) (length xs) ≡ true = grind (arith, nat_tests, below) in
    rw is refl

pub position-none : {A : Type 0} (test : A → Bool) (xs : List A) → list_any test xs ≡ false → position test xs ≡ None
position-none test xs none =
    let last = last-none test xs none in
    let isnt : nat_lt (position_or_len test xs) (length xs) ≡ false = grind (arith, nat_tests, last) in
    rw isnt refl

pub some_index : (name : List ℕ) (tasks : List RawTask) → is_some (position (is_task name) tasks) ≡ list_any (is_task name) tasks
some_index name tasks = elim (cases_Bool (list_any (is_task name) tasks)) [
  | inl there ↦ rw (position-there (is_task name) tasks there, there) refl
  | inr none ↦ rw (position-none (is_task name) tasks none, none) refl
]

-- ---- the task and its out

-- the outs of the task that was found
abbrev outs_of : Option RawTask → List (List ℕ)
outs_of o = elim o [ None ↦ [] | Some t ↦ flat_map out_name t.parts ]

module _ (tasks : List RawTask) (writer port : List ℕ) where
  pub no-port : position (is_task writer) tasks ≡ None → port_index tasks writer port ≡ None
  no-port none = elim (cases_Bool (list_any (is_task writer) tasks)) [
    | inl there ↦ let some = position-there (is_task writer) tasks there in absurd cc
    | inr isnt ↦
        let last : find (is_task writer) tasks ≡ slice_get tasks (length tasks) = find_at (is_task writer) tasks ∙ ap (slice_get tasks) (last-none (is_task writer) tasks isnt) in
        let nobody : find (is_task writer) tasks ≡ None = last ∙ past tasks in
        let outs : port_names tasks writer ≡ [] = ap outs_of nobody in
        rw outs refl
  ]
    where
      past : {A : Type 0} (xs : List A) → slice_get xs (length xs) ≡ None
      past [] = refl
      past (x ∷ xs) = past xs

  module _ (i : ℕ) (t : RawTask) (found : position (is_task writer) tasks ≡ Some i) where
    task-there : (list_any (is_task writer) tasks ≡ true) × (i ≡ position_or_len (is_task writer) tasks)
    task-there = elim (cases_Bool (list_any (is_task writer) tasks)) [
      | inl there ↦ (there, same_Some i _ (sym found ∙ position-there (is_task writer) tasks there))
      | inr isnt ↦ let none = position-none (is_task writer) tasks isnt in absurd cc
    ]

    pub task-below : i < length tasks
    task-below = let below = first-below (is_task writer) tasks task-there.0 in omega (arith, below, task-there.1)

    pub a-port : slice_get tasks i ≡ Some t → port_index tasks writer port ≡ option_map (λ k. (i, k)) (find_index (flat_map out_name t.parts) port)
    a-port at =
        let first : find (is_task writer) tasks ≡ Some t = find_at (is_task writer) tasks ∙ ap (slice_get tasks) (sym task-there.1) ∙ at in
        let outs : port_names tasks writer ≡ flat_map out_name t.parts = ap outs_of first in
        let number : index_of (task_names tasks) writer ≡ i = first-in-map (λ m. bytes_eq m writer) (λ u. u.name) tasks ∙ sym task-there.1 in
        elim (cases_Bool (is_among (flat_map out_name t.parts) port)) [
          | inl is ↦ rw (outs, is, number) refl
          | inr isnt ↦ rw (outs, isnt) refl
        ]
