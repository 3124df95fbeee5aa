-- Lists of those that write directly to a task.
use Rattle.std.proofs.Common.{◌≡◌, ℕ, zero, suc, ◌+◌, ◌<◌, ◌&&◌, ◌==◌, Contains, List, [], ◌∷◌, ◌++◌, length, slice_index_or, refl, sym, ◌∙◌, ap, subst, arith, inl, inr, eq-eqb, eqb-true}
use Rattle.std.proofs.lemmas.Bool.{cases_Bool, cases_lt, and_parts}
use Rattle.std.proofs.lemmas.List.{get_or_append_left, get_or_push, get_or_past, length_push}
use Rattle.std.proofs.lemmas.List.Elements.{All-contains, Contains-append_cases, Contains-append_left, Contains-append_right}
use Rattle.dbp_plan.specs.declared.diagram.Diagram.{Diagram}
use Rattle.dbp_plan.specs.declared.diagram.Link.{Link}
use Rattle.dbp_plan.specs.Closed.{IsClosed}
use Rattle.rank_find.specs.Links.{WritesTo, direct_writer, direct_writers, IsWriter, AreWriters}

pub only_one : {X : Type 0} (x y : X) → Contains (x ∷ []) y → x ≡ y
only_one x y (zero, below, is) = is
only_one x y (suc k, below, is) = absurd (omega arith)

abbrev direct : ℕ → ℕ → Link
direct i j = record { writer = i; reader = j; delay = 0 }

link_is : (l : Link) (i j : ℕ) → l.writer ≡ i → l.reader ≡ j → l.delay ≡ 0 → l ≡ direct i j
link_is l i j writer reader delay = rw (sym writer, sym reader, sym delay) refl

one_writer : (l : Link) (i j : ℕ) → Contains (direct_writer j l) i → l ≡ direct i j
one_writer l i j among = elim (cases_Bool (l.delay == 0 && l.reader == j)) [
  | inl is ↦
      let here : Contains (l.writer ∷ []) i = rw is at among in
      let both = and_parts (l.delay == 0) (l.reader == j) is in
      link_is l i j (only_one l.writer i here) (eqb-true l.reader j both.1) (eqb-true l.delay 0 both.0)
  | inr other ↦ let none : Contains {X = ℕ} [] i = rw other at among in absurd (omega (arith, none.1))
]

link_of_writer : (links : List Link) (i j : ℕ) → Contains (direct_writers links j) i → Contains links (direct i j)
link_of_writer [] i j among = absurd (omega (arith, among.1))
link_of_writer (l ∷ ls) i j among = elim (Contains-append_cases (direct_writer j l) (direct_writers ls j) i among) [
  | inl here ↦ subst (λ k. Contains (l ∷ ls) k) (one_writer l i j here) (0, omega arith, refl)
  | inr later ↦ Contains-append_right (l ∷ []) ls (direct i j) (link_of_writer ls i j later)
]

writer_itself : (i j : ℕ) → Contains (direct_writer j (direct i j)) i
writer_itself i j = rw (eq-eqb j j refl) (0, omega arith, refl)

writer_of_link : (links : List Link) (i j : ℕ) → Contains links (direct i j) → Contains (direct_writers links j) i
writer_of_link [] i j among = absurd (omega (arith, among.1))
writer_of_link (l ∷ ls) i j among = elim (Contains-append_cases (l ∷ []) ls (direct i j) among) [
  | inl here ↦
      Contains-append_left (direct_writer j l) (direct_writers ls j) i
      (subst (λ k. Contains (direct_writer j k) i) (sym (only_one l (direct i j) here)) (writer_itself i j))
  | inr later ↦ Contains-append_right (direct_writer j l) (direct_writers ls j) i (writer_of_link ls i j later)
]

-- the lists of the first tasks
pub record WritersSoFar (links : List Link) (count : ℕ) (writers : List (List ℕ)) : Type 0 where
  pub size : length writers ≡ count
  pub each : (j : ℕ) → j < count → slice_index_or writers j [] ≡ direct_writers links j

pub writers_none : (links : List Link) → WritersSoFar links 0 []
writers_none links = record { size = refl; each = λ j below. absurd (omega arith) }

pub writers_more : (links : List Link) (count : ℕ) (writers : List (List ℕ)) → WritersSoFar links count writers → WritersSoFar links (count + 1) (writers ++ direct_writers links count ∷ [])
writers_more links count writers so_far = record {
  size = length_push writers (direct_writers links count) ∙ ap (λ n. n + 1) so_far.size;
  each = λ j below. elim (cases_lt j count) [
    | inl before ↦ get_or_append_left writers (direct_writers links count ∷ []) [] j (omega (arith, so_far.size)) ∙ so_far.each j before
    | inr last ↦
        let same : count ≡ j = omega arith in
        get_or_push writers (direct_writers links count) [] j (so_far.size ∙ same) ∙ ap (direct_writers links) same
  ];
}

-- a link's reader is a task
pub reader_below : (d : Diagram) (i j : ℕ) → IsClosed d → WritesTo d i j → j < length d.tasks
reader_below d i j closed writes = (All-contains (λ (l : Link). (l.writer < length d.tasks) × (l.reader < length d.tasks) × (l.writer ≡ l.reader → ⊥)) d.links (direct i j) closed.ends writes).1

pub writer_below : (d : Diagram) (i j : ℕ) → IsClosed d → WritesTo d i j → i < length d.tasks
writer_below d i j closed writes = (All-contains (λ (l : Link). (l.writer < length d.tasks) × (l.reader < length d.tasks) × (l.writer ≡ l.reader → ⊥)) d.links (direct i j) closed.ends writes).0

pub writers_all : (d : Diagram) (writers : List (List ℕ)) → IsClosed d → WritersSoFar d.links (length d.tasks) writers → AreWriters d writers
writers_all d writers closed so_far = record {
  size = so_far.size;
  each = λ i j. (
    (λ among. elim (cases_lt j (length d.tasks)) [
      | inl below ↦ link_of_writer d.links i j (rw (so_far.each j below) at among)
      | inr past ↦
          let none : Contains {X = ℕ} [] i = rw (get_or_past writers j [] (omega (arith, so_far.size))) at among in
          absurd (omega (arith, none.1))
    ]),
    (λ writes. rw (so_far.each j (reader_below d i j closed writes)) (writer_of_link d.links i j writes)),
  );
}

-- a task with a writer is there
pub reader_inside : (writers : List (List ℕ)) (i j : ℕ) → IsWriter writers i j → j < length writers
reader_inside writers i j writes = elim (cases_lt j (length writers)) [
  | inl inside ↦ inside
  | inr outside ↦
      let none : Contains {X = ℕ} [] i = rw (get_or_past writers j [] outside) at writes in
      absurd (omega (arith, none.1))
]
