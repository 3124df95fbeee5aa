-- Lists of links of which each is kept once, and lists that are made item by item.
use Rattle.std.proofs.Common.{◌≡◌, ◌≢◌, ℕ, zero, suc, ◌+◌, ◌<◌, ◌≤◌, Bool, true, false, All, List, [], ◌∷◌, ◌++◌, length, filter, get_or, slice_get, Some, refl, sym, ap, ◌∙◌, subst, arith, inl, inr}
use Rattle.std.specs.Prelude.{AllPairs, not, ◌&&◌, ◌||◌, ◌==◌, sum_by, if◌then◌else◌}
use Rattle.std.specs.List.{flat_map, list_any}
use Rattle.std.proofs.lemmas.Bool.{cases_Bool, and_parts, eqb-true, eq-eqb, not-true, both_ways, false_from_ne_true, or_left, or_right}
use Rattle.std.proofs.lemmas.Bool.Decides.{nat_tests}
use Rattle.std.proofs.lemmas.List.{append-nil, append_assoc}
use Rattle.std.proofs.lemmas.List.Elements.{All-nil, All-cons, All-head, All-tail, All-append, All-filter, filter-append, filter_passes}
use Rattle.std.proofs.lemmas.List.Folds.{list_any-append, list_any_at, position_or_len_push}
use Rattle.std.proofs.lemmas.List.Kept.{AllPairs-cons, AllPairs-filter}
use Rattle.std.proofs.lemmas.List.Sums.{length-filter, count_by-le-length, sum_by-cons, position_or_len_is}
use Rattle.std.proofs.lemmas.Option.{slice_get_within, get_or_from_slice_get, same_Some}
use Rattle.dbp_plan.specs.declared.diagram.Link.{Link}
use Rattle.dbp_plan.proofs.FirstIndexes.{first-below}
use Rattle.dia_check.proofs.PortLaws.{last-none}
use Rattle.dia_check.specs.Diagrams.{is_same_link, firsts, link_number}

-- ---- the same link

pub same-links : (k l : Link) → is_same_link k l ≡ true → k ≡ l
same-links k l same =
    let first = and_parts (k.writer == l.writer && k.reader == l.reader) (k.delay == l.delay) same in
    let front = and_parts (k.writer == l.writer) (k.reader == l.reader) first.0 in
    let writer : k.writer ≡ l.writer = eqb-true k.writer l.writer front.0 in
    let reader : k.reader ≡ l.reader = eqb-true k.reader l.reader front.1 in
    let delay : k.delay ≡ l.delay = eqb-true k.delay l.delay first.1 in
    λ i. record { writer = writer i; reader = reader i; delay = delay i }

pub link-itself : (l : Link) → is_same_link l l ≡ true
link-itself l = rw (eq-eqb l.writer l.writer refl, eq-eqb l.reader l.reader refl, eq-eqb l.delay l.delay refl) refl

pub either-order : (k l : Link) → is_same_link k l ≡ is_same_link l k
either-order k l = rw (eqb-swapped k.writer l.writer, eqb-swapped k.reader l.reader, eqb-swapped k.delay l.delay) refl
  where
    eqb-swapped : (a b : ℕ) → (a == b) ≡ (b == a)
    eqb-swapped a b = grind (arith, nat_tests)

-- ---- each link once

pub all-firsts : (P : Link → Type 0) (used : List Link) → All P used → All P (firsts used)
all-firsts P [] all = All-nil P
all-firsts P (l ∷ ls) all = All-cons P l _ (All-head P l ls all) (All-filter (λ k. not (is_same_link l k)) P (firsts ls) (all-firsts P ls (All-tail P l ls all)))

pub firsts-few : (used : List Link) → length (firsts used) ≤ length used
firsts-few [] = omega arith
firsts-few (l ∷ ls) =
    let kept : length (filter (λ k. not (is_same_link l k)) (firsts ls)) ≤ length (firsts ls) = omega (arith, length-filter (λ k. not (is_same_link l k)) (firsts ls), count_by-le-length (λ k. not (is_same_link l k)) (firsts ls)) in
    omega (arith, kept, firsts-few ls)

unlike : (l : Link) (k : Link) → not (is_same_link l k) ≡ true → l ≢ k
unlike l k differs is = both_ways (is_same_link l k) (not-true _ differs) (subst (λ m. is_same_link l m ≡ true) is (link-itself l))

pub firsts-differ : (used : List Link) → AllPairs (λ k l. k ≢ l) (firsts used)
firsts-differ [] = λ i j d less below. absurd (omega arith)
firsts-differ (l ∷ ls) =
    let test = λ (k : Link). not (is_same_link l k) in
    AllPairs-cons (λ k m. k ≢ m) l (filter test (firsts ls))
    (λ k d below. unlike l _ (filter_passes test (firsts ls) k d below))
    (AllPairs-filter (λ k m. k ≢ m) test (firsts ls) (firsts-differ ls))

-- to leave out the links that are l does not change whether another one is there
any-same : (l m : Link) (ks : List Link) → is_same_link l m ≡ false → list_any (λ k. is_same_link k m) (filter (λ k. not (is_same_link l k)) ks) ≡ list_any (λ k. is_same_link k m) ks
any-same l m [] apart = refl
any-same l m (k ∷ ks) apart = elim (cases_Bool (is_same_link l k)) [
  | inl same ↦
      let other : is_same_link k m ≡ false = subst (λ n. is_same_link n m ≡ false) (same-links l k same) apart in
      rw (same, other) (any-same l m ks apart)
  | inr differs ↦ rw differs (ap (λ b. is_same_link k m || b) (any-same l m ks apart))
]

-- the links kept, with one more link after
abbrev with_link : List Link → Link → List Link
with_link links l = if list_any (λ k. is_same_link k l) links then links else links ++ l ∷ []

with-first : (x l : Link) (links : List Link) → x ∷ filter (λ k. not (is_same_link x k)) (with_link links l) ≡ with_link (x ∷ filter (λ k. not (is_same_link x k)) links) l
with-first x l links =
    let test = λ (k : Link). not (is_same_link x k) in
    let after = filter-append test links (l ∷ []) in
    elim (cases_Bool (is_same_link x l)) [
      | inl same ↦
          let none : filter test (l ∷ []) ≡ [] = rw same refl in
          let last : filter test (links ++ l ∷ []) ≡ filter test links = after ∙ ap (λ ks. filter test links ++ ks) none ∙ append-nil (filter test links) in
          elim (cases_Bool (list_any (λ k. is_same_link k l) links)) [ inl is ↦ rw (is, same) refl | inr isnt ↦ rw (isnt, same, last) refl ]
      | inr differs ↦
          let one : filter test (l ∷ []) ≡ l ∷ [] = rw differs refl in
          let last : filter test (links ++ l ∷ []) ≡ filter test links ++ l ∷ [] = after ∙ ap (λ ks. filter test links ++ ks) one in
          let any = any-same x l links differs in
          elim (cases_Bool (list_any (λ k. is_same_link k l) links)) [ inl is ↦ rw (is, differs, any, is) refl | inr isnt ↦ rw (isnt, differs, any, isnt, last) refl ]
    ]

pub firsts-add : (used : List Link) (l : Link) → firsts (used ++ l ∷ []) ≡ (if list_any (λ k. is_same_link k l) (firsts used) then firsts used else firsts used ++ l ∷ [])
firsts-add [] l = refl
firsts-add (x ∷ used) l = ap (λ links. x ∷ filter (λ k. not (is_same_link x k)) links) (firsts-add used l) ∙ with-first x l (firsts used)

pub add-new : (used links : List Link) (l : Link) → links ≡ firsts used → list_any (λ k. is_same_link k l) links ≡ false → links ++ l ∷ [] ≡ firsts (used ++ l ∷ [])
add-new used links l is none = sym (firsts-add used l ∙ rw (sym is, none) refl)

pub add-known : (used links : List Link) (l : Link) → links ≡ firsts used → list_any (λ k. is_same_link k l) links ≡ true → links ≡ firsts (used ++ l ∷ [])
add-known used links l is known = sym (firsts-add used l ∙ rw (sym is, known) refl)

-- ---- the number of a link

pub not-there : (links : List Link) (l : Link) → length links ≤ link_number links l → list_any (λ k. is_same_link k l) links ≡ false
not-there links l last =
    false_from_ne_true (list_any (λ k. is_same_link k l) links) (λ known. let below = first-below (λ k. is_same_link k l) links known in absurd (omega (arith, below, last)))

pub is-there : (links : List Link) (l : Link) → link_number links l ≢ length links → list_any (λ k. is_same_link k l) links ≡ true
is-there links l other = elim (cases_Bool (list_any (λ k. is_same_link k l) links)) [ inl known ↦ known | inr none ↦ absurd (other (last-none (λ k. is_same_link k l) links none)) ]

-- a link that is there keeps its number, and stays there
stays-there : (used : List Link) (m l : Link) → list_any (λ k. is_same_link k l) (firsts used) ≡ true
    → (list_any (λ k. is_same_link k l) (firsts (used ++ m ∷ [])) ≡ true) × (link_number (firsts (used ++ m ∷ [])) l ≡ link_number (firsts used) l)
stays-there used m l known = elim (cases_Bool (list_any (λ k. is_same_link k m) (firsts used))) [
  | inl is ↦
      let same : firsts (used ++ m ∷ []) ≡ firsts used = firsts-add used m ∙ rw is refl in
      (ap (list_any (λ k. is_same_link k l)) same ∙ known, ap (λ ks. link_number ks l) same)
  | inr isnt ↦
      let more : firsts (used ++ m ∷ []) ≡ firsts used ++ m ∷ [] = firsts-add used m ∙ rw isnt refl in
      let below : link_number (firsts used) l < length (firsts used) = first-below (λ k. is_same_link k l) (firsts used) known in
      let apart : (link_number (firsts used) l == length (firsts used)) ≡ false = grind (arith, nat_tests, below) in (
        ap (list_any (λ k. is_same_link k l)) more ∙ list_any-append (λ k. is_same_link k l) (firsts used) (m ∷ []) ∙ or_left (list_any (λ k. is_same_link k l) (firsts used)) _ known,
        ap (λ ks. link_number ks l) more ∙ position_or_len_push (λ k. is_same_link k l) (firsts used) m ∙ rw apart refl,
      )
]

pub number-stays : (used more : List Link) (l : Link) → list_any (λ k. is_same_link k l) (firsts used) ≡ true → link_number (firsts (used ++ more)) l ≡ link_number (firsts used) l
number-stays used [] l known = ap (λ (ks : List Link). link_number (firsts ks) l) (append-nil used)
number-stays used (m ∷ more) l known =
    let next = stays-there used m l known in
    ap (λ (ks : List Link). link_number (firsts ks) l) (sym (append_assoc used (m ∷ []) more)) ∙ number-stays (used ++ m ∷ []) more l next.0 ∙ next.1

-- each link is among those kept
pub firsts-have : (used : List Link) → All (λ l. list_any (λ k. is_same_link k l) (firsts used) ≡ true) used
firsts-have [] = All-nil _
firsts-have (x ∷ used) =
    let rest : All (λ l. list_any (λ k. is_same_link k l) (firsts (x ∷ used)) ≡ true) used = λ j d below. kept-after x (firsts used) (get_or used j d) (firsts-have used j d below) in
    All-cons (λ l. list_any (λ k. is_same_link k l) (firsts (x ∷ used)) ≡ true) x used (rw (link-itself x) refl) rest
  where
    kept-after : (x : Link) (links : List Link) (l : Link) → list_any (λ k. is_same_link k l) links ≡ true → list_any (λ k. is_same_link k l) (x ∷ filter (λ k. not (is_same_link x k)) links) ≡ true
    kept-after x links l among = elim (cases_Bool (is_same_link x l)) [
      | inl same ↦ rw same refl
      | inr differs ↦ rw (differs, any-same x l links differs) among
    ]

-- each link's number is its place
pub number-is : (links : List Link) (k : ℕ) (l : Link) → AllPairs (λ m n. m ≢ n) links → slice_get links k ≡ Some l → link_number links l ≡ k
number-is links k l differ at =
    let test = λ (m : Link). is_same_link m l in
    let below : k < length links = slice_get_within links k l at in
    let here : get_or links k l ≡ l = get_or_from_slice_get links k l l at in
    let apart : (j : ℕ) → j < k → test (get_or links j l) ≡ false =
    λ j less. false_from_ne_true (test (get_or links j l)) (λ same. differ j k l less below (same-links (get_or links j l) l same ∙ sym here)) in
    position_or_len_is test links k l (omega (arith, below)) apart (λ inside. ap test here ∙ link-itself l)

-- ---- lists that are made item by item

pub all-made : {A B : Type 0} (P : B → Type 0) (f : A → List B) (xs : List A) → ((j : ℕ) (x : A) → slice_get xs j ≡ Some x → All P (f x)) → All P (flat_map f xs)
all-made P f [] each = All-nil P
all-made P f (x ∷ xs) each = All-append P (f x) (flat_map f xs) (each 0 x refl) (all-made P f xs (λ j y at. each (suc j) y at))

all-parts : {A : Type 0} (P : A → Type 0) (xs ys : List A) → All P (xs ++ ys) → All P xs × All P ys
all-parts P [] ys all = (All-nil P, all)
all-parts P (x ∷ xs) ys all =
    let rest = all-parts P xs ys (All-tail P x (xs ++ ys) all) in
    (All-cons P x xs (All-head P x (xs ++ ys) all) rest.0, rest.1)

pub all-front : {A : Type 0} (P : A → Type 0) (xs ys : List A) → All P (xs ++ ys) → All P xs
all-front P xs ys all = (all-parts P xs ys all).0

pub all-after : {A : Type 0} (P : A → Type 0) (xs ys : List A) → All P (xs ++ ys) → All P ys
all-after P xs ys all = (all-parts P xs ys all).1

-- what holds of all that are made holds of those that one item makes
pub made-by-one : {A B : Type 0} (P : B → Type 0) (f : A → List B) (xs : List A) (j : ℕ) (x : A) → slice_get xs j ≡ Some x → All P (flat_map f xs) → All P (f x)
made-by-one P f [] j x at all = absurd cc
made-by-one P f (y ∷ xs) zero x at all = subst (λ z. All P (f z)) (same_Some y x at) (all-front P (f y) (flat_map f xs) all)
made-by-one P f (y ∷ xs) (suc j) x at all = made-by-one P f xs j x at (all-after P (f y) (flat_map f xs) all)

pub any-at : {A : Type 0} (test : A → Bool) (xs : List A) (i : ℕ) (x : A) → slice_get xs i ≡ Some x → test x ≡ true → list_any test xs ≡ true
any-at test xs i x at passes = list_any_at test xs i x (slice_get_within xs i x at) (ap test (get_or_from_slice_get xs i x x at) ∙ passes)

pub any-made : {A B : Type 0} (test : B → Bool) (f : A → List B) (xs : List A) (j : ℕ) (x : A) → slice_get xs j ≡ Some x → list_any test (f x) ≡ true → list_any test (flat_map f xs) ≡ true
any-made test f [] j x at passes = absurd cc
any-made test f (y ∷ xs) zero x at passes =
    list_any-append test (f y) (flat_map f xs) ∙ or_left (list_any test (f y)) _ (ap (λ z. list_any test (f z)) (same_Some y x at) ∙ passes)
any-made test f (y ∷ xs) (suc j) x at passes =
    list_any-append test (f y) (flat_map f xs) ∙ or_right (list_any test (f y)) _ (any-made test f xs j x at passes)

pub same-sums : {A B : Type 0} (f : A → ℕ) (g : B → ℕ) (xs : List A) (ys : List B) → length xs ≡ length ys → ((i : ℕ) (x : A) (y : B) → slice_get xs i ≡ Some x → slice_get ys i ≡ Some y → f x ≡ g y) → sum_by f xs ≡ sum_by g ys
same-sums f g [] [] size each = refl
same-sums f g [] (y ∷ ys) size each = absurd (omega arith)
same-sums f g (x ∷ xs) [] size each = absurd (omega arith)
same-sums f g (x ∷ xs) (y ∷ ys) size each =
    let rest : sum_by f xs ≡ sum_by g ys = same-sums f g xs ys (omega arith) (λ i a b at_a at_b. each (suc i) a b at_a at_b) in
    sum_by-cons f x xs ∙ ap (λ n. f x + n) rest ∙ ap (λ n. n + sum_by g ys) (each 0 x y refl refl) ∙ sym (sum_by-cons g y ys)
