-- The links into a task: there are no more of them than of its reads, and each read's link is one of them.
use Rattle.std.proofs.Common.{◌≡◌, ℕ, suc, ◌+◌, ◌<◌, ◌≤◌, Bool, true, false, All, List, [], ◌∷◌, length, get_or, slice_get, Some, refl, sym, ◌∙◌, ap, subst, arith, inl, inr}
use Rattle.std.specs.Prelude.{count_by, cond, ◌==◌, ◌||◌}
use Rattle.std.specs.List.{list_any, position_or_len, range_with_len}
use Rattle.std.proofs.lemmas.Bool.{cases_lt, cases_eq, eq-eqb, eqb-true, ne_eqb}
use Rattle.std.proofs.lemmas.List.Elements.{All-filter, filter_passes}
use Rattle.std.proofs.lemmas.List.Folds.{Any-from_list_any}
use Rattle.std.proofs.lemmas.List.FromFn.{get_or-range_with_len, length-range_with_len}
use Rattle.std.proofs.lemmas.List.Sums.{passes_at_first}
use Rattle.std.proofs.lemmas.Option.{same_Some, slice_get-get_or}
use Rattle.dbp_plan.specs.declared.diagram.Diagram.{Diagram}
use Rattle.dbp_plan.specs.declared.diagram.Link.{Link}
use Rattle.dbp_plan.specs.declared.diagram.Read.{Read}
use Rattle.dbp_plan.specs.declared.diagram.Task.{Task}
use Rattle.dbp_plan.specs.Closed.{IsClosed, IsClosedTask}
use Rattle.dbp_plan.specs.ListItems.{all_place, read_place}
use Rattle.dbp_plan.specs.Lookups.{link_at, no_link}
use Rattle.release_list.specs.Releases.{links_into}
use Rattle.dbp_rules.specs.Wired.{links_at, task_at_end}
use Rattle.dbp_rules.specs.declared.wiring.LinkEnd.{LinkEnd}
use Rattle.dbp_rules.specs.declared.wiring.LinkEnd.TheVariants.{Reader, Writer}
use Rattle.dbp_rules.specs.declared.wiring.Wiring.{Wiring}
use Rattle.dbp_plan.proofs.Counts.{count-cons, count-never}
use Rattle.release_list.proofs.IntoLinks.{none_into, once_into}

-- counts

pub count_or : {X : Type 0} (p q : X → Bool) (xs : List X) → count_by (λ x. p x || q x) xs ≤ count_by p xs + count_by q xs
count_or p q [] = omega arith
count_or p q (x ∷ xs) =
    let rest : count_by (λ x. p x || q x) xs ≤ count_by p xs + count_by q xs = count_or p q xs in
    let first : cond (p x || q x) 1 0 ≤ cond (p x) 1 0 + cond (q x) 1 0 = one_of (p x) (q x) in
    rw (count-cons (λ y. p y || q y) x xs, count-cons p x xs, count-cons q x xs) (omega (arith, rest, first))
  where
    one_of : (a b : Bool) → cond {A = ℕ} (a || b) 1 0 ≤ cond a 1 0 + cond b 1 0
    one_of true b = omega arith
    one_of false b = omega arith

all_counted : {X : Type 0} (p : X → Bool) (xs : List X) → All (λ x. p x ≡ true) xs → count_by p xs ≡ length xs
all_counted p [] all = refl
all_counted p (x ∷ xs) all =
    let first : p x ≡ true = all 0 x (omega arith) in
    let rest : count_by p xs ≡ length xs = all_counted p xs (λ k d below. all (suc k) d (omega arith)) in
    rw (count-cons p x xs, first) (omega (arith, rest))

-- the place of a number that is there
counted_first : (x : ℕ) (xs : List ℕ) → 0 < count_by (λ k. x == k) xs → position_or_len (λ k. k == x) xs < length xs
counted_first x [] some = absurd (omega arith)
counted_first x (y ∷ xs) some = elim (cases_eq x y) [
  | inl same ↦ rw (eq-eqb y x (sym same)) (omega arith)
  | inr apart ↦
      let all : count_by (λ k. x == k) (y ∷ xs) ≡ 0 + count_by (λ k. x == k) xs = count-cons (λ k. x == k) y xs ∙ rw (ne_eqb x y apart) refl in
      let rest : 0 < count_by (λ k. x == k) xs = omega arith in
      rw (ne_eqb y x (λ same. apart (sym same))) (omega (arith, counted_first x xs rest))
]

-- the links into a task

-- of the links at an end each is there
pub links_below : (end : LinkEnd) (links : List Link) (task : ℕ) → All (λ k. k < length links) (links_at end links task)
links_below end links task =
    All-filter (λ k. task_at_end end (link_at links k) == task) (λ k. k < length links) (range_with_len 0 (length links)) (λ k d below.
    let fits : k < length links = omega (arith, length-range_with_len 0 (length links)) in
    rw (get_or-range_with_len 0 (length links) k d fits) (omega arith))

pub leaving_below : (w : Wiring) (i n : ℕ) (ks : List ℕ) → ks ≡ links_at Writer w.links i → n < length ks → get_or ks n 0 < length w.links
leaving_below w i n ks is inside = subst (λ (xs : List ℕ). All (λ k. k < length w.links) xs) (sym is) (links_below Writer w.links i) n 0 inside

pub into_below : (links : List Link) (task : ℕ) → All (λ k. k < length links) (links_into links task)
into_below links task = links_below Reader links task

pub into_reader : (links : List Link) (task : ℕ) → All (λ k. (link_at links k).reader ≡ task) (links_into links task)
into_reader links task k d below =
    let own : ℕ = get_or (links_into links task) k d in
    eqb-true (link_at links own).reader task (filter_passes (λ j. (link_at links j).reader == task) (range_with_len 0 (length links)) k d below)

into_once : (links : List Link) (task x : ℕ) → count_by (λ k. x == k) (links_into links task) ≤ 1
into_once links task x = elim (cases_lt x (length links)) [
  | inl below ↦ omega (arith, once_into links task (length links) x below, one_at_most ((link_at links x).reader == task))
  | inr above ↦ omega (arith, none_into links task (length links) x above)
]
  where
    one_at_most : (b : Bool) → cond {A = ℕ} b 1 0 ≤ 1
    one_at_most true = omega arith
    one_at_most false = omega arith

-- different numbers, each of them the link of a read
linked_few : (reads : List Read) (ks : List ℕ) → ((x : ℕ) → count_by (λ k. x == k) ks ≤ 1) → count_by (λ k. list_any (λ r. r.link == k) reads) ks ≤ length reads
linked_few [] ks once = omega (arith, count-never ks)
linked_few (r ∷ reads) ks once =
    omega (arith, count_or (λ k. r.link == k) (λ k. list_any (λ q. q.link == k) reads) ks, once r.link, linked_few reads ks once)

module _ (d : Diagram) (closed : IsClosed d) (i : ℕ) (t : Task) (here : slice_get d.tasks i ≡ Some t) where
  -- each link into the task is that of one of its reads
  into_used : (k : ℕ) → k < length d.links → (link_at d.links k).reader ≡ i → list_any (λ r. r.link == k) t.reads ≡ true
  into_used k below reader =
      let user : (j : ℕ) × (u : Task) × (j < length d.tasks) × (get_or d.tasks j u ≡ u) × (list_any (λ r. r.link == k) u.reads ≡ true) =
      Any-from_list_any (λ u. list_any (λ r. r.link == k) u.reads) d.tasks (closed.used k below) in
      let read : (m : ℕ) × (r : Read) × (m < length user.1.reads) × (get_or user.1.reads m r ≡ r) × ((r.link == k) ≡ true) = Any-from_list_any (λ r. r.link == k) user.1.reads user.4 in
      let user_at : slice_get d.tasks user.0 ≡ Some user.1 = read_place d.tasks user.0 user.1 user.2 (sym user.3) in
      let read_at : slice_get user.1.reads read.0 ≡ Some read.1 = read_place user.1.reads read.0 read.1 read.2 (sym read.3) in
      let link : slice_get d.links read.1.link ≡ Some (link_at d.links k) = ap (λ n. slice_get d.links n) (eqb-true read.1.link k read.4) ∙ slice_get-get_or d.links k no_link below in
      let own : (link_at d.links k).reader ≡ user.0 = closed.own user.0 user.1 read.1 (link_at d.links k) read.0 user_at read_at link in
      let same : user.1 ≡ t = same_Some user.1 t (sym user_at ∙ ap (λ n. slice_get d.tasks n) (sym own ∙ reader) ∙ here) in
      ap (λ (u : Task). list_any (λ r. r.link == k) u.reads) (sym same) ∙ user.4

  pub into_no_more : length (links_into d.links i) ≤ length t.reads
  into_no_more =
      let into : List ℕ = links_into d.links i in
      let all : All (λ k. list_any (λ r. r.link == k) t.reads ≡ true) into =
      λ k e below. into_used (get_or into k e) (into_below d.links i k e below) (into_reader d.links i k e below) in
      omega (arith, all_counted (λ k. list_any (λ r. r.link == k) t.reads) into all, linked_few t.reads into (into_once d.links i))

  -- the link of a read is one of those into the task
  module _ (m : ℕ) (r : Read) (read : slice_get t.reads m ≡ Some r) where
    pub link_below : r.link < length d.links
    link_below = all_place (λ (q : Read). q.link < length d.links) t.reads m r (all_place (IsClosedTask (length d.inputs) (length d.events) (length d.links)) d.tasks i t closed.each here).linked read

    pub link_into : (link_at d.links r.link).reader ≡ i
    link_into = closed.own i t r (link_at d.links r.link) m here read (slice_get-get_or d.links r.link no_link link_below)

    pub link_place : position_or_len (λ k. k == r.link) (links_into d.links i) < length (links_into d.links i)
    link_place =
        let one : count_by (λ k. r.link == k) (links_into d.links i) ≡ 1 = once_into d.links i (length d.links) r.link link_below ∙ rw (eq-eqb (link_at d.links r.link).reader i link_into) refl in
        counted_first r.link (links_into d.links i) (omega arith)

    pub link_there : get_or (links_into d.links i) (position_or_len (λ k. k == r.link) (links_into d.links i)) 0 ≡ r.link
    link_there =
        let into : List ℕ = links_into d.links i in
        eqb-true (get_or into (position_or_len (λ k. k == r.link) into) 0) r.link (passes_at_first (λ k. k == r.link) into 0 link_place)
