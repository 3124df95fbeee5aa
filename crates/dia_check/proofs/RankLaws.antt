-- The first fault of a diagram's ranks, and what follows if there is none.
use Rattle.std.proofs.Common.{◌≡◌, ◌≢◌, ℕ, zero, suc, ◌+◌, ◌<◌, ◌≤◌, Bool, true, false, All, List, [], ◌∷◌, ◌++◌, length, map, drop, get_or, slice_get, Option, Some, None, refl, sym, ap, subst, ◌∙◌, inl, inr, arith}
use Rattle.std.specs.Prelude.{◌==◌, ◌||◌, ◌&&◌, nat_lt, if◌then◌else◌, is_none, IsSome, slice_index}
use Rattle.std.specs.List.{flat_map, list_any}
use Rattle.std.specs.Option.{option_and_then}
use Rattle.std.proofs.lemmas.Bool.{both_ways, cases_Bool, cases_eq, eqb-true}
use Rattle.std.proofs.lemmas.Bool.Decides.{nat_tests}
use Rattle.std.proofs.lemmas.List.{get_or_default, get_or-map, length-map}
use Rattle.std.proofs.lemmas.List.Elements.{All-append, All-cons, All-map}
use Rattle.std.proofs.lemmas.List.Folds.{list_any-append}
use Rattle.std.proofs.lemmas.Option.{slice_get-get_or}
use Rattle.dbp_plan.specs.declared.diagram.Diagram.{Diagram}
use Rattle.dbp_plan.specs.declared.diagram.Link.{Link}
use Rattle.dbp_plan.specs.declared.diagram.Policy.{Policy}
use Rattle.dbp_plan.specs.declared.diagram.Task.{Task}
use Rattle.dbp_plan.specs.Closed.{IsClosed}
use Rattle.dbp_plan.specs.Policies.{urgency}
use Rattle.dbp_plan.specs.Ranked.{IsRanked}
use Rattle.dbp_plan.specs.Ranks.{is_above, ranks_of}
use Rattle.dbp_plan.specs.FirstFault.{faults_after, first_fault}
use Rattle.dbp_plan.proofs.RankLaws.{above-fewer, above-total, length-ranks_of, rank-index, ranks-apart}
use Rattle.dbp_plan.proofs.ListParts.{split-at}
use Rattle.dbp_plan.proofs.FirstFaults.{append-none, cons-none, first-append, first-front}
use Rattle.dia_check.specs.declared.fail.RankFault.{RankFault}
use Rattle.dia_check.specs.declared.fail.RankFault.TheVariants.{UndelayedUpward}
use Rattle.dia_check.specs.declared.shaped.ReadLine.{ReadLine}
use Rattle.dia_check.specs.declared.shaped.Shaped.{Shaped}
use Rattle.dia_check.specs.RankFaults.{missing, task_rank_fault, link_rank_fault, read_rank_fault, rank_faults, HasNoRankFault, ranked_diagram}
use Rattle.dia_check.specs.Shapes.{HasLines}

-- ---- the loop over the read lines

abbrev pub read_line_fault : List ℕ → List Link → ReadLine → ℕ × Option RankFault
read_line_fault ranks links r = (r.line, read_rank_fault ranks links r)

module _ {A F : Type 0} (fault : A → ℕ × Option F) (xs : List A) where
  -- what stands from a place on decides
  abbrev pub FirstRest : ℕ → Type 0
  FirstRest k = first_fault (map fault xs) ≡ first_fault (map fault (drop k xs))

  from-here : (k : ℕ) (d : A) (f : ℕ × Option F) → FirstRest k → k < length xs → fault (get_or xs k d) ≡ f
      → first_fault (map fault xs) ≡ first_fault (f ∷ map fault (drop (k + 1) xs))
  from-here k d f so_far inside is =
      so_far ∙ ap (λ ys. first_fault (map fault ys)) (split-at xs k (get_or xs k d) inside (get_or_default xs k d (get_or xs k d) inside))
      ∙ ap (λ g. first_fault (g ∷ map fault (drop (k + 1) xs))) is

  pub rest-here : (k : ℕ) (d : A) (n : ℕ) (code : F) → FirstRest k → k < length xs → fault (get_or xs k d) ≡ (n, Some code) → Some (n, code) ≡ first_fault (map fault xs)
  rest-here k d n code so_far inside is = sym (from-here k d (n, Some code) so_far inside is)

  pub rest-later : (k : ℕ) (d : A) (n : ℕ) → FirstRest k → k < length xs → fault (get_or xs k d) ≡ (n, None) → FirstRest (k + 1)
  rest-later k d n so_far inside is = from-here k d (n, None) so_far inside is

pub link-of-read : (ranks : List ℕ) (links : List Link) (r : ReadLine) (d : Link) → r.link < length links → read_rank_fault ranks links r ≡ link_rank_fault ranks (get_or links r.link d)
link-of-read ranks links r d below = ap (option_and_then (link_rank_fault ranks)) (slice_get-get_or links r.link d below)

-- ---- the read lines and the links are in range

below-flat : {A : Type 0} (f : A → List ℕ) (n : ℕ) (xs : List A) → All (λ x. All (λ m. m < n) (f x)) xs → All (λ m. m < n) (flat_map f xs)
below-flat f n [] each = λ k d below. absurd (omega arith)
below-flat f n (x ∷ xs) each =
    All-append (λ m. m < n) (f x) (flat_map f xs) (each zero x (omega arith)) (below-flat f n xs (λ k d below. each (suc k) d (omega arith)))

pub reads-linked : (s : Shaped) → IsClosed s.diagram → HasLines s → All (λ r. r.link < length s.diagram.links) s.read_lines
reads-linked s closed lines = λ k d below.
    let n = length s.diagram.links in
    let used : All (λ m. m < n) (flat_map (λ t. map (λ r. r.link) t.reads) s.diagram.tasks) =
    below-flat (λ t. map (λ r. r.link) t.reads) n s.diagram.tasks (λ i e inside. All-map (λ m. m < n) (λ r. r.link) (get_or s.diagram.tasks i e).reads (closed.each i e inside).linked) in
    let each : All (λ m. m < n) (map (λ r. r.link) s.read_lines) = subst (All (λ m. m < n)) (sym lines.reads) used in
    let link : get_or (map (λ r. r.link) s.read_lines) k 0 ≡ (get_or s.read_lines k d).link = get_or-map (λ r. r.link) s.read_lines k d 0 below in
    rw link at (each k 0 (omega (arith, below, length-map s.read_lines (λ r. r.link))))

pub ends-there : (d : Diagram) → IsClosed d → All (λ l. (l.writer < length d.tasks) × (l.reader < length d.tasks)) d.links
ends-there d closed = λ k e below. let ends = closed.ends k e below in (ends.0, ends.1)

-- ---- who is ranked above whom

is-less : (m n : ℕ) → m < n → nat_lt m n ≡ true
is-less m n less = grind (arith, nat_tests)

isnt-less : (m n : ℕ) → n ≤ m → nat_lt m n ≡ false
isnt-less m n more = grind (arith, nat_tests)

module _ (p : Policy) (tasks : List Task) where
  lesser : (j i : ℕ) (u t : Task) → slice_get tasks j ≡ Some u → slice_get tasks i ≡ Some t → is_above p (j, u) (i, t) ≡ true
      → slice_index (ranks_of p tasks) j < slice_index (ranks_of p tasks) i
  lesser j i u t at_j at_i above = rw (rank-index p tasks j u at_j, rank-index p tasks i t at_i) (above-fewer p tasks j i u t at_j above)

  greater : (j i : ℕ) (u t : Task) → slice_get tasks j ≡ Some u → slice_get tasks i ≡ Some t → is_above p (j, u) (i, t) ≡ false
      → slice_index (ranks_of p tasks) i ≤ slice_index (ranks_of p tasks) j
  greater j i u t at_j at_i isnt = elim (cases_eq j i) [
    | inl same ↦ let alike : slice_index (ranks_of p tasks) j ≡ slice_index (ranks_of p tasks) i = ap (λ (k : ℕ). slice_index (ranks_of p tasks) k) same in omega (arith, alike)
    | inr apart ↦ elim (above-total p (j, u) (i, t) apart) [
      | inl above ↦ absurd (both_ways (is_above p (j, u) (i, t)) isnt above)
      | inr below ↦ let less : slice_index (ranks_of p tasks) i < slice_index (ranks_of p tasks) j = lesser i j t u at_i at_j below in omega (arith, less)
    ]
  ]

  pub above-is-less : (j i : ℕ) (u t : Task) → slice_get tasks j ≡ Some u → slice_get tasks i ≡ Some t
      → is_above p (j, u) (i, t) ≡ nat_lt (slice_index (ranks_of p tasks) j) (slice_index (ranks_of p tasks) i)
  above-is-less j i u t at_j at_i = elim (cases_Bool (is_above p (j, u) (i, t))) [
    | inl above ↦ above ∙ sym (is-less (slice_index (ranks_of p tasks) j) (slice_index (ranks_of p tasks) i) (lesser j i u t at_j at_i above))
    | inr isnt ↦ isnt ∙ sym (isnt-less (slice_index (ranks_of p tasks) j) (slice_index (ranks_of p tasks) i) (greater j i u t at_j at_i isnt))
  ]

-- ---- no fault

each-none : {A F : Type 0} (fault : A → Option F) (before xs : List A) (ns : List ℕ) → length xs ≤ length ns
    → first_fault (faults_after (λ ys x. fault x) before xs ns) ≡ None → All (λ x. fault x ≡ None) xs
each-none fault before [] ns few none = λ k d below. absurd (omega arith)
each-none fault before (x ∷ xs) [] few none = absurd (omega arith)
each-none fault before (x ∷ xs) (n ∷ ns) few none =
    let both = cons-none n (fault x) (faults_after (λ ys y. fault y) (before ++ x ∷ []) xs ns) none in
    All-cons (λ y. fault y ≡ None) x xs both.0 (each-none fault (before ++ x ∷ []) xs ns (omega (arith, few)) both.1)

if-none : (test : Bool) (f : RankFault) → (if test then Some f else None) ≡ None → test ≡ false
if-none true f none = absurd cc
if-none false f none = refl

some-there : (o : Option ℕ) (f : RankFault) → (if is_none o then Some f else None) ≡ None → IsSome o
some-there None f none = absurd cc
some-there (Some x) f none = refl

-- ---- direct links go downward

any-map : {A : Type 0} (f : A → ℕ) (k : ℕ) (xs : List A) → list_any (λ x. f x == k) xs ≡ list_any (λ m. m == k) (map f xs)
any-map f k [] = refl
any-map f k (x ∷ xs) = ap (λ b. f x == k || b) (any-map f k xs)

pub any-flat : {A B : Type 0} (f : B → ℕ) (parts : A → List B) (k : ℕ) (xs : List A) → list_any (λ x. list_any (λ y. f y == k) (parts x)) xs ≡ list_any (λ m. m == k) (flat_map (λ x. map f (parts x)) xs)
any-flat f parts k [] = refl
any-flat f parts k (x ∷ xs) =
    rw (any-map f k (parts x), any-flat f parts k xs, list_any-append (λ m. m == k) (map f (parts x)) (flat_map (λ y. map f (parts y)) xs)) refl

-- a link that a read line reads over has no fault
used-none : (ranks : List ℕ) (links : List Link) (k : ℕ) (rs : List ReadLine) → list_any (λ r. r.link == k) rs ≡ true
    → first_fault (map (read_line_fault ranks links) rs) ≡ None → option_and_then (link_rank_fault ranks) (slice_get links k) ≡ None
used-none ranks links k [] used none = absurd cc
used-none ranks links k (r ∷ rs) used none =
    let both = cons-none r.line (read_rank_fault ranks links r) (map (read_line_fault ranks links) rs) none in
    elim (cases_Bool (r.link == k)) [
      | inl here ↦ let is : r.link ≡ k = eqb-true r.link k here in subst (λ j. option_and_then (link_rank_fault ranks) (slice_get links j) ≡ None) is both.0
      | inr apart ↦ used-none ranks links k rs (rw apart at used) both.1
    ]

not-above : (ranks : List ℕ) (l : Link) → l.delay ≡ 0 → link_rank_fault ranks l ≡ None → slice_index ranks l.writer ≤ slice_index ranks l.reader
not-above ranks l direct none =
    let not_both : (l.delay == 0 && nat_lt (slice_index ranks l.reader) (slice_index ranks l.writer)) ≡ false =
    if-none (l.delay == 0 && nat_lt (slice_index ranks l.reader) (slice_index ranks l.writer)) (UndelayedUpward l.writer l.reader) none in
    grind (arith, nat_tests)

abbrev pub task_lines_faults : Shaped → List (ℕ × Option RankFault)
task_lines_faults s = faults_after (λ before t. task_rank_fault s.diagram.policy t) [] s.diagram.tasks s.task_lines

abbrev pub read_lines_faults : Shaped → List (ℕ × Option RankFault)
read_lines_faults s = map (read_line_fault (ranks_of s.diagram.policy s.diagram.tasks) s.diagram.links) s.read_lines

-- the fault is one of a task
pub task-first : (s : Shaped) (f : ℕ × RankFault) → first_fault (task_lines_faults s) ≡ Some f → first_fault (rank_faults s) ≡ Some f
task-first s f is = first-front (task_lines_faults s) (read_lines_faults s) f is

-- no task has a fault, and the read lines decide
pub reads-decide : (s : Shaped) → first_fault (task_lines_faults s) ≡ None → first_fault (rank_faults s) ≡ first_fault (read_lines_faults s)
reads-decide s none = first-append (task_lines_faults s) (read_lines_faults s) none

-- neither a task nor a read line has a fault
pub no-rank-fault : (s : Shaped) → None ≡ first_fault (task_lines_faults s) → None ≡ first_fault (read_lines_faults s) → HasNoRankFault s
no-rank-fault s tasks reads = reads-decide s (sym tasks) ∙ sym reads

module _ (s : Shaped) (closed : IsClosed s.diagram) (lines : HasLines s) (none : HasNoRankFault s) where
  abbrev ranks : List ℕ
  ranks = ranks_of s.diagram.policy s.diagram.tasks

  front : first_fault (task_lines_faults s) ≡ None
  front = (append-none (task_lines_faults s) (read_lines_faults s) none).0

  tasks-none : All (λ t. task_rank_fault s.diagram.policy t ≡ None) s.diagram.tasks
  tasks-none = each-none (task_rank_fault s.diagram.policy) [] s.diagram.tasks s.task_lines (omega (arith, lines.tasks)) front

  reads-none : first_fault (read_lines_faults s) ≡ None
  reads-none = sym (reads-decide s front) ∙ none

  -- the link at the place is used, so that a read line reads over it
  used-by-line : (k : ℕ) → k < length s.diagram.links → list_any (λ r. r.link == k) s.read_lines ≡ true
  used-by-line k below =
      any-map (λ r. r.link) k s.read_lines ∙ ap (list_any (λ m. m == k)) lines.reads
      ∙ sym (any-flat (λ r. r.link) (λ t. t.reads) k s.diagram.tasks) ∙ closed.used k below

  goes-down : All (λ l. l.delay ≡ 0 → slice_index ranks l.writer < slice_index ranks l.reader) s.diagram.links
  goes-down = λ k e below direct.
      let l : Link = get_or s.diagram.links k e in
      let at : slice_get s.diagram.links k ≡ Some l = slice_get-get_or s.diagram.links k e below in
      let fine : link_rank_fault ranks l ≡ None = rw at at (used-none ranks s.diagram.links k s.read_lines (used-by-line k below) reads-none) in
      let ends = closed.ends k e below in
      let size : length ranks ≡ length s.diagram.tasks = length-ranks_of s.diagram.policy s.diagram.tasks in
      let differ : slice_index ranks l.writer ≢ slice_index ranks l.reader =
      ranks-apart s.diagram.policy s.diagram.tasks l.writer l.reader (slice_index ranks l.writer) (slice_index ranks l.reader) ends.2
      (slice_get-get_or ranks l.writer 0 (omega (arith, size, ends.0))) (slice_get-get_or ranks l.reader 0 (omega (arith, size, ends.1))) in
      omega (arith, differ, not-above ranks l direct fine)

  still-closed : IsClosed (ranked_diagram s.diagram)
  still-closed = record {
    until = closed.until;
    inputs = closed.inputs;
    events = closed.events;
    tasks = closed.tasks;
    reads = closed.reads;
    links = closed.links;
    each = closed.each;
    ends = closed.ends;
    delays = closed.delays;
    one_link = closed.one_link;
    used = closed.used;
    own = closed.own;
    ports = closed.ports;
  }

  pub is-ranked : IsRanked (ranked_diagram s.diagram)
  is-ranked = record {
    closed = still-closed;
    urgencies = λ k e below. some-there (urgency s.diagram.policy (get_or s.diagram.tasks k e)) (missing s.diagram.policy) (tasks-none k e below);
    ranks = refl;
    downward = goes-down;
  }
