-- The links into a task: each once.
use Rattle.std.proofs.Common.{◌≡◌, ◌≢◌, ℕ, zero, suc, ◌+◌, ◌<◌, ◌≤◌, inl, inr, Bool, true, false, cond, List, [], ◌∷◌, ◌++◌, length, get_or, refl, ap, ◌∙◌, sym, arith, add-one}
use Rattle.std.specs.Prelude.{◌==◌, count_by, filter}
use Rattle.std.specs.List.{range_with_len}
use Rattle.std.proofs.lemmas.Bool.{cases_eq, eq-eqb, ne_eqb}
use Rattle.std.proofs.lemmas.List.{length-map, map-id, append-nil}
use Rattle.std.proofs.lemmas.List.FromFn.{filter_of_map_range_with_len_more, get_or-map-range_with_len, length-range_with_len}
use Rattle.std.proofs.lemmas.List.Sums.{length-filter, count_by-le-length}
use Rattle.dbp_plan.specs.declared.diagram.Link.{Link}
use Rattle.dbp_plan.specs.Lookups.{link_at}
use Rattle.release_list.specs.declared.release.Release.{Release}
use Rattle.release_list.specs.Releases.{claims_by_task, claims_into, into_among}
use Rattle.dbp_plan.proofs.Counts.{count-append, count-cons}

-- the numbers that pass, of one number more, and how many there are at most
pub numbers_more : (test : ℕ → Bool) (n : ℕ) → filter test (range_with_len 0 (n + 1)) ≡ filter test (range_with_len 0 n) ++ cond (test n) (n ∷ []) []
numbers_more test n =
    let more = filter_of_map_range_with_len_more test (λ k. k) 0 n n (omega arith) in
    rw (map-id (range_with_len 0 (n + 1)), map-id (range_with_len 0 n)) at more

pub numbers_few : (test : ℕ → Bool) (n : ℕ) → length (filter test (range_with_len 0 n)) ≤ n
numbers_few test n = omega (arith, length-filter test (range_with_len 0 n), count_by-le-length test (range_with_len 0 n), length-range_with_len 0 n)

-- one link more
into_more : (links : List Link) (task n : ℕ) → into_among links task (n + 1) ≡ into_among links task n ++ cond ((link_at links n).reader == task) (n ∷ []) []
into_more links task n = numbers_more (λ k. (link_at links k).reader == task) n

-- the next link is into the task, or it isn't
pub one_more : (links : List Link) (task n : ℕ) → (link_at links n).reader ≡ task → into_among links task (n + 1) ≡ into_among links task n ++ n ∷ []
one_more links task n is = into_more links task n ∙ rw (eq-eqb (link_at links n).reader task is) refl

pub no_more : (links : List Link) (task n : ℕ) → (link_at links n).reader ≢ task → into_among links task (n + 1) ≡ into_among links task n
no_more links task n isnt = into_more links task n ∙ rw (ne_eqb (link_at links n).reader task isnt) (append-nil (into_among links task n))

pub into_few : (links : List Link) (task n : ℕ) → length (into_among links task n) ≤ n
into_few links task n = numbers_few (λ k. (link_at links k).reader == task) n

count_last : (link n : ℕ) (is_into : Bool) → count_by (λ k. link == k) (cond is_into (n ∷ []) []) ≡ cond is_into (cond (link == n) 1 0) 0
count_last link n true = count-cons (λ k. link == k) n [] ∙ omega arith
count_last link n false = refl

count_more : (links : List Link) (task n link : ℕ) → count_by (λ k. link == k) (into_among links task (suc n)) ≡ count_by (λ k. link == k) (into_among links task n) + cond ((link_at links n).reader == task) (cond (link == n) 1 0) 0
count_more links task n link =
    ap (λ m. count_by (λ k. link == k) (into_among links task m)) (sym (add-one n))
    ∙ ap (count_by (λ k. link == k)) (into_more links task n)
    ∙ count-append (λ k. link == k) (into_among links task n) (cond ((link_at links n).reader == task) (n ∷ []) [])
    ∙ ap (λ m. count_by (λ k. link == k) (into_among links task n) + m) (count_last link n ((link_at links n).reader == task))

cond_same : (b : Bool) → cond {A = ℕ} b 0 0 ≡ 0
cond_same true = refl
cond_same false = refl

pub none_into : (links : List Link) (task n link : ℕ) → n ≤ link → count_by (λ k. link == k) (into_among links task n) ≡ 0
none_into links task zero link above = refl
none_into links task (suc n) link above =
    let apart : link ≢ n = λ same. absurd (omega arith) in
    count_more links task n link ∙ rw (ne_eqb link n apart, cond_same ((link_at links n).reader == task), none_into links task n link (omega arith)) refl

pub once_into : (links : List Link) (task n link : ℕ) → link < n → count_by (λ k. link == k) (into_among links task n) ≡ cond ((link_at links link).reader == task) 1 0
once_into links task zero link below = absurd (omega arith)
once_into links task (suc n) link below =
    elim (cases_eq link n) [
      | inl same ↦ count_more links task n link ∙ rw (same, none_into links task n n (omega arith), eq-eqb n n refl) (omega arith)
      | inr apart ↦ count_more links task n link ∙ rw (ne_eqb link n apart, cond_same ((link_at links n).reader == task), once_into links task n link (omega arith)) (omega arith)
    ]

-- the claims for each task stand at its index
pub claims_at : (links : List Link) (n i : ℕ) (d : List Release) → i < n → get_or (claims_by_task links n) i d ≡ claims_into links i
claims_at links n i d below = get_or-map-range_with_len (claims_into links) 0 n i i d below (omega arith)

pub claims_size : (links : List Link) (n : ℕ) → length (claims_by_task links n) ≡ n
claims_size links n = length-map (range_with_len 0 n) (claims_into links) ∙ length-range_with_len 0 n

-- what stands at a task's index in the claims of so many tasks
pub claims_found : (links : List Link) (claims : List (List Release)) (task : ℕ) (item found : List Release) → found ≡ item → item ≡ get_or claims task item → claims ≡ claims_by_task links (length claims) → task < length claims
    → found ≡ claims_into links task
claims_found links claims task item found same is known below =
    same ∙ is ∙ ap (λ (l : List (List Release)). get_or l task item) known ∙ claims_at links (length claims) task item below
