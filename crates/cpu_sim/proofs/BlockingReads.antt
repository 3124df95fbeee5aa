-- Blocking by the numbers of claims and of ended instances is the blocking of the definition.
use Rattle.std.proofs.Common.{◌≡◌, ◌≢◌, ℕ, zero, suc, ◌+◌, ◌-◌, ◌<◌, ◌≤◌, Bool, true, false, ℤ, List, [], ◌∷◌, ◌++◌, length, take, get_or, slice_get, Some, refl, sym, ap, ◌∙◌, subst, inl, inr, arith}
use Rattle.std.specs.List.{list_any}
use Rattle.std.specs.Prelude.{◌==◌, ◌&&◌, ◌||◌, nat_le, nat_lt}
use Rattle.std.proofs.Math.Logic.{∥∥₁_elim}
use Rattle.std.proofs.Props.{props}
use Rattle.std.proofs.lemmas.Bool.{cases_Bool, cases_eq, cases_lt, eq-eqb, false≢true, le-ltb, lt-ltb, ne_eqb}
use Rattle.std.proofs.lemmas.List.{take_more}
use Rattle.std.proofs.lemmas.List.Sums.{count_by-le-length}
use Rattle.std.proofs.lemmas.Option.{get_or_from_slice_get, slice_get-get_or}
use Rattle.dbp_plan.specs.declared.diagram.Link.{Link}
use Rattle.dbp_plan.specs.declared.diagram.Read.{Read}
use Rattle.dbp_plan.specs.declared.diagram.Task.{Task}
use Rattle.dbp_plan.specs.declared.plan.Plan.{Plan}
use Rattle.dbp_plan.specs.ListItems.{all_place, at_place}
use Rattle.dbp_plan.specs.Closed.{IsClosedTask}
use Rattle.dbp_plan.specs.Lookups.{declared_task, link_at, no_declared_task, no_link, no_read}
use Rattle.dbp_plan.specs.Occurrences.{count_until, time_of, times_of}
use Rattle.dbp_plan.specs.Times.{has_come, times-rise}
use Rattle.sync_meaning.specs.SomeMeaning.{meaning_of}
use Rattle.dbp_plan.specs.Table.{table_row}
use Rattle.release_list.specs.Schedule.{claims, seen_by}
use Rattle.release_list.proofs.BatchStarts.{claims_at_start}
use Rattle.dbp_rules.specs.Lookups.{link_entry, task}
use Rattle.dbp_rules.specs.Sound.{Sound}
use Rattle.dbp_rules.specs.Wired.{wiring_of}
use Rattle.dbp_rules.specs.declared.state.State.{State}
use Rattle.dbp_rules.specs.declared.step.Count.{Count}
use Rattle.dbp_rules.specs.declared.wiring.Wiring.{Wiring}
use Rattle.dbp_core.specs.Steppers.{plan_in, state_in}
use Rattle.dbp_core.specs.declared.stepper.Stepper.{Stepper}
use Rattle.instance_steps.specs.Releases.{HasReleased}
use Rattle.instance_steps.specs.TaskPieces.{HasRowsToRead}
use Rattle.rank_order.specs.Instances.{Instance, IsInstance, release_of}
use Rattle.rank_order.specs.Service.{Waits, left_of}
use Rattle.virtual_time.specs.State.{IsSimulatedTo, NoBatchBefore, busy_count, instance, release_count}
use Rattle.virtual_time.specs.declared.run.Run.{Run}
use Rattle.virtual_time.proofs.Steps.{busy_count_none, busy_count_one, ended_left, released_by, waits_from}
use Rattle.cpu_sim.specs.Choices.{StandTogether, last_of, link_blocks}
use Rattle.cpu_sim.specs.Processors.{is_blocked, left_on, read_blocks, read_number, served_on}
use Rattle.cpu_sim.specs.Services.{services}

-- a read's link is there, and goes to its task
pub record IsLinked (p : Plan) (i : ℕ) (r : Read) : Type 0 where
  pub inside : r.link < length p.diagram.links
  pub writer : (link_at p.diagram.links r.link).writer < length p.diagram.tasks
  pub own : (link_at p.diagram.links r.link).reader ≡ i

pub linked : (p : Plan) (i : ℕ) (r : Read) (k : ℕ) → i < length p.diagram.tasks → slice_get (declared_task p i).reads k ≡ Some r → IsLinked p i r
linked p i r k small at =
    let (task, at_i) = at_place p.diagram.tasks i small in
    let is : declared_task p i ≡ task = get_or_from_slice_get p.diagram.tasks i task no_declared_task at_i in
    let closed = all_place (IsClosedTask (length p.diagram.inputs) (length p.diagram.events) (length p.diagram.links)) p.diagram.tasks i task p.rules.ranked.closed.each at_i in
    let at_r : slice_get task.reads k ≡ Some r = ap (λ (u : Task). slice_get u.reads k) (sym is) ∙ at in
    let inside : r.link < length p.diagram.links = all_place (λ (r : Read). r.link < length p.diagram.links) task.reads k r closed.linked at_r in
    let l = link_at p.diagram.links r.link in
    let at_l : slice_get p.diagram.links r.link ≡ Some l = slice_get-get_or p.diagram.links r.link no_link inside in
    let ends = all_place (λ (l : Link). (l.writer < length p.diagram.tasks) × (l.reader < length p.diagram.tasks) × (l.writer ≢ l.reader)) p.diagram.links r.link l p.rules.ranked.closed.ends at_l in
    record { inside = inside; writer = ends.0; own = p.rules.ranked.closed.own i task r l k at_i at_r at_l }

-- ---- the number of a claim

-- over each link the claim is for the row that the reader's last released instance is to read
claim_number : (p : Plan) (count : Count) (rows : ℕ → ℕ → List ℤ) (s : State) (b k : ℕ) → Sound p (wiring_of p count) rows s → HasReleased p s b → k < length p.diagram.links
    → 0 < release_count p.batches b (link_at p.diagram.links k).reader
    → (link_entry s k).number ≡ read_number p (last_of p b (link_at p.diagram.links k).reader) (link_at p.diagram.links k).writer - (link_at p.diagram.links k).delay
claim_number p count rows s b k sound released below some =
    let links = p.diagram.links in
    let l = link_at p.diagram.links k in
    let c = sound.claims k below in
    let instance : (link_entry s k).instance ≡ release_count p.batches b l.reader =
    c.instance ∙ ap (λ place. claims (wiring_of p count).releases place k) released ∙ claims_at_start p.diagram.links p.batches p.rules.in_order b k below in
    c.number
    ∙ ap (λ n. seen_by p.diagram.links p.batches k n - l.delay) instance
    ∙ ap (λ (n : ℕ). n - l.delay) (seen_is (release_count p.batches b l.reader) some)
  where
    seen_is : (n : ℕ) → 0 < n → seen_by p.diagram.links p.batches k n ≡ count_until (times_of p.batches (link_at p.diagram.links k).writer) (time_of p.batches (link_at p.diagram.links k).reader n)
    seen_is zero none = absurd (omega (arith, none))
    seen_is (suc n) some = refl

pub claimed_is : (p : Plan) (core : Stepper) (b k : ℕ) → plan_in core ≡ p → HasReleased p (state_in core) b → k < length p.diagram.links
    → 0 < release_count p.batches b (link_at p.diagram.links k).reader
    → (link_entry (state_in core) k).number ≡ read_number p (last_of p b (link_at p.diagram.links k).reader) (link_at p.diagram.links k).writer - (link_at p.diagram.links k).delay
claimed_is p core b k plan released below some = ∥∥₁_elim core.sound (hlevel props) (λ sound.
    let wired = subst (λ (w : Wiring). Sound core.plan.value w (table_row (meaning_of core.plan.value)) core.state) core.wired sound in
    let own = subst (λ (q : Plan). Sound q (wiring_of q core.wiring.count) (table_row (meaning_of q)) core.state) plan wired in
    claim_number p core.wiring.count (table_row (meaning_of p)) core.state b k own released below some)

-- ---- a point to which all processors have come

abbrev pub HasComeTo : Plan → ℕ → ℕ → List ℕ → List (List ℕ) → Type 0
HasComeTo p b now rest ends = IsSimulatedTo p (λ j. (declared_task p j).cpu) (services p) b (λ c. now) rest ends

-- the core has come to the same; no further batch is due at this time
pub record Together (p : Plan) (core : Stepper) (b now : ℕ) (rest : List ℕ) (ends : List (List ℕ)) : Type 0 where
  pub plan : plan_in core ≡ p
  pub released : HasReleased p (state_in core) b
  pub at : HasComeTo p b now rest ends
  pub until : NoBatchBefore p b (now + 1)

-- a core and a run that stand together
pub together : (p : Plan) (core : Stepper) (run : Run) → StandTogether p core run → Together p core run.released run.time run.rest.items run.ends
together p core run t = record { plan = t.plan; released = t.released; at = t.at.at; until = t.until }

-- ---- the writer's instance has something left exactly if it hasn't ended

module _ (p : Plan) (b now : ℕ) (rest : List ℕ) (ends : List (List ℕ)) (h : HasComeTo p b now rest ends) (until : NoBatchBefore p b (now + 1)) (i : ℕ) (small : i < length p.diagram.tasks) (some : 0 < get_or rest i 0) where
  x-waits : Waits p (left_on p (services p)) now (last_of p b i)
  x-waits = waits_from p (λ j. (declared_task p j).cpu) (services p) b (λ c. now) rest ends h i small some

  pub some_released : 0 < release_count p.batches b i
  some_released = x-waits.instance.from_one

  module _ (writer : ℕ) (named : writer < length p.diagram.tasks) where
    abbrev n : ℕ
    n = read_number p (last_of p b i) writer

    abbrev y : Instance
    y = instance writer (read_number p (last_of p b i) writer)

    writer-is : 0 < read_number p (last_of p b i) writer → IsInstance p y
    writer-is one = record {
      task = named;
      from_one = omega (arith, one);
      within = count_by-le-length (λ u. nat_le u (release_of p (last_of p b i))) (times_of p.batches writer);
    }

    -- it was released
    pub few_read : read_number p (last_of p b i) writer ≤ release_count p.batches b writer
    few_read = elim (cases_lt 0 (read_number p (last_of p b i) writer)) [
      | inr none ↦ omega (arith, none)
      | inl one ↦
          let is = writer-is one in
          let times = times_of p.batches writer in
          let early : release_of p y ≤ release_of p (last_of p b i) =
          has_come times (n - 1) (release_of p y) (release_of p (last_of p b i)) (times-rise p.batches writer p.rules.rising) (slice_get-get_or times (n - 1) 0 (omega (arith, one, is.within))) (omega (arith, one)) in
          (released_by p (λ j. (declared_task p j).cpu) (services p) b (λ c. now) rest ends h (now + 1) until 0 y is (omega (arith, early, x-waits.released))).1
    ]

    pub unfinished_is : nat_lt (length (get_or ends writer [])) (read_number p (last_of p b i) writer)
        ≡ (nat_lt 0 (read_number p (last_of p b i) writer) && nat_lt (served_on p (services p) now (instance writer (read_number p (last_of p b i) writer))) (declared_task p writer).cost)
    unfinished_is = elim (cases_lt (length (get_or ends writer [])) (read_number p (last_of p b i) writer)) [
      | inl more ↦
          let count = h.counts writer named in
          let busy : 0 < get_or rest writer 0 = elim (cases_lt 0 (get_or rest writer 0)) [
            | inl is ↦ is
            | inr none ↦ absurd (omega (arith, count, more, few_read, busy_count_none (get_or rest writer 0) (omega (arith, none))))
          ] in
          let last : read_number p (last_of p b i) writer ≡ release_count p.batches b writer = omega (arith, count, more, few_read, busy_count_one (get_or rest writer 0) busy) in
          let under = h.under writer named busy in
          let same = ap (λ (m : ℕ). left_on p (services p) (instance writer m) now) last in
          let less : served_on p (services p) now (instance writer (read_number p (last_of p b i) writer)) < (declared_task p writer).cost = omega (arith, under, same, busy) in
          rw (lt-ltb _ _ more, lt-ltb 0 (read_number p (last_of p b i) writer) (omega (arith, more)), lt-ltb _ _ less) refl
      | inr over ↦ elim (cases_lt 0 (read_number p (last_of p b i) writer)) [
        | inr none ↦ rw (le-ltb _ _ over, le-ltb _ _ none) refl
        | inl one ↦
            let left = ended_left p (λ j. (declared_task p j).cpu) (services p) b (λ c. now) rest ends h writer (read_number p (last_of p b i) writer) named one over in
            let most : (declared_task p writer).cost ≤ served_on p (services p) now (instance writer (read_number p (last_of p b i) writer)) = omega (arith, left) in
            rw (le-ltb _ _ over, lt-ltb _ _ one, le-ltb _ _ most) refl
      ]
    ]

-- ---- so a link blocks exactly if its claim's number is above the ended ones

module _ (p : Plan) (core : Stepper) (b now : ℕ) (rest : List ℕ) (ends : List (List ℕ)) (t : Together p core b now rest ends) (k : ℕ) (below : k < length p.diagram.links) (some : 0 < get_or rest (link_at p.diagram.links k).reader 0) where
  abbrev l : Link
  l = link_at p.diagram.links k

  pub ends-there : (l.writer < length p.diagram.tasks) × (l.reader < length p.diagram.tasks)
  ends-there =
      let both = all_place (λ (m : Link). (m.writer < length p.diagram.tasks) × (m.reader < length p.diagram.tasks) × (m.writer ≢ m.reader)) p.diagram.links k (link_at p.diagram.links k) p.rules.ranked.closed.ends (slice_get-get_or p.diagram.links k no_link below) in
      (both.0, both.1)

  pub number_is : (link_entry (state_in core) k).number ≡ read_number p (last_of p b l.reader) l.writer - l.delay
  number_is = claimed_is p core b k t.plan t.released below (some_released p b now rest ends t.at t.until l.reader ends-there.1 some)

  pub direct_blocks : l.delay ≡ 0 → nat_lt (length (get_or ends l.writer [])) (link_entry (state_in core) k).number ≡ link_blocks p (served_on p (services p) now) (last_of p b l.reader) l
  direct_blocks direct =
      let number : (link_entry (state_in core) k).number ≡ read_number p (last_of p b l.reader) l.writer = omega (arith, number_is, direct) in
      ap (nat_lt (length (get_or ends l.writer []))) number
      ∙ unfinished_is p b now rest ends t.at t.until l.reader ends-there.1 some l.writer ends-there.0
      ∙ rw (eq-eqb l.delay 0 direct) refl

-- ---- the reads of a task, one after another

pub any_there : {A : Type 0} (test : A → Bool) (xs : List A) (k : ℕ) (d : A) → k < length xs → test (get_or xs k d) ≡ true → list_any test xs ≡ true
any_there test [] k d less is = absurd (omega (arith, less))
any_there test (x ∷ xs) zero d less is = rw is refl
any_there test (x ∷ xs) (suc k) d less is = let rest = any_there test xs k d (omega (arith, less)) is in or_right (test x) (list_any test xs) rest
  where
    or_right : (a b : Bool) → b ≡ true → (a || b) ≡ true
    or_right true b is = refl
    or_right false b is = is

or_false : (a b : Bool) → (a || b) ≡ false → (a ≡ false) × (b ≡ false)
or_false true b is = absurd (cc)
or_false false b is = (refl, is)

none_of_both : {A : Type 0} (test : A → Bool) (xs : List A) (x : A) → list_any test xs ≡ false → test x ≡ false → list_any test (xs ++ x ∷ []) ≡ false
none_of_both test [] x before here = rw here refl
none_of_both test (z ∷ xs) x before here =
    let parts = or_false (test z) (list_any test xs) before in
    let rest = none_of_both test xs x parts.1 here in
    rw (parts.0, rest) refl

pub none_more : {A : Type 0} (test : A → Bool) (xs : List A) (k : ℕ) (d : A) → k < length xs → list_any test (take k xs) ≡ false → test (get_or xs k d) ≡ false → list_any test (take (k + 1) xs) ≡ false
none_more test xs k d less before here = ap (list_any test) (take_more xs k d less) ∙ none_of_both test (take k xs) (get_or xs k d) before here

-- the read that the code has at an index of the task's
pub read_here : (p : Plan) (i n : ℕ) (body : Task) (items : List Read) (r : Read) → body ≡ declared_task p i → items ≡ body.reads → n < length items → r ≡ get_or items n r → slice_get (declared_task p i).reads n ≡ Some r
read_here p i n body items r own reads less is =
    ap (λ (t : Task). slice_get t.reads n) (sym own) ∙ ap (λ (l : List Read). slice_get l n) (sym reads) ∙ slice_get-get_or items n r less ∙ ap (λ (q : Read). Some q) (sym is)

module _ (p : Plan) (b now : ℕ) (rest : List ℕ) (ends : List (List ℕ)) (h : HasComeTo p b now rest ends) (i : ℕ) (small : i < length p.diagram.tasks) (some : 0 < get_or rest i 0) where
  -- it was served for so many ticks
  pub served_now : served_on p (services p) now (last_of p b i) ≡ (declared_task p i).cost - get_or rest i 0
  served_now =
      let under = h.under i small some in
      let within = left_of p (services p (declared_task p i).cpu) (last_of p b i) now in
      omega (arith, under, some)

  abbrev test : Read → Bool
  test = read_blocks p (served_on p (services p) now) (last_of p b i)

  module _ (r : Read) (k : ℕ) (at : slice_get (declared_task p i).reads k ≡ Some r) where
    pub link_there : r.link < length p.diagram.links
    link_there = (linked p i r k small at).inside

    pub reader_is : (link_at p.diagram.links r.link).reader ≡ i
    reader_is = (linked p i r k small at).own

    pub due_blocks : r.at ≡ (declared_task p i).cost - get_or rest i 0 → (waits : Bool)
        → waits ≡ link_blocks p (served_on p (services p) now) (last_of p b (link_at p.diagram.links r.link).reader) (link_at p.diagram.links r.link)
        → read_blocks p (served_on p (services p) now) (last_of p b i) r ≡ waits
    due_blocks due waits is =
        let own = ap (λ (j : ℕ). link_blocks p (served_on p (services p) now) (last_of p b j) (link_at p.diagram.links r.link)) reader_is in
        let come : (r.at == served_on p (services p) now (last_of p b i)) ≡ true = eq-eqb r.at _ (due ∙ sym served_now) in
        ap (λ (here : Bool). here && link_blocks p (served_on p (services p) now) (last_of p b i) (link_at p.diagram.links r.link)) come ∙ sym (is ∙ own)

    pub not_due : r.at ≢ (declared_task p i).cost - get_or rest i 0 → read_blocks p (served_on p (services p) now) (last_of p b i) r ≡ false
    not_due early = rw (ne_eqb r.at (served_on p (services p) now (last_of p b i)) (λ e. early (e ∙ served_now))) refl

-- ---- so one that isn't blocked has its rows

-- the rows that the task's instance reads now are filled, if it isn't blocked
pub rows_there : (p : Plan) (core : Stepper) (b now : ℕ) (rest : List ℕ) (ends : List (List ℕ)) → Together p core b now rest ends → (count : Count) (i : ℕ) → i < length p.diagram.tasks → 0 < get_or rest i 0
    → ((j : ℕ) → j < length p.diagram.tasks → (task (state_in core) j).part.ended ≡ length (get_or ends j [])) → is_blocked p (served_on p (services p) now) (last_of p b i) ≡ false
    → HasRowsToRead p (wiring_of p count) (state_in core) i ((declared_task p i).cost - get_or rest i 0)
rows_there p core b now rest ends t count i small some ended free all r less due =
    let read = get_or (declared_task p i).reads r no_read in
    let k = read.link in
    let here : slice_get (declared_task p i).reads r ≡ Some read = slice_get-get_or (declared_task p i).reads r no_read less in
    let below = link_there p b now rest ends t.at i small some read r here in
    let l = link_at p.diagram.links k in
    let own : l.reader ≡ i = reader_is p b now rest ends t.at i small some read r here in
    let some_there : 0 < get_or rest l.reader 0 = subst (λ (j : ℕ). 0 < get_or rest j 0) (sym own) some in
    let ends_ = ends-there p core b now rest ends t k below some_there in
    let number = number_is p core b now rest ends t k below some_there in
    let most = few_read p b now rest ends t.at t.until l.reader ends_.1 some_there l.writer ends_.0 in
    let count' = t.at.counts l.writer ends_.0 in
    let one = busy_few (get_or rest l.writer 0) in
    let filled = ended l.writer ends_.0 in
    elim (cases_eq l.delay 0) [
      | inr late ↦ omega (arith, number, most, count', one, filled, late)
      | inl direct ↦
          let unblocked : read_blocks p (served_on p (services p) now) (last_of p b i) read ≡ false = elim (cases_Bool (read_blocks p (served_on p (services p) now) (last_of p b i) read)) [
            | inr is ↦ is
            | inl is ↦ absurd (false≢true (sym free ∙ any_there (read_blocks p (served_on p (services p) now) (last_of p b i)) (declared_task p i).reads r no_read less is))
          ] in
          let not_above : nat_lt (length (get_or ends l.writer [])) (link_entry (state_in core) k).number ≡ false =
          direct_blocks p core b now rest ends t k below some_there direct
          ∙ sym (due_blocks p b now rest ends t.at i small some read r here due (link_blocks p (served_on p (services p) now) (last_of p b l.reader) l) refl) ∙ unblocked in
          elim (cases_lt (length (get_or ends l.writer [])) (link_entry (state_in core) k).number) [
            | inl above ↦ absurd (false≢true (sym not_above ∙ lt-ltb _ _ above))
            | inr within ↦ omega (arith, within, filled)
          ]
    ]
  where
    busy_few : (n : ℕ) → busy_count n ≤ 1
    busy_few zero = omega arith
    busy_few (suc n) = omega arith
