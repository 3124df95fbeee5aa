-- When a look finds its row: if the writer has filled it, which it has over a delayed link, and under `Ranked` wherever the look is allowed. And what an allowed step says of the claims on the task's own slot.
use Rattle.std.proofs.Common.{◌≡◌, ℕ, zero, suc, ℤ, ◌+◌, ◌-◌, ◌<◌, ◌≤◌, Bool, true, false, List, length, get_or, Some, None, refl, sym, ◌∙◌, ap, subst, arith, inl, inr}
use Rattle.std.specs.Prelude.{nat_le}
use Rattle.std.proofs.lemmas.Bool.{cases_Bool, cases_lt, eq-eqb, lt-ltb, ltb-false}
use Rattle.std.proofs.lemmas.Bool.Decides.{nat_tests}
use Rattle.std.proofs.lemmas.List.Sums.{count_by-le-length}
use Rattle.std.proofs.lemmas.Option.{slice_get-get_or}
use Rattle.dbp_plan.specs.declared.diagram.Link.{Link}
use Rattle.dbp_plan.specs.declared.plan.Plan.{Plan}
use Rattle.dbp_plan.specs.Occurrences.{count_until, times_of, time_of}
use Rattle.dbp_plan.specs.Times.{Rises, has_come, times-rise}
use Rattle.dbp_plan.specs.Lookups.{link_at, declared_task}
use Rattle.release_list.specs.Schedule.{aims, seen_by}
use Rattle.dbp_rules.specs.Lookups.{counts_link, is_counted, link, link_entry, slot_at, task, task_entry, time, wired_task}
use Rattle.dbp_rules.specs.Promises.{IsClaimFilled}
use Rattle.dbp_rules.specs.Rules as rule
use Rattle.dbp_rules.specs.Shapes.{IsWired, PlaceIn, TaskShape, heard_by, running_count}
use Rattle.dbp_rules.specs.Sound.{Sound}
use Rattle.dbp_rules.specs.SoundParts.{Stands, TaskSound, last_filled, last_passed, read_of}
use Rattle.dbp_rules.specs.declared.parts.Order.{Order}
use Rattle.dbp_rules.specs.declared.parts.Place.{Place}
use Rattle.dbp_rules.specs.declared.parts.Place.TheVariants as place
use Rattle.dbp_rules.specs.declared.state.State.{State}
use Rattle.dbp_rules.specs.declared.step.Broken.TheVariants as broken
use Rattle.dbp_rules.specs.declared.step.Count.{Count}
use Rattle.dbp_rules.specs.declared.step.Count.TheVariants.{All, Ranked}
use Rattle.dbp_rules.specs.declared.wiring.Wiring.{Wiring}
use Rattle.dbp_rules.proofs.Allowed.{none_found}
use Rattle.dbp_rules.proofs.SoundOwn.{IsOwn, IsOwnRead, claims_aims, seen_aims}
use Rattle.dbp_rules.proofs.SoundReading.{claimed_instance, claimed_number, read_claim, read_from, read_ready}

pub passed_below : (b : Bool) (known ended instance : ℕ) → known ≤ ended → ended < instance → last_passed b known ended < instance
passed_below true known ended instance less below = omega arith
passed_below false known ended instance less below = below

-- ---- the last condition

highest_none : (w : Wiring) (f : ℕ → Bool) (n k : ℕ) → rule.highest w f n ≡ None → k < n → f k ≡ false
highest_none w f zero k none below = absurd (omega arith)
highest_none w f (suc n) k none below = elim (cases_Bool (f n)) [
  | inl is ↦ let bad : Some (rule.higher w (rule.highest w f n) n) ≡ None = rw is at none in absurd (cc (bad))
  | inr isnt ↦
      let rest : rule.highest w f n ≡ None = rw isnt at none in
      elim (cases_lt k n) [
        | inl less ↦ highest_none w f n k rest less
        | inr at ↦ let same : k ≡ n = omega arith in rw same isnt
      ]
]

none_blocks : (c : Count) (w : Wiring) (s : State) (i r : ℕ) → rule.blocker_refusal c w s i ≡ None → c ≡ Ranked → r < length w.tasks → rule.blocks w s i r ≡ false
none_blocks All w s i r free is below = absurd (cc (is))
none_blocks Ranked w s i r free is below = highest_none w (rule.blocks w s i) (length w.tasks) r (none_found (rule.highest w (rule.blocks w s i) (length w.tasks)) broken.HigherUnfinished i free) below

-- under `Ranked` an unfinished instance of a higher task is later than the task's own
pub higher_later : (w : Wiring) (s : State) (i r : ℕ) → rule.blocker_refusal w.count w s i ≡ None → w.count ≡ Ranked → r < length w.tasks
    → (wired_task w r).rank < (wired_task w i).rank → (task s r).part.ended < (task_entry s r).aimed → rule.own_time w s i < rule.own_time w s r
higher_later w s i r free ranked below above left = elim (cases_lt (rule.own_time w s i) (rule.own_time w s r)) [
  | inl less ↦ less
  | inr late ↦
      let isnt : rule.blocks w s i r ≡ false = none_blocks w.count w s i r free ranked below in
      let third : nat_le (rule.own_time w s r) (rule.own_time w s i) ≡ true = grind (arith, nat_tests, late) in
      let is : rule.blocks w s i r ≡ true = rw (lt-ltb (wired_task w r).rank (wired_task w i).rank above, lt-ltb (task s r).part.ended (task_entry s r).aimed left, third) refl in
      absurd (cc (is, isnt))
]

-- the time of a task's next instance, by the plan
pub own_time_is : (p : Plan) (w : Wiring) (s : State) (i : ℕ) → IsWired p w → i < length w.tasks → rule.own_time w s i ≡ time_of p.batches i ((task s i).part.ended + 1)
own_time_is p w s i whole below = ap (λ (ts : List ℕ). get_or ts ((task s i).part.ended + 1 - 1) 0) (whole.each_task i below).times

-- an instance that has come by a time isn't later
pub come : (p : Plan) (v n time : ℕ) → n < count_until (times_of p.batches v) time → time_of p.batches v (n + 1) ≤ time
come p v n time below =
    let rises : Rises (times_of p.batches v) = times-rise p.batches v p.rules.rising in
    let inside : n < length (times_of p.batches v) = omega (arith, count_by-le-length (λ (t : ℕ). nat_le t time) (times_of p.batches v)) in
    let same : n + 1 - 1 ≡ n = omega arith in
    rw same (has_come (times_of p.batches v) n (get_or (times_of p.batches v) n 0) time rises (slice_get-get_or (times_of p.batches v) n 0 inside) below)

module _ (p : Plan) (w : Wiring) (rows : ℕ → ℕ → List ℤ) (s : State) (own : IsOwn p w) (sound : Sound p w rows s) where
  -- the claim of a running reader stands
  pub stands_running : (k : ℕ) → k < length w.links → running_count (task s (link w k).reader).part.place ≡ 1 → Stands w k (link_entry s k) (task_entry s (link w k).reader) (task s (link w k).reader)
  stands_running k fits busy =
      let ok : TaskSound p w rows (link w k).reader (task_entry s (link w k).reader) (task s (link w k).reader) = sound.tasks (link w k).reader (own.whole.reader k fits) in
      passed_below (is_counted w k) (task_entry s (link w k).reader).known (task s (link w k).reader).words.ended (link_entry s k).instance ok.known (omega (arith, ok.ended, claimed_instance p w rows s own sound k fits busy))

  module _ (i n : ℕ) (below : i < length w.tasks) (at : (task s i).part.place ≡ place.Look n) where
    few : n < length (wired_task w i).reads
    few = subst (λ (x : Place). PlaceIn (wired_task w i) x) at (sound.shape.each_task i below).place

    all : heard_by (1 + length (wired_task w i).links) (task s i).part.place ≡ 1 + length (wired_task w i).links
    all = ap (heard_by (1 + length (wired_task w i).links)) at

    read : IsOwnRead p w i n
    read = own.reads i n below few

    abbrev k : ℕ
    k = (read_of p w i n).link

    busy : running_count (task s (link w k).reader).part.place ≡ 1
    busy = ap (λ x. running_count (task s x).part.place) read.reader ∙ ap running_count at

    stands : Stands w k (link_entry s k) (task_entry s (link w k).reader) (task s (link w k).reader)
    stands = stands_running k read.below busy

    is_there : (slot_at (task s (link w k).writer).words.slots (link_entry s k).slot).stamp ≡ (link_entry s k).number + 1 → rule.is_ready w s i n ≡ true
    is_there stamp =
        let from : (rule.read_slot w s i n).stamp ≡ (link_entry s k).number + 1 = ap (λ x. x.stamp) (read_from p w rows s own sound i n below few all) ∙ stamp in
        let told : (rule.read_order w s i n).number ≡ (link_entry s k).number = ap (λ (x : Order). x.number) (read_claim p w rows s own sound i n below few all) in
        eq-eqb (rule.read_slot w s i n).stamp ((rule.read_order w s i n).number + 1) (from ∙ ap (λ (x : ℕ). x + 1) (sym told))

    writer : (link w k).writer < length w.tasks
    writer = own.whole.writer k read.below

    -- if the writer has filled the claimed row, a look finds it
    pub filled_ready : IsClaimFilled w s (read_of p w i n).link → rule.is_ready w s i n ≡ true
    filled_ready filled = elim ((sound.links k read.below).holds stands) [
      | inl stamp ↦ is_there stamp
      | inr coming ↦ absurd (omega (arith, coming.2, filled))
    ]

    -- and only there
    pub ready_filled : rule.is_ready w s i n ≡ true → IsClaimFilled w s (read_of p w i n).link
    ready_filled is =
        let stamp : (slot_at (task s (link w k).writer).words.slots (link_entry s k).slot).stamp ≡ (link_entry s k).number + 1 = read_ready p w rows s own sound i n below few all is in
        ((sound.tasks (link w k).writer writer).whole (link_entry s k).slot (link_entry s k).number (sound.shape.each_link k read.below).claim.0 stamp).0

    -- the claimed row is no later than the writer's last aimed one, less the delay
    number_aimed : (link_entry s k).number ≤ (task_entry s (link w k).writer).aimed - (link w k).delay
    number_aimed =
        let number : (link_entry s k).number ≡ seen_by w.links p.batches k (link_entry s k).instance - (link w k).delay = (sound.claims k read.below).number in
        let seen : seen_by w.links p.batches k (link_entry s k).instance ≤ aims w.releases s.releaser.place (link w k).writer = rw (sound.claims k read.below).instance (seen_aims p w own.whole s.releaser.place k read.below) in
        omega (arith, number, seen, sound.shape.aimed (link w k).writer writer)

    -- over a delayed link the writer has filled it
    pub delayed_ready : 0 < (link w (read_of p w i n).link).delay → rule.is_ready w s i n ≡ true
    delayed_ready late =
        let ok : TaskSound p w rows (link w k).writer (task_entry s (link w k).writer) (task s (link w k).writer) = sound.tasks (link w k).writer writer in
        filled_ready (omega (arith, number_aimed, late, ok.known, ok.ended, ok.aimed))

    -- under `Ranked` it has if the look is allowed
    pub ranked_ready : w.count ≡ Ranked → rule.blocker_refusal w.count w s i ≡ None → rule.is_ready w s i n ≡ true
    ranked_ready ranked free = elim (cases_lt 0 (link w k).delay) [
      | inl late ↦ delayed_ready late
      | inr now ↦
          let v : ℕ = (link w k).writer in
          let direct : (link w k).delay ≡ 0 = omega arith in
          elim (cases_lt (last_filled (task s v)) (link_entry s k).number) [
            | inr filled ↦ filled_ready filled
            | inl coming ↦
                let above : (wired_task w v).rank < (wired_task w i).rank = omega (arith, own.downward k read.below direct, ap (λ x. (wired_task w x).rank) read.reader) in
                let number : (link_entry s k).number ≡ count_until (times_of p.batches v) (time_of p.batches i ((task s i).part.ended + 1)) - (link w k).delay = claimed_number p w rows s own sound i k read.below read.reader (ap running_count at) in
                let later : rule.own_time w s i < rule.own_time w s v = higher_later w s i v free ranked writer above (omega (arith, coming, number_aimed)) in
                let soon : time_of p.batches v ((task s v).part.ended + 1) ≤ time_of p.batches i ((task s i).part.ended + 1) = come p v (task s v).part.ended (time_of p.batches i ((task s i).part.ended + 1)) (omega (arith, coming, number, direct)) in
                absurd (omega (arith, later, soon, own_time_is p w s i own.whole below, own_time_is p w s v own.whole writer))
          ]
    ]

  -- ---- claims on a running task's own slot

  uncounted : (c : Count) (writer reader : ℕ) → counts_link c writer reader ≡ false → (c ≡ Ranked) × (reader ≤ writer)
  uncounted Ranked writer reader isnt = (refl, ltb-false writer reader isnt)
  uncounted All writer reader isnt = absurd (cc (isnt))

  -- a task that may step has no standing claim on its slot that was made before this slot was aimed
  not_earlier : (k : ℕ) → k < length w.links → running_count (task s (link w k).writer).part.place ≡ 1 → rule.blocker_refusal w.count w s (link w k).writer ≡ None
      → is_counted w k ≡ false → Stands w k (link_entry s k) (task_entry s (link w k).reader) (task s (link w k).reader) → seen_by w.links p.batches k (link_entry s k).instance < (task_entry s (link w k).writer).aimed → ⊥
  not_earlier k fits busy free isnt stands seen =
      let i : ℕ = (link w k).writer in
      let r : ℕ = (link w k).reader in
      let writer : i < length w.tasks = own.whole.writer k fits in
      let reader : r < length w.tasks = own.whole.reader k fits in
      let ok : TaskSound p w rows i (task_entry s i) (task s i) = sound.tasks i writer in
      let other : TaskSound p w rows r (task_entry s r) (task s r) = sound.tasks r reader in
      let shape : TaskShape w (declared_task p i) i (task_entry s i).aimed (task s i) = sound.shape.each_task i writer in
      let u = uncounted w.count (wired_task w i).rank (wired_task w r).rank isnt in
      let live : (task s r).words.ended < (link_entry s k).instance = subst (λ (b : Bool). last_passed b (task_entry s r).known (task s r).words.ended < (link_entry s k).instance) isnt stands in
      let claim : (link_entry s k).instance ≤ (task_entry s r).aimed = omega (arith, (sound.claims k fits).instance, sound.shape.aimed r reader, claims_aims p w own.whole s.releaser.place k fits) in
      let above : (wired_task w r).rank < (wired_task w i).rank = omega (arith, u.1, own.ranks i r writer reader (own.apart k fits)) in
      let later : rule.own_time w s i < rule.own_time w s r = higher_later w s i r free u.0 reader above (omega (arith, other.ended)) in
      let now : (task_entry s i).aimed ≡ (task s i).part.ended + 1 = omega (arith, shape.gate, shape.aimed, ok.known, ok.ended, ok.aimed) in
      let most : (task_entry s i).aimed ≤ length (times_of p.batches i) = omega (arith, sound.shape.aimed i writer, own.whole.releases.aims_times s.releaser.place i) in
      let most_read : (task_entry s r).aimed ≤ length (times_of p.batches r) = omega (arith, sound.shape.aimed r reader, own.whole.releases.aims_times s.releaser.place r) in
      let inside : k < length p.diagram.links = omega (arith, fits, ap length own.whole.links) in
      let early : 0 < (link_entry s k).instance → seen_by w.links p.batches k (link_entry s k).instance < (task_entry s i).aimed → (task_entry s i).aimed ≤ length (times_of p.batches i) → time_of p.batches r (link_entry s k).instance < time_of p.batches i (task_entry s i).aimed =
      subst (λ (ls : List Link). 0 < (link_entry s k).instance → seen_by ls p.batches k (link_entry s k).instance < (task_entry s i).aimed → (task_entry s i).aimed ≤ length (times_of p.batches (link_at ls k).writer) → time_of p.batches (link_at ls k).reader (link_entry s k).instance < time_of p.batches (link_at ls k).writer (task_entry s i).aimed)
      (sym own.whole.links) (λ some. own.whole.releases.early k (link_entry s k).instance (task_entry s i).aimed inside some) in
      let before : time_of p.batches r (link_entry s k).instance < time_of p.batches i (task_entry s i).aimed = early (omega arith) seen most in
      let rise : time_of p.batches r ((task s r).part.ended + 1) ≤ time_of p.batches r (link_entry s k).instance = own.whole.releases.rising r ((task s r).part.ended + 1) (link_entry s k).instance (omega arith) (omega (arith, other.ended)) (omega arith) in
      let same : time_of p.batches i (task_entry s i).aimed ≡ time_of p.batches i ((task s i).part.ended + 1) = ap (λ (x : ℕ). time_of p.batches i x) now in
      absurd (omega (arith, later, before, rise, same, own_time_is p w s i own.whole writer, own_time_is p w s r own.whole reader))

  -- so each standing claim on the slot of a task that may step is for the row that is to come
  pub claims_next : (k : ℕ) → k < length w.links → running_count (task s (link w k).writer).part.place ≡ 1 → rule.blocker_refusal w.count w s (link w k).writer ≡ None
      → Stands w k (link_entry s k) (task_entry s (link w k).reader) (task s (link w k).reader) → (link_entry s k).slot ≡ (task_entry s (link w k).writer).current → (link_entry s k).number ≡ (task_entry s (link w k).writer).aimed
  claims_next k fits busy free stands here = elim ((sound.links k fits).current stands here) [
    | inl number ↦ number
    | inr early ↦ absurd (not_earlier k fits busy free early.0 stands early.2)
  ]
