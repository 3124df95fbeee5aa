-- The table before the first step keeps the rule, and so does the split of a seat.
use Rattle.std.proofs.Common.{◌≡◌, ◌≢◌, ◌⊎◌, inl, inr, ⊎_elim, ℕ, zero, suc, ◌<◌, List, [], ◌∷◌, ◌++◌, length, set, slice_get, Some, refl, sym, ap, ◌∙◌, subst, arith, length-set, length-append}
use Rattle.std.proofs.lemmas.List.FromFn.{get_or-map-range_with_len}
use Rattle.std.proofs.Math.ListN.{get_or-eq_default}
use Rattle.std.proofs.lemmas.Bool.{cases_lt}
use Rattle.std.proofs.lemmas.Option.{same_Some}
use mathlib.Core.Logic.{dite}
use mathlib.Core.Option.{some, some-ne-none, some-injective}
use native.Mathlib.Decide.{ℕ_discrete}
use lib.ListN.{get_elem?}
use Rattle.atomic_table.specs.Table.{opening, Splits}
use Rattle.atomic_table.proofs.Lists.{at_longer, at_set, set_else, set_here}
use Rattle.dbp_plan.specs.declared.plan.Plan.{Plan}
use Rattle.dbp_plan.specs.Lookups.{declared_task}
use Rattle.sync_meaning.proofs.OneMeaning.{meaning_solves}
use Rattle.sync_meaning.specs.SomeMeaning.{meaning_of, meaning_of-is}
use Rattle.dbp_rules.specs.PartyShapes.{ReleaserShape, TaskPartShape}
use Rattle.dbp_rules.specs.Lookups.{no_task, task, wired_task}
use Rattle.dbp_rules.specs.Sound.{Sound}
use Rattle.dbp_rules.specs.Start.{first_part, start_of, start_task}
use Rattle.dbp_rules.specs.WordRanges.{FirstValuesFit}
use Rattle.dbp_rules.specs.declared.parts.ReleaserPart.{ReleaserPart}
use Rattle.dbp_rules.specs.declared.state.State.{State}
use Rattle.dbp_rules.specs.declared.state.TaskState.{TaskState}
use Rattle.dbp_rules.specs.declared.step.Count.TheVariants.{All}
use Rattle.dbp_rules.proofs.Parties.{releaser_in_shape}
use Rattle.dbp_rules.proofs.SoundStart.{start_sound}
use Rattle.dbp_rules.proofs.StartNumbers.{starts_with}
use Rattle.dbp_rules.proofs.Wirings.{wiring-whole}
use Rattle.dbp_rules.proofs.WordRanges.{start_fits}
use Rattle.word_rule.specs.Plays.{IsReleaser, Seated, seats_split}
use Rattle.word_rule.specs.Roles.{meaning_row, run_wiring}
use Rattle.word_rule.specs.Showing.{HasFirstNumbers, HaveNotStepped, Keeps, ShowsRole, first_view, view_of_next_task, with_seat_split}
use Rattle.word_rule.specs.declared.views.Role.{Role}
use Rattle.word_rule.specs.declared.views.Role.TheVariants.{Releaser, Task}
use Rattle.word_rule.specs.declared.views.View.{View}
use Rattle.word_rule.proofs.Showings.{releaser_at, seat_below}

first_sound : (p : Plan) → Sound p (run_wiring p) (meaning_row p) (start_of p (run_wiring p))
first_sound p = start_sound p (run_wiring p) (meaning_row p) (wiring-whole p All) (meaning_solves p.diagram p.samples p.batches (meaning_of p) p.rules (meaning_of-is p))

-- each task's part is the first one
first_parts : (p : Plan) (i : ℕ) → (task (start_of p (run_wiring p)) i).part ≡ first_part
first_parts p i = elim (cases_lt i (length (run_wiring p).tasks)) [
  | inl below ↦ ap (λ (t : TaskState). t.part) (get_or-map-range_with_len (λ (j : ℕ). start_task (wired_task (run_wiring p) j) (declared_task p j)) 0 (length (run_wiring p).tasks) i i no_task below (omega arith))
  | inr past ↦ ap (λ (t : TaskState). t.part) (get_or-eq_default (start_of p (run_wiring p)).tasks no_task {n = i} (let n = first_sound p in let a = n.shape.tasks in omega arith))
]

pub begins : (p : Plan) (words : List ℕ) → FirstValuesFit p.diagram → HasFirstNumbers p words → Keeps p (opening words [] (first_view p))
begins p words fit first = record {
  split = 0;
  state = start_of p (run_wiring p);
  shows = record {
    size = first.size;
    each_word = λ q inside. first.each q inside ∙ sym (starts_with p All q inside);
    seats = refl;
    few = omega arith;
    each_seat = seat;
    no_seat = λ i above. first_parts p i;
  };
  sound = first_sound p;
  fit = start_fits p (run_wiring p) fit;
  start = λ none. first;
}
  where
    seat : (k : ℕ) (v : View) → get_elem? (first_view p ∷ []) k ≡ some v → (v.plan ≡ p) × ShowsRole 0 (start_of p (run_wiring p)) k v.role
    seat zero v e = subst (λ (v : View). (v.plan ≡ p) × ShowsRole 0 (start_of p (run_wiring p)) 0 v.role) (some-injective _ _ e) (refl, (refl, refl))
    seat (suc k) v e = absurd (some-ne-none v (sym e))

-- the releaser's first part is in shape, and so is a task's
pub first_releaser : (p : Plan) → ReleaserShape p (run_wiring p) (start_of p (run_wiring p)).releaser
first_releaser p = releaser_in_shape p (run_wiring p) (meaning_row p) (start_of p (run_wiring p)) (first_sound p)

pub first_task : (p : Plan) (i : ℕ) → TaskPartShape (run_wiring p) i first_part
first_task p i = record { place = omega arith; occurs = omega arith; heard = refl; each_heard = λ n below. absurd (omega arith) }

-- ---- a split

at_end : {A : Type 0} (l : List A) (a b : A) (j : ℕ) → get_elem? (l ++ a ∷ []) j ≡ some b → (get_elem? l j ≡ some b) ⊎ ((j ≡ length l) × (a ≡ b))
at_end [] a b zero e = inr (refl, some-injective a b e)
at_end [] a b (suc j) e = absurd (some-ne-none b (sym e))
at_end (x ∷ xs) a b zero e = inl e
at_end (x ∷ xs) a b (suc j) e = ⊎_elim inl (λ t. inr (ap suc t.0, t.1)) (at_end xs a b j e)

-- a split changes the releaser's view alone
stays : (split : ℕ) (s : State) (k : ℕ) (role : Role) → k ≢ 0 → ShowsRole split s k role → ShowsRole (suc split) s k role
stays split s zero role other h = absurd (other refl)
stays split s (suc j) (Releaser r n) other h = elim h [ ]
stays split s (suc j) (Task i t) other h = h

-- a split makes no step
none_before : (views : List View) (id : ℕ) (v right : View) → get_elem? views id ≡ some v → HaveNotStepped (set views id (with_seat_split v) ++ right ∷ []) → HaveNotStepped views
none_before views id v right there none k u at = dite (ℕ_discrete k id)
    (λ same.
    let here : get_elem? (set views id (with_seat_split v)) id ≡ some (with_seat_split v) = set_here views id (with_seat_split v) (seat_below views id v there) in
    let one : v ≡ u = some-injective v u (sym there ∙ ap (get_elem? views) (sym same) ∙ at) in
    ap (λ (x : View). x.steps) (sym one) ∙ none id (with_seat_split v) (at_longer (set views id (with_seat_split v)) (right ∷ []) id (with_seat_split v) here))
    (λ apart. none k u (at_longer (set views id (with_seat_split v)) (right ∷ []) k u (set_else views id k (with_seat_split v) apart ∙ at)))

pub splits : (p : Plan) (id : ℕ) (v : View) (c : List (ℕ × Unit {0})) (r : ReleaserPart) → v.plan ≡ p → IsReleaser (v, c) r → seats_split v.role < length p.diagram.tasks → Splits (Keeps p) id v (with_seat_split v) (view_of_next_task v)
splits p id v c r plan is room t h there =
    let mine = h.shows.each_seat id v there in
    let me = releaser_at h.split h.state id r (seats_split v.role) (subst (ShowsRole h.split h.state id) is.role mine.1) in
    let left = with_seat_split v in
    record {
      split = suc h.split;
      state = h.state;
      shows = record {
        size = h.shows.size;
        each_word = h.shows.each_word;
        seats = length-append (set t.views id left) (view_of_next_task v ∷ []) ∙ omega (arith, length-set t.views id left, h.shows.seats);
        few = omega (arith, me.2);
        each_seat = λ k u e. ⊎_elim
            (λ was. ⊎_elim
            (λ (x : (k ≡ id) × (left ≡ u)). subst (λ (y : ℕ × View). (y.1.plan ≡ p) × ShowsRole (suc h.split) h.state y.0 y.1.role) (λ i. (sym x.0 i, x.1 i)) (plan, rw (me.0, is.role) (me.1, ap suc me.2)))
            (λ (x : (k ≢ id) × (get_elem? t.views k ≡ some u)). let old = h.shows.each_seat k u x.1 in (old.0, stays h.split h.state k u.role (λ e. x.0 (e ∙ sym me.0)) old.1))
            (at_set t.views id k left u was))
            (λ (last : (k ≡ length (set t.views id left)) × (view_of_next_task v ≡ u)).
            let k_is : suc h.split ≡ k = omega (arith, last.0, length-set t.views id left, h.shows.seats) in
            let idle = h.shows.no_seat h.split (omega arith) in
            subst (λ (y : ℕ × View). (y.1.plan ≡ p) × ShowsRole (suc h.split) h.state y.0 y.1.role) (λ i. (k_is i, last.1 i)) (plan, rw is.role (me.2, rw me.2 (sym idle))))
            (at_end (set t.views id left) (view_of_next_task v) u k e);
        no_seat = λ j above. h.shows.no_seat j (omega arith);
      };
      sound = h.sound;
      fit = h.fit;
      start = λ none. h.start (none_before t.views id v (view_of_next_task v) there none);
    }

-- the first seat is the releaser's
pub first_seat : (p : Plan) (me : Seated) (part : ReleaserPart) → me ≡ (first_view p, []) → part ≡ (start_of p (run_wiring p)).releaser → IsReleaser me part
first_seat p me part is read =
    subst (λ (y : Seated × ReleaserPart). IsReleaser y.0 y.1) (λ i. (sym is i, sym read i)) (record { role = refl; no_slots = refl; shape = first_releaser p })

-- one item more at the end
pub get_push : {A : Type 0} (xs : List A) (x s : A) (i : ℕ) → slice_get (xs ++ x ∷ []) i ≡ Some s → (slice_get xs i ≡ Some s) ⊎ ((i ≡ length xs) × (x ≡ s))
get_push [] x s zero e = inr (refl, same_Some x s e)
get_push [] x s (suc i) e = absurd (cc (e))
get_push (y ∷ ys) x s zero e = inl e
get_push (y ∷ ys) x s (suc i) e = ⊎_elim inl (λ t. inr (ap suc t.0, t.1)) (get_push ys x s i e)
