-- The two general laws of a step of a party, by its own part: one that loads a word, and one that stores one. The words and
-- views afterwards show the next state, which is sound, and all other views stay.
use Rattle.std.proofs.Common.{◌≡◌, ◌≢◌, ⊎_elim, ℕ, zero, suc, ◌+◌, ◌<◌, ◌≤◌, List, length, get_or, set, Option, Some, None, refl, sym, ◌∙◌, ap, subst, arith, length-set, get_or-set_same, get_or-set_other}
use Rattle.std.proofs.lemmas.List.{set-get_or}
use Rattle.std.proofs.lemmas.Option.{same_Some}
use mathlib.Core.Logic.{dite}
use mathlib.Core.Option.{some}
use native.Mathlib.Decide.{ℕ_discrete}
use lib.ListN.{get_elem?}
use Rattle.atomic_table.proofs.Lists.{at_set, set_here}
use Rattle.dbp_plan.specs.declared.plan.Plan.{Plan}
use Rattle.dbp_slots.specs.TableWords.{IsWord, TableWord, address_of, sizes_of}
use Rattle.dbp_slots.proofs.Spots.{one_word, word_inside}
use Rattle.sync_meaning.proofs.OneMeaning.{meaning_solves}
use Rattle.sync_meaning.specs.SomeMeaning.{meaning_of, meaning_of-is}
use Rattle.dbp_rules.specs.LoadedWords.{loaded_by, loaded_of}
use Rattle.dbp_rules.specs.PartyRules.{Loaded, no_word}
use Rattle.dbp_rules.specs.Lookups.{no_task, task}
use Rattle.dbp_rules.specs.Rules as rule
use Rattle.dbp_rules.specs.SharedWords.{KeepsOtherParts, made_by, stored_by, value_in}
use Rattle.dbp_rules.specs.Sound.{Sound}
use Rattle.dbp_rules.specs.WordRanges.{SlotWordsFit}
use Rattle.dbp_rules.specs.declared.state.State.{State}
use Rattle.dbp_rules.specs.declared.step.Count.TheVariants.{All}
use Rattle.dbp_rules.specs.declared.step.Step.{Step}
use Rattle.dbp_rules.proofs.Parties.{releaser_in_shape, task_in_shape}
use Rattle.dbp_rules.proofs.SoundKept.{sound_kept}
use Rattle.dbp_rules.proofs.StoredWords.{parts_kept, words_kept}
use Rattle.dbp_rules.proofs.WordRanges.{step_fits}
use Rattle.word_rule.specs.OwnSteps.{KeepsNext, view_after}
use Rattle.word_rule.specs.Roles.{PutFits, RoleLoads, RolePromise, RoleShape, meaning_row, number_stored, role_after, role_refusal, run_wiring, task_of, task_part_of, word_loaded, word_stored}
use Rattle.word_rule.specs.Showing.{HaveNotStepped, Keeps, ShowsRole, TableState}
use Rattle.word_rule.specs.declared.views.Role.{Role}
use Rattle.word_rule.specs.declared.views.Role.TheVariants.{Releaser, Task}
use Rattle.word_rule.specs.declared.views.View.{View}
use Rattle.word_rule.proofs.OwnSteps.{allowed, in_range, loads_alone, loads_from, loads_nothing, loads_word, maker, moved, number_is, promised, put_fits, stores_alone, stores_number, stores_silent, stores_word}
use Rattle.word_rule.proofs.Showings.{seat_below, seat_is, seat_of, task_named, task_split}

-- a seat's party keeps its task
same_task : (p : Plan) (v : Role) (e : Step) (l : Loaded) → task_of (role_after (run_wiring p) v e l) ≡ task_of v
same_task p (Releaser r seats) e l = refl
same_task p (Task i t) e l = refl

-- what a sound state shows of a party is in shape
in_shape : (p : Plan) (split : ℕ) (s : State) → Sound p (run_wiring p) (meaning_row p) s → (id : ℕ) (v : Role) → ShowsRole split s id v → ((i : ℕ) → task_of v ≡ Some i → i < length p.diagram.tasks) → RoleShape p v
in_shape p split s sound zero (Releaser r seats) shown below = rw shown.0 (releaser_in_shape p (run_wiring p) (meaning_row p) s sound)
in_shape p split s sound (suc j) (Releaser r seats) shown below = elim shown [ ]
in_shape p split s sound zero (Task i t) shown below = elim shown [ ]
in_shape p split s sound (suc j) (Task i t) shown below = rw shown.1 (task_in_shape p (run_wiring p) (meaning_row p) s sound i (below i refl))

-- the views of all seats but one show the next state too
shows_others : (split : ℕ) (s new : State) (party : Option ℕ) → KeepsOtherParts party s new → (k : ℕ) (v : Role) → k ≢ seat_of party → ShowsRole split s k v → ShowsRole split new k v
shows_others split s new party keeps zero (Releaser r seats) other shown = (shown.0 ∙ sym (keeps.releaser (λ e. other (sym (ap seat_of e)))), shown.1)
shows_others split s new party keeps (suc j) (Releaser r seats) other shown = elim shown [ ]
shows_others split s new party keeps zero (Task i t) other shown = elim shown [ ]
shows_others split s new party keeps (suc j) (Task i t) other shown = (shown.0, shown.1 ∙ sym (keeps.tasks i (λ e. other (ap suc (sym shown.0) ∙ sym (ap seat_of e)))).0)

module _ (p : Plan) (t : TableState) (h : Keeps p t) (id : ℕ) (v : View) (there : get_elem? t.views id ≡ some v) (e : Step) (named : rule.IsNamed p.diagram e)
    (mine : made_by e ≡ task_of v.role) (free : role_refusal (run_wiring p) v.role e ≡ None) (put : PutFits p v.role e) where
  abbrev shown : ShowsRole h.split h.state id v.role
  shown = (h.shows.each_seat id v there).1

  abbrev new : State
  new = rule.next p (run_wiring p) h.state e

  id_is : id ≡ seat_of (task_of v.role)
  id_is = seat_is h.split h.state id v.role shown

  below : (i : ℕ) → task_of v.role ≡ Some i → i < length p.diagram.tasks
  below i is = task_named p t h id v i there (id_is ∙ ap seat_of is)

  steps : rule.refusal (run_wiring p) h.state e ≡ None
  steps = allowed p h.split h.state h.sound h.fit id v.role shown e mine free

  new_sound : Sound p (run_wiring p) (meaning_row p) new
  new_sound = sound_kept p All (meaning_row p) h.state e (meaning_solves p.diagram p.samples p.batches (meaning_of p) p.rules (meaning_of-is p)) h.sound named steps

  new_fit : SlotWordsFit new
  new_fit = step_fits p (run_wiring p) h.state e h.fit (put_fits p h.split h.state h.sound h.fit id v.role shown e mine below steps put)

  others : KeepsOtherParts (made_by e) h.state new
  others = parts_kept p (run_wiring p) h.state h.sound.shape e named

  module _ (l : Loaded) (is : rule.loaded_value (run_wiring p) h.state e ≡ l) where
    mine_after : ShowsRole h.split new id (role_after (run_wiring p) v.role e l)
    mine_after = rw (← is) (moved p h.split h.state h.sound h.fit id e named steps v.role shown mine below)

    pub range_after : RoleLoads (run_wiring p) v.role e l
    range_after = rw (← is) (in_range p h.split h.state h.sound h.fit id e named steps v.role shown mine below)

    pub promise_after : RolePromise p v.role e l
    promise_after = rw (← is) (promised p h.split h.state h.sound h.fit id v.role shown e mine below steps)

    pub shape_after : RoleShape p (role_after (run_wiring p) v.role e l)
    shape_after = in_shape p h.split new new_sound id (role_after (run_wiring p) v.role e l) mine_after (λ i at. below i (sym (same_task p v.role e l) ∙ at))

    seats_after : (k : ℕ) (u : View) → get_elem? (set t.views id (view_after p v e l)) k ≡ some u → (u.plan ≡ p) × ShowsRole h.split new k u.role
    seats_after k u at =
        ⊎_elim
        (λ (x : (k ≡ id) × (view_after p v e l ≡ u)). subst (λ (y : ℕ × View). (y.1.plan ≡ p) × ShowsRole h.split new y.0 y.1.role) (λ i. (sym x.0 i, x.1 i)) ((h.shows.each_seat id v there).0, mine_after))
        (λ (x : (k ≢ id) × (get_elem? t.views k ≡ some u)). let was = h.shows.each_seat k u x.1 in (was.0, shows_others h.split h.state new (made_by e) others k u.role (λ at. x.0 (at ∙ ap seat_of mine ∙ sym id_is)) was.1))
        (at_set t.views id k (view_after p v e l) u at)

    no_seat_after : (i : ℕ) → h.split ≤ i → (task new i).part ≡ no_task.part
    no_seat_after i above =
        (others.tasks i (λ at. let inside : i < h.split = task_split p t h id v i there (id_is ∙ ap seat_of (sym mine ∙ at)) in absurd (omega arith))).0 ∙ h.shows.no_seat i above

    -- the seat has made a step
    not_first : HaveNotStepped (set t.views id (view_after p v e l)) → ⊥
    not_first none = let zero_steps : v.steps + 1 ≡ 0 = none id (view_after p v e l) (set_here t.views id (view_after p v e l) (seat_below t.views id v there)) in absurd (omega (arith, zero_steps))

    -- with words that show the next state
    keeps_after : (ws : List ℕ) → length ws ≡ length t.words → ((q : TableWord) → IsWord (sizes_of p.diagram) q → get_or ws (address_of (sizes_of p.diagram) q) 0 ≡ value_in new q)
        → KeepsNext p h.split h.state e (record { words = ws; homes = t.homes; views = set t.views id (view_after p v e l) })
    keeps_after ws size each = record {
      after = record {
        split = h.split;
        state = new;
        sound = new_sound;
        fit = new_fit;
        shows = record {
          size = size ∙ h.shows.size;
          each_word = each;
          seats = length-set t.views id (view_after p v e l) ∙ h.shows.seats;
          few = h.shows.few;
          each_seat = seats_after;
          no_seat = no_seat_after;
        };
        start = λ none. absurd (not_first none);
      };
      split_off = refl;
      next_state = refl;
    }

  -- ---- a step that loads

  module _ (q : TableWord) (loads : word_loaded (run_wiring p) v.role e ≡ Some q) where
    loads_it : loaded_by (run_wiring p) h.state e ≡ Some q
    loads_it = rw (maker p h.split h.state h.sound h.fit id v.role shown e mine) loads

    pub loaded_word : IsWord (sizes_of p.diagram) q
    loaded_word = loads_word p h.split h.state h.sound h.fit id e named steps q loads_it

    number_there : get_or t.words (address_of (sizes_of p.diagram) q) 0 ≡ value_in h.state q
    number_there = h.shows.each_word q loaded_word

    pub loaded_there : rule.loaded_value (run_wiring p) h.state e ≡ loaded_of e (get_or t.words (address_of (sizes_of p.diagram) q) 0)
    loaded_there = loads_from p h.split h.state h.sound h.fit id e named steps q loads_it ∙ ap (loaded_of e) (sym number_there)

    stores_none : stored_by h.state e ≡ None
    stores_none = rw (maker p h.split h.state h.sound h.fit id v.role shown e mine) (loads_alone (run_wiring p) (task_part_of v.role) e q loads)

    no_word_changed : (r : TableWord) → IsWord (sizes_of p.diagram) r → get_or t.words (address_of (sizes_of p.diagram) r) 0 ≡ value_in new r
    no_word_changed r inside =
        h.shows.each_word r inside ∙ sym (words_kept p (run_wiring p) h.state h.sound.shape e named steps r (λ at. absurd (cc (stores_none, at))))

    pub keeps_loaded : (x : ℕ) → x ≡ get_or t.words (address_of (sizes_of p.diagram) q) 0
        → KeepsNext p h.split h.state e (record { words = set t.words (address_of (sizes_of p.diagram) q) x; homes = t.homes; views = set t.views id (view_after p v e (loaded_of e x)) })
    keeps_loaded x is =
        let here : set t.words (address_of (sizes_of p.diagram) q) x ≡ t.words = ap (set t.words (address_of (sizes_of p.diagram) q)) is ∙ set-get_or t.words (address_of (sizes_of p.diagram) q) 0 in
        keeps_after (loaded_of e x) (loaded_there ∙ ap (loaded_of e) (sym is)) (set t.words (address_of (sizes_of p.diagram) q) x) (ap length here)
        (λ r inside. ap (λ (ws : List ℕ). get_or ws (address_of (sizes_of p.diagram) r) 0) here ∙ no_word_changed r inside)

  -- ---- a step that stores

  module _ (q : TableWord) (stores : word_stored v.role e ≡ Some q) where
    stores_it : stored_by h.state e ≡ Some q
    stores_it = rw (maker p h.split h.state h.sound h.fit id v.role shown e mine) stores

    pub stored_word : IsWord (sizes_of p.diagram) q
    stored_word = stores_word p h.split h.state h.sound h.fit id e named steps q stores_it

    loads_none : loaded_by (run_wiring p) h.state e ≡ None
    loads_none = rw (maker p h.split h.state h.sound h.fit id v.role shown e mine) (stores_alone (run_wiring p) (task_part_of v.role) e q stores)

    pub nothing_there : rule.loaded_value (run_wiring p) h.state e ≡ loaded_of e 0
    nothing_there = loads_nothing p h.split h.state h.sound h.fit id e named steps loads_none

    number_after : value_in new q ≡ number_stored p v.role e
    number_after = stores_number p h.split h.state h.sound h.fit id e named steps q stores_it ∙ number_is p h.split h.state h.sound h.fit id v.role shown e mine below steps

    one_word_changed : (r : TableWord) → IsWord (sizes_of p.diagram) r → get_or (set t.words (address_of (sizes_of p.diagram) q) (number_stored p v.role e)) (address_of (sizes_of p.diagram) r) 0 ≡ value_in new r
    one_word_changed r inside =
        let n = address_of (sizes_of p.diagram) q in
        let x = number_stored p v.role e in
        dite (ℕ_discrete (address_of (sizes_of p.diagram) r) n)
        (λ same.
        let one : r ≡ q = one_word (sizes_of p.diagram) r q inside stored_word same in
        let fits : n < length t.words = let a = (word_inside (sizes_of p.diagram) q stored_word).1 in let b = h.shows.size in omega arith in
        ap (λ (k : ℕ). get_or (set t.words n x) k 0) same ∙ (get_or-set_same t.words n x 0 fits ∙ (sym number_after ∙ ap (value_in new) (sym one))))
        (λ apart.
        get_or-set_other t.words n (address_of (sizes_of p.diagram) r) x 0 apart
        ∙ (h.shows.each_word r inside ∙ sym (words_kept p (run_wiring p) h.state h.sound.shape e named steps r
        (λ at. apart (ap (address_of (sizes_of p.diagram)) (same_Some r q (sym at ∙ stores_it)))))))

    pub keeps_stored : KeepsNext p h.split h.state e (record { words = set t.words (address_of (sizes_of p.diagram) q) (number_stored p v.role e); homes = t.homes; views = set t.views id (view_after p v e (loaded_of e 0)) })
    keeps_stored = keeps_after (loaded_of e 0) nothing_there (set t.words (address_of (sizes_of p.diagram) q) (number_stored p v.role e)) (length-set t.words _ _) one_word_changed

    -- a step that stores hears nothing
    pub keeps_stored_plainly : KeepsNext p h.split h.state e (record { words = set t.words (address_of (sizes_of p.diagram) q) (number_stored p v.role e); homes = t.homes; views = set t.views id (view_after p v e no_word) })
    keeps_stored_plainly = rw (← (stores_silent (task_part_of v.role) e q stores)) keeps_stored
