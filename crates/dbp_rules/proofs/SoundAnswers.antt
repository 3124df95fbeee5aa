-- What a look and a take hear in a sound state.
use Rattle.std.proofs.Common.{◌≡◌, ℕ, ℤ, ◌+◌, ◌<◌, true, List, length, get_or, None, refl, sym, ◌∙◌, ap, subst, arith, inl, inr}
use Rattle.std.proofs.lemmas.Bool.{cases_Bool}
use Rattle.dbp_plan.specs.declared.plan.Plan.{Plan}
use Rattle.dbp_plan.specs.Lookups.{declared_task, no_read}
use Rattle.dbp_rules.specs.Moves.{own_slot}
use Rattle.dbp_rules.specs.Lookups.{link, link_entry, read_at, task, task_entry, wired_task}
use Rattle.dbp_rules.specs.Promises.{IsClaimFilled}
use Rattle.dbp_rules.specs.Rules as rule
use Rattle.dbp_rules.specs.Shapes.{TaskShape, heard_by, running_count}
use Rattle.dbp_rules.specs.Sound.{Sound}
use Rattle.dbp_rules.specs.SoundParts.{Stands, TaskSound, meant_value}
use Rattle.dbp_rules.specs.declared.parts.Place.{Place}
use Rattle.dbp_rules.specs.declared.parts.Place.TheVariants as place
use Rattle.dbp_rules.specs.declared.state.State.{State}
use Rattle.dbp_rules.specs.declared.step.Broken.TheVariants as broken
use Rattle.dbp_rules.specs.declared.step.Count.TheVariants.{Ranked}
use Rattle.dbp_rules.specs.declared.step.Heard.TheVariants as heard
use Rattle.dbp_rules.specs.declared.step.Step.TheVariants.{Look, Take}
use Rattle.dbp_rules.specs.declared.wiring.Wiring.{Wiring}
use Rattle.dbp_rules.proofs.Allowed.{next_none, or_else_none}
use Rattle.dbp_rules.proofs.SoundLooks.{claims_next, delayed_ready, filled_ready, ranked_ready, ready_filled}
use Rattle.dbp_rules.proofs.SoundOwn.{IsOwn}
use Rattle.dbp_rules.proofs.SoundReading.{take_word}
use Rattle.dbp_rules.proofs.StepPlaces.{at_look, at_take}
use Rattle.dbp_rules.proofs.SoundWriting.{own_current}

module _ (p : Plan) (w : Wiring) (rows : ℕ → ℕ → List ℤ) (s : State) (own : IsOwn p w) (sound : Sound p w rows s) where
  -- the read of the turn is the one that the step names
  pub named_read : (i r kind : ℕ) → rule.steps_next w s i kind r ≡ None → (q : Place) → (task s i).part.place ≡ q → (rule.place_kind (wired_task w i) q).1 ≡ r
  named_read i r kind next q at = ap (λ (x : Place). (rule.place_kind (wired_task w i) x).1) (sym at) ∙ (next_none broken.TaskPlace (rule.place_kind (wired_task w i) (task s i).part.place) kind r next).1

  -- each allowed take hears the word that the meaning gives the read in the running instance
  pub take_hears : (i r : ℕ) → i < length p.diagram.tasks → rule.refusal w s (Take i r) ≡ None → rule.hears w s (Take i r) ≡ heard.Word (meant_value p rows i ((task s i).part.ended + 1) (get_or (declared_task p i).reads r no_read))
  take_hears i r named free =
      let below : i < length w.tasks = omega (arith, named, own.whole.tasks) in
      let n : ℕ = rule.turn_at (task s i).part.place in
      let at : (task s i).part.place ≡ place.Take n = at_take w s i r free in
      let read : (read_at (wired_task w i) n).read ≡ r = named_read i r 8 (or_else_none (rule.steps_next w s i 8 r) _ free).0 (place.Take n) at in
      ap (λ (x : ℤ). heard.Word x) (take_word p w rows s own sound i n below at ∙ ap (λ (m : ℕ). meant_value p rows i ((task s i).part.ended + 1) (get_or (declared_task p i).reads m no_read)) read)

  ready_hears : (i r : ℕ) → rule.is_ready w s i (rule.turn_at (task s i).part.place) ≡ true → rule.hears w s (Look i r) ≡ heard.Ready
  ready_hears i r is = rw is refl

  hears_ready : (i r : ℕ) → rule.hears w s (Look i r) ≡ heard.Ready → rule.is_ready w s i (rule.turn_at (task s i).part.place) ≡ true
  hears_ready i r is = elim (cases_Bool (rule.is_ready w s i (rule.turn_at (task s i).part.place))) [
    | inl ready ↦ ready
    | inr isnt ↦ let bad : heard.NotYet ≡ heard.Ready = rw isnt at is in absurd (cc (bad))
  ]

  -- each allowed look for a row that its writer has filled hears that it is there
  pub filled_hears : (i r : ℕ) → i < length p.diagram.tasks → rule.refusal w s (Look i r) ≡ None → IsClaimFilled w s (get_or (declared_task p i).reads r no_read).link → rule.hears w s (Look i r) ≡ heard.Ready
  filled_hears i r named free filled =
      let below : i < length w.tasks = omega (arith, named, own.whole.tasks) in
      let n : ℕ = rule.turn_at (task s i).part.place in
      let at : (task s i).part.place ≡ place.Look n = at_look w s i r free in
      let read : (read_at (wired_task w i) n).read ≡ r = named_read i r 7 (or_else_none (rule.steps_next w s i 7 r) _ free).0 (place.Look n) at in
      ready_hears i r (filled_ready p w rows s own sound i n below at (subst (λ (m : ℕ). IsClaimFilled w s (get_or (declared_task p i).reads m no_read).link) (sym read) filled))

  -- and no other does
  pub hears_filled : (i r : ℕ) → i < length p.diagram.tasks → rule.refusal w s (Look i r) ≡ None → rule.hears w s (Look i r) ≡ heard.Ready → IsClaimFilled w s (get_or (declared_task p i).reads r no_read).link
  hears_filled i r named free is =
      let below : i < length w.tasks = omega (arith, named, own.whole.tasks) in
      let n : ℕ = rule.turn_at (task s i).part.place in
      let at : (task s i).part.place ≡ place.Look n = at_look w s i r free in
      let read : (read_at (wired_task w i) n).read ≡ r = named_read i r 7 (or_else_none (rule.steps_next w s i 7 r) _ free).0 (place.Look n) at in
      subst (λ (m : ℕ). IsClaimFilled w s (get_or (declared_task p i).reads m no_read).link) read (ready_filled p w rows s own sound i n below at (hears_ready i r is))

  -- each allowed look over a delayed link hears that its row is there
  pub delayed_hears : (i r : ℕ) → i < length p.diagram.tasks → rule.refusal w s (Look i r) ≡ None → 0 < (link w (get_or (declared_task p i).reads r no_read).link).delay → rule.hears w s (Look i r) ≡ heard.Ready
  delayed_hears i r named free late =
      let below : i < length w.tasks = omega (arith, named, own.whole.tasks) in
      let n : ℕ = rule.turn_at (task s i).part.place in
      let at : (task s i).part.place ≡ place.Look n = at_look w s i r free in
      let read : (read_at (wired_task w i) n).read ≡ r = named_read i r 7 (or_else_none (rule.steps_next w s i 7 r) _ free).0 (place.Look n) at in
      ready_hears i r (delayed_ready p w rows s own sound i n below at (subst (λ (m : ℕ). 0 < (link w (get_or (declared_task p i).reads m no_read).link).delay) (sym read) late))

  -- under `Ranked` each allowed look does
  pub ranked_hears : (i r : ℕ) → i < length p.diagram.tasks → w.count ≡ Ranked → rule.refusal w s (Look i r) ≡ None → rule.hears w s (Look i r) ≡ heard.Ready
  ranked_hears i r named ranked free =
      let below : i < length w.tasks = omega (arith, named, own.whole.tasks) in
      let n : ℕ = rule.turn_at (task s i).part.place in
      let at : (task s i).part.place ≡ place.Look n = at_look w s i r free in
      ready_hears i r (ranked_ready p w rows s own sound i n below at ranked (or_else_none (rule.steps_next w s i 7 r) (rule.blocker_refusal w.count w s i) free).1)

  -- a task that may step, and has heard its orders, fills no slot that a claim of an instance which may still read names, except a claim of the very row that it fills
  pub claimed_apart : (i k : ℕ) → k < length w.links → (link w k).writer ≡ i → running_count (task s i).part.place ≡ 1 → heard_by (1 + length (wired_task w i).links) (task s i).part.place ≡ 1 + length (wired_task w i).links → rule.blocker_refusal w.count w s i ≡ None
      → Stands w k (link_entry s k) (task_entry s (link w k).reader) (task s (link w k).reader) → (link_entry s k).slot ≡ own_slot (task s i).part → (link_entry s k).number ≡ (task s i).part.ended + 1
  claimed_apart i k fits is busy all free stands here =
      let below : i < length w.tasks = subst (λ (x : ℕ). x < length w.tasks) is (own.whole.writer k fits) in
      let ok : TaskSound p w rows i (task_entry s i) (task s i) = sound.tasks i below in
      let shape : TaskShape w (declared_task p i) i (task_entry s i).aimed (task s i) = sound.shape.each_task i below in
      let current : own_slot (task s i).part ≡ (task_entry s i).current = own_current p w rows i (task_entry s i) (task s i) ok shape all in
      let number : (link_entry s k).slot ≡ (task_entry s i).current → (link_entry s k).number ≡ (task_entry s i).aimed =
      subst (λ (v : ℕ). (link_entry s k).slot ≡ (task_entry s v).current → (link_entry s k).number ≡ (task_entry s v).aimed) is (claims_next p w rows s own sound k fits (rw is busy) (rw is free) stands) in
      number (here ∙ current) ∙ omega (arith, shape.gate, shape.aimed, ok.known, ok.ended, ok.aimed)
