-- A name leads to the place that has it, and the ends and the delay of a link to the link.
use Rattle.std.proofs.Common.{◌≡◌, ◌≢◌, ℕ, ◌<◌, Bool, true, false, List, length, get_or, slice_get, Some, refl, sym, ap, ◌∙◌, subst, arith}
use Rattle.std.specs.Prelude.{AllPairs, ◌==◌, ◌&&◌}
use Rattle.std.specs.List.{position_or_len}
use Rattle.std.specs.Str.{bytes_eq}
use Rattle.std.proofs.lemmas.Bool.{and_from, eq-eqb, false_from_ne_true, lt-ltb}
use Rattle.std.proofs.lemmas.List.Sums.{position_or_len_is}
use Rattle.std.proofs.lemmas.Option.{get_or_from_slice_get, slice_get_within, slice_get-get_or}
use Rattle.std.proofs.lemmas.Slice.Eq.{bytes_eq-Decides}
use Rattle.dbp_plan.specs.declared.diagram.Diagram.{Diagram}
use Rattle.dbp_plan.specs.declared.diagram.Link.{Link}
use Rattle.dbp_plan.specs.declared.diagram.Out.{Out}
use Rattle.dbp_plan.specs.ListItems.{all_place, at_place}
use Rattle.dbp_plan.specs.Lookups.{link_at, no_declared_task, no_link, no_read, task_at}
use Rattle.dia_tokens.specs.Printable.{IsPrintableName}
use Rattle.dia_check.specs.ItemNames.{AreNamed}
use Rattle.dbp_replay.specs.Names.{HasNames}
use Rattle.dbp_replay.specs.NamedItems.{out_name, port_name, read_name}
use Rattle.dbp_replay.specs.StepForms.{is_link, link_between, port_named, read_named, task_named, within}
use Rattle.dbp_replay.proofs.There.{link-parts}

-- the place of an item that passes the test, if those that stand before it don't
first-place : {X : Type 0} (R : X → X → Type 0) (test : X → Bool) (xs : List X) (i : ℕ) (x : X) → AllPairs R xs → slice_get xs i ≡ Some x → test x ≡ true → ((y : X) → R y x → test y ≡ false)
    → within (length xs) (position_or_len test xs) ≡ Some i
first-place R test xs i x pairs at passes fails =
    let below : i < length xs = slice_get_within xs i x at in
    let here : get_or xs i x ≡ x = get_or_from_slice_get xs i x x at in
    let place : position_or_len test xs ≡ i =
    position_or_len_is test xs i x (omega (arith, below)) (λ k less. fails (get_or xs k x) (subst (R (get_or xs k x)) here (pairs k i x less below))) (λ inside. ap test here ∙ passes) in
    rw (place, lt-ltb i (length xs) below) refl

named-place : {X : Type 0} (name : X → List ℕ) (xs : List X) (i : ℕ) (x : X) → AreNamed name xs → slice_get xs i ≡ Some x → within (length xs) (position_or_len (λ y. bytes_eq (name y) (name x)) xs) ≡ Some i
named-place name xs i x named at =
    first-place (λ y z. name y ≢ name z) (λ y. bytes_eq (name y) (name x)) xs i x named.apart at ((bytes_eq-Decides (name x) (name x)).1 refl)
    (λ y apart. false_from_ne_true (bytes_eq (name y) (name x)) (λ same. apart ((bytes_eq-Decides (name y) (name x)).0 same)))

link-itself : (l : Link) → is_link l.writer l.reader l.delay l ≡ true
link-itself l = and_from (l.writer == l.writer) ((l.reader == l.reader) && (l.delay == l.delay)) (eq-eqb l.writer l.writer refl) (and_from (l.reader == l.reader) (l.delay == l.delay) (eq-eqb l.reader l.reader refl) (eq-eqb l.delay l.delay refl))

same-link : (k l : Link) → is_link l.writer l.reader l.delay k ≡ true → k ≡ l
same-link k l passes =
    let parts = link-parts l.writer l.reader l.delay k passes in
    λ i. record { writer = parts.0 i; reader = parts.1 i; delay = parts.2 i }

module _ (d : Diagram) (names : HasNames d) where
  pub task-place : (i : ℕ) → i < length d.tasks → task_named d (task_at d i).name ≡ Some i
  task-place i below = named-place (λ t. t.name) d.tasks i (task_at d i) names.tasks (slice_get-get_or d.tasks i no_declared_task below)

  pub read-place : (i r : ℕ) → i < length d.tasks → r < length (task_at d i).reads → read_named d i (read_name d i r) ≡ Some r
  read-place i r task below =
      let reads = (task_at d i).reads in
      named-place (λ q. q.name) reads r (get_or reads r no_read) (names.reads i no_declared_task task) (slice_get-get_or reads r no_read below)

  out-at : (i p : ℕ) → p < length (task_at d i).outs → (o : Out) × (slice_get (task_at d i).outs p ≡ Some o) × (port_name d i p ≡ o.name)
  out-at i p below =
      let out = at_place (task_at d i).outs p below in
      (out.0, out.1, ap out_name out.1)

  pub port-place : (i p : ℕ) → i < length d.tasks → p < length (task_at d i).outs → port_named d i (port_name d i p) ≡ Some p
  port-place i p task below =
      let out = out-at i p below in
      ap (port_named d i) out.2 ∙ named-place (λ o. o.name) (task_at d i).outs p out.0 (names.outs i no_declared_task task) out.1

  pub link-place : (k : ℕ) → k < length d.links → (link_at d.links k).writer < length d.tasks
      → link_between d (task_named d (task_at d (link_at d.links k).writer).name) (link_at d.links k).reader (link_at d.links k).delay ≡ Some k
  link-place k below writer =
      let l = link_at d.links k in
      ap (λ w. link_between d w l.reader l.delay) (task-place l.writer writer)
      ∙ first-place (λ m n. m ≢ n) (is_link l.writer l.reader l.delay) d.links k l names.links (slice_get-get_or d.links k no_link below) (link-itself l)
      (λ m apart. false_from_ne_true (is_link l.writer l.reader l.delay m) (λ same. apart (same-link m l same)))

  -- the names can be written

  pub task-printable : (i : ℕ) → i < length d.tasks → IsPrintableName (task_at d i).name
  task-printable i below = names.tasks.each i no_declared_task below

  pub read-printable : (i r : ℕ) → i < length d.tasks → r < length (task_at d i).reads → IsPrintableName (read_name d i r)
  read-printable i r task below = (names.reads i no_declared_task task).each r no_read below

  pub port-printable : (i p : ℕ) → i < length d.tasks → p < length (task_at d i).outs → IsPrintableName (port_name d i p)
  port-printable i p task below =
      let out = out-at i p below in
      subst IsPrintableName (sym out.2) (all_place (λ o. IsPrintableName o.name) (task_at d i).outs p out.0 (names.outs i no_declared_task task).each out.1)
