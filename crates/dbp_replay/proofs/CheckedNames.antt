-- The diagram of a document has names.
use Rattle.std.proofs.Common.{◌≡◌, ◌≢◌, ℕ, suc, ◌<◌, Bool, true, false, All, List, [], ◌∷◌, ◌++◌, take, map, get_or, slice_get, Option, Some, None, refl, sym, ap, ◌∙◌, subst, arith}
use Rattle.std.specs.Prelude.{AllPairs, if◌then◌else◌}
use Rattle.std.specs.List.{flat_map, list_any}
use Rattle.std.specs.Str.{bytes_eq}
use Rattle.std.proofs.lemmas.Bool.{both_ways, or_parts}
use Rattle.std.proofs.lemmas.List.Elements.{All-cons, All-nil}
use Rattle.std.proofs.lemmas.List.Folds.{list_any-append}
use Rattle.std.proofs.lemmas.List.Kept.{AllPairs-cons}
use Rattle.std.proofs.lemmas.Option.{slice_get-get_or}
use Rattle.std.proofs.lemmas.Slice.Eq.{bytes_eq-Decides}
use Rattle.dbp_plan.specs.declared.diagram.Diagram.{Diagram}
use Rattle.dbp_plan.specs.declared.diagram.Task.{Task}
use Rattle.dbp_plan.specs.ListItems.{all_place, take_place}
use Rattle.dbp_plan.specs.NameLists.{is_among}
use Rattle.dia_tokens.specs.Printable.{IsPrintableName}
use Rattle.dia_lines.specs.declared.item.Part.{Part}
use Rattle.dia_lines.specs.declared.item.Part.TheVariants as part
use Rattle.dia_read.specs.declared.document.Body.{Body}
use Rattle.dia_read.specs.declared.document.Doc.{Doc}
use Rattle.dia_read.specs.declared.document.RawTask.{RawTask}
use Rattle.dia_read.specs.Printable.{HasItemLines, IsPrintable, IsPrintablePart, IsPrintableTask}
use Rattle.dia_check.specs.Checks.{IsCheckedOf}
use Rattle.dia_check.specs.Diagrams.{IsDiagramOf, out_of, read_of}
use Rattle.dia_check.specs.Faults.{is_declared_in, is_repeated}
use Rattle.dia_check.specs.ItemNames.{AreNamed}
use Rattle.dia_check.specs.Names.{declared_name, decl_name, env_names, task_names}
use Rattle.dia_check.specs.Tests.{is_decl, is_task}
use Rattle.dia_check.proofs.Closedness.{closed}
use Rattle.dia_check.proofs.Faultless.{IsFaultless, faultless}
use Rattle.dia_check.proofs.LinkLists.{all-made, any-at}
use Rattle.dia_check.proofs.NameTests.{among_both}
use Rattle.dia_check.proofs.PlaceLaws.{all-places}
use Rattle.dia_check.proofs.DiagramTasks.{raw-at}
use Rattle.dbp_replay.specs.Names.{HasNames}

-- a first test that finds no fault fails
fails : {F : Type 0} (b : Bool) (fault : F) (other : Option F) → (if b then Some fault else other) ≡ None → b ≡ false
fails true fault other none = absurd (cc (none))
fails false fault other none = refl

-- ---- items of a task, made of the lines of its body

-- the item has the name that the line declares
record IsItem {X : Type 0} (name : X → List ℕ) (p : Part) (x : X) : Type 0 where
  declared : declared_name p ≡ name x ∷ []
  repeated : (before : List Part) → is_repeated before p ≡ is_declared_in before (name x)
  printable : IsPrintablePart p → IsPrintableName (name x)

data Makes {X : Type 0} (items : Part → List X) (name : X → List ℕ) (p : Part) : Type 0 where
  nothing : items p ≡ [] → Makes items name p
  an_item : (x : X) → items p ≡ x ∷ [] → IsItem name p x → Makes items name p

declared-before : (p : Part) (ps : List Part) (n : List ℕ) → is_declared_in (p ∷ ps) n ≡ false → (is_among (declared_name p) n ≡ false) × (is_declared_in ps n ≡ false)
declared-before p ps n none = or_parts _ _ (sym (list_any-append (λ m. bytes_eq m n) (declared_name p) (flat_map declared_name ps)) ∙ none)

other-name : (m n : List ℕ) → is_among (m ∷ []) n ≡ false → m ≢ n
other-name m n none same = both_ways (bytes_eq m n) (or_parts (bytes_eq m n) false none).0 ((bytes_eq-Decides m n).1 same)

module _ {X : Type 0} (items : Part → List X) (name : X → List ℕ) (makes : (p : Part) → Makes items name p) where
  -- what holds of an item of a line holds of all that the line makes
  all-of : (P : X → Type 0) (p : Part) → ((x : X) → IsItem name p x → P x) → All P (items p)
  all-of P p each = go (makes p)
    where
      go : Makes items name p → All P (items p)
      go (nothing none) = subst (All P) (sym none) (All-nil P)
      go (an_item x is item) = subst (All P) (sym is) (All-cons P x [] (each x item) (All-nil P))

  -- no item has a name that a line before its own declares
  abbrev AreNew : List Part → Type 0
  AreNew ps = (j : ℕ) (p : Part) → slice_get ps j ≡ Some p → All (λ x. is_declared_in (take j ps) (name x) ≡ false) (items p)

  one-more : (p : Part) (ps : List Part) → AreNew (p ∷ ps) → AllPairs (λ x y. name x ≢ name y) (flat_map items ps) → Makes items name p → AllPairs (λ x y. name x ≢ name y) (items p ++ flat_map items ps)
  one-more p ps new rest (nothing none) = subst (λ xs. AllPairs (λ x y. name x ≢ name y) (xs ++ flat_map items ps)) (sym none) rest
  one-more p ps new rest (an_item x is item) =
      let others : All (λ y. name x ≢ name y) (flat_map items ps) = all-made (λ y. name x ≢ name y) items ps (λ j q at k d below.
      let n = name (get_or (items q) k d) in
      other-name (name x) n (subst (λ ns. is_among ns n ≡ false) item.declared (declared-before p (take j ps) n (new (suc j) q at k d below)).0)) in
      subst (λ xs. AllPairs (λ y z. name y ≢ name z) (xs ++ flat_map items ps)) (sym is) (AllPairs-cons (λ y z. name y ≢ name z) x (flat_map items ps) others rest)

  apart : (ps : List Part) → AreNew ps → AllPairs (λ x y. name x ≢ name y) (flat_map items ps)
  apart [] new = λ i j d less below. absurd (omega (arith, below))
  apart (p ∷ ps) new = one-more p ps new (apart ps (λ j q at k d below. (declared-before p (take j ps) _ (new (suc j) q at k d below)).1)) (makes p)

  items-named : (body : Body) (i : ℕ) (t : RawTask) → IsFaultless body → slice_get body.tasks i ≡ Some t → IsPrintableTask t → AreNamed name (flat_map items t.parts)
  items-named body i t fine at printable = record {
    each = all-made (λ x. IsPrintableName (name x)) items t.parts (λ j p at_p.
        all-of (λ x. IsPrintableName (name x)) p (λ x item. item.printable (all_place IsPrintablePart t.parts j p printable.parts at_p)));
    apart = apart t.parts (λ j p at_p.
        let none : is_repeated (take j t.parts) p ≡ false = fails (is_repeated (take j t.parts) p) _ _ (fine.parts i j t p at at_p) in
        all-of (λ x. is_declared_in (take j t.parts) (name x) ≡ false) p (λ x item. sym (item.repeated (take j t.parts)) ∙ none));
  }

made-read : (tasks : List RawTask) (reader : ℕ) (p : Part) → Makes (read_of tasks reader) (λ r. r.name) p
made-read tasks reader (part.Read n delay writer port at) = an_item _ refl (record { declared = refl; repeated = λ before. refl; printable = λ h. h.0 })
made-read tasks reader p = nothing refl

made-out : (names : List (List ℕ)) (p : Part) → Makes (out_of names) (λ o. o.name) p
made-out names (part.Out n first e) = an_item _ refl (record { declared = refl; repeated = λ before. refl; printable = λ h. h.0 })
made-out names p = nothing refl

-- ---- the diagram

module _ (body : Body) (d : Diagram) (printable : IsPrintable body) (fine : IsFaultless body) (is : IsDiagramOf body d) where
  raw-printable : (i : ℕ) (raw : RawTask) → slice_get body.tasks i ≡ Some raw → IsPrintableTask raw
  raw-printable i raw at = all_place IsPrintableTask body.tasks i raw printable.tasks at

  -- a task has the name of its line
  task-name : (i : ℕ) (t : Task) (raw : RawTask) → slice_get d.tasks i ≡ Some t → slice_get body.tasks i ≡ Some raw → t.name ≡ raw.name
  task-name i t raw at at_raw = ap (λ u. u.name) (is.tasks i raw t at_raw at).is

  names-apart : (i j : ℕ) (t u : RawTask) → slice_get body.tasks i ≡ Some t → slice_get body.tasks j ≡ Some u → i < j → t.name ≢ u.name
  names-apart i j t u at_t at_u less same =
      let before = take j body.tasks in
      let none : is_among (map decl_name body.decls ++ task_names before) u.name ≡ false = fails _ _ _ (fine.tasks j u at_u) in
      let free : list_any (is_task u.name) before ≡ false = (or_parts (list_any (is_decl u.name) body.decls) (list_any (is_task u.name) before) (sym (among_both u.name body.decls before) ∙ none)).1 in
      both_ways (list_any (is_task u.name) before) free
      (any-at (is_task u.name) before i t (take_place body.tasks j i less ∙ at_t) ((bytes_eq-Decides t.name u.name).1 same))

  tasks-named : AreNamed (λ t. t.name) d.tasks
  tasks-named = record {
    each = all-places (λ t. IsPrintableName t.name) d.tasks (λ i t at.
        let raw = raw-at body d is i t at in
        subst IsPrintableName (sym (task-name i t raw.0 at raw.1)) (raw-printable i raw.0 raw.1).line.named);
    apart = λ i j default less below.
        let t = get_or d.tasks i default in
        let u = get_or d.tasks j default in
        let at_t : slice_get d.tasks i ≡ Some t = slice_get-get_or d.tasks i default (omega (arith, less, below)) in
        let at_u : slice_get d.tasks j ≡ Some u = slice_get-get_or d.tasks j default below in
        let first = raw-at body d is i t at_t in
        let second = raw-at body d is j u at_u in
        λ same. names-apart i j first.0 second.0 first.1 second.1 less (sym (task-name i t first.0 at_t first.1) ∙ same ∙ task-name j u second.0 at_u second.1);
  }

  reads-named : All (λ t. AreNamed (λ r. r.name) t.reads) d.tasks
  reads-named =
      all-places (λ t. AreNamed (λ r. r.name) t.reads) d.tasks (λ i t at.
      let raw = raw-at body d is i t at in
      subst (AreNamed (λ r. r.name)) (ap (λ u. u.reads) (sym (is.tasks i raw.0 t raw.1 at).is))
      (items-named (read_of body.tasks i) (λ r. r.name) (made-read body.tasks i) body i raw.0 fine raw.1 (raw-printable i raw.0 raw.1)))

  outs-named : All (λ t. AreNamed (λ o. o.name) t.outs) d.tasks
  outs-named =
      all-places (λ t. AreNamed (λ o. o.name) t.outs) d.tasks (λ i t at.
      let raw = raw-at body d is i t at in
      let names = env_names raw.0.parts in
      subst (AreNamed (λ o. o.name)) (ap (λ u. u.outs) (sym (is.tasks i raw.0 t raw.1 at).is))
      (items-named (out_of names) (λ o. o.name) (made-out names) body i raw.0 fine raw.1 (raw-printable i raw.0 raw.1)))

pub checked-names : (doc : Doc) (d : Diagram) → IsPrintable doc.body → HasItemLines doc → IsCheckedOf doc d → HasNames d
checked-names doc d printable lines checked =
    let raw = checked.shaped.diagram in
    let none = checked.shape.faultless in
    let fine = faultless doc lines none.lines in
    let is = checked.shape.diagram in
    let whole = closed doc raw printable lines none is in
    subst HasNames (sym checked.is) (record {
      tasks = tasks-named doc.body raw printable fine is;
      reads = reads-named doc.body raw printable fine is;
      outs = outs-named doc.body raw printable fine is;
      links = whole.one_link;
      delays = whole.delays;
    })
