-- The inputs and the events of a diagram have names of the language, all different.
use Rattle.std.proofs.Common.{◌≡◌, ◌≢◌, ℕ, suc, Bool, All, List, [], ◌∷◌, ◌++◌, map, take, get_or, slice_get, Some, None, refl, sym, ap, ◌∙◌, subst, arith}
use Rattle.std.specs.Prelude.{AllPairs}
use Rattle.std.specs.List.{flat_map, list_any}
use Rattle.std.specs.Str.{bytes_eq}
use Rattle.std.proofs.lemmas.Bool.{both_ways}
use Rattle.std.proofs.lemmas.List.Elements.{All-cons, All-head, All-nil, All-tail}
use Rattle.std.proofs.lemmas.List.Kept.{AllPairs-cons}
use Rattle.std.proofs.lemmas.Option.{slice_get-get_or}
use Rattle.std.proofs.lemmas.Slice.Eq.{bytes_eq-Decides}
use Rattle.dbp_plan.specs.declared.diagram.Diagram.{Diagram}
use Rattle.dbp_plan.specs.declared.diagram.Input.{Input}
use Rattle.dbp_plan.specs.ListItems.{take_place}
use Rattle.dbp_plan.specs.NameLists.{is_among}
use Rattle.dbp_plan.proofs.FirstFaults.{test-none}
use Rattle.dbp_plan.proofs.NameLaws.{among_map}
use Rattle.dia_tokens.specs.Printable.{IsPrintableName}
use Rattle.dia_lines.specs.declared.item.Decl.{Decl}
use Rattle.dia_lines.specs.declared.item.Decl.TheVariants as decl
use Rattle.dia_read.specs.declared.document.Body.{Body}
use Rattle.dia_read.specs.declared.document.Doc.{Doc}
use Rattle.dia_read.specs.Printable.{HasItemLines, IsPrintable, IsPrintableDecl}
use Rattle.dia_check.specs.declared.fail.LineFault.TheVariants.{Duplicate}
use Rattle.dia_check.specs.Checks.{IsCheckedOf}
use Rattle.dia_check.specs.Diagrams.{input_of}
use Rattle.dia_check.specs.ItemNames.{AreNamed, input_and_event_names}
use Rattle.dia_check.specs.Names.{decl_name, event_name, input_name}
use Rattle.dia_check.proofs.Faultless.{IsFaultless, faultless}
use Rattle.dia_check.proofs.LinkLists.{any-at}

-- ---- lists of which one is longer

all-between : {A : Type 0} (P : A → Type 0) (x : A) (xs ys : List A) → P x → All P (xs ++ ys) → All P (xs ++ x ∷ ys)
all-between P x [] ys holds each = All-cons P x ys holds each
all-between P x (y ∷ xs) ys holds each = All-cons P y (xs ++ x ∷ ys) (All-head P y (xs ++ ys) each) (all-between P x xs ys holds (All-tail P y (xs ++ ys) each))

pairs-head : {A : Type 0} (R : A → A → Type 0) (x : A) (xs : List A) → AllPairs R (x ∷ xs) → All (R x) xs
pairs-head R x xs pairs = λ k d below. pairs 0 (suc k) d (omega arith) (omega (arith, below))

pairs-tail : {A : Type 0} (R : A → A → Type 0) (x : A) (xs : List A) → AllPairs R (x ∷ xs) → AllPairs R xs
pairs-tail R x xs pairs = λ i j d less below. pairs (suc i) (suc j) d (omega (arith, less)) (omega (arith, below))

abbrev differ : List ℕ → List ℕ → Type 0
differ m n = m ≢ n

pairs-between : (n : List ℕ) (front back : List (List ℕ)) → All (differ n) (front ++ back) → AllPairs differ (front ++ back) → AllPairs differ (front ++ n ∷ back)
pairs-between n [] back others pairs = AllPairs-cons differ n back others pairs
pairs-between n (m ∷ front) back others pairs =
    AllPairs-cons differ m (front ++ n ∷ back)
    (all-between (differ m) n front back (λ same. All-head (differ n) m (front ++ back) others (sym same)) (pairs-head differ m (front ++ back) pairs))
    (pairs-between n front back (All-tail (differ n) m (front ++ back) others) (pairs-tail differ m (front ++ back) pairs))

-- ---- the names of declarations

-- those of inputs, and then those of events
abbrev names_of : List Decl → List (List ℕ)
names_of ds = flat_map input_name ds ++ flat_map event_name ds

all-names : (P : List ℕ → Type 0) (ds : List Decl) → All (λ d. P (decl_name d)) ds → All P (names_of ds)
all-names P [] each = All-nil P
all-names P (decl.Input n v ∷ ds) each = All-cons P n (names_of ds) (All-head (λ d. P (decl_name d)) (decl.Input n v) ds each) (all-names P ds (All-tail (λ d. P (decl_name d)) (decl.Input n v) ds each))
all-names P (decl.Event n ∷ ds) each =
    all-between P n (flat_map input_name ds) (flat_map event_name ds) (All-head (λ d. P (decl_name d)) (decl.Event n) ds each) (all-names P ds (All-tail (λ d. P (decl_name d)) (decl.Event n) ds each))

abbrev differ_in_name : Decl → Decl → Type 0
differ_in_name d e = decl_name d ≢ decl_name e

names-apart : (ds : List Decl) → AllPairs differ_in_name ds → AllPairs differ (names_of ds)
names-apart [] pairs = λ i j d less below. absurd (omega (arith, below))
names-apart (decl.Input n v ∷ ds) pairs =
    AllPairs-cons differ n (names_of ds) (all-names (differ n) ds (pairs-head differ_in_name (decl.Input n v) ds pairs)) (names-apart ds (pairs-tail differ_in_name (decl.Input n v) ds pairs))
names-apart (decl.Event n ∷ ds) pairs =
    pairs-between n (flat_map input_name ds) (flat_map event_name ds) (all-names (differ n) ds (pairs-head differ_in_name (decl.Event n) ds pairs)) (names-apart ds (pairs-tail differ_in_name (decl.Event n) ds pairs))

-- no declaration has a name that one before it has
decls-apart : (body : Body) → IsFaultless body → AllPairs differ_in_name body.decls
decls-apart body fine i j default less below same =
    let d = get_or body.decls i default in
    let e = get_or body.decls j default in
    let before = take j body.decls in
    let test : Decl → Bool = λ other. bytes_eq (decl_name other) (decl_name e) in
    let none = (test-none (is_among (map decl_name before) (decl_name e)) Duplicate None (fine.decls j e (slice_get-get_or body.decls j default below))).0 in
    let at : slice_get before i ≡ Some d = take_place body.decls j i less ∙ slice_get-get_or body.decls i default (omega (arith, less, below)) in
    both_ways (list_any test before) (sym (among_map decl_name (decl_name e) before) ∙ none) (any-at test before i d at ((bytes_eq-Decides (decl_name d) (decl_name e)).1 same))

printable-name : (d : Decl) → IsPrintableDecl d → IsPrintableName (decl_name d)
printable-name (decl.Input n v) is = is.0
printable-name (decl.Event n) is = is

-- ---- the diagram

input-names : (ds : List Decl) → map (λ (i : Input). i.name) (flat_map input_of ds) ≡ flat_map input_name ds
input-names [] = refl
input-names (decl.Input n v ∷ ds) = ap (λ (ns : List (List ℕ)). n ∷ ns) (input-names ds)
input-names (decl.Event n ∷ ds) = input-names ds

pub declared-names : (doc : Doc) (d : Diagram) → IsPrintable doc.body → HasItemLines doc → IsCheckedOf doc d → AreNamed (λ n. n) (input_and_event_names d)
declared-names doc d printable items checked =
    let decls = doc.body.decls in
    let is = checked.shape.diagram in
    let same : input_and_event_names d ≡ names_of decls =
    ap input_and_event_names checked.is ∙ (λ j. map (λ (i : Input). i.name) (is.inputs j) ++ is.events j) ∙ ap (λ (ns : List (List ℕ)). ns ++ flat_map event_name decls) (input-names decls) in
    subst (AreNamed (λ n. n)) (sym same) (record {
      each = all-names IsPrintableName decls (λ k d below. printable-name (get_or decls k d) (printable.decls k d below));
      apart = names-apart decls (decls-apart doc.body (faultless doc items checked.shape.faultless.lines));
    })
