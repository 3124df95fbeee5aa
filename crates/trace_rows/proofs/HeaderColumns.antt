-- The columns of a header, place by place.
use Rattle.std.proofs.Common.{◌≡◌, ℕ, zero, suc, ◌+◌, ◌-◌, ◌<◌, ◌≤◌, Bool, true, false, List, [], ◌∷◌, ◌++◌, length, take, drop, get_or, Some, refl, sym, ap, ◌∙◌, append_assoc, arith, inl, inr}
use Rattle.std.specs.Prelude.{not, ◌&&◌, codes}
use Rattle.std.specs.List.{list_all, list_any}
use Rattle.std.specs.Option.{option_map_or}
use Rattle.std.specs.Str.{bytes_eq}
use Rattle.std.proofs.Math.Bool.{and-false, or-true}
use Rattle.std.proofs.lemmas.Bool.{cases_Bool, and_parts, or_from, or_parts, both_ways, not-true, false_from_ne_true}
use Rattle.std.proofs.lemmas.Grind.{get_or_after_one}
use Rattle.std.proofs.lemmas.List.{append-nil, get_or-take, length-drop, length-take-le, take_more}
use Rattle.std.proofs.lemmas.List.Folds.{list_any_at}
use Rattle.std.proofs.lemmas.List.Sums.{prefix_len-drop_no, prefix_len-drop_yes}
use Rattle.std.proofs.lemmas.Slice.Eq.{bytes_eq-Decides}
use Rattle.csv.specs.Records.{field_at}
use Rattle.dbp_plan.specs.declared.diagram.Input.{Input}
use Rattle.dbp_plan.specs.NameLists.{is_among, index_of}
use Rattle.dbp_plan.proofs.ListParts.{split-at}
use Rattle.dbp_plan.proofs.NameLaws.{among_append, among_map}
use Rattle.trace_rows.specs.Headers.{input_names, are_distinct, is_header}

-- ---- names

pub among_inputs : (inputs : List Input) (name : List ℕ) → is_among (input_names inputs) name ≡ list_any (λ i. bytes_eq i.name name) inputs
among_inputs inputs name = among_map (λ (i : Input). i.name) name inputs

-- ---- cells by their places

pub at-place : (fields : List (List ℕ)) (k : ℕ) (field : List ℕ) → Some field ≡ field_at fields k → (k < length fields) × (field ≡ get_or fields k field)
unfolding field_at
at-place [] k field e = absurd cc
at-place (f ∷ fs) zero field e = (omega arith, cc)
at-place (f ∷ fs) (suc k) field e = let r = at-place fs k field e in (omega arith, r.1)

pub some-place : (fields : List (List ℕ)) (k : ℕ) → k < length fields → field_at fields k ≡ Some (get_or fields k [])
unfolding field_at
some-place [] k h = absurd (omega arith)
some-place (f ∷ fs) zero h = refl
some-place (f ∷ fs) (suc k) h = some-place fs k (omega arith)

-- whether a record has this cell at the place
abbrev pub has_cell : List (List ℕ) → ℕ → List ℕ → Bool
has_cell fields k text = option_map_or (λ cell. bytes_eq cell text) (field_at fields k) false

has-cell : (fields : List (List ℕ)) (k : ℕ) (text : List ℕ) → k < length fields → has_cell fields k text ≡ bytes_eq (get_or fields k []) text
has-cell fields k text h = rw (some-place fields k h) refl

-- the names of the columns before this one
abbrev pub columns_before : List (List ℕ) → ℕ → List (List ℕ)
columns_before fields k = drop 1 (take k fields)

after-first : (xs ys : List (List ℕ)) → 1 ≤ length xs → drop 1 (xs ++ ys) ≡ drop 1 xs ++ ys
after-first [] ys h = absurd (omega arith)
after-first (x ∷ xs) ys h = refl

next-column : (fields : List (List ℕ)) (k : ℕ) (default : List ℕ) → 1 ≤ k → k < length fields → columns_before fields (k + 1) ≡ columns_before fields k ++ get_or fields k default ∷ []
next-column fields k default some below =
    let size : 1 ≤ length (take k fields) = let e = length-take-le k fields (omega arith) in omega arith in
    ap (drop 1) (take_more fields k default below) ∙ after-first (take k fields) (get_or fields k default ∷ []) size

pub one-more : (fields : List (List ℕ)) (k : ℕ) (field : List ℕ) → 1 ≤ k → k < length fields → field ≡ get_or fields k field → columns_before fields (k + 1) ≡ columns_before fields k ++ field ∷ []
one-more fields k field some below is = next-column fields k field some below ∙ ap (λ f. columns_before fields k ++ f ∷ []) (sym is)

-- ---- the place of a name

-- what stands from a place on decides the place of the name
abbrev pub PlaceFrom : List (List ℕ) → List ℕ → ℕ → Type 0
PlaceFrom fields name k = index_of (drop 1 fields) name ≡ (k - 1) + index_of (drop k fields) name

pub place-here : (fields : List (List ℕ)) (name : List ℕ) (k : ℕ) → PlaceFrom fields name k → k < length fields → has_cell fields k name ≡ true → k - 1 ≡ index_of (drop 1 fields) name
place-here fields name k so_far below here =
    let is : bytes_eq (get_or fields k []) name ≡ true = sym (has-cell fields k name below) ∙ here in
    let none : index_of (drop k fields) name ≡ 0 = prefix_len-drop_no (λ m. not (bytes_eq m name)) fields k [] below (ap not is) in
    omega arith

pub place-later : (fields : List (List ℕ)) (name : List ℕ) (k : ℕ) → 1 ≤ k → PlaceFrom fields name k → k < length fields → has_cell fields k name ≡ false → PlaceFrom fields name (k + 1)
place-later fields name k some so_far below other =
    let is : bytes_eq (get_or fields k []) name ≡ false = sym (has-cell fields k name below) ∙ other in
    let one : index_of (drop k fields) name ≡ 1 + index_of (drop (k + 1) fields) name = prefix_len-drop_yes (λ m. not (bytes_eq m name)) fields k [] below (ap not is) in
    omega arith

-- ---- a name that stands at an earlier column

pub not-repeated : (fields : List (List ℕ)) (name : List ℕ) (k : ℕ) → 1 ≤ k → k < length fields → is_among (columns_before fields k) name ≡ false → has_cell fields k name ≡ false → is_among (columns_before fields (k + 1)) name ≡ false
not-repeated fields name k some below before other =
    let is : bytes_eq (get_or fields k []) name ≡ false = sym (has-cell fields k name below) ∙ other in
    ap (λ names. is_among names name) (next-column fields k [] some below) ∙ among_append (columns_before fields k) (get_or fields k [] ∷ []) name ∙ rw (before, is) refl

pub repeated-there : (fields : List (List ℕ)) (name : List ℕ) (k place : ℕ) → 1 ≤ k → k < place → place ≤ length fields → has_cell fields k name ≡ true → is_among (columns_before fields place) name ≡ true
repeated-there fields name k place some before within here =
    let is : bytes_eq (get_or fields k []) name ≡ true = sym (has-cell fields k name (omega arith)) ∙ here in
    let index : 1 + (k - 1) ≡ k = omega arith in
    let at : get_or (columns_before fields place) (k - 1) [] ≡ get_or fields k [] = get_or_after_one (take place fields) (k - 1) [] ∙ ap (λ j. get_or (take place fields) j []) index ∙ get_or-take place fields k [] before in
    let size : k - 1 < length (columns_before fields place) = omega (arith, length-drop 1 (take place fields), length-take-le place fields within) in
    list_any_at (λ m. bytes_eq m name) (columns_before fields place) (k - 1) [] size (ap (λ m. bytes_eq m name) at ∙ is)

-- ---- a header

-- each of the columns is one of the names, and none before it is the same
abbrev columns_fit : List (List ℕ) → List (List ℕ) → List (List ℕ) → Bool
columns_fit names before [] = true
columns_fit names before (column ∷ columns) = is_among names column && not (is_among before column) && columns_fit names (before ++ column ∷ []) columns

swapped : (a b : List ℕ) → bytes_eq a b ≡ false → bytes_eq b a ≡ false
swapped a b h = false_from_ne_true _ (λ y. both_ways _ h ((bytes_eq-Decides a b).1 (sym ((bytes_eq-Decides b a).0 y))))

distinct-more : (before : List (List ℕ)) (column : List ℕ) → are_distinct before ≡ true → is_among before column ≡ false → are_distinct (before ++ column ∷ []) ≡ true
distinct-more [] column h new = refl
distinct-more (b ∷ before) column h new =
    let here = and_parts (not (is_among before b)) (are_distinct before) h in
    let none = or_parts (bytes_eq b column) (is_among before column) new in
    let other : is_among (before ++ column ∷ []) b ≡ false = among_append before (column ∷ []) b ∙ or_from (is_among before b) (is_among (column ∷ []) b) (not-true _ here.0) (or_from (bytes_eq column b) false (swapped b column none.0) refl) in
    rw (other, distinct-more before column here.1 none.1) refl

not-distinct : (before columns : List (List ℕ)) (column : List ℕ) → is_among before column ≡ true → are_distinct (before ++ column ∷ columns) ≡ false
not-distinct [] columns column there = absurd cc
not-distinct (b ∷ before) columns column there =
    elim (cases_Bool (bytes_eq b column)) [
      | inl y ↦
          let same : bytes_eq column b ≡ true = (bytes_eq-Decides column b).1 (sym ((bytes_eq-Decides b column).0 y)) in
          let found : is_among (before ++ column ∷ columns) b ≡ true = among_append before (column ∷ columns) b ∙ rw same (or-true (is_among before b)) in
          rw found refl
      | inr n ↦ rw (not-distinct before columns column (rw n at there)) (and-false (not (is_among (before ++ column ∷ columns) b)))
    ]

fit-is : (names before columns : List (List ℕ)) → are_distinct before ≡ true → columns_fit names before columns ≡ (list_all (is_among names) columns && are_distinct (before ++ columns))
fit-is names before [] h = rw (append-nil before) (sym h)
fit-is names before (column ∷ columns) h =
    elim (cases_Bool (is_among names column)) [
      | inl known ↦ elim (cases_Bool (is_among before column)) [
        | inl there ↦ rw (known, there, not-distinct before columns column there) (sym (and-false (list_all (is_among names) columns)))
        | inr new ↦
            let later = fit-is names (before ++ column ∷ []) columns (distinct-more before column h new) in
            rw (known, new) (later ∙ ap (λ cs. list_all (is_among names) columns && are_distinct cs) (append_assoc before (column ∷ []) columns))
      ]
      | inr strange ↦ rw strange refl
    ]

module _ (inputs : List Input) (events fields : List (List ℕ)) where
  abbrev names : List (List ℕ)
  names = input_names inputs ++ events

  -- what stands from a place on decides
  abbrev pub HeaderFrom : ℕ → Type 0
  HeaderFrom k = is_header inputs events fields ≡ columns_fit (input_names inputs ++ events) (columns_before fields k) (drop k fields)

  from-here : (k : ℕ) (name : List ℕ) → k < length fields → name ≡ get_or fields k name → HeaderFrom k
      → is_header inputs events fields ≡ (is_among names name && not (is_among (columns_before fields k) name) && columns_fit names (columns_before fields k ++ name ∷ []) (drop (k + 1) fields))
  from-here k name below is so_far = so_far ∙ ap (columns_fit names (columns_before fields k)) (split-at fields k name below is)

  pub header-unknown : (k : ℕ) (name : List ℕ) → HeaderFrom k → Some name ≡ field_at fields k → is_among (input_names inputs ++ events) name ≡ false → false ≡ is_header inputs events fields
  header-unknown k name so_far is strange =
      let at = at-place fields k name is in
      sym (from-here k name at.0 at.1 so_far ∙ rw strange refl)

  pub header-repeated : (k : ℕ) (name : List ℕ) → HeaderFrom k → Some name ≡ field_at fields k → is_among (input_names inputs ++ events) name ≡ true → is_among (columns_before fields k) name ≡ true → false ≡ is_header inputs events fields
  header-repeated k name so_far is known there =
      let at = at-place fields k name is in
      sym (from-here k name at.0 at.1 so_far ∙ rw (known, there) refl)

  pub header-later : (k : ℕ) (name : List ℕ) → 1 ≤ k → HeaderFrom k → Some name ≡ field_at fields k → is_among (input_names inputs ++ events) name ≡ true → is_among (columns_before fields k) name ≡ false → HeaderFrom (k + 1)
  header-later k name some so_far is known new =
      let at = at-place fields k name is in
      from-here k name at.0 at.1 so_far ∙ rw (known, new) (ap (λ before. columns_fit names before (drop (k + 1) fields)) (sym (one-more fields k name some at.0 at.1)))

pub header-starts : (inputs : List Input) (events fields : List (List ℕ)) → has_cell fields 0 (codes "time") ≡ true → HeaderFrom inputs events fields 1
unfolding field_at
header-starts inputs events [] h = absurd cc
header-starts inputs events (f ∷ fs) h = rw h (sym (fit-is (input_names inputs ++ events) [] fs refl))

pub no-header : (inputs : List Input) (events fields : List (List ℕ)) → has_cell fields 0 (codes "time") ≡ false → false ≡ is_header inputs events fields
unfolding field_at
no-header inputs events [] h = refl
no-header inputs events (f ∷ fs) h = rw h refl
