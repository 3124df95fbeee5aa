-- Tasks without outs, and tasks with outs and without lets.
use Rattle.std.proofs.Common.{◌≡◌, ◌≢◌, ℕ, zero, suc, ◌+◌, ◌<◌, ◌≤◌, Bool, true, false, List, [], ◌∷◌, length, drop, get_or, slice_get, Option, Some, None, ◌⊎◌, inl, inr, refl, ap, ◌∙◌, subst, arith}
use Rattle.std.specs.Prelude.{if◌then◌else◌}
use Rattle.std.specs.List.{flat_map, list_any}
use Rattle.std.proofs.lemmas.Bool.{not-true, not-false}
use Rattle.std.proofs.lemmas.Option.{none-some, same_Some}
use Rattle.dbp_plan.specs.FirstFault.{first_fault}
use Rattle.dbp_plan.proofs.ListParts.{nothing-after, split-at}
use Rattle.dia_lines.specs.declared.item.Part.{Part}
use Rattle.dia_lines.specs.declared.item.Part.TheVariants.{State, Sense, Read, Let, Next, Out}
use Rattle.dia_read.specs.declared.document.Doc.{Doc}
use Rattle.dia_read.specs.declared.document.RawTask.{RawTask}
use Rattle.dia_read.specs.Printable.{is_out_part}
use Rattle.expr_eval.specs.LetOrders.{IsCycle}
use Rattle.dia_check.specs.declared.fail.CheckCode.TheVariants.{NoOut}
use Rattle.dia_check.specs.Diagrams.{let_of}
use Rattle.dia_check.specs.Faults.{base_of, has_lets, is_let_part, lacks_outs, line_faults, line_without_out, outless_line, part_lines, IsWhole, HasTaskFault, no_out, IsShapeFault, of_a_task}
use Rattle.dia_check.specs.Names.{env_names, out_name}
use Rattle.dia_check.specs.Scopes.{HasNoCycle}
use Rattle.dia_check.proofs.TaskParts.{first-there}

no-out-names : (ps : List Part) → list_any is_out_part ps ≡ false → flat_map out_name ps ≡ []
no-out-names [] none = refl
no-out-names (State m v ∷ ps) none = no-out-names ps none
no-out-names (Sense m i ∷ ps) none = no-out-names ps none
no-out-names (Read m d w q a ∷ ps) none = no-out-names ps none
no-out-names (Let m e ∷ ps) none = no-out-names ps none
no-out-names (Next m e ∷ ps) none = no-out-names ps none
no-out-names (Out m v e ∷ ps) none = absurd cc

some-out-names : (ps : List Part) → list_any is_out_part ps ≡ true → flat_map out_name ps ≢ []
some-out-names [] some = absurd cc
some-out-names (State m v ∷ ps) some = some-out-names ps some
some-out-names (Sense m i ∷ ps) some = some-out-names ps some
some-out-names (Read m d w q a ∷ ps) some = some-out-names ps some
some-out-names (Let m e ∷ ps) some = some-out-names ps some
some-out-names (Next m e ∷ ps) some = some-out-names ps some
some-out-names (Out m v e ∷ ps) some = λ none. absurd cc

pub without-outs : (t : RawTask) → lacks_outs t ≡ true → flat_map out_name t.parts ≡ []
without-outs t lacks = no-out-names t.parts (not-true (list_any is_out_part t.parts) lacks)

pub with-outs : (t : RawTask) → lacks_outs t ≡ false → flat_map out_name t.parts ≢ []
with-outs t has = some-out-names t.parts (not-false (list_any is_out_part t.parts) has)

pub refused : (t : RawTask) (line : ℕ) (parts : List ℕ) → lacks_outs t ≡ true → HasTaskFault t line parts line NoOut
refused t line parts lacks = no_out (without-outs t lacks)

pub whole : (t : RawTask) → lacks_outs t ≡ false → HasNoCycle t → IsWhole t
whole t has none = record { outs = with-outs t has; lets = none }

-- ---- tasks without lets have no cycle

no-lets : (names : List (List ℕ)) (ps : List Part) → list_any is_let_part ps ≡ false → flat_map (let_of names) ps ≡ []
no-lets names [] none = refl
no-lets names (State m v ∷ ps) none = no-lets names ps none
no-lets names (Sense m i ∷ ps) none = no-lets names ps none
no-lets names (Read m d w q a ∷ ps) none = no-lets names ps none
no-lets names (Let m e ∷ ps) none = absurd cc
no-lets names (Next m e ∷ ps) none = no-lets names ps none
no-lets names (Out m v e ∷ ps) none = no-lets names ps none

-- no lets have no cycle
pub no-cycle : (base : ℕ) (cycle : List ℕ) → IsCycle base [] cycle → ⊥
no-cycle base [] is = absurd (omega (arith, is.some))
no-cycle base (i ∷ cycle) is = absurd (omega (arith, first-there base [] i (i ∷ cycle) (record { is = is; begins = refl })))

plain : (t : RawTask) → lacks_outs t ≡ false → has_lets t ≡ false → IsWhole t
plain t has none = whole t has (λ cycle is. no-cycle (base_of t) cycle (subst (λ lets. IsCycle (base_of t) lets cycle) (no-lets (env_names t.parts) t.parts none) is))

-- ---- the first task without outs

-- it has outs and no lets
abbrev IsPlain : RawTask → Type 0
IsPlain t = (lacks_outs t ≡ false) × (has_lets t ≡ false)

record FirstOutless (ts : List RawTask) (ns : List ℕ) (n : ℕ) : Type 0 where
  number : ℕ
  task : RawTask
  at : slice_get ts number ≡ Some task
  line : slice_get ns number ≡ Some n
  lacks : lacks_outs task ≡ true
  before : (j : ℕ) (u : RawTask) → j < number → slice_get ts j ≡ Some u → IsPlain u

chosen : (a b : Bool) (m n : ℕ) (o : Option ℕ) → (if a then Some m else if b then None else o) ≡ Some n → ((a ≡ true) × (m ≡ n)) ⊎ ((a ≡ false) × (b ≡ false) × (o ≡ Some n))
chosen true b m n o is = inl (refl, same_Some m n is)
chosen false true m n o is = absurd (none-some n is)
chosen false false m n o is = inr (refl, refl, is)

before-more : (t : RawTask) (ts : List RawTask) (k : ℕ) → IsPlain t → ((j : ℕ) (u : RawTask) → j < k → slice_get ts j ≡ Some u → IsPlain u)
    → (j : ℕ) (u : RawTask) → j < suc k → slice_get (t ∷ ts) j ≡ Some u → IsPlain u
before-more t ts k this rest zero u below at = subst (λ v. IsPlain v) (same_Some t u at) this
before-more t ts k this rest (suc j) u below at = rest j u (omega (arith, below)) at

first-outless : (ts : List RawTask) (ns : List ℕ) (n : ℕ) → outless_line ts ns ≡ Some n → FirstOutless ts ns n
first-outless [] ns n is = absurd (none-some n is)
first-outless (t ∷ ts) [] n is = absurd (none-some n is)
first-outless (t ∷ ts) (m ∷ ns) n is = elim (chosen (lacks_outs t) (has_lets t) m n (outless_line ts ns) is) [
  | inl here ↦ record { number = 0; task = t; at = refl; line = ap (λ (k : ℕ). Some k) here.1; lacks = here.0; before = λ j u below at. absurd (omega (arith, below)) }
  | inr later ↦
      let rest : FirstOutless ts ns n = first-outless ts ns n later.2 in
      record {
        number = suc rest.number;
        task = rest.task;
        at = rest.at;
        line = rest.line;
        lacks = rest.lacks;
        before = before-more t ts rest.number (later.0, later.1) rest.before;
      }
]

pub task-refused : (doc : Doc) (n : ℕ) → first_fault (line_faults doc) ≡ None → line_without_out doc ≡ Some n → IsShapeFault doc n NoOut
task-refused doc n none is =
    let first : FirstOutless doc.body.tasks doc.lines.tasks n = first-outless doc.body.tasks doc.lines.tasks n is in
    of_a_task first.number n n first.task NoOut none first.at first.line
    (λ j u below at. let this = first.before j u below at in plain u this.0 this.1)
    (refused first.task n (part_lines doc first.number) first.lacks)

-- ---- going over the tasks

module _ (ts : List RawTask) (ns : List ℕ) (k : ℕ) (t : RawTask) (n : ℕ) (in_ts : k < length ts) (in_ns : k < length ns) (is_t : t ≡ get_or ts k t) (is_n : n ≡ get_or ns k n) where
  from-here : outless_line (drop k ts) (drop k ns) ≡ (if lacks_outs t then Some n else if has_lets t then None else outless_line (drop (k + 1) ts) (drop (k + 1) ns))
  from-here = rw (split-at ts k t in_ts is_t, split-at ns k n in_ns is_n) refl

  pub line-here : lacks_outs t ≡ true → outless_line (drop k ts) (drop k ns) ≡ Some n
  line-here lacks = from-here ∙ rw lacks refl

  pub line-hidden : lacks_outs t ≡ false → has_lets t ≡ true → outless_line (drop k ts) (drop k ns) ≡ None
  line-hidden has lets = from-here ∙ rw (has, lets) refl

  pub line-later : lacks_outs t ≡ false → has_lets t ≡ false → outless_line (drop k ts) (drop k ns) ≡ outless_line (drop (k + 1) ts) (drop (k + 1) ns)
  line-later has none = from-here ∙ rw (has, none) refl

pub no-line : (ts : List RawTask) (ns : List ℕ) (k : ℕ) → length ts ≤ k → outless_line (drop k ts) (drop k ns) ≡ None
no-line ts ns k end = ap (λ us. outless_line us (drop k ns)) (nothing-after ts k end)
