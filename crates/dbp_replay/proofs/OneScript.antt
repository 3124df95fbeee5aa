-- A document has one script at most, and none if it has a fault.
use Rattle.std.proofs.Common.{◌≡◌, ℕ, zero, suc, ◌<◌, List, [], length, take, slice_get, Some, Ok, Err, refl, sym, ap, ◌∙◌, subst, arith, inl, inr}
use Rattle.std.specs.Prelude.{Result}
use Rattle.std.proofs.lemmas.Bool.{cases_order}
use Rattle.std.proofs.lemmas.Option.{same_Some, slice_get_within}
use Rattle.dbp_plan.specs.ListItems.{take_place}
use Rattle.dbp_rules.specs.declared.step.Step.{Step}
use Rattle.dbp_plan.specs.declared.diagram.Diagram.{Diagram}
use Rattle.dia_tokens.proofs.OneLine.{one-list}
use Rattle.dia_lines.specs.Text.{lines_of}
use Rattle.dia_read.specs.declared.document.Doc.{Doc}
use Rattle.dia_read.specs.Documents.{none, another}
use Rattle.dbp_replay.specs.declared.fail.ScriptCode.{ScriptCode}
use Rattle.dbp_replay.specs.Scripts.{IsFirstFault, IsScript, IsScriptFault, Name, Says, at_a_line, no_section}
use Rattle.dbp_replay.specs.StepForms.{step_of}

says-once : (d : Diagram) (line : List ℕ) (a b : Result Step ScriptCode) → Says d line a → Says d line b → a ≡ b
says-once d line a b s t = sym s.says ∙ ap (step_of d) (one-list line s.tokens t.tokens s.spelled t.spelled) ∙ t.says

named-once : (d : Diagram) (lines : List (List ℕ)) (a b : List Step) → Name d lines a → Name d lines b → a ≡ b
named-once d lines a b none none = refl
named-once d lines a b (another l e ls es is n) (another k f ks fs it m) =
    let head : ◌≡◌ {A = Result Step ScriptCode} (Ok e) (Ok f) = says-once d l (Ok e) (Ok f) is it in
    let first : e ≡ f = cc (head) in
    let tail : es ≡ fs = named-once d ls es fs n m in
    cc (first, tail)

named-at : (d : Diagram) (lines : List (List ℕ)) (steps : List Step) → Name d lines steps → (i : ℕ) (line : List ℕ) → slice_get lines i ≡ Some line → (e : Step) × Says d line (Ok e)
named-at d lines steps none i line at = let below : i < length {A = List ℕ} [] = slice_get_within [] i line at in absurd (omega (arith, below))
named-at d lines steps (another l e ls es is n) zero line at = (e, subst (λ (x : List ℕ). Says d x (Ok e)) (same_Some l line at) is)
named-at d lines steps (another l e ls es is n) (suc i) line at = named-at d ls es n i line at

no-fault-at : (d : Diagram) (lines : List (List ℕ)) (steps : List Step) (i : ℕ) (line : List ℕ) (code : ScriptCode) → Name d lines steps → slice_get lines i ≡ Some line → Says d line (Err code) → ⊥
no-fault-at d lines steps i line code named at fault =
    let step = named-at d lines steps named i line at in
    let both : ◌≡◌ {A = Result Step ScriptCode} (Ok step.0) (Err code) = says-once d line (Ok step.0) (Err code) step.1 fault in
    absurd (cc (both))

earlier-named : (d : Diagram) (lines : List (List ℕ)) (numbers : List ℕ) (k l : ℕ) (c e : ScriptCode) (f : IsFirstFault d lines numbers k c) (g : IsFirstFault d lines numbers l e) → f.index < g.index → ⊥
earlier-named d lines numbers k l c e f g less = no-fault-at d (take g.index lines) g.before f.index f.line c g.named (take_place lines g.index f.index less ∙ f.stands) f.fault

one-first : (d : Diagram) (lines : List (List ℕ)) (numbers : List ℕ) (k l : ℕ) (c e : ScriptCode) → IsFirstFault d lines numbers k c → IsFirstFault d lines numbers l e → (k ≡ l) × (c ≡ e)
one-first d lines numbers k l c e f g =
    elim (cases_order f.index g.index) [
      | inl same ↦
          let line : f.line ≡ g.line = same_Some f.line g.line (sym f.stands ∙ ap (λ (i : ℕ). slice_get lines i) same ∙ g.stands) in
          let codes : ◌≡◌ {A = Result Step ScriptCode} (Err c) (Err e) = says-once d g.line (Err c) (Err e) (subst (λ (x : List ℕ). Says d x (Err c)) line f.fault) g.fault in
          let number : k ≡ l = same_Some k l (sym f.number ∙ ap (λ (i : ℕ). slice_get numbers i) same ∙ g.number) in
          (number, cc (codes))
      | inr (inl less) ↦ absurd (earlier-named d lines numbers k l c e f g less)
      | inr (inr more) ↦ absurd (earlier-named d lines numbers l k e c g f more)
    ]

pub script-once : (d : Diagram) (doc : Doc) (a b : List Step) → IsScript d doc a → IsScript d doc b → a ≡ b
script-once d doc a b s t =
    let text : s.text ≡ t.text = same_Some s.text t.text (sym s.section ∙ t.section) in
    named-once d (lines_of t.text) a b (subst (λ (x : List ℕ). Name d (lines_of x) a) text s.named) t.named

pub script-no-fault : (d : Diagram) (doc : Doc) (steps : List Step) (line : ℕ) (code : ScriptCode) → IsScript d doc steps → IsScriptFault d doc line code → ⊥
script-no-fault d doc steps line code s (no_section without) = absurd (cc (s.section, without))
script-no-fault d doc steps line code s (at_a_line text at other is f) =
    let same : s.text ≡ text = same_Some s.text text (sym s.section ∙ is) in
    no-fault-at d (lines_of text) steps f.index f.line other (subst (λ (x : List ℕ). Name d (lines_of x) steps) same s.named) f.stands f.fault

pub fault-once : (d : Diagram) (doc : Doc) (k l : ℕ) (c e : ScriptCode) → IsScriptFault d doc k c → IsScriptFault d doc l e → (k ≡ l) × (c ≡ e)
fault-once d doc k l c e (no_section without) (no_section too) = (refl, refl)
fault-once d doc k l c e (no_section without) (at_a_line text at code is f) = absurd (cc (is, without))
fault-once d doc k l c e (at_a_line text at code is f) (no_section without) = absurd (cc (is, without))
fault-once d doc k l c e (at_a_line text at code is f) (at_a_line other there another_code was g) =
    let same : text ≡ other = same_Some text other (sym is ∙ was) in
    one-first d (lines_of other) doc.lines.script at there code another_code (subst (λ (x : List ℕ). IsFirstFault d (lines_of x) doc.lines.script at code) same f) g
