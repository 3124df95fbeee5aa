-- A step that tokens name is there.
use Rattle.std.proofs.Common.{◌≡◌, ℕ, ℤ, ◌<◌, Bool, true, false, List, [], ◌∷◌, length, Option, Some, None, Ok, refl, sym, subst, arith, inl, inr}
use Rattle.std.specs.Prelude.{if◌then◌else◌, nat_lt}
use Rattle.std.specs.List.{position_or_len}
use Rattle.std.specs.Str.{bytes_eq}
use Rattle.std.proofs.lemmas.Bool.{and_parts, cases_Bool, eqb-true}
use Rattle.std.proofs.lemmas.Bool.Decides.{nat_tests}
use Rattle.std.proofs.lemmas.List.Sums.{passes_at_first}
use Rattle.std.proofs.lemmas.Option.{same_Some}
use Rattle.dbp_rules.specs.declared.step.Step.{Step}
use Rattle.dbp_plan.specs.declared.diagram.Diagram.{Diagram}
use Rattle.dbp_plan.specs.declared.diagram.Link.{Link}
use Rattle.dbp_plan.specs.Lookups.{link_at, no_link, task_at}
use Rattle.dia_tokens.specs.declared.token.Token.{Token}
use Rattle.dia_tokens.specs.declared.token.Token.TheVariants as token
use Rattle.dia_lines.specs.Delays.{delay_at}
use Rattle.dia_lines.specs.Limits.{delay_fits}
use Rattle.dbp_replay.specs.declared.form.Form.{Form}
use Rattle.dbp_replay.specs.declared.form.Operand.{Operand}
use Rattle.dbp_replay.specs.declared.form.Operand.TheVariants as operand
use Rattle.dbp_rules.specs.declared.kind.StepKind.{StepKind}
use Rattle.dbp_rules.specs.declared.kind.StepKind.TheVariants.{Seen, Aim, Claim, OpenGate, Start, Hear, Look, Take, Shut, Put, Done, End}
use Rattle.dbp_replay.specs.declared.kind.Takes.{Takes}
use Rattle.dbp_replay.specs.declared.kind.Takes.TheVariants.{Nothing, Slot, Writer, Read, Port}
use Rattle.dbp_replay.specs.NamedItems.{IsThere}
use Rattle.dbp_replay.specs.StepForms.{form_of, is_link, kind_with, link_between, named_step, number_of, step_numbered, of_kind, of_task, operand_of, name_text, small_delay, step_of, step_with, task_named, with_operand, within, writer_of}

within-is : (len place n : ℕ) → within len place ≡ Some n → (place ≡ n) × (place < len)
within-is len place n e =
    elim (cases_Bool (nat_lt place len)) [
      | inl below ↦
          let is : Some place ≡ Some n = rw below at e in
          let less : place < len = grind (arith, nat_tests) in
          (same_Some place n is, less)
      | inr not ↦ absurd (cc (rw not at e))
    ]

pub within-below : (len place n : ℕ) → within len place ≡ Some n → n < len
within-below len place n e = let both = within-is len place n e in subst (λ (k : ℕ). k < len) both.0 both.1

-- ---- an operand is of the sort that its kind takes

abbrev Fits : Takes → Operand → Type 0
Fits Nothing o = Unit {0}
Fits Slot o = Unit {0}
Fits Writer (operand.Link delay w) = Unit {0}
Fits Writer _ = ⊥
Fits Read (operand.Read n) = Unit {0}
Fits Read _ = ⊥
Fits Port (operand.Port n) = Unit {0}
Fits Port _ = ⊥

chosen-fits : (fits : Bool) (delay : ℕ) (w : List ℕ) (o : Operand) → (if fits then Some (operand.Link delay w) else None) ≡ Some o → Fits Writer o
chosen-fits false delay w o e = absurd (cc (e))
chosen-fits true delay w o e = subst (Fits Writer) (same_Some (operand.Link delay w) o e) tt

writer-fits : (said : Option ℤ × List Token) (o : Operand) → writer_of said ≡ Some o → Fits Writer o
writer-fits (delay, token.Name w ∷ []) o e = chosen-fits (delay_fits delay) (small_delay delay) w o e
writer-fits _ o e = absurd (cc (e))

operand-fits : (t : Takes) (ts : List Token) (o : Operand) → operand_of t ts ≡ Some o → Fits t o
operand-fits Nothing ts o e = tt
operand-fits Slot ts o e = tt
operand-fits Writer ts o e = writer-fits (delay_at ts) o e
operand-fits Read (token.Name r ∷ []) o e = subst (Fits Read) (same_Some (operand.Read r) o e) tt
operand-fits Port (token.Name p ∷ []) o e = subst (Fits Port) (same_Some (operand.Port p) o e) tt
operand-fits _ _ o e = absurd (cc (e))

-- ---- what is looked up is there

pub link-parts : (writer reader delay : ℕ) (l : Link) → is_link writer reader delay l ≡ true → (l.writer ≡ writer) × (l.reader ≡ reader) × (l.delay ≡ delay)
link-parts writer reader delay l passes =
    let first = and_parts _ _ passes in
    let second = and_parts _ _ first.1 in
    (eqb-true _ _ first.0, eqb-true _ _ second.0, eqb-true _ _ second.1)

linked : (d : Diagram) (i delay n : ℕ) (writer : Option ℕ) → ((w : ℕ) → writer ≡ Some w → w < length d.tasks) → i < length d.tasks → link_between d writer i delay ≡ Some n
    → (n < length d.links) × ((link_at d.links n).reader < length d.tasks) × ((link_at d.links n).writer < length d.tasks)
linked d i delay n None there below e = absurd (cc (e))
linked d i delay n (Some w) there below e =
    let both = within-is (length d.links) (position_or_len (is_link w i delay) d.links) n e in
    let passes : is_link w i delay (link_at d.links n) ≡ true = subst (λ (k : ℕ). is_link w i delay (link_at d.links k) ≡ true) both.0 (passes_at_first (is_link w i delay) d.links no_link both.1) in
    let parts = link-parts w i delay (link_at d.links n) passes in
    (subst (λ (k : ℕ). k < length d.links) both.0 both.1, subst (λ (k : ℕ). k < length d.tasks) (sym parts.1) below, subst (λ (k : ℕ). k < length d.tasks) (sym parts.0) (there w refl))

pub named-below : (d : Diagram) (name : List ℕ) (i : ℕ) → task_named d name ≡ Some i → i < length d.tasks
named-below d name i e = within-below (length d.tasks) (position_or_len (λ t. bytes_eq t.name name) d.tasks) i e

there : (d : Diagram) (kind : StepKind) (i n : ℕ) (o : Operand) → i < length d.tasks → Fits (form_of kind).1 o → number_of d i o ≡ Some n → IsThere d (step_with kind i n)
there d Seen i n o below fits e = record { named = below; task = below; operand = tt }
there d Aim i n o below fits e = record { named = below; task = below; operand = tt }
there d Claim i n (operand.Link delay w) below fits e =
    let all = linked d i delay n (task_named d w) (λ k is. named-below d w k is) below e in
    record { named = all.0; task = all.1; operand = all.2 }
there d OpenGate i n o below fits e = record { named = below; task = below; operand = tt }
there d Start i n o below fits e = record { named = below; task = below; operand = tt }
there d Hear i n o below fits e = record { named = below; task = below; operand = tt }
there d Look i n (operand.Read r) below fits e = record { named = below; task = below; operand = within-below (length (task_at d i).reads) (position_or_len (λ x. bytes_eq x.name r) (task_at d i).reads) n e }
there d Take i n (operand.Read r) below fits e = record { named = below; task = below; operand = within-below (length (task_at d i).reads) (position_or_len (λ x. bytes_eq x.name r) (task_at d i).reads) n e }
there d Shut i n o below fits e = record { named = below; task = below; operand = tt }
there d Put i n (operand.Port p) below fits e = record { named = below; task = below; operand = within-below (length (task_at d i).outs) (position_or_len (λ x. bytes_eq x.name p) (task_at d i).outs) n e }
there d Done i n o below fits e = record { named = below; task = below; operand = tt }
there d End i n o below fits e = record { named = below; task = below; operand = tt }
there d _ i n o below fits e = absurd (fits)

-- ---- the step of tokens

there-numbered : (d : Diagram) (kind : StepKind) (i : ℕ) (o : Operand) (e : Step) (n : Option ℕ) → number_of d i o ≡ n → i < length d.tasks → Fits (form_of kind).1 o → step_numbered kind i n ≡ Ok e → IsThere d e
there-numbered d kind i o e None is below fits ok = absurd (cc (ok))
there-numbered d kind i o e (Some n) is below fits ok =
    let same : step_with kind i n ≡ e = cc (ok) in
    subst (IsThere d) same (there d kind i n o below fits is)

there-named : (d : Diagram) (f : Form) (e : Step) (i : Option ℕ) → task_named d f.task ≡ i → Fits (form_of f.kind).1 f.operand → of_task d f i ≡ Ok e → IsThere d e
there-named d f e None is fits ok = absurd (cc (ok))
there-named d f e (Some i) is fits ok = there-numbered d f.kind i f.operand e (number_of d i f.operand) refl (named-below d f.task i is) fits ok

there-operand : (d : Diagram) (kind : StepKind) (task : List ℕ) (e : Step) (o : Option Operand) → ((p : Operand) → o ≡ Some p → Fits (form_of kind).1 p) → named_step d (with_operand kind task o) ≡ Ok e → IsThere d e
there-operand d kind task e None fits ok = absurd (cc (ok))
there-operand d kind task e (Some o) fits ok = there-named d (record { kind = kind; task = task; operand = o }) e (task_named d task) refl (fits o refl) ok

there-kind : (d : Diagram) (task : List ℕ) (rest : List Token) (e : Step) (k : Option StepKind) → named_step d (of_kind k task rest) ≡ Ok e → IsThere d e
there-kind d task rest e None ok = absurd (cc (ok))
there-kind d task rest e (Some kind) ok = there-operand d kind task e (operand_of (form_of kind).1 rest) (λ o is. operand-fits (form_of kind).1 rest o is) ok

-- what the tokens name is there
pub step-there : (d : Diagram) (ts : List Token) (e : Step) → step_of d ts ≡ Ok e → IsThere d e
step-there d (first ∷ token.Name task ∷ rest) e ok = there-kind d task rest e (kind_with (name_text first)) ok
step-there d _ e ok = absurd (cc (ok))
