-- What is returned for a form says this of the tokens of a line.
use Rattle.std.proofs.Common.{◌≡◌, ℕ, true, false, List, Option, Some, None, refl, sym, ap, subst, ◌∙◌}
use Rattle.std.specs.Prelude.{Bool, ◌&&◌}
use Rattle.std.specs.Option.{is_some}
use Rattle.std.proofs.lemmas.Bool.{and_parts, and_from}
use Rattle.dia_tokens.specs.declared.token.Token.{Token}
use Rattle.dia_exprs.specs.Answers.{SpellsNone}
use Rattle.dia_lines.specs.declared.place.Place.{Place}
use Rattle.dia_lines.specs.declared.fault.LineError.{LineError}
use Rattle.dia_lines.specs.declared.fault.LineError.TheVariants.{Refused, NoMemory}
use Rattle.dia_lines.specs.declared.fault.ReadCode.TheVariants.{BadLine}
use Rattle.dia_lines.specs.declared.item.Part.TheVariants as part
use Rattle.dia_lines.specs.declared.item.Line.{Line}
use Rattle.dia_lines.specs.declared.item.Line.TheVariants as line
use Rattle.dia_lines.specs.Statements.{Statement, a_let, a_next, out}
use Rattle.dia_lines.specs.Places.{leads, is_of_version}
use Rattle.dia_lines.specs.Limits.{numbers_fit}
use Rattle.dia_lines.specs.Lines.{MayStand}
use Rattle.dia_lines.specs.Held.{IsKept}
use Rattle.dia_lines.specs.Forms.{Shape, plain, of_let, of_next, of_out, Completes, example_of, shape_at}
use Rattle.dia_lines.specs.Answers.{RefusesStatement, KeepsShape, RefusesExpression, RefusesShape}
use Rattle.dia_lines.proofs.FormLaws.{completed, inverted, none-inverted, leads-example, version-example}

-- whether lines of the form may stand at the place, in documents of the version
abbrev stands_there : ℕ → Place → Shape → Bool
stands_there version place f = is_some (leads place (example_of f)) && is_of_version version (example_of f)

abbrev Stands : ℕ → Place → Shape → Type 0
Stands version place f = stands_there version place f ≡ true

some_place : (o : Option Place) → is_some o ≡ true → (next : Place) × (o ≡ Some next)
some_place None e = absurd cc
some_place (Some next) e = (next, refl)

may_stand : (version : ℕ) (place : Place) (ts : List Token) (f : Shape) (s : Statement) → shape_at ts ≡ Some f → Stands version place f → Completes s f → MayStand version place ts s
may_stand version place ts f s e h c =
    let each = and_parts (is_some (leads place (example_of f))) (is_of_version version (example_of f)) h in
    let p = some_place (leads place (example_of f)) each.0 in
    record { form = completed ts f e s c; next = p.0; stands = leads-example place f s c ∙ p.1; known = version-example version f s c ∙ each.1 }

kept-completes : (f : Shape) (l : Line) → KeepsShape f l → (s : Statement) × Completes s f × (numbers_fit s ≡ true) × IsKept s l
kept-completes (plain s) l k = (s, refl, k.1, k.0)
kept-completes (of_let name ts) (line.Part (part.Let n e)) k = (a_let name k.1.0, (k.1.0, refl, k.1.1), refl, (k.0, k.1.2))
kept-completes (of_next name ts) (line.Part (part.Next n e)) k = (a_next name k.1.0, (k.1.0, refl, k.1.1), refl, (k.0, k.1.2))
kept-completes (of_out name first ts) (line.Part (part.Out n v e)) k = (out name first k.2.0, (k.2.0, refl, k.2.1), refl, (k.0, k.1, k.2.2))
kept-completes _ _ k = absurd k

-- what is kept of the form is kept of a statement that may stand at the place
pub kept-stands : (version : ℕ) (place : Place) (ts : List Token) (f : Shape) (l : Line) → Some f ≡ shape_at ts → Stands version place f → KeepsShape f l
    → (s : Statement) × MayStand version place ts s × (numbers_fit s ≡ true) × IsKept s l
kept-stands version place ts f l e h k = let c = kept-completes f l k in (c.0, may_stand version place ts f c.0 (sym e) h c.1, c.2, c.3)

none-spelled : (version : ℕ) (place : Place) (ts us : List Token) (e : LineError) → RefusesExpression us e → ((s : Statement) → MayStand version place ts s → SpellsNone us → ⊥) → RefusesStatement version place ts e
none-spelled version place ts us NoMemory r none = tt
none-spelled version place ts us (Refused BadLine) r none = λ s m. none s m r
none-spelled version place ts us (Refused _) r none = absurd r

-- a refusal of the form that may stand at the place is one of the tokens
pub refused-stands : (version : ℕ) (place : Place) (ts : List Token) (f : Shape) (e : LineError) → Some f ≡ shape_at ts → Stands version place f → RefusesShape f e → RefusesStatement version place ts e
refused-stands version place ts (plain s) e same h r =
    subst (RefusesStatement version place ts) (sym r.0) (s, may_stand version place ts (plain s) s (sym same) h refl, r.1)
refused-stands version place ts (of_let name us) e same h r =
    none-spelled version place ts us e r (λ s m none. let c = inverted ts (of_let name us) (sym same) s m.form in none c.0 c.2)
refused-stands version place ts (of_next name us) e same h r =
    none-spelled version place ts us e r (λ s m none. let c = inverted ts (of_next name us) (sym same) s m.form in none c.0 c.2)
refused-stands version place ts (of_out name first us) e same h r =
    none-spelled version place ts us e r (λ s m none. let c = inverted ts (of_out name first us) (sym same) s m.form in none c.0 c.2)

-- if lines of the form may not stand there, no statement of the tokens may
pub none-stands : (version : ℕ) (place : Place) (ts : List Token) (f : Shape) → Some f ≡ shape_at ts → stands_there version place f ≡ false → (s : Statement) → MayStand version place ts s → ⊥
none-stands version place ts f e h s m =
    let c = inverted ts f (sym e) s m.form in
    let led : leads place (example_of f) ≡ Some m.next = sym (leads-example place f s c) ∙ m.stands in
    let known : is_of_version version (example_of f) ≡ true = sym (version-example version f s c) ∙ m.known in
    let both : stands_there version place f ≡ true = and_from (is_some (leads place (example_of f))) (is_of_version version (example_of f)) (ap is_some led) known in
    let wrong : true ≡ false = sym both ∙ h in
    cc

-- tokens of no form are no statement that may stand anywhere
pub no-form : (version : ℕ) (place : Place) (ts : List Token) → None ≡ shape_at ts → (s : Statement) → MayStand version place ts s → ⊥
no-form version place ts e s m = none-inverted ts (sym e) s m.form
