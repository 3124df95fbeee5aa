-- What holds if a line is refused. If memory ran out, nothing is said.
use Rattle.std.specs.Prelude.{◌≡◌, ℕ, true, false, List, ◌∷◌, Option, Some, None}
use Rattle.dia_tokens.specs.declared.line.LineFail.{LineFail}
use Rattle.dia_tokens.specs.declared.token.Token.{Token}
use Rattle.dia_exprs.specs.declared.fail.ExpressionFail.{ExpressionFail}
use Rattle.dia_exprs.specs.declared.fail.ExpressionFail.TheVariants as of_expression
use Rattle.dia_exprs.specs.Answers.{IsSpelled, SpellsNone}
use Rattle.dia_lines.specs.declared.fault.Limit.TheVariants.{Number}
use Rattle.dia_lines.specs.declared.item.Part.TheVariants as part
use Rattle.dia_lines.specs.declared.item.Line.{Line}
use Rattle.dia_lines.specs.declared.item.Line.TheVariants as line
use Rattle.dia_lines.specs.Forms.{Shape, plain, of_let, of_next, of_out}
use Rattle.dia_lines.specs.Held.{IsKept, IsHeld}
use Rattle.dia_lines.specs.Positions.{IsAfter}
use Rattle.dia_lines.specs.declared.position.Position.{Position}
use Rattle.dia_lines.specs.declared.fault.LineError.{LineError}
use Rattle.dia_lines.specs.declared.fault.LineError.TheVariants.{Refused, NoMemory}
use Rattle.dia_lines.specs.declared.fault.ReadCode.{ReadCode}
use Rattle.dia_lines.specs.declared.fault.ReadCode.TheVariants.{BadLine, LimitHit}
use Rattle.dia_lines.specs.declared.place.Place.{Place}
use Rattle.dia_lines.specs.Statements.{Statement}
use Rattle.dia_lines.specs.Limits.{numbers_fit}
use Rattle.dia_lines.specs.Lines.{Content, Reads, MayStand, code_of, HasTextFault, HasDiagramFault, HasFault}

-- the refusal with the code, or out of memory if there is none
abbrev pub error_of : Option ReadCode → LineError
error_of (Some code) = Refused code
error_of None = NoMemory

-- why a line is refused that has no tokens
abbrev pub error_of_text : LineFail → LineError
error_of_text fail = error_of (code_of fail)

-- why a line is refused whose tokens make no expression
abbrev pub error_of_expression : ExpressionFail → LineError
error_of_expression of_expression.NoExpression = Refused BadLine
error_of_expression of_expression.NoMemory = NoMemory

-- the line has the fault, as its first one
abbrev pub Refuses : List Content → List ℕ → LineError → Type 0
Refuses before line (Refused code) = HasFault before line code
Refuses before line NoMemory = Unit {0}

-- after any lines that lead to the position, the line says something, this is held of it, and the next position is after it
abbrev pub IsNextLine : Position → List ℕ → Line → Position → Type 0
IsNextLine position line held next =
    (before : List Content) → IsAfter before position
    → (said : Content) × Reads before line said × IsHeld said held × IsAfter (said ∷ before) next

-- after any lines that lead to the position, the line has the fault, as its first one
abbrev pub RefusesAfter : Position → List ℕ → LineError → Type 0
RefusesAfter position line e = (before : List Content) → IsAfter before position → Refuses before line e

-- the line spells no tokens, and has the fault
abbrev pub RefusesText : List ℕ → LineError → Type 0
RefusesText line (Refused code) = HasTextFault line code
RefusesText line NoMemory = Unit {0}

-- the line of the diagram has the fault, as its first one
abbrev pub RefusesInDiagram : List Content → List ℕ → LineError → Type 0
RefusesInDiagram before line (Refused code) = HasDiagramFault before line code
RefusesInDiagram before line NoMemory = Unit {0}

-- the tokens are no statement that may stand there, or one with a number past its limit
abbrev pub RefusesStatement : ℕ → Place → List Token → LineError → Type 0
RefusesStatement version place ts (Refused BadLine) = (s : Statement) → MayStand version place ts s → ⊥
RefusesStatement version place ts (Refused (LimitHit Number)) = (s : Statement) × MayStand version place ts s × (numbers_fit s ≡ false)
RefusesStatement version place ts (Refused _) = ⊥
RefusesStatement version place ts NoMemory = Unit {0}

-- the tokens are a statement that may stand there, with its numbers within their limits, and this is kept of it
abbrev pub KeepsStatement : ℕ → Place → List Token → Line → Type 0
KeepsStatement version place ts l = (s : Statement) × MayStand version place ts s × (numbers_fit s ≡ true) × IsKept s l

-- ---- of a form

-- what is kept of a line of the form, whose numbers are within their limits
abbrev pub KeepsShape : Shape → Line → Type 0
KeepsShape (plain s) l = IsKept s l × (numbers_fit s ≡ true)
KeepsShape (of_let name ts) (line.Part (part.Let n e)) = (name ≡ n) × IsSpelled ts e
KeepsShape (of_next name ts) (line.Part (part.Next n e)) = (name ≡ n) × IsSpelled ts e
KeepsShape (of_out name first ts) (line.Part (part.Out n v e)) = (name ≡ n) × (first ≡ v) × IsSpelled ts e
KeepsShape _ _ = ⊥

-- the refusal of the tokens of an expression is right
abbrev pub RefusesExpression : List Token → LineError → Type 0
RefusesExpression ts NoMemory = Unit {0}
RefusesExpression ts (Refused BadLine) = SpellsNone ts
RefusesExpression ts _ = ⊥

-- the refusal of the numbers of a statement is right
abbrev pub RefusesNumbers : Statement → ReadCode → Type 0
RefusesNumbers s code = (code ≡ LimitHit Number) × (numbers_fit s ≡ false)

-- the refusal of the form is right
abbrev pub RefusesShape : Shape → LineError → Type 0
RefusesShape (plain s) e = (e ≡ Refused (LimitHit Number)) × (numbers_fit s ≡ false)
RefusesShape (of_let name ts) e = RefusesExpression ts e
RefusesShape (of_next name ts) e = RefusesExpression ts e
RefusesShape (of_out name first ts) e = RefusesExpression ts e
