-- What a line says after the lines before it, and its first fault.
use Rattle.std.specs.Prelude.{◌≡◌, ◌≢◌, ℕ, codes, Bool, true, false, nat_lt, not, List, [], ◌∷◌, Option, Some, None, if◌then◌else◌}
use Rattle.std.specs.List.{list_all}
use Rattle.std.specs.Option.{option_map, is_some}
use Rattle.dbp_plan.specs.declared.limits.TheConstants.{MAX_NODES}
use Rattle.dia_tokens.specs.declared.token.Token.{Token}
use Rattle.dia_tokens.specs.declared.token.Token.TheVariants as token
use Rattle.dia_tokens.specs.declared.token.Keyword.TheVariants as keyword
use Rattle.dia_tokens.specs.declared.token.Symbol.TheVariants as symbol
use Rattle.dia_tokens.specs.declared.line.LineFail.{LineFail}
use Rattle.dia_tokens.specs.declared.line.LineFail.TheVariants as line_fail
use Rattle.dia_tokens.specs.Spelling.{IsSpelling}
use Rattle.dia_tokens.specs.Line.{Spells as SpellsTokens, HasFault as HasTokenFault}
use Rattle.dia_exprs.specs.declared.counts.TheConstants.{MAX_DEPTH}
use Rattle.dia_exprs.specs.Counts.{node_count, depth_of}
use Rattle.dia_lines.specs.declared.place.Place.{Place}
use Rattle.dia_lines.specs.declared.place.Place.TheVariants.{Header, Trace, Script}
use Rattle.dia_lines.specs.declared.fault.ReadCode.{ReadCode}
use Rattle.dia_lines.specs.declared.fault.ReadCode.TheVariants.{BadByte, BadToken, BadLine, NumberTooWide, NameTooLong, LimitHit, MissingHeader, DepthHit}
use Rattle.dia_lines.specs.declared.fault.Limit.TheVariants.{Nodes, Number as NumberLimit}
use Rattle.dia_lines.specs.Statements.{Statement, nothing, header, script, done, IsStatement}
use Rattle.dia_lines.specs.Places.{leads, version_of, is_of_version}
use Rattle.dia_lines.specs.Limits.{numbers_fit, passed_count}
use Rattle.dia_lines.specs.Sections.{is_space, is_trace_byte, IsAlone, IsKeptRow}

-- what a line says: a statement, a row of the trace section, or a step of the script section as it is kept
pub data Content : Type 0 where
  says : Statement → Content
  row : List ℕ → Content
  step : List ℕ → Content

-- where a line leads: lines that were read lead somewhere
abbrev pub led_to : Place → Option Place → Place
led_to place None = place
led_to place (Some next) = next

-- where the lines lead, of which the latest is the first
abbrev pub place_after : List Content → Place
place_after [] = Header
place_after (says s ∷ before) = led_to (place_after before) (leads (place_after before) s)
place_after (_ ∷ before) = place_after before

-- the version that the lines name, of which the latest is the first: 1 before the header
abbrev pub version_after : List Content → ℕ
version_after [] = 1
version_after (says (header version) ∷ before) = version
version_after (_ ∷ before) = version_after before

-- the statements of the lines, the latest first
abbrev pub statements : List Content → List Statement
statements [] = []
statements (says s ∷ before) = s ∷ statements before
statements (_ ∷ before) = statements before

-- a section whose lines are kept
abbrev pub keeps_lines : Place → Bool
keeps_lines Trace = true
keeps_lines Script = true
keeps_lines _ = false

abbrev pub is_header : List Token → Bool
is_header (token.Keyword keyword.Dbp ∷ token.Number value ∷ []) = is_some (version_of value)
is_header _ = false

-- the first line with tokens, and no header
abbrev pub lacks_header : Place → List Token → Bool
lacks_header place [] = false
lacks_header Header (t ∷ ts) = not (is_header (t ∷ ts))
lacks_header _ _ = false

-- the tokens after the first `=`
abbrev pub after_assign : List Token → List Token
after_assign [] = []
after_assign (token.Symbol symbol.Assign ∷ ts) = ts
after_assign (_ ∷ ts) = after_assign ts

-- the tokens after the first `then`
abbrev pub after_then : List Token → List Token
after_then [] = []
after_then (token.Keyword keyword.Then ∷ ts) = ts
after_then (_ ∷ ts) = after_then ts

-- where an expression stands on a line that begins as one with an expression does
abbrev pub expression_of : List Token → List Token
expression_of (token.Keyword keyword.Let ∷ ts) = after_assign ts
expression_of (token.Keyword keyword.Next ∷ ts) = after_assign ts
expression_of (token.Keyword keyword.Out ∷ ts) = after_then ts
expression_of _ = []

-- the first fault of the tokens, except for their form
abbrev pub token_fault : Place → List Token → Option ReadCode
token_fault place ts =
    if lacks_header place ts then Some MissingHeader else
    if nat_lt MAX_NODES (node_count (expression_of ts)) then Some (LimitHit Nodes) else
    if nat_lt MAX_DEPTH (depth_of ts) then Some DepthHit else None

-- the code of a line that spells no tokens
abbrev pub code_of : LineFail → Option ReadCode
code_of line_fail.BadByte = Some BadByte
code_of line_fail.BadToken = Some BadToken
code_of line_fail.NumberTooWide = Some NumberTooWide
code_of line_fail.NameTooLong = Some NameTooLong
code_of line_fail.NoMemory = None

-- the first of its limits that a statement passes after those before it: those of its numbers, then the counts
abbrev pub limit_fault : List Statement → Statement → Option ReadCode
limit_fault before s = if numbers_fit s then option_map LimitHit (passed_count before s) else Some (LimitHit NumberLimit)

-- the tokens are a statement that may stand at the place, in a document of the version
pub record MayStand (version : ℕ) (place : Place) (ts : List Token) (s : Statement) : Type 0 where
  pub form : IsStatement ts s
  pub next : Place
  pub stands : leads place s ≡ Some next
  pub known : is_of_version version s ≡ true

-- after those before it, the line of the diagram is without fault and says the statement
pub record SaysStatement (before : List Content) (line : List ℕ) (s : Statement) : Type 0 where
  pub tokens : List Token
  pub spelled : SpellsTokens line tokens
  pub faultless : token_fault (place_after before) tokens ≡ None
  pub stands : MayStand (version_after before) (place_after before) tokens s
  pub within : limit_fault (statements before) s ≡ None

-- the line of the trace section is without fault, and says this
pub data SaysInTrace : List ℕ → Content → Type 0 where
  an_empty_row : (line : List ℕ) → list_all is_space line ≡ true → SaysInTrace line (says nothing)
  trace_ends : (line : List ℕ) → IsAlone (codes "done") line → SaysInTrace line (says done)
  script_begins : (line : List ℕ) → IsAlone (codes "script") line → SaysInTrace line (says script)
  a_row : (line : List ℕ) → list_all is_trace_byte line ≡ true → IsKeptRow line → SaysInTrace line (row line)

-- the line of the script section is without fault, and says this
pub data SaysInScript : List ℕ → Content → Type 0 where
  no_step : (line : List ℕ) → SpellsTokens line [] → SaysInScript line (says nothing)
  script_ends : (line : List ℕ) → SpellsTokens line (token.Keyword keyword.Done ∷ []) → SaysInScript line (says done)
  a_step : (line kept : List ℕ) (ts : List Token) → SpellsTokens line ts → ts ≢ [] → ts ≢ token.Keyword keyword.Done ∷ [] → IsSpelling line kept
      → SaysInScript line (step kept)

-- after those before it the line is without fault, and says this
pub data Reads (before : List Content) : List ℕ → Content → Type 0 where
  of_the_diagram : (line : List ℕ) (s : Statement) → keeps_lines (place_after before) ≡ false → SaysStatement before line s → Reads before line (says s)
  of_the_trace : (line : List ℕ) (said : Content) → place_after before ≡ Trace → SaysInTrace line said → Reads before line said
  of_the_script : (line : List ℕ) (said : Content) → place_after before ≡ Script → SaysInScript line said → Reads before line said

-- the first fault of a line that spells no tokens
abbrev pub HasTextFault : List ℕ → ReadCode → Type 0
HasTextFault line code = (fault : LineFail) × HasTokenFault line fault × (code_of fault ≡ Some code)

-- the first fault of a line of the diagram after those before it
pub data HasDiagramFault (before : List Content) (line : List ℕ) : ReadCode → Type 0 where
  of_the_text : (code : ReadCode) → HasTextFault line code → HasDiagramFault before line code
  of_the_tokens : (ts : List Token) (code : ReadCode) → SpellsTokens line ts → token_fault (place_after before) ts ≡ Some code → HasDiagramFault before line code
  no_statement : (ts : List Token) → SpellsTokens line ts → token_fault (place_after before) ts ≡ None
      → ((s : Statement) → MayStand (version_after before) (place_after before) ts s → ⊥) → HasDiagramFault before line BadLine
  past_a_limit : (ts : List Token) (s : Statement) (code : ReadCode) → SpellsTokens line ts → token_fault (place_after before) ts ≡ None
      → MayStand (version_after before) (place_after before) ts s → limit_fault (statements before) s ≡ Some code → HasDiagramFault before line code

-- the first fault of a line after those before it
pub data HasFault (before : List Content) (line : List ℕ) : ReadCode → Type 0 where
  in_the_diagram : (code : ReadCode) → keeps_lines (place_after before) ≡ false → HasDiagramFault before line code → HasFault before line code
  in_the_trace : place_after before ≡ Trace → list_all is_trace_byte line ≡ false → HasFault before line BadByte
  in_the_script : (code : ReadCode) → place_after before ≡ Script → HasTextFault line code → HasFault before line code
