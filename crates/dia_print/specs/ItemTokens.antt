-- The tokens of the lines of a document in canonical form.
use Rattle.std.specs.Prelude.{ℕ, pos, ◌==◌, List, [], ◌∷◌, ◌++◌, Option, Some, None, if◌then◌else◌}
use Rattle.dbp_plan.specs.declared.diagram.Policy.{Policy}
use Rattle.dbp_plan.specs.Expr.{tree_of}
use Rattle.dia_tokens.specs.declared.token.Token.{Token}
use Rattle.dia_tokens.specs.declared.token.Token.TheVariants.{Keyword, Name, Number, Symbol}
use Rattle.dia_tokens.specs.declared.token.Keyword as keywords
use Rattle.dia_tokens.specs.declared.token.Keyword.TheVariants as keyword
use Rattle.dia_tokens.specs.declared.token.Symbol.TheVariants.{Assign, Point}
use Rattle.dia_lines.specs.Delays.{delay_tokens}
use Rattle.dia_lines.specs.PolicyKeywords.{keyword_of}
use Rattle.dia_lines.specs.declared.item.Decl.{Decl}
use Rattle.dia_lines.specs.declared.item.Decl.TheVariants.{Input, Event}
use Rattle.dia_lines.specs.declared.item.Part.{Part}
use Rattle.dia_lines.specs.declared.item.Part.TheVariants as part
use Rattle.dia_lines.specs.declared.item.RawClock.{RawClock}
use Rattle.dia_lines.specs.declared.item.RawClock.TheVariants.{Every, On}
use Rattle.dia_lines.specs.declared.item.TaskLine.{TaskLine}
use Rattle.dia_print.specs.ExpressionTokens.{tokens_of}

abbrev pub header_tokens : ℕ → List Token
header_tokens version = Keyword keyword.Dbp ∷ Number (pos version) ∷ []

abbrev pub policy_tokens : Policy → List Token
policy_tokens p = Keyword keyword.Policy ∷ Keyword (keyword_of p) ∷ []

abbrev pub until_tokens : ℕ → List Token
until_tokens end = Keyword keyword.Until ∷ Number (pos end) ∷ []

-- the keyword that begins a line, the name that it declares and `=`
abbrev pub assigned : keywords.Keyword → List ℕ → List Token
assigned w n = Keyword w ∷ Name n ∷ Symbol Assign ∷ []

abbrev pub decl_tokens : Decl → List Token
decl_tokens (Input n first) = assigned keyword.Input n ++ Number first ∷ []
decl_tokens (Event n) = Keyword keyword.Event ∷ Name n ∷ []

-- the offset is always there
abbrev pub clock_tokens : RawClock → List Token
clock_tokens (Every period offset) = Keyword keyword.Every ∷ Number (pos period) ∷ Keyword keyword.From ∷ Number (pos offset) ∷ []
clock_tokens (On n) = Keyword keyword.On ∷ Name n ∷ []

-- the keyword and its number, if it is there
abbrev pub option_tokens : keywords.Keyword → Option ℕ → List Token
option_tokens w None = []
option_tokens w (Some n) = Keyword w ∷ Number (pos n) ∷ []

-- the input that must not be 0, if there is one
abbrev pub when_tokens : Option (List ℕ) → List Token
when_tokens None = []
when_tokens (Some n) = Keyword keyword.When ∷ Name n ∷ []

-- the processor, if task lines of the version name it: in version 2 it is always there
abbrev pub named_cpu : ℕ → ℕ → Option ℕ
named_cpu version cpu = if version == 2 then Some cpu else None

-- the line that begins a task, in a document of the version
abbrev pub task_tokens : ℕ → TaskLine → List Token
task_tokens version t =
    Keyword keyword.Task ∷ Name t.name ∷ (clock_tokens t.clock ++ when_tokens t.when ++ option_tokens keyword.Prio t.prio ++ option_tokens keyword.Deadline t.deadline
    ++ Keyword keyword.Cost ∷ Number (pos t.cost) ∷ option_tokens keyword.Cpu (named_cpu version t.cpu))

abbrev pub source_tokens : ℕ → List ℕ → List ℕ → List Token
source_tokens delay writer port = delay_tokens delay ++ Name writer ∷ Symbol Point ∷ Name port ∷ []

-- the time of a read is always there
abbrev pub part_tokens : Part → List Token
part_tokens (part.State n first) = assigned keyword.State n ++ Number first ∷ []
part_tokens (part.Sense n from) = assigned keyword.Sense n ++ Name from ∷ []
part_tokens (part.Read n delay writer port at) = assigned keyword.Read n ++ (source_tokens delay writer port ++ Keyword keyword.At ∷ Number (pos at) ∷ [])
part_tokens (part.Let n e) = assigned keyword.Let n ++ tokens_of (tree_of e)
part_tokens (part.Next n e) = assigned keyword.Next n ++ tokens_of (tree_of e)
part_tokens (part.Out n first e) = assigned keyword.Out n ++ Number first ∷ Keyword keyword.Then ∷ tokens_of (tree_of e)
