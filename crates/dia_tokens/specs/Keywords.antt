-- The keywords.
use Rattle.std.specs.Prelude.{ℕ, Bool, true, false, List, [], ◌∷◌, get_or, ◌==◌, codes, Option, Some, None}
use Rattle.std.specs.List.{find, filter}
use Rattle.std.specs.Str.{bytes_eq}
use Rattle.dia_tokens.specs.declared.token.Keyword.{Keyword}
use Rattle.dia_tokens.specs.declared.token.Keyword.TheVariants as variant
use Rattle.dia_tokens.specs.Pieces.{Piece, name, keyword}

abbrev pub keyword_text : Keyword → List ℕ
keyword_text variant.Dbp = codes "dbp"
keyword_text variant.Policy = codes "policy"
keyword_text variant.Fp = codes "fp"
keyword_text variant.Edf = codes "edf"
keyword_text variant.Until = codes "until"
keyword_text variant.Input = codes "input"
keyword_text variant.Event = codes "event"
keyword_text variant.Task = codes "task"
keyword_text variant.Every = codes "every"
keyword_text variant.From = codes "from"
keyword_text variant.On = codes "on"
keyword_text variant.Prio = codes "prio"
keyword_text variant.Deadline = codes "deadline"
keyword_text variant.Cost = codes "cost"
keyword_text variant.State = codes "state"
keyword_text variant.Sense = codes "sense"
keyword_text variant.Let = codes "let"
keyword_text variant.Next = codes "next"
keyword_text variant.Read = codes "read"
keyword_text variant.Pre = codes "pre"
keyword_text variant.At = codes "at"
keyword_text variant.Out = codes "out"
keyword_text variant.Then = codes "then"
keyword_text variant.If = codes "if"
keyword_text variant.Else = codes "else"
keyword_text variant.And = codes "and"
keyword_text variant.Or = codes "or"
keyword_text variant.Not = codes "not"
keyword_text variant.Min = codes "min"
keyword_text variant.Max = codes "max"
keyword_text variant.Trace = codes "trace"
keyword_text variant.Script = codes "script"
keyword_text variant.Done = codes "done"
keyword_text variant.When = codes "when"
keyword_text variant.Cpu = codes "cpu"

abbrev pub all_keywords : List Keyword
all_keywords = variant.Dbp ∷ variant.Policy ∷ variant.Fp ∷ variant.Edf ∷ variant.Until ∷ variant.Input ∷ variant.Event ∷ variant.Task ∷ variant.Every ∷ variant.From ∷ variant.On ∷ variant.Prio ∷ variant.Deadline ∷ variant.Cost ∷ variant.State ∷ variant.Sense ∷ variant.Let ∷ variant.Next ∷ variant.Read ∷ variant.Pre ∷ variant.At ∷ variant.Out ∷ variant.Then ∷ variant.If ∷ variant.Else ∷ variant.And ∷ variant.Or ∷ variant.Not ∷ variant.Min ∷ variant.Max ∷ variant.Trace ∷ variant.Script ∷ variant.Done ∷ variant.When ∷ variant.Cpu ∷ []

-- the keywords that are operators written as calls
abbrev pub begins_call : Keyword → Bool
begins_call variant.Min = true
begins_call variant.Max = true
begins_call _ = false

-- the first of the keywords that the text is
abbrev pub keyword_among : List Keyword → List ℕ → Option Keyword
keyword_among keywords text = find (λ w. bytes_eq (keyword_text w) text) keywords

-- the keywords that begin with this byte
unfoldable pub keywords_from : ℕ → List Keyword
keywords_from first = filter (λ w. get_or (keyword_text w) 0 0 == first) all_keywords

-- the keyword, if there is one
abbrev pub or_else : Option Keyword → Piece → Piece
or_else (Some w) p = keyword w
or_else None p = p

-- a keyword, or else a name
unfoldable pub keyword_of : List ℕ → Piece
keyword_of text = or_else (keyword_among all_keywords text) (name text)
