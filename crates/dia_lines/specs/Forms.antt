-- The form of a line's tokens, before an expression is read.
use Rattle.std.specs.Prelude.{◌≡◌, ℕ, ℤ, pos, List, [], ◌∷◌, Option, Some, None}
use Rattle.std.specs.Option.{option_and_then, option_map}
use Rattle.dbp_plan.specs.Tree.{Tree, number}
use Rattle.dia_tokens.specs.declared.token.Token.{Token}
use Rattle.dia_tokens.specs.declared.token.Token.TheVariants.{Name, Number, Symbol, Keyword}
use Rattle.dia_tokens.specs.declared.token.Symbol.TheVariants.{Assign, Point}
use Rattle.dia_tokens.specs.declared.token.Keyword as keywords
use Rattle.dia_tokens.specs.declared.token.Keyword.TheVariants as keyword
use Rattle.dia_exprs.specs.declared.level.Level.TheVariants.{Whole}
use Rattle.dia_exprs.specs.Grammar.{Spells}
use Rattle.dia_lines.specs.Delays.{delay_at}
use Rattle.dia_lines.specs.Places.{version_of}
use Rattle.dia_lines.specs.PolicyKeywords.{policy_of}
use Rattle.dia_lines.specs.Statements.{Statement, Clock, every, on, nothing, header, policy, until, input, event, task, state, sense, read, a_let, a_next, out, trace, script, done}

-- a statement, except for the tokens of its expression
pub data Shape : Type 0 where
  plain : Statement → Shape
  of_let : List ℕ → List Token → Shape
  of_next : List ℕ → List Token → Shape
  of_out : List ℕ → ℤ → List Token → Shape

-- the form, with an expression that its tokens spell, is the statement
abbrev pub Completes : Statement → Shape → Type 0
Completes s (plain u) = s ≡ u
Completes s (of_let name ts) = (x : Tree (List ℕ)) × (s ≡ a_let name x) × Spells Whole ts x
Completes s (of_next name ts) = (x : Tree (List ℕ)) × (s ≡ a_next name x) × Spells Whole ts x
Completes s (of_out name first ts) = (x : Tree (List ℕ)) × (s ≡ out name first x) × Spells Whole ts x

-- the tokens of the form's expression
abbrev pub tokens_of : Shape → List Token
tokens_of (plain s) = []
tokens_of (of_let name ts) = ts
tokens_of (of_next name ts) = ts
tokens_of (of_out name first ts) = ts

-- a statement of the form: where it may stand doesn't depend on its expression
abbrev pub example_of : Shape → Statement
example_of (plain s) = s
example_of (of_let name ts) = a_let name (number (pos 0))
example_of (of_next name ts) = a_next name (number (pos 0))
example_of (of_out name first ts) = out name first (number (pos 0))

-- ---- what stands at the front, and the tokens after it

-- `NAME =`
abbrev pub assigned_at : List Token → Option (List ℕ × List Token)
assigned_at (Name name ∷ Symbol Assign ∷ ts) = Some (name, ts)
assigned_at _ = None

-- `N then`
abbrev pub first_at : List Token → Option (ℤ × List Token)
first_at (Number first ∷ Keyword keyword.Then ∷ ts) = Some (first, ts)
first_at _ = None

-- `from N`, or nothing for 0
abbrev pub offset_at : List Token → ℤ × List Token
offset_at (Keyword keyword.From ∷ Number offset ∷ ts) = (offset, ts)
offset_at ts = (pos 0, ts)

-- `every N`, or `on NAME`
abbrev pub clock_at : List Token → Option (Clock × List Token)
clock_at (Keyword keyword.Every ∷ Number period ∷ ts) = Some (every period (offset_at ts).0, (offset_at ts).1)
clock_at (Keyword keyword.On ∷ Name name ∷ ts) = Some (on name, ts)
clock_at _ = None

-- `when NAME`, or nothing
abbrev pub when_at : List Token → Option (List ℕ) × List Token
when_at (Keyword keyword.When ∷ Name name ∷ ts) = (Some name, ts)
when_at ts = (None, ts)

-- `prio N`, or nothing
abbrev pub prio_at : List Token → Option ℤ × List Token
prio_at (Keyword keyword.Prio ∷ Number value ∷ ts) = (Some value, ts)
prio_at ts = (None, ts)

-- `deadline N`, or nothing
abbrev pub deadline_at : List Token → Option ℤ × List Token
deadline_at (Keyword keyword.Deadline ∷ Number value ∷ ts) = (Some value, ts)
deadline_at ts = (None, ts)

-- `TASK.PORT`
abbrev pub port_at : List Token → Option (List ℕ × List ℕ × List Token)
port_at (Name writer ∷ Symbol Point ∷ Name port ∷ ts) = Some (writer, port, ts)
port_at _ = None

-- ---- all that is left

abbrev pub name_alone : List Token → Option (List ℕ)
name_alone (Name name ∷ []) = Some name
name_alone _ = None

abbrev pub number_alone : List Token → Option ℤ
number_alone (Number value ∷ []) = Some value
number_alone _ = None

-- `cost N`, and `cpu N` or nothing
abbrev pub cost_end : List Token → Option (ℤ × Option ℤ)
cost_end (Keyword keyword.Cost ∷ Number cost ∷ []) = Some (cost, None)
cost_end (Keyword keyword.Cost ∷ Number cost ∷ Keyword keyword.Cpu ∷ Number cpu ∷ []) = Some (cost, Some cpu)
cost_end _ = None

-- `at N`, or nothing for 0
abbrev pub tick_alone : List Token → Option ℤ
tick_alone [] = Some (pos 0)
tick_alone (Keyword keyword.At ∷ Number value ∷ []) = Some value
tick_alone _ = None

-- ---- after the first keyword of a line

unfoldable pub header_at : List Token → Option Shape
header_at ts = option_map (λ version. plain (header version)) (option_and_then version_of (number_alone ts))

abbrev pub policy_at : List Token → Option Shape
policy_at (Keyword w ∷ []) = option_map (λ p. plain (policy p)) (policy_of w)
policy_at _ = None

unfoldable pub until_at : List Token → Option Shape
until_at ts = option_map (λ end. plain (until end)) (number_alone ts)

unfoldable pub input_at : List Token → Option Shape
input_at ts = option_and_then (λ p. option_map (λ first. plain (input p.0 first)) (number_alone p.1)) (assigned_at ts)

unfoldable pub event_at : List Token → Option Shape
event_at ts = option_map (λ name. plain (event name)) (name_alone ts)

-- after a task's name and its clock
unfoldable pub options_at : List ℕ → Clock → List Token → Option Shape
options_at name clock ts =
    let w = when_at ts in
    let p = prio_at w.1 in
    let d = deadline_at p.1 in
    option_map (λ end. plain (task (record { name = name; clock = clock; when = w.0; prio = p.0; deadline = d.0; cost = end.0; cpu = end.1 }))) (cost_end d.1)

unfoldable pub task_at : List Token → Option Shape
task_at (Name name ∷ ts) = option_and_then (λ c. options_at name c.0 c.1) (clock_at ts)
task_at _ = None

unfoldable pub state_at : List Token → Option Shape
state_at ts = option_and_then (λ p. option_map (λ first. plain (state p.0 first)) (number_alone p.1)) (assigned_at ts)

unfoldable pub sense_at : List Token → Option Shape
sense_at ts = option_and_then (λ p. option_map (λ from. plain (sense p.0 from)) (name_alone p.1)) (assigned_at ts)

-- after a read value's name and its delay
unfoldable pub port_read_at : List ℕ → Option ℤ → List Token → Option Shape
port_read_at name delay ts = option_and_then (λ w. option_map (λ at. plain (read name delay w.0 w.1 at)) (tick_alone w.2)) (port_at ts)

unfoldable pub read_at : List Token → Option Shape
read_at ts = option_and_then (λ p. port_read_at p.0 (delay_at p.1).0 (delay_at p.1).1) (assigned_at ts)

unfoldable pub let_at : List Token → Option Shape
let_at ts = option_map (λ p. of_let p.0 p.1) (assigned_at ts)

unfoldable pub next_at : List Token → Option Shape
next_at ts = option_map (λ p. of_next p.0 p.1) (assigned_at ts)

unfoldable pub out_at : List Token → Option Shape
out_at ts = option_and_then (λ p. option_map (λ f. of_out p.0 f.0 f.1) (first_at p.1)) (assigned_at ts)

-- the keyword is a line of its own
abbrev pub keyword_alone : keywords.Keyword → Option Shape
keyword_alone keyword.Trace = Some (plain trace)
keyword_alone keyword.Script = Some (plain script)
keyword_alone keyword.Done = Some (plain done)
keyword_alone _ = None

abbrev pub ending_at : keywords.Keyword → List Token → Option Shape
ending_at w [] = keyword_alone w
ending_at w (t ∷ ts) = None

-- after the keyword that a line before the tasks begins with
unfoldable pub declared_at : keywords.Keyword → List Token → Option Shape
declared_at keyword.Dbp ts = header_at ts
declared_at keyword.Policy ts = policy_at ts
declared_at keyword.Until ts = until_at ts
declared_at keyword.Input ts = input_at ts
declared_at keyword.Event ts = event_at ts
declared_at _ ts = None

-- after the first keyword of a line
unfoldable pub line_at : keywords.Keyword → List Token → Option Shape
line_at keyword.Task ts = task_at ts
line_at keyword.State ts = state_at ts
line_at keyword.Sense ts = sense_at ts
line_at keyword.Read ts = read_at ts
line_at keyword.Let ts = let_at ts
line_at keyword.Next ts = next_at ts
line_at keyword.Out ts = out_at ts
line_at keyword.Trace ts = ending_at keyword.Trace ts
line_at keyword.Script ts = ending_at keyword.Script ts
line_at keyword.Done ts = ending_at keyword.Done ts
line_at w ts = declared_at w ts

-- the form of a line
unfoldable pub shape_at : List Token → Option Shape
shape_at [] = Some (plain nothing)
shape_at (Keyword w ∷ ts) = line_at w ts
shape_at _ = None
