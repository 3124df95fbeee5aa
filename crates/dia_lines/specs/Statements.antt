-- What a line of the diagram says, by its tokens.
use Rattle.std.specs.Prelude.{ℕ, ℤ, pos, List, [], ◌∷◌, ◌++◌, Option, Some, None}
use Rattle.dbp_plan.specs.Tree.{Tree}
use Rattle.dbp_plan.specs.declared.diagram.Policy.{Policy}
use Rattle.dia_tokens.specs.declared.token.Token.{Token}
use Rattle.dia_tokens.specs.declared.token.Token.TheVariants.{Name, Number, Symbol, Keyword}
use Rattle.dia_tokens.specs.declared.token.Symbol.TheVariants.{Assign, Point}
use Rattle.dia_tokens.specs.declared.token.Keyword as keywords
use Rattle.dia_tokens.specs.declared.token.Keyword.TheVariants.{Dbp, Policy as PolicyKeyword, Until, Input, Event, Task, Every, From, On, When, Prio, Deadline, Cost, Cpu, State, Sense, Let, Next, Read, At, Out, Then, Trace, Script, Done}
use Rattle.dia_exprs.specs.declared.level.Level.TheVariants.{Whole}
use Rattle.dia_exprs.specs.Grammar.{Spells}
use Rattle.dia_lines.specs.Delays.{SpellsDelay}
use Rattle.dia_lines.specs.PolicyKeywords.{keyword_of}

-- when a task occurs: from an offset on with a period, or with an event
pub data Clock : Type 0 where
  every : ℤ → ℤ → Clock
  on : List ℕ → Clock

-- what a line says that begins a task
pub record TaskHeader : Type 0 where
  pub name : List ℕ
  pub clock : Clock
  -- the input that must not be 0
  pub when : Option (List ℕ)
  pub prio : Option ℤ
  pub deadline : Option ℤ
  pub cost : ℤ
  -- the processor
  pub cpu : Option ℤ

-- what a line says
pub data Statement : Type 0 where
  nothing : Statement
  -- the version of the language
  header : ℕ → Statement
  policy : Policy → Statement
  until : ℤ → Statement
  input : List ℕ → ℤ → Statement
  event : List ℕ → Statement
  task : TaskHeader → Statement
  state : List ℕ → ℤ → Statement
  sense : List ℕ → List ℕ → Statement
  -- its name, delay, writer, port and time
  read : List ℕ → Option ℤ → List ℕ → List ℕ → ℤ → Statement
  a_let : List ℕ → Tree (List ℕ) → Statement
  a_next : List ℕ → Tree (List ℕ) → Statement
  out : List ℕ → ℤ → Tree (List ℕ) → Statement
  trace : Statement
  script : Statement
  done : Statement

-- `every N`, with `from N` or from 0, or `on NAME`
pub data SpellsClock : List Token → Clock → Type 0 where
  from_zero : (period : ℤ) → SpellsClock (Keyword Every ∷ Number period ∷ []) (every period (pos 0))
  from_offset : (period offset : ℤ) → SpellsClock (Keyword Every ∷ Number period ∷ Keyword From ∷ Number offset ∷ []) (every period offset)
  with_event : (name : List ℕ) → SpellsClock (Keyword On ∷ Name name ∷ []) (on name)

-- `when NAME`, or nothing
pub data SpellsWhen : List Token → Option (List ℕ) → Type 0 where
  always : SpellsWhen [] None
  guarded : (name : List ℕ) → SpellsWhen (Keyword When ∷ Name name ∷ []) (Some name)

-- the keyword and a number, or nothing
pub data SpellsOption (w : keywords.Keyword) : List Token → Option ℤ → Type 0 where
  left_out : SpellsOption w [] None
  given : (value : ℤ) → SpellsOption w (Keyword w ∷ Number value ∷ []) (Some value)

-- `at N`, or nothing for 0
pub data SpellsAt : List Token → ℤ → Type 0 where
  at_once : SpellsAt [] (pos 0)
  at_tick : (value : ℤ) → SpellsAt (Keyword At ∷ Number value ∷ []) value

-- the tokens of a line are the statement, in whatever version it may stand
pub data IsStatement : List Token → Statement → Type 0 where
  a_blank_line : IsStatement [] nothing
  in_version_1 : IsStatement (Keyword Dbp ∷ Number (pos 1) ∷ []) (header 1)
  in_version_2 : IsStatement (Keyword Dbp ∷ Number (pos 2) ∷ []) (header 2)
  a_policy : (p : Policy) → IsStatement (Keyword PolicyKeyword ∷ Keyword (keyword_of p) ∷ []) (policy p)
  an_until : (end : ℤ) → IsStatement (Keyword Until ∷ Number end ∷ []) (until end)
  an_input : (name : List ℕ) (first : ℤ) → IsStatement (Keyword Input ∷ Name name ∷ Symbol Assign ∷ Number first ∷ []) (input name first)
  an_event : (name : List ℕ) → IsStatement (Keyword Event ∷ Name name ∷ []) (event name)
  a_task : (h : TaskHeader) (cs ws ps ds us : List Token)
      → SpellsClock cs h.clock → SpellsWhen ws h.when → SpellsOption Prio ps h.prio → SpellsOption Deadline ds h.deadline → SpellsOption Cpu us h.cpu
      → IsStatement (Keyword Task ∷ Name h.name ∷ (cs ++ ws ++ ps ++ ds ++ Keyword Cost ∷ Number h.cost ∷ us)) (task h)
  a_state : (name : List ℕ) (first : ℤ) → IsStatement (Keyword State ∷ Name name ∷ Symbol Assign ∷ Number first ∷ []) (state name first)
  a_sense : (name from : List ℕ) → IsStatement (Keyword Sense ∷ Name name ∷ Symbol Assign ∷ Name from ∷ []) (sense name from)
  a_read : (name writer port : List ℕ) (pre ats : List Token) (delay : Option ℤ) (at : ℤ) → SpellsDelay pre delay → SpellsAt ats at
      → IsStatement (Keyword Read ∷ Name name ∷ Symbol Assign ∷ (pre ++ Name writer ∷ Symbol Point ∷ Name port ∷ ats)) (read name delay writer port at)
  a_let_line : (name : List ℕ) (ts : List Token) (x : Tree (List ℕ)) → Spells Whole ts x
      → IsStatement (Keyword Let ∷ Name name ∷ Symbol Assign ∷ ts) (a_let name x)
  a_next_line : (name : List ℕ) (ts : List Token) (x : Tree (List ℕ)) → Spells Whole ts x
      → IsStatement (Keyword Next ∷ Name name ∷ Symbol Assign ∷ ts) (a_next name x)
  an_out : (name : List ℕ) (first : ℤ) (ts : List Token) (x : Tree (List ℕ)) → Spells Whole ts x
      → IsStatement (Keyword Out ∷ Name name ∷ Symbol Assign ∷ Number first ∷ Keyword Then ∷ ts) (out name first x)
  a_trace : IsStatement (Keyword Trace ∷ []) trace
  a_script : IsStatement (Keyword Script ∷ []) script
  an_end : IsStatement (Keyword Done ∷ []) done
