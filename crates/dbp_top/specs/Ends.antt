-- How a call of the program ends.
use Rattle.std.specs.Prelude.{◌≡◌, ◌⊎◌, ℕ, ◌+◌, ◌≤◌, Bool, true, false, Option, IfSome, List, [], length}
use Rattle.std.specs.Io.KnownBytes.{Appends, IsAtEnd}
use Rattle.std.specs.declared.alloc.Global.{Global}
use Rattle.std.specs.declared.string.String.{String}
use Rattle.dbp_plan.specs.Calls.{one_more}
use Rattle.dbp_plan.specs.Faults.{Rose}
use Rattle.dbp_answers.specs.Answer.{Answers}
use Rattle.dbp_answers.specs.Commands.{reads_input}
use Rattle.dbp_top.specs.Commands.{Names, NamesNone, NamesSome}
use Rattle.dbp_top.specs.Outside.{LosesFront, AppendsFront}
use Rattle.dbp_answers.specs.declared.command.Command.{Command}
use Rattle.dbp_answers.specs.declared.status.Status.{Status}
use Rattle.dbp_answers.specs.declared.status.Status.TheVariants.{Ok, Overrun, Refused, Usage, ReadFault, WriteFault, NoMemory, TooLarge}
use Rattle.dbp_top.specs.declared.top.TheConstants.{MAX_DOCUMENT}

-- the statuses with which a command's answer is written
pub data PrintsAnswer : Status → Type 0 where
  text : PrintsAnswer Ok
  refusal : PrintsAnswer Refused
  overrun : PrintsAnswer Overrun

-- of a command that reads the one, of another the other
abbrev pub WhereRead : Bool → Type 0 → Type 0 → Type 0
WhereRead true read unread = read
WhereRead false read unread = unread

module _ {S K : Type 0} (left : S → Option (List ℕ)) (source_faults source_ends : S → ℕ) (written : K → Option (List ℕ)) (sink_faults : K → ℕ) where
  -- the source was read to its end, which is within the limit, once, and no read failed
  pub record ReadWhole (source new_source : S) : Type 0 where
    pub end : IsAtEnd (left new_source)
    pub taken : LosesFront (left source) (left new_source) (λ n. n ≤ MAX_DOCUMENT)
    pub fits : IfSome (left source) (λ input. length input ≤ MAX_DOCUMENT)
    pub no_fault : source_faults new_source ≡ source_faults source
    pub one_end : source_ends new_source ≡ one_more (source_ends source)

  -- the source was read to its end by a command that reads, and is as before after another
  abbrev pub Reads : S → S → Command → Type 0
  Reads source new_source command = WhereRead (reads_input command) (ReadWhole source new_source) (new_source ≡ source)

  -- this holds of the input, if it is known; a command that doesn't read has an empty one
  abbrev pub OfInput : S → Command → (List ℕ → Type 0) → Type 0
  OfInput source command P = WhereRead (reads_input command) (IfSome (left source) P) (P [])

  -- the source was read to its end, the sink gained the whole text of this command and status, and nothing failed
  pub record WroteWhole (source new_source : S) (sink new_sink : K) (command : Command) (status : Status) : Type 0 where
    pub read : Reads source new_source command
    pub wrote : OfInput source command (λ input. (text : List ℕ) × Answers input command status text × Appends (written sink) (written new_sink) text)
    pub no_fault : sink_faults new_sink ≡ sink_faults sink

  -- the source was read to its end, the sink failed, and it gained a prefix of a text of this command that isn't all of it
  pub record WrotePart (source new_source : S) (sink new_sink : K) (command : Command) : Type 0 where
    pub read : Reads source new_source command
    pub wrote : OfInput source command (λ input. (status : Status) × (text : List ℕ) × Answers input command status text × AppendsFront (written sink) (written new_sink) text)
    pub risen : sink_faults sink ≤ sink_faults new_sink
    pub fault : Rose (sink_faults sink) (sink_faults new_sink)

  -- the source failed before its end, after at most as many bytes as the limit, and nothing was written
  pub record ReadFailed (source new_source : S) (sink new_sink : K) : Type 0 where
    pub taken : LosesFront (left source) (left new_source) (λ n. n ≤ MAX_DOCUMENT)
    pub risen : source_faults source ≤ source_faults new_source
    pub fault : Rose (source_faults source) (source_faults new_source)
    pub no_end : source_ends new_source ≡ source_ends source
    pub silent : new_sink ≡ sink

  -- one byte more than the limit was taken before the end, no read failed, and nothing was written
  pub record ReadTooMuch (source new_source : S) (sink new_sink : K) : Type 0 where
    pub taken : LosesFront (left source) (left new_source) (λ n. n ≡ MAX_DOCUMENT + 1)
    pub no_fault : source_faults new_source ≡ source_faults source
    pub no_end : source_ends new_source ≡ source_ends source
    pub silent : new_sink ≡ sink

  -- memory ran out, at most as many bytes as the limit were taken, the end at most once, no read failed, and nothing was written
  pub record RanOut (source new_source : S) (sink new_sink : K) (command : Command) : Type 0 where
    pub taken : WhereRead (reads_input command) (LosesFront (left source) (left new_source) (λ n. n ≤ MAX_DOCUMENT)) (new_source ≡ source)
    pub no_fault : source_faults new_source ≡ source_faults source
    pub ends : (source_ends new_source ≡ source_ends source) ⊎ (source_ends new_source ≡ one_more (source_ends source))
    pub silent : new_sink ≡ sink

  -- what each status says of a call with this command
  abbrev pub EndsAs : Command → S → S → K → K → Status → Type 0
  EndsAs command source new_source sink new_sink Ok = WroteWhole source new_source sink new_sink command Ok
  EndsAs command source new_source sink new_sink Refused = WroteWhole source new_source sink new_sink command Refused
  EndsAs command source new_source sink new_sink Overrun = WroteWhole source new_source sink new_sink command Overrun
  EndsAs command source new_source sink new_sink Usage = ⊥
  EndsAs command source new_source sink new_sink ReadFault = (reads_input command ≡ true) × ReadFailed source new_source sink new_sink
  EndsAs command source new_source sink new_sink WriteFault = WrotePart source new_source sink new_sink command
  EndsAs command source new_source sink new_sink NoMemory = RanOut source new_source sink new_sink command
  EndsAs command source new_source sink new_sink TooLarge = (reads_input command ≡ true) × ReadTooMuch source new_source sink new_sink

  -- What each status says of the arguments, the source and the sink, of a call that serves these commands: its arguments name one
  -- of them, and the call ended as this command's; or they name none, and nothing was read or written.
  abbrev pub Ends : (Command → Bool) → List (String Global) → S → S → K → K → Status → Type 0
  Ends serves arguments source new_source sink new_sink Usage = NamesNone serves arguments × (new_source ≡ source) × (new_sink ≡ sink)
  Ends serves arguments source new_source sink new_sink status = NamesSome serves arguments (λ command. EndsAs command source new_source sink new_sink status)

  -- How a call ends in which nothing failed: the arguments name no command that it serves, and nothing was read or written; or
  -- the input is too large, or memory ran out, and nothing was written; or the input was read to its end, and the
  -- command's answer to it was written whole.
  pub data Answered (serves : Command → Bool) (arguments : List (String Global)) (source new_source : S) (sink new_sink : K) : Status → Type 0 where
    no_command : NamesNone serves arguments → new_source ≡ source → new_sink ≡ sink → Answered serves arguments source new_source sink new_sink Usage
    too_large : (command : Command) → Names arguments command → serves command ≡ true → reads_input command ≡ true → ReadTooMuch source new_source sink new_sink
        → Answered serves arguments source new_source sink new_sink TooLarge
    no_memory : (command : Command) → Names arguments command → serves command ≡ true → RanOut source new_source sink new_sink command
        → Answered serves arguments source new_source sink new_sink NoMemory
    whole : (command : Command) (status : Status) → PrintsAnswer status → Names arguments command → serves command ≡ true → WroteWhole source new_source sink new_sink command status
        → Answered serves arguments source new_source sink new_sink status
