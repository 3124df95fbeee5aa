-- The commands, and the arguments that name them.
use Rattle.std.specs.Prelude.{◌≡◌, ℕ, Bool, true, false, Option, Some, None, List, [], ◌∷◌, map, codes, slice_get, string_bytes}
use Rattle.std.specs.List.{flat_map}
use Rattle.std.specs.Option.{option_map}
use Rattle.std.specs.declared.alloc.Global.{Global}
use Rattle.std.specs.declared.string.String.{String}
use Rattle.dbp_answers.specs.declared.command.Command.{Command}
use Rattle.dbp_answers.specs.declared.command.Command.TheVariants.{Cpus, Gen, Mean, Form, Need, Plan, Rank, Replay, Rta, Run, Sim, Soak, Upgrade}
use Rattle.dbp_top.specs.declared.operands.Maker.{Maker}
use Rattle.dbp_top.specs.declared.operands.Maker.TheVariants as maker
use Rattle.dbp_top.specs.declared.operands.Operands.{Operands}
use Rattle.dbp_top.specs.declared.table.Row.{Row}
use Rattle.dbp_top.specs.Patterns.{AllFit, ArgumentForm, form_of, listed_forms, name, number, size, argument}

-- the forms of a command's arguments, and what makes the command of the operands among them
abbrev pub CommandRow : Type 0
CommandRow = List ArgumentForm × Maker

-- all commands, in the order in which they are listed
abbrev pub command_table : List CommandRow
command_table =
    (argument (codes "mean") ∷ [], maker.Mean)
    ∷ (argument (codes "sim") ∷ [], maker.Sim)
    ∷ (argument (codes "sim") ∷ argument (codes "--record") ∷ [], maker.SimRecord)
    ∷ (argument (codes "cpus") ∷ [], maker.Cpus)
    ∷ (argument (codes "cpus") ∷ argument (codes "--record") ∷ [], maker.CpusRecord)
    ∷ (argument (codes "run") ∷ [], maker.Run)
    ∷ (argument (codes "run") ∷ argument (codes "--turns") ∷ number [] ∷ [], maker.RunTurns)
    ∷ (argument (codes "run") ∷ number (codes "--turns=") ∷ [], maker.RunTurns)
    ∷ (argument (codes "form") ∷ [], maker.Form)
    ∷ (argument (codes "upgrade") ∷ [], maker.Upgrade)
    ∷ (argument (codes "rank") ∷ [], maker.Rank)
    ∷ (argument (codes "plan") ∷ [], maker.Plan)
    ∷ (argument (codes "rta") ∷ [], maker.Rta)
    ∷ (argument (codes "need") ∷ name ∷ [], maker.Need)
    ∷ (argument (codes "replay") ∷ [], maker.Replay)
    ∷ (argument (codes "replay") ∷ argument (codes "--ranked") ∷ [], maker.ReplayRanked)
    ∷ (argument (codes "gen") ∷ number [] ∷ [], maker.Gen)
    ∷ (argument (codes "gen") ∷ number [] ∷ size ∷ [], maker.Gen)
    ∷ (argument (codes "soak") ∷ number [] ∷ [], maker.Soak)
    ∷ (argument (codes "soak") ∷ number [] ∷ size ∷ [], maker.Soak)
    ∷ []

-- the command that is made of the operands: none if it wants a name that isn't given
abbrev pub made : Maker → Operands → Option Command
made maker.Mean given = Some Mean
made maker.Sim given = Some (Sim false)
made maker.SimRecord given = Some (Sim true)
made maker.Cpus given = Some (Cpus false)
made maker.CpusRecord given = Some (Cpus true)
made maker.Run given = Some (Run None)
made maker.RunTurns given = Some (Run (Some given.number))
made maker.Form given = Some Form
made maker.Upgrade given = Some Upgrade
made maker.Rank given = Some Rank
made maker.Plan given = Some Plan
made maker.Rta given = Some Rta
made maker.Need given = option_map (λ task. Need task) given.name
made maker.Replay given = Some (Replay false)
made maker.ReplayRanked given = Some (Replay true)
made maker.Gen given = Some (Gen given.number given.size)
made maker.Soak given = Some (Soak given.number given.size)

-- what is given before the first argument: a size that isn't said is 8
abbrev pub first_operands : Operands
first_operands = record { number = 0; size = 8; name = None }

-- the row of this table that a row of the code is
abbrev pub row_of : Row → CommandRow
row_of row = (map form_of row.patterns.now, row.maker)

-- the rows of the code are this table
abbrev pub HasAllCommands : List Row → Type 0
HasAllCommands rows = map row_of rows ≡ command_table

-- the arguments name the command by the row: each is of its form, and it is made of their operands
abbrev pub NamesBy : CommandRow → List (String Global) → Command → Type 0
NamesBy row arguments command = (given : Operands) × AllFit row.0 (map (λ w. string_bytes w) arguments) first_operands given × (made row.1 given ≡ Some command)

-- they name it by a row of the table
pub data Names (arguments : List (String Global)) : Command → Type 0 where
  by_row : (k : ℕ) (row : CommandRow) (command : Command) → slice_get command_table k ≡ Some row → NamesBy row arguments command → Names arguments command

-- ---- who serves a command

-- who runs the tasks: nobody, the crew at hand, or the crew of drawn turns, which draws from this number
pub data Runner : Type 0 where
  nobody : Runner
  the_crew : Runner
  drawn_turns : ℕ → Runner

abbrev pub runner_of : Command → Runner
runner_of (Run None) = the_crew
runner_of (Run (Some seed)) = drawn_turns seed
runner_of (Soak seed size_of) = the_crew
runner_of _ = nobody

-- whether a call that has these crews serves it: the whole program serves each command
abbrev pub serves_all : Command → Bool
serves_all _ = true

-- the arguments name no command that the call serves
abbrev pub NamesNone : (Command → Bool) → List (String Global) → Type 0
NamesNone serves arguments = (command : Command) → Names arguments command → serves command ≡ true → ⊥

-- the arguments name a command that the call serves, and of which this holds
abbrev pub NamesSome : (Command → Bool) → List (String Global) → (Command → Type 0) → Type 0
NamesSome serves arguments P = (command : Command) × Names arguments command × (serves command ≡ true) × P command

-- the lines that list all commands
abbrev pub command_list : List ℕ
command_list = flat_map (λ row. listed_forms row.0) command_table
