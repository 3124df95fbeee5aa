-- The sizes of documents that arguments name.
use Rattle.std.proofs.Common.{◌≡◌, ℕ, ◌≤◌, true, false, List, [], ◌∷◌, Option, Some, None, map, sym, subst, arith}
use Rattle.std.specs.Prelude.{string_bytes}
use Rattle.std.specs.declared.alloc.Global.{Global}
use Rattle.std.specs.declared.string.String.{String}
use Rattle.std.specs.Option.{option_map}
use Rattle.std.proofs.lemmas.Option.{none-some, same_Some}
use Rattle.dbp_top.specs.Commands.{Names, by_row, first_operands, made}
use Rattle.dbp_top.specs.Patterns.{AllFit, Fits, ArgumentForm, name, number, size, argument}
use Rattle.dbp_answers.specs.declared.command.Command.{Command}
use Rattle.dbp_answers.specs.declared.command.Command.TheVariants.{Cpus, Form, Gen, Mean, Need, Plan, Rank, Replay, Rta, Run, Sim, Soak, Upgrade}
use Rattle.dbp_top.specs.declared.operands.Maker.{Maker}
use Rattle.dbp_top.specs.declared.operands.Maker.TheVariants as maker
use Rattle.dbp_top.specs.declared.operands.Operands.{Operands}

abbrev pub HasSize : Operands → Type 0
HasSize given = (1 ≤ given.size) × (given.size ≤ 32)

fits-size : (f : ArgumentForm) (w : List ℕ) (before after : Operands) → HasSize before → Fits f w before after → HasSize after
fits-size (argument text) w before after has fit = subst HasSize (sym fit.1) has
fits-size (number prefix) w before after has fit = subst HasSize (sym fit.3) has
fits-size size w before after has fit = subst HasSize (sym fit.1) (fit.0.least, fit.0.most)
fits-size name w before after has fit = subst HasSize (sym fit.1) has

all-fit-size : (fs : List ArgumentForm) (ws : List (List ℕ)) (before after : Operands) → HasSize before → AllFit fs ws before after → HasSize after
all-fit-size [] [] before after has fit = subst HasSize (sym fit) has
all-fit-size [] (w ∷ ws) before after has fit = absurd fit
all-fit-size (f ∷ fs) [] before after has fit = absurd fit
all-fit-size (f ∷ fs) (w ∷ ws) before after has fit = all-fit-size fs ws fit.0 after (fits-size f w before fit.0 has fit.1) fit.2

-- a command that makes a document makes one of a size from 1 to 32
abbrev pub IsSized : Command → Type 0
IsSized (Gen seed of_size) = (1 ≤ of_size) × (of_size ≤ 32)
IsSized (Soak seed of_size) = (1 ≤ of_size) × (of_size ≤ 32)
IsSized command = Unit {0}

need-sized : (name : Option (List ℕ)) (command : Command) → option_map (λ task. Need task) name ≡ Some command → IsSized command
need-sized None command none = absurd (none-some command none)
need-sized (Some task) command some = subst IsSized (same_Some (Need task) command some) tt

made-size : (by : Maker) (given : Operands) (command : Command) → HasSize given → made by given ≡ Some command → IsSized command
made-size maker.Mean given command has makes = subst IsSized (same_Some Mean command makes) tt
made-size maker.Sim given command has makes = subst IsSized (same_Some (Sim false) command makes) tt
made-size maker.SimRecord given command has makes = subst IsSized (same_Some (Sim true) command makes) tt
made-size maker.Cpus given command has makes = subst IsSized (same_Some (Cpus false) command makes) tt
made-size maker.CpusRecord given command has makes = subst IsSized (same_Some (Cpus true) command makes) tt
made-size maker.Run given command has makes = subst IsSized (same_Some (Run None) command makes) tt
made-size maker.RunTurns given command has makes = subst IsSized (same_Some (Run (Some given.number)) command makes) tt
made-size maker.Form given command has makes = subst IsSized (same_Some Form command makes) tt
made-size maker.Upgrade given command has makes = subst IsSized (same_Some Upgrade command makes) tt
made-size maker.Rank given command has makes = subst IsSized (same_Some Rank command makes) tt
made-size maker.Plan given command has makes = subst IsSized (same_Some Plan command makes) tt
made-size maker.Rta given command has makes = subst IsSized (same_Some Rta command makes) tt
made-size maker.Need given command has makes = need-sized given.name command makes
made-size maker.Replay given command has makes = subst IsSized (same_Some (Replay false) command makes) tt
made-size maker.ReplayRanked given command has makes = subst IsSized (same_Some (Replay true) command makes) tt
made-size maker.Gen given command has makes = subst IsSized (same_Some (Gen given.number given.size) command makes) has
made-size maker.Soak given command has makes = subst IsSized (same_Some (Soak given.number given.size) command makes) has

first-size : HasSize first_operands
first-size = (omega arith, omega arith)

pub named-size : (arguments : List (String Global)) (command : Command) → Names arguments command → IsSized command
named-size arguments command (by_row k row c at (given, fit, makes)) =
    made-size row.1 given c (all-fit-size row.0 (map (λ (w : String Global). string_bytes w) arguments) first_operands given first-size fit) makes
