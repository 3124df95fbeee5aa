use Rattle.std.proofs.Common.{◌≡◌, All, take}
use Rattle.dbp_replay.specs.KeptLines.{IsKept}
use Rattle.dbp_replay.specs.Texts.{script_text}
use Rattle.dbp_replay.proofs.printed.print_script.Given as goal

abbrev pub invariant-loop-step : goal.invariant-loop-step
invariant-loop-step l = record { text : l.text.items ≡ script_text l.diagram (take l.step-index l.steps); kept : All (IsKept l.diagram) l.lines.items }
