use Rattle.std.proofs.Common.{◌≡◌, take}
use Rattle.std.specs.Prelude.{zip}
use Rattle.dbp_replay.specs.Replays.{transcript}
use Rattle.dbp_replay.proofs.replaying.transcript.Given as goal

abbrev pub invariant-loop-place : goal.invariant-loop-place
invariant-loop-place l = l.text.items ≡ transcript l.diagram (take l.place (zip l.steps l.all_heard))
