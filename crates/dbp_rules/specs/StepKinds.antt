-- The kinds of steps with their numbers, and what a step names.
use Rattle.std.specs.Prelude.{ℕ}
use Rattle.dbp_rules.specs.declared.kind.StepKind.{StepKind}
use Rattle.dbp_rules.specs.declared.kind.StepKind.TheVariants as kind
use Rattle.dbp_rules.specs.declared.step.Step.{Step}
use Rattle.dbp_rules.specs.declared.step.Step.TheVariants.{Seen, Aim, Claim, OpenGate, Start, Hear, Look, Take, Shut, Put, Done, End}

abbrev pub kind_number : StepKind → ℕ
kind_number kind.Seen = 1
kind_number kind.Aim = 2
kind_number kind.Claim = 3
kind_number kind.OpenGate = 4
kind_number kind.Start = 5
kind_number kind.Hear = 6
kind_number kind.Look = 7
kind_number kind.Take = 8
kind_number kind.Shut = 9
kind_number kind.Put = 10
kind_number kind.Done = 11
kind_number kind.End = 12

-- the number that stands for a step of the right kind that names another task, link, read or port
abbrev pub other_subject : ℕ
other_subject = 13

abbrev pub kind_of : Step → StepKind
kind_of (Seen i) = kind.Seen
kind_of (Aim i slot) = kind.Aim
kind_of (Claim k) = kind.Claim
kind_of (OpenGate i) = kind.OpenGate
kind_of (Start i) = kind.Start
kind_of (Hear i) = kind.Hear
kind_of (Look i r) = kind.Look
kind_of (Take i r) = kind.Take
kind_of (Shut i) = kind.Shut
kind_of (Put i p) = kind.Put
kind_of (Done i) = kind.Done
kind_of (End i) = kind.End

-- the task or the link that a step of the releaser names, and the read or the port that a step of a task names; else 0
abbrev pub subject_of : Step → ℕ
subject_of (Seen i) = i
subject_of (Aim i slot) = i
subject_of (Claim k) = k
subject_of (OpenGate i) = i
subject_of (Start i) = 0
subject_of (Hear i) = 0
subject_of (Look i r) = r
subject_of (Take i r) = r
subject_of (Shut i) = 0
subject_of (Put i p) = p
subject_of (Done i) = 0
subject_of (End i) = 0
