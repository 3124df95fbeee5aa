-- The numbers and the names of codes, as refusals print them.
use Rattle.std.specs.Prelude.{ℕ, List, ◌++◌, codes, decimal}
use Rattle.dia_check.specs.declared.fail.CheckCode.{CheckCode}
use Rattle.dia_check.specs.declared.fail.CheckCode.TheVariants.{Duplicate, Unknown, SelfLink, LetCycle, MissingPrio, MissingDeadline, ReadPastCost, NoOut, UndelayedUpward}

abbrev pub check_number : CheckCode → ℕ
check_number Duplicate = 10
check_number Unknown = 11
check_number SelfLink = 12
check_number (LetCycle names) = 13
check_number MissingPrio = 14
check_number MissingDeadline = 15
check_number ReadPastCost = 16
check_number NoOut = 17
check_number (UndelayedUpward writer reader) = 18

abbrev pub check_name : CheckCode → List ℕ
check_name Duplicate = codes "Duplicate"
check_name Unknown = codes "Unknown"
check_name SelfLink = codes "SelfLink"
check_name (LetCycle names) = codes "LetCycle"
check_name MissingPrio = codes "MissingPrio"
check_name MissingDeadline = codes "MissingDeadline"
check_name ReadPastCost = codes "ReadPastCost"
check_name NoOut = codes "NoOut"
check_name (UndelayedUpward writer reader) = codes "UndelayedUpward"

-- the number and the name of a code
abbrev pub check_text : CheckCode → List ℕ
check_text code = decimal (check_number code) ++ codes " " ++ check_name code
