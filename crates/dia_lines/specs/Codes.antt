-- The numbers and names of codes, and the names of limits.
use Rattle.std.specs.Prelude.{ℕ, List, [], ◌++◌, codes}
use Rattle.std.specs.Fmt.{decimal}
use Rattle.dia_lines.specs.declared.fault.Limit.{Limit}
use Rattle.dia_lines.specs.declared.fault.Limit.TheVariants.{Tasks, Reads, Links, Outs, Inputs, Events, Body, Nodes, Number}
use Rattle.dia_lines.specs.declared.fault.ReadCode.{ReadCode}
use Rattle.dia_lines.specs.declared.fault.ReadCode.TheVariants.{BadByte, BadToken, BadLine, NumberTooWide, NameTooLong, LimitHit, MissingDone, MissingHeader, DepthHit}

-- the number of a code
abbrev pub code_number : ReadCode → ℕ
code_number BadByte = 1
code_number BadToken = 2
code_number BadLine = 3
code_number NumberTooWide = 4
code_number NameTooLong = 5
code_number (LimitHit limit) = 6
code_number MissingDone = 7
code_number MissingHeader = 8
code_number DepthHit = 9

-- the name of a code
abbrev pub code_name : ReadCode → List ℕ
code_name BadByte = codes "BadByte"
code_name BadToken = codes "BadToken"
code_name BadLine = codes "BadLine"
code_name NumberTooWide = codes "NumberTooWide"
code_name NameTooLong = codes "NameTooLong"
code_name (LimitHit limit) = codes "LimitHit"
code_name MissingDone = codes "MissingDone"
code_name MissingHeader = codes "MissingHeader"
code_name DepthHit = codes "DepthHit"

-- the name of a limit
abbrev pub limit_name : Limit → List ℕ
limit_name Tasks = codes "tasks"
limit_name Reads = codes "reads"
limit_name Links = codes "links"
limit_name Outs = codes "outs"
limit_name Inputs = codes "inputs"
limit_name Events = codes "events"
limit_name Body = codes "body"
limit_name Nodes = codes "nodes"
limit_name Number = codes "number"

-- the name of the limit that is passed, after a space
abbrev pub limit_after : ReadCode → List ℕ
limit_after (LimitHit limit) = codes " " ++ limit_name limit
limit_after _ = []

-- the number and the name of a code, with the name of the limit that is passed
abbrev pub code_text : ReadCode → List ℕ
code_text code = decimal (code_number code) ++ codes " " ++ code_name code ++ limit_after code
