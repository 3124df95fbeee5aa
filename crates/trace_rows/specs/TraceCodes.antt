-- The numbers and the names of the faults of a trace, as refusals have them.
use Rattle.std.specs.Prelude.{ℕ, List, ◌++◌, codes, decimal}
use Rattle.trace_rows.specs.declared.fail.TraceCode.{TraceCode}
use Rattle.trace_rows.specs.declared.fail.TraceCode.TheVariants.{BadHeader, BadRow, BadCell, TimeNotRising, TimePastEnd, TooManyOccurrences, TooManyRows}

abbrev pub trace_code_number : TraceCode → ℕ
trace_code_number BadHeader = 20
trace_code_number BadRow = 21
trace_code_number BadCell = 22
trace_code_number TimeNotRising = 23
trace_code_number TimePastEnd = 24
trace_code_number TooManyOccurrences = 25
trace_code_number TooManyRows = 26

abbrev pub trace_code_name : TraceCode → List ℕ
trace_code_name BadHeader = codes "BadHeader"
trace_code_name BadRow = codes "BadRow"
trace_code_name BadCell = codes "BadCell"
trace_code_name TimeNotRising = codes "TimeNotRising"
trace_code_name TimePastEnd = codes "TimePastEnd"
trace_code_name TooManyOccurrences = codes "TooManyOccurrences"
trace_code_name TooManyRows = codes "TooManyRows"

-- the number and the name of a code
abbrev pub trace_code_text : TraceCode → List ℕ
trace_code_text code = decimal (trace_code_number code) ++ codes " " ++ trace_code_name code
