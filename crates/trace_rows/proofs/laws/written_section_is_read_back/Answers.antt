use Rattle.std.proofs.Common.{map}
use Rattle.trace_rows.specs.Headers.{kind_of_column}
use Rattle.trace_rows.proofs.WrittenRows.{each-row, event-times-are, header-is, rows-faultless, samples-are}
use Rattle.trace_rows.proofs.WrittenText.{section-kept, section-records}
use Rattle.trace_rows.proofs.laws.written_section_is_read_back.Goals as goal

pub returns-clause-kept : goal.returns-clause-kept
returns-clause-kept c until inputs events columns rows can =
    section-kept (map (kind_of_column inputs) columns) columns rows can.names (each-row until inputs events columns rows can)

pub returns-clause-records : goal.returns-clause-records
returns-clause-records c until inputs events columns rows can =
    section-records (map (kind_of_column inputs) columns) columns rows can.names (each-row until inputs events columns rows can)

pub returns-clause-header : goal.returns-clause-header
returns-clause-header c until inputs events columns rows can = header-is until inputs events columns rows can

pub returns-clause-faultless : goal.returns-clause-faultless
returns-clause-faultless c until inputs events columns rows lines can = rows-faultless until inputs events columns rows can lines

pub returns-clause-events : goal.returns-clause-events
returns-clause-events c until inputs events columns rows can =
    event-times-are inputs columns events rows can.apart (each-row until inputs events columns rows can)

pub returns-clause-samples : goal.returns-clause-samples
returns-clause-samples c until inputs events columns rows can = samples-are inputs columns rows (each-row until inputs events columns rows can)
