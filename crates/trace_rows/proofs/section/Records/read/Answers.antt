use Rattle.std.proofs.Common.{◌≡◌, ◌∷◌, ℕ, List, Some, Bor, map, sym, ap, ◌∙◌, inl, true, false, rules}
use Rattle.csv.specs.Reading.{ReadRecord, default_config}
use Rattle.csv.specs.Records.{fields_of, trimmed}
use Rattle.csv.proofs.ReadFacts.{rows-end}
use Rattle.trace_rows.specs.Records.{records_left, records_of}
use Rattle.trace_rows.proofs.LineRecords.{no-line-left, record-read}
use Rattle.trace_rows.proofs.ReadErrors.{want-of-memory}
use Rattle.trace_rows.proofs.section.Records.read.Goals as goal

pub returns-in_ok-trim_cells-in-Ok-true-clause-left : goal.returns-in_ok-trim_cells-in-Ok-true-clause-left
returns-in_ok-trim_cells-in-Ok-true-clause-left c =
    let raw = fields_of c.read_byte_record.new.row in
    let read : ReadRecord (λ (s : Bor (List ℕ)). Some s.now) c.args.self.now.reader c.read_byte_record.new.self true raw =
    rw (c.in-Ok-true.is, c.in-Ok-true.field-0-test) at c.read_byte_record.ensures.reads c.requires.untrimmed c.requires.ready in
    let taken = record-read c.args.self.now.reader c.read_byte_record.new.self raw c.requires.text c.requires.config c.requires.state c.requires.left c.requires.kept read in
    let cut : fields_of c.trim_cells.new.cells ≡ map trimmed raw = search rules in
    taken.4 ∙ ap (λ (first : List (List ℕ)). first ∷ records_left record { reader = c.read_byte_record.new.self }) (sym cut)

pub returns-in_ok-trim_cells-in-Ok-true-clause-stands : goal.returns-in_ok-trim_cells-in-Ok-true-clause-stands
returns-in_ok-trim_cells-in-Ok-true-clause-stands c told =
    let raw = fields_of c.read_byte_record.new.row in
    let read : ReadRecord (λ (s : Bor (List ℕ)). Some s.now) c.args.self.now.reader c.read_byte_record.new.self true raw =
    rw (c.in-Ok-true.is, c.in-Ok-true.field-0-test) at c.read_byte_record.ensures.reads c.requires.untrimmed c.requires.ready in
    let taken = record-read c.args.self.now.reader c.read_byte_record.new.self raw c.requires.text c.requires.config c.requires.state c.requires.left c.requires.kept read in
    record {
      text = taken.0;
      left = taken.1;
      kept = taken.2;
      config = read.2 ∙ c.requires.config;
      state = taken.3;
      ready = inl (rw c.in-Ok-true.is at c.read_byte_record.ensures.ready c.requires.untrimmed);
      flexible = rw c.in-Ok-true.is at c.read_byte_record.ensures.flexible ∙ c.requires.flexible;
      untrimmed = read.3 ∙ c.requires.untrimmed;
    }

pub returns-in-Ok-false-clause-left : goal.returns-in-Ok-false-clause-left
returns-in-Ok-false-clause-left c =
    let raw = fields_of c.read_byte_record.new.row in
    let read : ReadRecord (λ (s : Bor (List ℕ)). Some s.now) c.args.self.now.reader c.read_byte_record.new.self false raw =
    rw (c.in-Ok-false.is, c.in-Ok-false.field-0-test) at c.read_byte_record.ensures.reads c.requires.untrimmed c.requires.ready in
    let last = rows-end (λ (s : Bor (List ℕ)). Some s.now) c.args.self.now.reader c.read_byte_record.new.self raw default_config c.requires.text c.requires.config c.requires.left read in
    ap records_of c.requires.left ∙ no-line-left c.requires.text c.requires.kept (rw c.requires.state at last)

pub out_of_memory-requires : goal.out_of_memory-requires
out_of_memory-requires c =
    want-of-memory (λ (s : Bor (List ℕ)). Some s.now) c.args.self.now.reader c.read_byte_record.new.self c.in-Err.error.kind
    (rw c.in-Err.is at c.read_byte_record.ensures.why c.requires.ready) c.requires.flexible
