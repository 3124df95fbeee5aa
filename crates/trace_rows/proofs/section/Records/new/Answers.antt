use Rattle.std.proofs.Common.{Some, ap, ◌∙◌, inr}
use Rattle.trace_rows.specs.Records.{records_of}
use Rattle.trace_rows.proofs.LineRecords.{whole-text}
use Rattle.trace_rows.proofs.section.Records.new.Goals as goal

pub returns-clause-left : goal.returns-clause-left
returns-clause-left c = ap records_of (c.from_reader.ensures.source ∙ ap Some (whole-text c.args.text.now c.requires))

pub returns-clause-stands : goal.returns-clause-stands
returns-clause-stands c =
    let fr = c.from_reader.ensures in
    let headers = c.has_headers.ensures in
    let flexible = c.flexible.ensures in
    record {
      text = c.args.text.now;
      left = fr.source ∙ ap Some (whole-text c.args.text.now c.requires);
      kept = c.requires;
      config = rw (flexible, headers) at fr.config ∙ c.new.ensures.config;
      state = fr.state;
      ready = inr (inr (rw (flexible, headers) at fr.has_headers, fr.headers));
      flexible = rw flexible at fr.flexible;
      untrimmed = rw (flexible, headers) at fr.trim ∙ c.new.ensures.trim;
    }
