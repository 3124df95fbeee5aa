use Rattle.std.proofs.Common.{arith}
use Rattle.dia_read.proofs.laws.an_upgraded_body_can_be_printed.Goals as goal

pub returns : goal.returns
returns c body h = record {
  version = (omega arith, omega arith);
  plain = λ one. absurd cc;
  until = h.until;
  decls = h.decls;
  inputs = h.inputs;
  events = h.events;
  tasks = h.tasks;
  few = h.few;
  links = h.links;
  trace = h.trace;
  script = h.script;
}
