use Rattle.std.proofs.Common.{◌≡◌, ◌≤◌, ◌+◌, ◌++◌, length, take, drop}
use Rattle.std.specs.List.{flat_map}
use Rattle.dia_check.specs.Diagrams.{firsts, link_of, links_used, read_of}
use Rattle.dia_check.specs.Shapes.{body_read_lines}
use Rattle.dia_check.proofs.reads.reads_of.Given as goal

abbrev pub invariant-loop-place : goal.invariant-loop-place
invariant-loop-place l = record {
  reads : l.reads ≡ flat_map (read_of l.fn.body.tasks l.fn.reader) (take l.place l.fn.raw.parts);
  links : l.found.links ≡ firsts (links_used l.fn.body.tasks 0 (take l.fn.reader l.fn.body.tasks) ++ flat_map (link_of l.fn.body.tasks l.fn.reader) (take l.place l.fn.raw.parts));
  lines : l.fn.found.lines ++ body_read_lines l.fn.body.tasks l.fn.reader l.fn.raw.parts l.fn.lines
      ≡ l.found.lines ++ body_read_lines l.fn.body.tasks l.fn.reader (drop l.place l.fn.raw.parts) (drop l.place l.fn.lines);
  few_reads : length l.reads ≤ l.place;
  few_links : length l.found.links ≤ length l.fn.found.links + l.place;
  few_lines : length l.found.lines ≤ length l.fn.found.lines + l.place;
}
