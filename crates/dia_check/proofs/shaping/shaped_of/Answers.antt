use Rattle.dia_check.proofs.Closedness.{closed}
use Rattle.dia_check.proofs.ReadLines.{lines-of-shape}
use Rattle.dia_check.proofs.shaping.shaped_of.Goals as goal

pub returns-clause-closed : goal.returns-clause-closed
returns-clause-closed c =
    closed c.args.doc.now c.in_ok-diagram.diagram c.requires.printable c.requires.lines (record { lines = c.requires.faultless; whole = c.in_ok-tasks.ensures.whole }) c.in_ok-diagram.ensures.diagram

pub returns-clause-lines : goal.returns-clause-lines
returns-clause-lines c =
    lines-of-shape c.args.doc.now c.in_ok-diagram.diagram c.in_ok-task_lines.task_lines c.tasks_of.new.found.lines c.requires.lines c.in_ok-diagram.ensures.diagram c.in_ok-task_lines.ensures c.in_ok-tasks.ensures.lines
