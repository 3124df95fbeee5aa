-- What the forms that the code finds are.
use Rattle.dia_lines.specs.declared.form.ClockForm.{ClockForm}
use Rattle.dia_lines.specs.declared.form.ClockForm.TheVariants.{Every, On}
use Rattle.dia_lines.specs.declared.form.TaskForm.{TaskForm}
use Rattle.dia_lines.specs.declared.form.ReadForm.{ReadForm}
use Rattle.dia_lines.specs.declared.form.Form.{Form}
use Rattle.dia_lines.specs.declared.form.Form.TheVariants as form
use Rattle.dia_lines.specs.Statements.{Statement, Clock, every, on, nothing, header, policy, until, input, event, task, state, sense, read, trace, script, done}
use Rattle.dia_lines.specs.Forms.{Shape, plain, of_let, of_next, of_out}

abbrev pub clock_of : ClockForm → Clock
clock_of (Every period offset) = every period offset
clock_of (On name) = on name

abbrev pub task_of : TaskForm → Statement
task_of t = task (record { name = t.name; clock = clock_of t.clock; when = t.when; prio = t.prio; deadline = t.deadline; cost = t.cost; cpu = t.cpu })

abbrev pub read_of : ReadForm → Statement
read_of r = read r.name r.delay r.task r.port r.at

abbrev pub shape_of : Form → Shape
shape_of form.Nothing = plain nothing
shape_of (form.Header version) = plain (header version)
shape_of (form.Policy p) = plain (policy p)
shape_of (form.Until end) = plain (until end)
shape_of (form.Input name first) = plain (input name first)
shape_of (form.Event name) = plain (event name)
shape_of (form.Task t) = plain (task_of t)
shape_of (form.State name first) = plain (state name first)
shape_of (form.Sense name from) = plain (sense name from)
shape_of (form.Read r) = plain (read_of r)
shape_of (form.Let name ts) = of_let name ts.now
shape_of (form.Next name ts) = of_next name ts.now
shape_of (form.Out name first ts) = of_out name first ts.now
shape_of form.Trace = plain trace
shape_of form.Script = plain script
shape_of form.Done = plain done
