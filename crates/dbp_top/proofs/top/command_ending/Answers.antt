use Rattle.std.proofs.Common.{ℕ, List, subst}
use Rattle.std.specs.Io.KnownBytes.{Appends}
use Rattle.dbp_answers.specs.Answer.{Answers}
use Rattle.dbp_top.proofs.Endings.{ends-written}
use Rattle.dbp_top.proofs.top.command_ending.Goals as goal

pub returns-in-Ok-write_all : goal.returns-in-Ok-write_all
returns-in-Ok-write_all g c =
    let input = c.in-Ok.input.items in
    let text = c.in-Ok-answer.text.items in
    let command = c.args.command in
    let status = c.in-Ok-answer.status in
    let answered : Answers input command status text = subst (λ (l : List ℕ). Answers l command status text) c.deref.ensures.value c.in-Ok-answer.ensures in
    let wrote = c.in-Ok-write_all.ensures.ok in
    let written : Appends (g.K.Sink.written c.args.sink.now) (g.K.Sink.written c.write_all.new.sink) text = subst (λ (l : List ℕ). Appends (g.K.Sink.written c.args.sink.now) (g.K.Sink.written c.write_all.new.sink) l) c.deref-2.ensures.value wrote.0 in
    ends-written g.S.Source.left g.S.Source.faults g.S.Source.ends g.K.Sink.written g.K.Sink.faults command c.args.source.now c.read_all.new.source c.args.sink.now c.write_all.new.sink input text status c.requires.reads
    c.in-Ok.ensures.bytes c.in-Ok.ensures.end answered (written, wrote.1)
