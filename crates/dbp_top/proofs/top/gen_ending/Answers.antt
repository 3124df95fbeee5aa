use Rattle.std.proofs.Common.{◌≡◌, ℕ, List, [], refl, sym, subst}
use Rattle.std.specs.Io.KnownBytes.{Appends}
use Rattle.dbp_load.specs.Texts.{generated_text}
use Rattle.dbp_answers.specs.Answer.{Answers, Makes, made, of_seed}
use Rattle.dbp_top.specs.Outside.{AppendsFront}
use Rattle.dbp_answers.specs.declared.command.Command.TheVariants.{Gen}
use Rattle.dbp_answers.specs.declared.status.Status.TheVariants.{Ok}
use Rattle.dbp_top.proofs.top.gen_ending.Goals as goal

-- the text is the command's answer
answered : (seed size : ℕ) (text : List ℕ) → text ≡ generated_text seed size → Answers [] (Gen seed size) Ok text
answered seed size text is = made text (subst (λ (l : List ℕ). Makes [] (Gen seed size) l) (sym is) (of_seed seed size))

pub returns-in-Ok-write_all : goal.returns-in-Ok-write_all
returns-in-Ok-write_all g c =
    let text = c.in-Ok.text.items in
    let wrote = c.in-Ok-write_all.ensures.ok in
    let written = subst (λ (l : List ℕ). Appends (g.K.Sink.written c.args.sink.now) (g.K.Sink.written c.write_all.new.sink) l) c.deref.ensures.value wrote.0 in
    record { read = refl; wrote = (text, answered c.args.seed c.args.size text c.in-Ok.ensures.text, written); no_fault = wrote.1 }

pub returns : goal.returns
returns g c =
    let text = c.in-Ok.text.items in
    let failed = c.in-Err.ensures.err in
    let written = subst (λ (l : List ℕ). AppendsFront (g.K.Sink.written c.args.sink.now) (g.K.Sink.written c.write_all.new.sink) l) c.deref.ensures.value failed.0 in
    record { read = refl; wrote = (Ok, text, answered c.args.seed c.args.size text c.in-Ok.ensures.text, written); risen = failed.1; fault = failed.2 }
