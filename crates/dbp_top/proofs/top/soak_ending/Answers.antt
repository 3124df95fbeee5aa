use Rattle.std.proofs.Common.{ℕ, List, [], refl, subst, inr}
use Rattle.std.specs.Io.KnownBytes.{Appends}
use Rattle.dbp_answers.specs.Answer.{made}
use Rattle.dbp_top.specs.Outside.{AppendsFront}
use Rattle.dbp_answers.specs.declared.status.Status.TheVariants.{Ok}
use Rattle.dbp_top.proofs.top.soak_ending.Goals as goal

pub returns-in-Ok-write_all-clause-ends : goal.returns-in-Ok-write_all-clause-ends
returns-in-Ok-write_all-clause-ends g c =
    let text = c.in-Ok.text.items in
    let wrote = c.in-Ok-write_all.ensures.ok in
    let written = subst (λ (l : List ℕ). Appends (g.K.Sink.written c.args.sink.now) (g.K.Sink.written c.write_all.new.sink) l) c.deref.ensures.value wrote.0 in
    record { read = refl; wrote = (text, made text (c.in-Ok.ensures.text []), written); no_fault = wrote.1 }

pub returns-clause-ends : goal.returns-clause-ends
returns-clause-ends g c =
    let text = c.in-Ok.text.items in
    let failed = c.in-Err.ensures.err in
    let written = subst (λ (l : List ℕ). AppendsFront (g.K.Sink.written c.args.sink.now) (g.K.Sink.written c.write_all.new.sink) l) c.deref.ensures.value failed.0 in
    record { read = refl; wrote = (Ok, text, made text (c.in-Ok.ensures.text []), written); risen = failed.1; fault = failed.2 }

pub returns-clause-runs : goal.returns-clause-runs
returns-clause-runs g c = inr c.in-Ok.ensures.runs
