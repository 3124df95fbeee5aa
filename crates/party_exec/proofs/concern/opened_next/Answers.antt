use Rattle.std.proofs.Common.{ℕ, ◌∙◌, Some, sym, ap, slice_get}
use Rattle.std.specs.Option.{option_copied}
use Rattle.dbp_rules.specs.declared.wiring.Wiring.{Wiring}
use Rattle.release_list.specs.declared.release.Release.TheVariants.{OpenGate}
use Rattle.party_exec.proofs.Concerns.{opened_few}
use Rattle.party_exec.proofs.concern.opened_next.Goals as goal

pub returns-in-Some-OpenGate : goal.returns-in-Some-OpenGate
returns-in-Some-OpenGate c =
    let action = ap (λ (w : Wiring). slice_get w.releases c.args.place) (sym c.wiring.ensures) ∙ sym c.get.ensures.item ∙ ap option_copied c.in-Some-OpenGate.is ∙ ap Some c.in-Some-OpenGate.field-0-is in
    opened_few c.args.words.now c.args.place c.from.result (action ∙ ap (λ (i : ℕ). Some (OpenGate i)) (sym c.from.ensures))
