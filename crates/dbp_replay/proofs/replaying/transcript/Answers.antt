-- One line more, and the end of the lists.
use Rattle.std.proofs.Common.{◌++◌, ◌∷◌, ◌∙◌, [], List, ℕ, take, get_or, ap, sym, arith, take_all, append_assoc}
use Rattle.std.specs.Prelude.{zip}
use Rattle.dbp_rules.specs.declared.step.Heard.TheVariants.{Stored}
use Rattle.dbp_rules.specs.declared.step.Step.TheVariants.{Seen}
use Rattle.dbp_replay.specs.Replays.{transcript}
use Rattle.dbp_replay.specs.Texts.{heard_words, spaced_words, step_text}
use Rattle.dbp_replay.proofs.Taken.{line-more}
use Rattle.dbp_replay.proofs.Zipped.{length-zip}
use Rattle.dbp_replay.proofs.replaying.transcript.Goals as goal

pub loop-place-preserved : goal.loop-place-preserved
loop-place-preserved c =
    let d = c.args.diagram.now in
    let steps = c.args.steps.now in
    let heard = c.args.all_heard.now in
    let k = c.loop-place.place in
    let before : List ℕ = transcript d (take k (zip steps heard)) in
    let step : List ℕ = step_text d (get_or steps k (Seen 0)) in
    let words : List ℕ = spaced_words (heard_words (get_or heard k Stored)) in
    c.in_ok-push.ensures.items ∙ ap (λ (l : List ℕ). l ++ 10 ∷ []) (c.in_ok-push_heard.ensures ∙ ap (λ (l : List ℕ). l ++ words) (c.in_ok-push_step.ensures ∙ ap (λ (l : List ℕ). l ++ step) c.loop-place.invariant))
    ∙ append_assoc (before ++ step) words (10 ∷ [])
    ∙ append_assoc before step (words ++ 10 ∷ [])
    ∙ ap (λ (l : List ℕ). before ++ l) (sym (append_assoc step words (10 ∷ [])))
    ∙ sym (line-more d steps heard k (Seen 0) Stored (omega (arith, c.requires.size)) (omega arith))

pub returns : goal.returns
returns c = c.loop-place.invariant ∙ ap (transcript c.args.diagram.now) (take_all c.loop-place.place (zip c.args.steps.now c.args.all_heard.now) (omega (arith, length-zip c.args.steps.now c.args.all_heard.now, c.requires.size)))
