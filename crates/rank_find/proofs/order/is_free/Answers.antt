use Rattle.std.proofs.Common.{◌≡◌, ℕ, List, [], slice_index_or, ◌∙◌, subst, arith}
use Rattle.std.specs.Prelude.{MatchBool}
use Rattle.std.proofs.lemmas.Bool.{false≢true}
use Rattle.std.proofs.lemmas.List.{get_or_read}
use Rattle.rank_find.specs.Fronts.{IsReady, IsUnready}
use Rattle.rank_find.proofs.FreeTasks.{free_tells}
use Rattle.rank_find.proofs.order.is_free.Goals as goal

pub returns-then-not-is_among : goal.returns-then-not-is_among
returns-then-not-is_among c =
    let writers = c.args.writers.now in
    let placed = c.args.placed.now in
    let is : c.items.result.now ≡ slice_index_or writers c.args.task [] =
    c.items.ensures.value ∙ get_or_read writers c.args.task c.index-writers-task.result (omega (arith, c.requires.task, c.requires.writers.size)) c.index-writers-task.is [] in
    free_tells c.args.diagram.now writers placed c.args.task c.is_ready.result c.requires.writers c.requires.task (λ among. false≢true (c.if-not-is_among.ensures.1 among))
    (subst (λ (ws : List ℕ). MatchBool c.is_ready.result (IsReady ws placed) (IsUnready ws placed)) is c.is_ready.ensures)
