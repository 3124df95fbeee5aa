use Rattle.std.proofs.Common.{◌≡◌, ◌++◌, ◌∷◌, [], ℕ, List, length, sym, ap, ◌∙◌, subst, arith, length-append}
use Rattle.dbp_plan.specs.declared.table.TaskRows.{TaskRows}
use Rattle.party_turns.specs.Parties.{HaveFinished}
use Rattle.party_turns.proofs.Finished.{AreAll, HasAll, all_push, all_rows, no_row, task_row}
use Rattle.party_turns.proofs.table.table_of.Goals.{in-Task+in_ok-rows+in_ok-push, in_default}
use Rattle.party_turns.proofs.table.table_of.Goals as goal

pub loop-party-preserved : goal.loop-party-preserved
loop-party-preserved c =
    let w = c.args.words.now in
    let old = c.loop-party.invariant in
    let finished : HaveFinished c.args.words.now c.items-party-items.result.now = subst (HaveFinished c.args.words.now) (sym c.items-party-items.ensures.value) c.requires in
    elim c.match-party.branch [
      | in-Task+in_ok-rows+in_ok-push b ↦
          let row = task_row w c.items-party-items.result.now finished c.loop-party.party-index c.party-item.result c.loop-party-test.true c.party-item.is b.in-Task.party b.in-Task.is in
          let rows = b.in_ok-rows.rows in
          let pushed : c.match-party.tasks ≡ c.loop-party.tasks ++ b.in_ok-rows.rows ∷ [] = b.tasks-is ∙ b.in_ok-push.ensures.ok in
          let copied : b.in_ok-rows.rows ≡ b.in-Task.party.rows = b.in_ok-rows.ensures in
          record {
            size = ap (λ (l : List TaskRows). length l) pushed ∙ length-append c.loop-party.tasks (rows ∷ []) ∙ omega (arith, old.size, row.0);
            each = subst (AreAll w) (sym pushed) (all_push w c.loop-party.tasks rows old.each (subst (λ (x : ℕ × TaskRows). HasAll w x.0 x.1) (λ i. (sym old.size i, sym copied i)) row.1));
          }
      | in_default b ↦
          let none = no_row w c.items-party-items.result.now finished c.loop-party.party-index c.party-item.result c.loop-party-test.true c.party-item.is b.in_default.field-0 b.in_default.is in
          record {
            size = ap (λ (l : List TaskRows). length l) b.tasks-is ∙ omega (arith, old.size, none);
            each = subst (AreAll w) (sym b.tasks-is) old.each;
          }
    ]

pub returns : goal.returns
returns c = all_rows c.args.words.now c.loop-party.tasks (omega (arith, c.loop-party.invariant.size, ap length c.items-party-items.ensures.value, c.requires.parties.size)) c.loop-party.invariant.each
