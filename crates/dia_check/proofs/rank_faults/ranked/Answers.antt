use Rattle.std.proofs.Common.{◌≡◌, None, Some, refl, sym, ◌∙◌, rules}
use Rattle.dbp_plan.specs.Ranks.{ranks_of}
use Rattle.dia_check.specs.RankFaults.{HasNoRankFault}
use Rattle.dia_check.proofs.Refusals.{exactly, none-found, rank-refused}
use Rattle.dia_check.proofs.RankLaws.{is-ranked}
use Rattle.dia_check.proofs.rank_faults.ranked.Goals as goal

pub returns-in-Some-clause-fault : goal.returns-in-Some-clause-fault
returns-in-Some-clause-fault c =
    let found : c.first_rank_fault.result ≡ Some c.in-Some.fault = search rules in
    rw c.rank_refusal.ensures (rank-refused c.args.shaped c.in-Some.fault (sym c.first_rank_fault.ensures ∙ found))

pub returns-in-Some-clause-refused : goal.returns-in-Some-clause-refused
returns-in-Some-clause-refused c =
    let found : c.first_rank_fault.result ≡ Some c.in-Some.fault = search rules in
    exactly _ _ _ c.in-Some.fault c.rank_refusal.result (sym c.first_rank_fault.ensures ∙ found) c.rank_refusal.ensures

pub returns-in_err-ranks-clause-refused : goal.returns-in_err-ranks-clause-refused
returns-in_err-ranks-clause-refused c =
    let none : c.first_rank_fault.result ≡ None = search rules in
    none-found _ _ (sym c.first_rank_fault.ensures ∙ none)

pub returns-clause-refused : goal.returns-clause-refused
returns-clause-refused c =
    let none : c.first_rank_fault.result ≡ None = search rules in
    none-found _ _ (sym c.first_rank_fault.ensures ∙ none)

pub returns-clause-found : goal.returns-clause-found
returns-clause-found c =
    let d = c.args.shaped.diagram in
    let ranks : c.in_ok-ranks.ranks ≡ ranks_of d.policy d.tasks = rw c.items.ensures.value at c.in_ok-ranks.ensures in
    let none : c.first_rank_fault.result ≡ None = search rules in
    let fine : HasNoRankFault c.args.shaped = sym c.first_rank_fault.ensures ∙ none in
    (fine, rw ranks refl)

pub returns-clause-ranked : goal.returns-clause-ranked
returns-clause-ranked c =
    let d = c.args.shaped.diagram in
    let ranks : c.in_ok-ranks.ranks ≡ ranks_of d.policy d.tasks = rw c.items.ensures.value at c.in_ok-ranks.ensures in
    let none : c.first_rank_fault.result ≡ None = search rules in
    let fine : HasNoRankFault c.args.shaped = sym c.first_rank_fault.ensures ∙ none in
    rw ranks (is-ranked c.args.shaped c.requires.closed c.requires.lines fine)

pub returns-clause-checked : goal.returns-clause-checked
returns-clause-checked c =
    let found = returns-clause-found c in
    λ doc shape. record { shaped = c.args.shaped; shape = shape; ranks = found.0; is = found.1 }
