-- The links of a diagram, and the ranks of their tasks.
use Rattle.std.proofs.Common.{ℕ, suc, ◌<◌, ◌≤◌, max, All, Bool, List, [], ◌∷◌, length, get_or, arith, filter, count_by}
use Rattle.std.specs.Prelude.{◌==◌}
use Rattle.std.specs.List.{fold}
use Rattle.std.proofs.lemmas.List.Elements.{All-filter}
use Rattle.std.proofs.lemmas.List.Sums.{count_by-le-length}
use Rattle.dbp_plan.specs.declared.limits.TheConstants.{MAX_READ_LINES}
use Rattle.dbp_plan.specs.Closed.{IsClosed}
use Rattle.dbp_plan.specs.Limits.{max_delay-le}
use Rattle.dbp_plan.specs.declared.diagram.Diagram.{Diagram}
use Rattle.dbp_plan.specs.declared.diagram.Link.{Link}
use Rattle.dbp_plan.specs.Ranked.{IsRanked}
use Rattle.dbp_plan.proofs.RankLaws.{length-ranks}
use Rattle.dbp_slots.specs.Slots.{longest_delay}

-- the reader of each link has a rank
pub reader_ranked : (d : Diagram) (k : ℕ) (e : Link) → IsRanked d → k < length d.links → (get_or d.links k e).reader < length d.ranks
reader_ranked d k e ranked below = omega (arith, length-ranks d ranked, (ranked.closed.ends k e below).1)

-- the counts are small
pub links_few : (d : Diagram) (test : Link → Bool) → IsClosed d → count_by test d.links ≤ MAX_READ_LINES
links_few d test closed = omega (arith, count_by-le-length test d.links, closed.links)

max-le_all : {X : Type 0} (h : X → ℕ) (bound from : ℕ) (xs : List X) → from ≤ bound → All (λ x. h x ≤ bound) xs → fold (λ most x. max most (h x)) from xs ≤ bound
max-le_all h bound from [] few all = few
max-le_all h bound from (x ∷ xs) few all =
    let first : h x ≤ bound = all 0 x (omega arith) in
    max-le_all h bound (max from (h x)) xs (omega arith) (λ k d below. all (suc k) d (omega arith))

pub delay_short : (d : Diagram) (task : ℕ) → IsClosed d → longest_delay d.links task ≤ 8
delay_short d task closed =
    let each : All (λ (l : Link). l.delay ≤ 8) d.links = λ k e below. omega (arith, closed.delays k e below, max_delay-le) in
    max-le_all (λ (l : Link). l.delay) 8 0 (filter (λ l. l.writer == task) d.links) (omega arith) (All-filter (λ l. l.writer == task) (λ (l : Link). l.delay ≤ 8) d.links each)
