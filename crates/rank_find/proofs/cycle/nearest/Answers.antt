use Rattle.std.proofs.Common.{◌≡◌, ℕ, List, [], Contains, get_or, length, slice_index_or, sym, ◌∙◌, subst, arith}
use Rattle.std.proofs.lemmas.Bool.{false≢true}
use Rattle.std.proofs.lemmas.List.{get_or_default, get_or_read}
use Rattle.rank_find.specs.declared.distance.TheConstants.{FAR}
use Rattle.rank_find.specs.Distances.{distance_of}
use Rattle.rank_find.specs.Links.{IsWriter}
use Rattle.rank_find.proofs.Nearest.{NearestSoFar, nearest_all, nearest_changes, nearest_stays}
use Rattle.rank_find.proofs.Writers.{reader_inside}
use Rattle.rank_find.proofs.cycle.nearest.Goals.{then-distance-least+then-is_among, else-distance-least, else-distance-least-via-then-distance-least+else-is_among, else-distance-least-via-else-distance-least}
use Rattle.rank_find.proofs.cycle.nearest.Goals as goal

pub loop-next-preserved : goal.loop-next-preserved
loop-next-preserved c =
    let writers = c.args.writers.now in
    let distances = c.args.distances.now in
    let next : ℕ = c.loop-next.next in
    let at : distance_of distances next ≡ get_or distances next 0 = get_or_default distances next FAR 0 (omega (arith, c.loop-next-test.true, c.requires.size)) in
    elim c.if-distance-least.branch [
      | then-distance-least+then-is_among w ↦
          let is : w.items.result.now ≡ slice_index_or writers next [] = w.items.ensures.value ∙ get_or_read writers next w.index-writers-next.result c.loop-next-test.true w.index-writers-next.is [] in
          let writes : IsWriter writers c.args.task next = subst (λ (ws : List ℕ). Contains ws c.args.task) is (w.is_among.ensures.0 w.if-is_among.true) in
          rw (w.nearest-is, w.least-is, sym at)
          (nearest_changes (IsWriter writers) distances c.args.task next c.loop-next.nearest c.loop-next.least c.loop-next.invariant writes (omega (arith, at, w.if-distance-least.true)))
      | else-distance-least w ↦
          rw (w.nearest-is, w.least-is)
          (nearest_stays (IsWriter writers) distances c.args.task next c.loop-next.nearest c.loop-next.least c.loop-next.invariant
          (elim w.else-distance-least.branch [
            | else-distance-least-via-then-distance-least+else-is_among v ↦
                let is : v.items.result.now ≡ slice_index_or writers next [] = v.items.ensures.value ∙ get_or_read writers next v.index-writers-next.result c.loop-next-test.true v.index-writers-next.is [] in
                (λ writes. absurd (false≢true (sym v.if-is_among.false ∙ v.is_among.ensures.1 (subst (λ (ws : List ℕ). Contains ws c.args.task) (sym is) writes))))
            | else-distance-least-via-else-distance-least v ↦ (λ writes. omega (arith, at, v.if-distance-least.false))
          ]))
    ]

pub returns : goal.returns
returns c =
    let writers = c.args.writers.now in
    let all : c.loop-next.next ≡ length writers = omega arith in
    nearest_all (IsWriter writers) c.args.distances.now c.args.task (length writers) c.loop-next.nearest c.loop-next.least (reader_inside writers c.args.task)
    (subst (λ (n : ℕ). NearestSoFar (IsWriter writers) c.args.distances.now c.args.task n c.loop-next.nearest c.loop-next.least) all c.loop-next.invariant)
