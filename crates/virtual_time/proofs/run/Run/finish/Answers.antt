use Rattle.std.proofs.Common.{arith, ℕ, List, [], ◌≡◌, ◌<◌, ◌+◌, ◌++◌, ◌∷◌, set, length, get_or, refl, ap, ◌∙◌}
use Rattle.std.proofs.lemmas.List.{get_or_default, get_or_read}
use Rattle.virtual_time.proofs.Running.{few_ends, finished, held_if, rest_fits, written}
use Rattle.virtual_time.proofs.run.Run.finish.Goals as goal

pub index-requires : goal.index-requires
index-requires g c =
    let (run, (small, (some, (at, served)))) = c.requires in
    omega (arith, small, run.at.rests, c.args.self.now.rest.ok.0)

pub overflow_add-end : goal.overflow_add-end
overflow_add-end g c =
    let (run, (small, (some, (at, served)))) = c.requires in
    let r = c.args.self.now in
    let fits = rest_fits c.args.plan.now g.cpus r run c.args.task small in
    let read = get_or_read r.rest.items c.args.task c.index.result.now (omega (arith, small, run.at.rests)) c.index.ensures 0 in
    omega (arith, fits, read)

pub bounds-items_mut-index : goal.bounds-items_mut-index
bounds-items_mut-index g c =
    let (run, (small, (some, (at, served)))) = c.requires in
    omega (arith, small, run.at.lists, ap length c.items_mut.ensures.value)

pub push-requires : goal.push-requires
push-requires g c =
    let (run, (small, (some, (at, served)))) = c.requires in
    let r = c.args.self.now in
    let few = few_ends c.args.plan.now g.cpus r run c.args.task small in
    let there : c.args.task < length r.ends = omega (arith, small, run.at.lists) in
    let is : get_or c.items_mut.result.now c.args.task c.index-items_mut-index.result ≡ get_or r.ends c.args.task [] =
    ap (λ (l : List (List ℕ)). get_or l c.args.task c.index-items_mut-index.result) c.items_mut.ensures.value ∙ get_or_default r.ends c.args.task c.index-items_mut-index.result [] there in
    omega (arith, few, ap length is)

pub index_mut-requires : goal.index_mut-requires
index_mut-requires g c =
    let (run, (small, (some, (at, served)))) = c.requires in
    omega (arith, small, run.at.rests, c.args.self.now.rest.ok.0)

pub returns-clause-run : goal.returns-clause-run
returns-clause-run g c =
    let (run, (small, (some, (at, served)))) = c.requires in
    let r = c.args.self.now in
    let i = c.args.task in
    let read = get_or_read r.rest.items i c.index.result.now (omega (arith, small, run.at.rests)) c.index.ensures 0 in
    let there : i < length r.ends = omega (arith, small, run.at.lists) in
    let is : get_or c.items_mut.result.now i c.index-items_mut-index.result ≡ get_or r.ends i [] =
    ap (λ (l : List (List ℕ)). get_or l i c.index-items_mut-index.result) c.items_mut.ensures.value ∙ get_or_default r.ends i c.index-items_mut-index.result [] there in
    let time = ap (λ (n : ℕ). r.time + n) read in
    let pushed = c.in_ok-push.ensures.ok ∙ ap (λ (l : List ℕ). l ++ (r.time + c.index.result.now) ∷ []) is ∙ ap (λ (n : ℕ). get_or r.ends i [] ++ n ∷ []) time in
    λ later goes. finished c.args.plan.now g.cpus r run i (get_or r.rest.items i 0) small some served later goes _ at refl refl refl refl
    (written r.ends c.items_mut.result.now i c.push.new.self c.items_mut.ensures.value ∙ ap (λ (l : List ℕ). set r.ends i l) pushed)
    (c.remove.ensures.made c.args.plan.now.diagram run.tracks.made) c.remove.ensures.held

pub returns-clause-ends : goal.returns-clause-ends
returns-clause-ends g c =
    let (run, (small, (some, (at, served)))) = c.requires in
    let r = c.args.self.now in
    let i = c.args.task in
    let read = get_or_read r.rest.items i c.index.result.now (omega (arith, small, run.at.rests)) c.index.ensures 0 in
    let there : i < length r.ends = omega (arith, small, run.at.lists) in
    let is : get_or c.items_mut.result.now i c.index-items_mut-index.result ≡ get_or r.ends i [] =
    ap (λ (l : List (List ℕ)). get_or l i c.index-items_mut-index.result) c.items_mut.ensures.value ∙ get_or_default r.ends i c.index-items_mut-index.result [] there in
    let time = ap (λ (n : ℕ). r.time + n) read in
    let pushed = c.in_ok-push.ensures.ok ∙ ap (λ (l : List ℕ). l ++ (r.time + c.index.result.now) ∷ []) is ∙ ap (λ (n : ℕ). get_or r.ends i [] ++ n ∷ []) time in
    written r.ends c.items_mut.result.now i c.push.new.self c.items_mut.ensures.value ∙ ap (λ (l : List ℕ). set r.ends i l) pushed

pub remove-requires : goal.remove-requires
remove-requires g c =
    let (run, (small, (some, (at, served)))) = c.requires in
    held_if c.args.plan.now g.cpus c.args.self.now run c.args.task small some
