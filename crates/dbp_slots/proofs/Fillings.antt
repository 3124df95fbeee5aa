-- The blocks of a diagram's layout as they are filled.
use Rattle.std.proofs.Common.{◌≡◌, ℕ, ◌+◌, ◌<◌, ◌≤◌, All, List, [], ◌∷◌, length, map, take, get_or, set, sym, ◌∙◌, ap, arith, below_more}
use Rattle.std.specs.List.{enumerate_from}
use Rattle.std.proofs.lemmas.List.{get_or-map, length-map, map-append, take_all, take_more_set, get_or-set_same, get_or-set_other}
use Rattle.std.proofs.lemmas.Nat.{mul-le}
use Rattle.std.proofs.lemmas.Grind.{take_at_read}
use Rattle.std.proofs.lemmas.List.Elements.{All-from_get_or}
use Rattle.std.proofs.lemmas.List.FromFn.{length-enumerate_from, get_or-enumerate_from}
use Rattle.std.proofs.lemmas.List.Sums.{sum_by-le, sum_by-take-le}
use Rattle.dbp_plan.specs.declared.diagram.Diagram.{Diagram}
use Rattle.dbp_plan.specs.declared.diagram.Task.{Task}
use Rattle.dbp_plan.specs.declared.limits.TheConstants.{MAX_OUTS}
use Rattle.dbp_plan.specs.Closed.{IsClosed}
use Rattle.dbp_plan.specs.ListItems.{at_place}
use Rattle.dbp_slots.specs.declared.layouts.Block.{Block}
use Rattle.dbp_slots.specs.LayoutBlocks.{block_sizes, sizes_by, BeginInOrder, no_block}
use Rattle.dbp_slots.specs.Slots.{counts_of, is_to_higher, is_to_lower}
use Rattle.dbp_slots.specs.TableWords.{Sizes, SlotSizes, no_sizes, task_sizes, block_size, block_begin, sizes_of}
use Rattle.dbp_slots.proofs.Links.{links_few, delay_short}

abbrev sizes_at : Diagram → ℕ × Task → SlotSizes
sizes_at d (i, t) = record { slots = (counts_of d i).run; ports = length t.outs }

pub length_sizes : (d : Diagram) → length (sizes_of d).tasks ≡ length d.tasks
length_sizes d = length-map (enumerate_from 0 d.tasks) (sizes_at d) ∙ length-enumerate_from 0 d.tasks

-- the sizes of a task
pub sizes_here : (d : Diagram) (i : ℕ) (e : Task) → i < length d.tasks → task_sizes (sizes_of d) i ≡ record { slots = (counts_of d i).run; ports = length (get_or d.tasks i e).outs }
sizes_here d i e below =
    let numbered : get_or (enumerate_from 0 d.tasks) i (0, e) ≡ (0 + i, get_or d.tasks i e) = get_or-enumerate_from 0 d.tasks i (0, e) below in
    let number : 0 + i ≡ i = omega arith in
    get_or-map (sizes_at d) (enumerate_from 0 d.tasks) i (0, e) no_sizes (omega (arith, length-enumerate_from 0 d.tasks))
    ∙ ap (sizes_at d) (numbered ∙ ap (λ (n : ℕ). (n, get_or d.tasks i e)) number)

-- what a block says of its task, if it is so
pub block_here : (d : Diagram) (i : ℕ) (t : Task) (b : Block) → i < length d.tasks → t ≡ get_or d.tasks i t → b.slots ≡ (counts_of d i).run → b.ports ≡ length t.outs → block_sizes b ≡ task_sizes (sizes_of d) i
block_here d i t b below is slots ports =
    let here = sizes_here d i t below in
    let outs : length t.outs ≡ length (get_or d.tasks i t).outs = ap (λ (u : Task). length u.outs) is in
    cc (here, slots, ports, outs)

-- a block is small
pub block_small : (d : Diagram) (i : ℕ) → IsClosed d → i < length d.tasks → block_size (task_sizes (sizes_of d) i) ≤ 2385
block_small d i closed below =
    let (t, at) = at_place d.tasks i below in
    let here : task_sizes (sizes_of d) i ≡ record { slots = (counts_of d i).run; ports = length (get_or d.tasks i t).outs } = sizes_here d i t below in
    let outs : length (get_or d.tasks i t).outs ≤ MAX_OUTS = (closed.each i t below).outs.1 in
    let run : (counts_of d i).run ≤ 265 =
    omega (arith, links_few d (is_to_lower d.ranks i) closed, links_few d (is_to_higher d.ranks i) closed, delay_short d i closed) in
    rw here (mul-le (counts_of d i).run (1 + length (get_or d.tasks i t).outs) 265 9 run (omega arith))

-- and so is the table
pub begin_small : (d : Diagram) (i : ℕ) → IsClosed d → block_begin (sizes_of d) i ≤ 100000
begin_small d i closed =
    let s = sizes_of d in
    let each : All (λ t. block_size t ≤ 2385) s.tasks =
    All-from_get_or (λ t. block_size t ≤ 2385) s.tasks no_sizes (λ k below. block_small d k closed (omega (arith, length_sizes d))) in
    omega (arith, sum_by-take-le block_size s.tasks i, sum_by-le block_size 2385 s.tasks each, length_sizes d, closed.tasks, closed.links)

pub fill_more : (s : Sizes) (blocks : List Block) (i : ℕ) (b : Block) → i < length blocks → i < length s.tasks → block_sizes b ≡ task_sizes s i
    → map block_sizes (take i blocks) ≡ take i s.tasks → map block_sizes (take (i + 1) (set blocks i b)) ≡ take (i + 1) s.tasks
fill_more s blocks i b room below here before =
    ap (map block_sizes) (take_more_set blocks i b room)
    ∙ map-append block_sizes (take i blocks) (b ∷ [])
    ∙ cc (here, before)
    ∙ sym ((take_at_read s.tasks i no_sizes below).1)

pub begin_more : (s : Sizes) (blocks : List Block) (i : ℕ) (b : Block) → i < length blocks → b.begin ≡ block_begin s i → BeginInOrder s blocks i → BeginInOrder s (set blocks i b) (i + 1)
begin_more s blocks i b room here before =
    below_more (λ k. (get_or (set blocks i b) k no_block).begin ≡ block_begin s k) i
    (λ k below. ap (λ (a : Block). a.begin) (get_or-set_other blocks i k b no_block (omega arith)) ∙ before k below)
    (ap (λ (a : Block). a.begin) (get_or-set_same blocks i b no_block room) ∙ here)

-- in the end
pub filled_all : (d : Diagram) (blocks : List Block) (i tasks links : ℕ) → map block_sizes (take i blocks) ≡ take i (sizes_of d).tasks
    → i ≡ length d.tasks → tasks ≡ length d.tasks → links ≡ length d.links → sizes_by tasks links blocks ≡ sizes_of d
filled_all d blocks i tasks links filled at_end is_tasks is_links =
    let all : take i (sizes_of d).tasks ≡ (sizes_of d).tasks = take_all i (sizes_of d).tasks (omega (arith, length_sizes d)) in
    let same : tasks ≡ i = omega arith in
    ap (λ (n : ℕ). sizes_by n links blocks) same
    ∙ ap (λ (n : ℕ). sizes_by i n blocks) is_links
    ∙ ap (λ (ts : List SlotSizes). record { tasks = ts; links = length d.links }) (filled ∙ all)
