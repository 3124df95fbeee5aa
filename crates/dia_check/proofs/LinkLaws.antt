-- The links and the reads of a diagram that a document without faults says.
use Rattle.std.proofs.Common.{◌≡◌, ◌≢◌, ℕ, zero, suc, ◌+◌, ◌<◌, ◌≤◌, Bool, true, false, cond, All, IsTrue, List, [], ◌∷◌, ◌++◌, length, take, get_or, slice_get, Option, Some, None, refl, sym, ap, ◌∙◌, subst, append_assoc, arith, eq-eqb, length-append, length-take}
use Rattle.std.specs.Prelude.{AllPairs, ◌==◌, sum_by, count_by, if◌then◌else◌}
use Rattle.std.specs.List.{flat_map, list_any, find, position_or_len}
use Rattle.std.specs.Str.{bytes_eq}
use Rattle.std.proofs.lemmas.Bool.{both_ways, not-false, or_left}
use Rattle.std.proofs.lemmas.List.{append-nil}
use Rattle.std.proofs.lemmas.List.Concat.{length-flat_map}
use Rattle.std.proofs.lemmas.List.Elements.{All-nil, All-cons, All-head, All-append}
use Rattle.std.proofs.lemmas.List.Folds.{find_at}
use Rattle.std.proofs.lemmas.List.Sums.{sum_by-cons}
use Rattle.std.proofs.lemmas.Option.{slice_get_within, same_Some}
use Rattle.dbp_plan.specs.declared.diagram.Diagram.{Diagram}
use Rattle.dbp_plan.specs.declared.diagram.Link.{Link}
use Rattle.dbp_plan.specs.declared.diagram.Read.{Read}
use Rattle.dbp_plan.specs.declared.diagram.Task.{Task}
use Rattle.dbp_plan.specs.declared.limits.TheConstants.{MAX_READ_LINES}
use Rattle.dbp_plan.specs.Limits.{max_delay}
use Rattle.dbp_plan.specs.ListItems.{at_place, all_place}
use Rattle.dbp_plan.specs.NameLists.{is_among, index_of}
use Rattle.dbp_plan.proofs.FirstIndexes.{first-below, first-in-map, first-passes}
use Rattle.dbp_plan.proofs.ListParts.{take-next}
use Rattle.dia_lines.specs.declared.item.Part.{Part}
use Rattle.dia_lines.specs.declared.item.Part.TheVariants as part
use Rattle.dia_read.specs.declared.document.Body.{Body}
use Rattle.dia_read.specs.declared.document.RawTask.{RawTask}
use Rattle.dia_read.specs.Printable.{IsPrintable, IsPrintableTask, IsPrintablePart, is_read_part}
use Rattle.dia_check.specs.declared.fail.LineFault.TheVariants.{Duplicate, Unknown, SelfLink, ReadPastCost}
use Rattle.dia_check.specs.Diagrams.{is_same_link, link_of, links_used, links_of, link_number, read_of, out_of, IsDiagramOf}
use Rattle.dia_check.specs.Faults.{is_repeated, is_unknown, is_self_link, is_past_cost, part_fault}
use Rattle.dia_check.specs.Names.{task_names, out_name, env_names, port_names}
use Rattle.dia_check.proofs.ClosedTasks.{outs-alike}
use Rattle.dia_check.proofs.DiagramTasks.{raw-at, task-at}
use Rattle.dia_check.proofs.Faultless.{IsFaultless}
use Rattle.dia_check.proofs.LinkLists.{same-links, all-firsts, firsts-few, firsts-differ, firsts-have, all-made, all-front, all-after, made-by-one, any-at, any-made, number-is, same-sums}

-- ---- the links of read lines

all-of-part : (P : Link → Type 0) (tasks : List RawTask) (reader : ℕ) (p : Part)
    → ((n : List ℕ) (delay : ℕ) (writer port : List ℕ) (at : ℕ) → p ≡ part.Read n delay writer port at → P (record { writer = index_of (task_names tasks) writer; reader = reader; delay = delay })) → All P (link_of tasks reader p)
all-of-part P tasks reader (part.State n first) each = All-nil P
all-of-part P tasks reader (part.Sense n input) each = All-nil P
all-of-part P tasks reader (part.Read n delay writer port at) each = All-cons P _ [] (each n delay writer port at refl) (All-nil P)
all-of-part P tasks reader (part.Let n e) each = All-nil P
all-of-part P tasks reader (part.Next n e) each = All-nil P
all-of-part P tasks reader (part.Out n first e) each = All-nil P

-- what holds of the link of each read line
all-used : (P : Link → Type 0) (tasks : List RawTask) (number : ℕ) (ts : List RawTask)
    → ((i j : ℕ) (t : RawTask) (p : Part) → slice_get ts i ≡ Some t → slice_get t.parts j ≡ Some p → All P (link_of tasks (number + i) p)) → All P (links_used tasks number ts)
all-used P tasks number [] each = All-nil P
all-used P tasks number (t ∷ ts) each =
    let here : number + 0 ≡ number = omega arith in
    All-append P (flat_map (link_of tasks number) t.parts) (links_used tasks (number + 1) ts)
    (all-made P (link_of tasks number) t.parts (λ j p at. subst (λ n. All P (link_of tasks n p)) here (each 0 j t p refl at)))
    (all-used P tasks (number + 1) ts (λ i j u p at_u at_p.
    let later : number + suc i ≡ number + 1 + i = omega arith in
    subst (λ n. All P (link_of tasks n p)) later (each (suc i) j u p at_u at_p)))

-- what holds of each link that is used holds of that of a read line
used-by-one : (P : Link → Type 0) (tasks : List RawTask) (number : ℕ) (ts : List RawTask) (i j : ℕ) (t : RawTask) (p : Part) → slice_get ts i ≡ Some t → slice_get t.parts j ≡ Some p
    → All P (links_used tasks number ts) → All P (link_of tasks (number + i) p)
used-by-one P tasks number [] i j t p at_t at_p all = absurd cc
used-by-one P tasks number (u ∷ ts) zero j t p at_t at_p all =
    let here : number ≡ number + 0 = omega arith in
    let front : All P (flat_map (link_of tasks number) t.parts) = subst (λ v. All P (flat_map (link_of tasks number) v.parts)) (same_Some u t at_t) (all-front P _ (links_used tasks (number + 1) ts) all) in
    subst (λ n. All P (link_of tasks n p)) here (made-by-one P (link_of tasks number) t.parts j p at_p front)
used-by-one P tasks number (u ∷ ts) (suc i) j t p at_t at_p all =
    let later : number + 1 + i ≡ number + suc i = omega arith in
    subst (λ n. All P (link_of tasks n p)) later (used-by-one P tasks (number + 1) ts i j t p at_t at_p (all-after P (flat_map (link_of tasks number) u.parts) _ all))

pub links_used-append : (tasks : List RawTask) (number : ℕ) (ts us : List RawTask) → links_used tasks number (ts ++ us) ≡ links_used tasks number ts ++ links_used tasks (number + length ts) us
links_used-append tasks number [] us = ap (λ n. links_used tasks n us) (omega arith)
links_used-append tasks number (t ∷ ts) us =
    let after : number + 1 + length ts ≡ number + suc (length ts) = omega arith in
    ap (λ ls. flat_map (link_of tasks number) t.parts ++ ls) (links_used-append tasks (number + 1) ts us ∙ ap (λ n. links_used tasks (number + 1) ts ++ links_used tasks n us) after)
    ∙ sym (append_assoc (flat_map (link_of tasks number) t.parts) (links_used tasks (number + 1) ts) (links_used tasks (number + suc (length ts)) us))

pub links-used-add : (tasks : List RawTask) (number : ℕ) (ts : List RawTask) (k : ℕ) (t : RawTask) → k < length ts → t ≡ get_or ts k t
    → links_used tasks number (take (k + 1) ts) ≡ links_used tasks number (take k ts) ++ flat_map (link_of tasks (number + k)) t.parts
links-used-add tasks number ts k t below is =
    let size : number + length (take k ts) ≡ number + k = omega (arith, length-take k ts, below) in
    ap (links_used tasks number) (take-next ts k t below is)
    ∙ links_used-append tasks number (take k ts) (t ∷ [])
    ∙ ap (λ n. links_used tasks number (take k ts) ++ links_used tasks n (t ∷ [])) size
    ∙ ap (λ ls. links_used tasks number (take k ts) ++ ls) (append-nil (flat_map (link_of tasks (number + k)) t.parts))

-- ---- how many

link-count : (tasks : List RawTask) (reader : ℕ) (p : Part) → length (link_of tasks reader p) ≡ cond (is_read_part p) 1 0
link-count tasks reader (part.State n first) = refl
link-count tasks reader (part.Sense n input) = refl
link-count tasks reader (part.Read n delay writer port at) = refl
link-count tasks reader (part.Let n e) = refl
link-count tasks reader (part.Next n e) = refl
link-count tasks reader (part.Out n first e) = refl

used-count : (tasks : List RawTask) (number : ℕ) (ts : List RawTask) → length (links_used tasks number ts) ≡ sum_by (λ t. count_by is_read_part t.parts) ts
used-count tasks number [] = refl
used-count tasks number (t ∷ ts) =
    let count = λ (u : RawTask). count_by is_read_part u.parts in
    let each : length (flat_map (link_of tasks number) t.parts) ≡ count t =
    length-flat_map (link_of tasks number) t.parts ∙ ap (λ f. sum_by f t.parts) (λ i p. link-count tasks number p i) in
    omega (arith, length-append (flat_map (link_of tasks number) t.parts) (links_used tasks (number + 1) ts), each, used-count tasks (number + 1) ts, sum_by-cons count t ts)

read-count : (tasks : List RawTask) (reader : ℕ) (p : Part) → length (read_of tasks reader p) ≡ cond (is_read_part p) 1 0
read-count tasks reader (part.State n first) = refl
read-count tasks reader (part.Sense n input) = refl
read-count tasks reader (part.Read n delay writer port at) = refl
read-count tasks reader (part.Let n e) = refl
read-count tasks reader (part.Next n e) = refl
read-count tasks reader (part.Out n first e) = refl

-- ---- a read line without faults

-- a line with none of four faults
no-fault : (a b c d : Bool) → (if a then Some Duplicate else if b then Some Unknown else if c then Some SelfLink else if d then Some ReadPastCost else None) ≡ None → (b ≡ false) × (c ≡ false)
no-fault true b c d none = absurd cc
no-fault false true c d none = absurd cc
no-fault false false true d none = absurd cc
no-fault false false false true none = absurd cc
no-fault false false false false none = (refl, refl)

-- a read line without a fault names an out that is there
pub known-read : (body : Body) (t : RawTask) (before : List Part) (n : List ℕ) (delay : ℕ) (writer port : List ℕ) (at : ℕ)
    → part_fault body t before (part.Read n delay writer port at) ≡ None → is_among (port_names body.tasks writer) port ≡ true
known-read body t before n delay writer port at none =
    let p = part.Read n delay writer port at in
    not-false _ (no-fault (is_repeated before p) (is_unknown body t p) (is_self_link t p) (is_past_cost t p) none).0

-- the reads of read lines
all-of-reads : (P : Read → Type 0) (tasks : List RawTask) (reader : ℕ) (p : Part)
    → ((n : List ℕ) (delay : ℕ) (writer port : List ℕ) (at : ℕ) → p ≡ part.Read n delay writer port at → All P (read_of tasks reader (part.Read n delay writer port at))) → All P (read_of tasks reader p)
all-of-reads P tasks reader (part.State n first) each = All-nil P
all-of-reads P tasks reader (part.Sense n input) each = All-nil P
all-of-reads P tasks reader (part.Read n delay writer port at) each = each n delay writer port at refl
all-of-reads P tasks reader (part.Let n e) each = All-nil P
all-of-reads P tasks reader (part.Next n e) each = All-nil P
all-of-reads P tasks reader (part.Out n first e) each = All-nil P

-- the outs of the task that was found
abbrev outs_of : Option RawTask → List (List ℕ)
outs_of o = elim o [ None ↦ [] | Some t ↦ flat_map out_name t.parts ]

-- the task that has the port
record HasPort (tasks : List RawTask) (writer port : List ℕ) : Type 0 where
  task : RawTask
  at : slice_get tasks (index_of (task_names tasks) writer) ≡ Some task
  named : bytes_eq task.name writer ≡ true
  outs : port_names tasks writer ≡ flat_map out_name task.parts

writer-of : (tasks : List RawTask) (writer port : List ℕ) → is_among (port_names tasks writer) port ≡ true → HasPort tasks writer port
writer-of tasks writer port among = found (find test tasks) refl
  where
    test : RawTask → Bool
    test t = bytes_eq t.name writer

    found : (o : Option RawTask) → find test tasks ≡ o → HasPort tasks writer port
    found None is =
        let none : port_names tasks writer ≡ [] = ap outs_of is in
        let empty : is_among [] port ≡ true = subst (λ names. is_among names port ≡ true) none among in
        absurd cc
    found (Some w) is =
        let first : slice_get tasks (position_or_len test tasks) ≡ Some w = sym (find_at test tasks) ∙ is in
        record {
          task = w;
          at = ap (slice_get tasks) (first-in-map (λ m. bytes_eq m writer) (λ t. t.name) tasks) ∙ first;
          named = first-passes test tasks w first;
          outs = ap outs_of is;
        }

-- a read line that has no fault and can be printed
record IsReadLine (tasks : List RawTask) (reader delay : ℕ) (writer port : List ℕ) : Type 0 where
  source : HasPort tasks writer port
  among : is_among (port_names tasks writer) port ≡ true
  other : index_of (task_names tasks) writer ≢ reader
  few : delay ≤ max_delay

module _ (body : Body) (d : Diagram) (printable : IsPrintable body) (faultless : IsFaultless body) (is : IsDiagramOf body d) where
  read-line : (i j : ℕ) (t : RawTask) (n : List ℕ) (delay : ℕ) (writer port : List ℕ) (at : ℕ) → slice_get body.tasks i ≡ Some t → slice_get t.parts j ≡ Some (part.Read n delay writer port at)
      → IsReadLine body.tasks i delay writer port
  read-line i j t n delay writer port at at_t at_p =
      let p = part.Read n delay writer port at in
      let none = no-fault (is_repeated (take j t.parts) p) (is_unknown body t p) (is_self_link t p) (is_past_cost t p) (faultless.parts i j t p at_t at_p) in
      let among : is_among (port_names body.tasks writer) port ≡ true = not-false _ none.0 in
      let source = writer-of body.tasks writer port among in
      record {
        source = source;
        among = among;
        other = λ same.
            let one : source.task ≡ t = same_Some source.task t (sym source.at ∙ ap (slice_get body.tasks) same ∙ at_t) in
            both_ways (bytes_eq t.name writer) none.1 (subst (λ u. bytes_eq u.name writer ≡ true) one source.named);
        few = (all_place IsPrintablePart t.parts j p (all_place IsPrintableTask body.tasks i t printable.tasks at_t).parts at_p).1;
      }

  -- what holds of the link of each read line holds of each link
  all-links : (P : Link → Type 0)
      → ((i j : ℕ) (t : RawTask) (n : List ℕ) (delay : ℕ) (writer port : List ℕ) (at : ℕ) → slice_get body.tasks i ≡ Some t → slice_get t.parts j ≡ Some (part.Read n delay writer port at)
      → P (record { writer = index_of (task_names body.tasks) writer; reader = i; delay = delay })) → All P d.links
  all-links P each =
      let every : All P (links_used body.tasks 0 body.tasks) = all-used P body.tasks 0 body.tasks (λ i j t p at_t at_p.
      let number : i ≡ 0 + i = omega arith in
      all-of-part P body.tasks (0 + i) p (λ n delay writer port at is_read.
      subst (λ m. P (record { writer = index_of (task_names body.tasks) writer; reader = m; delay = delay })) number
      (each i j t n delay writer port at at_t (at_p ∙ ap (λ (q : Part). Some q) is_read)))) in
      subst (All P) (sym is.links) (all-firsts P (links_used body.tasks 0 body.tasks) every)

  reads-are : (i : ℕ) (raw : RawTask) (t : Task) → slice_get body.tasks i ≡ Some raw → slice_get d.tasks i ≡ Some t → flat_map (read_of body.tasks i) raw.parts ≡ t.reads
  reads-are i raw t at_raw at_t = ap (λ u. u.reads) (sym (is.tasks i raw t at_raw at_t).is)

  -- what holds of the read of each read line holds of each read
  all-reads : (P : Read → Type 0) (i : ℕ) (raw : RawTask) (t : Task) → slice_get body.tasks i ≡ Some raw → slice_get d.tasks i ≡ Some t
      → ((j : ℕ) (n : List ℕ) (delay : ℕ) (writer port : List ℕ) (at : ℕ) → slice_get raw.parts j ≡ Some (part.Read n delay writer port at)
      → All P (read_of body.tasks i (part.Read n delay writer port at))) → All P t.reads
  all-reads P i raw t at_raw at_t each =
      subst (All P) (reads-are i raw t at_raw at_t) (all-made P (read_of body.tasks i) raw.parts (λ j p at_p.
      all-of-reads P body.tasks i p (λ n delay writer port at is_read. each j n delay writer port at (at_p ∙ ap (λ (q : Part). Some q) is_read))))

  pub reads : sum_by (λ t. length t.reads) d.tasks ≤ MAX_READ_LINES
  reads =
      let same : sum_by (λ t. length t.reads) d.tasks ≡ sum_by (λ t. count_by is_read_part t.parts) body.tasks =
      same-sums (λ t. length t.reads) (λ t. count_by is_read_part t.parts) d.tasks body.tasks is.count (λ i t raw at_t at_raw.
      ap length (sym (reads-are i raw t at_raw at_t))
      ∙ length-flat_map (read_of body.tasks i) raw.parts ∙ ap (λ f. sum_by f raw.parts) (λ k p. read-count body.tasks i p k)) in
      omega (arith, same, printable.links)

  pub links : length d.links ≤ MAX_READ_LINES
  links = omega (arith, ap length is.links, firsts-few (links_used body.tasks 0 body.tasks), used-count body.tasks 0 body.tasks, printable.links)

  pub ends : All (λ l. (l.writer < length d.tasks) × (l.reader < length d.tasks) × (l.writer ≢ l.reader)) d.links
  ends = all-links (λ l. (l.writer < length d.tasks) × (l.reader < length d.tasks) × (l.writer ≢ l.reader)) (λ i j t n delay writer port at at_t at_p.
      let line = read-line i j t n delay writer port at at_t at_p in
      let below : index_of (task_names body.tasks) writer < length d.tasks = omega (arith, slice_get_within body.tasks _ line.source.task line.source.at, is.count) in
      let reader : i < length d.tasks = omega (arith, slice_get_within body.tasks i t at_t, is.count) in
      (below, reader, line.other))

  pub delays : All (λ l. l.delay ≤ max_delay) d.links
  delays = all-links (λ l. l.delay ≤ max_delay) (λ i j t n delay writer port at at_t at_p. (read-line i j t n delay writer port at at_t at_p).few)

  pub one_link : AllPairs (λ k l. k ≢ l) d.links
  one_link = subst (AllPairs (λ k l. k ≢ l)) (sym is.links) (firsts-differ (links_used body.tasks 0 body.tasks))

  -- the number of a read line's link
  link-there : (i j : ℕ) (t : RawTask) (n : List ℕ) (delay : ℕ) (writer port : List ℕ) (at : ℕ) → slice_get body.tasks i ≡ Some t → slice_get t.parts j ≡ Some (part.Read n delay writer port at)
      → link_number (links_of body.tasks) (record { writer = index_of (task_names body.tasks) writer; reader = i; delay = delay }) < length d.links
  link-there i j t n delay writer port at at_t at_p =
      let l : Link = record { writer = index_of (task_names body.tasks) writer; reader = i; delay = delay } in
      let Kept = λ (m : Link). list_any (λ k. is_same_link k m) (links_of body.tasks) ≡ true in
      let one = used-by-one Kept body.tasks 0 body.tasks i j t (part.Read n delay writer port at) at_t at_p (firsts-have (links_used body.tasks 0 body.tasks)) in
      let number : 0 + i ≡ i = omega arith in
      let kept : Kept l = subst (λ m. Kept (record { writer = index_of (task_names body.tasks) writer; reader = m; delay = delay })) number (All-head Kept _ [] one) in
      omega (arith, first-below (λ k. is_same_link k l) (links_of body.tasks) kept, ap length is.links)

  pub linked : (i : ℕ) (t : Task) → slice_get d.tasks i ≡ Some t → All (λ r. r.link < length d.links) t.reads
  linked i t at_t =
      let raw = raw-at body d is i t at_t in
      all-reads (λ r. r.link < length d.links) i raw.0 t raw.1 at_t (λ j n delay writer port at at_p.
      All-cons (λ r. r.link < length d.links) _ [] (link-there i j raw.0 n delay writer port at raw.1 at_p) (All-nil (λ r. r.link < length d.links)))

  -- the link at a read line's number is its link
  link-is : (l m : Link) → slice_get d.links (link_number (links_of body.tasks) l) ≡ Some m → m ≡ l
  link-is l m at = same-links m l (first-passes (λ k. is_same_link k l) (links_of body.tasks) m (ap (λ ks. slice_get ks (link_number (links_of body.tasks) l)) (sym is.links) ∙ at))

  pub own : (i : ℕ) (t : Task) (r : Read) (l : Link) (j : ℕ) → slice_get d.tasks i ≡ Some t → slice_get t.reads j ≡ Some r → slice_get d.links r.link ≡ Some l → l.reader ≡ i
  own i t r l j at_t at_r at_l =
      let raw = raw-at body d is i t at_t in
      let Owned = λ (q : Read). (m : Link) → slice_get d.links q.link ≡ Some m → m.reader ≡ i in
      let each : All Owned t.reads = all-reads Owned i raw.0 t raw.1 at_t (λ j n delay writer port at at_p.
      All-cons Owned _ [] (λ m at_m. ap (λ k. k.reader) (link-is _ m at_m)) (All-nil Owned)) in
      all_place Owned t.reads j r each at_r l at_l

  -- the number of a read line's port
  port-there : (i j : ℕ) (t : RawTask) (n : List ℕ) (delay : ℕ) (writer port : List ℕ) (at : ℕ) (v : Task) → slice_get body.tasks i ≡ Some t → slice_get t.parts j ≡ Some (part.Read n delay writer port at)
      → slice_get d.tasks (index_of (task_names body.tasks) writer) ≡ Some v → index_of (port_names body.tasks writer) port < length v.outs
  port-there i j t n delay writer port at v at_t at_p at_v =
      let line = read-line i j t n delay writer port at at_t at_p in
      let ps = line.source.task.parts in
      let outs : length v.outs ≡ length (flat_map (out_of (env_names ps)) ps) = ap (λ u. length u.outs) (is.tasks _ line.source.task v line.source.at at_v).is in
      let same : length (flat_map (out_of (env_names ps)) ps) ≡ length (flat_map out_name ps) =
      length-flat_map (out_of (env_names ps)) ps ∙ ap (λ f. sum_by f ps) (λ k p. outs-alike (env_names ps) p k) ∙ sym (length-flat_map out_name ps) in
      let below : index_of (port_names body.tasks writer) port < length (port_names body.tasks writer) = first-below (λ m. bytes_eq m port) (port_names body.tasks writer) line.among in
      omega (arith, outs, same, below, ap length line.source.outs)

  pub ports : (t w : Task) (r : Read) (l : Link) (i j : ℕ) → slice_get d.tasks i ≡ Some t → slice_get t.reads j ≡ Some r → slice_get d.links r.link ≡ Some l → slice_get d.tasks l.writer ≡ Some w → r.port < length w.outs
  ports t w r l i j at_t at_r at_l at_w =
      let raw = raw-at body d is i t at_t in
      let Ported = λ (q : Read). (m : Link) (v : Task) → slice_get d.links q.link ≡ Some m → slice_get d.tasks m.writer ≡ Some v → q.port < length v.outs in
      let each : All Ported t.reads = all-reads Ported i raw.0 t raw.1 at_t (λ j n delay writer port at at_p.
      All-cons Ported _ [] (λ m v at_m at_v.
      port-there i j raw.0 n delay writer port at v raw.1 at_p (ap (slice_get d.tasks) (ap (λ k. k.writer) (sym (link-is _ m at_m))) ∙ at_v)) (All-nil Ported)) in
      all_place Ported t.reads j r each at_r l w at_l at_w

  -- a read has the number of a read line's link
  read-used : (i j : ℕ) (t : RawTask) (n : List ℕ) (delay : ℕ) (writer port : List ℕ) (at : ℕ) → slice_get body.tasks i ≡ Some t → slice_get t.parts j ≡ Some (part.Read n delay writer port at)
      → list_any (λ u. list_any (λ r. r.link == link_number (links_of body.tasks) (record { writer = index_of (task_names body.tasks) writer; reader = i; delay = delay })) u.reads) d.tasks ≡ true
  read-used i j t n delay writer port at at_t at_p =
      let number = link_number (links_of body.tasks) (record { writer = index_of (task_names body.tasks) writer; reader = i; delay = delay }) in
      let test = λ (r : Read). r.link == number in
      let u = task-at body d is i t at_t in
      let one : list_any test (flat_map (read_of body.tasks i) t.parts) ≡ true =
      any-made test (read_of body.tasks i) t.parts j (part.Read n delay writer port at) at_p (or_left (number == number) false (eq-eqb number number refl)) in
      any-at (λ (v : Task). list_any test v.reads) d.tasks i u.0 u.1 (ap (list_any test) (sym (reads-are i t u.0 at_t u.1)) ∙ one)

  pub used : (k : ℕ) → k < length d.links → IsTrue (list_any (λ t. list_any (λ r. r.link == k) t.reads) d.tasks)
  used k below =
      let Used = λ (m : Link). list_any (λ t. list_any (λ r. r.link == link_number (links_of body.tasks) m) t.reads) d.tasks ≡ true in
      let each : All Used d.links = all-links Used read-used in
      let l = at_place d.links k below in
      let at : slice_get (links_of body.tasks) k ≡ Some l.0 = ap (λ ks. slice_get ks k) (sym is.links) ∙ l.1 in
      let number : link_number (links_of body.tasks) l.0 ≡ k = number-is (links_of body.tasks) k l.0 (firsts-differ (links_used body.tasks 0 body.tasks)) at in
      subst (λ m. list_any (λ t. list_any (λ r. r.link == m) t.reads) d.tasks ≡ true) number (all_place Used d.links k l.0 each l.1)
