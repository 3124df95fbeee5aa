-- What a plan's own wiring says of its links and reads, and what the plan's schedule says in the wiring's words.
use Rattle.std.proofs.Common.{◌≡◌, ◌≢◌, ℕ, ◌+◌, ◌<◌, ◌≤◌, true, List, length, get_or, slice_get, Some, sym, ◌∙◌, ap, subst, arith, inl, inr}
use Rattle.std.specs.Prelude.{◌==◌}
use Rattle.std.specs.List.{position_or_len}
use Rattle.std.proofs.lemmas.Bool.{cases_eq}
use Rattle.std.proofs.lemmas.Option.{slice_get-get_or}
use Rattle.dbp_plan.specs.declared.diagram.Link.{Link}
use Rattle.dbp_plan.specs.declared.diagram.Read.{Read}
use Rattle.dbp_plan.specs.declared.diagram.Task.{Task}
use Rattle.dbp_plan.specs.declared.plan.Plan.{Plan}
use Rattle.dbp_plan.specs.Closed.{IsClosed}
use Rattle.dbp_plan.specs.Lookups.{link_at, no_link, declared_task, no_declared_task, no_read}
use Rattle.dbp_plan.proofs.RankLaws.{kept-rank, ranks-apart}
use Rattle.release_list.specs.Releases.{links_into}
use Rattle.release_list.specs.Schedule.{aims, claims, opens, seen_by}
use Rattle.release_list.specs.declared.release.Release.TheVariants.{Claim}
use Rattle.dbp_rules.specs.declared.step.Count.{Count}
use Rattle.dbp_rules.specs.declared.wiring.ReadWiring.{ReadWiring}
use Rattle.dbp_rules.specs.declared.wiring.TaskWiring.{TaskWiring}
use Rattle.dbp_rules.specs.declared.wiring.Wiring.{Wiring}
use Rattle.dbp_rules.specs.Lookups.{link, read_at, wired_task}
use Rattle.dbp_rules.specs.Shapes.{IsWired, link_in}
use Rattle.dbp_rules.specs.SoundParts.{read_of}
use Rattle.dbp_rules.specs.Wired.{in_turn, is_sooner, read_wiring, task_wiring, turn_of, wiring_of}
use Rattle.dbp_rules.proofs.IntoTask.{into_reader, link_below, link_into, link_place, link_there}
use Rattle.dbp_rules.proofs.Turns.{numbered_read, read_of_turn, turn_again, turn_apart, turn_below, turns_rise}
use Rattle.dbp_rules.proofs.Wirings.{turn, wiring-whole}
use Rattle.dbp_rules.proofs.WiringParts.{wired_is}

-- the read whose turn this is: its order is that of its link, which goes to the task
pub record IsOwnRead (p : Plan) (w : Wiring) (i n : ℕ) : Type 0 where
  pub place : ℕ
  pub order : (read_at (wired_task w i) n).order ≡ place + 1
  pub few : place < length (wired_task w i).links
  pub there : link_in (wired_task w i) place ≡ (read_of p w i n).link
  pub below : (read_of p w i n).link < length w.links
  pub reader : (link w (read_of p w i n).link).reader ≡ i
  pub writer : (read_at (wired_task w i) n).writer ≡ (link w (read_of p w i n).link).writer
  pub port : (read_at (wired_task w i) n).port ≡ (read_of p w i n).port

-- the wiring is whole, no link goes to its writer, a link into a task goes to it, and so do those of its reads
pub record IsOwn (p : Plan) (w : Wiring) : Type 0 where
  pub whole : IsWired p w
  pub apart : (k : ℕ) → k < length w.links → (link w k).writer ≢ (link w k).reader
  pub into : (i n : ℕ) → i < length w.tasks → n < length (wired_task w i).links → (link w (link_in (wired_task w i) n)).reader ≡ i
  pub reads : (i n : ℕ) → i < length w.tasks → n < length (wired_task w i).reads → IsOwnRead p w i n
  -- each read has a turn
  pub turned : (i j : ℕ) → i < length w.tasks → j < length (declared_task p i).reads → (n : ℕ) × (n < length (wired_task w i).reads) × ((read_at (wired_task w i) n).read ≡ j)
  -- no two tasks have the same rank, and a direct link goes downward
  pub ranks : (i j : ℕ) → i < length w.tasks → j < length w.tasks → i ≢ j → (wired_task w i).rank ≢ (wired_task w j).rank
  pub downward : (k : ℕ) → k < length w.links → (link w k).delay ≡ 0 → (wired_task w (link w k).writer).rank < (wired_task w (link w k).reader).rank
  -- turns with the same read are the same
  pub turns : (i n m : ℕ) → i < length w.tasks → n < length (wired_task w i).reads → m < length (wired_task w i).reads → (read_at (wired_task w i) n).read ≡ (read_at (wired_task w i) m).read → n ≡ m

-- the read that stands at the turn of a read is that read
pub turn_found : (reads : List Read) (j : ℕ) → j < length reads → get_or (in_turn reads) (turn_of reads (j, get_or reads j no_read)) 0 ≡ j
turn_found reads j below =
    let at : slice_get reads j ≡ Some (get_or reads j no_read) = slice_get-get_or reads j no_read below in
    let n : ℕ = turn_of reads (j, get_or reads j no_read) in
    let few : n < length reads = turn_below reads j (get_or reads j no_read) at in
    let k : ℕ = get_or (in_turn reads) n 0 in
    let inside : k < length reads = read_of_turn reads n 0 few in
    let turn : turn_of reads (k, get_or reads k no_read) ≡ n = turn_again reads n few in
    elim (cases_eq k j) [
      | inl same ↦ same
      | inr other ↦ absurd (turn_apart reads k j (get_or reads k no_read) (get_or reads j no_read) (slice_get-get_or reads k no_read inside) at other turn)
    ]

module _ (p : Plan) (count : Count) where
  abbrev o : Wiring
  o = wiring_of p count

  closed : IsClosed p.diagram
  closed = p.rules.ranked.closed

  module _ (i : ℕ) (below : i < length p.diagram.tasks) where
    abbrev t : Task
    t = declared_task p i

    here : slice_get p.diagram.tasks i ≡ Some t
    here = slice_get-get_or p.diagram.tasks i no_declared_task below

    is : wired_task o i ≡ task_wiring p count (i, t)
    is = wired_is p count i below

    read_number : (n : ℕ) → n < length t.reads → (read_at (wired_task o i) n).read ≡ get_or (in_turn t.reads) n 0
    read_number n few = ap (λ (x : TaskWiring). (read_at x n).read) is ∙ ap (λ (x : ReadWiring). x.read) (turn p count i below n few)

    -- the read of an earlier turn is sooner
    pub own_rise : (m n : ℕ) → m < n → n < length t.reads → is_sooner ((read_at (wired_task o i) m).read, read_of p o i m) ((read_at (wired_task o i) n).read, read_of p o i n) ≡ true
    own_rise m n less few =
        let numbered : (k : ℕ) → k < length t.reads → numbered_read t.reads k ≡ ((read_at (wired_task o i) k).read, read_of p o i k) = λ k inside. ap (λ (j : ℕ). (j, get_or t.reads j no_read)) (sym (read_number k inside)) in
        subst (λ (x : ℕ × Read). is_sooner x ((read_at (wired_task o i) n).read, read_of p o i n) ≡ true) (numbered m (omega arith))
        (subst (λ (x : ℕ × Read). is_sooner (numbered_read t.reads m) x ≡ true) (numbered n few) (turns_rise t.reads m n less few))

    own_read : (n : ℕ) → n < length t.reads → IsOwnRead p o i n
    own_read n few =
        let into : List ℕ = links_into p.diagram.links i in
        let m : ℕ = get_or (in_turn t.reads) n 0 in
        let inside : m < length t.reads = read_of_turn t.reads n 0 few in
        let r : Read = get_or t.reads m no_read in
        let at : slice_get t.reads m ≡ Some r = slice_get-get_or t.reads m no_read inside in
        let read : read_at (wired_task o i) n ≡ read_wiring p.diagram.links into t.reads m = ap (λ (x : TaskWiring). read_at x n) is ∙ turn p count i below n few in
        let same : read_of p o i n ≡ r = ap (λ (x : ReadWiring). get_or t.reads x.read no_read) read in
        let links : (wired_task o i).links ≡ into = ap (λ (x : TaskWiring). x.links) is in
        record {
          place = position_or_len (λ k. k == r.link) into;
          order = ap (λ (x : ReadWiring). x.order) read ∙ omega arith;
          few = rw links (link_place p.diagram closed i t here m r at);
          there = ap (λ (ks : List ℕ). get_or ks (position_or_len (λ k. k == r.link) into) 0) links ∙ link_there p.diagram closed i t here m r at ∙ ap (λ (q : Read). q.link) (sym same);
          below = rw same (link_below p.diagram closed i t here m r at);
          reader = rw same (link_into p.diagram closed i t here m r at);
          writer = ap (λ (x : ReadWiring). x.writer) read ∙ ap (λ (q : Read). (link_at p.diagram.links q.link).writer) (sym same);
          port = ap (λ (x : ReadWiring). x.port) read ∙ ap (λ (q : Read). q.port) (sym same);
        }

  pub rank_is : (i : ℕ) → i < length p.diagram.tasks → (wired_task o i).rank ≡ get_or p.diagram.ranks i 0
  rank_is i below = ap (λ (x : TaskWiring). x.rank) (wired_is p count i below)

  pub own_wiring : IsOwn p o
  own_wiring =
      let whole : IsWired p o = wiring-whole p count in
      record {
        whole = whole;
        apart = λ k below. (closed.ends k no_link below).2;
        into = λ i n below few.
            let there : i < length p.diagram.tasks = omega (arith, below, whole.tasks) in
            let links : (wired_task o i).links ≡ links_into p.diagram.links i = ap (λ (x : TaskWiring). x.links) (wired_is p count i there) in
            let inside : n < length (links_into p.diagram.links i) = omega (arith, few, ap length links) in
            ap (λ (ks : List ℕ). (link_at p.diagram.links (get_or ks n 0)).reader) links ∙ into_reader p.diagram.links i n 0 inside;
        reads = λ i n below few.
            let there : i < length p.diagram.tasks = omega (arith, below, whole.tasks) in
            own_read i there n (omega (arith, few, (whole.each_task i below).reads));
        turned = λ i j below inside.
            let there : i < length p.diagram.tasks = omega (arith, below, whole.tasks) in
            let reads : List Read = (declared_task p i).reads in
            let n : ℕ = turn_of reads (j, get_or reads j no_read) in
            let few : n < length reads = turn_below reads j (get_or reads j no_read) (slice_get-get_or reads j no_read inside) in
            (n, omega (arith, few, (whole.each_task i below).reads), read_number i there n few ∙ turn_found reads j inside);
        ranks = λ i j below less other.
            let first : i < length p.diagram.tasks = omega (arith, below, whole.tasks) in
            let second : j < length p.diagram.tasks = omega (arith, less, whole.tasks) in
            let apart : get_or p.diagram.ranks i 0 ≢ get_or p.diagram.ranks j 0 =
            ranks-apart p.diagram.policy p.diagram.tasks i j (get_or p.diagram.ranks i 0) (get_or p.diagram.ranks j 0) other (kept-rank p.diagram i p.rules.ranked first) (kept-rank p.diagram j p.rules.ranked second) in
            λ same. apart (sym (rank_is i first) ∙ same ∙ rank_is j second);
        downward = λ k below direct.
            let ends = closed.ends k no_link below in
            let lower : get_or p.diagram.ranks (link_at p.diagram.links k).writer 0 < get_or p.diagram.ranks (link_at p.diagram.links k).reader 0 = p.rules.ranked.downward k no_link below direct in
            rw (rank_is (link_at p.diagram.links k).writer ends.0, rank_is (link_at p.diagram.links k).reader ends.1) lower;
        turns = λ i n m below few less same.
            let there : i < length p.diagram.tasks = omega (arith, below, whole.tasks) in
            let reads : List Read = (declared_task p i).reads in
            let size : length (wired_task o i).reads ≡ length reads = (whole.each_task i below).reads in
            let numbers : get_or (in_turn reads) n 0 ≡ get_or (in_turn reads) m 0 = sym (read_number i there n (omega arith)) ∙ same ∙ read_number i there m (omega arith) in
            sym (turn_again reads n (omega arith)) ∙ ap (λ (k : ℕ). turn_of reads (k, get_or reads k no_read)) numbers ∙ turn_again reads m (omega arith);
      }

-- ---- the schedule, in the wiring's words

-- at a claim the reader's instance is aimed and not opened, and the writer is aimed as often as the instance sees
pub record ClaimPlace (p : Plan) (w : Wiring) (place k : ℕ) : Type 0 where
  pub claimed : claims w.releases place k + 1 ≡ aims w.releases place (link w k).reader
  pub opened : opens w.releases place (link w k).reader + 1 ≡ aims w.releases place (link w k).reader
  pub seen : seen_by w.links p.batches k (aims w.releases place (link w k).reader) ≡ aims w.releases place (link w k).writer

module _ (p : Plan) (w : Wiring) (whole : IsWired p w) where
  pub opens_claims : (place k : ℕ) → k < length w.links → opens w.releases place (link w k).reader ≤ claims w.releases place k
  opens_claims place k = subst (λ (ls : List Link). k < length ls → opens w.releases place (link_at ls k).reader ≤ claims w.releases place k) (sym whole.links) (whole.releases.opens_claims place k)

  pub claims_aims : (place k : ℕ) → k < length w.links → claims w.releases place k ≤ aims w.releases place (link w k).reader
  claims_aims place k = subst (λ (ls : List Link). k < length ls → claims w.releases place k ≤ aims w.releases place (link_at ls k).reader) (sym whole.links) (whole.releases.claims_aims place k)

  pub seen_aims : (place k : ℕ) → k < length w.links → seen_by w.links p.batches k (claims w.releases place k) ≤ aims w.releases place (link w k).writer
  seen_aims place k = subst (λ (ls : List Link). k < length ls → seen_by ls p.batches k (claims w.releases place k) ≤ aims w.releases place (link_at ls k).writer) (sym whole.links) (whole.releases.seen place k)

  pub claim_place : (place k : ℕ) → slice_get w.releases place ≡ Some (Claim k) → ClaimPlace p w place k
  claim_place place k here =
      let at = whole.releases.at_claim place k here in
      let same : w.links ≡ p.diagram.links = whole.links in
      record {
        claimed = subst (λ (ls : List Link). claims w.releases place k + 1 ≡ aims w.releases place (link_at ls k).reader) (sym same) at.claimed;
        opened = subst (λ (ls : List Link). opens w.releases place (link_at ls k).reader + 1 ≡ aims w.releases place (link_at ls k).reader) (sym same) at.opened;
        seen = subst (λ (ls : List Link). seen_by ls p.batches k (aims w.releases place (link_at ls k).reader) ≡ aims w.releases place (link_at ls k).writer) (sym same) at.seen;
      }
