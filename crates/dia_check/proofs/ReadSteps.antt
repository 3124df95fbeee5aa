-- Going over the read lines of all tasks, with the links so far.
use Rattle.std.proofs.Common.{◌≡◌, ℕ, ◌+◌, ◌<◌, true, List, [], ◌∷◌, ◌++◌, length, take, drop, get_or, slice_get, Some, None, sym, ap, ◌∙◌, arith, length-take}
use Rattle.std.specs.List.{flat_map, list_any}
use Rattle.std.proofs.lemmas.List.{append_assoc, flat_map_more, take_all, take-append-drop}
use Rattle.std.proofs.lemmas.Grind.{flat_map-append}
use Rattle.std.proofs.lemmas.Option.{slice_get_within, get_or_from_slice_get}
use Rattle.dbp_plan.specs.declared.diagram.Link.{Link}
use Rattle.dbp_plan.specs.declared.diagram.Read.{Read}
use Rattle.dbp_plan.proofs.ListParts.{split-at, take-next}
use Rattle.dia_lines.specs.declared.item.Part.{Part}
use Rattle.dia_lines.specs.declared.item.Part.TheVariants as part
use Rattle.dia_read.specs.declared.document.Body.{Body}
use Rattle.dia_read.specs.declared.document.RawTask.{RawTask}
use Rattle.dia_check.specs.Diagrams.{firsts, is_same_link, link_number, link_of, links_of, links_used}
use Rattle.dia_check.specs.Faults.{part_fault}
use Rattle.dia_check.specs.Scopes.{IsKnownRead}
use Rattle.dia_check.proofs.LinkLists.{number-stays}
use Rattle.dia_check.proofs.LinkLaws.{known-read, links-used-add, links_used-append}

-- a line without a fault names an out that is there
pub known-part : (body : Body) (t : RawTask) (before : List Part) (p : Part) → part_fault body t before p ≡ None → IsKnownRead body.tasks p
known-part body t before (part.Read n delay writer port at) none = known-read body t before n delay writer port at none
known-part body t before (part.State n v) none = tt
known-part body t before (part.Sense n i) none = tt
known-part body t before (part.Let n e) none = tt
known-part body t before (part.Next n e) none = tt
known-part body t before (part.Out n v e) none = tt

module _ (tasks : List RawTask) (i : ℕ) (t : RawTask) (at : slice_get tasks i ≡ Some t) where
  -- the links that are used before this line of the task's body
  abbrev pub used_before : ℕ → List Link
  used_before k = links_used tasks 0 (take i tasks) ++ flat_map (link_of tasks i) (take k t.parts)

  pub used-whole : used_before (length t.parts) ≡ links_used tasks 0 (take (i + 1) tasks)
  used-whole =
      let below : i < length tasks = slice_get_within tasks i t at in
      let is : t ≡ get_or tasks i t = sym (get_or_from_slice_get tasks i t t at) in
      let number : 0 + i ≡ i = omega arith in
      let all : take (length t.parts) t.parts ≡ t.parts = take_all (length t.parts) t.parts (omega arith) in
      ap (λ (ps : List Part). links_used tasks 0 (take i tasks) ++ flat_map (link_of tasks i) ps) all
      ∙ sym (links-used-add tasks 0 tasks i t below is ∙ ap (λ (n : ℕ). links_used tasks 0 (take i tasks) ++ flat_map (link_of tasks n) t.parts) number)

  module _ (k : ℕ) (p : Part) (below : k < length t.parts) (is : p ≡ get_or t.parts k p) where
    pub used-next : used_before k ++ link_of tasks i p ≡ used_before (k + 1)
    used-next =
        flat_map_more (link_of tasks i) (links_used tasks 0 (take i tasks)) (take k t.parts) p
        ∙ ap (λ (ps : List Part). links_used tasks 0 (take i tasks) ++ flat_map (link_of tasks i) ps) (sym (take-next t.parts k p below is))

    -- the links that are used after it
    abbrev pub used_after : List Link
    used_after = flat_map (link_of tasks i) (drop (k + 1) t.parts) ++ links_used tasks (i + 1) (drop (i + 1) tasks)

    pub used-parts : links_used tasks 0 tasks ≡ (used_before k ++ link_of tasks i p) ++ used_after
    used-parts =
        let front = links_used tasks 0 (take i tasks) in
        let inside : i < length tasks = slice_get_within tasks i t at in
        let one : t ≡ get_or tasks i t = sym (get_or_from_slice_get tasks i t t at) in
        let whole : tasks ≡ take i tasks ++ t ∷ drop (i + 1) tasks = sym (take-append-drop i tasks) ∙ ap (λ ts. take i tasks ++ ts) (split-at tasks i t inside one) in
        let number : 0 + length (take i tasks) ≡ i = omega (arith, length-take i tasks, inside) in
        let body : t.parts ≡ take (k + 1) t.parts ++ drop (k + 1) t.parts = sym (take-append-drop (k + 1) t.parts) in
        let rest = links_used tasks (i + 1) (drop (i + 1) tasks) in
        let these : flat_map (link_of tasks i) t.parts ≡ flat_map (link_of tasks i) (take (k + 1) t.parts) ++ flat_map (link_of tasks i) (drop (k + 1) t.parts) =
        ap (flat_map (link_of tasks i)) body ∙ flat_map-append (link_of tasks i) (take (k + 1) t.parts) (drop (k + 1) t.parts) in
        ap (links_used tasks 0) whole
        ∙ links_used-append tasks 0 (take i tasks) (t ∷ drop (i + 1) tasks)
        ∙ ap (λ (n : ℕ). front ++ links_used tasks n (t ∷ drop (i + 1) tasks)) number
        ∙ ap (λ ls. front ++ (ls ++ rest)) these
        ∙ ap (λ ls. front ++ ls) (append_assoc (flat_map (link_of tasks i) (take (k + 1) t.parts)) (flat_map (link_of tasks i) (drop (k + 1) t.parts)) rest)
        ∙ sym (append_assoc front (flat_map (link_of tasks i) (take (k + 1) t.parts)) used_after)
        ∙ ap (λ ls. ls ++ used_after) (sym used-next)

-- a link that is added keeps its number
pub kept-number : (tasks : List RawTask) (used more new : List Link) (l m : Link) → l ≡ m → new ≡ firsts (used ++ l ∷ []) → list_any (λ k. is_same_link k l) new ≡ true
    → links_used tasks 0 tasks ≡ (used ++ m ∷ []) ++ more → link_number new l ≡ link_number (links_of tasks) m
kept-number tasks used more new l m same is there whole =
    let made : new ≡ firsts (used ++ m ∷ []) = is ∙ ap (λ k. firsts (used ++ k ∷ [])) same in
    let known : list_any (λ k. is_same_link k m) (firsts (used ++ m ∷ [])) ≡ true = (λ j. list_any (λ k. is_same_link k (sym same j)) (sym made j)) ∙ there in
    (λ j. link_number (made j) (same j)) ∙ sym (number-stays (used ++ m ∷ []) more m known) ∙ ap (λ ks. link_number (firsts ks) m) (sym whole)

pub reads-next : (f : Part → List Read) (parts : List Part) (k : ℕ) (p : Part) (reads later made : List Read) → k < length parts → p ≡ get_or parts k p
    → reads ≡ flat_map f (take k parts) → made ≡ f p → later ≡ reads ++ made → later ≡ flat_map f (take (k + 1) parts)
reads-next f parts k p reads later made below is so_far one next =
    next ∙ (λ j. so_far j ++ one j) ∙ flat_map_more f [] (take k parts) p ∙ ap (flat_map f) (sym (take-next parts k p below is))
