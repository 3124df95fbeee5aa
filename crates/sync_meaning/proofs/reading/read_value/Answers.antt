use Rattle.std.proofs.Common.{◌≡◌, ◌<◌, ◌-◌, ℕ, ℤ, pos, List, length, get_or, arith, sym, ap, ◌∙◌, subst, rules, w64}
use Rattle.std.specs.Prelude.{slice_index}
use Rattle.std.proofs.lemmas.Int.{to_z-of_z}
use Rattle.std.proofs.lemmas.Option.{get_or_from_slice_get, slice_get_within}
use Rattle.dbp_plan.specs.declared.diagram.Link.{Link}
use Rattle.dbp_plan.specs.declared.diagram.Read.{Read}
use Rattle.dbp_plan.specs.declared.table.Table.{Table}
use Rattle.dbp_plan.specs.Table.{IsRow}
use Rattle.sync_meaning.specs.Meaning.{IsRead}
use Rattle.sync_meaning.proofs.Tables.{one_row}
use Rattle.sync_meaning.proofs.reading.read_value.Goals as goal
use mir.Val.{to_z, of_z}

-- the row, by the link that the code reads
is_row : {links : List Link} {table : Table} {read : Read} {value : ℤ} (named : List ℕ) (d : Link) (number : ℕ) (r : IsRead links (slice_index named) table read value)
    → number ≡ get_or named (get_or links read.link d).writer 0 - (get_or links read.link d).delay → IsRow table (get_or links read.link d).writer number r.row
is_row {links} {table} {read} named d number r is =
    let link : get_or links read.link d ≡ r.link = get_or_from_slice_get links read.link r.link d r.has_link in
    let same : number ≡ get_or named r.link.writer 0 - r.link.delay = is ∙ ap (λ (l : Link). get_or named l.writer 0 - l.delay) link in
    subst (λ (l : Link). IsRow table l.writer number r.row) (sym link) (subst (λ n. IsRow table r.link.writer n r.row) (sym same) r.is_row)

pub row-requires : goal.row-requires
row-requires c = (c.requires.there.1.row, is_row c.args.named.now _ _ c.requires.there.1 c.saturating_sub-number.ensures)

pub bounds-row-read : goal.bounds-row-read
bounds-row-read c =
    let same = one_row _ _ _ _ _ c.row.ensures (is_row c.args.named.now _ _ c.requires.there.1 c.saturating_sub-number.ensures) in
    let inside : c.args.read.now.port < length c.requires.there.1.row = slice_get_within _ _ _ c.requires.there.1.has_value in
    omega (arith, inside, ap length same)

pub returns : goal.returns
returns c =
    let there = c.requires.there in
    let same = one_row _ _ _ _ _ c.row.ensures (is_row c.args.named.now _ _ there.1 c.saturating_sub-number.ensures) in
    let shown : to_z w64 (of_z w64 (get_or c.row.result.now c.args.read.now.port (pos 0))) ≡ get_or c.row.result.now c.args.read.now.port (pos 0) = search (rules, to_z-of_z) in
    let value : get_or c.row.result.now c.args.read.now.port (pos 0) ≡ there.0 = ap (λ (l : List ℤ). get_or l c.args.read.now.port (pos 0)) same ∙ get_or_from_slice_get there.1.row c.args.read.now.port there.0 (pos 0) there.1.has_value in
    subst (λ (z : ℤ). IsRead c.args.links.now (slice_index c.args.named.now) c.args.table.now c.args.read.now z) (sym (shown ∙ value)) there.1
