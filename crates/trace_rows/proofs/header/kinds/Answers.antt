use Rattle.std.proofs.Common.{◌≡◌, Some, None, map, ◌++◌, ◌∷◌, [], sym, ap, ◌∙◌, arith}
use Rattle.std.proofs.lemmas.List.{map-append}
use Rattle.csv.specs.Records.{field_at, fields_of}
use Rattle.trace_rows.specs.Headers.{kind_of_column}
use Rattle.trace_rows.proofs.HeaderColumns.{columns_before, at-place, some-place, one-more}
use Rattle.trace_rows.proofs.header.kinds.Goals as goal
use Rattle.trace_rows.proofs.header.kinds.Goals.{in-Some+in_ok-push, in_default}

pub loop-place-preserved : goal.loop-place-preserved
loop-place-preserved c =
    let fields = fields_of c.args.header.now in
    let place = c.loop-place.place in
    elim c.match-get.branch [
      | in-Some+in_ok-push w ↦
          let name = w.in-Some.name.now in
          let there : Some name ≡ field_at fields place = rw w.in-Some.is at c.get.ensures.value in
          let at = at-place fields place name there in
          let added = w.in_ok-push.ensures.items in
          ap (λ v. v.items) w.kinds-is ∙ added
          ∙ ap (λ kinds. kinds ++ w.kind_of_column.result ∷ []) c.loop-place.invariant
          ∙ ap (λ kind. map (kind_of_column c.args.inputs.now) (columns_before fields place) ++ kind ∷ []) w.kind_of_column.ensures
          ∙ sym (ap (map (kind_of_column c.args.inputs.now)) (one-more fields place name (omega arith) at.0 at.1) ∙ map-append (kind_of_column c.args.inputs.now) (columns_before fields place) (name ∷ []))
      | in_default w ↦
          let none : None ≡ field_at fields place = rw w.in_default.is at c.get.ensures.value in
          absurd (cc (none, some-place fields place (omega arith)))
    ]
