-- The claims of the task are those at its index.
use Rattle.std.proofs.Common.{◌≡◌, ◌++◌, List, OnOk, arith, ap, length, subst}
use Rattle.std.proofs.lemmas.List.{length-map}
use Rattle.release_list.specs.declared.release.Release.{Release}
use Rattle.release_list.specs.Releases.{links_into}
use Rattle.release_list.specs.declared.release.Release.TheVariants.{Claim}
use Rattle.release_list.proofs.IntoLinks.{claims_found, into_few}
use Rattle.release_list.proofs.release.push_claims_into.Goals as goal

pub extend_from_slice-requires : goal.extend_from_slice-requires
extend_from_slice-requires c =
    let found = claims_found c.args.links.now c.args.claims.now c.args.task c.index-claims-task.result c.items.result.now c.items.ensures.value c.index-claims-task.is c.requires.claims c.requires.task in
    let into = links_into c.args.links.now c.args.task in
    omega (arith, c.requires.room, ap length found, length-map into Claim, into_few c.args.links.now c.args.task (length c.args.links.now))

pub returns : goal.returns
returns c =
    let found = claims_found c.args.links.now c.args.claims.now c.args.task c.index-claims-task.result c.items.result.now c.items.ensures.value c.index-claims-task.is c.requires.claims c.requires.task in
    subst (λ (l : List Release). OnOk c.extend_from_slice.result (c.extend_from_slice.new.self ≡ c.args.list.now ++ l)) found c.extend_from_slice.ensures.ok
