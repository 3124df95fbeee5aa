-- One link more.
use Rattle.std.proofs.Common.{◌≡◌, ◌≢◌, ◌∙◌, ◌+◌, ◌++◌, ◌∷◌, [], List, ℕ, ap, sym, arith, length, map}
use Rattle.std.proofs.lemmas.List.{length-map, map-append}
use Rattle.dbp_plan.specs.declared.diagram.Link.{Link}
use Rattle.dbp_plan.specs.Lookups.{link_at}
use Rattle.release_list.specs.declared.release.Release.{Release}
use Rattle.release_list.specs.Releases.{into_among}
use Rattle.release_list.specs.declared.release.Release.TheVariants.{Claim}
use Rattle.release_list.proofs.IntoLinks.{into_few, one_more, no_more}
use Rattle.release_list.proofs.release.task_claims.Goals.{then-items-link+in_ok-push, else-items-link}
use Rattle.release_list.proofs.release.task_claims.Goals as goal

pub push-requires : goal.push-requires
push-requires c =
    let into = into_among c.args.links.now c.args.task c.loop-link.link in
    omega (arith, ap length c.loop-link.invariant, length-map into Claim, into_few c.args.links.now c.args.task c.loop-link.link)

-- the link is into the task, or it isn't
claimed : (links : List Link) (task n : ℕ) (claims : List Release) → claims ≡ map Claim (into_among links task n) → (link_at links n).reader ≡ task → claims ++ Claim n ∷ [] ≡ map Claim (into_among links task (n + 1))
claimed links task n claims so_far is =
    ap (λ l. l ++ Claim n ∷ []) so_far
    ∙ sym (map-append Claim (into_among links task n) (n ∷ []))
    ∙ ap (map Claim) (sym (one_more links task n is))

passed : (links : List Link) (task n : ℕ) (claims : List Release) → claims ≡ map Claim (into_among links task n) → (link_at links n).reader ≢ task → claims ≡ map Claim (into_among links task (n + 1))
passed links task n claims so_far isnt = so_far ∙ ap (map Claim) (sym (no_more links task n isnt))

pub loop-link-preserved : goal.loop-link-preserved
loop-link-preserved c =
    elim c.if-items-link.branch [
      | then-items-link+in_ok-push w ↦
          w.claims-is ∙ w.in_ok-push.ensures.ok ∙ claimed c.args.links.now c.args.task c.loop-link.link c.loop-link.claims c.loop-link.invariant (rw c.items.ensures.value at w.if-items-link.true)
      | else-items-link w ↦
          w.claims-is ∙ passed c.args.links.now c.args.task c.loop-link.link c.loop-link.claims c.loop-link.invariant (rw c.items.ensures.value at w.if-items-link.false)
    ]
