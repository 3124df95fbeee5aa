-- What a book's step needs of its part, and that the part stays a releaser's part.
use Rattle.std.proofs.Common.{◌≡◌, ℕ, ◌+◌, ◌<◌, ◌^◌, List, length, Some, None, sym, ap, subst, arith}
use Rattle.dbp_plan.specs.declared.plan.Plan.{Plan}
use Rattle.dbp_plan.specs.declared.diagram.Link.{Link}
use Rattle.dbp_rules.specs.PartyRules.{a_number, releaser_after, releaser_refusal}
use Rattle.dbp_rules.specs.PartyShapes.{ReleaserLoads, ReleaserShape}
use Rattle.dbp_rules.specs.Lookups.{entry_in, link, wired_task}
use Rattle.dbp_rules.specs.Rules.{IsNamed, IsNamedWithin}
use Rattle.dbp_rules.specs.Shapes.{IsTaskWired, IsWired}
use Rattle.dbp_rules.specs.Start.{start_releaser}
use Rattle.dbp_rules.specs.Wired.{wiring_of}
use Rattle.std.proofs.lemmas.Option.{same_Some}
use Rattle.dbp_rules.specs.declared.parts.ReleaserPart.{ReleaserPart}
use Rattle.dbp_rules.specs.declared.step.Count.TheVariants.{All}
use Rattle.dbp_rules.specs.declared.step.Step.{Step}
use Rattle.dbp_rules.specs.declared.step.Step.TheVariants as step
use Rattle.dbp_rules.specs.declared.wiring.Wiring.{Wiring}
use Rattle.dbp_rules.proofs.Parties.{first_releaser_in_shape}
use Rattle.dbp_rules.proofs.PartKept.{releaser_part_kept}
use Rattle.dbp_rules.proofs.Wirings.{wiring-whole}
use Rattle.release_book.specs.Books.{IsBookOf}
use Rattle.release_book.specs.declared.book.Book.{Book}
use Rattle.release_book.specs.NextStep.{IsNextStep, MayHear, step_of}
use Rattle.release_book.specs.Releasers.{IsReleaserIn}
use Rattle.release_book.specs.declared.release_step.ReleaseStep.{ReleaseStep}
use Rattle.release_book.specs.declared.release_step.ReleaseStep.TheVariants.{Seen, Aim, Claim, OpenGate, Finished}
use Rattle.release_book.proofs.NextSteps.{MayMake, may_make}

-- what is heard for the step is what its rule loads
loads : (r : ReleaserPart) (e : ReleaseStep) (a : Step) (heard : ℕ) → step_of e ≡ Some a → MayHear r e heard → ReleaserLoads r a (a_number heard)
loads r (Seen i) a heard is hears = subst (λ (x : Step). ReleaserLoads r x (a_number heard)) (same_Some (step.Seen i) a is) hears
loads r (Aim i slot) a heard is hears = subst (λ (x : Step). ReleaserLoads r x (a_number heard)) (same_Some (step.Aim i slot) a is) tt
loads r (Claim k) a heard is hears = subst (λ (x : Step). ReleaserLoads r x (a_number heard)) (same_Some (step.Claim k) a is) tt
loads r (OpenGate i) a heard is hears = subst (λ (x : Step). ReleaserLoads r x (a_number heard)) (same_Some (step.OpenGate i) a is) tt
loads r Finished a heard is hears = absurd (cc (is))

-- a plan's own wiring is whole
pub wired_whole : (p : Plan) (w : Wiring) → w ≡ wiring_of p All → IsWired p w
wired_whole p w own = subst (λ (x : Wiring). IsWired p x) (sym own) (wiring-whole p All)

module _ (p : Plan) (b : Book) (own : IsBookOf b p) where
  abbrev w : Wiring
  w = b.wiring

  abbrev r : ReleaserPart
  r = b.part

  whole_wiring : IsWired p w
  whole_wiring = wired_whole p w own

  ok : ReleaserShape p w r
  ok = b.releaser p own

  pub may : (e : ReleaseStep) (a : Step) → IsNextStep (wiring_of p All) r e → step_of e ≡ Some a → MayMake w r a
  may e a next is = may_make p w whole_wiring r ok e a (subst (λ (x : Wiring). IsNextStep x r e) (sym own) next) is

  -- as the plan says it
  pub step_named : (e : ReleaseStep) (a : Step) → IsNextStep (wiring_of p All) r e → step_of e ≡ Some a → IsNamed p.diagram a
  step_named e a next is =
      subst (λ (n : ℕ). IsNamedWithin n (length p.diagram.links) a) whole_wiring.tasks
      (subst (λ (links : List Link). IsNamedWithin (length w.tasks) (length links) a) whole_wiring.links (may e a next is).named)

  pub step_allowed : (e : ReleaseStep) (a : Step) → IsNextStep (wiring_of p All) r e → step_of e ≡ Some a → releaser_refusal (wiring_of p All) r a ≡ None
  step_allowed e a next is = subst (λ (x : Wiring). releaser_refusal x r a ≡ None) own (may e a next is).allowed

  -- ---- what is named is there

  pub task_there : (i : ℕ) → i < length w.tasks → i < length r.tasks
  task_there i inside = omega (arith, inside, ok.entries)

  pub link_there : (k : ℕ) → k < length w.links → k < length r.links
  link_there k inside = omega (arith, inside, ok.links)

  pub writer_there : (k : ℕ) → k < length w.links → (link w k).writer < length r.tasks
  writer_there k inside = task_there (link w k).writer (whole_wiring.writer k inside)

  pub reader_there : (k : ℕ) → k < length w.links → (link w k).reader < length r.tasks
  reader_there k inside = task_there (link w k).reader (whole_wiring.reader k inside)

  pub kept_there : (k : ℕ) → k < length w.links → (link w k).delay < length (entry_in r (link w k).writer).kept + 1
  kept_there k inside = omega (arith, whole_wiring.delay k inside, (ok.each_entry (link w k).writer (whole_wiring.writer k inside)).kept)

  -- ---- numbers fit

  pub place_fits : r.place + 1 < 2 ^ 32
  place_fits = omega (arith, ok.place, whole_wiring.few_releases)

  pub aimed_fits : (i : ℕ) → i < length w.tasks → (entry_in r i).aimed + 1 < 2 ^ 32
  aimed_fits i inside =
      let t : IsTaskWired p w i (wired_task w i) = whole_wiring.each_task i inside in
      omega (arith, ok.aimed i inside, whole_wiring.releases.aims_times r.place i, ap length t.times, t.few)

  -- ---- the part stays one

  pub part_stays : (e : ReleaseStep) (a : Step) (heard : ℕ) → IsNextStep (wiring_of p All) r e → step_of e ≡ Some a → MayHear r e heard → IsReleaserIn w (releaser_after w r a (a_number heard))
  part_stays e a heard next is hears = λ q also.
      let made : MayMake w r a = may e a next is in
      releaser_part_kept q w (wired_whole q w also) r (b.releaser q also) a (a_number heard) made.named made.allowed (loads r e a heard is hears)

-- ---- the first part is one

pub first_part : (w : Wiring) → IsReleaserIn w (start_releaser w)
first_part w = λ q own. subst (λ (x : Wiring). ReleaserShape q x (start_releaser x)) (sym own) (first_releaser_in_shape q All)
