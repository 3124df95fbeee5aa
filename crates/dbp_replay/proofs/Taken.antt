-- Steps taken so far.
use Rattle.std.proofs.Common.{◌≡◌, ℕ, ◌+◌, ◌<◌, List, [], ◌∷◌, ◌++◌, take, length, get_or, slice_get, append-nil, Some, Result, Ok, Err, refl, sym, ap, ◌∙◌, length-take, subst, arith}
use Rattle.std.specs.Prelude.{zip}
use Rattle.std.proofs.lemmas.List.{take_all}
use Rattle.std.proofs.lemmas.Option.{slice_get_within}
use Rattle.std.proofs.lemmas.List.Concat.{flat_map-append}
use Rattle.dbp_plan.proofs.ListParts.{take_push}
use Rattle.dbp_rules.specs.declared.step.Count.{Count}
use Rattle.dbp_rules.specs.declared.step.Heard.{Heard}
use Rattle.dbp_rules.specs.declared.step.Illegal.{Illegal}
use Rattle.dbp_rules.specs.declared.step.Step.{Step}
use Rattle.dbp_rules.specs.declared.state.State.{State}
use Rattle.dbp_rules.specs.declared.wiring.Wiring.{Wiring}
use Rattle.dbp_rules.specs.Lawful.{Leads}
use Rattle.dbp_rules.specs.Rules.{IsNamed, IsStep, hears, next, refusal}
use Rattle.dbp_rules.specs.Wired.{wiring_of}
use Rattle.dbp_rules.proofs.LeadsLaws.{answer_allowed, answer_refused, leads_more}
use Rattle.dbp_plan.specs.declared.diagram.Diagram.{Diagram}
use Rattle.dbp_plan.specs.declared.plan.Plan.{Plan}
use Rattle.dbp_replay.proofs.Zipped.{zip_at, zip_push}
use Rattle.dbp_replay.proofs.OneReplay.{text-not-refused}
use Rattle.dbp_replay.specs.Texts.{heard_line}
use Rattle.dbp_replay.specs.Replays.{AreTaken, IsIllegal, IsReplay, first, transcript, with_heard}

-- ---- one step more

one-more : (p : Plan) (w : Wiring) (es : List Step) (s t : State) (e : Step) → Leads p w s es t → with_heard p w s (es ++ e ∷ []) ≡ with_heard p w s es ++ (e, hears w t e) ∷ []
one-more p w [] s t e same = ap (λ (x : State). (e, hears w x e) ∷ []) (sym same)
one-more p w (f ∷ fs) s t e leads = ap (λ (l : List (Step × Heard)). (f, hears w s f) ∷ l) (one-more p w fs (next p w s f) t e leads.2)

-- ---- the steps before a place were taken, and this is what they heard

pub record TakenTo (p : Plan) (count : Count) (steps : List Step) (place : ℕ) (s : State) (taken : List (Step × Heard)) : Type 0 where
  pub leads : Leads p (wiring_of p count) (first p count) (take place steps) s
  pub told : taken ≡ with_heard p (wiring_of p count) (first p count) (take place steps)

pub taken-none : (p : Plan) (count : Count) (steps : List Step) (s : State) (taken : List (Step × Heard)) → s ≡ first p count → taken ≡ [] → TakenTo p count steps 0 s taken
taken-none p count steps s taken start none = record { leads = start; told = none }

pub taken-more : (p : Plan) (count : Count) (steps : List Step) (place : ℕ) (s new : State) (taken more : List (Step × Heard)) (e : Step) (h : Heard) → TakenTo p count steps place s taken
    → slice_get steps place ≡ Some e → IsNamed p.diagram e → IsStep p (wiring_of p count) s e (Ok h) new → more ≡ taken ++ (e, h) ∷ []
    → TakenTo p count steps (place + 1) new more
taken-more p count steps place s new taken more e h t here named answer added =
    let w = wiring_of p count in
    let is = answer_allowed (refusal w s e) p w s new e h answer in
    let front = take_push steps place e here in
    record {
      leads = subst (λ (es : List Step). Leads p w (first p count) es new) (sym front) (subst (λ (x : State). Leads p w (first p count) (take place steps ++ e ∷ []) x) (sym is.2) (leads_more p w (take place steps) (first p count) s e t.leads named is.0));
      told = added ∙ ap (λ (l : List (Step × Heard)). l ++ (e, h) ∷ []) t.told ∙ ap (λ (x : Heard). with_heard p w (first p count) (take place steps) ++ (e, x) ∷ []) is.1
          ∙ sym (one-more p w (take place steps) (first p count) s e t.leads) ∙ ap (with_heard p w (first p count)) (sym front);
    }

-- what is heard at a place comes after what was heard before
pub heard-more : (steps : List Step) (place : ℕ) (heard more : List Heard) (e : Step) (h : Heard) → slice_get steps place ≡ Some e → length heard ≡ place → more ≡ heard ++ h ∷ []
    → zip (take (place + 1) steps) more ≡ zip (take place steps) heard ++ (e, h) ∷ []
heard-more steps place heard more e h here size added =
    let same : length (take place steps) ≡ length heard = omega (arith, size, length-take place steps, slice_get_within steps place e here) in
    (λ i. zip (take_push steps place e here i) (added i)) ∙ zip_push (take place steps) heard e h same

pub taken-all : (p : Plan) (count : Count) (steps : List Step) (place : ℕ) (s : State) (heard : List Heard) → TakenTo p count steps place s (zip (take place steps) heard) → place ≡ length steps
    → AreTaken p count steps (zip steps heard)
taken-all p count steps place s heard t end =
    let whole : take place steps ≡ steps = take_all place steps (omega (arith, end)) in
    record {
      state = s;
      leads = subst (λ (es : List Step). Leads p (wiring_of p count) (first p count) es s) whole t.leads;
      told = ap (λ (es : List Step). zip es heard) (sym whole) ∙ t.told ∙ ap (with_heard p (wiring_of p count) (first p count)) whole;
    }

-- a step of an equal plan under an equal count
pub same-step : (p q : Plan) (m n : Count) (s t : State) (e : Step) (r : Result Heard Illegal) → p ≡ q → m ≡ n → IsStep p (wiring_of p m) s e r t → IsStep q (wiring_of q n) s e r t
same-step p q m n s t e r plan count step =
    subst (λ (k : Count). IsStep q (wiring_of q k) s e r t) count (subst (λ (x : Plan). IsStep x (wiring_of x m) s e r t) plan step)

pub refused-at : (p : Plan) (count : Count) (steps : List Step) (place : ℕ) (s new : State) (taken : List (Step × Heard)) (e : Step) (why : Illegal) → TakenTo p count steps place s taken
    → slice_get steps place ≡ Some e → IsStep p (wiring_of p count) s e (Err why) new → IsIllegal p count steps (place + 1) why
refused-at p count steps place s new taken e why t here answer = record {
  place = place;
  state = s;
  leads = t.leads;
  step = e;
  stands = here;
  refused = answer_refused (refusal (wiring_of p count) s e) p (wiring_of p count) s new e why answer;
  which = refl;
}

-- ---- all steps were taken

-- the line of the step at a place comes after the lines before
pub line-more : (d : Diagram) (steps : List Step) (heard : List Heard) (place : ℕ) (e : Step) (h : Heard) → place < length steps → place < length heard
    → transcript d (take (place + 1) (zip steps heard)) ≡ transcript d (take place (zip steps heard)) ++ heard_line d (get_or steps place e) (get_or heard place h)
line-more d steps heard place e h below beside =
    let pair : Step × Heard = (get_or steps place e, get_or heard place h) in
    let before = transcript d (take place (zip steps heard)) in
    ap (transcript d) (take_push (zip steps heard) place pair (zip_at steps heard place e h below beside))
    ∙ flat_map-append (λ (x : Step × Heard). heard_line d x.0 x.1) (take place (zip steps heard)) (pair ∷ [])
    ∙ ap (λ l. before ++ l) (append-nil (heard_line d (get_or steps place e) (get_or heard place h)))

pub taken-replay : (p : Plan) (count : Count) (steps : List Step) (taken : List (Step × Heard)) (text : List ℕ) → AreTaken p count steps taken → text ≡ transcript p.diagram taken → IsReplay p count steps text
taken-replay p count steps taken text t is = record { state = t.state; leads = t.leads; told = is ∙ ap (transcript p.diagram) t.told }

pub taken-not-refused : (p : Plan) (count : Count) (steps : List Step) (taken : List (Step × Heard)) (number : ℕ) (why : Illegal) → AreTaken p count steps taken → IsIllegal p count steps number why → ⊥
taken-not-refused p count steps taken number why t illegal =
    text-not-refused p count steps (transcript p.diagram taken) number why (taken-replay p count steps taken (transcript p.diagram taken) t refl) illegal
