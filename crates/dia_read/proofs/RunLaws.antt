-- Lines read in one way at most, and have one first fault at most.
use Rattle.std.proofs.Common.{◌≡◌, ℕ, zero, suc, ◌<◌, List, [], ◌∷◌, take, slice_get, Some, refl, sym, ap, subst, ◌∙◌, arith, inl, inr}
use Rattle.std.proofs.lemmas.Bool.{cases_lt}
use Rattle.std.proofs.lemmas.Option.{same_Some}
use Rattle.dia_lines.specs.declared.fault.ReadCode.{ReadCode}
use Rattle.dia_lines.specs.Lines.{Content, Reads, HasFault}
use Rattle.dia_lines.proofs.LineLaws.{one-reading, no-line-fault, one-line-fault}
use Rattle.dia_read.specs.Documents.{Run, no_line, a_line, IsFirstLine}

pub run-one : (before a b : List Content) (lines : List (List ℕ)) → Run before lines a → Run before lines b → a ≡ b
run-one before a b lines (no_line c) (no_line d) = refl
run-one before a b lines (a_line c x line ls s r run) (a_line d y line' ls' t q other) =
    let same : t ≡ s = one-reading c line t s q r in
    run-one (s ∷ c) a b ls run (subst (λ u. Run (u ∷ c) ls b) same other)

-- each line reads after those before it
run-reads : (before middle after : List Content) (lines : List (List ℕ)) (i : ℕ) (line : List ℕ) → Run before (take i lines) middle → Run before lines after → slice_get lines i ≡ Some line
    → (said : Content) × Reads middle line said
run-reads before middle after lines i line front (no_line c) at = absurd cc
run-reads before middle after lines zero line (no_line d) (a_line c x l ls s r run) at = (s, subst (λ m. Reads c m s) (same_Some l line at) r)
run-reads before middle after lines (suc i) line (a_line d y l' ls' t q front) (a_line c x l ls s r run) at =
    let same : t ≡ s = one-reading c l t s q r in
    run-reads (s ∷ c) middle after ls i line (subst (λ u. Run (u ∷ c) (take i ls) middle) same front) run at

pub no-fault-in-run : (after : List Content) (lines : List (List ℕ)) (i : ℕ) (code : ReadCode) → Run [] lines after → IsFirstLine lines i code → ⊥
no-fault-in-run after lines i code run first =
    let read = run-reads [] first.before after lines i first.line first.run run first.stands in
    no-line-fault first.before first.line read.0 code read.1 first.fault

shorter-front : (lines : List (List ℕ)) (i j : ℕ) (line : List ℕ) → i < j → slice_get lines i ≡ Some line → (slice_get (take j lines) i ≡ Some line) × (take i (take j lines) ≡ take i lines)
shorter-front [] i j line less at = absurd cc
shorter-front (l ∷ lines) i zero line less at = absurd (omega arith)
shorter-front (l ∷ lines) zero (suc j) line less at = (at, refl)
shorter-front (l ∷ lines) (suc i) (suc j) line less at =
    let rest = shorter-front lines i j line (omega arith) at in
    (rest.0, ap (λ ls. l ∷ ls) rest.1)

pub no-earlier-fault : (lines : List (List ℕ)) (i j : ℕ) (c d : ReadCode) → IsFirstLine lines i c → IsFirstLine lines j d → i < j → ⊥
no-earlier-fault lines i j c d first other less =
    let front = shorter-front lines i j first.line less first.stands in
    no-fault-in-run other.before (take j lines) i c other.run (record { line = first.line; stands = front.0; before = first.before; run = subst (λ ls. Run [] ls first.before) (sym front.1) first.run; fault = first.fault })

pub one-first-line : (lines : List (List ℕ)) (i j : ℕ) (c d : ReadCode) → IsFirstLine lines i c → IsFirstLine lines j d → (i ≡ j) × (c ≡ d)
one-first-line lines i j c d first other =
    elim (cases_lt i j) [
      | inl less ↦ absurd (no-earlier-fault lines i j c d first other less)
      | inr more ↦ elim (cases_lt j i) [
        | inl less ↦ absurd (no-earlier-fault lines j i d c other first less)
        | inr same ↦
            let index : i ≡ j = omega arith in
            (index, one-code lines i c d first (subst (λ (k : ℕ). IsFirstLine lines k d) (sym index) other))
      ]
    ]
  where
    one-code : (lines : List (List ℕ)) (i : ℕ) (c d : ReadCode) → IsFirstLine lines i c → IsFirstLine lines i d → c ≡ d
    one-code lines i c d first other =
        let before : other.before ≡ first.before = run-one [] other.before first.before (take i lines) other.run first.run in
        let line : other.line ≡ first.line = same_Some other.line first.line (sym other.stands ∙ first.stands) in
        one-line-fault first.before first.line c d first.fault (subst (λ b. HasFault b first.line d) before (subst (λ l. HasFault other.before l d) line other.fault))
