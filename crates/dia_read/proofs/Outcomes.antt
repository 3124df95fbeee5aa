-- What was found or refused is all that may be.
use Rattle.std.proofs.Common.{◌≡◌, ℕ, List, Result, Ok, Err, IfOk, IfErr, refl, sym, ap, subst, ◌∙◌}
use Rattle.dia_lines.specs.declared.fault.ReadCode.{ReadCode}
use Rattle.dia_read.specs.declared.document.Body.{Body}
use Rattle.dia_read.specs.declared.document.Doc.{Doc}
use Rattle.dia_read.specs.declared.fault.ReadFail.{ReadFail}
use Rattle.dia_read.specs.declared.fault.ReadFail.TheVariants.{Refused, NoMemory}
use Rattle.dia_read.specs.Answers.{Refuses, Gives, HasBody, IsRefused}
use Rattle.dia_read.specs.Canonical.{canonical_text, SpellsBody}
use Rattle.dia_read.specs.Documents.{Spells, IsFirstFault}
use Rattle.dia_read.specs.Printable.{IsPrintable}
use Rattle.dia_read.proofs.RoundTrip.{round-trip}
use Rattle.dia_read.proofs.DocumentLaws.{one-document}
use Rattle.dia_read.proofs.FaultLaws.{no-fault-of-a-document, one-first-fault}

pub only-read : (bytes : List ℕ) (r : Result Doc ReadFail) → IfOk r (λ d. Spells bytes d) → IfErr r (λ e. Refuses bytes e) → (doc : Doc) → Spells bytes doc → Gives doc r
only-read bytes (Ok d) found fault doc s = one-document bytes d doc found s
only-read bytes (Err NoMemory) found fault doc s = tt
only-read bytes (Err (Refused line code)) found fault doc s = no-fault-of-a-document bytes doc line code s fault

pub only-refused : (bytes : List ℕ) (r : Result Doc ReadFail) → IfOk r (λ d. Spells bytes d) → IfErr r (λ e. Refuses bytes e) → (line : ℕ) (code : ReadCode) → IsFirstFault bytes line code → IsRefused (Refused line code) r
only-refused bytes (Ok d) found fault line code f = no-fault-of-a-document bytes d line code found f
only-refused bytes (Err NoMemory) found fault line code f = tt
only-refused bytes (Err (Refused l c)) found fault line code f = let same = one-first-fault bytes l line c code fault f in let at = same.0 in let is = same.1 in cc

pub only-again : (bytes : List ℕ) (r : Result Doc ReadFail) → IfOk r (λ d. Spells bytes d) → IfErr r (λ e. Refuses bytes e) → (body : Body) → IsPrintable body → bytes ≡ canonical_text body → HasBody body r
only-again bytes r found fault body h e =
    let again : SpellsBody bytes body = subst (λ text. SpellsBody text body) (sym e) (round-trip body h) in
    same r (record { body = body; lines = again.lines }) refl (only-read bytes r found fault (record { body = body; lines = again.lines }) again.spelled)
  where
    same : (r : Result Doc ReadFail) (doc : Doc) → doc.body ≡ body → Gives doc r → HasBody body r
    same (Ok d) doc is g = ap (λ (k : Doc). k.body) g ∙ is
    same (Err NoMemory) doc is g = tt
    same (Err (Refused line code)) doc is g = g
