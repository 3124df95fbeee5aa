-- What is returned says this of a text. If memory ran out, nothing is said.
use Rattle.std.specs.Prelude.{◌≡◌, ℕ, List, Result, Ok, Err}
use Rattle.dia_read.specs.declared.document.Body.{Body}
use Rattle.dia_read.specs.declared.document.Doc.{Doc}
use Rattle.dia_read.specs.declared.fault.ReadFail.{ReadFail}
use Rattle.dia_read.specs.declared.fault.ReadFail.TheVariants.{Refused, NoMemory}
use Rattle.dia_read.specs.Documents.{IsFirstFault}

-- the text has the fault, as its first one
abbrev pub Refuses : List ℕ → ReadFail → Type 0
Refuses bytes (Refused line code) = IsFirstFault bytes line code
Refuses bytes NoMemory = Unit {0}

-- the document, unless memory ran out
abbrev pub Gives : Doc → Result Doc ReadFail → Type 0
Gives doc (Ok d) = d ≡ doc
Gives doc (Err NoMemory) = Unit {0}
Gives doc (Err _) = ⊥

-- the refusal, unless memory ran out
abbrev pub IsRefused : ReadFail → Result Doc ReadFail → Type 0
IsRefused fail (Err NoMemory) = Unit {0}
IsRefused fail (Err e) = e ≡ fail
IsRefused fail (Ok d) = ⊥

-- a document with the body, unless memory ran out
abbrev pub HasBody : Body → Result Doc ReadFail → Type 0
HasBody body (Ok d) = d.body ≡ body
HasBody body (Err NoMemory) = Unit {0}
HasBody body (Err _) = ⊥
