-- What is held of a line says where it leads.
use Rattle.std.proofs.Common.{◌≡◌, true, Some, refl, sym}
use Rattle.std.proofs.lemmas.Option.{same_Some}
use Rattle.dia_lines.specs.declared.item.Line.{Line}
use Rattle.dia_lines.specs.declared.item.Line.TheVariants as line
use Rattle.dia_lines.specs.declared.item.Part.{Part}
use Rattle.dia_lines.specs.declared.item.Part.TheVariants as part
use Rattle.dia_lines.specs.declared.place.Place.{Place}
use Rattle.dia_lines.specs.declared.place.Place.TheVariants.{Header, Policy, Until, Declarations, Body, Trace, Script, Ended}
use Rattle.dia_lines.specs.Statements.{Statement, nothing, header, policy, until, input, event, task, state, sense, read, a_let, a_next, out, trace, script, done}
use Rattle.dia_lines.specs.Places.{is_body, is_declaration, leads}
use Rattle.dia_lines.specs.Held.{IsKept, IsPart}
use Rattle.dia_lines.specs.Moves.{place_after_line}

-- a statement that leads to one place wherever it may stand
abbrev LeadsTo : Statement → Place → Type 0
LeadsTo s target = (p q : Place) → leads p s ≡ Some q → q ≡ target

leads-header : (version : _) → LeadsTo (header version) Policy
leads-header version Header q e = same_Some q Policy (sym e)
leads-header version p q e = absurd cc

leads-policy : (x : _) → LeadsTo (policy x) Until
leads-policy x Policy q e = same_Some q Until (sym e)
leads-policy x p q e = absurd cc

leads-until : (x : _) → LeadsTo (until x) Declarations
leads-until x Until q e = same_Some q Declarations (sym e)
leads-until x p q e = absurd cc

leads-declaration : (s : Statement) → is_declaration s ≡ true → LeadsTo s Declarations
leads-declaration (input n v) h Declarations q e = same_Some q Declarations (sym e)
leads-declaration (event n) h Declarations q e = same_Some q Declarations (sym e)
leads-declaration (input n v) h p q e = absurd cc
leads-declaration (event n) h p q e = absurd cc
leads-declaration s h p q e = absurd cc

leads-task : (t : _) → LeadsTo (task t) Body
leads-task t Declarations q e = same_Some q Body (sym e)
leads-task t Body q e = same_Some q Body (sym e)
leads-task t p q e = absurd cc

leads-part : (s : Statement) → is_body s ≡ true → LeadsTo s Body
leads-part (state n v) h Body q e = same_Some q Body (sym e)
leads-part (sense n v) h Body q e = same_Some q Body (sym e)
leads-part (read n d w p a) h Body q e = same_Some q Body (sym e)
leads-part (a_let n v) h Body q e = same_Some q Body (sym e)
leads-part (a_next n v) h Body q e = same_Some q Body (sym e)
leads-part (out n v x) h Body q e = same_Some q Body (sym e)
leads-part (state n v) h p q e = absurd cc
leads-part (sense n v) h p q e = absurd cc
leads-part (read n d w p a) h at q e = absurd cc
leads-part (a_let n v) h p q e = absurd cc
leads-part (a_next n v) h p q e = absurd cc
leads-part (out n v x) h p q e = absurd cc
leads-part s h p q e = absurd cc

leads-trace : LeadsTo trace Trace
leads-trace Declarations q e = same_Some q Trace (sym e)
leads-trace Body q e = same_Some q Trace (sym e)
leads-trace p q e = absurd cc

leads-script : LeadsTo script Script
leads-script Declarations q e = same_Some q Script (sym e)
leads-script Body q e = same_Some q Script (sym e)
leads-script Trace q e = same_Some q Script (sym e)
leads-script p q e = absurd cc

leads-done : LeadsTo done Ended
leads-done Declarations q e = same_Some q Ended (sym e)
leads-done Body q e = same_Some q Ended (sym e)
leads-done Trace q e = same_Some q Ended (sym e)
leads-done Script q e = same_Some q Ended (sym e)
leads-done p q e = absurd cc

leads-nothing : (p q : Place) → leads p nothing ≡ Some q → q ≡ p
leads-nothing Header q e = same_Some q Header (sym e)
leads-nothing Policy q e = same_Some q Policy (sym e)
leads-nothing Until q e = same_Some q Until (sym e)
leads-nothing Declarations q e = same_Some q Declarations (sym e)
leads-nothing Body q e = same_Some q Body (sym e)
leads-nothing Trace q e = same_Some q Trace (sym e)
leads-nothing Script q e = same_Some q Script (sym e)
leads-nothing Ended q e = same_Some q Ended (sym e)

pub leads-line : (p q : Place) (s : Statement) (l : Line) → leads p s ≡ Some q → IsKept s l → q ≡ place_after_line p l
leads-line p q nothing line.Nothing e k = leads-nothing p q e
leads-line p q (header version) (line.Header v) e k = leads-header version p q e
leads-line p q (policy x) (line.Policy y) e k = leads-policy x p q e
leads-line p q (until x) (line.Until y) e k = leads-until x p q e
leads-line p q (input n v) (line.Decl d) e k = leads-declaration (input n v) refl p q e
leads-line p q (event n) (line.Decl d) e k = leads-declaration (event n) refl p q e
leads-line p q (task h) (line.Task t) e k = leads-task h p q e
leads-line p q (state n v) (line.Part x) e k = leads-part (state n v) refl p q e
leads-line p q (sense n v) (line.Part x) e k = leads-part (sense n v) refl p q e
leads-line p q (read n d w x a) (line.Part y) e k = leads-part (read n d w x a) refl p q e
leads-line p q (a_let n v) (line.Part x) e k = leads-part (a_let n v) refl p q e
leads-line p q (a_next n v) (line.Part x) e k = leads-part (a_next n v) refl p q e
leads-line p q (out n v x) (line.Part y) e k = leads-part (out n v x) refl p q e
leads-line p q trace line.Trace e k = leads-trace p q e
leads-line p q script line.Script e k = leads-script p q e
leads-line p q done line.Done e k = leads-done p q e
leads-line p q s l e k = absurd k

-- a line of a body stands in a body alone
pub part-stands : (p q : Place) (s : Statement) (x : Part) → leads p s ≡ Some q → IsPart s x → p ≡ Body
part-stands Body q s x e i = refl
part-stands p q (state n v) (part.State m w) e i = absurd cc
part-stands p q (sense n v) (part.Sense m w) e i = absurd cc
part-stands p q (read n d w o a) (part.Read m k y z b) e i = absurd cc
part-stands p q (a_let n v) (part.Let m w) e i = absurd cc
part-stands p q (a_next n v) (part.Next m w) e i = absurd cc
part-stands p q (out n v y) (part.Out m w z) e i = absurd cc
part-stands p q s x e i = absurd i
