-- A statement can be printed if its tokens can.
use Rattle.std.proofs.Common.{All, ℕ, List, ◌∷◌, ◌++◌, Option}
use Rattle.std.specs.List.{AllByRecursion}
use Rattle.std.specs.Option.{IfSome}
use Rattle.std.proofs.lemmas.List.Elements.{recursion_from_All}
use Rattle.dia_tokens.specs.declared.token.Token.{Token}
use Rattle.dia_tokens.specs.declared.token.Token.TheVariants.{Name, Number, Symbol, Keyword}
use Rattle.dia_tokens.specs.declared.token.Keyword.TheVariants as keyword
use Rattle.dia_tokens.specs.declared.token.Symbol.TheVariants.{Point}
use Rattle.dia_tokens.specs.Printable.{IsPrintableName, IsPrintableNumber, IsPrintableToken}
use Rattle.dia_exprs.specs.declared.level.Level.TheVariants.{Whole}
use Rattle.dia_exprs.specs.Printable.{IsPrintableTree}
use Rattle.dia_exprs.proofs.PrintableTrees.{all-parts, printable-tree}
use Rattle.dia_lines.specs.Statements.{Clock, Statement, SpellsClock, SpellsWhen, IsStatement}
use Rattle.dia_lines.specs.Statements as st

abbrev pub IsPrintableClock : Clock → Type 0
IsPrintableClock (st.every period offset) = Unit {0}
IsPrintableClock (st.on n) = IsPrintableName n

-- each name and each value of the statement can be printed; its other numbers have limits
abbrev pub IsPrintableStatement : Statement → Type 0
IsPrintableStatement (st.input n first) = IsPrintableName n × IsPrintableNumber first
IsPrintableStatement (st.event n) = IsPrintableName n
IsPrintableStatement (st.task t) = IsPrintableName t.name × IsPrintableClock t.clock × IfSome t.when IsPrintableName
IsPrintableStatement (st.state n first) = IsPrintableName n × IsPrintableNumber first
IsPrintableStatement (st.sense n from) = IsPrintableName n × IsPrintableName from
IsPrintableStatement (st.read n delay writer port at) = IsPrintableName n × IsPrintableName writer × IsPrintableName port
IsPrintableStatement (st.a_let n x) = IsPrintableName n × IsPrintableTree x
IsPrintableStatement (st.a_next n x) = IsPrintableName n × IsPrintableTree x
IsPrintableStatement (st.out n first x) = IsPrintableName n × IsPrintableNumber first × IsPrintableTree x
IsPrintableStatement _ = Unit {0}

printable-clock : (cs : List Token) (clock : Clock) → SpellsClock cs clock → AllByRecursion IsPrintableToken cs → IsPrintableClock clock
printable-clock cs clock (st.from_zero period) f = tt
printable-clock cs clock (st.from_offset period offset) f = tt
printable-clock cs clock (st.with_event n) f = f.1.0

printable-when : (ws : List Token) (when : Option (List ℕ)) → SpellsWhen ws when → AllByRecursion IsPrintableToken ws → IfSome when IsPrintableName
printable-when ws when st.always f = tt
printable-when ws when (st.guarded n) f = f.1.0

printable-form : (ts : List Token) (s : Statement) → IsStatement ts s → AllByRecursion IsPrintableToken ts → IsPrintableStatement s
printable-form ts s st.a_blank_line f = tt
printable-form ts s st.in_version_1 f = tt
printable-form ts s st.in_version_2 f = tt
printable-form ts s (st.a_policy p) f = tt
printable-form ts s (st.an_until end) f = tt
printable-form ts s (st.an_input n first) f = (f.1.0, f.1.1.1.0)
printable-form ts s (st.an_event n) f = f.1.0
printable-form ts s (st.a_task h cs ws ps ds us c w p d u) f =
    let options = all-parts IsPrintableToken (cs ++ ws ++ ps ++ ds) (Keyword keyword.Cost ∷ Number h.cost ∷ us) f.1.1 in
    let front = all-parts IsPrintableToken (cs ++ ws) ps (all-parts IsPrintableToken (cs ++ ws ++ ps) ds options.0).0 in
    let each = all-parts IsPrintableToken cs ws front.0 in
    (f.1.0, printable-clock cs h.clock c each.0, printable-when ws h.when w each.1)
printable-form ts s (st.a_state n first) f = (f.1.0, f.1.1.1.0)
printable-form ts s (st.a_sense n from) f = (f.1.0, f.1.1.1.0)
printable-form ts s (st.a_read n writer port pre ats delay at d a) f =
    let after = all-parts IsPrintableToken pre (Name writer ∷ Symbol Point ∷ Name port ∷ ats) f.1.1.1 in
    (f.1.0, after.1.0, after.1.1.1.0)
printable-form ts s (st.a_let_line n us x d) f = (f.1.0, printable-tree Whole us x d f.1.1.1)
printable-form ts s (st.a_next_line n us x d) f = (f.1.0, printable-tree Whole us x d f.1.1.1)
printable-form ts s (st.an_out n first us x d) f = (f.1.0, f.1.1.1.0, printable-tree Whole us x d f.1.1.1.1.1)
printable-form ts s st.a_trace f = tt
printable-form ts s st.a_script f = tt
printable-form ts s st.an_end f = tt

pub printable-statement : (ts : List Token) (s : Statement) → IsStatement ts s → All IsPrintableToken ts → IsPrintableStatement s
printable-statement ts s d f = printable-form ts s d (recursion_from_All IsPrintableToken ts f)
