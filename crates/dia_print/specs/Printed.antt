-- A text that grows by tokens and lines.
use Rattle.std.specs.Prelude.{ℕ, List, [], ◌∷◌, ◌++◌}
use Rattle.dia_tokens.specs.declared.token.Token.{Token}
use Rattle.dia_tokens.specs.declared.edge.Edge.{Edge}
use Rattle.dia_tokens.specs.declared.edge.Edge.TheVariants.{Tight}
use Rattle.dia_tokens.specs.TokenText.{token_text, edge_of, gap}

-- the text so far, and how its last line ends
pub record Printed : Type 0 where
  pub text : List ℕ
  pub edge : Edge

abbrev pub with_token : Printed → Token → Printed
with_token p t = record { text = p.text ++ gap p.edge t ++ token_text t; edge = edge_of t }

abbrev pub with_tokens : Printed → List Token → Printed
with_tokens p [] = p
with_tokens p (t ∷ ts) = with_tokens (with_token p t) ts

-- with bytes as they are, after which a line begins
abbrev pub with_bytes : Printed → List ℕ → Printed
with_bytes p bytes = record { text = p.text ++ bytes; edge = Tight }

-- the line has ended
abbrev pub ended : Printed → Printed
ended p = with_bytes p (10 ∷ [])
