-- The delay of a read, in documents and scripts: how many occurrences of the writer ago.
use Rattle.std.specs.Prelude.{ℕ, ℤ, pos, ◌==◌, if◌then◌else◌, List, [], ◌∷◌, Option, Some, None}
use Rattle.dia_tokens.specs.declared.token.Token.{Token}
use Rattle.dia_tokens.specs.declared.token.Token.TheVariants.{Number, Keyword}
use Rattle.dia_tokens.specs.declared.token.Keyword.TheVariants.{Pre}

-- no `pre` for none, `pre` for 1, `pre K` for K
pub data SpellsDelay : List Token → Option ℤ → Type 0 where
  direct : SpellsDelay [] None
  delayed : SpellsDelay (Keyword Pre ∷ []) (Some (pos 1))
  delayed_by : (value : ℤ) → SpellsDelay (Keyword Pre ∷ Number value ∷ []) (Some value)

-- the delay at the front, and the tokens after it
abbrev pub delay_at : List Token → Option ℤ × List Token
delay_at (Keyword Pre ∷ Number value ∷ ts) = (Some value, ts)
delay_at (Keyword Pre ∷ ts) = (Some (pos 1), ts)
delay_at ts = (None, ts)

-- the delay as a number: without `pre` it is 0
abbrev pub delay_of : Option ℤ → ℤ
delay_of None = pos 0
delay_of (Some value) = value

-- the tokens of a delay in canonical form
abbrev pub delay_tokens : ℕ → List Token
delay_tokens delay =
    if delay == 0 then [] else if delay == 1 then Keyword Pre ∷ [] else Keyword Pre ∷ Number (pos delay) ∷ []
