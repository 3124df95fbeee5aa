-- How many nodes tokens spell, and how deep their parentheses stand.
use Rattle.std.specs.Prelude.{ℕ, ◌+◌, ◌-◌, Bool, true, false, List, [], ◌∷◌, length, filter, max}
use Rattle.dia_tokens.specs.declared.token.Token.{Token}
use Rattle.dia_tokens.specs.declared.token.Token.TheVariants as token
use Rattle.dia_tokens.specs.declared.token.Keyword.TheVariants as keyword
use Rattle.dia_tokens.specs.declared.token.Symbol.TheVariants as symbol

-- whether the token stands for a node of its own
abbrev pub has_node : Token → Bool
has_node (token.Symbol symbol.Open) = false
has_node (token.Symbol symbol.Close) = false
has_node (token.Symbol symbol.Comma) = false
has_node (token.Keyword keyword.Then) = false
has_node (token.Keyword keyword.Else) = false
has_node _ = true

-- how many of the tokens stand for a node
abbrev pub node_count : List Token → ℕ
node_count ts = length (filter has_node ts)

-- how many parentheses are open after the token, if so many are open before it: one that closes none stays without effect
abbrev pub opened : ℕ → Token → ℕ
opened open_now (token.Symbol symbol.Open) = open_now + 1
opened open_now (token.Symbol symbol.Close) = open_now - 1
opened open_now _ = open_now

-- how many parentheses are open at once, at most, if so many are open before the tokens
abbrev pub deepest : ℕ → List Token → ℕ
deepest open_now [] = open_now
deepest open_now (t ∷ ts) = max open_now (deepest (opened open_now t) ts)

-- how many parentheses are open at once, at most
abbrev pub depth_of : List Token → ℕ
depth_of ts = deepest 0 ts
