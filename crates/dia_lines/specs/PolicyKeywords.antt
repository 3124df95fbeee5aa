-- The keywords of the policies.
use Rattle.std.specs.Prelude.{Option, Some, None}
use Rattle.dbp_plan.specs.declared.diagram.Policy.{Policy}
use Rattle.dbp_plan.specs.declared.diagram.Policy.TheVariants.{Fp, Edf}
use Rattle.dia_tokens.specs.declared.token.Keyword.{Keyword}
use Rattle.dia_tokens.specs.declared.token.Keyword.TheVariants as keyword

-- the keyword that names the policy
abbrev pub keyword_of : Policy → Keyword
keyword_of Fp = keyword.Fp
keyword_of Edf = keyword.Edf

-- the policy that the keyword names, if it names one
abbrev pub policy_of : Keyword → Option Policy
policy_of keyword.Fp = Some Fp
policy_of keyword.Edf = Some Edf
policy_of _ = None
