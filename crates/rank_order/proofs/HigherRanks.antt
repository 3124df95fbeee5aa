-- Of two instances, the one of the task that is ranked higher, and the one that was released earlier.
use Rattle.std.specs.Prelude.{IsTrue, unwrap_or}
use Rattle.std.proofs.Common.{◌≡◌, ℕ, ◌+◌, ◌<◌, ◌≤◌, true, length, get_or, refl, arith}
use Rattle.std.proofs.lemmas.Bool.{lt-ltb}
use Rattle.std.proofs.lemmas.Bool.Decides.{nat_tests}
use Rattle.dbp_plan.specs.declared.diagram.Policy.{Policy}
use Rattle.dbp_plan.specs.declared.diagram.Policy.TheVariants.{Edf}
use Rattle.dbp_plan.specs.declared.plan.Plan.{Plan}
use Rattle.dbp_plan.specs.Lookups.{declared_task}
use Rattle.dbp_plan.specs.Policies.{served_by}
use Rattle.dbp_plan.proofs.RankLaws.{higher-deadline}
use Rattle.rank_order.specs.Order.{goes_before, is_before, key_by}

by_rank : (m n a b : ℕ) → n < m → is_before (record { first = m; second = a }) (record { first = n; second = b }) ≡ true → ⊥
by_rank m n a b less before = grind (arith, nat_tests)

by_deadline : (a b d e m n : ℕ) → n < m → e ≤ d → is_before (record { first = a + d; second = m }) (record { first = b + e; second = n }) ≡ true → a < b
by_deadline a b d e m n less le before = grind (arith, nat_tests)

least_deadline : (m n a b d e : ℕ) → n < m → b ≤ a → e ≤ d → is_before (record { first = b + e; second = n }) (record { first = a + d; second = m }) ≡ true
least_deadline m n a b d e less le no_greater = grind (arith, nat_tests)

module _ (p : Plan) (i q : ℕ) (il : i < length p.diagram.tasks) (ql : q < length p.diagram.tasks) (higher : get_or p.diagram.ranks q 0 < get_or p.diagram.ranks i 0) where
  by_policy : (policy : Policy) (a b : ℕ) → p.diagram.policy ≡ policy → is_before (key_by (served_by policy) p.diagram i a) (key_by (served_by policy) p.diagram q b) ≡ true → a < b
  by_policy Edf a b is before =
      by_deadline a b (unwrap_or (declared_task p i).deadline 0) (unwrap_or (declared_task p q).deadline 0) (get_or p.diagram.ranks i 0) (get_or p.diagram.ranks q 0) higher (higher-deadline p.diagram p.rules.ranked i q il ql higher is) before
  by_policy _ a b is before = absurd (by_rank (get_or p.diagram.ranks i 0) (get_or p.diagram.ranks q 0) a b higher before)

  -- one that goes before a higher-ranked one was released earlier
  pub released_earlier : (a b : ℕ) → IsTrue (goes_before p.diagram i a q b) → a < b
  released_earlier a b before = by_policy p.diagram.policy a b refl before

  first_by_policy : (policy : Policy) (a b : ℕ) → p.diagram.policy ≡ policy → b ≤ a → is_before (key_by (served_by policy) p.diagram q b) (key_by (served_by policy) p.diagram i a) ≡ true
  first_by_policy Edf a b is le =
      least_deadline (get_or p.diagram.ranks i 0) (get_or p.diagram.ranks q 0) a b (unwrap_or (declared_task p i).deadline 0) (unwrap_or (declared_task p q).deadline 0) higher le (higher-deadline p.diagram p.rules.ranked i q il ql higher is)
  first_by_policy _ a b is le = rw (lt-ltb (get_or p.diagram.ranks q 0) (get_or p.diagram.ranks i 0) higher) refl

  -- the higher-ranked one goes first if it was released no later
  pub goes_before_lower : (a b : ℕ) → b ≤ a → IsTrue (goes_before p.diagram q b i a)
  goes_before_lower a b le = first_by_policy p.diagram.policy a b refl le
