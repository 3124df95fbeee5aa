-- The outs of generated tasks, and that they have no lets.
use Rattle.std.proofs.Common.{◌≡◌, ℕ, ◌≤◌, Bool, List, [], ◌∷◌, refl}
use Rattle.std.specs.Prelude.{codes}
use Rattle.std.specs.List.{flat_map}
use Rattle.dia_check.specs.Diagrams.{let_of}
use Rattle.dia_check.specs.Names.{out_name}
use Rattle.dbp_load.specs.Bodies.{parts_of}
use Rattle.dbp_load.proofs.GeneratedParts.{by-reads}

module _ (size draws i : ℕ) where
  -- one out
  pub outs-are : (early : ℕ) (late : Bool) (few : early ≤ 3) → flat_map out_name (parts_of size draws i early late few) ≡ codes "y" ∷ []
  outs-are = by-reads (λ early late few. flat_map out_name (parts_of size draws i early late few) ≡ codes "y" ∷ [])
      (λ few. refl) (λ few. refl) (λ few. refl) (λ few. refl) (λ few. refl) (λ few. refl) (λ few. refl) (λ few. refl)

  -- no lets
  pub lets-none : (names : List (List ℕ)) (early : ℕ) (late : Bool) (few : early ≤ 3) → flat_map (let_of names) (parts_of size draws i early late few) ≡ []
  lets-none names = by-reads (λ early late few. flat_map (let_of names) (parts_of size draws i early late few) ≡ [])
      (λ few. refl) (λ few. refl) (λ few. refl) (λ few. refl) (λ few. refl) (λ few. refl) (λ few. refl) (λ few. refl)
