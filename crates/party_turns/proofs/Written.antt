-- A row that is written over what stood at its place.
use Rattle.std.proofs.Common.{◌≡◌, ℕ, ℤ, ◌+◌, ◌*◌, ◌<◌, ◌≤◌, List, ◌++◌, length, take, drop, sym, ◌∙◌, ap, arith, length-append, length-drop}
use Rattle.std.specs.Prelude.{slice_range}
use Rattle.std.proofs.lemmas.List.{length-take-le, take-append-drop}
use Rattle.std.proofs.Math.Nat.{mul-le-mul_right}
use Rattle.dbp_plan.specs.Ranges.{range_after, range_front}

module _ (words row : List ℤ) (ports number : ℕ) (size : length row ≡ ports) (inside : (number + 1) * ports ≤ length words) where
  abbrev pub written : List ℤ
  written = take (number * ports) words ++ row ++ drop ((number + 1) * ports) words

  front : length (take (number * ports) words) ≡ number * ports
  front = length-take-le (number * ports) words (omega arith)

  both : length (take (number * ports) words ++ row) ≡ (number + 1) * ports
  both = length-append (take (number * ports) words) row ∙ omega (arith, front, size)

  pub written_size : length written ≡ length words
  written_size =
      length-append (take (number * ports) words ++ row) (drop ((number + 1) * ports) words)
      ∙ omega (arith, both, length-drop ((number + 1) * ports) words)

  pub written_here : slice_range written (number * ports) ((number + 1) * ports) ≡ row
  written_here =
      range_front (take (number * ports) words ++ row) (drop ((number + 1) * ports) words) (number * ports) ((number + 1) * ports) (omega arith) (omega (arith, both))
      ∙ range_after (take (number * ports) words) row (number * ports) ((number + 1) * ports) (sym front) (omega (arith, front, size))

  -- the rows before it stay
  pub written_before : (n : ℕ) → n < number → slice_range written (n * ports) ((n + 1) * ports) ≡ slice_range words (n * ports) ((n + 1) * ports)
  written_before n less =
      let scaled : (n + 1) * ports ≤ number * ports = mul-le-mul_right ports (omega arith) in
      range_front (take (number * ports) words ++ row) (drop ((number + 1) * ports) words) (n * ports) ((n + 1) * ports) (omega arith) (omega (arith, scaled, front, length-append (take (number * ports) words) row))
      ∙ range_front (take (number * ports) words) row (n * ports) ((n + 1) * ports) (omega arith) (omega (arith, scaled, front))
      ∙ sym (range_front (take (number * ports) words) (drop (number * ports) words) (n * ports) ((n + 1) * ports) (omega arith) (omega (arith, scaled, front)))
      ∙ ap (λ (xs : List ℤ). slice_range xs (n * ports) ((n + 1) * ports)) (take-append-drop (number * ports) words)
