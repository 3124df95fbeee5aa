-- What is drawn.
use Rattle.std.proofs.Common.{◌≡◌, ℕ, zero, suc, ◌+◌, ◌<◌, sym, ap, ◌∙◌, arith}
use Rattle.rand_xoshiro.specs.SplitMix64.{mix_u64}
use Rattle.std.proofs.Math.Nat.{mod-lt}
use Rattle.drawn_numbers.specs.Draws.{drawn, after_draw, after_draws}

pub drawn-below : (count draws : ℕ) → 0 < count → drawn count draws < count
unfolding drawn
drawn-below count draws some = mod-lt (mix_u64 draws).0 some

pub one-more : (n draws : ℕ) → after_draws (n + 1) draws ≡ after_draw (after_draws n draws)
one-more n draws = let next : n + 1 ≡ suc n = omega arith in ap (λ k. after_draws k draws) next

pub draws-add : (m n draws : ℕ) → after_draws m (after_draws n draws) ≡ after_draws (n + m) draws
draws-add zero n draws = let same : n + 0 ≡ n = omega arith in ap (λ k. after_draws k draws) (sym same)
draws-add (suc m) n draws =
    let next : n + suc m ≡ suc (n + m) = omega arith in
    ap after_draw (draws-add m n draws) ∙ ap (λ k. after_draws k draws) (sym next)
