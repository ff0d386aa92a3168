-- What a hold does to the distances.
use Rattle.std.specs.Prelude.{◌≡◌, ℕ, suc, ◌+◌, ◌*◌, ◌<◌, ◌≤◌}
use Rattle.std.proofs.Common.{ap, mul-le-mul_left, mul-suc, arith}

pub held_bound : (m d p l : ℕ) → d ≤ p → l ≤ m → (m + 1) * d + l ≤ (m + 1) * p + m
held_bound m d p l h k = omega (arith, mul-le-mul_left (m + 1) h)

pub held_falls : (m d d' l l' : ℕ) → d' < d → l' ≤ m → (m + 1) * d' + l' < (m + 1) * d + l
held_falls m d d' l l' h k =
    let s : suc d' ≤ d = h in
    omega (arith, mul-le-mul_left (m + 1) s, mul-suc (m + 1) d')

pub held_same : (m p' p : ℕ) → p' ≡ p → (m + 1) * p' + m ≡ (m + 1) * p + m
held_same m p' p e = ap (λ n. (m + 1) * n + m) e
