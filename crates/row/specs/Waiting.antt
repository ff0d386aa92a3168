-- What waits in a buffer, as its callers see it.
use Rattle.std.specs.Prelude.{ℕ, ◌≤◌, List, length, take}
use Rattle.std.proofs.Common.{arith}
use Rattle.std.proofs.lemmas.List.{length-take}

-- the bytes, and the fact that they are no more than a buffer has room for
pub record Waiting : Type 0 where
  pub bytes : List ℕ
  pub few : length bytes ≤ 65536

-- as many as are taken from the front are no more
pub few_taken : (n : ℕ) (xs : List ℕ) → n ≤ 65536 → length (take n xs) ≤ 65536
few_taken n xs h = omega (arith, length-take n xs)
