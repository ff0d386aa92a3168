-- Within 1024 ticks no two have one cell.
use Rattle.std.proofs.Common.{◌≡◌, ℕ, zero, suc, get_or, replicate, ℤ, pos, ◌+ℤ◌, ◌*ℤ◌, ◌≤ℤ◌, ◌<ℤ◌, None, Option, refl, arith}
use Rattle.std.proofs.lemmas.Int.{ints}
use Rattle.clock.specs.Floor.{floor_div}
use Rattle.clock.proofs.Laws.{floor_parts}
use Rattle.level.specs.Board.{slot}

pub one_place : (c t u : ℤ) → c ≤ℤ t → t <ℤ (c +ℤ pos 1024) → c ≤ℤ u → u <ℤ (c +ℤ pos 1024) → slot t ≡ slot u → t ≡ u
one_place c t u ct tc cu uc e =
    let p = floor_parts t 1024 (omega arith) in
    let q = floor_parts u 1024 (omega arith) in
    apart (floor_div t 1024) (floor_div u 1024) (slot t) (slot u) p q e
  where
    apart : (x y : ℤ) (m n : ℕ) → (x *ℤ pos 1024) +ℤ pos m ≡ t → (y *ℤ pos 1024) +ℤ pos n ≡ u → m ≡ n → t ≡ u
    apart x y m n p q e = omega (arith, ints)

-- a table in which nothing is
pub empty : {A : Type 0} (n k : ℕ) → ◌≡◌ {A = Option A} (get_or (replicate n None) k None) None
empty zero k = refl
empty (suc n) zero = refl
empty (suc n) (suc k) = empty n k
