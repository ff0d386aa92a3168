use Rattle.std.proofs.Common.{◌≡◌, ◌^◌, ◌<◌, ◌++◌, length, drop, decimal}
use Rattle.row.proofs.figures.write_u32.Given as goal

-- the digits that are left to write, and what stands behind them, are the text and what follows it
abbrev pub invariant-loop-at : goal.invariant-loop-at
invariant-loop-at l =
    (length (decimal l.left) ≡ l.at) × (decimal l.left ++ drop l.at l.out ≡ decimal l.n ++ drop l.count l.initial.out) × (l.left < 2 ^ 32)
