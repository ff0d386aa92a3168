use Rattle.std.proofs.Common.{◌≡◌, ◌*◌, ◌≤◌}
use Rattle.sheet.specs.Format.{weighted_sum}
use Rattle.sheet.proofs.blocks.weighted_sum.Given as goal

-- each byte adds at most 255 * 508
abbrev pub invariant-loop-i : goal.invariant-loop-i
invariant-loop-i l = (l.sum ≡ weighted_sum l.bytes l.i) × (l.sum ≤ 129540 * l.i)
