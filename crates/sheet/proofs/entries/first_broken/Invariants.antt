use Rattle.std.proofs.Common.{◌+◌, length}
use Rattle.std.specs.List.{concat}
use Rattle.sheet.specs.Told.{AllBlocks}
use Rattle.sheet.proofs.entries.first_broken.Given as goal

-- the entry blocks below this one
abbrev pub invariant-loop-number : goal.invariant-loop-number
invariant-loop-number l = AllBlocks (concat l.fn.blocks.blocks.now) l.entries (1 + length l.yielded)
