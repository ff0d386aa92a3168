use Rattle.std.proofs.Common.{◌+◌, ◌-◌, ◌*◌, min, length}
use Rattle.std.specs.List.{concat}
use Rattle.sheet.specs.Read.{EntriesRead}
use Rattle.sheet.proofs.entries.read_entries.Given as goal

-- the entries of the blocks below this one
abbrev pub invariant-loop-number : goal.invariant-loop-number
invariant-loop-number l = EntriesRead (concat l.fn.blocks.blocks.now) (min l.count (60 * length l.yielded)) l.entries.items

-- and so many of this block's
abbrev pub invariant-loop-chunk : goal.invariant-loop-chunk
invariant-loop-chunk l = EntriesRead (concat l.fn.blocks.blocks.now) (60 * (l.number - 1) + l.chunk-index) l.entries.items
