use Rattle.std.proofs.Common.{◌+◌, ◌*◌, arith}
use Rattle.sheet.specs.Format.{IsEntryBlock}
use Rattle.sheet.proofs.Bytes.{zero_within, zero_of_range}
use Rattle.sheet.proofs.EntryParts.{when_like}
use Rattle.sheet.proofs.entries.is_entry_block.Goals as goal

pub returns-then-are_zero : goal.returns-then-are_zero
returns-then-are_zero c =
    let b = c.args.block.now in
    let count = c.args.count in
    when_like c.are_zero-then-are_zero.result _ (IsEntryBlock b c.args.number count)
    (λ tail. record {
      kind = omega arith;
      numbered = omega arith;
      counted = omega arith;
      nought = zero_within b 3 8 (omega arith) (omega arith) c.if-are_zero.ensures;
      rest = zero_within b (8 + 8 * count) 508 (omega arith) (omega arith) tail;
    })
    (λ w. zero_of_range b (8 + 8 * count) 508 w.rest)
    c.are_zero-then-are_zero.ensures

pub returns-else-are_zero : goal.returns-else-are_zero
returns-else-are_zero c =
    rw c.if-are_zero.false (λ w. c.if-are_zero.ensures (zero_of_range c.args.block.now 3 8 w.nought))
