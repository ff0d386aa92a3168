use Rattle.std.proofs.Common.{length, arith}
use Rattle.std.specs.List.{concat}
use Rattle.std.proofs.lemmas.Iterator.{YieldsList-from_slice}
use Rattle.std.proofs.lemmas.Iterator.Adapters.{YieldsList-from_skip}
use Rattle.std.proofs.lemmas.Iterator.Consumers.{YieldsList-from_enumerate, YieldsList-turn}
use Rattle.sheet.proofs.EntryParts.{later_block, entries_more}
use Rattle.sheet.proofs.entries.read_entries.Goals as goal

pub loop-chunk-preserved : goal.loop-chunk-preserved
loop-chunk-preserved c =
    let bs = c.args.blocks.now.blocks.now in
    let s = concat bs in
    let number = c.in-Some.number in
    let road = YieldsList-from_skip {s = c.into_iter-number-iterator.result} 1 (YieldsList-from_enumerate (YieldsList-from_slice bs (cc)) (cc)) (cc) in
    let turn = later_block bs c.args.blocks.now.whole (length c.loop-number.yielded) (number, c.in-Some.block.now) (YieldsList-turn road c.loop-number.yielded _ c.loop-number.yielded_by _ _ (number, c.in-Some.block) c.in-Some.is c.next.ensures.steps) in
    rw c.push.ensures.items
    (entries_more s _ c.as_chunks.result.0.now number c.entries_in.result c.loop-chunk.chunk-index turn.2 (omega arith) c.as_chunks.ensures.front (omega arith) (omega arith) c.loop-chunk.entries.items c.entry_in.result c.loop-chunk-test.true c.loop-chunk.invariant c.entry_in.ensures)
