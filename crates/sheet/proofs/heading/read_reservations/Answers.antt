use Rattle.std.proofs.Common.{arith}
use Rattle.sheet.proofs.Headings.{chunk_marked, list_more}
use Rattle.sheet.proofs.heading.read_reservations.Goals as goal

pub returns-in_err-reservation_in : goal.returns-in_err-reservation_in
returns-in_err-reservation_in c =
    rw c.from_residual.ensures
    (chunk_marked c.args.bytes.now c.as_chunks.result.0.now c.args.count c.loop-chunk.chunk-index c.as_chunks.ensures.front c.loop-chunk-test.true (omega arith) c.in_err-reservation_in.ensures)

pub loop-chunk-preserved : goal.loop-chunk-preserved
loop-chunk-preserved c =
    rw c.push.ensures.items
    (list_more c.args.bytes.now c.as_chunks.result.0.now c.args.count c.loop-chunk.chunk-index c.as_chunks.ensures.front c.loop-chunk-test.true (omega arith) c.loop-chunk.list.items c.in_ok-reservation_in.field-0 c.loop-chunk.invariant c.in_ok-reservation_in.ensures)
