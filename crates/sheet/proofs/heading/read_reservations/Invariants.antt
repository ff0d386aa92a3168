use Rattle.sheet.specs.Read.{ListRead}
use Rattle.sheet.proofs.heading.read_reservations.Given as goal

abbrev pub invariant-loop-chunk : goal.invariant-loop-chunk
invariant-loop-chunk l = ListRead l.bytes l.chunk-index l.list.items
