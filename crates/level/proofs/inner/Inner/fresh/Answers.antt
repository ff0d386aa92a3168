use Rattle.std.proofs.Common.{arith, w32, to_z, of_z}
use Rattle.std.proofs.lemmas.Int.{ints, to_z-of_z}
use Rattle.level.proofs.Counted.{ran_fresh, used_fresh}
use Rattle.level.proofs.inner.Inner.fresh.Goals as goal

pub invariant_of-result : goal.invariant_of-result
invariant_of-result c =
    let f = c.ranges.clock in
    let e = to_z-of_z w32 c.args.clock f in
    record { few = ran_fresh (to_z w32 (of_z w32 c.args.clock)) 16; little = used_fresh (to_z w32 (of_z w32 c.args.clock)) (omega (arith, ints)) 16 }
