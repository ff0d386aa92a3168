-- A clash that is told is real: the two entries own a tick in common.
use Rattle.std.proofs.Common.{ℕ, List, Err, arith}
use Rattle.plan.specs.declared.entry.Entry.{Entry}
use Rattle.plan.specs.declared.fault.PlanFault.{PlanFault}
use Rattle.plan.specs.declared.fault.PlanFault.TheVariants.{Dimensions, TooManyEntries, OutOfRange, Clash, Memory}
use Rattle.plan.specs.Entries.{at}
use Rattle.plan.specs.Filled.{Shared}
use Rattle.plan.specs.Told.{Told}
use Rattle.plan.proofs.Sharing.{clash_shares}

pub shared_told : (U V : Type 0) (b d : ℕ) (es : List Entry) (e : PlanFault) → Told {U = U} b d es (Err e) → Shared {U = V} b es (Err e)
shared_told U V b d es Dimensions t = tt
shared_told U V b d es TooManyEntries t = tt
shared_told U V b d es (OutOfRange k) t = tt
shared_told U V b d es (Clash later earlier) (shaped, few, ranged, first) =
    let low = first.order in
    let high = first.within in
    clash_shares b d (at es earlier) (at es later) (ranged earlier (omega arith)) (ranged later high) first.clash
shared_told U V b d es Memory t = tt
