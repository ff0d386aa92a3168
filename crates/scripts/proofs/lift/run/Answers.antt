use Rattle.scripts.proofs.Onwards.{still, by_call, chain}
use Rattle.scripts.proofs.lift.run.Goals as goal

pub loop-init : goal.loop-init
loop-init g c = still _

pub loop-preserved : goal.loop-preserved
loop-preserved g c = chain c.loop.invariant (by_call c.tick.ensures.called)
