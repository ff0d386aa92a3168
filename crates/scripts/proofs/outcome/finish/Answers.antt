use Rattle.scripts.proofs.Onwards.{by_call}
use Rattle.scripts.proofs.outcome.finish.Goals as goal

pub returns-clause-plays : goal.returns-clause-plays
returns-clause-plays g c = by_call c.end.ensures.called.called
