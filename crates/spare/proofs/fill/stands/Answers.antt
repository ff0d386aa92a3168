use Rattle.spare.specs.OrdersLemmas.{times_any}
use Rattle.spare.proofs.fill.stands.Goals as goal

pub returns : goal.returns
returns c = rw c.contains.ensures.value (times_any c.args.activity c.args.places.now)
