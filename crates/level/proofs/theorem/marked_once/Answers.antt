use Rattle.level.proofs.Unique.{chosen_once}
use Rattle.level.proofs.theorem.marked_once.Goals as goal

pub returns : goal.returns
returns c = chosen_once
