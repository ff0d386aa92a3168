use Rattle.level.proofs.Levels.{sharing}
use Rattle.level.proofs.theorem.sharing_stands.Goals as goal

pub returns : goal.returns
returns c = sharing
