use Rattle.level.specs.Board.{slot}
use Rattle.level.proofs.Window.{empty}
use Rattle.level.proofs.board.Board.blank.Goals as goal

pub returns : goal.returns
returns c t = empty 1024 (slot t)
