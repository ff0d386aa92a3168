use Rattle.sheet.proofs.Bytes.{block_of}
use Rattle.sheet.proofs.blocks.Blocks.first.Goals as goal

pub returns : goal.returns
returns c = let it = c.args.self.now in block_of it.blocks.now it.whole 0 it.sized.0
