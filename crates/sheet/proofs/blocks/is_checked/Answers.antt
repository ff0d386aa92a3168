use Rattle.std.proofs.Common.{arith}
use Rattle.std.proofs.option.Match.{if_some}
use Rattle.sheet.proofs.Bytes.{check_decided}
use Rattle.sheet.proofs.blocks.is_checked.Goals as goal

pub returns : goal.returns
returns c =
    let parts = if_some _ _ _ c.unwrap.ensures c.split_last_chunk.ensures.cases in
    check_decided c.args.block.now (omega arith) c.unwrap.result.0.now c.unwrap.result.1.now c.from_le_bytes.result c.weighted_sum.result parts.0 parts.1 c.from_le_bytes.ensures c.weighted_sum.ensures
