use Rattle.std.proofs.Common.{◌+◌, ◌*◌, ◌≤◌, mul-le-mul, arith}
use Rattle.sheet.proofs.Bytes.{sum_none, sum_more}
use Rattle.sheet.proofs.blocks.weighted_sum.Goals as goal

pub loop-i-init : goal.loop-i-init
loop-i-init c = (sum_none c.args.bytes.now, omega arith)

pub loop-i-preserved : goal.loop-i-preserved
loop-i-preserved c =
    let small : c.from.result ≤ 255 = omega (arith, c.type_inv.bytes c.loop-i.i) in
    let place : c.loop-i.i + 1 ≤ 508 = omega arith in
    let product : (c.loop-i.i + 1) * c.from.result ≤ 508 * 255 = mul-le-mul place small in
    let e = sum_more c.args.bytes.now c.loop-i.i in
    (simp c.from.ensures (omega (arith, c.loop-i.invariant.0)), omega arith)
