use Rattle.std.proofs.Common.{arith}
use Rattle.row.proofs.Laid.{fits_next, written_next}
use Rattle.row.proofs.field.put_fields.Goals as goal

pub write-size-requires : goal.write-size-requires
write-size-requires c =
    fits_next c.args.fields.now c.loop-field.field-index _ c.loop-field.out c.loop-field.at c.loop-field-test.true c.loop-field.invariant.0 (omega (arith, c.requires))

pub loop-field-preserved : goal.loop-field-preserved
loop-field-preserved c =
    written_next c.args.fields.now c.loop-field.field-index _ c.args.out.now c.loop-field.out c.write-size.new.out c.loop-field.at c.write-size.result
    c.loop-field-test.true c.loop-field.invariant.0 c.loop-field.invariant.1 c.write-size.ensures.value c.write-size.ensures.after
