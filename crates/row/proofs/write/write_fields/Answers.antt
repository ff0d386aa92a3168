use Rattle.std.proofs.Common.{arith}
use Rattle.std.proofs.lemmas.List.Concat.{length-flat_map}
use Rattle.std.proofs.lemmas.Bool.Decides.{nat_tests}
use Rattle.row.specs.Fields.{field_text}
use Rattle.row.proofs.Lengths.{short_together}
use Rattle.row.proofs.write.write_fields.Goals as goal

pub fields_size-requires : goal.fields_size-requires
fields_size-requires c = omega (arith, short_together c.args.fields.now c.requires.short, c.requires.few)

pub returns-then-out-fields_size : goal.returns-then-out-fields_size
returns-then-out-fields_size c =
    let size = length-flat_map field_text c.args.fields.now in
    let most = short_together c.args.fields.now c.requires.short in
    record { value = grind (arith, nat_tests); after = grind (arith, nat_tests); short = omega (arith, c.requires.few) }

pub put_fields-requires : goal.put_fields-requires
put_fields-requires c =
    let size = length-flat_map field_text c.args.fields.now in
    omega arith

pub returns : goal.returns
returns c =
    let size = length-flat_map field_text c.args.fields.now in
    let most = short_together c.args.fields.now c.requires.short in
    record { value = grind (arith, nat_tests); after = grind (arith, nat_tests); short = omega (arith, c.requires.few) }
