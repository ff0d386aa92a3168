use Rattle.std.proofs.Common.{◌≡◌, ◌++◌, length, take, drop}
use Rattle.row.specs.Fields.{fields_text}
use Rattle.row.proofs.field.put_fields.Given as goal

-- the fields so far stand at the front
abbrev pub invariant-loop-field : goal.invariant-loop-field
invariant-loop-field l =
    (l.at ≡ length (fields_text (take l.field-index l.fields)))
    × (l.out ≡ fields_text (take l.field-index l.fields) ++ drop l.at l.initial.out)
