-- The parts of a row.
use Rattle.std.specs.Prelude.{ℕ, Bool, List, [], ◌∷◌, ◌++◌, length, codes, decimal, nat_le, nat_lt, sum_by}
use Rattle.std.specs.List.{flat_map}
use Rattle.row.specs.declared.field.Field.{Field}
use Rattle.row.specs.declared.field.Field.TheVariants.{Text, Number}

abbrev pub field_text : Field → List ℕ
field_text (Text t) = t.now
field_text (Number n) = decimal n

abbrev pub fields_text : List Field → List ℕ
fields_text fs = flat_map field_text fs

-- a call that is refused, with its byte 10
abbrev pub refusal_text : List ℕ → ℕ → ℕ → List ℕ
refusal_text call id number = call ++ (decimal id ++ (codes " no " ++ (decimal number ++ (10 ∷ []))))

-- how long all fields are
abbrev pub size_of : List Field → ℕ
size_of fs = sum_by (λ f. length (field_text f)) fs

-- a number of 32 bits, or a text that is no longer than one may be
abbrev pub is_short : Field → Bool
is_short (Text t) = nat_le (length t.now) 11
is_short (Number n) = nat_lt n 4294967296
