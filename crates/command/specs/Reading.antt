-- How the reader goes through a text, part by part. What it finds is said in Grammar.
use Rattle.std.specs.Prelude.{◌≡◌, ℕ, ◌+◌, ◌-◌, ◌*◌, min, Bool, cond, ◌&&◌, List, [], ◌∷◌, take, drop, ℤ, pos, neg_ℤ, Some, None, Option, ◌==◌, nat_le, nat_lt, slice_index}
use Rattle.std.specs.Option.{option_and_then}
use Rattle.std.specs.List.{prefix_len}
use Rattle.command.specs.declared.command.Command.{Command}
use Rattle.command.specs.declared.command.Command.TheVariants.{Open, Wake, Block, Tick, Begin, End}
use Rattle.command.specs.Unread.{Unread}

abbrev pub first_of : List ℕ → Option ℕ
first_of [] = None
first_of (b ∷ bs) = Some b

abbrev pub is_digit : ℕ → Bool
is_digit b = nat_le 48 b && nat_le b 57

-- the number that digits write after a
abbrev pub nat_after : ℕ → List ℕ → ℕ
nat_after a [] = a
nat_after a (d ∷ ds) = nat_after (a * 10 + (d - 48)) ds

abbrev pub fitting : ℕ → Option ℕ
fitting n = cond (nat_lt n 4294967296) (Some n) None

abbrev pub digits_in : List ℕ → List ℕ
digits_in bs = take (prefix_len is_digit bs) bs

-- what stands behind the digits
abbrev pub behind : List ℕ → List ℕ
behind bs = drop (prefix_len is_digit bs) bs

-- a run of digits with no leading zero, of at most 32 bits
abbrev pub number_in : List ℕ → Option ℕ
number_in bs =
    cond (prefix_len is_digit bs == 0) None
    (cond (slice_index bs 0 == 48 && nat_lt 1 (prefix_len is_digit bs)) None
    (cond (nat_lt (nat_after 0 (digits_in bs)) 4294967296) (Some (nat_after 0 (digits_in bs))) None))

-- n bytes passed over where the reading is good, and none where it is refused
abbrev pub past : {T : Type 0} → Option T → ℕ → List ℕ → List ℕ
past (Some x) n bs = drop n bs
past None n bs = bs

-- so many bytes are passed over on the same line, and none where the reading is refused
abbrev pub Passes : {T : Type 0} → Option T → ℕ → Unread → Unread → Type 0
Passes r n old new = new ≡ record { rest = past r n old.rest; line = old.line }

-- the reader has gone on along its line, up to what is left; where the reading is refused, it may stand anywhere
abbrev pub GoesOn : {T : Type 0} → Option T → Unread → List ℕ → Unread → Type 0
GoesOn (Some x) old left new = new ≡ record { rest = left; line = old.line }
GoesOn None old left new = new.line ≡ old.line

-- one byte that has to stand here
abbrev pub expected : ℕ → List ℕ → Option (Unit {0})
expected b [] = None
expected b (x ∷ xs) = cond (x == b) (Some tt) None

-- lines are counted up to the largest number of 32 bits
abbrev pub next_line : ℕ → ℕ
next_line n = min (n + 1) 4294967295

-- go on with what was read, or stop
abbrev pub and_then : {A B : Type 0} → Option A → (A → Option B) → Option B
and_then o next = option_and_then next o

-- a number with a minus before it, from -1 down to -2147483648
abbrev pub negated : ℕ → Option ℤ
negated n = cond (n == 0) None (cond (nat_le n 2147483648) (Some (neg_ℤ (pos n))) None)

abbrev pub posited : ℕ → Option ℤ
posited n = cond (nat_lt n 2147483648) (Some (pos n)) None

abbrev pub signed_in : List ℕ → Option ℤ
signed_in bs = cond (slice_index bs 0 == 45) (and_then (number_in (drop 1 bs)) negated) (and_then (number_in bs) posited)

abbrev pub signed_rest : List ℕ → List ℕ
signed_rest bs = cond (slice_index bs 0 == 45) (behind (drop 1 bs)) (behind bs)

abbrev pub up_to : ℕ → ℕ → Option ℕ
up_to most n = cond (nat_le n most) (Some n) None

abbrev pub at_least_one : ℕ → Option ℕ
at_least_one n = cond (n == 0) None (Some n)

-- a space, and a number behind it
unfoldable pub field_in : ℕ → List ℕ → Option ℕ
field_in most bs = and_then (expected 32 bs) (λ _. and_then (number_in (drop 1 bs)) (up_to most))

unfoldable pub field_rest : List ℕ → List ℕ
field_rest bs = behind (drop 1 bs)

unfoldable pub signed_field_in : List ℕ → Option ℤ
signed_field_in bs = and_then (expected 32 bs) (λ _. signed_in (drop 1 bs))

unfoldable pub signed_field_rest : List ℕ → List ℕ
signed_field_rest bs = signed_rest (drop 1 bs)

-- the fields of each command
unfoldable pub open_in : List ℕ → Option Command
open_in bs = and_then (signed_field_in bs) (λ t. and_then (field_in 255 (signed_field_rest bs)) (λ r. Some (Open t r)))

unfoldable pub open_rest : List ℕ → List ℕ
open_rest bs = field_rest (signed_field_rest bs)

unfoldable pub wake_in : List ℕ → Option Command
wake_in bs = and_then (field_in 65535 bs) (λ a. Some (Wake a))

unfoldable pub block_in : List ℕ → Option Command
block_in bs = and_then (field_in 65535 bs) (λ a. Some (Block a))

unfoldable pub tick_in : List ℕ → Option Command
tick_in bs = and_then (field_in 9999 bs) (λ n. cond (n == 0) None (Some (Tick n)))

unfoldable pub end_in : List ℕ → Option Command
end_in bs = and_then (field_in 65535 bs) (λ s. Some (End s))

unfoldable pub begin_in : List ℕ → Option Command
begin_in bs =
    and_then (field_in 65535 bs) (λ s.
    and_then (field_in 65535 (field_rest bs)) (λ a.
    and_then (signed_field_in (field_rest (field_rest bs))) (λ t.
    and_then (signed_field_in (signed_field_rest (field_rest (field_rest bs)))) (λ d.
    and_then (field_in 65535 (signed_field_rest (signed_field_rest (field_rest (field_rest bs))))) (λ e.
    Some (Begin s a t d e))))))

unfoldable pub begin_rest : List ℕ → List ℕ
begin_rest bs = field_rest (signed_field_rest (signed_field_rest (field_rest (field_rest bs))))

-- the fields behind a letter
unfoldable pub fields_in : ℕ → List ℕ → Option Command
fields_in b bs =
    cond (b == 111) (open_in bs)
    (cond (b == 119) (wake_in bs)
    (cond (b == 98) (block_in bs)
    (cond (b == 116) (tick_in bs)
    (cond (b == 99) (begin_in bs)
    (cond (b == 101) (end_in bs) None)))))

unfoldable pub fields_rest : ℕ → List ℕ → List ℕ
fields_rest b bs = cond (b == 111) (open_rest bs) (cond (b == 99) (begin_rest bs) (field_rest bs))

abbrev pub byte_of : Option ℕ → ℕ
byte_of None = 0
byte_of (Some b) = b

-- letter, fields and the end of the line
unfoldable pub line_in : List ℕ → Option Command
line_in bs =
    and_then (first_of bs) (λ b.
    and_then (fields_in b (drop 1 bs)) (λ c.
    and_then (expected 10 (fields_rest b (drop 1 bs))) (λ _. Some c)))

unfoldable pub line_rest : List ℕ → List ℕ
line_rest bs = drop 1 (fields_rest (byte_of (first_of bs)) (drop 1 bs))
