-- What an entry of a plan says, and when two of them clash.
use Rattle.std.specs.Prelude.{◌≡◌, ℕ, ◌+◌, ◌%◌, ◌^◌, ◌<◌, ◌≤◌, min, Bool, ◌&&◌, List, ℤ, ◌==◌, nat_le, nat_lt, slice_index_or}
use Rattle.clock.specs.Floor.{floor_div, floor_mod}
use Rattle.plan.specs.declared.entry.Entry.{Entry}

-- the fields are in range, in a plan of base period b and depth d
abbrev pub InRange : ℕ → ℕ → Entry → Type 0
InRange b d e =
    (e.activity ≤ 15) × (e.depth ≤ d) × (e.path < 2 ^ e.depth) × (1 ≤ e.length) × (e.offset + e.length ≤ b)

-- the entry owns the tick t: it lies in a frame on its path, within its stretch of that frame
pub record Owns (b : ℕ) (e : Entry) (t : ℤ) : Type 0 where
  pub from : e.offset ≤ floor_mod t b
  pub until : floor_mod t b < e.offset + e.length
  pub on_path : floor_mod (floor_div t b) (2 ^ e.depth) ≡ e.path

-- the same as a test
abbrev pub owns : ℕ → Entry → ℤ → Bool
owns b e t =
    nat_le e.offset (floor_mod t b)
    && (nat_lt (floor_mod t b) (e.offset + e.length) && floor_mod (floor_div t b) (2 ^ e.depth) == e.path)

-- the same from the frame's residue n at a deeper depth, and the offset o
abbrev pub covers : Entry → ℕ → ℕ → Bool
covers e n o = nat_le e.offset o && (nat_lt o (e.offset + e.length) && n % 2 ^ e.depth == e.path)

-- the paths agree as far as the shallower one goes, and the stretches overlap
abbrev pub Clashing : Entry → Entry → Type 0
Clashing a b =
    (a.path % 2 ^ min a.depth b.depth ≡ b.path % 2 ^ min a.depth b.depth)
    × (a.offset < b.offset + b.length)
    × (b.offset < a.offset + a.length)

-- an entry with no ticks, which stands past the end of a list
abbrev pub blank : Entry
blank = record { activity = 0; depth = 0; path = 0; offset = 0; length = 0 }

-- the entry at an index
abbrev pub at : List Entry → ℕ → Entry
at es i = slice_index_or es i blank

-- of the first n entries no two clash
abbrev pub NoClash : List Entry → ℕ → Type 0
NoClash es n = (later : ℕ) → later < n → (earlier : ℕ) → earlier < later → Clashing (at es earlier) (at es later) → ⊥
