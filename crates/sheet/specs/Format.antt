-- The format of sheets: which bytes are the sheet of which base period, depth, entries and reservations.
use Rattle.std.specs.Prelude.{◌≡◌, ℕ, zero, suc, ◌+◌, ◌-◌, ◌*◌, ◌/◌, ◌%◌, ◌<◌, ◌≤◌, min, List, length, take, drop, slice_index}
use Rattle.plan.specs.declared.entry.Entry.{Entry}
use Rattle.plan.specs.Entries as entries
use Rattle.reservation.specs.declared.reservation.Reservation.{Reservation}
use Rattle.reservation.specs.Reservations as reservations

-- byte i, and the numbers that begin at byte i and have two and four bytes, the lowest first
abbrev pub byte : List ℕ → ℕ → ℕ
byte s i = slice_index s i

abbrev pub two : List ℕ → ℕ → ℕ
two s i = byte s i + byte s (i + 1) * 256

abbrev pub four : List ℕ → ℕ → ℕ
four s i = byte s i + byte s (i + 1) * 256 + byte s (i + 2) * 65536 + byte s (i + 3) * 16777216

-- the bytes from one place to before another are 0
abbrev pub Zero : List ℕ → ℕ → ℕ → Type 0
Zero s from to = (i : ℕ) → from ≤ i → i < to → byte s i ≡ 0

-- block n
abbrev pub block : List ℕ → ℕ → List ℕ
block s n = take 512 (drop (512 * n) s)

-- the sum of (i + 1) times byte i, for each i below n
unfoldable pub weighted_sum : List ℕ → ℕ → ℕ
weighted_sum b zero = 0
weighted_sum b (suc n) = weighted_sum b n + (n + 1) * byte b n

-- a block's check: its last four bytes hold the sum over those before them
abbrev pub Checked : List ℕ → Type 0
Checked b = four b 508 ≡ weighted_sum b 508

-- how many blocks there are for n entries: the heading, and one for each 60 of them or part of 60
abbrev pub blocks_for : ℕ → ℕ
blocks_for n = 1 + (n + 59) / 60

-- how many of n entries stand in block k: up to 60 of those that the blocks before it leave
abbrev pub in_block : ℕ → ℕ → ℕ
in_block n k = min (n - 60 * (k - 1)) 60

-- where block n, entry k and reservation k begin
abbrev pub block_place : ℕ → ℕ
block_place n = 512 * n

abbrev pub entry_place : ℕ → ℕ
entry_place k = 512 * (1 + k / 60) + (8 + 8 * (k % 60))

abbrev pub reservation_place : ℕ → ℕ
reservation_place k = 8 + 6 * k

-- the six bytes of a reservation, from byte p on
pub record ReservationAt (s : List ℕ) (p : ℕ) (r : Reservation) : Type 0 where
  pub activity : r.activity ≡ byte s p
  pub nought : byte s (p + 1) ≡ 0
  pub ticks : r.ticks ≡ two s (p + 2)
  pub period : r.period ≡ two s (p + 4)

-- the eight bytes of an entry, from byte p on
pub record EntryAt (s : List ℕ) (p : ℕ) (e : Entry) : Type 0 where
  pub activity : e.activity ≡ byte s p
  pub depth : e.depth ≡ byte s (p + 1)
  pub path : e.path ≡ two s (p + 2)
  pub offset : e.offset ≡ two s (p + 4)
  pub length : e.length ≡ two s (p + 6)

-- the heading for this base period, this depth, these reservations and so many entries
pub record IsHeading (b : List ℕ) (base depth : ℕ) (rs : List Reservation) (n : ℕ) : Type 0 where
  pub kind : byte b 0 ≡ 1
  pub number : byte b 1 ≡ 0
  pub base_period : two b 2 ≡ base
  pub depths : byte b 4 ≡ depth
  pub reserved : byte b 5 ≡ length rs
  pub few : length rs ≤ 16
  pub entered : byte b 6 ≡ n
  pub nought : byte b 7 ≡ 0
  pub reservations : (k : ℕ) → k < length rs → ReservationAt b (reservation_place k) (reservations.at rs k)
  pub rest : Zero b (reservation_place (length rs)) 508

-- the block of this number with so many entries
pub record IsEntryBlock (b : List ℕ) (number count : ℕ) : Type 0 where
  pub kind : byte b 0 ≡ 2
  pub numbered : byte b 1 ≡ number
  pub counted : byte b 2 ≡ count
  pub nought : Zero b 3 8
  pub rest : Zero b (8 + 8 * count) 508

-- the sheet of this base period, this depth, these entries and these reservations
pub record IsSheet (s : List ℕ) (base depth : ℕ) (es : List Entry) (rs : List Reservation) : Type 0 where
  pub most : length es ≤ 120
  pub size : length s ≡ 512 * blocks_for (length es)
  pub checked : (n : ℕ) → n < blocks_for (length es) → Checked (block s n)
  pub heading : IsHeading (block s 0) base depth rs (length es)
  pub blocks : (n : ℕ) → 1 ≤ n → n < blocks_for (length es) → IsEntryBlock (block s n) n (in_block (length es) n)
  pub each : (k : ℕ) → k < length es → EntryAt s (entry_place k) (entries.at es k)
