-- What the parts of the reader give, for its own contracts.
use Rattle.std.specs.Prelude.{◌≡◌, ℕ, ◌+◌, ◌*◌, ◌<◌, ◌≤◌, List, length, Ok, Err, Result, ◌≢◌}
use Rattle.reservation.specs.declared.reservation.Reservation.{Reservation}
use Rattle.reservation.specs.Reservations.{at}
use Rattle.plan.specs.declared.entry.Entry.{Entry}
use Rattle.plan.specs.Entries as plan
use Rattle.sheet.specs.declared.fault.SheetFault.{SheetFault}
use Rattle.sheet.specs.declared.load.Contents.{Contents}
use Rattle.sheet.specs.declared.load.Passed.{Passed}
use Rattle.sheet.specs.declared.heading.HeadingFields.{HeadingFields}
use Rattle.sheet.specs.Format.{byte, blocks_for, ReservationAt, EntryAt, entry_place, IsHeading, IsSheet}
use Rattle.sheet.specs.Told.{Told, Only, Within, Never}

-- one of the first n reservations has something in its second byte
abbrev pub IsMarked : List ℕ → ℕ → Type 0
IsMarked s n = (k : ℕ) × (k < n) × (byte s (6 * k + 1) ≢ 0)

-- these are the first n reservations that stand in the bytes one after the other
pub record ListRead (s : List ℕ) (n : ℕ) (list : List Reservation) : Type 0 where
  pub many : length list ≡ n
  pub each : (k : ℕ) → k < n → ReservationAt s (6 * k) (at list k)

-- the block is the heading of what was read
pub record HeadingRead (b : List ℕ) (blocks : ℕ) (h : HeadingFields) : Type 0 where
  pub heading : IsHeading b h.base h.depth h.reservations.items h.entries
  pub fits : blocks_for h.entries ≡ blocks

-- these are the first n entries of the sheet
pub record EntriesRead (s : List ℕ) (n : ℕ) (es : List Entry) : Type 0 where
  pub many : length es ≡ n
  pub each : (k : ℕ) → k < n → EntryAt s (entry_place k) (plan.at es k)

-- the bytes are the sheet of what was read
abbrev pub SheetRead : List ℕ → Contents → Type 0
SheetRead s c = IsSheet s c.heading.base c.heading.depth c.entries.items c.heading.reservations.items

-- the bytes are the sheet of this plan and of these reservations
pub record PassedRead (s : List ℕ) (p : Passed) : Type 0 where
  pub few : length p.reservations.items ≤ 16
  pub sheet : IsSheet s p.plan.base p.plan.depth p.plan.entries p.reservations.items

-- what holds of an answer, whatever it leaves behind
pub record Answer (s : List ℕ) (r : Result ℕ SheetFault) : Type 0 where
  pub told : Told s r
  pub only : Only s r
  pub within : Within s r
  pub never : Never r

-- what was read has passed, and is what the bytes say; or it is refused
abbrev pub Judged : List ℕ → Result Passed SheetFault → Type 0
Judged s (Ok p) = Answer s (Ok (length p.reservations.items)) × PassedRead s p
Judged s (Err f) = Answer s (Err f)
