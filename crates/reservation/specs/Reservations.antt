-- What a list of reservations has to be, and when a timetable serves it.
use Rattle.std.specs.Prelude.{◌≡◌, ℕ, ◌*◌, ◌/◌, ◌<◌, ◌≤◌, List, length, ℤ, sum_by, Option, ◌≢◌, slice_index_or}
use Rattle.reservation.specs.declared.reservation.Reservation.{Reservation}
use Rattle.reservation.specs.Windows.{Served}

-- the fields are in range
abbrev pub InRange : Reservation → Type 0
InRange r = (r.activity ≤ 15) × (1 ≤ r.ticks) × (r.ticks ≤ r.period) × (r.period ≤ 4096)

-- in every window its activity owns the ticks that it asks for
abbrev pub IsServed : (ℤ → Option ℕ) → Reservation → Type 0
IsServed owner r = Served owner r.activity r.ticks r.period

-- the millionths of all ticks that it asks for, rounded down
abbrev pub share : Reservation → ℕ
share r = 1000000 * r.ticks / r.period

-- a reservation of nothing, which stands past the end of a list
abbrev pub blank : Reservation
blank = record { activity = 0; ticks = 0; period = 0 }

-- the reservation at an index
abbrev pub at : List Reservation → ℕ → Reservation
at rs k = slice_index_or rs k blank

-- the first n reservations are in range
abbrev pub Ranged : List Reservation → ℕ → Type 0
Ranged rs n = (k : ℕ) → k < n → InRange (at rs k)

-- an earlier reservation is for the same activity as the one at k
abbrev pub Repeats : List Reservation → ℕ → Type 0
Repeats rs k = (earlier : ℕ) × (earlier < k) × ((at rs earlier).activity ≡ (at rs k).activity)

-- none is
abbrev pub New : List Reservation → ℕ → Type 0
New rs k = (earlier : ℕ) → earlier < k → (at rs earlier).activity ≢ (at rs k).activity

-- of the first n reservations no two are for one activity
abbrev pub Distinct : List Reservation → ℕ → Type 0
Distinct rs n = (k : ℕ) → k < n → New rs k

-- the first n reservations are served
abbrev pub AllServed : (ℤ → Option ℕ) → List Reservation → ℕ → Type 0
AllServed owner rs n = (k : ℕ) → k < n → IsServed owner (at rs k)

-- a list that passes: few enough reservations, in range, for different activities, each served in every window,
-- and together no more than all ticks
pub record Passes (owner : ℤ → Option ℕ) (rs : List Reservation) : Type 0 where
  pub few : length rs ≤ 16
  pub ranged : Ranged rs (length rs)
  pub distinct : Distinct rs (length rs)
  pub served : AllServed owner rs (length rs)
  pub shares : sum_by share rs ≤ 1000000
