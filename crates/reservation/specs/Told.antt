-- Which answer the check gives to which list of reservations.
use Rattle.std.specs.Prelude.{◌≡◌, ℕ, ◌<◌, ◌≤◌, List, length, ℤ, pos, Ok, Err, sum_by, Option, Result}
use Rattle.reservation.specs.declared.reservation.Reservation.{Reservation}
use Rattle.reservation.specs.declared.fault.CheckFault.{CheckFault}
use Rattle.reservation.specs.declared.fault.CheckFault.TheVariants.{TooMany, OutOfRange, Twice, Short, Overbooked}
use Rattle.reservation.specs.Reservations.{InRange, Ranged, Repeats, Distinct, AllServed, Passes, share, at}
use Rattle.reservation.specs.Windows.{owned}

-- k is the first index of a reservation that is not in range
pub record FirstOutside (rs : List Reservation) (k : ℕ) : Type 0 where
  pub within : k < length rs
  pub before : Ranged rs k
  pub outside : InRange (at rs k) → ⊥

-- k is the first index of a reservation for an activity that has one already
pub record FirstTwice (rs : List Reservation) (k : ℕ) : Type 0 where
  pub within : k < length rs
  pub before : Distinct rs k
  pub repeats : Repeats rs k

-- of the windows of the reservation that begin at 0 or later, the first that is short begins at t, before the cycle ends,
-- and its activity owns n ticks there
pub record FirstShort (owner : ℤ → Option ℕ) (cycle : ℕ) (r : Reservation) (t n : ℕ) : Type 0 where
  pub within : t < cycle
  pub count : n ≡ owned owner r.activity (pos t) r.period
  pub short : n < r.ticks
  pub no_sooner : (s : ℕ) → s < t → r.ticks ≤ owned owner r.activity (pos s) r.period

-- k is the first index of a reservation that is not served, and its first short window begins at t and has n ticks
pub record FirstUnserved (owner : ℤ → Option ℕ) (cycle : ℕ) (rs : List Reservation) (k t n : ℕ) : Type 0 where
  pub within : k < length rs
  pub before : AllServed owner rs k
  pub window : FirstShort owner cycle (at rs k) t n

-- a list that the refusals 11 to 13 let by
pub record Sound (rs : List Reservation) : Type 0 where
  pub few : length rs ≤ 16
  pub ranged : Ranged rs (length rs)
  pub distinct : Distinct rs (length rs)

-- what each answer says; a refusal's test comes after those of the smaller numbers
abbrev pub Told : (ℤ → Option ℕ) → ℕ → List Reservation → Result (Unit {0}) CheckFault → Type 0
Told owner cycle rs (Ok _) = Passes owner rs
Told owner cycle rs (Err TooMany) = 16 < length rs
Told owner cycle rs (Err (OutOfRange k)) = (length rs ≤ 16) × FirstOutside rs k
Told owner cycle rs (Err (Twice k)) = (length rs ≤ 16) × Ranged rs (length rs) × FirstTwice rs k
Told owner cycle rs (Err (Short k t n)) = Sound rs × FirstUnserved owner cycle rs k t n
Told owner cycle rs (Err Overbooked) = Sound rs × AllServed owner rs (length rs) × (1000000 < sum_by share rs)

-- no other answer would be told of the same list
abbrev pub Only : (ℤ → Option ℕ) → ℕ → List Reservation → Result (Unit {0}) CheckFault → Type 0
Only owner cycle rs r = (s : Result (Unit {0}) CheckFault) → Told owner cycle rs s → s ≡ r
