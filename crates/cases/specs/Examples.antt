-- The worked examples, as one list.
use Rattle.std.specs.Prelude.{◌≡◌, ℕ, ◌*◌, ◌/◌, ◌%◌, ◌^◌, ◌<◌, ◌≤◌, Bool, false, cond, not, ◌&&◌, ◌||◌, List, [], ◌∷◌, length, ℤ, pos, negsuc, Some, None, Ok, Err, Option, Result, int_lt}
use Rattle.level.specs.Ticks.{between, is, is_available, Marking}
use Rattle.plan.specs.declared.entry.Entry.{Entry}
use Rattle.plan.specs.Entries.{Clashing}
use Rattle.plan.specs.Owners.{owner_in}
use Rattle.plan.specs.Value.{PlanValue}
use Rattle.reservation.specs.declared.fault.CheckFault.{CheckFault}
use Rattle.reservation.specs.declared.fault.CheckFault.TheVariants.{Short}
use Rattle.reservation.specs.declared.reservation.Reservation.{Reservation}
use Rattle.reservation.specs.Told.{Sound, Told}
use Rattle.reservation.specs.Windows.{owned}
use Rattle.spare.specs.Example.{HeldQueueExample}
use Rattle.timetable.specs.Owners.{shifted}

-- an entry by its activity, depth, path, offset and length
abbrev pub entry : ℕ → ℕ → ℕ → ℕ → ℕ → Entry
entry a k p o n = record { activity = a; depth = k; path = p; offset = o; length = n }

-- the example plan: four frames of ten ticks
abbrev pub example_base : ℕ
example_base = 10

abbrev pub example_depth : ℕ
example_depth = 2

abbrev pub example_entries : List Entry
example_entries =
    entry 1 0 0 0 3
    ∷ entry 4 0 0 3 1
    ∷ entry 0 1 0 4 4
    ∷ entry 3 1 1 4 1
    ∷ entry 2 2 1 5 2
    ∷ entry 5 2 3 5 5
    ∷ []

abbrev pub example_owner : ℤ → Option ℕ
example_owner = owner_in example_base example_entries

-- a plan is the example plan
abbrev pub IsExample : PlanValue → Type 0
IsExample p = (p.base ≡ example_base) × (p.depth ≡ example_depth) × (p.entries ≡ example_entries)

-- an entry of depth 5 and length 16, by its place in a row
abbrev pub deep_entry : ℕ → Entry
deep_entry i = entry (i % 16) 5 (i % 32) (i / 32 % 4 * 16) 16

-- a plan of two frames of four ticks, in which activity 0 owns the first tick and the last
abbrev pub ends_base : ℕ
ends_base = 4

abbrev pub ends_entries : List Entry
ends_entries = entry 0 1 0 0 1 ∷ entry 0 1 1 3 1 ∷ []

-- a reservation by its activity, ticks and period
abbrev pub reserve : ℕ → ℕ → ℕ → Reservation
reserve a x y = record { activity = a; ticks = x; period = y }

-- a list of one reservation: x ticks out of every y for activity 0
abbrev pub one : ℕ → ℕ → List Reservation
one x y = reserve 0 x y ∷ []

-- where every tick is free, the first reservation of any sound list is short from 0 on
abbrev pub AlwaysFree : Type 0
AlwaysFree =
    (cycle : ℕ) (rs : List Reservation) → 0 < cycle → 0 < length rs → Sound rs → Told (λ _. None) cycle rs (Err (Short 0 0 0))

-- the tick stands in the list
abbrev pub listed : List ℕ → ℤ → Bool
listed [] t = false
listed (x ∷ xs) t = (not (int_lt t (pos x)) && not (int_lt (pos x) t)) || listed xs t

-- the marks of a seat on the listed ticks, over other marks
abbrev pub marked : ℕ → List ℕ → (ℤ → Option ℕ) → ℤ → Option ℕ
marked seat xs others t = cond (listed xs t) (Some seat) (others t)

abbrev pub unmarked : ℤ → Option ℕ
unmarked t = None

-- what a first constraint marks on the example plan, and what a second one marks beside it
abbrev pub first_ticks : List ℕ
first_ticks = 244 ∷ 245 ∷ 246 ∷ 247 ∷ 264 ∷ 265 ∷ 266 ∷ 267 ∷ 248 ∷ 249 ∷ 257 ∷ []

abbrev pub second_ticks : List ℕ
second_ticks = 223 ∷ 233 ∷ 243 ∷ 253 ∷ 263 ∷ 217 ∷ 218 ∷ 219 ∷ 228 ∷ 229 ∷ 258 ∷ []

-- a worked example
pub data Example : Type 0 where
  -- the owner of a tick of the example plan
  owned_by : ℤ → Option ℕ → Example
  -- the owner of a tick of the example plan moved so many ticks later
  moved : ℤ → ℤ → Option ℕ → Example
  -- entries of these depths and paths clash, or don't, where they have the same stretch
  clash : ℕ → ℕ → ℕ → ℕ → Example
  no_clash : ℕ → ℕ → ℕ → ℕ → Example
  -- what the check tells of a list of reservations, by a plan's base period, depth and entries
  checked : ℕ → ℕ → List Entry → List Reservation → Result (Unit {0}) CheckFault → Example
  -- how many ticks activity 0 owns in a window of a plan, by its base period and entries, the window's first tick and length
  window : ℕ → List Entry → ℕ → ℕ → ℕ → Example
  -- a timetable without owners serves nobody
  always_free : Example
  -- which ticks of the example plan a constraint marks beside other marks: by its activity, start, deadline and estimate
  marks_for : (ℤ → Option ℕ) → ℕ → ℕ → ℕ → ℕ → List ℕ → Example
  -- how many ticks of the example plan are available to an activity beside other marks, from a start to before a deadline
  left_for : (ℤ → Option ℕ) → ℕ → ℕ → ℕ → ℕ → Example
  -- whom a queue under a hold of one repeat names
  held_queue : Example

abbrev pub Holds : Example → Type 0
Holds (owned_by t o) = example_owner t ≡ o
Holds (moved k t o) = shifted example_owner k t ≡ o
Holds (clash k p l q) = (a b o n : ℕ) → 1 ≤ n → Clashing (entry a k p o n) (entry b l q o n)
Holds (no_clash k p l q) = (a b o n : ℕ) → Clashing (entry a k p o n) (entry b l q o n) → ⊥
Holds (checked b d es rs r) = Told (owner_in b es) (b * 2 ^ d) rs r
Holds (window b es t y n) = owned (owner_in b es) 0 (pos t) y ≡ n
Holds always_free = AlwaysFree
Holds (marks_for before a start deadline estimate xs) =
    Marking (is_available before example_owner a) (λ t. is a (example_owner t)) (pos start) (pos deadline) estimate (listed xs)
Holds (left_for before a start deadline n) = between (is_available before example_owner a) (pos start) (pos deadline) ≡ n
Holds held_queue = HeldQueueExample

-- negsuc n is the tick -(n + 1)
abbrev pub examples : List Example
examples =
    owned_by (pos 0) (Some 1)
    ∷ owned_by (pos 4) (Some 0)
    ∷ owned_by (pos 8) None
    ∷ owned_by (pos 14) (Some 3)
    ∷ owned_by (pos 15) (Some 2)
    ∷ owned_by (pos 35) (Some 5)
    ∷ owned_by (negsuc 0) (Some 5)
    ∷ owned_by (negsuc 5) (Some 3)
    ∷ owned_by (negsuc 10) None
    ∷ owned_by (negsuc 14) (Some 0)
    ∷ owned_by (negsuc 40) (Some 5)
    ∷ moved (pos 7) (pos 7) (Some 1)
    ∷ moved (pos 7) (pos 0) (Some 4)
    ∷ clash 1 1 2 3
    ∷ no_clash 2 1 2 3
    ∷ checked example_base example_depth example_entries (one 4 20) (Ok tt)
    ∷ checked example_base example_depth example_entries (one 4 19) (Err (Short 0 5 3))
    -- windows that begin at multiples of 4 alone would pass 1 in 4
    ∷ window ends_base ends_entries 0 4 1
    ∷ window ends_base ends_entries 4 4 1
    ∷ checked ends_base 1 ends_entries (one 1 4) (Err (Short 0 1 0))
    ∷ always_free
    ∷ held_queue
    ∷ marks_for unmarked 0 230 270 11 first_ticks
    ∷ marks_for (marked 0 first_ticks unmarked) 4 215 265 11 second_ticks
    ∷ left_for (marked 1 second_ticks (marked 0 first_ticks unmarked)) 0 225 270 6
    ∷ []
