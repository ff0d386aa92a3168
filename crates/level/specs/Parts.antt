-- What the private parts of the calls say.
use Rattle.std.specs.Prelude.{◌≡◌, ℕ, ◌+◌, ◌<◌, true, false, cond, ◌⊎◌, List, length, ℤ, pos, ◌+ℤ◌, ◌≤ℤ◌, ◌<ℤ◌, Some, None, Option, Result, Ok, Err, ◌≢◌, slice_index, slice_set}
use Rattle.spare.specs.Chosen.{Chosen, Within}
use Rattle.spare.specs.Sets.{is_ready}
use Rattle.level.specs.declared.inner.Inner.{Inner}
use Rattle.level.specs.declared.ticked.Letter.{Letter}
use Rattle.level.specs.declared.ticked.Letter.TheVariants.{Constrained, Reserved, Spare, Idle}
use Rattle.level.specs.declared.ticked.Ticked.{Ticked}
use Rattle.level.specs.declared.refusal.Refusal.{Refusal}
use Rattle.level.specs.declared.refusal.Refusal.TheVariants.{UnknownActivity, InvalidTicket}
use Rattle.level.specs.declared.ticket.Ticket.{Ticket}
use Rattle.level.specs.Board.{holder, turned, without}
use Rattle.level.specs.Seats.{seat_at, one_more}
use Rattle.level.specs.Ticks.{one, is}
use Rattle.level.specs.Meaning.{Constraint, Meaning, to_begin}
use Rattle.level.specs.Refusals.{NotOut, NoneLeft, Refused}
use Rattle.level.specs.Steps.{ByMark, ByOwner, ByNeither, ByRule, AllBlocked}
use Rattle.level.specs.Promises.{is_for}

-- Parts of a tick.

-- whether a seat's activity runs a tick that is marked for it
abbrev pub RunnerOf : Inner → ℕ → Option ℕ → Type 0
RunnerOf i s None = (h : Constraint) → seat_at i.seats s ≡ Some h → is_ready i.ready h.activity ≡ false
RunnerOf i s (Some a) = (h : Constraint) × (seat_at i.seats s ≡ Some h) × (a ≡ h.activity) × (is_ready i.ready a ≡ true)

-- to whom a tick is due before the spare rule is asked, and by which letter
abbrev pub DueBy : Meaning → ℕ → Letter → Type 0
DueBy m a (Constrained s) = ByMark m s a × (s < 16)
DueBy m a Reserved = ByOwner m a
DueBy m a Spare = ⊥
DueBy m a Idle = ⊥

abbrev pub DueIn : Meaning → Option (ℕ × Letter) → Type 0
DueIn m None = ByNeither m
DueIn m (Some d) = DueBy m d.0 d.1

-- what the spare rule gives
abbrev pub SpareIn : Meaning → Letter → Option ℕ → Meaning → Type 0
SpareIn m (Constrained s) o n = ⊥
SpareIn m Reserved o n = ⊥
SpareIn m Spare None n = ⊥
SpareIn m Spare (Some a) n =
    Chosen m.ready m.rule.distance m.rule.patience (Some a) n.rule.distance n.rule.patience
    × Within n.rule.distance n.rule.patience
SpareIn m Idle None n = AllBlocked m × (n.rule ≡ m.rule)
SpareIn m Idle (Some a) n = ⊥

-- by which letter the tick goes to whom, before anything is counted
abbrev pub GivenTo : Meaning → Letter → Option ℕ → Meaning → Type 0
GivenTo m (Constrained s) None n = ⊥
GivenTo m (Constrained s) (Some a) n = ByMark m s a × (n.rule ≡ m.rule)
GivenTo m Reserved None n = ⊥
GivenTo m Reserved (Some a) n = ByOwner m a × (n.rule ≡ m.rule)
GivenTo m Spare None n = ⊥
GivenTo m Spare (Some a) n = ByRule m a n
GivenTo m Idle None n = AllBlocked m × (n.rule ≡ m.rule)
GivenTo m Idle (Some a) n = ⊥

abbrev pub SmallRunner : Option ℕ → Type 0
SmallRunner None = Unit {0}
SmallRunner (Some a) = a < 16

abbrev pub SmallLetter : Letter → Type 0
SmallLetter (Constrained s) = s < 16
SmallLetter Reserved = Unit {0}
SmallLetter Spare = Unit {0}
SmallLetter Idle = Unit {0}

abbrev pub Small : Option ℕ → Letter → Type 0
Small o l = SmallRunner o × SmallLetter l

-- no count is at its end
abbrev pub RanRoom : List (Option Constraint) → Type 0
RanRoom seats = (s : ℕ) (h : Constraint) → seat_at seats s ≡ Some h → h.ran < 4294967295

abbrev pub UsedRoom : List ℕ → Type 0
UsedRoom used = (a : ℕ) → a < 16 → slice_index used a < 4294967295

-- the tick at the clock is counted for its letter's seat and its runner, its mark goes, and the clock moves on
pub record Advanced (i : Inner) (e : Ticked) (j : Inner) : Type 0 where
  pub number : j.number ≡ i.number
  pub clock : j.clock ≡ i.clock +ℤ pos 1
  pub ready : j.ready ≡ i.ready
  pub board : (u : ℤ) → holder j.board u ≡ turned (holder i.board) i.clock None u
  pub seats : (s : ℕ) → seat_at j.seats s ≡ cond (is_for s e.letter) (one_more (seat_at i.seats s)) (seat_at i.seats s)
  pub used : (a : ℕ) → slice_index j.used a ≡ one (is a e.runner) + slice_index i.used a

-- Parts of the calls of tickets.

-- the seat s holds y, and all else is as it was
pub record Reseat (i : Inner) (s : ℕ) (y : Option Constraint) (j : Inner) : Type 0 where
  pub inside : s < length i.seats
  pub number : j.number ≡ i.number
  pub clock : j.clock ≡ i.clock
  pub ready : j.ready ≡ i.ready
  pub board : j.board ≡ i.board
  pub seats : j.seats ≡ slice_set i.seats s y
  pub used : j.used ≡ i.used

-- what a constraint has run, and nothing where there is none
abbrev pub ran_of : Option Constraint → ℕ
ran_of None = 0
ran_of (Some h) = h.ran

-- the seat s is unused and has no marks, and all else is as it was; what it had run is n
pub record Freed (i : Inner) (s n : ℕ) (j : Inner) : Type 0 where
  pub inside : s < length i.seats
  pub ran : n ≡ ran_of (seat_at i.seats s)
  pub number : j.number ≡ i.number
  pub clock : j.clock ≡ i.clock
  pub ready : j.ready ≡ i.ready
  pub board : (u : ℤ) → holder j.board u ≡ without s (holder i.board u)
  pub seats : j.seats ≡ slice_set i.seats s None
  pub used : j.used ≡ i.used

pub record TicketIsOut (i : Inner) (x : Ticket) : Type 0 where
  pub here : x.level ≡ i.number
  pub known : x.seat < 16
  pub held : Constraint
  pub at : seat_at i.seats x.seat ≡ Some held
  pub out : held.out ≡ true

abbrev pub TicketIsInvalid : Inner → Ticket → Type 0
TicketIsInvalid i x = (x.level ≢ i.number) ⊎ NotOut (seat_at i.seats x.seat)

-- a ticket that is spent tells its seat
pub record Redeemed (i : Inner) (x : Ticket) (seat : ℕ) : Type 0 where
  pub is_out : TicketIsOut i x
  pub same : seat ≡ x.seat

-- one that is not comes back
pub record Rejected (i : Inner) (x : Ticket) (back : Refusal × Ticket) : Type 0 where
  pub invalid : TicketIsInvalid i x
  pub told : back ≡ (InvalidTicket, x)

pub record TicketIsLeft (i : Inner) (s : ℕ) : Type 0 where
  pub known : s < 16
  pub held : Constraint
  pub at : seat_at i.seats s ≡ Some held
  pub here : held.out ≡ false

abbrev pub NoTicketIsLeft : Inner → ℕ → Type 0
NoTicketIsLeft i s = (15 < s) ⊎ NoneLeft (seat_at i.seats s)

-- Parts of calls that name an activity.

pub record Known (number a : ℕ) : Type 0 where
  pub same : a ≡ number
  pub small : a < 16

pub record Unknown (number : ℕ) (r : Refusal) : Type 0 where
  pub large : 15 < number
  pub told : r ≡ UnknownActivity

-- Parts of a begin.

-- nothing is wrong with a begin but that its ticks may be too few
pub record Fine (m : Meaning) (s a : ℕ) (t : ℤ) (e : ℕ) (d : ℤ) : Type 0 where
  pub whom : a < 16
  pub some : e ≡ 0 → ⊥
  pub from : m.clock ≤ℤ t
  pub to : t <ℤ d
  pub near : d ≤ℤ (m.clock +ℤ pos 1024)
  pub seat : s < 16
  pub unused : m.seats s ≡ None

-- what a begin asks for, if so: its seat, and its constraint
abbrev pub Admits : Meaning → ℕ → ℕ → ℤ → ℕ → ℤ → Result (ℕ × Constraint) Refusal → Type 0
Admits m s a t e d (Ok p) = Fine m s a t e d × (p ≡ (s, record { activity = a; start = t; deadline = d; estimate = e; ran = 0; out = true }))
Admits m s a t e d (Err r) = Refused m (to_begin s a t e d) r m
