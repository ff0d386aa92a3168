-- The table of refusals: what is wrong with a call, and how that is told.
use Rattle.std.specs.Prelude.{◌≡◌, ℕ, ◌<◌, Bool, true, false, ℤ, pos, ◌+ℤ◌, ◌≤ℤ◌, ◌<ℤ◌, Some, None, Option, ◌≢◌}
use Rattle.level.specs.declared.ticket.Ticket.{Ticket}
use Rattle.level.specs.declared.refusal.Refusal.{Refusal}
use Rattle.level.specs.declared.refusal.Refusal.TheVariants.{ClockAtEnd, UnknownActivity, ZeroEstimate, EarlyStart, BadDeadline, SeatUnavailable, TooFew, InvalidTicket, NoTicketLeft}
use Rattle.level.specs.Numbers.{number_of}
use Rattle.level.specs.Ticks.{between, is, is_available}
use Rattle.level.specs.Meaning.{Constraint, Meaning, Call, to_wake, to_block, to_begin, to_end, to_leave, to_collect, to_used, to_tick}

-- a tick that an activity may mark: it has no mark, and the activity owns it or nobody does
abbrev pub available : Meaning → ℕ → ℤ → Bool
available m a t = is_available m.marks m.owner a t

-- a tick of the activity's own
abbrev pub own : Meaning → ℕ → ℤ → Bool
own m a t = is a (m.owner t)

-- the seat's ticket isn't out
abbrev pub NotOut : Option Constraint → Type 0
NotOut None = Unit {0}
NotOut (Some h) = h.out ≡ false

-- no ticket is left at the seat
abbrev pub NoneLeft : Option Constraint → Type 0
NoneLeft None = Unit {0}
NoneLeft (Some h) = h.out ≡ true

-- A row for each thing that can be wrong with a call.
pub data Wrong (m : Meaning) : Call → Refusal → Type 0 where
  at_end : m.clock ≡ pos 2147483647 → Wrong m to_tick ClockAtEnd
  wake_whom : {a : ℕ} → 15 < a → Wrong m (to_wake a) UnknownActivity
  block_whom : {a : ℕ} → 15 < a → Wrong m (to_block a) UnknownActivity
  used_whom : {a : ℕ} → 15 < a → Wrong m (to_used a) UnknownActivity
  begin_whom : {s a e : ℕ} {t d : ℤ} → 15 < a → Wrong m (to_begin s a t e d) UnknownActivity
  for_nothing : {s a e : ℕ} {t d : ℤ} → e ≡ 0 → Wrong m (to_begin s a t e d) ZeroEstimate
  early : {s a e : ℕ} {t d : ℤ} → t <ℤ m.clock → Wrong m (to_begin s a t e d) EarlyStart
  backward : {s a e : ℕ} {t d : ℤ} → d ≤ℤ t → Wrong m (to_begin s a t e d) BadDeadline
  far : {s a e : ℕ} {t d : ℤ} → (m.clock +ℤ pos 1024) <ℤ d → Wrong m (to_begin s a t e d) BadDeadline
  seat_unavailable : {s a e : ℕ} {t d : ℤ} → 15 < s → Wrong m (to_begin s a t e d) SeatUnavailable
  in_use : {s a e : ℕ} {t d : ℤ} {h : Constraint} → m.seats s ≡ Some h → Wrong m (to_begin s a t e d) SeatUnavailable
  too_few : {s a e k : ℕ} {t d : ℤ} → k ≡ between (available m a) t d → k < e → Wrong m (to_begin s a t e d) (TooFew k)
  end_foreign : {x : Ticket} → (x.level ≢ m.number) → Wrong m (to_end x) InvalidTicket
  end_not_out : {x : Ticket} → NotOut (m.seats x.seat) → Wrong m (to_end x) InvalidTicket
  leave_foreign : {x : Ticket} → (x.level ≢ m.number) → Wrong m (to_leave x) InvalidTicket
  leave_not_out : {x : Ticket} → NotOut (m.seats x.seat) → Wrong m (to_leave x) InvalidTicket
  collect_where : {s : ℕ} → 15 < s → Wrong m (to_collect s) NoTicketLeft
  collect_none : {s : ℕ} → NoneLeft (m.seats s) → Wrong m (to_collect s) NoTicketLeft

-- nothing is wrong with a call
abbrev pub Sound : Meaning → Call → Type 0
Sound m q = (r : Refusal) → Wrong m q r → ⊥

-- a call is refused by the least number that is wrong with it, and the level stays as it was
pub record Refused (m : Meaning) (q : Call) (r : Refusal) (n : Meaning) : Type 0 where
  pub wrong : Wrong m q r
  pub least : (s : Refusal) → number_of s < number_of r → Wrong m q s → ⊥
  pub same : n ≡ m
