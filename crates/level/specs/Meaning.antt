-- What a level means, and what a call of it is.
use Rattle.std.specs.Prelude.{ℕ, Bool, ℤ, Option}
pub use Rattle.level.specs.declared.constraint.Constraint.{Constraint}
use Rattle.level.specs.declared.ticked.Ticked.{Ticked}
use Rattle.level.specs.declared.ticket.Ticket.{Ticket}
use Rattle.level.specs.declared.refusal.Refusal.{Refusal}

-- what a spare rule means
pub record Rule : Type 0 where
  pub distance : ℕ → ℕ
  pub patience : ℕ

-- what a level means: `owner` and `cycle` are its timetable's, `seats` has what each seat in use holds, `marks` the seat that has a mark still to
-- come on a tick, and `used` the ticks that each activity has run
pub record Meaning : Type 0 where
  pub number : ℕ
  pub clock : ℤ
  pub owner : ℤ → Option ℕ
  pub cycle : ℕ
  pub ready : ℕ → Bool
  pub seats : ℕ → Option Constraint
  pub marks : ℤ → Option ℕ
  pub used : ℕ → ℕ
  pub rule : Rule

-- a call with its arguments
pub data Call : Type 0 where
  to_wake : (activity : ℕ) → Call
  to_block : (activity : ℕ) → Call
  to_begin : (seat activity : ℕ) (start : ℤ) (estimate : ℕ) (deadline : ℤ) → Call
  to_end : Ticket → Call
  to_leave : Ticket → Call
  to_collect : (seat : ℕ) → Call
  to_used : (activity : ℕ) → Call
  to_tick : Call

-- a call with its arguments and its answer; the last case has all that are refused
pub data Event : Type 0 where
  woke : (activity : ℕ) → Event
  blocked : (activity : ℕ) → Event
  began : (seat activity : ℕ) (start : ℤ) (estimate : ℕ) (deadline : ℤ) → Ticket → Event
  ended : Ticket → (ran : ℕ) → Event
  left : Ticket → Event
  collected : (seat : ℕ) → Ticket → Event
  told : (activity used : ℕ) → Event
  ticked : Ticked → Event
  refused : Call → Refusal → Event

-- the call that an event answers
abbrev pub call_of : Event → Call
call_of (woke a) = to_wake a
call_of (blocked a) = to_block a
call_of (began s a t e d x) = to_begin s a t e d
call_of (ended x ran) = to_end x
call_of (left x) = to_leave x
call_of (collected s x) = to_collect s
call_of (told a n) = to_used a
call_of (ticked e) = to_tick
call_of (refused q r) = q
