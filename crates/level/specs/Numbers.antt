-- The numbers of a level's refusals.
use Rattle.std.specs.Prelude.{ℕ}
use Rattle.level.specs.declared.refusal.Refusal.{Refusal}
use Rattle.level.specs.declared.refusal.Refusal.TheVariants.{ClockAtEnd, UnknownActivity, ZeroEstimate, EarlyStart, BadDeadline, SeatUnavailable, TooFew, InvalidTicket, NoTicketLeft}

abbrev pub number_of : Refusal → ℕ
number_of ClockAtEnd = 1
number_of UnknownActivity = 2
number_of ZeroEstimate = 3
number_of EarlyStart = 4
number_of BadDeadline = 5
number_of SeatUnavailable = 6
number_of (TooFew available) = 7
number_of InvalidTicket = 8
number_of NoTicketLeft = 9
