-- What a seat of the table holds, and how that changes.
use Rattle.std.specs.Prelude.{ℕ, Bool, cond, List, Some, None, Option, nat_lt, slice_index_or}
use Rattle.level.specs.declared.constraint.Constraint.{Constraint}
use Rattle.level.specs.Held.{with_ticket, one_more_run}

-- a level has sixteen seats: one above 15 holds nothing
abbrev pub seat_at : List (Option Constraint) → ℕ → Option Constraint
seat_at seats s = cond (nat_lt s 16) (slice_index_or seats s None) None

-- one tick more has been run
abbrev pub one_more : Option Constraint → Option Constraint
one_more None = None
one_more (Some h) = Some (one_more_run h)

-- the ticket goes out, or is left
abbrev pub handed : Bool → Option Constraint → Option Constraint
handed out None = None
handed out (Some h) = Some (with_ticket out h)
