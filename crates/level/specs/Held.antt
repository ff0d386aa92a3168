-- How the constraint that a seat holds changes.
use Rattle.std.specs.Prelude.{◌+◌, Bool}
use Rattle.level.specs.declared.constraint.Constraint.{Constraint}

-- the ticket goes out, or is left with the level
abbrev pub with_ticket : Bool → Constraint → Constraint
with_ticket o h = record { activity = h.activity; start = h.start; deadline = h.deadline; estimate = h.estimate; ran = h.ran; out = o }

-- one tick more has been run
abbrev pub one_more_run : Constraint → Constraint
one_more_run h = record { activity = h.activity; start = h.start; deadline = h.deadline; estimate = h.estimate; ran = h.ran + 1; out = h.out }
