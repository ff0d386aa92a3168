use Rattle.std.proofs.Common.{◌<◌, ◌∙◌, subst, arith}
use Rattle.level.specs.Parts.{SmallLetter}
use Rattle.level.proofs.Seated.{seat_in}
use Rattle.level.proofs.advance.tally_seat.Goals as goal

pub overflow_add-held : goal.overflow_add-held
overflow_add-held c =
    let small : c.in-Constrained.seat < 16 = subst SmallLetter c.in-Constrained.is c.requires.0 in
    let i = c.from.ensures in
    let room = c.requires.1 c.from.result c.in-Some.held (seat_in c.args.seats.now c.from.result (omega arith) ∙ c.in-Some.is) in
    omega arith
