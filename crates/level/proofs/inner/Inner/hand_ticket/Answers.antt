use Rattle.std.proofs.Common.{◌<◌, length, ap, ◌∙◌, arith, rules}
use Rattle.std.proofs.lemmas.Int.{ints}
use Rattle.level.specs.Parts.{ran_of}
use Rattle.level.proofs.Counted.{ran_set}
use Rattle.level.proofs.Seated.{seat_in}
use Rattle.level.proofs.inner.Inner.hand_ticket.Goals as goal

pub invariant_of-self-clause-few : goal.invariant_of-self-clause-few
invariant_of-self-clause-few c =
    let seats = c.args.self.now.seats in
    let i = c.from.ensures in
    let l : c.from.result < length seats = search rules in
    let was = c.args.self.now.few c.from.result c.in-Some.held (seat_in seats c.from.result (omega arith) ∙ c.in-Some.is) in
    ran_set c.args.self.now.clock seats c.from.result _ l (λ h e. let same = ap ran_of e in omega (arith, ints)) c.args.self.now.few
