use Rattle.std.proofs.Common.{◌∙◌, w32, SFits, rules}
use Rattle.std.proofs.lemmas.Int.{to_z-of_z}
use Rattle.std.proofs.lemmas.Result.{err_from_is_err_and}
use Rattle.scripts.proofs.Onwards.{by_call, chain}
use Rattle.scripts.proofs.Rides.{ridden, unridden}
use Rattle.scripts.proofs.lift.ride.Goals as goal

pub returns-in_err-ticket-clause-done : goal.returns-in_err-ticket-clause-done
returns-in_err-ticket-clause-done g c =
    let f : SFits w32 c.clock-start.result = search rules in
    let p = err_from_is_err_and c.from_residual.result c.from_residual.ensures.1 in
    rw (p.1, p.2) (_, unridden _ _ _ _ _ _ _ _ (to_z-of_z w32 _ f ∙ c.clock-start.ensures) c.in_err-ticket.ensures.called.step)

pub returns-in_err-ticket-clause-plays : goal.returns-in_err-ticket-clause-plays
returns-in_err-ticket-clause-plays g c = by_call c.begin.ensures.called

pub returns : goal.returns
returns g c =
    let f : SFits w32 c.clock-start.result = search rules in
    record {
      done = (_, ridden _ _ _ _ _ _ _ _ _ _ _ (to_z-of_z w32 _ f ∙ c.clock-start.ensures) c.in_ok-ticket.ensures.called.step c.run.ensures c.finish.ensures.done);
      plays = chain (by_call c.begin.ensures.called) (chain c.run.ensures c.finish.ensures.plays);
    }
