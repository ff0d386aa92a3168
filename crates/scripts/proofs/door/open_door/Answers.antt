use Rattle.scripts.proofs.Onwards.{by_call, chain}
use Rattle.scripts.proofs.Tickets.{left_at_once}
use Rattle.scripts.proofs.door.open_door.Goals as goal

pub returns-in_err-ticket-clause-plays : goal.returns-in_err-ticket-clause-plays
returns-in_err-ticket-clause-plays g c = by_call c.begin.ensures.called

pub returns-clause-plays : goal.returns-clause-plays
returns-clause-plays g c = chain (by_call c.begin.ensures.called) (by_call c.leave.ensures.called.called)

pub unwrap-requires : goal.unwrap-requires
unwrap-requires g c = left_at_once _ _ _ _ _ _ _ _ _ _ c.in_ok-ticket.ensures.called.step c.leave.ensures.called.called.step
