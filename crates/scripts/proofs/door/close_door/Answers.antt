use Rattle.scripts.proofs.Onwards.{by_call, chain}
use Rattle.scripts.proofs.Tickets.{ended_at_once}
use Rattle.scripts.proofs.door.close_door.Goals as goal

pub returns-in_err-ticket-clause-plays : goal.returns-in_err-ticket-clause-plays
returns-in_err-ticket-clause-plays g c = by_call c.collect.ensures.called

pub returns-clause-plays : goal.returns-clause-plays
returns-clause-plays g c = chain (by_call c.collect.ensures.called) (by_call c.end.ensures.called.called)

pub unwrap-requires : goal.unwrap-requires
unwrap-requires g c = ended_at_once _ _ _ _ _ _ c.in_ok-ticket.ensures.called.step c.end.ensures.called.called.step
