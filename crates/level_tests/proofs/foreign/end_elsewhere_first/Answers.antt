use Rattle.level_tests.proofs.Home.{ended_at_home}
use Rattle.level_tests.proofs.foreign.end_elsewhere_first.Goals as goal

-- src/foreign.rt: the constraint was just begun at home
pub unwrap-requires : goal.unwrap-requires
unwrap-requires g c =
    ended_at_home _ _ _ _ _ _ _ _ _ _ _ c.in_ok-ticket.ensures.called.step c.in-Err.ensures.back c.end-in-Err.ensures.called.called.step
