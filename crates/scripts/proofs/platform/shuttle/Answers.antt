use Rattle.std.proofs.Common.{Err, ap}
use Rattle.scripts.specs.Outcomes.{not_at_all, out_only, out_and_back}
use Rattle.scripts.proofs.Onwards.{by_call, chain}
use Rattle.scripts.proofs.platform.shuttle.Goals as goal

pub returns-in-Ok-begin : goal.returns-in-Ok-begin
returns-in-Ok-begin g c = record {
  done = out_and_back _ c.in-Ok.ensures.called.step c.in-Ok-begin.ensures.called.step c.finish.ensures.done c.finish-in-Ok-begin.ensures.done;
  plays = chain (by_call c.begin.ensures.called) (chain (by_call c.begin-2.ensures.called) (chain c.finish.ensures.plays c.finish-in-Ok-begin.ensures.plays));
}

pub returns-in-Err-begin : goal.returns-in-Err-begin
returns-in-Err-begin g c = record {
  done = out_only c.in-Ok.ensures.called.step c.in-Err-begin.ensures.called.step c.finish-in-Err-begin.ensures.done (ap Err c.into-in-Err-begin.ensures);
  plays = chain (by_call c.begin.ensures.called) (chain (by_call c.begin-2.ensures.called) c.finish-in-Err-begin.ensures.plays);
}

pub returns-in-Err : goal.returns-in-Err
returns-in-Err g c = record { done = not_at_all c.in-Err.ensures.called.step (ap Err c.into.ensures) (ap Err c.into-in-Err.ensures); plays = by_call c.begin.ensures.called }
