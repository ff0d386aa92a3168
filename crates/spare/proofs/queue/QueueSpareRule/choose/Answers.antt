use Rattle.std.proofs.Common.{arith}
use Rattle.spare.specs.OrdersLemmas.{rotated}
use Rattle.spare.proofs.Queues.{kept, nobody, stays, names, moves}
use Rattle.spare.proofs.queue.QueueSpareRule.choose.Goals as goal

pub returns-in_err-first : goal.returns-in_err-first
returns-in_err-first c =
    let q = c.self.inside in
    let h = c.in_err-first.ensures in
    rw (← c.self.view_is, c.from_residual.ensures) (record { chosen = nobody c.args.ready q.order q.each_once h; exact = stays c.args.ready q.order q.each_once h })

pub invariant_of-self-inside : goal.invariant_of-self-inside
invariant_of-self-inside c =
    let q = c.self.inside in
    let i = c.in_ok-first.first in
    let within = c.in_ok-first.ensures.within in
    (kept q.order i _ (rotated q.order i c.rotate_left.new.self q.each_once.long (omega arith) c.rotate_left.ensures.after) (omega arith) q.each_once, tt)

pub returns : goal.returns
returns c =
    let q = c.self.inside in
    let i = c.in_ok-first.first in
    let h = c.in_ok-first.ensures in
    let e = rotated q.order i c.rotate_left.new.self q.each_once.long (omega (arith, h.within)) c.rotate_left.ensures.after in
    rw (← c.self.view_is) (record {
      chosen = names c.args.ready q.order q.each_once i h _ (omega arith) _ e;
      exact = moves c.args.ready q.order q.each_once i h _ e;
    })
