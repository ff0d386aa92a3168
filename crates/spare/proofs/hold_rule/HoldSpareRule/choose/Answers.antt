use Rattle.std.proofs.Common.{arith}
use Rattle.spare.specs.Falls.{held_falls, held_same}
use Rattle.spare.proofs.hold_rule.HoldSpareRule.choose.Goals as goal

pub returns-clause-chosen : goal.returns-clause-chosen
returns-clause-chosen g c =
    let h = c.self.inside in
    let e = c.in_ok-activity.ensures.chosen in
    rw (← c.self.view_is) (record {
      known = e.known;
      member = e.member;
      nearer = λ b r n. held_falls h.repeats (g.R.SpareRule.distance h.below b) (g.R.SpareRule.distance c.choose.new.self b) h.left _ (e.nearer b r n) (omega arith);
      steady = held_same h.repeats (g.R.SpareRule.patience c.choose.new.self) (g.R.SpareRule.patience h.below) e.steady;
    })
