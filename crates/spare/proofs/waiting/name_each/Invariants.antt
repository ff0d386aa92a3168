use Rattle.std.proofs.Common.{◌≡◌, take, drop}
use Rattle.spare.specs.Calls.{Ran}
use Rattle.spare.specs.Asking.{CallOf}
use Rattle.spare.proofs.waiting.name_each.Given as goal

abbrev pub invariant-loop-k : goal.invariant-loop-k
invariant-loop-k g l =
    Ran (CallOf g.R.SpareRule) l.initial.rule (take l.k l.sets) (take l.k l.names) l.rule
    × (drop l.k l.names ≡ drop l.k l.initial.names)
