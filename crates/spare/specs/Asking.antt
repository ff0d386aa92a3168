-- One call of a rule, all that it does.
use Rattle.std.specs.Prelude.{ℕ, Bool, Option}
use Rattle.spare.specs.declared.rule.SpareRule.{Ghosts as SpareRules}
use Rattle.spare.specs.Chosen.{Chosen}

-- the interface's clause, and what the rule itself says beyond it; `rs` is what rules of the type R mean
abbrev pub CallOf : {R : Type 0} → SpareRules R → R → (ℕ → Bool) → Option ℕ → R → Type 0
CallOf rs x ready name y =
    Chosen ready (rs.distance x) (rs.patience x) name (rs.distance y) (rs.patience y) × rs.step x ready name y
