-- What a plan is, seen from outside: what it was filled with, the vector that holds it, and that it is sound.
use Rattle.std.specs.Prelude.{◌≡◌, ℕ, List, Vec, vec_items}
use Rattle.std.specs.Global.{Global}
use Rattle.plan.specs.declared.entry.Entry.{Entry}
use Rattle.plan.specs.Told.{Sound}

pub record PlanValue : Type 0 where
  pub base : ℕ
  pub depth : ℕ
  pub entries : List Entry
  -- the vector that holds the entries, with its memory: a refused fill leaves that too
  pub stored : Vec Entry Global
  pub holds : vec_items stored ≡ entries
  pub sound : Sound base depth entries
