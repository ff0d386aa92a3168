-- What a script does to the level that it is given.
use Rattle.std.specs.Prelude.{◌≡◌, ℕ, List, ◌++◌, Some, Option, ◌≢◌}
use Rattle.timetable.specs.declared.table.Timetable.{Ghosts as Timetables}
use Rattle.spare.specs.declared.rule.SpareRule.{Ghosts as SpareRules}
use Rattle.level.specs.declared.level.Level.{Level}
use Rattle.level.specs.Meaning.{Meaning}
use Rattle.level.specs.Together.{Tagged, Together}
use Rattle.level.specs.Promises.{AllStand}
use Rattle.level.specs.Levels.{meaning}

-- the history h goes on by some entries, which take the level from m to n and leave the others; all promises hold of all levels
pub record Onward (m n : Meaning) (h : List Tagged) (w : ℕ → Option Meaning) : Type 0 where
  pub entries : List Tagged
  pub levels : ℕ → Option Meaning
  pub together : Together (entries ++ h) levels
  pub stand : AllStand (entries ++ h) levels
  pub here : levels m.number ≡ Some n
  pub others : (k : ℕ) → (k ≢ m.number) → levels k ≡ w k

-- calls alone take a level from m to n: whatever history there was goes on
pub record Plays (m n : Meaning) : Type 0 where
  pub number : n.number ≡ m.number
  pub onward : (h : List Tagged) (w : ℕ → Option Meaning) → Together h w → w m.number ≡ Some m → Onward m n h w

abbrev pub LevelPlays : {T R : Type 0} → Timetables T → SpareRules R → Level T R → Level T R → Type 0
LevelPlays ts rs l k = Plays (meaning ts rs l) (meaning ts rs k)
