-- Any number of levels, each played by itself.
use Rattle.std.specs.Prelude.{◌≡◌, ℕ, List, [], ◌∷◌, ◌++◌, Some, Option, Result, ◌≢◌}
use Rattle.level.specs.declared.refusal.Refusal.{Refusal}
use Rattle.level.specs.declared.ticked.Ticked.{Ticked}
use Rattle.level.specs.Levels.{Called, tick_event}
use Rattle.level.specs.Meaning.{Meaning}
use Rattle.level.specs.Together.{Tagged, Together}
use Rattle.level.specs.Promises.{AllStand}
use Rattle.scripts.specs.Plays.{Plays}

-- no level of the list has this number
abbrev pub NoneHas : ℕ → List Meaning → Type 0
NoneHas k [] = Unit {0}
NoneHas k (m ∷ ms) = (k ≢ m.number) × NoneHas k ms

-- they have different numbers
abbrev pub Apart : List Meaning → Type 0
Apart [] = Unit {0}
Apart (m ∷ ms) = NoneHas m.number ms × Apart ms

-- each stands in w under its number
abbrev pub Present : List Meaning → (ℕ → Option Meaning) → Type 0
Present [] w = Unit {0}
Present (m ∷ ms) w = (w m.number ≡ Some m) × Present ms w

-- calls alone have taken each level of the first list to the one of the second
abbrev pub EachPlays : List Meaning → List Meaning → Type 0
EachPlays [] [] = Unit {0}
EachPlays [] (n ∷ ns) = ⊥
EachPlays (m ∷ ms) [] = ⊥
EachPlays (m ∷ ms) (n ∷ ns) = Plays m n × EachPlays ms ns

-- the history h goes on by some entries, which take the levels ms to ns and leave the others; all promises hold of all levels
pub record RowOnward (ms ns : List Meaning) (h : List Tagged) (w : ℕ → Option Meaning) : Type 0 where
  pub entries : List Tagged
  pub levels : ℕ → Option Meaning
  pub together : Together (entries ++ h) levels
  pub stand : AllStand (entries ++ h) levels
  pub here : Present ns levels
  pub others : (k : ℕ) → NoneHas k ms → levels k ≡ w k

-- whatever history there was of levels with different numbers goes on
abbrev pub RowPlays : List Meaning → List Meaning → Type 0
RowPlays ms ns = (h : List Tagged) (w : ℕ → Option Meaning) → Together h w → Present ms w → Apart ms → RowOnward ms ns h w

-- one tick takes the level from m to n
abbrev pub TickedOnce : Meaning → Meaning → Type 0
TickedOnce m n = (r : Result Ticked Refusal) × Called m (tick_event r) n
