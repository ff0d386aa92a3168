-- What comes of a rehearsal that is played to its end, its rows handed to a sink.
use Rattle.std.specs.Prelude.{◌≡◌, ℕ, List, [], ◌++◌, Ok, Err, Result}
use Rattle.spare.specs.declared.rule.SpareRule.{Ghosts as SpareRules}
use Rattle.row.specs.declared.row.Row.{Row}
use Rattle.row.specs.Sinks.{rows_text, Handed}
use Rattle.rehearsal.specs.Onwards.{Standing, Onwards, PlaysOut}

-- a sink takes the front of a text, and refuses the next part of it
pub record BrokenOff {S F : Type 0} (hands : S → List ℕ → Result (Unit {0}) F → S → Type 0) (s : S) (text : List ℕ) (f : F) (s' : S) : Type 0 where
  pub front : List ℕ
  pub part : List ℕ
  pub behind : List ℕ
  pub between : S
  pub whole : text ≡ front ++ (part ++ behind)
  pub taken : Handed hands s front between
  pub refused : hands between part (Err f) s'

module _ {R S F : Type 0} (rs : SpareRules R) (hands : S → List ℕ → Result (Unit {0}) F → S → Type 0) where
  -- all is played, and the sink has taken the rows; it has taken nothing else
  pub record RunOut (s : Standing R) (k : S) (u : Standing R) (k' : S) : Type 0 where
    pub rows : List Row
    pub plays : PlaysOut rs s rows u.on
    pub text : u.text ≡ []
    pub ticks : u.ticks ≡ 0
    pub handed : Handed hands k (rows_text rows) k'

  -- the sink has refused a part of the rows so far, and nothing was played after that
  pub record RunBroken (s : Standing R) (k : S) (f : F) (u : Standing R) (k' : S) : Type 0 where
    pub rows : List Row
    pub onwards : Onwards rs s rows u
    pub broken : BrokenOff hands k (rows_text rows) f k'

  abbrev pub Runs : Standing R → S → Result (Unit {0}) F → Standing R → S → Type 0
  Runs s k (Ok x) u k' = RunOut s k u k'
  Runs s k (Err f) u k' = RunBroken s k f u k'
