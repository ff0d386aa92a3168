-- The first line of a script.
use Rattle.std.specs.Prelude.{◌≡◌, ℕ, ◌<◌, ◌≤◌, ◌⊎◌, List, length, ℤ, Ok, Err, Result}
use Rattle.command.specs.declared.command.Command.TheVariants.{Open}
use Rattle.command.specs.declared.command.ScriptFault.{ScriptFault}
use Rattle.command.specs.declared.command.ScriptFault.TheVariants.{Malformed}
use Rattle.command.specs.declared.opening.Opening.{Opening}
use Rattle.command.specs.Grammar.{Begins}

-- it opens a level, and the reader stands behind it
pub record FirstLine (script : List ℕ) (o : Opening) : Type 0 where
  pub short : length script ≤ 16384
  pub says : Begins script (Open o.clock o.repeats) o.reader.rest
  pub line : o.reader.line ≡ 2

-- a script that is too long, or begins with no line that opens
abbrev pub Unopened : List ℕ → Type 0
Unopened script = (16384 < length script) ⊎ ((t : ℤ) (r : ℕ) (ys : List ℕ) → Begins script (Open t r) ys → ⊥)

abbrev pub OpeningRead : List ℕ → Result Opening ScriptFault → Type 0
OpeningRead script (Ok o) = FirstLine script o
OpeningRead script (Err e) = (e ≡ Malformed 1) × Unopened script
