-- How a rehearsal goes on: one call of the level after another, as the script says them.
use Rattle.std.specs.Prelude.{◌≡◌, ℕ, ◌-◌, ◌<◌, ◌⊎◌, List, [], Some, None, Option}
use Rattle.timetable.specs.declared.table.Timetable.{Ghosts as Timetables}
use Rattle.spare.specs.declared.rule.SpareRule.{Ghosts as SpareRules}
use Rattle.level.specs.declared.level.Level.{Level}
use Rattle.level.specs.Meaning.{Meaning}
use Rattle.command.specs.Unread.{Unread}
use Rattle.level.specs.Levels.{meaning}
use Rattle.command.specs.declared.command.Command.{Command}
use Rattle.command.specs.declared.command.Command.TheVariants.{Open, Wake, Block, Tick, Begin, End}
use Rattle.row.specs.declared.row.Row.{Row}
use Rattle.row.specs.declared.row.Row.TheVariants.{Ran, Began, Ended, BeginRefused, EndRefused, WakeRefused, BlockRefused, TickRefused, Malformed}
use Rattle.rehearsal.specs.declared.rehearsal.Rehearsal.{Rehearsal}
use Rattle.rehearsal.specs.declared.rehearsal.Progress.{Progress}
use Rattle.rehearsal.specs.declared.rehearsal.Progress.TheVariants.{Told, Silent, Over}
use Rattle.command.specs.Grammar.{Begins}
use Rattle.command.specs.Reading.{next_line}
use Rattle.command.specs.Scripts.{Opens}
use Rattle.rehearsal.specs.Played.{Woken, Blocked, Ticks, Begun, Finished}

-- where a rehearsal stands: the bytes still to be read, the number of the line there, the ticks still to be run of the line before, and the level
pub record State : Type 0 where
  pub text : List ℕ
  pub line : ℕ
  pub ticks : ℕ
  pub level : Meaning

abbrev pub state : {T R : Type 0} → Timetables T → SpareRules R → Rehearsal T R → State
state ts rs s = record {
  text = s.reader.rest;
  line = s.reader.line;
  ticks = s.ticks;
  level = meaning ts rs s.level;
}

-- a rehearsal that is still to play on this level all that the reader has
pub record Starting {T R : Type 0} (text : Unread) (on : Level T R) (s : Rehearsal T R) : Type 0 where
  pub reader : s.reader.rest ≡ text.rest
  pub line : s.reader.line ≡ text.line
  pub level : s.level ≡ on
  pub ticks : s.ticks ≡ 0

-- a refused tick ends its line
abbrev pub ticks_after : Row → ℕ → ℕ
ticks_after (Ran t o l) k = k - 1
ticks_after (Began s) k = 0
ticks_after (Ended s n) k = 0
ticks_after (BeginRefused s n) k = 0
ticks_after (EndRefused s n) k = 0
ticks_after (WakeRefused a n) k = 0
ticks_after (BlockRefused a n) k = 0
ticks_after (TickRefused n) k = 0
ticks_after (Malformed n) k = 0

-- one of the ticks of the line before is run
pub record TickRun (s : State) (row : Row) (u : State) : Type 0 where
  pub due : 0 < s.ticks
  pub run : Ticks s.level row u.level
  pub text : u.text ≡ s.text
  pub line : u.line ≡ s.line
  pub ticks : u.ticks ≡ ticks_after row s.ticks

abbrev pub OfRow : Option Row → (Row → Type 0) → Type 0
OfRow None P = ⊥
OfRow (Some row) P = P row

-- what a command does to the level, which row it has, and how many ticks are to be run of its line; only the first line opens
abbrev pub Plays : Meaning → Command → Option Row → Meaning → ℕ → Type 0
Plays m (Open t r) row n k = ⊥
Plays m (Wake a) row n k = Woken m a row n × (k ≡ 0)
Plays m (Block a) row n k = Blocked m a row n × (k ≡ 0)
Plays m (Tick j) row n k = (row ≡ None) × (n ≡ m) × (k ≡ j)
Plays m (Begin s a t d e) row n k = OfRow row (λ w. Begun m s a t d e w n) × (k ≡ 0)
Plays m (End s) row n k = OfRow row (λ w. Finished m s w n) × (k ≡ 0)

-- the next line says a command, and that is played
pub record LinePlayed (s : State) (row : Option Row) (u : State) : Type 0 where
  pub due : s.ticks ≡ 0
  pub command : Command
  pub says : Begins s.text command u.text
  pub line : u.line ≡ next_line s.line
  pub plays : Plays s.level command row u.level u.ticks

-- there is a line, it says no command that may stand there, and nothing is read after it
pub record LineRefused (s : State) (row : Row) (u : State) : Type 0 where
  pub due : s.ticks ≡ 0
  pub some : s.text ≡ [] → ⊥
  pub says : (c : Command) (ys : List ℕ) → Begins s.text c ys → Opens c
  pub told : row ≡ Malformed s.line
  pub text : u.text ≡ []
  pub ticks : u.ticks ≡ 0
  pub level : u.level ≡ s.level

-- Parts of a line.

-- nothing is read after line k
pub record Refused (s : State) (k : ℕ) (row : Row) (u : State) : Type 0 where
  pub told : row ≡ Malformed k
  pub text : u.text ≡ []
  pub ticks : u.ticks ≡ 0
  pub level : u.level ≡ s.level

-- a command of line k is played, what follows the line being still to be read
pub record Played (s : State) (c : Command) (row : Option Row) (u : State) : Type 0 where
  pub plays : Plays s.level c row u.level u.ticks
  pub text : u.text ≡ s.text
  pub line : u.line ≡ s.line

abbrev pub Follows : State → ℕ → Command → Option Row → State → Type 0
Follows s k (Open t r) row u = OfRow row (λ w. Refused s k w u)
Follows s k (Wake a) row u = Played s (Wake a) row u
Follows s k (Block a) row u = Played s (Block a) row u
Follows s k (Tick j) row u = Played s (Tick j) row u
Follows s k (Begin x a t d e) row u = Played s (Begin x a t d e) row u
Follows s k (End x) row u = Played s (End x) row u

abbrev pub NextLine : State → Option Row → State → Type 0
NextLine s None u = LinePlayed s None u
NextLine s (Some row) u = LinePlayed s (Some row) u ⊎ LineRefused s row u

-- how a rehearsal goes on from s to u
abbrev pub Goes : State → Progress → State → Type 0
Goes s (Told row) u = TickRun s row u ⊎ (LinePlayed s (Some row) u ⊎ LineRefused s row u)
Goes s Silent u = LinePlayed s None u
Goes s Over u = (s.ticks ≡ 0) × (s.text ≡ []) × (u ≡ s)
