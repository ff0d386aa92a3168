-- How a rehearsal goes on, the spare rule itself followed from call to call, up to its end.
use Rattle.std.specs.Prelude.{◌≡◌, ℕ, ◌<◌, ◌⊎◌, List, [], ◌∷◌, ◌++◌, Some, None, Option}
use Rattle.timetable.specs.declared.table.Timetable.{Ghosts as Timetables}
use Rattle.spare.specs.declared.rule.SpareRule.{Ghosts as SpareRules}
use Rattle.level.specs.Meaning.{Event}
use Rattle.command.specs.declared.command.Command.{Command}
use Rattle.command.specs.declared.command.Command.TheVariants.{Open, Wake, Block, Tick, Begin, End}
use Rattle.command.specs.Grammar.{Begins}
use Rattle.command.specs.Reading.{next_line}
use Rattle.command.specs.Scripts.{Opens, Says}
use Rattle.row.specs.declared.row.Row.{Row}
use Rattle.row.specs.declared.row.Row.TheVariants.{Malformed}
use Rattle.rehearsal.specs.declared.rehearsal.Rehearsal.{Rehearsal}
use Rattle.rehearsal.specs.declared.rehearsal.Progress.{Progress}
use Rattle.rehearsal.specs.declared.rehearsal.Progress.TheVariants.{Told, Silent, Over}
use Rattle.rehearsal.specs.Calls.{TicksOf, MakesAll, rows_of}
use Rattle.rehearsal.specs.Rehearsals.{ticks_after}
use Rattle.rehearsal.specs.Stages.{Stage, stage, Through, PlaysCommand, PlaysTick}

-- where a rehearsal stands: the bytes still to be read, the number of the line there, the ticks still to be run of the line before, and the level
pub record Standing (R : Type 0) : Type 0 where
  pub text : List ℕ
  pub line : ℕ
  pub ticks : ℕ
  pub on : Stage R

abbrev pub standing : {T R : Type 0} → Timetables T → SpareRules R → Rehearsal T R → Standing R
standing ts rs s = record {
  text = s.reader.rest;
  line = s.reader.line;
  ticks = s.ticks;
  on = stage ts rs s.level;
}

-- the row of what a call tells
abbrev pub told_by : Progress → List Row
told_by (Told row) = row ∷ []
told_by Silent = []
told_by Over = []

-- the number of the line behind those of the commands
abbrev pub line_after : ℕ → List Command → ℕ
line_after k [] = k
line_after k (c ∷ cs) = line_after (next_line k) cs

-- where something is left, line k is malformed
abbrev pub malformed_row : List ℕ → ℕ → List Row
malformed_row [] k = []
malformed_row (b ∷ bs) k = Malformed k ∷ []

module _ {R : Type 0} (rs : SpareRules R) where
  -- one of the ticks of the line before is run
  pub record RunsTick (s : Standing R) (row : Row) (u : Standing R) : Type 0 where
    pub due : 0 < s.ticks
    pub run : PlaysTick rs s.on row u.on
    pub text : u.text ≡ s.text
    pub line : u.line ≡ s.line
    pub ticks : u.ticks ≡ ticks_after row s.ticks

  -- what a command does to the level, which rows it has, and how many ticks are to be run of its line; only the first line opens
  abbrev pub RunsCommand : Stage R → Command → List Row → Stage R → ℕ → Type 0
  RunsCommand p (Open t r) rows p' k = ⊥
  RunsCommand p (Wake a) rows p' k = PlaysCommand rs p (Wake a) rows p' × (k ≡ 0)
  RunsCommand p (Block a) rows p' k = PlaysCommand rs p (Block a) rows p' × (k ≡ 0)
  RunsCommand p (Tick n) rows p' k = (rows ≡ []) × (p' ≡ p) × (k ≡ n)
  RunsCommand p (Begin s a t d e) rows p' k = PlaysCommand rs p (Begin s a t d e) rows p' × (k ≡ 0)
  RunsCommand p (End s) rows p' k = PlaysCommand rs p (End s) rows p' × (k ≡ 0)

  -- the next line says a command, and that is played
  pub record RunsLine (s : Standing R) (rows : List Row) (u : Standing R) : Type 0 where
    pub due : s.ticks ≡ 0
    pub command : Command
    pub says : Begins s.text command u.text
    pub line : u.line ≡ next_line s.line
    pub follows : RunsCommand s.on command rows u.on u.ticks

  -- there is a line, it says no command that may stand there, and nothing is read after it
  pub record StopsAtLine (s : Standing R) (row : Row) (u : Standing R) : Type 0 where
    pub due : s.ticks ≡ 0
    pub some : s.text ≡ [] → ⊥
    pub says : (c : Command) (ys : List ℕ) → Begins s.text c ys → Opens c
    pub told : row ≡ Malformed s.line
    pub text : u.text ≡ []
    pub ticks : u.ticks ≡ 0
    pub on : u.on ≡ s.on

  -- Parts of a line.

  -- nothing is read after line k
  pub record StopsAt (s : Standing R) (k : ℕ) (rows : List Row) (u : Standing R) : Type 0 where
    pub told : rows ≡ Malformed k ∷ []
    pub text : u.text ≡ []
    pub ticks : u.ticks ≡ 0
    pub on : u.on ≡ s.on

  -- a command is played, what follows its line being still to be read
  pub record CommandPlayed (s : Standing R) (c : Command) (rows : List Row) (u : Standing R) : Type 0 where
    pub follows : RunsCommand s.on c rows u.on u.ticks
    pub text : u.text ≡ s.text
    pub line : u.line ≡ s.line

  abbrev pub LineGoes : Standing R → ℕ → Command → List Row → Standing R → Type 0
  LineGoes s k (Open t r) rows u = StopsAt s k rows u
  LineGoes s k (Wake a) rows u = CommandPlayed s (Wake a) rows u
  LineGoes s k (Block a) rows u = CommandPlayed s (Block a) rows u
  LineGoes s k (Tick n) rows u = CommandPlayed s (Tick n) rows u
  LineGoes s k (Begin x a t d e) rows u = CommandPlayed s (Begin x a t d e) rows u
  LineGoes s k (End x) rows u = CommandPlayed s (End x) rows u

  abbrev pub RunsNext : Standing R → Option Row → Standing R → Type 0
  RunsNext s None u = RunsLine s [] u
  RunsNext s (Some row) u = RunsLine s (row ∷ []) u ⊎ StopsAtLine s row u

  -- how a rehearsal goes on from s to u
  abbrev pub RunsOn : Standing R → Progress → Standing R → Type 0
  RunsOn s (Told row) u = RunsTick s row u ⊎ (RunsLine s (row ∷ []) u ⊎ StopsAtLine s row u)
  RunsOn s Silent u = RunsLine s [] u
  RunsOn s Over u = (s.ticks ≡ 0) × (s.text ≡ []) × (u ≡ s)

  -- calls of a rehearsal, one after another, and the rows that they tell
  pub data Onwards : Standing R → List Row → Standing R → Type 0 where
    not_yet : {s : Standing R} → Onwards s [] s
    on_by : {s : Standing R} (p : Progress) (u : Standing R) {rows : List Row} {v : Standing R} → RunsOn s p u → Onwards u rows v → Onwards s (told_by p ++ rows) v

  -- All that is left is played: the ticks still to be run of the line before, and then the commands that the lines say, up to the end or to a
  -- line that is malformed. Each call is the level's own, and the rows are those of the answers.
  pub record PlaysOut (s : Standing R) (rows : List Row) (last : Stage R) : Type 0 where
    pub due : List Event
    pub ticks : TicksOf s.ticks due
    pub commands : List Command
    pub tail : List ℕ
    pub says : Says s.text commands tail
    pub calls : List Event
    pub makes : MakesAll commands calls
    pub through : Through rs s.on (due ++ calls) last
    pub told : rows ≡ rows_of (due ++ calls) ++ malformed_row tail (line_after s.line commands)
