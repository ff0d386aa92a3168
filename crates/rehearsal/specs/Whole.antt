-- A whole rehearsal, from the bytes of a sheet and of a script to its rows.
use Rattle.std.specs.Prelude.{◌≡◌, ℕ, ◌+◌, ◌*◌, ◌^◌, ◌≤◌, List, [], ◌∷◌, ◌++◌, length, ℤ, None, Ok, Err, Option, Result, ◌≢◌}
use Rattle.plan.specs.declared.fault.PlanFault.TheVariants.{Memory as NoMemory}
use Rattle.plan.specs.Owners as plan
use Rattle.plan.specs.Told as plan-told
use Rattle.reservation.specs.Reservations.{Passes}
use Rattle.sheet.specs.declared.fault.SheetFault.{SheetFault}
use Rattle.sheet.specs.declared.fault.SheetFault.TheVariants.{Plan}
use Rattle.sheet.specs.Told.{Holds, Refused}
use Rattle.spare.specs.declared.hold.Hold.{Hold}
use Rattle.spare.specs.declared.queue.Queue.{Queue}
use Rattle.spare.specs.declared.rule.SpareRule.{Ghosts as SpareRules}
use Rattle.spare.specs.Asking.{CallOf}
use Rattle.spare.specs.Holds.{HoldStep}
use Rattle.spare.specs.Orders.{QueueStep, place_of, in_order}
use Rattle.level.specs.Meaning.{Event}
use Rattle.level.specs.Together.{Entry, opened, called}
use Rattle.level.specs.Promises.{Stands}
use Rattle.level.specs.Levels.{Opened}
use Rattle.command.specs.declared.command.Command.{Command}
use Rattle.command.specs.declared.command.Command.TheVariants.{Open}
use Rattle.command.specs.Grammar.{Begins}
use Rattle.command.specs.Openings.{Unopened}
use Rattle.command.specs.Scripts.{Says}
use Rattle.row.specs.declared.row.Row.{Row}
use Rattle.row.specs.declared.row.Row.TheVariants.{Malformed}
use Rattle.row.specs.Sinks.{rows_text, Handed}
use Rattle.rehearsal.specs.declared.fault.RehearsalFault.{RehearsalFault}
use Rattle.rehearsal.specs.declared.fault.RehearsalFault.TheVariants.{Memory, Output}
use Rattle.rehearsal.specs.Calls.{MakesAll, rows_of}
use Rattle.rehearsal.specs.Stages.{Stage, Through}
use Rattle.rehearsal.specs.Onwards.{Standing, malformed_row, Onwards}
use Rattle.rehearsal.specs.Runs.{BrokenOff}

-- The spare rule of a rehearsal, a queue under a hold.

abbrev pub queues : SpareRules Queue
queues = record {
  distance = λ q a. place_of a q.order;
  patience = λ q. 15;
  step = λ q ready name q'. QueueStep q.order ready name q'.order;
}

abbrev pub held : SpareRules (Hold Queue)
held = record {
  distance = λ h a. (h.repeats + 1) * place_of a h.below.order + h.left;
  patience = λ h. (h.repeats + 1) * 15 + h.repeats;
  step = HoldStep (CallOf queues);
}

-- a hold of so many repeats over the queue 0 to 15, before its first choice
pub record Fresh (repeats : ℕ) (h : Hold Queue) : Type 0 where
  pub order : h.below.order ≡ in_order
  pub most : h.repeats ≡ repeats
  pub choice : h.choice ≡ None
  pub left : h.left ≡ 0

-- A script on a timetable.

-- its first line opens a level, under the number 0
pub record Start (owner : ℤ → Option ℕ) (cycle : ℕ) (script : List ℕ) : Type 0 where
  pub short : length script ≤ 16384
  pub clock : ℤ
  pub repeats : ℕ
  pub text : List ℕ
  pub opens : Begins script (Open clock repeats) text
  pub first : Stage (Hold Queue)
  pub opening : Opened 0 (record { clock = clock; owner = owner; cycle = cycle; rule = record { distance = held.distance first.rule; patience = held.patience first.rule } }) first.level
  pub fresh : Fresh repeats first.rule

-- the calls of a history, the oldest first
abbrev pub calls_in : List Entry → List Event
calls_in [] = []
calls_in (opened o ∷ p) = calls_in p
calls_in (called e r r' ∷ p) = calls_in p ++ (e ∷ [])

-- The lines that follow say commands, up to the end or to one that is malformed. The calls that these commands say are made, each by the level's
-- own contract, and the rows are those of the answers. All promises of levels hold of the history of these calls.
pub record PlayedFrom {owner : ℤ → Option ℕ} {cycle : ℕ} {script : List ℕ} (start : Start owner cycle script) (rows : List Row) : Type 0 where
  pub commands : List Command
  pub tail : List ℕ
  pub says : Says start.text commands tail
  pub calls : List Event
  pub makes : MakesAll commands calls
  pub last : Stage (Hold Queue)
  pub through : Through held start.first calls last
  pub told : rows ≡ rows_of calls ++ malformed_row tail (2 + length commands)
  pub history : List Entry
  pub history_calls : calls_in history ≡ calls
  pub stands : Stands 0 history last.level

-- the rows of a script: it is malformed at line 1, or it is played
pub data ScriptRows (owner : ℤ → Option ℕ) (cycle : ℕ) (script : List ℕ) : List Row → Type 0 where
  unopened : Unopened script → ScriptRows owner cycle script (Malformed 1 ∷ [])
  played : {rows : List Row} (start : Start owner cycle script) → PlayedFrom start rows → ScriptRows owner cycle script rows

-- the rows so far of a script that was not played to its end
pub data RowsSoFar (owner : ℤ → Option ℕ) (cycle : ℕ) (script : List ℕ) : List Row → Type 0 where
  all_rows : {rows : List Row} → ScriptRows owner cycle script rows → RowsSoFar owner cycle script rows
  under_way : {rows : List Row} (start : Start owner cycle script) (u : Standing (Hold Queue)) →
      Onwards held (record { text = start.text; line = 2; ticks = 0; on = start.first }) rows u → RowsSoFar owner cycle script rows

-- A script on a sheet.

-- the sheet is refused, and that alone is told; or it is accepted, and the script is played on its plan
pub data Rehearsed (Rows : (ℤ → Option ℕ) → ℕ → List ℕ → List Row → Type 0) (sheet script : List ℕ) : List Row → Type 0 where
  sheet_refused : (f : SheetFault) → Refused sheet f → (f ≢ Plan NoMemory) → Rehearsed Rows sheet script (Malformed 0 ∷ [])
  on_sheet : {rows : List Row} (h : Holds sheet) → plan-told.Sound h.base h.depth h.entries → Passes (plan.owner_in h.base h.entries) h.reservations →
      Rows (plan.owner_in h.base h.entries) (h.base * 2 ^ h.depth) script rows → Rehearsed Rows sheet script rows

-- No other rows come of the same script, or of the same sheet and script.

abbrev pub ScriptRowsOnce : Type 0
ScriptRowsOnce = (owner : ℤ → Option ℕ) (cycle : ℕ) (script : List ℕ) (rows others : List Row) → ScriptRows owner cycle script rows → ScriptRows owner cycle script others → others ≡ rows

abbrev pub RowsOnce : Type 0
RowsOnce = (sheet script : List ℕ) (rows others : List Row) → Rehearsed ScriptRows sheet script rows → Rehearsed ScriptRows sheet script others → others ≡ rows

-- What comes of a rehearsal: the sink has taken the bytes of the rows, and nothing else; or it took a front of the rows so far, and refused what follows.

abbrev pub output_of : {F : Type 0} → Result (Unit {0}) F → Result (Unit {0}) (RehearsalFault F)
output_of (Ok u) = Ok u
output_of (Err f) = Err (Output f)

module _ {S F : Type 0} (hands : S → List ℕ → Result (Unit {0}) F → S → Type 0) where
  abbrev pub TellsScript : (ℤ → Option ℕ) → ℕ → List ℕ → S → Result (Unit {0}) F → S → Type 0
  TellsScript owner cycle script k (Ok x) k' = (rows : List Row) × ScriptRows owner cycle script rows × Handed hands k (rows_text rows) k'
  TellsScript owner cycle script k (Err f) k' = (rows : List Row) × RowsSoFar owner cycle script rows × BrokenOff hands k (rows_text rows) f k'

  -- for want of memory nothing is told
  abbrev pub Tells : List ℕ → List ℕ → S → Result (Unit {0}) (RehearsalFault F) → S → Type 0
  Tells sheet script k (Ok x) k' = (rows : List Row) × Rehearsed ScriptRows sheet script rows × Handed hands k (rows_text rows) k'
  Tells sheet script k (Err Memory) k' = Refused sheet (Plan NoMemory) × (k' ≡ k)
  Tells sheet script k (Err (Output f)) k' = (rows : List Row) × Rehearsed RowsSoFar sheet script rows × BrokenOff hands k (rows_text rows) f k'
