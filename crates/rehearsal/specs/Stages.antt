-- Commands played on a level, the spare rule itself followed beside it.
use Rattle.std.specs.Prelude.{◌≡◌, ℕ, Bool, List, [], ◌∷◌, Some, None, Option, Result}
use Rattle.timetable.specs.declared.table.Timetable.{Ghosts as Timetables}
use Rattle.spare.specs.declared.rule.SpareRule.{Ghosts as SpareRules}
use Rattle.spare.specs.Asking.{CallOf}
use Rattle.level.specs.declared.level.Level.{Level}
use Rattle.level.specs.declared.refusal.Refusal.{Refusal}
use Rattle.level.specs.declared.ticked.Ticked.{Ticked}
use Rattle.level.specs.Meaning.{Meaning, Event, woke, blocked, began, ended, left, collected, told, ticked, refused}
use Rattle.level.specs.Levels.{meaning, rule_of, Called, Asked, tick_event}
use Rattle.command.specs.declared.command.Command.{Command}
use Rattle.row.specs.declared.row.Row.{Row}
use Rattle.rehearsal.specs.Calls.{rows_of, call_rows, Makes}

-- a level by its meaning, with the spare rule itself
pub record Stage (R : Type 0) : Type 0 where
  pub level : Meaning
  pub rule : R

abbrev pub stage : {T R : Type 0} → Timetables T → SpareRules R → Level T R → Stage R
stage ts rs l = record { level = meaning ts rs l; rule = rule_of l }

-- what a call does to the rule: at a spare tick it is asked once, told all that are ready, and at no other call
abbrev pub AsksRule : {R : Type 0} → (R → (ℕ → Bool) → Option ℕ → R → Type 0) → (ℕ → Bool) → R → Event → R → Type 0
AsksRule asks ready q (woke a) q' = q' ≡ q
AsksRule asks ready q (blocked a) q' = q' ≡ q
AsksRule asks ready q (began s a t e d x) q' = q' ≡ q
AsksRule asks ready q (ended x ran) q' = q' ≡ q
AsksRule asks ready q (left x) q' = q' ≡ q
AsksRule asks ready q (collected s x) q' = q' ≡ q
AsksRule asks ready q (told a n) q' = q' ≡ q
AsksRule asks ready q (ticked e) q' = Asked asks ready q e.letter e.runner q'
AsksRule asks ready q (refused c r) q' = q' ≡ q

-- one call, by the level's own contract, what it does to the rule, and that the level's rule is this one
pub record CallOn {R : Type 0} (rs : SpareRules R) (p : Stage R) (e : Event) (p' : Stage R) : Type 0 where
  pub called : Called p.level e p'.level
  pub rule : AsksRule (CallOf rs) p.level.ready p.rule e p'.rule
  pub means : p'.level.rule ≡ record { distance = rs.distance p'.rule; patience = rs.patience p'.rule }

-- one call after another
pub data Through {R : Type 0} (rs : SpareRules R) : Stage R → List Event → Stage R → Type 0 where
  no_more : {p : Stage R} → Through rs p [] p
  call_then : {p : Stage R} {e : Event} (p' : Stage R) {es : List Event} {p'' : Stage R} →
      CallOn rs p e p' → Through rs p' es p'' → Through rs p (e ∷ es) p''

-- a command is played: the calls that it says are made, and the rows are those of their answers
pub record PlaysCommand {R : Type 0} (rs : SpareRules R) (p : Stage R) (c : Command) (rows : List Row) (p' : Stage R) : Type 0 where
  pub calls : List Event
  pub says : Makes c calls
  pub through : Through rs p calls p'
  pub told : rows ≡ rows_of calls

-- one tick is run, and the row is that of its answer
pub record PlaysTick {R : Type 0} (rs : SpareRules R) (p : Stage R) (row : Row) (p' : Stage R) : Type 0 where
  pub answer : Result Ticked Refusal
  pub called : CallOn rs p (tick_event answer) p'
  pub told : row ∷ [] ≡ call_rows (tick_event answer)

-- the rows of a command that may have none
abbrev pub rows_in : Option Row → List Row
rows_in None = []
rows_in (Some row) = row ∷ []
