-- Which calls of the level a command makes, and which row comes of their answers.
use Rattle.std.specs.Prelude.{◌≡◌, ℕ, ℤ, Some, None, Ok, Err, Option, Result}
use Rattle.level.specs.declared.refusal.Refusal.{Refusal}
use Rattle.level.specs.declared.ticked.Ticked.{Ticked}
use Rattle.level.specs.declared.ticket.Ticket.{Ticket}
use Rattle.level.specs.Numbers.{number_of}
use Rattle.level.specs.Meaning.{Meaning, ended, left}
use Rattle.level.specs.Levels.{Called, wake_event, block_event, begin_event, collect_event, tick_event}
use Rattle.row.specs.declared.row.Row.{Row}
use Rattle.row.specs.declared.row.Row.TheVariants.{Ran, Began, Ended, BeginRefused, EndRefused, WakeRefused, BlockRefused, TickRefused}

-- The rows of answers. A wake or a block that is accepted has none.

abbrev pub wake_row : ℕ → Result (Unit {0}) Refusal → Option Row
wake_row a (Ok u) = None
wake_row a (Err r) = Some (WakeRefused a (number_of r))

abbrev pub block_row : ℕ → Result (Unit {0}) Refusal → Option Row
block_row a (Ok u) = None
block_row a (Err r) = Some (BlockRefused a (number_of r))

abbrev pub tick_row : Result Ticked Refusal → Row
tick_row (Ok e) = Ran e.tick e.runner e.letter
tick_row (Err r) = TickRefused (number_of r)

abbrev pub begin_row : ℕ → Result Ticket Refusal → Row
begin_row s (Ok x) = Began s
begin_row s (Err r) = BeginRefused s (number_of r)

-- The calls of commands, each from the level m to the level n.

-- a wake, and the row of its answer
pub record Woken (m : Meaning) (a : ℕ) (row : Option Row) (n : Meaning) : Type 0 where
  pub answer : Result (Unit {0}) Refusal
  pub called : Called m (wake_event a answer) n
  pub told : row ≡ wake_row a answer

-- a block, likewise
pub record Blocked (m : Meaning) (a : ℕ) (row : Option Row) (n : Meaning) : Type 0 where
  pub answer : Result (Unit {0}) Refusal
  pub called : Called m (block_event a answer) n
  pub told : row ≡ block_row a answer

-- one tick, likewise
pub record Ticks (m : Meaning) (row : Row) (n : Meaning) : Type 0 where
  pub answer : Result Ticked Refusal
  pub called : Called m (tick_event answer) n
  pub told : row ≡ tick_row answer

-- the ticket of a begin is left with the level; a refused begin has none
abbrev pub Leaves : Meaning → Result Ticket Refusal → Meaning → Type 0
Leaves k (Ok x) n = Called k (left x) n
Leaves k (Err r) n = n ≡ k

-- a begin, after which its ticket is left
pub record Begun (m : Meaning) (s a : ℕ) (t d : ℤ) (e : ℕ) (row : Row) (n : Meaning) : Type 0 where
  pub answer : Result Ticket Refusal
  pub between : Meaning
  pub called : Called m (begin_event s a t e d answer) between
  pub leaves : Leaves between answer n
  pub told : row ≡ begin_row s answer

-- a ticket that was collected is ended with, and the row has the ticks that were run; where none could be collected the row is that refusal's
abbrev pub Ends : ℕ → Meaning → Result Ticket Refusal → Row → Meaning → Type 0
Ends s k (Ok x) row n = (ran : ℕ) × (Called k (ended x ran) n × (row ≡ Ended s ran))
Ends s k (Err r) row n = (n ≡ k) × (row ≡ EndRefused s (number_of r))

-- a collect, after which the constraint is ended
pub record Finished (m : Meaning) (s : ℕ) (row : Row) (n : Meaning) : Type 0 where
  pub answer : Result Ticket Refusal
  pub between : Meaning
  pub called : Called m (collect_event s answer) between
  pub ends : Ends s between answer row n
