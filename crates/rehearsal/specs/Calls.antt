-- Which calls of the level a command says, and which rows come of their answers.
use Rattle.std.specs.Prelude.{◌≡◌, ℕ, suc, List, [], ◌∷◌, ◌++◌, Ok, Err, Result}
use Rattle.level.specs.declared.refusal.Refusal.{Refusal}
use Rattle.level.specs.declared.ticked.Ticked.{Ticked}
use Rattle.level.specs.declared.ticket.Ticket.{Ticket}
use Rattle.level.specs.Numbers.{number_of}
use Rattle.level.specs.Meaning.{Call, to_wake, to_block, to_begin, to_end, to_leave, to_collect, to_used, to_tick, Event, woke, blocked, began, ended, left, collected, told, ticked, refused}
use Rattle.level.specs.Levels.{seat_of, wake_event, block_event, begin_event, collect_event}
use Rattle.command.specs.declared.command.Command.{Command}
use Rattle.command.specs.declared.command.Command.TheVariants.{Open, Wake, Block, Tick, Begin, End}
use Rattle.row.specs.declared.row.Row.{Row}
use Rattle.row.specs.declared.row.Row.TheVariants.{Ran, Began, Ended, BeginRefused, EndRefused, WakeRefused, BlockRefused, TickRefused}

-- The rows of calls, by their answers.

-- a refused call; no script makes the others
abbrev pub refusal_rows : Call → ℕ → List Row
refusal_rows (to_wake a) n = WakeRefused a n ∷ []
refusal_rows (to_block a) n = BlockRefused a n ∷ []
refusal_rows (to_begin s a t e d) n = BeginRefused s n ∷ []
refusal_rows (to_end x) n = []
refusal_rows (to_leave x) n = []
refusal_rows (to_collect s) n = EndRefused s n ∷ []
refusal_rows (to_used a) n = []
refusal_rows to_tick n = TickRefused n ∷ []

-- a wake or a block that is accepted has no row, nor have the leave and the collect that a command makes besides
abbrev pub call_rows : Event → List Row
call_rows (woke a) = []
call_rows (blocked a) = []
call_rows (began s a t e d x) = Began s ∷ []
call_rows (ended x ran) = Ended (seat_of x) ran ∷ []
call_rows (left x) = []
call_rows (collected s x) = []
call_rows (told a n) = []
call_rows (ticked e) = Ran e.tick e.runner e.letter ∷ []
call_rows (refused q r) = refusal_rows q (number_of r)

abbrev pub rows_of : List Event → List Row
rows_of [] = []
rows_of (e ∷ es) = call_rows e ++ rows_of es

-- The calls of commands.

-- so many ticks, each accepted; or fewer, up to one that is refused
pub data TicksOf : ℕ → List Event → Type 0 where
  all_run : TicksOf 0 []
  one_run : {n : ℕ} {es : List Event} (e : Ticked) → TicksOf n es → TicksOf (suc n) (ticked e ∷ es)
  stopped : {n : ℕ} (r : Refusal) → TicksOf (suc n) (refused to_tick r ∷ [])

-- the ticket of a begin is left with the level; a refused begin has none
abbrev pub leave_after : Result Ticket Refusal → List Event
leave_after (Ok x) = left x ∷ []
leave_after (Err r) = []

-- the constraint of a ticket that was collected is ended
abbrev pub end_after : Result Ticket Refusal → ℕ → List Event
end_after (Ok x) ran = ended x ran ∷ []
end_after (Err r) ran = []

-- the calls that a command says, with answers
abbrev pub Makes : Command → List Event → Type 0
Makes (Open t r) es = ⊥
Makes (Wake a) es = (answer : Result (Unit {0}) Refusal) × (es ≡ wake_event a answer ∷ [])
Makes (Block a) es = (answer : Result (Unit {0}) Refusal) × (es ≡ block_event a answer ∷ [])
Makes (Tick n) es = TicksOf n es
Makes (Begin s a t d e) es = (answer : Result Ticket Refusal) × (es ≡ begin_event s a t e d answer ∷ leave_after answer)
Makes (End s) es = (answer : Result Ticket Refusal) × (ran : ℕ) × (es ≡ collect_event s answer ∷ end_after answer ran)

-- one command after another
pub data MakesAll : List Command → List Event → Type 0 where
  no_calls : MakesAll [] []
  then_calls : {c : Command} {cs : List Command} (es fs : List Event) → Makes c es → MakesAll cs fs → MakesAll (c ∷ cs) (es ++ fs)
