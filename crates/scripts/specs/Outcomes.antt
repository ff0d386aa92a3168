-- What the scripts answer, and by which calls they came to it.
use Rattle.std.specs.Prelude.{◌≡◌, ℕ, ℤ, Ok, Err, Result}
use Rattle.level.specs.declared.refusal.Refusal.{Refusal}
use Rattle.level.specs.declared.ticket.Ticket.{Ticket}
use Rattle.level.specs.Meaning.{Meaning, to_begin, to_end, to_collect, began, ended, left, collected, refused}
use Rattle.level.specs.Steps.{Step}
use Rattle.scripts.specs.declared.outcome.Failure.{Failure}
use Rattle.scripts.specs.declared.outcome.Failure.TheVariants.{Missing, Held}
use Rattle.scripts.specs.Plays.{Plays}

-- the constraint of the ticket x is ended, or the ticket is refused and still here
abbrev pub Finished : Meaning → Ticket → Result ℕ Failure → Meaning → Type 0
Finished m x (Ok ran) n = Step m (ended x ran) n
Finished m x (Err (Missing r)) n = ⊥
Finished m x (Err (Held r y)) n = Step m (refused (to_end x) r) n × (y ≡ x)

-- a constraint begins at the clock, some calls later it is finished; or it is not begun
abbrev pub Ridden : Meaning → ℕ → ℕ → ℕ → ℤ → Result ℕ Failure → Meaning → Type 0
Ridden m s a e d (Ok ran) n = (k : Meaning) × (l : Meaning) × (x : Ticket) × Step m (began s a m.clock e d x) k × Plays k l × Step l (ended x ran) n
Ridden m s a e d (Err (Missing r)) n = Step m (refused (to_begin s a m.clock e d) r) n
Ridden m s a e d (Err (Held r y)) n = (k : Meaning) × (l : Meaning) × Step m (began s a m.clock e d y) k × Plays k l × Step l (refused (to_end y) r) n

-- a constraint begins and its ticket is left; or the begin is refused
abbrev pub DoorOpened : Meaning → ℕ → ℕ → ℤ → ℕ → ℤ → Result (Unit {0}) Refusal → Meaning → Type 0
DoorOpened m s a t e d (Ok u) n = (k : Meaning) × (x : Ticket) × Step m (began s a t e d x) k × Step k (left x) n
DoorOpened m s a t e d (Err r) n = Step m (refused (to_begin s a t e d) r) n

-- a ticket that was left is collected and its constraint ended; or the collect is refused
abbrev pub DoorClosed : Meaning → ℕ → Result ℕ Refusal → Meaning → Type 0
DoorClosed m s (Ok ran) n = (k : Meaning) × (x : Ticket) × Step m (collected s x) k × Step k (ended x ran) n
DoorClosed m s (Err r) n = Step m (refused (to_collect s) r) n

-- a way out at the seat s and a way back at the seat b, which starts at the deadline of the first and is begun before that is finished
pub data Shuttled (m : Meaning) (s b a e : ℕ) (o p : Result ℕ Failure) (n : Meaning) : Type 0 where
  not_at_all : {t d : ℤ} {r : Refusal} → Step m (refused (to_begin s a t e d) r) n → o ≡ Err (Missing r) → p ≡ Err (Missing r) → Shuttled m s b a e o p n
  out_only : {t d u : ℤ} {k l : Meaning} {x : Ticket} {r : Refusal} →
      Step m (began s a t e d x) k → Step k (refused (to_begin b a d e u) r) l → Finished l x o n → p ≡ Err (Missing r) → Shuttled m s b a e o p n
  out_and_back : {t d u : ℤ} {k l : Meaning} (j : Meaning) {x y : Ticket} →
      Step m (began s a t e d x) k → Step k (began b a d e u y) l → Finished l x o j → Finished j y p n → Shuttled m s b a e o p n
