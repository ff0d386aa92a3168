-- What is promised of a level's own history, in words of that history alone.
use Rattle.std.specs.Prelude.{◌≡◌, ℕ, ◌+◌, ◌<◌, ◌≤◌, Bool, true, false, cond, ◌&&◌, List, [], ◌∷◌, ◌++◌, length, ℤ, pos, ◌+ℤ◌, ◌≤ℤ◌, Some, None, Option, ◌==◌}
use Rattle.reservation.specs.declared.reservation.Reservation.{Reservation}
use Rattle.reservation.specs.Reservations
use Rattle.reservation.specs.Reservations.{Passes}
use Rattle.level.specs.declared.ticked.Letter.{Letter}
use Rattle.level.specs.declared.ticked.Letter.TheVariants.{Constrained, Reserved, Spare, Idle}
use Rattle.level.specs.declared.ticked.Ticked.{Ticked}
use Rattle.level.specs.declared.ticket.Ticket.{Ticket}
use Rattle.level.specs.Ticks.{one, is}
use Rattle.level.specs.Meaning.{Rule, Meaning, Event, woke, blocked, began, ended, left, collected, told, ticked, refused}
use Rattle.level.specs.Steps.{Step}
use Rattle.level.specs.Together.{Opening, Entry, opened, called, Tagged, Repeating, Opens, put, Together, own_history, Alone}

-- Words of the history.

-- an activity is ready after a call: from an accepted wake to the next accepted block
abbrev pub ready_after : Event → ℕ → Bool → Bool
ready_after (woke b) a was = cond (a == b) true was
ready_after (blocked b) a was = cond (a == b) false was
ready_after (began s b t e d x) a was = was
ready_after (ended x ran) a was = was
ready_after (left x) a was = was
ready_after (collected s x) a was = was
ready_after (told b n) a was = was
ready_after (ticked e) a was = was
ready_after (refused q r) a was = was

abbrev pub ready_in : List Entry → ℕ → Bool
ready_in [] a = false
ready_in (opened o ∷ p) a = false
ready_in (called e r r' ∷ p) a = ready_after e a (ready_in p a)

-- the tick that a call runs, if it runs one
abbrev pub run : Event → Option Ticked
run (woke b) = None
run (blocked b) = None
run (began s b t e d x) = None
run (ended x ran) = None
run (left x) = None
run (collected s x) = None
run (told b n) = None
run (ticked e) = Some e
run (refused q r) = None

-- the seat whose constraint a call ends, if it ends one
abbrev pub over : Event → Option ℕ
over (woke b) = None
over (blocked b) = None
over (began s b t e d x) = None
over (ended x ran) = Some x.seat
over (left x) = None
over (collected s x) = None
over (told b n) = None
over (ticked e) = None
over (refused q r) = None

-- the same of an entry
abbrev pub ran : Entry → Option Ticked
ran (opened o) = None
ran (called e r r') = run e

abbrev pub ends : Entry → Option ℕ
ends (opened o) = None
ends (called e r r') = over e

-- tests of a tick run
abbrev pub any : Ticked → Bool
any e = true

abbrev pub is_spare : Letter → Bool
is_spare (Constrained s) = false
is_spare Reserved = false
is_spare Spare = true
is_spare Idle = false

abbrev pub is_for : ℕ → Letter → Bool
is_for s (Constrained k) = k == s
is_for s Reserved = false
is_for s Spare = false
is_for s Idle = false

abbrev pub spare : Ticked → Bool
spare e = is_spare e.letter

abbrev pub by : ℕ → Ticked → Bool
by a e = is a e.runner

abbrev pub spare_by : ℕ → Ticked → Bool
spare_by a e = spare e && by a e

-- answered c with this seat, and run by this activity
abbrev pub constrained : ℕ → ℕ → Ticked → Bool
constrained s a e = is_for s e.letter && by a e

abbrev pub passes : (Ticked → Bool) → Option Ticked → Bool
passes f None = false
passes f (Some e) = f e

-- how many ticks run in a stretch pass a test
abbrev pub count : (Ticked → Bool) → List Entry → ℕ
count f [] = 0
count f (x ∷ p) = one (passes f (ran x)) + count f p

-- what holds of a tick run
abbrev pub When : Option Ticked → (Ticked → Type 0) → Type 0
When None P = Unit {0}
When (Some e) P = P e

-- an activity is ready at each tick run in a stretch that is of a kind; `earlier` is the history before the stretch
abbrev pub ReadyAt : (Ticked → Type 0) → ℕ → List Entry → List Entry → Type 0
ReadyAt K a [] earlier = Unit {0}
ReadyAt K a (x ∷ p) earlier = When (ran x) (λ e. K e → ready_in (p ++ earlier) a ≡ true) × ReadyAt K a p earlier

-- no call of a stretch ends a constraint of the seat
abbrev pub Unended : ℕ → List Entry → Type 0
Unended s [] = Unit {0}
Unended s (x ∷ p) = (is s (ends x) ≡ false) × Unended s p

-- the next tick to run
abbrev pub clock_after : Option Ticked → ℤ → ℤ
clock_after None c = c
clock_after (Some e) c = e.tick +ℤ pos 1

abbrev pub clock_in : List Entry → ℤ
clock_in [] = pos 0
clock_in (opened o ∷ p) = o.clock
clock_in (called e r r' ∷ p) = clock_after (run e) (clock_in p)

-- the owners of ticks, as the level was opened with them
abbrev pub owner_in : List Entry → ℤ → Option ℕ
owner_in [] = λ t. None
owner_in (opened o ∷ p) = o.owner
owner_in (called e r r' ∷ p) = owner_in p

-- what the rule means now
abbrev pub rule_in : List Entry → Rule
rule_in [] = record { distance = λ a. 0; patience = 0 }
rule_in (opened o ∷ p) = o.rule
rule_in (called e r r' ∷ p) = r'

-- The promises.

-- For every list of reservations that the check passes for the level's timetable, and each reservation of it, X of every Y ticks:
-- of any Y ticks run in a row, the holder ready at each, it runs at least X.
abbrev pub Share : List Entry → Type 0
Share p =
    (later w earlier : List Entry) → p ≡ later ++ (w ++ earlier) →
    (rs : List Reservation) → Passes (owner_in p) rs → (k : ℕ) → k < length rs →
    count any w ≡ (Reservations.at rs k).period → ReadyAt (λ e. Unit {0}) (Reservations.at rs k).activity w earlier →
    (Reservations.at rs k).ticks ≤ count (by (Reservations.at rs k).activity) w

-- A constraint accepted with e ticks and not ended has run exactly e when the clock is at its deadline, if the holder was ready at each tick run from its start on.
abbrev pub Deadline : List Entry → Type 0
Deadline p =
    (later since : List Entry) (s a : ℕ) (t : ℤ) (e : ℕ) (d : ℤ) (x : Ticket) (r r' : Rule) (earlier : List Entry) →
    p ≡ later ++ (since ++ (called (began s a t e d x) r r' ∷ earlier)) →
    Unended s since → clock_in (since ++ (called (began s a t e d x) r r' ∷ earlier)) ≡ d →
    ReadyAt (λ f. t ≤ℤ f.tick) a since (called (began s a t e d x) r r' ∷ earlier) →
    count (constrained s a) since ≡ e

-- What an end answers is how many ticks the constraint has run: those answered c with its activity and seat since its begin.
abbrev pub EndCount : List Entry → Type 0
EndCount p =
    (later : List Entry) (x : Ticket) (n : ℕ) (q q' : Rule) (during : List Entry) (a : ℕ) (t : ℤ) (e : ℕ) (d : ℤ) (y : Ticket) (r r' : Rule) (earlier : List Entry) →
    p ≡ later ++ (called (ended x n) q q' ∷ (during ++ (called (began x.seat a t e d y) r r' ∷ earlier))) →
    Unended x.seat during → n ≡ count (constrained x.seat a) during

-- Of any patience + 1 spare ticks with no other spare tick between, the holder ready at each, it runs at least one.
abbrev pub SpareTurn : List Entry → Type 0
SpareTurn p =
    (later w earlier : List Entry) → p ≡ later ++ (w ++ earlier) →
    (a : ℕ) → a < 16 → count spare w ≡ (rule_in p).patience + 1 → ReadyAt (λ e. spare e ≡ true) a w earlier → 1 ≤ count (spare_by a) w

-- at a spare tick every ready activity but the runner gets a smaller distance
abbrev pub Nearer : List Entry → Ticked → Rule → Rule → Type 0
Nearer p e r r' = (a : ℕ) → ready_in p a ≡ true → by a e ≡ false → r'.distance a < r.distance a

-- what a call does to the rule, p being the history before it
abbrev pub Moves : List Entry → Option Ticked → Rule → Rule → Type 0
Moves p None r r' = r' ≡ r
Moves p (Some e) r r' = (spare e ≡ true → Nearer p e r r') × (spare e ≡ false → r' ≡ r) × (r'.patience ≡ r.patience)

-- The rule's meaning changes at spare ticks alone, and there as it should; nothing changes it between two calls.
abbrev pub RuleSteady : List Entry → Type 0
RuleSteady [] = Unit {0}
RuleSteady (opened o ∷ p) = Unit {0}
RuleSteady (called e r r' ∷ p) = (r ≡ rule_in p) × Moves p (run e) r r' × RuleSteady p

pub record Promises (p : List Entry) : Type 0 where
  pub share : Share p
  pub deadline : Deadline p
  pub end_count : EndCount p
  pub spare_turn : SpareTurn p
  pub rule : RuleSteady p

-- what stands of the level k, with p its own history: taken alone it came by p to what it is, what it knows is what p tells,
-- its timetable still keeps its laws, and the promises hold of p
pub record Stands (k : ℕ) (p : List Entry) (m : Meaning) : Type 0 where
  pub alone : Alone k p m
  pub number : m.number ≡ k
  pub clock : m.clock ≡ clock_in p
  pub ready : (a : ℕ) → m.ready a ≡ ready_in p a
  pub used : (a : ℕ) → m.used a ≡ count (by a) p
  pub owner : m.owner ≡ owner_in p
  pub repeating : Repeating m.owner m.cycle
  pub promises : Promises p

-- every level of w stands
abbrev pub AllStand : List Tagged → (ℕ → Option Meaning) → Type 0
AllStand h w = (k : ℕ) (m : Meaning) → w k ≡ Some m → Stands k (own_history k h) m

-- Levels that have come together keep all promises.
abbrev pub Shared : Type 0
Shared = (h : List Tagged) (w : ℕ → Option Meaning) → Together h w → AllStand h w

-- what each call's contract says: whatever stood before it, the call carries it on
abbrev pub Goes : Meaning → Event → Meaning → Type 0
Goes m e n =
    (h : List Tagged) (w : ℕ → Option Meaning) → Together h w → w m.number ≡ Some m →
    Together (record { level = m.number; entry = called e m.rule n.rule } ∷ h) (put m.number n w)
    × AllStand (record { level = m.number; entry = called e m.rule n.rule } ∷ h) (put m.number n w)

-- and what an opening's says
abbrev pub Starts : ℕ → Opening → Meaning → Type 0
Starts k o m =
    (h : List Tagged) (w : ℕ → Option Meaning) → Together h w → w k ≡ None →
    Together (record { level = k; entry = opened o } ∷ h) (put k m w)
    × AllStand (record { level = k; entry = opened o } ∷ h) (put k m w)

-- The sharing theorem: every step carries the history on, and every history keeps the promises.
pub record Sharing : Type 0 where
  pub shared : Shared
  pub goes : (m : Meaning) (e : Event) (n : Meaning) → Step m e n → Goes m e n
  pub starts : (k : ℕ) (o : Opening) (m : Meaning) → Opens k o m → Starts k o m
