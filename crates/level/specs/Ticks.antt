-- Which ticks a constraint may have, and which of them it is given.
use Rattle.std.specs.Prelude.{◌≡◌, ℕ, zero, suc, ◌+◌, ◌<◌, ◌≤◌, Bool, true, false, cond, ◌&&◌, ◌⊎◌, ℤ, pos, ◌+ℤ◌, ◌-ℤ◌, ◌≤ℤ◌, ◌<ℤ◌, Some, None, Ok, Err, Option, Result, ◌==◌, unsigned_abs}
use Rattle.level.specs.declared.board.Board.{Board}
use Rattle.level.specs.declared.constraint.Constraint.{Constraint}
use Rattle.level.specs.declared.refusal.Refusal.{Refusal}
use Rattle.level.specs.declared.refusal.Refusal.TheVariants.{TooFew}
use Rattle.level.specs.Board.{holder}

abbrev pub one : Bool → ℕ
one true = 1
one false = 0

-- how many of the numbers below n pass a test
abbrev pub tally : (ℕ → Bool) → ℕ → ℕ
tally p zero = 0
tally p (suc n) = tally p n + one (p n)

-- how many of the ticks from `from` to before `to` pass a test
abbrev pub between : (ℤ → Bool) → ℤ → ℤ → ℕ
between p from to = tally (λ k. p (from +ℤ pos k)) (unsigned_abs (to -ℤ from))

-- nothing is there: a tick without a mark, or without an owner
abbrev pub is_none : Option ℕ → Bool
is_none None = true
is_none (Some s) = false

-- what is there is a
abbrev pub is : ℕ → Option ℕ → Bool
is a None = false
is a (Some b) = b == a

-- an activity may have the ticks that are its own, and those of nobody
abbrev pub allows : ℕ → Option ℕ → Bool
allows a None = true
allows a (Some b) = b == a

-- the tick t has no mark, and the activity a owns it or nobody does
abbrev pub is_available : (ℤ → Option ℕ) → (ℤ → Option ℕ) → ℕ → ℤ → Bool
is_available holder owner a t = is_none (holder t) && allows a (owner t)

-- the order in which ticks are marked: own ones first, each earliest first
abbrev pub Before : (ℤ → Bool) → ℤ → ℤ → Type 0
Before own t u = ((own t ≡ true) × (own u ≡ false)) ⊎ ((own t ≡ own u) × (t <ℤ u))

-- the set `chosen` has as many available ticks as the estimate says, and each comes before each available one that is left out
pub record Marking (available own : ℤ → Bool) (start deadline : ℤ) (estimate : ℕ) (chosen : ℤ → Bool) : Type 0 where
  pub from : (t : ℤ) → chosen t ≡ true → start ≤ℤ t
  pub to : (t : ℤ) → chosen t ≡ true → t <ℤ deadline
  pub among : (t : ℤ) → chosen t ≡ true → available t ≡ true
  pub many : between chosen start deadline ≡ estimate
  pub first : (t u : ℤ) → chosen t ≡ true → start ≤ℤ u → u <ℤ deadline → available u ≡ true → chosen u ≡ false → Before own t u

-- there is no other such set
abbrev pub MarkedOnce : Type 0
MarkedOnce =
    (available own : ℤ → Bool) (start deadline : ℤ) (estimate : ℕ) (c d : ℤ → Bool) →
    Marking available own start deadline estimate c → Marking available own start deadline estimate d → (t : ℤ) → c t ≡ d t

-- of the ticks from the clock on, the chosen ones are marked for the seat, and the others are as they were
abbrev pub MarksFor : ℤ → ℕ → (ℤ → Bool) → (ℤ → Option ℕ) → (ℤ → Option ℕ) → Type 0
MarksFor clock seat chosen before after =
    (t : ℤ) → clock ≤ℤ t → t <ℤ (clock +ℤ pos 1024) → after t ≡ cond (chosen t) (Some seat) (before t)

-- a seat is given its ticks
abbrev pub Given : ℤ → (ℤ → Option ℕ) → ℕ → ℕ → ℤ → ℤ → ℕ → (ℤ → Option ℕ) → (ℤ → Option ℕ) → Type 0
Given clock owner a seat start deadline estimate before after =
    (chosen : ℤ → Bool)
    × Marking (is_available before owner a) (λ t. is a (owner t)) start deadline estimate chosen
    × MarksFor clock seat chosen before after

-- A constraint is given its ticks, whatever the clock is from which on its window lies within reach; or fewer are available than it asks for, and
-- the refusal tells how many.
abbrev pub Gives : (ℤ → Option ℕ) → ℕ → Constraint → Board → Board → Result (Unit {0}) Refusal → Type 0
Gives owner seat h before after (Ok _) =
    (h.estimate ≤ between (is_available (holder before) owner h.activity) h.start h.deadline)
    × ((clock : ℤ) → clock ≤ℤ h.start → h.deadline ≤ℤ (clock +ℤ pos 1024) → Given clock owner h.activity seat h.start h.deadline h.estimate (holder before) (holder after))
Gives owner seat h before after (Err r) =
    (n : ℕ) × (r ≡ TooFew n) × (n < h.estimate) × (n ≡ between (is_available (holder before) owner h.activity) h.start h.deadline) × (after ≡ before)
