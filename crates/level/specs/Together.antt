-- Several levels, each under a number of its own, and the history of all calls made on them.
use Rattle.std.specs.Prelude.{◌≡◌, ℕ, ◌≤◌, false, cond, List, [], ◌∷◌, ℤ, pos, ◌+ℤ◌, Some, None, Option, ◌==◌}
use Rattle.timetable.specs.Owners.{Known}
use Rattle.spare.specs.Chosen.{Within}
use Rattle.level.specs.Meaning.{Rule, Meaning, Event}
use Rattle.level.specs.Steps.{Step}

-- what a level is opened with, besides its number
pub record Opening : Type 0 where
  pub clock : ℤ
  pub owner : ℤ → Option ℕ
  pub cycle : ℕ
  pub rule : Rule

-- an entry of a level's history: its opening, or a call with what the level's rule means before and after it
pub data Entry : Type 0 where
  opened : Opening → Entry
  called : Event → (before after : Rule) → Entry

-- an entry, and the number of its level
pub record Tagged : Type 0 where
  pub level : ℕ
  pub entry : Entry

-- the laws of a timetable
pub record Repeating (owner : ℤ → Option ℕ) (cycle : ℕ) : Type 0 where
  pub least : 1 ≤ cycle
  pub most : cycle ≤ 2048
  pub repeats : (t : ℤ) → owner (t +ℤ pos cycle) ≡ owner t
  pub known : (t : ℤ) → Known (owner t)

-- a level as it is opened
pub record Opens (k : ℕ) (o : Opening) (m : Meaning) : Type 0 where
  pub number : m.number ≡ k
  pub clock : m.clock ≡ o.clock
  pub owner : m.owner ≡ o.owner
  pub cycle : m.cycle ≡ o.cycle
  pub blocked : (a : ℕ) → m.ready a ≡ false
  pub unused : (s : ℕ) → m.seats s ≡ None
  pub unmarked : (t : ℤ) → m.marks t ≡ None
  pub idle : (a : ℕ) → m.used a ≡ 0
  pub rule : m.rule ≡ o.rule
  pub repeating : Repeating o.owner o.cycle
  pub within : Within o.rule.distance o.rule.patience

-- the levels w, with m under the number k
abbrev pub put : ℕ → Meaning → (ℕ → Option Meaning) → ℕ → Option Meaning
put k m w j = cond (j == k) (Some m) (w j)

-- the history of all levels so far, the newest entry first, and where it has led
pub data Together : List Tagged → (ℕ → Option Meaning) → Type 0 where
  nothing : Together [] (λ k. None)
  opens : {h : List Tagged} {w : ℕ → Option Meaning} (k : ℕ) {o : Opening} (m : Meaning) →
      Together h w → w k ≡ None → Opens k o m → Together (record { level = k; entry = opened o } ∷ h) (put k m w)
  calls : {h : List Tagged} {w : ℕ → Option Meaning} (k : ℕ) (m : Meaning) (e : Event) (n : Meaning) →
      Together h w → w k ≡ Some m → Step m e n → Together (record { level = k; entry = called e m.rule n.rule } ∷ h) (put k n w)

-- a level's own history
abbrev pub own_history : ℕ → List Tagged → List Entry
own_history k [] = []
own_history k (l ∷ h) = cond (k == l.level) (l.entry ∷ own_history k h) (own_history k h)

-- a level taken alone: from its opening by the calls made on it
pub data Alone (k : ℕ) : List Entry → Meaning → Type 0 where
  first : {o : Opening} {m : Meaning} → Opens k o m → Alone k (opened o ∷ []) m
  next : {p : List Entry} {m : Meaning} (e : Event) {n : Meaning} → Alone k p m → Step m e n → Alone k (called e m.rule n.rule ∷ p) n
