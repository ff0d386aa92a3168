-- The lists of calls that the functions of this crate make on several levels.
use Rattle.std.specs.Prelude.{◌≡◌, ℕ, List, [], ◌∷◌, Some, Option, ◌≢◌}
use Rattle.level.specs.Meaning.{Meaning, Event}
use Rattle.level.specs.Together.{Opening, Entry, opened, called, Tagged, Together, put}
use Rattle.level.specs.Promises.{AllStand}

abbrev pub entry_of : ℕ → Entry → Tagged
entry_of k x = record { level = k; entry = x }

-- a call that takes m to n
abbrev pub call_on : Meaning → Event → Meaning → Tagged
call_on m e n = entry_of m.number (called e m.rule n.rule)

-- a call e takes the level m to m', and a call f the level n of another number to n'
abbrev pub TicksBoth : Meaning → Event → Meaning → Meaning → Event → Meaning → Type 0
TicksBoth m e m' n f n' =
    (h : List Tagged) (w : ℕ → Option Meaning) → Together h w → w m.number ≡ Some m → w n.number ≡ Some n → (n.number ≢ m.number) →
    Together (call_on n f n' ∷ call_on m e m' ∷ h) (put n.number n' (put m.number m' w))
    × AllStand (call_on n f n' ∷ call_on m e m' ∷ h) (put n.number n' (put m.number m' w))

-- two openings, a call on the first level and a call on each have led to m and n, and all promises hold of this history
pub record Story (o p : Opening) (woken first second : Event) (m n : Meaning) : Type 0 where
  pub m₀ : Meaning
  pub m₁ : Meaning
  pub n₀ : Meaning
  pub history : List Tagged
  pub history_is : history ≡ entry_of 1 (called second n₀.rule n.rule) ∷ entry_of 0 (called first m₁.rule m.rule) ∷ entry_of 0 (called woken m₀.rule m₁.rule) ∷ entry_of 1 (opened p) ∷ entry_of 0 (opened o) ∷ []
  pub levels : ℕ → Option Meaning
  pub together : Together history levels
  pub stand : AllStand history levels
  pub left_is : levels 0 ≡ Some m
  pub right_is : levels 1 ≡ Some n
