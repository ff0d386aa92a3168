-- How many ticks of a window an activity owns, and when it has enough of them in every window.
use Rattle.std.specs.Prelude.{ℕ, zero, suc, ◌+◌, ◌≤◌, Bool, false, cond, ℤ, pos, ◌+ℤ◌, Some, None, Option, ◌==◌}

-- the owner of a tick is this activity
abbrev pub is_owner : Option ℕ → ℕ → Bool
is_owner None a = false
is_owner (Some b) a = b == a

-- 1 where the activity owns the tick t, and 0 elsewhere
abbrev pub owned_at : (ℤ → Option ℕ) → ℕ → ℤ → ℕ
owned_at owner a t = cond (is_owner (owner t) a) 1 0

-- how many of the n ticks from t on the activity owns
abbrev pub owned : (ℤ → Option ℕ) → ℕ → ℤ → ℕ → ℕ
owned owner a t zero = 0
owned owner a t (suc n) = owned owner a t n + owned_at owner a (t +ℤ pos n)

-- of any y ticks in a row, wherever they begin, the activity owns at least x
abbrev pub Served : (ℤ → Option ℕ) → ℕ → ℕ → ℕ → Type 0
Served owner a x y = (t : ℤ) → x ≤ owned owner a t y
