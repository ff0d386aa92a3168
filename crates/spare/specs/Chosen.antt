-- What a spare rule means, and what one call of it does: the clause of the interface.
use Rattle.std.specs.Prelude.{◌≡◌, ℕ, ◌<◌, ◌≤◌, Bool, true, false, Some, None, Option, ◌≢◌}

-- no activity's distance exceeds the patience
abbrev pub Within : (ℕ → ℕ) → ℕ → Type 0
Within distance patience = (a : ℕ) → a < 16 → distance a ≤ patience

-- nobody was ready and nobody is named: d and p, the distances and the patience before the call, are those after it
pub record NamesNobody (ready : ℕ → Bool) (d : ℕ → ℕ) (p : ℕ) (d' : ℕ → ℕ) (p' : ℕ) : Type 0 where
  pub idle : (a : ℕ) → ready a ≡ false
  pub distances : (a : ℕ) → d' a ≡ d a
  pub steady : p' ≡ p

-- the activity a is named: it was ready, and every other ready one has come nearer
pub record Names (a : ℕ) (ready : ℕ → Bool) (d : ℕ → ℕ) (p : ℕ) (d' : ℕ → ℕ) (p' : ℕ) : Type 0 where
  pub known : a < 16
  pub member : ready a ≡ true
  pub nearer : (b : ℕ) → ready b ≡ true → (b ≢ a) → d' b < d b
  pub steady : p' ≡ p

-- one call, told who is ready, from the meaning before it to its answer and the meaning after it
abbrev pub Chosen : (ℕ → Bool) → (ℕ → ℕ) → ℕ → Option ℕ → (ℕ → ℕ) → ℕ → Type 0
Chosen ready d p None d' p' = NamesNobody ready d p d' p'
Chosen ready d p (Some a) d' p' = Names a ready d p d' p'
