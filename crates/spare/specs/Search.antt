-- What the searches inside the queue and the wheel find, place by place.
use Rattle.std.specs.Prelude.{◌≡◌, ℕ, ◌+◌, ◌-◌, ◌<◌, Bool, true, false, cond, List, ◌++◌, length, take, drop, nat_lt, slice_index}
use Rattle.spare.specs.Wheels.{after_mark}

-- nobody ready stands in the list
abbrev pub NoneIn : (ℕ → Bool) → List ℕ → Type 0
NoneIn ready xs = (k : ℕ) → k < length xs → ready (slice_index xs k) ≡ false

-- i is the first place at which a ready one stands
pub record FirstAt (ready : ℕ → Bool) (xs : List ℕ) (i : ℕ) : Type 0 where
  pub within : i < length xs
  pub here : ready (slice_index xs i) ≡ true
  pub before : (k : ℕ) → k < i → ready (slice_index xs k) ≡ false

-- what stands at a place goes to the end
abbrev pub moved : List ℕ → ℕ → List ℕ
moved xs i = take i xs ++ (drop 1 (drop i xs) ++ take 1 (drop i xs))

-- how many places the mark passes over on its way to i
abbrev pub passed_to : ℕ → ℕ → ℕ → ℕ
passed_to n mark i = cond (nat_lt mark i) (i - (mark + 1)) (i + n - (mark + 1))

-- i is the next place of a ready one, going round
pub record NextAt (ready : ℕ → Bool) (places : List ℕ) (mark i : ℕ) : Type 0 where
  pub within : i < length places
  pub first : FirstAt ready (after_mark places mark) (passed_to (length places) mark i)
