-- Words for lists of activities in the order in which they are asked.
use Rattle.std.specs.Prelude.{◌≡◌, ℕ, zero, suc, ◌<◌, Bool, cond, List, [], ◌∷◌, ◌++◌, length, find, Option, ◌==◌, slice_index}
use Rattle.std.specs.List.{position_or_len}

-- the first ready one, if there is any
abbrev pub first_ready : (ℕ → Bool) → List ℕ → Option ℕ
first_ready ready xs = find ready xs

-- the first ready one goes to the end, and the others keep their order
abbrev pub sent_back : (ℕ → Bool) → List ℕ → List ℕ
sent_back ready [] = []
sent_back ready (x ∷ xs) = cond (ready x) (xs ++ x ∷ []) (x ∷ sent_back ready xs)

-- one call of the queue: it names the first ready one of its order, and that one goes to the end
abbrev pub QueueStep : List ℕ → (ℕ → Bool) → Option ℕ → List ℕ → Type 0
QueueStep order ready name order' = (name ≡ first_ready ready order) × (order' ≡ sent_back ready order)

-- how many stand before the first ready one
abbrev pub passed_over : (ℕ → Bool) → List ℕ → ℕ
passed_over ready xs = position_or_len ready xs

-- how many stand before the first a
abbrev pub place_of : ℕ → List ℕ → ℕ
place_of a xs = position_or_len (λ x. x == a) xs

-- how often a stands there
abbrev pub times : ℕ → List ℕ → ℕ
times a [] = zero
times a (x ∷ xs) = cond (x == a) (suc (times a xs)) (times a xs)

-- the activities in the order of their numbers
abbrev pub in_order : List ℕ
in_order = 0 ∷ 1 ∷ 2 ∷ 3 ∷ 4 ∷ 5 ∷ 6 ∷ 7 ∷ 8 ∷ 9 ∷ 10 ∷ 11 ∷ 12 ∷ 13 ∷ 14 ∷ 15 ∷ []

-- every one of the sixteen activities stands in the order once, and nobody else does
pub record EachOnce (order : List ℕ) : Type 0 where
  pub long : length order ≡ 16
  pub known : (k : ℕ) → k < 16 → slice_index order k < 16
  pub once : (a : ℕ) → a < 16 → times a order ≡ 1

-- a queue, as its callers see it, with the fact that makes it one
pub record Turns : Type 0 where
  pub order : List ℕ
  pub each_once : EachOnce order
