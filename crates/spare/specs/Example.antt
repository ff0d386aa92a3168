-- A worked example: a queue under a hold of one repeat, with the activities 0 and 1 ready.
use Rattle.std.specs.Prelude.{◌≡◌, ℕ, ◌≤◌, Bool, true, false, List, [], ◌∷◌, Some, None, Option}
use Rattle.spare.specs.declared.hold.Hold.{Hold}
use Rattle.spare.specs.declared.queue.Queue.{Queue}
use Rattle.spare.specs.Holds.{HoldStep}
use Rattle.spare.specs.Orders.{QueueStep, in_order}

-- a hold of one repeat, new over a new queue
pub record NewHold (h : Hold Queue) : Type 0 where
  pub order_is : h.below.order ≡ in_order
  pub repeats_is : h.repeats ≡ 1
  pub choice_is : h.choice ≡ None
  pub left_is : h.left ≡ 0

-- the activities 0 and 1 are ready, and nobody else
pub record TwoReady (ready : ℕ → Bool) : Type 0 where
  pub zero_ready : ready 0 ≡ true
  pub one_ready : ready 1 ≡ true
  pub others : (a : ℕ) → 2 ≤ a → ready a ≡ false

-- one call of a hold over a queue
abbrev pub HeldQueueStep : Hold Queue → (ℕ → Bool) → Option ℕ → Hold Queue → Type 0
HeldQueueStep = HoldStep (λ q ready name q'. QueueStep q.order ready name q'.order)

-- the names that calls give, one after another, the same being ready at each
abbrev pub NamesInTurn : (ℕ → Bool) → Hold Queue → List (Option ℕ) → Type 0
NamesInTurn ready h [] = Unit {0}
NamesInTurn ready h (name ∷ names) = (h' : Hold Queue) × HeldQueueStep h ready name h' × NamesInTurn ready h' names

-- five calls name 0, 0, 1, 1 and 0, and can name nobody else
abbrev pub HeldQueueExample : Type 0
HeldQueueExample =
    (ready : ℕ → Bool) → TwoReady ready → (h : Hold Queue) → NewHold h
    → (a b c d e : Option ℕ) → NamesInTurn ready h (a ∷ b ∷ c ∷ d ∷ e ∷ [])
    → (a ∷ b ∷ c ∷ d ∷ e ∷ []) ≡ (Some 0 ∷ Some 0 ∷ Some 1 ∷ Some 1 ∷ Some 0 ∷ [])
