-- What one call of a hold does, over whatever a call of the rule below does.
use Rattle.std.specs.Prelude.{◌≡◌, ℕ, ◌+◌, ◌<◌, Bool, true, false, ◌&&◌, Some, None, MatchBool, Option, nat_lt}
use Rattle.spare.specs.declared.hold.Hold.{Hold}

-- whether there is a last choice that is ready
abbrev pub choice_ready : (ℕ → Bool) → Option ℕ → Bool
choice_ready ready None = false
choice_ready ready (Some a) = ready a

-- whether the hold repeats its choice: it may, and the choice is ready
abbrev pub repeating : {R : Type 0} → (ℕ → Bool) → Hold R → Bool
repeating ready h = nat_lt 0 h.left && choice_ready ready h.choice

-- it names its choice once more, and the rule below is untouched
pub record Repeats {R : Type 0} (h : Hold R) (name : Option ℕ) (h' : Hold R) : Type 0 where
  pub same_name : name ≡ h.choice
  pub same_choice : h'.choice ≡ h.choice
  pub one_less : h'.left + 1 ≡ h.left
  pub same_repeats : h'.repeats ≡ h.repeats
  pub untouched : h'.below ≡ h.below

-- what it holds after it has asked below: the new choice, to be repeated as often as it may; or what it held, where nobody was named
abbrev pub Takes : {R : Type 0} → Hold R → Option ℕ → Hold R → Type 0
Takes h None h' = (h'.choice ≡ h.choice) × (h'.left ≡ h.left)
Takes h (Some a) h' = (h'.choice ≡ Some a) × (h'.left ≡ h.repeats)

-- it passes on what a call of the rule below answers
pub record Asks {R : Type 0} (call : R → (ℕ → Bool) → Option ℕ → R → Type 0) (ready : ℕ → Bool) (h : Hold R) (name : Option ℕ) (h' : Hold R) : Type 0 where
  pub asked : call h.below ready name h'.below
  pub takes : Takes h name h'
  pub same_repeats : h'.repeats ≡ h.repeats

-- one call of the hold
abbrev pub HoldStep : {R : Type 0} → (R → (ℕ → Bool) → Option ℕ → R → Type 0) → Hold R → (ℕ → Bool) → Option ℕ → Hold R → Type 0
HoldStep call h ready name h' = MatchBool (repeating ready h) (Repeats h name h') (Asks call ready h name h')

-- a is the choice that is repeated
pub record Held {R : Type 0} (ready : ℕ → Bool) (h : Hold R) (a : ℕ) : Type 0 where
  pub some_left : 0 < h.left
  pub choice_is : h.choice ≡ Some a
  pub still_ready : ready a ≡ true
