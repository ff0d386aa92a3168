-- Calls of one rule, one after another, and what they promise to an activity that stays ready.
use Rattle.std.specs.Prelude.{◌≡◌, ℕ, ◌+◌, ◌<◌, ◌≤◌, Bool, true, ◌⊎◌, List, [], ◌∷◌, ◌++◌, length, Some, None, Option, slice_index_or}
use Rattle.spare.specs.declared.ready.ReadySet.{ReadySet}
use Rattle.spare.specs.declared.rule.SpareRule.{Ghosts as SpareRules}
use Rattle.spare.specs.Chosen.{Within, Chosen}
use Rattle.spare.specs.Sets.{is_ready}

-- one call: who was ready, who was named, and the distances and the patience before it and after it
pub record Call : Type 0 where
  pub ready : ℕ → Bool
  pub name : Option ℕ
  pub distance : ℕ → ℕ
  pub patience : ℕ
  pub distance_after : ℕ → ℕ
  pub patience_after : ℕ

-- the call is one that the interface allows
abbrev pub Allowed : Call → Type 0
Allowed c =
    Within c.distance c.patience
    × Chosen c.ready c.distance c.patience c.name c.distance_after c.patience_after

-- the calls start from these distances and this patience, and each goes on where the one before it ended
abbrev pub Chained : (ℕ → ℕ) → ℕ → List Call → Type 0
Chained d p [] = Unit {0}
Chained d p (c ∷ cs) =
    ((a : ℕ) → a < 16 → c.distance a ≡ d a)
    × (c.patience ≡ p)
    × Allowed c
    × Chained c.distance_after c.patience_after cs

-- the activity is ready at each of the calls
abbrev pub ReadyAtEach : ℕ → List Call → Type 0
ReadyAtEach a [] = Unit {0}
ReadyAtEach a (c ∷ cs) = (c.ready a ≡ true) × ReadyAtEach a cs

-- some call names the activity
abbrev pub NamedInSome : ℕ → List Call → Type 0
NamedInSome a [] = ⊥
NamedInSome a (c ∷ cs) = (c.name ≡ Some a) ⊎ NamedInSome a cs

-- of every p + 1 calls in a row at each of which an activity is ready, at least one names it
abbrev pub StarvesNobody : ℕ → List Call → Type 0
StarvesNobody p cs =
    (earlier row later : List Call) → cs ≡ earlier ++ (row ++ later) → length row ≡ p + 1
    → (a : ℕ) → a < 16 → ReadyAtEach a row → NamedInSome a row

-- one call of a rule, with the rule as it was left
pub record Answer (R : Type 0) : Type 0 where
  pub ready : ℕ → Bool
  pub name : Option ℕ
  pub rule : R

module _ {R : Type 0} (rs : SpareRules R) where
  -- the answers are what calls of the rule x, one after another, may give
  abbrev pub AnswersOf : R → List (Answer R) → Type 0
  AnswersOf x [] = Unit {0}
  AnswersOf x (s ∷ ss) =
      Chosen s.ready (rs.distance x) (rs.patience x) s.name (rs.distance s.rule) (rs.patience s.rule) × AnswersOf s.rule ss

  -- the same calls by their meaning alone
  abbrev pub calls_of : R → List (Answer R) → List Call
  calls_of x [] = []
  calls_of x (s ∷ ss) =
      record {
        ready = s.ready;
        name = s.name;
        distance = rs.distance x;
        patience = rs.patience x;
        distance_after = rs.distance s.rule;
        patience_after = rs.patience s.rule;
      }
      ∷ calls_of s.rule ss

  -- whatever the rule x is asked from now on, it starves nobody
  abbrev pub NeverStarves : R → Type 0
  NeverStarves x = (ss : List (Answer R)) → AnswersOf x ss → StarvesNobody (rs.patience x) (calls_of x ss)

-- the rule x, asked once for each of these sets in their order, names these and is left as y
abbrev pub Ran : {R : Type 0} → (R → (ℕ → Bool) → Option ℕ → R → Type 0) → R → List ReadySet → List (Option ℕ) → R → Type 0
Ran call x [] [] y = y ≡ x
Ran call x [] (name ∷ names) y = ⊥
Ran call x (set ∷ sets) [] y = ⊥
Ran {R} call x (set ∷ sets) (name ∷ names) y = (z : R) × call x (is_ready set) name z × Ran call z sets names y

-- the activity is in each of the p + 1 sets from place i on
abbrev pub ReadyFrom : ℕ → ℕ → List ReadySet → ℕ → Type 0
ReadyFrom p a sets i = (k : ℕ) (s : ReadySet) → i ≤ k → k ≤ i + p → is_ready (slice_index_or sets k s) a ≡ true

-- of every p + 1 places in a row at which an activity is ready, at least one names it
abbrev pub EachServed : ℕ → List ReadySet → List (Option ℕ) → Type 0
EachServed p sets names =
    (i a : ℕ) → i + p < length sets → a < 16 → ReadyFrom p a sets i
    → (k : ℕ) × (i ≤ k) × (k ≤ i + p) × (slice_index_or names k None ≡ Some a)
