-- Who owns a tick of a plan.
use Rattle.std.specs.Prelude.{◌≡◌, ℕ, cond, List, [], ◌∷◌, ℤ, Some, None, Option}
use Rattle.std.specs.List.{ContainsAt as Has}
use Rattle.plan.specs.declared.entry.Entry.{Entry}
use Rattle.plan.specs.Entries.{Owns, owns}

-- the owner is an activity of which some entry owns the tick, and nobody where no entry does
abbrev pub OwnedBy : ℕ → List Entry → ℤ → Option ℕ → Type 0
OwnedBy b es t (Some a) = (e : Entry) × Has es e × Owns b e t × (e.activity ≡ a)
OwnedBy b es t None = (e : Entry) → Has es e → Owns b e t → ⊥

-- the owner as a function; where no two entries clash it is the only one that `OwnedBy` allows
abbrev pub owner_in : ℕ → List Entry → ℤ → Option ℕ
owner_in b [] t = None
owner_in b (e ∷ es) t = cond (owns b e t) (Some e.activity) (owner_in b es t)
