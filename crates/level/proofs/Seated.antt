-- The table of seats.
use Rattle.std.proofs.Common.{◌≡◌, ℕ, ◌<◌, true, cond, ltb, List, length, get_or, set, Some, None, Option, is_some, refl, ap, ◌∙◌, ⊎_elim}
use Rattle.std.proofs.lemmas.Bool.{cond-true, cond-false, lt-ltb, le-ltb, cases_lt}
use Rattle.std.proofs.lemmas.List.{get_or_past, get_or-set_same, get_or-set_other}
use Rattle.level.specs.Meaning.{Constraint}
use Rattle.level.specs.Seats.{seat_at}
use Rattle.level.proofs.Counts.{none_some}

pub none_past : (xs : List (Option Constraint)) (s : ℕ) → 15 < s → seat_at xs s ≡ None
none_past xs s l = cond-false (ltb s 16) (get_or xs s None) None (le-ltb s 16 l)

pub seat_in : (xs : List (Option Constraint)) (s : ℕ) → s < 16 → seat_at xs s ≡ get_or xs s None
seat_in xs s l = cond-true (ltb s 16) (get_or xs s None) None (lt-ltb s 16 l)

-- where the table holds nothing, neither does the seat
pub not_on : (xs : List (Option Constraint)) (s : ℕ) → get_or xs s None ≡ None → seat_at xs s ≡ None
not_on xs s e = ⊎_elim (λ l. seat_in xs s l ∙ e) (λ l. none_past xs s l) (cases_lt s 16)

-- a seat that holds something is one of the sixteen
pub below : (xs : List (Option Constraint)) (s : ℕ) (h : Constraint) → seat_at xs s ≡ Some h → s < 16
below xs s h e = ⊎_elim (λ l. l) (λ l. absurd (none_some (seat_at xs s) h (none_past xs s l) e)) (cases_lt s 16)

-- and one of the table
pub inside : (xs : List (Option Constraint)) (s : ℕ) (h : Constraint) → seat_at xs s ≡ Some h → s < length xs
inside xs s h e = ⊎_elim (λ l. l) (λ l. absurd (none_some (seat_at xs s) h (not_on xs s (get_or_past xs s None l)) e)) (cases_lt s (length xs))

-- who is there
pub there : (o : Option Constraint) → is_some o ≡ true → (h : Constraint) × (o ≡ Some h)
there None e = cc
there (Some h) e = (h, refl)

-- one seat is written

pub seat_set : (xs : List (Option Constraint)) (i : ℕ) (y : Option Constraint) → i < length xs → i < 16 → seat_at (set xs i y) i ≡ y
seat_set xs i y lt l = seat_in (set xs i y) i l ∙ get_or-set_same xs i y None lt

pub seat_unset : (xs : List (Option Constraint)) (i : ℕ) (y : Option Constraint) (k : ℕ) → (k ≡ i → ⊥) → seat_at (set xs i y) k ≡ seat_at xs k
seat_unset xs i y k ne = ap (λ z. cond (ltb k 16) z None) (get_or-set_other xs i k y None ne)
