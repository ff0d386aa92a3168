-- Counts stay below the ticks since the least clock.
use Rattle.std.proofs.Common.{◌≡◌, ℕ, zero, suc, ◌+◌, ◌<◌, Bool, cond, List, length, get_or, set, replicate, ℤ, pos, ◌+ℤ◌, ◌≤ℤ◌, ◌<ℤ◌, Some, None, Option, sym, refl, ap, ◌∙◌, ⊎_elim, arith}
use Rattle.std.proofs.lemmas.Int.{ints}
use Rattle.std.proofs.lemmas.Bool.{cases_eq, cases_Bool, cond-true, cond-false}
use Rattle.level.specs.Meaning.{Constraint}
use Rattle.level.specs.Held.{one_more_run}
use Rattle.level.specs.Bounds.{AtMost, RanBound, UsedBound}
use Rattle.level.specs.Seats.{seat_at, one_more}
use Rattle.level.specs.Ticks.{one, is}
use Rattle.level.proofs.Counts.{none_some}
use Rattle.level.proofs.Seated.{not_on, below, seat_set, seat_unset}
use Rattle.level.proofs.Tallies.{one_le}
use Rattle.level.proofs.Window.{empty}

pub room : (c : ℤ) (n : ℕ) → c <ℤ pos 2147483647 → AtMost c n → n < 4294967295
room c n l b = omega (arith, ints)

-- a seat is written that has run no more than it may
pub ran_set : (c : ℤ) (xs : List (Option Constraint)) (i : ℕ) (y : Option Constraint) → i < length xs → ((h : Constraint) → y ≡ Some h → AtMost c h.ran) → RanBound c xs → RanBound c (set xs i y)
ran_set c xs i y lt few b s h e =
    ⊎_elim
    (λ q.
    let at = ap (λ k. seat_at (set xs i y) k) (sym q) ∙ e in
    few h (sym (seat_set xs i y lt (below (set xs i y) i h at)) ∙ at))
    (λ ne. b s h (sym (seat_unset xs i y s ne) ∙ e))
    (cases_eq s i)

-- one tick more, and the clock moves on

one_more_ran : (o : Option Constraint) (h : Constraint) → one_more o ≡ Some h → (g : Constraint) × (o ≡ Some g) × (h.ran ≡ g.ran + 1)
one_more_ran None h e = absurd (none_some None h refl e)
one_more_ran (Some g) h e = let same : one_more_run g ≡ h = cc in (g, refl, ap (λ x. x.ran) (sym same))

pub ran_more :
    (c d : ℤ) → d ≡ c +ℤ pos 1 → (xs ys : List (Option Constraint)) (p : ℕ → Bool) → ((s : ℕ) → seat_at ys s ≡ cond (p s) (one_more (seat_at xs s)) (seat_at xs s)) →
    RanBound c xs → RanBound d ys
ran_more c d e xs ys p w b s h at =
    ⊎_elim
    (λ q.
    let m = one_more_ran (seat_at xs s) h (sym (w s ∙ cond-true (p s) _ _ q) ∙ at) in
    let k = b s m.0 m.1 in
    let r = m.2 in
    omega (arith, ints))
    (λ q. let k = b s h (sym (w s ∙ cond-false (p s) _ _ q) ∙ at) in omega (arith, ints))
    (cases_Bool (p s))

pub used_more :
    (c d : ℤ) → d ≡ c +ℤ pos 1 → (xs ys : List ℕ) (o : Option ℕ) → ((a : ℕ) → get_or ys a 0 ≡ one (is a o) + get_or xs a 0) → UsedBound c xs → UsedBound d ys
used_more c d e xs ys o w b a l =
    let k = b a l in
    let x = w a in
    let y = one_le (is a o) in
    omega (arith, ints)

-- as a level is opened, nothing is counted
pub zero_used : (n a : ℕ) → ◌≡◌ {A = ℕ} (get_or (replicate n 0) a 0) 0
zero_used zero a = refl
zero_used (suc n) zero = refl
zero_used (suc n) (suc a) = zero_used n a

pub ran_fresh : (c : ℤ) (n : ℕ) → RanBound c (replicate n None)
ran_fresh c n s h e = absurd (none_some (seat_at (replicate n None) s) h (not_on (replicate n None) s (empty n s)) e)

pub used_fresh : (c : ℤ) → pos 0 ≤ℤ (c +ℤ pos 2147483648) → (n : ℕ) → UsedBound c (replicate n 0)
used_fresh c h n a l = let z = zero_used n a in omega (arith, ints)
