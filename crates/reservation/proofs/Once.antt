-- The check has one answer: what each says of a list shuts the others out.
use Rattle.std.proofs.Common.{◌≡◌, ℕ, ◌<◌, ◌≤◌, List, length, ℤ, pos, Ok, Err, sum_by, Option, Result, refl, ap, subst, arith}
use Rattle.reservation.specs.declared.reservation.Reservation.{Reservation}
use Rattle.reservation.specs.declared.fault.CheckFault.{CheckFault}
use Rattle.reservation.specs.declared.fault.CheckFault.TheVariants.{TooMany, OutOfRange, Twice, Short, Overbooked}
use Rattle.reservation.specs.Reservations.{Ranged, Distinct, AllServed, share, at}
use Rattle.reservation.specs.Told.{FirstOutside, FirstTwice, FirstShort, FirstUnserved, Told}
use Rattle.reservation.specs.Windows.{owned}

too_many : (rs : List Reservation) → 16 < length rs → length rs ≤ 16 → ⊥
too_many rs a b = omega arith

too_much : (rs : List Reservation) → sum_by share rs ≤ 1000000 → 1000000 < sum_by share rs → ⊥
too_much rs a b = omega arith

not_ranged : (rs : List Reservation) (k : ℕ) → FirstOutside rs k → Ranged rs (length rs) → ⊥
not_ranged rs k f h = f.outside (h k f.within)

not_distinct : (rs : List Reservation) (k : ℕ) → FirstTwice rs k → Distinct rs (length rs) → ⊥
not_distinct rs k f h = h k f.within f.repeats.0 f.repeats.1 f.repeats.2

-- a short window is not served
short_not : (owner : ℤ → Option ℕ) (l : ℕ) (r : Reservation) (t n : ℕ) → FirstShort owner l r t n → r.ticks ≤ owned owner r.activity (pos t) r.period → ⊥
short_not owner l r t n s h = let f = s.count in let g = s.short in omega arith

not_served : (owner : ℤ → Option ℕ) (l : ℕ) (rs : List Reservation) (k t n : ℕ) → FirstUnserved owner l rs k t n → AllServed owner rs (length rs) → ⊥
not_served owner l rs k t n f h = short_not owner l (at rs k) t n f.window (h k f.within (pos t))

-- two numbers of which neither is below the other
neither : (i j : ℕ) → (i < j → ⊥) → (j < i → ⊥) → i ≡ j
neither i j a b = omega (arith, a, b)

same_outside : (rs : List Reservation) (i j : ℕ) → FirstOutside rs i → FirstOutside rs j → i ≡ j
same_outside rs i j f g = neither i j (λ l. f.outside (g.before i l)) (λ l. g.outside (f.before j l))

same_twice : (rs : List Reservation) (i j : ℕ) → FirstTwice rs i → FirstTwice rs j → i ≡ j
same_twice rs i j f g =
    neither i j
    (λ l. g.before i l f.repeats.0 f.repeats.1 f.repeats.2)
    (λ l. f.before j l g.repeats.0 g.repeats.1 g.repeats.2)

same_window : (owner : ℤ → Option ℕ) (l : ℕ) (r : Reservation) (t n s m : ℕ) → FirstShort owner l r t n → FirstShort owner l r s m → (t ≡ s) × (n ≡ m)
same_window owner l r t n s m f g =
    let e : t ≡ s = neither t s (λ h. short_not owner l r t n f (g.no_sooner t h)) (λ h. short_not owner l r s m g (f.no_sooner s h)) in
    let p = f.count in
    let q = g.count in
    (e, cc)

same_unserved : (owner : ℤ → Option ℕ) (l : ℕ) (rs : List Reservation) (i t n j s m : ℕ) → FirstUnserved owner l rs i t n → FirstUnserved owner l rs j s m → (i ≡ j) × (t ≡ s) × (n ≡ m)
same_unserved owner l rs i t n j s m f g =
    let e : i ≡ j = neither i j (λ h. short_not owner l (at rs i) t n f.window (g.before i h (pos t))) (λ h. short_not owner l (at rs j) s m g.window (f.before j h (pos s))) in
    let h = subst (λ (k : ℕ). FirstShort owner l (at rs k) t n) e f.window in
    let p = same_window owner l (at rs j) t n s m h g.window in
    (e, p.0, p.1)

pub told_once : (owner : ℤ → Option ℕ) (l : ℕ) (rs : List Reservation) (r s : Result (Unit {0}) CheckFault) → Told owner l rs r → Told owner l rs s → r ≡ s
told_once owner l rs (Ok u) (Ok v) p q = refl
told_once owner l rs (Ok u) (Err TooMany) p q = absurd (too_many rs q p.few)
told_once owner l rs (Ok u) (Err (OutOfRange j)) p q = absurd (not_ranged rs _ q.1 p.ranged)
told_once owner l rs (Ok u) (Err (Twice j)) p q = absurd (not_distinct rs _ q.2 p.distinct)
told_once owner l rs (Ok u) (Err (Short j s m)) p q = absurd (not_served owner l rs _ _ _ q.1 p.served)
told_once owner l rs (Ok u) (Err Overbooked) p q = absurd (too_much rs p.shares q.2)
told_once owner l rs (Err TooMany) (Ok v) p q = absurd (too_many rs p q.few)
told_once owner l rs (Err TooMany) (Err TooMany) p q = refl
told_once owner l rs (Err TooMany) (Err (OutOfRange j)) p q = absurd (too_many rs p q.0)
told_once owner l rs (Err TooMany) (Err (Twice j)) p q = absurd (too_many rs p q.0)
told_once owner l rs (Err TooMany) (Err (Short j s m)) p q = absurd (too_many rs p q.0.few)
told_once owner l rs (Err TooMany) (Err Overbooked) p q = absurd (too_many rs p q.0.few)
told_once owner l rs (Err (OutOfRange i)) (Ok v) p q = absurd (not_ranged rs _ p.1 q.ranged)
told_once owner l rs (Err (OutOfRange i)) (Err TooMany) p q = absurd (too_many rs q p.0)
told_once owner l rs (Err (OutOfRange i)) (Err (OutOfRange j)) p q = ap (λ k. Err (OutOfRange k)) (same_outside rs i j p.1 q.1)
told_once owner l rs (Err (OutOfRange i)) (Err (Twice j)) p q = absurd (not_ranged rs _ p.1 q.1)
told_once owner l rs (Err (OutOfRange i)) (Err (Short j s m)) p q = absurd (not_ranged rs _ p.1 q.0.ranged)
told_once owner l rs (Err (OutOfRange i)) (Err Overbooked) p q = absurd (not_ranged rs _ p.1 q.0.ranged)
told_once owner l rs (Err (Twice i)) (Ok v) p q = absurd (not_distinct rs _ p.2 q.distinct)
told_once owner l rs (Err (Twice i)) (Err TooMany) p q = absurd (too_many rs q p.0)
told_once owner l rs (Err (Twice i)) (Err (OutOfRange j)) p q = absurd (not_ranged rs _ q.1 p.1)
told_once owner l rs (Err (Twice i)) (Err (Twice j)) p q = ap (λ k. Err (Twice k)) (same_twice rs i j p.2 q.2)
told_once owner l rs (Err (Twice i)) (Err (Short j s m)) p q = absurd (not_distinct rs _ p.2 q.0.distinct)
told_once owner l rs (Err (Twice i)) (Err Overbooked) p q = absurd (not_distinct rs _ p.2 q.0.distinct)
told_once owner l rs (Err (Short i t n)) (Ok v) p q = absurd (not_served owner l rs _ _ _ p.1 q.served)
told_once owner l rs (Err (Short i t n)) (Err TooMany) p q = absurd (too_many rs q p.0.few)
told_once owner l rs (Err (Short i t n)) (Err (OutOfRange j)) p q = absurd (not_ranged rs _ q.1 p.0.ranged)
told_once owner l rs (Err (Short i t n)) (Err (Twice j)) p q = absurd (not_distinct rs _ q.2 p.0.distinct)
told_once owner l rs (Err (Short i t n)) (Err (Short j s m)) p q = let e = same_unserved owner l rs i t n j s m p.1 q.1 in let a = e.0 in let b = e.1 in let c = e.2 in cc
told_once owner l rs (Err (Short i t n)) (Err Overbooked) p q = absurd (not_served owner l rs _ _ _ p.1 q.1)
told_once owner l rs (Err Overbooked) (Ok v) p q = absurd (too_much rs q.shares p.2)
told_once owner l rs (Err Overbooked) (Err TooMany) p q = absurd (too_many rs q p.0.few)
told_once owner l rs (Err Overbooked) (Err (OutOfRange j)) p q = absurd (not_ranged rs _ q.1 p.0.ranged)
told_once owner l rs (Err Overbooked) (Err (Twice j)) p q = absurd (not_distinct rs _ q.2 p.0.distinct)
told_once owner l rs (Err Overbooked) (Err (Short j s m)) p q = absurd (not_served owner l rs _ _ _ q.1 p.1)
told_once owner l rs (Err Overbooked) (Err Overbooked) p q = refl
