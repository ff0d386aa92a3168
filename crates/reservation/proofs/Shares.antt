-- Reservations that are served never ask for more than all ticks: at most one of them owns a tick,
-- and over a length that every period divides each owns at least its share.
use Rattle.std.proofs.Common.{◌≡◌, ℕ, zero, suc, ◌+◌, ◌*◌, ◌<◌, ◌≤◌, true, false, ◌⊎◌, List, [], ◌∷◌, length, take, ℤ, pos, ◌+ℤ◌, Some, None, sum_by, Option, sym, refl, ap, ◌∙◌, subst, inl, inr, mul_assoc, suc-mul, mul_comm, add-mul, mul-le-mul_left, mul-pos, zero-mul, mul-add, div-mul-le_self, le_of_mul-le-mul_right, mul_left_comm, arith}
use native.Mathlib.Nat.{div-le_of_le-mul}
use Rattle.std.proofs.ByRecursion.{All-from_get_or, All-weaker}
use Rattle.std.proofs.lemmas.List.{take_all}
use Rattle.std.proofs.lemmas.List.Sums.{sum_by-cons, sum_by_more}
use Rattle.std.proofs.lemmas.Bool.{eqb-true, false≢true, cases_Bool, cond-true, cond-false}
use Rattle.std.specs.List.{AllByRecursion}
use Rattle.reservation.specs.declared.reservation.Reservation.{Reservation}
use Rattle.reservation.specs.Reservations.{InRange, IsServed, New, Distinct, AllServed, share, at, blank}
use Rattle.reservation.specs.Told.{Sound}
use Rattle.reservation.specs.Windows.{is_owner, owned_at, owned, Served}
use Rattle.reservation.proofs.Sliding.{owned_split}

-- a share is at most the whole
pub share_most : (r : Reservation) → InRange r → share r ≤ 1000000
share_most r f = let h : 1000000 * r.ticks ≤ r.period * 1000000 = omega arith in div-le_of_le-mul r.period h

-- a sum of sums
sum_by-add : {X : Type 0} (f g : X → ℕ) (xs : List X) → sum_by (λ x. f x + g x) xs ≡ sum_by f xs + sum_by g xs
sum_by-add f g [] = refl
sum_by-add f g (x ∷ xs) =
    let h = sum_by-add f g xs in
    let a = sum_by-cons (λ x. f x + g x) x xs in
    let b = sum_by-cons f x xs in
    let c = sum_by-cons g x xs in
    omega arith

sum_by-zero : {X : Type 0} (xs : List X) → sum_by (λ (x : X). 0) xs ≡ 0
sum_by-zero [] = refl
sum_by-zero (x ∷ xs) = let h = sum_by-zero xs in let a = sum_by-cons (λ x. 0) x xs in omega arith

-- one inequality for each element, summed
sum_by_scaled : {X : Type 0} (f g : X → ℕ) (n m : ℕ) (xs : List X) → AllByRecursion (λ x. f x * n ≤ m * g x) xs → sum_by f xs * n ≤ m * sum_by g xs
sum_by_scaled f g n m [] h = omega (arith, zero-mul n)
sum_by_scaled f g n m (x ∷ xs) h =
    let r = sum_by_scaled f g n m xs h.1 in
    let a : sum_by f (x ∷ xs) * n ≡ f x * n + sum_by f xs * n = ap (λ s. s * n) (sum_by-cons f x xs) ∙ add-mul (f x) (sum_by f xs) n in
    let b : m * sum_by g (x ∷ xs) ≡ m * g x + m * sum_by g xs = ap (λ s. m * s) (sum_by-cons g x xs) ∙ mul-add m (g x) (sum_by g xs) in
    let i = h.0 in
    omega arith

-- what an activity owns of k windows in a row
often : (owner : ℤ → Option ℕ) (a x y : ℕ) → Served owner a x y → (k : ℕ) (t : ℤ) → k * x ≤ owned owner a t (k * y)
often owner a x y h zero t = omega (arith, zero-mul x)
often owner a x y h (suc k) t =
    let e : suc k * y ≡ k * y + y = suc-mul k y in
    let s : owned owner a t (suc k * y) ≡ owned owner a t (k * y) + owned owner a (t +ℤ pos (k * y)) y = ap (owned owner a t) e ∙ owned_split owner a t (k * y) y in
    let r = often owner a x y h k t in
    let i = h (t +ℤ pos (k * y)) in
    let f = suc-mul k x in
    omega arith

-- a length that every period divides
record Common (rs : List Reservation) : Type 0 where
  len : ℕ
  some : 0 < len
  times : AllByRecursion (λ r. (k : ℕ) × (len ≡ k * r.period)) rs

common : (rs : List Reservation) → AllByRecursion InRange rs → Common rs
common [] h = record { len = 1; some = omega arith; times = tt }
common (r ∷ rs) h =
    let c = common rs h.1 in
    let m = c.some in
    let l : 0 < r.period = let f = h.0 in omega arith in
    record {
      len = c.len * r.period;
      some = mul-pos m l;
      times = (
        (c.len, refl),
        All-weaker (λ s. (k : ℕ) × (c.len ≡ k * s.period)) (λ s. (k : ℕ) × (c.len * r.period ≡ k * s.period))
            (λ s p. (r.period * p.0, ap (λ x. x * r.period) p.1 ∙ mul_comm (p.0 * s.period) r.period ∙ sym (mul_assoc r.period p.0 s.period))) rs c.times,
      );
    }

-- of the first n reservations s own the tick t: none, or the one at j
data Owners (owner : ℤ → Option ℕ) (t : ℤ) (rs : List Reservation) (n s : ℕ) : Type 0 where
  none_of : s ≡ 0 → Owners owner t rs n s
  one_of : (j : ℕ) → j < n → owner t ≡ Some (at rs j).activity → s ≡ 1 → Owners owner t rs n s

is_owner_lem : (o : Option ℕ) (a : ℕ) → is_owner o a ≡ true → o ≡ Some a
is_owner_lem None a e = absurd (false≢true e)
is_owner_lem (Some b) a e = ap Some (eqb-true b a e)

-- 1 where a reservation's activity owns the tick
abbrev at_tick : (ℤ → Option ℕ) → ℤ → Reservation → ℕ
at_tick owner t r = owned_at owner r.activity t

-- at most one of the activities owns a tick
owners_more : (owner : ℤ → Option ℕ) (t : ℤ) (rs : List Reservation) (n s : ℕ) → New rs n → Owners owner t rs n s → (is_owner (owner t) (at rs n).activity ≡ true) ⊎ (is_owner (owner t) (at rs n).activity ≡ false) → Owners owner t rs (n + 1) (s + at_tick owner t (at rs n))
owners_more owner t rs n s new (none_of e) (inl b) =
    let v : at_tick owner t (at rs n) ≡ 1 = cond-true (is_owner (owner t) (at rs n).activity) 1 0 b in
    one_of n (omega arith) (is_owner_lem (owner t) (at rs n).activity b) (omega arith)
owners_more owner t rs n s new (none_of e) (inr b) =
    let v : at_tick owner t (at rs n) ≡ 0 = cond-false (is_owner (owner t) (at rs n).activity) 1 0 b in
    none_of (omega arith)
owners_more owner t rs n s new (one_of j l p e) (inl b) =
    let o = is_owner_lem (owner t) (at rs n).activity b in
    let same : (at rs j).activity ≡ (at rs n).activity = cc in
    absurd (new j l same)
owners_more owner t rs n s new (one_of j l p e) (inr b) =
    let v : at_tick owner t (at rs n) ≡ 0 = cond-false (is_owner (owner t) (at rs n).activity) 1 0 b in
    one_of j (omega arith) p (omega arith)

owners : (owner : ℤ → Option ℕ) (t : ℤ) (rs : List Reservation) (n : ℕ) → n ≤ length rs → Distinct rs n → Owners owner t rs n (sum_by (at_tick owner t) (take n rs))
owners owner t rs zero h distinct = none_of refl
owners owner t rs (suc n) h distinct =
    let l : n < length rs = omega arith in
    let e : n + 1 ≡ suc n = omega arith in
    let r = owners owner t rs n (omega arith) (λ k l. distinct k (omega arith)) in
    let m = owners_more owner t rs n (sum_by (at_tick owner t) (take n rs)) (distinct n (omega arith)) r (cases_Bool (is_owner (owner t) (at rs n).activity)) in
    let s : sum_by (at_tick owner t) (take n rs) + at_tick owner t (at rs n) ≡ sum_by (at_tick owner t) (take (n + 1) rs) = sym (sum_by_more (at_tick owner t) rs n blank l) in
    subst (λ (k : ℕ). Owners owner t rs k (sum_by (at_tick owner t) (take k rs))) e (subst (Owners owner t rs (n + 1)) s m)

one_owner : (owner : ℤ → Option ℕ) (t : ℤ) (rs : List Reservation) → Distinct rs (length rs) → sum_by (at_tick owner t) rs ≤ 1
one_owner owner t rs distinct =
    let e : take (length rs) rs ≡ rs = take_all (length rs) rs (omega arith) in
    let a = owners owner t rs (length rs) (omega arith) distinct in
    let le : (s : ℕ) → Owners owner t rs (length rs) s → s ≤ 1 = λ s x. elim x [ none_of z ↦ omega arith | one_of j l p z ↦ omega arith ] in
    let r = le (sum_by (at_tick owner t) (take (length rs) rs)) a in
    subst (λ (x : List Reservation). sum_by (at_tick owner t) x ≤ 1) e r

-- so all together own at most all of a window
abbrev in_window : (ℤ → Option ℕ) → ℤ → ℕ → Reservation → ℕ
in_window owner t n r = owned owner r.activity t n

own_most : (owner : ℤ → Option ℕ) (t : ℤ) (rs : List Reservation) → Distinct rs (length rs) → (n : ℕ) → sum_by (in_window owner t n) rs ≤ n
own_most owner t rs distinct zero = let e : sum_by (in_window owner t 0) rs ≡ 0 = sum_by-zero rs in omega arith
own_most owner t rs distinct (suc n) =
    let e : sum_by (in_window owner t (suc n)) rs ≡ sum_by (in_window owner t n) rs + sum_by (at_tick owner (t +ℤ pos n)) rs = sum_by-add (in_window owner t n) (at_tick owner (t +ℤ pos n)) rs in
    let h = own_most owner t rs distinct n in
    let o = one_owner owner (t +ℤ pos n) rs distinct in
    omega arith

-- what one reservation has of the common length
has_share : (owner : ℤ → Option ℕ) (n : ℕ) (r : Reservation) → (k : ℕ) × (n ≡ k * r.period) → IsServed owner r → share r * n ≤ 1000000 * in_window owner (pos 0) n r
has_share owner n r (k, e) h =
    let q : share r * r.period ≤ 1000000 * r.ticks = div-mul-le_self (1000000 * r.ticks) r.period in
    let a : k * (share r * r.period) ≤ k * (1000000 * r.ticks) = mul-le-mul_left k q in
    let b : share r * n ≡ k * (share r * r.period) = ap (λ x. share r * x) e ∙ mul_left_comm (share r) k r.period in
    let o : k * r.ticks ≤ owned owner r.activity (pos 0) (k * r.period) = often owner r.activity r.ticks r.period h k (pos 0) in
    let i : owned owner r.activity (pos 0) n ≡ owned owner r.activity (pos 0) (k * r.period) = ap (owned owner r.activity (pos 0)) e in
    let c : k * (1000000 * r.ticks) ≡ 1000000 * (k * r.ticks) = mul_left_comm k 1000000 r.ticks in
    omega arith

have_shares : (owner : ℤ → Option ℕ) (n : ℕ) (rs : List Reservation) → AllByRecursion (λ r. (k : ℕ) × (n ≡ k * r.period)) rs → AllByRecursion (IsServed owner) rs → AllByRecursion (λ r. share r * n ≤ 1000000 * in_window owner (pos 0) n r) rs
have_shares owner n [] a b = tt
have_shares owner n (r ∷ rs) a b = (has_share owner n r a.0 b.0, have_shares owner n rs a.1 b.1)

pub never_overbooked : (owner : ℤ → Option ℕ) (rs : List Reservation) → Sound rs → AllServed owner rs (length rs) → sum_by share rs ≤ 1000000
never_overbooked owner rs sound served =
    let c = common rs (All-from_get_or InRange rs blank sound.ranged) in
    let each = have_shares owner c.len rs c.times (All-from_get_or (IsServed owner) rs blank served) in
    let s = sum_by_scaled share (in_window owner (pos 0) c.len) c.len 1000000 rs each in
    let o = own_most owner (pos 0) rs sound.distinct c.len in
    let le : sum_by share rs * c.len ≤ 1000000 * c.len = omega arith in
    le_of_mul-le-mul_right le c.some
