-- How the count of a window changes as the window grows, moves, and comes round.
use Rattle.std.proofs.Common.{◌≡◌, ℕ, zero, suc, ◌+◌, ◌<◌, ◌≤◌, cond, map, ℤ, pos, ◌+ℤ◌, sum_by, Option, refl, ap, ◌∙◌, arith}
use Rattle.std.specs.List.{range_with_len}
use Rattle.std.proofs.lemmas.List.FromFn.{sum_by-map-range_with_len_more}
use Rattle.std.proofs.lemmas.Int.{ints}
use Rattle.clock.specs.Floor.{floor_mod}
use Rattle.clock.proofs.Laws.{floor_mod_lt, repeats_mod}
use Rattle.reservation.specs.Windows.{is_owner, owned_at, owned, Served}

pub owned_le : (owner : ℤ → Option ℕ) (a : ℕ) (t : ℤ) (n : ℕ) → owned owner a t n ≤ n
owned_le owner a t zero = omega arith
owned_le owner a t (suc n) = let h = owned_le owner a t n in grind arith

-- one tick later: a tick comes in at the end, and one goes out at the start
owned_slide : (owner : ℤ → Option ℕ) (a : ℕ) (t : ℤ) (n : ℕ) → owned owner a (t +ℤ pos 1) n + owned_at owner a t ≡ owned owner a t n + owned_at owner a (t +ℤ pos n)
owned_slide owner a t zero = let e : t ≡ t +ℤ pos 0 = omega (arith, ints) in ap (λ x. 0 + owned_at owner a x) e
owned_slide owner a t (suc n) =
    let h = owned_slide owner a t n in
    let e : (t +ℤ pos 1) +ℤ pos n ≡ t +ℤ pos (suc n) = omega (arith, ints) in
    let f : owned_at owner a ((t +ℤ pos 1) +ℤ pos n) ≡ owned_at owner a (t +ℤ pos (suc n)) = ap (owned_at owner a) e in
    omega arith

-- the same at the numbers that a loop holds: how many the first n ticks have, with one tick more
pub counted_more : (owner : ℤ → Option ℕ) (a n : ℕ) {count one : ℕ} → count ≡ owned owner a (pos 0) n → one ≡ owned_at owner a (pos n) → count + one ≡ owned owner a (pos 0) (n + 1)
counted_more owner a n {count} {one} p q =
    let s : n + 1 ≡ suc n = omega arith in
    let e : owned owner a (pos 0) (n + 1) ≡ owned owner a (pos 0) (suc n) = ap (owned owner a (pos 0)) s in
    let z : pos n ≡ pos 0 +ℤ pos n = omega (arith, ints) in
    let f : owned_at owner a (pos n) ≡ owned_at owner a (pos 0 +ℤ pos n) = ap (owned_at owner a) z in
    omega arith

-- and what the window has that begins one tick after t
pub counted_slide : (owner : ℤ → Option ℕ) (a n t : ℕ) {found entering leaving : ℕ} → found ≡ owned owner a (pos t) n → entering ≡ owned_at owner a (pos (t + n)) → leaving ≡ owned_at owner a (pos t) → owned owner a (pos (t + 1)) n + leaving ≡ found + entering
counted_slide owner a n t {found} {entering} {leaving} p q r =
    let e : owned owner a (pos (t + 1)) n + owned_at owner a (pos t) ≡ owned owner a (pos t) n + owned_at owner a (pos (t + n)) = owned_slide owner a (pos t) n in
    omega arith

-- a window is its first m ticks and the n after them
pub owned_split : (owner : ℤ → Option ℕ) (a : ℕ) (t : ℤ) (m n : ℕ) → owned owner a t (m + n) ≡ owned owner a t m + owned owner a (t +ℤ pos m) n
owned_split owner a t m zero = let e : m + 0 ≡ m = omega arith in let f : owned owner a t (m + 0) ≡ owned owner a t m = ap (owned owner a t) e in omega arith
owned_split owner a t m (suc n) =
    let h = owned_split owner a t m n in
    let e : m + suc n ≡ suc (m + n) = omega arith in
    let i : owned owner a t (m + suc n) ≡ owned owner a t (m + n) + owned_at owner a (t +ℤ pos (m + n)) = ap (owned owner a t) e in
    let p : t +ℤ pos (m + n) ≡ (t +ℤ pos m) +ℤ pos n = omega (arith, ints) in
    let f : owned_at owner a (t +ℤ pos (m + n)) ≡ owned_at owner a ((t +ℤ pos m) +ℤ pos n) = ap (owned_at owner a) p in
    omega arith

-- a cycle later the count is the same
owned_again : (owner : ℤ → Option ℕ) (l : ℕ) → ((t : ℤ) → owner (t +ℤ pos l) ≡ owner t) → (a : ℕ) (n : ℕ) (t : ℤ) → owned owner a (t +ℤ pos l) n ≡ owned owner a t n
owned_again owner l again a zero t = refl
owned_again owner l again a (suc n) t =
    let h = owned_again owner l again a n t in
    let p : (t +ℤ pos l) +ℤ pos n ≡ (t +ℤ pos n) +ℤ pos l = omega (arith, ints) in
    let f : owned_at owner a ((t +ℤ pos l) +ℤ pos n) ≡ owned_at owner a (t +ℤ pos n) = ap (owned_at owner a) p ∙ ap (λ o. cond (is_owner o a) 1 0) (again (t +ℤ pos n)) in
    omega arith

-- so the windows that begin in the first cycle tell of all windows
pub served_by_cycle : (owner : ℤ → Option ℕ) (l : ℕ) → 0 < l → ((t : ℤ) → owner (t +ℤ pos l) ≡ owner t) → (a x y : ℕ) → ((k : ℕ) → k < l → x ≤ owned owner a (pos k) y) → Served owner a x y
served_by_cycle owner l h again a x y cycle t =
    let k = cycle (floor_mod t l) (floor_mod_lt t l h) in
    let e = repeats_mod (λ s. owned owner a s y) l h (λ s. owned_again owner l again a y s) t in
    omega arith

-- the count as a sum over the ticks
pub owned_sum : (owner : ℤ → Option ℕ) (a n : ℕ) → owned owner a (pos 0) n ≡ sum_by (λ k. k) (map (λ k. owned_at owner a (pos k)) (range_with_len 0 n))
owned_sum owner a zero = refl
owned_sum owner a (suc n) =
    let h = owned_sum owner a n in
    let z : 0 + n ≡ n = omega arith in
    let s : suc n ≡ n + 1 = omega arith in
    let p : pos 0 +ℤ pos n ≡ pos n = omega (arith, ints) in
    let m = sum_by-map-range_with_len_more (λ k. k) (λ k. owned_at owner a (pos k)) 0 n n z in
    let e = ap (λ k. sum_by (λ k. k) (map (λ k. owned_at owner a (pos k)) (range_with_len 0 k))) s in
    let f = ap (owned_at owner a) p in
    omega arith
