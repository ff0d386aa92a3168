-- What division rounded down does to a sum, and what a function of whole numbers that repeats does.
use Rattle.std.proofs.Common.{◌≡◌, ℕ, zero, suc, ◌+◌, ◌-◌, ◌*◌, ◌/◌, ◌%◌, ◌<◌, ◌≤◌, ℤ, pos, negsuc, ◌+ℤ◌, ◌*ℤ◌, nat_abs, sym, refl, ap, ◌∙◌, mod-lt, mod-eq_of_lt, mul_assoc, suc-mul, add-mul, mul-le-mul_left, div-add-mod', zero-mul, arith}
use native.Mathlib.Nat.{add-mul-mod_self_right, add-mul-div_right, div-eq_of_lt}
use lib.Arith.{digits_div, digits_mod, mod-mul}
use borrow.Author.Differences.{up, down}
use Rattle.std.proofs.lemmas.Nat.{div_below, mul-le}
use Rattle.std.proofs.lemmas.Int.{ints, int_rem_euclid_is}
use Rattle.std.specs.Int.{int_rem_euclid}
use Rattle.clock.specs.Floor.{floor_div, floor_mod, Lies}

-- the two parts of a number
pub floor_parts : (z : ℤ) (n : ℕ) → 0 < n → (floor_div z n *ℤ pos n) +ℤ pos (floor_mod z n) ≡ z
floor_parts (pos a) n h = omega (arith, ints, div-add-mod' a n)
floor_parts (negsuc a) n h = omega (arith, ints, div-add-mod' a n, mod-lt a h)

pub floor_mod_lt : (z : ℤ) (n : ℕ) → 0 < n → floor_mod z n < n
floor_mod_lt (pos a) n h = mod-lt a h
floor_mod_lt (negsuc a) n h = omega arith

floor_mod_rem : (z : ℤ) (n : ℕ) → int_rem_euclid z (pos n) ≡ pos (floor_mod z n)
floor_mod_rem (pos a) n = refl
floor_mod_rem (negsuc a) n = refl

pub floor_mod_is : (z : ℤ) (n k m : ℕ) → 0 < n → z +ℤ pos (k * n) ≡ pos m → floor_mod z n ≡ m % n
floor_mod_is z n k m h e = ap nat_abs (sym (floor_mod_rem z n) ∙ int_rem_euclid_is z (pos n) n k m h refl e)

-- the same with the quotient, from a number at or above zero
pub floor_div_is : (z : ℤ) (n k m : ℕ) → 0 < n → z +ℤ pos (k * n) ≡ pos m → floor_div z n +ℤ pos k ≡ pos (m / n)
floor_div_is (pos a) n k m h e =
    let is : a + k * n ≡ m = ap nat_abs e in
    ap pos (sym (add-mul-div_right a k h) ∙ ap (λ x. x / n) is)
floor_div_is (negsuc a) n k m h e =
    let is : m + suc a ≡ k * n = omega (arith, ints) in
    let below : a < k * n = omega arith in
    let lt : a / n < k = div_below a n k h below in
    let j = k - 1 - a / n in
    let parts : k ≡ j + (1 + a / n) = omega arith in
    let whole : k * n ≡ j * n + (1 + a / n) * n = ap (λ x. x * n) parts ∙ add-mul j (1 + a / n) n in
    let more : (1 + a / n) * n ≡ 1 * n + a / n * n = add-mul 1 (a / n) n in
    let r-lt : a % n < n = mod-lt a h in
    let low : n - 1 - a % n < n = omega arith in
    let m-is : m ≡ j * n + (n - 1 - a % n) = omega (arith, div-add-mod' a n) in
    let q-is : m / n ≡ j = ap (λ x. x / n) m-is ∙ digits_div j low in
    omega (arith, ints)

-- some multiple of n lifts z above zero
pub lifted : (z : ℤ) (n : ℕ) → 0 < n → (k : ℕ) × (m : ℕ) × (z +ℤ pos (k * n) ≡ pos m)
lifted z n h =
    let far : down z * 1 ≤ down z * n = mul-le-mul_left (down z) h in
    (down z, up z + down z * n - down z, omega (arith, ints))

pub floor_mod_more : (z : ℤ) (j n : ℕ) → 0 < n → floor_mod (z +ℤ pos (j * n)) n ≡ floor_mod z n
floor_mod_more z j n h =
    let l = lifted z n h in
    let e = l.2 in
    floor_mod_is (z +ℤ pos (j * n)) n l.0 (l.1 + j * n) h (omega (arith, ints)) ∙ add-mul-mod_self_right l.1 j n ∙ sym (floor_mod_is z n l.0 l.1 h e)

pub floor_div_more : (z : ℤ) (j n : ℕ) → 0 < n → floor_div (z +ℤ pos (j * n)) n ≡ floor_div z n +ℤ pos j
floor_div_more z j n h =
    let l = lifted z n h in
    let e = l.2 in
    let a = floor_div_is (z +ℤ pos (j * n)) n l.0 (l.1 + j * n) h (omega (arith, ints)) in
    let b = floor_div_is z n l.0 l.1 h e in
    let c = add-mul-div_right l.1 j h in
    omega (arith, ints)

-- a function of whole numbers that repeats after n repeats after each multiple of n
pub repeats_often : {X : Type 0} (P : ℤ → X) (n : ℕ) → ((t : ℤ) → P (t +ℤ pos n) ≡ P t) → (k : ℕ) (t : ℤ) → P (t +ℤ pos (k * n)) ≡ P t
repeats_often P n again zero t = ap P (omega (arith, ints, zero-mul n))
repeats_often P n again (suc k) t =
    ap P (omega (arith, ints, suc-mul k n)) ∙ again (t +ℤ pos (k * n)) ∙ repeats_often P n again k t

-- so it is known from its values at 0 to n - 1
pub repeats_mod : {X : Type 0} (P : ℤ → X) (n : ℕ) → 0 < n → ((t : ℤ) → P (t +ℤ pos n) ≡ P t) → (t : ℤ) → P (pos (floor_mod t n)) ≡ P t
repeats_mod P n h again t = from (floor_div t n) (floor_parts t n h)
  where
    from : (q : ℤ) → (q *ℤ pos n) +ℤ pos (floor_mod t n) ≡ t → P (pos (floor_mod t n)) ≡ P t
    from (pos q) e = sym (repeats_often P n again q (pos (floor_mod t n))) ∙ ap P (omega (arith, ints))
    from (negsuc q) e = ap P (omega (arith, ints)) ∙ repeats_often P n again (suc q) t

-- a residue at a multiple of n tells the residue at n
pub floor_mod-mod : (z : ℤ) (j n : ℕ) → 0 < j → 0 < n → floor_mod z (j * n) % n ≡ floor_mod z n
floor_mod-mod z j n p q =
    let some : 0 < j * n = omega (arith, mul-le 1 1 j n p q) in
    let l = lifted z (j * n) some in
    let e = l.2 in
    let again : z +ℤ pos (l.0 * j * n) ≡ pos l.1 = ap (λ x. z +ℤ pos x) (mul_assoc l.0 j n) ∙ e in
    ap (λ x. x % n) (floor_mod_is z (j * n) l.0 l.1 some e ∙ mod-mul l.1 p q)
    ∙ digits_mod (l.1 / n % j) (mod-lt l.1 q) ∙ sym (floor_mod_is z n (l.0 * j) l.1 q again)

-- a tick lies at one place alone: its frame is the quotient and its offset the remainder
pub lies_once : (t : ℤ) (b : ℕ) (f : ℤ) (o : ℕ) → Lies t b f o → (f ≡ floor_div t b) × (o ≡ floor_mod t b)
lies_once t b (pos q) o l =
    let h : 0 < b = omega (arith, l.within) in
    let e : pos o +ℤ pos (q * b) ≡ t = omega (arith, ints, l.whole) in
    let z : o / b ≡ 0 = div-eq_of_lt l.within in
    let r : o % b ≡ o = mod-eq_of_lt l.within in
    let d : floor_div t b ≡ pos (o / b) +ℤ pos q = ap (λ x. floor_div x b) (sym e) ∙ floor_div_more (pos o) q b h in
    let m : floor_mod t b ≡ o % b = ap (λ x. floor_mod x b) (sym e) ∙ floor_mod_more (pos o) q b h in
    (omega (arith, ints), omega arith)
lies_once t b (negsuc q) o l =
    let h : 0 < b = omega (arith, l.within) in
    let e : t +ℤ pos (suc q * b) ≡ pos o = omega (arith, ints, l.whole) in
    let z : o / b ≡ 0 = div-eq_of_lt l.within in
    let r : o % b ≡ o = mod-eq_of_lt l.within in
    let d : pos (o / b) ≡ floor_div t b +ℤ pos (suc q) = ap (λ x. floor_div x b) (sym e) ∙ floor_div_more t (suc q) b h in
    let m : o % b ≡ floor_mod t b = ap (λ x. floor_mod x b) (sym e) ∙ floor_mod_more t (suc q) b h in
    (omega (arith, ints), omega arith)

pub lies_at : {t f : ℤ} {b o : ℕ} → 0 < b → f ≡ floor_div t b → o ≡ floor_mod t b → Lies t b f o
lies_at {t} {f} {b} {o} h p q =
    let parts = floor_parts t b h in
    let low = floor_mod_lt t b h in
    record { whole = (cc); within = omega arith }
