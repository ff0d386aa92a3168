-- Lines read back are those that were written: fields.
use Rattle.std.proofs.Common.{◌≡◌, ℕ, zero, suc, ◌<◌, ◌≤◌, Bool, true, false, cond, eqb, ltb, leb, List, [], ◌∷◌, ◌++◌, get_or, drop, ℤ, pos, negsuc, neg_ℤ, Some, None, decimal, Option, sym, refl, ap, ◌∙◌, subst, ⊎_elim, arith}
use Rattle.std.specs.Fmt.{signed_decimal}
use Rattle.std.proofs.lemmas.Fmt.{decimal_nonempty, first_decimal, decimal_digit}
use Rattle.std.proofs.lemmas.List.{get_or_append_left}
use Rattle.std.proofs.lemmas.Bool.{cond-true, cond-false, le-leb, lt-ltb, cases_lt}
use Rattle.std.proofs.lemmas.Bool.Decides.{nat_tests}
use Rattle.std.proofs.lemmas.Int.{ints}
use Rattle.command.specs.Grammar.{Signed32}
use Rattle.command.specs.Reading.{behind, number_in, and_then, expected, up_to, negated, posited, signed_in, signed_rest, field_in, field_rest, signed_field_in, signed_field_rest}
use Rattle.command.proofs.Numerals.{Ended, slipped, then_from, number_there, number_read}

-- the byte that has to stand here does
pub byte_there : (b : ℕ) (xs : List ℕ) → expected b xs ≡ Some tt → xs ≡ b ∷ drop 1 xs
byte_there b [] e = absurd (slipped tt e)
byte_there b (x ∷ xs) e = by (eqb x b) refl e
  where
    by : (t : Bool) → eqb x b ≡ t → ◌≡◌ {A = Option (Unit {0})} (cond t (Some tt) None) (Some tt) → x ∷ xs ≡ b ∷ xs
    by true h e = ap (λ z. z ∷ xs) (grind (arith, nat_tests))
    by false h e = absurd (slipped tt e)

up_to_lem : (most n m : ℕ) → up_to most n ≡ Some m → (n ≡ m) × (m ≤ most)
up_to_lem most n m e = by (leb n most) refl e
  where
    by : (t : Bool) → leb n most ≡ t → cond t (Some n) None ≡ Some m → (n ≡ m) × (m ≤ most)
    by true h e = let same : n ≡ m = cc in (same, grind (arith, nat_tests))
    by false h e = absurd (slipped m e)

pub field_there : (most : ℕ) (xs : List ℕ) (n : ℕ) → field_in most xs ≡ Some n → (xs ≡ 32 ∷ (decimal n ++ field_rest xs)) × (n ≤ most)
unfolding field_in field_rest
field_there most xs n e =
    let a = then_from (expected 32 xs) (λ _. and_then (number_in (drop 1 xs)) (up_to most)) n e in
    let b = then_from (number_in (drop 1 xs)) (up_to most) n a.1.1 in
    let u = up_to_lem most b.0 n b.1.1 in
    let there = number_there (drop 1 xs) b.0 b.1.0 in (
      byte_there 32 xs a.1.0 ∙ ap (λ z. 32 ∷ z) (there.0 ∙ ap (λ k. decimal k ++ behind (drop 1 xs)) u.0),
      u.1,
    )

pub field_read : (most n : ℕ) (ys : List ℕ) → n ≤ most → n < 4294967296 → Ended ys
    → (field_in most (32 ∷ (decimal n ++ ys)) ≡ Some n) × (field_rest (32 ∷ (decimal n ++ ys)) ≡ ys)
unfolding field_in field_rest
field_read most n ys within small e =
    let r = number_read n ys small e in (
      ap (λ z. and_then z (up_to most)) r.0 ∙ cond-true _ _ _ (le-leb n most within),
      r.1,
    )

-- a minus, and what is read behind it
negative : (n : ℕ) (t : ℤ) → negated n ≡ Some t → (signed_decimal t ≡ 45 ∷ decimal n) × Signed32 t
negative zero t e = absurd (slipped t e)
negative (suc m) t e = by (eqb (suc m) 0) (leb (suc m) 2147483648) refl e
  where
    by : (a b : Bool) → leb (suc m) 2147483648 ≡ b → cond a None (cond b (Some (neg_ℤ (pos (suc m)))) None) ≡ Some t → (signed_decimal t ≡ 45 ∷ decimal (suc m)) × Signed32 t
    by true b h e = absurd (slipped t e)
    by false true h e =
        let same : negsuc m ≡ t = cc in
        let small : m < 2147483648 = grind (arith, nat_tests) in
        subst (λ (z : ℤ). (signed_decimal z ≡ 45 ∷ decimal (suc m)) × Signed32 z) same (refl, (omega (arith, ints), omega (arith, ints)))
    by false false h e = absurd (slipped t e)

positive : (n : ℕ) (t : ℤ) → posited n ≡ Some t → (signed_decimal t ≡ decimal n) × Signed32 t
positive n t e = by (ltb n 2147483648) refl e
  where
    by : (b : Bool) → ltb n 2147483648 ≡ b → cond b (Some (pos n)) None ≡ Some t → (signed_decimal t ≡ decimal n) × Signed32 t
    by true h e =
        let same : pos n ≡ t = cc in
        let small : n < 2147483648 = grind (arith, nat_tests) in
        subst (λ (z : ℤ). (signed_decimal z ≡ decimal n) × Signed32 z) same (refl, (omega (arith, ints), omega (arith, ints)))
    by false h e = absurd (slipped t e)

led : (xs : List ℕ) (b : ℕ) → 0 < b → get_or xs 0 0 ≡ b → xs ≡ b ∷ drop 1 xs
led [] b h e = absurd (omega arith)
led (x ∷ xs) b h e = ap (λ z. z ∷ xs) e

pub signed_there : (xs : List ℕ) (t : ℤ) → signed_in xs ≡ Some t → (xs ≡ signed_decimal t ++ signed_rest xs) × Signed32 t
signed_there xs t e = by (eqb (get_or xs 0 0) 45) refl e
  where
    by : (b : Bool) → eqb (get_or xs 0 0) 45 ≡ b → cond b (and_then (number_in (drop 1 xs)) negated) (and_then (number_in xs) posited) ≡ Some t
        → (xs ≡ signed_decimal t ++ cond b (behind (drop 1 xs)) (behind xs)) × Signed32 t
    by true h e =
        let a = then_from (number_in (drop 1 xs)) negated t e in
        let n = negative a.0 t a.1.1 in
        let there = number_there (drop 1 xs) a.0 a.1.0 in
        let minus : xs ≡ 45 ∷ drop 1 xs = led xs 45 (omega arith) (grind (arith, nat_tests)) in (
          minus ∙ (ap (λ z. 45 ∷ z) there.0 ∙ ap (λ z. z ++ behind (drop 1 xs)) (sym n.0)),
          n.1,
        )
    by false h e =
        let a = then_from (number_in xs) posited t e in
        let n = positive a.0 t a.1.1 in
        let there = number_there xs a.0 a.1.0 in
        (there.0 ∙ ap (λ z. z ++ behind xs) (sym n.0), n.1)

-- the first byte of a number is no minus
unsigned : (n : ℕ) (ys : List ℕ) → n < 4294967296 → eqb (get_or (decimal n ++ ys) 0 0) 45 ≡ false
unsigned n ys small =
    let first = get_or_append_left (decimal n) ys 0 0 (decimal_nonempty n (omega arith)) in
    ⊎_elim (λ l. let one = ap (λ z. get_or z 0 0) (decimal_digit n (omega arith)) in grind (arith, nat_tests))
    (λ g. let high = first_decimal n (omega arith) (omega arith) in grind (arith, nat_tests)) (cases_lt n 1)

pub signed_read : (t : ℤ) (ys : List ℕ) → Signed32 t → Ended ys → (signed_in (signed_decimal t ++ ys) ≡ Some t) × (signed_rest (signed_decimal t ++ ys) ≡ ys)
signed_read (pos n) ys r e =
    let small : n < 2147483648 = omega (arith, ints, r.1) in
    let u = unsigned n ys (omega arith) in
    let there = number_read n ys (omega arith) e in (
      cond-false _ _ _ u ∙ (ap (λ z. and_then z posited) there.0 ∙ cond-true _ _ _ (lt-ltb n 2147483648 small)),
      cond-false _ _ _ u ∙ there.1,
    )
signed_read (negsuc n) ys r e =
    let small : n < 2147483648 = omega (arith, ints, r.0) in
    let there = number_read (suc n) ys (omega arith) e in
    let some : eqb (suc n) 0 ≡ false = grind (arith, nat_tests) in (
      ap (λ z. and_then z negated) there.0 ∙ (cond-false _ _ _ some ∙ cond-true _ _ _ (le-leb (suc n) 2147483648 (omega arith))),
      there.1,
    )

pub signed_field_there : (xs : List ℕ) (t : ℤ) → signed_field_in xs ≡ Some t → (xs ≡ 32 ∷ (signed_decimal t ++ signed_field_rest xs)) × Signed32 t
unfolding signed_field_in signed_field_rest
signed_field_there xs t e =
    let a = then_from (expected 32 xs) (λ _. signed_in (drop 1 xs)) t e in
    let there = signed_there (drop 1 xs) t a.1.1 in
    (byte_there 32 xs a.1.0 ∙ ap (λ z. 32 ∷ z) there.0, there.1)

pub signed_field_read : (t : ℤ) (ys : List ℕ) → Signed32 t → Ended ys
    → (signed_field_in (32 ∷ (signed_decimal t ++ ys)) ≡ Some t) × (signed_field_rest (32 ∷ (signed_decimal t ++ ys)) ≡ ys)
unfolding signed_field_in signed_field_rest
signed_field_read t ys r e = signed_read t ys r e
