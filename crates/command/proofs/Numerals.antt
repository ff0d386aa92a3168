-- Numbers read back are those that were written.
use Rattle.std.proofs.Common.{◌≡◌, ℕ, ◌+◌, ◌<◌, Bool, true, false, cond, ◌&&◌, eqb, ltb, List, [], ◌∷◌, ◌++◌, length, get_or, take, drop, Some, None, decimal, Option, sym, refl, ap, ◌∙◌, ⊎_elim, one-add, arith, rules}
use Rattle.std.specs.List.{prefix_len}
use Rattle.std.specs.Str.{all_ascii_digits}
use Rattle.std.proofs.lemmas.Str.Parse.{IsNumeralModel, numerals_by_fold}
use Rattle.std.proofs.lemmas.Fmt.{decimal-digits_value, digits_value-decimal, digits_decimal, decimal_nonempty, first_decimal, decimal_digit}
use Rattle.std.proofs.lemmas.List.{take-append-drop, length-take-le, get_or-take, take_at, drop_at, get_or_append_left}
use Rattle.std.proofs.lemmas.List.Sums.{prefix_len-le-length}
use Rattle.std.proofs.lemmas.Bool.{cond-true, cond-false, cases_lt, lt-ltb, and_from, and_parts}
use Rattle.std.proofs.lemmas.Bool.Decides.{nat_tests}
use Rattle.command.specs.Reading.{is_digit, nat_after, digits_in, behind, number_in, and_then}

own : IsNumeralModel (λ ds. all_ascii_digits ds ≡ true) (nat_after 0)
own = numerals_by_fold _ (search rules) nat_after (search rules)

-- a number ends where no digit follows
abbrev pub Ended : List ℕ → Type 0
Ended ys = prefix_len is_digit ys ≡ 0

-- nothing is no reading
pub slipped : {A : Type 0} (x : A) → ◌≡◌ {A = Option A} None (Some x) → ⊥
slipped x e = let z : ◌≡◌ {A = ℕ} 0 1 = cc in omega arith

-- what was read on came from what was read first
pub then_from : {A B : Type 0} (r : Option A) (k : A → Option B) (y : B) → and_then r k ≡ Some y → (x : A) × ((r ≡ Some x) × (k x ≡ Some y))
then_from (Some x) k y e = (x, (refl, e))
then_from None k y e = absurd (slipped y e)

-- the front that is digits is all digits
front_digits : (xs : List ℕ) → all_ascii_digits (take (prefix_len is_digit xs) xs) ≡ true
front_digits [] = refl
front_digits (x ∷ xs) = by (is_digit x) refl (front_digits xs)
  where
    by : (b : Bool) → is_digit x ≡ b → all_ascii_digits (take (prefix_len is_digit xs) xs) ≡ true → all_ascii_digits (take (cond b (1 + prefix_len is_digit xs) 0) (x ∷ xs)) ≡ true
    by false e h = refl
    by true e h =
        ap (λ n. all_ascii_digits (take n (x ∷ xs))) (one-add (prefix_len is_digit xs)) ∙ and_from (is_digit x) (all_ascii_digits (take (prefix_len is_digit xs) xs)) e h

-- digits and then no digit: the front that is digits is those
front_length : (ds ys : List ℕ) → all_ascii_digits ds ≡ true → Ended ys → prefix_len is_digit (ds ++ ys) ≡ length ds
front_length [] ys h e = e
front_length (d ∷ ds) ys h e =
    let b = and_parts (is_digit d) (all_ascii_digits ds) h in
    cond-true _ _ _ b.0 ∙ (ap (λ k. 1 + k) (front_length ds ys b.1 e) ∙ one-add (length ds))

three : (a b c : Bool) (v n : ℕ) → cond a None (cond b None (cond c (Some v) None)) ≡ Some n
    → (a ≡ false) × (b ≡ false) × (c ≡ true) × (v ≡ n)
three true b c v n e = absurd (slipped n e)
three false true c v n e = absurd (slipped n e)
three false false false v n e = absurd (slipped n e)
three false false true v n e = (refl, refl, refl, cc)

-- a number that is read stands in the text
pub number_there : (xs : List ℕ) (n : ℕ) → number_in xs ≡ Some n → (xs ≡ decimal n ++ behind xs) × (n < 4294967296)
number_there xs n e =
    let t = three (eqb (prefix_len is_digit xs) 0) (eqb (get_or xs 0 0) 48 && ltb 1 (prefix_len is_digit xs)) (ltb (nat_after 0 (digits_in xs)) 4294967296) (nat_after 0 (digits_in xs)) n e in
    let some : 0 < prefix_len is_digit xs = grind (arith, nat_tests) in
    let small : nat_after 0 (digits_in xs) < 4294967296 = grind (arith, nat_tests) in
    let size : length (digits_in xs) ≡ prefix_len is_digit xs = length-take-le (prefix_len is_digit xs) xs (prefix_len-le-length is_digit xs) in
    let first : get_or (digits_in xs) 0 0 ≡ get_or xs 0 0 = get_or-take (prefix_len is_digit xs) xs 0 0 some in
    let lone : get_or (digits_in xs) 0 0 ≡ 48 → length (digits_in xs) ≡ 1 = λ z. grind (arith, nat_tests) in
    let d : decimal (nat_after 0 (digits_in xs)) ≡ digits_in xs = decimal-digits_value own (digits_in xs) (front_digits xs) (omega arith) lone (omega arith) in
    let whole : xs ≡ digits_in xs ++ behind xs = sym (take-append-drop (prefix_len is_digit xs) xs) in (
      whole ∙ ap (λ z. z ++ behind xs) (sym d ∙ ap decimal t.3),
      omega (arith, t.3),
    )

-- a number that is written has no leading zero
unled_by : (n : ℕ) (ys : List ℕ) → 0 < length (decimal n) → prefix_len is_digit (decimal n ++ ys) ≡ length (decimal n) → n < 4294967296
    → (eqb (get_or (decimal n ++ ys) 0 0) 48 && ltb 1 (prefix_len is_digit (decimal n ++ ys))) ≡ false
unled_by n ys some front small =
    let first = get_or_append_left (decimal n) ys 0 0 some in
    ⊎_elim (λ l. let one = ap length (decimal_digit n (omega arith)) in grind (arith, nat_tests))
    (λ g. let high = first_decimal n (omega arith) (omega arith) in grind (arith, nat_tests)) (cases_lt n 1)

-- a number that stands in the text is read
pub number_read : (n : ℕ) (ys : List ℕ) → n < 4294967296 → Ended ys → (number_in (decimal n ++ ys) ≡ Some n) × (behind (decimal n ++ ys) ≡ ys)
number_read n ys small e =
    let ds = decimal n in
    let digits : all_ascii_digits ds ≡ true = digits_decimal own n (omega arith) in
    let front : prefix_len is_digit (ds ++ ys) ≡ length ds = front_length ds ys digits e in
    let some = decimal_nonempty n (omega arith) in
    let taken : digits_in (ds ++ ys) ≡ ds = ap (λ k. take k (ds ++ ys)) front ∙ take_at ds ys (length ds) refl in
    let value : nat_after 0 (digits_in (ds ++ ys)) ≡ n = ap (nat_after 0) taken ∙ digits_value-decimal own n (omega arith) in
    let found : eqb (prefix_len is_digit (ds ++ ys)) 0 ≡ false = grind (arith, nat_tests) in
    let unled : (eqb (get_or (ds ++ ys) 0 0) 48 && ltb 1 (prefix_len is_digit (ds ++ ys))) ≡ false = unled_by n ys some front small in
    let fits : ltb (nat_after 0 (digits_in (ds ++ ys))) 4294967296 ≡ true = lt-ltb _ _ (omega (arith, value)) in (
      cond-false _ _ _ found ∙ (cond-false _ _ _ unled ∙ (cond-true _ _ _ fits ∙ ap Some value)),
      ap (λ k. drop k (ds ++ ys)) front ∙ drop_at ds ys (length ds) refl,
    )
