-- Counting, and picking the first of those that pass a test.
use Rattle.std.proofs.Common.{◌≡◌, ℕ, zero, suc, ◌+◌, ◌-◌, ◌<◌, ◌≤◌, min, Bool, true, false, ◌&&◌, ◌||◌, ltb, ◌⊎◌, ℤ, pos, ◌+ℤ◌, ◌-ℤ◌, ◌≤ℤ◌, nat_abs, sym, refl, ap, ◌∙◌, inl, inr, ⊎_elim, add-zero, add-suc, add-one, arith}
use Rattle.std.proofs.lemmas.Bool.{lt-ltb, le-ltb, ltb-true, ltb-false, cases_lt, and_parts, and_cases, or_cases, or_parts, true≢false, both_ways}
use Rattle.std.proofs.lemmas.Int.{ints}
use Rattle.level.specs.Ticks.{one, tally, between}
use Rattle.level.specs.Pass.{picked}

pub tally_more : (p : ℕ → Bool) (k : ℕ) → tally p (k + 1) ≡ tally p k + one (p k)
tally_more p k = rw (add-one k)

pub tally_counts : (p : ℕ → Bool) (k n n' : ℕ) (b : Bool) → n ≡ tally p k → b ≡ p k → n' ≡ n + one b → n' ≡ tally p (k + 1)
tally_counts p k n n' b e f h = let m = tally_more p k in let o : one b ≡ one (p k) = ap one f in omega arith

-- one tick more between two
pub between_counts : (p : ℤ → Bool) (from t u : ℤ) (n n' : ℕ) (b : Bool) → from ≤ℤ t → u ≡ t +ℤ pos 1 → n ≡ between p from t → b ≡ p t → n' ≡ n + one b → n' ≡ between p from u
between_counts p from t u n n' b l e f g h =
    let k : ℕ = nat_abs (t -ℤ from) in
    let at : from +ℤ pos k ≡ t = omega (arith, ints) in
    let ek : nat_abs (u -ℤ from) ≡ k + 1 = omega (arith, ints) in
    tally_counts (λ j. p (from +ℤ pos j)) k n n' b f (g ∙ ap p (sym at)) h ∙ ap (tally (λ j. p (from +ℤ pos j))) (sym ek)

pub tally_ext : (p q : ℕ → Bool) (n : ℕ) → ((k : ℕ) → k < n → p k ≡ q k) → tally p n ≡ tally q n
tally_ext p q zero h = refl
tally_ext p q (suc n) h =
    let e : one (p n) ≡ one (q n) = ap one (h n (omega arith)) in
    let f = tally_ext p q n (λ k l. h k (omega arith)) in
    omega arith

pub tally_sum : (r p q : ℕ → Bool) (n : ℕ) → ((k : ℕ) → k < n → one (r k) ≡ one (p k) + one (q k)) → tally r n ≡ tally p n + tally q n
tally_sum r p q zero h = refl
tally_sum r p q (suc n) h =
    let e = h n (omega arith) in
    let f = tally_sum r p q n (λ k l. h k (omega arith)) in
    omega arith

pub tally_up : (p : ℕ → Bool) (n d : ℕ) → tally p n ≤ tally p (n + d)
tally_up p n zero = rw (add-zero n) (omega arith)
tally_up p n (suc d) =
    let f = tally_up p n d in
    rw (add-suc n d) (omega arith)

pub tally_mono : (p : ℕ → Bool) (m n : ℕ) → m ≤ n → tally p m ≤ tally p n
tally_mono p m n h =
    let e : m + (n - m) ≡ n = omega arith in
    rw e at (tally_up p m (n - m))

-- what is counted less lies earlier
pub tally_less : (p : ℕ → Bool) (m n : ℕ) → tally p m < tally p n → m < n
tally_less p m n h = ⊎_elim (λ l. l) (λ l. absurd (let f = tally_mono p n m l in omega arith)) (cases_lt m n)

-- the first `many` are picked, or all
pub tally_picked : (p : ℕ → Bool) (many n : ℕ) → tally (picked p many) n ≡ min many (tally p n)
tally_picked p many zero = omega arith
tally_picked p many (suc n) = step (p n) (tally p n) (tally (picked p many) n) (tally_picked p many n)
  where
    step : (b : Bool) (t x : ℕ) → x ≡ min many t → x + one (b && ltb t many) ≡ min many (t + one b)
    step true t x e = ⊎_elim (λ l. rw (lt-ltb t many l) (omega arith)) (λ l. rw (le-ltb t many l) (omega arith)) (cases_lt t many)
    step false t x e = omega arith

pub picked_yes : (p : ℕ → Bool) (many k : ℕ) → picked p many k ≡ true → (p k ≡ true) × (tally p k < many)
picked_yes p many k h = let a = and_parts (p k) (ltb (tally p k) many) h in (a.0, ltb-true (tally p k) many a.1)

pub picked_no : (p : ℕ → Bool) (many k : ℕ) → p k ≡ true → picked p many k ≡ false → many ≤ tally p k
picked_no p many k y h =
    ⊎_elim (λ e. absurd (both_ways (p k) e y)) (λ e. ltb-false (tally p k) many e) (and_cases (p k) (ltb (tally p k) many) h)

-- those of p first, and then those of q
abbrev pub both : (ℕ → Bool) → (ℕ → Bool) → ℕ → ℕ → ℕ → Bool
both p q many n k = picked p many k || picked q (many - tally p n) k

module _ (p q : ℕ → Bool) (many n : ℕ) (apart : (k : ℕ) → p k ≡ true → q k ≡ false) where
  pub tally_both : many ≤ tally p n + tally q n → tally (both p q many n) n ≡ many
  tally_both enough =
      let s = tally_sum (both p q many n) (picked p many) (picked q (many - tally p n)) n (λ k l. split (p k) (q k) (apart k) (ltb (tally p k) many) (ltb (tally q k) (many - tally p n))) in
      let x = tally_picked p many n in
      let y = tally_picked q (many - tally p n) n in
      omega arith
    where
      split : (a b : Bool) → (a ≡ true → b ≡ false) → (x y : Bool) → one ((a && x) || (b && y)) ≡ one (a && x) + one (b && y)
      split true true h x y = absurd (true≢false (h refl))
      split true false h true y = refl
      split true false h false y = refl
      split false true h x true = refl
      split false true h x false = refl
      split false false h x y = refl

  pub both_cases : (k : ℕ) → both p q many n k ≡ true → (picked p many k ≡ true) ⊎ (picked q (many - tally p n) k ≡ true)
  both_cases k h = or_cases (picked p many k) (picked q (many - tally p n) k) h

  pub both_in : (k : ℕ) → both p q many n k ≡ true → (p k ≡ true) ⊎ (q k ≡ true)
  both_in k h = ⊎_elim (λ x. inl (picked_yes p many k x).0) (λ x. inr (picked_yes q (many - tally p n) k x).0) (both_cases k h)

  -- each that is chosen comes before each that is left
  pub both_first :
      (j k : ℕ) → k < n → both p q many n j ≡ true → both p q many n k ≡ false → (p k ≡ true) ⊎ (q k ≡ true) →
      ((p j ≡ true) × (q k ≡ true)) ⊎ (((p j ≡ true) × (p k ≡ true) × (j < k)) ⊎ ((q j ≡ true) × (q k ≡ true) × (j < k)))
  both_first j k kn hj hk in' =
      let no = or_parts (picked p many k) (picked q (many - tally p n) k) hk in
      ⊎_elim
      (λ x.
      let y = picked_yes p many j x in
      ⊎_elim
      (λ pk. let m = picked_no p many k pk no.0 in inr (inl (y.0, pk, tally_less p j k (omega arith))))
      (λ qk. inl (y.0, qk)) in')
      (λ x.
      let y = picked_yes q (many - tally p n) j x in
      ⊎_elim
      (λ pk. let m = picked_no p many k pk no.0 in let up = tally_mono p k n (omega arith) in absurd (omega arith))
      (λ qk. let m = picked_no q (many - tally p n) k qk no.1 in inr (inr (y.0, qk, tally_less q j k (omega arith)))) in')
      (both_cases j hj)

pub one_le : (b : Bool) → one b ≤ 1
one_le true = omega arith
one_le false = omega arith
