-- Ticks counted from the first one on.
use Rattle.std.proofs.Common.{◌≡◌, ℕ, zero, suc, ◌+◌, Bool, true, false, ◌⊎◌, ℤ, pos, ◌+ℤ◌, ◌-ℤ◌, nat_abs, ◌≤ℤ◌, ◌<ℤ◌, Some, None, Option, refl, ap, ◌∙◌, inl, inr, ⊎_elim, arith}
use Rattle.std.proofs.lemmas.Int.{ints}
use Rattle.std.proofs.lemmas.Bool.{eqb-true, eq-eqb, ne_eqb, cases_eq, both_ways}
use Rattle.level.specs.Ticks.{one, tally, is}

-- how many of the n ticks from t pass a test
abbrev pub along : (ℤ → Bool) → ℤ → ℕ → ℕ
along p t zero = 0
along p t (suc n) = one (p t) + along p (t +ℤ pos 1) n

pub along_more : (p : ℤ → Bool) (n : ℕ) (t : ℤ) → along p t (suc n) ≡ along p t n + one (p (t +ℤ pos n))
along_more p zero t = let e : t +ℤ pos 0 ≡ t = omega (arith, ints) in let f : one (p (t +ℤ pos 0)) ≡ one (p t) = ap (λ u. one (p u)) e in omega arith
along_more p (suc n) t =
    let e : (t +ℤ pos 1) +ℤ pos n ≡ t +ℤ pos (suc n) = omega (arith, ints) in
    let i = along_more p n (t +ℤ pos 1) in
    let j : one (p ((t +ℤ pos 1) +ℤ pos n)) ≡ one (p (t +ℤ pos (suc n))) = ap (λ u. one (p u)) e in
    omega arith

pub tally_along : (p : ℤ → Bool) (t : ℤ) (n : ℕ) → tally (λ k. p (t +ℤ pos k)) n ≡ along p t n
tally_along p t zero = refl
tally_along p t (suc n) = let i = tally_along p t n in let j = along_more p n t in omega arith

pub along_ext : (p q : ℤ → Bool) (n : ℕ) (t : ℤ) → ((u : ℤ) → t ≤ℤ u → p u ≡ q u) → along p t n ≡ along q t n
along_ext p q zero t h = refl
along_ext p q (suc n) t h =
    let e : one (p t) ≡ one (q t) = ap one (h t (omega (arith, ints))) in
    let i = along_ext p q n (t +ℤ pos 1) (λ u l. h u (omega (arith, ints))) in
    omega arith

pub along_skip : (p : ℤ → Bool) (j m n : ℕ) (t u : ℤ) → t +ℤ pos j ≡ u → m ≡ j + n → ((v : ℤ) → v <ℤ u → p v ≡ false) → along p t m ≡ along p u n
along_skip p zero m n t u e f h =
    let em : m ≡ n = omega arith in
    let et : t ≡ u = omega (arith, ints) in
    ap (along p t) em ∙ ap (λ v. along p v n) et
along_skip p (suc j) zero n t u e f h = absurd (omega arith)
along_skip p (suc j) (suc m) n t u e f h =
    let z : one (p t) ≡ 0 = ap one (h t (omega (arith, ints))) in
    let i = along_skip p j m n (t +ℤ pos 1) u (omega (arith, ints)) (omega arith) h in
    omega arith

-- a tick by its distance from the start
pub offset : (start t : ℤ) → start ≤ℤ t → start +ℤ pos (nat_abs (t -ℤ start)) ≡ t
offset start t h = grind (arith, ints)

-- whether something is there, and is s
pub is_some : (s : ℕ) (o : Option ℕ) → is s o ≡ true → o ≡ Some s
is_some s None e = absurd (both_ways false refl e)
is_some s (Some b) e = ap Some (eqb-true b s e)

pub some_is : (s : ℕ) (o : Option ℕ) → o ≡ Some s → is s o ≡ true
some_is s o e = ap (is s) e ∙ eq-eqb s s refl

pub not_some : (s : ℕ) (o : Option ℕ) → (o ≡ Some s → ⊥) → is s o ≡ false
not_some s None h = refl
not_some s (Some b) h = ne_eqb b s (λ e. h (ap Some e))

pub some_or_not : (s : ℕ) (o : Option ℕ) → (o ≡ Some s) ⊎ (o ≡ Some s → ⊥)
some_or_not s None = inr (λ e. let z : ◌≡◌ {A = ℕ} 0 1 = cc in omega arith)
some_or_not s (Some b) = ⊎_elim (λ e. inl (ap Some e)) (λ ne. inr (λ e. ne (cc))) (cases_eq b s)

pub none_some : {X : Type 0} (o : Option X) (x : X) → o ≡ None → o ≡ Some x → ⊥
none_some o x e f = let z : ◌≡◌ {A = ℕ} 0 1 = cc in omega arith
