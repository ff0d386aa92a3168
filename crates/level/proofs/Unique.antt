-- No two sets are chosen for one request.
use Rattle.std.proofs.Common.{◌≡◌, ℕ, zero, suc, ◌<◌, ◌≤◌, Bool, true, false, ◌⊎◌, ℤ, pos, ◌+ℤ◌, ◌-ℤ◌, nat_abs, sym, refl, ap, ◌∙◌, inl, inr, ⊎_elim, arith}
use Rattle.std.proofs.lemmas.Int.{ints}
use Rattle.std.proofs.lemmas.Bool.{cases_Bool, both_ways, cases_eq}
use Rattle.level.specs.Ticks.{one, tally, Before, Marking}
use Rattle.level.proofs.Counts.{offset}

-- either c has a place that d lacks, or c has no more places than d, and fewer if d has one that c lacks
abbrev Lacks : (ℕ → Bool) → (ℕ → Bool) → ℕ → Type 0
Lacks c d n = (k : ℕ) × (k < n) × (c k ≡ true) × (d k ≡ false)

find : (c d : ℕ → Bool) (n : ℕ) → Lacks c d n ⊎ ((tally c n ≤ tally d n) × ((j : ℕ) → j < n → d j ≡ true → c j ≡ false → tally c n < tally d n))
find c d zero = inr (omega arith, λ j l x y. absurd (omega arith))
find c d (suc n) = ⊎_elim (λ w. inl (w.0, (let l = w.1 in omega arith), w.2, w.3)) (λ h. at (c n) (d n) refl refl h) (find c d n)
  where
    at : (x y : Bool) → c n ≡ x → d n ≡ y → (tally c n ≤ tally d n) × ((j : ℕ) → j < n → d j ≡ true → c j ≡ false → tally c n < tally d n) →
        Lacks c d (suc n) ⊎ ((tally c (suc n) ≤ tally d (suc n)) × ((j : ℕ) → j < suc n → d j ≡ true → c j ≡ false → tally c (suc n) < tally d (suc n)))
    at true false e f h = inl (n, omega arith, e, f)
    at true true e f h =
        let p : one (c n) ≡ 1 = ap one e in
        let q : one (d n) ≡ 1 = ap one f in
        let le = h.0 in
        inr (omega arith, λ j l x y. ⊎_elim (λ z. absurd (both_ways (c n) (sym (ap c z) ∙ y) e)) (λ z. let m = h.1 j (omega arith) x y in omega arith) (cases_eq j n))
    at false false e f h =
        let p : one (c n) ≡ 0 = ap one e in
        let q : one (d n) ≡ 0 = ap one f in
        let le = h.0 in
        inr (omega arith, λ j l x y. ⊎_elim (λ z. absurd (both_ways (d n) f (sym (ap d z) ∙ x))) (λ z. let m = h.1 j (omega arith) x y in omega arith) (cases_eq j n))
    at false true e f h =
        let p : one (c n) ≡ 0 = ap one e in
        let q : one (d n) ≡ 1 = ap one f in
        let le = h.0 in
        inr (omega arith, λ j l x y. omega arith)

-- the order is one way
never_both : (own : ℤ → Bool) (t u : ℤ) → Before own t u → Before own u t → ⊥
never_both own t u a b =
    ⊎_elim
    (λ x. ⊎_elim (λ y. both_ways (own u) x.1 y.0) (λ y. both_ways (own u) x.1 (y.0 ∙ x.0)) b)
    (λ x. ⊎_elim (λ y. both_ways (own t) y.1 (x.0 ∙ y.0)) (λ y. let l = x.1 in let m = y.1 in omega (arith, ints)) b)
    a

module _ (available own : ℤ → Bool) (start deadline : ℤ) (many : ℕ) where
  one_way :
      (c d : ℤ → Bool) → Marking available own start deadline many c → Marking available own start deadline many d →
      (t : ℤ) → d t ≡ true → c t ≡ false → ⊥
  one_way c d hc hd t dt ct =
      let n = nat_abs (deadline -ℤ start) in
      let off = offset start t (hd.from t dt) in
      let near = hd.to t dt in
      let far = offset start deadline (let s = hd.from t dt in omega (arith, ints)) in
      let j = nat_abs (t -ℤ start) in
      let jn : j < n = omega (arith, ints) in
      let mc = hc.many in
      let md = hd.many in
      ⊎_elim
      (λ w.
      let u = start +ℤ pos w.0 in
      never_both own t u
      (hd.first t u dt (hc.from u w.2) (hc.to u w.2) (hc.among u w.2) w.3)
      (hc.first u t w.2 (hd.from t dt) near (hd.among t dt) ct))
      (λ h. let m = h.1 j jn (ap d off ∙ dt) (ap c off ∙ ct) in omega arith)
      (find (λ k. c (start +ℤ pos k)) (λ k. d (start +ℤ pos k)) n)

  pub chosen_once :
      (c d : ℤ → Bool) → Marking available own start deadline many c → Marking available own start deadline many d → (t : ℤ) → c t ≡ d t
  chosen_once c d hc hd t =
      ⊎_elim
      (λ x. ⊎_elim (λ y. x ∙ sym y) (λ y. absurd (one_way d c hd hc t x y)) (cases_Bool (d t)))
      (λ x. ⊎_elim (λ y. absurd (one_way c d hc hd t y x)) (λ y. x ∙ sym y) (cases_Bool (d t)))
      (cases_Bool (c t))
