-- One tick more of the marking pass.
use Rattle.std.proofs.Common.{◌≡◌, ℕ, ◌+◌, ◌-◌, ◌<◌, Bool, true, false, cond, ◌&&◌, ◌||◌, ltb, ℤ, pos, ◌+ℤ◌, ◌≤ℤ◌, ◌<ℤ◌, Some, Option, sym, refl, ap, ◌∙◌, subst, inl, inr, ⊎_elim, arith, below_more}
use Rattle.std.proofs.lemmas.Int.{ints}
use Rattle.std.proofs.lemmas.Bool.{lt-ltb, le-ltb, cases_lt, cond-true, cond-false, eq-eqb, ne_eqb}
use Rattle.level.specs.declared.supply.Kind.{Kind}
use Rattle.level.specs.declared.supply.Kind.TheVariants.{Own, Free, Taken}
use Rattle.level.specs.Board.{slot, turned}
use Rattle.level.specs.Ticks.{one, tally}
use Rattle.level.specs.Pass.{kind_of, is_own, is_free, takes, own_from, free_from, picked, Passed}
use Rattle.level.proofs.Tallies.{tally_more}
use Rattle.level.proofs.Window.{one_place}

pub pass_none : (p q : ℕ → Bool) (start : ℤ) (many more seat : ℕ) (b : ℤ → Option ℕ) → Passed p q start 0 many more many more seat b b
pass_none p q start many more seat b = record { here = λ k h. absurd (omega arith); there = λ c u i j k l o. refl; own_left = omega arith; free_left = omega arith }

-- a quota that is not used up is one that fewer were taken from
left_some : (many t left : ℕ) → left ≡ many - t → ltb 0 left ≡ ltb t many
left_some many t left e =
    ⊎_elim
    (λ l. lt-ltb 0 left (omega arith) ∙ sym (lt-ltb t many l))
    (λ l. le-ltb 0 left (omega arith) ∙ sym (le-ltb t many l))
    (cases_lt t many)

-- a tick is taken where one of its kind is still to be had
takes_is : (k : Kind) (own free m1 t1 m2 t2 : ℕ) → own ≡ m1 - t1 → free ≡ m2 - t2 → takes own free k ≡ ((is_own k && ltb t1 m1) || (is_free k && ltb t2 m2))
takes_is Own own free m1 t1 m2 t2 e f = left_some m1 t1 own e ∙ or_false (ltb t1 m1)
  where
    or_false : (b : Bool) → b ≡ (b || false)
    or_false true = refl
    or_false false = refl
takes_is Free own free m1 t1 m2 t2 e f = left_some m2 t2 free f
takes_is Taken own free m1 t1 m2 t2 e f = refl

module _ (owner : ℤ → Option ℕ) (a : ℕ) (start : ℤ) (n many more own free seat : ℕ) (before after : ℤ → Option ℕ)
    (h : Passed (own_from before owner a start) (free_from before owner a start) start n many more own free seat before after) (short : n < 1024)
    (t : ℤ) (at : t ≡ start +ℤ pos n) (own' free' : ℕ)
    (less-own : own' ≡ own - one (is_own (kind_of a (after t) (owner t)))) (less-free : free' ≡ free - one (is_free (kind_of a (after t) (owner t)))) where
  abbrev p : ℕ → Bool
  p = own_from before owner a start

  abbrev q : ℕ → Bool
  q = free_from before owner a start

  -- the next tick is as it was
  next_same : after (start +ℤ pos n) ≡ before (start +ℤ pos n)
  next_same = h.there start (start +ℤ pos n) (omega (arith, ints)) (omega (arith, ints)) (omega (arith, ints)) (omega (arith, ints)) (inr (omega (arith, ints)))

  kind_same : kind_of a (after t) (owner t) ≡ kind_of a (before (start +ℤ pos n)) (owner (start +ℤ pos n))
  kind_same = ap (λ u. kind_of a (after u) (owner u)) at ∙ ap (λ m. kind_of a m (owner (start +ℤ pos n))) next_same

  own_next : own' ≡ many - tally p (n + 1)
  own_next =
      let e : one (is_own (kind_of a (after t) (owner t))) ≡ one (p n) = ap (λ k. one (is_own k)) kind_same in
      let m = tally_more p n in
      let r = h.own_left in
      omega arith

  free_next : free' ≡ more - tally q (n + 1)
  free_next =
      let e : one (is_free (kind_of a (after t) (owner t))) ≡ one (q n) = ap (λ k. one (is_free k)) kind_same in
      let m = tally_more q n in
      let r = h.free_left in
      omega arith

  taken_is : (r : Bool) → r ≡ takes own free (kind_of a (after t) (owner t)) → (picked p many n || picked q more n) ≡ r
  taken_is r e =
      sym (e ∙ ap (takes own free) kind_same
      ∙ takes_is (kind_of a (before (start +ℤ pos n)) (owner (start +ℤ pos n))) own free many (tally p n) more (tally q n) h.own_left h.free_left)

  pub pass_skip : (after' : ℤ → Option ℕ) → after' ≡ after → false ≡ takes own free (kind_of a (after t) (owner t)) → Passed p q start (n + 1) many more own' free' seat before after'
  pass_skip after' eb e = subst (λ b. Passed p q start (n + 1) many more own' free' seat before b) (sym eb) (record {
    here = below_more (λ k. after (start +ℤ pos k) ≡ cond (picked p many k || picked q more k) (Some seat) (before (start +ℤ pos k))) n h.here
        (next_same ∙ sym (cond-false (picked p many n || picked q more n) (Some seat) (before (start +ℤ pos n)) (taken_is false e)));
    there = λ c u i j k l o. h.there c u i (omega (arith, ints)) k l (⊎_elim inl (λ x. inr (omega (arith, ints))) o);
    own_left = own_next;
    free_left = free_next;
  })

  pub pass_take :
      (after' : ℤ → Option ℕ) → ((u : ℤ) → after' u ≡ turned after t (Some seat) u) → true ≡ takes own free (kind_of a (after t) (owner t)) →
      Passed p q start (n + 1) many more own' free' seat before after'
  pass_take after' write e = record {
    here = below_more (λ k. after' (start +ℤ pos k) ≡ cond (picked p many k || picked q more k) (Some seat) (before (start +ℤ pos k))) n
        (λ k l. other start (start +ℤ pos k) (omega (arith, ints)) (omega (arith, ints)) (omega (arith, ints)) (omega (arith, ints)) (λ z. omega (arith, ints)) ∙ h.here k l)
        (writes (start +ℤ pos n) ∙ cond-true _ _ _ (eq-eqb (slot (start +ℤ pos n)) (slot (start +ℤ pos n)) refl)
        ∙ sym (cond-true (picked p many n || picked q more n) (Some seat) (before (start +ℤ pos n)) (taken_is true e)));
    there = λ c u i j k l o.
        other c u i (omega (arith, ints)) k l (λ z. ⊎_elim (λ x. omega (arith, ints)) (λ x. omega (arith, ints)) o)
        ∙ h.there c u i (omega (arith, ints)) k l (⊎_elim inl (λ x. inr (omega (arith, ints))) o);
    own_left = own_next;
    free_left = free_next;
  }
    where
      writes : (u : ℤ) → after' u ≡ turned after (start +ℤ pos n) (Some seat) u
      writes u = write u ∙ ap (λ x. turned after x (Some seat) u) at

      other : (c u : ℤ) → c ≤ℤ start → (start +ℤ pos (n + 1)) ≤ℤ (c +ℤ pos 1024) → c ≤ℤ u → u <ℤ (c +ℤ pos 1024) → (u ≡ start +ℤ pos n → ⊥) → after' u ≡ after u
      other c u i j k l ne =
          writes u ∙ cond-false _ _ _ (ne_eqb (slot u) (slot (start +ℤ pos n)) (λ z. ne (one_place c u (start +ℤ pos n) k l (omega (arith, ints)) (omega (arith, ints)) z)))
