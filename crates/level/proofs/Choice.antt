-- The marking pass chooses the ticks that a constraint is to have.
use Rattle.std.proofs.Common.{◌≡◌, ℕ, ◌+◌, ◌-◌, ◌<◌, ◌≤◌, Bool, true, false, cond, not, ◌&&◌, ◌||◌, eqb, ◌⊎◌, ℤ, pos, ◌+ℤ◌, ◌-ℤ◌, nat_abs, ◌≤ℤ◌, ◌<ℤ◌, Some, None, Option, sym, refl, ap, ◌∙◌, subst, inl, inr, ⊎_elim, arith}
use lib.Signed.{lt_z}
use Rattle.std.proofs.lemmas.Int.{ints, by_lt_z}
use Rattle.std.proofs.lemmas.Bool.{and_parts, and_from, and_left, and_right, cond-false, false≢true}
use Rattle.level.specs.declared.supply.Kind.TheVariants.{Own, Taken}
use Rattle.level.specs.Ticks.{one, tally, between, is_none, is, allows, is_available, Before, Marking, MarksFor, Given}
use Rattle.level.specs.Pass.{kind_of, is_own, is_free, own_from, free_from, picked, Passed}
use Rattle.level.proofs.Counts.{offset}
use Rattle.level.proofs.Tallies.{tally_ext, tally_sum, both, tally_both, both_in, both_first}

pub back : (start : ℤ) (k : ℕ) → nat_abs ((start +ℤ pos k) -ℤ start) ≡ k
back start k = grind (arith, ints)

abbrev inside : ℤ → ℤ → ℤ → Bool
inside start deadline t = not (lt_z t start) && lt_z t deadline

inside_from : (start deadline t : ℤ) → inside start deadline t ≡ true → start ≤ℤ t
inside_from start deadline t h = let a = and_parts (not (lt_z t start)) (lt_z t deadline) h in grind (arith, ints)

inside_to : (start deadline t : ℤ) → inside start deadline t ≡ true → t <ℤ deadline
inside_to start deadline t h = let a = and_parts (not (lt_z t start)) (lt_z t deadline) h in grind (arith, ints)

inside_is : (start deadline t : ℤ) → start ≤ℤ t → t <ℤ deadline → inside start deadline t ≡ true
inside_is start deadline t h k = and_from (not (lt_z t start)) (lt_z t deadline) (grind (arith, ints)) (grind (arith, ints))

outside_before : (start deadline t : ℤ) → t <ℤ start → inside start deadline t ≡ false
outside_before start deadline t h = and_left (not (lt_z t start)) (lt_z t deadline) (grind (arith, ints))

outside_after : (start deadline t : ℤ) → deadline ≤ℤ t → inside start deadline t ≡ false
outside_after start deadline t h = and_right (not (lt_z t start)) (lt_z t deadline) (grind (arith, ints))

-- what one tick is, by its mark and its owner
module _ (a : ℕ) where
  own_bool : (b : Bool) → is_own (cond b Own Taken) ≡ b
  own_bool true = refl
  own_bool false = refl

  free_bool : (b : Bool) → is_free (cond b Own Taken) ≡ false
  free_bool true = refl
  free_bool false = refl

  own_avail : (h o : Option ℕ) → is_own (kind_of a h o) ≡ true → (is_none h && allows a o) ≡ true
  own_avail (Some s) o e = e
  own_avail None None e = refl
  own_avail None (Some b) e = sym (own_bool (eqb b a)) ∙ e

  free_avail : (h o : Option ℕ) → is_free (kind_of a h o) ≡ true → (is_none h && allows a o) ≡ true
  free_avail (Some s) o e = e
  free_avail None None e = refl
  free_avail None (Some b) e = absurd (false≢true (sym (free_bool (eqb b a)) ∙ e))

  avail_cases : (h o : Option ℕ) → (is_none h && allows a o) ≡ true → (is_own (kind_of a h o) ≡ true) ⊎ (is_free (kind_of a h o) ≡ true)
  avail_cases (Some s) o e = inl e
  avail_cases None None e = inr refl
  avail_cases None (Some b) e = inl (own_bool (eqb b a) ∙ e)

  one_split : (h o : Option ℕ) → one (is_none h && allows a o) ≡ one (is_own (kind_of a h o)) + one (is_free (kind_of a h o))
  one_split (Some s) o = refl
  one_split None None = refl
  one_split None (Some b) =
      let x : one (is_own (cond (eqb b a) Own Taken)) ≡ one (eqb b a) = ap one (own_bool (eqb b a)) in
      let y : one (is_free (cond (eqb b a) Own Taken)) ≡ 0 = ap one (free_bool (eqb b a)) in
      omega arith

  own_not_free : (h o : Option ℕ) → is_own (kind_of a h o) ≡ true → is_free (kind_of a h o) ≡ false
  own_not_free (Some s) o e = refl
  own_not_free None None e = absurd (false≢true e)
  own_not_free None (Some b) e = free_bool (eqb b a)

  own_is : (h o : Option ℕ) → is_own (kind_of a h o) ≡ true → is a o ≡ true
  own_is (Some s) o e = absurd (false≢true e)
  own_is None None e = e
  own_is None (Some b) e = sym (own_bool (eqb b a)) ∙ e

  free_is : (h o : Option ℕ) → is_free (kind_of a h o) ≡ true → is a o ≡ false
  free_is (Some s) o e = absurd (false≢true e)
  free_is None None e = refl
  free_is None (Some b) e = absurd (false≢true (sym (free_bool (eqb b a)) ∙ e))

-- all that are available are own ones or free ones
module _ (owner : ℤ → Option ℕ) (a : ℕ) (start deadline : ℤ) (n : ℕ) (ends : start +ℤ pos n ≡ deadline) (b0 : ℤ → Option ℕ) where
  span : nat_abs (deadline -ℤ start) ≡ n
  span = ap (λ d. nat_abs (d -ℤ start)) (sym ends) ∙ back start n

  pub available_sum : between (is_available b0 owner a) start deadline ≡ tally (own_from b0 owner a start) n + tally (free_from b0 owner a start) n
  available_sum =
      ap (tally (λ k. is_available b0 owner a (start +ℤ pos k))) span
      ∙ tally_sum (λ k. is_available b0 owner a (start +ℤ pos k)) (own_from b0 owner a start) (free_from b0 owner a start) n
      (λ k l. one_split a (b0 (start +ℤ pos k)) (owner (start +ℤ pos k)))

module _ (owner : ℤ → Option ℕ) (a : ℕ) (start deadline : ℤ) (n many : ℕ) (b0 : ℤ → Option ℕ) (ends : start +ℤ pos n ≡ deadline)
    (enough : many ≤ between (is_available b0 owner a) start deadline) where
  abbrev p : ℕ → Bool
  p = own_from b0 owner a start

  abbrev q : ℕ → Bool
  q = free_from b0 owner a start

  apart : (k : ℕ) → p k ≡ true → q k ≡ false
  apart k h = own_not_free a (b0 (start +ℤ pos k)) (owner (start +ℤ pos k)) h

  -- the first own ones, and then the first free ones
  abbrev pub chosen : ℤ → Bool
  chosen t = inside start deadline t && both p q many n (nat_abs (t -ℤ start))

  chosen_in : (t : ℤ) → chosen t ≡ true → (inside start deadline t ≡ true) × (both p q many n (nat_abs (t -ℤ start)) ≡ true)
  chosen_in t h = and_parts (inside start deadline t) (both p q many n (nat_abs (t -ℤ start))) h

  pub at_offset : (k : ℕ) → k < n → chosen (start +ℤ pos k) ≡ both p q many n k
  at_offset k l =
      ap (λ b. b && both p q many n (nat_abs ((start +ℤ pos k) -ℤ start))) (inside_is start deadline (start +ℤ pos k) (omega (arith, ints)) (omega (arith, ints)))
      ∙ ap (both p q many n) (back start k)

  -- a tick between the start and the deadline is k after the start
  pub by_offset : (P : ℤ → Type 0) → ((k : ℕ) → k < n → P (start +ℤ pos k)) → (t : ℤ) → start ≤ℤ t → t <ℤ deadline → P t
  by_offset P h t s d =
      let e = offset start t s in
      subst P e (h (nat_abs (t -ℤ start)) (omega (arith, ints)))

  in_both : (k : ℕ) → is_available b0 owner a (start +ℤ pos k) ≡ true → (p k ≡ true) ⊎ (q k ≡ true)
  in_both k h = avail_cases a (b0 (start +ℤ pos k)) (owner (start +ℤ pos k)) h

  many_is : tally (both p q many n) n ≡ many
  many_is = let e = available_sum owner a start deadline n ends b0 in tally_both p q many n apart (omega arith)

  first_is :
      (j k : ℕ) → j < n → k < n → chosen (start +ℤ pos j) ≡ true → is_available b0 owner a (start +ℤ pos k) ≡ true → chosen (start +ℤ pos k) ≡ false →
      Before (λ t. is a (owner t)) (start +ℤ pos j) (start +ℤ pos k)
  first_is j k jn kn hj hk no-k =
      ⊎_elim
      (λ x. inl (own_is a (b0 (start +ℤ pos j)) (owner (start +ℤ pos j)) x.0, free_is a (b0 (start +ℤ pos k)) (owner (start +ℤ pos k)) x.1))
      (λ y. ⊎_elim
      (λ x. let l = x.2 in inr (own_is a (b0 (start +ℤ pos j)) (owner (start +ℤ pos j)) x.0 ∙ sym (own_is a (b0 (start +ℤ pos k)) (owner (start +ℤ pos k)) x.1), omega (arith, ints)))
      (λ x. let l = x.2 in inr (free_is a (b0 (start +ℤ pos j)) (owner (start +ℤ pos j)) x.0 ∙ sym (free_is a (b0 (start +ℤ pos k)) (owner (start +ℤ pos k)) x.1), omega (arith, ints)))
      y)
      (both_first p q many n apart j k kn (sym (at_offset j jn) ∙ hj) (sym (at_offset k kn) ∙ no-k) (in_both k hk))

  pub choice : Marking (is_available b0 owner a) (λ t. is a (owner t)) start deadline many chosen
  choice = record {
    from = λ t h. inside_from start deadline t (chosen_in t h).0;
    to = λ t h. inside_to start deadline t (chosen_in t h).0;
    among = λ t h. by_offset (λ u. chosen u ≡ true → is_available b0 owner a u ≡ true)
        (λ k l e. ⊎_elim (own_avail a (b0 (start +ℤ pos k)) (owner (start +ℤ pos k))) (free_avail a (b0 (start +ℤ pos k)) (owner (start +ℤ pos k)))
        (both_in p q many n apart k (sym (at_offset k l) ∙ e)))
        t (inside_from start deadline t (chosen_in t h).0) (inside_to start deadline t (chosen_in t h).0) h;
    many = ap (tally (λ k. chosen (start +ℤ pos k))) (span owner a start deadline n ends b0) ∙ tally_ext (λ k. chosen (start +ℤ pos k)) (both p q many n) n at_offset ∙ many_is;
    first = λ t u h s d av no-u.
        by_offset (λ x. chosen x ≡ true → Before (λ y. is a (owner y)) x u)
        (λ j jn hj. by_offset (λ x. is_available b0 owner a x ≡ true → chosen x ≡ false → Before (λ y. is a (owner y)) (start +ℤ pos j) x)
        (λ k kn hk no-k. first_is j k jn kn hj hk no-k) u s d av no-u)
        t (inside_from start deadline t (chosen_in t h).0) (inside_to start deadline t (chosen_in t h).0) h;
  }

module _ (owner : ℤ → Option ℕ) (a seat : ℕ) (clock start deadline : ℤ) (n many more own free : ℕ) (b0 b2 : ℤ → Option ℕ)
    (clock-start : clock ≤ℤ start) (deadline-clock : deadline ≤ℤ (clock +ℤ pos 1024)) (ends : start +ℤ pos n ≡ deadline)
    (pass : Passed (own_from b0 owner a start) (free_from b0 owner a start) start n many more own free seat b0 b2)
    (rest : more ≡ many - tally (own_from b0 owner a start) n)
    (enough : many ≤ between (is_available b0 owner a) start deadline) where
  abbrev p' : ℕ → Bool
  p' = own_from b0 owner a start

  abbrev q' : ℕ → Bool
  q' = free_from b0 owner a start

  abbrev marked : ℤ → Bool
  marked = chosen owner a start deadline n many b0 ends enough

  outside_same : (t : ℤ) → clock ≤ℤ t → t <ℤ (clock +ℤ pos 1024) → (t <ℤ start) ⊎ ((start +ℤ pos n) ≤ℤ t) → b2 t ≡ b0 t
  outside_same t l h o = pass.there clock t clock-start (omega (arith, ints)) l h o

  within_is : (k : ℕ) → k < n → b2 (start +ℤ pos k) ≡ cond (marked (start +ℤ pos k)) (Some seat) (b0 (start +ℤ pos k))
  within_is k l =
      pass.here k l
      ∙ ap (λ m. cond (picked p' many k || picked q' m k) (Some seat) (b0 (start +ℤ pos k))) rest
      ∙ ap (λ b. cond b (Some seat) (b0 (start +ℤ pos k))) (sym (at_offset owner a start deadline n many b0 ends enough k l))

  pub marks : MarksFor clock seat marked b0 b2
  marks t l h =
      by_lt_z t start
      (λ early. outside_same t l h (inl early) ∙ sym (cond-false (marked t) (Some seat) (b0 t) (and_left (inside start deadline t) (both p' q' many n (nat_abs (t -ℤ start))) (outside_before start deadline t early))))
      (λ s. by_lt_z t deadline
      (λ d. by_offset owner a start deadline n many b0 ends enough (λ u. b2 u ≡ cond (marked u) (Some seat) (b0 u)) within_is t s d)
      (λ late. outside_same t l h (inr (omega (arith, ints))) ∙ sym (cond-false (marked t) (Some seat) (b0 t) (and_left (inside start deadline t) (both p' q' many n (nat_abs (t -ℤ start))) (outside_after start deadline t late)))))

  pub given : Given clock owner a seat start deadline many b0 b2
  given = (marked, choice owner a start deadline n many b0 ends enough, marks)

-- own and free ones together are those available
pub sum_at :
    (owner : ℤ → Option ℕ) (a : ℕ) (start deadline : ℤ) (n : ℕ) → start +ℤ pos n ≡ deadline → (b0 : ℤ → Option ℕ) {own free : ℕ} →
    own ≡ tally (own_from b0 owner a start) n → free ≡ tally (free_from b0 owner a start) n → own + free ≡ between (is_available b0 owner a) start deadline
sum_at owner a start deadline n ends b0 {own} {free} eo ef = let s = available_sum owner a start deadline n ends b0 in omega arith
