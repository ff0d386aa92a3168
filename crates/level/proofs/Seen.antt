-- What is seen of the board from the clock on.
use Rattle.std.proofs.Common.{◌≡◌, ℕ, Bool, true, false, cond, not, ◌&&◌, eqb, ℤ, pos, ◌+ℤ◌, ◌-ℤ◌, nat_abs, ◌≤ℤ◌, ◌<ℤ◌, Some, None, Option, sym, refl, ap, ◌∙◌, ⊎_elim, arith}
use lib.Signed.{lt_z}
use Rattle.std.proofs.lemmas.Int.{ints, by_lt_z}
use Rattle.std.proofs.lemmas.Bool.{eq-eqb, ne_eqb, cond-true, cond-false, cases_Bool, and_from, and_left, and_right}
use Rattle.clock.proofs.Laws.{floor_mod_more}
use Rattle.level.specs.Board.{slot, turned, without}
use Rattle.level.specs.Ticks.{between, is_none, allows, is_available, Marking, MarksFor}
use Rattle.level.specs.Levels.{seen}
use Rattle.level.proofs.Tallies.{tally_ext}
use Rattle.level.proofs.Window.{one_place}

abbrev reach : ℤ → ℤ → Bool
reach c t = not (lt_z t c) && lt_z t (c +ℤ pos 1024)

reach_in : (c t : ℤ) → c ≤ℤ t → t <ℤ (c +ℤ pos 1024) → reach c t ≡ true
reach_in c t l h = and_from (not (lt_z t c)) (lt_z t (c +ℤ pos 1024)) (grind (arith, ints)) (grind (arith, ints))

reach_early : (c t : ℤ) → t <ℤ c → reach c t ≡ false
reach_early c t l = and_left (not (lt_z t c)) (lt_z t (c +ℤ pos 1024)) (grind (arith, ints))

reach_late : (c t : ℤ) → (c +ℤ pos 1024) ≤ℤ t → reach c t ≡ false
reach_late c t l = and_right (not (lt_z t c)) (lt_z t (c +ℤ pos 1024)) (grind (arith, ints))

pub seen_none : (f : ℤ → Option ℕ) (c : ℤ) → ((t : ℤ) → f t ≡ None) → (t : ℤ) → seen c f t ≡ None
seen_none f c h t =
    ⊎_elim (λ e. cond-true (reach c t) (f t) None e ∙ h t) (λ e. cond-false (reach c t) (f t) None e) (cases_Bool (reach c t))

pub seen_here : (f : ℤ → Option ℕ) (c : ℤ) → seen c f c ≡ f c
seen_here f c = cond-true (reach c c) (f c) None (reach_in c c (omega (arith, ints)) (omega (arith, ints)))

-- the tick at the clock is cleared, and the clock moves on: its mark goes, and every other is as it was
module _ (f g : ℤ → Option ℕ) (c d : ℤ) (next : d ≡ c +ℤ pos 1) (clear : (u : ℤ) → g u ≡ turned f c None u) where
  pub seen_spent : seen d g c ≡ None
  seen_spent = cond-false (reach d c) (g c) None (reach_early d c (omega (arith, ints)))

  late : g (c +ℤ pos 1024) ≡ None
  late = clear (c +ℤ pos 1024) ∙ cond-true _ _ _ (eq-eqb (slot (c +ℤ pos 1024)) (slot c) (floor_mod_more c 1 1024 (omega arith)))

  within : (u : ℤ) → (c +ℤ pos 1) ≤ℤ u → u <ℤ (c +ℤ pos 1024) → g u ≡ f u
  within u l h =
      clear u ∙ cond-false _ _ _ (ne_eqb (slot u) (slot c) (λ e.
      let same : u ≡ c = one_place c u c (omega (arith, ints)) h (omega (arith, ints)) (omega (arith, ints)) e in
      omega (arith, ints)))

  pub seen_others : (u : ℤ) → (u ≡ c → ⊥) → seen d g u ≡ seen c f u
  seen_others u ne =
      by_lt_z u c
      (λ l. cond-false (reach d u) (g u) None (reach_early d u (omega (arith, ints))) ∙ sym (cond-false (reach c u) (f u) None (reach_early c u l)))
      (λ l. by_lt_z u (c +ℤ pos 1024)
      (λ h.
      let l' : (c +ℤ pos 1) ≤ℤ u = by_lt_z c u (λ k. omega (arith, ints)) (λ k. absurd (ne (omega (arith, ints)))) in
      cond-true (reach d u) (g u) None (reach_in d u (omega (arith, ints)) (omega (arith, ints))) ∙ within u l' h ∙ sym (cond-true (reach c u) (f u) None (reach_in c u l h)))
      (λ h. none_late h ∙ sym (cond-false (reach c u) (f u) None (reach_late c u h))))
    where
      none_late : (c +ℤ pos 1024) ≤ℤ u → seen d g u ≡ None
      none_late h =
          by_lt_z (c +ℤ pos 1024) u
          (λ k. cond-false (reach d u) (g u) None (reach_late d u (omega (arith, ints))))
          (λ k.
          let e : u ≡ c +ℤ pos 1024 = omega (arith, ints) in
          cond-true (reach d u) (g u) None (reach_in d u (omega (arith, ints)) (omega (arith, ints))) ∙ ap g e ∙ late)

without_it : (s : ℕ) (h : Option ℕ) → h ≡ Some s → without s h ≡ None
without_it s h e = ap (without s) e ∙ cond-true (eqb s s) None (Some s) (eq-eqb s s refl)

without_else : (s : ℕ) (h : Option ℕ) → (h ≡ Some s → ⊥) → without s h ≡ h
without_else s None ne = refl
without_else s (Some r) ne = cond-false (eqb r s) None (Some r) (ne_eqb r s (λ e. ne (ap Some e)))

-- a seat's marks go
pub seen_gone : (c : ℤ) (f g : ℤ → Option ℕ) (s : ℕ) → ((u : ℤ) → g u ≡ without s (f u)) → (u : ℤ) → seen c f u ≡ Some s → seen c g u ≡ None
seen_gone c f g s w u e =
    ⊎_elim
    (λ q. cond-true (reach c u) (g u) None q ∙ w u ∙ without_it s (f u) (sym (cond-true (reach c u) (f u) None q) ∙ e))
    (λ q. cond-false (reach c u) (g u) None q)
    (cases_Bool (reach c u))

pub seen_else : (c : ℤ) (f g : ℤ → Option ℕ) (s : ℕ) → ((u : ℤ) → g u ≡ without s (f u)) → (u : ℤ) → (seen c f u ≡ Some s → ⊥) → seen c g u ≡ seen c f u
seen_else c f g s w u ne =
    ⊎_elim
    (λ q.
    cond-true (reach c u) (g u) None q ∙ w u
    ∙ without_else s (f u) (λ e. ne (cond-true (reach c u) (f u) None q ∙ e))
    ∙ sym (cond-true (reach c u) (f u) None q))
    (λ q. cond-false (reach c u) (g u) None q ∙ sym (cond-false (reach c u) (f u) None q))
    (cases_Bool (reach c u))

-- The board and what is seen of it agree from the clock on.
module _ (c t d : ℤ) (f : ℤ → Option ℕ) (owner : ℤ → Option ℕ) (a : ℕ) (from : c ≤ℤ t) (to : t <ℤ d) (near : d ≤ℤ (c +ℤ pos 1024)) where
  seen_in : (u : ℤ) → t ≤ℤ u → u <ℤ d → seen c f u ≡ f u
  seen_in u l h = cond-true (reach c u) (f u) None (reach_in c u (omega (arith, ints)) (omega (arith, ints)))

  avail_in : (u : ℤ) → t ≤ℤ u → u <ℤ d → is_available (seen c f) owner a u ≡ is_available f owner a u
  avail_in u l h = ap (λ o. is_none o && allows a (owner u)) (seen_in u l h)

  pub count_seen : between (is_available (seen c f) owner a) t d ≡ between (is_available f owner a) t d
  count_seen =
      let off : t +ℤ pos (nat_abs (d -ℤ t)) ≡ d = grind (arith, ints) in
      tally_ext (λ k. is_available (seen c f) owner a (t +ℤ pos k)) (λ k. is_available f owner a (t +ℤ pos k)) (nat_abs (d -ℤ t))
      (λ k l. avail_in (t +ℤ pos k) (omega (arith, ints)) (omega (arith, ints)))

  pub chosen_seen : (e : ℕ) (chosen : ℤ → Bool) (p : ℤ → Bool) → Marking (is_available f owner a) p t d e chosen → Marking (is_available (seen c f) owner a) p t d e chosen
  chosen_seen e chosen p h = record {
    from = h.from;
    to = h.to;
    among = λ u y. avail_in u (h.from u y) (h.to u y) ∙ h.among u y;
    many = h.many;
    first = λ u v y l k av n. h.first u v y l k (sym (avail_in v l k) ∙ av) n;
  }

  pub marks_seen : (s : ℕ) (g : ℤ → Option ℕ) (e : ℕ) (chosen : ℤ → Bool) (p : ℤ → Bool) → Marking (is_available f owner a) p t d e chosen → MarksFor c s chosen f g →
      (u : ℤ) → seen c g u ≡ cond (chosen u) (Some s) (seen c f u)
  marks_seen s g e chosen p h w u =
      by_lt_z u c
      (λ l. out (reach_early c u l) (unchosen (λ y. let x = h.from u y in omega (arith, ints))))
      (λ l. by_lt_z u (c +ℤ pos 1024)
      (λ k. cond-true (reach c u) (g u) None (reach_in c u l k) ∙ w u l k ∙ ap (cond (chosen u) (Some s)) (sym (cond-true (reach c u) (f u) None (reach_in c u l k))))
      (λ k. out (reach_late c u k) (unchosen (λ y. let x = h.to u y in omega (arith, ints)))))
    where
      unchosen : (chosen u ≡ true → ⊥) → chosen u ≡ false
      unchosen ne = ⊎_elim (λ y. absurd (ne y)) (λ n. n) (cases_Bool (chosen u))

      out : reach c u ≡ false → chosen u ≡ false → seen c g u ≡ cond (chosen u) (Some s) (seen c f u)
      out r n = cond-false (reach c u) (g u) None r ∙ sym (cond-false (chosen u) (Some s) (seen c f u) n ∙ cond-false (reach c u) (f u) None r)
