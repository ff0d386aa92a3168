-- From what the code does at a tick to the step of a tick.
use Rattle.std.proofs.Common.{◌≡◌, ℕ, ◌+◌, ◌<◌, true, false, cond, get_or, ℤ, pos, ◌+ℤ◌, Some, None, Option, sym, refl, ap, ◌∙◌, subst}
use Rattle.timetable.specs.declared.table.Timetable.{Ghosts as Timetables}
use Rattle.spare.specs.declared.rule.SpareRule.{Ghosts as SpareRules}
use mathlib.Core.Path.{fun_ext}
use Rattle.std.proofs.lemmas.Bool.{eq-eqb, ne_eqb, cond-true, cond-false}
use Rattle.spare.specs.Chosen.{Chosen, Within}
use Rattle.spare.specs.Sets.{is_ready}
use Rattle.level.specs.declared.inner.Inner.{Inner}
use Rattle.level.specs.declared.level.Level.{Level}
use Rattle.level.specs.declared.ticked.Letter.{Letter}
use Rattle.level.specs.declared.ticked.Letter.TheVariants.{Constrained, Reserved, Spare, Idle}
use Rattle.level.specs.declared.ticked.Ticked.{Ticked}
use Rattle.level.specs.Board.{holder, turned}
use Rattle.level.specs.Seats.{seat_at, one_more}
use Rattle.level.specs.Ticks.{one, is}
use Rattle.level.specs.Meaning.{Constraint, Meaning, ticked}
use Rattle.level.specs.Steps.{Step, By, ByMark, one_more_run}
use Rattle.level.specs.Promises.{is_for}
use Rattle.level.specs.Levels.{meaning}
use Rattle.level.specs.Parts.{RunnerOf, GivenTo, Advanced}
use Rattle.level.proofs.Refusing.{tick_sound}
use Rattle.level.proofs.Seated.{below}
use Rattle.level.proofs.Seen.{seen_here, seen_spent, seen_others}

module _ {T R : Type 0} (ts : Timetables T) (rs : SpareRules R) where
  pub by_mark :
      (l : Level T R) (s a : ℕ) → holder l.inner.board l.inner.clock ≡ Some s → RunnerOf l.inner s (Some a) →
      ByMark (meaning ts rs l) s a × (s < 16)
  by_mark l s a mark r = (
    record {
      mark = seen_here (holder l.inner.board) l.inner.clock ∙ mark;
      held = r.0;
      seat = r.1;
      activity = r.2;
      ready = r.3;
    },
    below l.inner.seats s r.0 r.1,
  )

  -- what is counted of a tick
  by_given :
      (t : Letter) (o : Option ℕ) (m k n : Meaning) → GivenTo m t o k → n.rule ≡ k.rule →
      ((s : ℕ) → is_for s t ≡ false → n.seats s ≡ m.seats s) → ((s : ℕ) (h : Constraint) → is_for s t ≡ true → m.seats s ≡ Some h → n.seats s ≡ Some (one_more_run h)) → By m t o n
  by_given (Constrained s) None m k n p er off on = absurd p
  by_given (Constrained s) (Some a) m k n p er off on =
      (p.0, record { seat = on s p.0.held (eq-eqb s s refl) p.0.seat; others = λ j ne. off j (ne_eqb s j (λ e. ne (sym e))) }, er ∙ p.1)
  by_given Reserved None m k n p er off on = absurd p
  by_given Reserved (Some a) m k n p er off on = (p.0, fun_ext (λ s. off s refl), er ∙ p.1)
  by_given Spare None m k n p er off on = absurd p
  by_given Spare (Some a) m k n p er off on = (
    record {
      neither = p.neither;
      named = subst (λ r. Chosen m.ready m.rule.distance m.rule.patience (Some a) r.distance r.patience) (sym er) p.named;
      within = subst (λ r. Within r.distance r.patience) (sym er) p.within;
    },
    fun_ext (λ s. off s refl),
  )
  by_given Idle None m k n p er off on = (p.0, fun_ext (λ s. off s refl), er ∙ p.1)
  by_given Idle (Some a) m k n p er off on = absurd p

  given_patience : (t : Letter) (o : Option ℕ) (m k : Meaning) → GivenTo m t o k → k.rule.patience ≡ m.rule.patience
  given_patience (Constrained s) None m k p = absurd p
  given_patience (Constrained s) (Some a) m k p = ap (λ r. r.patience) p.1
  given_patience Reserved None m k p = absurd p
  given_patience Reserved (Some a) m k p = ap (λ r. r.patience) p.1
  given_patience Spare None m k p = absurd p
  given_patience Spare (Some a) m k p = p.named.steady
  given_patience Idle None m k p = ap (λ r. r.patience) p.1
  given_patience Idle (Some a) m k p = absurd p

  pub ticks :
      (l k : Level T R) (j : Inner) (e : Ticked) → e.tick ≡ l.inner.clock → (l.inner.clock ≡ pos 2147483647 → ⊥) →
      GivenTo (meaning ts rs l) e.letter e.runner (meaning ts rs k) → k.timetable ≡ l.timetable → k.inner ≡ l.inner →
      Advanced k.inner e j →
      Step (meaning ts rs l) (ticked e) (meaning ts rs (record { timetable = k.timetable; rule = k.rule; inner = j }))
  ticks l k j e eu ne given et ei a = (
    tick_sound _ ne,
    record {
      kept = record { number = a.number ∙ ap (λ i. i.number) ei; owner = ap ts.owner et; cycle = ap ts.cycle et; patience = given_patience e.letter e.runner _ _ given };
      tick = eu;
      clock = next;
      ready = ap is_ready (a.ready ∙ ap (λ i. i.ready) ei);
      spent = seen_spent f g l.inner.clock j.clock next cleared;
      others = seen_others f g l.inner.clock j.clock next cleared;
      used = λ x. a.used x ∙ ap (λ i. one (is x e.runner) + get_or i.used x 0) ei;
      by = by_given e.letter e.runner _ _ _ given refl
          (λ s q. seats s ∙ cond-false (is_for s e.letter) _ _ q)
          (λ s h q at. seats s ∙ cond-true (is_for s e.letter) _ _ q ∙ ap one_more at);
    },
  )
    where
      next : j.clock ≡ l.inner.clock +ℤ pos 1
      next = a.clock ∙ ap (λ i. i.clock +ℤ pos 1) ei

      f : ℤ → Option ℕ
      f = holder l.inner.board

      g : ℤ → Option ℕ
      g = holder j.board

      cleared : (v : ℤ) → g v ≡ turned f l.inner.clock None v
      cleared v = a.board v ∙ ap (λ i. turned (holder i.board) i.clock None v) ei

      seats : (s : ℕ) → seat_at j.seats s ≡ cond (is_for s e.letter) (one_more (seat_at l.inner.seats s)) (seat_at l.inner.seats s)
      seats s = a.seats s ∙ ap (λ i. cond (is_for s e.letter) (one_more (seat_at i.seats s)) (seat_at i.seats s)) ei
