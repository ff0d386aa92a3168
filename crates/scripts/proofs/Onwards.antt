-- Calls one after another carry the history on.
use Rattle.std.proofs.Common.{◌≡◌, ℕ, eqb, List, [], ◌∷◌, ◌++◌, Some, None, Option, sym, refl, ap, ◌∙◌, subst, append_assoc, arith}
use Rattle.std.proofs.lemmas.Bool.{eq-eqb, ne_eqb, cond-true, cond-false}
use Rattle.level.specs.Meaning.{Meaning, Event}
use Rattle.level.specs.Together.{Opening, Tagged, opened, called, Together, nothing, put}
use Rattle.level.specs.Promises.{AllStand, Goes, Starts}
use Rattle.level.specs.Levels.{Called}
use Rattle.level.proofs.Levels.{shared}
use Rattle.level.proofs.Alones.{step_kept}
use Rattle.scripts.specs.Plays.{Plays}
use Rattle.scripts.specs.Stories.{entry_of, call_on, TicksBoth, Story}

pub still : (m : Meaning) → Plays m m
still m = record { number = refl; onward = λ h w t at. record { entries = []; levels = w; together = t; stand = shared h w t; here = at; others = λ k ne. refl } }

pub by_call : {m : Meaning} {e : Event} {n : Meaning} → Called m e n → Plays m n
by_call {m} {e} {n} c = record {
  number = (step_kept e m n c.step).number;
  onward = λ h w t at.
      let g = c.goes h w t at in
      record {
        entries = call_on m e n ∷ [];
        levels = put m.number n w;
        together = g.0;
        stand = g.1;
        here = cond-true (eqb m.number m.number) (Some n) (w m.number) (eq-eqb m.number m.number refl);
        others = λ k ne. cond-false (eqb k m.number) (Some n) (w k) (ne_eqb k m.number ne);
      };
}

pub chain : {m n o : Meaning} → Plays m n → Plays n o → Plays m o
chain {m} {n} {o} a b = record {
  number = b.number ∙ a.number;
  onward = λ h w t at.
      let x = a.onward h w t at in
      let y = b.onward (x.entries ++ h) x.levels x.together (ap x.levels a.number ∙ x.here) in
      let e : (y.entries ++ x.entries) ++ h ≡ y.entries ++ (x.entries ++ h) = append_assoc y.entries x.entries h in
      record {
        entries = y.entries ++ x.entries;
        levels = y.levels;
        together = subst (λ z. Together z y.levels) (sym e) y.together;
        stand = subst (λ z. AllStand z y.levels) (sym e) y.stand;
        here = ap y.levels (sym a.number) ∙ y.here;
        others = λ k ne. y.others k (λ q. ne (q ∙ a.number)) ∙ x.others k ne;
      };
}

pub ticks_both : (m m' n n' : Meaning) (e f : Event) → Goes m e m' → Goes n f n' → TicksBoth m e m' n f n'
ticks_both m m' n n' e f a b h w t at other ne =
    let x = a h w t at in
    b (call_on m e m' ∷ h) (put m.number m' w) x.0 (cond-false (eqb n.number m.number) (Some m') (w n.number) (ne_eqb n.number m.number ne) ∙ other)

pub story : (o p : Opening) (woken first second : Event) (m₀ m₁ m n₀ n : Meaning) → m₀.number ≡ 0 → m₁.number ≡ 0 → n₀.number ≡ 1 →
    Starts 0 o m₀ → Starts 1 p n₀ → Goes m₀ woken m₁ → TicksBoth m₁ first m n₀ second n → Story o p woken first second m n
story o p woken first second m₀ m₁ m n₀ n e0 e1 e2 a b c d =
    let x = a [] (λ k. None) nothing refl in
    let y = b _ _ x.0 refl in
    let w : ℕ → Option Meaning = put 1 n₀ (put 0 m₀ (λ k. None)) in
    let z = c _ w y.0 (subst (λ k. w k ≡ Some m₀) (sym e0) refl) in
    let v : ℕ → Option Meaning = put 0 m₁ w in
    let z0 = subst (λ k. Together (entry_of k (called woken m₀.rule m₁.rule) ∷ entry_of 1 (opened p) ∷ entry_of 0 (opened o) ∷ []) (put k m₁ w)) e0 z.0 in
    let before : List Tagged = entry_of 0 (called woken m₀.rule m₁.rule) ∷ entry_of 1 (opened p) ∷ entry_of 0 (opened o) ∷ [] in
    let u = d before v z0 (subst (λ k. v k ≡ Some m₁) (sym e1) refl) (subst (λ k. v k ≡ Some n₀) (sym e2) refl) (λ q. absurd (let r : ◌≡◌ {A = ℕ} 1 0 = sym e2 ∙ q ∙ e1 in omega arith)) in
    record {
      m₀ = m₀;
      m₁ = m₁;
      n₀ = n₀;
      history = entry_of n₀.number (called second n₀.rule n.rule) ∷ entry_of m₁.number (called first m₁.rule m.rule) ∷ before;
      history_is =
          ap (λ k. entry_of k (called second n₀.rule n.rule) ∷ entry_of m₁.number (called first m₁.rule m.rule) ∷ before) e2
          ∙ ap (λ k. entry_of 1 (called second n₀.rule n.rule) ∷ entry_of k (called first m₁.rule m.rule) ∷ before) e1;
      levels = put n₀.number n (put m₁.number m v);
      together = u.0;
      stand = u.1;
      left_is = ap (λ j. put j n (put m₁.number m v) 0) e2 ∙ ap (λ j. put 1 n (put j m v) 0) e1;
      right_is = ap (λ j. put j n (put m₁.number m v) 1) e2;
    }
