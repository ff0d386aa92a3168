-- The calls of a rehearsal are a history of its level, of which all promises hold.
use Rattle.std.proofs.Common.{◌≡◌, ℕ, List, [], ◌∷◌, ◌++◌, Some, None, Option, sym, refl, ap, ◌∙◌, subst, append_assoc, append-nil}
use Rattle.spare.specs.declared.rule.SpareRule.{Ghosts as SpareRules}
use Rattle.level.specs.Meaning.{Meaning, Event}
use Rattle.level.specs.Together.{Opening, Entry, Tagged, Together, nothing, called, own_history, put}
use Rattle.level.specs.Promises.{Stands, AllStand}
use Rattle.level.specs.Levels.{Called, Opened}
use Rattle.rehearsal.specs.Stages.{Stage, Through, no_more, call_then}
use Rattle.rehearsal.specs.Whole.{calls_in}

-- a history has led the level 0 to m, by these calls
record Led (m : Meaning) (calls : List Event) : Type 0 where
  pub all : List Tagged
  pub levels : ℕ → Option Meaning
  pub together : Together all levels
  pub here : levels 0 ≡ Some m
  pub stands : Stands 0 (own_history 0 all) m
  pub calls_are : calls_in (own_history 0 all) ≡ calls

led_first : {o : Opening} {m : Meaning} → Opened 0 o m → Led m []
led_first {m = m} o =
    let s = o.starts [] (λ k. None) nothing refl in
    record { all = _; levels = _; together = s.0; here = refl; stands = s.1 0 m refl; calls_are = refl }

led_next : {m n : Meaning} {e : Event} {calls : List Event} → Led m calls → Called m e n → Led n (calls ++ (e ∷ []))
led_next {m} {n} {e} {calls} l c =
    let zero : m.number ≡ 0 = l.stands.number in
    let g = c.goes l.all l.levels l.together (ap l.levels zero ∙ l.here) in
    let at : ℕ → List Tagged = λ k. record { level = k; entry = called e m.rule n.rule } ∷ l.all in
    let t : Together (at 0) (put 0 n l.levels) = subst (λ (k : ℕ). Together (at k) (put k n l.levels)) zero g.0 in
    let a : AllStand (at 0) (put 0 n l.levels) = subst (λ (k : ℕ). AllStand (at k) (put k n l.levels)) zero g.1 in
    record { all = at 0; levels = put 0 n l.levels; together = t; here = refl; stands = a 0 n refl; calls_are = ap (λ z. z ++ (e ∷ [])) l.calls_are }

regrouped : {n : Meaning} (calls : List Event) (e : Event) (es : List Event) → Led n ((calls ++ (e ∷ [])) ++ es) → Led n (calls ++ (e ∷ es))
regrouped {n} calls e es l = subst (λ (z : List Event). Led n z) (append_assoc calls (e ∷ []) es) l

module _ {R : Type 0} {rs : SpareRules R} where
  led_on : {p : Stage R} {es : List Event} {q : Stage R} {calls : List Event} → Through rs p es q → Led p.level calls → Led q.level (calls ++ es)
  led_on {p} {es} {q} {calls} no_more l = subst (λ (z : List Event). Led p.level z) (sym (append-nil calls)) l
  led_on {calls = calls} (call_then {e = e} p' {es = es} c t) l = regrouped calls e es (led_on t (led_next l c.called))

  -- the history of the calls from an opening
  pub history_of : {p q : Stage R} {es : List Event} {o : Opening} →
      Opened 0 o p.level → Through rs p es q → (history : List Entry) × (calls_in history ≡ es) × Stands 0 history q.level
  history_of o t = let l = led_on t (led_first o) in (own_history 0 l.all, l.calls_are, l.stands)
