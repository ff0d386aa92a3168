-- Everybody who is ready gets its turn of the spare ticks.
use Rattle.std.proofs.Common.{◌≡◌, ℕ, ◌+◌, ◌<◌, ◌≤◌, Bool, true, false, ◌&&◌, ◌⊎◌, List, [], ◌∷◌, ◌++◌, ℤ, Some, None, Option, sym, refl, ap, ◌∙◌, subst, inl, inr, ⊎_elim, arith}
use Rattle.std.proofs.lemmas.Bool.{eqb-false, cases_eq, both_ways}
use Rattle.level.specs.declared.ticked.Letter.{Letter}
use Rattle.level.specs.declared.ticked.Letter.TheVariants.{Constrained, Reserved, Spare, Idle}
use Rattle.level.specs.declared.ticked.Ticked.{Ticked}
use Rattle.level.specs.Ticks.{one}
use Rattle.level.specs.Meaning.{Rule, Meaning, Event, woke, blocked, began, ended, left, collected, told, ticked, refused}
use Rattle.level.specs.Steps.{Step, By, Kept}
use Rattle.level.specs.Together.{Entry, called, Alone, first, next}
use Rattle.level.specs.Promises.{ready_in, run, ran, spare, spare_by, passes, by, count, When, ReadyAt, SpareTurn, rule_in, Moves, RuleSteady}
use Rattle.level.proofs.Alones.{ready_is, rule_is, earlier_level}
use Rattle.level.proofs.Shares.{last_call, when_ready, at_opening}

-- what a call does to the rule
abbrev MovesIn : (ℕ → Bool) → Option Ticked → Rule → Rule → Type 0
MovesIn ready None r r' = r' ≡ r
MovesIn ready (Some e) r r' =
    (spare e ≡ true → (a : ℕ) → ready a ≡ true → by a e ≡ false → r'.distance a < r.distance a) × (spare e ≡ false → r' ≡ r) × (r'.patience ≡ r.patience)

by_moves : (t : ℤ) (l : Letter) (o : Option ℕ) (m n : Meaning) → By m l o n → Kept m n → MovesIn m.ready (Some (record { tick = t; runner = o; letter = l })) m.rule n.rule
by_moves t (Constrained s) None m n b k = absurd b
by_moves t (Constrained s) (Some c) m n b k = (λ e. absurd (both_ways false refl e), λ e. b.2, k.patience)
by_moves t Reserved None m n b k = absurd b
by_moves t Reserved (Some c) m n b k = (λ e. absurd (both_ways false refl e), λ e. b.2, k.patience)
by_moves t Spare None m n b k = absurd b
by_moves t Spare (Some c) m n b k =
    (λ e a rd ne. b.0.named.nearer a rd (λ q. eqb-false c a ne (sym q)), λ e. absurd (both_ways true e refl), k.patience)
by_moves t Idle None m n b k = (λ e. absurd (both_ways false refl e), λ e. b.2, k.patience)
by_moves t Idle (Some c) m n b k = absurd b

step_moves : (e : Event) (m n : Meaning) → Step m e n → MovesIn m.ready (run e) m.rule n.rule
step_moves (woke b) m n s = s.1.rule
step_moves (blocked b) m n s = s.1.rule
step_moves (began k a t e d x) m n s = s.1.beside.rule
step_moves (ended x r) m n s = s.1.beside.rule
step_moves (left x) m n s = s.1.beside.rule
step_moves (collected k x) m n s = s.1.beside.rule
step_moves (told b u) m n s = ap (λ x. x.rule) s.2
step_moves (ticked e) m n s = by_moves e.tick e.letter e.runner m n s.1.by s.1.kept
step_moves (refused q r) m n s = ap (λ x. x.rule) s.same

moves_on : (p : List Entry) (ready : ℕ → Bool) (o : Option Ticked) (r r' : Rule) → ((a : ℕ) → ready a ≡ ready_in p a) → MovesIn ready o r r' → Moves p o r r'
moves_on p ready None r r' h v = v
moves_on p ready (Some e) r r' h v = (λ sp a rd ne. v.0 sp a (h a ∙ rd) ne, v.1, v.2)

pub rule_kept : {k : ℕ} {p : List Entry} {m : Meaning} → Alone k p m → RuleSteady p
rule_kept (first o) = tt
rule_kept (next {p} {m} e {n} r s) = (rule_is r, moves_on p m.ready (run e) m.rule n.rule (ready_is r) (step_moves e m n s), rule_kept r)

-- no distance exceeds the patience
abbrev Within : Rule → Type 0
Within r = (a : ℕ) → a < 16 → r.distance a ≤ r.patience

by_within : (l : Letter) (o : Option ℕ) (m n : Meaning) → By m l o n → Within m.rule → Within n.rule
by_within (Constrained s) None m n b w = absurd b
by_within (Constrained s) (Some c) m n b w = subst Within (sym b.2) w
by_within Reserved None m n b w = absurd b
by_within Reserved (Some c) m n b w = subst Within (sym b.2) w
by_within Spare None m n b w = absurd b
by_within Spare (Some c) m n b w = b.0.within
by_within Idle None m n b w = subst Within (sym b.2) w
by_within Idle (Some c) m n b w = absurd b

step_within : (e : Event) (m n : Meaning) → Step m e n → Within m.rule → Within n.rule
step_within (woke b) m n s w = subst Within (sym s.1.rule) w
step_within (blocked b) m n s w = subst Within (sym s.1.rule) w
step_within (began k a t e d x) m n s w = subst Within (sym s.1.beside.rule) w
step_within (ended x r) m n s w = subst Within (sym s.1.beside.rule) w
step_within (left x) m n s w = subst Within (sym s.1.beside.rule) w
step_within (collected k x) m n s w = subst Within (sym s.1.beside.rule) w
step_within (told b u) m n s w = subst (λ x. Within x.rule) (sym s.2) w
step_within (ticked e) m n s w = by_within e.letter e.runner m n s.1.by w
step_within (refused q r) m n s w = subst (λ x. Within x.rule) (sym s.same) w

pub within : {k : ℕ} {p : List Entry} {m : Meaning} → Alone k p m → Within m.rule
within (first o) = subst Within (sym o.rule) o.within
within (next {p} {m} e {n} r s) = step_within e m n s (within r)

-- a has waited at k spare ticks in a row
abbrev Waits : ℕ → ℕ → ℕ → Type 0
Waits distance patience k = (k ≡ 0) ⊎ (distance + k ≤ patience)

same_waits : (r r' : Rule) (a k : ℕ) → r' ≡ r → Waits (r.distance a) r.patience k → Waits (r'.distance a) r'.patience (0 + k)
same_waits r r' a k e w = subst (λ x. Waits (x.distance a) x.patience (0 + k)) (sym e) (more w)
  where
    more : Waits (r.distance a) r.patience k → Waits (r.distance a) r.patience (0 + k)
    more (inl z) = inl (omega arith)
    more (inr z) = inr (omega arith)

less_waits : (d d' p p' k : ℕ) → d' < d → d ≤ p → p' ≡ p → Waits d p k → Waits d' p' (1 + k)
less_waits d d' p p' k lt le e (inl z) = inr (omega arith)
less_waits d d' p p' k lt le e (inr z) = inr (omega arith)

move_waits :
    (ready : ℕ → Bool) (o : Option Ticked) (r r' : Rule) → MovesIn ready o r r' → Within r → (a : ℕ) → a < 16 →
    When o (λ f. spare f ≡ true → ready a ≡ true) → passes (spare_by a) o ≡ false →
    (k : ℕ) → Waits (r.distance a) r.patience k → Waits (r'.distance a) r'.patience (one (passes spare o) + k)
move_waits ready None r r' v w a lt rd ne k wt = same_waits r r' a k v wt
move_waits ready (Some e) r r' v w a lt rd ne k wt = go (spare e) refl
  where
    go : (b : Bool) → spare e ≡ b → Waits (r'.distance a) r'.patience (one (spare e) + k)
    go true q =
        let nb : by a e ≡ false = sym (ap (λ z. z && by a e) q) ∙ ne in
        subst (λ z. Waits (r'.distance a) r'.patience (one z + k)) (sym q) (less_waits _ _ _ _ k (v.0 q a (rd q) nb) (w a lt) v.2 wt)
    go false q = subst (λ z. Waits (r'.distance a) r'.patience (one z + k)) (sym q) (same_waits r r' a k (v.1 q) wt)

one_none : (b : Bool) (k : ℕ) → one b + k ≡ 0 → b ≡ false
one_none true k e = absurd (omega arith)
one_none false k e = refl

waits :
    (a : ℕ) → a < 16 → (w earlier : List Entry) {k : ℕ} {p : List Entry} {m : Meaning} → Alone k p m → p ≡ w ++ earlier →
    ReadyAt (λ e. spare e ≡ true) a w earlier → count (spare_by a) w ≡ 0 → Waits (m.rule.distance a) m.rule.patience (count spare w)
waits a lt [] earlier r e rd z = inl refl
waits a lt (x ∷ w) earlier {m = m} (first {o} i) e rd z =
    subst (λ v. Waits (m.rule.distance a) m.rule.patience (count spare v)) (sym (at_opening x w earlier o e)) (inl (omega arith))
waits a lt (x ∷ w) earlier (next {p} {m} y {n} r s) e rd z =
    let tail : p ≡ w ++ earlier = cc in
    let head : called y m.rule n.rule ≡ x = cc in
    let rest : count (spare_by a) w ≡ 0 = omega arith in
    let ne : passes (spare_by a) (run y) ≡ false = ap (λ v. passes (spare_by a) (ran v)) head ∙ one_none (passes (spare_by a) (ran x)) (count (spare_by a) w) z in
    let here = when_ready (λ f. spare f ≡ true) y a _ _ (sym (ready_is r a)) (last_call (λ f. spare f ≡ true) a y m.rule n.rule x w earlier p e rd.0) in
    subst (λ v. Waits (n.rule.distance a) n.rule.patience (one (passes spare (ran v)) + count spare w)) head
    (move_waits m.ready (run y) m.rule n.rule (step_moves y m n s) (within r) a lt here ne (count spare w) (waits a lt w earlier r tail rd.1 rest))

no_spare : (w earlier : List Entry) (f : Ticked → Bool) → w ++ earlier ≡ [] → count f w ≡ 0
no_spare [] earlier f e = refl
no_spare (x ∷ w) earlier f e = let z : ◌≡◌ {A = ℕ} 0 1 = cc in absurd (omega arith)

pub turns_kept : {k : ℕ} {p : List Entry} {m : Meaning} → Alone k p m → SpareTurn p
turns_kept {k} {p} {m} r later w earlier e a lt n rd =
    ⊎_elim
    (λ none_left. absurd (let z = no_spare w earlier spare none_left in omega arith))
    (λ b.
    let ep : (rule_in p).patience ≡ b.0.rule.patience = ap (λ x. x.patience) (sym (rule_is r)) ∙ b.2.patience in
    let never : count (spare_by a) w ≡ 0 → ⊥ =
    λ z. ⊎_elim (λ x. omega arith) (λ x. omega arith) (waits a lt w earlier b.1 refl rd z) in
    ⊎_elim (λ z. absurd (never z)) (λ z. omega arith) (cases_eq (count (spare_by a) w) 0))
    (earlier_level later (w ++ earlier) r e)
