-- The holder runs its share.
use Rattle.std.proofs.Common.{◌≡◌, ℕ, suc, ◌+◌, ◌<◌, ◌≤◌, Bool, true, false, cond, eqb, List, [], ◌∷◌, ◌++◌, ℤ, pos, ◌+ℤ◌, Some, None, Option, sym, refl, ap, ◌∙◌, subst, ⊎_elim, zero-add, one-add, arith}
use Rattle.std.proofs.lemmas.Int.{ints}
use Rattle.std.proofs.lemmas.Bool.{eqb-true, both_ways}
use Rattle.level.specs.declared.ticked.Letter.{Letter}
use Rattle.level.specs.declared.ticked.Letter.TheVariants.{Constrained, Reserved, Spare, Idle}
use Rattle.level.specs.declared.ticked.Ticked.{Ticked}
use Rattle.reservation.specs.Windows.{is_owner, owned_at, owned}
use Rattle.reservation.specs.Reservations
use Rattle.reservation.specs.Reservations.{Passes}
use Rattle.level.specs.Ticks.{one, is, allows as lets}
use Rattle.level.specs.Meaning.{Rule, Meaning, Event, woke, blocked, began, ended, left, collected, told, ticked, refused}
use Rattle.level.specs.Steps.{Step, By, ByNeither}
use Rattle.level.specs.Together.{Opening, Entry, opened, called, Alone, first, next}
use Rattle.level.specs.Promises.{ready_in, run, ran, passes, any, by, count, When, ReadyAt, Share, owner_in}
use Rattle.level.proofs.Counts.{not_some}
use Rattle.level.proofs.Alones.{ready_is, owner_is, earlier_level, Fits, fits}

-- whom the owner of a tick lets mark it: itself
lets_own : (b a : ℕ) (o : Option ℕ) → lets b o ≡ true → one (is a o) ≤ one (eqb b a)
lets_own b a None h = omega arith
lets_own b a (Some c) h = let e : one (eqb c a) ≡ one (eqb b a) = ap (λ x. one (eqb x a)) (eqb-true c b h) in omega arith

lets_some : (b a : ℕ) (o : Option ℕ) → lets b o ≡ true → o ≡ Some a → b ≡ a
lets_some b a None h e = let z : ◌≡◌ {A = ℕ} 0 1 = cc in absurd (omega arith)
lets_some b a (Some c) h e = sym (eqb-true c b h) ∙ cc

-- where no rule gives the tick, its owner isn't ready
unowned : (m : Meaning) → Fits m → ByNeither m → (a : ℕ) → m.ready a ≡ true → m.owner m.clock ≡ Some a → ⊥
unowned m fit b a rd e = go (m.marks m.clock) refl
  where
    go : (o : Option ℕ) → m.marks m.clock ≡ o → ⊥
    go None q = both_ways _ (b.unowned q a e) rd
    go (Some s) q =
        let f = fit m.clock s q in
        let same : f.held.activity ≡ a = lets_some f.held.activity a (m.owner m.clock) f.owner e in
        both_ways _ (ap m.ready (sym same) ∙ b.unmarked s f.held q f.seat) rd

-- the owner of a tick runs it if it is ready, marked or not
own_tick :
    (l : Letter) (o : Option ℕ) (m n : Meaning) → By m l o n → Fits m → (a : ℕ) → a < 16 → m.ready a ≡ true →
    one (is a (m.owner m.clock)) ≤ one (is a o)
own_tick (Constrained s) None m n b fit a lt rd = absurd b
own_tick (Constrained s) (Some c) m n b fit a lt rd =
    let f = fit m.clock s b.0.mark in
    let same : f.held ≡ b.0.held = let x = f.seat in let y = b.0.seat in cc in
    let act : f.held.activity ≡ c = ap (λ h. h.activity) same ∙ sym b.0.activity in
    lets_own c a (m.owner m.clock) (subst (λ x. lets x (m.owner m.clock) ≡ true) act f.owner)
own_tick Reserved None m n b fit a lt rd = absurd b
own_tick Reserved (Some c) m n b fit a lt rd = let e : one (is a (m.owner m.clock)) ≡ one (is a (Some c)) = ap (λ o. one (is a o)) b.0.owner in omega arith
own_tick Spare None m n b fit a lt rd = absurd b
own_tick Spare (Some c) m n b fit a lt rd =
    let e : one (is a (m.owner m.clock)) ≡ 0 = ap one (not_some a (m.owner m.clock) (unowned m fit b.0.neither a rd)) in omega arith
own_tick Idle None m n b fit a lt rd = absurd (both_ways _ (b.0 a) rd)
own_tick Idle (Some c) m n b fit a lt rd = absurd b

-- a tick counts for its owner
owned_one : (a : ℕ) (o : Option ℕ) → cond (is_owner o a) 1 0 ≡ one (is a o)
owned_one a None = refl
owned_one a (Some b) = by_bool (eqb b a)
  where
    by_bool : (c : Bool) → cond c 1 0 ≡ one c
    by_bool true = refl
    by_bool false = refl

-- the clock before a stretch, and how much of the stretch an activity owns and runs
abbrev SharesT : Meaning → ℕ → ℕ → ℕ → Type 0
SharesT m a k c = (t : ℤ) × (m.clock ≡ t +ℤ pos k) × (owned m.owner a t k ≤ c)

same_shares : (a : ℕ) (m n : Meaning) → n.clock ≡ m.clock → n.owner ≡ m.owner → (k c : ℕ) → SharesT m a k c → SharesT n a (0 + k) (0 + c)
same_shares a m n ec eo k c sh =
    let own : owned n.owner a sh.0 (0 + k) ≤ c =
    subst (λ f. owned f a sh.0 (0 + k) ≤ c) (sym eo) (subst (λ j. owned m.owner a sh.0 j ≤ c) (sym (zero-add k)) sh.2) in
    (sh.0, ec ∙ sh.1 ∙ ap (λ j. sh.0 +ℤ pos j) (sym (zero-add k)), omega arith)

tick_shares :
    (a : ℕ) (m n : Meaning) → n.clock ≡ m.clock +ℤ pos 1 → n.owner ≡ m.owner → (k c d : ℕ) → one (is a (m.owner m.clock)) ≤ d →
    SharesT m a k c → SharesT n a (1 + k) (d + c)
tick_shares a m n ec eo k c d le sh =
    let t = sh.0 in
    let e : m.clock ≡ t +ℤ pos k = sh.1 in
    let at : owned_at m.owner a (t +ℤ pos k) ≡ one (is a (m.owner m.clock)) = owned_one a (m.owner (t +ℤ pos k)) ∙ ap (λ u. one (is a (m.owner u))) (sym e) in
    let below : owned m.owner a t (suc k) ≤ d + c = omega (arith, at, sh.2, le) in
    let own : owned n.owner a t (1 + k) ≤ d + c =
    subst (λ f. owned f a t (1 + k) ≤ d + c) (sym eo) (subst (λ j. owned m.owner a t j ≤ d + c) (sym (one-add k)) below) in
    let clock : n.clock ≡ t +ℤ pos (1 + k) = ec ∙ ap (λ u. u +ℤ pos 1) e ∙ omega (arith, ints) in
    (t, clock, own)

abbrev tests : Event → (Ticked → Bool) → ℕ
tests e f = one (passes f (run e))

step_shares :
    (e : Event) (m n : Meaning) → Step m e n → Fits m → (a : ℕ) → a < 16 → When (run e) (λ f. Unit {0} → m.ready a ≡ true) →
    (k c : ℕ) → SharesT m a k c → SharesT n a (tests e any + k) (tests e (by a) + c)
step_shares (woke b) m n s fit a lt rd k c sh = same_shares a m n s.1.clock s.1.kept.owner k c sh
step_shares (blocked b) m n s fit a lt rd k c sh = same_shares a m n s.1.clock s.1.kept.owner k c sh
step_shares (began j b t e d x) m n s fit a lt rd k c sh = same_shares a m n s.1.beside.clock s.1.beside.kept.owner k c sh
step_shares (ended x r) m n s fit a lt rd k c sh = same_shares a m n s.1.beside.clock s.1.beside.kept.owner k c sh
step_shares (left x) m n s fit a lt rd k c sh = same_shares a m n s.1.beside.clock s.1.beside.kept.owner k c sh
step_shares (collected j x) m n s fit a lt rd k c sh = same_shares a m n s.1.beside.clock s.1.beside.kept.owner k c sh
step_shares (told b u) m n s fit a lt rd k c sh = same_shares a m n (ap (λ x. x.clock) s.2) (ap (λ x. x.owner) s.2) k c sh
step_shares (ticked e) m n s fit a lt rd k c sh =
    tick_shares a m n s.1.clock s.1.kept.owner k c _ (own_tick e.letter e.runner m n s.1.by fit a lt (rd tt)) sh
step_shares (refused q r) m n s fit a lt rd k c sh = same_shares a m n (ap (λ x. x.clock) s.same) (ap (λ x. x.owner) s.same) k c sh

-- a stretch that begins at the opening and has no more
pub at_opening : (x : Entry) (w earlier : List Entry) (o : Opening) → opened o ∷ [] ≡ x ∷ (w ++ earlier) → x ∷ w ≡ opened o ∷ []
at_opening x [] earlier o e = let f : x ≡ opened o = cc in ap (λ y. y ∷ []) f
at_opening x (y ∷ w) earlier o e = let z : ◌≡◌ {A = ℕ} 0 1 = cc in absurd (omega arith)

-- readiness by the list is the level's
pub when_ready : (K : Ticked → Type 0) (e : Event) (a : ℕ) (b b' : Bool) → b ≡ b' → When (run e) (λ f. K f → b ≡ true) → When (run e) (λ f. K f → b' ≡ true)
when_ready K e a b b' q h = subst (λ x. When (run e) (λ f. K f → x ≡ true)) q h

-- a stretch's last entry is the last call
pub last_call :
    (K : Ticked → Type 0) (a : ℕ) (e : Event) (r r' : Rule) (x : Entry) (w earlier p : List Entry) → called e r r' ∷ p ≡ x ∷ (w ++ earlier) →
    When (ran x) (λ f. K f → ready_in (w ++ earlier) a ≡ true) → When (run e) (λ f. K f → ready_in p a ≡ true)
last_call K a e r r' x w earlier p q h =
    let head : x ≡ called e r r' = cc in
    let tail : w ++ earlier ≡ p = cc in
    subst (λ z. When (run e) (λ f. K f → ready_in z a ≡ true)) tail (subst (λ y. When (ran y) (λ f. K f → ready_in (w ++ earlier) a ≡ true)) head h)

pub shares :
    (a : ℕ) → a < 16 → (w earlier : List Entry) {k : ℕ} {p : List Entry} {m : Meaning} → Alone k p m → p ≡ w ++ earlier →
    ReadyAt (λ e. Unit {0}) a w earlier → SharesT m a (count any w) (count (by a) w)
shares a lt [] earlier {k} {p} {m} r e rd = (m.clock, omega (arith, ints), omega arith)
shares a lt (x ∷ w) earlier {m = m} (first {o} i) e rd =
    subst (λ v. SharesT m a (count any v) (count (by a) v)) (sym (at_opening x w earlier o e))
    (m.clock, omega (arith, ints), omega arith)
shares a lt (x ∷ w) earlier (next {p} {m} y {n} r s) e rd =
    let tail : p ≡ w ++ earlier = cc in
    let head : called y m.rule n.rule ≡ x = cc in
    let here = when_ready (λ f. Unit {0}) y a _ _ (sym (ready_is r a)) (last_call (λ f. Unit {0}) a y m.rule n.rule x w earlier p e rd.0) in
    subst (λ v. SharesT n a (one (passes any (ran v)) + count any w) (one (passes (by a) (ran v)) + count (by a) w)) head
    (step_shares y m n s (fits r) a lt here (count any w) (count (by a) w) (shares a lt w earlier r tail rd.1))

nothing_run : (w earlier : List Entry) (f : Ticked → Bool) → w ++ earlier ≡ [] → count f w ≡ 0
nothing_run [] earlier f e = refl
nothing_run (x ∷ w) earlier f e = let z : ◌≡◌ {A = ℕ} 0 1 = cc in absurd (omega arith)

-- the same of one activity and its numbers
share_of :
    {k : ℕ} {p : List Entry} {m : Meaning} → Alone k p m → (later w earlier : List Entry) → p ≡ later ++ (w ++ earlier) →
    (a x y : ℕ) → a < 16 → ((t : ℤ) → x ≤ owned (owner_in p) a t y) → count any w ≡ y → ReadyAt (λ e. Unit {0}) a w earlier → x ≤ count (by a) w
share_of {k} {p} {m} r later w earlier e a x y lt served n rd =
    ⊎_elim
    (λ none_left.
    let z : y ≡ 0 = sym n ∙ nothing_run w earlier any none_left in
    let s : x ≤ owned (owner_in p) a (pos 0) 0 = subst (λ v. x ≤ owned (owner_in p) a (pos 0) v) z (served (pos 0)) in
    omega arith)
    (λ b.
    let sh = shares a lt w earlier b.1 refl rd in
    let eo : b.0.owner ≡ owner_in p = sym b.2.owner ∙ owner_is r in
    let own : owned (owner_in p) a sh.0 y ≤ count (by a) w =
    subst (λ f. owned f a sh.0 y ≤ count (by a) w) eo (subst (λ v. owned b.0.owner a sh.0 v ≤ count (by a) w) n sh.2) in
    omega (arith, served sh.0, own))
    (earlier_level later (w ++ earlier) r e)

pub share_kept : {k : ℕ} {p : List Entry} {m : Meaning} → Alone k p m → Share p
share_kept r later w earlier e rs pass k lt n rd =
    let low = (pass.ranged k lt).0 in
    share_of r later w earlier e (Reservations.at rs k).activity (Reservations.at rs k).ticks (Reservations.at rs k).period (omega arith) (pass.served k lt) n rd
