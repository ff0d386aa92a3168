-- What the history of a level says of the level, and what holds of its marks.
use Rattle.std.proofs.Common.{◌≡◌, ℕ, ◌+◌, ◌<◌, ◌≤◌, true, false, ◌&&◌, eqb, ◌⊎◌, List, [], ◌∷◌, ◌++◌, ℤ, pos, ◌+ℤ◌, ◌≤ℤ◌, ◌<ℤ◌, Some, None, Option, sym, refl, ap, ◌∙◌, subst, inl, inr, ⊎_elim, arith}
use Rattle.std.proofs.lemmas.Int.{ints, by_lt_z}
use Rattle.std.proofs.lemmas.Bool.{eqb-true, eqb-false, eq-eqb, ne_eqb, cases_eq, both_ways, cond-true, cond-false, cases_Bool, and_parts, and_from, and_left}
use Rattle.level.specs.declared.ticked.Letter.{Letter}
use Rattle.level.specs.declared.ticked.Letter.TheVariants.{Constrained, Reserved, Spare, Idle}
use Rattle.level.specs.declared.ticked.Ticked.{Ticked}
use Rattle.level.specs.declared.ticket.Ticket.{Ticket}
use Rattle.level.specs.declared.refusal.Refusal.TheVariants.{UnknownActivity, EarlyStart, BadDeadline, SeatUnavailable}
use Rattle.level.specs.Ticks.{one, is, is_none as none, allows as lets}
use Rattle.level.specs.Meaning.{Constraint, Meaning, to_begin, Event, woke, blocked, began, ended, left, collected, told, ticked, refused}
use Rattle.level.specs.Refusals.{Sound, early, in_use, begin_whom, backward}
use Rattle.level.specs.Steps.{Step, Kept, By, Reseated}
use Rattle.level.specs.Together.{Entry, Repeating, Alone, first, next}
use Rattle.level.specs.Promises.{ready_after, ready_in, run, ran, by, is_for, constrained, passes, count, over, clock_after, clock_in, owner_in, rule_in}
use Rattle.level.proofs.Counts.{some_or_not, none_some}

pub same_kept : (m n : Meaning) → n ≡ m → Kept m n
same_kept m n e = record { number = ap (λ x. x.number) e; owner = ap (λ x. x.owner) e; cycle = ap (λ x. x.cycle) e; patience = ap (λ x. x.rule.patience) e }

pub step_kept : (e : Event) (m n : Meaning) → Step m e n → Kept m n
step_kept (woke a) m n s = s.1.kept
step_kept (blocked a) m n s = s.1.kept
step_kept (began k a t e d x) m n s = s.1.beside.kept
step_kept (ended x ran) m n s = s.1.beside.kept
step_kept (left x) m n s = s.1.beside.kept
step_kept (collected k x) m n s = s.1.beside.kept
step_kept (told a u) m n s = same_kept m n s.2
step_kept (ticked e) m n s = s.1.kept
step_kept (refused q r) m n s = same_kept m n s.same

step_ready : (e : Event) (m n : Meaning) → Step m e n → (a : ℕ) → n.ready a ≡ ready_after e a (m.ready a)
step_ready (woke b) m n s a = s.1.ready a
step_ready (blocked b) m n s a = s.1.ready a
step_ready (began k b t e d x) m n s a = ap (λ f. f a) s.1.beside.ready
step_ready (ended x ran) m n s a = ap (λ f. f a) s.1.beside.ready
step_ready (left x) m n s a = ap (λ f. f a) s.1.beside.ready
step_ready (collected k x) m n s a = ap (λ f. f a) s.1.beside.ready
step_ready (told b u) m n s a = ap (λ x. x.ready a) s.2
step_ready (ticked e) m n s a = ap (λ f. f a) s.1.ready
step_ready (refused q r) m n s a = ap (λ x. x.ready a) s.same

pub ready_is : {k : ℕ} {p : List Entry} {m : Meaning} → Alone k p m → (a : ℕ) → m.ready a ≡ ready_in p a
ready_is (first o) a = o.blocked a
ready_is (next {p} {m} e {n} r s) a = step_ready e m n s a ∙ ap (ready_after e a) (ready_is r a)

pub step_clock : (e : Event) (m n : Meaning) → Step m e n → n.clock ≡ clock_after (run e) m.clock
step_clock (woke b) m n s = s.1.clock
step_clock (blocked b) m n s = s.1.clock
step_clock (began k b t e d x) m n s = s.1.beside.clock
step_clock (ended x ran) m n s = s.1.beside.clock
step_clock (left x) m n s = s.1.beside.clock
step_clock (collected k x) m n s = s.1.beside.clock
step_clock (told b u) m n s = ap (λ x. x.clock) s.2
step_clock (ticked e) m n s = s.1.clock ∙ ap (λ t. t +ℤ pos 1) (sym s.1.tick)
step_clock (refused q r) m n s = ap (λ x. x.clock) s.same

pub clock_is : {k : ℕ} {p : List Entry} {m : Meaning} → Alone k p m → m.clock ≡ clock_in p
clock_is (first o) = o.clock
clock_is (next {p} {m} e {n} r s) = step_clock e m n s ∙ ap (clock_after (run e)) (clock_is r)

pub owner_is : {k : ℕ} {p : List Entry} {m : Meaning} → Alone k p m → m.owner ≡ owner_in p
owner_is (first o) = o.owner
owner_is (next {p} {m} e {n} r s) = (step_kept e m n s).owner ∙ owner_is r

pub number_is : {k : ℕ} {p : List Entry} {m : Meaning} → Alone k p m → m.number ≡ k
number_is (first o) = o.number
number_is (next {p} {m} e {n} r s) = (step_kept e m n s).number ∙ number_is r

pub rule_is : {k : ℕ} {p : List Entry} {m : Meaning} → Alone k p m → m.rule ≡ rule_in p
rule_is (first o) = o.rule
rule_is (next e r s) = refl

-- what stood before the last entries: nothing, or the level as it was then
pub earlier_level : (later rest : List Entry) {k : ℕ} {p : List Entry} {m : Meaning} → Alone k p m → p ≡ later ++ rest → (rest ≡ []) ⊎ ((n : Meaning) × Alone k rest n × Kept n m)
earlier_level [] rest {k} {p} {m} r e = inr (m, subst (λ x. Alone k x m) e r, same_kept m m refl)
earlier_level (x ∷ later) rest (first o) e = inl (nothing_left later rest cc)
  where
    nothing_left : (later rest : List Entry) → [] ≡ later ++ rest → rest ≡ []
    nothing_left [] rest e = sym e
    nothing_left (x ∷ later) rest e = let z : ◌≡◌ {A = ℕ} 0 1 = cc in absurd (omega arith)
earlier_level (x ∷ later) rest (next {p} {m} y {n} r s) e =
    let tail : p ≡ later ++ rest = cc in
    let k = step_kept y m n s in
    ⊎_elim inl
    (λ b. inr (b.0, b.1, record { number = k.number ∙ b.2.number; owner = k.owner ∙ b.2.owner; cycle = k.cycle ∙ b.2.cycle; patience = k.patience ∙ b.2.patience }))
    (earlier_level later rest r tail)

-- The seats.

-- a seat in use has the same constraint, which has run f more ticks
pub record SameSeat (h : Constraint) (n : Meaning) (s f : ℕ) : Type 0 where
  pub held : Constraint
  pub seat : n.seats s ≡ Some held
  pub activity : held.activity ≡ h.activity
  pub start : held.start ≡ h.start
  pub deadline : held.deadline ≡ h.deadline
  pub ran : held.ran ≡ f + h.ran

stays : (h : Constraint) (n : Meaning) (s f : ℕ) → f ≡ 0 → n.seats s ≡ Some h → SameSeat h n s f
stays h n s f z e = record { held = h; seat = e; activity = refl; start = refl; deadline = refl; ran = omega arith }

-- one seat's record changes, but not its constraint
reseated :
    (m n : Meaning) (k : ℕ) (was to : Constraint) → m.seats k ≡ Some was → Reseated m k (Some to) n →
    to.activity ≡ was.activity → to.start ≡ was.start → to.deadline ≡ was.deadline →
    (s f : ℕ) (h : Constraint) → m.seats s ≡ Some h → (s ≡ k → to.ran ≡ f + was.ran) → ((s ≡ k → ⊥) → f ≡ 0) → SameSeat h n s f
reseated m n k was to at r ea es ed s f h e on off =
    ⊎_elim
    (λ q.
    let same : was ≡ h = let f : m.seats s ≡ Some was = ap m.seats q ∙ at in cc in
    record {
      held = to;
      seat = ap n.seats q ∙ r.seat;
      activity = ea ∙ ap (λ x. x.activity) same;
      start = es ∙ ap (λ x. x.start) same;
      deadline = ed ∙ ap (λ x. x.deadline) same;
      ran = on q ∙ ap (λ x. f + x.ran) same;
    })
    (λ ne. stays h n s f (off ne) (r.others s ne ∙ e))
    (cases_eq s k)

tick_seat : (l : Letter) (o : Option ℕ) (m n : Meaning) → By m l o n → (s : ℕ) (h : Constraint) → m.seats s ≡ Some h → SameSeat h n s (one (is_for s l && is h.activity o))
tick_seat (Constrained j) None m n b s h e = absurd b
tick_seat (Constrained j) (Some a) m n b s h e = reseated m n j b.0.held _ b.0.seat b.1 refl refl refl s _ h e on off
  where
    on : s ≡ j → b.0.held.ran + 1 ≡ one (eqb j s && eqb a h.activity) + b.0.held.ran
    on q =
        let same : b.0.held ≡ h = let x : m.seats s ≡ Some b.0.held = ap m.seats q ∙ b.0.seat in cc in
        let t : one (eqb j s && eqb a h.activity) ≡ 1 =
        ap one (and_from (eqb j s) (eqb a h.activity) (eq-eqb j s (sym q)) (eq-eqb a h.activity (b.0.activity ∙ ap (λ x. x.activity) same))) in
        omega arith

    off : (s ≡ j → ⊥) → one (eqb j s && eqb a h.activity) ≡ 0
    off ne = ap one (and_left (eqb j s) (eqb a h.activity) (ne_eqb j s (λ q. ne (sym q))))
tick_seat Reserved None m n b s h e = absurd b
tick_seat Reserved (Some a) m n b s h e = stays h n s 0 refl (ap (λ f. f s) b.1 ∙ e)
tick_seat Spare None m n b s h e = absurd b
tick_seat Spare (Some a) m n b s h e = stays h n s 0 refl (ap (λ f. f s) b.1 ∙ e)
tick_seat Idle None m n b s h e = stays h n s 0 refl (ap (λ f. f s) b.1 ∙ e)
tick_seat Idle (Some a) m n b s h e = absurd b

pub step_seat : (e : Event) (m n : Meaning) → Step m e n → (s : ℕ) (h : Constraint) → m.seats s ≡ Some h → is s (over e) ≡ false →
    SameSeat h n s (one (passes (constrained s h.activity) (run e)))
step_seat (woke b) m n st s h e u = stays h n s 0 refl (ap (λ f. f s) st.1.seats ∙ e)
step_seat (blocked b) m n st s h e u = stays h n s 0 refl (ap (λ f. f s) st.1.seats ∙ e)
step_seat (began k b t es d x) m n st s h e u =
    stays h n s 0 refl (st.1.seat.others s (λ q. st.0 SeatUnavailable (in_use {h = h} (ap m.seats (sym q) ∙ e))) ∙ e)
step_seat (ended x ran) m n st s h e u = stays h n s 0 refl (st.1.seat.others s (λ q. eqb-false x.seat s u (sym q)) ∙ e)
step_seat (left x) m n st s h e u = reseated m n x.seat st.1.was _ st.1.at st.1.seat refl refl refl s 0 h e (λ q. omega arith) (λ q. refl)
step_seat (collected k x) m n st s h e u = reseated m n k st.1.was _ st.1.at st.1.seat refl refl refl s 0 h e (λ q. omega arith) (λ q. refl)
step_seat (told b c) m n st s h e u = stays h n s 0 refl (ap (λ x. x.seats s) st.2 ∙ e)
step_seat (ticked t) m n st s h e u = tick_seat t.letter t.runner m n st.1.by s h e
step_seat (refused q r) m n st s h e u = stays h n s 0 refl (ap (λ x. x.seats s) st.same ∙ e)

-- The marks.

-- a mark lies at or after the clock, in its seat's span, on a tick that its seat's activity owns or that is free
pub record FitsAt (m : Meaning) (t : ℤ) (s : ℕ) : Type 0 where
  pub held : Constraint
  pub seat : m.seats s ≡ Some held
  pub now : m.clock ≤ℤ t
  pub from : held.start ≤ℤ t
  pub to : t <ℤ held.deadline
  pub owner : lets held.activity (m.owner t) ≡ true

abbrev pub Fits : Meaning → Type 0
Fits m = (t : ℤ) (s : ℕ) → m.marks t ≡ Some s → FitsAt m t s

-- the same mark in the next level
fits_on :
    (m n : Meaning) (t : ℤ) (s c : ℕ) (f : FitsAt m t s) → SameSeat f.held n s c → n.owner ≡ m.owner → n.clock ≤ℤ t → FitsAt n t s
fits_on m n t s c f g eo le =
    let l = f.from in
    let u = f.to in
    let es = g.start in
    let ed = g.deadline in
    record {
      held = g.held;
      seat = g.seat;
      now = le;
      from = subst (λ x. x ≤ℤ t) (sym es) l;
      to = subst (λ x. t <ℤ x) (sym ed) u;
      owner = ap (λ a. lets a (n.owner t)) g.activity ∙ ap (λ w. lets f.held.activity (w t)) eo ∙ f.owner;
    }

abbrev le_now : (m n : Meaning) (t : ℤ) → n.clock ≡ m.clock → m.clock ≤ℤ t → n.clock ≤ℤ t
le_now m n t e l = subst (λ c. c ≤ℤ t) (sym e) l

-- where a seat in use keeps its constraint, and the marks are as they were
fits_same : (e : Event) (m n : Meaning) → Step m e n → over e ≡ None → n.clock ≡ m.clock → n.marks ≡ m.marks → Fits m → Fits n
fits_same e m n st ov ec em fit t s mk =
    let f = fit t s (ap (λ g. g t) (sym em) ∙ mk) in
    fits_on m n t s _ f (step_seat e m n st s f.held f.seat (ap (is s) ov)) (step_kept e m n st).owner (le_now m n t ec f.now)

-- what a sound begin has
pub begin_from : (m : Meaning) (s a : ℕ) (t : ℤ) (e : ℕ) (d : ℤ) → Sound m (to_begin s a t e d) → m.clock ≤ℤ t
begin_from m s a t e d ok = by_lt_z t m.clock (λ l. absurd (ok EarlyStart (early l))) (λ l. l)

pub begin_to : (m : Meaning) (s a : ℕ) (t : ℤ) (e : ℕ) (d : ℤ) → Sound m (to_begin s a t e d) → t <ℤ d
begin_to m s a t e d ok = by_lt_z t d (λ l. l) (λ l. absurd (ok BadDeadline (backward l)))

pub begin_whom_below : (m : Meaning) (s a : ℕ) (t : ℤ) (e : ℕ) (d : ℤ) → Sound m (to_begin s a t e d) → a < 16
begin_whom_below m s a t e d ok = ⊎_elim (λ l. l) (λ l. absurd (ok UnknownActivity (begin_whom (omega arith)))) (cases_lt a 16)
  where
    cases_lt : (x y : ℕ) → (x < y) ⊎ (y ≤ x)
    cases_lt x y = Rattle.std.proofs.lemmas.Bool.cases_lt x y

began_fits : (k a : ℕ) (v : ℤ) (es : ℕ) (d : ℤ) (x : Ticket) (m n : Meaning) → Step m (began k a v es d x) n → Fits m → Fits n
began_fits k a v es d x m n st fit t s mk = ⊎_elim chosen old (cases_Bool (st.1.chosen t))
  where
    old : st.1.chosen t ≡ false → FitsAt n t s
    old not =
        let f = fit t s (sym (st.1.marks t ∙ cond-false (st.1.chosen t) (Some k) (m.marks t) not) ∙ mk) in
        fits_on m n t s _ f (step_seat (began k a v es d x) m n st s f.held f.seat refl) st.1.beside.kept.owner (le_now m n t st.1.beside.clock f.now)

    chosen : st.1.chosen t ≡ true → FitsAt n t s
    chosen took =
        let is-k : Some k ≡ Some s = sym (st.1.marks t ∙ cond-true (st.1.chosen t) (Some k) (m.marks t) took) ∙ mk in
        let ks : k ≡ s = cc in
        let av = and_parts (none (m.marks t)) (lets a (m.owner t)) (st.1.choice.among t took) in
        let l = begin_from m k a v es d st.0 in
        let f = st.1.choice.from t took in
        record {
          held = record { activity = a; start = v; deadline = d; estimate = es; ran = 0; out = true };
          seat = ap n.seats (sym ks) ∙ st.1.seat.seat;
          now = le_now m n t st.1.beside.clock (omega (arith, ints));
          from = f;
          to = st.1.choice.to t took;
          owner = ap (λ w. lets a (w t)) st.1.beside.kept.owner ∙ av.1;
        }

ended_fits : (x : Ticket) (ran : ℕ) (m n : Meaning) → Step m (ended x ran) n → Fits m → Fits n
ended_fits x ran m n st fit t s mk =
    ⊎_elim
    (λ e. absurd (none_some (n.marks t) s (st.1.gone t e) mk))
    (λ ne.
    let was : m.marks t ≡ Some s = sym (st.1.others t ne) ∙ mk in
    let f = fit t s was in
    fits_on m n t s _ f
    (step_seat (ended x ran) m n st s f.held f.seat (ne_eqb x.seat s (λ q. ne (was ∙ ap Some (sym q)))))
    st.1.beside.kept.owner (le_now m n t st.1.beside.clock f.now))
    (some_or_not x.seat (m.marks t))

ticked_fits : (y : Ticked) (m n : Meaning) → Step m (ticked y) n → Fits m → Fits n
ticked_fits y m n st fit t s mk =
    let ne : t ≡ m.clock → ⊥ = λ e. none_some (n.marks t) s (ap n.marks e ∙ st.1.spent) mk in
    let f = fit t s (sym (st.1.others t ne) ∙ mk) in
    let l = f.now in
    let c = st.1.clock in
    fits_on m n t s _ f (step_seat (ticked y) m n st s f.held f.seat refl) st.1.kept.owner
    (by_lt_z m.clock t (λ h. subst (λ z. z ≤ℤ t) (sym c) (omega (arith, ints))) (λ h. absurd (ne (omega (arith, ints)))))

pub step_fits : (e : Event) (m n : Meaning) → Step m e n → Fits m → Fits n
step_fits (woke b) m n st = fits_same (woke b) m n st refl st.1.clock st.1.marks
step_fits (blocked b) m n st = fits_same (blocked b) m n st refl st.1.clock st.1.marks
step_fits (began k a v es d x) m n st = began_fits k a v es d x m n st
step_fits (ended x ran) m n st = ended_fits x ran m n st
step_fits (left x) m n st = fits_same (left x) m n st refl st.1.beside.clock st.1.marks
step_fits (collected k x) m n st = fits_same (collected k x) m n st refl st.1.beside.clock st.1.marks
step_fits (told b c) m n st = fits_same (told b c) m n st refl (ap (λ x. x.clock) st.2) (ap (λ x. x.marks) st.2)
step_fits (ticked y) m n st = ticked_fits y m n st
step_fits (refused q r) m n st = fits_same (refused q r) m n st refl (ap (λ x. x.clock) st.same) (ap (λ x. x.marks) st.same)

pub fits : {k : ℕ} {p : List Entry} {m : Meaning} → Alone k p m → Fits m
fits {m = m} (first o) = λ t s mk. absurd (none_some (m.marks t) s (o.unmarked t) mk)
fits (next {p} {m} e {n} r s) = step_fits e m n s (fits r)

step_used : (e : Event) (m n : Meaning) → Step m e n → (a : ℕ) → n.used a ≡ one (passes (by a) (run e)) + m.used a
step_used (woke b) m n s a = ap (λ f. f a) s.1.used ∙ omega arith
step_used (blocked b) m n s a = ap (λ f. f a) s.1.used ∙ omega arith
step_used (began k b t e d x) m n s a = ap (λ f. f a) s.1.beside.used ∙ omega arith
step_used (ended x r) m n s a = ap (λ f. f a) s.1.beside.used ∙ omega arith
step_used (left x) m n s a = ap (λ f. f a) s.1.beside.used ∙ omega arith
step_used (collected k x) m n s a = ap (λ f. f a) s.1.beside.used ∙ omega arith
step_used (told b c) m n s a = ap (λ x. x.used a) s.2 ∙ omega arith
step_used (ticked e) m n s a = s.1.used a
step_used (refused q r) m n s a = ap (λ x. x.used a) s.same ∙ omega arith

pub used_is : {k : ℕ} {p : List Entry} {m : Meaning} → Alone k p m → (a : ℕ) → m.used a ≡ count (by a) p
used_is (first o) a = o.idle a ∙ omega arith
used_is (next {p} {m} e {n} r s) a = let i = used_is r a in let x = step_used e m n s a in omega arith

-- the timetable keeps its laws
pub repeating : {k : ℕ} {p : List Entry} {m : Meaning} → Alone k p m → Repeating m.owner m.cycle
repeating {m = m} (first {o} i) = subst (λ f. Repeating f m.cycle) (sym i.owner) (subst (λ c. Repeating o.owner c) (sym i.cycle) i.repeating)
repeating (next {p} {m} e {n} r s) =
    let k = step_kept e m n s in
    subst (λ f. Repeating f n.cycle) (sym k.owner) (subst (λ c. Repeating m.owner c) (sym k.cycle) (repeating r))
