-- A constraint has run what it asked for when the clock is at its deadline.
use Rattle.std.proofs.Common.{◌≡◌, ℕ, suc, ◌+◌, ◌<◌, Bool, true, false, ◌&&◌, eqb, List, [], ◌∷◌, ◌++◌, ℤ, pos, ◌+ℤ◌, ◌-ℤ◌, nat_abs, ◌≤ℤ◌, ◌<ℤ◌, Some, None, Option, sym, refl, ap, ◌∙◌, subst, ⊎_elim, arith}
use Rattle.std.proofs.lemmas.Int.{ints}
use Rattle.std.proofs.lemmas.Bool.{eq-eqb, ne_eqb, cases_eq, both_ways, cond-true, cond-false, cases_Bool, and_parts, and_from, and_left}
use Rattle.level.specs.declared.ticked.Letter.{Letter}
use Rattle.level.specs.declared.ticked.Letter.TheVariants.{Constrained, Reserved, Spare, Idle}
use Rattle.level.specs.declared.ticket.Ticket.{Ticket}
use Rattle.level.specs.declared.refusal.Refusal.TheVariants.{SeatUnavailable}
use Rattle.level.specs.Ticks.{one, is, is_none as none, allows as lets}
use Rattle.level.specs.Meaning.{Constraint, Rule, Meaning, Event, woke, blocked, began, ended, left, collected, told, ticked, refused}
use Rattle.level.specs.Refusals.{in_use}
use Rattle.level.specs.Steps.{Step, By}
use Rattle.level.specs.Together.{Entry, called, Alone, first, next}
use Rattle.level.specs.Promises.{run, ran, over, ends, is_for, constrained, passes, count, When, ReadyAt, Unended, Deadline, EndCount, clock_in}
use Rattle.level.proofs.Counts.{along, along_ext, along_skip, tally_along, offset, some_is, not_some, some_or_not}
use Rattle.level.proofs.Alones.{ready_is, clock_is, earlier_level, Fits, fits, step_seat, begin_from, begin_to, begin_whom_below}
use Rattle.level.proofs.Shares.{last_call, when_ready}

-- seat s has the tick
abbrev has : Meaning → ℕ → ℤ → Bool
has m s u = is s (m.marks u)

-- the constraint of the seat s: what it has run and its marks to come are what it asked for
record Due (m : Meaning) (s a : ℕ) (t d : ℤ) (e c : ℕ) : Type 0 where
  pub below : a < 16
  pub held : Constraint
  pub seat : m.seats s ≡ Some held
  pub activity : held.activity ≡ a
  pub start : held.start ≡ t
  pub sum : (n : ℕ) → m.clock +ℤ pos n ≡ d → c + along (has m s) m.clock n ≡ e

none_has : (s : ℕ) (o : Option ℕ) → none o ≡ true → is s o ≡ false
none_has s None e = refl
none_has s (Some b) e = absurd (both_ways false refl e)

-- no other call than its own end and a tick touches the marks of a seat in use
begin_marks : (k a : ℕ) (v : ℤ) (es : ℕ) (d : ℤ) (x : Ticket) (m n : Meaning) → Step m (began k a v es d x) n → (s : ℕ) (h : Constraint) → m.seats s ≡ Some h → (u : ℤ) → has n s u ≡ has m s u
begin_marks k a v es d x m n st s h e u = ⊎_elim chosen old (cases_Bool (st.1.chosen u))
  where
    old : st.1.chosen u ≡ false → has n s u ≡ has m s u
    old f = ap (is s) (st.1.marks u ∙ cond-false (st.1.chosen u) (Some k) (m.marks u) f)

    chosen : st.1.chosen u ≡ true → has n s u ≡ has m s u
    chosen f =
        let free = and_parts (none (m.marks u)) (lets a (m.owner u)) (st.1.choice.among u f) in
        ap (is s) (st.1.marks u ∙ cond-true (st.1.chosen u) (Some k) (m.marks u) f)
        ∙ ne_eqb k s (λ q. st.0 SeatUnavailable (in_use {h = h} (ap m.seats q ∙ e)))
        ∙ sym (none_has s (m.marks u) free.0)

end_marks : (x : Ticket) (r : ℕ) (m n : Meaning) → Step m (ended x r) n → (s : ℕ) → eqb x.seat s ≡ false → (u : ℤ) → has n s u ≡ has m s u
end_marks x r m n st s ne u =
    ⊎_elim
    (λ q. ap (is s) (st.1.gone u q) ∙ sym (ap (is s) q ∙ ne))
    (λ q. ap (is s) (st.1.others u q))
    (some_or_not x.seat (m.marks u))

-- a call that runs no tick
calm : (m n : Meaning) (s a : ℕ) (t d : ℤ) (e c : ℕ) → n.clock ≡ m.clock → ((u : ℤ) → has n s u ≡ has m s u) →
    ((k : ℕ) → m.clock +ℤ pos k ≡ d → c + along (has m s) m.clock k ≡ e) →
    (k : ℕ) → n.clock +ℤ pos k ≡ d → (0 + c) + along (has n s) n.clock k ≡ e
calm m n s a t d e c ec same sum k at =
    let x = sum k (ap (λ z. z +ℤ pos k) (sym ec) ∙ at) in
    let y : along (has n s) n.clock k ≡ along (has m s) m.clock k =
    along_ext (has n s) (has m s) k n.clock (λ u l. same u) ∙ ap (λ z. along (has m s) z k) ec in
    omega arith

-- at a tick: it is answered c for the seat exactly where the seat has the mark
tick_right :
    (l : Letter) (o : Option ℕ) (m n : Meaning) → By m l o n → (s a : ℕ) → a < 16 → (h : Constraint) → m.seats s ≡ Some h → h.activity ≡ a →
    (m.marks m.clock ≡ Some s → m.ready a ≡ true) → is_for s l && is a o ≡ has m s m.clock
tick_right (Constrained j) None m n b s a lt h e ea rd = absurd b
tick_right (Constrained j) (Some c) m n b s a lt h e ea rd =
    ⊎_elim
    (λ q.
    let same : b.0.held ≡ h = let x : m.seats s ≡ Some b.0.held = ap m.seats (sym q) ∙ b.0.seat in cc in
    and_from (eqb j s) (eqb c a) (eq-eqb j s q) (eq-eqb c a (b.0.activity ∙ ap (λ x. x.activity) same ∙ ea)) ∙ sym (some_is s (m.marks m.clock) (b.0.mark ∙ ap Some q)))
    (λ q. and_left (eqb j s) (eqb c a) (ne_eqb j s q) ∙ sym (ap (is s) b.0.mark ∙ ne_eqb j s q))
    (cases_eq j s)
tick_right Reserved None m n b s a lt h e ea rd = absurd b
tick_right Reserved (Some c) m n b s a lt h e ea rd = sym (ap (is s) b.0.unmarked)
tick_right Spare None m n b s a lt h e ea rd = absurd b
tick_right Spare (Some c) m n b s a lt h e ea rd =
    sym (not_some s (m.marks m.clock) (λ q. both_ways _ (ap m.ready (sym ea) ∙ b.0.neither.unmarked s h q e) (rd q)))
tick_right Idle None m n b s a lt h e ea rd = sym (not_some s (m.marks m.clock) (λ q. both_ways _ (b.0 a) (rd q)))
tick_right Idle (Some c) m n b s a lt h e ea rd = absurd b

tick_sum :
    (m n : Meaning) (s : ℕ) (d : ℤ) (e c : ℕ) (b : Bool) → n.clock ≡ m.clock +ℤ pos 1 → ((u : ℤ) → (u ≡ m.clock → ⊥) → has n s u ≡ has m s u) →
    b ≡ has m s m.clock → ((k : ℕ) → m.clock +ℤ pos k ≡ d → c + along (has m s) m.clock k ≡ e) →
    (k : ℕ) → n.clock +ℤ pos k ≡ d → (one b + c) + along (has n s) n.clock k ≡ e
tick_sum m n s d e c b ec same eb sum k at =
    let to : m.clock +ℤ pos (suc k) ≡ d = omega (arith, ints) in
    let x = sum (suc k) to in
    let y : along (has n s) n.clock k ≡ along (has m s) (m.clock +ℤ pos 1) k =
    along_ext (has n s) (has m s) k n.clock (λ u l. same u (λ q. omega (arith, ints))) ∙ ap (λ z. along (has m s) z k) ec in
    let z : one b ≡ one (has m s m.clock) = ap one eb in
    omega arith

step_sum :
    (y : Event) (m n : Meaning) → Step m y n → Fits m → (s a : ℕ) (t d : ℤ) (e c : ℕ) → (i : Due m s a t d e c) → is s (over y) ≡ false →
    When (run y) (λ f. t ≤ℤ f.tick → m.ready a ≡ true) →
    (k : ℕ) → n.clock +ℤ pos k ≡ d → (one (passes (constrained s a) (run y)) + c) + along (has n s) n.clock k ≡ e
step_sum (woke b) m n st fit s a t d e c i un rd = calm m n s a t d e c st.1.clock (λ u. ap (λ f. is s (f u)) st.1.marks) i.sum
step_sum (blocked b) m n st fit s a t d e c i un rd = calm m n s a t d e c st.1.clock (λ u. ap (λ f. is s (f u)) st.1.marks) i.sum
step_sum (began j b v es w x) m n st fit s a t d e c i un rd =
    calm m n s a t d e c st.1.beside.clock (begin_marks j b v es w x m n st s i.held i.seat) i.sum
step_sum (ended x r) m n st fit s a t d e c i un rd = calm m n s a t d e c st.1.beside.clock (end_marks x r m n st s un) i.sum
step_sum (left x) m n st fit s a t d e c i un rd = calm m n s a t d e c st.1.beside.clock (λ u. ap (λ f. is s (f u)) st.1.marks) i.sum
step_sum (collected j x) m n st fit s a t d e c i un rd = calm m n s a t d e c st.1.beside.clock (λ u. ap (λ f. is s (f u)) st.1.marks) i.sum
step_sum (told b u) m n st fit s a t d e c i un rd =
    calm m n s a t d e c (ap (λ x. x.clock) st.2) (λ u. ap (λ x. is s (x.marks u)) st.2) i.sum
step_sum (ticked f) m n st fit s a t d e c i un rd =
    tick_sum m n s d e c _ st.1.clock (λ u ne. ap (is s) (st.1.others u ne))
    (tick_right f.letter f.runner m n st.1.by s a i.below i.held i.seat i.activity
    (λ q.
    let g = fit m.clock s q in
    let same : g.held ≡ i.held = let x = g.seat in let y = i.seat in cc in
    let from : t ≤ℤ m.clock = subst (λ z. z ≤ℤ m.clock) (ap (λ h. h.start) same ∙ i.start) g.from in
    rd (subst (λ z. t ≤ℤ z) (sym st.1.tick) from)))
    i.sum
step_sum (refused q r) m n st fit s a t d e c i un rd =
    calm m n s a t d e c (ap (λ x. x.clock) st.same) (λ u. ap (λ x. is s (x.marks u)) st.same) i.sum

step_due :
    (y : Event) (m n : Meaning) → Step m y n → Fits m → (s a : ℕ) (t d : ℤ) (e c : ℕ) → Due m s a t d e c → is s (over y) ≡ false →
    When (run y) (λ f. t ≤ℤ f.tick → m.ready a ≡ true) → Due n s a t d e (one (passes (constrained s a) (run y)) + c)
step_due y m n st fit s a t d e c i un rd =
    let g = step_seat y m n st s i.held i.seat un in
    record {
      below = i.below;
      held = g.held;
      seat = g.seat;
      activity = g.activity ∙ i.activity;
      start = g.start ∙ i.start;
      sum = step_sum y m n st fit s a t d e c i un rd;
    }

-- as it begins
begun :
    (s a : ℕ) (t : ℤ) (e : ℕ) (d : ℤ) (x : Ticket) (m n : Meaning) → Step m (began s a t e d x) n → Fits m → Due n s a t d e 0
begun s a t e d x m n st fit = record {
  below = begin_whom_below m s a t e d st.0;
  held = record { activity = a; start = t; deadline = d; estimate = e; ran = 0; out = true };
  seat = st.1.seat.seat;
  activity = refl;
  start = refl;
  sum = sum;
}
  where
    before : m.clock ≤ℤ t
    before = begin_from m s a t e d st.0

    after : t <ℤ d
    after = begin_to m s a t e d st.0

    -- the seat had no mark
    had_none : (u : ℤ) → has m s u ≡ false
    had_none u = not_some s (m.marks u) (λ q. let g = fit u s q in st.0 SeatUnavailable (in_use {h = g.held} g.seat))

    marked : (u : ℤ) → has n s u ≡ st.1.chosen u
    marked u =
        ⊎_elim
        (λ f. some_is s (n.marks u) (st.1.marks u ∙ cond-true (st.1.chosen u) (Some s) (m.marks u) f) ∙ sym f)
        (λ f. ap (is s) (st.1.marks u ∙ cond-false (st.1.chosen u) (Some s) (m.marks u) f) ∙ had_none u ∙ sym f)
        (cases_Bool (st.1.chosen u))

    none_early : (u : ℤ) → u <ℤ t → st.1.chosen u ≡ false
    none_early u l = ⊎_elim (λ f. absurd (let g = st.1.choice.from u f in omega (arith, ints))) (λ f. f) (cases_Bool (st.1.chosen u))

    sum : (k : ℕ) → n.clock +ℤ pos k ≡ d → 0 + along (has n s) n.clock k ≡ e
    sum k at =
        let ec = st.1.beside.clock in
        let at' : m.clock +ℤ pos k ≡ d = ap (λ z. z +ℤ pos k) (sym ec) ∙ at in
        let x1 : along (has n s) n.clock k ≡ along st.1.chosen m.clock k =
        along_ext (has n s) st.1.chosen k n.clock (λ u l. marked u) ∙ ap (λ z. along st.1.chosen z k) ec in
        let j = nat_abs (t -ℤ m.clock) in
        let l = nat_abs (d -ℤ t) in
        let ej : m.clock +ℤ pos j ≡ t = offset m.clock t before in
        let el : t +ℤ pos l ≡ d = offset t d (let af = after in omega (arith, ints)) in
        let x2 : along st.1.chosen m.clock k ≡ along st.1.chosen t l =
        along_skip st.1.chosen j k l m.clock t ej (omega (arith, ints)) none_early in
        let x3 : along st.1.chosen t l ≡ e = sym (tally_along st.1.chosen t l) ∙ st.1.choice.many in
        omega arith

not_first : (l : List Entry) (b : Entry) (c : List Entry) → [] ≡ l ++ (b ∷ c) → ⊥
not_first [] b c e = let z : ◌≡◌ {A = ℕ} 0 1 = cc in omega arith
not_first (x ∷ l) b c e = let z : ◌≡◌ {A = ℕ} 0 1 = cc in omega arith

due :
    (later : List Entry) (s a : ℕ) (t : ℤ) (e : ℕ) (d : ℤ) (x : Ticket) (q q' : Rule) (earlier : List Entry) {k : ℕ} {p : List Entry} {m : Meaning} → Alone k p m →
    p ≡ later ++ (called (began s a t e d x) q q' ∷ earlier) → Unended s later →
    ReadyAt (λ f. t ≤ℤ f.tick) a later (called (began s a t e d x) q q' ∷ earlier) →
    Due m s a t d e (count (constrained s a) later)
due [] s a t e d x q q' earlier (first o) eq un rd = let z : ◌≡◌ {A = ℕ} 0 1 = cc in absurd (omega arith)
due [] s a t e d x q q' earlier (next {p} {m} y {n} r st) eq un rd =
    let head : y ≡ began s a t e d x = cc in
    begun s a t e d x m n (subst (λ z. Step m z n) head st) (fits r)
due (z ∷ later) s a t e d x q q' earlier (first o) eq un rd = absurd (not_first later (called (began s a t e d x) q q') earlier (cc))
due (z ∷ later) s a t e d x q q' earlier (next {p} {m} y {n} r st) eq un rd =
    let tail : p ≡ later ++ (called (began s a t e d x) q q' ∷ earlier) = cc in
    let head : called y m.rule n.rule ≡ z = cc in
    let i = due later s a t e d x q q' earlier r tail un.1 rd.1 in
    let un' : is s (over y) ≡ false = ap (λ v. is s (ends v)) head ∙ un.0 in
    let here = when_ready (λ f. t ≤ℤ f.tick) y a _ _ (sym (ready_is r a)) (last_call (λ f. t ≤ℤ f.tick) a y m.rule n.rule z later (called (began s a t e d x) q q' ∷ earlier) p eq rd.0) in
    subst (λ v. Due n s a t d e (one (passes (constrained s a) (ran v)) + count (constrained s a) later)) head
    (step_due y m n st (fits r) s a t d e (count (constrained s a) later) i un' here)

at_deadline :
    (since : List Entry) (s a : ℕ) (t : ℤ) (e : ℕ) (d : ℤ) (x : Ticket) (q q' : Rule) (earlier : List Entry) {k : ℕ} {p : List Entry} {m : Meaning} → Alone k p m →
    p ≡ since ++ (called (began s a t e d x) q q' ∷ earlier) → Unended s since → clock_in p ≡ d →
    ReadyAt (λ f. t ≤ℤ f.tick) a since (called (began s a t e d x) q q' ∷ earlier) → count (constrained s a) since ≡ e
at_deadline since s a t e d x q q' earlier {k} {p} {m} r eq un at rd =
    let i = due since s a t e d x q q' earlier r eq un rd in
    let z = i.sum 0 (let c : m.clock ≡ d = clock_is r ∙ at in omega (arith, ints)) in
    omega arith

pub deadline_kept : {k : ℕ} {p : List Entry} {m : Meaning} → Alone k p m → Deadline p
deadline_kept {k} {p} {m} r later since s a t e d x q q' earlier eq un at rd =
    ⊎_elim
    (λ z. absurd (not_first since (called (began s a t e d x) q q') earlier (sym z)))
    (λ b. at_deadline since s a t e d x q q' earlier b.1 refl un at rd)
    (earlier_level later (since ++ (called (began s a t e d x) q q' ∷ earlier)) r eq)

-- A constraint has run the ticks that were answered c for it.

record Runs (m : Meaning) (s a c : ℕ) : Type 0 where
  pub held : Constraint
  pub seat : m.seats s ≡ Some held
  pub activity : held.activity ≡ a
  pub ran : held.ran ≡ c

step_runs : (y : Event) (m n : Meaning) → Step m y n → (s a c : ℕ) → Runs m s a c → is s (over y) ≡ false → Runs n s a (one (passes (constrained s a) (run y)) + c)
step_runs y m n st s a c i un =
    let g = step_seat y m n st s i.held i.seat un in
    let e : one (passes (constrained s i.held.activity) (run y)) ≡ one (passes (constrained s a) (run y)) = ap (λ b. one (passes (constrained s b) (run y))) i.activity in
    let f = i.ran in
    let h = g.ran in
    record { held = g.held; seat = g.seat; activity = g.activity ∙ i.activity; ran = omega arith }

runs :
    (later : List Entry) (s a : ℕ) (t : ℤ) (e : ℕ) (d : ℤ) (x : Ticket) (q q' : Rule) (earlier : List Entry) {k : ℕ} {p : List Entry} {m : Meaning} → Alone k p m →
    p ≡ later ++ (called (began s a t e d x) q q' ∷ earlier) → Unended s later → Runs m s a (count (constrained s a) later)
runs [] s a t e d x q q' earlier (first o) eq un = let z : ◌≡◌ {A = ℕ} 0 1 = cc in absurd (omega arith)
runs [] s a t e d x q q' earlier (next {p} {m} y {n} r st) eq un =
    let head : y ≡ began s a t e d x = cc in
    let b : Step m (began s a t e d x) n = subst (λ z. Step m z n) head st in
    record { held = record { activity = a; start = t; deadline = d; estimate = e; ran = 0; out = true }; seat = b.1.seat.seat; activity = refl; ran = refl }
runs (z ∷ later) s a t e d x q q' earlier (first o) eq un = absurd (not_first later (called (began s a t e d x) q q') earlier (cc))
runs (z ∷ later) s a t e d x q q' earlier (next {p} {m} y {n} r st) eq un =
    let tail : p ≡ later ++ (called (began s a t e d x) q q' ∷ earlier) = cc in
    let head : called y m.rule n.rule ≡ z = cc in
    let un' : is s (over y) ≡ false = ap (λ v. is s (ends v)) head ∙ un.0 in
    subst (λ v. Runs n s a (one (passes (constrained s a) (ran v)) + count (constrained s a) later)) head
    (step_runs y m n st s a (count (constrained s a) later) (runs later s a t e d x q q' earlier r tail un.1) un')

ended_runs :
    (x : Ticket) (c : ℕ) (u u' : Rule) (during : List Entry) (a : ℕ) (t : ℤ) (e : ℕ) (d : ℤ) (y : Ticket) (q q' : Rule) (earlier : List Entry) {k : ℕ} {p : List Entry} {m : Meaning} → Alone k p m →
    p ≡ called (ended x c) u u' ∷ (during ++ (called (began x.seat a t e d y) q q' ∷ earlier)) → Unended x.seat during → c ≡ count (constrained x.seat a) during
ended_runs x c u u' during a t e d y q q' earlier (first o) eq un = let z : ◌≡◌ {A = ℕ} 0 1 = cc in absurd (omega arith)
ended_runs x c u u' during a t e d y q q' earlier (next {p} {m} v {n} r st) eq un =
    let head : v ≡ ended x c = cc in
    let tail : p ≡ during ++ (called (began x.seat a t e d y) q q' ∷ earlier) = cc in
    let b : Step m (ended x c) n = subst (λ z. Step m z n) head st in
    let i = runs during x.seat a t e d y q q' earlier r tail un in
    let same : b.1.was ≡ i.held = let f = b.1.at in let g = i.seat in cc in
    b.1.told ∙ ap (λ h. h.ran) same ∙ i.ran

pub taken_kept : {k : ℕ} {p : List Entry} {m : Meaning} → Alone k p m → EndCount p
taken_kept r later x c u u' during a t e d y q q' earlier eq un =
    ⊎_elim
    (λ z. let f : ◌≡◌ {A = ℕ} 0 1 = cc in absurd (omega arith))
    (λ b. ended_runs x c u u' during a t e d y q q' earlier b.1 refl un)
    (earlier_level later (called (ended x c) u u' ∷ (during ++ (called (began x.seat a t e d y) q q' ∷ earlier))) r eq)
