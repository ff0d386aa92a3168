-- From what the code does with seats and tickets to the steps of begin, end, leave and collect.
use Rattle.std.proofs.Common.{◌≡◌, ℕ, ◌≤◌, Bool, true, false, cond, eqb, get_or, ℤ, Some, None, Ok, Err, sym, refl, ap, ◌∙◌, subst, ⊎_elim}
use Rattle.timetable.specs.declared.table.Timetable.{Ghosts as Timetables}
use Rattle.spare.specs.declared.rule.SpareRule.{Ghosts as SpareRules}
use Rattle.std.proofs.lemmas.Bool.{cond-true, cond-false, eq-eqb, ne_eqb, cases_eq}
use Rattle.spare.specs.Sets.{is_ready}
use Rattle.level.specs.declared.board.Board.{Board}
use Rattle.level.specs.declared.inner.Inner.{Inner}
use Rattle.level.specs.declared.level.Level.{Level}
use Rattle.level.specs.declared.refusal.Refusal.{Refusal}
use Rattle.level.specs.declared.ticket.Ticket.{Ticket}
use Rattle.level.specs.Bounds.{RanBound, UsedBound}
use Rattle.level.specs.Board.{holder}
use Rattle.level.specs.Seats.{seat_at, handed}
use Rattle.level.specs.Ticks.{Gives}
use Rattle.level.specs.Meaning.{Constraint, Event, to_begin, began, ended, left, collected, refused}
use Rattle.level.specs.Refusals.{Refused}
use Rattle.level.specs.Steps.{Step, Beside, Handed}
use Rattle.level.specs.Levels.{meaning, seen, Calls}
use Rattle.level.specs.Parts.{Reseat, ran_of, Freed, TicketIsOut, TicketIsLeft, Fine}
use Rattle.level.proofs.Refusing.{called, end_sound, leave_sound, collect_sound, fine_sound, fine_few}
use Rattle.level.proofs.Seated.{below, seat_set, seat_unset}
use Rattle.level.proofs.Seen.{seen_gone, seen_else, count_seen, chosen_seen, marks_seen}

-- one value of a set is put to `to`, and the others stay
pub switched : (f g : ℕ → Bool) (a : ℕ) (to : Bool) → g a ≡ to → ((b : ℕ) → (b ≡ a → ⊥) → g b ≡ f b) → (b : ℕ) → g b ≡ cond (eqb b a) to (f b)
switched f g a to e o b =
    ⊎_elim
    (λ q. ap g q ∙ e ∙ sym (cond-true (eqb b a) to (f b) (eq-eqb b a q)))
    (λ ne. o b ne ∙ sym (cond-false (eqb b a) to (f b) (ne_eqb b a ne)))
    (cases_eq b a)

module _ {T R : Type 0} (ts : Timetables T) (rs : SpareRules R) where
  -- the level l, with another inner part
  abbrev pub within : Level T R → Inner → Level T R
  within l j = record { timetable = l.timetable; rule = l.rule; inner = j }

  -- a call that leaves timetable and rule alone
  pub calls : (l : Level T R) (e : Event) (j : Inner) → Step (meaning ts rs l) e (meaning ts rs (within l j)) → Calls ts rs l e (within l j)
  calls l e j s = record { called = called _ e _ s; timetable = refl; rule = refl }

  beside : (l : Level T R) (j : Inner) → j.number ≡ l.inner.number → j.clock ≡ l.inner.clock → j.ready ≡ l.inner.ready → j.used ≡ l.inner.used →
      Beside (meaning ts rs l) (meaning ts rs (within l j))
  beside l j en ec er eu = record {
    kept = record { number = en; owner = refl; cycle = refl; patience = refl };
    clock = ec;
    ready = ap is_ready er;
    used = ap (λ xs a. get_or xs a 0) eu;
    rule = refl;
  }

  hands : (o : Bool) (l : Level T R) (s : ℕ) (h : Constraint) (j : Inner) → seat_at l.inner.seats s ≡ Some h →
      Reseat l.inner s (handed o (seat_at l.inner.seats s)) j →
      Handed (meaning ts rs l) s o (meaning ts rs (within l j))
  hands o l s h j at e = record {
    beside = beside l j e.number e.clock e.ready e.used;
    was = h;
    at = at;
    seat = record {
      seat = ap (λ xs. seat_at xs s) e.seats ∙ seat_set l.inner.seats s _ e.inside (below l.inner.seats s h at) ∙ ap (handed o) at;
      others = λ k ne. ap (λ xs. seat_at xs k) e.seats ∙ seat_unset l.inner.seats s _ k ne;
    };
    marks = ap (λ c. seen c (holder j.board)) e.clock ∙ ap (λ b. seen l.inner.clock (holder b)) e.board;
  }

  pub leaves : (l : Level T R) (x : Ticket) (j : Inner) (o : TicketIsOut l.inner x) →
      Reseat l.inner x.seat (handed false (seat_at l.inner.seats x.seat)) j →
      Step (meaning ts rs l) (left x) (meaning ts rs (within l j))
  leaves l x j o e = (leave_sound _ x _ o.here o.at o.out, hands false l x.seat o.held j o.at e)

  pub collects : (l : Level T R) (s : ℕ) (j : Inner) (x : Ticket) → x ≡ record { level = l.inner.number; seat = s } → TicketIsLeft l.inner s →
      Reseat l.inner s (handed true (seat_at l.inner.seats s)) j →
      Step (meaning ts rs l) (collected s x) (meaning ts rs (within l j))
  collects l s j x ex o e = (collect_sound _ s _ o.known o.at o.here, hands true l s o.held j o.at e, ex)

  pub ends : (l : Level T R) (x : Ticket) (j : Inner) (n : ℕ) → TicketIsOut l.inner x → Freed l.inner x.seat n j →
      Step (meaning ts rs l) (ended x n) (meaning ts rs (within l j))
  ends l x j n o e = (
    end_sound _ x _ o.here o.at o.out,
    record {
      beside = beside l j e.number e.clock e.ready e.used;
      was = o.held;
      at = o.at;
      told = e.ran ∙ ap ran_of o.at;
      seat = record {
        seat = ap (λ xs. seat_at xs x.seat) e.seats ∙ seat_set l.inner.seats x.seat None e.inside o.known;
        others = λ k ne. ap (λ xs. seat_at xs k) e.seats ∙ seat_unset l.inner.seats x.seat None k ne;
      };
      gone = λ u q. ap (λ c. seen c (holder j.board) u) e.clock ∙ seen_gone l.inner.clock (holder l.inner.board) (holder j.board) x.seat e.board u q;
      others = λ u q. ap (λ c. seen c (holder j.board) u) e.clock ∙ seen_else l.inner.clock (holder l.inner.board) (holder j.board) x.seat e.board u q;
    },
  )

  -- the constraint of a begin
  abbrev asked : ℕ → ℤ → ℕ → ℤ → Constraint
  asked a t e d = record { activity = a; start = t; deadline = d; estimate = e; ran = 0; out = true }

  module _ (l : Level T R) (s a : ℕ) (t : ℤ) (e : ℕ) (d : ℤ) (f : Fine (meaning ts rs l) s a t e d) (b : Board) where
    -- the plain part of the level, with the board b
    abbrev reboarded : RanBound l.inner.clock l.inner.seats → UsedBound l.inner.clock l.inner.used → Inner
    reboarded few little = record { number = l.inner.number; clock = l.inner.clock; ready = l.inner.ready; board = b; seats = l.inner.seats; used = l.inner.used; few = few; little = little }

    seated : (few : RanBound l.inner.clock l.inner.seats) (little : UsedBound l.inner.clock l.inner.used) (j : Inner) → Gives (ts.owner l.timetable) s (asked a t e d) l.inner.board b (Ok tt) →
        Reseat (reboarded few little) s (Some (asked a t e d)) j →
        Step (meaning ts rs l) (began s a t e d (record { level = j.number; seat = s })) (meaning ts rs (within l j))
    seated few little j (enough, gives) r =
        let c = l.inner.clock in
        let h = holder l.inner.board in
        let w = ts.owner l.timetable in
        let g = gives c f.from f.near in (
          fine_sound _ s a t e d f (subst (λ k. e ≤ k) (sym (count_seen c t d h w a f.from f.to f.near)) enough),
          record {
            beside = beside l j r.number r.clock r.ready r.used;
            ticket = ap (λ k. record { level = k; seat = s }) r.number;
            seat = record {
              seat = ap (λ xs. seat_at xs s) r.seats ∙ seat_set l.inner.seats s (Some (asked a t e d)) r.inside f.seat;
              others = λ k ne. ap (λ xs. seat_at xs k) r.seats ∙ seat_unset l.inner.seats s (Some (asked a t e d)) k ne;
            };
            chosen = g.0;
            choice = chosen_seen c t d h w a f.from f.to f.near e g.0 _ g.1;
            marks = λ u. ap (λ z. seen z (holder j.board) u) r.clock ∙ ap (λ z. seen c (holder z) u) r.board ∙ marks_seen c t d h w a f.from f.to f.near s (holder b) e g.0 _ g.1 g.2 u;
          },
        )

    -- the seat and the constraint that a begin was admitted with are given their ticks
    pub begins : (few : RanBound l.inner.clock l.inner.seats) (little : UsedBound l.inner.clock l.inner.used) (place : ℕ) (h : Constraint) (j : Inner) → ◌≡◌ {A = ℕ × Constraint} (place, h) (s, asked a t e d) →
        Gives (ts.owner l.timetable) place h l.inner.board b (Ok tt) → Reseat (reboarded few little) place (Some h) j →
        Step (meaning ts rs l) (began s a t e d (record { level = j.number; seat = place })) (meaning ts rs (within l j))
    begins few little place h j is =
        subst (λ p. Gives (ts.owner l.timetable) p.0 p.1 l.inner.board b (Ok tt) → Reseat (reboarded few little) p.0 (Some p.1) j →
        Step (meaning ts rs l) (began s a t e d (record { level = j.number; seat = p.0 })) (meaning ts rs (within l j))) (sym is) (seated few little j)

    too_few_of : (r : Refusal) → Gives (ts.owner l.timetable) s (asked a t e d) l.inner.board b (Err r) →
        Step (meaning ts rs l) (refused (to_begin s a t e d) r) (meaning ts rs (within l (reboarded l.inner.few l.inner.little)))
    too_few_of r (k, told, lt, q, same) =
        let x = fine_few (meaning ts rs l) s a t e d f k (q ∙ sym (count_seen l.inner.clock t d (holder l.inner.board) (ts.owner l.timetable) a f.from f.to f.near)) lt in
        subst (λ y. Refused (meaning ts rs l) (to_begin s a t e d) y (meaning ts rs (within l (reboarded l.inner.few l.inner.little)))) (sym told)
        (record { wrong = x.wrong; least = x.least; same = ap (λ z. meaning ts rs (within l (record { number = l.inner.number; clock = l.inner.clock; ready = l.inner.ready; board = z; seats = l.inner.seats; used = l.inner.used; few = l.inner.few; little = l.inner.little }))) same })

    -- or they are too few
    pub begins_not : (place : ℕ) (h : Constraint) (r : Refusal) → ◌≡◌ {A = ℕ × Constraint} (place, h) (s, asked a t e d) → Gives (ts.owner l.timetable) place h l.inner.board b (Err r) →
        Step (meaning ts rs l) (refused (to_begin s a t e d) r) (meaning ts rs (within l (reboarded l.inner.few l.inner.little)))
    begins_not place h r is =
        subst (λ p. Gives (ts.owner l.timetable) p.0 p.1 l.inner.board b (Err r) → Step (meaning ts rs l) (refused (to_begin s a t e d) r) (meaning ts rs (within l (reboarded l.inner.few l.inner.little)))) (sym is) (too_few_of r)
