-- A call has one answer, but for the rule's choice at a spare tick.
use Rattle.std.proofs.Common.{◌≡◌, ℕ, cond, eqb, ◌⊎◌, ℤ, pos, Some, None, Option, sym, refl, ap, ◌∙◌, subst, inl, inr, ⊎_elim, arith}
use Rattle.std.proofs.lemmas.Bool.{cases_lt, both_ways}
use Rattle.level.specs.declared.ticked.Letter.{Letter}
use Rattle.level.specs.declared.ticked.Letter.TheVariants.{Constrained, Reserved, Spare, Idle}
use Rattle.level.specs.declared.ticked.Ticked.{Ticked}
use Rattle.level.specs.declared.refusal.Refusal.{Refusal}
use Rattle.level.specs.declared.refusal.Refusal.TheVariants.{ClockAtEnd, UnknownActivity, ZeroEstimate, EarlyStart, BadDeadline, SeatUnavailable, TooFew, InvalidTicket, NoTicketLeft}
use Rattle.level.specs.Numbers.{number_of}
use Rattle.level.specs.Ticks.{between}
use Rattle.level.specs.Meaning.{Constraint, Meaning, Call, to_wake, to_block, to_begin, to_end, to_leave, to_collect, to_used, to_tick, Event, woke, blocked, began, ended, left, collected, told, ticked, refused, call_of}
use Rattle.level.specs.Refusals.{Wrong, Sound, Refused, available, at_end, wake_whom, block_whom, used_whom, begin_whom, for_nothing, early, backward, far, seat_unavailable, in_use, too_few, end_foreign, end_not_out, leave_foreign, leave_not_out, collect_where, collect_none}
use Rattle.level.specs.Steps.{Step, By, ByMark, ByOwner, Alike, Only}
use Rattle.level.proofs.Counts.{none_some}
use Rattle.level.proofs.Sames.{same_level}

-- how many ticks are available to a begin
found : Meaning → Call → ℕ
found m (to_wake a) = 0
found m (to_block a) = 0
found m (to_begin s a t e d) = between (available m a) t d
found m (to_end x) = 0
found m (to_leave x) = 0
found m (to_collect s) = 0
found m (to_used a) = 0
found m to_tick = 0

-- the refusal of a number
by_number : ℕ → ℕ → Refusal
by_number k n =
    cond (eqb n 1) ClockAtEnd (cond (eqb n 2) UnknownActivity (cond (eqb n 3) ZeroEstimate (cond (eqb n 4) EarlyStart (cond (eqb n 5) BadDeadline
    (cond (eqb n 6) SeatUnavailable (cond (eqb n 7) (TooFew k) (cond (eqb n 8) InvalidTicket NoTicketLeft)))))))

numbered : (m : Meaning) (q : Call) (r : Refusal) → Wrong m q r → r ≡ by_number (found m q) (number_of r)
unfolding found by_number
numbered m q r (at_end e) = refl
numbered m q r (wake_whom l) = refl
numbered m q r (block_whom l) = refl
numbered m q r (used_whom l) = refl
numbered m q r (begin_whom l) = refl
numbered m q r (for_nothing e) = refl
numbered m q r (early l) = refl
numbered m q r (backward l) = refl
numbered m q r (far l) = refl
numbered m q r (seat_unavailable l) = refl
numbered m q r (in_use e) = refl
numbered m q r (too_few e l) = ap TooFew e
numbered m q r (end_foreign e) = refl
numbered m q r (end_not_out e) = refl
numbered m q r (leave_foreign e) = refl
numbered m q r (leave_not_out e) = refl
numbered m q r (collect_where l) = refl
numbered m q r (collect_none e) = refl

same : (m n o : Meaning) (q : Call) (r s : Refusal) → Refused m q r n → Refused m q s o → s ≡ r
same m n o q r s a b =
    ⊎_elim
    (λ l. absurd (b.least r l a.wrong))
    (λ l. ⊎_elim
    (λ k. absurd (a.least s k b.wrong))
    (λ k.
    let e : number_of s ≡ number_of r = omega arith in
    numbered m q s b.wrong ∙ ap (by_number (found m q)) e ∙ sym (numbered m q r a.wrong))
    (cases_lt (number_of s) (number_of r)))
    (cases_lt (number_of r) (number_of s))

-- an accepted call has nothing wrong with it
never : (m n : Meaning) (q p : Call) (r : Refusal) → Refused m q r n → Sound m p → p ≡ q → ⊥
never m n q p r a ok e = ok r (subst (λ z. Wrong m z r) (sym e) a.wrong)

refused_once : (m n o : Meaning) (q : Call) (r : Refusal) (e : Event) → Refused m q r n → Step m e o → call_of e ≡ q → e ≡ refused q r
refused_once m n o q r (woke b) a s e = absurd (never m n q _ r a s.0 e)
refused_once m n o q r (blocked b) a s e = absurd (never m n q _ r a s.0 e)
refused_once m n o q r (began k b t es d x) a s e = absurd (never m n q _ r a s.0 e)
refused_once m n o q r (ended x c) a s e = absurd (never m n q _ r a s.0 e)
refused_once m n o q r (left x) a s e = absurd (never m n q _ r a s.0 e)
refused_once m n o q r (collected k x) a s e = absurd (never m n q _ r a s.0 e)
refused_once m n o q r (told b c) a s e = absurd (never m n q _ r a s.0 e)
refused_once m n o q r (ticked x) a s e = absurd (never m n q _ r a s.0 e)
refused_once m n o q r (refused p w) a s e =
    let z : Refused m q w o = subst (λ y. Refused m y w o) e s in
    ap (λ y. refused y w) e ∙ ap (refused q) (same m n o q r w a z)

-- what a seat's constraint has run
ran_at : Option Constraint → ℕ
ran_at None = 0
ran_at (Some h) = h.ran

-- the one event that accepts a call; a tick's answer is given
accepted : Meaning → Call → Ticked → Event
accepted m (to_wake a) g = woke a
accepted m (to_block a) g = blocked a
accepted m (to_begin s a t e d) g = began s a t e d (record { level = m.number; seat = s })
accepted m (to_end x) g = ended x (ran_at (m.seats x.seat))
accepted m (to_leave x) g = left x
accepted m (to_collect s) g = collected s (record { level = m.number; seat = s })
accepted m (to_used a) g = told a (m.used a)
accepted m to_tick g = ticked g

abbrev nothing_ticked : Ticked
nothing_ticked = record { tick = pos 0; runner = None; letter = Idle }

-- an accepted event is that one
abbrev IsAccepted : Meaning → Event → Type 0
IsAccepted m f = (g : Ticked) × (f ≡ accepted m (call_of f) g)

accepted_or_not : (m o : Meaning) (f : Event) → Step m f o → IsAccepted m f ⊎ ((q : Call) × (r : Refusal) × (f ≡ refused q r))
unfolding accepted ran_at
accepted_or_not m o (woke a) s = inl (nothing_ticked, refl)
accepted_or_not m o (blocked a) s = inl (nothing_ticked, refl)
accepted_or_not m o (began k a t e d x) s = inl (nothing_ticked, ap (began k a t e d) s.1.ticket)
accepted_or_not m o (ended x c) s = inl (nothing_ticked, ap (ended x) (s.1.told ∙ ap ran_at (sym s.1.at)))
accepted_or_not m o (left x) s = inl (nothing_ticked, refl)
accepted_or_not m o (collected k x) s = inl (nothing_ticked, ap (collected k) s.2)
accepted_or_not m o (told a c) s = inl (nothing_ticked, ap (told a) s.1)
accepted_or_not m o (ticked g) s = inl (g, refl)
accepted_or_not m o (refused q r) s = inr (q, r, refl)

-- two answers of one tick
abbrev OneTick : Letter → Option ℕ → Letter → Option ℕ → Type 0
OneTick l o k p = ((k ≡ l) × (p ≡ o)) ⊎ ((a : ℕ) × (b : ℕ) × (l ≡ Spare) × (o ≡ Some a) × (k ≡ Spare) × (p ≡ Some b))

module _ (m : Meaning) where
  mark_mark : (s a k b : ℕ) → ByMark m s a → ByMark m k b → (Constrained k ≡ Constrained s) × (Some b ≡ Some a)
  mark_mark s a k b x y =
      let e : s ≡ k = let f : Some s ≡ Some k = sym x.mark ∙ y.mark in cc in
      let h : x.held ≡ y.held = let f : Some x.held ≡ Some y.held = sym x.seat ∙ ap m.seats e ∙ y.seat in cc in
      (ap Constrained (sym e), ap Some (y.activity ∙ ap (λ z. z.activity) (sym h) ∙ sym x.activity))

  mark_owner : (s a b : ℕ) → ByMark m s a → ByOwner m b → ⊥
  mark_owner s a b x y = none_some (m.marks m.clock) s y.unmarked x.mark

  one_tick : (l : Letter) (o : Option ℕ) (k : Letter) (p : Option ℕ) (n n' : Meaning) → By m l o n → By m k p n' → OneTick l o k p
  one_tick (Constrained s) None k p n n' x y = absurd x
  one_tick Reserved None k p n n' x y = absurd x
  one_tick Spare None k p n n' x y = absurd x
  one_tick Idle (Some a) k p n n' x y = absurd x
  one_tick (Constrained s) (Some a) (Constrained k) None n n' x y = absurd y
  one_tick (Constrained s) (Some a) Reserved None n n' x y = absurd y
  one_tick (Constrained s) (Some a) Spare None n n' x y = absurd y
  one_tick (Constrained s) (Some a) Idle (Some b) n n' x y = absurd y
  one_tick Reserved (Some a) (Constrained k) None n n' x y = absurd y
  one_tick Reserved (Some a) Reserved None n n' x y = absurd y
  one_tick Reserved (Some a) Spare None n n' x y = absurd y
  one_tick Reserved (Some a) Idle (Some b) n n' x y = absurd y
  one_tick Spare (Some a) (Constrained k) None n n' x y = absurd y
  one_tick Spare (Some a) Reserved None n n' x y = absurd y
  one_tick Spare (Some a) Spare None n n' x y = absurd y
  one_tick Spare (Some a) Idle (Some b) n n' x y = absurd y
  one_tick Idle None (Constrained k) None n n' x y = absurd y
  one_tick Idle None Reserved None n n' x y = absurd y
  one_tick Idle None Spare None n n' x y = absurd y
  one_tick Idle None Idle (Some b) n n' x y = absurd y
  one_tick (Constrained s) (Some a) (Constrained k) (Some b) n n' x y = inl (mark_mark s a k b x.0 y.0)
  one_tick (Constrained s) (Some a) Reserved (Some b) n n' x y = absurd (mark_owner s a b x.0 y.0)
  one_tick (Constrained s) (Some a) Spare (Some b) n n' x y =
      absurd (both_ways (m.ready a) (ap m.ready x.0.activity ∙ y.0.neither.unmarked s x.0.held x.0.mark x.0.seat) x.0.ready)
  one_tick (Constrained s) (Some a) Idle None n n' x y = absurd (both_ways (m.ready a) (y.0 a) x.0.ready)
  one_tick Reserved (Some a) (Constrained k) (Some b) n n' x y = absurd (mark_owner k b a y.0 x.0)
  one_tick Reserved (Some a) Reserved (Some b) n n' x y = inl (refl, sym y.0.owner ∙ x.0.owner)
  one_tick Reserved (Some a) Spare (Some b) n n' x y = absurd (both_ways (m.ready a) (y.0.neither.unowned x.0.unmarked a x.0.owner) x.0.ready)
  one_tick Reserved (Some a) Idle None n n' x y = absurd (both_ways (m.ready a) (y.0 a) x.0.ready)
  one_tick Spare (Some a) (Constrained k) (Some b) n n' x y =
      absurd (both_ways (m.ready b) (ap m.ready y.0.activity ∙ x.0.neither.unmarked k y.0.held y.0.mark y.0.seat) y.0.ready)
  one_tick Spare (Some a) Reserved (Some b) n n' x y = absurd (both_ways (m.ready b) (x.0.neither.unowned y.0.unmarked b y.0.owner) y.0.ready)
  one_tick Spare (Some a) Spare (Some b) n n' x y = inr (a, b, refl, refl, refl, refl)
  one_tick Spare (Some a) Idle None n n' x y = absurd (both_ways (m.ready a) (y.0 a) x.0.named.member)
  one_tick Idle None (Constrained k) (Some b) n n' x y = absurd (both_ways (m.ready b) (x.0 b) y.0.ready)
  one_tick Idle None Reserved (Some b) n n' x y = absurd (both_ways (m.ready b) (x.0 b) y.0.ready)
  one_tick Idle None Spare (Some b) n n' x y = absurd (both_ways (m.ready b) (x.0 b) y.0.named.member)
  one_tick Idle None Idle None n n' x y = inl (refl, refl)

abbrev tick_of : ℤ → Option ℕ → Letter → Event
tick_of t o l = ticked (record { tick = t; runner = o; letter = l })

tick_alike : (m n o : Meaning) (e f : Ticked) → Step m (ticked e) n → Step m (ticked f) o → Alike (ticked e) (ticked f)
tick_alike m n o e f s t =
    let tick : f.tick ≡ e.tick = t.1.tick ∙ sym s.1.tick in
    ⊎_elim
    (λ x. inl (ap (λ z. tick_of z f.runner f.letter) tick ∙ ap (λ z. tick_of e.tick f.runner z) x.0 ∙ ap (λ z. tick_of e.tick z e.letter) x.1))
    (λ x. inr (
      e.tick,
      x.0,
      x.1,
      ap (λ z. tick_of e.tick e.runner z) x.2 ∙ ap (λ z. tick_of e.tick z Spare) x.3,
      ap (λ z. tick_of z f.runner f.letter) tick ∙ ap (λ z. tick_of e.tick f.runner z) x.4 ∙ ap (λ z. tick_of e.tick z Spare) x.5,
    ))
    (one_tick m e.letter e.runner f.letter f.runner n o s.1.by t.1.by)

-- by the call
both_accepted : (q : Call) (m n o : Meaning) (e f : Event) (g h : Ticked) → Step m e n → Step m f o → e ≡ accepted m q g → f ≡ accepted m q h → Alike e f
unfolding accepted
both_accepted (to_wake a) m n o e f g h s t x y = inl (y ∙ sym x)
both_accepted (to_block a) m n o e f g h s t x y = inl (y ∙ sym x)
both_accepted (to_begin k a u c d) m n o e f g h s t x y = inl (y ∙ sym x)
both_accepted (to_end z) m n o e f g h s t x y = inl (y ∙ sym x)
both_accepted (to_leave z) m n o e f g h s t x y = inl (y ∙ sym x)
both_accepted (to_collect k) m n o e f g h s t x y = inl (y ∙ sym x)
both_accepted (to_used a) m n o e f g h s t x y = inl (y ∙ sym x)
both_accepted to_tick m n o e f g h s t x y =
    subst (λ z. Alike z f) (sym x) (subst (λ z. Alike (ticked g) z) (sym y) (tick_alike m n o g h (subst (λ z. Step m z n) x s) (subst (λ z. Step m z o) y t)))

alike : (m : Meaning) (e : Event) (n : Meaning) → Step m e n → (f : Event) (o : Meaning) → Step m f o → call_of f ≡ call_of e → Alike e f
alike m e n s f o t c =
    ⊎_elim
    (λ x. ⊎_elim
    (λ y. both_accepted (call_of e) m n o e f x.0 y.0 s t x.1 (y.1 ∙ ap (λ q. accepted m q y.0) c))
    (λ y.
    let r : Refused m y.0 y.1 o = subst (λ z. Step m z o) y.2 t in
    let back : call_of e ≡ y.0 = sym c ∙ ap call_of y.2 in
    inl (sym (refused_once m o n y.0 y.1 e r s back ∙ sym y.2)))
    (accepted_or_not m o f t))
    (λ x.
    let r : Refused m x.0 x.1 n = subst (λ z. Step m z n) x.2 s in
    inl (refused_once m n o x.0 x.1 f r t (c ∙ ap call_of x.2) ∙ sym x.2))
    (accepted_or_not m n e s)

pub only : (m : Meaning) (e : Event) (n : Meaning) → Step m e n → Only m e n
only m e n s f o t c = (alike m e n s f o t c, λ q. same_level e m n o s (subst (λ z. Step m z o) q t))
