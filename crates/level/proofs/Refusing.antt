-- When nothing is wrong with a call, and by which number it is refused.
use Rattle.std.proofs.Common.{◌≡◌, ℕ, ◌<◌, ◌≤◌, true, false, ◌⊎◌, ℤ, pos, ◌+ℤ◌, ◌≤ℤ◌, ◌<ℤ◌, Some, None, Option, refl, subst, ⊎_elim, arith}
use Rattle.std.proofs.lemmas.Int.{ints}
use Rattle.std.proofs.lemmas.Bool.{both_ways}
use Rattle.level.specs.declared.ticket.Ticket.{Ticket}
use Rattle.level.specs.declared.refusal.Refusal.{Refusal}
use Rattle.level.specs.declared.refusal.Refusal.TheVariants.{ClockAtEnd, UnknownActivity, TooFew, InvalidTicket, NoTicketLeft}
use Rattle.level.specs.Numbers.{number_of}
use Rattle.level.specs.Ticks.{between}
use Rattle.level.specs.Meaning.{Constraint, Meaning, Event, to_wake, to_block, to_begin, to_end, to_leave, to_collect, to_used, to_tick}
use Rattle.level.specs.Refusals.{Wrong, Sound, Refused, available, NotOut, NoneLeft, at_end, wake_whom, block_whom, used_whom, begin_whom, for_nothing, early, backward, far, seat_unavailable, in_use, too_few, end_foreign, end_not_out, leave_foreign, leave_not_out, collect_where, collect_none}
use Rattle.level.specs.Steps.{Step}
use Rattle.level.specs.Levels.{Called}
use Rattle.level.specs.Parts.{Fine}
use Rattle.level.proofs.Counts.{none_some}
use Rattle.level.proofs.Levels.{goes}
use Rattle.level.proofs.Once.{only}

pub called : (m : Meaning) (e : Event) (n : Meaning) → Step m e n → Called m e n
called m e n s = record { step = s; only = only m e n s; goes = goes m e n s }

pub wake_sound : (m : Meaning) (a : ℕ) → a < 16 → Sound m (to_wake a)
wake_sound m a lt r (wake_whom l) = omega arith

pub wake_refused : (m : Meaning) (a : ℕ) → 15 < a → Refused m (to_wake a) UnknownActivity m
wake_refused m a lt = record { wrong = wake_whom lt; least = least; same = refl }
  where
    least : (s : Refusal) → number_of s < 2 → Wrong m (to_wake a) s → ⊥
    least s l (wake_whom k) = omega arith

pub block_sound : (m : Meaning) (a : ℕ) → a < 16 → Sound m (to_block a)
block_sound m a lt r (block_whom l) = omega arith

pub block_refused : (m : Meaning) (a : ℕ) → 15 < a → Refused m (to_block a) UnknownActivity m
block_refused m a lt = record { wrong = block_whom lt; least = least; same = refl }
  where
    least : (s : Refusal) → number_of s < 2 → Wrong m (to_block a) s → ⊥
    least s l (block_whom k) = omega arith

pub used_sound : (m : Meaning) (a : ℕ) → a < 16 → Sound m (to_used a)
used_sound m a lt r (used_whom l) = omega arith

pub used_refused : (m : Meaning) (a : ℕ) → 15 < a → Refused m (to_used a) UnknownActivity m
used_refused m a lt = record { wrong = used_whom lt; least = least; same = refl }
  where
    least : (s : Refusal) → number_of s < 2 → Wrong m (to_used a) s → ⊥
    least s l (used_whom k) = omega arith

out_not : (o : Option Constraint) (h : Constraint) → o ≡ Some h → h.out ≡ true → NotOut o → ⊥
out_not o h e t n = both_ways h.out (subst NotOut e n) t

left_not : (o : Option Constraint) (h : Constraint) → o ≡ Some h → h.out ≡ false → NoneLeft o → ⊥
left_not o h e t n = both_ways h.out t (subst NoneLeft e n)

pub end_sound : (m : Meaning) (x : Ticket) (h : Constraint) → x.level ≡ m.number → m.seats x.seat ≡ Some h → h.out ≡ true → Sound m (to_end x)
end_sound m x h e at o r (end_foreign ne) = ne e
end_sound m x h e at o r (end_not_out n) = out_not (m.seats x.seat) h at o n

pub leave_sound : (m : Meaning) (x : Ticket) (h : Constraint) → x.level ≡ m.number → m.seats x.seat ≡ Some h → h.out ≡ true → Sound m (to_leave x)
leave_sound m x h e at o r (leave_foreign ne) = ne e
leave_sound m x h e at o r (leave_not_out n) = out_not (m.seats x.seat) h at o n

pub collect_sound : (m : Meaning) (s : ℕ) (h : Constraint) → s < 16 → m.seats s ≡ Some h → h.out ≡ false → Sound m (to_collect s)
collect_sound m s h lt at o r (collect_where l) = omega arith
collect_sound m s h lt at o r (collect_none n) = left_not (m.seats s) h at o n

pub end_refused : (m : Meaning) (x : Ticket) → (x.level ≡ m.number → ⊥) ⊎ NotOut (m.seats x.seat) → Refused m (to_end x) InvalidTicket m
end_refused m x w = record { wrong = ⊎_elim end_foreign end_not_out w; least = least; same = refl }
  where
    least : (s : Refusal) → number_of s < 8 → Wrong m (to_end x) s → ⊥
    least s l (end_foreign k) = omega arith
    least s l (end_not_out k) = omega arith

pub leave_refused : (m : Meaning) (x : Ticket) → (x.level ≡ m.number → ⊥) ⊎ NotOut (m.seats x.seat) → Refused m (to_leave x) InvalidTicket m
leave_refused m x w = record { wrong = ⊎_elim leave_foreign leave_not_out w; least = least; same = refl }
  where
    least : (s : Refusal) → number_of s < 8 → Wrong m (to_leave x) s → ⊥
    least s l (leave_foreign k) = omega arith
    least s l (leave_not_out k) = omega arith

pub collect_refused : (m : Meaning) (s : ℕ) → (15 < s) ⊎ NoneLeft (m.seats s) → Refused m (to_collect s) NoTicketLeft m
collect_refused m s w = record { wrong = ⊎_elim collect_where collect_none w; least = least; same = refl }
  where
    least : (r : Refusal) → number_of r < 9 → Wrong m (to_collect s) r → ⊥
    least r l (collect_where k) = omega arith
    least r l (collect_none k) = omega arith

pub tick_sound : (m : Meaning) → (m.clock ≡ pos 2147483647 → ⊥) → Sound m to_tick
tick_sound m ne r (at_end e) = ne e

pub tick_refused : (m : Meaning) → m.clock ≡ pos 2147483647 → Refused m to_tick ClockAtEnd m
tick_refused m e = record { wrong = at_end e; least = least; same = refl }
  where
    least : (s : Refusal) → number_of s < 1 → Wrong m to_tick s → ⊥
    least s l (at_end k) = omega arith

-- The least number that is wrong with a begin.
module _ (m : Meaning) (s a : ℕ) (t : ℤ) (e : ℕ) (d : ℤ) where
  pub begin_least :
      (k : ℕ) → k ≤ 7 → (2 < k → a < 16) → (3 < k → e ≡ 0 → ⊥) → (4 < k → m.clock ≤ℤ t) → (5 < k → (t <ℤ d) × (d ≤ℤ (m.clock +ℤ pos 1024))) → (6 < k → (s < 16) × (m.seats s ≡ None)) →
      (r : Refusal) → number_of r < k → Wrong m (to_begin s a t e d) r → ⊥
  begin_least k le h2 h3 h4 h5 h6 r lt (begin_whom l) = let x = h2 lt in omega arith
  begin_least k le h2 h3 h4 h5 h6 r lt (for_nothing z) = h3 lt z
  begin_least k le h2 h3 h4 h5 h6 r lt (early l) = let x = h4 lt in omega (arith, ints)
  begin_least k le h2 h3 h4 h5 h6 r lt (backward l) = let x = (h5 lt).0 in omega (arith, ints)
  begin_least k le h2 h3 h4 h5 h6 r lt (far l) = let x = (h5 lt).1 in omega (arith, ints)
  begin_least k le h2 h3 h4 h5 h6 r lt (seat_unavailable l) = let x = (h6 lt).0 in omega arith
  begin_least k le h2 h3 h4 h5 h6 r lt (in_use {h = h} q) = none_some (m.seats s) h (h6 lt).1 q
  begin_least k le h2 h3 h4 h5 h6 r lt (too_few q l) = omega arith

  -- nothing else is wrong
  pub fine_sound : Fine m s a t e d → e ≤ between (available m a) t d → Sound m (to_begin s a t e d)
  fine_sound f le r (begin_whom l) = let x = f.whom in omega arith
  fine_sound f le r (for_nothing z) = f.some z
  fine_sound f le r (early l) = let x = f.from in omega (arith, ints)
  fine_sound f le r (backward l) = let x = f.to in omega (arith, ints)
  fine_sound f le r (far l) = let x = f.near in omega (arith, ints)
  fine_sound f le r (seat_unavailable l) = let x = f.seat in omega arith
  fine_sound f le r (in_use {h = h} q) = none_some (m.seats s) h f.unused q
  fine_sound f le r (too_few q l) = omega arith

  pub fine_few : Fine m s a t e d → (k : ℕ) → k ≡ between (available m a) t d → k < e → Refused m (to_begin s a t e d) (TooFew k) m
  fine_few f k q l = record {
    wrong = too_few q l;
    least = begin_least 7 (omega arith) (λ x. f.whom) (λ x. f.some) (λ x. f.from) (λ x. (f.to, f.near)) (λ x. (f.seat, f.unused));
    same = refl;
  }
