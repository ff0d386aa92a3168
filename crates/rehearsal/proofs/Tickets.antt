-- A ticket that the level has just given out is taken back.
use Rattle.std.proofs.Common.{◌≡◌, ℕ, true, false, ◌⊎◌, ℤ, Ok, Err, Result, Some, Option, sym, refl, ap, ◌∙◌, subst, inl, inr, arith}
use Rattle.std.specs.Result.{IsOk}
use Rattle.level.specs.declared.refusal.Refusal.{Refusal}
use Rattle.level.specs.declared.constraint.Constraint.{Constraint}
use Rattle.level.specs.declared.ticket.Ticket.{Ticket}
use Rattle.level.specs.Meaning.{Meaning, to_leave, to_end, began, collected}
use Rattle.level.specs.Refusals.{NotOut, Wrong, leave_foreign, leave_not_out, end_foreign, end_not_out}
use Rattle.level.specs.Levels.{leave_event, end_event}
use Rattle.level.specs.Steps.{Step}

wrong_leave : (m : Meaning) (x : Ticket) (r : Refusal) → Wrong m (to_leave x) r → (x.level ≡ m.number → ⊥) ⊎ NotOut (m.seats x.seat)
wrong_leave m x r (leave_foreign f) = inl f
wrong_leave m x r (leave_not_out f) = inr f

wrong_end : (m : Meaning) (x : Ticket) (r : Refusal) → Wrong m (to_end x) r → (x.level ≡ m.number → ⊥) ⊎ NotOut (m.seats x.seat)
wrong_end m x r (end_foreign f) = inl f
wrong_end m x r (end_not_out f) = inr f

-- a ticket of this level whose seat's ticket is out
out_here : (m : Meaning) (x : Ticket) (k s : ℕ) (h : Constraint) → x ≡ record { level = k; seat = s } → m.number ≡ k → m.seats s ≡ Some h → h.out ≡ true
    → (x.level ≡ m.number → ⊥) ⊎ NotOut (m.seats x.seat) → ⊥
out_here m x k s h e n at out (inl f) = f (ap (λ (y : Ticket). y.level) e ∙ sym n)
out_here m x k s h e n at out (inr f) =
    let seat : m.seats x.seat ≡ Some h = ap (λ (y : Ticket). m.seats y.seat) e ∙ at in
    let no_more : h.out ≡ false = subst (λ (o : Option Constraint). NotOut o) seat f in
    let z : ◌≡◌ {A = ℕ} 0 1 = cc in omega arith

-- after a begin its ticket can be left
pub left_sound : (m k n : Meaning) (s a : ℕ) (t : ℤ) (e : ℕ) (d : ℤ) (x : Ticket) (r : Result (Unit {0}) (Refusal × Ticket))
    → Step m (began s a t e d x) k → Step k (leave_event x r) n → IsOk r
left_sound m k n s a t e d x (Ok u) b f = refl
left_sound m k n s a t e d x (Err r) b f =
    absurd (out_here k x m.number s _ b.1.ticket b.1.beside.kept.number b.1.seat.seat refl (wrong_leave k x r.0 f.wrong))

-- after a collect its ticket can be ended with
pub end_sound : (m k n : Meaning) (s : ℕ) (x : Ticket) (r : Result ℕ (Refusal × Ticket))
    → Step m (collected s x) k → Step k (end_event x r) n → IsOk r
end_sound m k n s x (Ok j) b f = refl
end_sound m k n s x (Err r) b f =
    absurd (out_here k x m.number s _ b.2 b.1.beside.kept.number b.1.seat.seat refl (wrong_end k x r.0 f.wrong))
