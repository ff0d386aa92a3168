-- A constraint that was just begun is ended by its ticket.
use Rattle.std.proofs.Common.{◌≡◌, ℕ, ℤ, Ok, Err, Result, sym, refl, ap, ◌∙◌}
use Rattle.level.specs.declared.ticket.Ticket.{Ticket}
use Rattle.level.specs.declared.refusal.Refusal.{Refusal}
use Rattle.level.specs.Meaning.{Meaning, began}
use Rattle.level.specs.Levels.{end_event}
use Rattle.level.specs.Steps.{Step}
use Rattle.std.specs.Result.{IsOk}
use Rattle.level.proofs.Refusing.{end_sound}

pub ended_at_home :
    (m n o : Meaning) (s a : ℕ) (t : ℤ) (e : ℕ) (d : ℤ) (x y : Ticket) (r : Result ℕ (Refusal × Ticket)) → Step m (began s a t e d x) n → y ≡ x → Step n (end_event y r) o → IsOk r
ended_at_home m n o s a t e d x y (Ok k) b q f = refl
ended_at_home m n o s a t e d x y (Err r) b q f =
    let ticket = q ∙ b.1.ticket in
    let level : y.level ≡ n.number = ap (λ z. z.level) ticket ∙ sym b.1.beside.kept.number in
    absurd (end_sound n y _ level (ap (λ z. n.seats z.seat) ticket ∙ b.1.seat.seat) refl r.0 f.wrong)
