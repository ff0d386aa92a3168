-- A ticket that was just given out is not refused.
use Rattle.std.proofs.Common.{◌≡◌, ℕ, ℤ, Ok, Err, Result, sym, refl, ap, ◌∙◌}
use Rattle.std.specs.Result.{IsOk}
use Rattle.level.specs.declared.ticket.Ticket.{Ticket}
use Rattle.level.specs.declared.refusal.Refusal.{Refusal}
use Rattle.level.specs.Meaning.{Meaning, began, collected}
use Rattle.level.specs.Levels.{leave_event, end_event}
use Rattle.level.specs.Steps.{Step}
use Rattle.level.proofs.Refusing.{end_sound, leave_sound}

pub left_at_once :
    (m n o : Meaning) (s a : ℕ) (t : ℤ) (e : ℕ) (d : ℤ) (x : Ticket) (r : Result (Unit {0}) (Refusal × Ticket)) → Step m (began s a t e d x) n → Step n (leave_event x r) o → IsOk r
left_at_once m n o s a t e d x (Ok u) b f = refl
left_at_once m n o s a t e d x (Err r) b f =
    let level : x.level ≡ n.number = ap (λ z. z.level) b.1.ticket ∙ sym b.1.beside.kept.number in
    absurd (leave_sound n x _ level (ap (λ z. n.seats z.seat) b.1.ticket ∙ b.1.seat.seat) refl r.0 f.wrong)

pub ended_at_once :
    (m n o : Meaning) (s : ℕ) (x : Ticket) (r : Result ℕ (Refusal × Ticket)) → Step m (collected s x) n → Step n (end_event x r) o → IsOk r
ended_at_once m n o s x (Ok k) b f = refl
ended_at_once m n o s x (Err r) b f =
    let level : x.level ≡ n.number = ap (λ z. z.level) b.2 ∙ sym b.1.beside.kept.number in
    absurd (end_sound n x _ level (ap (λ z. n.seats z.seat) b.2 ∙ b.1.seat.seat) refl r.0 f.wrong)
