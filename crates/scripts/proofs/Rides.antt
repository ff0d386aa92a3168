-- A ride is a begin, some calls, and what finishes it.
use Rattle.std.proofs.Common.{◌≡◌, ℕ, ℤ, Ok, Err, Result, sym, subst}
use Rattle.level.specs.declared.ticket.Ticket.{Ticket}
use Rattle.level.specs.declared.refusal.Refusal.{Refusal}
use Rattle.level.specs.Meaning.{Meaning, to_begin, to_end, began, refused}
use Rattle.level.specs.Steps.{Step}
use Rattle.scripts.specs.declared.outcome.Failure.{Failure}
use Rattle.scripts.specs.declared.outcome.Failure.TheVariants.{Missing, Held}
use Rattle.scripts.specs.Plays.{Plays}
use Rattle.scripts.specs.Outcomes.{Finished, Ridden}

pub ridden :
    (m k l n : Meaning) (s a : ℕ) (t : ℤ) (e : ℕ) (d : ℤ) (x : Ticket) (o : Result ℕ Failure) → t ≡ m.clock → Step m (began s a t e d x) k → Plays k l → Finished l x o n → Ridden m s a e d o n
ridden m k l n s a t e d x (Ok ran) at b p f = (k, l, x, subst (λ z. Step m (began s a z e d x) k) at b, p, f)
ridden m k l n s a t e d x (Err (Missing r)) at b p f = absurd f
ridden m k l n s a t e d x (Err (Held r y)) at b p f = (
  k,
  l,
  subst (λ z. Step m (began s a m.clock e d z) k) (sym f.1) (subst (λ z. Step m (began s a z e d x) k) at b),
  p,
  subst (λ z. Step l (refused (to_end z) r) n) (sym f.1) f.0,
)

pub unridden : (m n : Meaning) (s a : ℕ) (t : ℤ) (e : ℕ) (d : ℤ) (r : Refusal) → t ≡ m.clock → Step m (refused (to_begin s a t e d) r) n → Ridden m s a e d (Err (Missing r)) n
unridden m n s a t e d r at f = subst (λ z. Step m (refused (to_begin s a z e d) r) n) at f
