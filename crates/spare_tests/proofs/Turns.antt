-- Why the next ready one comes nearer to all the others.
use Rattle.std.proofs.Common.{◌≡◌, ℕ, ◌+◌, ◌<◌, Bool, true, false, Some, None, MatchOption, Option, ◌≢◌, ⊎_elim, arith}
use Rattle.std.proofs.lemmas.Bool.{cases_lt}
use Rattle.std.proofs.lemmas.Bool.Decides.{nat_tests}
use Rattle.spare_tests.specs.Turns.{between, NoneFrom, FirstFrom}

-- a is the next ready one after the last
pub record Next (ready : ℕ → Bool) (last a : ℕ) : Type 0 where
  pub known : a < 16
  pub member : ready a ≡ true
  pub nearer : (b : ℕ) → b < 16 → ready b ≡ true → (b ≢ a) → between a b < between last b

module _ (ready : ℕ → Bool) (last : ℕ) (l : last < 16) where
  ahead : (a : ℕ) → FirstFrom ready (last + 1) 16 a → Next ready last a
  ahead a f = record { known = f.high; member = f.member; nearer = λ b k r other. grind (arith, nat_tests, f.before b) }

  round : (a : ℕ) → NoneFrom ready (last + 1) 16 → FirstFrom ready 0 (last + 1) a → Next ready last a
  round a none f = record {
    known = omega (arith, f.high);
    member = f.member;
    nearer = λ b k r other. grind (arith, nat_tests, f.before b, none b);
  }

  pub next_of : (r o : Option ℕ) → MatchOption r (NoneFrom ready (last + 1) 16) (FirstFrom ready (last + 1) 16) →
      MatchOption r (MatchOption o (NoneFrom ready 0 (last + 1)) (FirstFrom ready 0 (last + 1))) (λ a. o ≡ Some a) →
      MatchOption o ((a : ℕ) → a < 16 → ready a ≡ false) (Next ready last)
  next_of (Some a) o f e = rw e (ahead a f)
  next_of None None h g = λ a k. ⊎_elim (λ lt. g a (omega arith) lt) (λ ge. h a ge k) (cases_lt a (last + 1))
  next_of None (Some a) h g = round a h g
