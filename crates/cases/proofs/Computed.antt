-- The worked examples of the check, each window of a cycle computed.
use Rattle.std.proofs.Common.{◌≡◌, ℕ, zero, suc, ◌<◌, ◌≤◌, Bool, true, ◌&&◌, leb, ℤ, pos, None, Ok, Err, Option, sym, refl, arith, rules}
use Rattle.std.proofs.lemmas.Bool.{leb-true, le-leb}
use Rattle.std.proofs.lemmas.Bool.Decides.{Decides-below_and}
use Rattle.std.specs.List.{AllByRecursion}
use Rattle.plan.specs.Entries.{InRange as EntryInRange}
use Rattle.plan.specs.Owners.{owner_in}
use Rattle.plan.specs.Laws.{owner_again}
use Rattle.reservation.specs.declared.fault.CheckFault.TheVariants.{Short}
use Rattle.reservation.specs.declared.reservation.Reservation.{Reservation}
use Rattle.reservation.specs.Reservations.{InRange, at}
use Rattle.reservation.specs.Told.{Sound, FirstShort, FirstUnserved}
use Rattle.reservation.specs.Windows.{owned, Served}
use Rattle.reservation.proofs.Sliding.{served_by_cycle}
use Rattle.cases.specs.Examples.{example_base, example_depth, example_entries, example_owner, ends_base, ends_entries, one, AlwaysFree, Holds, checked}

-- whether of the windows of y ticks that begin at 0 to n - 1 each has at least x
abbrev enough : (ℤ → Option ℕ) → ℕ → ℕ → ℕ → ℕ → Bool
enough owner a x y zero = true
enough owner a x y (suc n) = leb x (owned owner a (pos n) y) && enough owner a x y n

enough_each : (owner : ℤ → Option ℕ) (a x y n : ℕ) → enough owner a x y n ≡ true → (k : ℕ) → k < n → x ≤ owned owner a (pos k) y
enough_each owner a x y n e =
    (Decides-below_and (λ k. leb x (owned owner a (pos k) y)) (λ k. x ≤ owned owner a (pos k) y) (enough owner a x y)
    (λ k. (leb-true x (owned owner a (pos k) y), le-leb x (owned owner a (pos k) y))) refl (λ _. refl) n).0 e

-- what holds of the only reservation of a list
only : (P : Reservation → Type 0) (x y : ℕ) → P (at (one x y) 0) → (k : ℕ) → k < 1 → P (at (one x y) k)
only P x y h zero l = h
only P x y h (suc k) l = absurd (omega arith)

sound : (x y : ℕ) → 1 ≤ x → x ≤ y → y ≤ 4096 → Sound (one x y)
sound x y q r s =
    record { few = omega arith; ranged = only InRange x y (omega arith, q, r, s); distinct = λ k h j l e. omega arith }

-- the only reservation of a list is short first where its first short window begins
short : (owner : ℤ → Option ℕ) (cycle x y t n : ℕ) → FirstShort owner cycle (at (one x y) 0) t n → FirstUnserved owner cycle (one x y) 0 t n
short owner cycle x y t n w = record { within = omega arith; before = λ k h. absurd (omega arith); window = w }

in_range : AllByRecursion (EntryInRange example_base example_depth) example_entries
in_range = search rules

pub four_in_twenty : Holds (checked example_base example_depth example_entries (one 4 20) (Ok tt))
four_in_twenty =
    let s = sound 4 20 (omega arith) (omega arith) (omega arith) in
    let served : Served example_owner 0 4 20 =
    served_by_cycle example_owner 40 (omega arith) (λ t. owner_again t 10 2 (omega arith) example_entries in_range) 0 4 20
    (enough_each example_owner 0 4 20 40 refl) in
    record {
      few = s.few;
      ranged = s.ranged;
      distinct = s.distinct;
      served = only (λ r. Served example_owner r.activity r.ticks r.period) 4 20 served;
      shares = omega arith;
    }

pub four_in_nineteen : Holds (checked example_base example_depth example_entries (one 4 19) (Err (Short 0 5 3)))
four_in_nineteen = (
  sound 4 19 (omega arith) (omega arith) (omega arith),
  short example_owner 40 4 19 5 3
      (record { within = omega arith; count = refl; short = omega arith; no_sooner = enough_each example_owner 0 4 19 5 refl }),
)

pub one_in_four : Holds (checked ends_base 1 ends_entries (one 1 4) (Err (Short 0 1 0)))
one_in_four = (
  sound 1 4 (omega arith) (omega arith) (omega arith),
  short (owner_in ends_base ends_entries) 8 1 4 1 0
      (record { within = omega arith; count = refl; short = omega arith; no_sooner = enough_each (owner_in ends_base ends_entries) 0 1 4 1 refl }),
)

free_owned : (a : ℕ) (t : ℤ) (n : ℕ) → owned (λ _. None) a t n ≡ 0
free_owned a t zero = refl
free_owned a t (suc n) = let h = free_owned a t n in omega arith

pub free_short : AlwaysFree
free_short cycle rs c l s =
    let e = free_owned (at rs 0).activity (pos 0) (at rs 0).period in
    let r = s.ranged 0 l in (
      s,
      record {
        within = l;
        before = λ k h. absurd (omega arith);
        window = record { within = c; count = sym e; short = omega arith; no_sooner = λ k h. absurd (omega arith) };
      },
    )
