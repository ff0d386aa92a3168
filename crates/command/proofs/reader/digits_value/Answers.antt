use Rattle.std.proofs.Common.{ℕ, ◌+◌, ◌-◌, ◌*◌, ◌<◌, ◌≤◌, List, [], ◌∷◌, length, get_or, drop, arith}
use Rattle.std.proofs.lemmas.List.{at_drop_more}
use Rattle.std.proofs.lemmas.Bool.Decides.{nat_tests}
use Rattle.command.specs.Reading.{nat_after}
use Rattle.command.proofs.reader.digits_value.Goals as goal

-- more digits make no less
nat_after_ge : (a : ℕ) (ds : List ℕ) → a ≤ nat_after a ds
nat_after_ge a [] = omega arith
nat_after_ge a (d ∷ ds) = omega (arith, nat_after_ge (a * 10 + (d - 48)) ds)

-- the whole is no less than what is read with this digit
at_least : (value i : ℕ) (ds : List ℕ) → i < length ds → value * 10 + (get_or ds i 0 - 48) ≤ nat_after value (drop i ds)
at_least value i ds h =
    let step = at_drop_more (nat_after value) ds i 0 h in
    let more = nat_after_ge (value * 10 + (get_or ds i 0 - 48)) (drop (i + 1) ds) in
    omega arith

pub returns-in_err-tens : goal.returns-in_err-tens
returns-in_err-tens c =
    let big = c.in_err-tens.ensures in
    let least = at_least c.loop-d.value c.loop-d.d-index c.args.digits.now (omega arith) in
    rw c.from_residual.ensures (grind (arith, nat_tests))

pub returns-in_err-value : goal.returns-in_err-value
returns-in_err-value c =
    let tens = c.in_ok-tens.ensures in
    let big = c.in_err-value.ensures in
    let least = at_least c.loop-d.value c.loop-d.d-index c.args.digits.now (omega arith) in
    rw c.from_residual-in_err-value.ensures (grind (arith, nat_tests))
