use Rattle.std.proofs.Common.{◌≡◌, ℕ, ◌<◌, Bool, true, false, length, get_or, MatchBool, ℤ, pos, ◌+ℤ◌, Option, refl, ap, ◌∙◌, arith, rules}
use borrow.Author.Tests.{tests}
use Rattle.std.proofs.lemmas.Bool.{false≢true}
use Rattle.std.proofs.lemmas.Iterator.{YieldsList-from_range, cases_from_any}
use Rattle.std.proofs.lemmas.List.FromFn.{length-range_with_len, get_or-range_with_len}
use Rattle.std.specs.List.{range_with_len, AllWithin, HoldsAt}
use Rattle.clock.proofs.Laws.{floor_mod_lt, repeats_mod}
use Rattle.clock.specs.Floor.{floor_mod}
use Rattle.bars.proofs.owns_any.Goals as goal

-- a tick anywhere has the owner of one in the first cycle
decided : (owner : ℤ → Option ℕ) (n : ℕ) (who : Option ℕ) (r : Bool) → 0 < n → ((t : ℤ) → owner (t +ℤ pos n) ≡ owner t) → MatchBool r ((k : ℕ) × (k < length (range_with_len 0 n)) × HoldsAt (λ (t : ℕ). owner (pos t) ≡ who) (range_with_len 0 n) k) (AllWithin (λ (t : ℕ). owner (pos t) ≡ who → ⊥) (range_with_len 0 n) 0 (length (range_with_len 0 n))) → (r ≡ true → (t : ℤ) × (owner t ≡ who)) × (((t : ℤ) × (owner t ≡ who)) → r ≡ true)
decided owner n who true some again (k, l, is) = (λ e. (pos (get_or (range_with_len 0 n) k 0), is 0), λ h. refl)
decided owner n who false some again none =
    let found : (t : ℤ) → owner t ≡ who → ⊥ = λ t is.
    let low = floor_mod_lt t n some in
    let at : get_or (range_with_len 0 n) (floor_mod t n) 0 ≡ floor_mod t n = omega (arith, get_or-range_with_len 0 n (floor_mod t n) 0 low) in
    none (floor_mod t n) 0 (omega arith) (omega (arith, length-range_with_len 0 n)) (ap (λ k. owner (pos k)) at ∙ repeats_mod owner n some again t ∙ is) in
    (λ e. absurd (false≢true e), λ (t, is). absurd (found t is))

pub returns : goal.returns
returns g c =
    let x = c.args.timetable.now in
    let n = g.T.Timetable.cycle c.args.timetable.now in
    let some : 0 < g.T.Timetable.cycle c.args.timetable.now = omega (arith, g.met.T.Timetable.least c.args.timetable.now) in
    let same = c.cycle.ensures in
    decided (g.T.Timetable.owner x) n c.args.who c.any.result some (g.met.T.Timetable.repeats x)
    (cases_from_any _ _ _ (λ (t : ℕ). g.T.Timetable.owner x (pos t) ≡ c.args.who) (λ (t : ℕ). g.T.Timetable.owner x (pos t) ≡ c.args.who → ⊥) c.any.ensures.ran
    (YieldsList-from_range 0 n n (cc) (omega arith)) (λ t q k. search (rules, tests)) (λ t q k. search (rules, tests)))
