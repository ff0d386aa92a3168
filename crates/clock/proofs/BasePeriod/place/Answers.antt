use Rattle.std.proofs.Common.{◌≡◌, ℕ, ℤ, ◌∙◌, w32, SFits, rules}
use Rattle.std.proofs.lemmas.Int.{to_z-of_z}
use Rattle.clock.specs.Floor.{floor_div, floor_mod}
use Rattle.clock.proofs.Laws.{lies_once}
use Rattle.clock.proofs.BasePeriod.place.Goals as goal

-- a frame that was passed or returned is the same number
passed : {g f s t : ℤ} (b : ℕ) → g ≡ f → f ≡ floor_div s b → s ≡ t → floor_div t b ≡ g
passed b p q r = cc

left : {o : ℕ} {s t : ℤ} (b : ℕ) → o ≡ floor_mod s b → s ≡ t → floor_mod t b ≡ o
left b p q = cc

pub returns-clause-only : goal.returns-clause-only
returns-clause-only c =
    let fits : SFits w32 c.frame.result = search rules in
    let same = to_z-of_z w32 c.args.t c.ranges.t in
    let f = passed c.args.self.ticks (to_z-of_z w32 c.frame.result fits) c.frame.ensures same in
    let o = left c.args.self.ticks c.offset.ensures same in
    λ g p l. let once = lies_once c.args.t c.args.self.ticks g p l in (once.0 ∙ f, once.1 ∙ o)
