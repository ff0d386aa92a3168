use Rattle.std.proofs.Common.{◌<◌, ◌^◌, map, ℕ, pos, sum, sym, ◌∙◌, arith, rules}
use Rattle.std.proofs.lemmas.Iterator.{YieldsList-from_range, YieldsList-from_map}
use Rattle.std.proofs.lemmas.Iterator.Consumers.{sum_from_yields_List, fits_from_yields_list}
use Rattle.std.specs.List.{range_with_len}
use Rattle.reservation.specs.Windows.{owned_at}
use Rattle.reservation.proofs.Sliding.{owned_sum, owned_le}
use Rattle.reservation.proofs.window.count_first.Goals as goal

pub sum-requires-clause-fits : goal.sum-requires-clause-fits
sum-requires-clause-fits g c =
    let owner = g.T.Timetable.owner c.args.timetable.now in
    let small : sum (map (λ (t : ℕ). owned_at owner c.args.activity (pos t)) (range_with_len 0 c.args.len)) < 2 ^ 16 =
    omega (arith, owned_sum owner c.args.activity c.args.len, owned_le owner c.args.activity (pos 0) c.args.len, c.ranges.len.fits) in
    fits_from_yields_list c.map.result _
    (YieldsList-from_map _ (λ (t : ℕ). owned_at owner c.args.activity (pos t)) (YieldsList-from_range 0 c.args.len c.args.len (cc) (omega arith)) c.map.ensures.closure (λ x r q k. search rules))
    small

pub returns : goal.returns
returns g c =
    let owner = g.T.Timetable.owner c.args.timetable.now in
    sum_from_yields_List c.map.result c.sum.result c.sum.ensures.ran
    (YieldsList-from_map _ (λ (t : ℕ). owned_at owner c.args.activity (pos t)) (YieldsList-from_range 0 c.args.len c.args.len (cc) (omega arith)) c.map.ensures.closure (λ x r q k. search rules))
    ∙ sym (owned_sum owner c.args.activity c.args.len)
