use Rattle.std.proofs.Common.{rules}
use Rattle.row.proofs.Lengths.{digits_by_power}
use Rattle.row.proofs.figures.digit_count.Goals as goal

pub returns-clause-value : goal.returns-clause-value
returns-clause-value c =
    let log = c.checked_ilog10.ensures in
    digits_by_power c.args.n c.checked_ilog10.result c.map_or.result log.none log.power_le log.next_power_gt (λ e. search rules) (λ k e. search rules) (search rules)
