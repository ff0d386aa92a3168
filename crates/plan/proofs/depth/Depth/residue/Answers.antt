use Rattle.std.proofs.Common.{◌-◌, ap, ◌∙◌}
use lib.Bits.{bit_and}
use Rattle.std.proofs.lemmas.Nat.{and_mask}
use Rattle.plan.proofs.depth.Depth.residue.Goals as goal

pub returns : goal.returns
returns c = ap (λ m. bit_and c.args.n (m - 1)) c.paths.ensures ∙ and_mask c.args.n c.args.self.levels
