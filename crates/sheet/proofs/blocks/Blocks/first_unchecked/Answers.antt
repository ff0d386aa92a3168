use Rattle.std.proofs.Common.{rules, tests}
use Rattle.std.specs.List.{concat}
use Rattle.std.proofs.lemmas.Iterator.{IsFirst-from_position, YieldsList-from_slice}
use Rattle.sheet.specs.Format.{Checked}
use Rattle.sheet.proofs.Bytes.{block_of, unchecked_among}
use Rattle.sheet.proofs.blocks.Blocks.first_unchecked.Goals as goal

pub returns : goal.returns
returns c =
    let bs = c.args.self.now.blocks.now in
    unchecked_among (concat bs) bs (block_of bs c.args.self.now.whole) c.position.result
    (IsFirst-from_position _ _ _ (λ b. Checked b → ⊥) Checked c.position.ensures.ran (YieldsList-from_slice bs c.iter.ensures.rest) (λ x q k. search (rules, tests)) (λ x q k. search (rules, tests)))
