use Rattle.std.proofs.Common.{◌+◌, length, sym, subst, arith}
use Rattle.std.specs.List.{concat}
use Rattle.std.proofs.lemmas.Iterator.{YieldsList-from_slice}
use Rattle.std.proofs.lemmas.Iterator.Adapters.{YieldsList-from_skip}
use Rattle.std.proofs.lemmas.Iterator.Consumers.{YieldsList-from_enumerate, YieldsList-turn}
use Rattle.std.proofs.lemmas.List.{length_push}
use Rattle.sheet.specs.Format.{block, in_block, IsEntryBlock}
use Rattle.sheet.proofs.EntryParts.{later_block, all_more}
use Rattle.sheet.proofs.entries.first_broken.Goals as goal

pub returns-then-not-is_entry_block : goal.returns-then-not-is_entry_block
returns-then-not-is_entry_block c =
    let bs = c.args.blocks.now.blocks.now in
    let s = concat bs in
    let number = c.in-Some.number in
    let road = YieldsList-from_skip {s = c.into_iter-number-iterator.result} 1 (YieldsList-from_enumerate (YieldsList-from_slice bs (cc)) (cc)) (cc) in
    let turn = later_block bs c.args.blocks.now.whole (length c.loop-number.yielded) (number, c.in-Some.entry_block.now) (YieldsList-turn road c.loop-number.yielded _ c.loop-number.yielded_by _ _ (number, c.in-Some.entry_block) c.in-Some.is c.next.ensures.steps) in
    record {
      least = omega (arith, turn.1);
      within = omega (arith, turn.0, turn.1);
      before = λ k low high. c.loop-number.invariant k low (omega (arith, turn.1));
      wrong = λ h. c.if-not-is_entry_block.ensures (subst (λ b. IsEntryBlock b number c.entries_in.result) (sym turn.2) (subst (IsEntryBlock (block s number) number) (sym c.entries_in.ensures) h));
    }

pub loop-number-preserved : goal.loop-number-preserved
loop-number-preserved c =
    let bs = c.args.blocks.now.blocks.now in
    let s = concat bs in
    let m = length c.loop-number.yielded in
    let number = c.in-Some.number in
    let road = YieldsList-from_skip {s = c.into_iter-number-iterator.result} 1 (YieldsList-from_enumerate (YieldsList-from_slice bs (cc)) (cc)) (cc) in
    let turn = later_block bs c.args.blocks.now.whole m (number, c.in-Some.entry_block.now) (YieldsList-turn road c.loop-number.yielded _ c.loop-number.yielded_by _ _ (number, c.in-Some.entry_block) c.in-Some.is c.next.ensures.steps) in
    let here = subst (λ b. IsEntryBlock b number (in_block c.args.entries number)) turn.2 (subst (IsEntryBlock c.in-Some.entry_block.now number) c.entries_in.ensures c.if-not-is_entry_block.ensures) in
    let last = subst (λ n. IsEntryBlock (block s n) n (in_block c.args.entries n)) turn.1 here in
    let long = length_push c.loop-number.yielded (number, c.in-Some.entry_block) in
    λ k low high. all_more s c.args.entries (1 + m) c.loop-number.invariant last k low (omega (arith, long))
