use Rattle.std.proofs.Common.{rules, ◌≡◌, ◌*◌, ◌/◌, ◌<◌, ◌≤◌, [], length, get_or, ap, ◌∙◌, arith}
use Rattle.std.specs.List.{concat}
use Rattle.sheet.proofs.Bytes.{get_or-first_chunks, length_block, concat-first_chunks}
use Rattle.sheet.proofs.blocks.Blocks.new.Goals as goal

pub invariant_of-result-clause-sized : goal.invariant_of-result-clause-sized
invariant_of-result-clause-sized c =
    let bytes = c.args.bytes.now in
    let full : length bytes ≡ 512 * (length bytes / 512) = search (rules) in
    let long = ap (λ x. length (concat x)) c.as_chunks.ensures.front ∙ ap length (concat-first_chunks 512 _ bytes full) in
    let counted = c.as_chunks.ensures.front_len in
    let some : 1 ≤ length c.as_chunks.result.0.now = search (rules) in
    (some, omega arith, omega arith)

pub invariant_of-result-clause-whole : goal.invariant_of-result-clause-whole
invariant_of-result-clause-whole c = λ k l.
    let bytes = c.args.bytes.now in
    let inside : k < length bytes / 512 = omega (arith, c.as_chunks.ensures.front_len) in
    ap length (ap (λ x. get_or x k []) c.as_chunks.ensures.front ∙ get_or-first_chunks 512 _ bytes k [] inside) ∙ length_block bytes k (omega arith)

pub returns : goal.returns
returns c =
    let bytes = c.args.bytes.now in
    let full : length bytes ≡ 512 * (length bytes / 512) = search (rules) in
    ap concat c.as_chunks.ensures.front ∙ concat-first_chunks 512 _ bytes full
