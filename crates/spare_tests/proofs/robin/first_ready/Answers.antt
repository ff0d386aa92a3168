use Rattle.std.proofs.Common.{◌≡◌, true, false, rules}
use Rattle.std.proofs.lemmas.Iterator.{first_from_Range}
use borrow.Author.Tests.{tests}
use Rattle.spare.specs.Sets.{is_ready}
use Rattle.spare_tests.proofs.robin.first_ready.Goals as goal

pub returns : goal.returns
returns c =
    let ready = is_ready c.args.ready in
    let e = first_from_Range c.args.activities c.find.new.self _ c.find.result (λ a. ready a ≡ true) (λ a. ready a ≡ false) c.find.ensures.ran (λ x q k. search (rules, tests)) (λ x q k. search (rules, tests)) in
    search rules
