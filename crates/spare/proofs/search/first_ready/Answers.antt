use Rattle.std.proofs.Common.{◌≡◌, true, false, rules}
use Rattle.std.proofs.lemmas.Iterator.{IsFirst-from_position, YieldsList-from_slice}
use borrow.Author.Tests.{tests}
use Rattle.spare.specs.Sets.{is_ready}
use Rattle.spare.proofs.search.first_ready.Goals as goal

pub returns : goal.returns
returns c =
    let ready = is_ready c.args.ready in
    let e = IsFirst-from_position c.position.new.self _ c.position.result (λ a. ready a ≡ true) (λ a. ready a ≡ false) c.position.ensures.ran (YieldsList-from_slice c.args.places.now cc) (λ x q k. search (rules, tests)) (λ x q k. search (rules, tests)) in
    search rules
