use Rattle.std.proofs.Common.{◌≡◌, ℕ, ◌+◌, ◌<◌, Bool, false, Some, Option, MatchOption, refl, rules}
use Rattle.spare.specs.Sets.{is_ready}
use Rattle.spare.specs.SetsLemmas.{member_known, from_below}
use Rattle.spare_tests.specs.Turns.{NoneFrom, FirstFrom}
use Rattle.spare_tests.proofs.Turns.{Next, next_of}
use Rattle.spare_tests.proofs.robin.RoundRobinSpareRule.choose.Goals as goal

-- whom the two searches name comes next
named :
    (ready : ℕ → Bool) (last : ℕ) → last < 16 → (r o : Option ℕ) → MatchOption r (NoneFrom ready (last + 1) 16) (FirstFrom ready (last + 1) 16) →
    MatchOption r (MatchOption o (NoneFrom ready 0 (last + 1)) (FirstFrom ready 0 (last + 1))) (λ a. o ≡ Some a) →
    (a : ℕ) → o ≡ Some a → Next ready last a
named ready last l r o f h a e = rw e at (next_of ready last l r o f h)

pub returns-in_err-next-clause-chosen : goal.returns-in_err-next-clause-chosen
returns-in_err-next-clause-chosen c =
    let ready = is_ready c.args.ready in
    let last = c.self.inside.last in
    let h : MatchOption c.first_ready.result (MatchOption c.or_else.result (NoneFrom ready 0 (last + 1)) (FirstFrom ready 0 (last + 1))) (λ a. c.or_else.result ≡ Some a) = search rules in
    let none : (a : ℕ) → a < 16 → ready a ≡ false = rw c.in_err-next.was at (next_of ready last c.self.inside.known c.first_ready.result c.or_else.result c.first_ready.ensures h) in
    rw c.from_residual.ensures (record { idle = from_below c.args.ready none; distances = λ a. refl; steady = refl })

pub returns-clause-chosen : goal.returns-clause-chosen
returns-clause-chosen c =
    let next = named (is_ready c.args.ready) c.self.inside.last c.self.inside.known c.first_ready.result c.or_else.result c.first_ready.ensures (search rules) c.in_ok-next.next c.in_ok-next.was in
    rw (← c.self.view_is) (record { known = next.known; member = next.member; nearer = λ b r other. next.nearer b (member_known c.args.ready b r) r other; steady = refl })

pub invariant_of-self-inside : goal.invariant_of-self-inside
invariant_of-self-inside c =
    let next = named (is_ready c.args.ready) c.self.inside.last c.self.inside.known c.first_ready.result c.or_else.result c.first_ready.ensures (search rules) c.in_ok-next.next c.in_ok-next.was in
    (next.known, tt)
