use Rattle.std.proofs.Common.{◌≡◌, ℕ, ◌+◌, ◌<◌, List, length, Some, MatchOption, subst, rules}
use Rattle.spare.specs.Sets.{is_ready}
use Rattle.spare.specs.Search.{NoneIn, FirstAt, NextAt}
use Rattle.spare.specs.Wheels.{after_mark}
use Rattle.spare.specs.Rounds.{next_of}
use Rattle.spare.proofs.wheel.Wheel.next_ready.Goals as goal

pub returns : goal.returns
returns c =
    let ready = is_ready c.args.ready in
    let front = c.split_at.result.0.now in
    let h : MatchOption c.first_ready.result (MatchOption c.or_else.result (NoneIn ready front) (FirstAt ready front)) (λ k. c.or_else.result ≡ Some (length front + k)) = search rules in
    let m = c.self.inside.mark in
    let within : m < length c.deref.result.now = rw c.deref.ensures.value c.self.inside.marked in
    let next = next_of ready c.deref.result.now m within front c.split_at.result.1.now c.split_at.ensures.front c.split_at.ensures.back c.first_ready.result c.or_else.result c.first_ready.ensures h in
    rw (← c.self.view_is) (subst (λ (xs : List ℕ). MatchOption c.or_else.result (NoneIn ready (after_mark xs m)) (NextAt ready xs m)) c.deref.ensures.value next)
