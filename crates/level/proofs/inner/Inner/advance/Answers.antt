use Rattle.std.proofs.Common.{◌≡◌, pos, ◌+ℤ◌, ◌<ℤ◌, arith, w32, SFits, to_z, of_z, rules}
use Rattle.std.proofs.lemmas.Int.{ints, by_lt_z}
use Rattle.level.specs.Promises.{is_for}
use Rattle.level.proofs.Counted.{room, ran_more, used_more}
use Rattle.level.proofs.inner.Inner.advance.Goals as goal

pub tally_seat-requires : goal.tally_seat-requires
tally_seat-requires c =
    let ne = c.requires.1 in
    let fc : SFits w32 c.args.self.now.clock = search rules in
    let lt : c.args.self.now.clock <ℤ pos 2147483647 = by_lt_z c.args.self.now.clock (pos 2147483647) (λ l. l) (λ l. absurd (ne (omega (arith, ints)))) in
    (c.requires.0.1, λ s h l. room c.args.self.now.clock _ lt (c.args.self.now.few s h l))

pub credit-requires : goal.credit-requires
credit-requires c =
    let ne = c.requires.1 in
    let fc : SFits w32 c.args.self.now.clock = search rules in
    let lt : c.args.self.now.clock <ℤ pos 2147483647 = by_lt_z c.args.self.now.clock (pos 2147483647) (λ l. l) (λ l. absurd (ne (omega (arith, ints)))) in
    (c.requires.0.0, λ a l. room c.args.self.now.clock _ lt (c.args.self.now.little a l))

pub invariant_of-self : goal.invariant_of-self
invariant_of-self c =
    let ne = c.requires.1 in
    let fc : SFits w32 c.args.self.now.clock = search rules in
    let lt : c.args.self.now.clock <ℤ pos 2147483647 = by_lt_z c.args.self.now.clock (pos 2147483647) (λ l. l) (λ l. absurd (ne (omega (arith, ints)))) in
    let e : to_z w32 (of_z w32 (to_z w32 (of_z w32 c.args.self.now.clock) +ℤ pos 1)) ≡ c.args.self.now.clock +ℤ pos 1 = omega (arith, ints) in record {
      few = ran_more c.args.self.now.clock _ e c.args.self.now.seats _ (λ s. is_for s c.args.ticked.letter) c.tally_seat.ensures c.args.self.now.few;
      little = used_more c.args.self.now.clock _ e c.args.self.now.used _ c.args.ticked.runner c.credit.ensures c.args.self.now.little;
    }
