use Rattle.std.proofs.Common.{◌≡◌, ℕ, ◌-◌, ◌*◌, ◌%◌, ◌^◌, ◌<◌, ◌≤◌, pow_mono, sym, ap, ◌∙◌, mod-eq_of_lt, arith}
use lib.Bits.{bit_and}
use Rattle.std.proofs.lemmas.Nat.{and_mask}
use Rattle.plan.proofs.entry.shortened.Goals as goal

masked : (n d k m : ℕ) → k ≡ d → k < 16 → m ≡ 1 * 2 ^ k % 2 ^ 16 → bit_and n (m - 1) ≡ n % 2 ^ d
masked n d k m e l p =
    let low : k ≤ 15 = omega arith in
    let small : 1 * 2 ^ k < 2 ^ 16 = omega (arith, pow_mono low) in
    let whole : m ≡ 2 ^ d = p ∙ mod-eq_of_lt small ∙ (omega arith) ∙ ap (λ x. 2 ^ x) e in
    ap (λ x. bit_and n (x - 1)) whole ∙ and_mask n d

whole : (n d k : ℕ) → k ≡ d → n < 2 ^ 16 → 16 ≤ k → n ≡ n % 2 ^ d
whole n d k e f l =
    let deep : 16 ≤ d = omega arith in
    let below : n < 2 ^ d = omega (arith, pow_mono deep) in
    sym (mod-eq_of_lt below)

pub returns-in-Some : goal.returns-in-Some
returns-in-Some c = masked c.args.path c.args.depth c.from.result c.in-Some.paths c.from.ensures c.in-Some.ensures.0 c.in-Some.ensures.1

pub returns-in-None : goal.returns-in-None
returns-in-None c = whole c.args.path c.args.depth c.from.result c.from.ensures c.ranges.path.fits (omega (arith, c.in-None.ensures))
