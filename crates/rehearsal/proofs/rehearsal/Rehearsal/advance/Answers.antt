use Rattle.std.proofs.Common.{◌≡◌, ℕ, List, [], ◌∷◌, length, refl, arith}
use Rattle.std.proofs.lemmas.Bool.Decides.{nat_tests}
use Rattle.rehearsal.proofs.rehearsal.Rehearsal.advance.Goals as goal

none : (xs : List ℕ) → length xs ≡ 0 → xs ≡ []
none [] e = refl
none (x ∷ xs) e = absurd (omega arith)

pub returns-then-at_end : goal.returns-then-at_end
returns-then-at_end g c =
    let e = c.if-at_end.ensures in
    let size : length c.args.self.now.reader.rest ≡ 0 = grind (arith, nat_tests) in
    let none_left = none c.args.self.now.reader.rest size in
    record { goes = (omega arith, none_left, refl); runs = (omega arith, none_left, refl) }
