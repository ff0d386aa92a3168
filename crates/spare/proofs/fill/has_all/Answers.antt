use Rattle.std.proofs.Common.{◌≡◌, ℕ, ◌<◌, ◌≤◌, Bool, true, false, Decides, MatchBool, get_or, sym, refl, ◌∙◌, subst, rules, arith}
use Rattle.std.proofs.lemmas.Bool.{both_ways}
use Rattle.std.proofs.lemmas.Iterator.{cases_from_all, YieldsList-from_range}
use Rattle.std.proofs.lemmas.List.FromFn.{get_or-range_with_len}
use Rattle.std.specs.List.{AllWithin, HoldsAt, range_with_len}
use borrow.Author.Tests.{tests}
use Rattle.spare.specs.Orders.{times}
use Rattle.spare.proofs.fill.has_all.Goals as goal

nth : (a : ℕ) → a < 16 → get_or (range_with_len 0 16) a 0 ≡ a
nth a l = get_or-range_with_len 0 16 a 0 l ∙ omega arith

-- what holds of the items of the range holds of the activities
each : (P : ℕ → Type 0) (r : Bool) → MatchBool r (AllWithin P (range_with_len 0 16) 0 16) ((k : ℕ) × (k < 16) × HoldsAt (λ a. P a → ⊥) (range_with_len 0 16) k) → Decides r ((a : ℕ) → a < 16 → P a)
each P true h = (λ _ a l. subst P (nth a l) (h a 0 (omega arith) l), λ _. refl)
each P false (k, l, h) = (λ e. absurd (both_ways false refl e), λ all. absurd (h 0 (subst P (sym (nth k l)) (all k l))))

pub returns : goal.returns
returns c =
    let there = λ (a : ℕ). 1 ≤ times a c.args.places.now in
    each there c.all.result (cases_from_all c.all.new.self _ c.all.result there (λ a. there a → ⊥) c.all.ensures.ran (YieldsList-from_range 0 16 16 refl refl) (λ x q k. search (rules, tests)) (λ x q k. search (rules, tests)))
