use Rattle.std.proofs.Common.{◌≡◌, ℕ, ◌+◌, [], take, drop, sym, ap, ◌∙◌, subst, arith}
use Rattle.std.proofs.lemmas.List.{drop-drop, drop-set-lt}
use Rattle.spare.specs.Calls.{Ran}
use Rattle.spare.specs.Asking.{CallOf}
use Rattle.spare.proofs.Waits.{never_starves, each_served, ran_more}
use Rattle.spare.proofs.waiting.name_each.Goals as goal

pub loop-k-preserved : goal.loop-k-preserved
loop-k-preserved g c =
    let k = c.loop-k.k in
    let sets = c.args.sets.now in
    let names = c.loop-k.names in
    let n = c.choose.result in
    let call = CallOf g.R.SpareRule in
    let h = c.choose.ensures in
    let few = c.min-count.ensures in (
      ran_more call c.args.rule.now sets names c.loop-k.rule k (record { members = [] }) n c.choose.new.self (omega arith) (omega arith) c.loop-k.invariant.0 (h.chosen, h.exact),
      drop-set-lt (k + 1) names k n (omega arith) ∙ sym (drop-drop 1 k names) ∙ ap (drop 1) c.loop-k.invariant.1 ∙ drop-drop 1 k c.args.names.now,
    )

pub returns : goal.returns
returns g c =
    let sets = c.args.sets.now in
    let names = c.loop-k.names in
    let x = c.args.rule.now in
    let y = c.loop-k.rule in
    let bounded = g.met.R.SpareRule.bounded in
    let all : c.loop-k.k ≡ c.min-count.result = omega arith in
    let ran = subst (λ (k : ℕ). Ran (CallOf g.R.SpareRule) x (take k sets) (take k names) y) all c.loop-k.invariant.0 in
    let count = c.min-count.result in
    record {
      count = c.min-count.ensures;
      ran = ran;
      rest = subst (λ (k : ℕ). drop k names ≡ drop k c.args.names.now) all c.loop-k.invariant.1;
      served = each_served g.R.SpareRule bounded x (take count sets) (take count names) y ran;
      always = never_starves g.R.SpareRule bounded y;
    }
