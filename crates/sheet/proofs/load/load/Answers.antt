use Rattle.std.proofs.Common.{Ok, sym, ◌∙◌, subst}
use Rattle.sheet.specs.Told.{Told}
use Rattle.sheet.proofs.Answered.{held_list}
use Rattle.sheet.proofs.load.load.Goals as goal

pub returns-clause-told : goal.returns-clause-told
returns-clause-told c = subst (λ n. Told c.args.sheet.now (Ok n)) (sym c.len-count.ensures.value) c.in_ok-passed.ensures.0.told

pub returns-clause-after : goal.returns-clause-after
returns-clause-after c =
    held_list c.args.sheet.now c.in_ok-passed.passed c.len-count.result c.copy_from_slice.new.self c.default-list.result
    (sym c.len-count.ensures.value) (c.copy_from_slice.ensures.after ∙ c.as_slice.ensures.value) c.in_ok-passed.ensures.1 c.default-list.ensures
