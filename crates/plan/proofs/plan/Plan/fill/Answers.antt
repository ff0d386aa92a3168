use Rattle.std.proofs.Common.{Err, sym, subst}
use Rattle.std.proofs.lemmas.Result.{err_from_is_err_and}
use Rattle.clock.specs.declared.Span.{Span}
use Rattle.plan.specs.declared.depth.Depth.{Depth}
use Rattle.plan.specs.Filled.{Shared}
use Rattle.plan.proofs.Answered.{shared_told}
use Rattle.plan.proofs.plan.Plan.fill.Goals as goal

pub returns-in_err-base-clause-shared : goal.returns-in_err-base-clause-shared
returns-in_err-base-clause-shared c =
    let p = err_from_is_err_and c.from_residual.result c.from_residual.ensures.1 in
    let shared = shared_told (Span 64 × Depth) (Unit {0}) c.args.base c.args.depth c.args.entries.now c.in_err-base.field-0.0 c.in_err-base.ensures.told in
    subst (Shared {U = Unit {0}} c.args.base c.args.entries.now) (sym p.1) (subst (λ e. Shared {U = Unit {0}} c.args.base c.args.entries.now (Err e)) (sym p.2) shared)
