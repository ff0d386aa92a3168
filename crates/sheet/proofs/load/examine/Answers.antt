use Rattle.std.proofs.lemmas.Result.{err_from_is_err_and}
use Rattle.sheet.specs.declared.fault.SheetFault.TheVariants.{Plan, Check}
use Rattle.sheet.proofs.Answered.{refused, plan_refused, check_refused, accepted}
use Rattle.sheet.proofs.load.examine.Goals as goal

pub returns-in_err-heading : goal.returns-in_err-heading
returns-in_err-heading c =
    let p = err_from_is_err_and c.from_residual.result c.from_residual.ensures.1 in
    refused c.args.sheet.now c.from_residual.result p.0 c.in_err-heading.field-0.0 p.1 p.2 c.in_err-heading.ensures

pub returns-in_err-fill : goal.returns-in_err-fill
returns-in_err-fill c =
    let s = c.args.sheet.now in
    let f = c.in_err-fill.field-0.0 in
    let p = err_from_is_err_and c.from_residual-in_err-fill.result c.from_residual-in_err-fill.ensures.1 in
    let t = plan_refused s c.in_ok-heading.field-0 c.in_ok-heading.ensures c.as_slice.result.now c.as_slice.ensures.value f c.in_err-fill.ensures.told in
    refused s c.from_residual-in_err-fill.result p.0 (Plan f) p.1 p.2 t

pub returns-in_err-check : goal.returns-in_err-check
returns-in_err-check c =
    let s = c.args.sheet.now in
    let f = c.in_err-check.field-0.0 in
    let filled = c.in_ok-fill.ensures in
    let p = err_from_is_err_and c.from_residual-in_err-check.result c.from_residual-in_err-check.ensures.1 in
    let t = check_refused s c.in_ok-heading.field-0 c.in_ok-heading.ensures c.as_slice.result.now c.as_slice.ensures.value c.as_slice-2.result.now c.as_slice-2.ensures.value c.fill.new.self filled.after.0 filled.after.1 filled.after.2 filled.told f c.in_err-check.ensures.told in
    refused s c.from_residual-in_err-check.result p.0 (Check f) p.1 p.2 t

pub returns : goal.returns
returns c =
    let filled = c.in_ok-fill.ensures in
    accepted c.args.sheet.now c.in_ok-heading.field-0 c.in_ok-heading.ensures c.as_slice.result.now c.as_slice.ensures.value c.as_slice-2.result.now c.as_slice-2.ensures.value c.fill.new.self filled.after.0 filled.after.1 filled.after.2 filled.told c.in_ok-check.ensures.told
