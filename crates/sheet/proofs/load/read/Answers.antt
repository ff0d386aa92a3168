use Rattle.std.proofs.Common.{sym, subst, arith}
use Rattle.std.proofs.lemmas.Result.{err_from_is_err_and}
use Rattle.std.proofs.option.Match.{if_some}
use Rattle.sheet.specs.declared.fault.SheetFault.TheVariants.{EntryBlock}
use Rattle.sheet.specs.Told.{Refused}
use Rattle.sheet.proofs.Sheets.{unheaded_told, broken_told}
use Rattle.sheet.proofs.load.read.Goals as goal

pub returns-in_err-heading : goal.returns-in_err-heading
returns-in_err-heading c =
    let fault = c.in_err-heading.field-0.0 in
    let same = if_some _ _ _ c.in_ok-blocks.ensures.ok_part c.new.ensures in
    let told = unheaded_told _ _ c.read_heading.result fault (omega arith, omega arith, omega arith) c.in_default.ensures c.read_heading.ensures c.in_err-heading.ensures.ok_part c.in_err-heading.ensures.value in
    let p = err_from_is_err_and c.from_residual-in_err-heading.result c.from_residual-in_err-heading.ensures.1 in
    rw p.1 (subst (Refused c.args.sheet.now) (sym p.2) (subst (λ s. Refused s fault) same told))

pub returns-in-Some-first_broken : goal.returns-in-Some-first_broken
returns-in-Some-first_broken c =
    let block = c.in-Some-first_broken.block in
    let same = if_some _ _ _ c.in_ok-blocks.ensures.ok_part c.new.ensures in
    let read = if_some _ _ _ c.in_ok-heading.ensures.ok_part c.read_heading.ensures in
    subst (λ s. Refused s (EntryBlock block)) same (broken_told _ _ c.in_ok-heading.heading (omega arith, omega arith, omega arith) c.in_default.ensures read block c.in-Some-first_broken.ensures)
