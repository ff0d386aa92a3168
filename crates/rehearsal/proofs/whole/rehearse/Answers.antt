use Rattle.std.proofs.lemmas.Result.{err_from_is_err_and}
use Rattle.std.proofs.Common.{Err, ap, ◌∙◌, rules, take, sym, refl, subst}
use Rattle.sheet.specs.declared.fault.SheetFault.{SheetFault}
use Rattle.sheet.specs.Told.{Holds, Refused}
use Rattle.rehearsal.proofs.OnlyRows.{rows_once}
use Rattle.rehearsal.proofs.Wholes.{as_output, tells_sheet, tells_refused, numbered, unnumbered}
use Rattle.rehearsal.proofs.whole.rehearse.Goals as goal

pub returns-in-Ok : goal.returns-in-Ok
returns-in-Ok g c =
    let e = c.in-Ok.ensures in
    let plan = c.load.new.plan in
    let holds : Holds c.args.sheet.now = record {
      base = plan.base;
      depth = plan.depth;
      entries = plan.entries;
      reservations = take c.in-Ok.field-0 c.load.new.list;
      sheet = e.after.sheet;
    } in
    record {
      told = tells_sheet g.S.Sink.hands c.args.sheet.now c.args.script.now c.args.sink.now holds c.in-Ok.field-0 e.told
          c.rehearse_on.result c.map_err.result c.rehearse_on.new.sink (as_output c.rehearse_on.result c.map_err.result _ c.map_err.ensures.cases (λ f t. let p = err_from_is_err_and c.map_err.result t in p.1 ∙ ap Err (search rules))) c.rehearse_on.ensures.told;
      once = rows_once;
    }

pub returns-in-Some : goal.returns-in-Some
returns-in-Some g c =
    record {
      told = tells_refused g.S.Sink.hands c.args.sheet.now c.args.script.now c.args.sink.now c.in-Err.fault c.in-Err.ensures.told
          (numbered c.in-Err.fault c.in-Some.field-0 c.in-Some.ensures)
          c.hand_row.result c.map_err-in-Some.result c.hand_row.new.sink (as_output c.hand_row.result c.map_err-in-Some.result _ c.map_err-in-Some.ensures.cases (λ f t. let p = err_from_is_err_and c.map_err-in-Some.result t in p.1 ∙ ap Err (search rules))) c.hand_row.ensures;
      once = rows_once;
    }

pub returns : goal.returns
returns g c =
    record { told = (subst (λ (f : SheetFault). Refused c.args.sheet.now f) (unnumbered c.in-Err.fault (sym c.in-None.ensures)) c.in-Err.ensures.told, refl); once = rows_once }
