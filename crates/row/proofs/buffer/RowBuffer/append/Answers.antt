use Rattle.std.proofs.Common.{ap, ◌∙◌, ◌++◌, arith}
use Rattle.std.proofs.lemmas.Result.{err_from_is_err_and}
use Rattle.row.specs.Rows.{row_text}
use Rattle.row.proofs.Behind.{put_behind, kept_whole, some_wait}
use Rattle.row.proofs.buffer.RowBuffer.append.Goals as goal

pub returns : goal.returns
returns c =
    let b = c.self.inside in
    let t = row_text c.args.row.now in
    let e = c.in_ok-size.ensures in
    let seen = ap (λ w. w.bytes) c.self.view_is in
    put_behind b.bytes c.write_row.new.out t b.used 65536 c.self.told b.within e.after c.in_ok-size.size e.value ∙ ap (λ z. z ++ t) seen

pub returns-in_err-size : goal.returns-in_err-size
returns-in_err-size c =
    let b = c.self.inside in
    let t = row_text c.args.row.now in
    let e = c.in_err-size.ensures in
    let seen = ap (λ w. w.bytes) c.self.view_is in
    rw (err_from_is_err_and c.from_residual.result c.from_residual.ensures.1).1 (
      kept_whole b.bytes c.write_row.new.out t b.used 65536 c.self.told b.within e.after ∙ seen,
      λ none. some_wait b.bytes c.write_row.new.out t b.used 65536 c.self.told b.within e.after c.in_err-size.field-0.0 e.value (omega (arith, e.short)) (seen ∙ none),
    )
