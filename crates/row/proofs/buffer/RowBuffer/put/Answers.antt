use Rattle.std.proofs.Common.{◌≡◌, ℕ, true, false, List, [], ◌++◌, Ok, Err, Result, sym, ap, ◌∙◌}
use Rattle.std.specs.Result.{is_ok}
use Rattle.row.specs.declared.row.RowFault.{RowFault}
use Rattle.row.specs.Buffers.{Appends}
use Rattle.row.specs.Rows.{row_text}
use Rattle.row.specs.Sinks.{nothing, more}
use Rattle.row.proofs.buffer.RowBuffer.put.Goals as goal

-- by the test of what was appended: the text is put, or the buffer stayed
put_if : (b t : List ℕ) (r : Result (Unit {0}) RowFault) (b' : List ℕ) → is_ok r ≡ true → Appends b t r b' → b' ≡ b ++ t
put_if b t (Ok u) b' e h = h
put_if b t (Err f) b' e h = cc

stays_if : (b t : List ℕ) (r : Result (Unit {0}) RowFault) (b' : List ℕ) → is_ok r ≡ false → Appends b t r b' → b' ≡ b
stays_if b t (Ok u) b' e h = cc
stays_if b t (Err f) b' e h = h.0

pub returns-then-is_ok-clause-puts : goal.returns-then-is_ok-clause-puts
returns-then-is_ok-clause-puts g c = ([], nothing, put_if c.args.self.now.bytes (row_text c.args.row.now) c.append.result c.append.new.self.bytes (sym c.is_ok.ensures.value ∙ c.if-is_ok.true) c.append.ensures)

pub returns-clause-puts : goal.returns-clause-puts
returns-clause-puts g c =
    let sent = c.in_ok-flush.ensures in
    let same = stays_if c.args.self.now.bytes (row_text c.args.row.now) c.append.result c.append.new.self.bytes (sym c.is_ok.ensures.value ∙ c.if-is_ok.false) c.append.ensures in
    let put = put_if c.flush.new.self.bytes (row_text c.args.row.now) c.append-2.result c.append-2.new.self.bytes (ap is_ok c.unwrap.ensures) c.append-2.ensures in (
      c.append.new.self.bytes,
      more c.append.new.self.bytes c.flush.new.sink nothing sent.0,
      ap (λ x. c.append.new.self.bytes ++ x) (put ∙ ap (λ x. x ++ row_text c.args.row.now) sent.1) ∙ ap (λ x. x ++ row_text c.args.row.now) same,
    )
