use Rattle.std.proofs.Common.{◌*◌, length, refl, subst, arith}
use Rattle.sheet.specs.Format.{byte, IsHeading}
use Rattle.sheet.specs.Told.{Headed}
use Rattle.sheet.proofs.Bytes.{behind, zero_within, zero_of_range}
use Rattle.sheet.proofs.Headings.{marked_none, unzero_none, heading_made}
use Rattle.sheet.proofs.heading.read_heading.Goals as goal

pub returns-in_err-reservations : goal.returns-in_err-reservations
returns-in_err-reservations c =
    let none = marked_none c.first.result.now c.from-reserved.result (length c.args.blocks.now.blocks.now) c.from-reserved.ensures c.in_err-reservations.ensures in
    rw c.from_residual.ensures (subst (λ b. Headed b (length c.args.blocks.now.blocks.now) → ⊥) c.first.ensures none)

pub returns-then-not-are_zero : goal.returns-then-not-are_zero
returns-then-not-are_zero c =
    let b = c.first.result.now in
    let m = c.from-reserved.result in
    let none = unzero_none b m (length c.args.blocks.now.blocks.now) c.from-reserved.ensures (λ z. c.if-not-are_zero.ensures (zero_of_range (behind b 8) (6 * m) 500 z)) in
    subst (λ x. Headed x (length c.args.blocks.now.blocks.now) → ⊥) c.first.ensures none

pub returns : goal.returns
returns c =
    let b = c.first.result.now in
    let m = c.from-reserved.result in
    let zeros = zero_within (behind b 8) (6 * m) 500 (omega arith) (omega arith) c.if-not-are_zero.ensures in
    record {
      heading =
          subst (λ x. IsHeading x c.from_le_bytes.result (byte b 4) c.in_ok-reservations.reservations.items c.from-entries.result) c.first.ensures
          (heading_made b c.from_le_bytes.result (byte b 4) m c.from-entries.result c.in_ok-reservations.reservations.items (omega arith) (omega arith) c.from_le_bytes.ensures refl c.from-reserved.ensures c.from-entries.ensures (omega arith) (omega arith) c.in_ok-reservations.ensures zeros);
      fits = omega arith;
    }
