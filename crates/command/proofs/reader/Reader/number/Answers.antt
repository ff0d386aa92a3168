use Rattle.std.proofs.Common.{◌<◌, arith}
use Rattle.std.proofs.lemmas.List.{get_or-take, length-take}
use Rattle.std.proofs.lemmas.List.Sums.{prefix_len_passes}
use Rattle.command.specs.Reading.{is_digit}
use Rattle.command.proofs.reader.Reader.number.Goals as goal

pub digits_value-requires : goal.digits_value-requires
digits_value-requires c = λ k d h.
    let n = c.run_len-size.result in
    let xs = c.rest-rest.result.now in
    let l = length-take n xs in
    let k-n : k < n = omega (arith, l) in
    rw (get_or-take n xs k d k-n) (prefix_len_passes is_digit xs k d (omega (arith, c.run_len-size.ensures)))
