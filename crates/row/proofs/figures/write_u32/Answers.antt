use Rattle.std.proofs.Common.{◌≡◌, ◌+◌, ◌-◌, ◌/◌, ◌%◌, ◌<◌, ◌≤◌, [], ◌∷◌, ◌++◌, drop, set, decimal, sym, ap, ◌∙◌, append_assoc, arith}
use Rattle.std.proofs.lemmas.List.{drop-set}
use Rattle.std.proofs.lemmas.Fmt.{decimal_step, decimal_digit, decimal_nonempty}
use Rattle.row.proofs.Lengths.{longer, ten_from_length, digit_from_length}
use Rattle.row.proofs.figures.write_u32.Goals as goal

pub loop-at-preserved : goal.loop-at-preserved
loop-at-preserved c =
    let n = c.loop-at.left in
    let i = c.loop-at.at - 1 in
    let xs = c.loop-at.out in
    let ten : 10 ≤ n = ten_from_length n (omega (arith, c.loop-at.invariant.0)) in
    let len = longer n ten (omega arith) in
    let next : i + 1 ≡ c.loop-at.at = omega arith in
    let stored : drop i (set xs i (48 + n % 10)) ≡ (48 + n % 10) ∷ drop c.loop-at.at xs =
    drop-set xs i (48 + n % 10) (omega arith) ∙ ap (λ k. (48 + n % 10) ∷ drop k xs) next
    in
    let front : decimal n ++ drop c.loop-at.at xs ≡ decimal (n / 10) ++ ((48 + n % 10) ∷ drop c.loop-at.at xs) =
    ap (λ t. t ++ drop c.loop-at.at xs) (decimal_step n ten (omega arith)) ∙ append_assoc (decimal (n / 10)) ((48 + n % 10) ∷ []) (drop c.loop-at.at xs)
    in (
      omega (arith, c.loop-at.invariant.0),
      ap (λ t. decimal (n / 10) ++ t) stored ∙ (sym front ∙ c.loop-at.invariant.1),
      omega arith,
    )

pub overflow_cast-out-2 : goal.overflow_cast-out-2
overflow_cast-out-2 c = omega (arith, digit_from_length c.loop-at.left (omega arith) (omega (arith, c.loop-at.invariant.0)))

pub overflow_add-out-2 : goal.overflow_add-out-2
overflow_add-out-2 c = omega (arith, digit_from_length c.loop-at.left (omega arith) (omega (arith, c.loop-at.invariant.0)))

pub bounds-out-0 : goal.bounds-out-0
bounds-out-0 c = omega (arith, decimal_nonempty c.args.n (omega arith))

pub returns-clause-after : goal.returns-clause-after
returns-clause-after c =
    let n = c.loop-at.left in
    let xs = c.loop-at.out in
    let text = decimal c.args.n in
    let some = decimal_nonempty c.args.n (omega arith) in
    let some_left = decimal_nonempty n (omega arith) in
    let small : n < 10 = digit_from_length n (omega arith) (omega (arith, c.loop-at.invariant.0)) in
    let at_one : c.loop-at.at ≡ 1 = omega (arith, c.loop-at.invariant.0) in
    let last : decimal n ++ drop c.loop-at.at xs ≡ (48 + n) ∷ drop 1 xs =
    ap (λ t. t ++ drop c.loop-at.at xs) (decimal_digit n small) ∙ ap (λ k. (48 + n) ∷ drop k xs) at_one
    in
    let stored : set xs 0 (48 + n) ≡ (48 + n) ∷ drop 1 xs = drop-set xs 0 (48 + n) (omega arith) in
    stored ∙ (sym last ∙ (c.loop-at.invariant.1 ∙ ap (λ k. text ++ drop k c.args.out.now) c.digit_count-count.ensures.value))
