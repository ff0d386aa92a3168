use Rattle.std.proofs.Common.{refl, arith}
use Rattle.spare.proofs.Examples.{held_queue_example}
use Rattle.cases.proofs.Computed.{four_in_twenty, four_in_nineteen, one_in_four, free_short}
use Rattle.cases.proofs.Marked.{first_marks, second_marks, left_over}
use Rattle.cases.proofs.worked_examples.Goals as goal

pub returns-clause-hold : goal.returns-clause-hold
returns-clause-hold c = (refl, (refl, (refl, (refl, (refl, (refl, (refl, (refl, (refl, (refl, (refl, (refl, (refl, ((λ a b o n h. (refl, omega arith, omega arith)), ((λ a b o n h. absurd (omega (arith, h.0))), (four_in_twenty, (four_in_nineteen, (refl, (refl, (one_in_four, (free_short, (held_queue_example, (first_marks, (second_marks, (left_over, tt)))))))))))))))))))))))))
