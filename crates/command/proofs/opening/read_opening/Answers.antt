use Rattle.std.proofs.Common.{ℕ, List, sym, ap, ◌∙◌, subst, inr}
use Rattle.std.proofs.lemmas.Result.{err_from_is_err_and}
use Rattle.command.specs.declared.command.Command.TheVariants.{Open}
use Rattle.command.specs.declared.command.ScriptFault.TheVariants.{Malformed}
use Rattle.command.specs.Grammar.{Begins}
use Rattle.command.proofs.opening.read_opening.Goals as goal

pub returns-in_err-clock : goal.returns-in_err-clock
returns-in_err-clock c =
    let p = err_from_is_err_and c.from_residual.result c.from_residual.ensures.1 in
    let reads = c.in_err-clock.ensures.reads in
    let start = c.new-reader.ensures in
    rw p.1 (
      p.2 ∙ (reads.0 ∙ ap Malformed start.line),
      inr (λ t r ys b. reads.1 (Open t r) ys (subst (λ (xs : List ℕ). Begins xs (Open t r) ys) (sym start.bytes) b)),
    )
