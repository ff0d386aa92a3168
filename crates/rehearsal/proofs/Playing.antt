-- Commands that make one call or two.
use Rattle.std.proofs.Common.{◌≡◌, List, [], ◌∷◌, Some, None, Ok, Err, Result, refl}
use Rattle.std.specs.Result.{result_err}
use Rattle.spare.specs.declared.rule.SpareRule.{Ghosts as SpareRules}
use Rattle.level.specs.declared.refusal.Refusal.{Refusal}
use Rattle.level.specs.Meaning.{Event}
use Rattle.command.specs.declared.command.Command.{Command}
use Rattle.row.specs.declared.row.Row.{Row}
use Rattle.rehearsal.specs.Calls.{rows_of, Makes}
use Rattle.rehearsal.specs.Stages.{Stage, CallOn, no_more, call_then, PlaysCommand}

module _ {R : Type 0} {rs : SpareRules R} {c : Command} {rows : List Row} {p : Stage R} where
  pub one_call : {e : Event} {p' : Stage R} → Makes c (e ∷ []) → CallOn rs p e p' → rows ≡ rows_of (e ∷ []) → PlaysCommand rs p c rows p'
  one_call {e} {p'} m d t = record { calls = e ∷ []; says = m; through = call_then p' d no_more; told = t }

  pub two_calls : {e f : Event} {k p' : Stage R} → Makes c (e ∷ f ∷ []) → CallOn rs p e k → CallOn rs k f p' → rows ≡ rows_of (e ∷ f ∷ []) → PlaysCommand rs p c rows p'
  two_calls {e} {f} {k} {p'} m d b t = record { calls = e ∷ f ∷ []; says = m; through = call_then k d (call_then p' b no_more); told = t }

-- an answer by its refusal, if there is one

pub accepted : (r : Result (Unit {0}) Refusal) → None ≡ result_err r → r ≡ Ok tt
accepted (Ok u) e = refl
accepted (Err x) e = cc

pub refused_with : (r : Result (Unit {0}) Refusal) (x : Refusal) → Some x ≡ result_err r → r ≡ Err x
refused_with (Ok u) x e = cc
refused_with (Err y) x e = cc
