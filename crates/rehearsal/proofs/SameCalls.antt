-- The same calls on the same level have the same answers.
use Rattle.std.proofs.Common.{◌≡◌, ℕ, Bool, List, [], ◌∷◌, ◌++◌, ℤ, Some, Ok, Err, Option, Result, sym, refl, ap, ◌∙◌, subst, inl, inr, arith}
use mathlib.Core.Path.{fun_ext}
use Rattle.spare.specs.declared.hold.Hold.{Hold}
use Rattle.spare.specs.declared.queue.Queue.{Queue}
use Rattle.spare.specs.Asking.{CallOf}
use Rattle.level.specs.declared.ticked.Letter.{Letter}
use Rattle.level.specs.declared.ticked.Letter.TheVariants.{Constrained, Reserved, Spare, Idle}
use Rattle.level.specs.declared.ticket.Ticket.{Ticket}
use Rattle.level.specs.declared.refusal.Refusal.{Refusal}
use Rattle.level.specs.declared.constraint.Constraint.{Constraint}
use Rattle.level.specs.Meaning.{Rule, Meaning, to_begin, to_collect, to_tick, Event, woke, blocked, began, ended, left, collected, told, ticked, refused, call_of}
use Rattle.level.specs.Steps.{Step, Alike, SameLevel}
use Rattle.level.specs.Levels.{Asked, wake_event, block_event, begin_event, collect_event}
use Rattle.command.specs.declared.command.Command.{Command}
use Rattle.command.specs.declared.command.Command.TheVariants.{Open, Wake, Block, Tick, Begin, End}
use Rattle.rehearsal.specs.Calls.{TicksOf, all_run, one_run, stopped, leave_after, end_after, Makes, MakesAll, no_calls, then_calls}
use Rattle.rehearsal.specs.Stages.{Stage, AsksRule, CallOn, Through, call_then}
use Rattle.rehearsal.specs.Whole.{held}
use Rattle.rehearsal.proofs.SameRules.{SameRule, same_on, same_meaning, hold_once}

-- Levels that are the same in every part are the same.

level_of : ℕ → ℤ → (ℤ → Option ℕ) → ℕ → (ℕ → Bool) → (ℕ → Option Constraint) → (ℤ → Option ℕ) → (ℕ → ℕ) → Rule → Meaning
level_of number clock owner cycle ready seats marks used rule =
    record { number = number; clock = clock; owner = owner; cycle = cycle; ready = ready; seats = seats; marks = marks; used = used; rule = rule }

level_is : (m : Meaning) → m ≡ level_of m.number m.clock m.owner m.cycle m.ready m.seats m.marks m.used m.rule
unfolding level_of
level_is m = refl

pub same_level : (n o : Meaning) → SameLevel n o → o.rule ≡ n.rule → o ≡ n
same_level n o s rule =
    let number = s.number in
    let clock = s.clock in
    let owner = s.owner in
    let cycle = s.cycle in
    let ready : o.ready ≡ n.ready = fun_ext s.ready in
    let seats : o.seats ≡ n.seats = fun_ext s.seats in
    let marks : o.marks ≡ n.marks = fun_ext s.marks in
    let used : o.used ≡ n.used = fun_ext s.used in
    let same : level_of o.number o.clock o.owner o.cycle o.ready o.seats o.marks o.used o.rule
    ≡ level_of n.number n.clock n.owner n.cycle n.ready n.seats n.marks n.used n.rule =
    cc (number, clock, owner, cycle, ready, seats, marks, used, rule)
    in
    level_is o ∙ (same ∙ sym (level_is n))

-- One call.

-- two stages on which the same calls have the same answers
pub record SameStage (p q : Stage (Hold Queue)) : Type 0 where
  pub level : q.level ≡ p.level
  pub rule : SameRule p.rule q.rule

abbrev Asks : (ℕ → Bool) → Hold Queue → Event → Hold Queue → Type 0
Asks = AsksRule (CallOf held)

module _ (ready : ℕ → Bool) (h h' g g' : Hold Queue) (s : SameRule h g) where
  by_letter : (l : Letter) (o : Option ℕ) → Asked (CallOf held) ready h l o h' → Asked (CallOf held) ready g l o g' → SameRule h' g'
  by_letter (Constrained x) o a b = same_on h h' g g' s a b
  by_letter Reserved o a b = same_on h h' g g' s a b
  by_letter Spare o a b = (hold_once ready h g h' g' s o o a.1 b.1).1
  by_letter Idle o a b = same_on h h' g g' s a b

  -- the same event leaves the same rule
  rule_once : (e : Event) → Asks ready h e h' → Asks ready g e g' → SameRule h' g'
  rule_once (woke a) x y = same_on h h' g g' s x y
  rule_once (blocked a) x y = same_on h h' g g' s x y
  rule_once (began k a t e d z) x y = same_on h h' g g' s x y
  rule_once (ended z n) x y = same_on h h' g g' s x y
  rule_once (left z) x y = same_on h h' g g' s x y
  rule_once (collected k z) x y = same_on h h' g g' s x y
  rule_once (told a n) x y = same_on h h' g g' s x y
  rule_once (ticked e) x y = by_letter e.letter e.runner x y
  rule_once (refused q r) x y = same_on h h' g g' s x y

  -- a spare tick has one runner
  event_once : (e f : Event) → Asks ready h e h' → Asks ready g f g' → Alike e f → f ≡ e
  event_once e f x y (inl i) = i
  event_once e f x y (inr i) =
      let a : Event = ticked (record { tick = i.0; runner = Some i.1; letter = Spare }) in
      let b : Event = ticked (record { tick = i.0; runner = Some i.2; letter = Spare }) in
      let first = subst (λ (z : Event). Asks ready h z h') i.3 x in
      let second = subst (λ (z : Event). Asks ready g z g') i.4 y in
      let name = (hold_once ready h g h' g' s (Some i.1) (Some i.2) first.1 second.1).0 in
      i.4 ∙ (ap (λ (o : Option ℕ). ticked (record { tick = i.0; runner = o; letter = Spare })) name ∙ sym i.3)

module _ (p q p' q' : Stage (Hold Queue)) (s : SameStage p p') where
  call_once : (e f : Event) → CallOn held p e q → CallOn held p' f q' → call_of f ≡ call_of e → (f ≡ e) × SameStage q q'
  call_once e f c d k =
      let step : Step p.level f q'.level = subst (λ (m : Meaning). Step m f q'.level) s.level d.called.step in
      let asked : Asks p.level.ready p'.rule f q'.rule = subst (λ (m : Meaning). Asks m.ready p'.rule f q'.rule) s.level d.rule in
      let only = c.called.only f q'.level step k in
      let same : f ≡ e = event_once p.level.ready p.rule q.rule p'.rule q'.rule s.rule e f c.rule asked only.0 in
      let rule = rule_once p.level.ready p.rule q.rule p'.rule q'.rule s.rule e c.rule (subst (λ (z : Event). Asks p.level.ready p'.rule z q'.rule) same asked) in
      let means : q'.level.rule ≡ q.level.rule = d.means ∙ (same_meaning q.rule q'.rule rule ∙ sym c.means) in
      (same, record { level = same_level q.level q'.level (only.1 same) means; rule = rule })

-- Lists of calls, each of which follows from the answers before it.

pub data Agree : List Event → List Event → Type 0 where
  both_over : Agree [] []
  next : {e f : Event} {es fs : List Event} → call_of f ≡ call_of e → (f ≡ e → Agree es fs) → Agree (e ∷ es) (f ∷ fs)

agree_then : {es fs : List Event} (ds gs : List Event) → Agree es fs → Agree ds gs → Agree (es ++ ds) (fs ++ gs)
agree_then ds gs both_over b = b
agree_then ds gs (next k a) b = next k (λ i. agree_then ds gs (a i) b)

pub calls_once : {p q p' q' : Stage (Hold Queue)} {es fs : List Event} → Agree es fs → SameStage p p' →
    Through held p es q → Through held p' fs q' → fs ≡ es
calls_once both_over s a b = refl
calls_once {p} {q} {p'} {q'} (next {e} {f} {es} {fs} k a) s (call_then r c t) (call_then r' d u) =
    let o = call_once p r p' r' s e f c d k in
    let first : f ≡ e = o.0 in
    let rest : fs ≡ es = calls_once (a first) o.1 t u in
    cc

ticks_agree : {n m : ℕ} {es fs : List Event} → n ≡ m → TicksOf n es → TicksOf m fs → Agree es fs
ticks_agree i all_run all_run = both_over
ticks_agree i (one_run e a) (one_run f b) = next refl (λ _. ticks_agree (omega arith) a b)
ticks_agree i (stopped r) (stopped q) = next refl (λ _. both_over)
ticks_agree i (one_run e a) (stopped q) = next refl (λ (k : refused to_tick q ≡ ticked e). let z : ◌≡◌ {A = ℕ} 0 1 = cc in absurd (omega arith))
ticks_agree i (stopped r) (one_run f b) = next refl (λ (k : ticked f ≡ refused to_tick r). let z : ◌≡◌ {A = ℕ} 0 1 = cc in absurd (omega arith))
ticks_agree i all_run (one_run f b) = absurd (omega arith)
ticks_agree i all_run (stopped q) = absurd (omega arith)
ticks_agree i (one_run e a) all_run = absurd (omega arith)
ticks_agree i (stopped r) all_run = absurd (omega arith)

wake_agrees : (a : ℕ) (x y : Result (Unit {0}) Refusal) → Agree (wake_event a x ∷ []) (wake_event a y ∷ [])
wake_agrees a (Ok u) (Ok v) = next refl (λ _. both_over)
wake_agrees a (Ok u) (Err r) = next refl (λ _. both_over)
wake_agrees a (Err q) (Ok v) = next refl (λ _. both_over)
wake_agrees a (Err q) (Err r) = next refl (λ _. both_over)

block_agrees : (a : ℕ) (x y : Result (Unit {0}) Refusal) → Agree (block_event a x ∷ []) (block_event a y ∷ [])
block_agrees a (Ok u) (Ok v) = next refl (λ _. both_over)
block_agrees a (Ok u) (Err r) = next refl (λ _. both_over)
block_agrees a (Err q) (Ok v) = next refl (λ _. both_over)
block_agrees a (Err q) (Err r) = next refl (λ _. both_over)

begin_agrees : (s a : ℕ) (t : ℤ) (e : ℕ) (d : ℤ) (x y : Result Ticket Refusal) → Agree (begin_event s a t e d x ∷ leave_after x) (begin_event s a t e d y ∷ leave_after y)
begin_agrees s a t e d (Ok u) (Ok v) = next refl (λ (i : began s a t e d v ≡ began s a t e d u). next (cc) (λ _. both_over))
begin_agrees s a t e d (Ok u) (Err r) = next refl (λ (i : refused (to_begin s a t e d) r ≡ began s a t e d u). let z : ◌≡◌ {A = ℕ} 0 1 = cc in absurd (omega arith))
begin_agrees s a t e d (Err q) (Ok v) = next refl (λ (i : began s a t e d v ≡ refused (to_begin s a t e d) q). let z : ◌≡◌ {A = ℕ} 0 1 = cc in absurd (omega arith))
begin_agrees s a t e d (Err q) (Err r) = next refl (λ _. both_over)

end_agrees : (s : ℕ) (x y : Result Ticket Refusal) (n m : ℕ) → Agree (collect_event s x ∷ end_after x n) (collect_event s y ∷ end_after y m)
end_agrees s (Ok u) (Ok v) n m = next refl (λ (i : collected s v ≡ collected s u). next (cc) (λ _. both_over))
end_agrees s (Ok u) (Err r) n m = next refl (λ (i : refused (to_collect s) r ≡ collected s u). let z : ◌≡◌ {A = ℕ} 0 1 = cc in absurd (omega arith))
end_agrees s (Err q) (Ok v) n m = next refl (λ (i : collected s v ≡ refused (to_collect s) q). let z : ◌≡◌ {A = ℕ} 0 1 = cc in absurd (omega arith))
end_agrees s (Err q) (Err r) n m = next refl (λ _. both_over)

both : (es fs es' fs' : List Event) → es ≡ es' → fs ≡ fs' → Agree es' fs' → Agree es fs
both es fs es' fs' i j a = subst (λ (z : List Event). Agree z fs) (sym i) (subst (λ (z : List Event). Agree es' z) (sym j) a)

command_agrees : (c : Command) (es fs : List Event) → Makes c es → Makes c fs → Agree es fs
command_agrees (Open t r) es fs x y = absurd x
command_agrees (Wake a) es fs x y = both es fs _ _ x.1 y.1 (wake_agrees a x.0 y.0)
command_agrees (Block a) es fs x y = both es fs _ _ x.1 y.1 (block_agrees a x.0 y.0)
command_agrees (Tick n) es fs x y = ticks_agree refl x y
command_agrees (Begin s a t d e) es fs x y = both es fs _ _ x.1 y.1 (begin_agrees s a t e d x.0 y.0)
command_agrees (End s) es fs x y = both es fs _ _ x.2 y.2 (end_agrees s x.0 y.0 x.1 y.1)

pub commands_agree : {cs : List Command} {es fs : List Event} → MakesAll cs es → MakesAll cs fs → Agree es fs
commands_agree no_calls no_calls = both_over
commands_agree (then_calls es ds x a) (then_calls fs gs y b) = agree_then ds gs (command_agrees _ es fs x y) (commands_agree a b)
