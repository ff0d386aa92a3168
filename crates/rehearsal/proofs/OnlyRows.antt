-- A sheet and a script have one list of rows.
use Rattle.std.proofs.Common.{◌≡◌, ℕ, ◌+◌, ◌*◌, ◌^◌, List, [], ◌∷◌, ◌++◌, length, ℤ, Ok, Err, Option, Result, sym, refl, ap, ◌∙◌, subst, inl, inr, arith}
use Rattle.plan.specs.declared.entry.Entry.{Entry}
use Rattle.plan.specs.declared.fault.PlanFault.TheVariants.{Memory as NoMemory}
use Rattle.plan.specs.Owners.{owner_in}
use Rattle.plan.specs.Told as plan-told
use Rattle.reservation.specs.declared.reservation.Reservation.{Reservation}
use Rattle.reservation.specs.Reservations.{Passes}
use Rattle.sheet.specs.declared.fault.SheetFault.{SheetFault}
use Rattle.sheet.specs.declared.fault.SheetFault.TheVariants.{Plan}
use Rattle.sheet.specs.Told.{Holds, Refused, no_memory}
use Rattle.sheet.proofs.Once.{holds_once, told_once}
use Rattle.spare.specs.declared.hold.Hold.{Hold}
use Rattle.spare.specs.declared.queue.Queue.{Queue}
use Rattle.level.specs.Meaning.{Meaning}
use Rattle.level.specs.Together.{Opening, Opens}
use Rattle.command.specs.declared.command.Command.{Command}
use Rattle.command.specs.declared.command.Command.TheVariants.{Open}
use Rattle.command.specs.Grammar.{Begins}
use Rattle.command.specs.Openings.{Unopened}
use Rattle.command.specs.Scripts.{lines_of, Playable, Says}
use Rattle.command.proofs.Says.{read_once}
use Rattle.row.specs.declared.row.Row.{Row}
use Rattle.rehearsal.specs.Calls.{rows_of, MakesAll}
use Rattle.rehearsal.specs.Onwards.{malformed_row}
use Rattle.rehearsal.specs.Whole.{Fresh, Start, PlayedFrom, ScriptRows, unopened, played, sheet_refused, on_sheet, ScriptRowsOnce, RowsOnce}
use Rattle.rehearsal.proofs.SameRules.{SameRule, same_meaning}
use Rattle.rehearsal.proofs.SameCalls.{SameStage, same_level, commands_agree, calls_once}

-- A script says one list of commands.

-- the first of the lines
first_line : (text : List ℕ) (c : Command) (cs : List Command) (tail : List ℕ) → text ≡ lines_of (c ∷ cs) tail → Playable (c ∷ cs) → Begins text c (lines_of cs tail)
first_line text c cs tail e p = record { range = p.0; line = e }

says_once : (cs ds : List Command) (text tail end : List ℕ) → Says text cs tail → Says text ds end → (ds ≡ cs) × (end ≡ tail)
says_once [] [] text tail end a b = (refl, sym b.lines ∙ a.lines)
says_once [] (d ∷ ds) text tail end a b =
    absurd (b.playable.1 (a.no_more d (lines_of ds end) (first_line tail d ds end (sym a.lines ∙ b.lines) b.playable)))
says_once (c ∷ cs) [] text tail end a b =
    absurd (a.playable.1 (b.no_more c (lines_of cs tail) (first_line end c cs tail (sym b.lines ∙ a.lines) a.playable)))
says_once (c ∷ cs) (d ∷ ds) text tail end a b =
    let same = read_once text c d (lines_of cs tail) (lines_of ds end) (first_line text c cs tail a.lines a.playable) (first_line text d ds end b.lines b.playable) in
    let rest = says_once cs ds (lines_of cs tail) tail end
    (record { lines = refl; playable = a.playable.2; no_more = a.no_more })
    (record { lines = same.1; playable = b.playable.2; no_more = b.no_more }) in
    let front : c ≡ d = same.0 in
    let behind : ds ≡ cs = rest.0 in
    (cc, rest.1)

-- Levels that are opened alike are the same.

opened_once : (k : ℕ) (o o' : Opening) (m n : Meaning) → Opens k o m → Opens k o' n → o'.clock ≡ o.clock → o'.owner ≡ o.owner → o'.cycle ≡ o.cycle → o'.rule ≡ o.rule → n ≡ m
opened_once k o o' m n a b clock owner cycle rule =
    let same : n.rule ≡ m.rule = b.rule ∙ (rule ∙ sym a.rule) in
    same_level m n (record {
      number = b.number ∙ sym a.number;
      clock = b.clock ∙ (clock ∙ sym a.clock);
      owner = b.owner ∙ (owner ∙ sym a.owner);
      cycle = b.cycle ∙ (cycle ∙ sym a.cycle);
      ready = λ x. b.blocked x ∙ sym (a.blocked x);
      seats = λ x. b.unused x ∙ sym (a.unused x);
      marks = λ x. b.unmarked x ∙ sym (a.unmarked x);
      used = λ x. b.idle x ∙ sym (a.idle x);
      patience = ap (λ r. r.patience) same;
    }) same

fresh_once : (n : ℕ) (h g : Hold Queue) → Fresh n h → Fresh n g → SameRule h g
fresh_once n h g a b = record {
  order = b.order ∙ sym a.order;
  repeats = b.most ∙ sym a.most;
  choice = b.choice ∙ sym a.choice;
  left = b.left ∙ sym a.left;
}

module _ {owner : ℤ → Option ℕ} {cycle : ℕ} {script : List ℕ} where
  -- a script starts in one way
  record SameStart (a b : Start owner cycle script) : Type 0 where
    pub text : b.text ≡ a.text
    pub stage : SameStage a.first b.first

  start_once : (a b : Start owner cycle script) → SameStart a b
  start_once a b =
      let same = read_once script (Open a.clock a.repeats) (Open b.clock b.repeats) a.text b.text a.opens b.opens in
      let opening = same.0 in
      let clock : b.clock ≡ a.clock = cc in
      let repeats : b.repeats ≡ a.repeats = cc in
      let rule = fresh_once a.repeats a.first.rule b.first.rule a.fresh (subst (λ (n : ℕ). Fresh n b.first.rule) repeats b.fresh) in
      record {
        text = sym same.1;
        stage = record {
          level = opened_once 0 _ _ a.first.level b.first.level a.opening.opens b.opening.opens clock refl refl (same_meaning a.first.rule b.first.rule rule);
          rule = rule;
        };
      }

  played_once : (a b : Start owner cycle script) (rows others : List Row) → PlayedFrom a rows → PlayedFrom b others → others ≡ rows
  played_once a b rows others p q =
      let s = start_once a b in
      let said = says_once p.commands q.commands a.text p.tail q.tail p.says (subst (λ (z : List ℕ). Says z q.commands q.tail) s.text q.says) in
      let makes : MakesAll p.commands q.calls = subst (λ (z : List Command). MakesAll z q.calls) said.0 q.makes in
      let calls : q.calls ≡ p.calls = calls_once (commands_agree p.makes makes) s.stage p.through q.through in
      q.told
      ∙ (ap (λ z. rows_of z ++ malformed_row q.tail (2 + length q.commands)) calls
      ∙ (ap (λ z. rows_of p.calls ++ malformed_row z (2 + length q.commands)) said.1
      ∙ (ap (λ z. rows_of p.calls ++ malformed_row p.tail (2 + length z)) said.0 ∙ sym p.told)))

  -- a script that starts is not malformed at line 1
  opened_or_not : Start owner cycle script → Unopened script → ⊥
  opened_or_not a (inl long) = omega (arith, a.short)
  opened_or_not a (inr none) = none a.clock a.repeats a.text a.opens

pub script_rows_once : ScriptRowsOnce
script_rows_once owner cycle script rows others (unopened a) (unopened b) = refl
script_rows_once owner cycle script rows others (unopened a) (played y q) = absurd (opened_or_not y a)
script_rows_once owner cycle script rows others (played x p) (unopened b) = absurd (opened_or_not x b)
script_rows_once owner cycle script rows others (played x p) (played y q) = played_once x y rows others p q

-- A sheet is refused, or it is not.

refused_or_not : (sheet : List ℕ) (f : SheetFault) (h : Holds sheet) → Refused sheet f → (f ≡ Plan NoMemory → ⊥) → plan-told.Sound h.base h.depth h.entries →
    Passes (owner_in h.base h.entries) h.reservations → ⊥
refused_or_not sheet f h d n sound passes =
    let no-memory : ◌≡◌ {A = Result ℕ SheetFault} (Err f) no_memory → ⊥ = λ e. n (cc) in
    let accepted : ◌≡◌ {A = Result ℕ SheetFault} (Ok (length h.reservations)) no_memory → ⊥ = λ e. let z : ◌≡◌ {A = ℕ} 0 1 = cc in omega arith in
    let same = told_once sheet (Err f) (Ok (length h.reservations)) d (h, sound, passes, refl) no-memory accepted in
    let z : ◌≡◌ {A = ℕ} 0 1 = cc in omega arith

pub rows_once : RowsOnce
rows_once sheet script rows others (sheet_refused f a m) (sheet_refused g b n) = refl
rows_once sheet script rows others (sheet_refused f a m) (on_sheet h sound passes q) = absurd (refused_or_not sheet f h a m sound passes)
rows_once sheet script rows others (on_sheet h sound passes p) (sheet_refused f b n) = absurd (refused_or_not sheet f h b n sound passes)
rows_once sheet script rows others (on_sheet h sound passes p) (on_sheet g more better q) =
    script_rows_once (owner_in h.base h.entries) (h.base * 2 ^ h.depth) script rows others p
    (subst (λ (x : ℕ × ℕ × List Entry × List Reservation). ScriptRows (owner_in x.0 x.2) (x.0 * 2 ^ x.1) script others) (holds_once sheet g h) q)
