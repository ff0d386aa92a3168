-- A script that is played to its end has told a whole rehearsal.
use Rattle.std.proofs.Common.{◌≡◌, ℕ, ◌+◌, ◌*◌, ◌^◌, ◌≤◌, List, [], ◌∷◌, ◌++◌, length, ℤ, Some, None, Ok, Err, Option, Result, sym, refl, ap, ◌∙◌, subst, append-nil, arith}
use Rattle.std.proofs.lemmas.List.{length-append}
use Rattle.plan.specs.declared.entry.Entry.{Entry}
use Rattle.plan.specs.declared.fault.PlanFault.{PlanFault}
use Rattle.plan.specs.declared.fault.PlanFault.TheVariants.{Dimensions, TooManyEntries, OutOfRange, Clash, Memory as NoMemory}
use Rattle.plan.specs.Numbers as plan-numbers
use Rattle.plan.specs.Owners.{owner_in}
use Rattle.plan.specs.Told as plan-told
use Rattle.reservation.specs.declared.reservation.Reservation.{Reservation}
use Rattle.reservation.specs.Reservations.{Passes}
use Rattle.sheet.specs.declared.fault.SheetFault.{SheetFault}
use Rattle.sheet.specs.declared.fault.SheetFault.TheVariants.{Size, BlockCheck, Heading, EntryBlock, Plan, Check}
use Rattle.sheet.specs.Faults.{number_of}
use Rattle.sheet.specs.Told.{Holds, Refused, Accepted}
use Rattle.sheet.proofs.Once.{holds_once}
use Rattle.spare.specs.declared.hold.Hold.{Hold}
use Rattle.spare.specs.declared.queue.Queue.{Queue}
use Rattle.spare.specs.Orders.{in_order}
use Rattle.level.specs.declared.level.Level.{Level}
use Rattle.level.specs.Meaning.{Event}
use Rattle.timetable.specs.declared.table.Timetable.{Ghosts as Timetables}
use Rattle.level.specs.Levels.{meaning, opening, Opened}
use Rattle.command.specs.declared.command.Command.{Command}
use Rattle.command.specs.declared.command.Command.TheVariants.{Open}
use Rattle.command.specs.Grammar.{command_text}
use Rattle.command.specs.Reading.{next_line}
use Rattle.command.specs.Scripts.{lines_of}
use Rattle.row.specs.declared.row.Row.{Row}
use Rattle.row.specs.declared.row.Row.TheVariants.{Malformed}
use Rattle.row.specs.Rows.{row_text}
use Rattle.row.specs.Sinks.{rows_text, Handed, nothing, more}
use Rattle.rehearsal.specs.declared.fault.RehearsalFault.{RehearsalFault}
use Rattle.rehearsal.specs.Calls.{rows_of}
use Rattle.rehearsal.specs.Stages.{Stage, Through}
use Rattle.rehearsal.specs.Onwards.{Standing, line_after, malformed_row, Onwards, PlaysOut}
use Rattle.rehearsal.specs.Runs.{BrokenOff, Runs}
use Rattle.std.specs.Result.{MatchResult}
use Rattle.rehearsal.specs.declared.fault.RehearsalFault.{RehearsalFault}
use Rattle.rehearsal.specs.declared.fault.RehearsalFault.TheVariants.{Output}
use Rattle.rehearsal.specs.Whole.{held, Fresh, Start, PlayedFrom, ScriptRows, played, all_rows, under_way, sheet_refused, on_sheet, output_of, TellsScript, Tells}
use Rattle.rehearsal.proofs.PlayedOut.{no_ticks}
use Rattle.rehearsal.proofs.Histories.{history_of}

-- Lines of a script are too few for their number to be cut off.
line_number : (cs : List Command) (tail : List ℕ) (k : ℕ) → k + length (lines_of cs tail) ≤ 4294967294 → line_after k cs ≡ k + length cs
line_number [] tail k h = omega arith
line_number (c ∷ cs) tail k h =
    let long : length (lines_of (c ∷ cs) tail) ≡ length (command_text c) + (1 + length (lines_of cs tail)) = length-append (command_text c) (10 ∷ lines_of cs tail) ∙ omega arith in
    let next : next_line k ≡ k + 1 = omega arith in
    ap (λ n. line_after n cs) next ∙ (line_number cs tail (k + 1) (omega arith) ∙ omega arith)

state_of : List ℕ → ℕ → ℕ → Stage (Hold Queue) → Standing (Hold Queue)
state_of text line ticks on = record { text = text; line = line; ticks = ticks; on = on }

-- where a script starts
pub starts_at : (s : Standing (Hold Queue)) (text : List ℕ) (on : Stage (Hold Queue)) → s.text ≡ text → s.line ≡ 2 → s.ticks ≡ 0 → s.on ≡ on
    → s ≡ record { text = text; line = 2; ticks = 0; on = on }
unfolding state_of
starts_at s text on t l k o =
    ap (λ z. state_of z s.line s.ticks s.on) t
    ∙ (ap (λ z. state_of text z s.ticks s.on) l
    ∙ (ap (λ z. state_of text 2 z s.on) k ∙ ap (λ z. state_of text 2 0 z) o))

-- a level that was just opened over a rule holds that rule
pub opened_with : {T : Type 0} (ts : Timetables T) (t : T) (l : Level T (Hold Queue)) (rule : Hold Queue) (clock given : ℤ) → given ≡ clock → l.rule ≡ rule →
    Opened 0 (opening ts held given t rule) (meaning ts held l) →
    Opened 0 (opening ts held clock t l.rule) (meaning ts held l)
opened_with ts t l rule clock given c r o =
    let m = meaning ts held l in
    subst (λ (z : ℤ). Opened 0 (opening ts held z t l.rule) m) c
    (subst (λ (z : Hold Queue). Opened 0 (opening ts held given t z) m) (sym r) o)

-- the rule of a script is fresh
pub fresh_with : (h rule : Hold Queue) (queue : Queue) (repeats : ℕ) → h ≡ rule → rule.below ≡ queue → queue.order ≡ in_order → rule.repeats ≡ repeats → rule.choice ≡ None → rule.left ≡ 0 → Fresh repeats h
fresh_with h rule queue repeats e b o r c l = record {
  order = ap (λ (z : Hold Queue). z.below.order) e ∙ (ap (λ (q : Queue). q.order) b ∙ o);
  most = ap (λ (z : Hold Queue). z.repeats) e ∙ r;
  choice = ap (λ (z : Hold Queue). z.choice) e ∙ c;
  left = ap (λ (z : Hold Queue). z.left) e ∙ l;
}

module _ {owner : ℤ → Option ℕ} {cycle : ℕ} {script : List ℕ} (start : Start owner cycle script) where
  played_from : (rows : List Row) (last : Stage (Hold Queue)) → PlaysOut held (record { text = start.text; line = 2; ticks = 0; on = start.first }) rows last → PlayedFrom start rows
  played_from rows last o =
      let none : o.due ≡ [] = no_ticks o.ticks refl in
      let through : Through held start.first o.calls last = subst (λ (z : List Event). Through held start.first (z ++ o.calls) last) none o.through in
      let bytes : length (command_text (Open start.clock start.repeats)) + (1 + length start.text) ≤ 16384 =
      omega (arith, start.short, ap length start.opens.line, length-append (command_text (Open start.clock start.repeats)) (10 ∷ start.text)) in
      let line : line_after 2 o.commands ≡ 2 + length o.commands = line_number o.commands o.tail 2 (omega (arith, ap length o.says.lines)) in
      let h = history_of start.opening through in
      record {
        commands = o.commands;
        tail = o.tail;
        says = o.says;
        calls = o.calls;
        makes = o.makes;
        last = last;
        through = through;
        told = o.told ∙ (ap (λ z. rows_of (z ++ o.calls) ++ malformed_row o.tail (line_after 2 o.commands)) none ∙ ap (λ k. rows_of o.calls ++ malformed_row o.tail k) line);
        history = h.0;
        history_calls = h.1;
        stands = h.2;
      }

  pub tells_script : {S F : Type 0} (hands : S → List ℕ → Result (Unit {0}) F → S → Type 0) (s : Standing (Hold Queue)) → s ≡ record { text = start.text; line = 2; ticks = 0; on = start.first } →
      (k : S) (r : Result (Unit {0}) F) (u : Standing (Hold Queue)) (k' : S) → Runs held hands s k r u k' → TellsScript hands owner cycle script k r k'
  tells_script hands s e k (Ok x) u k' o = (o.rows, played start (played_from o.rows u.on (subst (λ (z : Standing (Hold Queue)). PlaysOut held z o.rows u.on) e o.plays)), o.handed)
  tells_script hands s e k (Err f) u k' o = (o.rows, under_way start u (subst (λ (z : Standing (Hold Queue)). Onwards held z o.rows u) e o.onwards), o.broken)

-- A row that is told alone.
module _ {S F : Type 0} (hands : S → List ℕ → Result (Unit {0}) F → S → Type 0) (k : S) (row : Row) (k' : S) where
  pub alone_handed : hands k (row_text row) (Ok tt) k' → Handed hands k (rows_text (row ∷ [])) k'
  alone_handed h = subst (λ (z : List ℕ). Handed hands k z k') (sym (append-nil (row_text row))) (more (row_text row) k' nothing h)

  pub alone_broken : (f : F) → hands k (row_text row) (Err f) k' → BrokenOff hands k (rows_text (row ∷ [])) f k'
  alone_broken f h = record { front = []; part = row_text row; behind = []; between = k; whole = refl; taken = nothing; refused = h }

pub tells_alone : {S F : Type 0} (hands : S → List ℕ → Result (Unit {0}) F → S → Type 0) (owner : ℤ → Option ℕ) (cycle : ℕ) (script : List ℕ) (k : S) (row : Row) (r : Result (Unit {0}) F) (k' : S) →
    ScriptRows owner cycle script (row ∷ []) → hands k (row_text row) r k' → TellsScript hands owner cycle script k r k'
tells_alone hands owner cycle script k row (Ok x) k' s h = (row ∷ [], s, alone_handed hands k row k' h)
tells_alone hands owner cycle script k row (Err f) k' s h = (row ∷ [], all_rows s, alone_broken hands k row k' f h)

-- A sheet.

unnumbered_plan : (f : PlanFault) → plan-numbers.number_of f ≡ None → f ≡ NoMemory
unnumbered_plan Dimensions e = let z : ◌≡◌ {A = ℕ} 0 1 = cc in absurd (omega arith)
unnumbered_plan TooManyEntries e = let z : ◌≡◌ {A = ℕ} 0 1 = cc in absurd (omega arith)
unnumbered_plan (OutOfRange k) e = let z : ◌≡◌ {A = ℕ} 0 1 = cc in absurd (omega arith)
unnumbered_plan (Clash later earlier) e = let z : ◌≡◌ {A = ℕ} 0 1 = cc in absurd (omega arith)
unnumbered_plan NoMemory e = refl

-- want of memory alone has no number
pub unnumbered : (f : SheetFault) → number_of f ≡ None → f ≡ Plan NoMemory
unnumbered Size e = let z : ◌≡◌ {A = ℕ} 0 1 = cc in absurd (omega arith)
unnumbered (BlockCheck k) e = let z : ◌≡◌ {A = ℕ} 0 1 = cc in absurd (omega arith)
unnumbered Heading e = let z : ◌≡◌ {A = ℕ} 0 1 = cc in absurd (omega arith)
unnumbered (EntryBlock k) e = let z : ◌≡◌ {A = ℕ} 0 1 = cc in absurd (omega arith)
unnumbered (Plan f) e = ap Plan (unnumbered_plan f e)
unnumbered (Check f) e = let z : ◌≡◌ {A = ℕ} 0 1 = cc in absurd (omega arith)

pub numbered : (f : SheetFault) (n : ℕ) → Some n ≡ number_of f → f ≡ Plan NoMemory → ⊥
numbered f n e i = let none : ◌≡◌ {A = Option ℕ} (Some n) None = e ∙ ap number_of i in let z : ◌≡◌ {A = ℕ} 0 1 = cc in omega arith

-- what the plan of an accepted sheet has to be
abbrev Good : ℕ → ℕ → List Entry → List Reservation → Type 0
Good b d es rs = plan-told.Sound b d es × Passes (owner_in b es) rs

pub good_plan : (s : List ℕ) (n : ℕ) (h : Holds s) → Accepted s n → Good h.base h.depth h.entries h.reservations
good_plan s n h a =
    subst (λ (x : ℕ × ℕ × List Entry × List Reservation). Good x.0 x.1 x.2 x.3) (holds_once s a.0 h) (a.1, a.2)

module _ {S F : Type 0} (hands : S → List ℕ → Result (Unit {0}) F → S → Type 0) (sheet script : List ℕ) (k : S) where
  tells_good : (h : Holds sheet) → Good h.base h.depth h.entries h.reservations → (r : Result (Unit {0}) F) (k' : S) →
      TellsScript hands (owner_in h.base h.entries) (h.base * 2 ^ h.depth) script k r k' → Tells hands sheet script k (output_of r) k'
  tells_good h g (Ok x) k' t = (t.0, on_sheet h g.0 g.1 t.1, t.2)
  tells_good h g (Err f) k' t = (t.0, on_sheet h g.0 g.1 t.1, t.2)

  pub tells_sheet : (h : Holds sheet) (n : ℕ) → Accepted sheet n → (r : Result (Unit {0}) F) (o : Result (Unit {0}) (RehearsalFault F)) (k' : S) → o ≡ output_of r →
      TellsScript hands (owner_in h.base h.entries) (h.base * 2 ^ h.depth) script k r k' → Tells hands sheet script k o k'
  tells_sheet h n a r o k' e t = subst (λ (z : Result (Unit {0}) (RehearsalFault F)). Tells hands sheet script k z k') (sym e) (tells_good h (good_plan sheet n h a) r k' t)

  tells_bad : (f : SheetFault) → Refused sheet f → (f ≡ Plan NoMemory → ⊥) → (r : Result (Unit {0}) F) (k' : S) → hands k (row_text (Malformed 0)) r k' → Tells hands sheet script k (output_of r) k'
  tells_bad f d n (Ok x) k' h = (Malformed 0 ∷ [], sheet_refused f d n, alone_handed hands k (Malformed 0) k' h)
  tells_bad f d n (Err y) k' h = (Malformed 0 ∷ [], sheet_refused f d n, alone_broken hands k (Malformed 0) k' y h)

  pub tells_refused : (f : SheetFault) → Refused sheet f → (f ≡ Plan NoMemory → ⊥) → (r : Result (Unit {0}) F) (o : Result (Unit {0}) (RehearsalFault F)) (k' : S) → o ≡ output_of r →
      hands k (row_text (Malformed 0)) r k' → Tells hands sheet script k o k'
  tells_refused f d n r o k' e h = subst (λ (z : Result (Unit {0}) (RehearsalFault F)). Tells hands sheet script k z k') (sym e) (tells_bad f d n r k' h)

-- a sink's fault told as the rehearsal's
pub as_output : {F : Type 0} (r : Result (Unit {0}) F) (o : Result (Unit {0}) (RehearsalFault F)) (Told : F → Type 0) → MatchResult r (λ u. o ≡ Ok u) Told → ((f : F) → Told f → o ≡ Err (Output f)) → o ≡ output_of r
as_output (Ok u) o Told m t = m
as_output (Err f) o Told m t = t f m
