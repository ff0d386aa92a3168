-- Calls that go on until nothing is left have played all that the script says.
use Rattle.std.proofs.Common.{◌≡◌, ℕ, suc, ◌-◌, ◌<◌, List, [], ◌∷◌, ◌++◌, length, Ok, Err, Result, sym, refl, ap, ◌∙◌, subst, inl, inr, append_assoc, append-nil, arith}
use Rattle.spare.specs.declared.rule.SpareRule.{Ghosts as SpareRules}
use Rattle.std.proofs.lemmas.List.{length-append}
use Rattle.level.specs.declared.ticked.Ticked.{Ticked}
use Rattle.level.specs.declared.refusal.Refusal.{Refusal}
use Rattle.level.specs.Numbers.{number_of}
use Rattle.level.specs.Meaning.{Event, to_tick, ticked, refused}
use Rattle.level.specs.Levels.{tick_event}
use Rattle.command.specs.declared.command.Command.{Command}
use Rattle.command.specs.declared.command.Command.TheVariants.{Open, Wake, Block, Tick, Begin, End}
use Rattle.command.specs.Grammar.{command_text}
use Rattle.command.specs.Scripts.{Opens, lines_of, Says}
use Rattle.row.specs.declared.row.Row.{Row}
use Rattle.row.specs.declared.row.Row.TheVariants.{Ran, TickRefused, Malformed}
use Rattle.rehearsal.specs.declared.rehearsal.Progress.TheVariants.{Told, Silent, Over}
use Rattle.rehearsal.specs.Calls.{call_rows, rows_of, TicksOf, all_run, one_run, stopped, Makes, MakesAll, no_calls, then_calls}
use Rattle.rehearsal.specs.Stages.{Stage, CallOn, Through, no_more, call_then, PlaysCommand}
use Rattle.rehearsal.specs.Rehearsals.{ticks_after}
use Rattle.rehearsal.specs.Onwards.{Standing, line_after, malformed_row, RunsCommand, RunsLine, StopsAtLine, Onwards, not_yet, on_by, PlaysOut}

-- Lists of calls.

rows_then : (es fs : List Event) → rows_of (es ++ fs) ≡ rows_of es ++ rows_of fs
rows_then [] fs = refl
rows_then (e ∷ es) fs = ap (λ z. call_rows e ++ z) (rows_then es fs) ∙ sym (append_assoc (call_rows e) (rows_of es) (rows_of fs))

pub no_ticks : {n : ℕ} {es : List Event} → TicksOf n es → n ≡ 0 → es ≡ []
no_ticks all_run e = refl
no_ticks (one_run t k) e = absurd (omega arith)
no_ticks (stopped r) e = absurd (omega arith)

no_commands : (cs : List Command) (tail : List ℕ) → [] ≡ lines_of cs tail → (cs ≡ []) × (tail ≡ [])
no_commands [] tail e = (refl, sym e)
no_commands (c ∷ cs) tail e = absurd (omega (arith, ap length e, length-append (command_text c) (10 ∷ lines_of cs tail)))

nothing_made : {cs : List Command} {es : List Event} → MakesAll cs es → cs ≡ [] → es ≡ []
nothing_made no_calls e = refl
nothing_made (then_calls es fs m a) e = let z : ◌≡◌ {A = ℕ} 0 1 = cc in absurd (omega arith)

-- the first line of a text that is not empty
first_row : (text : List ℕ) (k : ℕ) → (text ≡ [] → ⊥) → malformed_row text k ≡ Malformed k ∷ []
first_row [] k h = absurd (h refl)
first_row (b ∷ bs) k h = refl

module _ {R : Type 0} (rs : SpareRules R) where
  through_then : {p : Stage R} {es : List Event} {q : Stage R} {fs : List Event} {r : Stage R} → Through rs p es q → Through rs q fs r → Through rs p (es ++ fs) r
  through_then no_more b = b
  through_then (call_then p' c a) b = call_then p' c (through_then a b)

  -- nothing is left
  nothing_left : (s : Standing R) → s.ticks ≡ 0 → s.text ≡ [] → PlaysOut rs s [] s.on
  nothing_left s k t = record {
    due = [];
    ticks = subst (λ (n : ℕ). TicksOf n []) (sym k) all_run;
    commands = [];
    tail = [];
    says = record { lines = t; playable = tt; no_more = λ c ys b. absurd (omega (arith, ap length b.line, length-append (command_text c) (10 ∷ ys))) };
    calls = [];
    makes = no_calls;
    through = no_more;
    told = refl;
  }

  -- a tick of the line before comes first
  tick_first : (s u : Standing R) (row : Row) (rows : List Row) (last : Stage R) (answer : Result Ticked Refusal) →
      0 < s.ticks → CallOn rs s.on (tick_event answer) u.on → row ∷ [] ≡ call_rows (tick_event answer) → u.text ≡ s.text → u.line ≡ s.line →
      u.ticks ≡ ticks_after row s.ticks → PlaysOut rs u rows last → PlaysOut rs s (row ∷ rows) last
  tick_first s u row rows last (Ok e) due c told text line ticks o =
      let row_is : row ≡ Ran e.tick e.runner e.letter = cc in
      let one : suc u.ticks ≡ s.ticks = omega (arith, ticks ∙ ap (λ z. ticks_after z s.ticks) row_is) in
      record {
        due = ticked e ∷ o.due;
        ticks = subst (λ (n : ℕ). TicksOf n (ticked e ∷ o.due)) one (one_run e o.ticks);
        commands = o.commands;
        tail = o.tail;
        says = subst (λ (z : List ℕ). Says z o.commands o.tail) text o.says;
        calls = o.calls;
        makes = o.makes;
        through = call_then u.on c o.through;
        told = ap (λ z. z ∷ rows) row_is ∙ ap (λ z. Ran e.tick e.runner e.letter ∷ z) (o.told ∙ ap (λ k. rows_of (o.due ++ o.calls) ++ malformed_row o.tail (line_after k o.commands)) line);
      }
  tick_first s u row rows last (Err r) due c told text line ticks o =
      let row_is : row ≡ TickRefused (number_of r) = cc in
      let none : u.ticks ≡ 0 = ticks ∙ ap (λ z. ticks_after z s.ticks) row_is in
      let empty : o.due ≡ [] = no_ticks o.ticks none in
      let one : suc (s.ticks - 1) ≡ s.ticks = omega arith in
      record {
        due = refused to_tick r ∷ [];
        ticks = subst (λ (n : ℕ). TicksOf n (refused to_tick r ∷ [])) one (stopped r);
        commands = o.commands;
        tail = o.tail;
        says = subst (λ (z : List ℕ). Says z o.commands o.tail) text o.says;
        calls = o.calls;
        makes = o.makes;
        through = call_then u.on c (subst (λ (z : List Event). Through rs u.on (z ++ o.calls) last) empty o.through);
        told =
            ap (λ z. z ∷ rows) row_is
            ∙ ap (λ z. TickRefused (number_of r) ∷ z)
            (o.told
            ∙ (ap (λ z. rows_of (z ++ o.calls) ++ malformed_row o.tail (line_after u.line o.commands)) empty
            ∙ ap (λ k. rows_of o.calls ++ malformed_row o.tail (line_after k o.commands)) line));
      }

  -- what a command has made when its line is read, the ticks that it says being still to come
  record Made (p : Stage R) (c : Command) (rows : List Row) (p' : Stage R) (due : List Event) : Type 0 where
    pub now_made : List Event
    pub makes : Makes c (now_made ++ due)
    pub through : Through rs p now_made p'
    pub told : rows ≡ rows_of now_made
    pub plain : Opens c → ⊥

  by_calls : (p : Stage R) (c : Command) (rows : List Row) (p' : Stage R) (k : ℕ) (due : List Event) → TicksOf k due → PlaysCommand rs p c rows p' × (k ≡ 0) → (Opens c → ⊥) → Made p c rows p' due
  by_calls p c rows p' k due t f o = record {
    now_made = f.0.calls;
    makes = subst (λ (z : List Event). Makes c z) (sym (ap (λ z. f.0.calls ++ z) (no_ticks t f.1) ∙ append-nil f.0.calls)) f.0.says;
    through = f.0.through;
    told = f.0.told;
    plain = o;
  }

  made : (p : Stage R) (c : Command) (rows : List Row) (p' : Stage R) (k : ℕ) (due : List Event) → TicksOf k due → RunsCommand rs p c rows p' k → Made p c rows p' due
  made p (Open t r) rows p' k due d f = absurd f
  made p (Wake a) rows p' k due d f = by_calls p (Wake a) rows p' k due d f (λ x. x)
  made p (Block a) rows p' k due d f = by_calls p (Block a) rows p' k due d f (λ x. x)
  made p (Tick n) rows p' k due d f = record {
    now_made = [];
    makes = subst (λ (z : ℕ). TicksOf z due) f.2 d;
    through = subst (λ (z : Stage R). Through rs p [] z) (sym f.1) no_more;
    told = f.0;
    plain = λ x. x;
  }
  made p (Begin s a t x e) rows p' k due d f = by_calls p (Begin s a t x e) rows p' k due d f (λ y. y)
  made p (End s) rows p' k due d f = by_calls p (End s) rows p' k due d f (λ x. x)

  -- a line comes first
  line_first : (s u : Standing R) (rows rows' : List Row) (last : Stage R) → RunsLine rs s rows u → PlaysOut rs u rows' last → PlaysOut rs s (rows ++ rows') last
  line_first s u rows rows' last g o =
      let m = made s.on g.command rows u.on u.ticks o.due o.ticks g.follows in
      let joined : (m.now_made ++ o.due) ++ o.calls ≡ m.now_made ++ (o.due ++ o.calls) = append_assoc m.now_made o.due o.calls in
      record {
        due = [];
        ticks = subst (λ (n : ℕ). TicksOf n []) (sym g.due) all_run;
        commands = g.command ∷ o.commands;
        tail = o.tail;
        says = record {
          lines = g.says.line ∙ ap (λ z. command_text g.command ++ (10 ∷ z)) o.says.lines;
          playable = (g.says.range, m.plain, o.says.playable);
          no_more = o.says.no_more;
        };
        calls = (m.now_made ++ o.due) ++ o.calls;
        makes = then_calls (m.now_made ++ o.due) o.calls m.makes o.makes;
        through = subst (λ (z : List Event). Through rs s.on z last) (sym joined) (through_then m.through o.through);
        told =
            ap (λ z. z ++ rows') m.told
            ∙ (ap (λ z. rows_of m.now_made ++ z) o.told
            ∙ (sym (append_assoc (rows_of m.now_made) (rows_of (o.due ++ o.calls)) (malformed_row o.tail (line_after u.line o.commands)))
            ∙ (ap (λ z. z ++ malformed_row o.tail (line_after u.line o.commands)) (sym (rows_then m.now_made (o.due ++ o.calls)) ∙ ap rows_of (sym joined))
            ∙ ap (λ k. rows_of ((m.now_made ++ o.due) ++ o.calls) ++ malformed_row o.tail (line_after k o.commands)) g.line)));
      }

  -- a malformed line comes first, and nothing after it
  refused_first : (s u : Standing R) (row : Row) (rows : List Row) (last : Stage R) → StopsAtLine rs s row u → PlaysOut rs u rows last → PlaysOut rs s (row ∷ rows) last
  refused_first s u row rows last g o =
      let due-none : o.due ≡ [] = no_ticks o.ticks g.ticks in
      let none = no_commands o.commands o.tail (sym g.text ∙ o.says.lines) in
      let calls-none : o.calls ≡ [] = nothing_made o.makes none.0 in
      let all_none : o.due ++ o.calls ≡ [] = ap (λ z. z ++ o.calls) due-none ∙ calls-none in
      let told_none : rows ≡ [] =
      o.told
      ∙ (ap (λ z. rows_of z ++ malformed_row o.tail (line_after u.line o.commands)) all_none
      ∙ ap (λ z. malformed_row z (line_after u.line o.commands)) none.1)
      in
      record {
        due = [];
        ticks = subst (λ (n : ℕ). TicksOf n []) (sym g.due) all_run;
        commands = [];
        tail = s.text;
        says = record { lines = refl; playable = tt; no_more = g.says };
        calls = [];
        makes = no_calls;
        through = subst (λ (z : Stage R). Through rs z [] last) g.on (subst (λ (z : List Event). Through rs u.on z last) all_none o.through);
        told = ap (λ z. z ∷ rows) g.told ∙ (ap (λ z. Malformed s.line ∷ z) told_none ∙ sym (first_row s.text s.line g.some));
      }

  from_there : {s v : Standing R} {rows : List Row} (last : Stage R) → v ≡ s → PlaysOut rs v rows last → PlaysOut rs s rows last
  from_there {s} {v} {rows} last e o = subst (λ (z : Standing R). PlaysOut rs z rows last) e o

  pub played_out : {s : Standing R} {rows : List Row} {u : Standing R} → Onwards rs s rows u → u.ticks ≡ 0 → u.text ≡ [] → PlaysOut rs s rows u.on
  played_out {s} not_yet k t = nothing_left s k t
  played_out {s} {rows} {u} (on_by (Told row) v (inl g) o) k t =
      tick_first s v row _ u.on g.run.answer g.due g.run.called g.run.told g.text g.line g.ticks (played_out o k t)
  played_out {s} {rows} {u} (on_by (Told row) v (inr (inl g)) o) k t = line_first s v (row ∷ []) _ u.on g (played_out o k t)
  played_out {s} {rows} {u} (on_by (Told row) v (inr (inr g)) o) k t = refused_first s v row _ u.on g (played_out o k t)
  played_out {s} {rows} {u} (on_by Silent v g o) k t = line_first s v [] _ u.on g (played_out o k t)
  played_out {s} {rows} {u} (on_by Over v g o) k t = from_there u.on g.2 (played_out o k t)
