-- A rehearsal that goes on comes to its end, and what it has told reaches the sink.
use Rattle.std.proofs.Common.{◌≡◌, ℕ, ◌+◌, ◌*◌, ◌<◌, ◌≤◌, List, [], ◌∷◌, ◌++◌, length, Ok, Err, Result, sym, refl, ap, ◌∙◌, subst, inl, inr, append_assoc, append-nil, arith}
use Rattle.spare.specs.declared.rule.SpareRule.{Ghosts as SpareRules}
use Rattle.std.proofs.lemmas.List.{length-append}
use Rattle.command.specs.declared.command.Command.{Command}
use Rattle.command.specs.declared.command.Command.TheVariants.{Open, Wake, Block, Tick, Begin, End}
use Rattle.command.specs.Grammar.{InRange, command_text, Begins}
use Rattle.row.specs.declared.row.Row.{Row}
use Rattle.row.specs.declared.row.Row.TheVariants.{Ran, Began, Ended, BeginRefused, EndRefused, WakeRefused, BlockRefused, TickRefused, Malformed}
use Rattle.row.specs.Rows.{row_text}
use Rattle.row.specs.Buffers.{Flushes}
use Rattle.row.specs.Sinks.{rows_text, Handed, nothing, more}
use Rattle.rehearsal.specs.declared.rehearsal.Progress.{Progress}
use Rattle.rehearsal.specs.declared.rehearsal.Progress.TheVariants.{Told, Over}
use Rattle.rehearsal.specs.Stages.{Stage}
use Rattle.rehearsal.specs.Rehearsals.{ticks_after}
use Rattle.rehearsal.specs.Onwards.{Standing, told_by, RunsCommand, RunsLine, RunsOn, Onwards, not_yet, on_by, PlaysOut}
use Rattle.rehearsal.specs.Runs.{RunOut, RunBroken, Runs}
use Rattle.rehearsal.proofs.PlayedOut.{played_out}

-- What is still to be played falls.

abbrev pub left_over : {R : Type 0} → Standing R → ℕ
left_over s = 10000 * length s.text + s.ticks

fewer : (row : Row) (k : ℕ) → 0 < k → ticks_after row k < k
fewer (Ran t o l) k h = omega arith
fewer (Began s) k h = h
fewer (Ended s n) k h = h
fewer (BeginRefused s n) k h = h
fewer (EndRefused s n) k h = h
fewer (WakeRefused a n) k h = h
fewer (BlockRefused a n) k h = h
fewer (TickRefused n) k h = h
fewer (Malformed n) k h = h

some_length : (xs : List ℕ) → (xs ≡ [] → ⊥) → 1 ≤ length xs
some_length [] h = absurd (h refl)
some_length (x ∷ xs) h = omega arith

-- the text behind a line is shorter
pub shorter : (text : List ℕ) (c : Command) (ys : List ℕ) → Begins text c ys → length ys + 1 ≤ length text
shorter text c ys b = omega (arith, ap length b.line, length-append (command_text c) (10 ∷ ys))

module _ {R : Type 0} (rs : SpareRules R) where
  few_ticks : (p : Stage R) (c : Command) (rows : List Row) (p' : Stage R) (k : ℕ) → InRange c → RunsCommand rs p c rows p' k → k ≤ 9999
  few_ticks p (Open t r) rows p' k i f = absurd f
  few_ticks p (Wake a) rows p' k i f = omega (arith, f.1)
  few_ticks p (Block a) rows p' k i f = omega (arith, f.1)
  few_ticks p (Tick n) rows p' k i f = omega (arith, f.2, i.1)
  few_ticks p (Begin s a t d e) rows p' k i f = omega (arith, f.1)
  few_ticks p (End s) rows p' k i f = omega (arith, f.1)

  pub line_falls : (s : Standing R) (rows : List Row) (u : Standing R) → RunsLine rs s rows u → left_over u < left_over s
  line_falls s rows u g =
      omega (arith, shorter s.text g.command u.text g.says, few_ticks s.on g.command rows u.on u.ticks g.says.range g.follows)

  pub told_falls : (s : Standing R) (row : Row) (u : Standing R) → RunsOn rs s (Told row) u → left_over u < left_over s
  told_falls s row u (inl g) = omega (arith, ap length g.text, g.ticks, fewer row s.ticks g.due)
  told_falls s row u (inr (inl g)) = line_falls s (row ∷ []) u g
  told_falls s row u (inr (inr g)) = omega (arith, ap length g.text, g.ticks, some_length s.text g.some)

  -- one call more
  pub onwards_more : {s : Standing R} {rows : List Row} {u : Standing R} → Onwards rs s rows u → (p : Progress) (v : Standing R) → RunsOn rs u p v → Onwards rs s (rows ++ told_by p) v
  onwards_more {s} {rows} {u} not_yet p v g = subst (λ (z : List Row). Onwards rs s z v) (append-nil (told_by p)) (on_by p v g not_yet)
  onwards_more (on_by q w d o) p v g = rw append_assoc (on_by q w d (onwards_more o p v g))

-- Rows on their way to the sink.
pub record SoFar {R S F : Type 0} (rs : SpareRules R) (hands : S → List ℕ → Result (Unit {0}) F → S → Type 0)
    (s : Standing R) (k : S) (u : Standing R) (k' : S) (waits : List ℕ) : Type 0 where
  pub rows : List Row
  pub onwards : Onwards rs s rows u
  pub front : List ℕ
  pub handed : Handed hands k front k'
  pub whole : front ++ waits ≡ rows_text rows

-- the texts of rows and of one more
one_more : (rows : List Row) (row : Row) → rows_text (rows ++ (row ∷ [])) ≡ rows_text rows ++ row_text row
one_more [] row = append-nil (row_text row)
one_more (r ∷ rows) row = ap (λ z. row_text r ++ z) (one_more rows row) ∙ sym (append_assoc (row_text r) (rows_text rows) (row_text row))

module _ {S F : Type 0} {hands : S → List ℕ → Result (Unit {0}) F → S → Type 0} where
  -- one handing after another
  pub handed_then : {k : S} {front : List ℕ} {m : S} {behind : List ℕ} {u : S} → Handed hands k front m → Handed hands m behind u → Handed hands k (front ++ behind) u
  handed_then {k} {front} {m} a nothing = subst (λ (z : List ℕ). Handed hands k z m) (sym (append-nil front)) a
  handed_then a (more part u b h) = rw (← append_assoc) (more part u (handed_then a b) h)

module _ {R S F : Type 0} {rs : SpareRules R} {hands : S → List ℕ → Result (Unit {0}) F → S → Type 0} {s : Standing R} {k : S} where
  pub begins : (waits : List ℕ) → waits ≡ [] → SoFar rs hands s k s k waits
  begins waits e = record { rows = []; onwards = not_yet; front = []; handed = nothing; whole = e }

  module _ {u : Standing R} {k' : S} {waits : List ℕ} (f : SoFar rs hands s k u k' waits) where
    -- a call with no row
    pub goes_silently : (p : Progress) (v : Standing R) → RunsOn rs u p v → told_by p ≡ [] → SoFar rs hands s k v k' waits
    goes_silently p v g e = record {
      rows = f.rows;
      onwards = subst (λ (z : List Row). Onwards rs s z v) (ap (λ z. f.rows ++ z) e ∙ append-nil f.rows) (onwards_more rs f.onwards p v g);
      front = f.front;
      handed = f.handed;
      whole = f.whole;
    }

    -- a row, put behind what waits
    pub tells : (row : Row) (v : Standing R) → RunsOn rs u (Told row) v → (sent : List ℕ) (k'' : S) (waits' : List ℕ) →
        Handed hands k' sent k'' → sent ++ waits' ≡ waits ++ row_text row → SoFar rs hands s k v k'' waits'
    tells row v g sent k'' waits' h e = record {
      rows = f.rows ++ (row ∷ []);
      onwards = onwards_more rs f.onwards (Told row) v g;
      front = f.front ++ sent;
      handed = handed_then f.handed h;
      whole =
          append_assoc f.front sent waits'
          ∙ (ap (λ z. f.front ++ z) e
          ∙ (sym (append_assoc f.front waits (row_text row))
          ∙ (ap (λ z. z ++ row_text row) f.whole ∙ sym (one_more f.rows row))));
    }

    -- a row that is told, and before which the sink refuses what waits
    pub breaks : (row : Row) (v : Standing R) → RunsOn rs u (Told row) v → (fault : F) (k'' : S) → hands k' waits (Err fault) k'' → RunBroken rs hands s k fault v k''
    breaks row v g fault k'' h = record {
      rows = f.rows ++ (row ∷ []);
      onwards = onwards_more rs f.onwards (Told row) v g;
      broken = record {
        front = f.front;
        part = waits;
        behind = row_text row;
        between = k';
        whole = one_more f.rows row ∙ (ap (λ z. z ++ row_text row) (sym f.whole) ∙ append_assoc f.front waits (row_text row));
        taken = f.handed;
        refused = h;
      };
    }

    -- all is told, and the sink takes what waits
    pub ends : (v : Standing R) → RunsOn rs u Over v → (k'' : S) → hands k' waits (Ok tt) k'' → RunOut rs hands s k v k''
    ends v g k'' h = record {
      rows = f.rows;
      plays = subst (λ (z : Standing R). PlaysOut rs s f.rows z.on) (sym g.2) (played_out rs f.onwards g.0 g.1);
      text = ap (λ (z : Standing R). z.text) g.2 ∙ g.1;
      ticks = ap (λ (z : Standing R). z.ticks) g.2 ∙ g.0;
      handed = subst (λ (z : List ℕ). Handed hands k z k'') f.whole (more waits k'' f.handed h);
    }

    -- all is told, and the sink refuses what waits
    pub ends_broken : (v : Standing R) → RunsOn rs u Over v → (fault : F) (k'' : S) → hands k' waits (Err fault) k'' → RunBroken rs hands s k fault v k''
    ends_broken v g fault k'' h = record {
      rows = f.rows;
      onwards = subst (λ (z : Standing R). Onwards rs s f.rows z) (sym g.2) f.onwards;
      broken = record {
        front = f.front;
        part = waits;
        behind = [];
        between = k';
        whole = sym f.whole ∙ ap (λ z. f.front ++ z) (sym (append-nil waits));
        taken = f.handed;
        refused = h;
      };
    }

    -- all is told, and what waits is flushed
    pub finishes : (v : Standing R) → RunsOn rs u Over v → (b b' : List ℕ) → waits ≡ b → (r : Result (Unit {0}) F) (k'' : S) → Flushes hands k' b r k'' b' → Runs rs hands s k r v k''
    finishes v g b b' e (Ok x) k'' h = ends v g k'' (subst (λ (z : List ℕ). hands k' z (Ok tt) k'') (sym e) h.0)
    finishes v g b b' e (Err fault) k'' h = ends_broken v g fault k'' (subst (λ (z : List ℕ). hands k' z (Err fault) k'') (sym e) h.0)

  pub runs_broken : (r : Result (Unit {0}) F) (y fault : F) (v : Standing R) (k'' : S) → r ≡ Err y → y ≡ fault → RunBroken rs hands s k fault v k'' → Runs rs hands s k r v k''
  runs_broken r y fault v k'' e i b = subst (λ (z : Result (Unit {0}) F). Runs rs hands s k z v k'') (sym (e ∙ ap Err i)) b
