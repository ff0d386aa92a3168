use Rattle.std.proofs.Common.{◌≡◌, ℕ, ap, ◌∙◌, subst, w32, SFits, rules}
use Rattle.std.proofs.lemmas.Int.{to_z-of_z}
use Rattle.command.specs.Grammar.{fault_line}
use Rattle.row.specs.declared.row.Row.TheVariants.{Malformed}
use Rattle.row.specs.Rows.{row_text}
use Rattle.rehearsal.specs.Stages.{stage}
use Rattle.rehearsal.specs.Onwards.{standing}
use Rattle.rehearsal.specs.Whole.{held, Start, unopened}
use Rattle.rehearsal.proofs.OnlyRows.{script_rows_once}
use Rattle.rehearsal.proofs.Wholes.{tells_script, tells_alone, starts_at, opened_with, fresh_with}
use Rattle.rehearsal.proofs.whole.rehearse_on.Goals as goal

pub returns-in-Ok : goal.returns-in-Ok
returns-in-Ok g c =
    let ts = g.T.Timetable in
    let f = c.in-Ok.ensures in
    let o = c.open-level.ensures in
    let n = c.new-rehearsal.ensures in
    let fits : SFits w32 c.in-Ok.opening.clock = search rules in
    let start : Start (ts.owner c.args.timetable) (ts.cycle c.args.timetable) c.args.script.now = record {
      short = f.short;
      clock = c.in-Ok.opening.clock;
      repeats = c.in-Ok.opening.repeats;
      text = c.in-Ok.opening.reader.rest;
      opens = f.says;
      first = stage ts held c.open-level.result;
      opening = opened_with ts c.args.timetable c.open-level.result c.new-rule.result c.in-Ok.opening.clock _ (to_z-of_z w32 _ fits) o.rule o.opened;
      fresh = fresh_with c.open-level.result.rule c.new-rule.result c.new.result c.in-Ok.opening.repeats o.rule
          c.new-rule.ensures.below c.new.ensures c.new-rule.ensures.repeats c.new-rule.ensures.choice c.new-rule.ensures.left;
    } in
    let here = starts_at (standing ts held c.new-rehearsal.result) c.in-Ok.opening.reader.rest (stage ts held c.open-level.result)
    n.reader (n.line ∙ f.line) n.ticks (ap (stage ts held) n.level) in
    record {
      told = tells_script start g.S.Sink.hands (standing ts held c.new-rehearsal.result) here c.args.sink.now c.run.result
          (standing ts held c.run.new.self) c.run.new.sink c.run.ensures;
      once = script_rows_once;
    }

pub returns-in-Err : goal.returns-in-Err
returns-in-Err g c =
    let e = c.in-Err.ensures in
    let line : c.line.result ≡ 1 = c.line.ensures ∙ ap fault_line e.0 in
    record {
      told = tells_alone g.S.Sink.hands (g.T.Timetable.owner c.args.timetable) (g.T.Timetable.cycle c.args.timetable) c.args.script.now c.args.sink.now
          (Malformed 1) c.hand_row.result c.hand_row.new.sink (unopened e.1)
          (subst (λ (k : ℕ). g.S.Sink.hands c.args.sink.now (row_text (Malformed k)) c.hand_row.result c.hand_row.new.sink) line c.hand_row.ensures);
      once = script_rows_once;
    }
