-- The same with the spare rule itself followed.
use Rattle.std.proofs.Common.{◌≡◌, ℕ, List, [], Some, None, Option, sym, ap, ◌∙◌, subst, inl, inr, arith}
use Rattle.spare.specs.declared.rule.SpareRule.{Ghosts as SpareRules}
use Rattle.command.specs.declared.command.Command.{Command}
use Rattle.command.specs.declared.command.Command.TheVariants.{Open, Wake, Block, Tick, Begin, End}
use Rattle.command.specs.Grammar.{Begins, ReadOnce}
use Rattle.command.specs.Reading.{next_line}
use Rattle.command.specs.Scripts.{Opens}
use Rattle.row.specs.declared.row.Row.{Row}
use Rattle.row.specs.declared.row.Row.TheVariants.{Malformed}
use Rattle.rehearsal.specs.Stages.{Stage, rows_in}
use Rattle.rehearsal.specs.Onwards.{Standing, RunsCommand, CommandPlayed, LineGoes, RunsLine, RunsNext}

-- the line is read, and nothing is played yet
pub record LineReadOn {R : Type 0} (s : Standing R) (k : ℕ) (c : Command) (m : Standing R) : Type 0 where
  pub due : s.ticks ≡ 0
  pub some : s.text ≡ [] → ⊥
  pub number : k ≡ s.line
  pub says : Begins s.text c m.text
  pub line : m.line ≡ next_line s.line
  pub on : m.on ≡ s.on

module _ {R : Type 0} (rs : SpareRules R) (s m u : Standing R) (k : ℕ) where
  as_next : (row : Option Row) → RunsLine rs s (rows_in row) u → RunsNext rs s row u
  as_next None p = p
  as_next (Some w) p = inl p

  played : (c : Command) (row : Option Row) → LineReadOn s k c m → CommandPlayed rs m c (rows_in row) u → RunsNext rs s row u
  played c row r p = as_next row (record {
    due = r.due;
    command = c;
    says = subst (λ (ys : List ℕ). Begins s.text c ys) (sym p.text) r.says;
    line = p.line ∙ r.line;
    follows = subst (λ (l : Stage R). RunsCommand rs l c (rows_in row) u.on u.ticks) r.on p.follows;
  })

  pub line_goes_on : (c : Command) (row : Option Row) → LineReadOn s k c m → ReadOnce → LineGoes rs m k c (rows_in row) u → RunsNext rs s row u
  line_goes_on (Open t r) None l once f = let z : ◌≡◌ {A = ℕ} 0 1 = cc f.told in absurd (omega arith)
  line_goes_on (Open t r) (Some w) l once f = inr (record {
    due = l.due;
    some = l.some;
    says = λ d ys b. subst (λ (e : Command). Opens e) (once s.text (Open t r) d m.text ys l.says b).0 tt;
    told = let e : w ≡ Malformed k = cc f.told in e ∙ ap Malformed l.number;
    text = f.text;
    ticks = f.ticks;
    on = f.on ∙ l.on;
  })
  line_goes_on (Wake a) row l once f = played (Wake a) row l f
  line_goes_on (Block a) row l once f = played (Block a) row l f
  line_goes_on (Tick n) row l once f = played (Tick n) row l f
  line_goes_on (Begin x a t d e) row l once f = played (Begin x a t d e) row l f
  line_goes_on (End x) row l once f = played (End x) row l f
