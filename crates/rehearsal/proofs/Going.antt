-- A line that is read and played takes a rehearsal on.
use Rattle.std.proofs.Common.{◌≡◌, ℕ, List, [], Some, None, Option, sym, ap, ◌∙◌, subst, inl, inr}
use Rattle.level.specs.Meaning.{Meaning}
use Rattle.command.specs.declared.command.Command.{Command}
use Rattle.command.specs.declared.command.Command.TheVariants.{Open, Wake, Block, Tick, Begin, End}
use Rattle.row.specs.declared.row.Row.{Row}
use Rattle.row.specs.declared.row.Row.TheVariants.{Malformed}
use Rattle.command.specs.Grammar.{Begins, ReadOnce}
use Rattle.command.specs.Reading.{next_line}
use Rattle.command.specs.Scripts.{Opens}
use Rattle.rehearsal.specs.Rehearsals.{State, Plays, Played, Follows, LinePlayed, NextLine}

-- the line is read, and nothing is played yet
pub record LineRead (s : State) (k : ℕ) (c : Command) (m : State) : Type 0 where
  pub due : s.ticks ≡ 0
  pub some : s.text ≡ [] → ⊥
  pub number : k ≡ s.line
  pub says : Begins s.text c m.text
  pub line : m.line ≡ next_line s.line
  pub level : m.level ≡ s.level

as_next : (s u : State) (row : Option Row) → LinePlayed s row u → NextLine s row u
as_next s u None p = p
as_next s u (Some w) p = inl p

played : (s m u : State) (k : ℕ) (c : Command) (row : Option Row) → LineRead s k c m → Played m c row u → NextLine s row u
played s m u k c row r p = as_next s u row (record {
  due = r.due;
  command = c;
  says = subst (λ (ys : List ℕ). Begins s.text c ys) (sym p.text) r.says;
  line = p.line ∙ r.line;
  plays = subst (λ (l : Meaning). Plays l c row u.level u.ticks) r.level p.plays;
})

pub line_goes : (s m u : State) (k : ℕ) (c : Command) (row : Option Row) → LineRead s k c m → ReadOnce → Follows m k c row u → NextLine s row u
line_goes s m u k (Open t r) None l once f = absurd f
line_goes s m u k (Open t r) (Some w) l once f = inr (record {
  due = l.due;
  some = l.some;
  says = λ d ys b. subst (λ (e : Command). Opens e) (once s.text (Open t r) d m.text ys l.says b).0 tt;
  told = f.told ∙ ap Malformed l.number;
  text = f.text;
  ticks = f.ticks;
  level = f.level ∙ l.level;
})
line_goes s m u k (Wake a) row l once f = played s m u k (Wake a) row l f
line_goes s m u k (Block a) row l once f = played s m u k (Block a) row l f
line_goes s m u k (Tick j) row l once f = played s m u k (Tick j) row l f
line_goes s m u k (Begin x a t d e) row l once f = played s m u k (Begin x a t d e) row l f
line_goes s m u k (End x) row l once f = played s m u k (End x) row l f
