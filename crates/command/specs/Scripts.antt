-- What a whole script says.
use Rattle.std.specs.Prelude.{◌≡◌, ℕ, List, [], ◌∷◌, ◌++◌}
use Rattle.command.specs.declared.command.Command.{Command}
use Rattle.command.specs.declared.command.Command.TheVariants.{Open, Wake, Block, Tick, Begin, End}
use Rattle.command.specs.Grammar.{InRange, command_text, Begins}

-- a command that opens a level, as only the first line of a script does
abbrev pub Opens : Command → Type 0
Opens (Open t r) = Unit {0}
Opens (Wake a) = ⊥
Opens (Block a) = ⊥
Opens (Tick j) = ⊥
Opens (Begin s a t d e) = ⊥
Opens (End s) = ⊥

-- the lines that say the commands, each ended by byte 10, and then `tail`
abbrev pub lines_of : List Command → List ℕ → List ℕ
lines_of [] tail = tail
lines_of (c ∷ cs) tail = command_text c ++ (10 ∷ lines_of cs tail)

-- none opens, and all are in range
abbrev pub Playable : List Command → Type 0
Playable [] = Unit {0}
Playable (c ∷ cs) = InRange c × (Opens c → ⊥) × Playable cs

-- what follows the first line of a script: lines of commands, up to the end or to a line that says no command that may stand there
pub record Says (text : List ℕ) (commands : List Command) (tail : List ℕ) : Type 0 where
  pub lines : text ≡ lines_of commands tail
  pub playable : Playable commands
  pub no_more : (c : Command) (ys : List ℕ) → Begins tail c ys → Opens c
