-- What the lines of a script say.
use Rattle.std.specs.Prelude.{◌≡◌, ℕ, ◌≤◌, List, ◌∷◌, ◌++◌, ℤ, pos, negsuc, ◌≤ℤ◌, Ok, Err, codes, decimal, Result}
use Rattle.std.specs.Fmt.{signed_decimal}
use Rattle.command.specs.declared.command.Command.{Command}
use Rattle.command.specs.declared.command.Command.TheVariants.{Open, Wake, Block, Tick, Begin, End}
use Rattle.command.specs.declared.command.ScriptFault.{ScriptFault}
use Rattle.command.specs.declared.command.ScriptFault.TheVariants.{Malformed}

abbrev pub script_number : ScriptFault → ℕ
script_number (Malformed k) = 35

-- the line that it tells of
abbrev pub fault_line : ScriptFault → ℕ
fault_line (Malformed k) = k

-- a signed number of 32 bits
abbrev pub Signed32 : ℤ → Type 0
Signed32 t = (negsuc 2147483647 ≤ℤ t) × (t ≤ℤ pos 2147483647)

-- the fields are in their ranges
abbrev pub InRange : Command → Type 0
InRange (Open t r) = Signed32 t × (r ≤ 255)
InRange (Wake a) = a ≤ 65535
InRange (Block a) = a ≤ 65535
InRange (Tick n) = (1 ≤ n) × (n ≤ 9999)
InRange (Begin s a t d e) = (s ≤ 65535) × (a ≤ 65535) × Signed32 t × Signed32 d × (e ≤ 65535)
InRange (End s) = s ≤ 65535

-- the one line that writes a command, without its byte 10
abbrev pub command_text : Command → List ℕ
command_text (Open t r) = codes "o " ++ (signed_decimal t ++ (codes " " ++ decimal r))
command_text (Wake a) = codes "w " ++ decimal a
command_text (Block a) = codes "b " ++ decimal a
command_text (Tick n) = codes "t " ++ decimal n
command_text (Begin s a t d e) =
    codes "c " ++ (decimal s ++ (codes " " ++ (decimal a ++ (codes " " ++ (signed_decimal t ++ (codes " " ++ (signed_decimal d ++ (codes " " ++ decimal e))))))))
command_text (End s) = codes "e " ++ decimal s

-- the text begins with a line that says the command, and `rest` follows its byte 10
pub record Begins (text : List ℕ) (c : Command) (rest : List ℕ) : Type 0 where
  pub range : InRange c
  pub line : text ≡ command_text c ++ (10 ∷ rest)

-- what is read where a text goes on: the command of its line, or that it begins with no line that says one
abbrev pub Reads : List ℕ → ℕ → Result Command ScriptFault → List ℕ → Type 0
Reads text k (Ok c) rest = Begins text c rest
Reads text k (Err e) rest = (e ≡ Malformed k) × ((c : Command) (ys : List ℕ) → Begins text c ys → ⊥)

-- the same, with the line's number beside its command
abbrev pub ReadsNumbered : List ℕ → ℕ → Result (ℕ × Command) ScriptFault → List ℕ → Type 0
ReadsNumbered text k (Ok p) rest = (p.0 ≡ k) × Begins text p.1 rest
ReadsNumbered text k (Err e) rest = (e ≡ Malformed k) × ((c : Command) (ys : List ℕ) → Begins text c ys → ⊥)

-- no text begins with lines of two commands
abbrev pub ReadOnce : Type 0
ReadOnce = (text : List ℕ) (c d : Command) (ys zs : List ℕ) → Begins text c ys → Begins text d zs → (c ≡ d) × (ys ≡ zs)
