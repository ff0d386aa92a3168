-- Rows that wait in a buffer for their sink. A buffer is seen here as the bytes that wait in it.
use Rattle.std.specs.Prelude.{◌≡◌, ℕ, List, [], ◌++◌, Ok, Err, Result, ◌≢◌}
use Rattle.row.specs.declared.row.RowFault.{RowFault}
use Rattle.row.specs.Sinks.{Handed}

-- a text is put behind what waits; for want of room what waits may be handed on first. Where the sink does not take that, the text is not put
abbrev pub Puts : {S F : Type 0} → (S → List ℕ → Result (Unit {0}) F → S → Type 0) → S → List ℕ → List ℕ → Result (Unit {0}) F → S → List ℕ → Type 0
Puts hands s b text (Ok u) s' b' = (front : List ℕ) × Handed hands s front s' × (front ++ b' ≡ b ++ text)
Puts hands s b text (Err f) s' b' = hands s b (Err f) s' × (b' ≡ b)

-- all that waits is handed on
abbrev pub Flushes : {S F : Type 0} → (S → List ℕ → Result (Unit {0}) F → S → Type 0) → S → List ℕ → Result (Unit {0}) F → S → List ℕ → Type 0
Flushes hands s b (Ok u) s' b' = hands s b (Ok tt) s' × (b' ≡ [])
Flushes hands s b (Err f) s' b' = hands s b (Err f) s' × (b' ≡ b)

-- a text is put behind what waits, or has no room and the buffer stays; where nothing waits there is always room
abbrev pub Appends : List ℕ → List ℕ → Result (Unit {0}) RowFault → List ℕ → Type 0
Appends b text (Ok u) b' = b' ≡ b ++ text
Appends b text (Err f) b' = (b' ≡ b) × (b ≢ [])
