-- What filling a wheel leaves behind.
use Rattle.std.specs.Prelude.{◌≡◌, ℕ, ◌+◌, List, length, Ok, Err, Result}
use Rattle.spare.specs.declared.fault.WheelFault.{WheelFault}
use Rattle.spare.specs.declared.wheel.Wheel.{Wheel}

-- a wheel that was filled has the places it was given and its mark on the last of them, and one that was refused is what it was
abbrev pub Filled : {U : Type 0} → List ℕ → Wheel → Wheel → Result U WheelFault → Type 0
Filled places before after (Ok _) = (after.places ≡ places) × (after.mark + 1 ≡ length places)
Filled places before after (Err _) = after ≡ before
