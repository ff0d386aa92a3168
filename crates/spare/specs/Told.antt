-- Which answer filling a wheel gives to which places.
use Rattle.std.specs.Prelude.{◌≡◌, ℕ, List, Some, None, Ok, Err, Option, Result}
use Rattle.spare.specs.declared.fault.WheelFault.{WheelFault}
use Rattle.spare.specs.declared.fault.WheelFault.TheVariants.{Places, Memory}
use Rattle.spare.specs.Wheels.{Table}

-- the number of a refusal
abbrev pub number_of : WheelFault → Option ℕ
number_of Places = Some 25
number_of Memory = None

-- what each answer says of the places
abbrev pub Told : {U : Type 0} → List ℕ → Result U WheelFault → Type 0
Told places (Ok _) = Table places
Told places (Err Places) = Table places → ⊥
Told places (Err Memory) = Table places

-- the numbered refusal in an answer, if there is one: want of memory is no verdict on the places
abbrev pub refusal : {U : Type 0} → Result U WheelFault → Option WheelFault
refusal (Ok _) = None
refusal (Err Places) = Some Places
refusal (Err Memory) = None

-- no other answer would be told of the same places, but for want of memory
abbrev pub Only : {U : Type 0} → List ℕ → Result U WheelFault → Type 0
Only {U} places r = (s : Result U WheelFault) → Told places s → refusal s ≡ refusal r
