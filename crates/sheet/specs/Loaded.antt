-- What loading leaves in the plan and in the list.
use Rattle.std.specs.Prelude.{◌≡◌, ℕ, ◌≤◌, List, length, take, Ok, Err, Result}
use Rattle.plan.specs.declared.plan.Plan.{Plan}
use Rattle.reservation.specs.declared.reservation.Reservation.{Reservation}
use Rattle.reservation.specs.Reservations.{at, blank}
use Rattle.sheet.specs.declared.fault.SheetFault.{SheetFault}
use Rattle.sheet.specs.Format.{IsSheet}

-- the bytes are the sheet of this plan and of the first n reservations of the list; its other places are 0
pub record Holding (s : List ℕ) (n : ℕ) (p : Plan) (list : List Reservation) : Type 0 where
  pub few : n ≤ 16
  pub places : length list ≡ 16
  pub sheet : IsSheet s p.base p.depth p.entries (take n list)
  pub others : (k : ℕ) → n ≤ k → at list k ≡ blank

-- accepted, plan and list are those of the sheet; refused, both are what they were
abbrev pub Loaded : List ℕ → Plan → Plan → List Reservation → List Reservation → Result ℕ SheetFault → Type 0
Loaded s p p' list list' (Ok n) = Holding s n p' list'
Loaded s p p' list list' (Err f) = (p' ≡ p) × (list' ≡ list)
