-- What every answer of loading says besides itself: where its place lies, and which faults never come up.
use Rattle.std.proofs.Common.{ℕ, ◌*◌, ◌^◌, ◌<◌, ◌≤◌, List, length, Ok, Err, Result, subst, arith}
use Rattle.plan.specs.declared.fault.PlanFault.{PlanFault}
use Rattle.plan.specs.declared.fault.PlanFault.TheVariants as of-plan
use Rattle.plan.specs.Owners.{owner_in}
use Rattle.plan.specs.Told as plan
use Rattle.reservation.specs.declared.fault.CheckFault.{CheckFault}
use Rattle.reservation.specs.declared.fault.CheckFault.TheVariants as of-check
use Rattle.reservation.specs.Told as check
use Rattle.reservation.proofs.Shares.{never_overbooked}
use Rattle.sheet.specs.declared.fault.SheetFault.{SheetFault}
use Rattle.sheet.specs.declared.fault.SheetFault.TheVariants.{Size, BlockCheck, Heading, EntryBlock, Plan, Check}
use Rattle.sheet.specs.Faults.{plan_place, check_place}
use Rattle.sheet.specs.Format.{entry_place, reservation_place}
use Rattle.sheet.specs.Told.{Holds, Told, Within, Never}

-- entries and reservations begin within the sheet
entry_within : (s : List ℕ) (h : Holds s) (k : ℕ) → k < length h.entries → entry_place k ≤ length s
entry_within s h k l = let size = h.sheet.size in omega arith

reservation_within : (s : List ℕ) (h : Holds s) (k : ℕ) → k < length h.reservations → reservation_place k ≤ length s
reservation_within s h k l = let size = h.sheet.size in let few = h.sheet.heading.few in omega arith

plan_within : (s : List ℕ) (h : Holds s) (f : PlanFault) → plan.Told {U = Unit {0}} h.base h.depth h.entries (Err f) → plan_place f ≤ length s
plan_within s h of-plan.Dimensions t = omega arith
plan_within s h of-plan.TooManyEntries t = omega arith
plan_within s h (of-plan.OutOfRange k) t = entry_within s h k t.2.within
plan_within s h (of-plan.Clash later earlier) t = entry_within s h later t.3.within
plan_within s h of-plan.Memory t = omega arith

check_within : (s : List ℕ) (h : Holds s) (f : CheckFault) → check.Told (owner_in h.base h.entries) (h.base * 2 ^ h.depth) h.reservations (Err f) → check_place f ≤ length s
check_within s h of-check.TooMany t = omega arith
check_within s h (of-check.OutOfRange k) t = reservation_within s h k t.1.within
check_within s h (of-check.Twice k) t = reservation_within s h k t.2.within
check_within s h (of-check.Short k start found) t = reservation_within s h k t.1.within
check_within s h of-check.Overbooked t = omega arith

pub within_told : (s : List ℕ) (r : Result ℕ SheetFault) → Told s r → Within s r
within_told s (Ok n) t = tt
within_told s (Err Size) t = omega arith
within_told s (Err (BlockCheck k)) (n, sized, f) = let e = sized.2 in let l = f.within in omega arith
within_told s (Err Heading) t = omega arith
within_told s (Err (EntryBlock k)) (n, sized, all, h, f) = let e = sized.2 in let l = f.within in omega arith
within_told s (Err (Plan f)) (h, t) = plan_within s h f t
within_told s (Err (Check f)) (h, sound, t) = check_within s h f t

entries_fit : (s : List ℕ) → Told s (Err (Plan of-plan.TooManyEntries)) → ⊥
entries_fit s (h, t) = let most = h.sheet.most in let over = t.1 in omega arith

reservations_fit : (s : List ℕ) → Told s (Err (Check of-check.TooMany)) → ⊥
reservations_fit s (h, sound, t) = let few = h.sheet.heading.few in omega arith

shares_fit : (s : List ℕ) → Told s (Err (Check of-check.Overbooked)) → ⊥
shares_fit s (h, sound, t) = let n = never_overbooked (owner_in h.base h.entries) h.reservations t.0 t.1 in let m = t.2 in omega arith

pub never_told : (s : List ℕ) (r : Result ℕ SheetFault) → Told s r → Never r
never_told s r t =
    record {
      entries = λ e. entries_fit s (subst (Told s) e t);
      reservations = λ e. reservations_fit s (subst (Told s) e t);
      overbooked = λ e. shares_fit s (subst (Told s) e t);
    }
