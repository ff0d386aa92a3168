-- What loading says with each of its answers.
use Rattle.std.proofs.Common.{◌≡◌, ℕ, zero, suc, ◌+◌, ◌-◌, ◌*◌, ◌^◌, ◌≤◌, List, ◌++◌, length, get_or, take, drop, replicate, Ok, Err, Result, sym, refl, ap, ◌∙◌, subst, arith}
use Rattle.std.proofs.lemmas.List.{length-append, length-drop, length-replicate, get_or-append_right, get_or-drop}
use Rattle.std.proofs.Math.Seq.{take-append_seam}
use Rattle.plan.specs.declared.entry.Entry.{Entry}
use Rattle.plan.specs.declared.fault.PlanFault.{PlanFault}
use Rattle.plan.specs.Value.{PlanValue}
use Rattle.plan.specs.Owners.{owner_in}
use Rattle.plan.specs.Told as plan
use Rattle.reservation.specs.declared.reservation.Reservation.{Reservation}
use Rattle.reservation.specs.declared.fault.CheckFault.{CheckFault}
use Rattle.reservation.specs.Reservations.{at, blank}
use Rattle.reservation.specs.Told as check
use Rattle.sheet.specs.declared.fault.SheetFault.{SheetFault}
use Rattle.sheet.specs.declared.fault.SheetFault.TheVariants.{Plan, Check}
use Rattle.sheet.specs.declared.load.Contents.{Contents}
use Rattle.sheet.specs.declared.load.Passed.{Passed}
use Rattle.sheet.specs.Format.{IsSheet}
use Rattle.sheet.specs.Loaded.{Holding}
use Rattle.sheet.specs.Read.{SheetRead, PassedRead, Answer, Judged}
use Rattle.sheet.specs.Told.{Holds, Refused, Told, Only}
use Rattle.sheet.proofs.Once.{told_once}
use Rattle.sheet.proofs.Ruled.{within_told, never_told}

only_told : (s : List ℕ) (r : Result ℕ SheetFault) → Told s r → Only s r
only_told s r t q u n m = told_once s q r u t n m

answer : (s : List ℕ) (r : Result ℕ SheetFault) → Told s r → Answer s r
answer s r t = record { told = t; only = only_told s r t; within = within_told s r t; never = never_told s r t }

pub refused : (s : List ℕ) (r : Result Passed SheetFault) (e f : SheetFault) → r ≡ Err e → e ≡ f → Refused s f → Judged s r
refused s r e f is same t = subst (Judged s) (sym (is ∙ ap (λ x. Err x) same)) (answer s (Err f) t)

module _ (s : List ℕ) (c : Contents) (w : SheetRead s c) where
  abbrev held : Holds s
  held =
      record {
        base = c.heading.base;
        depth = c.heading.depth;
        entries = c.entries.items;
        reservations = c.heading.reservations.items;
        sheet = w;
      }

  pub plan_refused : (given : List Entry) → given ≡ c.entries.items → (f : PlanFault) → plan.Told {U = Unit {0}} c.heading.base c.heading.depth given (Err f) → Refused s (Plan f)
  plan_refused given e f t = (held, subst (λ es. plan.Told {U = Unit {0}} c.heading.base c.heading.depth es (Err f)) e t)

  -- the plan is filled with the entries as they are lent to it, and checked against the reservations as they are lent
  module _ (given : List Entry) (all : given ≡ c.entries.items) (asked : List Reservation) (each : asked ≡ c.heading.reservations.items) (p : PlanValue) (b : p.base ≡ c.heading.base) (d : p.depth ≡ c.heading.depth) (es : p.entries ≡ given) (filled : plan.Sound c.heading.base c.heading.depth given) where
    entries_held : p.entries ≡ c.entries.items
    entries_held = es ∙ all

    sound : plan.Sound c.heading.base c.heading.depth c.entries.items
    sound = subst (plan.Sound c.heading.base c.heading.depth) all filled

    -- an answer of the check on the plan that was filled is one on the plan that the sheet holds
    check_held : (r : Result (Unit {0}) CheckFault) → check.Told (owner_in p.base p.entries) (p.base * 2 ^ p.depth) asked r → check.Told (owner_in c.heading.base c.entries.items) (c.heading.base * 2 ^ c.heading.depth) c.heading.reservations.items r
    check_held r t =
        subst (λ (x : ℕ × ℕ × List Entry × List Reservation). check.Told (owner_in x.0 x.2) (x.0 * 2 ^ x.1) x.3 r) same t
      where
        same : ◌≡◌ {A = ℕ × ℕ × List Entry × List Reservation} (p.base, p.depth, p.entries, asked) (c.heading.base, c.heading.depth, c.entries.items, c.heading.reservations.items)
        same = let e = entries_held in cc (b, d, e, each)

    pub check_refused : (f : CheckFault) → check.Told (owner_in p.base p.entries) (p.base * 2 ^ p.depth) asked (Err f) → Refused s (Check f)
    check_refused f t = (held, sound, check_held (Err f) t)

    sheet_held : IsSheet s p.base p.depth p.entries c.heading.reservations.items
    sheet_held =
        subst (λ (x : ℕ × ℕ × List Entry). IsSheet s x.0 x.1 x.2 c.heading.reservations.items) same w
      where
        same : ◌≡◌ {A = ℕ × ℕ × List Entry} (c.heading.base, c.heading.depth, c.entries.items) (p.base, p.depth, p.entries)
        same = let e = entries_held in cc (b, d, e)

    pub accepted : check.Told (owner_in p.base p.entries) (p.base * 2 ^ p.depth) asked (Ok tt) → Judged s (Ok (record { plan = p; reservations = c.heading.reservations }))
    accepted t = (
      answer s (Ok (length c.heading.reservations.items)) (held, sound, check_held (Ok tt) t, refl),
      record { few = w.heading.few; sheet = sheet_held },
    )

-- the list of so many reservations, with blank ones in its other places
module _ (rs : List Reservation) (n : ℕ) (d : Reservation) (many : length rs ≡ n) (few : n ≤ 16) (nothing : (d.activity ≡ 0) × ((d.ticks ≡ 0) × (d.period ≡ 0))) where
  abbrev pub listed : List Reservation
  listed = rs ++ drop n (replicate 16 d)

  d_blank : d ≡ blank
  d_blank =
      ap (λ (x : ℕ). record { activity = x; ticks = d.ticks; period = d.period }) nothing.0
      ∙ ap (λ (x : ℕ). record { activity = 0; ticks = x; period = d.period }) nothing.1.0
      ∙ ap (λ (x : ℕ). record { activity = 0; ticks = 0; period = x }) nothing.1.1

  pub listed_places : length listed ≡ 16
  listed_places = simp (length-append, length-drop, length-replicate) (omega arith)

  pub listed_front : take n listed ≡ rs
  listed_front = ap (λ k. take k listed) (sym many) ∙ take-append_seam rs (drop n (replicate 16 d))

  pub listed_others : (k : ℕ) → n ≤ k → at listed k ≡ blank
  listed_others k low =
      get_or-append_right rs (drop n (replicate 16 d)) n k blank many low ∙ get_or-drop n (replicate 16 d) (k - n) blank ∙ all_blank (n + (k - n))
    where
      each : (m j : ℕ) → get_or (replicate m d) j d ≡ d
      each zero j = refl
      each (suc m) zero = refl
      each (suc m) (suc j) = each m j

      all_blank : (j : ℕ) → at (replicate 16 d) j ≡ blank
      all_blank j = ap (λ e. get_or (replicate 16 d) j e) (sym d_blank) ∙ each 16 j ∙ d_blank

-- the list that is left, with what has passed in it
pub held_list : (s : List ℕ) (p : Passed) (n : ℕ) (rs : List Reservation) (d : Reservation) → length p.reservations.items ≡ n → rs ≡ p.reservations.items → PassedRead s p → (d.activity ≡ 0) × ((d.ticks ≡ 0) × (d.period ≡ 0)) → Holding s n p.plan (rs ++ drop n (replicate 16 d))
held_list s p n rs d many same w nothing =
    let few : n ≤ 16 = let f = w.few in omega arith in
    let long : length rs ≡ n = ap length same ∙ many in
    record {
      few = few;
      places = listed_places rs n d long few nothing;
      sheet = subst (IsSheet s p.plan.base p.plan.depth p.plan.entries) (sym (listed_front rs n d long few nothing ∙ same)) w.sheet;
      others = listed_others rs n d long few nothing;
    }
