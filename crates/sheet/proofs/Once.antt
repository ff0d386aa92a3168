-- Loading has one answer: what each says of the bytes shuts the others out.
use Rattle.std.proofs.Common.{◌≡◌, ℕ, ◌*◌, ◌^◌, ◌<◌, List, length, Some, None, Ok, Err, Result, sym, refl, ap, ◌∙◌, subst, arith}
use Rattle.std.proofs.lemmas.List.{ext_get_or}
use Rattle.plan.specs.declared.entry.Entry.{Entry}
use Rattle.plan.specs.declared.fault.PlanFault.{PlanFault}
use Rattle.plan.specs.declared.fault.PlanFault.TheVariants.{Dimensions, TooManyEntries, OutOfRange, Clash, Memory}
use Rattle.plan.specs.Entries as entries
use Rattle.plan.specs.Owners.{owner_in}
use Rattle.plan.specs.Told as plan
use Rattle.plan.proofs.Once as plan-once
use Rattle.reservation.specs.declared.reservation.Reservation.{Reservation}
use Rattle.reservation.specs.declared.fault.CheckFault.{CheckFault}
use Rattle.reservation.specs.Reservations as reservations
use Rattle.reservation.specs.Told as check
use Rattle.reservation.proofs.Once as check-once
use Rattle.sheet.specs.declared.fault.SheetFault.{SheetFault}
use Rattle.sheet.specs.declared.fault.SheetFault.TheVariants.{Size, BlockCheck, Heading, EntryBlock, Plan, Check}
use Rattle.sheet.specs.Format.{block, blocks_for, in_block, ReservationAt, reservation_place, EntryAt, entry_place, IsHeading, IsEntryBlock}
use Rattle.sheet.specs.Told.{HasBlocks, AllChecked, FirstUnchecked, Headed, AllBlocks, FirstBroken, Holds, Refused, Told, no_memory}

-- two numbers of which neither is below the other
neither : (i j : ℕ) → (i < j → ⊥) → (j < i → ⊥) → i ≡ j
neither i j a b = omega (arith, a, b)

-- the bytes of a reservation or an entry are those of no other
reserve : ℕ → ℕ → ℕ → Reservation
reserve a t p = record { activity = a; ticks = t; period = p }

reserve_is : (r : Reservation) → r ≡ reserve r.activity r.ticks r.period
unfolding reserve
reserve_is r = refl

same_reservation : (s : List ℕ) (p : ℕ) (q r : Reservation) → ReservationAt s p q → ReservationAt s p r → q ≡ r
same_reservation s p q r v w =
    let a : q.activity ≡ r.activity = v.activity ∙ sym w.activity in
    let t : q.ticks ≡ r.ticks = v.ticks ∙ sym w.ticks in
    let y : q.period ≡ r.period = v.period ∙ sym w.period in
    let same : reserve q.activity q.ticks q.period ≡ reserve r.activity r.ticks r.period = cc (a, t, y) in
    reserve_is q ∙ same ∙ sym (reserve_is r)

enter : ℕ → ℕ → ℕ → ℕ → ℕ → Entry
enter a d p o l = record { activity = a; depth = d; path = p; offset = o; length = l }

enter_is : (e : Entry) → e ≡ enter e.activity e.depth e.path e.offset e.length
unfolding enter
enter_is e = refl

same_entry : (s : List ℕ) (p : ℕ) (e f : Entry) → EntryAt s p e → EntryAt s p f → e ≡ f
same_entry s p e f v w =
    let a : e.activity ≡ f.activity = v.activity ∙ sym w.activity in
    let d : e.depth ≡ f.depth = v.depth ∙ sym w.depth in
    let q : e.path ≡ f.path = v.path ∙ sym w.path in
    let o : e.offset ≡ f.offset = v.offset ∙ sym w.offset in
    let l : e.length ≡ f.length = v.length ∙ sym w.length in
    let same : enter e.activity e.depth e.path e.offset e.length ≡ enter f.activity f.depth f.path f.offset f.length = cc (a, d, q, o, l) in
    enter_is e ∙ same ∙ sym (enter_is f)

-- all that a sheet holds
abbrev Parts : Type 0
Parts = ℕ × ℕ × List Entry × List Reservation

abbrev parts : {s : List ℕ} → Holds s → Parts
parts h = (h.base, h.depth, h.entries, h.reservations)

same_reservations : (b : List ℕ) (base depth n base' depth' n' : ℕ) (rs qs : List Reservation) → IsHeading b base depth rs n → IsHeading b base' depth' qs n' → rs ≡ qs
same_reservations b base depth n base' depth' n' rs qs v w =
    let long : length rs ≡ length qs = sym v.reserved ∙ w.reserved in
    ext_get_or reservations.blank rs qs long
    (λ k l. same_reservation b (reservation_place k) (reservations.at rs k) (reservations.at qs k) (v.reservations k l) (w.reservations k (omega arith)))

pub holds_once : (s : List ℕ) (g h : Holds s) → parts g ≡ parts h
holds_once s g h =
    let v = g.sheet.heading in
    let w = h.sheet.heading in
    let b : g.base ≡ h.base = sym v.base_period ∙ w.base_period in
    let d : g.depth ≡ h.depth = sym v.depths ∙ w.depths in
    let long : length g.entries ≡ length h.entries = sym v.entered ∙ w.entered in
    let es : g.entries ≡ h.entries =
    ext_get_or entries.blank g.entries h.entries long
    (λ k l. same_entry s (entry_place k) (entries.at g.entries k) (entries.at h.entries k) (g.sheet.each k l) (h.sheet.each k (omega arith))) in
    let rs : g.reservations ≡ h.reservations = same_reservations _ _ _ _ _ _ _ g.reservations h.reservations v w in
    cc (b, d, es, rs)

-- what a sheet has by being one
has_blocks : (s : List ℕ) (h : Holds s) → HasBlocks s (blocks_for (length h.entries))
has_blocks s h = let m = h.sheet.most in (omega arith, omega arith, h.sheet.size)

headed_of : (s : List ℕ) (h : Holds s) → Headed (block s 0) (blocks_for (length h.entries))
headed_of s h =
    record { base = h.base; depth = h.depth; reservations = h.reservations; entries = length h.entries; heading = h.sheet.heading; fits = refl }

-- what shuts out what, of bytes with m blocks by one account and n by another
module _ (s : List ℕ) (m n : ℕ) (v : HasBlocks s m) (w : HasBlocks s n) where
  one_size : m ≡ n
  one_size = let p = v.2 in let q = w.2 in omega arith

  unchecked_not : (k : ℕ) → FirstUnchecked s m k → AllChecked s n → ⊥
  unchecked_not k f all = f.wrong (all k (let e = one_size in let l = f.within in omega arith))

  unheaded_not : (Headed (block s 0) m → ⊥) → Headed (block s 0) n → ⊥
  unheaded_not f h = f (subst (Headed (block s 0)) (sym one_size) h)

  broken_not : (i j k : ℕ) → i ≡ j → FirstBroken s i m k → AllBlocks s j n → ⊥
  broken_not i j k e f all =
      f.wrong (subst (λ x. IsEntryBlock (block s k) k (in_block x k)) (sym e) (all k f.least (let o = one_size in let l = f.within in omega arith)))

same_unchecked : (s : List ℕ) (m n j k : ℕ) → FirstUnchecked s m j → FirstUnchecked s n k → j ≡ k
same_unchecked s m n j k f g = neither j k (λ l. f.wrong (g.before j l)) (λ l. g.wrong (f.before k l))

same_broken : (s : List ℕ) (m n a b j k : ℕ) → a ≡ b → FirstBroken s a m j → FirstBroken s b n k → j ≡ k
same_broken s m n a b j k e f g =
    neither j k
    (λ l. f.wrong (subst (λ x. IsEntryBlock (block s j) j (in_block x j)) (sym e) (g.before j f.least l)))
    (λ l. g.wrong (subst (λ x. IsEntryBlock (block s k) k (in_block x k)) e (f.before k g.least l)))

same_headed : (b : List ℕ) (m n : ℕ) (g : Headed b m) (h : Headed b n) → g.entries ≡ h.entries
same_headed b m n g h = sym g.heading.entered ∙ h.heading.entered

-- the refusals of bytes that are no sheet
module _ (s : List ℕ) (h : Holds s) where
  size_held : Refused s Size → ⊥
  size_held p = p _ (has_blocks s h)

  check_held : (k : ℕ) → Refused s (BlockCheck k) → ⊥
  check_held k (n, v, f) = unchecked_not s n _ v (has_blocks s h) k f h.sheet.checked

  heading_held : Refused s Heading → ⊥
  heading_held (n, v, all, f) = unheaded_not s n _ v (has_blocks s h) f (headed_of s h)

  block_held : (k : ℕ) → Refused s (EntryBlock k) → ⊥
  block_held k (n, v, all, g, f) =
      broken_not s n _ v (has_blocks s h) g.entries (length h.entries) k (sym g.heading.entered ∙ h.sheet.heading.entered) f h.sheet.blocks

-- a plan's fault besides want of memory is a numbered one
named : (f : PlanFault) → (f ≡ Memory → ⊥) → plan.refusal {U = Unit {0}} (Err f) ≡ Some f
named Dimensions n = refl
named TooManyEntries n = refl
named (OutOfRange k) n = refl
named (Clash later earlier) n = refl
named Memory n = absurd (n refl)

module _ (b d : ℕ) (es : List Entry) where
  sound_fault : (f : PlanFault) → plan.Sound b d es → plan.Told {U = Unit {0}} b d es (Err f) → (f ≡ Memory → ⊥) → ⊥
  sound_fault f sound t n =
      let e : None ≡ Some f = plan-once.told_once {U = Unit {0}} b d es (Ok tt) (Err f) sound t ∙ named f n in
      let z : ◌≡◌ {A = ℕ} 0 1 = cc in
      omega arith

  one_fault : (f g : PlanFault) → plan.Told {U = Unit {0}} b d es (Err f) → plan.Told {U = Unit {0}} b d es (Err g) → (f ≡ Memory → ⊥) → (g ≡ Memory → ⊥) → f ≡ g
  one_fault f g t u m n =
      let e : Some f ≡ Some g = sym (named f m) ∙ plan-once.told_once {U = Unit {0}} b d es (Err f) (Err g) t u ∙ named g n in
      cc

-- what is said of what one account holds is said of what another holds
module _ (s : List ℕ) (g h : Holds s) where
  sound_at : plan.Sound g.base g.depth g.entries → plan.Sound h.base h.depth h.entries
  sound_at = subst (λ (p : Parts). plan.Sound p.0 p.1 p.2) (holds_once s g h)

  plan_at : (f : PlanFault) → plan.Told {U = Unit {0}} g.base g.depth g.entries (Err f) → plan.Told {U = Unit {0}} h.base h.depth h.entries (Err f)
  plan_at f = subst (λ (p : Parts). plan.Told {U = Unit {0}} p.0 p.1 p.2 (Err f)) (holds_once s g h)

  check_at : (r : Result (Unit {0}) CheckFault) → check.Told (owner_in g.base g.entries) (g.base * 2 ^ g.depth) g.reservations r → check.Told (owner_in h.base h.entries) (h.base * 2 ^ h.depth) h.reservations r
  check_at r = subst (λ (p : Parts). check.Told (owner_in p.0 p.2) (p.0 * 2 ^ p.1) p.3 r) (holds_once s g h)

  many_at : length g.reservations ≡ length h.reservations
  many_at = ap (λ (p : Parts). length p.3) (holds_once s g h)

  check_once_at : (q r : Result (Unit {0}) CheckFault) → check.Told (owner_in g.base g.entries) (g.base * 2 ^ g.depth) g.reservations q → check.Told (owner_in h.base h.entries) (h.base * 2 ^ h.depth) h.reservations r → q ≡ r
  check_once_at q r t u = check-once.told_once (owner_in h.base h.entries) (h.base * 2 ^ h.depth) h.reservations q r (check_at q t) u

  sound_not : (f : PlanFault) → plan.Sound g.base g.depth g.entries → plan.Told {U = Unit {0}} h.base h.depth h.entries (Err f) → (Err (Plan f) ≡ no_memory → ⊥) → ⊥
  sound_not f sound t n = sound_fault h.base h.depth h.entries f (sound_at sound) t (λ e. n (ap (λ x. Err (Plan x)) e))

-- passing and not passing
passed_not : (f : CheckFault) → ◌≡◌ {A = Result (Unit {0}) CheckFault} (Ok tt) (Err f) → ⊥
passed_not f e = let z : ◌≡◌ {A = ℕ} 0 1 = cc in omega arith

same_check : (f g : CheckFault) → ◌≡◌ {A = Result (Unit {0}) CheckFault} (Err f) (Err g) → f ≡ g
same_check f g e = cc

pub told_once : (s : List ℕ) (r q : Result ℕ SheetFault) → Told s r → Told s q → (r ≡ no_memory → ⊥) → (q ≡ no_memory → ⊥) → r ≡ q
told_once s (Ok m) (Ok n) p q x y = ap Ok (p.3 ∙ many_at s p.0 q.0 ∙ sym q.3)
told_once s (Ok m) (Err Size) p q x y = absurd (size_held s p.0 q)
told_once s (Ok m) (Err (BlockCheck k)) p q x y = absurd (check_held s p.0 k q)
told_once s (Ok m) (Err Heading) p q x y = absurd (heading_held s p.0 q)
told_once s (Ok m) (Err (EntryBlock k)) p q x y = absurd (block_held s p.0 k q)
told_once s (Ok m) (Err (Plan g)) p q x y = absurd (sound_not s p.0 q.0 g p.1 q.1 y)
told_once s (Ok m) (Err (Check g)) p q x y = absurd (passed_not g (check_once_at s p.0 q.0 (Ok tt) (Err g) p.2 q.2))
told_once s (Err Size) (Ok n) p q x y = absurd (size_held s q.0 p)
told_once s (Err Size) (Err Size) p q x y = refl
told_once s (Err Size) (Err (BlockCheck k)) p q x y = absurd (p _ q.1)
told_once s (Err Size) (Err Heading) p q x y = absurd (p _ q.1)
told_once s (Err Size) (Err (EntryBlock k)) p q x y = absurd (p _ q.1)
told_once s (Err Size) (Err (Plan g)) p q x y = absurd (size_held s q.0 p)
told_once s (Err Size) (Err (Check g)) p q x y = absurd (size_held s q.0 p)
told_once s (Err (BlockCheck j)) (Ok n) p q x y = absurd (check_held s q.0 j p)
told_once s (Err (BlockCheck j)) (Err Size) p q x y = absurd (q _ p.1)
told_once s (Err (BlockCheck j)) (Err (BlockCheck k)) p q x y = ap (λ e. Err (BlockCheck e)) (same_unchecked s _ _ j k p.2 q.2)
told_once s (Err (BlockCheck j)) (Err Heading) p q x y = absurd (unchecked_not s _ _ p.1 q.1 j p.2 q.2)
told_once s (Err (BlockCheck j)) (Err (EntryBlock k)) p q x y = absurd (unchecked_not s _ _ p.1 q.1 j p.2 q.2)
told_once s (Err (BlockCheck j)) (Err (Plan g)) p q x y = absurd (check_held s q.0 j p)
told_once s (Err (BlockCheck j)) (Err (Check g)) p q x y = absurd (check_held s q.0 j p)
told_once s (Err Heading) (Ok n) p q x y = absurd (heading_held s q.0 p)
told_once s (Err Heading) (Err Size) p q x y = absurd (q _ p.1)
told_once s (Err Heading) (Err (BlockCheck k)) p q x y = absurd (unchecked_not s _ _ q.1 p.1 k q.2 p.2)
told_once s (Err Heading) (Err Heading) p q x y = refl
told_once s (Err Heading) (Err (EntryBlock k)) p q x y = absurd (unheaded_not s _ _ p.1 q.1 p.3 q.3)
told_once s (Err Heading) (Err (Plan g)) p q x y = absurd (heading_held s q.0 p)
told_once s (Err Heading) (Err (Check g)) p q x y = absurd (heading_held s q.0 p)
told_once s (Err (EntryBlock j)) (Ok n) p q x y = absurd (block_held s q.0 j p)
told_once s (Err (EntryBlock j)) (Err Size) p q x y = absurd (q _ p.1)
told_once s (Err (EntryBlock j)) (Err (BlockCheck k)) p q x y = absurd (unchecked_not s _ _ q.1 p.1 k q.2 p.2)
told_once s (Err (EntryBlock j)) (Err Heading) p q x y = absurd (unheaded_not s _ _ q.1 p.1 q.3 p.3)
told_once s (Err (EntryBlock j)) (Err (EntryBlock k)) p q x y = ap (λ e. Err (EntryBlock e)) (same_broken s _ _ _ _ j k (same_headed _ _ _ p.3 q.3) p.4 q.4)
told_once s (Err (EntryBlock j)) (Err (Plan g)) p q x y = absurd (block_held s q.0 j p)
told_once s (Err (EntryBlock j)) (Err (Check g)) p q x y = absurd (block_held s q.0 j p)
told_once s (Err (Plan f)) (Ok n) p q x y = absurd (sound_not s q.0 p.0 f q.1 p.1 x)
told_once s (Err (Plan f)) (Err Size) p q x y = absurd (size_held s p.0 q)
told_once s (Err (Plan f)) (Err (BlockCheck k)) p q x y = absurd (check_held s p.0 k q)
told_once s (Err (Plan f)) (Err Heading) p q x y = absurd (heading_held s p.0 q)
told_once s (Err (Plan f)) (Err (EntryBlock k)) p q x y = absurd (block_held s p.0 k q)
told_once s (Err (Plan f)) (Err (Plan g)) p q x y = ap (λ e. Err (Plan e)) (one_fault _ _ _ f g (plan_at s p.0 q.0 f p.1) q.1 (λ e. x (ap (λ z. Err (Plan z)) e)) (λ e. y (ap (λ z. Err (Plan z)) e)))
told_once s (Err (Plan f)) (Err (Check g)) p q x y = absurd (sound_not s q.0 p.0 f q.1 p.1 x)
told_once s (Err (Check f)) (Ok n) p q x y = absurd (passed_not f (check_once_at s q.0 p.0 (Ok tt) (Err f) q.2 p.2))
told_once s (Err (Check f)) (Err Size) p q x y = absurd (size_held s p.0 q)
told_once s (Err (Check f)) (Err (BlockCheck k)) p q x y = absurd (check_held s p.0 k q)
told_once s (Err (Check f)) (Err Heading) p q x y = absurd (heading_held s p.0 q)
told_once s (Err (Check f)) (Err (EntryBlock k)) p q x y = absurd (block_held s p.0 k q)
told_once s (Err (Check f)) (Err (Plan g)) p q x y = absurd (sound_not s p.0 q.0 g p.1 q.1 y)
told_once s (Err (Check f)) (Err (Check g)) p q x y = ap (λ e. Err (Check e)) (same_check f g (check_once_at s p.0 q.0 (Err f) (Err g) p.2 q.2))
