-- Filling a plan has one answer: what each says of the input shuts the others out.
use Rattle.std.proofs.Common.{◌≡◌, ℕ, ◌<◌, ◌≤◌, List, length, Some, Ok, Err, Result, sym, refl, ap, subst, arith}
use Rattle.plan.specs.declared.entry.Entry.{Entry}
use Rattle.plan.specs.declared.fault.PlanFault.{PlanFault}
use Rattle.plan.specs.declared.fault.PlanFault.TheVariants.{Dimensions, TooManyEntries, OutOfRange, Clash, Memory}
use Rattle.plan.specs.Entries.{NoClash, Clashing, at}
use Rattle.plan.specs.Told.{Ranged, FirstOutside, FirstClash, Told, refusal}

too_many : (es : List Entry) → 120 < length es → length es ≤ 120 → ⊥
too_many es h k = omega arith

not_ranged : (b d : ℕ) (es : List Entry) (k : ℕ) → FirstOutside b d es k → Ranged b d es (length es) → ⊥
not_ranged b d es k f h = f.outside (h k f.within)

not_apart : (es : List Entry) (j i : ℕ) → FirstClash es j i → NoClash es (length es) → ⊥
not_apart es j i f h = h j f.within i f.order f.clash

-- two numbers of which neither is below the other
neither : (i j : ℕ) → (i < j → ⊥) → (j < i → ⊥) → i ≡ j
neither i j a b = omega (arith, a, b)

same_outside : (b d : ℕ) (es : List Entry) (i j : ℕ) → FirstOutside b d es i → FirstOutside b d es j → i ≡ j
same_outside b d es i j f g = neither i j (λ l. f.outside (g.before i l)) (λ l. g.outside (f.before j l))

same_clash : (es : List Entry) (i h j k : ℕ) → FirstClash es i h → FirstClash es j k → (i ≡ j) × (h ≡ k)
same_clash es i h j k f g =
    let e : i ≡ j = neither i j (λ l. g.no_sooner i l h f.order f.clash) (λ l. f.no_sooner j l k g.order g.clash) in
    let fc : Clashing (at es h) (at es j) = subst (λ (n : ℕ). Clashing (at es h) (at es n)) e f.clash in
    let gc : Clashing (at es k) (at es i) = subst (λ (n : ℕ). Clashing (at es k) (at es n)) (sym e) g.clash in
    (e, neither h k (λ l. g.no_earlier h l fc) (λ l. f.no_earlier k l gc))

pub told_once : {U : Type 0} (b d : ℕ) (es : List Entry) (r s : Result U PlanFault) → Told b d es r → Told b d es s → refusal r ≡ refusal s
told_once b d es (Ok u) (Ok v) p q = refl
told_once b d es (Ok u) (Err Dimensions) p q = absurd (q p.shaped)
told_once b d es (Ok u) (Err TooManyEntries) p q = absurd (too_many es q.1 p.few)
told_once b d es (Ok u) (Err (OutOfRange j)) p q = absurd (not_ranged b d es _ q.2 p.ranged)
told_once b d es (Ok u) (Err (Clash j k)) p q = absurd (not_apart es _ _ q.3 p.apart)
told_once b d es (Ok u) (Err Memory) p q = refl
told_once b d es (Err Dimensions) (Ok v) p q = absurd (p q.shaped)
told_once b d es (Err Dimensions) (Err Dimensions) p q = refl
told_once b d es (Err Dimensions) (Err TooManyEntries) p q = absurd (p q.0)
told_once b d es (Err Dimensions) (Err (OutOfRange j)) p q = absurd (p q.0)
told_once b d es (Err Dimensions) (Err (Clash j k)) p q = absurd (p q.0)
told_once b d es (Err Dimensions) (Err Memory) p q = absurd (p q.shaped)
told_once b d es (Err TooManyEntries) (Ok v) p q = absurd (too_many es p.1 q.few)
told_once b d es (Err TooManyEntries) (Err Dimensions) p q = absurd (q p.0)
told_once b d es (Err TooManyEntries) (Err TooManyEntries) p q = refl
told_once b d es (Err TooManyEntries) (Err (OutOfRange j)) p q = absurd (too_many es p.1 q.1)
told_once b d es (Err TooManyEntries) (Err (Clash j k)) p q = absurd (too_many es p.1 q.1)
told_once b d es (Err TooManyEntries) (Err Memory) p q = absurd (too_many es p.1 q.few)
told_once b d es (Err (OutOfRange i)) (Ok v) p q = absurd (not_ranged b d es _ p.2 q.ranged)
told_once b d es (Err (OutOfRange i)) (Err Dimensions) p q = absurd (q p.0)
told_once b d es (Err (OutOfRange i)) (Err TooManyEntries) p q = absurd (too_many es q.1 p.1)
told_once b d es (Err (OutOfRange i)) (Err (OutOfRange j)) p q = ap (λ n. Some (OutOfRange n)) (same_outside b d es i j p.2 q.2)
told_once b d es (Err (OutOfRange i)) (Err (Clash j k)) p q = absurd (not_ranged b d es _ p.2 q.2)
told_once b d es (Err (OutOfRange i)) (Err Memory) p q = absurd (not_ranged b d es _ p.2 q.ranged)
told_once b d es (Err (Clash i h)) (Ok v) p q = absurd (not_apart es _ _ p.3 q.apart)
told_once b d es (Err (Clash i h)) (Err Dimensions) p q = absurd (q p.0)
told_once b d es (Err (Clash i h)) (Err TooManyEntries) p q = absurd (too_many es q.1 p.1)
told_once b d es (Err (Clash i h)) (Err (OutOfRange j)) p q = absurd (not_ranged b d es _ q.2 p.2)
told_once b d es (Err (Clash i h)) (Err (Clash j k)) p q = let e = same_clash es i h j k p.3 q.3 in let e0 = e.0 in let e1 = e.1 in cc
told_once b d es (Err (Clash i h)) (Err Memory) p q = absurd (not_apart es _ _ p.3 q.apart)
told_once b d es (Err Memory) (Ok v) p q = refl
told_once b d es (Err Memory) (Err Dimensions) p q = absurd (q p.shaped)
told_once b d es (Err Memory) (Err TooManyEntries) p q = absurd (too_many es q.1 p.few)
told_once b d es (Err Memory) (Err (OutOfRange j)) p q = absurd (not_ranged b d es _ q.2 p.ranged)
told_once b d es (Err Memory) (Err (Clash j k)) p q = absurd (not_apart es _ _ q.3 p.apart)
told_once b d es (Err Memory) (Err Memory) p q = refl
