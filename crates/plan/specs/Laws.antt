-- Why a plan is a timetable: its owners repeat after the cycle, and are known activities.
use Rattle.std.specs.Prelude.{◌≡◌, ℕ, ◌+◌, ◌-◌, ◌*◌, ◌%◌, ◌^◌, ◌<◌, ◌≤◌, Bool, true, false, cond, List, [], ◌∷◌, length, find, ℤ, pos, ◌+ℤ◌, Some, Option, refl}
use Rattle.std.specs.Option.{option_map}
use Rattle.std.proofs.Common.{pow_mono, ap, ◌∙◌, mul_comm, arith}
use Rattle.std.proofs.lemmas.Nat.{pow_pos, pow-add, mul-le}
use Rattle.std.proofs.ByRecursion.{All-from_get_or}
use Rattle.std.specs.List.{AllByRecursion}
use Rattle.clock.proofs.Laws.{floor_mod_more, floor_div_more, floor_mod-mod, lies_once}
use Rattle.clock.specs.Floor.{floor_div, floor_mod, Lies}
use Rattle.timetable.specs.Owners.{Known}
use Rattle.plan.specs.declared.entry.Entry.{Entry}
use Rattle.plan.specs.Entries.{InRange, owns, covers, blank}
use Rattle.plan.specs.Owners.{owner_in}
use Rattle.plan.specs.Told.{Ranged}

pub cycle_least : (b d : ℕ) → 1 ≤ b → 1 ≤ b * 2 ^ d
cycle_least b d h = omega (arith, mul-le 1 1 b (2 ^ d) h (pow_pos d))

pub cycle_most : (b d : ℕ) → b ≤ 64 → d ≤ 5 → b * 2 ^ d ≤ 2048
cycle_most b d h k = omega (arith, mul-le b (2 ^ d) 64 (2 ^ 5) h (pow_mono k))

pub all_ranged : (b d : ℕ) (es : List Entry) → Ranged b d es (length es) → AllByRecursion (InRange b d) es
all_ranged b d es h = All-from_get_or (InRange b d) es blank h

-- 2 to the depth of a plan, by 2 to the depth of an entry
pub deeper : (d k : ℕ) → k ≤ d → 2 ^ d ≡ 2 ^ (d - k) * 2 ^ k
deeper d k h = let s : d ≡ (d - k) + k = omega arith in ap (λ x. 2 ^ x) s ∙ pow-add 2 (d - k) k

-- a residue at a depth tells that at each smaller one
pub shallower : (f : ℤ) (d k : ℕ) → k ≤ d → floor_mod f (2 ^ d) % 2 ^ k ≡ floor_mod f (2 ^ k)
shallower f d k h =
    ap (λ x. floor_mod f x % 2 ^ k) (deeper d k h) ∙ floor_mod-mod f (2 ^ (d - k)) (2 ^ k) (pow_pos (d - k)) (pow_pos k)

-- a cycle later the frame is another, on the same path, and the offset is the same
frame_again : (t : ℤ) (b d k : ℕ) → 0 < b → k ≤ d → floor_mod (floor_div (t +ℤ pos (b * 2 ^ d)) b) (2 ^ k) ≡ floor_mod (floor_div t b) (2 ^ k)
frame_again t b d k h l =
    ap (λ x. floor_mod (floor_div (t +ℤ pos x) b) (2 ^ k)) (mul_comm b (2 ^ d))
    ∙ ap (λ x. floor_mod x (2 ^ k)) (floor_div_more t (2 ^ d) b h)
    ∙ ap (λ x. floor_mod (floor_div t b +ℤ pos x) (2 ^ k)) (deeper d k l)
    ∙ floor_mod_more (floor_div t b) (2 ^ (d - k)) (2 ^ k) (pow_pos k)

offset_again : (t : ℤ) (b d : ℕ) → 0 < b → floor_mod (t +ℤ pos (b * 2 ^ d)) b ≡ floor_mod t b
offset_again t b d h = ap (λ x. floor_mod (t +ℤ pos x) b) (mul_comm b (2 ^ d)) ∙ floor_mod_more t (2 ^ d) b h

pub owner_again : (t : ℤ) (b d : ℕ) → 0 < b → (es : List Entry) → AllByRecursion (InRange b d) es → owner_in b es (t +ℤ pos (b * 2 ^ d)) ≡ owner_in b es t
owner_again t b d h [] w = refl
owner_again t b d h (e ∷ es) w =
    let f = frame_again t b d e.depth h w.0.1 in
    let o = offset_again t b d h in
    let r = owner_again t b d h es w.1 in
    cc

chosen_known : (x : Bool) (a : ℕ) (o : Option ℕ) → a ≤ 15 → Known o → Known (cond x (Some a) o)
chosen_known true a o h k = omega arith
chosen_known false a o h k = k

pub owner_known : (b d : ℕ) (t : ℤ) (es : List Entry) → AllByRecursion (InRange b d) es → Known (owner_in b es t)
owner_known b d t [] w = tt
owner_known b d t (e ∷ es) w = chosen_known (owns b e t) e.activity (owner_in b es t) w.0.0 (owner_known b d t es w.1)

-- both for the entries of a plan, which are in range one by one
pub owner_repeats : (t : ℤ) (b d : ℕ) (es : List Entry) → 1 ≤ b → Ranged b d es (length es) → owner_in b es (t +ℤ pos (b * 2 ^ d)) ≡ owner_in b es t
owner_repeats t b d es some w = owner_again t b d some es (all_ranged b d es w)

pub owner_stays_known : (t : ℤ) (b d : ℕ) (es : List Entry) → Ranged b d es (length es) → Known (owner_in b es t)
owner_stays_known t b d es w = owner_known b d t es (all_ranged b d es w)

-- where a tick lies, as the search asks for it: its frame's residue at the depth of the plan, and its offset
pub record Sought (b d : ℕ) (t : ℤ) (n o : ℕ) : Type 0 where
  pub residue : n ≡ floor_mod (floor_div t b) (2 ^ d)
  pub offset : o ≡ floor_mod t b

pub sought : (b d : ℕ) {t f g : ℤ} {n o : ℕ} → Lies t b f o → g ≡ f → n ≡ floor_mod g (2 ^ d) → Sought b d t n o
sought b d {t} {f} {g} {n} {o} l p r =
    let once = lies_once t b f o l in
    record { residue = r ∙ ap (λ x. floor_mod x (2 ^ d)) (p ∙ once.0); offset = once.1 }

covers_owns : (b d : ℕ) (e : Entry) {t : ℤ} {n o : ℕ} → Sought b d t n o → e.depth ≤ d → covers e n o ≡ owns b e t
covers_owns b d e {t} {n} {o} s h =
    let f : n % 2 ^ e.depth ≡ floor_mod (floor_div t b) (2 ^ e.depth) =
    ap (λ x. x % 2 ^ e.depth) s.residue ∙ shallower (floor_div t b) d e.depth h in
    let q = s.offset in
    cc

-- the first entry that covers the place is the one that the owner is read from
activity_of : (x : Bool) (e : Entry) (o : Option Entry) → option_map (λ e. e.activity) (cond x (Some e) o) ≡ cond x (Some e.activity) (option_map (λ e. e.activity) o)
activity_of true e o = refl
activity_of false e o = refl

cover_among : (b d : ℕ) {t : ℤ} {n o : ℕ} → Sought b d t n o → (es : List Entry) → AllByRecursion (InRange b d) es → option_map (λ e. e.activity) (find (λ e. covers e n o) es) ≡ owner_in b es t
cover_among b d s [] w = refl
cover_among b d {t} {n} {o} s (e ∷ es) w =
    let h = covers_owns b d e s w.0.1 in
    let r = cover_among b d s es w.1 in
    activity_of (covers e n o) e (find (λ e. covers e n o) es) ∙ cc

pub cover_owner : (b d : ℕ) {t : ℤ} {n o : ℕ} (es : List Entry) → Sought b d t n o → Ranged b d es (length es) → option_map (λ e. e.activity) (find (λ e. covers e n o) es) ≡ owner_in b es t
cover_owner b d es s w = cover_among b d s es (all_ranged b d es w)
