-- The passes over a window: one counts own and free ticks, and the other marks the first of each.
use Rattle.std.specs.Prelude.{◌≡◌, ℕ, ◌-◌, ◌<◌, Bool, true, false, cond, ◌&&◌, ◌||◌, ◌⊎◌, ℤ, pos, ◌+ℤ◌, ◌≤ℤ◌, ◌-ℤ◌, ◌<ℤ◌, Some, None, Option, ◌==◌, nat_lt, unsigned_abs}
use Rattle.level.specs.declared.supply.Kind.{Kind}
use Rattle.level.specs.declared.supply.Kind.TheVariants.{Own, Free, Taken}
use Rattle.level.specs.declared.supply.Supply.{Supply}
use Rattle.level.specs.declared.constraint.Constraint.{Constraint}
use Rattle.level.specs.Ticks.{tally}
pub use Rattle.level.specs.Ticks.{one}

-- what a tick is to an activity, by its mark and its owner
abbrev pub kind_of : ℕ → Option ℕ → Option ℕ → Kind
kind_of a (Some s) o = Taken
kind_of a None None = Free
kind_of a None (Some b) = cond (b == a) Own Taken

abbrev pub is_own : Kind → Bool
is_own Own = true
is_own Free = false
is_own Taken = false

abbrev pub is_free : Kind → Bool
is_free Own = false
is_free Free = true
is_free Taken = false

-- the tick t is there to be marked, and is an own one, or a free one
abbrev pub own_at : (ℤ → Option ℕ) → (ℤ → Option ℕ) → ℕ → ℤ → Bool
own_at holder owner a t = is_own (kind_of a (holder t) (owner t))

abbrev pub free_at : (ℤ → Option ℕ) → (ℤ → Option ℕ) → ℕ → ℤ → Bool
free_at holder owner a t = is_free (kind_of a (holder t) (owner t))

-- the same of the k-th tick from the start
abbrev pub own_from : (ℤ → Option ℕ) → (ℤ → Option ℕ) → ℕ → ℤ → ℕ → Bool
own_from holder owner a start k = own_at holder owner a (start +ℤ pos k)

abbrev pub free_from : (ℤ → Option ℕ) → (ℤ → Option ℕ) → ℕ → ℤ → ℕ → Bool
free_from holder owner a start k = free_at holder owner a (start +ℤ pos k)

-- a window of 1024 ticks at most
abbrev pub Near : Constraint → Type 0
Near h = (h.start ≤ℤ h.deadline) × (h.deadline ≤ℤ (h.start +ℤ pos 1024))

-- whether one of a kind is still to be had
abbrev pub takes : ℕ → ℕ → Kind → Bool
takes own free Own = nat_lt 0 own
takes own free Free = nat_lt 0 free
takes own free Taken = false

-- k passes the test, and fewer than `many` below it do
abbrev pub picked : (ℕ → Bool) → ℕ → ℕ → Bool
picked p many k = p k && nat_lt (tally p k) many

-- after n ticks of the marking pass: the first `many` of p and the first `more` of q are marked, and so many may still be
pub record Passed (p q : ℕ → Bool) (start : ℤ) (n many more own free seat : ℕ) (before after : ℤ → Option ℕ) : Type 0 where
  pub here : (k : ℕ) → k < n → after (start +ℤ pos k) ≡ cond (picked p many k || picked q more k) (Some seat) (before (start +ℤ pos k))
  pub there : (c u : ℤ) → c ≤ℤ start → (start +ℤ pos n) ≤ℤ (c +ℤ pos 1024) → c ≤ℤ u → u <ℤ (c +ℤ pos 1024) → (u <ℤ start) ⊎ ((start +ℤ pos n) ≤ℤ u) → after u ≡ before u
  pub own_left : own ≡ many - tally p n
  pub free_left : free ≡ more - tally q n

-- after the whole pass over a constraint's window
abbrev pub MarkedFirst : (ℤ → Option ℕ) → ℕ → Constraint → Supply → (ℤ → Option ℕ) → (ℤ → Option ℕ) → Type 0
MarkedFirst owner seat h most before after =
    (own : ℕ) × (free : ℕ)
    × Passed (own_from before owner h.activity h.start) (free_from before owner h.activity h.start) h.start (unsigned_abs (h.deadline -ℤ h.start)) most.own most.free own free seat before after
