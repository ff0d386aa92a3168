-- Two entries clash exactly when they own a tick in common; so where none clash a tick has one owner.
use Rattle.std.proofs.Common.{◌≡◌, ℕ, zero, suc, ◌+◌, ◌*◌, ◌/◌, ◌%◌, ◌^◌, ◌<◌, ◌≤◌, min, max, Bool, true, false, cond, ◌&&◌, eqb, ltb, leb, ◌⊎◌, List, [], ◌∷◌, length, get_or, ℤ, pos, Some, None, Option, sym, refl, ap, ◌∙◌, subst, inl, inr, ⊎_elim, mod-eq_of_lt, arith}
use Rattle.std.proofs.lemmas.Nat.{div-mul-add, mod-mul-add}
use Rattle.std.proofs.lemmas.Bool.{and_parts, and_from, eqb-true, eq-eqb, leb-true, le-leb, ltb-true, lt-ltb, both_ways, cases_order}
use Rattle.std.specs.List.{ContainsAt as Has}
use Rattle.clock.specs.Floor.{floor_div, floor_mod}
use Rattle.plan.specs.declared.entry.Entry.{Entry}
use Rattle.plan.specs.Entries.{InRange, Owns, owns, Clashing, NoClash, at, blank}
use Rattle.plan.specs.Owners.{OwnedBy, owner_in}
use Rattle.plan.specs.Laws.{shallower}

-- the test says what it tests
pub owns_true : (b : ℕ) (e : Entry) (t : ℤ) → owns b e t ≡ true → Owns b e t
owns_true b e t h =
    let p = and_parts (leb e.offset (floor_mod t b)) (ltb (floor_mod t b) (e.offset + e.length) && eqb (floor_mod (floor_div t b) (2 ^ e.depth)) e.path) h in
    let q = and_parts (ltb (floor_mod t b) (e.offset + e.length)) (eqb (floor_mod (floor_div t b) (2 ^ e.depth)) e.path) p.1 in
    record {
      from = leb-true e.offset (floor_mod t b) p.0;
      until = ltb-true (floor_mod t b) (e.offset + e.length) q.0;
      on_path = eqb-true (floor_mod (floor_div t b) (2 ^ e.depth)) e.path q.1;
    }

pub owns_from : (b : ℕ) (e : Entry) (t : ℤ) → Owns b e t → owns b e t ≡ true
owns_from b e t w =
    and_from (leb e.offset (floor_mod t b)) (ltb (floor_mod t b) (e.offset + e.length) && eqb (floor_mod (floor_div t b) (2 ^ e.depth)) e.path)
    (le-leb e.offset (floor_mod t b) w.from)
    (and_from (ltb (floor_mod t b) (e.offset + e.length)) (eqb (floor_mod (floor_div t b) (2 ^ e.depth)) e.path)
    (lt-ltb (floor_mod t b) (e.offset + e.length) w.until)
    (eq-eqb (floor_mod (floor_div t b) (2 ^ e.depth)) e.path w.on_path))

-- a tick that both own makes them clash
path_at : (b : ℕ) (e : Entry) (t : ℤ) (k : ℕ) → Owns b e t → k ≤ e.depth → e.path % 2 ^ k ≡ floor_mod (floor_div t b) (2 ^ k)
path_at b e t k w h = ap (λ x. x % 2 ^ k) (sym w.on_path) ∙ shallower (floor_div t b) e.depth k h

pub shared_clash : (b : ℕ) (x y : Entry) (t : ℤ) → Owns b x t → Owns b y t → Clashing x y
shared_clash b x y t v w =
    let xf = v.from in
    let xu = v.until in
    let yf = w.from in
    let yu = w.until in (
      path_at b x t (min x.depth y.depth) v (omega arith) ∙ sym (path_at b y t (min x.depth y.depth) w (omega arith)),
      omega arith,
      omega arith,
    )

-- two that clash own this tick: at the later of their offsets, in the frame of the deeper one's path
at_tick : (b f o : ℕ) (e : Entry) → o < b → e.offset ≤ o → o < e.offset + e.length → f % 2 ^ e.depth ≡ e.path → Owns b e (pos (f * b + o))
at_tick b f o e h low high p =
    let q : (f * b + o) / b ≡ f = div-mul-add f b o h in
    let r : (f * b + o) % b ≡ o = mod-mul-add f b o h in
    record { from = omega arith; until = omega arith; on_path = ap (λ x. x % 2 ^ e.depth) q ∙ p }

shares : (b d : ℕ) (x y : Entry) → InRange b d x → InRange b d y → Clashing x y → x.depth ≤ y.depth → (t : ℤ) × Owns b x t × Owns b y t
shares b d x y v w c h =
    let o = max x.offset y.offset in
    let low : max x.offset y.offset < b = omega (arith, v.4, w.4, v.3, w.3) in
    let xo : max x.offset y.offset < x.offset + x.length = omega (arith, c.2, v.3) in
    let yo : max x.offset y.offset < y.offset + y.length = omega (arith, c.1, w.3) in
    let m : min x.depth y.depth ≡ x.depth = omega arith in
    let agree : y.path % 2 ^ x.depth ≡ x.path % 2 ^ x.depth = sym (subst (λ (k : ℕ). x.path % 2 ^ k ≡ y.path % 2 ^ k) m c.0) in (
      pos (y.path * b + o),
      at_tick b y.path o x low (omega arith) xo (agree ∙ mod-eq_of_lt v.2),
      at_tick b y.path o y low (omega arith) yo (mod-eq_of_lt w.2),
    )

turned : (x y : Entry) → Clashing x y → Clashing y x
turned x y c =
    let m : min y.depth x.depth ≡ min x.depth y.depth = omega arith in
    (subst (λ (k : ℕ). y.path % 2 ^ k ≡ x.path % 2 ^ k) (sym m) (sym c.0), c.2, c.1)

pub clash_shares : (b d : ℕ) (x y : Entry) → InRange b d x → InRange b d y → Clashing x y → (t : ℤ) × Owns b x t × Owns b y t
clash_shares b d x y v w c = ⊎_elim (λ l. shares b d x y v w c l) (λ l. let s = shares b d y x w v (turned x y c) l in (s.0, s.2, s.1)) (either x.depth y.depth)
  where
    either : (m n : ℕ) → (m ≤ n) ⊎ (n ≤ m)
    either m n = ⊎_elim (λ e. inl (omega arith)) (λ h. ⊎_elim (λ l. inl (omega arith)) (λ l. inr (omega arith)) h) (cases_order m n)

-- the owner as a function is an owner as the relation has it
later : (b : ℕ) (e : Entry) (es : List Entry) (t : ℤ) (o : Option ℕ) → owns b e t ≡ false → OwnedBy b es t o → OwnedBy b (e ∷ es) t o
later b e es t (Some a) q (x, h, w, r) = (x, (suc h.0, omega (arith, h.1), h.2), w, r)
later b e es t None q none = λ x h w. other x h.0 h.1 h.2 w
  where
    other : (x : Entry) (k : ℕ) → k < length (e ∷ es) → ((y : Entry) → get_or (e ∷ es) k y ≡ x) → Owns b x t → ⊥
    other x zero l same w = both_ways (owns b e t) q (owns_from b e t (subst (λ y. Owns b y t) (sym (same x)) w))
    other x (suc k) l same w = none x (k, omega arith, same) w

first : (b : ℕ) (e : Entry) (es : List Entry) (t : ℤ) (o : Option ℕ) (x : Bool) → owns b e t ≡ x → OwnedBy b es t o → OwnedBy b (e ∷ es) t (cond x (Some e.activity) o)
first b e es t o true q w = (e, (0, omega arith, λ d. refl), owns_true b e t q, refl)
first b e es t o false q w = later b e es t o q w

pub owned_is : (b : ℕ) (es : List Entry) (t : ℤ) → OwnedBy b es t (owner_in b es t)
owned_is b [] t = λ e h w. absurd (omega (arith, h.1))
owned_is b (e ∷ es) t = first b e es t (owner_in b es t) (owns b e t) refl (owned_is b es t)

-- and no tick has two
pub one_owner : (b : ℕ) (es : List Entry) (t : ℤ) → NoClash es (length es) → (o p : Option ℕ) → OwnedBy b es t o → OwnedBy b es t p → o ≡ p
one_owner b es t apart None None v w = refl
one_owner b es t apart None (Some a) v w = absurd (v w.0 w.1 w.2)
one_owner b es t apart (Some a) None v w = absurd (w v.0 v.1 v.2)
one_owner b es t apart (Some a) (Some c) (x, h, v, p) (y, k, w, q) =
    ap Some (sym p ∙ ⊎_elim same (λ l. absurd (⊎_elim (before x y h k v w) (before y x k h w v) l)) (cases_order h.0 k.0) ∙ q)
  where
    same : h.0 ≡ k.0 → x.activity ≡ y.activity
    same e = ap (λ z. z.activity) (sym (h.2 blank) ∙ ap (λ i. get_or es i blank) e ∙ k.2 blank)

    before : (x y : Entry) (h : Has es x) (k : Has es y) → Owns b x t → Owns b y t → h.0 < k.0 → ⊥
    before x y h k v w l =
        apart k.0 k.1 h.0 l
        (subst (λ z. Clashing z (at es k.0)) (sym (h.2 blank)) (subst (λ z. Clashing x z) (sym (k.2 blank)) (shared_clash b x y t v w)))
