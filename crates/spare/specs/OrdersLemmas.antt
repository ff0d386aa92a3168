-- Lists of activities: who stands first, and what moving one to the end does to the places of the others.
use Rattle.std.specs.Prelude.{◌≡◌, ℕ, zero, suc, ◌+◌, ◌-◌, ◌<◌, ◌≤◌, Bool, true, false, ◌||◌, not, cond, Decides, List, [], ◌∷◌, ◌++◌, length, take, drop, Some, None, ◌==◌, ◌≢◌, slice_index, slice_index_or, slice_range, refl}
use borrow.Rule.Slice.PartMut.{put_mid, post_of}
use Rattle.std.proofs.Common.{⊎_elim, sym, ap, subst, ◌∙◌, arith}
use Rattle.std.proofs.lemmas.List.{take_all, drop_all, length-take, length-drop, append-nil, take-append-drop, get_or-take, get_or_append_left, get_or-append_right, get_or_push, length-append}
use Rattle.std.proofs.lemmas.Bool.{eqb-true, eq-eqb, cases_order, cases_lt, both_ways}
use Rattle.std.specs.List.{list_any}
use Rattle.std.proofs.lemmas.List.Folds.{list_any_at}
use Rattle.std.proofs.lemmas.List.Sums.{position_or_len_is, fails_before_first, passes_at_first}
use Rattle.spare.specs.Orders.{first_ready, sent_back, passed_over, place_of, times}
use Rattle.spare.specs.Search.{moved, NoneIn, FirstAt}

-- turning the rest of the array by one
pub rotated : (xs : List ℕ) (i : ℕ) (ys : List ℕ) → length xs ≡ 16 → i < 16 → ys ≡ drop 1 (slice_range xs i 16) ++ take 1 (slice_range xs i 16) → put_mid i (16 - i) xs ys ≡ moved xs i
rotated xs i ys n l e =
    let mid : take (16 - i) (drop i xs) ≡ drop i xs = take_all (16 - i) (drop i xs) (omega (arith, length-drop i xs)) in
    let back : ys ≡ drop 1 (drop i xs) ++ take 1 (drop i xs) = e ∙ ap (λ m. drop 1 m ++ take 1 m) mid in
    let post : post_of i (16 - i) xs ≡ [] = drop_all (16 - i) (drop i xs) (omega (arith, length-drop i xs)) in
    ap (λ p. take i xs ++ (ys ++ p)) post ∙ ap (λ p. take i xs ++ p) (append-nil ys) ∙ ap (λ p. take i xs ++ p) back

-- the one that is sought stands at its place
pub at_place : (b : ℕ) (xs : List ℕ) → place_of b xs < length xs → slice_index xs (place_of b xs) ≡ b
at_place b xs h = eqb-true _ b (passes_at_first (λ x. x == b) xs 0 h)

-- and no later than any place where it stands
pub place_le : (b : ℕ) (xs : List ℕ) (k : ℕ) → slice_index xs k ≡ b → place_of b xs ≤ k
place_le b xs k e =
    ⊎_elim (λ lt. absurd (both_ways _ (fails_before_first (λ x. x == b) xs k 0 lt) (eq-eqb _ b e))) (λ le. le) (cases_lt k (place_of b xs))

-- one that stands there at all has a place
placed : (t : Bool) (n p k : ℕ) → 1 ≤ cond t (suc n) n → (1 ≤ n → p < k) → cond (not t) (1 + p) 0 < suc k
placed true n p k h rest = omega arith
placed false n p k h rest = let r : p < k = rest h in omega arith

pub has_place : (a : ℕ) (xs : List ℕ) → 1 ≤ times a xs → place_of a xs < length xs
has_place a [] h = absurd (omega arith)
has_place a (x ∷ xs) h = placed (x == a) (times a xs) (place_of a xs) (length xs) h (has_place a xs)

-- a search for one tells whether it stands there
told_first : (t u : Bool) (n : ℕ) → Decides u (1 ≤ n) → Decides (t || u) (1 ≤ cond t (suc n) n)
told_first true u n h = (λ _. omega arith, λ _. refl)
told_first false u n h = h

pub times_any : (a : ℕ) (xs : List ℕ) → Decides (list_any (λ x. x == a) xs) (1 ≤ times a xs)
times_any a [] = (λ e. absurd (both_ways false refl e), λ h. absurd (omega arith))
times_any a (x ∷ xs) = told_first (x == a) (list_any (λ y. y == a) xs) (times a xs) (times_any a xs)

-- one that stands at some place stands there at all
pub stands_there : (a : ℕ) (xs : List ℕ) (k : ℕ) → k < length xs → slice_index xs k ≡ a → 1 ≤ times a xs
stands_there a xs k h e = (times_any a xs).0 (list_any_at (λ x. x == a) xs k 0 h (eq-eqb _ a e))

-- how often one stands in two lists together
one_more : (t : Bool) (m n : ℕ) → cond t (suc (m + n)) (m + n) ≡ cond t (suc m) m + n
one_more true m n = omega arith
one_more false m n = refl

pub times_append : (a : ℕ) (xs ys : List ℕ) → times a (xs ++ ys) ≡ times a xs + times a ys
times_append a [] ys = omega arith
times_append a (x ∷ xs) ys = ap (λ n. cond (x == a) (suc n) n) (times_append a xs ys) ∙ one_more (x == a) (times a xs) (times a ys)

-- what stands where after the move
pub length_moved : (xs : List ℕ) (i : ℕ) → length (moved xs i) ≡ length xs
length_moved xs i = simp (length-append, length-take, length-drop) (omega arith)

pub times_moved : (a : ℕ) (xs : List ℕ) (i : ℕ) → times a (moved xs i) ≡ times a xs
times_moved a xs i =
    let ys = drop i xs in
    let parts = times_append a (take i xs) (drop 1 ys ++ take 1 ys) in
    let turned = times_append a (drop 1 ys) (take 1 ys) in
    let rest : times a (take 1 ys) + times a (drop 1 ys) ≡ times a ys = sym (times_append a (take 1 ys) (drop 1 ys)) ∙ ap (times a) (take-append-drop 1 ys) in
    let whole : times a (take i xs) + times a ys ≡ times a xs = sym (times_append a (take i xs) ys) ∙ ap (times a) (take-append-drop i xs) in
    omega arith

pub moved_below : (xs : List ℕ) (i k : ℕ) → k < i → i < length xs → slice_index (moved xs i) k ≡ slice_index xs k
moved_below xs i k h l =
    get_or_append_left (take i xs) (drop 1 (drop i xs) ++ take 1 (drop i xs)) 0 k (omega (arith, length-take i xs)) ∙ get_or-take i xs k 0 h

pub moved_above : (xs : List ℕ) (i k : ℕ) → i ≤ k → suc k < length xs → slice_index (moved xs i) k ≡ slice_index xs (suc k)
moved_above [] i k h l = absurd (omega arith)
moved_above (x ∷ xs) zero k h l = get_or_append_left xs (x ∷ []) 0 k (omega arith)
moved_above (x ∷ xs) (suc i) zero h l = absurd (omega arith)
moved_above (x ∷ xs) (suc i) (suc k) h l = moved_above xs i k (omega arith) (omega arith)

pub moved_last : (xs : List ℕ) (i n : ℕ) → i < length xs → suc n ≡ length xs → slice_index (moved xs i) n ≡ slice_index xs i
moved_last [] i n h e = absurd (omega arith)
moved_last (x ∷ xs) zero n h e = get_or_push xs x 0 n (omega arith)
moved_last (x ∷ xs) (suc i) zero h e = absurd (omega arith)
moved_last (x ∷ xs) (suc i) (suc n) h e = moved_last xs i n (omega arith) (omega arith)

-- what holds of everybody in the order holds after the move
pub all_moved : (P : ℕ → Type 0) (xs : List ℕ) (i : ℕ) → length xs ≡ 16 → i < 16 → ((j : ℕ) → j < 16 → P (slice_index xs j)) → (k : ℕ) → k < 16 → P (slice_index (moved xs i) k)
all_moved P xs i n l p k h =
    ⊎_elim (λ lt. subst P (sym (moved_below xs i k lt (omega arith))) (p k h))
    (λ ge. ⊎_elim (λ lt. subst P (sym (moved_above xs i k ge (omega arith))) (p (suc k) lt))
    (λ top. subst P (sym (moved_last xs i k (omega arith) (omega arith))) (p i l)) (cases_lt (suc k) 16))
    (cases_lt k i)

-- one that stood after i comes one nearer
nearer : (xs : List ℕ) (i b : ℕ) → i < place_of b xs → place_of b xs < length xs → place_of b (moved xs i) < place_of b xs
nearer xs i b l h =
    let k = place_of b xs - 1 in
    let up : suc k ≡ place_of b xs = omega arith in
    let stands : slice_index_or xs (suc k) 0 ≡ b = ap (λ j. slice_index xs j) up ∙ at_place b xs h in
    let e : slice_index_or (moved xs i) k 0 ≡ b = moved_above xs i k (omega arith) (omega arith) ∙ stands in
    omega (arith, place_le b (moved xs i) k e)

-- where nobody before i is ready, a ready one that does not stand at i stands after it
pub stands_after : (ready : ℕ → Bool) (xs : List ℕ) (i b : ℕ) → ((k : ℕ) → k < i → ready (slice_index xs k) ≡ false) → place_of b xs < length xs → ready b ≡ true → (b ≢ slice_index xs i) → i < place_of b xs
stands_after ready xs i b before q r other =
    let stands = at_place b xs q in
    ⊎_elim (λ same. absurd (other (sym stands ∙ ap (λ j. slice_index xs j) same)))
    (⊎_elim (λ lt. absurd (both_ways (ready b) (sym (ap ready stands) ∙ before (place_of b xs) lt) r)) (λ gt. gt))
    (cases_order (place_of b xs) i)

-- so it comes nearer whoever up to i goes to the end
pub comes_nearer : (ready : ℕ → Bool) (xs : List ℕ) (i j b : ℕ) → j ≤ i → ((k : ℕ) → k < i → ready (slice_index xs k) ≡ false) → place_of b xs < length xs → ready b ≡ true → (b ≢ slice_index xs i) → place_of b (moved xs j) < place_of b xs
comes_nearer ready xs i j b h before q r other =
    let after = stands_after ready xs i b before q r other in
    nearer xs j b (omega arith) q

pub none_ready : (ready : ℕ → Bool) (xs : List ℕ) → NoneIn ready xs → (a : ℕ) → place_of a xs < length xs → ready a ≡ false
none_ready ready xs before a q = sym (ap ready (at_place a xs q)) ∙ before (place_of a xs) q

-- a search through two lists, one after the other
module _ (ready : ℕ → Bool) (xs ys : List ℕ) where
  pub first_left : (i : ℕ) → FirstAt ready xs i → FirstAt ready (xs ++ ys) i
  first_left i f = record {
    within = omega (arith, f.within, length-append xs ys);
    here = ap ready (get_or_append_left xs ys 0 i f.within) ∙ f.here;
    before = λ k lt. ap ready (get_or_append_left xs ys 0 k (omega (arith, f.within))) ∙ f.before k lt;
  }

  pub none_both : NoneIn ready xs → NoneIn ready ys → NoneIn ready (xs ++ ys)
  none_both h g k lt =
      ⊎_elim (λ below. ap ready (get_or_append_left xs ys 0 k below) ∙ h k below)
      (λ past. ap ready (get_or-append_right xs ys (length xs) k 0 refl past) ∙ g (k - length xs) (omega (arith, length-append xs ys)))
      (cases_lt k (length xs))

  pub first_right : (i : ℕ) → NoneIn ready xs → FirstAt ready ys i → FirstAt ready (xs ++ ys) (length xs + i)
  first_right i h f = record {
    within = omega (arith, f.within, length-append xs ys);
    here = ap ready (get_or-append_right xs ys (length xs) (length xs + i) 0 refl (omega arith)) ∙ ap (λ k. ready (slice_index ys k)) (omega arith) ∙ f.here;
    before = λ k lt. ⊎_elim (λ below. ap ready (get_or_append_left xs ys 0 k below) ∙ h k below)
        (λ past. ap ready (get_or-append_right xs ys (length xs) k 0 refl past) ∙ f.before (k - length xs) (omega arith))
        (cases_lt k (length xs));
  }

-- a search that ends at i has found the first ready one
pub record Found (ready : ℕ → Bool) (xs : List ℕ) (i : ℕ) : Type 0 where
  pub first : first_ready ready xs ≡ Some (slice_index xs i)
  pub sent : sent_back ready xs ≡ moved xs i
  pub passed : passed_over ready xs ≡ i

pub found_at : (ready : ℕ → Bool) (xs : List ℕ) (i : ℕ) → FirstAt ready xs i → Found ready xs i
found_at ready [] i f = absurd (omega (arith, f.within))
found_at ready (x ∷ xs) zero f =
    record {
      first = ap (λ t. cond t (Some x) (first_ready ready xs)) f.here;
      sent = ap (λ t. cond t (xs ++ x ∷ []) (x ∷ sent_back ready xs)) f.here;
      passed = position_or_len_is ready (x ∷ xs) 0 0 (omega arith) (λ k lt. absurd (omega arith)) (λ _. f.here);
    }
found_at ready (x ∷ xs) (suc i) f =
    let b : ready x ≡ false = f.before 0 (omega arith) in
    let rest = found_at ready xs i (record { within = omega (arith, f.within); here = f.here; before = λ k lt. f.before (suc k) (omega arith) }) in
    record {
      first = ap (λ t. cond t (Some x) (first_ready ready xs)) b ∙ rest.first;
      sent = ap (λ t. cond t (xs ++ x ∷ []) (x ∷ sent_back ready xs)) b ∙ ap (λ ys. x ∷ ys) rest.sent;
      passed = position_or_len_is ready (x ∷ xs) (suc i) 0 (omega (arith, f.within)) f.before (λ _. f.here);
    }

-- and one that ends nowhere has found nobody
pub found_none : (ready : ℕ → Bool) (xs : List ℕ) → NoneIn ready xs → (first_ready ready xs ≡ None) × (sent_back ready xs ≡ xs)
found_none ready [] before = (refl, refl)
found_none ready (x ∷ xs) before =
    let b : ready x ≡ false = before 0 (omega arith) in
    let rest = found_none ready xs (λ k lt. before (suc k) (omega arith)) in
    (ap (λ t. cond t (Some x) (first_ready ready xs)) b ∙ rest.0, ap (λ t. cond t (xs ++ x ∷ []) (x ∷ sent_back ready xs)) b ∙ ap (λ ys. x ∷ ys) rest.1)
