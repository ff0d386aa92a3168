-- Parts of a sheet, and the sum over a block.
use Rattle.std.proofs.Common.{◌≡◌, ℕ, zero, suc, ◌+◌, ◌-◌, ◌*◌, ◌<◌, ◌≤◌, List, [], ◌∷◌, ◌++◌, length, get_or, take, drop, Option, None, Some, MatchOption, Decides, nat_eq, sym, refl, ap, ◌∙◌, subst, ⊎_elim, add-one, arith}
use Rattle.std.proofs.lemmas.Bool.Decides.{Decides-eqb}
use Rattle.std.proofs.lemmas.List.{length-take, length-drop, get_or-take, get_or-drop, take_rest, take-append-drop, nil_from_length}
use Rattle.std.proofs.lemmas.Bool.{cases_order}
use Rattle.std.proofs.Math.ListN.{get_or-append}
use Rattle.std.proofs.Math.Seq.{drop-drop, get_or-append_seam, take-append_seam, drop-append-add}
use Rattle.std.specs.Int.{from_le_bytes, w32}
use Rattle.std.specs.List.{AllWithin, HoldsAt, concat}
use Rattle.std.specs.Simd.{first_chunks}
use Rattle.sheet.specs.Format.{Checked, Zero, byte, four, block, weighted_sum}
use Rattle.sheet.specs.Told.{AllChecked, FirstUnchecked}

pub sum_none : (b : List ℕ) → 0 ≡ weighted_sum b 0
unfolding weighted_sum
sum_none b = refl

pub sum_more : (b : List ℕ) (i : ℕ) → weighted_sum b (i + 1) ≡ weighted_sum b i + (i + 1) * byte b i
unfolding weighted_sum
sum_more b i = ap (weighted_sum b) (add-one i)

-- the sum over the front of a list is that over the list
weighted_sum-take : (b : List ℕ) (m n : ℕ) → n ≤ m → weighted_sum (take m b) n ≡ weighted_sum b n
unfolding weighted_sum
weighted_sum-take b m zero h = refl
weighted_sum-take b m (suc n) h =
    let e = weighted_sum-take b m n (omega arith) in
    let f : byte (take m b) n ≡ byte b n = get_or-take m b n 0 (omega arith) in
    simp (e, f) refl

-- what a block is cut into: the bytes that are summed, and the four that tell the sum
module _ (b : List ℕ) (long : length b ≡ 512) where
  sum_before : (xs : List ℕ) → xs ≡ take (length b - 4) b → weighted_sum xs 508 ≡ weighted_sum b 508
  sum_before xs e =
      let cut : length b - 4 ≡ 508 = omega arith in
      ap (λ ys. weighted_sum ys 508) (e ∙ ap (λ n. take n b) cut) ∙ weighted_sum-take b 508 508 (omega arith)

  four_behind : (xs : List ℕ) → xs ≡ drop (length b - 4) b → from_le_bytes w32 xs ≡ four b 508
  four_behind xs e =
      let cut : length b - 4 ≡ 508 = omega arith in
      let at : (i : ℕ) → byte xs i ≡ byte b (508 + i) = λ i. ap (λ ys. byte ys i) (e ∙ ap (λ n. drop n b) cut) ∙ get_or-drop 508 b i 0 in
      omega (arith, at 0, at 1, at 2, at 3)

  -- the test of the two decides whether the check is right
  pub check_decided : (xs ys : List ℕ) (told sum : ℕ) → xs ≡ take (length b - 4) b → ys ≡ drop (length b - 4) b → told ≡ from_le_bytes w32 ys → sum ≡ weighted_sum xs 508 → Decides (nat_eq told sum) (Checked b)
  check_decided xs ys told sum d e f g =
      subst (λ n. Decides (nat_eq told sum) (n ≡ weighted_sum b 508)) (f ∙ four_behind ys e)
      (subst (λ n. Decides (nat_eq told sum) (told ≡ n)) (g ∙ sum_before xs d) (Decides-eqb told sum))

-- chunk k of a list that is cut into chunks of n
pub get_or-first_chunks : {X : Type 0} (n m : ℕ) (xs : List X) (k : ℕ) (d : List X) → k < m → get_or (first_chunks n m xs) k d ≡ take n (drop (n * k) xs)
get_or-first_chunks n zero xs k d h = absurd (omega arith)
get_or-first_chunks n (suc m) xs zero d h = let e : 0 ≡ n * 0 = grind arith in ap (λ j. take n (drop j xs)) e
get_or-first_chunks n (suc m) xs (suc k) d h =
    get_or-first_chunks n m (drop n xs) k d (omega arith) ∙ ap (take n) (drop-drop (n * k) n xs ∙ ap (λ j. drop j xs) (grind arith))

-- a byte of a chunk
pub byte_of_chunk : (n m : ℕ) (xs : List ℕ) (k : ℕ) (c : List ℕ) → c ≡ get_or (first_chunks n m xs) k [] → k < m → (i j : ℕ) → i < n → j ≡ n * k + i → byte c i ≡ byte xs j
byte_of_chunk n m xs k c here h i j l e =
    ap (λ b. byte b i) (here ∙ get_or-first_chunks n m xs k [] h) ∙ get_or-take n (drop (n * k) xs) i 0 l ∙ get_or-drop (n * k) xs i 0 ∙ ap (λ p. byte xs p) (sym e)

-- a byte of a block
pub byte_of_block : (s : List ℕ) (n i j : ℕ) → i < 512 → j ≡ 512 * n + i → byte (block s n) i ≡ byte s j
byte_of_block s n i j l e = get_or-take 512 (drop (512 * n) s) i 0 l ∙ get_or-drop (512 * n) s i 0 ∙ ap (λ p. byte s p) (sym e)

-- the first block whose check is wrong, among the blocks of a sheet
pub unchecked_among : (s : List ℕ) (bs : List (List ℕ)) → ((k : ℕ) → k < length bs → get_or bs k [] ≡ block s k) → (r : Option ℕ) → MatchOption r (AllWithin Checked bs 0 (length bs)) (λ i. (i < length bs) × HoldsAt (λ b. Checked b → ⊥) bs i × AllWithin Checked bs 0 i) → MatchOption r (AllChecked s (length bs)) (FirstUnchecked s (length bs))
unchecked_among s bs each None w = λ k l. subst Checked (each k l) (w k [] (omega arith) (omega arith))
unchecked_among s bs each (Some i) w =
    record {
      within = w.0;
      before = λ k l. subst Checked (each k (omega (arith, w.0))) (w.2 k [] (omega arith) l);
      wrong = λ h. w.1 [] (subst Checked (sym (each i w.0)) h);
    }

pub length_block : (s : List ℕ) (n : ℕ) → 512 * n + 512 ≤ length s → length (block s n) ≡ 512
length_block s n h = simp (length-take, length-drop) (omega arith)

-- what stands from byte n on, as a slice pattern gives it
abbrev pub behind : List ℕ → ℕ → List ℕ
behind b n = take (length b - n) (drop n b)

pub behind_at : (b : List ℕ) (n i j : ℕ) → j ≡ n + i → byte (behind b n) i ≡ byte b j
behind_at b n i j e = ap (λ l. get_or l i 0) (take_rest b n) ∙ get_or-drop n b i 0 ∙ ap (λ k. get_or b k 0) (sym e)

-- a range of a list
abbrev pub range_of : List ℕ → ℕ → ℕ → List ℕ
range_of xs from to = take (to - from) (drop from xs)

-- the bytes of a range are 0 exactly where those of the list are, from one end of it to the other
module _ (xs : List ℕ) (from to : ℕ) where
  in_range : (i j : ℕ) → j ≡ from + i → j < to → byte (range_of xs from to) i ≡ byte xs j
  in_range i j e l = get_or-take (to - from) (drop from xs) i 0 (omega arith) ∙ get_or-drop from xs i 0 ∙ ap (λ k. byte xs k) (sym e)

  pub zero_within : from ≤ to → to ≤ length xs → Zero (range_of xs from to) 0 (length (range_of xs from to)) → Zero xs from to
  zero_within order inside w = λ i low high.
      let long : length (range_of xs from to) ≡ to - from = simp (length-take, length-drop) (omega arith) in
      sym (in_range (i - from) i (omega arith) high) ∙ w (i - from) (omega arith) (omega arith)

  pub zero_of_range : Zero xs from to → Zero (range_of xs from to) 0 (length (range_of xs from to))
  zero_of_range w = λ i low high.
      let short : length (range_of xs from to) ≤ to - from = simp (length-take, length-drop) (omega arith) in
      in_range i (from + i) refl (omega arith) ∙ w (from + i) (omega arith) (omega arith)

-- what holds of each of a list's places holds with one more
module _ {X : Type 0} (P : ℕ → X → Type 0) (k : ℕ) (xs : List X) (x d : X) (long : length xs ≡ k) where
  past : (j : ℕ) → j < k + 1 → k < j → ⊥
  past j l a = omega arith

  here : (j : ℕ) → j ≡ k → P k x → P j (get_or (xs ++ x ∷ []) j d)
  here j e last =
      let at : get_or (xs ++ x ∷ []) j d ≡ x = ap (λ i. get_or (xs ++ x ∷ []) i d) (e ∙ sym long) ∙ get_or-append_seam xs x [] d in
      subst (λ i. P i (get_or (xs ++ x ∷ []) j d)) (sym e) (subst (P k) (sym at) last)

  pub each_more : ((j : ℕ) → j < k → P j (get_or xs j d)) → P k x → (j : ℕ) → j < k + 1 → P j (get_or (xs ++ x ∷ []) j d)
  each_more each last j l =
      ⊎_elim (λ e. here j e last)
      (λ o. ⊎_elim (λ b. subst (P j) (sym (get_or-append xs (x ∷ []) d j (omega arith))) (each j b)) (λ a. absurd (past j l a)) o)
      (cases_order j k)

-- whole chunks joined are the list
pub concat-first_chunks : (n m : ℕ) (xs : List ℕ) → length xs ≡ n * m → concat (first_chunks n m xs) ≡ xs
concat-first_chunks n zero xs h = sym (nil_from_length xs (h ∙ grind arith))
concat-first_chunks n (suc m) xs h =
    let rest = concat-first_chunks n m (drop n xs) (length-drop n xs ∙ ap (λ l. l - n) h ∙ grind arith) in
    ap (λ ys. take n xs ++ ys) rest ∙ take-append-drop n xs

-- each of the blocks that are joined
pub block_of : (bs : List (List ℕ)) → ((k : ℕ) → k < length bs → length (get_or bs k []) ≡ 512) → (k : ℕ) → k < length bs → get_or bs k [] ≡ block (concat bs) k
block_of [] long k l = absurd (omega arith)
block_of (b ∷ bs) long zero l =
    sym (ap (λ n. take n (b ++ concat bs)) (sym (long 0 (omega arith))) ∙ take-append_seam b (concat bs))
block_of (b ∷ bs) long (suc k) l =
    let here : 512 * suc k ≡ length b + 512 * k = let e = long 0 (omega arith) in omega arith in
    block_of bs (λ j m. long (suc j) (omega arith)) k (omega arith)
    ∙ sym (ap (take 512) (ap (λ j. drop j (b ++ concat bs)) here ∙ drop-append-add b (concat bs) (512 * k)))
