-- A row that is written behind what waits in a buffer.
use Rattle.std.proofs.Common.{◌≡◌, ℕ, ◌+◌, ◌-◌, ◌<◌, ◌≤◌, Bool, true, false, cond, leb, List, [], ◌++◌, length, take, drop, Ok, Err, Result, sym, refl, ap, ◌∙◌, subst, arith}
use borrow.Rule.Slice.PartMut.{put_mid}
use Rattle.std.proofs.lemmas.List.{take_rest, length-drop, length-append, length-take-le, take_at, take-append-drop}
use Rattle.std.proofs.lemmas.Bool.Decides.{nat_tests}
use Rattle.row.specs.declared.row.RowFault.{RowFault}
use Rattle.row.specs.declared.row.RowFault.TheVariants.{Full}
use Rattle.row.specs.Rows.{row_room, placed}
use Rattle.row.proofs.Laid.{written, placed_is}

-- there is room, and the length is told; or there is none
has_room : (t xs : List ℕ) (n : ℕ) → Ok n ≡ row_room t xs → (length t ≤ length xs) × (n ≡ length t)
has_room t xs n e = by (leb (length t) (length xs)) refl e
  where
    by : (b : Bool) → leb (length t) (length xs) ≡ b → ◌≡◌ {A = Result ℕ RowFault} (Ok n) (cond b (Ok (length t)) (Err Full)) → (length t ≤ length xs) × (n ≡ length t)
    by true h e = (grind (arith, nat_tests), cc)
    by false h e = let z : ◌≡◌ {A = ℕ} 0 1 = cc in absurd (omega arith)

no_room : (t xs : List ℕ) (f : RowFault) → Err f ≡ row_room t xs → (leb (length t) (length xs) ≡ false) × (length xs < length t)
no_room t xs f e = by (leb (length t) (length xs)) refl e
  where
    by : (b : Bool) → leb (length t) (length xs) ≡ b → ◌≡◌ {A = Result ℕ RowFault} (Err f) (cond b (Ok (length t)) (Err Full)) → (leb (length t) (length xs) ≡ false) × (length xs < length t)
    by true h e = let z : ◌≡◌ {A = ℕ} 0 1 = cc in absurd (omega arith)
    by false h e = (h, grind (arith, nat_tests))

module _ (xs ys t : List ℕ) (a n : ℕ) (len : length xs ≡ n) (fits : a ≤ n) (e : ys ≡ placed t (take (n - a) (drop a xs))) where
  -- what is lent from a on is as long as this
  lend : length (take (n - a) (drop a xs)) ≡ n - a
  lend = ap (λ k. length (take (k - a) (drop a xs))) (sym len) ∙ (ap length (take_rest xs a) ∙ (length-drop a xs ∙ ap (λ k. k - a) len))

  front_length : length (take a xs) ≡ a
  front_length = length-take-le a xs (omega arith)

  -- written, it stands behind what waits
  pub put_behind : (size : ℕ) → Ok size ≡ row_room t (take (n - a) (drop a xs)) → take (a + size) (put_mid a (n - a) xs ys) ≡ take a xs ++ t
  put_behind size r =
      let room = has_room t (take (n - a) (drop a xs)) size r in
      let front : length (take a xs ++ t) ≡ a + length t = length-append (take a xs) t ∙ ap (λ k. k + length t) front_length in
      let there : put_mid a (n - a) xs ys ≡ (take a xs ++ t) ++ drop (a + length t) xs =
      ap (λ k. put_mid a (k - a) xs ys) (sym len)
      ∙ written xs xs ys (take a xs) t a (sym front_length) (sym (take-append-drop a xs))
      (subst (λ (k : ℕ). ys ≡ t ++ drop (length t) (take (k - a) (drop a xs))) (sym len) (e ∙ placed_is t _ room.0))
      in
      ap (λ k. take (a + k) (put_mid a (n - a) xs ys)) room.1
      ∙ (ap (take (a + length t)) there
      ∙ take_at (take a xs ++ t) (drop (a + length t) xs) (a + length t) front)

  -- for want of room what waits stays
  pub kept_whole : take a (put_mid a (n - a) xs ys) ≡ take a xs
  kept_whole = take_at (take a xs) _ a front_length

  -- and there is always room where nothing waits
  pub some_wait : (f : RowFault) → Err f ≡ row_room t (take (n - a) (drop a xs)) → length t ≤ n → take a xs ≡ [] → ⊥
  some_wait f r short none =
      let less = no_room t (take (n - a) (drop a xs)) f r in
      let size : a ≡ 0 = sym front_length ∙ ap length none in
      omega (arith, less.1, lend)
