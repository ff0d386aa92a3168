-- The worked examples of what constraints mark, each tick of a window computed.
use Rattle.std.proofs.Common.{◌≡◌, ℕ, zero, suc, ◌<◌, ◌≤◌, Bool, true, false, not, ◌&&◌, List, [], ◌∷◌, ℤ, pos, ◌+ℤ◌, ◌≤ℤ◌, ◌<ℤ◌, Option, sym, refl, ap, ◌∙◌, subst, ⊎_elim, arith}
use mathlib.Core.Path.{fun_ext}
use lib.Signed.{lt_z}
use Rattle.std.proofs.lemmas.Int.{ints}
use Rattle.std.proofs.lemmas.Bool.{and_parts, or_cases, false≢true, cases_Bool, cases_eq}
use Rattle.level.specs.Ticks.{between, is, is_available, Marking}
use Rattle.level.proofs.Choice.{chosen, by_offset, choice}
use Rattle.cases.specs.Examples.{example_owner, listed, marked, unmarked, first_ticks, second_ticks, Holds, marks_for, left_for}

abbrev same : Bool → Bool → Bool
same true b = b
same false b = not b

same_is : (a b : Bool) → same a b ≡ true → a ≡ b
same_is true true e = refl
same_is true false e = absurd (false≢true e)
same_is false true e = absurd (false≢true e)
same_is false false e = refl

-- all numbers below n pass a test
abbrev all : (ℕ → Bool) → ℕ → Bool
all p zero = true
all p (suc n) = p n && all p n

all_each : (p : ℕ → Bool) (n : ℕ) → all p n ≡ true → (k : ℕ) → k < n → p k ≡ true
all_each p zero e k l = absurd (omega arith)
all_each p (suc n) e k l =
    let a = and_parts (p n) (all p n) e in
    ⊎_elim (λ q. ap p q ∙ a.0) (λ ne. all_each p n a.1 k (omega arith)) (cases_eq k n)

-- all listed ticks lie in the window
abbrev inside : ℕ → ℕ → List ℕ → Bool
inside s d [] = true
inside s d (x ∷ xs) = (not (lt_z (pos x) (pos s)) && lt_z (pos x) (pos d)) && inside s d xs

listed_in : (s d : ℕ) (xs : List ℕ) → inside s d xs ≡ true → (t : ℤ) → listed xs t ≡ true → (pos s ≤ℤ t) × (t <ℤ pos d)
listed_in s d [] e t h = absurd (false≢true h)
listed_in s d (x ∷ xs) e t h =
    let a = and_parts (not (lt_z (pos x) (pos s)) && lt_z (pos x) (pos d)) (inside s d xs) e in
    let b = and_parts (not (lt_z (pos x) (pos s))) (lt_z (pos x) (pos d)) a.0 in
    ⊎_elim
    (λ q. let c = and_parts (not (lt_z t (pos x))) (not (lt_z (pos x) t)) q in (grind (arith, ints), grind (arith, ints)))
    (λ q. listed_in s d xs a.1 t q)
    (or_cases (not (lt_z t (pos x)) && not (lt_z (pos x) t)) (listed xs t) h)

module _ (before : ℤ → Option ℕ) (a s d n many : ℕ) (xs : List ℕ) (ends : pos s +ℤ pos n ≡ pos d)
    (enough : many ≤ between (is_available before example_owner a) (pos s) (pos d)) where
  abbrev set : ℤ → Bool
  set = chosen example_owner a (pos s) (pos d) n many before ends enough

  pub marks_by : inside s d xs ≡ true → all (λ k. same (listed xs (pos s +ℤ pos k)) (set (pos s +ℤ pos k))) n ≡ true → Holds (marks_for before a s d many xs)
  marks_by low e =
      let c = choice example_owner a (pos s) (pos d) n many before ends enough in
      subst (λ f. Marking (is_available before example_owner a) (λ t. is a (example_owner t)) (pos s) (pos d) many f) (fun_ext agree) c
    where
      within : (t : ℤ) → pos s ≤ℤ t → t <ℤ pos d → set t ≡ listed xs t
      within t l h =
          by_offset example_owner a (pos s) (pos d) n many before ends enough (λ u. set u ≡ listed xs u)
          (λ k m. sym (same_is (listed xs (pos s +ℤ pos k)) (set (pos s +ℤ pos k)) (all_each (λ j. same (listed xs (pos s +ℤ pos j)) (set (pos s +ℤ pos j))) n e k m))) t l h

      agree : (t : ℤ) → set t ≡ listed xs t
      agree t =
          ⊎_elim
          (λ y. let i = listed_in s d xs low t y in within t i.0 i.1)
          (λ y. ⊎_elim
          (λ z.
          let c = choice example_owner a (pos s) (pos d) n many before ends enough in
          within t (c.from t z) (c.to t z))
          (λ z. z ∙ sym y)
          (cases_Bool (set t)))
          (cases_Bool (listed xs t))

pub first_marks : Holds (marks_for unmarked 0 230 270 11 first_ticks)
first_marks = marks_by unmarked 0 230 270 40 11 first_ticks refl (omega arith) refl refl

pub second_marks : Holds (marks_for (marked 0 first_ticks unmarked) 4 215 265 11 second_ticks)
second_marks = marks_by (marked 0 first_ticks unmarked) 4 215 265 50 11 second_ticks refl (omega arith) refl refl

pub left_over : Holds (left_for (marked 1 second_ticks (marked 0 first_ticks unmarked)) 0 225 270 6)
left_over = refl
