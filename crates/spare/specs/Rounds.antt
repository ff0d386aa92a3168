-- Going round a table from the mark: which place comes when, and what moving the mark does to the distances.
use Rattle.std.specs.Prelude.{◌≡◌, ℕ, ◌+◌, ◌-◌, ◌%◌, ◌<◌, ◌≤◌, Bool, true, cond, List, length, take, drop, Some, None, Option, MatchOption, ◌≢◌, slice_index, slice_index_or, refl}
use Rattle.std.proofs.Common.{⊎_elim, sym, ap, ◌∙◌, subst, mod-eq_of_lt, arith}
use Rattle.std.proofs.Math.Nat.{add-mod_right}
use Rattle.std.proofs.lemmas.List.{length-take, length-drop, length-append, get_or_append_left, get_or-append_right, get_or-drop, get_or-take, take-append-drop}
use Rattle.std.proofs.lemmas.Bool.{lt-ltb, le-ltb, cases_lt}
use Rattle.spare.specs.declared.ready.ReadySet.{ReadySet}
use Rattle.spare.specs.Chosen.{NamesNobody, Names}
use Rattle.spare.specs.Orders.{place_of, times}
use Rattle.spare.specs.Search.{NoneIn, FirstAt, passed_to, NextAt}
use Rattle.spare.specs.Sets.{is_ready}
use Rattle.spare.specs.Wheels.{after_mark, WheelStep}
use Rattle.spare.specs.OrdersLemmas.{at_place, place_le, has_place, times_append, stands_after, none_ready, first_left, none_both, first_right, found_at, found_none}
use Rattle.spare.specs.SetsLemmas.{member_known, from_below}

-- the number of places passed over, on either side of the mark
pub passed_ahead : (n mark i : ℕ) → mark < i → passed_to n mark i ≡ i - (mark + 1)
passed_ahead n mark i h = ap (λ t. cond t (i - (mark + 1)) (i + n - (mark + 1))) (lt-ltb mark i h)

pub passed_round : (n mark i : ℕ) → i ≤ mark → passed_to n mark i ≡ i + n - (mark + 1)
passed_round n mark i h = ap (λ t. cond t (i - (mark + 1)) (i + n - (mark + 1))) (le-ltb mark i h)

module _ (xs : List ℕ) where
  pub round_length : (m : ℕ) → m < length xs → length (after_mark xs m) ≡ length xs
  round_length m h =
      length-append (drop (m + 1) xs) (take (m + 1) xs)
      ∙ omega (arith, length-drop (m + 1) xs, length-take (m + 1) xs)

  -- a place that comes before the end of the table, and one that comes after going round
  pub round_front : (m k j : ℕ) → m + 1 + k ≡ j → j < length xs → slice_index (after_mark xs m) k ≡ slice_index xs j
  round_front m k j e h =
      get_or_append_left (drop (m + 1) xs) (take (m + 1) xs) 0 k (omega (arith, length-drop (m + 1) xs))
      ∙ get_or-drop (m + 1) xs k 0 ∙ ap (λ i. slice_index xs i) e

  pub round_back : (m k j : ℕ) → m < length xs → m + 1 + k ≡ j + length xs → k < length xs → slice_index (after_mark xs m) k ≡ slice_index xs j
  round_back m k j l e h =
      get_or-append_right (drop (m + 1) xs) (take (m + 1) xs) (length xs - (m + 1)) k 0 (length-drop (m + 1) xs) (omega arith)
      ∙ get_or-take (m + 1) xs (k - (length xs - (m + 1))) 0 (omega arith)
      ∙ ap (λ i. slice_index xs i) (omega arith)

  -- the place i comes after as many as are passed on the way to it
  pub round_at : (m i : ℕ) → m < length xs → i < length xs → slice_index (after_mark xs m) (passed_to (length xs) m i) ≡ slice_index xs i
  round_at m i l h =
      ⊎_elim (λ lt. ap (λ k. slice_index (after_mark xs m) k) (passed_ahead (length xs) m i lt) ∙ round_front m (i - (m + 1)) i (omega arith) h)
      (λ ge. ap (λ k. slice_index (after_mark xs m) k) (passed_round (length xs) m i ge) ∙ round_back m (i + length xs - (m + 1)) i l (omega arith) (omega arith))
      (cases_lt m i)

  -- and is found by counting on from the mark
  pub round_mark : (m i : ℕ) → m < length xs → i < length xs → i ≡ (m + 1 + passed_to (length xs) m i) % length xs
  round_mark m i l h =
      ⊎_elim (λ lt. let e : m + 1 + passed_to (length xs) m i ≡ i = omega (arith, passed_ahead (length xs) m i lt) in sym (ap (λ k. k % length xs) e ∙ mod-eq_of_lt h))
      (λ ge. let e : m + 1 + passed_to (length xs) m i ≡ i + length xs = omega (arith, passed_round (length xs) m i ge) in sym (ap (λ k. k % length xs) e ∙ add-mod_right i (length xs) ∙ mod-eq_of_lt h))
      (cases_lt m i)

  -- one that comes later keeps its place in the table, and comes sooner from the new mark
  pub round_later : (m i p : ℕ) → m < length xs → i < length xs → p < length xs → passed_to (length xs) m i < p → slice_index (after_mark xs i) (p - passed_to (length xs) m i - 1) ≡ slice_index (after_mark xs m) p
  round_later m i p l h q later =
      let k = passed_to (length xs) m i in
      ⊎_elim (λ lt. let a = passed_ahead (length xs) m i lt in
      ⊎_elim (λ before. round_front i (p - passed_to (length xs) m i - 1) (m + 1 + p) (omega arith) before ∙ sym (round_front m p (m + 1 + p) refl before))
      (λ past. round_back i (p - passed_to (length xs) m i - 1) (m + 1 + p - length xs) h (omega arith) (omega arith) ∙ sym (round_back m p (m + 1 + p - length xs) l (omega arith) q))
      (cases_lt (m + 1 + p) (length xs)))
      (λ ge. let a = passed_round (length xs) m i ge in
      round_front i (p - passed_to (length xs) m i - 1) (m + 1 + p - length xs) (omega arith) (omega arith) ∙ sym (round_back m p (m + 1 + p - length xs) l (omega arith) q))
      (cases_lt m i)

  -- everybody who has a place comes round
  pub times_round : (a m : ℕ) → times a (after_mark xs m) ≡ times a xs
  times_round a m =
      let split = times_append a (take (m + 1) xs) (drop (m + 1) xs) in
      let whole = ap (times a) (take-append-drop (m + 1) xs) in
      omega (arith, times_append a (drop (m + 1) xs) (take (m + 1) xs))

  pub comes_round : (a m : ℕ) → m < length xs → 1 ≤ times a xs → place_of a (after_mark xs m) < length xs
  comes_round a m l h = omega (arith, has_place a (after_mark xs m) (omega (arith, times_round a m)), round_length m l)

-- the searches after the mark and up to it, as one search round the table
module _ (ready : ℕ → Bool) (xs : List ℕ) (m : ℕ) (l : m < length xs) where
  pub next_ahead : (k : ℕ) → FirstAt ready (drop (m + 1) xs) k → NextAt ready xs m (m + 1 + k)
  next_ahead k f = record {
    within = omega (arith, f.within, length-drop (m + 1) xs);
    first = subst (FirstAt ready (after_mark xs m)) (sym (passed_ahead (length xs) m (m + 1 + k) (omega arith) ∙ omega arith)) (first_left ready (drop (m + 1) xs) (take (m + 1) xs) k f);
  }

  pub next_round : (i : ℕ) → NoneIn ready (drop (m + 1) xs) → FirstAt ready (take (m + 1) xs) i → NextAt ready xs m i
  next_round i none f =
      let long = length-take (m + 1) xs in
      let w = f.within in
      let passed : passed_to (length xs) m i ≡ length (drop (m + 1) xs) + i = passed_round (length xs) m i (omega arith) ∙ omega (arith, length-drop (m + 1) xs) in
      record {
        within = omega arith;
        first = subst (FirstAt ready (after_mark xs m)) (sym passed) (first_right ready (drop (m + 1) xs) (take (m + 1) xs) i none f);
      }

  module _ (front back : List ℕ) (ef : front ≡ take (m + 1) xs) (eb : back ≡ drop (m + 1) xs) where
    pub next_of : (b o : Option ℕ) → MatchOption b (NoneIn ready back) (FirstAt ready back) →
        MatchOption b (MatchOption o (NoneIn ready front) (FirstAt ready front)) (λ k. o ≡ Some (length front + k)) →
        MatchOption o (NoneIn ready (after_mark xs m)) (NextAt ready xs m)
    next_of (Some k) o f e =
        let long : m + 1 ≡ length front = omega (arith, length-take (m + 1) xs, ap length ef) in
        rw e (subst (λ n. NextAt ready xs m (n + k)) long (next_ahead k (subst (λ (zs : List ℕ). FirstAt ready zs k) eb f)))
    next_of None None h g = none_both ready (drop (m + 1) xs) (take (m + 1) xs) (subst (NoneIn ready) eb h) (subst (NoneIn ready) ef g)
    next_of None (Some i) h f = next_round i (subst (NoneIn ready) eb h) (subst (λ (zs : List ℕ). FirstAt ready zs i) ef f)

-- what the wheel's search tells of its choice
module _ (s : ReadySet) (xs : List ℕ) (m : ℕ) (l : m < length xs) (all : (a : ℕ) → a < 16 → 1 ≤ times a xs) where
  stands : (a : ℕ) → a < 16 → place_of a (after_mark xs m) < length (after_mark xs m)
  stands a h = omega (arith, comes_round xs a m l (all a h), round_length xs m l)

  pub nobody : (p : ℕ) → NoneIn (is_ready s) (after_mark xs m) → NamesNobody (is_ready s) (λ a. place_of a (after_mark xs m)) p (λ a. place_of a (after_mark xs m)) p
  nobody p h =
      record {
        idle = from_below s (λ a lt. none_ready (is_ready s) (after_mark xs m) h a (stands a lt));
        distances = λ a. refl;
        steady = refl;
      }

  pub stays : NoneIn (is_ready s) (after_mark xs m) → WheelStep xs m (is_ready s) None xs m
  stays h =
      record { names = sym (found_none (is_ready s) (after_mark xs m) h).0; moves = refl; same_places = refl }

  module _ (i : ℕ) (f : NextAt (is_ready s) xs m i) (known : (k : ℕ) → k < length xs → slice_index xs k < 16) where
    at : slice_index_or (after_mark xs m) (passed_to (length xs) m i) 0 ≡ slice_index xs i
    at = round_at xs m i l f.within

    sooner : (b : ℕ) → is_ready s b ≡ true → (b ≢ slice_index xs i) → place_of b (after_mark xs i) < place_of b (after_mark xs m)
    sooner b r other =
        let n = round_length xs m l in
        let q = stands b (member_known s b r) in
        let w = f.within in
        let later = stands_after (is_ready s) (after_mark xs m) (passed_to (length xs) m i) b f.first.before q r (λ e. other (e ∙ at)) in
        let here = round_later xs m i (place_of b (after_mark xs m)) l f.within (omega arith) later ∙ at_place b (after_mark xs m) q in
        omega (arith, place_le b (after_mark xs i) (place_of b (after_mark xs m) - passed_to (length xs) m i - 1) here)

    pub names : (p : ℕ) → Names (slice_index xs i) (is_ready s) (λ a. place_of a (after_mark xs m)) p (λ a. place_of a (after_mark xs i)) p
    names p =
        record {
          known = known i f.within;
          member = ap (is_ready s) (sym at) ∙ f.first.here;
          nearer = sooner;
          steady = refl;
        }

    pub turns : WheelStep xs m (is_ready s) (Some (slice_index xs i)) xs i
    turns =
        let g = found_at (is_ready s) (after_mark xs m) (passed_to (length xs) m i) f.first in
        record {
          names = ap Some (sym at) ∙ sym g.first;
          moves = round_mark xs m i l f.within ∙ ap (λ k. (m + 1 + k) % length xs) (sym g.passed);
          same_places = refl;
        }
