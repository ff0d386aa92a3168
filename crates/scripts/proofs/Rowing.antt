-- Levels that are each played by itself carry one history on.
use Rattle.std.proofs.Common.{◌≡◌, ℕ, zero, suc, ◌+◌, ◌<◌, ◌≤◌, List, [], ◌∷◌, ◌++◌, map, length, get_or, set, Option, sym, refl, ap, ◌∙◌, subst, ⊎_elim, append_assoc, arith}
use Rattle.std.proofs.lemmas.List.{get_or-set_same, get_or-set_other}
use Rattle.std.proofs.lemmas.Bool.{cases_eq}
use Rattle.level.specs.Meaning.{Meaning}
use Rattle.level.specs.Together.{Together}
use Rattle.level.specs.Promises.{AllStand}
use Rattle.level.proofs.Levels.{shared}
use Rattle.scripts.specs.Plays.{Plays}
use Rattle.scripts.specs.Rows.{NoneHas, Present, EachPlays, RowPlays}

present_on : (ms : List Meaning) (k : ℕ) (w v : ℕ → Option Meaning) → ((j : ℕ) → (j ≡ k → ⊥) → v j ≡ w j) → NoneHas k ms → Present ms w → Present ms v
present_on [] k w v h f p = tt
present_on (m ∷ ms) k w v h f p = (h m.number (λ e. f.0 (sym e)) ∙ p.0, present_on ms k w v h f.1 p.1)

pub row : (ms ns : List Meaning) → EachPlays ms ns → RowPlays ms ns
row [] [] e h w t p a = record { entries = []; levels = w; together = t; stand = shared h w t; here = tt; others = λ k f. refl }
row [] (n ∷ ns) e h w t p a = absurd e
row (m ∷ ms) [] e h w t p a = absurd e
row (m ∷ ms) (n ∷ ns) e h w t p a =
    let x = e.0.onward h w t p.0 in
    let y = row ms ns e.1 (x.entries ++ h) x.levels x.together (present_on ms m.number w x.levels x.others a.0 p.1) a.1 in
    let q : (y.entries ++ x.entries) ++ h ≡ y.entries ++ (x.entries ++ h) = append_assoc y.entries x.entries h in
    record {
      entries = y.entries ++ x.entries;
      levels = y.levels;
      together = subst (λ z. Together z y.levels) (sym q) y.together;
      stand = subst (λ z. AllStand z y.levels) (sym q) y.stand;
      here = (ap y.levels e.0.number ∙ y.others m.number a.0 ∙ x.here, y.here);
      others = λ k f. y.others k f.1 ∙ x.others k f.0;
    }

-- place by place
pub each_by : {X : Type 0} (f : X → Meaning) (xs ys : List X) → length ys ≡ length xs → ((k : ℕ) (d : X) → k < length xs → Plays (f (get_or xs k d)) (f (get_or ys k d))) → EachPlays (map f xs) (map f ys)
each_by f [] [] e h = tt
each_by f [] (y ∷ ys) e h = absurd (omega arith)
each_by f (x ∷ xs) [] e h = absurd (omega arith)
each_by f (x ∷ xs) (y ∷ ys) e h = (h 0 x (omega arith), each_by f xs ys (omega arith) (λ k d l. h (suc k) d (omega arith)))

-- what stands past the end does not matter before it
get_d_any : {X : Type 0} (xs : List X) (i : ℕ) (d e : X) → i < length xs → get_or xs i d ≡ get_or xs i e
get_d_any [] i d e l = absurd (omega arith)
get_d_any (x ∷ xs) zero d e l = refl
get_d_any (x ∷ xs) (suc i) d e l = get_d_any xs i d e (omega arith)

-- one level more
module _ {X : Type 0} (Q : Meaning → Meaning → Type 0) (f : X → Meaning) (xs ys : List X) (i : ℕ) (y r : X) (lt : i < length ys) (play : Q (f (get_or ys i r)) (f y))
    (done : (j : ℕ) (d : X) → j < i → Q (f (get_or xs j d)) (f (get_or ys j d))) (rest : (j : ℕ) (d : X) → i ≤ j → get_or ys j d ≡ get_or xs j d) where
  pub done_more : (j : ℕ) (d : X) → j < i + 1 → Q (f (get_or xs j d)) (f (get_or (set ys i y) j d))
  done_more j d l =
      ⊎_elim
      (λ e.
      let was : get_or ys i r ≡ get_or xs j d = get_d_any ys i r d lt ∙ rest i d (omega arith) ∙ ap (λ k. get_or xs k d) (sym e) in
      let now : y ≡ get_or (set ys i y) j d = sym (ap (λ k. get_or (set ys i y) k d) e ∙ get_or-set_same ys i y d lt) in
      subst (λ u. Q (f u) (f (get_or (set ys i y) j d))) was (subst (λ u. Q (f (get_or ys i r)) (f u)) now play))
      (λ ne. subst (λ u. Q (f (get_or xs j d)) (f u)) (sym (get_or-set_other ys i j y d ne)) (done j d (omega arith)))
      (cases_eq j i)

  pub rest_more : (j : ℕ) (d : X) → i + 1 ≤ j → get_or (set ys i y) j d ≡ get_or xs j d
  rest_more j d l = get_or-set_other ys i j y d (λ e. omega arith) ∙ rest j d (omega arith)
