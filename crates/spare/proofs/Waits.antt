-- Why nobody who stays ready is passed over for ever: the distance falls at each call that names another.
use Rattle.std.proofs.Common.{◌≡◌, ℕ, zero, suc, ◌+◌, ◌<◌, ◌≤◌, Bool, true, ◌⊎◌, List, [], ◌∷◌, ◌++◌, length, get_or, take, set, Some, None, Option, sym, refl, ap, ◌∙◌, subst, inl, inr, ⊎_elim, arith}
use Rattle.std.proofs.lemmas.List.{take_more, take_more_set}
use Rattle.std.proofs.lemmas.Bool.{cases_eq, both_ways}
use Rattle.spare.specs.declared.ready.ReadySet.{ReadySet}
use Rattle.spare.specs.Calls.{Call, Chained, ReadyAtEach, NamedInSome, StarvesNobody, Answer, AnswersOf, calls_of, NeverStarves, Ran, EachServed}
use Rattle.spare.specs.Chosen.{Within, Chosen}
use Rattle.spare.specs.declared.rule.SpareRule.{Ghosts as SpareRules}
use Rattle.spare.specs.Asking.{CallOf}
use Rattle.spare.specs.Sets.{is_ready}

-- a ready one is named, or comes nearer
pub named_or_nearer : (ready : ℕ → Bool) (d : ℕ → ℕ) (p : ℕ) (o : Option ℕ) (d' : ℕ → ℕ) (p' a : ℕ) → Chosen ready d p o d' p' → ready a ≡ true → (o ≡ Some a) ⊎ (d' a < d a)
named_or_nearer ready d p None d' p' a h r = absurd (both_ways (ready a) (h.idle a) r)
named_or_nearer ready d p (Some b) d' p' a h r = ⊎_elim (λ e. inl (ap Some (sym e))) (λ n. inr (h.nearer a r n)) (cases_eq a b)

pub same_patience : (ready : ℕ → Bool) (d : ℕ → ℕ) (p : ℕ) (o : Option ℕ) (d' : ℕ → ℕ) (p' : ℕ) → Chosen ready d p o d' p' → p' ≡ p
same_patience ready d p None d' p' h = h.steady
same_patience ready d p (Some b) d' p' h = h.steady

-- one that is ready at each of more calls than its distance is named by some call
pub named_in_time : (d : ℕ → ℕ) (p : ℕ) (cs : List Call) (a : ℕ) → Chained d p cs → a < 16 → ReadyAtEach a cs → d a < length cs → NamedInSome a cs
named_in_time d p [] a h k r l = absurd (omega arith)
named_in_time d p (c ∷ cs) a h k r l =
    let from : c.distance a ≡ d a = h.0 a k in
    ⊎_elim inl
    (λ (n : c.distance_after a < c.distance a). inr (named_in_time c.distance_after c.patience_after cs a h.3 k r.1 (omega arith)))
    (named_or_nearer c.ready c.distance c.patience c.name c.distance_after c.patience_after a h.2.1 r.0)

-- calls in a row have a first one, and no distance before it exceeds the patience
in_a_row : (d : ℕ → ℕ) (p : ℕ) (row later : List Call) (a : ℕ) → Chained d p (row ++ later) → length row ≡ p + 1 → a < 16 → ReadyAtEach a row → d a < length row
in_a_row d p [] later a h n k r = absurd (omega arith)
in_a_row d p (c ∷ row) later a h n k r =
    let from = h.0 a k in
    let same = h.1 in
    let most = h.2.0 a k in
    omega arith

front : (d : ℕ → ℕ) (p : ℕ) (row later : List Call) → Chained d p (row ++ later) → Chained d p row
front d p [] later h = tt
front d p (c ∷ row) later h = (h.0, h.1, h.2, front c.distance_after c.patience_after row later h.3)

pub starves_nobody : (d : ℕ → ℕ) (p : ℕ) (earlier row later : List Call) → Chained d p (earlier ++ (row ++ later)) → length row ≡ p + 1 → (a : ℕ) → a < 16 → ReadyAtEach a row → NamedInSome a row
starves_nobody d p [] row later h n a k r =
    named_in_time d p row a (front d p row later h) k r (in_a_row d p row later a h n k r)
starves_nobody d p (c ∷ earlier) row later h n a k r =
    let same : c.patience_after ≡ p = same_patience c.ready c.distance c.patience c.name c.distance_after c.patience_after h.2.1 ∙ h.1 in
    starves_nobody c.distance_after c.patience_after earlier row later h.3 (omega arith) a k r

pub chained_starves_nobody : (d : ℕ → ℕ) (p : ℕ) (cs : List Call) → Chained d p cs → StarvesNobody p cs
chained_starves_nobody d p cs h earlier row later e n a k r =
    starves_nobody d p earlier row later (subst (Chained d p) e h) n a k r

-- answers of a rule are such calls, by the law of the interface
module _ {R : Type 0} (rs : SpareRules R) (bounded : (x : R) → Within (rs.distance x) (rs.patience x)) where
  pub answers_chained : (x : R) (ss : List (Answer R)) → AnswersOf rs x ss → Chained (rs.distance x) (rs.patience x) (calls_of rs x ss)
  answers_chained x [] h = tt
  answers_chained x (s ∷ ss) h = ((λ a k. refl), refl, (bounded x, h.0), answers_chained s.rule ss h.1)

  pub never_starves : (x : R) → NeverStarves rs x
  never_starves x ss h = chained_starves_nobody (rs.distance x) (rs.patience x) (calls_of rs x ss) (answers_chained x ss h)

  -- calls that were really made, set by set
  soon : (x : R) (sets : List ReadySet) (names : List (Option ℕ)) (y : R) (a m : ℕ) → Ran (CallOf rs) x sets names y → m ≤ length sets → a < 16 → ((k : ℕ) (s : ReadySet) → k < m → is_ready (get_or sets k s) a ≡ true) → rs.distance x a < m → (k : ℕ) × (k < m) × (get_or names k None ≡ Some a)
  soon x [] [] y a m h w l r d = absurd (omega arith)
  soon x [] (n ∷ ns) y a m h w l r d = absurd h
  soon x (s ∷ ss) [] y a m h w l r d = absurd h
  soon x (s ∷ ss) (n ∷ ns) y a zero h w l r d = absurd (omega arith)
  soon x (s ∷ ss) (n ∷ ns) y a (suc m) (z, call, rest) w l r d =
      ⊎_elim (λ e. (0, omega arith, e))
      (λ (f : rs.distance z a < rs.distance x a). let later = soon z ss ns y a m rest (omega arith) l (λ k t lt. r (suc k) t (omega arith)) (omega arith) in let lt = later.1 in (suc later.0, omega arith, later.2))
      (named_or_nearer (is_ready s) (rs.distance x) (rs.patience x) n (rs.distance z) (rs.patience z) a call.0 (r 0 s (omega arith)))

  pub each_served : (x : R) (sets : List ReadySet) (names : List (Option ℕ)) (y : R) → Ran (CallOf rs) x sets names y → EachServed (rs.patience x) sets names
  each_served x sets names y h zero a w l r =
      let found = soon x sets names y a (rs.patience x + 1) h (omega arith) l (λ k t lt. r k t (omega arith) (omega arith)) (omega (arith, bounded x a l)) in
      let lt = found.1 in
      (found.0, omega arith, omega arith, found.2)
  each_served x [] [] y h (suc i) a w l r = absurd (omega arith)
  each_served x [] (n ∷ ns) y h (suc i) a w l r = absurd h
  each_served x (s ∷ ss) [] y h (suc i) a w l r = absurd h
  each_served x (s ∷ ss) (n ∷ ns) y h (suc i) a w l r =
      let z = h.0 in
      let same : rs.patience h.0 ≡ rs.patience x = same_patience (is_ready s) (rs.distance x) (rs.patience x) n (rs.distance z) (rs.patience z) h.1.0 in
      let later = each_served z ss ns y h.2 i a (omega arith) l (λ k t low high. r (suc k) t (omega arith) (omega arith)) in
      let low = later.1 in
      let high = later.2 in
      (suc later.0, omega arith, omega arith, later.3)

-- one more call
pub ran_push : {R : Type 0} (call : R → (ℕ → Bool) → Option ℕ → R → Type 0) (x : R) (sets : List ReadySet) (names : List (Option ℕ)) (y : R) (s : ReadySet) (n : Option ℕ) (z : R) → Ran call x sets names y → call y (is_ready s) n z → Ran call x (sets ++ s ∷ []) (names ++ n ∷ []) z
ran_push call x [] [] y s n z h c = (z, subst (λ w. call w (is_ready s) n z) h c, refl)
ran_push call x [] (m ∷ ms) y s n z h c = absurd h
ran_push call x (t ∷ ts) [] y s n z h c = absurd h
ran_push call x (t ∷ ts) (m ∷ ms) y s n z (w, first, rest) c = (w, first, ran_push call w ts ms y s n z rest c)

pub ran_more : {R : Type 0} (call : R → (ℕ → Bool) → Option ℕ → R → Type 0) (x : R) (sets : List ReadySet) (names : List (Option ℕ)) (y : R) (k : ℕ) (d : ReadySet) (n : Option ℕ) (z : R) → k < length sets → k < length names → Ran call x (take k sets) (take k names) y → call y (is_ready (get_or sets k d)) n z → Ran call x (take (k + 1) sets) (take (k + 1) (set names k n)) z
ran_more call x sets names y k d n z l m h c =
    let both = ran_push call x (take k sets) (take k names) y (get_or sets k d) n z h c in
    subst (λ (ss : List ReadySet). Ran call x ss (take (k + 1) (set names k n)) z) (sym (take_more sets k d l))
    (subst (λ (ns : List (Option ℕ)). Ran call x (take k sets ++ get_or sets k d ∷ []) ns z) (sym (take_more_set names k n m)) both)
