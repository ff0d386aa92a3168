-- Several levels together.
use Rattle.std.proofs.Common.{◌≡◌, ℕ, eqb, List, [], ◌∷◌, Some, None, Option, sym, refl, ap, ◌∙◌, subst, ⊎_elim}
use Rattle.std.proofs.lemmas.Bool.{eq-eqb, ne_eqb, cases_eq, cond-true, cond-false}
use Rattle.level.specs.Meaning.{Meaning, Event}
use Rattle.level.specs.Steps.{Step}
use Rattle.level.specs.Together.{Opening, Entry, opened, called, Tagged, Opens, put, Together, nothing, opens, calls, own_history, Alone, first, next}
use Rattle.level.specs.Promises.{Promises, Shared, Goes, Starts, Sharing}
use Rattle.level.proofs.Counts.{none_some}
use Rattle.level.proofs.Alones.{number_is, clock_is, ready_is, used_is, owner_is, repeating}
use Rattle.level.proofs.Shares.{share_kept}
use Rattle.level.proofs.Deadlines.{deadline_kept, taken_kept}
use Rattle.level.proofs.Spares.{turns_kept, rule_kept}

pub promises : {k : ℕ} {p : List Entry} {m : Meaning} → Alone k p m → Promises p
promises r = record { share = share_kept r; deadline = deadline_kept r; end_count = taken_kept r; spare_turn = turns_kept r; rule = rule_kept r }

-- a level that something was put under is there
put_none : (j k : ℕ) (n : Meaning) (w : ℕ → Option Meaning) → put j n w k ≡ None → (k ≡ j → ⊥) × (w k ≡ None)
put_none j k n w e =
    ⊎_elim
    (λ q. absurd (none_some (put j n w k) n e (cond-true (eqb k j) (Some n) (w k) (eq-eqb k j q))))
    (λ ne. (ne, sym (cond-false (eqb k j) (Some n) (w k) (ne_eqb k j ne)) ∙ e))
    (cases_eq k j)

other_history : (j k : ℕ) (d : Entry) (h : List Tagged) → (k ≡ j → ⊥) → own_history k (record { level = j; entry = d } ∷ h) ≡ own_history k h
other_history j k d h ne = cond-false (eqb k j) (d ∷ own_history k h) (own_history k h) (ne_eqb k j ne)

its_history : (j k : ℕ) (d : Entry) (h : List Tagged) → k ≡ j → own_history k (record { level = j; entry = d } ∷ h) ≡ d ∷ own_history k h
its_history j k d h e = cond-true (eqb k j) (d ∷ own_history k h) (own_history k h) (eq-eqb k j e)

no_history : {h : List Tagged} {w : ℕ → Option Meaning} → Together h w → (k : ℕ) → w k ≡ None → own_history k h ≡ []
no_history nothing k e = refl
no_history (opens {h} {w} j {o} m t free op) k e = let x = put_none j k m w e in other_history j k (opened o) h x.0 ∙ no_history t k x.1
no_history (calls {h} {w} j m y n t at s) k e = let x = put_none j k n w e in other_history j k (called y m.rule n.rule) h x.0 ∙ no_history t k x.1

pub alone : {h : List Tagged} {w : ℕ → Option Meaning} → Together h w → (k : ℕ) (l : Meaning) → w k ≡ Some l → Alone k (own_history k h) l
alone nothing k l e = absurd (none_some None l refl e)
alone (opens {h} {w} j {o} m t free op) k l e =
    ⊎_elim
    (λ q.
    let same : m ≡ l = let x : Some m ≡ Some l = sym (cond-true (eqb k j) (Some m) (w k) (eq-eqb k j q)) ∙ e in cc in
    let p : own_history k (record { level = j; entry = opened o } ∷ h) ≡ opened o ∷ [] = its_history j k (opened o) h q ∙ ap (λ r. opened o ∷ r) (no_history t k (ap w q ∙ free)) in
    subst (λ v. Alone k v l) (sym p) (first (subst (λ x. Opens k o x) same (subst (λ i. Opens i o m) (sym q) op))))
    (λ ne. subst (λ v. Alone k v l) (sym (other_history j k (opened o) h ne)) (alone t k l (sym (cond-false (eqb k j) (Some m) (w k) (ne_eqb k j ne)) ∙ e)))
    (cases_eq k j)
alone (calls {h} {w} j m y n t at s) k l e =
    ⊎_elim
    (λ q.
    let same : n ≡ l = let x : Some n ≡ Some l = sym (cond-true (eqb k j) (Some n) (w k) (eq-eqb k j q)) ∙ e in cc in
    let r = alone t k m (ap w q ∙ at) in
    subst (λ v. Alone k v l) (sym (its_history j k (called y m.rule n.rule) h q))
    (subst (λ x. Alone k (called y m.rule n.rule ∷ own_history k h) x) same (next y r s)))
    (λ ne. subst (λ v. Alone k v l) (sym (other_history j k (called y m.rule n.rule) h ne)) (alone t k l (sym (cond-false (eqb k j) (Some n) (w k) (ne_eqb k j ne)) ∙ e)))
    (cases_eq k j)

pub shared : Shared
shared h w t k m e =
    let r = alone t k m e in
    record { alone = r; number = number_is r; clock = clock_is r; ready = ready_is r; used = used_is r; owner = owner_is r; repeating = repeating r; promises = promises r }

pub goes : (m : Meaning) (e : Event) (n : Meaning) → Step m e n → Goes m e n
goes m e n s h w t at = let t' = calls m.number m e n t at s in (t', shared _ _ t')

pub starts : (k : ℕ) (o : Opening) (m : Meaning) → Opens k o m → Starts k o m
starts k o m op h w t free = let t' = opens k m t free op in (t', shared _ _ t')

pub sharing : Sharing
sharing = record { shared = shared; goes = goes; starts = starts }
