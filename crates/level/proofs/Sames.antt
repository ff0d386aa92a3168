-- A call with one answer leaves one level.
use Rattle.std.proofs.Common.{◌≡◌, ℕ, Bool, true, false, cond, ◌⊎◌, ℤ, Some, None, Option, sym, refl, ap, ◌∙◌, subst, inl, inr, ⊎_elim, arith}
use Rattle.std.proofs.lemmas.Int.{ints, by_lt_z}
use Rattle.std.proofs.lemmas.Bool.{cases_eq}
use Rattle.level.specs.declared.ticked.Letter.{Letter}
use Rattle.level.specs.declared.ticked.Letter.TheVariants.{Constrained, Reserved, Spare, Idle}
use Rattle.level.specs.Meaning.{Constraint, Meaning, Event, woke, blocked, began, ended, left, collected, told, ticked, refused}
use Rattle.level.specs.Refusals.{available, own}
use Rattle.level.specs.Steps.{Step, Kept, Beside, Switched, Reseated, Handed, By, SameLevel, with_ticket, one_more_run}
use Rattle.level.proofs.Counts.{some_or_not}
use Rattle.level.proofs.Unique.{chosen_once}

same_parts :
    (m n o : Meaning) → Kept m n → Kept m o → o.clock ≡ n.clock → ((a : ℕ) → o.ready a ≡ n.ready a) → ((s : ℕ) → o.seats s ≡ n.seats s) →
    ((t : ℤ) → o.marks t ≡ n.marks t) → ((a : ℕ) → o.used a ≡ n.used a) → SameLevel n o
same_parts m n o k j c r s t u = record {
  number = j.number ∙ sym k.number;
  clock = c;
  owner = j.owner ∙ sym k.owner;
  cycle = j.cycle ∙ sym k.cycle;
  ready = r;
  seats = s;
  marks = t;
  used = u;
  patience = j.patience ∙ sym k.patience;
}

same_switched : (to : Bool) (m : Meaning) (a : ℕ) (n o : Meaning) → Switched to m a n → Switched to m a o → SameLevel n o
same_switched to m a n o s t =
    same_parts m n o s.kept t.kept (t.clock ∙ sym s.clock) (λ b. t.ready b ∙ sym (s.ready b)) (λ k. ap (λ f. f k) (t.seats ∙ sym s.seats))
    (λ u. ap (λ f. f u) (t.marks ∙ sym s.marks)) (λ b. ap (λ f. f b) (t.used ∙ sym s.used))

same_seats : (m : Meaning) (s : ℕ) (to to' : Option Constraint) (n o : Meaning) → to' ≡ to → Reseated m s to n → Reseated m s to' o → (k : ℕ) → o.seats k ≡ n.seats k
same_seats m s to to' n o e x y k =
    ⊎_elim
    (λ q. ap o.seats q ∙ y.seat ∙ e ∙ sym (ap n.seats q ∙ x.seat))
    (λ ne. y.others k ne ∙ sym (x.others k ne))
    (cases_eq k s)

same_beside :
    (m n o : Meaning) → Beside m n → Beside m o → ((s : ℕ) → o.seats s ≡ n.seats s) → ((t : ℤ) → o.marks t ≡ n.marks t) → SameLevel n o
same_beside m n o x y s t =
    same_parts m n o x.kept y.kept (y.clock ∙ sym x.clock) (λ a. ap (λ f. f a) (y.ready ∙ sym x.ready)) s t (λ a. ap (λ f. f a) (y.used ∙ sym x.used))

same_held : (m : Meaning) (s : ℕ) (h g : Constraint) → m.seats s ≡ Some h → m.seats s ≡ Some g → h ≡ g
same_held m s h g x y = cc

same_handed : (m : Meaning) (s : ℕ) (out : Bool) (n o : Meaning) → Handed m s out n → Handed m s out o → SameLevel n o
same_handed m s out n o x y =
    same_beside m n o x.beside y.beside
    (same_seats m s _ _ n o (ap (λ h. Some (with_ticket out h)) (same_held m s y.was x.was y.at x.at)) x.seat y.seat)
    (λ t. ap (λ f. f t) (y.marks ∙ sym x.marks))

same_by : (l : Letter) (r : Option ℕ) (m n o : Meaning) → By m l r n → By m l r o → (k : ℕ) → o.seats k ≡ n.seats k
same_by (Constrained s) None m n o x y k = absurd x
same_by (Constrained s) (Some a) m n o x y k =
    same_seats m s _ _ n o (ap (λ h. Some (one_more_run h)) (same_held m s y.0.held x.0.held y.0.seat x.0.seat)) x.1 y.1 k
same_by Reserved None m n o x y k = absurd x
same_by Reserved (Some a) m n o x y k = ap (λ f. f k) (y.1 ∙ sym x.1)
same_by Spare None m n o x y k = absurd x
same_by Spare (Some a) m n o x y k = ap (λ f. f k) (y.1 ∙ sym x.1)
same_by Idle None m n o x y k = ap (λ f. f k) (y.1 ∙ sym x.1)
same_by Idle (Some a) m n o x y k = absurd x

-- a tick is the one at the clock, or not
here_or_not : (u c : ℤ) → (u ≡ c) ⊎ (u ≡ c → ⊥)
here_or_not u c =
    by_lt_z u c
    (λ l. inr (λ e. omega (arith, ints)))
    (λ l. by_lt_z c u (λ k. inr (λ e. omega (arith, ints))) (λ k. inl (omega (arith, ints))))

one_level : (m n o : Meaning) → n ≡ m → o ≡ m → SameLevel n o
one_level m n o x y =
    subst (λ z. SameLevel n z) (x ∙ sym y)
    (record { number = refl; clock = refl; owner = refl; cycle = refl; ready = λ a. refl; seats = λ k. refl; marks = λ u. refl; used = λ a. refl; patience = refl })

pub same_level : (e : Event) (m n o : Meaning) → Step m e n → Step m e o → SameLevel n o
same_level (woke a) m n o s t = same_switched true m a n o s.1 t.1
same_level (blocked a) m n o s t = same_switched false m a n o s.1 t.1
same_level (began k a v e d x) m n o s t =
    same_beside m n o s.1.beside t.1.beside (same_seats m k _ _ n o refl s.1.seat t.1.seat)
    (λ u. t.1.marks u ∙ ap (λ b. cond b (Some k) (m.marks u)) (chosen_once (available m a) (own m a) v d e t.1.chosen s.1.chosen t.1.choice s.1.choice u) ∙ sym (s.1.marks u))
same_level (ended x c) m n o s t =
    same_beside m n o s.1.beside t.1.beside (same_seats m x.seat _ _ n o refl s.1.seat t.1.seat)
    (λ u. ⊎_elim (λ q. t.1.gone u q ∙ sym (s.1.gone u q)) (λ q. t.1.others u q ∙ sym (s.1.others u q)) (some_or_not x.seat (m.marks u)))
same_level (left x) m n o s t = same_handed m x.seat false n o s.1 t.1
same_level (collected k x) m n o s t = same_handed m k true n o s.1 t.1
same_level (told a c) m n o s t = one_level m n o s.2 t.2
same_level (ticked e) m n o s t =
    same_parts m n o s.1.kept t.1.kept (t.1.clock ∙ sym s.1.clock) (λ a. ap (λ f. f a) (t.1.ready ∙ sym s.1.ready))
    (same_by e.letter e.runner m n o s.1.by t.1.by)
    (λ u. ⊎_elim
    (λ q. ap o.marks q ∙ t.1.spent ∙ sym (ap n.marks q ∙ s.1.spent))
    (λ q. t.1.others u q ∙ sym (s.1.others u q))
    (here_or_not u m.clock))
    (λ a. t.1.used a ∙ sym (s.1.used a))
same_level (refused q r) m n o s t = one_level m n o s.same t.same
