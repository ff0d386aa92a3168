-- Why a queue under a hold of one repeat names 0, 0, 1, 1, 0.
use Rattle.std.proofs.Common.{◌≡◌, ℕ, Bool, true, false, ◌&&◌, ltb, List, [], ◌∷◌, Some, None, MatchBool, Option, refl, ap, ◌∙◌, subst, arith, lit≤}
use Rattle.spare.specs.declared.hold.Hold.{Hold}
use Rattle.spare.specs.declared.queue.Queue.{Queue}
use Rattle.spare.specs.declared.ready.ReadySet.{ReadySet}
use Rattle.spare.specs.Calls.{Ran}
use Rattle.spare.specs.Example.{NewHold, TwoReady, HeldQueueStep, HeldQueueExample}
use Rattle.spare.specs.Sets.{is_ready}
use Rattle.spare.specs.Holds.{Repeats, Asks, Takes, repeating, choice_ready}
use Rattle.spare.specs.Orders.{QueueStep, first_ready, sent_back, in_order}

-- a step of a hold says what it says of any weaker account of the calls below
pub hold_weaker : {R : Type 0} (P Q : R → (ℕ → Bool) → Option ℕ → R → Type 0) → ((x : R) (ready : ℕ → Bool) (o : Option ℕ) (y : R) → P x ready o y → Q x ready o y) → (t : Bool) (h : Hold R) (ready : ℕ → Bool) (o : Option ℕ) (h' : Hold R) → MatchBool t (Repeats h o h') (Asks P ready h o h') → MatchBool t (Repeats h o h') (Asks Q ready h o h')
hold_weaker P Q w true h ready o h' s = s
hold_weaker P Q w false h ready o h' s =
    record { asked = w h.below ready o h'.below s.asked; takes = s.takes; same_repeats = s.same_repeats }

abbrev call : Queue → (ℕ → Bool) → Option ℕ → Queue → Type 0
call q ready name q' = QueueStep q.order ready name q'.order

-- what a hold of one repeat holds
record At (h : Hold Queue) (order : List ℕ) (choice : Option ℕ) (left : ℕ) : Type 0 where
  order_is : h.below.order ≡ order
  repeats_is : h.repeats ≡ 1
  choice_is : h.choice ≡ choice
  left_is : h.left ≡ left

module _ (ready : ℕ → Bool) (h : Hold Queue) (name : Option ℕ) (h' : Hold Queue) (step : HeldQueueStep h ready name h') where
  asked : (order : List ℕ) (choice : Option ℕ) (a : ℕ) (rest : List ℕ) → At h order choice 0 → first_ready ready order ≡ Some a → sent_back ready order ≡ rest → (name ≡ Some a) × At h' rest (Some a) 1
  asked order choice a rest at first sent =
      let not : repeating ready h ≡ false = ap (λ l. ltb 0 l && choice_ready ready h.choice) at.left_is in
      let s = subst (λ (t : Bool). MatchBool t (Repeats h name h') (Asks call ready h name h')) not step in
      let named : name ≡ Some a = s.asked.0 ∙ ap (first_ready ready) at.order_is ∙ first in
      let takes = subst (λ (o : Option ℕ). Takes h o h') named s.takes in (
        named,
        record {
          order_is = s.asked.1 ∙ ap (sent_back ready) at.order_is ∙ sent;
          repeats_is = s.same_repeats ∙ at.repeats_is;
          choice_is = takes.0;
          left_is = takes.1 ∙ at.repeats_is;
        },
      )

  repeated : (order : List ℕ) (a : ℕ) → At h order (Some a) 1 → ready a ≡ true → (name ≡ Some a) × At h' order (Some a) 0
  repeated order a at r =
      let is : repeating ready h ≡ true = ap (λ l. ltb 0 l && choice_ready ready h.choice) at.left_is ∙ ap (choice_ready ready) at.choice_is ∙ r in
      let s = subst (λ (t : Bool). MatchBool t (Repeats h name h') (Asks call ready h name h')) is step in
      let less = s.one_less in
      let one = at.left_is in (
        s.same_name ∙ at.choice_is,
        record {
          order_is = ap (λ (q : Queue). q.order) s.untouched ∙ at.order_is;
          repeats_is = s.same_repeats ∙ at.repeats_is;
          choice_is = s.same_choice ∙ at.choice_is;
          left_is = omega arith;
        },
      )

abbrev second : List ℕ
second = 1 ∷ 2 ∷ 3 ∷ 4 ∷ 5 ∷ 6 ∷ 7 ∷ 8 ∷ 9 ∷ 10 ∷ 11 ∷ 12 ∷ 13 ∷ 14 ∷ 15 ∷ 0 ∷ []

abbrev third : List ℕ
third = 2 ∷ 3 ∷ 4 ∷ 5 ∷ 6 ∷ 7 ∷ 8 ∷ 9 ∷ 10 ∷ 11 ∷ 12 ∷ 13 ∷ 14 ∷ 15 ∷ 0 ∷ 1 ∷ []

-- after two turns everybody before 0 is passed over
passed : (ready : ℕ → Bool) → TwoReady ready → first_ready ready third ≡ Some 0
passed ready t =
    let n = t.others in
    simp (n 2 (lit≤ tt), n 3 (lit≤ tt), n 4 (lit≤ tt), n 5 (lit≤ tt), n 6 (lit≤ tt), n 7 (lit≤ tt), n 8 (lit≤ tt), n 9 (lit≤ tt), n 10 (lit≤ tt), n 11 (lit≤ tt), n 12 (lit≤ tt), n 13 (lit≤ tt), n 14 (lit≤ tt), n 15 (lit≤ tt), t.zero_ready)

pub held_queue_example : HeldQueueExample
held_queue_example ready t h new a b c d e (h₁, s₁, (h₂, s₂, (h₃, s₃, (h₄, s₄, (h₅, s₅, _))))) =
    let start : At h in_order None 0 = record { order_is = new.order_is; repeats_is = new.repeats_is; choice_is = new.choice_is; left_is = new.left_is } in
    let r₀ = t.zero_ready in
    let r₁ = t.one_ready in
    let one = asked ready h a h₁ s₁ in_order None 0 second start (rw r₀) (rw r₀) in
    let two = repeated ready h₁ b h₂ s₂ second 0 one.1 r₀ in
    let three = asked ready h₂ c h₃ s₃ second (Some 0) 1 third two.1 (rw r₁) (rw r₁) in
    let four = repeated ready h₃ d h₄ s₄ third 1 three.1 r₁ in
    let five = asked ready h₄ e h₅ s₅ third (Some 1) 0 (sent_back ready third) four.1 (passed ready t) refl in
    let n₁ = one.0 in
    let n₂ = two.0 in
    let n₃ = three.0 in
    let n₄ = four.0 in
    let n₅ = five.0 in
    cc

-- calls say what they say of any weaker account of a call
pub ran_weaker : {R : Type 0} (P Q : R → (ℕ → Bool) → Option ℕ → R → Type 0) → ((x : R) (ready : ℕ → Bool) (o : Option ℕ) (y : R) → P x ready o y → Q x ready o y) → (x : R) (sets : List ReadySet) (names : List (Option ℕ)) (y : R) → Ran P x sets names y → Ran Q x sets names y
ran_weaker P Q w x [] [] y h = h
ran_weaker P Q w x [] (name ∷ names) y h = h
ran_weaker P Q w x (set ∷ sets) [] y h = h
ran_weaker P Q w x (set ∷ sets) (name ∷ names) y (z, call, rest) = (z, w x (is_ready set) name z call, ran_weaker P Q w z sets names y rest)

-- five calls with one set name whom the example says
pub ran_example : (s : ReadySet) → TwoReady (is_ready s) → (h : Hold Queue) → NewHold h → (names : List (Option ℕ)) (y : Hold Queue) → Ran HeldQueueStep h (s ∷ s ∷ s ∷ s ∷ s ∷ []) names y → names ≡ (Some 0 ∷ Some 0 ∷ Some 1 ∷ Some 1 ∷ Some 0 ∷ [])
ran_example s t h new (a ∷ b ∷ c ∷ d ∷ e ∷ []) y (h₁, s₁, (h₂, s₂, (h₃, s₃, (h₄, s₄, (h₅, s₅, _))))) =
    held_queue_example (is_ready s) t h new a b c d e (h₁, s₁, (h₂, s₂, (h₃, s₃, (h₄, s₄, (h₅, s₅, tt)))))
ran_example s t h new [] y r = absurd r
ran_example s t h new (a ∷ []) y r = absurd r.2
ran_example s t h new (a ∷ b ∷ []) y r = absurd r.2.2
ran_example s t h new (a ∷ b ∷ c ∷ []) y r = absurd r.2.2.2
ran_example s t h new (a ∷ b ∷ c ∷ d ∷ []) y r = absurd r.2.2.2.2
ran_example s t h new (a ∷ b ∷ c ∷ d ∷ e ∷ f ∷ names) y r = absurd r.2.2.2.2.2
