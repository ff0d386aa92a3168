-- A queue under a hold names one activity, and no other.
use Rattle.std.proofs.Common.{◌≡◌, ℕ, ◌+◌, ◌*◌, Bool, true, false, ◌&&◌, ltb, List, Some, None, MatchBool, Option, sym, ap, ◌∙◌, subst, arith}
use Rattle.spare.specs.declared.hold.Hold.{Hold}
use Rattle.spare.specs.declared.queue.Queue.{Queue}
use Rattle.spare.specs.Holds.{choice_ready, repeating, Repeats, Takes, Asks, HoldStep}
use Rattle.spare.specs.Orders.{first_ready, sent_back, place_of}
use Rattle.level.specs.Meaning.{Rule}
use Rattle.spare.specs.Asking.{CallOf}
use Rattle.rehearsal.specs.Whole.{queues, held}

-- two holds that hold the same
pub record SameRule (h g : Hold Queue) : Type 0 where
  pub order : g.below.order ≡ h.below.order
  pub repeats : g.repeats ≡ h.repeats
  pub choice : g.choice ≡ h.choice
  pub left : g.left ≡ h.left

-- a rule goes on as it was
pub same_on : (h h' g g' : Hold Queue) → SameRule h g → h' ≡ h → g' ≡ g → SameRule h' g'
same_on h h' g g' s e f = subst (λ (x : Hold Queue). SameRule x g') (sym e) (subst (λ (y : Hold Queue). SameRule h y) (sym f) s)

rule_from : List ℕ → ℕ → ℕ → Rule
rule_from order repeats left = record { distance = λ a. (repeats + 1) * place_of a order + left; patience = (repeats + 1) * 15 + repeats }

-- and means the same
pub same_meaning : (h g : Hold Queue) → SameRule h g →
    ◌≡◌ {A = Rule} (record { distance = held.distance g; patience = held.patience g }) (record { distance = held.distance h; patience = held.patience h })
unfolding rule_from
same_meaning h g s =
    ap (λ z. rule_from z g.repeats g.left) s.order
    ∙ (ap (λ z. rule_from h.below.order z g.left) s.repeats ∙ ap (λ z. rule_from h.below.order h.repeats z) s.left)

module _ (ready : ℕ → Bool) (h g h' g' : Hold Queue) (s : SameRule h g) (n m : Option ℕ) where
  repeats_once : Repeats h n h' → Repeats g m g' → (m ≡ n) × SameRule h' g'
  repeats_once a b = (
    b.same_name ∙ (s.choice ∙ sym a.same_name),
    record {
      order = ap (λ (q : Queue). q.order) b.untouched ∙ (s.order ∙ ap (λ (q : Queue). q.order) (sym a.untouched));
      repeats = b.same_repeats ∙ (s.repeats ∙ sym a.same_repeats);
      choice = b.same_choice ∙ (s.choice ∙ sym a.same_choice);
      left = omega (arith, a.one_less, b.one_less, s.left);
    },
  )

  takes_once : (x y : Option ℕ) → y ≡ x → Takes h x h' → Takes g y g' → (g'.choice ≡ h'.choice) × (g'.left ≡ h'.left)
  takes_once None None e a b = (b.0 ∙ (s.choice ∙ sym a.0), b.1 ∙ (s.left ∙ sym a.1))
  takes_once (Some x) (Some y) e a b = (b.0 ∙ (e ∙ sym a.0), b.1 ∙ (s.repeats ∙ sym a.1))
  takes_once None (Some y) e a b = let z : ◌≡◌ {A = ℕ} 0 1 = cc in absurd (omega arith)
  takes_once (Some x) None e a b = let z : ◌≡◌ {A = ℕ} 0 1 = cc in absurd (omega arith)

  asks_once : Asks (CallOf queues) ready h n h' → Asks (CallOf queues) ready g m g' → (m ≡ n) × SameRule h' g'
  asks_once a b =
      let name : m ≡ n = b.asked.1.0 ∙ (ap (first_ready ready) s.order ∙ sym a.asked.1.0) in
      let kept = takes_once n m name a.takes b.takes in (
        name,
        record {
          order = b.asked.1.1 ∙ (ap (sent_back ready) s.order ∙ sym a.asked.1.1);
          repeats = b.same_repeats ∙ (s.repeats ∙ sym a.same_repeats);
          choice = kept.0;
          left = kept.1;
        },
      )

  pub hold_once : HoldStep (CallOf queues) h ready n h' → HoldStep (CallOf queues) g ready m g' → (m ≡ n) × SameRule h' g'
  hold_once a b =
      by (repeating ready h) (repeating ready g)
      (ap (λ z. ltb 0 z && choice_ready ready g.choice) s.left ∙ ap (λ z. ltb 0 h.left && choice_ready ready z) s.choice) a b
    where
      by : (x y : Bool) → y ≡ x → MatchBool x (Repeats h n h') (Asks (CallOf queues) ready h n h') → MatchBool y (Repeats g m g') (Asks (CallOf queues) ready g m g') → (m ≡ n) × SameRule h' g'
      by true true e a b = repeats_once a b
      by false false e a b = asks_once a b
      by true false e a b = let z : ◌≡◌ {A = ℕ} 0 1 = cc in absurd (omega arith)
      by false true e a b = let z : ◌≡◌ {A = ℕ} 0 1 = cc in absurd (omega arith)
