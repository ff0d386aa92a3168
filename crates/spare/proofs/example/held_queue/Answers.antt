use Rattle.std.proofs.Common.{◌≡◌, ℕ, ◌+◌, ◌*◌, Bool, List, [], ◌∷◌, take, Option, ap, ◌∙◌, subst, arith}
use Rattle.std.proofs.lemmas.List.{take_all}
use Rattle.spare.specs.declared.hold.Hold.{Hold}
use Rattle.spare.specs.declared.queue.Queue.{Queue}
use Rattle.spare.specs.Asking.{CallOf}
use Rattle.spare.specs.Calls.{Ran}
use Rattle.spare.specs.Example.{NewHold, TwoReady, HeldQueueStep}
use Rattle.spare.specs.Holds.{HoldStep, repeating}
use Rattle.spare.specs.Orders.{QueueStep, place_of}
use Rattle.spare.specs.Sets.{is_ready}
use Rattle.spare.proofs.Examples.{hold_weaker, held_queue_example, ran_weaker, ran_example}
use Rattle.spare.proofs.example.held_queue.Goals as goal

-- what the queue's call says, by its own clause alone
abbrev Whole : Queue → (ℕ → Bool) → Option ℕ → Queue → Type 0
Whole = CallOf (record { distance = λ q a. place_of a q.order; patience = λ q. 15; step = λ q ready name q'. QueueStep q.order ready name q'.order })

own : (h : Hold Queue) (ready : ℕ → Bool) (o : Option ℕ) (h' : Hold Queue) → HoldStep Whole h ready o h' → HeldQueueStep h ready o h'
own h ready o h' s = hold_weaker Whole (λ q r n q'. QueueStep q.order r n q'.order) (λ x r n y w. w.1) (repeating ready h) h ready o h' s

-- and what the hold's call says over it
abbrev WholeHold : Hold Queue → (ℕ → Bool) → Option ℕ → Hold Queue → Type 0
WholeHold = CallOf (record { distance = λ h a. (h.repeats + 1) * place_of a h.below.order + h.left; patience = λ h. (h.repeats + 1) * 15 + h.repeats; step = HoldStep Whole })

pub returns : goal.returns
returns c =
    let set = c.with-ready.result in
    let two : TwoReady (is_ready set) = record {
      zero_ready = c.with-ready.ensures.others 0 (λ e. omega arith) ∙ c.with.ensures.member (omega arith);
      one_ready = c.with-ready.ensures.member (omega arith);
      others = λ a h. c.with-ready.ensures.others a (λ e. omega arith) ∙ c.with.ensures.others a (λ e. omega arith) ∙ c.empty.ensures a;
    } in
    let new : NewHold c.new-rule.result = record {
      order_is = ap (λ (q : Queue). q.order) c.new-rule.ensures.below ∙ c.new.ensures;
      repeats_is = c.new-rule.ensures.repeats;
      choice_is = c.new-rule.ensures.choice;
      left_is = c.new-rule.ensures.left;
    } in
    let n = c.name_each.result in
    let sets = set ∷ set ∷ set ∷ set ∷ set ∷ [] in
    let names = c.name_each.new.names in
    let five : n ≡ 5 = omega (arith, c.name_each.ensures.count) in
    let ran = ran_weaker WholeHold HeldQueueStep (λ x r o y w. own x r o y w.1) c.new-rule.result (take n sets) (take n names) c.name_each.new.rule c.name_each.ensures.ran in
    let all : take n names ≡ names = take_all n names (omega arith) in
    let whole = subst (λ (k : ℕ). Ran HeldQueueStep c.new-rule.result (take k sets) (take n names) c.name_each.new.rule) five ran in
    record {
      names = ran_example set two c.new-rule.result new names c.name_each.new.rule (subst (λ (ns : List (Option ℕ)). Ran HeldQueueStep c.new-rule.result sets ns c.name_each.new.rule) all whole);
      always = held_queue_example;
    }
