-- What the queue's search tells of its choice.
use Rattle.std.proofs.Common.{◌≡◌, ℕ, ◌<◌, ◌≤◌, List, length, get_or, Some, None, sym, refl, ap, ◌∙◌, subst, arith}
use Rattle.spare.specs.declared.ready.ReadySet.{ReadySet}
use Rattle.spare.specs.Chosen.{NamesNobody, Names}
use Rattle.spare.specs.Orders.{EachOnce, first_ready, sent_back, place_of, times}
use Rattle.spare.specs.Search.{moved, NoneIn, FirstAt}
use Rattle.spare.specs.Sets.{is_ready}
use Rattle.spare.specs.OrdersLemmas.{has_place, length_moved, times_moved, all_moved, comes_nearer, none_ready, found_at, found_none}
use Rattle.spare.specs.SetsLemmas.{member_known, from_below}

-- an order stays one, whoever goes to the end
pub kept : (xs : List ℕ) (j : ℕ) (ys : List ℕ) → ys ≡ moved xs j → j < 16 → EachOnce xs → EachOnce ys
kept xs j ys e h each = record {
  long = ap length e ∙ length_moved xs j ∙ each.long;
  known = subst (λ (zs : List ℕ). (k : ℕ) → k < 16 → get_or zs k 0 < 16) (sym e) (all_moved (λ x. x < 16) xs j each.long h each.known);
  once = λ a l. ap (times a) e ∙ times_moved a xs j ∙ each.once a l;
}

-- an order of all sixteen, each once
module _ (s : ReadySet) (xs : List ℕ) (each : EachOnce xs) where
  stands : (a : ℕ) → a < 16 → place_of a xs < length xs
  stands a h = has_place a xs (omega (arith, each.once a h))

  long : length xs ≡ 16
  long = each.long

  pub nobody : NoneIn (is_ready s) xs → NamesNobody (is_ready s) (λ a. place_of a xs) 15 (λ a. place_of a xs) 15
  nobody h =
      record {
        idle = from_below s (λ a l. none_ready (is_ready s) xs h a (stands a l));
        distances = λ a. refl;
        steady = refl;
      }

  pub stays : NoneIn (is_ready s) xs → (None ≡ first_ready (is_ready s) xs) × (xs ≡ sent_back (is_ready s) xs)
  stays h = let f = found_none (is_ready s) xs h in (sym f.0, sym f.1)

  module _ (i : ℕ) (f : FirstAt (is_ready s) xs i) where
    pub names : (j : ℕ) → j ≤ i → (ys : List ℕ) → ys ≡ moved xs j → Names (get_or xs i 0) (is_ready s) (λ a. place_of a xs) 15 (λ a. place_of a ys) 15
    names j h ys e =
        record {
          known = each.known i (omega (arith, f.within));
          member = f.here;
          nearer = λ b r other. subst (λ (zs : List ℕ). place_of b zs < place_of b xs) (sym e) (comes_nearer (is_ready s) xs i j b h f.before (stands b (member_known s b r)) r other);
          steady = refl;
        }

    pub moves : (ys : List ℕ) → ys ≡ moved xs i → (Some (get_or xs i 0) ≡ first_ready (is_ready s) xs) × (ys ≡ sent_back (is_ready s) xs)
    moves ys e =
        let g = found_at (is_ready s) xs i f in
        (sym g.first, e ∙ sym g.sent)
