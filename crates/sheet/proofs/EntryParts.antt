-- The steps of reading entries and entry blocks, and why a block that is refused is none.
use Rattle.std.proofs.Common.{◌≡◌, ℕ, ◌+◌, ◌-◌, ◌*◌, ◌/◌, ◌<◌, ◌≤◌, Bool, true, false, List, [], ◌∷◌, ◌++◌, length, get_or, take, drop, MatchBool, sym, refl, ap, ◌∙◌, subst, ⊎_elim, arith}
use Rattle.std.proofs.lemmas.List.{length-append, length-take, length-drop, get_or-take, get_or-drop, get_or_default}
use Rattle.std.proofs.lemmas.Bool.{cases_order}
use Rattle.std.proofs.lemmas.List.FromFn.{length-enumerate_from, get_or-enumerate_from}
use Rattle.std.specs.List.{concat, enumerate_from}
use Rattle.std.specs.Simd.{first_chunks}
use Rattle.plan.specs.declared.entry.Entry.{Entry}
use Rattle.plan.specs.Entries.{blank}
use Rattle.sheet.specs.Format.{byte, two, block, EntryAt, IsEntryBlock, in_block, entry_place}
use Rattle.sheet.specs.Read.{EntriesRead}
use Rattle.sheet.specs.Told.{AllBlocks}
use Rattle.sheet.proofs.Bytes.{block_of, byte_of_chunk, byte_of_block, each_more}

-- a test of one fact is a test of another that holds with it
pub when_like : (r : Bool) (P Q : Type 0) → (P → Q) → (Q → P) → MatchBool r P (P → ⊥) → MatchBool r Q (Q → ⊥)
when_like true P Q f g w = f w
when_like false P Q f g w = λ q. w (g q)

-- what the blocks behind the first give one after the other, each with its number
abbrev pub later : List (List ℕ) → List (ℕ × List ℕ)
later bs = drop 1 (enumerate_from 0 bs)

pub later_block : (bs : List (List ℕ)) → ((k : ℕ) → k < length bs → length (get_or bs k []) ≡ 512) → (m : ℕ) (p : ℕ × List ℕ) → (m < length (later bs)) × (p ≡ get_or (later bs) m p) → (1 + m < length bs) × (p.0 ≡ 1 + m) × (p.1 ≡ block (concat bs) p.0)
later_block bs whole m p (l, e) =
    let long = length-drop 1 (enumerate_from 0 bs) in
    let all = length-enumerate_from 0 bs in
    let within : 1 + m < length bs = omega arith in
    let same : p ≡ (0 + (1 + m), get_or bs (1 + m) p.1) = e ∙ get_or-drop 1 (enumerate_from 0 bs) m p ∙ get_or-enumerate_from 0 bs (1 + m) p within in
    let number : p.0 ≡ 0 + (1 + m) = ap (λ q. q.0) same in
    (within, omega arith, ap (λ q. q.1) same ∙ get_or_default bs (1 + m) p.1 [] within ∙ block_of bs whole (1 + m) within ∙ ap (block (concat bs)) (omega arith))

-- one more block that is as it should be
pub all_more : (s : List ℕ) (entries n : ℕ) → AllBlocks s entries n → IsEntryBlock (block s n) n (in_block entries n) → AllBlocks s entries (n + 1)
all_more s entries n all last = λ k low high.
    ⊎_elim (λ e. subst (λ j. IsEntryBlock (block s j) j (in_block entries j)) (sym e) last) (λ o. ⊎_elim (λ b. all k low b) (λ a. absurd (omega arith)) o) (cases_order k n)

-- the same eight bytes elsewhere
moved : (t s : List ℕ) (q : ℕ) (e : Entry) → ((i j : ℕ) → i < 8 → j ≡ q + i → byte t i ≡ byte s j) → EntryAt t 0 e → EntryAt s q e
moved t s q e same w =
    record {
      activity = w.activity ∙ same 0 q (omega arith) (omega arith);
      depth = w.depth ∙ same 1 (q + 1) (omega arith) refl;
      path = two_moved 2 (omega arith) _ w.path;
      offset = two_moved 4 (omega arith) _ w.offset;
      length = two_moved 6 (omega arith) _ w.length;
    }
  where
    two_moved : (i : ℕ) → i < 7 → (n : ℕ) → n ≡ two t i → n ≡ two s (q + i)
    two_moved i l n e =
        let x = same i (q + i) (omega arith) refl in
        let y = same (i + 1) (q + i + 1) (omega arith) (omega arith) in
        omega arith

-- an entry in a chunk of a block
module _ (s b : List ℕ) (cs : List (List ℕ)) (number m i : ℕ) (is : b ≡ block s number) (long : length b ≡ 512) (cut : cs ≡ first_chunks 8 (length b / 8) b) (first : 1 ≤ number) (few : m ≤ 60) where
  abbrev chunks : List (List ℕ)
  chunks = take (1 + m - 1) (drop 1 cs)

  abbrev chunk : List ℕ
  chunk = get_or chunks i []

  -- one more entry
  pub entries_more : (es : List Entry) (e : Entry) → i < length chunks → EntriesRead s (60 * (number - 1) + i) es → EntryAt chunk 0 e → EntriesRead s (60 * (number - 1) + (i + 1)) (es ++ e ∷ [])
  entries_more es e turn w here =
      let many = w.many in
      record {
        many = simp length-append (omega arith);
        each = λ j l. each_more (λ j. EntryAt s (entry_place j)) (60 * (number - 1) + i) es e blank w.many w.each (moved chunk s (entry_place (60 * (number - 1) + i)) e at_entry here) j (omega arith);
      }
    where
      low : i < m
      low = let e = length-take (1 + m - 1) (drop 1 cs) in omega arith

      chunk_is : chunk ≡ get_or (first_chunks 8 (length b / 8) b) (1 + i) []
      chunk_is = get_or-take _ (drop 1 cs) i [] (let l = low in omega arith) ∙ get_or-drop 1 cs i [] ∙ ap (λ x. get_or x (1 + i) []) cut

      at_entry : (j k : ℕ) → j < 8 → k ≡ entry_place (60 * (number - 1) + i) + j → byte chunk j ≡ byte s k
      at_entry j k small e =
          let l = low in
          byte_of_chunk 8 (length b / 8) b (1 + i) chunk chunk_is (omega arith) j (8 * (1 + i) + j) small refl
          ∙ ap (λ x. byte x (8 * (1 + i) + j)) is
          ∙ byte_of_block s number (8 * (1 + i) + j) k (omega arith) (omega arith)
