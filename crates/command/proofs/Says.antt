-- Lines read back are those that were written: whole lines.
use Rattle.std.proofs.Common.{◌≡◌, ℕ, ◌≤◌, Bool, true, false, cond, eqb, List, [], ◌∷◌, ◌++◌, drop, ℤ, is_some, Some, None, Ok, Err, decimal, Option, Result, sym, refl, ap, ◌∙◌, subst, append_assoc, arith}
use Rattle.std.specs.Fmt.{signed_decimal}
use Rattle.std.proofs.lemmas.Bool.Decides.{nat_tests}
use Rattle.std.proofs.lemmas.Bool.{cond-false}
use Rattle.command.specs.declared.command.Command.{Command}
use Rattle.command.specs.declared.command.Command.TheVariants.{Open, Wake, Block, Tick, Begin, End}
use Rattle.command.specs.declared.command.ScriptFault.{ScriptFault}
use Rattle.command.specs.declared.command.ScriptFault.TheVariants.{Malformed}
use Rattle.command.specs.Grammar.{InRange, command_text, Begins, Reads, ReadOnce}
use Rattle.command.specs.Reading.{and_then, expected, field_in, field_rest, signed_field_in, signed_field_rest, open_in, open_rest, wake_in, block_in, tick_in, end_in, begin_in, begin_rest, fields_in, fields_rest, line_in, line_rest}
use Rattle.command.proofs.Numerals.{slipped, then_from}
use Rattle.command.proofs.Lines.{byte_there, field_there, field_read, signed_field_there, signed_field_read}

abbrev Said : ℕ → List ℕ → Command → List ℕ → Type 0
Said b bs c ys = (b ∷ bs ≡ command_text c ++ ys) × InRange c

same_ok : {A : Type 0} (x y : A) → ◌≡◌ {A = Option A} (Some x) (Some y) → x ≡ y
same_ok x y e = cc

-- a letter and one field
one_there : (make : ℕ → Command) (b : ℕ) → ((a : ℕ) → command_text (make a) ≡ b ∷ 32 ∷ decimal a) → ((a : ℕ) → a ≤ 65535 → InRange (make a))
    → (bs : List ℕ) (c : Command) → and_then (field_in 65535 bs) (λ a. Some (make a)) ≡ Some c → Said b bs c (field_rest bs)
one_there make b text range bs c e =
    let a = then_from (field_in 65535 bs) (λ a. Some (make a)) c e in
    let f = field_there 65535 bs a.0 a.1.0 in
    subst (λ (d : Command). Said b bs d (field_rest bs)) (same_ok (make a.0) c a.1.1)
    (ap (λ z. b ∷ z) f.0 ∙ ap (λ z. z ++ field_rest bs) (sym (text a.0)), range a.0 f.1)

wake_there : (bs : List ℕ) (c : Command) → wake_in bs ≡ Some c → Said 119 bs c (field_rest bs)
unfolding wake_in
wake_there = one_there Wake 119 (λ a. refl) (λ a h. h)

block_there : (bs : List ℕ) (c : Command) → block_in bs ≡ Some c → Said 98 bs c (field_rest bs)
unfolding block_in
block_there = one_there Block 98 (λ a. refl) (λ a h. h)

end_there : (bs : List ℕ) (c : Command) → end_in bs ≡ Some c → Said 101 bs c (field_rest bs)
unfolding end_in
end_there = one_there End 101 (λ a. refl) (λ a h. h)

some_ticks : (n : ℕ) (c : Command) → cond (eqb n 0) None (Some (Tick n)) ≡ Some c → (1 ≤ n) × (Tick n ≡ c)
some_ticks n c e = by (eqb n 0) refl e
  where
    by : (b : Bool) → eqb n 0 ≡ b → cond b None (Some (Tick n)) ≡ Some c → (1 ≤ n) × (Tick n ≡ c)
    by true h e = absurd (slipped c e)
    by false h e = (grind (arith, nat_tests), same_ok (Tick n) c e)

tick_there : (bs : List ℕ) (c : Command) → tick_in bs ≡ Some c → Said 116 bs c (field_rest bs)
unfolding tick_in
tick_there bs c e =
    let a = then_from (field_in 9999 bs) (λ n. cond (eqb n 0) None (Some (Tick n))) c e in
    let f = field_there 9999 bs a.0 a.1.0 in
    let s = some_ticks a.0 c a.1.1 in
    subst (λ (d : Command). Said 116 bs d (field_rest bs)) s.1 (ap (λ z. 116 ∷ z) f.0, (s.0, f.1))

two_parts : (t u : List ℕ) (r0 r1 r2 : List ℕ) → r0 ≡ 32 ∷ (t ++ r1) → r1 ≡ 32 ∷ (u ++ r2) → 111 ∷ r0 ≡ (111 ∷ 32 ∷ (t ++ (32 ∷ u))) ++ r2
two_parts t u r0 r1 r2 p q =
    ap (λ z. 111 ∷ z) (p ∙ ap (λ z. 32 ∷ (t ++ z)) q) ∙ ap (λ z. 111 ∷ 32 ∷ z) (sym (append_assoc t (32 ∷ u) r2))

open_there : (bs : List ℕ) (c : Command) → open_in bs ≡ Some c → Said 111 bs c (open_rest bs)
unfolding open_in open_rest
open_there bs c e =
    let a = then_from (signed_field_in bs) (λ t. and_then (field_in 255 (signed_field_rest bs)) (λ r. Some (Open t r))) c e in
    let b = then_from (field_in 255 (signed_field_rest bs)) (λ r. Some (Open a.0 r)) c a.1.1 in
    let f = signed_field_there bs a.0 a.1.0 in
    let g = field_there 255 (signed_field_rest bs) b.0 b.1.0 in
    subst (λ (d : Command). Said 111 bs d (field_rest (signed_field_rest bs))) (same_ok (Open a.0 b.0) c b.1.1)
    (two_parts (signed_decimal a.0) (decimal b.0) bs (signed_field_rest bs) _ f.0 g.0, (f.1, g.1))

flat : (s a t d e r : List ℕ)
    → (s ++ (32 ∷ (a ++ (32 ∷ (t ++ (32 ∷ (d ++ (32 ∷ e)))))))) ++ r ≡ s ++ (32 ∷ (a ++ (32 ∷ (t ++ (32 ∷ (d ++ (32 ∷ (e ++ r))))))))
flat s a t d e r = simp append_assoc

five_parts : (s a t d e : List ℕ) (r0 r1 r2 r3 r4 r5 : List ℕ) → r0 ≡ 32 ∷ (s ++ r1) → r1 ≡ 32 ∷ (a ++ r2) → r2 ≡ 32 ∷ (t ++ r3) → r3 ≡ 32 ∷ (d ++ r4) → r4 ≡ 32 ∷ (e ++ r5)
    → 99 ∷ r0 ≡ (99 ∷ 32 ∷ (s ++ (32 ∷ (a ++ (32 ∷ (t ++ (32 ∷ (d ++ (32 ∷ e))))))))) ++ r5
five_parts s a t d e r0 r1 r2 r3 r4 r5 p0 p1 p2 p3 p4 =
    ap (λ z. 99 ∷ z) (p0 ∙ ap (λ z. 32 ∷ (s ++ z)) (p1 ∙ ap (λ z. 32 ∷ (a ++ z)) (p2 ∙ ap (λ z. 32 ∷ (t ++ z)) (p3 ∙ ap (λ z. 32 ∷ (d ++ z)) p4))))
    ∙ ap (λ z. 99 ∷ 32 ∷ z) (sym (flat s a t d e r5))

begin_there : (bs : List ℕ) (c : Command) → begin_in bs ≡ Some c → Said 99 bs c (begin_rest bs)
unfolding begin_in begin_rest
begin_there bs c e =
    let r1 = field_rest bs in
    let r2 = field_rest r1 in
    let r3 = signed_field_rest r2 in
    let r4 = signed_field_rest r3 in
    let p = then_from (field_in 65535 bs) (λ s. and_then (field_in 65535 r1) (λ a. and_then (signed_field_in r2) (λ t. and_then (signed_field_in r3) (λ d. and_then (field_in 65535 r4) (λ e. Some (Begin s a t d e)))))) c e in
    let q = then_from (field_in 65535 r1) (λ a. and_then (signed_field_in r2) (λ t. and_then (signed_field_in r3) (λ d. and_then (field_in 65535 r4) (λ e. Some (Begin p.0 a t d e))))) c p.1.1 in
    let u = then_from (signed_field_in r2) (λ t. and_then (signed_field_in r3) (λ d. and_then (field_in 65535 r4) (λ e. Some (Begin p.0 q.0 t d e)))) c q.1.1 in
    let v = then_from (signed_field_in r3) (λ d. and_then (field_in 65535 r4) (λ e. Some (Begin p.0 q.0 u.0 d e))) c u.1.1 in
    let w = then_from (field_in 65535 r4) (λ e. Some (Begin p.0 q.0 u.0 v.0 e)) c v.1.1 in
    let f0 = field_there 65535 bs p.0 p.1.0 in
    let f1 = field_there 65535 r1 q.0 q.1.0 in
    let f2 = signed_field_there r2 u.0 u.1.0 in
    let f3 = signed_field_there r3 v.0 v.1.0 in
    let f4 = field_there 65535 r4 w.0 w.1.0 in
    subst (λ (d : Command). Said 99 bs d (field_rest (signed_field_rest (signed_field_rest (field_rest (field_rest bs))))))
    (same_ok (Begin p.0 q.0 u.0 v.0 w.0) c w.1.1) (
      five_parts (decimal p.0) (decimal q.0) (signed_decimal u.0) (signed_decimal v.0) (decimal w.0) bs r1 r2 r3 r4 _ f0.0 f1.0 f2.0 f3.0 f4.0,
      (f0.1, f1.1, f2.1, f3.1, f4.1),
    )

is_byte : (b k : ℕ) → eqb b k ≡ true → k ≡ b
is_byte b k e = grind (arith, nat_tests)

fields_there : (b : ℕ) (bs : List ℕ) (c : Command) → fields_in b bs ≡ Some c → Said b bs c (fields_rest b bs)
unfolding fields_in fields_rest
fields_there b bs c e = by (eqb b 111) (eqb b 119) (eqb b 98) (eqb b 116) (eqb b 99) (eqb b 101) refl refl refl refl refl refl e
  where
    by : (o w k t g n : Bool) → eqb b 111 ≡ o → eqb b 119 ≡ w → eqb b 98 ≡ k → eqb b 116 ≡ t → eqb b 99 ≡ g → eqb b 101 ≡ n
        → cond o (open_in bs) (cond w (wake_in bs) (cond k (block_in bs) (cond t (tick_in bs) (cond g (begin_in bs) (cond n (end_in bs) None))))) ≡ Some c
        → Said b bs c (cond o (open_rest bs) (cond g (begin_rest bs) (field_rest bs)))
    by true w k t g n ho hw hk ht hg hn e = subst (λ (z : ℕ). Said z bs c (open_rest bs)) (is_byte b 111 ho) (open_there bs c e)
    by false true k t true n ho hw hk ht hg hn e = absurd (grind (arith, nat_tests))
    by false true k t false n ho hw hk ht hg hn e = subst (λ (z : ℕ). Said z bs c (field_rest bs)) (is_byte b 119 hw) (wake_there bs c e)
    by false false true t true n ho hw hk ht hg hn e = absurd (grind (arith, nat_tests))
    by false false true t false n ho hw hk ht hg hn e = subst (λ (z : ℕ). Said z bs c (field_rest bs)) (is_byte b 98 hk) (block_there bs c e)
    by false false false true true n ho hw hk ht hg hn e = absurd (grind (arith, nat_tests))
    by false false false true false n ho hw hk ht hg hn e = subst (λ (z : ℕ). Said z bs c (field_rest bs)) (is_byte b 116 ht) (tick_there bs c e)
    by false false false false true n ho hw hk ht hg hn e = subst (λ (z : ℕ). Said z bs c (begin_rest bs)) (is_byte b 99 hg) (begin_there bs c e)
    by false false false false false true ho hw hk ht hg hn e = subst (λ (z : ℕ). Said z bs c (field_rest bs)) (is_byte b 101 hn) (end_there bs c e)
    by false false false false false false ho hw hk ht hg hn e = absurd (slipped c e)

-- a line that is read says its command
pub line_there : (xs : List ℕ) (c : Command) → line_in xs ≡ Some c → Begins xs c (line_rest xs)
unfolding line_in line_rest
line_there [] c e = absurd (slipped c e)
line_there (b ∷ bs) c e =
    let a = then_from (fields_in b bs) (λ d. and_then (expected 10 (fields_rest b bs)) (λ _. Some d)) c e in
    let n = then_from (expected 10 (fields_rest b bs)) (λ _. Some a.0) c a.1.1 in
    let f = fields_there b bs a.0 a.1.0 in
    let same = same_ok a.0 c n.1.1 in
    record {
      range = subst (λ (d : Command). InRange d) same f.1;
      line = f.0 ∙ (ap (λ z. command_text a.0 ++ z) (byte_there 10 (fields_rest b bs) n.1.0) ∙ ap (λ d. command_text d ++ (10 ∷ drop 1 (fields_rest b bs))) same);
    }

ended_here : (r : Option Command) (rest : List ℕ) (c : Command) (ys : List ℕ) → r ≡ Some c → rest ≡ 10 ∷ ys
    → (and_then r (λ d. and_then (expected 10 rest) (λ _. Some d)) ≡ Some c) × (drop 1 rest ≡ ys)
ended_here r rest c ys p q = (
  ap (λ z. and_then z (λ d. and_then (expected 10 rest) (λ _. Some d))) p ∙ ap (λ z. and_then (expected 10 z) (λ _. Some c)) q,
  ap (drop 1) q,
)

-- one field that was written is read
one_read : (make : ℕ → Command) (a : ℕ) (ys : List ℕ) → a ≤ 65535
    → (and_then (and_then (field_in 65535 (32 ∷ (decimal a ++ (10 ∷ ys)))) (λ b. Some (make b)))
    (λ d. and_then (expected 10 (field_rest (32 ∷ (decimal a ++ (10 ∷ ys))))) (λ _. Some d)) ≡ Some (make a))
    × (drop 1 (field_rest (32 ∷ (decimal a ++ (10 ∷ ys)))) ≡ ys)
one_read make a ys r =
    let f = field_read 65535 a (10 ∷ ys) r (omega arith) refl in
    let bs = 32 ∷ (decimal a ++ (10 ∷ ys)) in
    ended_here (and_then (field_in 65535 bs) (λ b. Some (make b))) (field_rest bs) (make a) ys (ap (λ z. and_then z (λ b. Some (make b))) f.0) f.1

chained : (bs : List ℕ) (s a : ℕ) (t d : ℤ) (e : ℕ) → field_in 65535 bs ≡ Some s → field_in 65535 (field_rest bs) ≡ Some a
    → signed_field_in (field_rest (field_rest bs)) ≡ Some t → signed_field_in (signed_field_rest (field_rest (field_rest bs))) ≡ Some d
    → field_in 65535 (signed_field_rest (signed_field_rest (field_rest (field_rest bs)))) ≡ Some e → begin_in bs ≡ Some (Begin s a t d e)
unfolding begin_in
chained bs s a t d e p0 p1 p2 p3 p4 = rw (p0, p1, p2, p3, p4)

abbrev Read : ℕ → List ℕ → Command → List ℕ → Type 0
Read b bs c ys = (line_in (b ∷ bs) ≡ Some c) × (line_rest (b ∷ bs) ≡ ys)

-- a line that says a command is read
pub line_read : (c : Command) (ys : List ℕ) → InRange c → (line_in (command_text c ++ (10 ∷ ys)) ≡ Some c) × (line_rest (command_text c ++ (10 ∷ ys)) ≡ ys)
unfolding line_in line_rest fields_in fields_rest wake_in block_in end_in tick_in open_in open_rest begin_in begin_rest
line_read (Wake a) ys r = one_read Wake a ys r
line_read (Block a) ys r = one_read Block a ys r
line_read (End a) ys r = one_read End a ys r
line_read (Tick n) ys r =
    let f = field_read 9999 n (10 ∷ ys) r.1 (omega arith) refl in
    let bs = 32 ∷ (decimal n ++ (10 ∷ ys)) in
    let some : eqb n 0 ≡ false = grind (arith, nat_tests) in
    ended_here (tick_in bs) (field_rest bs) (Tick n) ys
    (ap (λ z. and_then z (λ n. cond (eqb n 0) None (Some (Tick n)))) f.0 ∙ cond-false _ _ _ some) f.1
line_read (Open t k) ys r =
    let f = field_read 255 k (10 ∷ ys) r.1 (omega arith) refl in
    let rest = 32 ∷ (decimal k ++ (10 ∷ ys)) in
    let g = signed_field_read t rest r.0 refl in
    let bs = 32 ∷ (signed_decimal t ++ rest) in
    let same : 32 ∷ ((signed_decimal t ++ (32 ∷ decimal k)) ++ (10 ∷ ys)) ≡ bs = ap (λ z. 32 ∷ z) (append_assoc (signed_decimal t) (32 ∷ decimal k) (10 ∷ ys)) in
    subst (λ (z : List ℕ). Read 111 z (Open t k) ys) (sym same)
    (ended_here (open_in bs) (open_rest bs) (Open t k) ys
    (ap (λ z. and_then z (λ t. and_then (field_in 255 (signed_field_rest bs)) (λ r. Some (Open t r)))) g.0
    ∙ (ap (λ z. and_then (field_in 255 z) (λ r. Some (Open t r))) g.1 ∙ ap (λ z. and_then z (λ r. Some (Open t r))) f.0))
    (ap field_rest g.1 ∙ f.1))
line_read (Begin s a t d e) ys r =
    let r5 = 10 ∷ ys in
    let r4 = 32 ∷ (decimal e ++ r5) in
    let r3 = 32 ∷ (signed_decimal d ++ r4) in
    let r2 = 32 ∷ (signed_decimal t ++ r3) in
    let r1 = 32 ∷ (decimal a ++ r2) in
    let bs = 32 ∷ (decimal s ++ r1) in
    let f4 = field_read 65535 e r5 r.4 (omega (arith, r.4)) refl in
    let f3 = signed_field_read d r4 r.3 refl in
    let f2 = signed_field_read t r3 r.2 refl in
    let f1 = field_read 65535 a r2 r.1 (omega (arith, r.1)) refl in
    let f0 = field_read 65535 s r1 r.0 (omega (arith, r.0)) refl in
    let e2 : field_rest (field_rest bs) ≡ r2 = ap field_rest f0.1 ∙ f1.1 in
    let e3 : signed_field_rest (field_rest (field_rest bs)) ≡ r3 = ap signed_field_rest e2 ∙ f2.1 in
    let e4 : signed_field_rest (signed_field_rest (field_rest (field_rest bs))) ≡ r4 = ap signed_field_rest e3 ∙ f3.1 in
    subst (λ (z : List ℕ). Read 99 (32 ∷ z) (Begin s a t d e) ys) (sym (flat (decimal s) (decimal a) (signed_decimal t) (signed_decimal d) (decimal e) r5))
    (ended_here (begin_in bs) (begin_rest bs) (Begin s a t d e) ys
    (chained bs s a t d e f0.0 (ap (field_in 65535) f0.1 ∙ f1.0) (ap signed_field_in e2 ∙ f2.0) (ap signed_field_in e3 ∙ f3.0) (ap (field_in 65535) e4 ∙ f4.0))
    (ap field_rest e4 ∙ f4.1))

-- no text begins with lines of two commands
pub read_once : ReadOnce
read_once text c d ys zs p q =
    let a = line_read c ys p.range in
    let b = line_read d zs q.range in (
      same_ok c d (sym a.0 ∙ (ap line_in (sym p.line ∙ q.line) ∙ b.0)),
      sym a.1 ∙ (ap line_rest (sym p.line ∙ q.line) ∙ b.1),
    )

-- a text that is not read begins with no line of a command
pub none_there : (xs : List ℕ) → line_in xs ≡ None → (c : Command) (ys : List ℕ) → Begins xs c ys → ⊥
none_there xs e c ys p =
    let a = line_read c ys p.range in
    slipped c (sym e ∙ (ap line_in p.line ∙ a.0))

-- what comes of a line is what the text says there
pub line_reads : (xs ys : List ℕ) (k : ℕ) (o : Option Command) (r : Result Command ScriptFault) → o ≡ line_in xs → (is_some o ≡ true → ys ≡ line_rest xs)
    → ((c : Command) → o ≡ Some c → r ≡ Ok c) → (o ≡ None → r ≡ Err (Malformed k)) → Reads xs k r ys
line_reads xs ys k (Some c) r e after good bad =
    subst (λ (z : Result Command ScriptFault). Reads xs k z ys) (sym (good c refl))
    (subst (λ (z : List ℕ). Begins xs c z) (sym (after refl)) (line_there xs c (sym e)))
line_reads xs ys k None r e after good bad = subst (λ (z : Result Command ScriptFault). Reads xs k z ys) (sym (bad refl)) (refl, none_there xs (sym e))
