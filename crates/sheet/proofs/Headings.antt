-- The steps of reading a heading, and why what is refused is none.
use Rattle.std.proofs.Common.{◌≡◌, ℕ, ◌+◌, ◌-◌, ◌*◌, ◌/◌, ◌<◌, ◌≤◌, ◌≢◌, List, [], ◌∷◌, ◌++◌, length, get_or, take, sym, refl, ap, ◌∙◌, arith}
use Rattle.std.proofs.lemmas.List.{length-append, length-take, get_or-take}
use Rattle.std.specs.Simd.{first_chunks}
use Rattle.reservation.specs.declared.reservation.Reservation.{Reservation}
use Rattle.reservation.specs.Reservations.{at, blank}
use Rattle.sheet.specs.Format.{byte, two, Zero, ReservationAt, reservation_place, IsHeading}
use Rattle.sheet.specs.Read.{IsMarked, ListRead}
use Rattle.sheet.specs.Told.{Headed}
use Rattle.sheet.proofs.Bytes.{behind, behind_at, byte_of_chunk, each_more}

-- the same six bytes elsewhere
moved : (t s : List ℕ) (p q : ℕ) (r : Reservation) → ((i j k : ℕ) → i < 6 → j ≡ p + i → k ≡ q + i → byte t j ≡ byte s k) → ReservationAt t p r → ReservationAt s q r
moved t s p q r same w =
    record {
      activity = w.activity ∙ same 0 p q (omega arith) (omega arith) (omega arith);
      nought = sym (same 1 (p + 1) (q + 1) (omega arith) refl refl) ∙ w.nought;
      ticks = two_moved 2 (omega arith) _ w.ticks;
      period = two_moved 4 (omega arith) _ w.period;
    }
  where
    two_moved : (i : ℕ) → i < 5 → (n : ℕ) → n ≡ two t (p + i) → n ≡ two s (q + i)
    two_moved i l n e =
        let x = same i (p + i) (q + i) (omega arith) refl refl in
        let y = same (i + 1) (p + i + 1) (q + i + 1) (omega arith) (omega arith) (omega arith) in
        omega arith

-- reservation k is in chunk k of the bytes
module _ (s : List ℕ) (cs : List (List ℕ)) (n k : ℕ) (cut : cs ≡ first_chunks 6 (length s / 6) s) (turn : k < length (take n cs)) (room : 6 * n ≤ length s) where
  abbrev chunk : List ℕ
  chunk = get_or (take n cs) k []

  low : k < n
  low = let e = length-take n cs in omega arith

  at_chunk : (i j : ℕ) → i < 6 → j ≡ 6 * k + i → byte chunk i ≡ byte s j
  at_chunk = byte_of_chunk 6 (length s / 6) s k chunk (get_or-take n cs k [] low ∙ ap (λ x. get_or x k []) cut) (let l = low in omega arith)

  pub chunk_marked : (byte chunk 1 ≢ 0) → IsMarked s n
  chunk_marked bad = (k, low, λ e. bad (at_chunk 1 (6 * k + 1) (omega arith) refl ∙ e))

  -- one more reservation
  pub list_more : (list : List Reservation) (r : Reservation) → ListRead s k list → ReservationAt chunk 0 r → ListRead s (k + 1) (list ++ r ∷ [])
  list_more list r w here =
      let many = w.many in
      record {
        many = simp length-append (omega arith);
        each = each_more (λ j. ReservationAt s (6 * j)) k list r blank w.many w.each (moved chunk s 0 (6 * k) r at_j here);
      }
    where
      at_j : (i j m : ℕ) → i < 6 → j ≡ 0 + i → m ≡ 6 * k + i → byte chunk j ≡ byte s m
      at_j i j m small e f = at_chunk j m (omega arith) (omega arith)

-- the rest of a block is what stands from byte 8 on
module _ (b : List ℕ) where
  abbrev pub rest : List ℕ
  rest = behind b 8

  rest_at : (i j : ℕ) → j ≡ 8 + i → byte rest i ≡ byte b j
  rest_at = behind_at b 8

  reserved_is : (m n : ℕ) (h : Headed b n) → m ≡ byte b 5 → m ≡ length h.reservations
  reserved_is m n h e = e ∙ h.heading.reserved

  pub marked_none : (m n : ℕ) → m ≡ byte b 5 → IsMarked rest m → Headed b n → ⊥
  marked_none m n e (k, l, bad) h =
      let same = reserved_is m n h e in
      bad (rest_at (6 * k + 1) (reservation_place k + 1) (omega arith) ∙ (h.heading.reservations k (omega arith)).nought)

  pub unzero_none : (m n : ℕ) → m ≡ byte b 5 → (Zero rest (6 * m) 500 → ⊥) → Headed b n → ⊥
  unzero_none m n e bad h =
      let same = reserved_is m n h e in
      bad (λ i low high. rest_at i (8 + i) refl ∙ h.heading.rest (8 + i) (omega arith) (omega arith))

  pub heading_made : (base depth m n : ℕ) (list : List Reservation) → byte b 0 ≡ 1 → byte b 1 ≡ 0 → base ≡ two b 2 → depth ≡ byte b 4 → m ≡ byte b 5 → n ≡ byte b 6 → byte b 7 ≡ 0 → m ≤ 16 → ListRead rest m list → Zero rest (6 * m) 500 → IsHeading b base depth list n
  heading_made base depth m n list kind number bp d res ent z few read zeros =
      let many = read.many in
      record {
        kind = kind;
        number = number;
        base_period = sym bp;
        depths = sym d;
        reserved = sym (many ∙ res);
        few = omega arith;
        entered = sym ent;
        nought = z;
        reservations = λ k l. moved rest b (6 * k) (reservation_place k) (at list k) (λ i j m low e f. rest_at j m (omega arith)) (read.each k (omega arith));
        rest = λ i low high.
            let back : 8 + (i - 8) ≡ i = omega arith in
            sym (rest_at (i - 8) i (sym back)) ∙ zeros (i - 8) (omega arith) (omega arith);
      }
