-- Texts written one behind another.
use Rattle.std.proofs.Common.{◌≡◌, ℕ, ◌+◌, ◌-◌, ◌<◌, ◌≤◌, List, [], ◌∷◌, ◌++◌, length, get_or, take, drop, sym, ap, ◌∙◌, append_assoc, append-nil, arith}
use borrow.Rule.Slice.PartMut.{put_mid}
use Rattle.std.proofs.lemmas.List.{take_rest, drop-drop, drop_all, length-drop, take_at, drop_at, take_more, length-append}
use Rattle.std.proofs.lemmas.List.Folds.{length-flat_map-take}
use Rattle.std.proofs.lemmas.List.Concat.{flat_map-append}
use Rattle.std.proofs.lemmas.Bool.{cond-true, le-leb}
use Rattle.row.specs.declared.field.Field.{Field}
use Rattle.row.specs.Fields.{field_text, fields_text}
use Rattle.row.specs.Rows.{placed}

-- where there is room, the text stands
pub placed_is : (t xs : List ℕ) → length t ≤ length xs → placed t xs ≡ t ++ drop (length t) xs
placed_is t xs h = cond-true _ (t ++ drop (length t) xs) xs (le-leb (length t) (length xs) h)

-- a text more is written into what was lent from a on, where so much stood at the front of the buffer
pub written : (start xs ys front t : List ℕ) (a : ℕ) → a ≡ length front → xs ≡ front ++ drop a start
    → ys ≡ t ++ drop (length t) (take (length xs - a) (drop a xs)) → put_mid a (length xs - a) xs ys ≡ (front ++ t) ++ drop (a + length t) start
written start xs ys front t a f e w =
    let taken : take a xs ≡ front = ap (take a) e ∙ take_at front (drop a start) a (sym f) in
    let behind : drop a xs ≡ drop a start = ap (drop a) e ∙ drop_at front (drop a start) a (sym f) in
    let there : ys ≡ t ++ drop (a + length t) start =
    w ∙ (ap (λ z. t ++ drop (length t) z) (take_rest xs a ∙ behind) ∙ ap (λ z. t ++ z) (drop-drop (length t) a start))
    in
    let none : drop (length xs - a) (drop a xs) ≡ [] = drop_all (length xs - a) (drop a xs) (omega (arith, length-drop a xs)) in
    ap (λ z. take a xs ++ (ys ++ z)) none
    ∙ (ap (λ z. take a xs ++ z) (append-nil ys ∙ there)
    ∙ (ap (λ z. z ++ (t ++ drop (a + length t) start)) taken ∙ sym (append_assoc front t (drop (a + length t) start))))

-- the text of one field more
pub texts_next : (fs : List Field) (i : ℕ) (d : Field) → i < length fs → fields_text (take (i + 1) fs) ≡ fields_text (take i fs) ++ field_text (get_or fs i d)
texts_next fs i d h =
    ap fields_text (take_more fs i d h)
    ∙ (flat_map-append field_text (take i fs) (get_or fs i d ∷ []) ∙ ap (λ z. fields_text (take i fs) ++ z) (append-nil (field_text (get_or fs i d))))

-- there is room for the next field
pub fits_next : (fs : List Field) (i : ℕ) (d : Field) (xs : List ℕ) (a : ℕ) → i < length fs → a ≡ length (fields_text (take i fs)) → length (fields_text fs) ≤ length xs
    → length (field_text (get_or fs i d)) ≤ length (take (length xs - a) (drop a xs))
fits_next fs i d xs a h f room =
    let lend = ap length (take_rest xs a) ∙ length-drop a xs in
    omega (arith, length-flat_map-take field_text fs i d h)

-- the next field is written
pub written_next : (fs : List Field) (i : ℕ) (d : Field) (start xs ys : List ℕ) (a size : ℕ) → i < length fs → a ≡ length (fields_text (take i fs)) → xs ≡ fields_text (take i fs) ++ drop a start
    → size ≡ length (field_text (get_or fs i d))
    → ys ≡ field_text (get_or fs i d) ++ drop (length (field_text (get_or fs i d))) (take (length xs - a) (drop a xs))
    → (a + size ≡ length (fields_text (take (i + 1) fs))) × (put_mid a (length xs - a) xs ys ≡ fields_text (take (i + 1) fs) ++ drop (a + size) start)
written_next fs i d start xs ys a size h f e l w =
    let t = field_text (get_or fs i d) in
    let next = texts_next fs i d h in (
      omega (arith, ap length next, length-append (fields_text (take i fs)) t),
      written start xs ys (fields_text (take i fs)) t a f e w
          ∙ (ap (λ z. z ++ drop (a + length t) start) (sym next) ∙ ap (λ n. fields_text (take (i + 1) fs) ++ drop (a + n) start) (sym l)),
    )
