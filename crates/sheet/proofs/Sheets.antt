-- Why what the reader gives is what the bytes are the sheet of.
use Rattle.std.proofs.Common.{◌≡◌, ℕ, List, Option, None, MatchOption, Result, Err, sym, ap, ◌∙◌, subst}
use Rattle.std.specs.Option.{ok_or}
use Rattle.sheet.specs.declared.fault.SheetFault.{SheetFault}
use Rattle.sheet.specs.declared.fault.SheetFault.TheVariants.{Heading, EntryBlock}
use Rattle.sheet.specs.declared.heading.HeadingFields.{HeadingFields}
use Rattle.sheet.specs.Format.{block}
use Rattle.sheet.specs.Read.{HeadingRead}
use Rattle.sheet.specs.Told.{HasBlocks, AllChecked, Headed, FirstBroken, Refused}

abbrev headed_by : (b : List ℕ) (n : ℕ) (h : HeadingFields) → HeadingRead b n h → Headed b n
headed_by b n h w =
    record { base = h.base; depth = h.depth; reservations = h.reservations.items; entries = h.entries; heading = w.heading; fits = w.fits }

-- the reader's refusal of a heading, for any fault that is this one
pub unheaded_told : (s : List ℕ) (n : ℕ) (r : Option HeadingFields) (f : SheetFault) → HasBlocks s n → AllChecked s n → MatchOption r (Headed (block s 0) n → ⊥) (HeadingRead (block s 0) n) → r ≡ None → Err f ≡ ok_or r Heading → Refused s f
unheaded_told s n r f sized checked read none e =
    let same : Heading ≡ f = unwrapped Heading f (sym (e ∙ ap (λ o. ok_or o Heading) none)) in
    subst (Refused s) same (n, sized, checked, subst (λ o. MatchOption o (Headed (block s 0) n → ⊥) (HeadingRead (block s 0) n)) none read)
  where
    unwrapped : (x y : SheetFault) → ◌≡◌ {A = Result HeadingFields SheetFault} (Err x) (Err y) → x ≡ y
    unwrapped x y e = cc

-- what is known once all blocks have right checks and the heading is read
module _ (s : List ℕ) (n : ℕ) (h : HeadingFields) (sized : HasBlocks s n) (checked : AllChecked s n) (w : HeadingRead (block s 0) n h) where
  -- the reader's refusal of an entry block
  pub broken_told : (k : ℕ) → FirstBroken s h.entries n k → Refused s (EntryBlock k)
  broken_told k f = (n, sized, checked, headed_by (block s 0) n h w, f)
