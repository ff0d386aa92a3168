-- What a wheel is, and what one call of it does.
use Rattle.std.specs.Prelude.{◌≡◌, ℕ, ◌+◌, ◌%◌, ◌<◌, ◌≤◌, Bool, List, ◌++◌, length, take, drop, Some, None, Option, Vec, slice_index, vec_items}
use Rattle.std.specs.declared.alloc.Global.{Global}
use Rattle.spare.specs.Orders.{first_ready, passed_over, times}

-- 16 to 64 places, an activity at each, and every activity at some place
pub record Table (places : List ℕ) : Type 0 where
  pub least : 16 ≤ length places
  pub most : length places ≤ 64
  pub known : (k : ℕ) → k < length places → slice_index places k < 16
  pub all : (a : ℕ) → a < 16 → 1 ≤ times a places

-- a wheel, as its callers see it: its places, the vector that holds them, and the mark on one of them
pub record MarkedTable : Type 0 where
  pub places : List ℕ
  -- with its memory, which a refused filling leaves as it was
  pub stored : Vec ℕ Global
  pub holds : vec_items stored ≡ places
  pub mark : ℕ
  pub table : Table places
  pub marked : mark < length places

-- the places in the order in which they are asked: the ones after the mark, and then round from the front to the mark itself
abbrev pub after_mark : List ℕ → ℕ → List ℕ
after_mark places mark = drop (mark + 1) places ++ take (mark + 1) places

-- the mark moves on, past those who are not ready, to the place of the one that is named; it stays where nobody is
abbrev pub MarkMoves : List ℕ → ℕ → (ℕ → Bool) → Option ℕ → ℕ → Type 0
MarkMoves places mark ready None mark' = mark' ≡ mark
MarkMoves places mark ready (Some a) mark' =
    mark' ≡ (mark + 1 + passed_over ready (after_mark places mark)) % length places

-- one call of the wheel: it names the first ready one after its mark, going round, and moves the mark there
pub record WheelStep (places : List ℕ) (mark : ℕ) (ready : ℕ → Bool) (name : Option ℕ) (places' : List ℕ) (mark' : ℕ) : Type 0 where
  pub names : name ≡ first_ready ready (after_mark places mark)
  pub moves : MarkMoves places mark ready name mark'
  pub same_places : places' ≡ places
