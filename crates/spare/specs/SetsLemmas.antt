-- Members of a set are activities.
use Rattle.std.specs.Prelude.{◌≡◌, ℕ, ◌<◌, true, false, nat_lt, slice_index_or}
use Rattle.std.proofs.Common.{⊎_elim}
use Rattle.std.proofs.lemmas.Bool.{and_parts, and_left, ltb-true, le-ltb, cases_lt}
use Rattle.spare.specs.declared.ready.ReadySet.{ReadySet}
use Rattle.spare.specs.Sets.{is_ready}

pub member_known : (s : ReadySet) (a : ℕ) → is_ready s a ≡ true → a < 16
member_known s a h = ltb-true a 16 (and_parts (nat_lt a 16) (slice_index_or s.members a false) h).0

-- whom none of the sixteen shows, nobody is
pub from_below : (s : ReadySet) → ((a : ℕ) → a < 16 → is_ready s a ≡ false) → (a : ℕ) → is_ready s a ≡ false
from_below s h a =
    ⊎_elim (h a) (λ l. and_left (nat_lt a 16) (slice_index_or s.members a false) (le-ltb a 16 l)) (cases_lt a 16)
