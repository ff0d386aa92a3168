-- What a set of ready activities means.
use Rattle.std.specs.Prelude.{ℕ, Bool, false, ◌&&◌, nat_lt, slice_index_or}
use Rattle.spare.specs.declared.ready.ReadySet.{ReadySet}

-- whether the activity is in the set; none above 15 ever is
abbrev pub is_ready : ReadySet → ℕ → Bool
is_ready s a = nat_lt a 16 && slice_index_or s.members a false
