use Rattle.std.proofs.Common.{◌≡◌, ℕ, List, find, ℤ, Option, subst, w32, SFits, rules}
use Rattle.std.proofs.lemmas.Int.{to_z-of_z}
use Rattle.std.specs.Option.{option_map}
use Rattle.plan.specs.declared.entry.Entry.{Entry}
use Rattle.plan.specs.Entries.{covers}
use Rattle.plan.specs.Owners.{owner_in}
use Rattle.plan.specs.Laws.{sought, cover_owner}
use Rattle.plan.proofs.plan.Plan.find_owner.Goals as goal

-- the search over the slice, in the words of the contract
told : {r : Option ℕ} (b : ℕ) (n o : ℕ) {es xs : List Entry} {s t : ℤ} → r ≡ option_map (λ e. e.activity) (find (λ e. covers e n o) es) → es ≡ xs → option_map (λ e. e.activity) (find (λ e. covers e n o) xs) ≡ owner_in b xs s → s ≡ t → r ≡ owner_in b xs t
told b n o h p e q = cc

pub returns : goal.returns
returns c =
    let p = c.self.inside in
    let fits : SFits w32 c.place-place.result.frame = search rules in
    let s = sought p.base.ticks p.depth.levels c.place-place.ensures.lies (to_z-of_z w32 c.place-place.result.frame fits) c.path_of-frame.ensures in
    subst (λ v. c.first_cover.result ≡ owner_in v.base v.entries c.args.t) c.self.view_is
    (told p.base.ticks _ _ c.first_cover.ensures c.as_slice.ensures.value (cover_owner p.base.ticks p.depth.levels _ s p.sound.ranged) (to_z-of_z w32 c.args.t c.ranges.t))
