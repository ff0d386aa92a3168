use Rattle.std.proofs.Common.{◌≡◌, ℕ, List, ℤ, Option, sym, ap, ◌∙◌, subst, w32}
use Rattle.std.proofs.lemmas.Int.{to_z-of_z}
use Rattle.plan.specs.declared.entry.Entry.{Entry}
use Rattle.plan.specs.Owners.{OwnedBy, owner_in}
use Rattle.plan.proofs.Sharing.{owned_is, one_owner}
use Rattle.plan.proofs.plan.PlanTimetable.owner_at.Goals as goal

owned : (b : ℕ) (es : List Entry) {r : Option ℕ} {s t : ℤ} → r ≡ owner_in b es s → s ≡ t → OwnedBy b es t r
owned b es {r} {s} {t} h p = subst (OwnedBy b es t) (sym (h ∙ ap (owner_in b es) p)) (owned_is b es t)

pub returns-clause-owned : goal.returns-clause-owned
returns-clause-owned c = owned c.args.self.now.base c.args.self.now.entries c.find_owner.ensures (to_z-of_z w32 c.args.t c.ranges.t)

pub returns-clause-only : goal.returns-clause-only
returns-clause-only c =
    let p = c.args.self.now in
    λ o w. one_owner p.base p.entries c.args.t p.sound.apart o c.find_owner.result w (owned p.base p.entries c.find_owner.ensures (to_z-of_z w32 c.args.t c.ranges.t))
