use Rattle.std.proofs.Common.{◌≡◌, Bool, true, ◌&&◌, eqb, sym, refl, ap, ◌∙◌, rules}
use Rattle.std.proofs.lemmas.Bool.{and_parts, and_from, eqb-true, eq-eqb}
use Rattle.std.proofs.lemmas.Slice.Eq.{slice_eq-Decides}
use Rattle.plan.specs.declared.entry.Entry.{Entry}
use Rattle.cases.specs.Examples.{entry}
use Rattle.cases.proofs.parts.is_example.Goals as goal

abbrev same : Entry → Entry → Bool
same a b = eqb a.activity b.activity && (eqb a.depth b.depth && (eqb a.path b.path && (eqb a.offset b.offset && eqb a.length b.length)))

remade : (a : Entry) → a ≡ entry a.activity a.depth a.path a.offset a.length
remade a = refl

-- entries are equal as their fields are
same_is : (a b : Entry) → same a b ≡ true → a ≡ b
same_is a b e =
    let p = and_parts _ _ e in
    let q = and_parts _ _ p.1 in
    let r = and_parts _ _ q.1 in
    let s = and_parts _ _ r.1 in
    let activity = eqb-true a.activity b.activity p.0 in
    let depth = eqb-true a.depth b.depth q.0 in
    let path = eqb-true a.path b.path r.0 in
    let offset = eqb-true a.offset b.offset s.0 in
    let long = eqb-true a.length b.length s.1 in
    remade a ∙ (cc) ∙ sym (remade b)

same_from : (a b : Entry) → a ≡ b → same a b ≡ true
same_from a b e =
    and_from _ _ (eq-eqb _ _ (ap (λ x. x.activity) e))
    (and_from _ _ (eq-eqb _ _ (ap (λ x. x.depth) e))
    (and_from _ _ (eq-eqb _ _ (ap (λ x. x.path) e))
    (and_from _ _ (eq-eqb _ _ (ap (λ x. x.offset) e)) (eq-eqb _ _ (ap (λ x. x.length) e)))))

pub returns-then-depth-eq-EXAMPLE_DEPTH : goal.returns-then-depth-eq-EXAMPLE_DEPTH
returns-then-depth-eq-EXAMPLE_DEPTH c =
    let d = slice_eq-Decides {E = same} (λ a b. (same_is a b, same_from a b)) c.entries.result.now c.as_slice.result.now c.eq.result c.eq.ensures in
    (λ e. (search rules, search rules, sym c.entries.ensures ∙ d.0 e ∙ c.as_slice.ensures), λ h. d.1 (c.entries.ensures ∙ h.2 ∙ sym c.as_slice.ensures))
