use Rattle.std.proofs.Common.{ℕ, ◌-◌, length, Some, sym, subst}
use Rattle.std.proofs.lemmas.List.{get_or_read}
use Rattle.spare.specs.Chosen.{Names}
use Rattle.spare.specs.Orders.{place_of}
use Rattle.spare.specs.Search.{NextAt}
use Rattle.spare.specs.Sets.{is_ready}
use Rattle.spare.specs.Wheels.{MarkedTable, WheelStep, after_mark}
use Rattle.spare.specs.Rounds.{nobody, stays, names, turns}
use Rattle.spare.proofs.wheel_rule.WheelSpareRule.choose.Goals as goal

pub returns-in_err-place : goal.returns-in_err-place
returns-in_err-place c =
    let w = c.args.self.now in
    let xs = w.places in
    let h = c.in_err-place.ensures in
    rw c.from_residual.ensures (record { chosen = nobody c.args.ready xs w.mark w.marked w.table.all (length xs - 1) h; exact = stays c.args.ready xs w.mark w.marked w.table.all h })

pub returns : goal.returns
returns c =
    let w = c.self.inside in
    let xs = w.places.items in
    let ready = is_ready c.args.ready in
    let m = w.mark in
    let i = c.in_ok-place.place in
    let p = length xs - 1 in
    let h = subst (λ (v : MarkedTable). NextAt ready v.places v.mark i) (sym c.self.view_is) c.in_ok-place.ensures in
    let e = get_or_read xs i c.index.result.now h.within c.index.ensures 0 in
    rw (← c.self.view_is) (record {
      chosen = subst (λ (a : ℕ). Names a ready (λ b. place_of b (after_mark xs m)) p (λ b. place_of b (after_mark xs i)) p) (sym e) (names c.args.ready xs m w.marked w.table.all i h w.table.known p);
      exact = subst (λ (a : ℕ). WheelStep xs m ready (Some a) xs i) (sym e) (turns c.args.ready xs m w.marked w.table.all i h w.table.known);
    })
