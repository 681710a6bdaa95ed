use Rattle.std.proofs.Common.{refl, inl, subst}
use Rattle.std.specs.Prelude.{Option, ℕ, IsSomeAnd, length, ◌≡◌}
use Rattle.text_modes.specs.Seen.{shelf_shown}
use Rattle.text_modes.proofs.FirstEnds.{too_long}
use Rattle.text_modes.proofs.two_texts.read_first.Goals as goal

pub returns-in-Ok-Cut-clause-read : goal.returns-in-Ok-Cut-clause-read
returns-in-Ok-Cut-clause-read g c =
    let text = c.in-Ok-Cut.field-0-0.items in
    let moved = rw c.in-Ok-Cut.field-0-is at c.in-Ok-Cut.ensures.text in
    let P : Option ℕ → Type 0 = λ o. IsSomeAnd o (λ n. length text ≡ n) in
    let cut = subst P c.limit.ensures ((rw c.in-Ok-Cut.field-0-is at c.in-Ok-Cut.ensures.cut_at_limit) refl) in
    let most = g.M.TwoTexts.most c.args.mode.now in
    let shown = shelf_shown g.S.Shelf.left g.S.Shelf.faults in (
      inl (too_long c.args.input.now most (shown c.args.shelf.now) (shown c.read_all.new.shelf) (g.M.TwoTexts.has_fault c.args.mode.now) c.too_long.result text moved cut c.too_long.ensures),
      rw c.in-Ok-Cut.is at c.read_all.ensures.counts_nothing_else,
    )
