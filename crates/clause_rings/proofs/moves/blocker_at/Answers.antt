use Rattle.std.proofs.Common.{ℕ, length, refl, sym, subst}
use Rattle.std.proofs.lemmas.List.Elements.{Contains-get_or}
use Rattle.clause_rings.specs.Watches.{Blocks}
use Rattle.clause_rings.proofs.Kept.{blocks-marked}
use Rattle.clause_rings.proofs.moves.blocker_at.Goals as goal

pub returns : goal.returns
returns c = subst (λ (n : ℕ). Blocks c.args.lits.now n) (sym c.marked.ensures) (blocks-marked c.args.lits.now _ (length c.args.lits.now) refl (c.requires.small c.args.place _ c.requires.place) (Contains-get_or c.args.lits.now c.args.place _ c.requires.place))
