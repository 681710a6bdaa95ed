use Rattle.std.proofs.Common.{◌≡◌, sym, ◌∙◌, refl}
use Rattle.std.specs.Cmp.Lexicographic.{pointwise, pointwise_decides}
use Rattle.bee_list.proofs.sequence.SequencePartialEq.eq.Goals as goal

pub returns-clause-equal : goal.returns-clause-equal
returns-clause-equal g c = λ decides.
    let lists = pointwise_decides decides c.args.self.now c.args.other.now in
    let is : c.eq.result ≡ pointwise g.T.PartialEq.eq c.args.self.now c.args.other.now = rw (c.eq.ensures, c.as_slice.ensures, c.as_slice-2.ensures) refl in
    ((λ h. lists.0 (sym is ∙ h)), (λ e. is ∙ lists.1 e))
