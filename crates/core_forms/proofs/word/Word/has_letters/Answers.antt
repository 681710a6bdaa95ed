use Rattle.std.proofs.Common.{sym, ap, subst, ◌∙◌}
use Rattle.std.specs.Option.{is_some}
use Rattle.core_forms.specs.declared.word.Lettered.{Lettered}
use Rattle.core_forms.specs.Letters.{HaveOneStep}
use Rattle.core_forms.proofs.Letters.{right-short}
use Rattle.core_forms.proofs.word.Word.has_letters.Goals as goal

pub returns : goal.returns
returns c = λ e.
    let word = c.self.inside.inner.value in
    subst HaveOneStep c.self.view_is
    (right-short word.letters word.ints c.self.invariant (ap (λ (w : Lettered). is_some w.letters) (sym c.deref.ensures) ∙ sym c.is_some.ensures ∙ e))
