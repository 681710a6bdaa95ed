use Rattle.std.proofs.Common.{sym, subst}
use Rattle.core_forms.specs.declared.word.Lettered.{Lettered}
use Rattle.core_forms.proofs.Letters.{AreRight, right-left}
use Rattle.core_forms.proofs.word.Word.drop_front.Goals as goal

pub invariant_of-self : goal.invariant_of-self
invariant_of-self c =
    right-left c.deref_mut.result.now.letters c.args.count c.deref_mut.result.now.ints _ c.drop_front.ensures
    (subst (λ (w : Lettered). AreRight w.letters w.ints) (sym c.deref_mut.ensures.value) c.self.invariant)
