use Rattle.std.proofs.Common.{sym, subst}
use Rattle.core_forms.specs.Cores.{AreWellFormed}
use Rattle.core_forms.proofs.CoreLists.{AreWellFormed-append}
use Rattle.core_words.proofs.cores.cores_of.Goals as goal

pub loop-text-preserved : goal.loop-text-preserved
loop-text-preserved c =
    subst AreWellFormed (sym c.in_ok-push.ensures.items) (AreWellFormed-append c.loop-text.cores.items _ c.loop-text.invariant (c.in_ok-core_of.ensures, tt))
