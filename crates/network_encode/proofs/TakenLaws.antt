-- What was taken apart of a core is put together again.
use Rattle.std.proofs.Common.{◌≡◌, refl, ap, ◌∙◌}
use Rattle.core_forms.specs.declared.form.Core.{Core}
use Rattle.core_forms.specs.declared.form.Core.TheVariants.{Ladder, Clause, Parity, Conj, Comp, LeqR, EqR, Sum3, Count, Sum, Max, AllDiff, Amo, Prod, DivMod, Lex}
use Rattle.core_forms.specs.declared.taken.Taken.{Taken}
use Rattle.core_forms.specs.Taken.{taken_apart}
use Rattle.network_encode.specs.TakenParts.{core_of}

core-apart : (core : Core) → core_of (taken_apart core) ≡ core
core-apart (Ladder a) = refl
core-apart (Clause ls) = refl
core-apart (Parity ls odd) = refl
core-apart (Conj r ls) = refl
core-apart (Comp a b hi lo) = refl
core-apart (LeqR r a b) = refl
core-apart (EqR r a b) = refl
core-apart (Sum3 a b c) = refl
core-apart (Count ls c) = refl
core-apart (Sum xs k) = refl
core-apart (Max xs c) = refl
core-apart (AllDiff xs cs) = refl
core-apart (Amo ls) = refl
core-apart (Prod a b c) = refl
core-apart (DivMod a b q r) = refl
core-apart (Lex r strict front back) = refl

pub taken-core : (taken : Taken) (core : Core) → taken ≡ taken_apart core → core_of taken ≡ core
taken-core taken core is = ap core_of is ∙ core-apart core
