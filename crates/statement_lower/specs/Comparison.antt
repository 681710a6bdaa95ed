-- The truth of a comparison, as a core.
use Rattle.order_ints.specs.declared.atom.Atom.{Atom}
use Rattle.order_ints.specs.declared.order_int.OrdInt.{OrdInt}
use Rattle.order_ints.specs.Truth.{not_atom}
use Rattle.core_forms.specs.declared.form.Core.{Core}
use Rattle.core_forms.specs.declared.form.Core.TheVariants as core
use Rattle.model_meaning.specs.declared.statement.Relation.{Relation}
use Rattle.model_meaning.specs.declared.statement.Relation.TheVariants as relation

-- `int_REL`, where r is True, and `int_REL_reif`: r is the truth of a comparison
abbrev pub comparison_core : Relation → Atom → OrdInt → OrdInt → Core
comparison_core relation.Leq r a b = core.LeqR r a b
comparison_core relation.Geq r a b = core.LeqR r b a
comparison_core relation.Eq r a b = core.EqR r a b
comparison_core relation.Lt r a b = core.LeqR (not_atom r) b a
comparison_core relation.Gt r a b = core.LeqR (not_atom r) a b
comparison_core relation.Neq r a b = core.EqR (not_atom r) a b
