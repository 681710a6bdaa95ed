-- What an instance says of its core, and of which atoms it is.
use Rattle.std.proofs.Common.{◌≡◌, ◌+◌, Bool, true, not, ◌&&◌, ◌||◌, List, length, sym, ap, ◌∙◌, ⊎_elim}
use Rattle.std.proofs.lemmas.Bool.{or_cases, and_parts, false≢true, not_from_true}
use Rattle.order_ints.specs.declared.atom.Atom.{Atom}
use Rattle.order_ints.specs.Same.{same_atom}
use Rattle.order_ints.specs.Equality.{same_atom-refl}
use Rattle.order_ints.specs.Label.{IsLabel, IsLabelled}
use Rattle.order_ints.proofs.Labels.{IsLabel-not_atom}
use Rattle.core_forms.specs.declared.equation.Equation.{Equation}
use Rattle.core_forms.specs.declared.form.Core.{Core}
use Rattle.core_forms.specs.Each.{EachAtom}
use Rattle.core_forms.specs.Place.{CoreBelow}
use Rattle.core_forms.specs.WellFormed.{IsWellFormed}
use Rattle.core_forms.specs.Trimmed.{trimmed_core}
use Rattle.core_forms.proofs.Labelled.{atoms_label}
use Rattle.rule_base.specs.Pairs.{IsClosed, is_listed}
use Rattle.rule_base.specs.Found.{IsImplied}
use Rattle.equi_rules.specs.Instances.{equations_of, is_instance_of as is_equi_instance}
use Rattle.equi_rules.proofs.Found as equi
use Rattle.arith_rules.specs.Instances.{equations_of as arith_equations, is_instance_of as is_arith_instance}
use Rattle.arith_rules.proofs.Found as arith
use Rattle.alldiff_rules.specs.Instances.{is_instance_of as is_alldiff_instance}
use Rattle.alldiff_rules.proofs.ExactLaws as alldiff
use Rattle.alldiff_rules.proofs.Sound as alldiff_sound
use Rattle.alldiff_rules.proofs.Atoms as alldiff_atoms
use Rattle.table_rules.specs.Instances.{is_instance_of as is_table_instance}
use Rattle.table_rules.proofs.InstanceLaws as table
use Rattle.table_rules.proofs.AtomLaws as table_atoms
use Rattle.core_rules.specs.Instances.{is_instance_at}

-- one by the rules of some crate
pub by_rules : (core : Core) (e : Equation) (P : Type 0)
    → (is_equi_instance core e ≡ true → P) → (is_arith_instance core e ≡ true → P) → (is_alldiff_instance core e ≡ true → P) → (is_table_instance core e ≡ true → P)
    → is_instance_at core e ≡ true → P
by_rules core e P equi arith alldiff table is =
    ⊎_elim equi
    (λ others. ⊎_elim arith (λ last. ⊎_elim alldiff table (or_cases (is_alldiff_instance core e) (is_table_instance core e) last))
    (or_cases (is_arith_instance core e) (is_alldiff_instance core e || is_table_instance core e) others))
    (or_cases (is_equi_instance core e) (is_arith_instance core e || (is_alldiff_instance core e || is_table_instance core e)) is)

pub instance-implied : (core : Core) (e : Equation) → IsWellFormed core → is_instance_at core e ≡ true → IsImplied core e
instance-implied core e formed =
    by_rules core e (IsImplied core e) (equi.instance-implied core e) (arith.instance-implied core e formed)
    (λ is. alldiff_sound.instance-implied core e formed ((alldiff.instance-exact core e).0 is)) (λ is. (table.instance-parts core e is).implied)

pub instance-each : (P : Atom → Type 0) → IsClosed P → (core : Core) (e : Equation) → EachAtom P core → is_instance_at core e ≡ true → P e.a × P e.b
instance-each P closed core e each =
    by_rules core e (P e.a × P e.b) (λ is. equi.instance-each P core e closed each is) (λ is. arith.instance-each P core e closed each is)
    (λ is. alldiff_atoms.instance-each P closed core e each ((alldiff.instance-exact core e).0 is)) (λ is. table_atoms.instance-each P closed core e each is)

labels-closed : (view : List Atom) → IsClosed (IsLabel view)
labels-closed view = record { truth = tt; falsehood = tt; negation = IsLabel-not_atom view }

-- at a core as a store has it both atoms are labels of the store
pub instance-labels : (view : List Atom) (core : Core) (e : Equation) → IsLabelled view → CoreBelow (length view + 1) core →
    is_instance_at (trimmed_core view core) e ≡ true → IsLabel view e.a × IsLabel view e.b
instance-labels view core e labelled below =
    instance-each (IsLabel view) (labels-closed view) (trimmed_core view core) e (atoms_label view core labelled below)

not-same : (a b : Atom) (rest : Bool) → (not (same_atom a b) && rest) ≡ true → a ≡ b → ⊥
not-same a b rest h e =
    let p : not (same_atom a b) ≡ true = (and_parts (not (same_atom a b)) rest h).0 in
    let q : same_atom a b ≡ true = ap (same_atom a) (sym e) ∙ same_atom-refl a in
    absurd (false≢true (sym (not_from_true (same_atom a b) q) ∙ p))

-- the two atoms are different
pub instance-different : (core : Core) (e : Equation) → is_instance_at core e ≡ true → e.a ≡ e.b → ⊥
instance-different core e =
    by_rules core e (e.a ≡ e.b → ⊥)
    (λ is. not-same e.a e.b (is_listed e.a e.b (equations_of core e.rule)) is)
    (λ is. not-same e.a e.b (is_listed e.a e.b (arith_equations core e.rule)) is)
    (λ is. ((alldiff.instance-exact core e).0 is).differ)
    (λ is. (table.instance-parts core e is).different)
