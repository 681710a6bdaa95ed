-- Laws of what is found and of instances.
use Rattle.std.proofs.Common.{◌≡◌, ℕ, true}
use Rattle.std.specs.Prelude.{Option, IfSome}
use Rattle.order_ints.specs.declared.atom.Atom.{Atom}
use Rattle.order_ints.specs.Place.{AtomBelow}
use Rattle.order_ints.proofs.PlaceLaws.{AtomBelow-not_atom}
use Rattle.core_forms.specs.declared.equation.Equation.{Equation}
use Rattle.core_forms.specs.declared.form.Core.{Core}
use Rattle.core_forms.specs.WellFormed.{IsWellFormed}
use Rattle.core_forms.specs.Place.{CoreBelow}
use Rattle.core_forms.specs.Each.{EachAtom}
use Rattle.core_forms.proofs.EachLaws.{each_below}
use Rattle.rule_base.specs.Pairs.{IsClosed}
use Rattle.rule_base.specs.Found.{IsImplied}
use Rattle.rule_base.proofs.FoundLaws as laws
use Rattle.arith_rules.specs.Instances.{equations_of, found_at, is_instance_of}
use Rattle.arith_rules.proofs.Sound.{equations-equal}
use Rattle.arith_rules.proofs.EachRows.{each-equations}

pub instance-implied : (core : Core) (e : Equation) → IsWellFormed core → is_instance_of core e ≡ true → IsImplied core e
instance-implied core e well is = laws.instance-implied (equations_of core) core (λ σ rule met. equations-equal core σ rule well met) e is

pub found-implied : (core : Core) (o : Option Equation) → IsWellFormed core → o ≡ found_at core → IfSome o (IsImplied core)
found-implied core o well is = laws.found-implied (equations_of core) core (λ σ rule met. equations-equal core σ rule well met) o is

pub instance-each : (P : Atom → Type 0) (core : Core) (e : Equation) → IsClosed P → EachAtom P core → is_instance_of core e ≡ true → P e.a × P e.b
instance-each P core e closed each is = laws.instance-each (equations_of core) P (each-equations P closed core each) e is

below-closed : (n : ℕ) → IsClosed (AtomBelow n)
below-closed n = record { truth = tt; falsehood = tt; negation = AtomBelow-not_atom n }

pub instance-below : (n : ℕ) (core : Core) (e : Equation) → CoreBelow n core → is_instance_of core e ≡ true → AtomBelow n e.a × AtomBelow n e.b
instance-below n core e below is =
    instance-each (AtomBelow n) core e (below-closed n) (each_below n (AtomBelow n) (λ a h. h) core below) is
