-- What the rules Order and Form tell in turn is told in turn by all rules.
use Rattle.std.proofs.Common.{◌≡◌, inl, inr, Bool, true, false, ◌||◌, List, [], ◌∷◌, refl, Option, None, Some, Result, Ok, Err}
use Rattle.std.specs.Prelude.{IfOk, IfSome}
use Rattle.std.proofs.lemmas.Bool.{false≢true}
use Rattle.order_ints.specs.declared.atom.Atom.{Atom}
use Rattle.core_forms.specs.declared.equation.Equation.{Equation}
use Rattle.core_forms.specs.declared.form.Core.{Core}
use Rattle.core_forms.specs.Trimmed.{trimmed_core}
use Rattle.equation_runs.specs.Turns.{resolved_equation, IsMadeOrTold, AreToldFrom, AreToldInTurn, is_stated}
use Rattle.equi_rules.specs.Instances.{is_instance_of as is_equi_instance}
use Rattle.arith_rules.specs.Instances.{is_instance_of as is_arith_instance}
use Rattle.alldiff_rules.specs.Instances.{is_instance_of as is_alldiff_instance}
use Rattle.table_rules.specs.Instances.{is_instance_of as is_table_instance}
use Rattle.core_rules.specs.Instances.{is_instance_at}
use Rattle.core_rules.specs.declared.found.FoundRun.{FoundRun}
use Rattle.fixpoint_queue.specs.Told.{IsToldInstance}

-- what is told in turn is told by each weaker meaning
from-weaker : (told other : Core → Equation → Type 0) → ((c : Core) (e : Equation) → told c e → other c e) → (core : Core) (done run : List Equation)
    → AreToldFrom told core done run → AreToldFrom other core done run
from-weaker told other weaker core done [] turns = tt
from-weaker told other weaker core done (e ∷ run) turns = (λ view behind. by view (turns.0 view behind), from-weaker told other weaker core (e ∷ done) run turns.1)
  where
    by : (view : List Atom) → IsMadeOrTold told core view e → IsMadeOrTold other core view e
    by view (inl made) = inl made
    by view (inr tells) = inr (weaker (trimmed_core view core) (resolved_equation view e) tells)

stated-instance : (core : Core) (e : Equation) → is_stated core e ≡ true → is_instance_at core e ≡ true
stated-instance core e h = by (is_equi_instance core e) (is_arith_instance core e) (is_alldiff_instance core e) (is_table_instance core e) h
  where
    by : (a b c d : Bool) → (a || (b || c)) ≡ true → (a || (b || (c || d))) ≡ true
    by true b c d h = refl
    by false true c d h = refl
    by false false true d h = refl
    by false false false d h = absurd (false≢true h)

pub run-told : (core : Core) (run : List Equation) → AreToldInTurn (λ c e. is_stated c e ≡ true) core run → AreToldInTurn (λ c e. is_instance_at c e ≡ true) core run
run-told core run = from-weaker (λ c e. is_stated c e ≡ true) (λ c e. is_instance_at c e ≡ true) stated-instance core [] run

-- what is told as it is an instance is both
abbrev Both : Core → Equation → Type 0
Both = IsToldInstance (λ c e. is_instance_at c e ≡ true)

run-both : (core : Core) (run : List Equation) → AreToldInTurn (λ c e. is_instance_at c e ≡ true) core run → AreToldInTurn Both core run
run-both core run = from-weaker (λ c e. is_instance_at c e ≡ true) Both (λ c e is. (is, is)) core [] run

pub some-both : {E : Type 0} (core : Core) (r : Result (Option FoundRun) E) → IfOk r (λ found. IfSome found (λ first. is_instance_at core first.equation ≡ true))
    → IfOk r (λ found. IfSome found (λ first. Both core first.equation))
some-both core (Ok (Some found)) is = (is, is)
some-both core (Ok None) is = tt
some-both core (Err e) is = tt

pub runs-both : {E : Type 0} (core : Core) (r : Result (Option FoundRun) E) → IfOk r (λ found. IfSome found (λ first. AreToldInTurn (λ c e. is_instance_at c e ≡ true) core first.run.items))
    → IfOk r (λ found. IfSome found (λ first. AreToldInTurn Both core first.run.items))
runs-both core (Ok (Some found)) turns = run-both core found.run.items turns
runs-both core (Ok None) turns = tt
runs-both core (Err e) turns = tt
