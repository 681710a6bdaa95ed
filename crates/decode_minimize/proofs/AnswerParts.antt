-- What goals, verdicts and derivations say, case by case.
use Rattle.std.proofs.Common.{◌≡◌, ℕ, ◌+◌, ◌*◌, ◌≤◌, ◌<◌, ◌^◌, List, [], ◌∷◌, length, Option, Some, None, refl, sym, ap, ◌∙◌, subst, ℤ, arith}
use Rattle.std.proofs.Math.Nat.{mul-le-mul_left}
use Rattle.std.specs.Prelude.{IfSome, IsSomeAnd, FitsSigned}
use Rattle.std.specs.Int.{w64}
use Rattle.std.specs.Option.{option_map}
use Rattle.order_ints.specs.declared.atom.Atom.{Atom}
use Rattle.order_ints.specs.declared.atom.Atom.TheVariants as atom
use Rattle.order_ints.specs.declared.cnf.Cnf.{Cnf}
use Rattle.order_ints.specs.declared.order_int.OrdInt.{OrdInt}
use Rattle.order_ints.specs.declared.order_int.MapValue.{MapValue}
use Rattle.order_ints.specs.Place.{AtomBelow}
use Rattle.ledger_text.specs.declared.line.Line.{Line}
use Rattle.ledger_text.specs.declared.line.Line.TheVariants.{Equate, Split, Encode}
use Rattle.ledger_text.specs.Steps.{LedgerBelow}
use Rattle.ledger_text.specs.Words.{IsReadableAtom}
use Rattle.model_meaning.specs.declared.model.Assignment.{Assignment}
use Rattle.model_meaning.specs.declared.model.Decl.{Decl}
use Rattle.model_meaning.specs.declared.model.Goal.{Goal}
use Rattle.model_meaning.specs.declared.model.Goal.TheVariants.{Minimize, Maximize}
use Rattle.model_meaning.specs.Solutions.{objective, second_value}
use Rattle.model_meaning.specs.Terms.{value_at}
use Rattle.model_meaning.specs.WellTyped.{IsInt, ObjectiveFits, SecondFits, GoalFits}
use Rattle.proof_check.specs.declared.line.ProofLine.{ProofLine}
use Rattle.proof_check.specs.declared.line.ProofLine.TheVariants.{Add, Delete}
use Rattle.proof_check.specs.Lrat.{Proof, proof_of, after_line}
use Rattle.learning_solver.specs.Log.{additions, after_lines, proof_behind}
use Rattle.std.proofs.lemmas.List.{length-append}
use Rattle.answer_document.specs.declared.verdict.Bounds.{Bounds}
use Rattle.answer_document.specs.BoundAtoms.{integer_named, first_bound, second_bound, fixed}
use Rattle.answer_document.specs.Verdicts.{HaveSecond, BoundsFit}
use Rattle.answer_document.specs.Valid.{AreReadableSteps, FitValues, FitAssignment, numbers_given}
use Rattle.decode_minimize.specs.declared.objective.Direction.{Direction}
use Rattle.decode_minimize.specs.declared.objective.Direction.TheVariants.{Least, Greatest}
use Rattle.decode_minimize.specs.Objectives.{bound_of, no_worse_of}
use Rattle.decode_minimize.specs.Answers.{values_at, second_values, most_rounds, IsPaidBehind, IsPaidTowards}

-- a goal from a direction and one place or two
abbrev pub goal_of : Direction → ℕ → Option ℕ → Goal
goal_of Least place second = Minimize place second
goal_of Greatest place second = Maximize place second

pub first-bound-is : (d : Direction) (place : ℕ) (second : Option ℕ) (entries : List MapValue) (m : ℤ) → first_bound (goal_of d place second) entries m ≡ bound_of d (integer_named entries place) m
first-bound-is Least place second entries m = refl
first-bound-is Greatest place second entries m = refl

pub second-bound-is : (d : Direction) (place other : ℕ) (entries : List MapValue) (n : ℤ) → second_bound (goal_of d place (Some other)) entries n ≡ bound_of d (integer_named entries other) n
second-bound-is Least place other entries n = refl
second-bound-is Greatest place other entries n = refl

pub fixed-is : (d : Direction) (place : ℕ) (second : Option ℕ) (entries : List MapValue) (m : ℤ) → fixed (goal_of d place second) entries m ≡ no_worse_of d (integer_named entries place) m
fixed-is Least place second entries m = refl
fixed-is Greatest place second entries m = refl

pub paid-towards : (d : Direction) (place : ℕ) (second : Option ℕ) (entries : List MapValue) (budget most : ℕ) (b : Bounds) (lines : Option (List ProofLine))
    → IsPaidBehind entries budget most d place second b lines → IsPaidTowards entries budget most b lines (goal_of d place second)
paid-towards Least place second entries budget most b lines h = h
paid-towards Greatest place second entries budget most b lines h = h

pub objective-is : (d : Direction) (place : ℕ) (second : Option ℕ) (a : List ℤ) → objective (goal_of d place second) a ≡ value_at a place ∷ second_value second a
objective-is Least place second a = refl
objective-is Greatest place second a = refl

pub bounds-fit : (d : Direction) (place : ℕ) (second : Option ℕ) (b : Bounds) → HaveSecond second b.second → BoundsFit (goal_of d place second) b
bounds-fit Least place second b h = h
bounds-fit Greatest place second b h = h

pub goal-fits : (d : Direction) (place : ℕ) (second : Option ℕ) (ds : List Decl) → GoalFits ds (goal_of d place second) → ObjectiveFits ds place × SecondFits ds second
goal-fits Least place second ds h = h
goal-fits Greatest place second ds h = h

pub rounds-is : (d : Direction) (place : ℕ) (second : Option ℕ) (ds : List Decl) → most_rounds ds (goal_of d place second) ≡ values_at ds place + second_values ds second
rounds-is Least place second ds = refl
rounds-is Greatest place second ds = refl

pub number-from : (o : Option Decl) → IsSomeAnd o (λ d. IsInt d.kind) → (m : ℕ) × IsSomeAnd o (λ d. (d.number < m) × IsInt d.kind)
number-from None h = absurd h
number-from (Some d) h = (d.number + 1, (omega arith, h))

-- the lines of a ledger over few variables can be read back
readable-atom : (n : ℕ) (a : Atom) → n ≤ 2 ^ 27 + 1 → AtomBelow n a → IsReadableAtom a
readable-atom n atom.True h below = tt
readable-atom n atom.False h below = tt
readable-atom n (atom.Of l) h below = (below.0, omega (arith, h, below.1))

pub readable-steps : (n : ℕ) (lines : List Line) → n ≤ 2 ^ 27 + 1 → LedgerBelow n lines → AreReadableSteps lines
readable-steps n [] h below = tt
readable-steps n (Equate id e ∷ lines) h below = ((below.0.0, readable-atom n e.a h below.0.1, readable-atom n e.b h below.0.2), readable-steps n lines h below.1)
readable-steps n (Split id ∷ lines) h below = (below.0, readable-steps n lines h below.1)
readable-steps n (Encode id ∷ lines) h below = (below.0, readable-steps n lines h below.1)

-- a derivation adds as many clauses as it has additions
added-many : (p : Proof) (lines : List ProofLine) → length (after_lines p lines).added ≡ length p.added + additions lines
added-many p [] = omega arith
added-many p (Add id lits hints ∷ lines) =
    omega (arith, added-many (after_line p (Add id lits hints)) lines, length-append p.added (record { id = id; lits = lits } ∷ []))
added-many p (Delete at ids ∷ lines) = added-many (after_line p (Delete at ids)) lines

pub added-behind : (cnf : Cnf) (lines : List ProofLine) → length (proof_behind cnf lines).added ≡ additions lines
added-behind cnf lines = omega (arith, added-many (proof_of cnf) lines)

-- of what is given, an assignment or none
pub given-length : (o : Option Assignment) (xs : List ℤ) (n : ℕ) → numbers_given o ≡ Some xs → length xs ≡ n → IfSome o (λ (a : Assignment). n ≡ length a.values)
given-length None xs n e h = absurd (cc)
given-length (Some a) xs n e h = let same : a.values ≡ xs = cc in sym (ap length same ∙ h)

pub none-length : (o : Option Assignment) (n : ℕ) → numbers_given o ≡ None → IfSome o (λ (a : Assignment). n ≡ length a.values)
none-length None n e = tt
none-length (Some a) n e = absurd (cc)

pub given-fits : (o : Option Assignment) (xs : List ℤ) → numbers_given o ≡ Some xs → FitValues xs → FitAssignment o
given-fits None xs e h = tt
given-fits (Some a) xs e h = let same : a.values ≡ xs = cc in subst FitValues (sym same) h

pub none-fits : (o : Option Assignment) → numbers_given o ≡ None → FitAssignment o
none-fits None e = tt
none-fits (Some a) e = absurd (cc)

-- the bounds that are stated have 64 bits, and there is one for each objective
pub fit-second : (o : Option ℤ) (second : Option ℕ) (f : OrdInt → ℤ) (g : ℕ → OrdInt) → o ≡ option_map f (option_map g second) → ((place : ℕ) → FitsSigned w64 (f (g place))) → IfSome o (FitsSigned w64)
fit-second o None f g e h = subst (λ (x : Option ℤ). IfSome x (FitsSigned w64)) (sym e) tt
fit-second o (Some place) f g e h = subst (λ (x : Option ℤ). IfSome x (FitsSigned w64)) (sym e) (h place)

pub have-second : (o : Option ℤ) (second : Option ℕ) (f : OrdInt → ℤ) (g : ℕ → OrdInt) → o ≡ option_map f (option_map g second) → HaveSecond second o
have-second o None f g e = subst (HaveSecond None) (sym e) tt
have-second o (Some place) f g e = subst (HaveSecond (Some place)) (sym e) tt

-- fewer searches than the rounds may need
pub fewer-than-most : (b c v m : ℕ) → b < c * m → c ≤ v → m * v ≤ b → ⊥
fewer-than-most b c v m less few most =
    let more : m * c ≤ m * v = mul-le-mul_left m few in
    omega (arith, less, more, most)
