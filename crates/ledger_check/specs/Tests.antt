-- What is made of a line that may stand where it stands, or what stands against it.
use Rattle.std.specs.Prelude.{◌==◌, ℕ, ◌+◌, ◌^◌, nat_lt, Bool, true, false, not}
use Rattle.std.specs.Prelude.{◌&&◌, ◌||◌, List, [], ◌∷◌, ◌++◌, length, slice_get, ℤ, pos, Option}
use Rattle.std.specs.Prelude.{Some, None, Result, Ok, Err, if◌then◌else◌}
use Rattle.std.specs.Bool.{beq}
use Rattle.std.specs.Ordering.{int_eq}
use Rattle.order_ints.specs.declared.atom.Atom.{Atom}
use Rattle.order_ints.specs.declared.cnf.Cnf.{Cnf}
use Rattle.order_ints.specs.View.{resolve}
use Rattle.order_ints.specs.declared.atom.Atom.TheVariants.{True, False, Of}
use Rattle.model_meaning.specs.declared.model.Decl.{Decl}
use Rattle.model_meaning.specs.declared.model.Kind.{Kind}
use Rattle.model_meaning.specs.declared.model.Kind.TheVariants as kind
use Rattle.model_meaning.specs.declared.model.Goal.{Goal}
use Rattle.model_meaning.specs.declared.model.Goal.TheVariants.{Satisfy, Minimize, Maximize}
use Rattle.model_meaning.specs.declared.model.Model.{Model}
use Rattle.model_meaning.specs.Domains.{domain, in_domains}
use Rattle.model_meaning.specs.Integers.{is_member}
use Rattle.model_meaning.specs.Solutions.{objective, first_broken}
use Rattle.model_lower.specs.Lowering.{lowered_of}
use Rattle.step_kernel.specs.declared.fault.StepFault.{StepFault}
use Rattle.step_kernel.specs.Kernel.{Kernel}
use Rattle.step_kernel.specs.Steps.{step}
use Rattle.step_kernel.specs.CnfOf.{cnf_of}
use Rattle.proof_check.specs.declared.fault.ProofFault.{ProofFault}
use Rattle.proof_check.specs.declared.fault.ProofFault.TheVariants.{Id}
use Rattle.proof_check.specs.declared.line.ProofLine.{ProofLine}
use Rattle.proof_check.specs.Lrat.{Proof, proof_of, take_line}
use Rattle.proof_check.specs.Known.{known}
use Rattle.answer_document.specs.Goals.{has_second, has_objective}
use Rattle.answer_document.specs.declared.verdict.Bounds.{Bounds}
use Rattle.answer_document.specs.declared.verdict.Verdict.{Verdict}
use Rattle.answer_document.specs.declared.verdict.Verdict.TheVariants.{Satisfiable, Unsatisfiable, Optimum, Unknown}
use Rattle.answer_document.specs.Verdicts.{numbers_in}
use Rattle.answer_document.specs.BoundAtoms.{first_bound, second_bound, fixed}
use Rattle.answer_document.specs.Valid.{start_of, atom_clauses, stated}
use Rattle.certificate_lines.specs.Counts.{is_count}
use Rattle.ledger_check.specs.declared.part.Part.{Part}
use Rattle.ledger_check.specs.declared.part.Part.TheVariants as part
use Rattle.ledger_check.specs.declared.fault.Why.{Why}
use Rattle.ledger_check.specs.declared.fault.Why.TheVariants as why
use Rattle.ledger_check.specs.declared.told.Told.TheVariants.{Truth, Number}
use Rattle.ledger_check.specs.declared.told.Told.{Told}
use Rattle.ledger_check.specs.Items.{Item, Version, Answer, Best, Value, LedgerBegins, Step, ProofBegins, Derived}
use Rattle.ledger_check.specs.Items.{SecondBegins, End, Standing}

-- before the first line
abbrev pub start_standing : Model → Standing
start_standing model = record {
  part = part.Version;
  verdict = Unsatisfiable;
  values = [];
  kernel = start_of model;
  entries = (lowered_of model).map.entries;
  first = None;
  second = None;
}

-- whether a verdict fits a goal
abbrev pub verdict_fits : Goal → Verdict → Bool
verdict_fits goal Satisfiable = not (has_objective goal)
verdict_fits goal Unsatisfiable = true
verdict_fits goal (Optimum b) = has_objective goal
verdict_fits goal (Unknown n best) = is_count n

-- what comes behind a verdict
abbrev pub behind_verdict : Verdict → Part
behind_verdict Satisfiable = part.Values
behind_verdict Unsatisfiable = part.Unanswered
behind_verdict (Optimum b) = part.Values
behind_verdict (Unknown n best) = part.Best

-- a verdict with a best solution's values
abbrev pub with_best : Verdict → Bounds → Verdict
with_best Satisfiable b = Satisfiable
with_best Unsatisfiable b = Unsatisfiable
with_best (Optimum c) b = Optimum c
with_best (Unknown n best) b = Unknown n (Some b)

-- the number that a value is for a name of a kind, where it is one of its domain
abbrev pub member_or_none : Kind → ℤ → Option ℤ
member_or_none k z = if is_member z (domain k) then Some z else None

abbrev pub told_number : Kind → Told → Option ℤ
told_number kind.Bool (Truth b) = Some (if b then pos 1 else pos 0)
told_number kind.Bool (Number z) = None
told_number k (Truth b) = None
told_number k (Number z) = member_or_none k z

abbrev pub told_of : Option Decl → Told → Option ℤ
told_of None t = None
told_of (Some d) t = told_number d.kind t

-- two lists of numbers are equal
abbrev pub same_numbers : List ℤ → List ℤ → Bool
same_numbers [] [] = true
same_numbers [] (y ∷ ys) = false
same_numbers (x ∷ xs) [] = false
same_numbers (x ∷ xs) (y ∷ ys) = int_eq x y && same_numbers xs ys

-- what stands against the values: the first statement that doesn't hold, or stated numbers that the objectives don't
-- have
abbrev pub objective_fault : Goal → List ℤ → Option Bounds → Option Why
objective_fault goal values None = None
objective_fault goal values (Some b) = if same_numbers (objective goal values) (numbers_in b) then None
    else Some why.Objective

abbrev pub statement_fault : Option ℕ → Option Why → Option Why
statement_fault None behind = behind
statement_fault (Some n) behind = Some (why.Statement n)

abbrev pub values_fault : Model → Standing → Option Why
values_fault model s =
    if in_domains model.decls s.values then statement_fault (first_broken s.values model.stmts)
    (objective_fault model.goal s.values (stated s.verdict)) else Some why.Value

-- whether an atom is shown by a proof
abbrev pub is_shown : Proof → Atom → Bool
is_shown p True = true
is_shown p False = known p []
is_shown p (Of l) = known p [] || known p (l ∷ [])

-- whether the bounds that a verdict states are shown
abbrev pub is_first_shown : Model → Standing → Option Proof → ℤ → Bool
is_first_shown model s None m = false
is_first_shown model s (Some p) m = is_shown p (resolve s.kernel.view (first_bound model.goal s.entries m))

abbrev pub is_second_shown : Model → Standing → Option Proof → ℤ → Bool
is_second_shown model s None n = false
is_second_shown model s (Some q) n = is_shown q (resolve s.kernel.view (second_bound model.goal s.entries n))

-- how many clauses were added in both proofs together
abbrev pub additions_in : Option Proof → ℕ
additions_in None = 0
additions_in (Some p) = length p.added

abbrev pub is_refuted : Option Proof → Bool
is_refuted None = false
is_refuted (Some p) = known p []

abbrev pub is_optimal : Model → Standing → ℤ → Option ℤ → Bool
is_optimal model s m None = is_first_shown model s s.first m
is_optimal model s m (Some n) = is_second_shown model s s.second n

-- whether what was derived shows the verdict
abbrev pub is_concluded : Model → Standing → Verdict → Bool
is_concluded model s Satisfiable = true
is_concluded model s Unsatisfiable = is_refuted s.first
is_concluded model s (Optimum b) = is_optimal model s b.first b.second
is_concluded model s (Unknown n best) = additions_in s.first + additions_in s.second == n

-- the standing behind a line, unless something stands against it
abbrev pub unless : Option Why → Standing → Result Standing Why
unless None s = Ok s
unless (Some w) s = Err w

abbrev pub when : Bool → Why → Standing → Result Standing Why
when holds w s = if holds then Ok s else Err w

abbrev pub with_value : Standing → Option ℤ → Result Standing Why
with_value s None = Err why.Value
with_value s (Some z) = Ok (record s { values = s.values ++ z ∷ [] })

abbrev pub with_kernel : Standing → Result Kernel StepFault → Result Standing Why
with_kernel s (Ok k) = Ok (record s { kernel = k })
with_kernel s (Err e) = Err (why.Step e)

abbrev pub with_first : Standing → Result Proof ProofFault → Result Standing Why
with_first s (Ok p) = Ok (record s { first = Some p })
with_first s (Err e) = Err (why.Proof e)

abbrev pub with_second : Standing → Result Proof ProofFault → Result Standing Why
with_second s (Ok p) = Ok (record s { second = Some p })
with_second s (Err e) = Err (why.Proof e)

-- a line of a derivation that has come so far
abbrev pub line_taken : Option Proof → ProofLine → Result Proof ProofFault
line_taken None line = Err Id
line_taken (Some p) line = take_line p line

-- the CNF over which the second objective is sought
abbrev pub fixed_cnf : Model → Standing → ℤ → Cnf
fixed_cnf model s m = record {
  vars = (cnf_of s.kernel).vars;
  clauses = (cnf_of s.kernel).clauses ++ atom_clauses (resolve s.kernel.view (fixed model.goal s.entries m));
}

-- the second derivation begins
abbrev pub second_begun : Model → Standing → Option Bounds → Result Standing Why
second_begun model s None = Err why.Open
second_begun model s (Some b) =
    when (is_first_shown model s s.first b.first) why.Open
    (record s { part = part.Second; second = Some (proof_of (fixed_cnf model s b.first)) })

-- What is made of what a line says, part by part.
abbrev pub taken_in : Model → Standing → Part → Item → Result Standing Why
taken_in model s part.Version (Version two) =
    when (beq two (has_second model.goal)) why.Goal (record s { part = part.Verdict })
taken_in model s part.Verdict (Answer v) =
    when (verdict_fits model.goal v) why.Goal (record s { part = behind_verdict v; verdict = v })
taken_in model s part.Best (Best b) =
    when (has_objective model.goal) why.Goal (record s { part = part.Values; verdict = with_best s.verdict b })
taken_in model s part.Best LedgerBegins = Ok (record s { part = part.Ledger })
taken_in model s part.Values (Value t) = with_value s (told_of (slice_get model.decls (length s.values)) t)
taken_in model s part.Values LedgerBegins = unless (values_fault model s) (record s { part = part.Ledger })
taken_in model s part.Values End = unless (values_fault model s) (record s { part = part.End })
taken_in model s part.Unanswered LedgerBegins = Ok (record s { part = part.Ledger })
taken_in model s part.Ledger (Step line) = with_kernel s (step s.kernel line)
taken_in model s part.Ledger ProofBegins =
    Ok (record s { part = part.Proof; first = Some (proof_of (cnf_of s.kernel)) })
taken_in model s part.Proof (Derived line) = with_first s (line_taken s.first line)
taken_in model s part.Proof SecondBegins = second_begun model s (stated s.verdict)
taken_in model s part.Proof End = when (is_concluded model s s.verdict) why.Open (record s { part = part.End })
taken_in model s part.Second (Derived line) = with_second s (line_taken s.second line)
taken_in model s part.Second End = when (is_concluded model s s.verdict) why.Open (record s { part = part.End })
taken_in model s p item = Err why.Shape

abbrev pub taken : Model → Standing → Item → Result Standing Why
taken model s item = taken_in model s s.part item
