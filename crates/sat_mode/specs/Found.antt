-- What the mode writes for a text.
use Rattle.std.specs.Prelude.{◌≡◌, ◌⊎◌, ℕ, ◌<◌, ◌≤◌, Bool, true, false, List, [], length}
use Rattle.std.specs.Prelude.{IsTrue}
use Rattle.order_ints.specs.declared.literal.Lit.{Lit}
use Rattle.order_ints.specs.declared.cnf.Cnf.{Cnf}
use Rattle.order_ints.specs.Truth.{Valuation, valuation_of}
use Rattle.order_ints.specs.Satisfies.{clauses_truth}
use Rattle.proof_check.specs.declared.line.ProofLine.{ProofLine}
use Rattle.proof_check.specs.Lrat.{Lrat}
use Rattle.proof_check.specs.Known.{known}
use Rattle.proof_check.specs.Lines.{Each, IsReadable}
use Rattle.learning_solver.specs.Log.{additions, proof_behind, IsFreshLog}
use Rattle.learning_solver.specs.Outcome.{most_learned}
use Rattle.text_modes.specs.declared.ends.Outcome.{Outcome}
use Rattle.text_modes.specs.declared.ends.Outcome.TheVariants.{Done, Refused, Unknown}
use Rattle.sat_front.specs.HeldCnfs.{HoldsCnf}
use Rattle.search_options.specs.declared.options.SearchOptions.{SearchOptions}
use Rattle.sat_mode.specs.Texts.{values_text, refutation_text, unknown_text}

-- the written text tells a value for each variable, under which each listed clause is true
pub record TellsValues (vars : ℕ) (clauses : List (List Lit)) (written : List ℕ) : Type 0 where
  pub values : List Bool
  pub count : length values ≡ vars
  pub satisfies : IsTrue (clauses_truth (valuation_of values) clauses)
  pub writes : written ≡ values_text values

-- The lines are a proof from the CNF, in the form of LRAT. Each added clause is new among those that live before it,
-- and only added ones are deleted. The checker reads each line's text as that line.
pub record IsProof (cnf : Cnf) (log : List ProofLine) : Type 0 where
  pub accepted : Lrat cnf log
  pub fresh : IsFreshLog cnf log
  pub readable : Each IsReadable log

-- the written text tells a proof of the empty clause from the CNF, in no more added clauses than the budget has or any
-- search needs, and no valuation satisfies the listed clauses
pub record TellsRefutation (options : SearchOptions) (cnf : Cnf) (clauses : List (List Lit)) (written : List ℕ)
    : Type 0 where
  pub log : List ProofLine
  pub proof : IsProof cnf log
  pub empty : known (proof_behind cnf log) [] ≡ true
  pub within : additions log ≤ options.budget
  pub most : additions log ≤ most_learned options.restart cnf.vars
  pub none : (σ : Valuation) → IsTrue (clauses_truth σ clauses) → ⊥
  pub writes : written ≡ refutation_text log

-- the written text tells a proof of as many added clauses as the budget has, which are fewer than any search needs, and
-- neither the CNF nor the proof has the empty clause
pub record TellsUnknown (options : SearchOptions) (cnf : Cnf) (count : ℕ) (written : List ℕ) : Type 0 where
  pub log : List ProofLine
  pub proof : IsProof cnf log
  pub budget : count ≡ options.budget
  pub spent : additions log ≡ count
  pub early : count < most_learned options.restart cnf.vars
  pub not_empty : known (proof_behind cnf log) [] ≡ false
  pub writes : written ≡ unknown_text log

-- what is written for a CNF and the clauses that a text lists for it, by its outcome
abbrev pub Tells : SearchOptions → Cnf → List (List Lit) → Outcome → List ℕ → Type 0
Tells options cnf clauses Done written = TellsValues cnf.vars clauses written
    ⊎ TellsRefutation options cnf clauses written
Tells options cnf clauses (Unknown count) written = TellsUnknown options cnf count written
Tells options cnf clauses (Refused line) written = ⊥

-- what is written for a text
pub record IsSolved (options : SearchOptions) (text : List ℕ) (outcome : Outcome) (written : List ℕ) : Type 0 where
  pub cnf : Cnf
  pub held : HoldsCnf text cnf
  pub tells : Tells options cnf held.is.draft.listed.clauses outcome written
