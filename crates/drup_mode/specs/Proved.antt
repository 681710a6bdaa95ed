-- What a CNF's text and a proof give: that the proof is valid, so that no valuation satisfies the clauses of the text,
-- or the line of it that fails. Of two texts that of the CNF is the first, and the proof the second.
use Rattle.std.specs.Prelude.{◌≡◌, ℕ, List, [], ◌∷◌, ◌++◌, codes, IsTrue}
use Rattle.order_ints.specs.declared.literal.Lit.{Lit}
use Rattle.order_ints.specs.declared.cnf.Cnf.{Cnf}
use Rattle.order_ints.specs.Truth.{Valuation}
use Rattle.order_ints.specs.Satisfies.{clauses_truth}
use Rattle.sat_front.specs.HeldCnfs.{HoldsCnf}
use Rattle.drup_check.specs.DrupLines.{IsDrup, DrupFails}
use Rattle.text_modes.specs.Refusal.{refusal_text}
use Rattle.text_modes.specs.TwoTexts.{Texts}
use Rattle.text_modes.specs.declared.ends.Outcome.{Outcome}
use Rattle.text_modes.specs.declared.ends.Outcome.TheVariants.{Done, Refused, Unknown}

-- the text that tells that a proof is valid
abbrev pub accepted_text : List ℕ
accepted_text = codes "ACCEPTED" ++ 10 ∷ []

-- the proof is valid, and the written line says so
pub record TellsProof (cnf : Cnf) (proof written : List ℕ) : Type 0 where
  pub is : IsDrup cnf proof
  pub writes : written ≡ accepted_text

-- the proof isn't valid, and the written line tells the first line of it that fails
pub record TellsRefusal (cnf : Cnf) (proof written : List ℕ) (line : ℕ) : Type 0 where
  pub fails : DrupFails cnf proof line
  pub writes : written ≡ refusal_text line

-- what is written for a CNF and a proof
abbrev pub IsCheck : Cnf → List ℕ → Outcome → List ℕ → Type 0
IsCheck cnf proof Done written = TellsProof cnf proof written
IsCheck cnf proof (Refused line) written = TellsRefusal cnf proof written line
IsCheck cnf proof (Unknown count) written = ⊥

-- no valuation satisfies the clauses
abbrev pub AreUnsatisfiable : List (List Lit) → Type 0
AreUnsatisfiable clauses = (σ : Valuation) → IsTrue (clauses_truth σ clauses) → ⊥

-- The first text lists clauses, from whose CNF the second is a valid proof, and the written line says so. No valuation
-- satisfies the clauses that are listed.
pub record IsAccepted (texts : Texts) (written : List ℕ) : Type 0 where
  pub cnf : Cnf
  pub held : HoldsCnf texts.first cnf
  pub tells : TellsProof cnf texts.second written
  pub none : AreUnsatisfiable held.is.draft.listed.clauses

-- the first text lists clauses, from whose CNF the second is no valid proof, and the written line tells its first line
-- that fails
pub record IsTurnedDown (line : ℕ) (texts : Texts) (written : List ℕ) : Type 0 where
  pub cnf : Cnf
  pub held : HoldsCnf texts.first cnf
  pub tells : TellsRefusal cnf texts.second written line

-- what is written for two texts, by its outcome
abbrev pub Gives : Texts → Outcome → List ℕ → Type 0
Gives texts Done written = IsAccepted texts written
Gives texts (Refused line) written = IsTurnedDown line texts written
Gives texts (Unknown count) written = ⊥

-- the second text is a valid proof from the CNF of the first one
pub record IsProved (texts : Texts) : Type 0 where
  pub cnf : Cnf
  pub held : HoldsCnf texts.first cnf
  pub proof : IsDrup cnf texts.second

-- the second text is no valid proof from the CNF of the first one, and this line of it is the first that fails
pub record FailsBehind (line : ℕ) (texts : Texts) : Type 0 where
  pub cnf : Cnf
  pub held : HoldsCnf texts.first cnf
  pub fails : DrupFails cnf texts.second line
