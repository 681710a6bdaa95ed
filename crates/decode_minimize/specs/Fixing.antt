-- Which lines add a clause.
use Rattle.std.specs.Prelude.{Bool, true, false}
use Rattle.proof_check.specs.declared.line.ProofLine.{ProofLine}
use Rattle.proof_check.specs.declared.line.ProofLine.TheVariants.{Add, Delete}

abbrev pub adds_clause : ProofLine → Bool
adds_clause (Add id lits hints) = true
adds_clause (Delete at ids) = false
