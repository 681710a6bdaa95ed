-- The texts that tell what was found of a CNF.
--
--     s SATISFIABLE          values: the line `v` has each variable once, in order, behind `-` where it is false
--     v LITERAL .. 0
--
--     s UNSATISFIABLE        that there are none: the lines of a proof, of which one adds the empty clause, unless
--     LINE ..                it is one of the CNF
--
--     s UNKNOWN              that the search was given up: the lines so far
--     LINE ..
use Rattle.std.specs.Prelude.{ℕ, ◌+◌, Bool, List, [], ◌∷◌, ◌++◌, map, codes}
use Rattle.bee_text.specs.Lines.{join_lines}
use Rattle.bee_text.specs.Words.{join_words}
use Rattle.order_ints.specs.declared.literal.Lit.{Lit}
use Rattle.ledger_text.specs.Words.{literal_word}
use Rattle.proof_check.specs.declared.line.ProofLine.{ProofLine}
use Rattle.proof_check.specs.Lines.{line_bytes}

-- the literals that are true under values, whose first one is that of this variable
abbrev pub literals_from : ℕ → List Bool → List Lit
literals_from v [] = []
literals_from v (b ∷ values) = record { var = v; positive = b } ∷ literals_from (v + 1) values

-- the words of the line that tells values
abbrev pub value_words : List Bool → List (List ℕ)
value_words values = codes "v" ∷ (map literal_word (literals_from 1 values) ++ codes "0" ∷ [])

abbrev pub values_text : List Bool → List ℕ
values_text values = join_lines (codes "s SATISFIABLE" ∷ join_words (value_words values) ∷ [])

abbrev pub refutation_text : List ProofLine → List ℕ
refutation_text log = join_lines (codes "s UNSATISFIABLE" ∷ map line_bytes log)

abbrev pub unknown_text : List ProofLine → List ℕ
unknown_text log = join_lines (codes "s UNKNOWN" ∷ map line_bytes log)
