-- Values, as a SAT solver answers them for a CNF.
--
--     c ..                     any line with this first word says nothing, nor does a line without words
--     s SATISFIABLE            once, before the `v` lines
--     v LITERAL LITERAL ..     one line or more; 0 stands behind the last literal
--
-- Words stand apart by blanks, tabs and carriage returns. Each variable of the CNF stands once.
use Rattle.std.specs.Prelude.{◌≡◌, ◌⊎◌, ℕ, ◌-◌, ◌≤◌, Bool, true, false, List, [], ◌∷◌}
use Rattle.std.specs.Prelude.{codes, replicate, slice_get, slice_set, Some, IsTrue}
use Rattle.std.specs.List.{list_all}
use Rattle.std.specs.Str.{bytes_eq}
use Rattle.bee_text.specs.Gaps.{words_of}
use Rattle.order_ints.specs.declared.literal.Lit.{Lit}
use Rattle.order_ints.specs.declared.cnf.Cnf.{Cnf}
use Rattle.order_ints.specs.Truth.{valuation_of}
use Rattle.order_ints.specs.Satisfies.{Satisfies}
use Rattle.ledger_text.specs.Words.{literal_word}
use Rattle.dimacs_read.specs.declared.values.Stage.{Stage}
use Rattle.dimacs_read.specs.declared.values.Stage.TheVariants.{Before, Listing, Ended}
use Rattle.line_texts.specs.LineByLine.{IsWhole, FirstMisfit}

-- which variables were told, and their truth values, false for one that wasn't; that of variable 1 stands first
pub record Known : Type 0 where
  pub listed : List Bool
  pub values : List Bool

-- how far the text is read, and what it told so far
pub record Told : Type 0 where
  pub stage : Stage
  pub known : Known

abbrev pub told : Stage → Known → Told
told s k = record { stage = s; known = k }

-- no variable of n was told
abbrev pub nothing_known : ℕ → Known
nothing_known n = record { listed = replicate n false; values = replicate n false }

abbrev pub nothing_told : ℕ → Told
nothing_told n = told Before (nothing_known n)

-- the literal's variable is one of the CNF, and wasn't told
abbrev pub IsNew : Known → Lit → Type 0
IsNew k l = (1 ≤ l.var) × (slice_get k.listed (l.var - 1) ≡ Some false)

-- a literal tells that it is true
abbrev pub with_literal : Known → Lit → Known
with_literal k l = record {
  listed = slice_set k.listed (l.var - 1) true;
  values = slice_set k.values (l.var - 1) l.positive;
}

-- words that tell values: literals, and where `ends` says so, 0 behind them
abbrev pub Tell : Known → List (List ℕ) → Bool → Known → Type 0
Tell k [] ends after = (ends ≡ false) × (after ≡ k)
Tell k (w ∷ ws) ends after =
    ((w ≡ codes "0") × (ws ≡ []) × (ends ≡ true) × (after ≡ k))
    ⊎ ((l : Lit) × (w ≡ literal_word l) × IsNew k l × Tell (with_literal k l) ws ends after)

-- each variable was told, and the values satisfy the clauses
abbrev pub IsAnswer : Cnf → Known → Type 0
IsAnswer cnf k = IsTrue (list_all (λ b. b) k.listed) × Satisfies (valuation_of k.values) cnf

-- what is told behind a `v` line, and behind the one that ends the values
abbrev pub Stands : Cnf → Bool → Known → Told → Type 0
Stands cnf false k t = t ≡ told Listing k
Stands cnf true k t = IsAnswer cnf k × (t ≡ told Ended k)

-- words that stand behind the first word of a `v` line
pub record IsTold (cnf : Cnf) (k : Known) (words : List (List ℕ)) (t : Told) : Type 0 where
  pub ends : Bool
  pub known : Known
  pub tell : Tell k words ends known
  pub stands : Stands cnf ends known t

-- the words are those of a `v` line
pub record IsList (cnf : Cnf) (k : Known) (words : List (List ℕ)) (t : Told) : Type 0 where
  pub behind : List (List ℕ)
  pub words_are : words ≡ codes "v" ∷ behind
  pub tells : IsTold cnf k behind t

-- the words of a line that says something are those of the next
abbrev pub Says : Cnf → Stage → Known → List (List ℕ) → Told → Type 0
Says cnf Before k words t = (words ≡ codes "s" ∷ codes "SATISFIABLE" ∷ []) × (t ≡ told Listing k)
Says cnf Listing k words t = IsList cnf k words t
Says cnf Ended k words t = ⊥

-- a line without words, or with the first word `c`, says nothing
abbrev pub is_skipped : List (List ℕ) → Bool
is_skipped [] = true
is_skipped (w ∷ ws) = bytes_eq w (codes "c")

-- the line may stand next
abbrev pub NextValues : Cnf → Told → List ℕ → Told → Type 0
NextValues cnf s line t =
    ((is_skipped (words_of line) ≡ true) × (t ≡ s))
    ⊎ ((is_skipped (words_of line) ≡ false) × Says cnf s.stage s.known (words_of line) t)

-- the values are told to their end
abbrev pub AreTold : Told → Type 0
AreTold t = t.stage ≡ Ended

-- the text is in the form of values, and these are the truth values that it tells, which satisfy the clauses
pub record IsValues (cnf : Cnf) (text : List ℕ) (values : List Bool) : Type 0 where
  pub told : Told
  pub whole : IsWhole (NextValues cnf) AreTold (nothing_told cnf.vars) text told
  pub values_are : told.known.values ≡ values

-- the line of this number is the first that fails
abbrev pub ValuesFail : Cnf → List ℕ → ℕ → Type 0
ValuesFail cnf = FirstMisfit (NextValues cnf) AreTold (nothing_told cnf.vars)
