-- What a text says, as the tokens that spell it.
--
--     TEXT        OBJECTIVE CONSTRAINT ..     the objective may be left out
--     OBJECTIVE   min: TERM .. ;
--     CONSTRAINT  TERM .. COMPARISON NUMBER ;
--     TERM        NUMBER LITERAL
--     COMPARISON  >= or <= or =
--     NUMBER      digits, with + or - before them or neither
--     LITERAL     x and digits that begin with none that is zero, or ~ and this
use Rattle.std.specs.Prelude.{◌≡◌, ℕ, max, ℤ, pos, ◌+ℤ◌, ◌≤ℤ◌, int_le, neg_ℤ, List, []}
use Rattle.std.specs.Prelude.{◌∷◌, ◌++◌, map, Option, Some, None, if◌then◌else◌}
use Rattle.opb_front.specs.declared.items.Term.{Term}
use Rattle.opb_front.specs.declared.items.Constraint.{Constraint}
use Rattle.opb_front.specs.declared.items.Objective.{Objective}
use Rattle.opb_front.specs.declared.items.Opb.{Opb}
use Rattle.opb_front.specs.declared.tokens.Token.{Token}
use Rattle.opb_front.specs.declared.tokens.Token.TheVariants.{Min, Semicolon, Compare, Number, Of}
use Rattle.opb_front.specs.Tokens.{most_number, text_tokens}

-- the tokens of each part

abbrev pub terms_tokens : List Term → List Token
terms_tokens [] = []
terms_tokens (t ∷ ts) = Number t.coefficient ∷ Of t.literal ∷ terms_tokens ts

abbrev pub objective_tokens : Option Objective → List Token
objective_tokens None = []
objective_tokens (Some o) = Min ∷ (terms_tokens o.terms ++ Semicolon ∷ [])

abbrev pub constraint_tokens : Constraint → List Token
constraint_tokens c = terms_tokens c.terms ++ (Compare c.comparison ∷ Number c.bound ∷ Semicolon ∷ [])

abbrev pub constraints_tokens : List Constraint → List Token
constraints_tokens [] = []
constraints_tokens (c ∷ cs) = constraint_tokens c ++ constraints_tokens cs

-- the tokens of the whole
abbrev pub opb_tokens : Option Objective → List Constraint → List Token
opb_tokens objective constraints = objective_tokens objective ++ constraints_tokens constraints

-- the sums of the positive and of the negative coefficients

abbrev pub sum_above : List Term → ℤ
sum_above [] = pos 0
sum_above (t ∷ ts) = (if int_le (pos 0) t.coefficient then t.coefficient else pos 0) +ℤ sum_above ts

abbrev pub sum_below : List Term → ℤ
sum_below [] = pos 0
sum_below (t ∷ ts) = (if int_le (pos 0) t.coefficient then pos 0 else t.coefficient) +ℤ sum_below ts

-- the two sums are these, and in the limit
pub record SumsFit (o : Objective) : Type 0 where
  pub low : o.low ≡ sum_below o.terms
  pub high : o.high ≡ sum_above o.terms
  pub least : neg_ℤ (pos most_number) ≤ℤ o.low
  pub most : o.high ≤ℤ pos most_number

abbrev pub ObjectiveFits : Option Objective → Type 0
ObjectiveFits None = Unit {0}
ObjectiveFits (Some o) = SumsFit o

-- the greatest index

abbrev pub terms_index : List Term → ℕ
terms_index [] = 0
terms_index (t ∷ ts) = max t.literal.index (terms_index ts)

abbrev pub objective_index : Option Objective → ℕ
objective_index None = 0
objective_index (Some o) = terms_index o.terms

abbrev pub constraints_index : List Constraint → ℕ
constraints_index [] = 0
constraints_index (c ∷ cs) = max (terms_index c.terms) (constraints_index cs)

abbrev pub greatest_index : Option Objective → List Constraint → ℕ
greatest_index objective constraints = max (objective_index objective) (constraints_index constraints)

-- The text says this. That each number and each index is in its limit lies in its tokens.
pub record IsOpbText (text : List ℕ) (opb : Opb) : Type 0 where
  pub tokens : text_tokens text ≡ opb_tokens opb.objective opb.constraints
  pub sums : ObjectiveFits opb.objective
  pub vars : opb.vars ≡ greatest_index opb.objective opb.constraints
