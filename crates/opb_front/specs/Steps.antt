-- How a text is read, token by token: where the reading stands, which token may stand next, and what is known behind
-- it.
use Rattle.std.specs.Prelude.{◌≡◌, ◌⊎◌, ℕ, ◌+◌, max, ℤ, pos, neg_ℤ, ◌+ℤ◌, ◌-ℤ◌}
use Rattle.std.specs.Prelude.{int_le, int_lt, Bool, true, false, List, [], ◌∷◌, ◌++◌, Option, Some, None}
use Rattle.std.specs.Prelude.{Result, Ok, Err, if◌then◌else◌}
use Rattle.opb_front.specs.declared.items.Term.{Term}
use Rattle.opb_front.specs.declared.items.Constraint.{Constraint}
use Rattle.opb_front.specs.declared.items.Objective.{Objective}
use Rattle.opb_front.specs.declared.items.Literal.{Literal}
use Rattle.opb_front.specs.declared.items.Comparison.{Comparison}
use Rattle.opb_front.specs.declared.tokens.Token.{Token}
use Rattle.opb_front.specs.declared.tokens.Token.TheVariants.{Min, Semicolon, Compare, Number, PastNumber, Of}
use Rattle.opb_front.specs.declared.tokens.Token.TheVariants.{PastIndex, Unknown}
use Rattle.opb_front.specs.declared.places.Place.{Place}
use Rattle.opb_front.specs.declared.places.Place.TheVariants.{First, Objectives, ObjectiveNumber, Terms, TermNumber}
use Rattle.opb_front.specs.declared.places.Place.TheVariants.{Bound, End}
use Rattle.opb_front.specs.declared.fault.Misfit.{Misfit}
use Rattle.opb_front.specs.declared.fault.Misfit.TheVariants as misfit
use Rattle.opb_front.specs.Tokens.{most_number, line_tokens}

-- A number or an index past its limit is as good a token as another one would be.
abbrev pub sized : Token → Token
sized PastNumber = Number (pos 0)
sized PastIndex = Of (record { index = 1; positive = true })
sized Min = Min
sized Semicolon = Semicolon
sized (Compare c) = Compare c
sized (Number z) = Number z
sized (Of l) = Of l
sized Unknown = Unknown

-- where the reading stands behind a token, if it may stand next; the token is in its limits
abbrev pub step_terms : Token → Option Place
step_terms (Number z) = Some (TermNumber z)
step_terms (Compare c) = Some (Bound c)
step_terms t = None

abbrev pub step_first : Token → Option Place
step_first Min = Some Objectives
step_first (Number z) = Some (TermNumber z)
step_first (Compare c) = Some (Bound c)
step_first t = None

abbrev pub step_objective : Token → Option Place
step_objective (Number z) = Some (ObjectiveNumber z)
step_objective Semicolon = Some Terms
step_objective t = None

-- behind a coefficient stands its literal
abbrev pub step_literal : Place → Token → Option Place
step_literal p (Of l) = Some p
step_literal p t = None

abbrev pub step_bound : Comparison → Token → Option Place
step_bound c (Number z) = Some (End c z)
step_bound c t = None

abbrev pub step_end : Token → Option Place
step_end Semicolon = Some Terms
step_end t = None

abbrev pub step_sized : Place → Token → Option Place
step_sized First t = step_first t
step_sized Objectives t = step_objective t
step_sized (ObjectiveNumber z) t = step_literal Objectives t
step_sized Terms t = step_terms t
step_sized (TermNumber z) t = step_literal Terms t
step_sized (Bound c) t = step_bound c t
step_sized (End c z) t = step_end t

-- the same of any token
abbrev pub step : Place → Token → Option Place
step p t = step_sized p (sized t)

-- what is known of a text that is read so far
pub record Draft : Type 0 where
  pub place : Place
  -- the terms of the sum that is open
  pub terms : List Term
  -- the sums of the negative and of the positive coefficients of the objective
  pub low : ℤ
  pub high : ℤ
  pub objective : Option Objective
  pub constraints : List Constraint
  pub vars : ℕ

abbrev pub nothing_read : Draft
nothing_read = record {
  place = First;
  terms = [];
  low = pos 0;
  high = pos 0;
  objective = None;
  constraints = [];
  vars = 0;
}

-- whether a coefficient passes the limit of the sum that it is added to
abbrev pub sum_passes : ℤ → ℤ → ℤ → Bool
sum_passes low high z =
    if int_le (pos 0) z then int_lt (pos most_number -ℤ high) z else int_lt z (neg_ℤ (pos most_number) -ℤ low)

abbrev pub passes_at : Place → ℤ → ℤ → ℤ → Bool
passes_at Objectives low high z = sum_passes low high z
passes_at p low high z = false

-- whether a limit is passed with a token
abbrev pub passes : Draft → Token → Bool
passes s PastNumber = true
passes s PastIndex = true
passes s (Number z) = passes_at s.place s.low s.high z
passes s t = false

-- what is known behind a token, but for the place

abbrev pub with_number : Place → Draft → ℤ → Draft
with_number Objectives s z =
    record s {
      low = (if int_le (pos 0) z then s.low else s.low +ℤ z);
      high = (if int_le (pos 0) z then s.high +ℤ z else s.high);
    }
with_number p s z = s

abbrev pub with_term : Draft → ℤ → Literal → Draft
with_term s z l = record s {
  terms = s.terms ++ record { coefficient = z; literal = l } ∷ [];
  vars = max s.vars l.index;
}

abbrev pub with_literal : Place → Draft → Literal → Draft
with_literal (ObjectiveNumber z) s l = with_term s z l
with_literal (TermNumber z) s l = with_term s z l
with_literal p s l = s

abbrev pub with_end : Place → Draft → Draft
with_end Objectives s =
    record s { terms = []; objective = Some (record { terms = s.terms; low = s.low; high = s.high }) }
with_end (End c z) s =
    record s { terms = []; constraints = s.constraints ++ record { terms = s.terms; comparison = c; bound = z } ∷ [] }
with_end p s = s

abbrev pub with_token : Draft → Token → Draft
with_token s (Number z) = with_number s.place s z
with_token s (Of l) = with_literal s.place s l
with_token s Semicolon = with_end s.place s
with_token s t = s

abbrev pub at_place : Draft → Place → Draft
at_place s p = record s { place = p }

-- what comes of a token
abbrev pub move_to : Option Place → Bool → Draft → Token → Result Draft Misfit
move_to None past s t = Err misfit.Syntax
move_to (Some p) true s t = Err misfit.Number
move_to (Some p) false s t = Ok (at_place (with_token s t) p)

abbrev pub move : Draft → Token → Result Draft Misfit
move s t = move_to (step s.place t) (passes s t) s t

-- what comes of tokens, up to the first that isn't taken

abbrev pub run_behind : Result Draft Misfit → (Draft → Result Draft Misfit) → Result Draft Misfit
run_behind (Ok s) next = next s
run_behind (Err m) next = Err m

abbrev pub run : Draft → List Token → Result Draft Misfit
run s [] = Ok s
run s (t ∷ ts) = run_behind (move s t) (λ u. run u ts)

-- what comes of lines, the first of which has this number
abbrev pub lines_behind : Result Draft Misfit → ℕ → (Draft → Result Draft (Misfit × ℕ))
    → Result Draft (Misfit × ℕ)
lines_behind (Ok s) n next = next s
lines_behind (Err m) n next = Err (m, n)

abbrev pub run_lines : ℕ → Draft → List (List ℕ) → Result Draft (Misfit × ℕ)
run_lines n s [] = Ok s
run_lines n s (line ∷ lines) = lines_behind (run s (line_tokens line)) n (λ u. run_lines (n + 1) u lines)

-- a text may end before its first token and behind `;`
abbrev pub IsRest : Place → Type 0
IsRest First = Unit {0}
IsRest Terms = Unit {0}
IsRest p = ⊥

abbrev pub IsEnded : Draft → Type 0
IsEnded s = IsRest s.place × (s.terms ≡ [])
