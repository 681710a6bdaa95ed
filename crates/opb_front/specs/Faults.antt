-- The first fault of a text.
use Rattle.std.specs.Prelude.{◌≡◌, ◌⊎◌, ℕ, ◌+◌, ℤ, pos, neg_ℤ, ◌+ℤ◌, ◌<ℤ◌, List, []}
use Rattle.std.specs.Prelude.{◌∷◌, ◌++◌, length, map, Option, Result, Ok, Err}
use Rattle.opb_front.specs.declared.items.Term.{Term}
use Rattle.opb_front.specs.declared.items.Constraint.{Constraint}
use Rattle.opb_front.specs.declared.items.Objective.{Objective}
use Rattle.opb_front.specs.declared.items.Opb.{Opb}
use Rattle.opb_front.specs.declared.tokens.Token.{Token}
use Rattle.opb_front.specs.declared.tokens.Token.TheVariants.{Min, Number, PastNumber, PastIndex}
use Rattle.opb_front.specs.declared.fault.Misfit.{Misfit}
use Rattle.opb_front.specs.declared.fault.Misfit.TheVariants as misfit
use Rattle.opb_front.specs.declared.fault.OpbFault.{OpbFault}
use Rattle.opb_front.specs.declared.fault.OpbFault.TheVariants.{Syntax, Number as PastLimit, Memory}
use Rattle.opb_front.specs.Words.{text_lines}
use Rattle.opb_front.specs.Tokens.{most_number, line_tokens, lines_tokens, text_tokens}
use Rattle.opb_front.specs.Grammar.{terms_tokens, opb_tokens, sum_above, sum_below, IsOpbText}
use Rattle.opb_front.specs.Steps.{sized}

-- The tokens begin a text, whatever the size of their numbers: with others behind them they spell something.
pub record Begins (ts : List Token) : Type 0 where
  pub behind : List Token
  pub objective : Option Objective
  pub constraints : List Constraint
  pub spelled : map sized ts ++ behind ≡ opb_tokens objective constraints

-- a coefficient of the objective, behind these terms of it, passes the limit of a sum
pub record SumPasses (before : List Token) (t : Token) : Type 0 where
  pub terms : List Term
  pub term : Term
  pub tokens : before ≡ Min ∷ terms_tokens terms
  pub number : t ≡ Number term.coefficient
  pub past : (sum_below (terms ++ term ∷ []) <ℤ neg_ℤ (pos most_number))
      ⊎ (pos most_number <ℤ sum_above (terms ++ term ∷ []))

-- a limit is passed with a token behind these
abbrev pub IsPast : List Token → Token → Type 0
IsPast before t = ((t ≡ PastNumber) ⊎ (t ≡ PastIndex)) ⊎ SumPasses before t

-- A token behind these is at fault. One behind which no text can be completed is so, whatever its size.
abbrev pub IsAtFault : Misfit → List Token → Token → Type 0
IsAtFault misfit.Syntax before t = Begins before × (Begins (before ++ t ∷ []) → ⊥)
IsAtFault misfit.Number before t = Begins (before ++ t ∷ []) × IsPast before t

-- no token of these is at fault
abbrev pub HasNoFault : List Token → Type 0
HasNoFault ts = (m : Misfit) (before : List Token) (t : Token) (behind : List Token) → ts ≡ before ++ t ∷ behind
    → IsAtFault m before t → ⊥

-- the first token at fault stands in the line of this number
pub record FirstAt (text : List ℕ) (m : Misfit) (number : ℕ) : Type 0 where
  pub before : List (List ℕ)
  pub line : List ℕ
  pub left : List (List ℕ)
  pub lines : text_lines text ≡ before ++ line ∷ left
  pub number_is : number ≡ length before + 1
  pub front : List Token
  pub token : Token
  pub behind : List Token
  pub tokens : line_tokens line ≡ front ++ token ∷ behind
  pub fine : HasNoFault (lines_tokens before ++ front)
  pub fault : IsAtFault m (lines_tokens before ++ front) token

-- no token is at fault, but the text ends too early, in its last line: it says nothing
pub record EndsEarly (text : List ℕ) (number : ℕ) : Type 0 where
  pub number_is : number ≡ length (text_lines text)
  pub fine : HasNoFault (text_tokens text)
  pub early : (opb : Opb) → IsOpbText text opb → ⊥

-- the first fault of a text, with its line
abbrev pub OpbFails : List ℕ → Misfit → ℕ → Type 0
OpbFails text misfit.Syntax number = FirstAt text misfit.Syntax number ⊎ EndsEarly text number
OpbFails text misfit.Number number = FirstAt text misfit.Number number

-- what a fault says; want of memory says nothing
abbrev pub OpbFaultOf : List ℕ → OpbFault → Type 0
OpbFaultOf text (Syntax line) = OpbFails text misfit.Syntax line
OpbFaultOf text (PastLimit line) = OpbFails text misfit.Number line
OpbFaultOf text Memory = Unit {0}

-- the fault is that of the text
abbrev pub IsFaultOf : List ℕ → OpbFault → Type 0
IsFaultOf text (Syntax line) = OpbFails text misfit.Syntax line
IsFaultOf text (PastLimit line) = OpbFails text misfit.Number line
IsFaultOf text Memory = ⊥

-- Whether a result is this. Want of memory is no answer.
abbrev pub IsReadAs : Result Opb OpbFault → Opb → Type 0
IsReadAs (Ok x) opb = x ≡ opb
IsReadAs (Err Memory) opb = Unit {0}
IsReadAs (Err e) opb = ⊥

-- Whether a result is this fault. Want of memory is no answer.
abbrev pub FailsAs : Result Opb OpbFault → OpbFault → Type 0
FailsAs (Ok x) fault = ⊥
FailsAs (Err Memory) fault = Unit {0}
FailsAs (Err e) fault = e ≡ fault
