-- Reading token by token: where a reading stands, and what a token does there.
use Rattle.std.specs.Prelude.{◌≡◌, ◌≢◌, ℕ, Bool, true, false, Option, Some, None, Result, Ok, Err, List}
use Rattle.std.specs.Prelude.{[], ◌∷◌, ◌++◌, pos, neg_ℤ, codes, if◌then◌else◌}
use Rattle.std.specs.Str.{bytes_eq}
use Rattle.bumblebee_reader.specs.declared.syntax.Item.{Item}
use Rattle.bumblebee_reader.specs.declared.syntax.Item.TheVariants.{Call, Goal}
use Rattle.bumblebee_reader.specs.declared.syntax.Arg.{Arg}
use Rattle.bumblebee_reader.specs.declared.syntax.Arg.TheVariants.{One, Many}
use Rattle.bumblebee_reader.specs.declared.syntax.Term.{Term}
use Rattle.bumblebee_reader.specs.declared.syntax.Term.TheVariants.{Plain, Minus, Number}
use Rattle.bumblebee_reader.specs.declared.syntax.GoalKind.{GoalKind}
use Rattle.bumblebee_reader.specs.declared.syntax.GoalKind.TheVariants.{Satisfy, Minimize, Maximize}
use Rattle.bumblebee_reader.specs.declared.lexeme.Sign.TheVariants.{OpenCall, CloseCall, OpenList, CloseList, Comma}
use Rattle.bumblebee_reader.specs.declared.lexeme.Sign.TheVariants.{Dash}
use Rattle.bumblebee_reader.specs.declared.fault.ReadFault.{ReadFault}
use Rattle.bumblebee_reader.specs.declared.fault.ReadFault.TheVariants as fault
use Rattle.bumblebee_reader.specs.Tokens.{Token, TokenAt, Word, Digits, Mark, Stray, tokens_at, last_line_at}
use Rattle.bumblebee_reader.specs.Numeral.{number_of, is_too_great}

-- where a term stands: an argument of a call behind other arguments, or a member of a list behind other members
pub data Owner : Type 0 where
  InCall : (name : List ℕ) (args : List Arg) → Owner
  InList : (name : List ℕ) (args : List Arg) (terms : List Term) → Owner

-- which objective is read: the first of a goal of this kind, or the second behind the name of the first
pub data Seeking : Type 0 where
  FirstOf : (kind : GoalKind) → Seeking
  SecondOf : (kind : GoalKind) (first : List ℕ) → Seeking

-- what may come next
pub data Place : Type 0 where
  AtItem : Place
  AtOpen : (name : List ℕ) → Place
  AtArg : (name : List ℕ) (args : List Arg) → Place
  BehindArg : (name : List ℕ) (args : List Arg) → Place
  AtFirst : (name : List ℕ) (args : List Arg) → Place
  AtTerm : (name : List ℕ) (args : List Arg) (terms : List Term) → Place
  BehindTerm : (name : List ℕ) (args : List Arg) (terms : List Term) → Place
  BehindDash : (owner : Owner) → Place
  AtKind : Place
  AtObjective : (seeking : Seeking) → Place
  AtInner : (seeking : Seeking) → Place
  AtClose : (seeking : Seeking) (name : List ℕ) → Place
  BehindObjective : (kind : GoalKind) (name : List ℕ) → Place

-- what a token does: it fits nowhere, the reading goes on, or an item is whole and the reading goes on
pub data Move : Type 0 where
  Misfit : Move
  Go : (place : Place) → Move
  Done : (item : Item) (place : Place) → Move

abbrev pub behind_term : Owner → Term → Place
behind_term (InCall name args) t = BehindArg name (args ++ One t ∷ [])
behind_term (InList name args terms) t = BehindTerm name args (terms ++ t ∷ [])

-- a term begins
abbrev pub begin_term : Owner → Token → Move
begin_term owner (Word name) = Go (behind_term owner (Plain name))
begin_term owner (Digits digits) = Go (behind_term owner (Number (pos (number_of digits))))
begin_term owner (Mark OpenCall) = Misfit
begin_term owner (Mark CloseCall) = Misfit
begin_term owner (Mark OpenList) = Misfit
begin_term owner (Mark CloseList) = Misfit
begin_term owner (Mark Comma) = Misfit
begin_term owner (Mark Dash) = Go (BehindDash owner)
begin_term owner Stray = Misfit

-- a term goes on behind `-`
abbrev pub end_term : Owner → Token → Move
end_term owner (Word name) = Go (behind_term owner (Minus name))
end_term owner (Digits digits) = Go (behind_term owner (Number (neg_ℤ (pos (number_of digits)))))
end_term owner (Mark sign) = Misfit
end_term owner Stray = Misfit

abbrev pub is_solve : List ℕ → Bool
is_solve name = bytes_eq name (codes "solve")

abbrev pub is_then : List ℕ → Bool
is_then name = bytes_eq name (codes "then")

-- an item begins with a name
abbrev pub begin_item : List ℕ → Move
begin_item name = if is_solve name then Go AtKind else (if is_then name then Misfit else Go (AtOpen name))

-- an item is whole before the token that makes this move, by which no other item is whole
abbrev pub behind_item : Item → Move → Move
behind_item i Misfit = Misfit
behind_item i (Go place) = Done i place
behind_item i (Done j place) = Misfit

-- the kind of goal that a word names
abbrev pub goal_kind : List ℕ → Option GoalKind
goal_kind word =
    if bytes_eq word (codes "satisfy") then Some Satisfy else
    (if bytes_eq word (codes "minimize") then Some Minimize else
    (if bytes_eq word (codes "maximize") then Some Maximize else None))

-- a goal goes on behind its kind
abbrev pub begin_goal : Option GoalKind → Move
begin_goal None = Misfit
begin_goal (Some Satisfy) = Done (Goal Satisfy None None) AtItem
begin_goal (Some Minimize) = Go (AtObjective (FirstOf Minimize))
begin_goal (Some Maximize) = Go (AtObjective (FirstOf Maximize))

-- an objective is read: `then` or another item comes behind the first, and the goal is whole with the second
abbrev pub behind_name : Seeking → List ℕ → Move
behind_name (FirstOf kind) name = Go (BehindObjective kind name)
behind_name (SecondOf kind first) name = Done (Goal kind (Some first) (Some name)) AtItem

abbrev pub at_item : Token → Move
at_item (Word name) = begin_item name
at_item (Digits digits) = Misfit
at_item (Mark sign) = Misfit
at_item Stray = Misfit

abbrev pub at_open : List ℕ → Token → Move
at_open name (Word word) = Misfit
at_open name (Digits digits) = Misfit
at_open name (Mark OpenCall) = Go (AtArg name [])
at_open name (Mark CloseCall) = Misfit
at_open name (Mark OpenList) = Misfit
at_open name (Mark CloseList) = Misfit
at_open name (Mark Comma) = Misfit
at_open name (Mark Dash) = Misfit
at_open name Stray = Misfit

abbrev pub at_arg : List ℕ → List Arg → Token → Move
at_arg name args (Word word) = begin_term (InCall name args) (Word word)
at_arg name args (Digits digits) = begin_term (InCall name args) (Digits digits)
at_arg name args (Mark OpenCall) = Misfit
at_arg name args (Mark CloseCall) = Misfit
at_arg name args (Mark OpenList) = Go (AtFirst name args)
at_arg name args (Mark CloseList) = Misfit
at_arg name args (Mark Comma) = Misfit
at_arg name args (Mark Dash) = begin_term (InCall name args) (Mark Dash)
at_arg name args Stray = Misfit

abbrev pub behind_arg : List ℕ → List Arg → Token → Move
behind_arg name args (Word word) = Misfit
behind_arg name args (Digits digits) = Misfit
behind_arg name args (Mark OpenCall) = Misfit
behind_arg name args (Mark CloseCall) = Done (Call name args) AtItem
behind_arg name args (Mark OpenList) = Misfit
behind_arg name args (Mark CloseList) = Misfit
behind_arg name args (Mark Comma) = Go (AtArg name args)
behind_arg name args (Mark Dash) = Misfit
behind_arg name args Stray = Misfit

abbrev pub at_first : List ℕ → List Arg → Token → Move
at_first name args (Word word) = begin_term (InList name args []) (Word word)
at_first name args (Digits digits) = begin_term (InList name args []) (Digits digits)
at_first name args (Mark OpenCall) = Misfit
at_first name args (Mark CloseCall) = Misfit
at_first name args (Mark OpenList) = Misfit
at_first name args (Mark CloseList) = Go (BehindArg name (args ++ Many [] ∷ []))
at_first name args (Mark Comma) = Misfit
at_first name args (Mark Dash) = begin_term (InList name args []) (Mark Dash)
at_first name args Stray = Misfit

abbrev pub behind_member : List ℕ → List Arg → List Term → Token → Move
behind_member name args terms (Word word) = Misfit
behind_member name args terms (Digits digits) = Misfit
behind_member name args terms (Mark OpenCall) = Misfit
behind_member name args terms (Mark CloseCall) = Misfit
behind_member name args terms (Mark OpenList) = Misfit
behind_member name args terms (Mark CloseList) = Go (BehindArg name (args ++ Many terms ∷ []))
behind_member name args terms (Mark Comma) = Go (AtTerm name args terms)
behind_member name args terms (Mark Dash) = Misfit
behind_member name args terms Stray = Misfit

abbrev pub at_kind : Token → Move
at_kind (Word word) = begin_goal (goal_kind word)
at_kind (Digits digits) = Misfit
at_kind (Mark sign) = Misfit
at_kind Stray = Misfit

abbrev pub at_objective : Seeking → Token → Move
at_objective seeking (Word name) = behind_name seeking name
at_objective seeking (Digits digits) = Misfit
at_objective seeking (Mark OpenCall) = Go (AtInner seeking)
at_objective seeking (Mark CloseCall) = Misfit
at_objective seeking (Mark OpenList) = Misfit
at_objective seeking (Mark CloseList) = Misfit
at_objective seeking (Mark Comma) = Misfit
at_objective seeking (Mark Dash) = Misfit
at_objective seeking Stray = Misfit

abbrev pub at_inner : Seeking → Token → Move
at_inner seeking (Word name) = Go (AtClose seeking name)
at_inner seeking (Digits digits) = Misfit
at_inner seeking (Mark sign) = Misfit
at_inner seeking Stray = Misfit

abbrev pub at_close : Seeking → List ℕ → Token → Move
at_close seeking name (Word word) = Misfit
at_close seeking name (Digits digits) = Misfit
at_close seeking name (Mark OpenCall) = Misfit
at_close seeking name (Mark CloseCall) = behind_name seeking name
at_close seeking name (Mark OpenList) = Misfit
at_close seeking name (Mark CloseList) = Misfit
at_close seeking name (Mark Comma) = Misfit
at_close seeking name (Mark Dash) = Misfit
at_close seeking name Stray = Misfit

-- `then` goes on with a second objective; else the goal is whole, and the next item begins
abbrev pub behind_objective : GoalKind → List ℕ → Token → Move
behind_objective kind name (Word word) = if is_then word then Go (AtObjective (SecondOf kind name))
    else behind_item (Goal kind (Some name) None) (begin_item word)
behind_objective kind name (Digits digits) = Misfit
behind_objective kind name (Mark sign) = Misfit
behind_objective kind name Stray = Misfit

-- what a token does at a place
abbrev pub move : Place → Token → Move
move AtItem t = at_item t
move (AtOpen name) t = at_open name t
move (AtArg name args) t = at_arg name args t
move (BehindArg name args) t = behind_arg name args t
move (AtFirst name args) t = at_first name args t
move (AtTerm name args terms) t = begin_term (InList name args terms) t
move (BehindTerm name args terms) t = behind_member name args terms t
move (BehindDash owner) t = end_term owner t
move AtKind t = at_kind t
move (AtObjective seeking) t = at_objective seeking t
move (AtInner seeking) t = at_inner seeking t
move (AtClose seeking name) t = at_close seeking name t
move (BehindObjective kind name) t = behind_objective kind name t

-- what was read: the items, or the fault
abbrev pub Outcome : Type 0
Outcome = Result (List Item) ReadFault

abbrev pub with_item : Item → Outcome → Outcome
with_item i (Ok is) = Ok (i ∷ is)
with_item i (Err f) = Err f

-- a token that fits, unless it is a numeral that is too great
abbrev pub bounded : TokenAt → Outcome → Outcome
bounded t o = if is_too_great t.token then Err (fault.Number t.line) else o

-- a token makes a move, and what comes behind it is read from the place that it leads to
abbrev pub turn : Move → TokenAt → (Place → Outcome) → Outcome
turn Misfit t next = Err (fault.Syntax t.line)
turn (Go place) t next = bounded t (next place)
turn (Done item place) t next = bounded t (with_item item (next place))

-- the text ends at a place, on this line
abbrev pub ended : Place → ℕ → Outcome
ended AtItem line = Ok []
ended (AtOpen name) line = Err (fault.Syntax line)
ended (AtArg name args) line = Err (fault.Syntax line)
ended (BehindArg name args) line = Err (fault.Syntax line)
ended (AtFirst name args) line = Err (fault.Syntax line)
ended (AtTerm name args terms) line = Err (fault.Syntax line)
ended (BehindTerm name args terms) line = Err (fault.Syntax line)
ended (BehindDash owner) line = Err (fault.Syntax line)
ended AtKind line = Err (fault.Syntax line)
ended (AtObjective seeking) line = Err (fault.Syntax line)
ended (AtInner seeking) line = Err (fault.Syntax line)
ended (AtClose seeking name) line = Err (fault.Syntax line)
ended (BehindObjective kind name) line = Ok (Goal kind (Some name) None ∷ [])

-- what tokens give from a place, where the text ends on the line `end`
abbrev pub outcome_from : Place → ℕ → List TokenAt → Outcome
outcome_from place end [] = ended place end
outcome_from place end (t ∷ ts) = turn (move place t.token) t (λ next. outcome_from next end ts)

-- what bytes give from a place, where the first of them stand on this line
abbrev pub reading : Place → ℕ → List ℕ → Outcome
reading place line bytes = outcome_from place (last_line_at line bytes) (tokens_at line bytes)

-- what a token gives with the bytes behind it, or the end on this line
abbrev pub turn_at : Move → Token → ℕ → List ℕ → Outcome
turn_at m t line bytes = turn m (record { token = t; line = line }) (λ next. reading next line bytes)

abbrev pub taken : Place → Option Token → ℕ → List ℕ → Outcome
taken place None line bytes = ended place line
taken place (Some t) line bytes = turn_at (move place t) t line bytes

-- a part was read, and what comes behind it decides; or it has the fault. Want of memory says nothing
abbrev pub Gives : {T : Type 0} → Result T ReadFault → Outcome → (T → Outcome) → Type 0
Gives (Ok x) whole behind = whole ≡ behind x
Gives (Err f) whole behind = f ≢ fault.Memory → whole ≡ Err f

-- what a token gives where a term begins, with the bytes behind it
abbrev pub term_taken : Owner → Option Token → ℕ → List ℕ → Outcome
term_taken owner None line bytes = Err (fault.Syntax line)
term_taken owner (Some t) line bytes = turn_at (begin_term owner t) t line bytes

-- items that stand before what was read
abbrev pub with_items : List Item → Outcome → Outcome
with_items before (Ok is) = Ok (before ++ is)
with_items before (Err f) = Err f

abbrev pub is_then_word : Option Token → Bool
is_then_word (Some (Word word)) = is_then word
is_then_word _ = false

abbrev pub is_open_list : Option Token → Bool
is_open_list (Some (Mark OpenList)) = true
is_open_list _ = false

abbrev pub is_close_list : Option Token → Bool
is_close_list (Some (Mark CloseList)) = true
is_close_list _ = false
