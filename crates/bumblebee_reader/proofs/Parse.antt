-- How the parts of a text are read one behind another.
use Rattle.std.proofs.Common.{◌≡◌, ℕ, Bool, true, false, cond, Option, Some, None, List, refl, sym}
use Rattle.std.proofs.lemmas.Bool.{false≢true}
use Rattle.bumblebee_reader.specs.declared.syntax.Arg.{Arg}
use Rattle.bumblebee_reader.specs.declared.syntax.Item.TheVariants.{Goal}
use Rattle.bumblebee_reader.specs.declared.syntax.GoalKind.{GoalKind}
use Rattle.bumblebee_reader.specs.declared.lexeme.Sign.TheVariants.{OpenCall, CloseCall, OpenList, CloseList, Comma, Dash}
use Rattle.bumblebee_reader.specs.Tokens.{Token, Word, Digits, Mark, Stray}
use Rattle.bumblebee_reader.specs.Reading.{AtArg, InCall, AtItem, AtKind, AtOpen, AtObjective, BehindObjective, SecondOf, Misfit, Go, behind_item, is_solve, is_then, is_then_word, taken, term_taken, turn_at, with_item, is_open_list}

-- an argument that is no list is a term
pub taken_argument : (name : List ℕ) (args : List Arg) (t : Option Token) (line : ℕ) (bytes : List ℕ) → is_open_list t ≡ false → taken (AtArg name args) t line bytes ≡ term_taken (InCall name args) t line bytes
taken_argument name args None line bytes other = refl
taken_argument name args (Some (Word word)) line bytes other = refl
taken_argument name args (Some (Digits digits)) line bytes other = refl
taken_argument name args (Some (Mark OpenCall)) line bytes other = refl
taken_argument name args (Some (Mark CloseCall)) line bytes other = refl
taken_argument name args (Some (Mark OpenList)) line bytes other = absurd (false≢true (sym other))
taken_argument name args (Some (Mark CloseList)) line bytes other = refl
taken_argument name args (Some (Mark Comma)) line bytes other = refl
taken_argument name args (Some (Mark Dash)) line bytes other = refl
taken_argument name args (Some Stray) line bytes other = refl

-- behind a first objective another token than `then` begins the next item
next_word : (kind : GoalKind) (name word : List ℕ) (line : ℕ) (bytes : List ℕ) (b t : Bool) → t ≡ false → turn_at (cond t (Go (AtObjective (SecondOf kind name))) (behind_item (Goal kind (Some name) None) (cond b (Go AtKind) (cond t Misfit (Go (AtOpen word)))))) (Word word) line bytes ≡ with_item (Goal kind (Some name) None) (turn_at (cond b (Go AtKind) (cond t Misfit (Go (AtOpen word)))) (Word word) line bytes)
next_word kind name word line bytes b true e = absurd (false≢true (sym e))
next_word kind name word line bytes true false e = refl
next_word kind name word line bytes false false e = refl

pub next_item_behind : (kind : GoalKind) (name : List ℕ) (t : Option Token) (line : ℕ) (bytes : List ℕ) → is_then_word t ≡ false → taken (BehindObjective kind name) t line bytes ≡ with_item (Goal kind (Some name) None) (taken AtItem t line bytes)
next_item_behind kind name None line bytes other = refl
next_item_behind kind name (Some (Word word)) line bytes other = next_word kind name word line bytes (is_solve word) (is_then word) other
next_item_behind kind name (Some (Digits digits)) line bytes other = refl
next_item_behind kind name (Some (Mark sign)) line bytes other = refl
next_item_behind kind name (Some Stray) line bytes other = refl
