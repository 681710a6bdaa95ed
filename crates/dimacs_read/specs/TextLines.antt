-- Which compiled texts can be read.
use Rattle.std.specs.Prelude.{◌≡◌, ℕ, ◌+◌, ◌^◌, ◌<◌, ◌≤◌, Bool, true, not, ◌&&◌, nat_le}
use Rattle.std.specs.Prelude.{List, [], ◌∷◌, length, map, position, Option, Some, None, option_map, unsigned_abs}
use Rattle.std.specs.List.{list_all}
use Rattle.order_ints.specs.declared.atom.Atom.{Atom}
use Rattle.order_ints.specs.declared.atom.Atom.TheVariants.{True, False, Of}
use Rattle.order_ints.specs.declared.order_int.MapValue.{MapValue}
use Rattle.order_ints.specs.declared.order_int.MapValue.TheVariants as values
use Rattle.order_ints.specs.OrderRange.{low_of, high_of}
use Rattle.order_ints.specs.Place.{InRange}
use Rattle.ledger_text.specs.declared.line.Line.{Line}
use Rattle.ledger_text.specs.declared.line.Line.TheVariants.{Equate, Split, Encode}
use Rattle.ledger_text.specs.Steps.{IsReadableStep}
use Rattle.bumblebee_reader.specs.Names.{IsDeclarable, AreDeclared}
use Rattle.name_map.specs.declared.entries.MapEntry.{MapEntry}
use Rattle.dimacs_out.specs.CompiledText.{ValueBelow, text_of}
use Rattle.dimacs_out.specs.declared.text.CnfText.{CnfText}

-- an integer's least and greatest value are at most 1,073,741,824 in absolute value
abbrev pub IsInLimit : MapValue → Type 0
IsInLimit (values.Bool a) = Unit {0}
IsInLimit (values.Int a) = (unsigned_abs (low_of a) ≤ 2 ^ 30) × (unsigned_abs (high_of a) ≤ 2 ^ 30)

-- what can be read of a name: it may be declared, and what it stands for has variables up to the greatest that any
-- text has, weights of at least 1, and values in the limit
pub record IsReadableEntry (e : MapEntry) : Type 0 where
  pub name : IsDeclarable e.name
  pub value : ValueBelow (2 ^ 27 + 1) e.value
  pub in_limit : IsInLimit e.value

abbrev pub AreReadableEntries : List MapEntry → Type 0
AreReadableEntries [] = Unit {0}
AreReadableEntries (e ∷ entries) = IsReadableEntry e × AreReadableEntries entries

abbrev pub AreReadableSteps : List Line → Type 0
AreReadableSteps [] = Unit {0}
AreReadableSteps (l ∷ ledger) = IsReadableStep l × AreReadableSteps ledger

-- whether variables are at most n
abbrev pub atom_within : ℕ → Atom → Bool
atom_within n True = true
atom_within n False = true
atom_within n (Of l) = nat_le l.var n

abbrev pub value_within : ℕ → MapValue → Bool
value_within n (values.Bool a) = atom_within n a
value_within n (values.Int a) = list_all (λ s. atom_within n s.0) a.steps

abbrev pub step_within : ℕ → Line → Bool
step_within n (Equate id e) = atom_within n e.a && atom_within n e.b
step_within n (Split id) = true
step_within n (Encode id) = true

-- the number of the first line of a name or of the ledger that has a variable above n
abbrev pub above_of : ℕ → Option ℕ → Option ℕ → Option ℕ
above_of names (Some i) later = Some (i + 2)
above_of names None later = option_map (λ j. j + (names + 2)) later

abbrev pub first_above : ℕ → List MapEntry → List Line → Option ℕ
first_above n entries ledger =
    above_of (length entries) (position (λ e. not (value_within n e.value)) entries)
    (position (λ l. not (step_within n l)) ledger)

-- what can be read
pub record IsReadable (x : CnfText) : Type 0 where
  pub names : AreDeclared (map (λ e. e.name) x.entries)
  pub entries : AreReadableEntries x.entries
  pub ledger : AreReadableSteps x.ledger
  pub vars : x.cnf.vars ≤ 2 ^ 26
  pub within : first_above x.cnf.vars x.entries x.ledger ≡ None
  pub clauses : InRange x.cnf
  pub count : length x.cnf.clauses < 2 ^ 64

-- the bytes are the text of what can be read
pub record IsTextOf (x : CnfText) (text : List ℕ) : Type 0 where
  pub readable : IsReadable x
  pub spelled : text ≡ text_of x
