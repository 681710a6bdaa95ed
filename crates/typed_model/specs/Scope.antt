-- The names that are declared so far, and what terms mean among them.
use Rattle.std.specs.Prelude.{ℕ, ℤ, pos, Bool, true, false, not, ◌&&◌, ◌||◌, List, [], ◌∷◌, slice_get}
use Rattle.std.specs.Prelude.{Option, Some, None, is_some, if◌then◌else◌}
use Rattle.std.specs.Option.{option_and_then, option_map, option_map_or}
use Rattle.bumblebee_reader.specs.declared.syntax.Term.{Term}
use Rattle.bumblebee_reader.specs.declared.syntax.Term.TheVariants as term
use Rattle.model_meaning.specs.declared.model.Kind.{Kind}
use Rattle.model_meaning.specs.declared.model.Kind.TheVariants as kind
use Rattle.model_meaning.specs.declared.model.Decl.{Decl}
use Rattle.typed_model.specs.declared.scope.Sort.{Sort}
use Rattle.typed_model.specs.declared.scope.Sort.TheVariants as sort
use Rattle.model_meaning.specs.Places.{place_of, is_true, is_constant}
use Rattle.model_meaning.specs.declared.what.BoolTerm.{BoolTerm}
use Rattle.model_meaning.specs.declared.what.BoolTerm.TheVariants as bool_term
use Rattle.model_meaning.specs.declared.what.IntTerm.{IntTerm}
use Rattle.model_meaning.specs.declared.what.IntTerm.TheVariants as int_term

-- the sort of what is declared, and what is kept of a declaration for look-up
abbrev pub sort_of : Kind → Sort
sort_of kind.Bool = sort.Bool
sort_of (kind.Range low high) = sort.Int
sort_of (kind.Listed values) = sort.Int

abbrev pub entry_of : Decl → List ℕ × Sort
entry_of d = (d.name, sort_of d.kind)

-- whether it is the sort of a declared Boolean, or of a declared integer
abbrev pub sort_is_bool : Option Sort → Bool
sort_is_bool None = false
sort_is_bool (Some sort.Bool) = true
sort_is_bool (Some sort.Int) = false

abbrev pub sort_is_int : Option Sort → Bool
sort_is_int None = false
sort_is_int (Some sort.Bool) = false
sort_is_int (Some sort.Int) = true

-- what a declared name stands for
abbrev pub kind_of : List ℕ → List Decl → Option Kind
kind_of name ds = option_and_then (λ p. option_map (λ d. d.kind) (slice_get ds p)) (place_of name ds)

-- whether it is a declared Boolean, or a declared integer
abbrev pub is_bool : Option Kind → Bool
is_bool None = false
is_bool (Some kind.Bool) = true
is_bool (Some (kind.Range low high)) = false
is_bool (Some (kind.Listed values)) = false

abbrev pub is_int : Option Kind → Bool
is_int None = false
is_int (Some kind.Bool) = false
is_int (Some (kind.Range low high)) = true
is_int (Some (kind.Listed values)) = true

-- a name other than `true` and `false` that isn't declared
abbrev pub is_unknown : List Decl → List ℕ → Bool
is_unknown ds name = not (is_constant name) && not (is_some (place_of name ds))

-- whether the name of a term is one
abbrev pub term_unknown : List Decl → Term → Bool
term_unknown ds (term.Plain name) = is_unknown ds name
term_unknown ds (term.Minus name) = is_unknown ds name
term_unknown ds (term.Number n) = false

abbrev pub terms_unknown : List Decl → List Term → Bool
terms_unknown ds [] = false
terms_unknown ds (t ∷ ts) = term_unknown ds t || terms_unknown ds ts

-- a Boolean term: `true`, `false`, a Boolean name, or `-` and a Boolean name
abbrev pub is_truth : List Decl → Term → Bool
is_truth ds (term.Plain name) = is_constant name || is_bool (kind_of name ds)
is_truth ds (term.Minus name) = is_bool (kind_of name ds)
is_truth ds (term.Number n) = false

-- an integer term: a numeral or an integer name
abbrev pub is_number : List Decl → Term → Bool
is_number ds (term.Plain name) = is_int (kind_of name ds)
is_number ds (term.Minus name) = false
is_number ds (term.Number n) = true

abbrev pub is_numeral : Term → Bool
is_numeral (term.Plain name) = false
is_numeral (term.Minus name) = false
is_numeral (term.Number n) = true

-- each term of a list
abbrev pub all_truths : List Decl → List Term → Bool
all_truths ds [] = true
all_truths ds (t ∷ ts) = is_truth ds t && all_truths ds ts

abbrev pub all_numbers : List Decl → List Term → Bool
all_numbers ds [] = true
all_numbers ds (t ∷ ts) = is_number ds t && all_numbers ds ts

abbrev pub all_numerals : List Term → Bool
all_numerals [] = true
all_numerals (t ∷ ts) = is_numeral t && all_numerals ts

-- What terms mean. Where a term is none of the wanted kind, the answer is a constant, which no model has.

-- a place, or 0 where there is none
abbrev pub place_or_zero : List ℕ → List Decl → ℕ
place_or_zero name ds = option_map_or (λ p. p) (place_of name ds) 0

abbrev pub truth : List Decl → Term → BoolTerm
truth ds (term.Plain name) = if is_constant name then bool_term.Const (is_true name)
    else bool_term.Of (place_or_zero name ds) true
truth ds (term.Minus name) = bool_term.Of (place_or_zero name ds) false
truth ds (term.Number n) = bool_term.Const false

abbrev pub number : List Decl → Term → IntTerm
number ds (term.Plain name) = int_term.Of (place_or_zero name ds)
number ds (term.Minus name) = int_term.Number (pos 0)
number ds (term.Number n) = int_term.Number n

abbrev pub numeral : Term → ℤ
numeral (term.Plain name) = pos 0
numeral (term.Minus name) = pos 0
numeral (term.Number n) = n
