-- The members of an all-different constraint by their places, each an integer and a condition, and their values.
use Rattle.std.specs.Prelude.{◌≡◌, ℕ, suc, ◌<◌, Bool, List, [], ◌∷◌, ◌++◌, length, ℤ, pos}
use Rattle.std.specs.Prelude.{◌+ℤ◌, slice_index_or, if◌then◌else◌}
use Rattle.order_ints.specs.declared.atom.Atom.{Atom}
use Rattle.order_ints.specs.declared.atom.Atom.TheVariants.{True, False}
use Rattle.order_ints.specs.declared.order_int.OrdInt.{OrdInt}
use Rattle.order_ints.specs.OrderLevels.{values_of, is_among}
use Rattle.order_ints.specs.OrderMade.{constant_of}
use Rattle.core_forms.specs.Each.{EachOf}
use Rattle.alldiff_rules.specs.Table.{HasOther}

-- the integer at a place, and the constant 0 past the end
abbrev pub int_at : List OrdInt → ℕ → OrdInt
int_at ints i = slice_index_or ints i (constant_of (pos 0))

-- the condition at a place, and False past the end
abbrev pub condition_at : List Atom → ℕ → Atom
condition_at cs i = slice_index_or cs i False

-- the member at the place differs from others whatever a valuation says
abbrev pub IsSure : List Atom → ℕ → Type 0
IsSure cs i = condition_at cs i ≡ True

-- all members do
abbrev pub AreAllSure : List Atom → Type 0
AreAllSure cs = EachOf (λ c. c ≡ True) cs

-- the integer with two values, the greater one by d, which it has where p is true
abbrev pub choice_of : ℤ → Atom → ℕ → OrdInt
choice_of v p d = record { base = v; steps = (p, d) ∷ [] }

-- the member at the place is sure, and is the constant v
abbrev pub IsConstantAt : List OrdInt → List Atom → ℤ → ℕ → Type 0
IsConstantAt ints cs v i = IsSure cs i × (int_at ints i ≡ constant_of v)

-- it is sure, and has two values, v and the greater one by d
abbrev pub IsChoiceAt : List OrdInt → List Atom → ℤ → ℕ → ℕ → Type 0
IsChoiceAt ints cs v d i = IsSure cs i × ((p : Atom) × (int_at ints i ≡ choice_of v p d))

-- the lower one of two values, or the greater one
abbrev pub end_of : Bool → ℤ → ℕ → ℤ
end_of upper low d = if upper then low +ℤ pos d else low

-- v is this end of the two values of the member at the place, which is sure, and which those of another sure member are
abbrev pub IsHolderAt : List OrdInt → List Atom → Bool → ℤ → ℕ → Type 0
IsHolderAt ints cs upper v i =
    (low : ℤ) × (d : ℕ) × IsChoiceAt ints cs low d i × (v ≡ end_of upper low d)
    × HasOther (λ j. (j < length ints) × IsChoiceAt ints cs low d j) i

-- the values of all members, one member after another
abbrev pub all_values : List OrdInt → List ℤ
all_values [] = []
all_values (a ∷ ints) = values_of a ++ all_values ints

-- how many different values stand in a list beside those that were counted already
abbrev pub number_new : List ℤ → List ℤ → ℕ
number_new counted [] = 0
number_new counted (v ∷ vs) = if is_among v counted then number_new counted vs
    else suc (number_new (v ∷ counted) vs)

-- how many different values the members have
abbrev pub number_of_values : List OrdInt → ℕ
number_of_values ints = number_new [] (all_values ints)
