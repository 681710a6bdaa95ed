-- The parts of an order of words: its first pair of members is compared, and where they are equal the rests are.
use Rattle.std.specs.Prelude.{ℕ, ◌+◌, Bool, List, [], ◌∷◌, ◌++◌, if◌then◌else◌}
use Rattle.order_ints.specs.Label.{variable}
use Rattle.order_ints.specs.declared.atom.Atom.{Atom}
use Rattle.order_ints.specs.declared.order_int.OrdInt.{OrdInt}
use Rattle.order_ints.specs.Truth.{not_atom}
use Rattle.core_forms.specs.declared.form.Core.{Core}
use Rattle.core_forms.specs.declared.form.Core.TheVariants.{Clause, Conj, LeqR, Lex}
use Rattle.part_base.specs.declared.parts.Parts.{Parts}

-- one core, and no fresh variable
abbrev pub alone : Core → Parts
alone core = record { cores = core ∷ []; fresh = 0 }

-- no pair: the lists are equal
abbrev pub empty_order : Atom → Bool → Core
empty_order r strict = Clause ((if strict then not_atom r else r) ∷ [])

-- one pair: a below b is not b at most a
abbrev pub last_order : Atom → Bool → OrdInt → OrdInt → Core
last_order r strict a b = if strict then LeqR (not_atom r) b a else LeqR r a b

-- the first pair is compared, with fresh l for a at most b, and g for b at most a
abbrev pub before_rest : ℕ → OrdInt → OrdInt → List Core
before_rest next a b = LeqR (variable next) a b ∷ LeqR (variable (next + 1)) b a ∷ []

-- with fresh t for the order of the rests, and u, which is false where b is at most a and t is false: r is true where l
-- and u are
abbrev pub behind_rest : ℕ → Atom → List Core
behind_rest next r =
    Conj (not_atom (variable (next + 3))) (variable (next + 1) ∷ not_atom (variable (next + 2)) ∷ [])
    ∷ Conj r (variable next ∷ variable (next + 3) ∷ [])
    ∷ []

-- more pairs: the first pair, the order of the rests, and what r is by both
abbrev pub split_order : ℕ → Atom → Bool → OrdInt → OrdInt → List OrdInt → List OrdInt → List Core
split_order next r strict a b front back =
    before_rest next a b ++ Lex (variable (next + 2)) strict front back ∷ behind_rest next r

abbrev pub lex_parts : ℕ → Atom → Bool → List OrdInt → List OrdInt → Parts
lex_parts next r strict [] back = alone (empty_order r strict)
lex_parts next r strict (a ∷ front) [] = alone (empty_order r strict)
lex_parts next r strict (a ∷ []) (b ∷ back) = alone (last_order r strict a b)
lex_parts next r strict (a ∷ c ∷ front) (b ∷ back) =
    record { cores = split_order next r strict a b (c ∷ front) back; fresh = 4 }
