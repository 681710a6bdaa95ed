-- What a loop along the levels of an integer writes, beside walks along it and another, is what the definitions say.
use Rattle.std.proofs.Common.{◌≡◌, ◌<◌, ◌^◌, Bool, true, cond, List, [], ◌∷◌, ◌++◌, map, ℤ, pos, ◌+ℤ◌, to_z, of_z, sym, ap, subst, ◌∙◌, arith}
use Rattle.std.specs.Prelude.{filter, unsigned_abs}
use Rattle.std.specs.List.{AllByRecursion}
use mir.Syntax.{w128}
use Rattle.std.proofs.lemmas.Int.{ints, to_z-of_z, fits_signed_from_abs}
use Rattle.std.proofs.lemmas.List.{append_assoc}
use Rattle.order_ints.specs.declared.atom.Atom.{Atom}
use Rattle.order_ints.specs.declared.order_int.OrdInt.{OrdInt}
use Rattle.order_ints.specs.Truth.{not_atom}
use Rattle.order_ints.specs.OrderLevels.{levels_of, at_of}
use Rattle.order_ints.specs.Walk.{has_value}
use Rattle.order_ints.proofs.Wide.{small_bits}
use Rattle.order_ints.proofs.Everywhere.{map_levels, filter_levels}
use Rattle.core_forms.specs.WellFormed.{IsSound}
use Rattle.direct_encode.specs.Maxima.{at_most_clauses, all_at, some_reaching_clauses}
use Rattle.direct_encode.specs.Comparisons.{reaching_clauses, exceeding_clauses, differing_clauses}

-- where r is true b reaches each value that is reached
abbrev pub reaching_beside : Atom → OrdInt → List (ℤ × Atom) → List (List Atom)
reaching_beside r b ls = map (λ (l : ℤ × Atom). not_atom r ∷ not_atom l.1 ∷ at_of b l.0 ∷ []) ls

-- where r is false a exceeds each value that is reached
abbrev pub exceeding_beside : Atom → OrdInt → List (ℤ × Atom) → List (List Atom)
exceeding_beside r a ls = map (λ (l : ℤ × Atom). r ∷ not_atom l.1 ∷ at_of a (l.0 +ℤ pos 1) ∷ []) ls

-- where r is false not both are at a value that both have
abbrev pub differing_beside : Atom → OrdInt → OrdInt → List (ℤ × Atom) → List (List Atom)
differing_beside r a b ls =
    map (λ (l : ℤ × Atom). r ∷ not_atom l.1 ∷ at_of a (l.0 +ℤ pos 1) ∷ not_atom (at_of b l.0) ∷ at_of b (l.0 +ℤ pos 1) ∷ [])
    (filter (λ (l : ℤ × Atom). has_value b l.0) ls)

-- c reaches each value that is reached
abbrev pub at_most_beside : OrdInt → List (ℤ × Atom) → List (List Atom)
at_most_beside c ls = map (λ (l : ℤ × Atom). not_atom l.1 ∷ at_of c l.0 ∷ []) ls

-- some integer reaches each value that is reached
abbrev pub some_reaching_beside : List OrdInt → List (ℤ × Atom) → List (List Atom)
some_reaching_beside ints ls = map (λ (l : ℤ × Atom). not_atom l.1 ∷ all_at ints l.0) ls

-- along whole integers: the clauses of the definitions
pub at_most_is : (a c : OrdInt) → IsSound a → at_most_beside c (levels_of a) ≡ at_most_clauses a c
at_most_is a c sound = map_levels (λ v x. not_atom x ∷ at_of c v ∷ []) a sound.1

pub some_reaching_is : (ints : List OrdInt) (c : OrdInt) → IsSound c → some_reaching_beside ints (levels_of c) ≡ some_reaching_clauses ints c
some_reaching_is ints c sound = map_levels (λ v x. not_atom x ∷ all_at ints v) c sound.1

pub reaching_is : (r : Atom) (a b : OrdInt) → IsSound a → reaching_beside r b (levels_of a) ≡ reaching_clauses r a b
reaching_is r a b sound = map_levels (λ v x. not_atom r ∷ not_atom x ∷ at_of b v ∷ []) a sound.1

pub exceeding_is : (r : Atom) (a b : OrdInt) → IsSound b → exceeding_beside r a (levels_of b) ≡ exceeding_clauses r a b
exceeding_is r a b sound = map_levels (λ v x. r ∷ not_atom x ∷ at_of a (v +ℤ pos 1) ∷ []) b sound.1

pub differing_is : (r : Atom) (a b : OrdInt) → IsSound a → differing_beside r a b (levels_of a) ≡ differing_clauses r a b
differing_is r a b sound =
    filter_levels (λ v x. r ∷ not_atom x ∷ at_of a (v +ℤ pos 1) ∷ not_atom (at_of b v) ∷ at_of b (v +ℤ pos 1) ∷ []) (has_value b) a sound.1

-- the turn of a loop along levels: the clause of the next one is put behind those so far
pub put : (f : ℤ × Atom → List Atom) (so_far more : List (List Atom)) (clause : List Atom) (level : ℤ × Atom) (left rest : List (ℤ × Atom)) (all : List (List Atom)) → more ≡ so_far ++ clause ∷ [] → clause ≡ f level → left ≡ level ∷ rest → so_far ++ map f left ≡ all → more ++ map f rest ≡ all
put f so_far more clause level left rest all pushed is next before =
    ap (λ xs. xs ++ map f rest) pushed ∙ append_assoc so_far (clause ∷ []) (map f rest)
    ∙ ap (λ (c : List Atom). so_far ++ c ∷ map f rest) is ∙ ap (λ (ls : List (ℤ × Atom)). so_far ++ map f ls) (sym next) ∙ before

-- what a walk along an integer tells is the integer's atom
pub told : (a b : OrdInt) (v w : ℤ) (x : Atom) → x ≡ at_of b w → b ≡ a → w ≡ v → x ≡ at_of a v
told a b v w x e same is = e ∙ ap (λ (c : OrdInt). at_of c w) same ∙ ap (at_of a) is

-- the value after a small one, of 128 bits
pub next_bits : (v : ℤ) → unsigned_abs v < 2 ^ 100 → to_z w128 (of_z w128 (to_z w128 (of_z w128 v) +ℤ pos 1)) ≡ v +ℤ pos 1
next_bits v small =
    let next : unsigned_abs (v +ℤ pos 1) < 2 ^ 101 = omega (arith, ints, small) in
    ap (λ (w : ℤ). to_z w128 (of_z w128 (w +ℤ pos 1))) (small_bits v small)
    ∙ to_z-of_z w128 (v +ℤ pos 1) (fits_signed_from_abs w128 (v +ℤ pos 1) (omega (arith, next)))

-- the limits of the levels that are left
abbrev pub AreSmallLevels : List (ℤ × Atom) → Type 0
AreSmallLevels ls = AllByRecursion (λ (level : ℤ × Atom). unsigned_abs level.0 < 2 ^ 100) ls

pub next_small : (level : ℤ × Atom) (left rest : List (ℤ × Atom)) → left ≡ level ∷ rest → AreSmallLevels left → (unsigned_abs level.0 < 2 ^ 100) × AreSmallLevels rest
next_small level left rest next all = subst AreSmallLevels next all

-- the turn where only levels that pass a test have a clause
pub put_passing : (test : ℤ → Bool) (f : ℤ × Atom → List Atom) (so_far more : List (List Atom)) (clause : List Atom) (level : ℤ × Atom) (left rest : List (ℤ × Atom)) (all : List (List Atom)) → test level.0 ≡ true → more ≡ so_far ++ clause ∷ [] → clause ≡ f level → left ≡ level ∷ rest → so_far ++ map f (filter (λ (l : ℤ × Atom). test l.0) left) ≡ all → more ++ map f (filter (λ (l : ℤ × Atom). test l.0) rest) ≡ all
put_passing test f so_far more clause level left rest all passes pushed is next before =
    put f so_far more clause level (filter (λ (l : ℤ × Atom). test l.0) left) (filter (λ (l : ℤ × Atom). test l.0) rest) all pushed is
    (ap (λ (ls : List (ℤ × Atom)). filter (λ (l : ℤ × Atom). test l.0) ls) next ∙ ap (λ t. cond t (level ∷ filter (λ (l : ℤ × Atom). test l.0) rest) (filter (λ (l : ℤ × Atom). test l.0) rest)) passes)
    before

-- and where it tells that a value is there, the integer has it
pub told_value : (a b : OrdInt) (v w : ℤ) (r : Bool) → r ≡ has_value b w → b ≡ a → w ≡ v → r ≡ true → has_value a v ≡ true
told_value a b v w r e same is there =
    ap (has_value a) (sym is) ∙ ap (λ (c : OrdInt). has_value c w) (sym same) ∙ sym e ∙ there

-- the same of walks along all of some integers
pub told_all : (ints others : List OrdInt) (v w : ℤ) (x y : Atom) (clause : List Atom) → clause ≡ x ∷ all_at others w → others ≡ ints → w ≡ v → x ≡ y → clause ≡ y ∷ all_at ints v
told_all ints others v w x y clause e same is head =
    e ∙ ap (λ (xs : List OrdInt). x ∷ all_at xs w) same ∙ ap (λ (u : ℤ). x ∷ all_at ints u) is ∙ ap (λ (z : Atom). z ∷ all_at ints v) head

-- a value well below the limit of 128 bits comes back
pub wide_bits : (z : ℤ) → unsigned_abs z < 2 ^ 102 → to_z w128 (of_z w128 z) ≡ z
wide_bits z h = to_z-of_z w128 z (fits_signed_from_abs w128 z (omega (arith, h)))

pub wider : (z : ℤ) → unsigned_abs z < 2 ^ 101 → unsigned_abs z < 2 ^ 102
wider z h = omega (arith, h)
