-- What the names of a model that is compiled stand for, as objectives.
use Rattle.std.proofs.Common.{ℕ, zero, suc, ◌+◌, List, [], ◌∷◌, ℤ, pos, ◌+ℤ◌, arith}
use Rattle.std.specs.Prelude.{Some}
use Rattle.order_ints.specs.declared.order_int.MapValue.{MapValue}
use Rattle.order_ints.specs.declared.order_int.MapValue.TheVariants as values
use Rattle.order_ints.specs.OrderMade.{constant_of}
use Rattle.order_ints.specs.OrderRange.{IsBounded, IntBelow}
use Rattle.order_ints.specs.OrderLevels.{at_of}
use Rattle.order_ints.specs.Place.{AtomBelow}
use Rattle.order_ints.specs.Truth.{not_atom}
use Rattle.order_ints.proofs.Reaching.{AtomBelow-at_of}
use Rattle.order_ints.proofs.PlaceLaws.{AtomBelow-not_atom}
use Rattle.model_meaning.specs.declared.model.Decl.{Decl}
use Rattle.model_meaning.specs.declared.model.Goal.{Goal}
use Rattle.model_meaning.specs.declared.model.Goal.TheVariants.{Satisfy, Minimize, Maximize}
use Rattle.model_meaning.specs.declared.model.Kind.{Kind}
use Rattle.model_meaning.specs.declared.model.Kind.TheVariants as kind
use Rattle.name_map.specs.Fits.{ValueFits, ValuesFit}
use Rattle.statement_lower.specs.Terms.{integer_at}
use Rattle.answer_document.specs.BoundAtoms.{integer_named}
use Rattle.objective_bound.specs.Bounds.{better_than}

zero-bounded : IsBounded (constant_of (pos 0))
zero-bounded = (omega arith, omega arith)

value-bounded : (n : ℕ) (k : Kind) (v : MapValue) → ValueFits n k v → IsBounded (integer_at (Some v))
value-bounded n kind.Bool (values.Bool a) h = zero-bounded
value-bounded n kind.Bool (values.Int a) h = absurd h
value-bounded n (kind.Range low high) (values.Bool a) h = absurd h
value-bounded n (kind.Range low high) (values.Int a) h = h.sound.0
value-bounded n (kind.Listed vs) (values.Bool a) h = absurd h
value-bounded n (kind.Listed vs) (values.Int a) h = h.sound.0

value-below : (n : ℕ) (k : Kind) (v : MapValue) → ValueFits n k v → IntBelow n (integer_at (Some v))
value-below n kind.Bool (values.Bool a) h = tt
value-below n kind.Bool (values.Int a) h = absurd h
value-below n (kind.Range low high) (values.Bool a) h = absurd h
value-below n (kind.Range low high) (values.Int a) h = h.below
value-below n (kind.Listed vs) (values.Bool a) h = absurd h
value-below n (kind.Listed vs) (values.Int a) h = h.below

pub values-bounded : (n : ℕ) (ds : List Decl) (vs : List MapValue) → ValuesFit n ds vs → (place : ℕ) → IsBounded (integer_named vs place)
values-bounded n ds [] h place = zero-bounded
values-bounded n [] (v ∷ vs) h place = absurd h
values-bounded n (d ∷ ds) (v ∷ vs) h zero = value-bounded n d.kind v h.0
values-bounded n (d ∷ ds) (v ∷ vs) h (suc place) = values-bounded n ds vs h.1 place

pub values-below : (n : ℕ) (ds : List Decl) (vs : List MapValue) → ValuesFit n ds vs → (place : ℕ) → IntBelow n (integer_named vs place)
values-below n ds [] h place = tt
values-below n [] (v ∷ vs) h place = absurd h
values-below n (d ∷ ds) (v ∷ vs) h zero = value-below n d.kind v h.0
values-below n (d ∷ ds) (v ∷ vs) h (suc place) = values-below n ds vs h.1 place

-- that an objective is better is an atom over the variables of its integer
pub better-below : (n : ℕ) (goal : Goal) (entries : List MapValue) (m : ℤ) → ((place : ℕ) → IntBelow n (integer_named entries place)) → AtomBelow n (better_than goal entries m)
better-below n Satisfy entries m h = tt
better-below n (Minimize place second) entries m h =
    AtomBelow-not_atom n (at_of (integer_named entries place) m) (AtomBelow-at_of n (integer_named entries place) m (h place))
better-below n (Maximize place second) entries m h =
    let next : ℤ = m +ℤ pos 1 in
    let here = AtomBelow-at_of n (integer_named entries place) next (h place) in
    AtomBelow-not_atom n (not_atom (at_of (integer_named entries place) next)) (AtomBelow-not_atom n (at_of (integer_named entries place) next) here)
