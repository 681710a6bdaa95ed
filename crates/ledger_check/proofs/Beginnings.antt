-- The standing before the first line, and the ranges of what names stand for.
use Rattle.std.proofs.Common.{◌≡◌, ℕ, zero, suc, ◌+◌, ◌≤◌, List, [], ◌∷◌, ◌++◌, length, Some, sym, ap, ◌∙◌, subst, ℤ, pos, ◌+ℤ◌, arith}
use Rattle.std.specs.Prelude.{slice_get}
use Rattle.order_ints.specs.declared.atom.Atom.{Atom}
use Rattle.order_ints.specs.declared.order_int.OrdInt.{OrdInt}
use Rattle.order_ints.specs.declared.order_int.MapValue.{MapValue}
use Rattle.order_ints.specs.declared.order_int.MapValue.TheVariants as values
use Rattle.order_ints.specs.OrderMade.{constant_of}
use Rattle.order_ints.specs.OrderRange.{IsBounded, IntBelow}
use Rattle.order_ints.specs.OrderLevels.{at_of}
use Rattle.order_ints.specs.declared.atom.Atom.TheVariants.{True, False, Of}
use Rattle.order_ints.specs.declared.cnf.Cnf.{Cnf}
use Rattle.order_ints.specs.declared.literal.Lit.{Lit}
use Rattle.answer_document.specs.Valid.{atom_clauses}
use Rattle.order_ints.specs.Place.{AtomBelow, ClausesBelow, InRange, StepsBelow}
use Rattle.order_ints.specs.View.{resolve}
use Rattle.order_ints.proofs.Labels.{labels_below, length-own_labels}
use Rattle.order_ints.proofs.PlaceLaws.{AtomBelow-not_atom, AtomBelow-resolve, AtomBelow-up}
use Rattle.order_ints.proofs.Reaching.{AtomBelow-at_of}
use Rattle.model_meaning.specs.declared.model.Decl.{Decl}
use Rattle.model_meaning.specs.declared.model.Kind.{Kind}
use Rattle.model_meaning.specs.declared.model.Kind.TheVariants as kind
use Rattle.model_meaning.specs.declared.model.Goal.{Goal}
use Rattle.model_meaning.specs.declared.model.Goal.TheVariants.{Satisfy, Minimize, Maximize}
use Rattle.model_meaning.specs.declared.model.Model.{Model}
use Rattle.statement_lower.specs.Terms.{integer_at}
use Rattle.name_map.specs.Fits.{EntryFits, EntriesFit}
use Rattle.model_meaning.specs.Limits.{InLimits}
use Rattle.model_meaning.specs.WellTyped.{WellTyped}
use Rattle.model_weight.specs.Weight.{weight_of}
use Rattle.model_lower.specs.declared.state.Lowered.{Lowered}
use Rattle.model_lower.specs.Fits.{Fits}
use Rattle.model_lower.specs.Lowering.{lowered_of}
use Rattle.model_lower.specs.Weighed.{most_weight}
use Rattle.model_lower.proofs.LoweringLaw.{lowering_law}
use Rattle.step_kernel.specs.Kernel.{Kernel, IsKernel}
use Rattle.answer_document.specs.BoundAtoms.{integer_named, fixed}
use Rattle.ledger_check.specs.declared.reading.Reading.{Reading}
use Rattle.ledger_check.specs.Items.{Standing}
use Rattle.ledger_check.specs.Taken.{AreWithin, IsWithin, IsLater, begun, standing_of}

abbrev IsSafe : ℕ → OrdInt → Type 0
IsSafe n a = IsBounded a × IntBelow n a

constant-safe : (n : ℕ) → IsSafe n (constant_of (pos 0))
constant-safe n = ((omega arith, omega arith), tt)

entry-safe : (n : ℕ) (k : Kind) (e : MapValue) → EntryFits n k e → IsSafe n (integer_at (Some e))
entry-safe n kind.Bool (values.Bool a) h = constant-safe n
entry-safe n kind.Bool (values.Int a) h = absurd h
entry-safe n k (values.Bool a) h = constant-safe n
entry-safe n (kind.Range low high) (values.Int a) h = (h.sound.0, h.below)
entry-safe n (kind.Listed vs) (values.Int a) h = (h.sound.0, h.below)

pub entries-within : (n : ℕ) (ds : List Decl) (entries : List MapValue) → EntriesFit n ds entries → AreWithin n entries
entries-within n ds [] h place = constant-safe n
entries-within n [] (e ∷ entries) h place = absurd h
entries-within n (d ∷ ds) (e ∷ entries) h zero = entry-safe n d.kind e h.0
entries-within n (d ∷ ds) (e ∷ entries) h (suc place) = entries-within n ds entries h.1 place

-- what is below a number is below a greater one
steps-up : (n m : ℕ) → n ≤ m → (steps : List (Atom × ℕ)) → StepsBelow n steps → StepsBelow m steps
steps-up n m more [] h = tt
steps-up n m more (s ∷ steps) h = (AtomBelow-up n m more s.0 h.0, steps-up n m more steps h.1)

pub within-up : (n m : ℕ) (entries : List MapValue) → n ≤ m → AreWithin n entries → AreWithin m entries
within-up n m entries more h place = ((h place).0, steps-up n m more (integer_at (slice_get entries place)).steps (h place).1)

pub within-later : (old new : Reading) → IsWithin old → IsLater old new → IsWithin new
within-later old new h later =
    subst (λ es. AreWithin (length new.state.view + 1) es) (sym (ap (λ m. m.entries) later.1))
    (within-up (length old.state.view + 1) (length new.state.view + 1) old.map.entries (omega (arith, later.0)) h)

-- the atom of a fixed objective is one of the state
fixed-below : (n : ℕ) (goal : Goal) (entries : List MapValue) (m : ℤ) → AreWithin n entries → AtomBelow n (fixed goal entries m)
fixed-below n Satisfy entries m h = tt
fixed-below n (Minimize place second) entries m h =
    AtomBelow-not_atom n (at_of (integer_named entries place) (m +ℤ pos 1)) (AtomBelow-at_of n (integer_named entries place) (m +ℤ pos 1) (h place).1)
fixed-below n (Maximize place second) entries m h = AtomBelow-at_of n (integer_named entries place) m (h place).1

pub fixed-resolved : (k : Kernel) (goal : Goal) (entries : List MapValue) (m : ℤ) → IsKernel k → AreWithin (length k.view + 1) entries → AtomBelow (length k.view + 1) (resolve k.view (fixed goal entries m))
fixed-resolved k goal entries m is h = AtomBelow-resolve (length k.view + 1) k.view (labels_below k.view is.labelled) (fixed goal entries m) (fixed-below (length k.view + 1) goal entries m h)

-- the clause of an atom of the state behind its CNF
with-atom : (n : ℕ) (cs : List (List Lit)) (a : Atom) → ClausesBelow n cs → AtomBelow n a → ClausesBelow n (cs ++ atom_clauses a)
with-atom n [] True h k = tt
with-atom n [] False h k = (tt, tt)
with-atom n [] (Of l) h k = ((k, tt), tt)
with-atom n (c ∷ cs) a h k = (h.0, with-atom n cs a h.1 k)

pub fixed-range : (n : ℕ) (cnf : Cnf) (all : List (List Lit)) (a : Atom) → cnf.vars ≡ n → InRange cnf → AtomBelow (n + 1) a → all ≡ cnf.clauses ++ atom_clauses a → ClausesBelow (cnf.vars + 1) all
fixed-range n cnf all a vars range below is =
    subst (λ (cs : List (List Lit)). ClausesBelow (cnf.vars + 1) cs) (sym is)
    (with-atom (cnf.vars + 1) cnf.clauses a range (subst (λ (m : ℕ). AtomBelow (m + 1) a) (sym vars) below))

-- a lowered model is within its ranges
pub lowered-fits : (model : Model) (l : Lowered) → WellTyped model → InLimits model → weight_of model ≤ most_weight → l ≡ lowered_of model → Fits l model.decls
lowered-fits model l typed limits light shape =
    subst (λ (m : Lowered). Fits m model.decls) (sym shape) (lowering_law model typed limits light).fits

-- before the first line
pub start-within : (r : Reading) (l : Lowered) (ds : List Decl) → standing_of r ≡ begun l → EntriesFit (l.vars + 1) ds l.map.entries → IsWithin r
start-within r l ds is fit =
    let size : length r.state.view ≡ l.vars = ap (λ (s : Standing). length s.kernel.view) is ∙ length-own_labels 1 l.vars in
    let entries : r.map.entries ≡ l.map.entries = ap (λ (s : Standing). s.entries) is in
    subst (λ es. AreWithin (length r.state.view + 1) es) (sym entries)
    (within-up (l.vars + 1) (length r.state.view + 1) l.map.entries (omega (arith, size)) (entries-within (l.vars + 1) ds l.map.entries fit))
