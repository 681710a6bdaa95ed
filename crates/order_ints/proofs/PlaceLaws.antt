-- What is below a bound stays below a greater one, is so in each part, and as a view has it.
use Rattle.std.proofs.Common.{ℕ, ◌-◌, ◌≤◌, Bool, true, false, cond, zero, suc, List, [], ◌∷◌, ◌++◌, get_or, arith}
use Rattle.order_ints.specs.declared.literal.Lit.{Lit}
use Rattle.order_ints.specs.declared.atom.Atom.{Atom}
use Rattle.order_ints.specs.declared.atom.Atom.TheVariants.{True, False, Of}
use Rattle.order_ints.specs.Truth.{not_atom}
use Rattle.order_ints.specs.Place.{LitBelow, AtomBelow, ClauseBelow, ClausesBelow, AtomsBelow, AtomClausesBelow}
use Rattle.order_ints.specs.View.{label_of, resolve}

-- what is below n is below each greater bound
module _ (n m : ℕ) (up : n ≤ m) where
  pub LitBelow-up : (l : Lit) → LitBelow n l → LitBelow m l
  LitBelow-up l h = (h.0, omega (arith, up, h.1))

  pub AtomBelow-up : (a : Atom) → AtomBelow n a → AtomBelow m a
  AtomBelow-up True h = tt
  AtomBelow-up False h = tt
  AtomBelow-up (Of l) h = LitBelow-up l h

  pub ClauseBelow-up : (c : List Lit) → ClauseBelow n c → ClauseBelow m c
  ClauseBelow-up [] h = tt
  ClauseBelow-up (l ∷ ls) h = (LitBelow-up l h.0, ClauseBelow-up ls h.1)

  pub ClausesBelow-up : (cs : List (List Lit)) → ClausesBelow n cs → ClausesBelow m cs
  ClausesBelow-up [] h = tt
  ClausesBelow-up (c ∷ cs) h = (ClauseBelow-up c h.0, ClausesBelow-up cs h.1)

  pub AtomsBelow-up : (c : List Atom) → AtomsBelow n c → AtomsBelow m c
  AtomsBelow-up [] h = tt
  AtomsBelow-up (a ∷ atoms) h = (AtomBelow-up a h.0, AtomsBelow-up atoms h.1)

  pub AtomClausesBelow-up : (cs : List (List Atom)) → AtomClausesBelow n cs → AtomClausesBelow m cs
  AtomClausesBelow-up [] h = tt
  AtomClausesBelow-up (c ∷ cs) h = (AtomsBelow-up c h.0, AtomClausesBelow-up cs h.1)

module _ (n : ℕ) where
  pub AtomBelow-not_atom : (a : Atom) → AtomBelow n a → AtomBelow n (not_atom a)
  AtomBelow-not_atom True h = tt
  AtomBelow-not_atom False h = tt
  AtomBelow-not_atom (Of l) h = h

  pub AtomBelow-get_or : (atoms : List Atom) (i : ℕ) (d : Atom) → AtomsBelow n atoms → AtomBelow n d → AtomBelow n (get_or atoms i d)
  AtomBelow-get_or [] i d h k = k
  AtomBelow-get_or (a ∷ atoms) zero d h k = h.0
  AtomBelow-get_or (a ∷ atoms) (suc i) d h k = AtomBelow-get_or atoms i d h.1 k

  -- an atom below n, as a view of atoms below n has it, is below n
  pub AtomBelow-resolve : (view : List Atom) → AtomsBelow n view → (a : Atom) → AtomBelow n a → AtomBelow n (resolve view a)
  AtomBelow-resolve view v True h = tt
  AtomBelow-resolve view v False h = tt
  AtomBelow-resolve view v (Of l) h = by l.positive
    where
      label : AtomBelow n (label_of view l.var)
      label = AtomBelow-get_or view (l.var - 1) (Of (record { var = l.var; positive = true })) v h

      by : (p : Bool) → AtomBelow n (cond p (label_of view l.var) (not_atom (label_of view l.var)))
      by true = label
      by false = AtomBelow-not_atom (label_of view l.var) label

  -- each part of appended lists
  pub ClauseBelow-append : (ls ms : List Lit) → ClauseBelow n ls → ClauseBelow n ms → ClauseBelow n (ls ++ ms)
  ClauseBelow-append [] ms h k = k
  ClauseBelow-append (l ∷ ls) ms h k = (h.0, ClauseBelow-append ls ms h.1 k)

  pub ClausesBelow-append : (cs ds : List (List Lit)) → ClausesBelow n cs → ClausesBelow n ds → ClausesBelow n (cs ++ ds)
  ClausesBelow-append [] ds h k = k
  ClausesBelow-append (c ∷ cs) ds h k = (h.0, ClausesBelow-append cs ds h.1 k)

  pub AtomsBelow-append : (xs ys : List Atom) → AtomsBelow n xs → AtomsBelow n ys → AtomsBelow n (xs ++ ys)
  AtomsBelow-append [] ys h k = k
  AtomsBelow-append (a ∷ xs) ys h k = (h.0, AtomsBelow-append xs ys h.1 k)

  pub AtomClausesBelow-append : (cs ds : List (List Atom)) → AtomClausesBelow n cs → AtomClausesBelow n ds → AtomClausesBelow n (cs ++ ds)
  AtomClausesBelow-append [] ds h k = k
  AtomClausesBelow-append (c ∷ cs) ds h k = (h.0, AtomClausesBelow-append cs ds h.1 k)
