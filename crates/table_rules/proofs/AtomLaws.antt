-- What holds of the atoms of a core holds of both atoms of an instance.
use Rattle.std.proofs.Common.{◌≡◌, ℕ, zero, suc, ◌<◌, ◌⊎◌, inl, inr, Bool, true, false, length, get_or, List, [], ◌∷◌, ◌++◌, Contains, refl, subst, arith}
use Rattle.std.proofs.lemmas.List.Elements.{Contains-append_cases}
use Rattle.order_ints.specs.declared.atom.Atom.{Atom}
use Rattle.order_ints.specs.declared.atom.Atom.TheVariants.{True, False, Of}
use Rattle.order_ints.specs.declared.order_int.OrdInt.{OrdInt}
use Rattle.order_ints.specs.Place.{AtomBelow}
use Rattle.order_ints.proofs.PlaceLaws.{AtomBelow-not_atom}
use Rattle.core_forms.specs.declared.equation.Equation.{Equation}
use Rattle.core_forms.specs.declared.form.Core.{Core}
use Rattle.core_forms.specs.Contents.{ints_of, atoms_of}
use Rattle.core_forms.specs.Each.{EachOf, EachStep, EachInt, EachAtom}
use Rattle.core_forms.specs.Place.{CoreBelow}
use Rattle.core_forms.specs.Variables.{atom_vars, atoms_vars, steps_vars, ints_vars, core_vars, AreAmong}
use Rattle.core_forms.proofs.EachLaws.{each_below}
use Rattle.rule_base.specs.Pairs.{IsClosed}
use Rattle.table_rules.specs.Instances.{is_instance_of}
use Rattle.table_rules.proofs.PairLaws.{lit}
use Rattle.table_rules.proofs.InstanceLaws.{instance-parts}

module _ (P : Atom → Type 0) (closed : IsClosed P) where
  -- it holds of both literals of a variable
  abbrev OfVar : ℕ → Type 0
  OfVar v = (b : Bool) → P (Of (lit v b))

  of-sign : (v : ℕ) (s b : Bool) → P (Of (lit v s)) → P (Of (lit v b))
  of-sign v true true p = p
  of-sign v true false p = closed.negation (Of (lit v true)) p
  of-sign v false true p = closed.negation (Of (lit v false)) p
  of-sign v false false p = p

  of-atom : (a : Atom) (v : ℕ) → P a → Contains (atom_vars a) v → OfVar v
  of-atom True v p c b = absurd (omega (arith, c.1))
  of-atom False v p c b = absurd (omega (arith, c.1))
  of-atom (Of l) v p c b = at c.0 c.1 c.2
    where
      at : (k : ℕ) → k < length (l.var ∷ []) → get_or (l.var ∷ []) k v ≡ v → P (Of (lit v b))
      at zero m e = subst (λ (w : ℕ). P (Of (lit w b))) e (of-sign l.var l.positive b p)
      at (suc k) m e = absurd (omega arith)

  of-either : (xs ys : List ℕ) (v : ℕ) → Contains (xs ++ ys) v → (Contains xs v → OfVar v) → (Contains ys v → OfVar v) → OfVar v
  of-either xs ys v c first later = by (Contains-append_cases xs ys v c)
    where
      by : (Contains xs v ⊎ Contains ys v) → OfVar v
      by (inl d) = first d
      by (inr d) = later d

  of-atoms : (ls : List Atom) (v : ℕ) → EachOf P ls → Contains (atoms_vars ls) v → OfVar v
  of-atoms [] v h c = absurd (omega (arith, c.1))
  of-atoms (a ∷ ls) v h c = of-either (atom_vars a) (atoms_vars ls) v c (of-atom a v h.0) (of-atoms ls v h.1)

  of-steps : (steps : List (Atom × ℕ)) (v : ℕ) → EachStep P steps → Contains (steps_vars steps) v → OfVar v
  of-steps [] v h c = absurd (omega (arith, c.1))
  of-steps (s ∷ steps) v h c = of-either (atom_vars s.0) (steps_vars steps) v c (of-atom s.0 v h.0) (of-steps steps v h.1)

  of-ints : (xs : List OrdInt) (v : ℕ) → EachInt P xs → Contains (ints_vars xs) v → OfVar v
  of-ints [] v h c = absurd (omega (arith, c.1))
  of-ints (a ∷ xs) v h c = of-either (steps_vars a.steps) (ints_vars xs) v c (of-steps a.steps v h.0) (of-ints xs v h.1)

  of-core : (core : Core) (v : ℕ) → EachAtom P core → Contains (core_vars core) v → OfVar v
  of-core core v h c =
      of-either (atoms_vars (atoms_of core)) (ints_vars (ints_of core)) v c (of-atoms (atoms_of core) v h.0) (of-ints (ints_of core) v h.1)

  of-over : (core : Core) (a : Atom) → EachAtom P core → AreAmong (atom_vars a) (core_vars core) → P a
  of-over core True h among = closed.truth
  of-over core False h among = closed.falsehood
  of-over core (Of l) h among = of-core core l.var h (among l.var (0, omega arith, refl)) l.positive

  pub instance-each : (core : Core) (e : Equation) → EachAtom P core → is_instance_of core e ≡ true → P e.a × P e.b
  instance-each core e h is =
      let parts = instance-parts core e is in (of-over core e.a h parts.a_over, of-over core e.b h parts.b_over)

below-closed : (n : ℕ) → IsClosed (AtomBelow n)
below-closed n = record { truth = tt; falsehood = tt; negation = AtomBelow-not_atom n }

pub instance-below : (n : ℕ) (core : Core) (e : Equation) → CoreBelow n core → is_instance_of core e ≡ true → AtomBelow n e.a × AtomBelow n e.b
instance-below n core e below is = instance-each (AtomBelow n) (below-closed n) core e (each_below n (AtomBelow n) (λ a h. h) core below) is
