-- Below which bound the variables of a core are, those of its clauses are.
use Rattle.std.proofs.Common.{ℕ, Bool, true, false, not, List, [], ◌∷◌, ◌++◌, map, ℤ, pos, ◌+ℤ◌}
use Rattle.order_ints.specs.declared.atom.Atom.{Atom}
use Rattle.order_ints.specs.declared.order_int.OrdInt.{OrdInt}
use Rattle.order_ints.specs.Truth.{not_atom}
use Rattle.order_ints.specs.Place.{AtomBelow, AtomsBelow, AtomClausesBelow, StepsBelow}
use Rattle.order_ints.specs.OrderRange.{IntBelow}
use Rattle.order_ints.specs.OrderLevels.{values_of, at_of}
use Rattle.order_ints.proofs.Reaching.{AtomBelow-at_of}
use Rattle.order_ints.proofs.PlaceLaws.{AtomBelow-not_atom, AtomClausesBelow-append}
use Rattle.core_forms.specs.declared.form.Core.{Core}
use Rattle.core_forms.specs.declared.form.Core.TheVariants.{Ladder, Clause, Parity, Conj, Comp, LeqR, EqR, Sum3, Count, Sum, Max, AllDiff, Amo, Prod, DivMod, Lex}
use Rattle.core_forms.specs.Place.{IntsBelow, CoreBelow}
use Rattle.direct_encode.specs.Orders.{order_clauses_above, order_clauses_of_steps, order_clauses, orders_of}
use Rattle.direct_encode.specs.Comparisons.{reaching_clause, reaching_clauses, exceeding_clause, exceeding_clauses, differing_clause, common_values, differing_clauses, leq_clauses, eq_clauses}
use Rattle.direct_encode.specs.AtomLists.{parity_clauses, member_clauses, conj_clauses, comp_clauses, apart_clauses, amo_clauses}
use Rattle.direct_encode.specs.Maxima.{at_most_clause, at_most_clauses, all_at_most_clauses, all_at, some_reaching_clause, some_reaching_clauses, max_clauses}
use Rattle.direct_encode.specs.Tables.{sum3_clauses, prod_clauses, div_mod_clauses}
use Rattle.direct_encode.proofs.TableSizes.{below-sum3, below-prod, below-div_mod}
use Rattle.direct_encode.specs.Clauses.{clauses_of}

module _ (n : ℕ) where
  below-order_clauses_above : (p : Atom) (steps : List (Atom × ℕ)) → AtomBelow n p → StepsBelow n steps → AtomClausesBelow n (order_clauses_above p steps)
  below-order_clauses_above p [] first below = tt
  below-order_clauses_above p (s ∷ steps) first below =
      ((first, (AtomBelow-not_atom n s.0 below.0, tt)), below-order_clauses_above s.0 steps below.0 below.1)

  below-order_clauses_of_steps : (steps : List (Atom × ℕ)) → StepsBelow n steps → AtomClausesBelow n (order_clauses_of_steps steps)
  below-order_clauses_of_steps [] below = tt
  below-order_clauses_of_steps (s ∷ steps) below = below-order_clauses_above s.0 steps below.0 below.1

  below-order_clauses : (a : OrdInt) → IntBelow n a → AtomClausesBelow n (order_clauses a)
  below-order_clauses a below = below-order_clauses_of_steps a.steps below

  below-map : (f : ℤ → List Atom) (vs : List ℤ) → ((v : ℤ) → AtomsBelow n (f v)) → AtomClausesBelow n (map f vs)
  below-map f [] each = tt
  below-map f (v ∷ vs) each = (each v, below-map f vs each)

  below-not_at : (a : OrdInt) (v : ℤ) → IntBelow n a → AtomBelow n (not_atom (at_of a v))
  below-not_at a v ha = AtomBelow-not_atom n (at_of a v) (AtomBelow-at_of n a v ha)

  module _ (r : Atom) (a b : OrdInt) (hr : AtomBelow n r) (ha : IntBelow n a) (hb : IntBelow n b) where
    below-reaching_clauses : AtomClausesBelow n (reaching_clauses r a b)
    below-reaching_clauses =
        below-map (reaching_clause r a b) (values_of a) (λ v. (AtomBelow-not_atom n r hr, (below-not_at a v ha, (AtomBelow-at_of n b v hb, tt))))

    below-exceeding_clauses : AtomClausesBelow n (exceeding_clauses r a b)
    below-exceeding_clauses =
        below-map (exceeding_clause r a b) (values_of b) (λ v. (hr, (below-not_at b v hb, (AtomBelow-at_of n a (v +ℤ pos 1) ha, tt))))

    below-differing_clauses : AtomClausesBelow n (differing_clauses r a b)
    below-differing_clauses =
        below-map (differing_clause r a b) (common_values a b)
        (λ v. (hr, (below-not_at a v ha, (AtomBelow-at_of n a (v +ℤ pos 1) ha, (below-not_at b v hb, (AtomBelow-at_of n b (v +ℤ pos 1) hb, tt))))))

    below-leq_clauses : AtomClausesBelow n (leq_clauses r a b)
    below-leq_clauses =
        AtomClausesBelow-append n (reaching_clauses r a b) (exceeding_clauses r a b) below-reaching_clauses below-exceeding_clauses

  below-eq_clauses : (r : Atom) (a b : OrdInt) (hr : AtomBelow n r) (ha : IntBelow n a) (hb : IntBelow n b) → AtomClausesBelow n (eq_clauses r a b)
  below-eq_clauses r a b hr ha hb =
      AtomClausesBelow-append n (reaching_clauses r a b) (reaching_clauses r b a ++ differing_clauses r a b) (below-reaching_clauses r a b hr ha hb)
      (AtomClausesBelow-append n (reaching_clauses r b a) (differing_clauses r a b) (below-reaching_clauses r b a hr hb ha) (below-differing_clauses r a b hr ha hb))

  below-compared : (a b : OrdInt) (cs : List (List Atom)) → IntBelow n a → IntBelow n b → AtomClausesBelow n cs → AtomClausesBelow n (order_clauses a ++ (order_clauses b ++ cs))
  below-compared a b cs ha hb hc =
      AtomClausesBelow-append n (order_clauses a) (order_clauses b ++ cs) (below-order_clauses a ha)
      (AtomClausesBelow-append n (order_clauses b) cs (below-order_clauses b hb) hc)

  -- lists of atoms
  below-with : (x : Atom) (cs : List (List Atom)) → AtomBelow n x → AtomClausesBelow n cs → AtomClausesBelow n (map (λ c. x ∷ c) cs)
  below-with x [] hx h = tt
  below-with x (c ∷ cs) hx h = ((hx, h.0), below-with x cs hx h.1)

  below-parity : (ls : List Atom) (odd : Bool) → AtomsBelow n ls → AtomClausesBelow n (parity_clauses ls odd)
  below-parity [] true h = (tt, tt)
  below-parity [] false h = tt
  below-parity (l ∷ ls) odd h =
      AtomClausesBelow-append n (map (λ c. l ∷ c) (parity_clauses ls odd)) (map (λ c. not_atom l ∷ c) (parity_clauses ls (not odd)))
      (below-with l (parity_clauses ls odd) h.0 (below-parity ls odd h.1))
      (below-with (not_atom l) (parity_clauses ls (not odd)) (AtomBelow-not_atom n l h.0) (below-parity ls (not odd) h.1))

  below-members : (r : Atom) (ls : List Atom) → AtomBelow n r → AtomsBelow n ls → AtomClausesBelow n (member_clauses r ls)
  below-members r [] hr h = tt
  below-members r (l ∷ ls) hr h = ((AtomBelow-not_atom n r hr, (h.0, tt)), below-members r ls hr h.1)

  below-negations : (ls : List Atom) → AtomsBelow n ls → AtomsBelow n (map not_atom ls)
  below-negations [] h = tt
  below-negations (l ∷ ls) h = (AtomBelow-not_atom n l h.0, below-negations ls h.1)

  below-conj : (r : Atom) (ls : List Atom) → AtomBelow n r → AtomsBelow n ls → AtomClausesBelow n (conj_clauses r ls)
  below-conj r ls hr h =
      AtomClausesBelow-append n (member_clauses r ls) ((r ∷ map not_atom ls) ∷ []) (below-members r ls hr h) ((hr, below-negations ls h), tt)

  below-comp : (a b hi lo : Atom) → AtomBelow n a → AtomBelow n b → AtomBelow n hi → AtomBelow n lo → AtomClausesBelow n (comp_clauses a b hi lo)
  below-comp a b hi lo ha hb hh hl =
      let na = AtomBelow-not_atom n a ha in
      let nb = AtomBelow-not_atom n b hb in
      let nh = AtomBelow-not_atom n hi hh in
      let nl = AtomBelow-not_atom n lo hl in
      ((na, (hh, tt)), ((nb, (hh, tt)), ((nh, (ha, (hb, tt))), ((nl, (ha, tt)), ((nl, (hb, tt)), ((hl, (na, (nb, tt))), tt))))))

  below-apart : (l : Atom) (ls : List Atom) → AtomBelow n l → AtomsBelow n ls → AtomClausesBelow n (apart_clauses l ls)
  below-apart l [] hl h = tt
  below-apart l (m ∷ ls) hl h = ((AtomBelow-not_atom n l hl, (AtomBelow-not_atom n m h.0, tt)), below-apart l ls hl h.1)

  below-amo : (ls : List Atom) → AtomsBelow n ls → AtomClausesBelow n (amo_clauses ls)
  below-amo [] h = tt
  below-amo (l ∷ ls) h = AtomClausesBelow-append n (apart_clauses l ls) (amo_clauses ls) (below-apart l ls h.0 h.1) (below-amo ls h.1)

  -- a greatest member
  below-orders_of : (ints : List OrdInt) → IntsBelow n ints → AtomClausesBelow n (orders_of ints)
  below-orders_of [] h = tt
  below-orders_of (a ∷ ints) h = AtomClausesBelow-append n (order_clauses a) (orders_of ints) (below-order_clauses a h.0) (below-orders_of ints h.1)

  below-all_at_most : (ints : List OrdInt) (c : OrdInt) → IntsBelow n ints → IntBelow n c → AtomClausesBelow n (all_at_most_clauses ints c)
  below-all_at_most [] c h hc = tt
  below-all_at_most (a ∷ ints) c h hc =
      AtomClausesBelow-append n (at_most_clauses a c) (all_at_most_clauses ints c)
      (below-map (at_most_clause a c) (values_of a) (λ v. (below-not_at a v h.0, (AtomBelow-at_of n c v hc, tt)))) (below-all_at_most ints c h.1 hc)

  below-all_at : (ints : List OrdInt) (v : ℤ) → IntsBelow n ints → AtomsBelow n (all_at ints v)
  below-all_at [] v h = tt
  below-all_at (a ∷ ints) v h = (AtomBelow-at_of n a v h.0, below-all_at ints v h.1)

  ints-both : (ints : List OrdInt) (c : OrdInt) → IntsBelow n (ints ++ c ∷ []) → IntsBelow n ints × IntBelow n c
  ints-both [] c h = (tt, h.0)
  ints-both (a ∷ ints) c h = let rest = ints-both ints c h.1 in ((h.0, rest.0), rest.1)

  below-of_max : (ints : List OrdInt) (c : OrdInt) → IntsBelow n (ints ++ c ∷ []) → AtomClausesBelow n (orders_of ints ++ (order_clauses c ++ max_clauses ints c))
  below-of_max ints c h =
      let both = ints-both ints c h in
      AtomClausesBelow-append n (orders_of ints) (order_clauses c ++ max_clauses ints c) (below-orders_of ints both.0)
      (AtomClausesBelow-append n (order_clauses c) (max_clauses ints c) (below-order_clauses c both.1)
      (AtomClausesBelow-append n (all_at_most_clauses ints c) (some_reaching_clauses ints c) (below-all_at_most ints c both.0 both.1)
      (below-map (some_reaching_clause ints c) (values_of c) (λ v. (below-not_at c v both.1, below-all_at ints v both.0)))))

  below-three : (a b c : OrdInt) (cs : List (List Atom)) → IntBelow n a → IntBelow n b → IntBelow n c → AtomClausesBelow n cs → AtomClausesBelow n (order_clauses a ++ (order_clauses b ++ (order_clauses c ++ cs)))
  below-three a b c cs ha hb hc h =
      AtomClausesBelow-append n (order_clauses a) (order_clauses b ++ (order_clauses c ++ cs)) (below-order_clauses a ha)
      (below-compared b c cs hb hc h)

-- each variable of the clauses is below n where those of the core are
pub below-clauses_of : (n : ℕ) (core : Core) → CoreBelow n core → AtomClausesBelow n (clauses_of core)
below-clauses_of n (Ladder a) h = below-order_clauses n a h.1.0
below-clauses_of n (Clause ls) h = (h.0, tt)
below-clauses_of n (Parity ls odd) h = below-parity n ls odd h.0
below-clauses_of n (Conj r ls) h = below-conj n r ls h.0.0 h.0.1
below-clauses_of n (Comp a b hi lo) h = below-comp n a b hi lo h.0.0 h.0.1.0 h.0.1.1.0 h.0.1.1.1.0
below-clauses_of n (LeqR r a b) h = below-compared n a b (leq_clauses r a b) h.1.0 h.1.1.0 (below-leq_clauses n r a b h.0.0 h.1.0 h.1.1.0)
below-clauses_of n (EqR r a b) h = below-compared n a b (eq_clauses r a b) h.1.0 h.1.1.0 (below-eq_clauses n r a b h.0.0 h.1.0 h.1.1.0)
below-clauses_of n (Sum3 a b c) h = below-three n a b c (sum3_clauses a b c) h.1.0 h.1.1.0 h.1.1.1.0 (below-sum3 n a b h.1.0 h.1.1.0 c h.1.1.1.0)
below-clauses_of n (Count ls c) h = tt
below-clauses_of n (Sum ints k) h = tt
below-clauses_of n (Max ints c) h = below-of_max n ints c h.1
below-clauses_of n (AllDiff ints cs) h = tt
below-clauses_of n (Amo ls) h = below-amo n ls h.0
below-clauses_of n (Prod a b c) h = below-three n a b c (prod_clauses a b c) h.1.0 h.1.1.0 h.1.1.1.0 (below-prod n a b h.1.0 h.1.1.0 c h.1.1.1.0)
below-clauses_of n (DivMod a b q r) h =
    AtomClausesBelow-append n (order_clauses a) (order_clauses b ++ (order_clauses q ++ (order_clauses r ++ div_mod_clauses a b q r))) (below-order_clauses n a h.1.0)
    (below-three n b q r (div_mod_clauses a b q r) h.1.1.0 h.1.1.1.0 h.1.1.1.1.0 (below-div_mod n a b h.1.0 h.1.1.0 q r h.1.1.1.0 h.1.1.1.1.0))
below-clauses_of n (Lex r strict front back) h = tt
