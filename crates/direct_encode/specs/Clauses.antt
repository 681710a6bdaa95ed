-- The clauses of a core in a basic form.
use Rattle.std.specs.Prelude.{List, [], ◌∷◌, ◌++◌}
use Rattle.order_ints.specs.declared.atom.Atom.{Atom}
use Rattle.core_forms.specs.declared.form.Core.{Core}
use Rattle.core_forms.specs.declared.form.Core.TheVariants.{Ladder, Clause, Parity, Conj, Comp, LeqR, EqR, Sum3, Count}
use Rattle.core_forms.specs.declared.form.Core.TheVariants.{Sum, Max, AllDiff, Amo, Prod, DivMod, Lex}
use Rattle.direct_encode.specs.Orders.{order_clauses, orders_of}
use Rattle.direct_encode.specs.AtomLists.{parity_clauses, conj_clauses, comp_clauses, amo_clauses}
use Rattle.direct_encode.specs.Comparisons.{leq_clauses, eq_clauses}
use Rattle.direct_encode.specs.Maxima.{max_clauses}
use Rattle.direct_encode.specs.Tables.{sum3_clauses, prod_clauses, div_mod_clauses}

-- the clauses of a core: those of the order of its integers, and then those of its form
abbrev pub clauses_of : Core → List (List Atom)
clauses_of (Ladder a) = order_clauses a
clauses_of (Clause ls) = ls ∷ []
clauses_of (Parity ls odd) = parity_clauses ls odd
clauses_of (Conj r ls) = conj_clauses r ls
clauses_of (Comp a b hi lo) = comp_clauses a b hi lo
clauses_of (LeqR r a b) = order_clauses a ++ (order_clauses b ++ leq_clauses r a b)
clauses_of (EqR r a b) = order_clauses a ++ (order_clauses b ++ eq_clauses r a b)
clauses_of (Sum3 a b c) = order_clauses a ++ (order_clauses b ++ (order_clauses c ++ sum3_clauses a b c))
clauses_of (Count ls c) = []
clauses_of (Sum ints k) = []
clauses_of (Max ints c) = orders_of ints ++ (order_clauses c ++ max_clauses ints c)
clauses_of (AllDiff ints cs) = []
clauses_of (Amo ls) = amo_clauses ls
clauses_of (Prod a b c) = order_clauses a ++ (order_clauses b ++ (order_clauses c ++ prod_clauses a b c))
clauses_of (DivMod a b q r) =
    order_clauses a ++ (order_clauses b ++ (order_clauses q ++ (order_clauses r ++ div_mod_clauses a b q r)))
clauses_of (Lex r strict front back) = []
