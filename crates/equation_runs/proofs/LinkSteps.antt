-- The steps of the loops that add the equations that link two integers.
use Rattle.std.proofs.Common.{◌≡◌, Bool, true, false, cond, List, [], ◌∷◌, ◌++◌, map, append_assoc, append-nil, ℤ, sym, ap, ◌∙◌}
use Rattle.std.specs.Prelude.{filter}
use Rattle.std.proofs.lemmas.List.{map-append}
use Rattle.order_ints.specs.declared.atom.Atom.{Atom}
use Rattle.order_ints.specs.declared.order_int.OrdInt.{OrdInt}
use Rattle.order_ints.specs.OrderLevels.{levels_of, at_of}
use Rattle.order_ints.proofs.Everywhere.{filter_levels}
use Rattle.core_forms.specs.WellFormed.{IsSound}
use Rattle.core_forms.specs.declared.equation.Equation.{Equation}
use Rattle.core_forms.specs.declared.equation.Rule.TheVariants.{Form}
use Rattle.rule_base.specs.Pairs.{only_if}
use Rattle.arith_rules.specs.declared.links.Link.TheVariants.{Times, Ceiling, Over}
use Rattle.arith_rules.specs.Links.{linked, linked_back, opposed, opposed_above, alike_back}
use Rattle.arith_rules.specs.CodeLinks.{link_of}
use Rattle.arith_rules.specs.ProductRows.{multiple_equations, negative_equations}
use Rattle.arith_rules.proofs.Beside.{back_pair}
use Rattle.equation_runs.specs.RunRows.{equation_of}

-- one level more
pub pair-more : (pair : ℤ × Atom → Atom × Atom) (walk rest : List (ℤ × Atom)) (level : ℤ × Atom) (p : Atom × Atom) (old new whole : List Equation) → walk ≡ level ∷ rest → p ≡ pair level
    → new ≡ old ++ equation_of Form p ∷ [] → old ++ map (equation_of Form) (map pair walk) ≡ whole → new ++ map (equation_of Form) (map pair rest) ≡ whole
pair-more pair walk rest level p old new whole is at put e =
    ap (λ (xs : List Equation). xs ++ map (equation_of Form) (map pair rest)) (put ∙ ap (λ (q : Atom × Atom). old ++ equation_of Form q ∷ []) at)
    ∙ append_assoc old (equation_of Form (pair level) ∷ []) (map (equation_of Form) (map pair rest))
    ∙ ap (λ (xs : List (ℤ × Atom)). old ++ map (equation_of Form) (map pair xs)) (sym is) ∙ e

-- no level left
pub pair-done : (pair : ℤ × Atom → Atom × Atom) (walk : List (ℤ × Atom)) (old whole : List Equation) → walk ≡ [] → old ++ map (equation_of Form) (map pair walk) ≡ whole → old ≡ whole
pair-done pair walk old whole is e =
    sym (append-nil old) ∙ ap (λ (xs : List (ℤ × Atom)). old ++ map (equation_of Form) (map pair xs)) (sym is) ∙ e

-- all levels left at first
pub pairs-first : (pair : ℤ × Atom → Atom × Atom) (walk levels : List (ℤ × Atom)) (ps : List (Atom × Atom)) (old : List Equation) → walk ≡ levels → map pair levels ≡ ps
    → old ++ map (equation_of Form) (map pair walk) ≡ old ++ map (equation_of Form) ps
pairs-first pair walk levels ps old is e =
    ap (λ (xs : List (ℤ × Atom)). old ++ map (equation_of Form) (map pair xs)) is ∙ ap (λ (qs : List (Atom × Atom)). old ++ map (equation_of Form) qs) e

-- two parts, one after another
pub both-parts : (ps qs : List (Atom × Atom)) (old mid new : List Equation) → mid ≡ old ++ map (equation_of Form) ps → new ≡ mid ++ map (equation_of Form) qs → new ≡ old ++ map (equation_of Form) (ps ++ qs)
both-parts ps qs old mid new e f =
    f ∙ ap (λ (xs : List Equation). xs ++ map (equation_of Form) qs) e ∙ append_assoc old (map (equation_of Form) ps) (map (equation_of Form) qs)
    ∙ ap (λ (xs : List Equation). old ++ xs) (sym (map-append (equation_of Form) ps qs))

-- one level more, of those that pass a test
pub pair-where : (pair : ℤ × Atom → Atom × Atom) (test : ℤ → Bool) (walk rest : List (ℤ × Atom)) (level : ℤ × Atom) (p : Atom × Atom) (t : Bool) (old new whole : List Equation) → walk ≡ level ∷ rest → p ≡ pair level → t ≡ test level.0
    → new ≡ old ++ map (equation_of Form) (only_if t (p ∷ [])) → old ++ map (equation_of Form) (map pair (filter (λ (l : ℤ × Atom). test l.0) walk)) ≡ whole
    → new ++ map (equation_of Form) (map pair (filter (λ (l : ℤ × Atom). test l.0) rest)) ≡ whole
pair-where pair test walk rest level p t old new whole is at holds put e =
    ap (λ (xs : List Equation). xs ++ map (equation_of Form) (map pair passed)) (put ∙ (λ i. old ++ map (equation_of Form) (only_if (holds i) (at i ∷ []))))
    ∙ by (test level.0) ∙ ap (λ (xs : List (ℤ × Atom)). old ++ map (equation_of Form) (map pair (filter (λ (l : ℤ × Atom). test l.0) xs))) (sym is) ∙ e
  where
    passed : List (ℤ × Atom)
    passed = filter (λ (l : ℤ × Atom). test l.0) rest

    by : (b : Bool) → (old ++ map (equation_of Form) (only_if b (pair level ∷ []))) ++ map (equation_of Form) (map pair passed) ≡ old ++ map (equation_of Form) (map pair (cond b (level ∷ passed) passed))
    by true = append_assoc old (equation_of Form (pair level) ∷ []) (map (equation_of Form) (map pair passed))
    by false = ap (λ (xs : List Equation). xs ++ map (equation_of Form) (map pair passed)) (append-nil old)

-- the levels that pass a test, with the atom of b first
pub alike_back-is : (test : ℤ → Bool) (a b : OrdInt) → IsSound a → map (back_pair (λ v. v) b) (filter (λ (level : ℤ × Atom). test level.0) (levels_of a)) ≡ alike_back test a b
alike_back-is test a b sound = filter_levels (λ v x. (at_of b v, x)) test a sound.1

-- the two parts of a product by a constant, with the number that the code has
pub multiple-parts : (k n : ℤ) (b c : OrdInt) (old mid new : List Equation) → mid ≡ old ++ map (equation_of Form) (linked_back (link_of (Times n)) b c)
    → new ≡ mid ++ map (equation_of Form) (linked (link_of (Ceiling n)) c b) → n ≡ k → new ≡ old ++ map (equation_of Form) (multiple_equations k b c)
multiple-parts k n b c old mid new first second e =
    both-parts (linked_back (link_of (Times n)) b c) (linked (link_of (Ceiling n)) c b) old mid new first second
    ∙ ap (λ (m : ℤ). old ++ map (equation_of Form) (multiple_equations m b c)) e

pub negative-parts : (k n : ℤ) (b c : OrdInt) (old mid new : List Equation) → mid ≡ old ++ map (equation_of Form) (opposed_above (link_of (Times n)) b c)
    → new ≡ mid ++ map (equation_of Form) (opposed (link_of (Over n)) c b) → n ≡ k → new ≡ old ++ map (equation_of Form) (negative_equations k b c)
negative-parts k n b c old mid new first second e =
    both-parts (opposed_above (link_of (Times n)) b c) (opposed (link_of (Over n)) c b) old mid new first second
    ∙ ap (λ (m : ℤ). old ++ map (equation_of Form) (negative_equations m b c)) e
