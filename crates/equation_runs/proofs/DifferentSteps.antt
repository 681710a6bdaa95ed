-- The steps of the loops that add what all-different tells.
use Rattle.std.proofs.Common.{◌≡◌, ℕ, ◌+◌, Bool, true, false, not, List, [], ◌∷◌, ◌++◌, map, ℤ, pos, ◌+ℤ◌, append_assoc, append-nil, ◌<◌, ◌^◌, refl, sym, ap, subst, ◌∙◌, add-one}
use Rattle.std.specs.Prelude.{unsigned_abs}
use Rattle.std.specs.List.{AllByRecursion}
use Rattle.std.proofs.lemmas.List.{map-append}
use Rattle.order_ints.specs.declared.atom.Atom.{Atom}
use Rattle.order_ints.specs.declared.order_int.OrdInt.{OrdInt}
use Rattle.order_ints.specs.OrderLevels.{at_of}
use Rattle.core_forms.specs.declared.equation.Equation.{Equation}
use Rattle.core_forms.specs.declared.equation.Rule.TheVariants.{Form}
use Rattle.rule_base.specs.Pairs.{only_if}
use Rattle.alldiff_rules.specs.Members.{int_at, condition_at}
use Rattle.equation_runs.specs.RunRows.{equation_of}
use Rattle.equation_runs.specs.DifferentRuns.{apart_pair, apart_pairs, member_pairs, members_pairs}

-- pairs as equations of the form
abbrev pub told : List (Atom × Atom) → List Equation
told ps = map (equation_of Form) ps

-- two parts, one after another
pub both-told : (ps qs : List (Atom × Atom)) (old mid new : List Equation) → mid ≡ old ++ told ps → new ≡ mid ++ told qs → new ≡ old ++ told (ps ++ qs)
both-told ps qs old mid new e f =
    f ∙ ap (λ (xs : List Equation). xs ++ told qs) e ∙ append_assoc old (told ps) (told qs) ∙ ap (λ (xs : List Equation). old ++ xs) (sym (map-append (equation_of Form) ps qs))

-- one member more
pub member-told : (held shared : ℤ → Bool) (ints : List OrdInt) (cs : List Atom) (n : ℕ) (old mid new : List Equation) (c : Atom) (a : OrdInt)
    → c ≡ condition_at cs n → a ≡ int_at ints n → mid ≡ old ++ told (members_pairs held shared ints cs n) → new ≡ mid ++ told (member_pairs held shared c a)
    → new ≡ old ++ told (members_pairs held shared ints cs (n + 1))
member-told held shared ints cs n old mid new c a is_c is_a e f =
    both-told (members_pairs held shared ints cs n) (member_pairs held shared (condition_at cs n) (int_at ints n)) old mid new e
    (f ∙ (λ i. mid ++ told (member_pairs held shared (is_c i) (is_a i))))
    ∙ ap (λ (m : ℕ). old ++ told (members_pairs held shared ints cs m)) (sym (add-one n))

-- each level lies within the limits
pub first-near : (walk rest : List (ℤ × Atom)) (level : ℤ × Atom) → walk ≡ level ∷ rest → AllByRecursion (λ (l : ℤ × Atom). unsigned_abs l.0 < 2 ^ 100) walk
    → (unsigned_abs level.0 < 2 ^ 100) × AllByRecursion (λ (l : ℤ × Atom). unsigned_abs l.0 < 2 ^ 100) rest
first-near walk rest level is near = subst (AllByRecursion (λ (l : ℤ × Atom). unsigned_abs l.0 < 2 ^ 100)) is near

-- what is left of the values of an integer: one value less, and none
abbrev pub values_in : List (ℤ × Atom) → List ℤ
values_in levels = map (λ level. level.0) levels

pub value-told : (held : ℤ → Bool) (a : OrdInt) (walk rest : List (ℤ × Atom)) (v : ℤ) (x : Atom) (t : Bool) (old new whole : List Equation)
    → walk ≡ (v, x) ∷ rest → t ≡ held v → new ≡ old ++ told (only_if t (apart_pair a v)) → old ++ told (apart_pairs held a (values_in walk)) ≡ whole
    → new ++ told (apart_pairs held a (values_in rest)) ≡ whole
value-told held a walk rest v x t old new whole is same put e =
    ap (λ (xs : List Equation). xs ++ told (apart_pairs held a (values_in rest))) (put ∙ ap (λ (b : Bool). old ++ told (only_if b (apart_pair a v))) same)
    ∙ append_assoc old (told (only_if (held v) (apart_pair a v))) (told (apart_pairs held a (values_in rest)))
    ∙ ap (λ (xs : List Equation). old ++ xs) (sym (map-append (equation_of Form) (only_if (held v) (apart_pair a v)) (apart_pairs held a (values_in rest))))
    ∙ ap (λ (xs : List (ℤ × Atom)). old ++ told (apart_pairs held a (values_in xs))) (sym is) ∙ e

pub values-told : (held : ℤ → Bool) (a : OrdInt) (walk : List (ℤ × Atom)) (old whole : List Equation) → walk ≡ [] → old ++ told (apart_pairs held a (values_in walk)) ≡ whole → old ≡ whole
values-told held a walk old whole is e = sym (append-nil old) ∙ ap (λ (xs : List (ℤ × Atom)). old ++ told (apart_pairs held a (values_in xs))) (sym is) ∙ e
