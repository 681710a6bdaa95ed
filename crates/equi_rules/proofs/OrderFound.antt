-- What loops along steps and along integers find by the rule Order.
use Rattle.std.proofs.Common.{◌≡◌, ℕ, ◌+◌, ◌<◌, true, false, List, ◌∷◌, ◌++◌, length, get_or, drop, refl, sym, ap, ◌∙◌}
use Rattle.std.specs.Prelude.{Option}
use Rattle.std.specs.Option.{is_some}
use Rattle.std.proofs.lemmas.List.{at_drop_more}
use Rattle.order_ints.specs.declared.atom.Atom.{Atom}
use Rattle.order_ints.specs.declared.order_int.OrdInt.{OrdInt}
use Rattle.rule_base.specs.declared.sought.SoughtEquation.{SoughtEquation}
use Rattle.rule_base.specs.Pairs.{first_sought}
use Rattle.rule_base.proofs.PairLaws.{front-found, back-found}
use Rattle.equi_rules.specs.OrderRows.{neighbour_equations, equations_above, step_equations, int_equations}

-- the equations from a step on are those with the next one, and those from there on
above-from : (sought : SoughtEquation) (lower : Atom) (steps : List (Atom × ℕ)) (i : ℕ) (d : Atom × ℕ) → i < length steps → first_sought sought (equations_above lower (drop i steps)) ≡ first_sought sought (neighbour_equations lower (get_or steps i d).0 ++ equations_above (get_or steps i d).0 (drop (i + 1) steps))
above-from sought lower steps i d lt = at_drop_more (λ (xs : List (Atom × ℕ)). first_sought sought (equations_above lower xs)) steps i d lt

pub above-stop : (sought : SoughtEquation) (lower : Atom) (steps : List (Atom × ℕ)) (i : ℕ) (d : Atom × ℕ) (o : Option (Atom × Atom)) → i < length steps → o ≡ first_sought sought (neighbour_equations lower (get_or steps i d).0) → is_some o ≡ true → o ≡ first_sought sought (equations_above lower (drop i steps))
above-stop sought lower steps i d o lt found some =
    front-found sought (neighbour_equations lower (get_or steps i d).0) (equations_above (get_or steps i d).0 (drop (i + 1) steps)) o found some
    ∙ sym (above-from sought lower steps i d lt)

pub above-next : (sought : SoughtEquation) (lower : Atom) (steps : List (Atom × ℕ)) (i : ℕ) (d : Atom × ℕ) (o : Option (Atom × Atom)) → i < length steps → o ≡ first_sought sought (neighbour_equations lower (get_or steps i d).0) → is_some o ≡ false → first_sought sought (equations_above (get_or steps i d).0 (drop (i + 1) steps)) ≡ first_sought sought (equations_above lower (drop i steps))
above-next sought lower steps i d o lt found none =
    back-found sought (neighbour_equations lower (get_or steps i d).0) (equations_above (get_or steps i d).0 (drop (i + 1) steps)) o (first_sought sought (equations_above (get_or steps i d).0 (drop (i + 1) steps))) found none refl
    ∙ sym (above-from sought lower steps i d lt)

pub ints-stop : (sought : SoughtEquation) (all rest : List OrdInt) (a : OrdInt) (o : Option (Atom × Atom)) → all ≡ a ∷ rest → o ≡ first_sought sought (step_equations a.steps) → is_some o ≡ true → o ≡ first_sought sought (int_equations all)
ints-stop sought all rest a o is found some =
    front-found sought (step_equations a.steps) (int_equations rest) o found some ∙ ap (λ (xs : List OrdInt). first_sought sought (int_equations xs)) (sym is)

pub ints-next : (sought : SoughtEquation) (all rest : List OrdInt) (a : OrdInt) (o : Option (Atom × Atom)) → all ≡ a ∷ rest → o ≡ first_sought sought (step_equations a.steps) → is_some o ≡ false → first_sought sought (int_equations rest) ≡ first_sought sought (int_equations all)
ints-next sought all rest a o is found none =
    back-found sought (step_equations a.steps) (int_equations rest) o (first_sought sought (int_equations rest)) found none refl ∙ ap (λ (xs : List OrdInt). first_sought sought (int_equations xs)) (sym is)
