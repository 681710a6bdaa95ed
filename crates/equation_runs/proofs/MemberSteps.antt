-- What the loops along members have still to add.
use Rattle.std.proofs.Common.{◌≡◌, Bool, true, false, List, [], ◌∷◌, refl, sym}
use Rattle.std.specs.Prelude.{if◌then◌else◌}
use Rattle.std.proofs.lemmas.Bool.{false≢true}
use Rattle.order_ints.specs.declared.atom.Atom.{Atom}
use Rattle.order_ints.specs.Same.{is_true}
use Rattle.core_forms.specs.Trimmed.{has_true}
use Rattle.core_forms.proofs.Tidied.{by_test}
use Rattle.equi_rules.specs.AtomRows.{beside_true}

-- where the first True member was met all that are left are beside it
abbrev pub left_beside : Bool → List Atom → List Atom
left_beside met ls = if met then ls else beside_true ls

-- where no member is True none is beside it
pub none-beside : (ls : List Atom) → has_true ls ≡ false → beside_true ls ≡ []
none-beside [] none = refl
none-beside (l ∷ ls) none =
    by_test (is_true l) true (has_true ls) (λ t. t ≡ false → (if is_true l then ls else (if has_true ls then l ∷ beside_true ls else [])) ≡ [])
    (λ is e. absurd (false≢true (sym e)))
    (λ isnt e. λ i. if isnt i then ls else (if e i then l ∷ beside_true ls else [])) none
