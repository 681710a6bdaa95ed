-- The members of an all-different constraint as a view has them.
use Rattle.std.proofs.Common.{◌≡◌, ℕ, zero, suc, List, [], ◌∷◌, length, map, ℤ, refl, ap, ◌∙◌}
use Rattle.order_ints.specs.declared.atom.Atom.{Atom}
use Rattle.order_ints.specs.declared.atom.Atom.TheVariants.{True}
use Rattle.order_ints.specs.declared.order_int.OrdInt.{OrdInt}
use Rattle.order_ints.specs.OrderMade.{constant_of}
use Rattle.order_ints.specs.View.{resolve}
use Rattle.core_forms.specs.Resolved.{map_ints}
use Rattle.core_forms.specs.Trimmed.{tidied_ints, trimmed_int}
use Rattle.alldiff_rules.specs.Members.{int_at, condition_at, IsSure}

-- integers trimmed, one by one
abbrev pub trimmed_members : List Atom → List OrdInt → List OrdInt
trimmed_members view ints = tidied_ints (map_ints (resolve view) ints)

module _ (view : List Atom) where
  pub int-trimmed : (ints : List OrdInt) (i : ℕ) → int_at (trimmed_members view ints) i ≡ trimmed_int view (int_at ints i)
  int-trimmed [] i = refl
  int-trimmed (a ∷ ints) zero = refl
  int-trimmed (a ∷ ints) (suc i) = int-trimmed ints i

  pub length-trimmed : (ints : List OrdInt) → length (trimmed_members view ints) ≡ length ints
  length-trimmed [] = refl
  length-trimmed (a ∷ ints) = ap suc (length-trimmed ints)

  pub condition-resolved : (cs : List Atom) (i : ℕ) → condition_at (map (resolve view) cs) i ≡ resolve view (condition_at cs i)
  condition-resolved [] i = refl
  condition-resolved (c ∷ cs) zero = refl
  condition-resolved (c ∷ cs) (suc i) = condition-resolved cs i

  -- a sure member stays sure, and a constant stays the same constant
  pub sure-stays : (cs : List Atom) (i : ℕ) → IsSure cs i → IsSure (map (resolve view) cs) i
  sure-stays cs i sure = condition-resolved cs i ∙ ap (resolve view) sure

  pub constant-at-stays : (ints : List OrdInt) (i : ℕ) (v : ℤ) → int_at ints i ≡ constant_of v → int_at (trimmed_members view ints) i ≡ constant_of v
  constant-at-stays ints i v is = int-trimmed ints i ∙ ap (trimmed_int view) is
