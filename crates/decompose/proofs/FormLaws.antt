-- The parts of each form stand for its core.
use Rattle.std.proofs.Common.{ℕ, ◌+◌, ◌≤◌, ◌≡◌, List, [], length, refl, sym, ap, subst, arith}
use Rattle.std.specs.Prelude.{IfOk}
use Rattle.std.specs.declared.result.Result.{Result}
use Rattle.std.proofs.lemmas.Result.{IfOk-weaker}
use Rattle.order_ints.specs.declared.atom.Atom.{Atom}
use Rattle.order_ints.specs.declared.order_int.OrdInt.{OrdInt}
use Rattle.core_forms.specs.declared.form.Core.{Core}
use Rattle.core_forms.specs.declared.form.Core.TheVariants.{Sum, AllDiff, Lex}
use Rattle.core_forms.specs.declared.taken.Taken.{Taken}
use Rattle.core_forms.specs.declared.taken.Taken.TheVariants.{Differing}
use Rattle.core_forms.specs.Taken.{taken_apart}
use Rattle.core_forms.specs.Cost.{cost_of}
use Rattle.core_forms.specs.Place.{CoreBelow}
use Rattle.core_forms.specs.WellFormed.{IsWellFormed}
use Rattle.part_base.specs.declared.parts.Parts.{Parts}
use Rattle.part_base.specs.PartsFor.{ArePartsFor}
use Rattle.decompose.specs.DifferingParts.{all_values}
use Rattle.decompose.specs.PartsOf.{HasParts, parts_of}
use Rattle.decompose.proofs.LexLaws.{lex-parts}
use Rattle.decompose.proofs.SumLaws.{sum-parts}
use Rattle.decompose.proofs.DifferingLaws.{differing-parts, differing_costs}

pub form-parts : (core : Core) (next : ℕ) → HasParts core → 1 ≤ next → IsWellFormed core → CoreBelow next core → ArePartsFor core next (parts_of core next)
form-parts (Sum ints k) next has some well below = sum-parts next ints k some well below
form-parts (AllDiff ints cs) next has some well below = differing-parts next ints cs some well below
form-parts (Lex r strict front back) next has some well below = lex-parts next r strict front back some well below
form-parts core next has some well below = absurd has

pub parts_ok : {E : Type 0} (r : Result Parts E) (core : Core) (next : ℕ) → HasParts core → 1 ≤ next → IsWellFormed core → CoreBelow next core
    → IfOk r (λ parts. parts ≡ parts_of core next) → IfOk r (λ parts. ArePartsFor core next parts)
parts_ok r core next has some well below h =
    IfOk-weaker r (λ parts. parts ≡ parts_of core next) (λ parts. ArePartsFor core next parts)
    (λ parts e. subst (λ (p : Parts). ArePartsFor core next p) (sym e) (form-parts core next has some well below)) h

-- there is room for the fresh variables of different members where there is room for their cost
pub kept-room : (core : Core) (ints : List OrdInt) (cs : List Atom) (next limit : ℕ) → core ≡ AllDiff ints cs → next + cost_of core ≤ limit
    → next + length (all_values ints) ≤ limit
kept-room core ints cs next limit e room = omega (arith, room, differing_costs next ints cs, ap cost_of e)

-- the same of a core that is taken apart
pub differing-room : (core : Core) (ints : List OrdInt) (cs : List Atom) (next limit : ℕ) → HasParts core → Differing ints cs ≡ taken_apart core
    → next + cost_of core ≤ limit → next + length (all_values ints) ≤ limit
differing-room (Sum xs k) ints cs next limit has e room = absurd (cc)
differing-room (AllDiff xs ds) ints cs next limit has e room =
    let same : ints ≡ xs = ap members e in
    omega (arith, kept-room (AllDiff xs ds) xs ds next limit refl room, ap (λ ys. length (all_values ys)) same)
  where
    members : Taken → List OrdInt
    members (Differing ys es) = ys
    members other = []
differing-room (Lex r strict front back) ints cs next limit has e room = absurd (cc)
differing-room core ints cs next limit has e room = absurd has
