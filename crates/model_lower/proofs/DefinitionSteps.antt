-- A `bool2int` that declares its integer.
use Rattle.std.proofs.Common.{◌≡◌, ℕ, zero, suc, ◌+◌, ◌<◌, ℤ, pos, Bool, true, false, List, [], ◌∷◌, ◌++◌, length, IsTrue, refl, sym, ap, subst, ◌∙◌, arith}
use Rattle.std.specs.Prelude.{◌↔◌, slice_get, IsSomeAnd}
use Rattle.std.proofs.lemmas.Int.{ints}
use Rattle.order_ints.specs.declared.atom.Atom.{Atom}
use Rattle.order_ints.specs.declared.order_int.MapValue.{MapValue}
use Rattle.order_ints.specs.Truth.{Valuation, atom_truth}
use Rattle.order_ints.specs.Numbers.{numbers_of}
use Rattle.model_meaning.specs.declared.model.Kind.{Kind}
use Rattle.model_meaning.specs.declared.model.Kind.TheVariants as kind
use Rattle.model_meaning.specs.declared.model.Decl.{Decl}
use Rattle.model_meaning.specs.declared.what.BoolTerm.{BoolTerm}
use Rattle.model_meaning.specs.declared.what.BoolTerm.TheVariants as bool_term
use Rattle.model_meaning.specs.declared.what.IntTerm.TheVariants as int_term
use Rattle.model_meaning.specs.declared.what.What.{What}
use Rattle.model_meaning.specs.declared.what.What.TheVariants.{BoolToInt}
use Rattle.model_meaning.specs.Terms.{value_at, truth_of, as_number}
use Rattle.model_meaning.specs.Integers.{is_member}
use Rattle.model_meaning.specs.Domains.{domain}
use Rattle.model_meaning.specs.Holds.{Holds}
use Rattle.model_meaning.specs.WellTyped.{TruthFits}
use Rattle.model_meaning.proofs.DomainLaws.{Decides-domain}
use Rattle.statement_lower.specs.Terms.{atom_of}
use Rattle.name_map.specs.Fits.{EntryFits}
use Rattle.statement_lower.proofs.EntryLaws.{EntriesFit-append, AreOrdered-append, numbers_of-append, length-numbers_of, atom_of-laws}
use Rattle.statement_lower.proofs.WordLines.{bit-value, bit-ordered, small-bit}
use Rattle.model_lower.specs.declared.state.Lowered.{Lowered}
use Rattle.weight_laws.proofs.ExactShapes.{shape-bit}
use Rattle.model_lower.specs.Lowering.{defined_entry, with_definition}
use Rattle.model_lower.specs.ItemLaws.{Encodes, TakesItsValue, DefinitionLaw}

-- Values behind those of earlier declarations.

at-end : (a : List ℤ) (v : ℤ) (n : ℕ) → length a ≡ n → value_at (a ++ v ∷ []) n ≡ v
at-end [] v zero e = refl
at-end [] v (suc n) e = absurd (omega (arith, e))
at-end (x ∷ a) v zero e = absurd (omega (arith, e))
at-end (x ∷ a) v (suc n) e = at-end a v n (omega (arith, e))

value-front : (a : List ℤ) (v : ℤ) (p : ℕ) → p < length a → value_at (a ++ v ∷ []) p ≡ value_at a p
value-front [] v p h = absurd (omega (arith, h))
value-front (x ∷ a) v zero h = refl
value-front (x ∷ a) v (suc p) h = value-front a v p (omega (arith, h))

within : (ds : List Decl) (p : ℕ) (P : Decl → Type 0) → IsSomeAnd (slice_get ds p) P → p < length ds
within [] p P h = absurd h
within (d ∷ ds) zero P h = omega arith
within (d ∷ ds) (suc p) P h = omega (arith, within ds p P h)

truth-front : (ds : List Decl) (n : ℕ) (a : List ℤ) (v : ℤ) (x : BoolTerm) → length a ≡ length ds → TruthFits ds n x → truth_of (a ++ v ∷ []) x ≡ truth_of a x
truth-front ds n a v (bool_term.Const t) long f = refl
truth-front ds n a v (bool_term.Of p s) long f = rw (value-front a v p (omega (arith, within ds p _ f, long))) refl

bit-in_domain : (t : Bool) → IsTrue (is_member (as_number t) (domain (kind.Range (pos 0) (pos 1))))
bit-in_domain true = (Decides-domain (pos 0) (pos 1) (pos 1)).1 (omega (arith, ints), omega (arith, ints))
bit-in_domain false = (Decides-domain (pos 0) (pos 1) (pos 0)).1 (omega (arith, ints), omega (arith, ints))

module _ (l : Lowered) (ds : List Decl) (enc : Encodes l ds) (d : Decl) (x : BoolTerm) (f : TruthFits ds d.number x) (is : d.kind ≡ kind.Range (pos 0) (pos 1)) where
  abbrev w : What
  w = BoolToInt x (int_term.Of (length ds))

  abbrev entries : List MapValue
  entries = l.map.entries

  abbrev a : Atom
  a = atom_of entries x

  abbrev value : Valuation → ℤ
  value σ = as_number (truth_of (numbers_of σ entries) x)

  truth : (σ : Valuation) → atom_truth σ a ≡ truth_of (numbers_of σ entries) x
  truth σ = (atom_of-laws σ (l.vars + 1) d.number ds entries x enc.entries f).0

  entry-fits : EntryFits (l.vars + 1) d.kind (defined_entry entries w)
  entry-fits =
      let small = small-bit (l.vars + 1) a (atom_of-laws (λ _. false) (l.vars + 1) d.number ds entries x enc.entries f).1 in
      subst (λ (k : Kind). EntryFits (l.vars + 1) k (defined_entry entries w)) (sym is) (record {
        below = small.below;
        sound = small.sound;
        least = refl;
        greatest = refl;
        shape = shape-bit a;
        low_in_limit = omega arith;
        high_in_limit = omega arith;
      })

  values : (σ : Valuation) → numbers_of σ (with_definition l w).map.entries ≡ numbers_of σ entries ++ value σ ∷ []
  values σ =
      numbers_of-append σ entries (defined_entry entries w)
      ∙ ap (λ (v : ℤ). numbers_of σ entries ++ v ∷ []) (bit-value (atom_truth σ a) ∙ ap as_number (truth σ))

  holds-for : (σ : Valuation) (z : ℤ) → Holds (numbers_of σ entries ++ z ∷ []) w ↔ (z ≡ value σ)
  unfolding Holds
  holds-for σ z =
      let long = length-numbers_of σ (l.vars + 1) ds entries enc.entries in
      let e : value_at (numbers_of σ entries ++ z ∷ []) (length ds) ≡ z = at-end (numbers_of σ entries) z (length ds) long in
      let g : as_number (truth_of (numbers_of σ entries ++ z ∷ []) x) ≡ value σ = ap as_number (truth-front ds d.number (numbers_of σ entries) z x long f) in
      (λ h. sym e ∙ (h ∙ g), λ h. e ∙ (h ∙ sym g))

  defined : Encodes (with_definition l w) (ds ++ d ∷ []) × TakesItsValue l (with_definition l w) d.kind w
  defined = (
    record {
      entries = EntriesFit-append (l.vars + 1) ds entries d (defined_entry entries w) enc.entries entry-fits;
      below = enc.below;
      well_formed = enc.well_formed;
      ordered = λ σ h. AreOrdered-append σ entries (defined_entry entries w ∷ []) (enc.ordered σ h) (bit-ordered (atom_truth σ a), tt);
    },
    record {
      cores = refl;
      value = λ σ. (
        value σ,
        subst (λ (k : Kind). IsTrue (is_member (value σ) (domain k))) (sym is) (bit-in_domain (truth_of (numbers_of σ entries) x)),
        values σ,
        holds-for σ,
      );
    },
  )

pub definition_law : DefinitionLaw
definition_law l ds d s enc def =
    subst (λ (w : What). Encodes (with_definition l w) (ds ++ d ∷ []) × TakesItsValue l (with_definition l w) d.kind w) (sym def.what)
    (defined l ds enc d def.truth def.truth_fits def.kind)
