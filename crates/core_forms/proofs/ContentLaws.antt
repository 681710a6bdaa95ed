-- The integers of a core: ordered where it is met, and sound where it is well formed. And the two parts of its variables.
use Rattle.std.proofs.Common.{◌↔◌, ℕ, Bool, true, false, ◌&&◌, [], ◌∷◌, ◌⊎◌, inl, inr, Contains, refl, ap, ◌∙◌}
use Rattle.std.specs.Prelude.{IsTrue}
use Rattle.std.proofs.lemmas.List.Elements.{Contains-append_left, Contains-append_right, Contains-append_cases}
use Rattle.order_ints.specs.Truth.{Valuation}
use Rattle.core_forms.specs.declared.form.Core.{Core}
use Rattle.core_forms.specs.declared.form.Core.TheVariants.{Ladder, Clause, Parity, Conj, Comp, LeqR, EqR, Sum3, Count, Sum, Max, AllDiff, Amo, Prod, DivMod, Lex}
use Rattle.core_forms.specs.Contents.{ints_of, atoms_of}
use Rattle.core_forms.specs.Values.{all_ordered}
use Rattle.core_forms.specs.Meaning.{ordered, Meets}
use Rattle.core_forms.specs.WellFormed.{AreSound, IsWellFormed}
use Rattle.core_forms.specs.Variables.{atoms_vars, ints_vars, core_vars}
use Rattle.core_forms.proofs.IntLists.{AreSound-append, all_ordered-append}

one : (b x : Bool) → IsTrue (b && x) → IsTrue (b && true)
one true x h = refl
one false x h = h

two : (b c x : Bool) → IsTrue ((b && c) && x) → IsTrue (b && (c && true))
two true c x h = one c x h
two false c x h = h

three : (b c d x : Bool) → IsTrue ((b && (c && d)) && x) → IsTrue (b && (c && (d && true)))
three true c d x h = two c d x h
three false c d x h = h

four : (b c d e x : Bool) → IsTrue ((b && (c && (d && e))) && x) → IsTrue (b && (c && (d && (e && true))))
four true c d e x h = three c d e x h
four false c d e x h = h

first : (b x : Bool) → IsTrue (b && x) → IsTrue b
first true x h = refl
first false x h = h

-- a core that is met has all of its integers ordered
pub ordered-met : (σ : Valuation) (core : Core) → Meets σ core → IsTrue (all_ordered σ (ints_of core))
ordered-met σ (Ladder a) h = ap (λ b. b && true) h
ordered-met σ (Clause ls) h = refl
ordered-met σ (Parity ls odd) h = refl
ordered-met σ (Conj r ls) h = refl
ordered-met σ (Comp a b hi lo) h = refl
ordered-met σ (LeqR r a b) h = two (ordered σ a) (ordered σ b) _ h
ordered-met σ (EqR r a b) h = two (ordered σ a) (ordered σ b) _ h
ordered-met σ (Sum3 a b c) h = three (ordered σ a) (ordered σ b) (ordered σ c) _ h
ordered-met σ (Count ls c) h = one (ordered σ c) _ h
ordered-met σ (Sum xs k) h = first (all_ordered σ xs) _ h
ordered-met σ (Max xs c) h = all_ordered-append σ xs (c ∷ []) ∙ two (all_ordered σ xs) (ordered σ c) _ h
ordered-met σ (AllDiff xs cs) h = first (all_ordered σ xs) _ h
ordered-met σ (Amo ls) h = refl
ordered-met σ (Prod a b c) h = three (ordered σ a) (ordered σ b) (ordered σ c) _ h
ordered-met σ (DivMod a b q r) h = four (ordered σ a) (ordered σ b) (ordered σ q) (ordered σ r) _ h
ordered-met σ (Lex r strict front back) h = all_ordered-append σ front back ∙ first (all_ordered σ front && all_ordered σ back) _ h

-- a well formed core's integers are sound
pub sound-well_formed : (core : Core) → IsWellFormed core → AreSound (ints_of core)
sound-well_formed (Ladder a) h = (h, tt)
sound-well_formed (Clause ls) h = tt
sound-well_formed (Parity ls odd) h = tt
sound-well_formed (Conj r ls) h = tt
sound-well_formed (Comp a b hi lo) h = tt
sound-well_formed (LeqR r a b) h = (h.0, (h.1, tt))
sound-well_formed (EqR r a b) h = (h.0, (h.1, tt))
sound-well_formed (Sum3 a b c) h = (h.0, (h.1, (h.2, tt)))
sound-well_formed (Count ls c) h = (h.0, tt)
sound-well_formed (Sum xs k) h = h.0
sound-well_formed (Max xs c) h = AreSound-append xs (c ∷ []) h.0 (h.1, tt)
sound-well_formed (AllDiff xs cs) h = h.0
sound-well_formed (Amo ls) h = tt
sound-well_formed (Prod a b c) h = (h.0, (h.1, (h.2, tt)))
sound-well_formed (DivMod a b q r) h = (h.0, (h.1, (h.2, (h.3, tt))))
sound-well_formed (Lex r strict front back) h = AreSound-append front back h.0 h.1

-- a variable of a core is one of its atoms or one of its integers
pub core_vars-parts : (core : Core) (v : ℕ) → Contains (core_vars core) v ↔ (Contains (atoms_vars (atoms_of core)) v ⊎ Contains (ints_vars (ints_of core)) v)
core_vars-parts core v = (Contains-append_cases (atoms_vars (atoms_of core)) (ints_vars (ints_of core)) v, λ c. by c)
  where
    by : Contains (atoms_vars (atoms_of core)) v ⊎ Contains (ints_vars (ints_of core)) v → Contains (core_vars core) v
    by (inl d) = Contains-append_left (atoms_vars (atoms_of core)) (ints_vars (ints_of core)) v d
    by (inr d) = Contains-append_right (atoms_vars (atoms_of core)) (ints_vars (ints_of core)) v d
