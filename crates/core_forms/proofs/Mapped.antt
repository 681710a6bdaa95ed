-- A core with other atoms in place of its own means the same where the atoms are as true.
use Rattle.std.proofs.Common.{◌≡◌, ℕ, List, [], ◌∷◌, map, pos, ◌+ℤ◌, refl, sym, ap, ◌∙◌}
use Rattle.order_ints.specs.declared.atom.Atom.{Atom}
use Rattle.order_ints.specs.declared.order_int.OrdInt.{OrdInt}
use Rattle.order_ints.specs.Truth.{Valuation, Agree, atom_truth}
use Rattle.order_ints.specs.View.{MeetsView, resolve}
use Rattle.order_ints.specs.AtomClauses.{atom_clause_truth}
use Rattle.order_ints.specs.OrderValue.{gains, value_of, none_true, in_order}
use Rattle.order_ints.proofs.TruthLaws.{atom_truth-resolve, atom_agrees}
use Rattle.core_forms.specs.declared.form.Core.{Core}
use Rattle.core_forms.specs.declared.form.Core.TheVariants.{Ladder, Clause, Parity, Conj, Comp, LeqR, EqR, Sum3, Count, Sum, Max, AllDiff, Amo, Prod, DivMod, Lex}
use Rattle.core_forms.specs.Truths.{all_true, true_count, truths}
use Rattle.core_forms.specs.Values.{all_ordered, values}
use Rattle.core_forms.specs.Meaning.{core_truth}
use Rattle.core_forms.specs.Place.{CoreBelow}
use Rattle.core_forms.proofs.EachLaws.{EachInt-left, EachInt-right, each_below, each_every}
use Rattle.core_forms.specs.Each.{EachOf, EachStep, EachInt, EachAtom}
use Rattle.core_forms.specs.Resolved.{map_steps, map_int, map_ints, map_core, resolved_core}

-- an atom is as true under one valuation as another is under another
abbrev pub AsTrue : Valuation → Valuation → (Atom → Atom) → Atom → Type 0
AsTrue σ τ f a = atom_truth σ (f a) ≡ atom_truth τ a

module _ (σ τ : Valuation) (f : Atom → Atom) where
  clause-map : (ls : List Atom) → EachOf (AsTrue σ τ f) ls → atom_clause_truth σ (map f ls) ≡ atom_clause_truth τ ls
  clause-map [] h = refl
  clause-map (a ∷ ls) h = let e = h.0 in let r = clause-map ls h.1 in cc

  all_true-map : (ls : List Atom) → EachOf (AsTrue σ τ f) ls → all_true σ (map f ls) ≡ all_true τ ls
  all_true-map [] h = refl
  all_true-map (a ∷ ls) h = let e = h.0 in let r = all_true-map ls h.1 in cc

  true_count-map : (ls : List Atom) → EachOf (AsTrue σ τ f) ls → true_count σ (map f ls) ≡ true_count τ ls
  true_count-map [] h = refl
  true_count-map (a ∷ ls) h = let e = h.0 in let r = true_count-map ls h.1 in cc

  truths-map : (ls : List Atom) → EachOf (AsTrue σ τ f) ls → truths σ (map f ls) ≡ truths τ ls
  truths-map [] h = refl
  truths-map (a ∷ ls) h = let e = h.0 in let r = truths-map ls h.1 in cc

  gains-map : (steps : List (Atom × ℕ)) → EachStep (AsTrue σ τ f) steps → gains σ (map_steps f steps) ≡ gains τ steps
  gains-map [] h = refl
  gains-map (s ∷ steps) h = let e = h.0 in let r = gains-map steps h.1 in cc

  none_true-map : (steps : List (Atom × ℕ)) → EachStep (AsTrue σ τ f) steps → none_true σ (map_steps f steps) ≡ none_true τ steps
  none_true-map [] h = refl
  none_true-map (s ∷ steps) h = let e = h.0 in let r = none_true-map steps h.1 in cc

  in_order-map : (steps : List (Atom × ℕ)) → EachStep (AsTrue σ τ f) steps → in_order σ (map_steps f steps) ≡ in_order τ steps
  in_order-map [] h = refl
  in_order-map (s ∷ steps) h = let e = h.0 in let r = in_order-map steps h.1 in let q = none_true-map steps h.1 in cc

  value-map : (a : OrdInt) → EachStep (AsTrue σ τ f) a.steps → value_of σ (map_int f a) ≡ value_of τ a
  value-map a h = ap (λ g. a.base +ℤ pos g) (gains-map a.steps h)

  all_ordered-map : (ints : List OrdInt) → EachInt (AsTrue σ τ f) ints → all_ordered σ (map_ints f ints) ≡ all_ordered τ ints
  all_ordered-map [] h = refl
  all_ordered-map (a ∷ ints) h = let e = in_order-map a.steps h.0 in let r = all_ordered-map ints h.1 in cc

  values-map : (ints : List OrdInt) → EachInt (AsTrue σ τ f) ints → values σ (map_ints f ints) ≡ values τ ints
  values-map [] h = refl
  values-map (a ∷ ints) h = let e = value-map a h.0 in let r = values-map ints h.1 in cc

  -- a core with atoms that are as true as its own means the same
  pub core_truth-map : (core : Core) → EachAtom (AsTrue σ τ f) core → core_truth σ (map_core f core) ≡ core_truth τ core
  core_truth-map (Ladder a) h = in_order-map a.steps h.1.0
  core_truth-map (Clause ls) h = clause-map ls h.0
  core_truth-map (Parity ls odd) h = let e = true_count-map ls h.0 in cc
  core_truth-map (Conj r ls) h = let e = h.0.0 in let q = all_true-map ls h.0.1 in cc
  core_truth-map (Comp a b hi lo) h = let ea = h.0.0 in let eb = h.0.1.0 in let eh = h.0.1.1.0 in let el = h.0.1.1.1.0 in cc
  core_truth-map (LeqR r a b) h =
      let e = h.0.0 in let oa = in_order-map a.steps h.1.0 in let ob = in_order-map b.steps h.1.1.0 in let va = value-map a h.1.0 in let vb = value-map b h.1.1.0 in cc
  core_truth-map (EqR r a b) h =
      let e = h.0.0 in let oa = in_order-map a.steps h.1.0 in let ob = in_order-map b.steps h.1.1.0 in let va = value-map a h.1.0 in let vb = value-map b h.1.1.0 in cc
  core_truth-map (Sum3 a b c) h =
      let oa = in_order-map a.steps h.1.0 in let ob = in_order-map b.steps h.1.1.0 in let oc = in_order-map c.steps h.1.1.1.0 in
      let va = value-map a h.1.0 in let vb = value-map b h.1.1.0 in let vc = value-map c h.1.1.1.0 in cc
  core_truth-map (Count ls c) h = let e = true_count-map ls h.0 in let o = in_order-map c.steps h.1.0 in let v = value-map c h.1.0 in cc
  core_truth-map (Sum ints k) h = let o = all_ordered-map ints h.1 in let v = values-map ints h.1 in cc
  core_truth-map (Max ints c) h =
      let hs = EachInt-left (AsTrue σ τ f) ints (c ∷ []) h.1 in let hc = EachInt-right (AsTrue σ τ f) ints (c ∷ []) h.1 in
      let o = all_ordered-map ints hs in let v = values-map ints hs in let oc = in_order-map c.steps hc.0 in let vc = value-map c hc.0 in cc
  core_truth-map (AllDiff ints cs) h = let o = all_ordered-map ints h.1 in let v = values-map ints h.1 in let t = truths-map cs h.0 in cc
  core_truth-map (Amo ls) h = let e = true_count-map ls h.0 in cc
  core_truth-map (Prod a b c) h =
      let oa = in_order-map a.steps h.1.0 in let ob = in_order-map b.steps h.1.1.0 in let oc = in_order-map c.steps h.1.1.1.0 in
      let va = value-map a h.1.0 in let vb = value-map b h.1.1.0 in let vc = value-map c h.1.1.1.0 in cc
  core_truth-map (DivMod a b q r) h =
      let oa = in_order-map a.steps h.1.0 in let ob = in_order-map b.steps h.1.1.0 in let oq = in_order-map q.steps h.1.1.1.0 in let or = in_order-map r.steps h.1.1.1.1.0 in
      let va = value-map a h.1.0 in let vb = value-map b h.1.1.0 in let vq = value-map q h.1.1.1.0 in let vr = value-map r h.1.1.1.1.0 in cc
  core_truth-map (Lex r strict front back) h =
      let hf = EachInt-left (AsTrue σ τ f) front back h.1 in let hb = EachInt-right (AsTrue σ τ f) front back h.1 in
      let e = h.0.0 in let of = all_ordered-map front hf in let ob = all_ordered-map back hb in let vf = values-map front hf in let vb = values-map back hb in cc

-- where a valuation meets a view, it meets a core as the view has it exactly where it meets the core
pub core_truth-resolved : (σ : Valuation) (view : List Atom) (n : ℕ) (core : Core) → CoreBelow n core → MeetsView σ view → core_truth σ (resolved_core view core) ≡ core_truth σ core
core_truth-resolved σ view n core below meets =
    core_truth-map σ σ (resolve view) core (each_below n (AsTrue σ σ (resolve view)) (λ a h. atom_truth-resolve σ view n meets a h) core below)

-- a core whose atoms are as true under two valuations means the same under both
pub core_truth-same : (σ τ : Valuation) (core : Core) → EachAtom (λ a. atom_truth σ a ≡ atom_truth τ a) core → core_truth σ core ≡ core_truth τ core
core_truth-same σ τ core same =
    sym (core_truth-map σ σ (λ a. a) core (each_every (AsTrue σ σ (λ a. a)) (λ a. refl) core)) ∙ core_truth-map σ τ (λ a. a) core same

-- the meaning depends on the variables below n alone, where the core's are below n
pub core_truth-agree : (n : ℕ) (σ τ : Valuation) (core : Core) → CoreBelow n core → Agree n σ τ → core_truth σ core ≡ core_truth τ core
core_truth-agree n σ τ core below agree =
    core_truth-same σ τ core (each_below n (λ a. atom_truth σ a ≡ atom_truth τ a) (λ a h. atom_agrees n σ τ agree a h) core below)
