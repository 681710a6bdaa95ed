-- A parity and at-most-one that are split at their front: what leaves and what stays are the parts.
use Rattle.std.proofs.Common.{◌≡◌, ℕ, ◌+◌, ◌<◌, ◌≤◌, Bool, List, [], ◌∷◌, ◌++◌, ◌⊎◌, inl, inr, zero, suc, length, get_or, Contains, refl, sym, ap, ◌∙◌, subst, arith, ⊎_elim}
use Rattle.std.proofs.lemmas.List.Elements.{Contains-append_left, Contains-append_right, Contains-append_cases}
use Rattle.order_ints.specs.declared.atom.Atom.{Atom}
use Rattle.order_ints.specs.View.{resolve}
use Rattle.order_ints.specs.Label.{variable}
use Rattle.order_ints.proofs.Labels.{label_of-past}
use Rattle.core_forms.specs.declared.form.Core.{Core}
use Rattle.core_forms.specs.declared.form.Core.TheVariants.{Parity, Amo}
use Rattle.core_forms.specs.Each.{EachOf}
use Rattle.core_forms.specs.Plain.{AreLiterals}
use Rattle.core_forms.specs.Stable.{IsStableCore}
use Rattle.core_forms.specs.Variables.{atom_vars, atoms_vars}
use Rattle.part_base.specs.declared.cut.Cut.{Cut}
use Rattle.part_base.specs.Cuts.{IsCut, by_parity, by_amo}
use Rattle.network_encode.specs.AtomParts.{parity_parts, amo_parts}
use Rattle.network_encode.specs.NetworkParts.{parts_of, IsSplit}
use Rattle.network_encode.specs.AtomCuts.{parity_cut, amo_cut}

-- ---- a list with a fresh variable behind it

none-in : (v : ℕ) → Contains {X = ℕ} [] v → ⊥
none-in v c = absurd (omega (arith, c.1))

only-in : (x v : ℕ) → Contains (x ∷ []) v → (x ≤ v) × (v < x + 1)
only-in x v c = at c.0 c.1 c.2
  where
    at : (k : ℕ) → k < length (x ∷ []) → get_or (x ∷ []) k v ≡ v → (x ≤ v) × (v < x + 1)
    at zero less is = (omega (arith, is), omega (arith, is))
    at (suc k) less is = absurd (omega (arith, less))

-- its variables are those of the list, and the fresh one
vars-behind : (next : ℕ) (ls : List Atom) (v : ℕ) → Contains (atoms_vars (ls ++ variable next ∷ [])) v → Contains (atoms_vars ls) v ⊎ ((next ≤ v) × (v < next + 1))
vars-behind next [] v c = inr (only-in next v c)
vars-behind next (a ∷ ls) v c =
    ⊎_elim (λ first. inl (Contains-append_left (atom_vars a) (atoms_vars ls) v first))
    (λ rest. ⊎_elim (λ old. inl (Contains-append_right (atom_vars a) (atoms_vars ls) v old)) (λ fresh. inr fresh) (vars-behind next ls v rest))
    (Contains-append_cases (atom_vars a) (atoms_vars (ls ++ variable next ∷ [])) v c)

-- it has no constant, where the list has none
literals-behind : (next : ℕ) (ls : List Atom) → AreLiterals ls → AreLiterals (ls ++ variable next ∷ [])
literals-behind next [] h = (tt, tt)
literals-behind next (a ∷ ls) h = (h.0, literals-behind next ls h.1)

-- what holds of each member and of the fresh variable holds of each
each-behind : (P : Atom → Type 0) (next : ℕ) (ls : List Atom) → P (variable next) → EachOf P ls → EachOf P (ls ++ variable next ∷ [])
each-behind P next [] fresh h = (fresh, tt)
each-behind P next (a ∷ ls) fresh h = (h.0, each-behind P next ls fresh h.1)

-- a variable past the end of a view is its own
own-past : (view : List Atom) (next : ℕ) → next ≡ length view + 1 → resolve view (variable next) ≡ variable next
own-past view next past = label_of-past view next (omega (arith, past))

-- ---- a parity

module _ (next : ℕ) (l m : Atom) (rest : List Atom) (odd : Bool) where
  parity-vars : (v : ℕ) → Contains (atoms_vars (rest ++ variable next ∷ []) ++ []) v → Contains (atoms_vars (l ∷ m ∷ rest) ++ []) v ⊎ ((next ≤ v) × (v < next + 1))
  parity-vars v c =
      ⊎_elim (λ one. ⊎_elim (λ old. inl (Contains-append_left (atoms_vars (l ∷ m ∷ rest)) [] v (among old))) (λ fresh. inr fresh) (vars-behind next rest v one))
      (λ none. absurd (none-in v none))
      (Contains-append_cases (atoms_vars (rest ++ variable next ∷ [])) [] v c)
    where
      among : Contains (atoms_vars rest) v → Contains (atoms_vars (l ∷ m ∷ rest)) v
      among old =
          Contains-append_right (atom_vars l) (atoms_vars (m ∷ rest)) v (Contains-append_right (atom_vars m) (atoms_vars rest) v old)

  parity-stable : (view : List Atom) → next ≡ length view + 1 → IsStableCore view (Parity (l ∷ m ∷ rest) odd) → IsStableCore view (Parity (rest ++ variable next ∷ []) odd)
  parity-stable view past h = record {
    plain = literals-behind next rest h.plain.1.1;
    each = (each-behind (λ a. resolve view a ≡ a) next rest (own-past view next past) h.each.0.1.1, tt);
  }

  parity-is : IsCut next (Parity (l ∷ m ∷ rest) odd) (parity_parts next (l ∷ m ∷ rest) odd) (parity_cut next (l ∷ m ∷ rest))
  parity-is = record {
    cores = refl;
    fresh = refl;
    comes = by_parity (variable next) (l ∷ m ∷ rest) odd refl refl;
    vars = parity-vars;
    stable = parity-stable;
  }

parity-cuts : (next : ℕ) (ls : List Atom) (odd : Bool) → 2 ≤ length ls → IsCut next (Parity ls odd) (parity_parts next ls odd) (parity_cut next ls)
parity-cuts next [] odd long = absurd (omega (arith, long))
parity-cuts next (l ∷ []) odd long = absurd (omega (arith, long))
parity-cuts next (l ∷ m ∷ rest) odd long = parity-is next l m rest odd

-- of a core that is a parity, where these members are made a cut
pub parity_is_cut : (next : ℕ) (core : Core) (ls : List Atom) (odd : Bool) (members : List Atom) (cut : Cut) → core ≡ Parity ls odd → IsSplit core → members ≡ ls
    → cut ≡ parity_cut next members → IsCut next core (parts_of next core) cut
parity_is_cut next core ls odd members cut form split same is =
    let P : Core → Type 0 = λ c. IsSplit c → IsCut next c (parts_of next c) cut in
    subst P (sym form) (λ long. subst (λ (c : Cut). IsCut next (Parity ls odd) (parity_parts next ls odd) c) (sym (is ∙ ap (parity_cut next) same)) (parity-cuts next ls odd (omega (arith, long)))) split

-- ---- at-most-one

module _ (next : ℕ) (l m n : Atom) (rest : List Atom) where
  amo-vars : (v : ℕ) → Contains (atoms_vars (rest ++ variable next ∷ []) ++ []) v → Contains (atoms_vars (l ∷ m ∷ n ∷ rest) ++ []) v ⊎ ((next ≤ v) × (v < next + 1))
  amo-vars v c =
      ⊎_elim (λ one. ⊎_elim (λ old. inl (Contains-append_left (atoms_vars (l ∷ m ∷ n ∷ rest)) [] v (among old))) (λ fresh. inr fresh) (vars-behind next rest v one))
      (λ none. absurd (none-in v none))
      (Contains-append_cases (atoms_vars (rest ++ variable next ∷ [])) [] v c)
    where
      among : Contains (atoms_vars rest) v → Contains (atoms_vars (l ∷ m ∷ n ∷ rest)) v
      among old =
          Contains-append_right (atom_vars l) (atoms_vars (m ∷ n ∷ rest)) v
          (Contains-append_right (atom_vars m) (atoms_vars (n ∷ rest)) v (Contains-append_right (atom_vars n) (atoms_vars rest) v old))

  amo-stable : (view : List Atom) → next ≡ length view + 1 → IsStableCore view (Amo (l ∷ m ∷ n ∷ rest)) → IsStableCore view (Amo (rest ++ variable next ∷ []))
  amo-stable view past h = record {
    plain = literals-behind next rest h.plain.1.1.1;
    each = (each-behind (λ a. resolve view a ≡ a) next rest (own-past view next past) h.each.0.1.1.1, tt);
  }

  amo-is : IsCut next (Amo (l ∷ m ∷ n ∷ rest)) (amo_parts next (l ∷ m ∷ n ∷ rest)) (amo_cut next (l ∷ m ∷ n ∷ rest))
  amo-is = record {
    cores = refl;
    fresh = refl;
    comes = by_amo (variable next) (l ∷ m ∷ n ∷ rest) refl refl;
    vars = amo-vars;
    stable = amo-stable;
  }

amo-cuts : (next : ℕ) (ls : List Atom) → 3 ≤ length ls → IsCut next (Amo ls) (amo_parts next ls) (amo_cut next ls)
amo-cuts next [] long = absurd (omega (arith, long))
amo-cuts next (l ∷ []) long = absurd (omega (arith, long))
amo-cuts next (l ∷ m ∷ []) long = absurd (omega (arith, long))
amo-cuts next (l ∷ m ∷ n ∷ rest) long = amo-is next l m n rest

-- of a core that is at-most-one, where these members are made a cut
pub amo_is_cut : (next : ℕ) (core : Core) (ls : List Atom) (members : List Atom) (cut : Cut) → core ≡ Amo ls → IsSplit core → members ≡ ls
    → cut ≡ amo_cut next members → IsCut next core (parts_of next core) cut
amo_is_cut next core ls members cut form split same is =
    let P : Core → Type 0 = λ c. IsSplit c → IsCut next c (parts_of next c) cut in
    subst P (sym form) (λ long. subst (λ (c : Cut). IsCut next (Amo ls) (amo_parts next ls) c) (sym (is ∙ ap (amo_cut next) same)) (amo-cuts next ls (omega (arith, long)))) split
