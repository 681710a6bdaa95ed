-- That of two members with the same two values each has the one that the other has not, is told in turn, where the atoms that say so are literals of
-- different variables: in a view that some of these equations made each other atom is itself.
use Rattle.std.proofs.Common.{◌≡◌, ℕ, zero, suc, ◌<◌, Bool, true, false, not, ◌==◌, ◌⊎◌, inl, inr, List, [], ◌∷◌, ◌++◌, length, map, ℤ, Option, None, Some, Contains, refl, sym, ap, ◌∙◌, ⊎_elim, arith}
use Rattle.std.proofs.lemmas.Bool.{false≢true, or_cases}
use Rattle.std.proofs.lemmas.List.Elements.{Contains-append_cases}
use Rattle.order_ints.specs.declared.atom.Atom.{Atom}
use Rattle.order_ints.specs.declared.atom.Atom.TheVariants.{True, False, Of}
use Rattle.order_ints.specs.declared.order_int.OrdInt.{OrdInt}
use Rattle.order_ints.specs.Label.{IsOwnLabel}
use Rattle.order_ints.specs.Same.{is_true, is_false, same_atom}
use Rattle.order_ints.specs.Truth.{not_atom}
use Rattle.order_ints.specs.View.{resolve}
use Rattle.order_ints.proofs.Labels.{own-stays}
use Rattle.core_forms.specs.declared.equation.Rule.TheVariants.{Form}
use Rattle.core_forms.specs.declared.form.Core.{Core}
use Rattle.core_forms.specs.declared.form.Core.TheVariants.{AllDiff}
use Rattle.core_forms.specs.Each.{EachOf}
use Rattle.core_forms.specs.Trimmed.{raised_by, trimmed_int}
use Rattle.core_forms.specs.Variables.{atom_vars, core_vars, AreAmong}
use Rattle.core_forms.proofs.VariableLaws.{none_there, own_var, each_vars}
use Rattle.rule_base.specs.Pairs.{only_if, EachOfPairs}
use Rattle.alldiff_rules.specs.Members.{int_at, choice_of}
use Rattle.alldiff_rules.specs.Rows.{opposite_twins}
use Rattle.alldiff_rules.specs.Twins.{first_atom}
use Rattle.equation_runs.specs.Turns.{IsMadeOrTold, IsBehind, AreToldFrom, equations_vars}
use Rattle.equation_runs.specs.TwinRuns.{choice_at, twin_by, twin_at}
use Rattle.equation_runs.specs.TwinPairs.{opposite_pair, opposite_pairs, both_atoms}
use Rattle.equation_runs.specs.RunRows.{equation_of}
use Rattle.equation_runs.proofs.Always.{Told}
use Rattle.equation_runs.proofs.FreeLaws.{has_var, are_apart}
use Rattle.equation_runs.proofs.NextValue.{or-left}
use Rattle.equation_runs.proofs.LinkLists.{EachPair, each-append}
use Rattle.equation_runs.proofs.Behind.{IsLiteral, free-literal, first-alone, later-free, same-var, var-had, had-later}
use Rattle.equation_runs.proofs.TrimmedMembers.{int-trimmed, sure-stays}
use Rattle.equation_runs.proofs.TwinFacts.{IsChoice, choice-is, first-is}
use Rattle.equation_runs.proofs.DifferentTurns.{row-told}
use Rattle.equation_runs.proofs.DifferentBelow.{each-opposites}

-- a variable of a list is that of its first atom, or one of the others
had-cases : (v : ℕ) (x : Atom) (xs : List Atom) → has_var v (x ∷ xs) ≡ true → (has_var v (x ∷ []) ≡ true) ⊎ (has_var v xs ≡ true)
had-cases v True xs e = inr e
had-cases v False xs e = inr e
had-cases v (Of l) xs e = ⊎_elim
    (λ (h : (l.var == v) ≡ true). inl (or-left (l.var == v) false h))
    (λ (h : has_var v xs ≡ true). inr h)
    (or_cases (l.var == v) (has_var v xs) e)

-- and where these are different it is not both
alone : (v : ℕ) (x : Atom) (xs : List Atom) → are_apart (x ∷ xs) ≡ true → has_var v (x ∷ []) ≡ true → has_var v xs ≡ true → ⊥
alone v True xs free here there = false≢true free
alone v False xs free here there = false≢true free
alone v (Of l) xs free here there = ⊎_elim
    (λ (h : (l.var == v) ≡ true). false≢true (sym (first-alone l xs free) ∙ ap (λ (u : ℕ). has_var u xs) (same-var l.var v h) ∙ there))
    (λ (h : false ≡ true). false≢true h)
    (or_cases (l.var == v) false here)

-- no variable is one of both lists
abbrev AreNone : List Atom → List Atom → Type 0
AreNone xs ys = (v : ℕ) → has_var v xs ≡ true → has_var v ys ≡ true → ⊥

-- each variable of an atom is its own label
abbrev IsOwn : List Atom → Atom → Type 0
IsOwn view a = (v : ℕ) → Contains (atom_vars a) v → IsOwnLabel view v

module _ (core : Core) where
  -- the variables of an atom are among those of the core
  abbrev Within : Atom → Type 0
  Within a = AreAmong (atom_vars a) (core_vars core)

  -- a pair of literals is made or told in each view that leaves them
  abbrev IsToldOwn : Atom → Atom → Type 0
  IsToldOwn x y = (view : List Atom) → IsLiteral x → IsLiteral y → IsOwn view x → IsOwn view y → IsMadeOrTold Told core view (equation_of Form (x, y))

  -- the variables that equations of pairs name
  pair-cases : (P : ℕ → Type 0) (p : Atom × Atom) (ps : List (Atom × Atom)) → ((v : ℕ) → Contains (atom_vars p.0) v → P v) → ((v : ℕ) → Contains (atom_vars p.1) v → P v)
      → ((v : ℕ) → Contains (equations_vars (map (equation_of Form) ps)) v → P v) → (v : ℕ) → Contains (equations_vars (map (equation_of Form) (p ∷ ps))) v → P v
  pair-cases P p ps first second rest v c = ⊎_elim
      (λ (h : Contains (atom_vars p.0 ++ atom_vars p.1) v). ⊎_elim
      (λ (g : Contains (atom_vars p.0) v). first v g)
      (λ (g : Contains (atom_vars p.1) v). second v g)
      (Contains-append_cases (atom_vars p.0) (atom_vars p.1) v h))
      (λ (h : Contains (equations_vars (map (equation_of Form) ps)) v). rest v h)
      (Contains-append_cases (atom_vars p.0 ++ atom_vars p.1) (equations_vars (map (equation_of Form) ps)) v c)

  pairs-among : (ps : List (Atom × Atom)) → EachOf Within (both_atoms ps) → AreAmong (equations_vars (map (equation_of Form) ps)) (core_vars core)
  pairs-among [] each v c = absurd (none_there v c)
  pairs-among (p ∷ ps) each v c =
      pair-cases (Contains (core_vars core)) p ps (λ v h. each.0 v h) (λ v h. each.1.0 v h) (λ v h. pairs-among ps each.1.1 v h) v c

  pairs-had : (ps : List (Atom × Atom)) (v : ℕ) → Contains (equations_vars (map (equation_of Form) ps)) v → has_var v (both_atoms ps) ≡ true
  pairs-had [] v c = absurd (none_there v c)
  pairs-had (p ∷ ps) v c =
      pair-cases (λ v. has_var v (both_atoms (p ∷ ps)) ≡ true) p ps
      (λ v h. var-had v p.0 (p.1 ∷ both_atoms ps) h)
      (λ v h. had-later v p.0 (p.1 ∷ both_atoms ps) (var-had v p.1 (both_atoms ps) h))
      (λ v h. had-later v p.0 (p.1 ∷ both_atoms ps) (had-later v p.1 (both_atoms ps) (pairs-had ps v h))) v c

  -- behind some pairs an atom of none of their variables is itself
  own-behind : (done : List (Atom × Atom)) (view : List Atom) → EachOf Within (both_atoms done) → IsBehind core (map (equation_of Form) done) view
      → (x : Atom) → Within x → ((v : ℕ) → Contains (atom_vars x) v → has_var v (both_atoms done) ≡ true → ⊥) → IsOwn view x
  own-behind done view among behind x within none v c =
      behind.still (pairs-among done among) v (within v c) (λ h. none v c (pairs-had done v h))

  pairs-told : (ps done : List (Atom × Atom)) → are_apart (both_atoms ps) ≡ true → EachOf Within (both_atoms ps) → EachOf Within (both_atoms done)
      → AreNone (both_atoms ps) (both_atoms done) → EachPair IsToldOwn ps → AreToldFrom Told core (map (equation_of Form) done) (map (equation_of Form) ps)
  pairs-told [] done free within among none law = tt
  pairs-told (p ∷ ps) done free within among none law = (
    (λ view behind. law.0 view (free-literal (both_atoms (p ∷ ps)) free p.0 (inl refl)) (free-literal (both_atoms (p ∷ ps)) free p.1 (inr (inl refl)))
        (own-behind done view among behind p.0 within.0 (λ v c had. none v (var-had v p.0 (p.1 ∷ both_atoms ps) c) had))
        (own-behind done view among behind p.1 within.1.0 (λ v c had. none v (had-later v p.0 (p.1 ∷ both_atoms ps) (var-had v p.1 (both_atoms ps) c)) had))),
    pairs-told ps (p ∷ done) (later-free p.1 (both_atoms ps) behind-first) within.1.1 (within.0, (within.1.0, among)) none-later law.1,
  )
    where
      behind-first : are_apart (p.1 ∷ both_atoms ps) ≡ true
      behind-first = later-free p.0 (p.1 ∷ both_atoms ps) free

      none-later : AreNone (both_atoms ps) (both_atoms (p ∷ done))
      none-later v here there = ⊎_elim
          (λ (h : has_var v (p.0 ∷ []) ≡ true). alone v p.0 (p.1 ∷ both_atoms ps) free h (had-later v p.1 (both_atoms ps) here))
          (λ (h : has_var v (p.1 ∷ both_atoms done) ≡ true). ⊎_elim
          (λ (g : has_var v (p.1 ∷ []) ≡ true). alone v p.1 (both_atoms ps) behind-first g here)
          (λ (g : has_var v (both_atoms done) ≡ true). none v (had-later v p.0 (p.1 ∷ both_atoms ps) (had-later v p.1 (both_atoms ps) here)) g)
          (had-cases v p.1 (both_atoms done) h))
          (had-cases v p.0 (p.1 ∷ both_atoms done) there)

-- an atom whose variables are their own labels stays, and so does a member of two values that it tells
resolve-own : (view : List Atom) (a : Atom) → IsOwn view a → resolve view a ≡ a
resolve-own view True own = refl
resolve-own view False own = refl
resolve-own view (Of l) own = own-stays view l.var l.positive (own l.var (own_var l.var))

choice-own : (view : List Atom) (low : ℤ) (d : ℕ) (a : Atom) → IsLiteral a → IsOwn view a → trimmed_int view (choice_of low a d) ≡ choice_of low a d
choice-own view low d True one own = absurd (false≢true (sym (ap is_true one.is)))
choice-own view low d False one own = absurd (false≢true (sym (ap is_false one.is)))
choice-own view low d (Of l) one own = ap (λ (x : Atom). raised_by low ((x, d) ∷ [])) (resolve-own view (Of l) own)

-- what holds of the negation
literal-not : (a : Atom) → IsLiteral (not_atom a) → IsLiteral a
literal-not True one = absurd (false≢true (sym (ap is_false one.is)))
literal-not False one = absurd (false≢true (sym (ap is_true one.is)))
literal-not (Of l) one = record { literal = l; is = refl }

own-not : (view : List Atom) (a : Atom) → IsOwn view (not_atom a) → IsOwn view a
own-not view True own v c = absurd (none_there v c)
own-not view False own v c = absurd (none_there v c)
own-not view (Of l) own v c = own v c

within-not : (core : Core) (a : Atom) → Within core a → Within core (not_atom a)
within-not core True within v c = absurd (none_there v c)
within-not core False within v c = absurd (none_there v c)
within-not core (Of l) within v c = within v c

pairs-where : (R : Atom → Atom → Type 0) (t : Bool) (ps : List (Atom × Atom)) → EachPair R ps → EachPair R (only_if t ps)
pairs-where R true ps each = each
pairs-where R false ps each = tt

each-both : (P : Atom → Type 0) (ps : List (Atom × Atom)) → EachOfPairs P ps → EachOf P (both_atoms ps)
each-both P [] each = tt
each-both P (p ∷ ps) each = (each.0.0, (each.0.1, each-both P ps each.1))

module _ (ints : List OrdInt) (cs : List Atom) where
  pair-law : (i j : ℕ) (key : ℤ × ℕ) → j < i → IsChoice ints cs i key → IsChoice ints cs j key
      → IsToldOwn (AllDiff ints cs) (first_atom (int_at ints j).steps) (not_atom (first_atom (int_at ints i).steps))
  pair-law i j key lt here there view one other own own-other =
      row-told ints cs view q (not_atom p)
      (opposite_twins j i key.0 key.1 q p
      (record {
        apart = λ same. absurd (omega (arith, lt, same));
        sure_first = sure-stays view cs j there.sure;
        sure_second = sure-stays view cs i here.sure;
        first = int-trimmed view ints j ∙ ap (trimmed_int view) there.is ∙ choice-own view key.0 key.1 q one own;
        second = int-trimmed view ints i ∙ ap (trimmed_int view) here.is ∙ choice-own view key.0 key.1 p (literal-not p other) (own-not view p own-other);
      })
      (resolve-own view q own) (resolve-own view (not_atom p) own-other))
    where
      p : Atom
      p = first_atom (int_at ints i).steps

      q : Atom
      q = first_atom (int_at ints j).steps

  twin-law : (i : ℕ) (o : Option (ℤ × ℕ)) → choice_at ints cs i ≡ o → (twin : Option ℕ) → twin_by ints cs i o ≡ twin → EachPair (IsToldOwn (AllDiff ints cs)) (opposite_pair ints i twin)
  twin-law i o is None e = tt
  twin-law i None is (Some j) e = absurd (cc)
  twin-law i (Some key) is (Some j) e =
      let r = first-is ints cs i key j e in
      let q = first_atom (int_at ints j).steps in
      let p = not_atom (first_atom (int_at ints i).steps) in
      pairs-where (IsToldOwn (AllDiff ints cs)) (not (same_atom q p)) ((q, p) ∷ [])
      (pair-law i j key r.0 (choice-is ints cs i key is) (choice-is ints cs j key r.1), tt)

  twins-law : (n : ℕ) → EachPair (IsToldOwn (AllDiff ints cs)) (opposite_pairs ints cs n)
  twins-law zero = tt
  twins-law (suc n) =
      each-append (IsToldOwn (AllDiff ints cs)) (opposite_pairs ints cs n) (opposite_pair ints n (twin_at ints cs n)) (twins-law n)
      (twin-law n (choice_at ints cs n) refl (twin_at ints cs n) refl)

  pub twins-turn : are_apart (both_atoms (opposite_pairs ints cs (length ints))) ≡ true
      → AreToldFrom Told (AllDiff ints cs) [] (map (equation_of Form) (opposite_pairs ints cs (length ints)))
  twins-turn free =
      pairs-told core ps [] free (each-both (Within core) ps within) tt (λ v here there. false≢true there) (twins-law (length ints))
    where
      core : Core
      core = AllDiff ints cs

      ps : List (Atom × Atom)
      ps = opposite_pairs ints cs (length ints)

      within : EachOfPairs (Within core) ps
      within =
          each-opposites (Within core)
          (record { truth = λ v c. absurd (none_there v c); falsehood = λ v c. absurd (none_there v c); negation = within-not core })
          ints cs (length ints) (each_vars (λ v. Contains (core_vars core) v) core (λ v c. c)).1
