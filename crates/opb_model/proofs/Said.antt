-- The text of a file's model says that model.
use Rattle.std.proofs.Common.{arith, ◌≡◌, ℕ, zero, suc, ◌+◌, ◌<◌, ◌≤◌, ◌^◌, Bool, true, false, List, [], ◌∷◌, ◌++◌, append-nil, map, length, refl, ap, sym, subst, ◌∙◌, ℤ, pos, neg_ℤ, ◌≤ℤ◌, unsigned_abs, Option, Some, None}
use Rattle.std.specs.Prelude.{if◌then◌else◌}
use Rattle.std.specs.Option.{unwrap_or}
use Rattle.std.proofs.lemmas.Int.{ints}
use Rattle.bumblebee_reader.specs.declared.syntax.Term.TheVariants as word
use Rattle.bumblebee_reader.specs.declared.syntax.Item.{Item}
use Rattle.bumblebee_reader.specs.Spellable.{IsSpellableTerm, AreSpellableTerms, IsSpellableItem, AreSpellableItems}
use Rattle.bumblebee_reader.proofs.Canonical.{canonical_is_text_lem}
use Rattle.model_meaning.specs.declared.model.Decl.{Decl}
use Rattle.model_meaning.specs.declared.model.Goal.TheVariants as goal
use Rattle.typed_model.specs.Faults.{item_fault}
use Rattle.typed_model.specs.Scope.{number}
use Rattle.model_meaning.specs.declared.what.IntTerm.{IntTerm}
use Rattle.model_meaning.specs.declared.what.IntTerm.TheVariants as int_term
use Rattle.typed_model.specs.Items.{declarations_of, statements_of, goal_after, decls_from, stmts_from, goal_from, first_fault_from}
use Rattle.opb_front.specs.declared.items.Term.{Term}
use Rattle.opb_front.specs.declared.items.Comparison.{Comparison}
use Rattle.opb_front.specs.declared.items.Comparison.TheVariants.{AtLeast, AtMost, Equal}
use Rattle.opb_front.specs.declared.items.Constraint.{Constraint}
use Rattle.opb_front.specs.declared.items.Objective.{Objective}
use Rattle.opb_front.specs.Grammar.{sum_above, sum_below, ObjectiveFits, SumsFit}
use Rattle.opb_front.specs.Fits.{TermsFit, ConstraintsFit, objective_terms}
use Rattle.opb_model.specs.Models.{variable_name, cost_name, variables_from, cost_decls, cost_stmts, constraint_stmts, first_constraint, goal_of, sum}
use Rattle.opb_model.specs.Items.{variable_items, coefficient_word, literal_word, sum_item, cost_items, constraint_items, goal_item, syntax_of}
use Rattle.opb_model.specs.Laws.{TextSays}
use Rattle.opb_model.proofs.Names.{variable-named}
use Rattle.opb_model.proofs.Sums.{signs}
use Rattle.opb_model.proofs.Passing.{Passes, none-passes, then-passes}
use Rattle.opb_model.proofs.ItemsPass.{knows, variables-pass, constraints-pass, sum-passes, cost-passes, cost-place, cost-there}

-- Each item can be spelled.

variables-spelled : (i n : ℕ) (rest : List Item) → i + n < 2 ^ 64 → AreSpellableItems rest → AreSpellableItems (variable_items i n ++ rest)
variables-spelled i zero rest small h = h
variables-spelled i (suc n) rest small h =
    ((refl, (λ e. cc), (λ e. cc), (λ e. cc), (variable-named i (omega (arith, small)), tt)), variables-spelled (i + 1) n rest (omega (arith, small)) h)

numbers-spelled : (vars : ℕ) (ts : List Term) → TermsFit vars ts → AreSpellableTerms (map coefficient_word ts)
numbers-spelled vars [] h = tt
numbers-spelled vars (t ∷ ts) h = (h.0.in_limit, numbers-spelled vars ts h.1)

literal-spelled : (b : Bool) (k : ℕ) → k < 2 ^ 64 → IsSpellableTerm (if b then word.Plain (variable_name k) else word.Minus (variable_name k))
literal-spelled true k small = variable-named k small
literal-spelled false k small = variable-named k small

literals-spelled : (vars : ℕ) (ts : List Term) → vars < 2 ^ 63 → TermsFit vars ts → AreSpellableTerms (map literal_word ts)
literals-spelled vars [] small h = tt
literals-spelled vars (t ∷ ts) small h =
    let high = h.0.to_last in
    (literal-spelled t.literal.positive t.literal.index (omega (arith, high, small)), literals-spelled vars ts small h.1)

sum-spelled : (vars : ℕ) (c : Comparison) (ts : List Term) → vars < 2 ^ 63 → TermsFit vars ts → (bound : _) → IsSpellableTerm bound → IsSpellableItem (sum_item c ts bound)
sum-spelled vars AtLeast ts small h bound b = (refl, (λ e. cc), (λ e. cc), (λ e. cc), (numbers-spelled vars ts h, (literals-spelled vars ts small h, (b, tt))))
sum-spelled vars AtMost ts small h bound b = (refl, (λ e. cc), (λ e. cc), (λ e. cc), (numbers-spelled vars ts h, (literals-spelled vars ts small h, (b, tt))))
sum-spelled vars Equal ts small h bound b = (refl, (λ e. cc), (λ e. cc), (λ e. cc), (numbers-spelled vars ts h, (literals-spelled vars ts small h, (b, tt))))

constraints-spelled : (vars : ℕ) (cs : List Constraint) (rest : List Item) → vars < 2 ^ 63 → ConstraintsFit vars cs → AreSpellableItems rest → AreSpellableItems (constraint_items cs ++ rest)
constraints-spelled vars [] rest small h k = k
constraints-spelled vars (c ∷ cs) rest small h k =
    (sum-spelled vars c.comparison c.terms small h.0.0 (word.Number c.bound) h.0.1, constraints-spelled vars cs rest small h.1 k)

goal-spelled : (o : Option Objective) → AreSpellableItems (goal_item o ∷ [])
goal-spelled None = (tt, tt)
goal-spelled (Some o) = ((refl, tt), tt)

-- the bounds of the cost

abbrev InBounds : Objective → Type 0
InBounds o = (unsigned_abs o.low ≤ 1073741824) × (unsigned_abs o.high ≤ 1073741824) × (o.low ≤ℤ o.high)

in-bounds : (o : Objective) → SumsFit o → InBounds o
in-bounds o h = by o.low o.high (sum_below o.terms) (sum_above o.terms) h.low h.high h.least h.most (signs o.terms).0 (signs o.terms).1
  where
    by : (low high below above : ℤ) → low ≡ below → high ≡ above → neg_ℤ (pos 1073741824) ≤ℤ low → high ≤ℤ pos 1073741824 → below ≤ℤ pos 0 → pos 0 ≤ℤ above
        → (unsigned_abs low ≤ 1073741824) × (unsigned_abs high ≤ 1073741824) × (low ≤ℤ high)
    by low high below above e f p q r s = (omega (arith, ints, e, p, r), omega (arith, ints, f, q, s), omega (arith, ints, e, f, r, s))

cost-spelled : (vars : ℕ) (o : Option Objective) (rest : List Item) → vars < 2 ^ 63 → TermsFit vars (objective_terms o) → ObjectiveFits o → AreSpellableItems rest → AreSpellableItems (cost_items o ++ rest)
cost-spelled vars None rest small h sums k = k
cost-spelled vars (Some o) rest small h sums k =
    let b = in-bounds o sums in
    ((refl, (λ e. cc), (λ e. cc), (λ e. cc), (refl, (b.0, (b.1, tt)))), (sum-spelled vars Equal o.terms small h (word.Plain cost_name) refl, k))

-- The cost among the items.

module _ (vars : ℕ) (small : vars < 2 ^ 63) where
  abbrev all : Option Objective → List Decl
  all o = variables_from 1 vars ++ cost_decls (vars + 1) o

  cost-part : (o : Option Objective) → TermsFit vars (objective_terms o) → ObjectiveFits o
      → Passes (vars + 1) (variables_from 1 vars) (cost_items o) (first_constraint vars o) (all o) (cost_stmts (vars + 2) vars o)
  cost-part None few sums =
      subst (λ (ds : List Decl). Passes (vars + 1) (variables_from 1 vars) [] (vars + 1) ds []) (sym (append-nil (variables_from 1 vars))) (none-passes (vars + 1) (variables_from 1 vars))
  cost-part (Some o) few sums =
      let place = cost-place vars o (in-bounds o sums).2 in
      let there = cost-there vars o (in-bounds o sums).2 in
      let first = cost-passes vars o (in-bounds o sums).2 in
      let known = knows vars (cost_decls (vars + 1) (Some o)) small in
      let second = sum-passes vars (all (Some o)) known Equal o.terms few (word.Plain cost_name) (rw place refl) (rw place (rw there refl)) (vars + 1 + 1) in
      let is : number (all (Some o)) (word.Plain cost_name) ≡ int_term.Of vars = rw place refl in
      let two : vars + 1 + 1 ≡ vars + 2 = omega arith in
      let three : vars + 1 + 1 + 1 ≡ vars + 3 = omega arith in
      let both = then-passes (vars + 1) (vars + 1 + 1) (vars + 1 + 1 + 1) _ _ _ _ _ [] _ first second in
      let P : ℕ → ℕ → IntTerm → Type 0 = λ n m b. Passes (vars + 1) (variables_from 1 vars) (cost_items (Some o)) m (all (Some o)) (sum n Equal o.terms b ∷ []) in
      subst (λ n. P n (vars + 3) (int_term.Of vars)) two (subst (λ m. P (vars + 1 + 1) m (int_term.Of vars)) three (subst (λ b. P (vars + 1 + 1) (vars + 1 + 1 + 1) b) is both))

  -- what is sought

  goal-fine : (o : Option Objective) → ObjectiveFits o → (n : ℕ) → item_fault n false (all o) (goal_item o) ≡ None
  unfolding item_fault
  goal-fine None sums n = refl
  goal-fine (Some o) sums n =
      let place = cost-place vars o (in-bounds o sums).2 in
      let there = cost-there vars o (in-bounds o sums).2 in
      rw place (rw there refl)

  goal-sought : (o : Option Objective) → ObjectiveFits o → goal_after None (all o) (goal_item o) ≡ Some (goal_of vars o)
  goal-sought None sums = refl
  goal-sought (Some o) sums = rw (cost-place vars o (in-bounds o sums).2) refl

  goal-declares : (n : ℕ) (ds : List Decl) (o : Option Objective) → declarations_of n ds (goal_item o) ≡ []
  goal-declares n ds None = refl
  goal-declares n ds (Some o) = refl

  goal-states : (n : ℕ) (ds : List Decl) (o : Option Objective) → statements_of n ds (goal_item o) ≡ []
  goal-states n ds None = refl
  goal-states n ds (Some o) = refl

  module _ (o : Option Objective) (sums : ObjectiveFits o) (n : ℕ) where
    nothing : all o ++ declarations_of n (all o) (goal_item o) ≡ all o
    nothing = ap (λ ds. all o ++ ds) (goal-declares n (all o) o) ∙ append-nil (all o)

    last-decls : decls_from n (all o) (goal_item o ∷ []) ≡ all o
    unfolding decls_from
    last-decls = nothing

    last-stmts : stmts_from n (all o) (goal_item o ∷ []) ≡ []
    unfolding stmts_from
    last-stmts = append-nil _ ∙ goal-states n _ o

    last-goal : goal_from n (all o) None (goal_item o ∷ []) ≡ Some (goal_of vars o)
    unfolding goal_from
    last-goal = goal-sought o sums

    last-fault : first_fault_from n (all o) None (goal_item o ∷ []) ≡ None
    unfolding first_fault_from
    last-fault = rw (goal-fine o sums n) (rw (goal-sought o sums) refl)

  -- All items.

  module _ (o : Option Objective) (cs : List Constraint) (few : TermsFit vars (objective_terms o)) (sums : ObjectiveFits o) (fit : ConstraintsFit vars cs) where
    abbrev last : List Item
    last = goal_item o ∷ []

    abbrev behind : List Item
    behind = constraint_items cs ++ last

    abbrev whole : List Item
    whole = variable_items 1 vars ++ (cost_items o ++ behind)

    abbrev end : ℕ
    end = first_constraint vars o + length cs

    first : Passes 1 [] (variable_items 1 vars) (vars + 1) (variables_from 1 vars) []
    first = variables-pass 0 vars vars (omega arith) small

    second : Passes (vars + 1) (variables_from 1 vars) (cost_items o) (first_constraint vars o) (all o) (cost_stmts (vars + 2) vars o)
    second = cost-part o few sums

    third : Passes (first_constraint vars o) (all o) (constraint_items cs) end (all o) (constraint_stmts (first_constraint vars o) cs)
    third = constraints-pass vars (all o) (knows vars (cost_decls (vars + 1) o) small) (first_constraint vars o) cs fit

    pub whole-decls : decls_from 1 [] whole ≡ all o
    whole-decls = first.decls _ ∙ (second.decls _ ∙ (third.decls last ∙ last-decls o sums end))

    pub whole-stmts : stmts_from 1 [] whole ≡ cost_stmts (vars + 2) vars o ++ constraint_stmts (first_constraint vars o) cs
    whole-stmts =
        first.stmts _ ∙ (second.stmts _ ∙ ap (λ ss. cost_stmts (vars + 2) vars o ++ ss) (third.stmts last ∙ (ap (λ ss. constraint_stmts (first_constraint vars o) cs ++ ss) (last-stmts o sums end) ∙ append-nil _)))

    pub whole-goal : goal_from 1 [] None whole ≡ Some (goal_of vars o)
    whole-goal = first.goal _ ∙ (second.goal _ ∙ (third.goal last ∙ last-goal o sums end))

    pub whole-fault : first_fault_from 1 [] None whole ≡ None
    whole-fault = first.fault _ ∙ (second.fault _ ∙ (third.fault last ∙ last-fault o sums end))

    pub whole-spelled : AreSpellableItems whole
    whole-spelled = variables-spelled 1 vars _ (omega (arith, small)) (cost-spelled vars o behind small few sums (constraints-spelled vars cs last small fit (goal-spelled o)))

pub text_says : TextSays
text_says opb fits =
    let many = fits.vars in
    let small : opb.vars < 2 ^ 63 = omega (arith, many) in
    let d = whole-decls opb.vars small opb.objective opb.constraints fits.objective fits.sums fits.constraints in
    let s = whole-stmts opb.vars small opb.objective opb.constraints fits.objective fits.sums fits.constraints in
    let g = whole-goal opb.vars small opb.objective opb.constraints fits.objective fits.sums fits.constraints in
    let spelled = whole-spelled opb.vars small opb.objective opb.constraints fits.objective fits.sums fits.constraints in
    record {
      spelled = canonical_is_text_lem (syntax_of opb) spelled;
      no_fault = whole-fault opb.vars small opb.objective opb.constraints fits.objective fits.sums fits.constraints;
      model = sym (λ i. record { decls = d i; stmts = s i; goal = unwrap_or (g i) goal.Satisfy });
    }
