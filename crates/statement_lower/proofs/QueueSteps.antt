-- The loop over a queue of members: what is done, and what is left.
use Rattle.std.proofs.Common.{◌≡◌, ℕ, suc, ◌+◌, ◌-◌, ◌<◌, ◌≤◌, ◌^◌, ℤ, List, [], ◌∷◌, ◌++◌, length, drop, refl, sym, ap, subst, ◌∙◌, arith, length-append}
use Rattle.std.specs.Prelude.{unsigned_abs}
use Rattle.std.proofs.lemmas.Int.{ints}
use Rattle.std.proofs.lemmas.List.{append_assoc}
use Rattle.order_ints.specs.declared.atom.Atom.TheVariants.{True}
use Rattle.order_ints.specs.declared.order_int.OrdInt.{OrdInt}
use Rattle.order_ints.specs.OrderMade.{AreVars}
use Rattle.order_ints.specs.OrderRange.{IsBounded}
use Rattle.order_ints.specs.OrderChange.{negated_of, shifted_of}
use Rattle.core_forms.specs.declared.form.Core.{Core}
use Rattle.core_forms.specs.declared.form.Core.TheVariants as core
use Rattle.core_forms.specs.Sums.{sums_of}
use Rattle.core_forms.specs.WellFormed.{IsSound, AreSound, greatest_abs, abs_total}
use Rattle.core_forms.proofs.IntLists.{AreSound-append, abs_total-append}
use Rattle.core_forms.proofs.SumValues.{fresh-abs}
use Rattle.model_meaning.specs.declared.statement.Relation.{Relation}
use Rattle.statement_lower.specs.declared.made.MadeCores.{MadeCores}
use Rattle.statement_lower.specs.Comparison.{comparison_core}
use Rattle.statement_lower.specs.Queue.{fresh_sum, vars_behind_sum, first_or_zero, with_first, queue_made}
use Rattle.statement_lower.specs.Linear.{compared_made}
use Rattle.statement_lower.specs.Lines.{made_here}
use Rattle.statement_lower.proofs.FreshSums.{steps-of_values, sound-sum}
use Rattle.statement_lower.proofs.MoreVariables.{queue-more}

-- the variables of a fresh sum, where there is room for it
pub sum-vars : (vars : ℕ) (a b : OrdInt) (values : List ℤ) → values ≡ sums_of a b → vars_behind_sum vars a b < 2 ^ 27 → AreVars (vars + 1) (length values - 1)
sum-vars vars a b values e room some = (omega arith, rw e (omega (arith, room, steps-of_values (sums_of a b) (vars + 1))))

-- the first two members are taken out
pub two-first : (queue more rest : List OrdInt) (a b : OrdInt) → a ≡ first_or_zero queue → more ≡ drop 1 queue → b ≡ first_or_zero more → rest ≡ drop 1 more → 2 ≤ length queue
    → queue ≡ a ∷ b ∷ rest
two-first [] more rest a b ea em eb er h = absurd (omega (arith, h))
two-first (x ∷ []) more rest a b ea em eb er h = absurd (omega (arith, h))
two-first (x ∷ y ∷ ys) more rest a b ea em eb er h = rw (er, eb, em, ea) refl

-- three members and more
compared-of-more : (vars : ℕ) (rel : Relation) (k : ℤ) (a b : OrdInt) (rest : List OrdInt) → 1 ≤ length rest
    → compared_made vars rel k (a ∷ b ∷ rest) ≡ with_first (core.Sum3 a b (fresh_sum vars a b)) (compared_made (vars_behind_sum vars a b) rel k (rest ++ fresh_sum vars a b ∷ []))
compared-of-more vars rel k a b [] h = absurd (omega (arith, h))
compared-of-more vars rel k a b (c ∷ rest) h =
    let z : OrdInt = fresh_sum vars a b in
    let more : length (a ∷ b ∷ c ∷ rest) - 2 ≡ suc (length rest) = omega arith in
    let fewer : length (c ∷ rest ++ z ∷ []) - 2 ≡ length rest = omega (arith, length-append rest (z ∷ [])) in
    ap (λ times. queue_made times vars rel k (a ∷ b ∷ c ∷ rest)) more
    ∙ ap (λ times. with_first (core.Sum3 a b z) (queue_made times (vars_behind_sum vars a b) rel k (c ∷ rest ++ z ∷ []))) (sym fewer)

-- at most two are left
compared-of-two : (vars : ℕ) (rel : Relation) (k : ℤ) (queue : List OrdInt) → length queue ≤ 2
    → compared_made vars rel k queue ≡ made_here vars (comparison_core rel True (shifted_of (first_or_zero queue) k) (negated_of (first_or_zero (drop 1 queue))) ∷ [])
compared-of-two vars rel k [] h = refl
compared-of-two vars rel k (a ∷ []) h = refl
compared-of-two vars rel k (a ∷ b ∷ []) h = refl
compared-of-two vars rel k (a ∷ b ∷ c ∷ rest) h = absurd (omega (arith, h))

-- Behind so many variables, with the cores of the sums made, what is left of the members is made into what they are made into.
pub record Queued (start : ℕ) (rel : Relation) (members : List OrdInt) (vars : ℕ) (queue : List OrdInt) (cores : List Core) : Type 0 where
  pub sound : AreSound queue
  pub limit : abs_total queue ≤ abs_total members
  pub vars_left : (k : ℤ) → (compared_made vars rel k queue).vars ≡ (compared_made start rel k members).vars
  pub cores_left : (k : ℤ) → cores ++ (compared_made vars rel k queue).cores ≡ (compared_made start rel k members).cores

pub queued-start : (start : ℕ) (rel : Relation) (members : List OrdInt) → AreSound members → Queued start rel members start members []
queued-start start rel members h = record { sound = h; limit = omega arith; vars_left = λ k. refl; cores_left = λ k. refl }

-- the first two and their fresh sum
pub record IsTurn (start : ℕ) (rel : Relation) (members : List OrdInt) (vars : ℕ) (a b : OrdInt) (rest : List OrdInt) (cores : List Core) : Type 0 where
  pub first : IsSound a
  pub second : IsSound b
  pub limit : greatest_abs a + greatest_abs b < 2 ^ 100
  pub room : vars_behind_sum vars a b < 2 ^ 27
  pub next : Queued start rel members (vars_behind_sum vars a b) (rest ++ fresh_sum vars a b ∷ []) (cores ++ core.Sum3 a b (fresh_sum vars a b) ∷ [])

module _ (start : ℕ) (rel : Relation) (members : List OrdInt) (vars : ℕ) where
  turn-two : (a b : OrdInt) (rest : List OrdInt) (cores : List Core) (k : ℤ) → Queued start rel members vars (a ∷ b ∷ rest) cores → 1 ≤ length rest
      → abs_total members < 2 ^ 100 → (compared_made start rel k members).vars < 2 ^ 27 → IsTurn start rel members vars a b rest cores
  turn-two a b rest cores k q more limit room =
      let z : OrdInt = fresh_sum vars a b in
      let m : ℕ = vars_behind_sum vars a b in
      let same = λ (n : ℤ). compared-of-more vars rel n a b rest more in
      let small : greatest_abs a + greatest_abs b < 2 ^ 100 = omega (arith, q.limit, limit) in
      let later = queue-more (length (rest ++ z ∷ []) - 2) m rel k (rest ++ z ∷ []) in
      let whole : (compared_made m rel k (rest ++ z ∷ [])).vars ≡ (compared_made start rel k members).vars = sym (ap (λ (made : MadeCores). made.vars) (same k)) ∙ q.vars_left k in
      record {
        first = q.sound.0;
        second = q.sound.1.0;
        limit = small;
        room = omega (arith, later, whole, room);
        next = record {
          sound = AreSound-append rest (z ∷ []) q.sound.1.1 (sound-sum vars a b small, tt);
          limit = omega (arith, abs_total-append rest (z ∷ []), fresh-abs a b (vars + 1), q.limit);
          vars_left = λ n. sym (ap (λ (made : MadeCores). made.vars) (same n)) ∙ q.vars_left n;
          cores_left = λ n.
              append_assoc cores (core.Sum3 a b z ∷ []) (compared_made m rel n (rest ++ z ∷ [])).cores
              ∙ (ap (λ (made : MadeCores). cores ++ made.cores) (sym (same n)) ∙ q.cores_left n);
        };
      }

  -- the same of those that were taken out of a queue
  pub turn : (queue more rest : List OrdInt) (a b : OrdInt) (cores : List Core) (k : ℤ) → Queued start rel members vars queue cores → 3 ≤ length queue
      → a ≡ first_or_zero queue → more ≡ drop 1 queue → b ≡ first_or_zero more → rest ≡ drop 1 more
      → abs_total members + unsigned_abs k < 2 ^ 100 → (compared_made start rel k members).vars < 2 ^ 27 → IsTurn start rel members vars a b rest cores
  turn queue more rest a b cores k q three ea em eb er limit room =
      let all = two-first queue more rest a b ea em eb er (omega (arith, three)) in
      turn-two a b rest cores k (subst (λ items. Queued start rel members vars items cores) all q) (omega (arith, ap length all, three)) (omega (arith, limit)) room

-- what the last comparison says, and its conditions
pub record IsEnd (start : ℕ) (rel : Relation) (members : List OrdInt) (vars : ℕ) (a b : OrdInt) (cores : List Core) (k : ℤ) : Type 0 where
  pub first : IsBounded a
  pub second : IsBounded b
  pub shifted : IsBounded (shifted_of a k)
  pub made : made_here vars (cores ++ comparison_core rel True (shifted_of a k) (negated_of b) ∷ []) ≡ compared_made start rel k members

made-alike : (made : MadeCores) (vs : ℕ) (cs : List Core) → vs ≡ made.vars → cs ≡ made.cores → made_here vs cs ≡ made
made-alike made vs cs e f = rw (e, f) refl

first-bounded : (queue : List OrdInt) → AreSound queue → IsBounded (first_or_zero queue)
first-bounded [] h = (omega (arith, ints), omega (arith, ints))
first-bounded (a ∷ rest) h = h.0.0

rest-sound : (queue : List OrdInt) → AreSound queue → AreSound (drop 1 queue)
rest-sound [] h = tt
rest-sound (a ∷ rest) h = h.1

first-limit : (queue : List OrdInt) → greatest_abs (first_or_zero queue) ≤ abs_total queue
first-limit [] = omega (arith, ints)
first-limit (a ∷ rest) = omega arith

module _ (start : ℕ) (rel : Relation) (members : List OrdInt) (vars : ℕ) where
  end-at : (queue : List OrdInt) (cores : List Core) (k : ℤ) → Queued start rel members vars queue cores → length queue ≤ 2
      → abs_total members + unsigned_abs k < 2 ^ 100 → IsEnd start rel members vars (first_or_zero queue) (first_or_zero (drop 1 queue)) cores k
  end-at queue cores k q two limit =
      let same = compared-of-two vars rel k queue two in
      let few : greatest_abs (first_or_zero queue) + unsigned_abs k < 2 ^ 100 = omega (arith, first-limit queue, q.limit, limit) in
      let vs : vars ≡ (compared_made start rel k members).vars = sym (ap (λ (made : MadeCores). made.vars) same) ∙ q.vars_left k in
      let cs : cores ++ comparison_core rel True (shifted_of (first_or_zero queue) k) (negated_of (first_or_zero (drop 1 queue))) ∷ [] ≡ (compared_made start rel k members).cores =
      ap (λ (made : MadeCores). cores ++ made.cores) (sym same) ∙ q.cores_left k in
      record {
        first = first-bounded queue q.sound;
        second = first-bounded (drop 1 queue) (rest-sound queue q.sound);
        shifted = (omega (arith, ints, few), omega (arith, ints, few));
        made = made-alike (compared_made start rel k members) vars (cores ++ comparison_core rel True (shifted_of (first_or_zero queue) k) (negated_of (first_or_zero (drop 1 queue))) ∷ []) vs cs;
      }

  pub end : (queue more : List OrdInt) (a b : OrdInt) (cores : List Core) (k : ℤ) → Queued start rel members vars queue cores → length queue ≤ 2
      → a ≡ first_or_zero queue → more ≡ drop 1 queue → b ≡ first_or_zero more
      → abs_total members + unsigned_abs k < 2 ^ 100 → IsEnd start rel members vars a b cores k
  end queue more a b cores k q two ea em eb limit = rw (eb, em, ea) (end-at queue cores k q two limit)
