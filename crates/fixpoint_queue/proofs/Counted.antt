-- The queue and the counter after a query.
use Rattle.std.proofs.Common.{◌≡◌, ◌⊎◌, inl, inr, ℕ, zero, suc, ◌+◌, ◌≤◌, ◌<◌, ◌==◌, Bool, true, false, not, List, [], ◌∷◌, ◌++◌, length, get_or, Contains, refl, sym, ap, ◌∙◌, subst, arith, append_assoc, ⊎_elim, Option, Some, None, Result, Ok}
use Rattle.std.specs.Prelude.{◌≢◌, option_map, is_some, IsSomeAnd, MatchOption, if◌then◌else◌}
use Rattle.std.proofs.lemmas.Option.{none-some}
use Rattle.std.proofs.lemmas.Bool.{false≢true, cases_eq, cases_lt}
use Rattle.std.proofs.lemmas.Bool.Decides.{nat_tests}
use Rattle.std.proofs.lemmas.List.{append_cancel_left}
use Rattle.order_ints.specs.declared.atom.Atom.{Atom}
use Rattle.order_ints.specs.declared.atom.Atom.TheVariants.{True, False, Of}
use Rattle.order_ints.specs.declared.literal.Lit.{Lit}
use Rattle.order_ints.specs.Truth.{not_atom}
use Rattle.order_ints.specs.View.{label_of, resolve}
use Rattle.order_ints.specs.Label.{IsLabel}
use Rattle.order_ints.specs.Same.{same_atom}
use Rattle.order_ints.specs.Equality.{same_atom-true}
use Rattle.order_ints.proofs.Labels.{resolve-label, AtomBelow-label}
use Rattle.core_forms.specs.declared.equation.Equation.{Equation}
use Rattle.core_forms.specs.declared.form.Core.{Core}
use Rattle.core_forms.specs.Variables.{core_vars, atom_vars, IsLabelVar}
use Rattle.core_forms.proofs.VariableLaws.{none_there, own_var, OfVars, each_vars, vars-trimmed}
use Rattle.rule_base.specs.Pairs.{IsClosed}
use Rattle.equation_store.specs.declared.relabel.Change.{Change}
use Rattle.equation_store.specs.Class.{IsMember, is_of}
use Rattle.equation_store.specs.Merge.{change_of, change_by, change_to, losing_by, loser_of, merged}
use Rattle.equation_store.specs.Class.{class_size}
use Rattle.equation_store.proofs.Changes.{merge_changes}
use Rattle.index_ring.specs.Lists.{times, without}
use Rattle.index_ring.proofs.Times.{length-without}
use Rattle.core_occurrences.specs.Lists.{OccurrenceLists}
use Rattle.fixpoint_queue.specs.Listed.{HasVar}
use Rattle.ledger_text.specs.declared.line.Line.{Line}
use Rattle.ledger_text.specs.declared.line.Line.TheVariants.{Equate}
use Rattle.step_kernel.specs.declared.fault.StepFault.{StepFault}
use Rattle.step_kernel.specs.Kernel.{Kernel, core_at, trimmed_at, pending}
use Rattle.core_rules.specs.Instances.{is_instance_at}
use Rattle.step_kernel.specs.Steps.{step, equated}
use Rattle.core_rules.proofs.InstanceLaws.{instance-each}
use Rattle.step_kernel.proofs.Splits.{there-bounds}
use Rattle.step_kernel.proofs.There.{is-there, there-labels}
use Rattle.fixpoint_queue.specs.IdQueue.{Ids}
use Rattle.fixpoint_queue.specs.Ledgers.{Leads, AddsEquations}
use Rattle.fixpoint_queue.specs.Pairs.{is_relabelled, relabelled_pairs, pairs_between, pairs_to, pairs_along, IsCounted}
use Rattle.fixpoint_queue.specs.Waits.{IsSaturation, IsWoken, IsWokenFor, left_to_ask}
use Rattle.fixpoint_queue.proofs.AskedCores.{loses}
use Rattle.fixpoint_queue.proofs.Entries.{core-bounds}
use Rattle.fixpoint_queue.proofs.PairLaws.{sum-le, sum-add, sum-one, one_at, one_at-own, one_at-other, length-sum, counted-var, counted_at, pairs-sum}

-- ---- the variable that loses

-- it is that of one of the two atoms
by-two : (size : ℕ → ℕ) (l m : Lit) (c : Change) (same : Bool)
    → ◌≡◌ {A = Option Change} (if same then None else Some (if losing_by size l.var m.var == l.var then change_to l (Of m) else change_to m (Of l))) (Some c)
    → (is_of c.loser (Of l) ≡ true) ⊎ (is_of c.loser (Of m) ≡ true)
by-two size l m c true e = absurd (none-some c e)
by-two size l m c false e = by (losing_by size l.var m.var == l.var) e
  where
    some-of : (x y : Change) → ◌≡◌ {A = Option Change} (Some x) (Some y) → x ≡ y
    some-of x y h = cc

    own : (n : ℕ) → (n == n) ≡ true
    own n = grind (arith, nat_tests)

    by : (b : Bool) → ◌≡◌ {A = Option Change} (Some (if b then change_to l (Of m) else change_to m (Of l))) (Some c) → (is_of c.loser (Of l) ≡ true) ⊎ (is_of c.loser (Of m) ≡ true)
    by true h = inl (subst (λ (d : Change). is_of d.loser (Of l) ≡ true) (some-of (change_to l (Of m)) c h) (own l.var))
    by false h = inr (subst (λ (d : Change). is_of d.loser (Of m) ≡ true) (some-of (change_to m (Of l)) c h) (own m.var))

by-one : (l : Lit) (a : Atom) (c : Change) → ◌≡◌ {A = Option Change} (Some (change_to l a)) (Some c) → is_of c.loser (Of l) ≡ true
by-one l a c h = subst (λ (d : Change). is_of d.loser (Of l) ≡ true) (some-of (change_to l a) c h) (own l.var)
  where
    some-of : (x y : Change) → ◌≡◌ {A = Option Change} (Some x) (Some y) → x ≡ y
    some-of x y e = cc

    own : (n : ℕ) → (n == n) ≡ true
    own n = grind (arith, nat_tests)

pub loser-there : (size : ℕ → ℕ) (a b : Atom) (c : Change) → change_by size a b ≡ Some c → (is_of c.loser a ≡ true) ⊎ (is_of c.loser b ≡ true)
loser-there size (Of l) (Of m) c e = by-two size l m c (l.var == m.var) e
loser-there size (Of l) True c e = inl (by-one l True c e)
loser-there size (Of l) False c e = inl (by-one l False c e)
loser-there size True (Of m) c e = inr (by-one m True c e)
loser-there size False (Of m) c e = inr (by-one m False c e)
loser-there size True True c e = absurd (none-some c e)
loser-there size True False c e = absurd (none-some c e)
loser-there size False True c e = absurd (none-some c e)
loser-there size False False c e = absurd (none-some c e)

-- and so is that of a merge of two labels
loser-of : (view : List Atom) (a b : Atom) → IsLabel view a × IsLabel view b → (x : ℕ) → loser_of view a b ≡ Some x → (is_of x a ≡ true) ⊎ (is_of x b ≡ true)
loser-of view a b labels x e = by (change_of view a b) refl (sym (ap (option_map (λ (c : Change). c.loser)) same) ∙ e)
  where
    same : change_of view (resolve view a) (resolve view b) ≡ change_of view a b
    same = ap (λ (d : Atom). change_of view d (resolve view b)) (resolve-label view a labels.0) ∙ ap (change_of view a) (resolve-label view b labels.1)

    some-of : (n m : ℕ) → ◌≡◌ {A = Option ℕ} (Some n) (Some m) → n ≡ m
    some-of n m h = cc

    by : (o : Option Change) → change_of view a b ≡ o → option_map (λ (c : Change). c.loser) o ≡ Some x → (is_of x a ≡ true) ⊎ (is_of x b ≡ true)
    by None at h = absurd (none-some x h)
    by (Some c) at h =
        let y : c.loser ≡ x = some-of c.loser x h in
        subst (λ (z : ℕ). (is_of z a ≡ true) ⊎ (is_of z b ≡ true)) y (loser-there (class_size view) a b c at)

-- the atoms of an equation are of labels of the core's variables
labels-closed : (R : ℕ → Type 0) → IsClosed (OfVars R)
labels-closed R = record { truth = λ v c. absurd (none_there v c); falsehood = λ v c. absurd (none_there v c); negation = turned }
  where
    turned : (a : Atom) → OfVars R a → OfVars R (not_atom a)
    turned True h = h
    turned False h = h
    turned (Of l) h = h

of-var : (x : ℕ) (a : Atom) → is_of x a ≡ true → Contains (atom_vars a) x
of-var x True e = absurd (false≢true e)
of-var x False e = absurd (false≢true e)
of-var x (Of l) e = let same : l.var ≡ x = grind (arith, nat_tests, e) in subst (λ (y : ℕ). Contains (l.var ∷ []) y) same (own_var l.var)

var-of : (x : ℕ) (a : Atom) → Contains (atom_vars a) x → is_of x a ≡ true
var-of x True c = absurd (none_there x c)
var-of x False c = absurd (none_there x c)
var-of x (Of l) c = at c.0 c.1 c.2
  where
    at : (i : ℕ) → i < 1 → get_or (l.var ∷ []) i x ≡ x → (l.var == x) ≡ true
    at zero lt e = grind (arith, nat_tests, e)
    at (suc i) lt e = absurd (omega (arith, lt))

-- ---- an equation that is taken

module _ (told : Core → Equation → Type 0) (k : Kernel) (occurs : OccurrenceLists) (old new : Ids) (marks : List Bool) (saturation : IsSaturation told k occurs old marks)
    (id : ℕ) (core : Core) (there : trimmed_at k id ≡ Some core) (e : Equation) (instance : is_instance_at core e ≡ true)
    (first : 1 ≤ times id old.queued)
  where
    labels : IsLabel k.view e.a × IsLabel k.view e.b
    labels = there-labels k id core saturation.kernel there e instance

    abbrev next-view : List Atom
    next-view = merged k.view e.a e.b

    abbrev count : ℕ → ℕ
    count i = counted_at k.view next-view (core_at k.cores i)

    module _ (x : ℕ) (loser : loser_of k.view e.a e.b ≡ Some x) (woken : IsWoken k x old new) where
      -- a core with a member of the class that loses counts
      counts : (i v : ℕ) (c : Core) → core_at k.cores i ≡ Some c → Contains (core_vars c) v → IsMember k.view x v → 1 ≤ count i
      counts i v c at has member =
          subst (λ (o : Option Core). 1 ≤ counted_at k.view (merged k.view e.a e.b) o) (sym at)
          (counted-var k.view (merged k.view e.a e.b) c (length k.view) v member.0 member.1 has relabelled)
        where
          differs : label_of (merged k.view e.a e.b) v ≢ label_of k.view v
          differs =
              (merge_changes k.view e.a e.b v saturation.kernel.labelled (AtomBelow-label k.view e.a labels.0) (AtomBelow-label k.view e.b labels.1) member.0 member.1).1
              (subst (λ (o : Option ℕ). IsSomeAnd o (λ y. IsMember k.view y v)) (sym loser) member)

          relabelled : is_relabelled k.view (merged k.view e.a e.b) v ≡ true
          relabelled = not_true (same_atom (label_of k.view v) (label_of (merged k.view e.a e.b) v)) (λ s. differs (sym (same_atom-true (label_of k.view v) (label_of (merged k.view e.a e.b) v) s)))
            where
              not_true : (b : Bool) → (b ≡ true → ⊥) → not b ≡ true
              not_true true h = absurd (h refl)
              not_true false h = refl

      -- the core that told the equation is one of these
      own-counts : 1 ≤ count id
      own-counts =
          let r = is-there k id core there in
          let R : ℕ → Type 0 = IsLabelVar k.view (core_vars r.core) in
          let in-core : (w : ℕ) → Contains (core_vars core) w → R w =
          λ w h. vars-trimmed k.view r.core w (subst (λ (t : Core). Contains (core_vars t) w) (sym r.is) h) in
          let both = instance-each (OfVars R) (labels-closed R) core e (each_vars R core in-core) instance in
          let has : R x = ⊎_elim (λ (h : is_of x e.a ≡ true). both.0 x (of-var x e.a h)) (λ (h : is_of x e.b ≡ true). both.1 x (of-var x e.b h)) (loser-of k.view e.a e.b labels x loser) in
          let range = core-bounds k saturation.kernel id r.core r.at has.0 has.1 in
          counts id has.0 r.core r.at has.1 (range.0, range.1, var-of x (label_of k.view has.0) has.2)

      woken-counts : (i : ℕ) → 1 ≤ times i new.queued → (1 ≤ times i old.queued) ⊎ (1 ≤ count i)
      woken-counts i h =
          ⊎_elim (λ (was : 1 ≤ times i old.queued). inl was)
          (λ (at : (v : ℕ) × IsMember k.view x v × HasVar k i v).
          let has = at.2 in
          inr (counts i at.0 has.0 has.1 has.2 at.1))
          (woken.only i h)

      each : (i : ℕ) → one_at id i + times i new.queued ≤ times i old.queued + count i
      each i =
          ⊎_elim
          (λ (e : id ≡ i). subst (λ (j : ℕ). one_at id j + times j new.queued ≤ times j old.queued + count j) e (omega (arith, one_at-own id, own-counts, woken.ids.once id, first)))
          (λ (other : id ≡ i → ⊥).
          ⊎_elim
          (λ (none : times i new.queued < 1). omega (arith, none, one_at-other id i other))
          (λ (there : 1 ≤ times i new.queued).
          ⊎_elim (λ (was : 1 ≤ times i old.queued). omega (arith, was, one_at-other id i other, woken.ids.once i))
          (λ (c : 1 ≤ count i). omega (arith, c, one_at-other id i other, woken.ids.once i)) (woken-counts i there))
          (cases_lt (times i new.queued) 1))
          (cases_eq id i)

      inside-old : (i : ℕ) → 1 ≤ times i old.queued → (1 ≤ i) × (i ≤ length k.cores)
      inside-old i h = let p = saturation.pending i h in there-bounds k.cores i p.0 p.1

      inside-new : (i : ℕ) → 1 ≤ times i new.queued → (1 ≤ i) × (i ≤ length k.cores)
      inside-new i h =
          ⊎_elim (λ (was : 1 ≤ times i old.queued). inside-old i was)
          (λ (at : (v : ℕ) × IsMember k.view x v × HasVar k i v).
          let has = at.2 in
          there-bounds k.cores i has.0 has.1)
          (woken.only i h)

      -- the queue and one query grow by no more than the pairs
      pub fewer-pairs : 1 + length new.queued ≤ length old.queued + relabelled_pairs k.view next-view (pending k.cores)
      fewer-pairs =
          let n = length k.cores in
          let own = inside-old id first in
          omega (
            arith,
            length-sum n new.queued inside-new,
            length-sum n old.queued inside-old,
            sum-one n id own.0 own.1,
            pairs-sum k.view next-view k.cores,
            sum-add n (one_at id) (λ i. times i new.queued),
            sum-add n (λ i. times i old.queued) count,
            sum-le n (λ i. one_at id i + times i new.queued) (λ i. times i old.queued + count i) (λ i low high. each i),
          )

    -- so do they where no bottom is found
    pub fewer-equated : IsWokenFor k e old new → (equated k e).bottom ≡ false → 1 + length new.queued ≤ length old.queued + pairs_between k (equated k e)
    fewer-equated woken running = by (same_atom e.a (not_atom e.b)) refl running
      where
        by : (b : Bool) → same_atom e.a (not_atom e.b) ≡ b → (if b then record k { bottom = true } else record k { view = merged k.view e.a e.b }).bottom ≡ false
            → 1 + length new.queued ≤ length old.queued + pairs_between k (if b then record k { bottom = true } else record k { view = merged k.view e.a e.b })
        by true h r = absurd (false≢true (sym r))
        by false h r = loses-by (loser_of k.view e.a e.b) refl (loses told k occurs old new marks saturation id core there e instance woken h) woken
          where
            loses-by : (o : Option ℕ) → loser_of k.view e.a e.b ≡ o → is_some o ≡ true → MatchOption o (new ≡ old) (λ x. IsWoken k x old new)
                → 1 + length new.queued ≤ length old.queued + relabelled_pairs k.view (merged k.view e.a e.b) (pending k.cores)
            loses-by None at some w = absurd (false≢true some)
            loses-by (Some x) at some w = fewer-pairs x at w

-- ---- the counter

-- the lines that were added are those
pub only-lines : (before behind lines added : List Line) → behind ≡ before ++ lines → behind ≡ before ++ added → lines ≡ added
only-lines before behind lines added h is = append_cancel_left before lines added (sym h ∙ is)

pub pairs-append : (told : Core → Equation → Type 0) (old mid : Kernel) (lines more : List Line) → Leads told old lines mid → pairs_along (Ok old) (lines ++ more) ≡ pairs_along (Ok old) lines + pairs_along (Ok mid) more
pairs-append told old mid [] more e = let same = ap (λ (k : Kernel). pairs_along (Ok k) more) e in omega (arith, same)
pairs-append told old mid (line ∷ lines) more leads =
    let next = leads.0 in
    let stepped = leads.1 in
    let rest = pairs-append told next mid lines more leads.3 in
    let whole : pairs_along (step old line) (lines ++ more) ≡ pairs_along (step old line) lines + pairs_along (Ok mid) more =
    subst (λ (r : Result Kernel StepFault). pairs_along r (lines ++ more) ≡ pairs_along r lines + pairs_along (Ok mid) more) (sym stepped) rest in
    omega (arith, whole)

-- one count after another
pub counted-then : (told : Core → Equation → Type 0) (old mid new : Kernel) (before behind last : List Line) (queued counter now left later rest : ℕ)
    → AddsEquations told before old behind mid → AddsEquations told behind mid last new → IsCounted old before behind queued counter now left → IsCounted mid behind last left now later rest
    → IsCounted old before last queued counter later rest
counted-then told old mid new before behind last queued counter now left later rest first next one two lines is =
    let added : lines ≡ first.added ++ next.added =
    only-lines before last lines (first.added ++ next.added) is (next.is ∙ ap (λ (l : List Line). l ++ next.added) first.is ∙ append_assoc before first.added next.added) in
    let both = pairs-append told old mid first.added next.added first.leads in
    omega (arith, one first.added first.is, two next.added next.is, both, ap (pairs_along (Ok old)) added)

-- nothing asked
pub counted-none : (k : Kernel) (before : List Line) (queued counter : ℕ) → IsCounted k before before queued counter counter queued
counted-none k before queued counter lines is = omega arith

-- with fewer left
pub counted-less : (k : Kernel) (before behind : List Line) (queued counter now left less : ℕ) → less ≤ left → IsCounted k before behind queued counter now left → IsCounted k before behind queued counter now less
counted-less k before behind queued counter now left less le h lines is = omega (arith, le, h lines is)

-- a query that is refused, or tells that there is no solution
pub counted-last : (k : Kernel) (before behind : List Line) (queued counter now : ℕ) → 1 ≤ queued → now ≤ counter + 3 → IsCounted k before behind queued counter now 0
counted-last k before behind queued counter now some most lines is = omega (arith, some, most)

-- one that tells nothing
pub counted-quiet : (k : Kernel) (before : List Line) (id counter now : ℕ) (old new : List ℕ) → 1 ≤ times id old → new ≡ without id old → now ≤ counter + 3 → IsCounted k before before (length old) counter now (length new)
counted-quiet k before id counter now old new there is most lines e = omega (arith, there, ap length is, length-without id old, most)

pub some-queued : (id : ℕ) (queued : List ℕ) → 1 ≤ times id queued → 1 ≤ length queued
some-queued id queued there = omega (arith, there, length-without id queued)

-- one that tells an equation
pub counted-equation : (k new : Kernel) (before behind : List Line) (id counter now : ℕ) (e : Equation) (old queue : List ℕ) → behind ≡ before ++ Equate id e ∷ [] → step k (Equate id e) ≡ Ok new
    → 1 + length queue ≤ length old + pairs_between k new → now ≤ counter + 3 → IsCounted k before behind (length old) counter now (length queue)
counted-equation k new before behind id counter now e old queue is stepped fewer most lines added =
    let one : lines ≡ Equate id e ∷ [] = only-lines before behind lines (Equate id e ∷ []) added is in
    let pairs : pairs_along (Ok k) lines ≡ pairs_to k (step k (Equate id e)) + 0 = ap (pairs_along (Ok k)) one in
    omega (arith, fewer, most, pairs, ap (pairs_to k) stepped)

-- what is left to ask where no bottom is found, and where it is
pub left-running : (k : Kernel) (queue : Ids) → k.bottom ≡ false → left_to_ask k queue ≡ length queue.queued
left-running k queue running = ap (λ (b : Bool). if b then 0 else length queue.queued) running

left-bottom : (k : Kernel) (queue : Ids) → k.bottom ≡ true → left_to_ask k queue ≡ 0
left-bottom k queue bottom = ap (λ (b : Bool). if b then 0 else length queue.queued) bottom

pub counted-silent : (k : Kernel) (before : List Line) (id counter now : ℕ) (old new : Ids) → k.bottom ≡ false → 1 ≤ times id old.queued → new.queued ≡ without id old.queued → now ≤ counter + 3
    → IsCounted k before before (length old.queued) counter now (left_to_ask k new)
counted-silent k before id counter now old new running there is most =
    subst (λ (n : ℕ). IsCounted k before before (length old.queued) counter now n) (sym (left-running k new running)) (counted-quiet k before id counter now old.queued new.queued there is most)

pub counted-taken : (told : Core → Equation → Type 0) (k : Kernel) (occurs : OccurrenceLists) (old queue : Ids) (marks : List Bool) → IsSaturation told k occurs old marks
    → (id : ℕ) (core : Core) → trimmed_at k id ≡ Some core → (e : Equation) → is_instance_at core e ≡ true → 1 ≤ times id old.queued → IsWokenFor k e old queue
    → (new : Kernel) → new ≡ equated k e → step k (Equate id e) ≡ Ok new → (before behind : List Line) → behind ≡ before ++ Equate id e ∷ [] → (counter now : ℕ) → now ≤ counter + 3
    → IsCounted k before behind (length old.queued) counter now (left_to_ask new queue)
counted-taken told k occurs old queue marks saturation id core there e instance first woken new is stepped before behind line counter now most = by new.bottom refl
  where
    by : (b : Bool) → new.bottom ≡ b → IsCounted k before behind (length old.queued) counter now (left_to_ask new queue)
    by true bottom =
        subst (λ (n : ℕ). IsCounted k before behind (length old.queued) counter now n) (sym (left-bottom new queue bottom))
        (counted-last k before behind (length old.queued) counter now (some-queued id old.queued first) most)
    by false running =
        let fewer : 1 + length queue.queued ≤ length old.queued + pairs_between k new =
        subst (λ (kk : Kernel). 1 + length queue.queued ≤ length old.queued + pairs_between k kk) (sym is)
        (fewer-equated told k occurs old queue marks saturation id core there e instance first woken (sym (ap (λ (kk : Kernel). kk.bottom) is) ∙ running)) in
        subst (λ (n : ℕ). IsCounted k before behind (length old.queued) counter now n) (sym (left-running new queue running))
        (counted-equation k new before behind id counter now e old.queued queue.queued line stepped fewer most)
