-- What taking a line in parts comes to, and which line fails.
use Rattle.std.proofs.Common.{◌≡◌, ℕ, ◌+◌, ◌^◌, ◌<◌, ◌≤◌, ◌⊎◌, inl, inr, Bool, true, false, not, List, [], ◌∷◌, ◌++◌, map, Option, Some, None, MatchBool, MatchOption, refl, sym, ap, subst, ◌∙◌, arith, ℤ, pos, negsuc, get_or, drop, length, ◌==◌}
use Rattle.std.specs.Prelude.{is_some, unsigned_abs, FitsSigned, ◌+ℤ◌}
use Rattle.std.specs.Int.{w128}
use Rattle.std.specs.Int.Signed.{mag}
use Rattle.std.specs.Fmt.{signed_decimal}
use Rattle.std.proofs.lemmas.Bool.{true≢false, false≢true, eqb-true}
use Rattle.bee_text.proofs.NumberLemmas.{signed_decimal_injective_wide}
use Rattle.order_ints.specs.declared.atom.Atom.{Atom}
use Rattle.order_ints.specs.declared.order_int.OrdInt.{OrdInt}
use Rattle.order_ints.specs.declared.order_int.MapValue.{MapValue}
use Rattle.order_ints.specs.OrderRange.{weights}
use Rattle.bumblebee_reader.specs.Names.{IsNew}
use Rattle.name_map.specs.declared.entries.MapEntry.{MapEntry}
use Rattle.dimacs_out.specs.CompiledText.{step_word, entry_line, clause_words}
use Rattle.order_ints.specs.declared.literal.Lit.{Lit}
use Rattle.order_ints.specs.Place.{ClauseBelow}
use Rattle.dimacs_out.proofs.LinesTell.{entry_line_tells}
use Rattle.dimacs_out.proofs.WordsTell.{step_words_tell}
use Rattle.dimacs_read.specs.declared.draft.TextStage.{TextStage}
use Rattle.dimacs_read.specs.declared.draft.TextStage.TheVariants.{Names}
use Rattle.dimacs_read.specs.Steps.{AreReadableWeights}
use Rattle.dimacs_read.specs.declared.entry.Kind.{Kind}
use Rattle.dimacs_read.specs.declared.entry.Kind.TheVariants as kind
use Rattle.dimacs_read.specs.Entries.{kind_word, kind_of, tail_words, IsReadableInt, IsReadableValue}
use Rattle.dimacs_read.specs.TextLines.{IsReadableEntry, first_above}
use Rattle.dimacs_read.specs.TextSteps.{Draft, IsNamed, IsLedgered, IsNumbers, IsProblem, NextAt, NextLine, MayHaveNumbers, FailsBefore}
use Rattle.dimacs_read.proofs.TextSame.{numbers_tell, entry_of}
use Rattle.dimacs_read.proofs.ValuesRead.{none_some, some_same}

-- the ledger's line and then the line of the numbers, after each other
pub behind_taken : (a b : Bool) (s m t : Draft) (line : List ℕ) → MatchBool a (IsLedgered s line m) (((u : Draft) → IsLedgered s line u → ⊥) × (m ≡ s)) → a ≡ false
    → MatchBool b (IsProblem m line t) (((u : Draft) → IsProblem m line u → ⊥) × (t ≡ m))
    → MatchBool b (IsLedgered s line t ⊎ IsProblem s line t) (((u : Draft) → IsLedgered s line u ⊎ IsProblem s line u → ⊥) × (t ≡ s))
behind_taken true b s m t line p e q = absurd (true≢false e)
behind_taken false true s m t line p e q = let P : Draft → Type 0 = λ x. IsProblem x line t in inr (subst P p.1 q)
behind_taken false false s m t line p e q =
    let P : Draft → Type 0 = λ x. (u : Draft) → IsProblem x line u → ⊥ in
    (neither (subst P p.1 q.0), q.1 ∙ p.1)
  where
    neither : ((u : Draft) → IsProblem s line u → ⊥) → (u : Draft) → IsLedgered s line u ⊎ IsProblem s line u → ⊥
    neither none u (inl h) = p.0 u h
    neither none u (inr h) = none u h

abbrev pub Behind : Draft → List ℕ → Draft → Type 0
Behind s line t = IsLedgered s line t ⊎ IsProblem s line t

-- the line of a name, and then those behind
pub among_taken : (a b : Bool) (s m t : Draft) (line : List ℕ) → MatchBool a (IsNamed s line m) (((u : Draft) → IsNamed s line u → ⊥) × (m ≡ s)) → a ≡ false
    → MatchBool b (Behind m line t) (((u : Draft) → Behind m line u → ⊥) × (t ≡ m))
    → MatchBool b (NextAt Names s line t) (((u : Draft) → NextAt Names s line u → ⊥) × (t ≡ s))
among_taken true b s m t line p e q = absurd (true≢false e)
among_taken false true s m t line p e q = let P : Draft → Type 0 = λ x. Behind x line t in inr (subst P p.1 q)
among_taken false false s m t line p e q =
    let P : Draft → Type 0 = λ x. (u : Draft) → Behind x line u → ⊥ in
    (neither (subst P p.1 q.0), q.1 ∙ p.1)
  where
    neither : ((u : Draft) → Behind s line u → ⊥) → (u : Draft) → NextAt Names s line u → ⊥
    neither none u (inl h) = p.0 u h
    neither none u (inr h) = none u h

abbrev named_after : Draft → MapEntry → Draft
named_after s e = record { stage = Names; entries = s.entries ++ e ∷ []; ledger = s.ledger; clauses = s.clauses }

-- the line of a name whose entry was added, or was not
pub name_taken : (b : Bool) (s t : Draft) (line : List ℕ) (e : MapEntry) → IsReadableEntry e → line ≡ entry_line e
    → MatchBool b (IsNew e.name (map (λ f. f.name) s.entries) × (t ≡ record { stage = Names; entries = s.entries ++ e ∷ []; ledger = s.ledger; clauses = s.clauses })) ((IsNew e.name (map (λ f. f.name) s.entries) → ⊥) × (t ≡ s))
    → MatchBool b (IsNamed s line t) (((u : Draft) → IsNamed s line u → ⊥) × (t ≡ s))
name_taken true s t line e readable spelled h = record { entry = e; spelled = spelled; readable = readable; new = h.0; after = h.1 }
name_taken false s t line e readable spelled h = (other, h.1)
  where
    other : (u : Draft) → IsNamed s line u → ⊥
    other u n =
        let k = 2 ^ 27 + 1 in
        let same : n.entry ≡ e = entry_line_tells k k n.entry e (entry_of n.entry n.readable) (entry_of e readable) (sym n.spelled ∙ spelled) in
        let P : MapEntry → Type 0 = λ f. IsNew f.name (map (λ g. g.name) s.entries) in
        h.0 (subst P same n.new)

-- the line of the numbers that doesn't fit

pub above_no_problem : (s t : Draft) (line : List ℕ) (v c : ℕ) (none : Bool) → IsNumbers line v c → is_some (first_above v s.entries s.ledger) ≡ not none → none ≡ false → IsProblem s line t → ⊥
above_no_problem s t line v c true h e f p = true≢false f
above_no_problem s t line v c false h e f p =
    let same = numbers_tell line p.vars v p.count c p.numbers h in
    false≢true (sym (ap (λ n. is_some (first_above n s.entries s.ledger)) (sym same.vars_same) ∙ ap is_some p.within) ∙ e)

pub most_no_problem : (s t : Draft) (line : List ℕ) (v c : ℕ) → IsNumbers line v c → 2 ^ 26 < v → IsProblem s line t → ⊥
most_no_problem s t line v c h above p =
    let same = numbers_tell line p.vars v p.count c p.numbers h in
    omega (arith, same.vars_same, p.most)

-- which line fails

pub before_no_numbers : (s : Draft) (line : List ℕ) → ((v c : ℕ) → IsNumbers line v c → ⊥) → FailsBefore s line None
before_no_numbers s line none n a = none a.vars a.count a.numbers

pub before_shut : (s : Draft) (line : List ℕ) → (MayHaveNumbers s.stage → ⊥) → FailsBefore s line None
before_shut s line shut n a = shut a.may

pub before_numbers : (s : Draft) (line : List ℕ) (v c : ℕ) (above : Option ℕ) → MayHaveNumbers s.stage → IsNumbers line v c → above ≡ first_above v s.entries s.ledger → FailsBefore s line above
before_numbers s line v c (Some n) may numbers e = record { may = may; vars = v; count = c; numbers = numbers; above = sym e }
before_numbers s line v c None may numbers e = λ n a. (let same = numbers_tell line a.vars v a.count c a.numbers numbers in
    none_some (first_above v s.entries s.ledger) n (sym e) (ap (λ m. first_above m s.entries s.ledger) (sym same.vars_same) ∙ a.above))

-- the words of an integer

mag_small : (z : ℤ) → unsigned_abs z ≤ 2 ^ 30 → mag z + 1 < 10 ^ 64
mag_small (pos n) h = omega arith
mag_small (negsuc n) h = omega arith

pub fits_small : (z : ℤ) → unsigned_abs z ≤ 2 ^ 30 → FitsSigned w128 z
fits_small (pos n) h = record { sfits = omega arith }
fits_small (negsuc n) h = record { sfits = omega arith }

pub int_taken : (o : Option OrdInt) (i : OrdInt) (words rest : List (List ℕ)) (word : List ℕ) (total : ℕ) → words ≡ word ∷ rest → unsigned_abs i.base ≤ 2 ^ 30
    → word ≡ signed_decimal i.base → AreReadableWeights i.steps → rest ≡ map step_word i.steps → total ≡ weights i.steps
    → MatchOption o (2 ^ 30 + 1 ≤ unsigned_abs (i.base +ℤ pos total)) (λ a. (unsigned_abs (i.base +ℤ pos total) ≤ 2 ^ 30) × (a ≡ i))
    → MatchOption o ((a : OrdInt) → IsReadableInt a → words ≡ signed_decimal a.base ∷ map step_word a.steps → ⊥) (λ a. IsReadableInt a × (words ≡ signed_decimal a.base ∷ map step_word a.steps))
int_taken (Some a) i words rest word total cut low spelled readable behind total_is h =
    let P : OrdInt → Type 0 = λ n. IsReadableInt n × (words ≡ signed_decimal n.base ∷ map step_word n.steps) in
    let Q : ℕ → Type 0 = λ n. unsigned_abs (i.base +ℤ pos n) ≤ 2 ^ 30 in
    let high : unsigned_abs (i.base +ℤ pos (weights i.steps)) ≤ 2 ^ 30 = subst Q total_is h.0 in
    let readable_int : IsReadableInt i = record { value = (fits_small i.base low, readable.below, readable.weights_count); in_limit = (low, high) } in
    subst P (sym h.1) (readable_int, cut ∙ (λ k. spelled k ∷ behind k))
int_taken None i words rest word total cut low spelled readable behind total_is h = λ a r same.
    let words_same = sym cut ∙ same in
    let base_same : i.base ≡ a.base = signed_decimal_injective_wide i.base a.base (mag_small i.base low) (mag_small a.base r.in_limit.0) (sym spelled ∙ ap (λ ws. get_or ws 0 []) words_same) in
    let n = 2 ^ 27 + 1 in
    let steps_same : i.steps ≡ a.steps = step_words_tell n n i.steps a.steps (omega arith) (omega arith) readable.below r.value.1 readable.weights_count r.value.2 (sym behind ∙ ap (drop 1) words_same) in
    let total_same : total ≡ weights a.steps = total_is ∙ ap weights steps_same in
    let both : i.base +ℤ pos total ≡ a.base +ℤ pos (weights a.steps) = λ k. base_same k +ℤ pos (total_same k) in
    let Q : ℤ → Type 0 = λ z. unsigned_abs z ≤ 2 ^ 30 in
    let most : unsigned_abs (i.base +ℤ pos total) ≤ 2 ^ 30 = subst Q (sym both) r.in_limit.1 in
    past _ h most
  where
    past : (m : ℕ) → 2 ^ 30 + 1 ≤ m → m ≤ 2 ^ 30 → ⊥
    past m above below = omega arith

-- what a name's line was read as

pub name_read : (o : Option MapEntry) (line : List ℕ) (e : MapEntry) → MatchOption o ((f : MapEntry) → IsReadableEntry f → line ≡ entry_line f → ⊥) (λ f. IsReadableEntry f × (line ≡ entry_line f)) → o ≡ Some e
    → IsReadableEntry e × (line ≡ entry_line e)
name_read None line e h is = absurd (cc)
name_read (Some f) line e h is = let P : MapEntry → Type 0 = λ g. IsReadableEntry g × (line ≡ entry_line g) in subst P (some_same f e is) h

pub no_value : (k : Kind) (rest : List (List ℕ)) (o : Option MapValue)
    → MatchOption o ((v : MapValue) → kind_of v ≡ k → IsReadableValue v → rest ≡ tail_words v → ⊥) (λ v. (kind_of v ≡ k) × IsReadableValue v × (rest ≡ tail_words v)) → o ≡ None
    → (v : MapValue) → kind_of v ≡ k → IsReadableValue v → rest ≡ tail_words v → ⊥
no_value k rest None h is = h
no_value k rest (Some v) h is = absurd (cc)

pub kind_tells : (j k : Kind) → kind_word j ≡ kind_word k → j ≡ k
kind_tells kind.Bool kind.Bool e = refl
kind_tells kind.Int kind.Int e = refl
kind_tells kind.Bool kind.Int e = absurd (omega (arith, ap (λ w. get_or w 0 0) e))
kind_tells kind.Int kind.Bool e = absurd (omega (arith, ap (λ w. get_or w 0 0) e))

-- parts of what a call ensures

pub true_part : {A : Type 0} (B : Type 0) (b : Bool) → MatchBool b A B → b ≡ true → A
true_part B true h e = h
true_part B false h e = absurd (false≢true e)

pub false_part : {B : Type 0} (A : Type 0) (b : Bool) → MatchBool b A B → b ≡ false → B
false_part A true h e = absurd (true≢false e)
false_part A false h e = h

pub empty_nil : (xs : List ℕ) → (length xs == 0) ≡ true → xs ≡ []
empty_nil [] e = refl
empty_nil (x ∷ xs) e = absurd (omega (arith, eqb-true (length (x ∷ xs)) 0 e))

pub no_clause : {X : Type 0} (view : X → List Lit) (n : ℕ) (words : List (List ℕ)) (o : Option X)
    → MatchOption o ((c : List Lit) → ClauseBelow n c → words ≡ clause_words c → ⊥) (λ x. ClauseBelow n (view x) × (words ≡ clause_words (view x))) → o ≡ None
    → (c : List Lit) → ClauseBelow n c → words ≡ clause_words c → ⊥
no_clause view n words None h is = h
no_clause view n words (Some x) h is = absurd (cc)

pub record FoundSteps (words : List (List ℕ)) (steps : List (Atom × ℕ)) (total : ℕ) : Type 0 where
  pub readable : AreReadableWeights steps
  pub spelled : words ≡ map step_word steps
  pub total_is : total ≡ weights steps

pub some_steps : {X : Type 0} (view : X → List (Atom × ℕ)) (total : X → ℕ) (words : List (List ℕ)) (o : Option X) (x : X)
    → MatchOption o ((ss : List (Atom × ℕ)) → AreReadableWeights ss → words ≡ map step_word ss → ⊥) (λ s. AreReadableWeights (view s) × (words ≡ map step_word (view s)) × (total s ≡ weights (view s)))
    → o ≡ Some x → FoundSteps words (view x) (total x)
some_steps view total words None x h is = absurd (cc)
some_steps {X} view total words (Some y) x h is =
    let P : X → Type 0 = λ s. FoundSteps words (view s) (total s) in
    subst P (some_same y x is) (record { readable = h.0; spelled = h.1; total_is = h.2 })

pub stage_taken : (b : Bool) (g : TextStage) (s t : Draft) (line : List ℕ) → s.stage ≡ g → MatchBool b (NextAt g s line t) (((u : Draft) → NextAt g s line u → ⊥) × (t ≡ s))
    → MatchBool b (NextLine s line t) (((u : Draft) → NextLine s line u → ⊥) × (t ≡ s))
stage_taken b g s t line is h =
    let P : TextStage → Type 0 = λ f. MatchBool b (NextAt f s line t) (((u : Draft) → NextAt f s line u → ⊥) × (t ≡ s)) in
    subst P (sym is) h
