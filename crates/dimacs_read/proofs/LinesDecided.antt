-- Whether a line is the next one of a compiled text can be decided.
use Rattle.std.proofs.Common.{◌≡◌, ℕ, ◌+◌, ◌^◌, ◌<◌, ◌≤◌, ◌⊎◌, inl, inr, List, [], ◌∷◌, ◌++◌, codes, length, map, drop, get_or, Option, None, Some, ℤ, refl, sym, ap, ap₂, subst, ◌∙◌, arith}
use Rattle.std.specs.Prelude.{unsigned_abs}
use Rattle.std.specs.Fmt.{signed_decimal}
use Rattle.bee_text.specs.Words.{join_words, split_blanks}
use Rattle.bee_text.proofs.WordLemmas.{join_words-split_blanks}
use Rattle.order_ints.specs.declared.atom.Atom.{Atom}
use Rattle.order_ints.specs.declared.order_int.OrdInt.{OrdInt}
use Rattle.order_ints.specs.declared.order_int.MapValue.{MapValue}
use Rattle.order_ints.specs.declared.order_int.MapValue.TheVariants.{Bool as OfBool, Int as OfInt}
use Rattle.order_ints.specs.Place.{AtomBelow}
use Rattle.order_ints.specs.OrderRange.{low_of, high_of}
use Rattle.core_forms.specs.declared.equation.Rule.{Rule}
use Rattle.core_forms.specs.declared.equation.Rule.TheVariants.{Order, Form, Table}
use Rattle.ledger_text.specs.declared.line.Line.{Line}
use Rattle.ledger_text.specs.declared.line.Line.TheVariants.{Equate, Split, Encode}
use Rattle.ledger_text.specs.Words.{atom_word}
use Rattle.ledger_text.specs.Steps.{IsReadableStep}
use Rattle.bumblebee_reader.specs.Names.{is_name, IsDeclarable, IsNew}
use Rattle.name_map.specs.declared.entries.MapEntry.{MapEntry}
use Rattle.dimacs_out.specs.CompiledText.{ValueBelow, entry_line, clause_line, clause_words, heading, ledger_line, numbers_line}
use Rattle.dimacs_read.specs.declared.draft.TextStage.{TextStage}
use Rattle.dimacs_read.specs.declared.draft.TextStage.TheVariants as stage
use Rattle.dimacs_read.specs.declared.entry.Kind.{Kind}
use Rattle.dimacs_read.specs.declared.entry.Kind.TheVariants.{Bool, Int}
use Rattle.dimacs_read.specs.Entries.{kind_word, kind_of, tail_words}
use Rattle.dimacs_read.specs.TextLines.{IsInLimit, IsReadableEntry, first_above}
use Rattle.dimacs_read.specs.TextSteps.{Draft, IsNamed, IsLedgered, IsNumbers, IsProblem, IsClause, NextAt, NextLine, HasAll, IsComplete, MayHaveNumbers, IsAbove}
use Rattle.dimacs_read.proofs.LiteralsRead.{LiteralsLeft}
use Rattle.dimacs_read.proofs.Pieces.{entry_pieces, entry_spelled, clause_pieces}
use Rattle.dimacs_read.proofs.Searches.{Decided, true-decided, and-decided, or-decided, not-decided, like-decided, most-decided, less-decided, number-decided, bytes-decided, words-decided, none-decided, IsThere, there-decided, Below, below-decided, Atomic, atom-decided, Whole, whole-decided, Steps, steps-decided, literals-decided}

-- Names.

pub new-decided : (name : List ℕ) (names : List (List ℕ)) → Decided (IsNew name names)
new-decided name [] = inl tt
new-decided name (n ∷ names) = and-decided (not-decided (bytes-decided name n)) (new-decided name names)

declarable-decided : (name : List ℕ) → Decided (IsDeclarable name)
declarable-decided name =
    like-decided (and-decided (true-decided (is_name name)) (and-decided (not-decided (bytes-decided name (codes "true"))) (not-decided (bytes-decided name (codes "false"))))) (λ h. record { spelled = h.0; not_true = h.1.0; not_false = h.1.1 }) (λ d. (d.spelled, (d.not_true, d.not_false)))

-- The line of a name.

abbrev most : ℕ
most = 2 ^ 27 + 1

-- what the words behind the name say
abbrev Limits : ℤ → List (Atom × ℕ) → Type 0
Limits base steps = IsInLimit (OfInt (record { base = base; steps = steps }))

record IntegerTail (base : List ℕ) (words : List (List ℕ)) (z : ℤ) : Type 0 where
  told : base ≡ signed_decimal z
  steps : Steps most words (Limits z)

abbrev OfBoolean : List ℕ → List (List ℕ) → Type 0
OfBoolean kind rest = (kind ≡ codes "bool") × Atomic most (λ a. rest ≡ atom_word a ∷ [])

record OfInteger (kind : List ℕ) (rest : List (List ℕ)) : Type 0 where
  kind_is : kind ≡ codes "int"
  base : List ℕ
  words : List (List ℕ)
  rest_is : rest ≡ base ∷ words
  tail : Whole (IntegerTail base words)

limits-decided : (z : ℤ) (steps : List (Atom × ℕ)) → Decided (Limits z steps)
limits-decided z steps =
    let a : OrdInt = record { base = z; steps = steps } in
    and-decided (most-decided (unsigned_abs (low_of a)) (2 ^ 30)) (most-decided (unsigned_abs (high_of a)) (2 ^ 30))

tail-decided : (base : List ℕ) (words : List (List ℕ)) (z : ℤ) → Decided (IntegerTail base words z)
tail-decided base words z =
    like-decided (and-decided (bytes-decided base (signed_decimal z)) (steps-decided most words (Limits z) (limits-decided z))) (λ h. record { told = h.0; steps = h.1 }) (λ t. (t.told, t.steps))

integer-decided : (kind : List ℕ) (rest : List (List ℕ)) → Decided (OfInteger kind rest)
integer-decided kind [] = inr (λ h. omega (arith, ap length h.rest_is))
integer-decided kind (base ∷ words) =
    like-decided (and-decided (bytes-decided kind (codes "int")) (whole-decided (IntegerTail base words) (tail-decided base words))) (λ h. record { kind_is = h.0; base = base; words = words; rest_is = refl; tail = h.1 }) back
  where
    moved : (b : List ℕ) (ws : List (List ℕ)) → base ∷ words ≡ b ∷ ws → Whole (IntegerTail b ws) → Whole (IntegerTail base words)
    moved b ws e h =
        let first : b ≡ base = sym (ap (λ (vs : List (List ℕ)). get_or vs 0 []) e) in
        let later : ws ≡ words = sym (ap (λ (vs : List (List ℕ)). drop 1 vs) e) in
        subst (λ (c : List ℕ). Whole (IntegerTail c words)) first (subst (λ (vs : List (List ℕ)). Whole (IntegerTail b vs)) later h)

    back : OfInteger kind (base ∷ words) → (kind ≡ codes "int") × Whole (IntegerTail base words)
    back h = (h.kind_is, moved h.base h.words h.rest_is h.tail)

boolean-decided : (kind : List ℕ) (rest : List (List ℕ)) → Decided (OfBoolean kind rest)
boolean-decided kind rest =
    and-decided (bytes-decided kind (codes "bool")) (atom-decided most (λ a. rest ≡ atom_word a ∷ []) (λ a. words-decided rest (atom_word a ∷ [])))

-- what can be read of a value
record AtLimits (v : MapValue) : Type 0 where
  at_below : ValueBelow most v
  at_limit : IsInLimit v

-- the line of an entry that can be read, and whose name is new
record Entry (names : List (List ℕ)) (line : List ℕ) : Type 0 where
  entry : MapEntry
  spelled : line ≡ entry_line entry
  readable : IsReadableEntry entry
  new : IsNew entry.name names

-- its pieces
record IsEntryOf (names : List (List ℕ)) (first kind name : List ℕ) (rest : List (List ℕ)) : Type 0 where
  first_is : first ≡ codes "c"
  declarable : IsDeclarable name
  new_name : IsNew name names
  value : OfBoolean kind rest ⊎ OfInteger kind rest

module _ (names : List (List ℕ)) (line : List ℕ) where
  module _ (first kind name : List ℕ) (rest : List (List ℕ)) (cut : split_blanks line ≡ first ∷ kind ∷ name ∷ rest) where
    cut-as : (k : Kind) → first ≡ codes "c" → kind ≡ kind_word k → split_blanks line ≡ codes "c" ∷ kind_word k ∷ name ∷ rest
    cut-as k e f = cut ∙ ap₂ (λ (x y : List ℕ). x ∷ y ∷ name ∷ rest) e f

    from-boolean : first ≡ codes "c" → IsDeclarable name → IsNew name names → OfBoolean kind rest → Entry names line
    from-boolean e d new h =
        let v : MapValue = OfBool h.1.at in
        record {
          entry = record { name = name; value = v };
          spelled = entry_spelled line (split_blanks line) rest Bool name v (join_words-split_blanks line) (cut-as Bool e h.0) refl h.1.holds;
          readable = record { name = d; value = h.1.below; in_limit = tt };
          new = new;
        }

    from-integer : first ≡ codes "c" → IsDeclarable name → IsNew name names → OfInteger kind rest → Entry names line
    from-integer e d new h =
        let z = h.tail in
        let s = z.holds.steps in
        let v : MapValue = OfInt (record { base = z.at; steps = s.steps }) in
        let tail : rest ≡ tail_words v = h.rest_is ∙ ap₂ (λ (w : List ℕ) (ws : List (List ℕ)). w ∷ ws) z.holds.told s.spelled in
        record {
          entry = record { name = name; value = v };
          spelled = entry_spelled line (split_blanks line) rest Int name v (join_words-split_blanks line) (cut-as Int e h.kind_is) refl tail;
          readable = record { name = d; value = (z.fits, s.below, s.count); in_limit = s.holds };
          new = new;
        }

    from-value : first ≡ codes "c" → IsDeclarable name → IsNew name names → OfBoolean kind rest ⊎ OfInteger kind rest → Entry names line
    from-value e d new (inl h) = from-boolean e d new h
    from-value e d new (inr h) = from-integer e d new h

    to-value : (v : MapValue) → kind ≡ kind_word (kind_of v) → rest ≡ tail_words v → AtLimits v → OfBoolean kind rest ⊎ OfInteger kind rest
    to-value (OfBool a) k t h = inl (k, record { at = a; below = h.at_below; holds = t })
    to-value (OfInt a) k t h =
        inr (record {
          kind_is = k;
          base = signed_decimal a.base;
          words = drop 1 (tail_words (OfInt a));
          rest_is = t;
          tail = record {
            at = a.base;
            fits = h.at_below.0;
            holds = record { told = refl; steps = record { steps = a.steps; spelled = refl; below = h.at_below.1; count = h.at_below.2; holds = h.at_limit } };
          };
        })

    to-pieces : Entry names line → IsEntryOf names first kind name rest
    to-pieces h =
        let both = sym cut ∙ entry_pieces line h.entry h.readable h.spelled in
        let same : h.entry.name ≡ name = sym (ap (λ (ws : List (List ℕ)). get_or ws 2 []) both) in
        record {
          first_is = ap (λ (ws : List (List ℕ)). get_or ws 0 []) both;
          declarable = subst (λ (n : List ℕ). IsDeclarable n) same h.readable.name;
          new_name = subst (λ (n : List ℕ). IsNew n names) same h.new;
          value = to-value h.entry.value (ap (λ (ws : List (List ℕ)). get_or ws 1 []) both) (ap (λ (ws : List (List ℕ)). drop 3 ws) both) (record { at_below = h.readable.value; at_limit = h.readable.in_limit });
        }

    pieces-decided : Decided (Entry names line)
    pieces-decided =
        like-decided (and-decided (bytes-decided first (codes "c"))
        (and-decided (declarable-decided name) (and-decided (new-decided name names) (or-decided (boolean-decided kind rest) (integer-decided kind rest))))) (λ h. from-value h.0 h.1.0 h.1.1.0 h.1.1.1) (λ h. (let p = to-pieces h in (p.first_is, (p.declarable, (p.new_name, p.value)))))

  short : (pieces : List (List ℕ)) → split_blanks line ≡ pieces → length pieces < 3 → Entry names line → ⊥
  short pieces cut few h = omega (arith, few, ap length (sym cut ∙ entry_pieces line h.entry h.readable h.spelled))

  by-pieces : (pieces : List (List ℕ)) → split_blanks line ≡ pieces → Decided (Entry names line)
  by-pieces [] cut = inr (short [] cut (omega arith))
  by-pieces (a ∷ []) cut = inr (short (a ∷ []) cut (omega arith))
  by-pieces (a ∷ b ∷ []) cut = inr (short (a ∷ b ∷ []) cut (omega arith))
  by-pieces (a ∷ b ∷ c ∷ rest) cut = pieces-decided a b c rest cut

  entry-decided : Decided (Entry names line)
  entry-decided = by-pieces (split_blanks line) refl

-- The line of a ledger line.

record Ledgered (line : List ℕ) : Type 0 where
  step : Line
  spelled : line ≡ ledger_line step
  readable : IsReadableStep step

record Ruled (P : Rule → Type 0) : Type 0 where
  at : Rule
  holds : P at

ruled-decided : (P : Rule → Type 0) → ((r : Rule) → Decided (P r)) → Decided (Ruled P)
ruled-decided P d = by (d Order) (d Form) (d Table)
  where
    none : (r : Rule) → P r → (P Order → ⊥) → (P Form → ⊥) → (P Table → ⊥) → ⊥
    none Order p a b c = a p
    none Form p a b c = b p
    none Table p a b c = c p

    by : Decided (P Order) → Decided (P Form) → Decided (P Table) → Decided (Ruled P)
    by (inl p) f t = inl (record { at = Order; holds = p })
    by (inr o) (inl p) t = inl (record { at = Form; holds = p })
    by (inr o) (inr f) (inl p) = inl (record { at = Table; holds = p })
    by (inr o) (inr f) (inr t) = inr (λ r. none r.at r.holds o f t)

module _ (line : List ℕ) where
  abbrev equate : ℕ → Rule → Atom → Atom → Line
  equate id r a b = Equate id (record { rule = r; a = a; b = b })

  abbrev Equates : Type 0
  Equates = Below (2 ^ 64) (λ id. Ruled (λ r. Atomic most (λ a. Atomic most (λ b. line ≡ ledger_line (equate id r a b)))))

  abbrev Splits : Type 0
  Splits = Below (2 ^ 64) (λ id. line ≡ ledger_line (Split id))

  abbrev Encodes : Type 0
  Encodes = Below (2 ^ 64) (λ id. line ≡ ledger_line (Encode id))

  equates-decided : Decided Equates
  equates-decided =
      below-decided (2 ^ 64) (λ id. Ruled (λ r. Atomic most (λ a. Atomic most (λ b. line ≡ ledger_line (equate id r a b)))))
      (λ id. ruled-decided (λ r. Atomic most (λ a. Atomic most (λ b. line ≡ ledger_line (equate id r a b))))
      (λ r. atom-decided most (λ a. Atomic most (λ b. line ≡ ledger_line (equate id r a b)))
      (λ a. atom-decided most (λ b. line ≡ ledger_line (equate id r a b)) (λ b. bytes-decided line (ledger_line (equate id r a b))))))

  from-steps : Equates ⊎ (Splits ⊎ Encodes) → Ledgered line
  from-steps (inl h) =
      let a = h.holds.holds in
      record { step = equate h.at h.holds.at a.at a.holds.at; spelled = a.holds.holds; readable = (h.less, a.below, a.holds.below) }
  from-steps (inr (inl h)) = record { step = Split h.at; spelled = h.holds; readable = h.less }
  from-steps (inr (inr h)) = record { step = Encode h.at; spelled = h.holds; readable = h.less }

  to-steps : (step : Line) → line ≡ ledger_line step → IsReadableStep step → Equates ⊎ (Splits ⊎ Encodes)
  to-steps (Equate id e) is h =
      inl (record { at = id; less = h.0; holds = record { at = e.rule; holds = record { at = e.a; below = h.1; holds = record { at = e.b; below = h.2; holds = is } } } })
  to-steps (Split id) is h = inr (inl (record { at = id; less = h; holds = is }))
  to-steps (Encode id) is h = inr (inr (record { at = id; less = h; holds = is }))

  ledgered-decided : Decided (Ledgered line)
  ledgered-decided =
      like-decided (or-decided equates-decided
      (or-decided (below-decided (2 ^ 64) (λ id. line ≡ ledger_line (Split id)) (λ id. bytes-decided line (ledger_line (Split id))))
      (below-decided (2 ^ 64) (λ id. line ≡ ledger_line (Encode id)) (λ id. bytes-decided line (ledger_line (Encode id)))))) from-steps (λ h. to-steps h.step h.spelled h.readable)

-- The line of the numbers.

record Numbered (line : List ℕ) (P : ℕ → Type 0) : Type 0 where
  vars : ℕ
  count : ℕ
  numbers : IsNumbers line vars count
  holds : P vars

numbered-decided : (line : List ℕ) (P : ℕ → Type 0) → ((vars : ℕ) → Decided (P vars)) → Decided (Numbered line P)
numbered-decided line P d =
    like-decided (below-decided (2 ^ 32) (λ v. P v × Below (2 ^ 64) (λ c. line ≡ numbers_line v c))
    (λ v. and-decided (d v) (below-decided (2 ^ 64) (λ c. line ≡ numbers_line v c) (λ c. bytes-decided line (numbers_line v c))))) (λ h. record { vars = h.at; count = h.holds.1.at; numbers = record { spelled = h.holds.1.holds; vars_fit = h.less; count_fits = h.holds.1.less }; holds = h.holds.0 }) (λ n. record { at = n.vars; less = n.numbers.vars_fit; holds = (n.holds, record { at = n.count; less = n.numbers.count_fits; holds = n.numbers.spelled }) })

-- Which line may stand next.

pub record Led {S : Type 0} (Next : S → List ℕ → S → Type 0) (s : S) (line : List ℕ) : Type 0 where
  pub to : S
  pub is : Next s line to

-- at each stage; among the clauses there are not too many variables
abbrev pub IsSmall : TextStage → Type 0
IsSmall (stage.Clauses vars count) = vars ≤ 2 ^ 26
IsSmall g = Unit {0}

module _ (s : Draft) (line : List ℕ) where
  abbrev names : List (List ℕ)
  names = map (λ e. e.name) s.entries

  abbrev NamedNext : Type 0
  NamedNext = Led IsNamed s line

  named-decided : Decided NamedNext
  named-decided =
      like-decided (entry-decided names line) (λ (h : Entry names line). record {
        to = record { stage = stage.Names; entries = s.entries ++ h.entry ∷ []; ledger = s.ledger; clauses = s.clauses };
        is = record { entry = h.entry; spelled = h.spelled; readable = h.readable; new = h.new; after = refl };
      }) (λ l. record { entry = l.is.entry; spelled = l.is.spelled; readable = l.is.readable; new = l.is.new })

  ledger-decided : Decided (Led IsLedgered s line)
  ledger-decided =
      like-decided (ledgered-decided line) (λ (h : Ledgered line). record {
        to = record { stage = stage.Steps; entries = s.entries; ledger = s.ledger ++ h.step ∷ []; clauses = s.clauses };
        is = record { step = h.step; spelled = h.spelled; readable = h.readable; after = refl };
      }) (λ l. record { step = l.is.step; spelled = l.is.spelled; readable = l.is.readable })

  abbrev IsWithin : ℕ → Type 0
  IsWithin vars = (vars ≤ 2 ^ 26) × (first_above vars s.entries s.ledger ≡ None)

  problem-decided : Decided (Led IsProblem s line)
  problem-decided =
      like-decided (numbered-decided line IsWithin (λ v. and-decided (most-decided v (2 ^ 26)) (none-decided (first_above v s.entries s.ledger)))) (λ (h : Numbered line IsWithin). record {
        to = record { stage = stage.Clauses h.vars h.count; entries = s.entries; ledger = s.ledger; clauses = s.clauses };
        is = record { vars = h.vars; count = h.count; numbers = h.numbers; most = h.holds.0; within = h.holds.1; after = refl };
      }) (λ l. record { vars = l.is.vars; count = l.is.count; numbers = l.is.numbers; holds = (l.is.most, l.is.within) })

  clause-decided : (vars count : ℕ) → vars ≤ 2 ^ 26 → Decided (Led (IsClause vars count) s line)
  clause-decided vars count small =
      like-decided (and-decided (literals-decided (vars + 1) (split_blanks line)) (less-decided (length s.clauses) count)) (λ h. record {
        to = record { stage = stage.Clauses vars count; entries = s.entries; ledger = s.ledger; clauses = s.clauses ++ h.0.left ∷ [] };
        is = record {
          clause = h.0.left;
          spelled = sym (join_words-split_blanks line) ∙ ap join_words h.0.spelled;
          below = h.0.below;
          fewer = h.1;
          after = refl;
        };
      }) (λ l. (record { left = l.is.clause; spelled = clause_pieces (vars + 1) line l.is.clause (omega (arith, small)) l.is.below l.is.spelled; below = l.is.below }, l.is.fewer))

  join-led : {A B : Draft → List ℕ → Draft → Type 0} → Led A s line ⊎ Led B s line → Led (λ x l t. A x l t ⊎ B x l t) s line
  join-led (inl h) = record { to = h.to; is = inl h.is }
  join-led (inr h) = record { to = h.to; is = inr h.is }

  part-led : {A B : Draft → List ℕ → Draft → Type 0} → (t : Draft) → A s line t ⊎ B s line t → Led A s line ⊎ Led B s line
  part-led t (inl h) = inl (record { to = t; is = h })
  part-led t (inr h) = inr (record { to = t; is = h })

  either-decided : {A B : Draft → List ℕ → Draft → Type 0} → Decided (Led A s line) → Decided (Led B s line) → Decided (Led (λ x l t. A x l t ⊎ B x l t) s line)
  either-decided d e = like-decided (or-decided d e) (λ h. join-led h) (λ h. part-led h.to h.is)

  start-decided : Decided (Led (NextAt stage.Start) s line)
  start-decided =
      like-decided (bytes-decided line heading) (λ e. record { to = record { stage = stage.Names; entries = s.entries; ledger = s.ledger; clauses = s.clauses }; is = (e, refl) }) (λ h. h.is.0)

  pub next-at : (g : TextStage) → IsSmall g → Decided (Led (NextAt g) s line)
  next-at stage.Start small = start-decided
  next-at stage.Names small = either-decided named-decided (either-decided ledger-decided problem-decided)
  next-at stage.Steps small = either-decided ledger-decided problem-decided
  next-at (stage.Clauses vars count) small = clause-decided vars count small

pub next-decided : (s : Draft) (line : List ℕ) → IsSmall s.stage → Decided (Led NextLine s line)
next-decided s line small = like-decided (next-at s line s.stage small) (λ h. record { to = h.to; is = h.is }) (λ h. record { to = h.to; is = h.is })

-- each line keeps the number of variables small

small-as : (t u : Draft) → t ≡ u → IsSmall u.stage → IsSmall t.stage
small-as t u e h = subst (λ (d : Draft). IsSmall d.stage) (sym e) h

small-next : (g : TextStage) (s : Draft) (line : List ℕ) (t : Draft) → IsSmall g → NextAt g s line t → IsSmall t.stage
small-next stage.Start s line t small h = small-as t _ h.1 tt
small-next stage.Names s line t small (inl h) = small-as t _ h.after tt
small-next stage.Names s line t small (inr (inl h)) = small-as t _ h.after tt
small-next stage.Names s line t small (inr (inr h)) = small-as t _ h.after h.most
small-next stage.Steps s line t small (inl h) = small-as t _ h.after tt
small-next stage.Steps s line t small (inr h) = small-as t _ h.after h.most
small-next (stage.Clauses vars count) s line t small h = small-as t _ h.after small

pub keeps-small : (s t : Draft) (line : List ℕ) → IsSmall s.stage → NextLine s line t → IsSmall t.stage
keeps-small s t line small h = small-next s.stage s line t small h

-- Whether all clauses stand, and whether a line before fails.

all-decided : (g : TextStage) (n : ℕ) → Decided (HasAll g n)
all-decided stage.Start n = inr (λ h. h)
all-decided stage.Names n = inr (λ h. h)
all-decided stage.Steps n = inr (λ h. h)
all-decided (stage.Clauses vars count) n = number-decided n count

pub complete-decided : (s : Draft) → Decided (IsComplete s)
complete-decided s = all-decided s.stage (length s.clauses)

may-decided : (g : TextStage) → Decided (MayHaveNumbers g)
may-decided stage.Start = inr (λ h. h)
may-decided stage.Names = inl tt
may-decided stage.Steps = inl tt
may-decided (stage.Clauses vars count) = inr (λ h. h)

pub record FailsAbove (s : Draft) (line : List ℕ) : Type 0 where
  pub number : ℕ
  pub is : IsAbove s line number

pub above-decided : (s : Draft) (line : List ℕ) → Decided (FailsAbove s line)
above-decided s line =
    like-decided (and-decided (may-decided s.stage) (numbered-decided line (λ v. IsThere (first_above v s.entries s.ledger)) (λ v. there-decided (first_above v s.entries s.ledger)))) (λ h. record { number = h.1.holds.number; is = record { may = h.0; vars = h.1.vars; count = h.1.count; numbers = h.1.numbers; above = h.1.holds.is } }) (λ f. (f.is.may, record { vars = f.is.vars; count = f.is.count; numbers = f.is.numbers; holds = record { number = f.number; is = f.is.above } }))
