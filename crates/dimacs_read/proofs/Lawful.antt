-- The laws of what is read.
use Rattle.std.proofs.Common.{◌≡◌, ℕ, ◌+◌, ◌^◌, ◌<◌, ◌≤◌, inl, inr, Bool, true, false, not, cond, leb, List, [], ◌∷◌, map, length, position, Option, Some, None, refl, sym, ap, ap₂, subst, ◌∙◌, arith}
use Rattle.std.specs.List.{list_all, position_from}
use Rattle.std.proofs.lemmas.Bool.{and_from, and_parts, leb-true}
use Rattle.std.proofs.lemmas.Bool.Decides.{nat_tests}
use Rattle.std.proofs.lemmas.Iterator.Adapters.{position_from-zero}
use Rattle.order_ints.specs.declared.atom.Atom.{Atom}
use Rattle.order_ints.specs.declared.atom.Atom.TheVariants.{True, False, Of}
use Rattle.order_ints.specs.declared.order_int.MapValue.{MapValue}
use Rattle.order_ints.specs.declared.order_int.MapValue.TheVariants as values
use Rattle.order_ints.specs.declared.cnf.Cnf.{Cnf}
use Rattle.order_ints.specs.Truth.{valuation_of}
use Rattle.order_ints.specs.Satisfies.{Satisfies}
use Rattle.order_ints.specs.Place.{AtomBelow, StepsBelow}
use Rattle.bee_text.specs.Gaps.{words_of}
use Rattle.bumblebee_reader.specs.Names.{AreDeclared}
use Rattle.name_map.specs.declared.entries.MapEntry.{MapEntry}
use Rattle.ledger_text.specs.declared.line.Line.{Line}
use Rattle.ledger_text.specs.declared.line.Line.TheVariants.{Equate, Split, Encode}
use Rattle.ledger_text.specs.Steps.{IsReadableStep, LineBelow, LedgerBelow}
use Rattle.dimacs_out.specs.CompiledText.{ValueBelow, EntriesBelow}
use Rattle.dimacs_read.specs.declared.values.Stage.{Stage}
use Rattle.dimacs_read.specs.declared.values.Stage.TheVariants.{Before, Listing, Ended}
use Rattle.line_texts.specs.LineByLine.{Lead}
use Rattle.dimacs_read.specs.TextLines.{atom_within, value_within, step_within, AreReadableEntries, AreReadableSteps, above_of, first_above}
use Rattle.dimacs_read.specs.Values.{Known, Told, told, nothing_told, IsAnswer, Stands, Says, NextValues}
use Rattle.dimacs_read.specs.ReadLaws.{AreInLimit, WrittenIsRead, ReadIsWritable, ValuesSatisfy, ValuesGiveAssignment}

-- what is below a bound is below a greater one, and within it

atom_more : (n m : ℕ) (a : Atom) → n ≤ m → AtomBelow n a → AtomBelow m a
atom_more n m True le h = tt
atom_more n m False le h = tt
atom_more n m (Of l) le h = (h.0, omega (arith, h.1))

steps_more : (n m : ℕ) (steps : List (Atom × ℕ)) → n ≤ m → StepsBelow n steps → StepsBelow m steps
steps_more n m [] le h = tt
steps_more n m (s ∷ steps) le h = (atom_more n m s.0 le h.0, steps_more n m steps le h.1)

value_more : (n m : ℕ) (v : MapValue) → n ≤ m → ValueBelow n v → ValueBelow m v
value_more n m (values.Bool a) le h = atom_more n m a le h
value_more n m (values.Int a) le h = (h.0, steps_more n m a.steps le h.1, h.2)

le_test : (v n : ℕ) → v < n + 1 → leb v n ≡ true
le_test v n h = grind (arith, nat_tests)

atom_is_within : (n : ℕ) (a : Atom) → AtomBelow (n + 1) a → atom_within n a ≡ true
atom_is_within n True h = refl
atom_is_within n False h = refl
atom_is_within n (Of l) h = le_test l.var n h.1

steps_are_within : (n : ℕ) (steps : List (Atom × ℕ)) → StepsBelow (n + 1) steps → list_all (λ s. atom_within n s.0) steps ≡ true
steps_are_within n [] h = refl
steps_are_within n (s ∷ steps) h = and_from (atom_within n s.0) (list_all (λ r. atom_within n r.0) steps) (atom_is_within n s.0 h.0) (steps_are_within n steps h.1)

value_is_within : (n : ℕ) (v : MapValue) → ValueBelow (n + 1) v → value_within n v ≡ true
value_is_within n (values.Bool a) h = atom_is_within n a h
value_is_within n (values.Int a) h = steps_are_within n a.steps h.1

line_is_within : (n : ℕ) (l : Line) → LineBelow (n + 1) l → step_within n l ≡ true
line_is_within n (Equate id e) h = and_from (atom_within n e.a) (atom_within n e.b) (atom_is_within n e.a h.1) (atom_is_within n e.b h.2)
line_is_within n (Split id) h = refl
line_is_within n (Encode id) h = refl

no_entry_from : (n : ℕ) (es : List MapEntry) (i : ℕ) → EntriesBelow (n + 1) es → position_from (λ e. not (value_within n e.value)) i es ≡ None
no_entry_from n [] i h = refl
no_entry_from n (e ∷ es) i h =
    ap (λ b. cond (not b) (Some i) (position_from (λ f. not (value_within n f.value)) (i + 1) es)) (value_is_within n e.value h.0) ∙ no_entry_from n es (i + 1) h.1

no_line_from : (n : ℕ) (ls : List Line) (i : ℕ) → LedgerBelow (n + 1) ls → position_from (λ l. not (step_within n l)) i ls ≡ None
no_line_from n [] i h = refl
no_line_from n (l ∷ ls) i h =
    ap (λ b. cond (not b) (Some i) (position_from (λ k. not (step_within n k)) (i + 1) ls)) (line_is_within n l h.0) ∙ no_line_from n ls (i + 1) h.1

none_above : (n : ℕ) (es : List MapEntry) (ls : List Line) → EntriesBelow (n + 1) es → LedgerBelow (n + 1) ls → first_above n es ls ≡ None
none_above n es ls h k =
    let entries : position (λ (e : MapEntry). not (value_within n e.value)) es ≡ None = position_from-zero (λ (e : MapEntry). not (value_within n e.value)) es ∙ no_entry_from n es 0 h in
    let lines : position (λ (l : Line). not (step_within n l)) ls ≡ None = position_from-zero (λ (l : Line). not (step_within n l)) ls ∙ no_line_from n ls 0 k in
    ap₂ (λ p q. above_of (length es) p q) entries lines

readable_entries : (n : ℕ) (es : List MapEntry) → n ≤ 2 ^ 27 + 1 → AreDeclared (map (λ e. e.name) es) → EntriesBelow n es → AreInLimit es → AreReadableEntries es
readable_entries n [] le d h k = tt
readable_entries n (e ∷ es) le d h k =
    (record { name = d.0; value = value_more n (2 ^ 27 + 1) e.value le h.0; in_limit = k.0 }, readable_entries n es le d.2 h.1 k.1)

readable_line : (n : ℕ) (l : Line) → n ≤ 2 ^ 27 + 1 → LineBelow n l → IsReadableStep l
readable_line n (Equate id e) le h = (h.0, atom_more n (2 ^ 27 + 1) e.a le h.1, atom_more n (2 ^ 27 + 1) e.b le h.2)
readable_line n (Split id) le h = h
readable_line n (Encode id) le h = h

readable_ledger : (n : ℕ) (ls : List Line) → n ≤ 2 ^ 27 + 1 → LedgerBelow n ls → AreReadableSteps ls
readable_ledger n [] le h = tt
readable_ledger n (l ∷ ls) le h = (readable_line n l le h.0, readable_ledger n ls le h.1)

pub written_is_read : WrittenIsRead
written_is_read x h vars limits = record {
  readable = record {
    names = h.names;
    entries = readable_entries (x.cnf.vars + 1) x.entries (omega arith) h.names h.values limits;
    ledger = readable_ledger (x.cnf.vars + 1) x.ledger (omega arith) h.ledger;
    vars = vars;
    within = none_above x.cnf.vars x.entries x.ledger h.values h.ledger;
    clauses = h.clauses;
    count = h.count;
  };
  spelled = refl;
}

-- what is within a bound, and can be read, is below the next number

within_below : (n v : ℕ) → leb v n ≡ true → v < n + 1
within_below n v h = let le = leb-true v n h in omega arith

atom_fits : (m n : ℕ) (a : Atom) → AtomBelow m a → atom_within n a ≡ true → AtomBelow (n + 1) a
atom_fits m n True h k = tt
atom_fits m n False h k = tt
atom_fits m n (Of l) h k = (h.0, within_below n l.var k)

steps_fit : (m n : ℕ) (steps : List (Atom × ℕ)) → StepsBelow m steps → list_all (λ s. atom_within n s.0) steps ≡ true → StepsBelow (n + 1) steps
steps_fit m n [] h k = tt
steps_fit m n (s ∷ steps) h k =
    let parts = and_parts (atom_within n s.0) (list_all (λ r. atom_within n r.0) steps) k in
    (atom_fits m n s.0 h.0 parts.0, steps_fit m n steps h.1 parts.1)

value_fits : (m n : ℕ) (v : MapValue) → ValueBelow m v → value_within n v ≡ true → ValueBelow (n + 1) v
value_fits m n (values.Bool a) h k = atom_fits m n a h k
value_fits m n (values.Int a) h k = (h.0, steps_fit m n a.steps h.1 k, h.2)

line_fits : (n : ℕ) (l : Line) → IsReadableStep l → step_within n l ≡ true → LineBelow (n + 1) l
line_fits n (Equate id e) h k =
    let parts = and_parts (atom_within n e.a) (atom_within n e.b) k in
    (h.0, atom_fits (2 ^ 27 + 1) n e.a h.1 parts.0, atom_fits (2 ^ 27 + 1) n e.b h.2 parts.1)
line_fits n (Split id) h k = h
line_fits n (Encode id) h k = h

-- a search that found nothing found neither the first nor a later one
pub record NoneFrom {X : Type 0} (test : X → Bool) (x : X) (xs : List X) (i : ℕ) : Type 0 where
  pub first : test x ≡ true
  pub later : position_from (λ y. not (test y)) (i + 1) xs ≡ None

none_from : {X : Type 0} (test : X → Bool) (x : X) (xs : List X) (i : ℕ) (b : Bool) → test x ≡ b → position_from (λ y. not (test y)) i (x ∷ xs) ≡ None → NoneFrom test x xs i
none_from test x xs i true e h =
    record { first = e; later = sym (ap (λ c. cond (not c) (Some i) (position_from (λ y. not (test y)) (i + 1) xs)) e) ∙ h }
none_from test x xs i false e h =
    let found : Some i ≡ None = sym (ap (λ c. cond (not c) (Some i) (position_from (λ y. not (test y)) (i + 1) xs)) e) ∙ h in
    absurd (cc)

entries_fit : (n : ℕ) (es : List MapEntry) (i : ℕ) → AreReadableEntries es → position_from (λ e. not (value_within n e.value)) i es ≡ None → EntriesBelow (n + 1) es
entries_fit n [] i h k = tt
entries_fit n (e ∷ es) i h k =
    let both = none_from (λ (f : MapEntry). value_within n f.value) e es i (value_within n e.value) refl k in
    (value_fits (2 ^ 27 + 1) n e.value h.0.value both.first, entries_fit n es (i + 1) h.1 both.later)

ledger_fits : (n : ℕ) (ls : List Line) (i : ℕ) → AreReadableSteps ls → position_from (λ l. not (step_within n l)) i ls ≡ None → LedgerBelow (n + 1) ls
ledger_fits n [] i h k = tt
ledger_fits n (l ∷ ls) i h k =
    let both = none_from (λ (m : Line). step_within n m) l ls i (step_within n l) refl k in
    (line_fits n l h.0 both.first, ledger_fits n ls (i + 1) h.1 both.later)

-- no line is above where neither a name's nor the ledger's is
both_none : (names : ℕ) (p q : Option ℕ) → above_of names p q ≡ None → (p ≡ None) × (q ≡ None)
both_none names None None h = (refl, refl)
both_none names None (Some j) h = absurd (cc)
both_none names (Some i) q h = absurd (cc)

pub read_is_writable : ReadIsWritable
read_is_writable x h =
    let n = x.cnf.vars in
    let none = both_none (length x.entries) (position (λ (e : MapEntry). not (value_within n e.value)) x.entries) (position (λ (l : Line). not (step_within n l)) x.ledger) h.within in
    record {
      names = h.names;
      values = entries_fit n x.entries 0 h.entries (sym (position_from-zero (λ (e : MapEntry). not (value_within n e.value)) x.entries) ∙ none.0);
      ledger = ledger_fits n x.ledger 0 h.ledger (sym (position_from-zero (λ (l : Line). not (step_within n l)) x.ledger) ∙ none.1);
      clauses = h.clauses;
      vars = omega (arith, h.vars);
      count = h.count;
    }

-- values that have ended are an answer

abbrev Sound : Cnf → Told → Type 0
Sound cnf t = t.stage ≡ Ended → IsAnswer cnf t.known

not_ended : (cnf : Cnf) (k : Known) → Sound cnf (told Listing k)
not_ended cnf k e = absurd (cc)

stands_sound : (cnf : Cnf) (e : Bool) (k : Known) (t : Told) → Stands cnf e k t → Sound cnf t
stands_sound cnf false k t h = subst (Sound cnf) (sym h) (not_ended cnf k)
stands_sound cnf true k t h = subst (Sound cnf) (sym h.1) (λ e. h.0)

says_sound : (cnf : Cnf) (s : Stage) (k : Known) (ws : List (List ℕ)) (t : Told) → Says cnf s k ws t → Sound cnf t
says_sound cnf Before k ws t h = subst (Sound cnf) (sym h.1) (not_ended cnf k)
says_sound cnf Listing k ws t h = stands_sound cnf h.tells.ends h.tells.known t h.tells.stands
says_sound cnf Ended k ws t h = absurd h

next_sound : (cnf : Cnf) (s t : Told) (line : List ℕ) → Sound cnf s → NextValues cnf s line t → Sound cnf t
next_sound cnf s t line sound (inl h) = subst (Sound cnf) (sym h.1) sound
next_sound cnf s t line sound (inr h) = says_sound cnf s.stage s.known (words_of line) t h.1

lead_sound : (cnf : Cnf) (s t : Told) (lines : List (List ℕ)) → Sound cnf s → Lead (NextValues cnf) s lines t → Sound cnf t
lead_sound cnf s t [] sound h = subst (Sound cnf) h sound
lead_sound cnf s t (line ∷ lines) sound h = lead_sound cnf h.0 t lines (next_sound cnf s h.0 line sound h.1) h.2

start_sound : (cnf : Cnf) → Sound cnf (nothing_told cnf.vars)
start_sound cnf e = absurd (cc)

pub values_satisfy : ValuesSatisfy
values_satisfy cnf text vs h =
    let answer = lead_sound cnf (nothing_told cnf.vars) h.told h.whole.lines (start_sound cnf) h.whole.lead h.whole.ended in
    let P : List Bool → Type 0 = λ xs. Satisfies (valuation_of xs) cnf in
    subst P h.values_are answer.1

pub values_give_assignment : ValuesGiveAssignment
values_give_assignment x text vs w h = record {
  holds = x;
  writable = w;
  spelled = refl;
  valuation = valuation_of vs;
  satisfies = values_satisfy x.cnf text vs h;
  gives = refl;
}
