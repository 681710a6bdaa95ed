-- What the reading of a whole text says.
use Rattle.std.proofs.Common.{◌≡◌, ◌≢◌, ◌⊎◌, ◌↔◌, ℕ, Bool, true, false, Option, Some, None, Result, Ok, Err, List, [], ◌∷◌, ◌++◌, refl, sym, ap, ◌∙◌, inl, inr, ⊎_elim}
use Rattle.std.proofs.lemmas.Bool.{false≢true}
use Rattle.bumblebee_reader.specs.declared.syntax.Syntax.{Syntax}
use Rattle.bumblebee_reader.specs.declared.syntax.Item.{Item}
use Rattle.bumblebee_reader.specs.declared.fault.ReadFault.{ReadFault}
use Rattle.bumblebee_reader.specs.declared.fault.ReadFault.TheVariants as fault
use Rattle.bumblebee_reader.specs.Tokens.{Token, tokens, last_line}
use Rattle.bumblebee_reader.specs.Grammar.{Spells, Begins, kinds, IsText}
use Rattle.bumblebee_reader.specs.Faults.{Misfits, EndsEarly, IsSyntaxFault, IsNumberFault, MemoryFound}
use Rattle.bumblebee_reader.specs.Laws.{OneSyntax, TextOrFault}
use Rattle.bumblebee_reader.specs.Reading.{AtItem, Outcome, reading, outcome_from, Gives}
use Rattle.bumblebee_reader.proofs.Machine.{accepts, lives, outcome_ok, accepts_outcome}
use Rattle.bumblebee_reader.proofs.Complete.{accepts_spelled}
use Rattle.bumblebee_reader.proofs.Sound.{spelled_accepted}
use Rattle.bumblebee_reader.proofs.Begin.{begins_lives, lives_begins}
use Rattle.bumblebee_reader.proofs.Faults.{MisfitFrom, EndsFrom, NumberFrom, outcome_fault, misfit_outcome, number_outcome, ends_outcome}

-- a text and its syntax
pub text_from_reading : (text : List ℕ) (s : Syntax) → reading AtItem 1 text ≡ Ok s.items → IsText text s
text_from_reading text s h =
    let r = outcome_ok AtItem (last_line text) (tokens text) s.items h in
    record { spelled = spelled_accepted (kinds (tokens text)) s.items r.0; within = r.1 }

pub reading_from_text : (text : List ℕ) (s : Syntax) → IsText text s → reading AtItem 1 text ≡ Ok s.items
reading_from_text text s h =
    accepts_outcome AtItem (last_line text) (tokens text) s.items (accepts_spelled (kinds (tokens text)) s.items h.spelled) h.within

-- tokens that do not fit begin no text
dead_begins : (ts : List Token) → lives AtItem ts ≡ false → Begins ts → ⊥
dead_begins ts dead b = false≢true (sym dead ∙ lives_begins ts b)

dead_from : (ts : List Token) (b : Bool) → lives AtItem ts ≡ b → (Begins ts → ⊥) → b ≡ false
dead_from ts true e none = absurd (none (begins_lives ts e))
dead_from ts false e none = refl

some_none : (items : List Item) → Some items ≡ None → ⊥
some_none items h = cc

never_spelled : (ts : List Token) → accepts AtItem ts ≡ None → (items : List Item) → Spells ts items → ⊥
never_spelled ts none items h = some_none items (sym (accepts_spelled ts items h) ∙ none)

none_from : (ts : List Token) (o : Option (List Item)) → accepts AtItem ts ≡ o → ((items : List Item) → Spells ts items → ⊥) → o ≡ None
none_from ts None e never = refl
none_from ts (Some is) e never = absurd (never is (spelled_accepted ts is e))

misfits : (text : List ℕ) (line : ℕ) → MisfitFrom AtItem (tokens text) line → Misfits text line
misfits text line f = record {
  before = f.before;
  token = f.token;
  behind = f.behind;
  whole = f.whole;
  begins = begins_lives (kinds f.before) f.fits;
  misfit = dead_begins (kinds (f.before ++ f.token ∷ [])) f.misfit;
  within = f.within;
  line_is = f.line_is;
}

ends_early : (text : List ℕ) (line : ℕ) → EndsFrom AtItem (last_line text) (tokens text) line → EndsEarly text line
ends_early text line f = record {
  begins = begins_lives (kinds (tokens text)) f.fits;
  early = never_spelled (kinds (tokens text)) f.early;
  within = f.within;
  line_is = f.line_is;
}

pub syntax_fault_from_reading : (text : List ℕ) (line : ℕ) → reading AtItem 1 text ≡ Err (fault.Syntax line) → IsSyntaxFault text line
syntax_fault_from_reading text line h =
    ⊎_elim (λ f. inl (misfits text line f)) (λ f. inr (ends_early text line f)) (outcome_fault (tokens text) AtItem (last_line text) (fault.Syntax line) h)

reading_from_misfits : (text : List ℕ) (line : ℕ) → Misfits text line → reading AtItem 1 text ≡ Err (fault.Syntax line)
reading_from_misfits text line f =
    ap (outcome_from AtItem (last_line text)) f.whole
    ∙ misfit_outcome f.before f.token f.behind AtItem (last_line text) (lives_begins (kinds f.before) f.begins) (dead_from (kinds (f.before ++ f.token ∷ [])) (lives AtItem (kinds (f.before ++ f.token ∷ []))) refl f.misfit) f.within
    ∙ ap (λ l. Err (fault.Syntax l)) (sym f.line_is)

reading_from_ends : (text : List ℕ) (line : ℕ) → EndsEarly text line → reading AtItem 1 text ≡ Err (fault.Syntax line)
reading_from_ends text line f =
    ends_outcome (tokens text) AtItem (last_line text) (lives_begins (kinds (tokens text)) f.begins) (none_from (kinds (tokens text)) (accepts AtItem (kinds (tokens text))) refl f.early) f.within
    ∙ ap (λ l. Err (fault.Syntax l)) (sym f.line_is)

pub reading_from_syntax_fault : (text : List ℕ) (line : ℕ) → IsSyntaxFault text line → reading AtItem 1 text ≡ Err (fault.Syntax line)
reading_from_syntax_fault text line h =
    ⊎_elim (λ f. reading_from_misfits text line f) (λ f. reading_from_ends text line f) h

number_fault : (text : List ℕ) (line : ℕ) → NumberFrom AtItem (tokens text) line → IsNumberFault text line
number_fault text line f = record {
  before = f.before;
  token = f.token;
  behind = f.behind;
  whole = f.whole;
  begins = begins_lives (kinds (f.before ++ f.token ∷ [])) f.fits;
  within = f.within;
  too_great = f.too_great;
  line_is = f.line_is;
}

pub number_fault_from_reading : (text : List ℕ) (line : ℕ) → reading AtItem 1 text ≡ Err (fault.Number line) → IsNumberFault text line
number_fault_from_reading text line h =
    number_fault text line (outcome_fault (tokens text) AtItem (last_line text) (fault.Number line) h)

pub reading_from_number_fault : (text : List ℕ) (line : ℕ) → IsNumberFault text line → reading AtItem 1 text ≡ Err (fault.Number line)
reading_from_number_fault text line f =
    ap (outcome_from AtItem (last_line text)) f.whole
    ∙ number_outcome f.before f.token f.behind AtItem (last_line text) (lives_begins (kinds (f.before ++ f.token ∷ [])) f.begins) f.within f.too_great
    ∙ ap (λ l. Err (fault.Number l)) (sym f.line_is)

pub no_memory_fault : (text : List ℕ) → reading AtItem 1 text ≡ Err fault.Memory → ⊥
no_memory_fault text h = outcome_fault (tokens text) AtItem (last_line text) fault.Memory h

-- what `read_model` answers, from what the reading gives

ok_items : (a b : List Item) → ◌≡◌ {A = Outcome} (Ok a) (Ok b) → a ≡ b
ok_items a b h = cc

ok_syntax : (s t : Syntax) → ◌≡◌ {A = Result Syntax ReadFault} (Ok s) (Ok t) → s ≡ t
ok_syntax s t h = cc

same_items : (s t : Syntax) → s.items ≡ t.items → s ≡ t
same_items s t e = let made : List Item → Syntax = λ l. record { items = l } in ap made e

outcome_apart : (o : Outcome) (items : List Item) (f : ReadFault) → o ≡ Ok items → o ≡ Err f → ⊥
outcome_apart o items f a b = cc

err_same : (f g : ReadFault) → ◌≡◌ {A = Outcome} (Err f) (Err g) → f ≡ g
err_same f g h = cc

err_ok : (f : ReadFault) (s : Syntax) → ◌≡◌ {A = Result Syntax ReadFault} (Err f) (Ok s) → ⊥
err_ok f s h = cc

result_err_same : (f g : ReadFault) → ◌≡◌ {A = Result Syntax ReadFault} (Err f) (Err g) → f ≡ g
result_err_same f g h = cc

no_memory : (f : ReadFault) → MemoryFound {T = Syntax} (Err f) → f ≢ fault.Memory
no_memory f found e = found (ap (λ g. Err g) e)

pub ok_exact : (text : List ℕ) (r : Result Syntax ReadFault) → Gives r (reading AtItem 1 text) (λ s. Ok s.items) → MemoryFound r → (s : Syntax) → (r ≡ Ok s) ↔ IsText text s
ok_exact text (Ok t) g found s =
    (λ e. text_from_reading text s (g ∙ ap (λ u. Ok u.items) (ok_syntax t s e)), λ h. ap (λ u. Ok u) (same_items t s (ok_items t.items s.items (sym g ∙ reading_from_text text s h))))
ok_exact text (Err f) g found s =
    (λ e. absurd (err_ok f s e), λ h. absurd (outcome_apart (reading AtItem 1 text) s.items f (reading_from_text text s h) (g (no_memory f found))))

pub fault_exact : (text : List ℕ) (r : Result Syntax ReadFault) (f : ReadFault) → Gives r (reading AtItem 1 text) (λ s. Ok s.items) → MemoryFound r → (r ≡ Err f) ↔ (reading AtItem 1 text ≡ Err f)
fault_exact text (Ok t) f g found =
    (λ e. absurd (err_ok f t (sym e)), λ h. absurd (outcome_apart (reading AtItem 1 text) t.items f g h))
fault_exact text (Err k) f g found =
    (λ e. g (no_memory k found) ∙ ap (λ j. Err j) (result_err_same k f e), λ h. ap (λ j. Err j) (err_same k f (sym (g (no_memory k found)) ∙ h)))

pub syntax_exact : (text : List ℕ) (r : Result Syntax ReadFault) → Gives r (reading AtItem 1 text) (λ s. Ok s.items) → MemoryFound r → (line : ℕ) → (r ≡ Err (fault.Syntax line)) ↔ IsSyntaxFault text line
syntax_exact text r g found line =
    let e = fault_exact text r (fault.Syntax line) g found in
    (λ h. syntax_fault_from_reading text line (e.0 h), λ h. e.1 (reading_from_syntax_fault text line h))

pub number_exact : (text : List ℕ) (r : Result Syntax ReadFault) → Gives r (reading AtItem 1 text) (λ s. Ok s.items) → MemoryFound r → (line : ℕ) → (r ≡ Err (fault.Number line)) ↔ IsNumberFault text line
number_exact text r g found line =
    let e = fault_exact text r (fault.Number line) g found in
    (λ h. number_fault_from_reading text line (e.0 h), λ h. e.1 (reading_from_number_fault text line h))

-- laws

pub one_syntax_lem : OneSyntax
one_syntax_lem text s t hs ht =
    same_items s t (ok_items s.items t.items (sym (reading_from_text text s hs) ∙ reading_from_text text t ht))

text_or_fault_at : (text : List ℕ) (o : Outcome) → reading AtItem 1 text ≡ o → ((s : Syntax) × IsText text s) ⊎ (((line : ℕ) × IsSyntaxFault text line) ⊎ ((line : ℕ) × IsNumberFault text line))
text_or_fault_at text (Ok is) e = inl (record { items = is }, text_from_reading text (record { items = is }) e)
text_or_fault_at text (Err (fault.Syntax line)) e = inr (inl (line, syntax_fault_from_reading text line e))
text_or_fault_at text (Err (fault.Number line)) e = inr (inr (line, number_fault_from_reading text line e))
text_or_fault_at text (Err fault.Memory) e = absurd (no_memory_fault text e)

pub text_or_fault_lem : TextOrFault
text_or_fault_lem text = text_or_fault_at text (reading AtItem 1 text) refl
