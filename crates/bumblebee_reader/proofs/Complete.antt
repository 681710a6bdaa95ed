-- What the grammar spells is accepted.
use Rattle.std.proofs.Common.{◌≡◌, ◌≢◌, ℕ, Bool, true, false, cond, Option, Some, None, List, [], ◌∷◌, ◌++◌, refl, sym, ap, ◌∙◌, ⊎_elim, append_assoc}
use Rattle.std.specs.Prelude.{codes}
use Rattle.std.specs.Option.{option_map}
use Rattle.std.proofs.lemmas.Slice.Eq.{bytes_eq-Decides}
use Rattle.bumblebee_reader.specs.declared.syntax.Item.{Item}
use Rattle.bumblebee_reader.specs.declared.syntax.Item.TheVariants.{Call, Goal}
use Rattle.bumblebee_reader.specs.declared.syntax.Arg.{Arg}
use Rattle.bumblebee_reader.specs.declared.syntax.Arg.TheVariants.{One, Many}
use Rattle.bumblebee_reader.specs.declared.syntax.Term.{Term}
use Rattle.bumblebee_reader.specs.declared.syntax.Term.TheVariants.{Plain, Minus, Number}
use Rattle.bumblebee_reader.specs.declared.syntax.GoalKind.{GoalKind}
use Rattle.bumblebee_reader.specs.declared.syntax.GoalKind.TheVariants.{Satisfy, Minimize, Maximize}
use Rattle.bumblebee_reader.specs.declared.lexeme.Sign.TheVariants.{OpenCall, CloseCall, OpenList, CloseList, Comma, Dash}
use Rattle.bumblebee_reader.specs.Tokens.{Token, Word, Digits, Mark, Stray}
use Rattle.bumblebee_reader.specs.Grammar.{SpellsTerm, SpellsTerms, SpellsMembers, SpellsArg, SpellsArgs, SpellsObjective, SpellsSecond, SpellsObjectives, SpellsItem, Spells}
use Rattle.bumblebee_reader.specs.Reading.{Owner, InCall, InList, Place, AtItem, AtArg, BehindArg, AtFirst, AtTerm, AtObjective, BehindObjective, Seeking, FirstOf, SecondOf, Misfit, Go, AtKind, AtOpen, move, begin_term, behind_term, behind_name, behind_item, is_solve, is_then}
use Rattle.bumblebee_reader.proofs.Machine.{accepts, accept_turn}

-- a term may begin at the place
record BeginsTerm (p : Place) (owner : Owner) : Type 0 where
  word : (name : List ℕ) → move p (Word name) ≡ begin_term owner (Word name)
  digits : (ds : List ℕ) → move p (Digits ds) ≡ begin_term owner (Digits ds)
  dash : move p (Mark Dash) ≡ begin_term owner (Mark Dash)

at_arg_begins : (name : List ℕ) (args : List Arg) → BeginsTerm (AtArg name args) (InCall name args)
at_arg_begins name args = record { word = λ _. refl; digits = λ _. refl; dash = refl }

at_first_begins : (name : List ℕ) (args : List Arg) → BeginsTerm (AtFirst name args) (InList name args [])
at_first_begins name args = record { word = λ _. refl; digits = λ _. refl; dash = refl }

at_term_begins : (name : List ℕ) (args : List Arg) (terms : List Term) → BeginsTerm (AtTerm name args terms) (InList name args terms)
at_term_begins name args terms = record { word = λ _. refl; digits = λ _. refl; dash = refl }

accepts_term : (p : Place) (owner : Owner) (b : BeginsTerm p owner) (ts us : List Token) (t : Term) → SpellsTerm ts t → accepts p (ts ++ us) ≡ accepts (behind_term owner t) us
accepts_term p owner b ts us (Plain name) h = rw (h, b.word name) refl
accepts_term p owner b ts us (Minus name) h = rw (h, b.dash) refl
accepts_term p owner b ts us (Number z) h =
    ⊎_elim (λ e. rw (e.0, b.digits h.0, e.1) refl) (λ e. rw (e.0, b.dash, e.1) refl) h.1

-- what stands before a sign and what stands behind it
apart : {A : Type 0} (ts us vs ws : List A) (sign : A) → ts ≡ us ++ sign ∷ vs → ts ++ ws ≡ us ++ sign ∷ (vs ++ ws)
apart ts us vs ws sign e = ap (λ l. l ++ ws) e ∙ append_assoc us (sign ∷ vs) ws

accepts_terms : (name : List ℕ) (args : List Arg) (before : List Term) (p : Place) (b : BeginsTerm p (InList name args before)) (ts us : List Token) (terms : List Term) → SpellsTerms ts terms → accepts p (ts ++ Mark CloseList ∷ us) ≡ accepts (BehindArg name (args ++ Many (before ++ terms) ∷ [])) us
accepts_terms name args before p b ts us [] h = absurd h
accepts_terms name args before p b ts us (t ∷ []) h =
    accepts_term p (InList name args before) b ts (Mark CloseList ∷ us) t h
accepts_terms name args before p b ts us (t ∷ t' ∷ terms) h =
    let rest = accepts_terms name args (before ++ t ∷ []) (AtTerm name args (before ++ t ∷ [])) (at_term_begins name args (before ++ t ∷ [])) h.1 us (t' ∷ terms) h.4 in
    ap (accepts p) (apart ts h.0 h.1 (Mark CloseList ∷ us) (Mark Comma) h.2)
    ∙ accepts_term p (InList name args before) b h.0 (Mark Comma ∷ (h.1 ++ Mark CloseList ∷ us)) t h.3
    ∙ rest
    ∙ ap (λ l. accepts (BehindArg name (args ++ Many l ∷ [])) us) (append_assoc before (t ∷ []) (t' ∷ terms))

accepts_members : (name : List ℕ) (args : List Arg) (ts us : List Token) (terms : List Term) → SpellsMembers ts terms → accepts (AtFirst name args) (ts ++ Mark CloseList ∷ us) ≡ accepts (BehindArg name (args ++ Many terms ∷ [])) us
accepts_members name args ts us [] h = rw h refl
accepts_members name args ts us (t ∷ terms) h =
    accepts_terms name args [] (AtFirst name args) (at_first_begins name args) ts us (t ∷ terms) h

accepts_arg : (name : List ℕ) (args : List Arg) (ts us : List Token) (a : Arg) → SpellsArg ts a → accepts (AtArg name args) (ts ++ us) ≡ accepts (BehindArg name (args ++ a ∷ [])) us
accepts_arg name args ts us (One t) h =
    accepts_term (AtArg name args) (InCall name args) (at_arg_begins name args) ts us t h
accepts_arg name args ts us (Many terms) h =
    ap (accepts (AtArg name args)) (ap (λ l. l ++ us) h.1 ∙ ap (λ l. Mark OpenList ∷ l) (append_assoc h.0 (Mark CloseList ∷ []) us))
    ∙ accepts_members name args h.0 us terms h.2

accepts_args : (name : List ℕ) (before : List Arg) (ts us : List Token) (args : List Arg) → SpellsArgs ts args → accepts (AtArg name before) (ts ++ Mark CloseCall ∷ us) ≡ option_map (λ is. Call name (before ++ args) ∷ is) (accepts AtItem us)
accepts_args name before ts us [] h = absurd h
accepts_args name before ts us (a ∷ []) h = accepts_arg name before ts (Mark CloseCall ∷ us) a h
accepts_args name before ts us (a ∷ a' ∷ args) h =
    let rest = accepts_args name (before ++ a ∷ []) h.1 us (a' ∷ args) h.4 in
    ap (accepts (AtArg name before)) (apart ts h.0 h.1 (Mark CloseCall ∷ us) (Mark Comma) h.2)
    ∙ accepts_arg name before h.0 (Mark Comma ∷ (h.1 ++ Mark CloseCall ∷ us)) a h.3
    ∙ rest
    ∙ ap (λ l. option_map (λ is. Call name l ∷ is) (accepts AtItem us)) (append_assoc before (a ∷ []) (a' ∷ args))

accepts_objective : (s : Seeking) (ts us : List Token) (name : List ℕ) → SpellsObjective ts name → accepts (AtObjective s) (ts ++ us) ≡ accept_turn (behind_name s name) (λ q. accepts q us)
accepts_objective s ts us name h = ⊎_elim (λ e. rw e refl) (λ e. rw e refl) h

-- `solve` is not `then`
not_both : (word : List ℕ) → is_then word ≡ true → is_solve word ≡ true → ⊥
not_both word e s =
    let same = sym ((bytes_eq-Decides word (codes "then")).0 e) ∙ (bytes_eq-Decides word (codes "solve")).0 s in
    cc

-- behind a goal that is whole comes what comes at an item
accepts_word : (kind : GoalKind) (name word : List ℕ) (ts : List Token) (is : List Item) (b t : Bool) → accept_turn (cond b (Go AtKind) (cond t Misfit (Go (AtOpen word)))) (λ q. accepts q ts) ≡ Some is → is_then word ≡ t → is_solve word ≡ b → accept_turn (cond t (Go (AtObjective (SecondOf kind name))) (behind_item (Goal kind (Some name) None) (cond b (Go AtKind) (cond t Misfit (Go (AtOpen word)))))) (λ q. accepts q ts) ≡ Some (Goal kind (Some name) None ∷ is)
accepts_word kind name word ts is true true h e s = absurd (not_both word e s)
accepts_word kind name word ts is true false h e s = rw h refl
accepts_word kind name word ts is false true h e s = cc
accepts_word kind name word ts is false false h e s = rw h refl

accepts_behind : (kind : GoalKind) (name : List ℕ) (us : List Token) (is : List Item) → accepts AtItem us ≡ Some is → accepts (BehindObjective kind name) us ≡ Some (Goal kind (Some name) None ∷ is)
accepts_behind kind name [] is h = cc
accepts_behind kind name (Word word ∷ ts) is h = accepts_word kind name word ts is (is_solve word) (is_then word) h refl refl
accepts_behind kind name (Digits digits ∷ ts) is h = cc
accepts_behind kind name (Mark sign ∷ ts) is h = cc
accepts_behind kind name (Stray ∷ ts) is h = cc

accepts_second : (kind : GoalKind) (name : List ℕ) (second : Option (List ℕ)) (ts us : List Token) (is : List Item) → SpellsSecond ts second → accepts AtItem us ≡ Some is → accepts (BehindObjective kind name) (ts ++ us) ≡ Some (Goal kind (Some name) second ∷ is)
accepts_second kind name None ts us is h e = rw h (accepts_behind kind name us is e)
accepts_second kind name (Some second) ts us is h e =
    ap (λ l. accepts (BehindObjective kind name) (l ++ us)) h.1 ∙ accepts_objective (SecondOf kind name) h.0 us second h.2 ∙ ap (option_map (λ l. Goal kind (Some name) (Some second) ∷ l)) e

accepts_objectives : (kind : GoalKind) (name : List ℕ) (second : Option (List ℕ)) (ts us : List Token) (is : List Item) → SpellsObjectives ts name second → accepts AtItem us ≡ Some is → accepts (AtObjective (FirstOf kind)) (ts ++ us) ≡ Some (Goal kind (Some name) second ∷ is)
accepts_objectives kind name second ts us is h e =
    ap (λ l. accepts (AtObjective (FirstOf kind)) l) (ap (λ l. l ++ us) h.2 ∙ append_assoc h.0 h.1 us)
    ∙ accepts_objective (FirstOf kind) h.0 (h.1 ++ us) name h.3
    ∙ accepts_second kind name second h.1 us is h.4 e

not_solve : (name : List ℕ) (b : Bool) → is_solve name ≡ b → name ≢ codes "solve" → b ≡ false
not_solve name true e h = absurd (h ((bytes_eq-Decides name (codes "solve")).0 e))
not_solve name false e h = refl

not_then : (name : List ℕ) (b : Bool) → is_then name ≡ b → name ≢ codes "then" → b ≡ false
not_then name true e h = absurd (h ((bytes_eq-Decides name (codes "then")).0 e))
not_then name false e h = refl

accepts_item : (ts us : List Token) (i : Item) (is : List Item) → SpellsItem ts i → accepts AtItem us ≡ Some is → accepts AtItem (ts ++ us) ≡ Some (i ∷ is)
accepts_item ts us (Call name args) is h e =
    let other = not_solve name (is_solve name) refl h.0 in
    let another = not_then name (is_then name) refl h.1 in
    ap (accepts AtItem) (ap (λ l. l ++ us) h.3 ∙ ap (λ l. Word name ∷ Mark OpenCall ∷ l) (append_assoc h.2 (Mark CloseCall ∷ []) us))
    ∙ (rw (other, another) refl)
    ∙ accepts_args name [] h.2 us args h.4
    ∙ ap (option_map (λ l. Call name args ∷ l)) e
accepts_item ts us (Goal Satisfy None None) is h e = ap (λ l. accepts AtItem (l ++ us)) h ∙ ap (option_map (λ l. Goal Satisfy None None ∷ l)) e
accepts_item ts us (Goal Satisfy None (Some second)) is h e = absurd h
accepts_item ts us (Goal Satisfy (Some name) second) is h e = absurd h
accepts_item ts us (Goal Minimize None second) is h e = absurd h
accepts_item ts us (Goal Minimize (Some name) second) is h e =
    ap (λ l. accepts AtItem (l ++ us)) h.1 ∙ accepts_objectives Minimize name second h.0 us is h.2 e
accepts_item ts us (Goal Maximize None second) is h e = absurd h
accepts_item ts us (Goal Maximize (Some name) second) is h e =
    ap (λ l. accepts AtItem (l ++ us)) h.1 ∙ accepts_objectives Maximize name second h.0 us is h.2 e

pub accepts_spelled : (ts : List Token) (items : List Item) → Spells ts items → accepts AtItem ts ≡ Some items
accepts_spelled ts [] h = rw h refl
accepts_spelled ts (i ∷ is) h =
    ap (accepts AtItem) h.2 ∙ accepts_item h.0 h.1 i is h.3 (accepts_spelled h.1 is h.4)
