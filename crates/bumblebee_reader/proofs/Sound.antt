-- What is accepted is spelled by the grammar.
use Rattle.std.proofs.Common.{◌≡◌, ◌≢◌, ℕ, Bool, true, false, cond, Option, Some, None, List, [], ◌∷◌, ◌++◌, refl, sym, ap, subst, ◌∙◌, inl, inr, append_assoc, append-nil, pos, neg_ℤ}
use Rattle.std.specs.Prelude.{codes}
use Rattle.std.specs.Option.{option_map}
use Rattle.std.specs.Str.{bytes_eq}
use Rattle.std.proofs.lemmas.Bool.{false≢true}
use Rattle.std.proofs.lemmas.Slice.Eq.{bytes_eq-Decides}
use Rattle.bumblebee_reader.specs.declared.syntax.Item.{Item}
use Rattle.bumblebee_reader.specs.declared.syntax.Item.TheVariants.{Call, Goal}
use Rattle.bumblebee_reader.specs.declared.syntax.Arg.{Arg}
use Rattle.bumblebee_reader.specs.declared.syntax.Arg.TheVariants.{One, Many}
use Rattle.bumblebee_reader.specs.declared.syntax.Term.{Term}
use Rattle.bumblebee_reader.specs.declared.syntax.Term.TheVariants.{Plain, Minus, Number}
use Rattle.bumblebee_reader.specs.declared.syntax.GoalKind.{GoalKind}
use Rattle.bumblebee_reader.specs.declared.syntax.GoalKind.TheVariants.{Satisfy, Minimize, Maximize}
use Rattle.bumblebee_reader.specs.declared.lexeme.Sign.TheVariants.{OpenCall, CloseCall, OpenList, CloseList, Comma, Dash}
use Rattle.bumblebee_reader.specs.Tokens.{Token, Word, Digits, Mark}
use Rattle.bumblebee_reader.specs.Numeral.{number_of}
use Rattle.bumblebee_reader.specs.Grammar.{SpellsTerm, SpellsTerms, SpellsMembers, SpellsArg, SpellsArgs, SpellsObjective, SpellsSecond, SpellsItem, Spells}
use Rattle.bumblebee_reader.specs.Reading.{Misfit, Go, Seeking, FirstOf, SecondOf, Owner, InCall, InList, Place, AtItem, AtOpen, AtArg, BehindArg, AtFirst, AtTerm, BehindTerm, BehindDash, AtKind, AtObjective, AtInner, AtClose, BehindObjective, move, begin_term, behind_term, behind_name, behind_item, is_solve, is_then, begin_goal}
use Rattle.bumblebee_reader.proofs.Machine.{accepts, accept_turn, option_map_cons}

-- terms behind another: nothing, or `,` and one term or more
abbrev SpellsMoreTerms : List Token → List Term → Type 0
SpellsMoreTerms ts [] = ts ≡ []
SpellsMoreTerms ts (t ∷ terms) = (us : List Token) × (ts ≡ Mark Comma ∷ us) × SpellsTerms us (t ∷ terms)

abbrev SpellsMoreArgs : List Token → List Arg → Type 0
SpellsMoreArgs ts [] = ts ≡ []
SpellsMoreArgs ts (a ∷ args) = (us : List Token) × (ts ≡ Mark Comma ∷ us) × SpellsArgs us (a ∷ args)

-- the tokens complete an item, and other items stand behind it
record Ends (item : Item) (ts : List Token) (items : List Item) : Type 0 where
  behind : List Item
  items_are : items ≡ item ∷ behind
  spelled : Spells ts behind

-- the tokens complete a call behind the arguments that it has
record CompletesArgs (name : List ℕ) (args : List Arg) (ts : List Token) (items : List Item) : Type 0 where
  more : List Arg
  us : List Token
  vs : List Token
  parts : ts ≡ us ++ Mark CloseCall ∷ vs
  spelled : SpellsArgs us more
  ends : Ends (Call name (args ++ more)) vs items

record CompletesBehindArg (name : List ℕ) (args : List Arg) (ts : List Token) (items : List Item) : Type 0 where
  more : List Arg
  us : List Token
  vs : List Token
  parts : ts ≡ us ++ Mark CloseCall ∷ vs
  spelled : SpellsMoreArgs us more
  ends : Ends (Call name (args ++ more)) vs items

record CompletesTerms (name : List ℕ) (args : List Arg) (terms : List Term) (ts : List Token) (items : List Item) : Type 0 where
  more : List Term
  us : List Token
  vs : List Token
  parts : ts ≡ us ++ Mark CloseList ∷ vs
  spelled : SpellsTerms us more
  rest : CompletesBehindArg name (args ++ Many (terms ++ more) ∷ []) vs items

record CompletesBehindTerm (name : List ℕ) (args : List Arg) (terms : List Term) (ts : List Token) (items : List Item) : Type 0 where
  more : List Term
  us : List Token
  vs : List Token
  parts : ts ≡ us ++ Mark CloseList ∷ vs
  spelled : SpellsMoreTerms us more
  rest : CompletesBehindArg name (args ++ Many (terms ++ more) ∷ []) vs items

record CompletesFirst (name : List ℕ) (args : List Arg) (ts : List Token) (items : List Item) : Type 0 where
  terms : List Term
  us : List Token
  vs : List Token
  parts : ts ≡ us ++ Mark CloseList ∷ vs
  spelled : SpellsMembers us terms
  rest : CompletesBehindArg name (args ++ Many terms ∷ []) vs items

record CompletesOpen (name : List ℕ) (ts : List Token) (items : List Item) : Type 0 where
  us : List Token
  parts : ts ≡ Mark OpenCall ∷ us
  rest : CompletesArgs name [] us items

-- the tokens complete what a term belongs to
abbrev CompletesOwner : Owner → Term → List Token → List Item → Type 0
CompletesOwner (InCall name args) t ts items = CompletesBehindArg name (args ++ One t ∷ []) ts items
CompletesOwner (InList name args terms) t ts items = CompletesBehindTerm name args (terms ++ t ∷ []) ts items

record CompletesDash (owner : Owner) (ts : List Token) (items : List Item) : Type 0 where
  term : Term
  token : Token
  us : List Token
  parts : ts ≡ token ∷ us
  spelled : SpellsTerm (Mark Dash ∷ token ∷ []) term
  rest : CompletesOwner owner term us items

record CompletesKind (ts : List Token) (items : List Item) : Type 0 where
  item : Item
  us : List Token
  vs : List Token
  parts : ts ≡ us ++ vs
  spelled : SpellsItem (Word (codes "solve") ∷ us) item
  ends : Ends item vs items

-- the tokens complete a goal behind its first objective
record CompletesBehindObjective (kind : GoalKind) (name : List ℕ) (ts : List Token) (items : List Item) : Type 0 where
  second : Option (List ℕ)
  us : List Token
  vs : List Token
  parts : ts ≡ us ++ vs
  spelled : SpellsSecond us second
  ends : Ends (Goal kind (Some name) second) vs items

-- the tokens complete a goal behind an objective
abbrev CompletesNamed : Seeking → List ℕ → List Token → List Item → Type 0
CompletesNamed (FirstOf kind) name ts items = CompletesBehindObjective kind name ts items
CompletesNamed (SecondOf kind first) name ts items = Ends (Goal kind (Some first) (Some name)) ts items

record CompletesObjective (s : Seeking) (ts : List Token) (items : List Item) : Type 0 where
  name : List ℕ
  us : List Token
  vs : List Token
  parts : ts ≡ us ++ vs
  spelled : SpellsObjective us name
  rest : CompletesNamed s name vs items

record CompletesInner (s : Seeking) (ts : List Token) (items : List Item) : Type 0 where
  name : List ℕ
  us : List Token
  parts : ts ≡ Word name ∷ Mark CloseCall ∷ us
  rest : CompletesNamed s name us items

record CompletesClose (s : Seeking) (name : List ℕ) (ts : List Token) (items : List Item) : Type 0 where
  us : List Token
  parts : ts ≡ Mark CloseCall ∷ us
  rest : CompletesNamed s name us items

abbrev Completes : Place → List Token → List Item → Type 0
Completes AtItem ts items = Spells ts items
Completes (AtOpen name) ts items = CompletesOpen name ts items
Completes (AtArg name args) ts items = CompletesArgs name args ts items
Completes (BehindArg name args) ts items = CompletesBehindArg name args ts items
Completes (AtFirst name args) ts items = CompletesFirst name args ts items
Completes (AtTerm name args terms) ts items = CompletesTerms name args terms ts items
Completes (BehindTerm name args terms) ts items = CompletesBehindTerm name args terms ts items
Completes (BehindDash owner) ts items = CompletesDash owner ts items
Completes AtKind ts items = CompletesKind ts items
Completes (AtObjective s) ts items = CompletesObjective s ts items
Completes (AtInner s) ts items = CompletesInner s ts items
Completes (AtClose s name) ts items = CompletesClose s name ts items
Completes (BehindObjective kind name) ts items = CompletesBehindObjective kind name ts items

some_is : (a b : List Item) → Some a ≡ Some b → a ≡ b
some_is a b h = cc

-- what is known of the tokens behind the first
Rest : List Token → Type 0
Rest ts = (q : Place) (items : List Item) → accepts q ts ≡ Some items → Completes q ts items

-- an item that is whole
done : (i : Item) (ts : List Token) (items : List Item) → option_map (λ is. i ∷ is) (accepts AtItem ts) ≡ Some items → Rest ts → Ends i ts items
unfolding Rest
done i ts items h rest =
    let w = option_map_cons i (accepts AtItem ts) items h in
    record { behind = w.0; items_are = w.2; spelled = rest AtItem w.0 w.1 }

ends_as : (i j : Item) (ts : List Token) (items : List Item) → i ≡ j → Ends i ts items → Ends j ts items
ends_as i j ts items e h =
    record { behind = h.behind; items_are = h.items_are ∙ ap (λ k. k ∷ h.behind) e; spelled = h.spelled }

behind_args_as : (name : List ℕ) (args args' : List Arg) (ts : List Token) (items : List Item) → args ≡ args' → CompletesBehindArg name args ts items → CompletesBehindArg name args' ts items
behind_args_as name args args' ts items e h = record {
  more = h.more;
  us = h.us;
  vs = h.vs;
  parts = h.parts;
  spelled = h.spelled;
  ends = ends_as (Call name (args ++ h.more)) (Call name (args' ++ h.more)) h.vs items (ap (λ l. Call name (l ++ h.more)) e) h.ends;
}

-- what stands before a sign, in two parts
joined : {A : Type 0} (front ts us vs : List A) (sign : A) → ts ≡ us ++ sign ∷ vs → front ++ ts ≡ (front ++ us) ++ sign ∷ vs
joined front ts us vs sign e = ap (λ l. front ++ l) e ∙ sym (append_assoc front us (sign ∷ vs))

spells_args_from : (a : Arg) (front us : List Token) (more : List Arg) → SpellsArg front a → SpellsMoreArgs us more → SpellsArgs (front ++ us) (a ∷ more)
spells_args_from a front us [] h spelled =
    subst (λ l. SpellsArg l a) (sym (append-nil front) ∙ ap (λ l. front ++ l) (sym spelled)) h
spells_args_from a front us (a' ∷ more) h spelled =
    (front, spelled.0, ap (λ l. front ++ l) spelled.1, h, spelled.2)

spells_terms_from : (t : Term) (front us : List Token) (more : List Term) → SpellsTerm front t → SpellsMoreTerms us more → SpellsTerms (front ++ us) (t ∷ more)
spells_terms_from t front us [] h spelled =
    subst (λ l. SpellsTerm l t) (sym (append-nil front) ∙ ap (λ l. front ++ l) (sym spelled)) h
spells_terms_from t front us (t' ∷ more) h spelled =
    (front, spelled.0, ap (λ l. front ++ l) spelled.1, h, spelled.2)

-- the first argument of a call, and what stands behind it
args_from : (name : List ℕ) (args : List Arg) (a : Arg) (front ts : List Token) (items : List Item) → SpellsArg front a → CompletesBehindArg name (args ++ a ∷ []) ts items → CompletesArgs name args (front ++ ts) items
args_from name args a front ts items h c = record {
  more = a ∷ c.more;
  us = front ++ c.us;
  vs = c.vs;
  parts = joined front ts c.us c.vs (Mark CloseCall) c.parts;
  spelled = spells_args_from a front c.us c.more h c.spelled;
  ends = ends_as (Call name ((args ++ a ∷ []) ++ c.more)) (Call name (args ++ a ∷ c.more)) c.vs items (ap (Call name) (append_assoc args (a ∷ []) c.more)) c.ends;
}

-- the first term of a list, and what stands behind it
terms_from : (name : List ℕ) (args : List Arg) (terms : List Term) (t : Term) (front ts : List Token) (items : List Item) → SpellsTerm front t → CompletesBehindTerm name args (terms ++ t ∷ []) ts items → CompletesTerms name args terms (front ++ ts) items
terms_from name args terms t front ts items h c = record {
  more = t ∷ c.more;
  us = front ++ c.us;
  vs = c.vs;
  parts = joined front ts c.us c.vs (Mark CloseList) c.parts;
  spelled = spells_terms_from t front c.us c.more h c.spelled;
  rest = behind_args_as name (args ++ Many ((terms ++ t ∷ []) ++ c.more) ∷ []) (args ++ Many (terms ++ t ∷ c.more) ∷ []) c.vs items (ap (λ l. args ++ Many l ∷ []) (append_assoc terms (t ∷ []) c.more)) c.rest;
}

spells_members : (ts : List Token) (terms : List Term) → SpellsTerms ts terms → SpellsMembers ts terms
spells_members ts [] h = absurd h
spells_members ts (t ∷ terms) h = h

first_from : (name : List ℕ) (args : List Arg) (ts : List Token) (items : List Item) → CompletesTerms name args [] ts items → CompletesFirst name args ts items
first_from name args ts items c = record {
  terms = c.more;
  us = c.us;
  vs = c.vs;
  parts = c.parts;
  spelled = spells_members c.us c.more c.spelled;
  rest = c.rest;
}

-- the place where a term begins
abbrev start_of : Owner → Place
start_of (InCall name args) = AtArg name args
start_of (InList name args terms) = AtTerm name args terms

-- a term and what stands behind it
owner_from : (owner : Owner) (t : Term) (front ts : List Token) (items : List Item) → SpellsTerm front t → CompletesOwner owner t ts items → Completes (start_of owner) (front ++ ts) items
owner_from (InCall name args) t front ts items h c = args_from name args (One t) front ts items h c
owner_from (InList name args terms) t front ts items h c = terms_from name args terms t front ts items h c

owner_rest : (owner : Owner) (t : Term) (ts : List Token) (items : List Item) → accepts (behind_term owner t) ts ≡ Some items → Rest ts → CompletesOwner owner t ts items
unfolding Rest
owner_rest (InCall name args) t ts items h rest = rest (BehindArg name (args ++ One t ∷ [])) items h
owner_rest (InList name args terms) t ts items h rest = rest (BehindTerm name args (terms ++ t ∷ [])) items h

-- one token at each place
sound_term : (owner : Owner) (t : Token) (ts : List Token) (items : List Item) → accept_turn (begin_term owner t) (λ q. accepts q ts) ≡ Some items → Rest ts → Completes (start_of owner) (t ∷ ts) items
unfolding Rest
sound_term owner (Word name) ts items h rest =
    owner_from owner (Plain name) (Word name ∷ []) ts items refl (owner_rest owner (Plain name) ts items h rest)
sound_term owner (Digits ds) ts items h rest =
    owner_from owner (Number (pos (number_of ds))) (Digits ds ∷ []) ts items (ds, inl (refl, refl)) (owner_rest owner (Number (pos (number_of ds))) ts items h rest)
sound_term owner (Mark Dash) ts items h rest =
    let c = rest (BehindDash owner) items h in
    let whole = owner_from owner c.term (Mark Dash ∷ c.token ∷ []) c.us items c.spelled c.rest in
    subst (λ l. Completes (start_of owner) (Mark Dash ∷ l) items) (sym c.parts) whole
sound_term owner _ ts items h rest = cc

ends_spell : (i : Item) (us vs ts : List Token) (items : List Item) → ts ≡ us ++ vs → SpellsItem us i → Ends i vs items → Spells ts items
ends_spell i us vs ts items parts spelled ends =
    subst (λ l. Spells ts l) (sym ends.items_are) (us, vs, parts, spelled, ends.spelled)

differs : (name : List ℕ) → is_solve name ≡ false → name ≢ codes "solve"
differs name e same = false≢true (sym e ∙ (bytes_eq-Decides name (codes "solve")).1 same)

differs_then : (name : List ℕ) → is_then name ≡ false → name ≢ codes "then"
differs_then name e same = false≢true (sym e ∙ (bytes_eq-Decides name (codes "then")).1 same)

sound_name : (name : List ℕ) (b t : Bool) → is_solve name ≡ b → is_then name ≡ t → (ts : List Token) (items : List Item) → accept_turn (cond b (Go AtKind) (cond t Misfit (Go (AtOpen name)))) (λ q. accepts q ts) ≡ Some items → Rest ts → Spells (Word name ∷ ts) items
unfolding Rest
sound_name name true t e et ts items h rest =
    let c = rest AtKind items h in
    let same = (bytes_eq-Decides name (codes "solve")).0 e in
    ends_spell c.item (Word (codes "solve") ∷ c.us) c.vs (Word name ∷ ts) items (ap (λ l. Word l ∷ ts) same ∙ ap (λ l. Word (codes "solve") ∷ l) c.parts) c.spelled c.ends
sound_name name false true e et ts items h rest = cc
sound_name name false false e et ts items h rest =
    let c = rest (AtOpen name) items h in
    let d = c.rest in
    let whole = c.parts ∙ ap (λ l. Mark OpenCall ∷ l) (d.parts ∙ sym (append_assoc d.us (Mark CloseCall ∷ []) d.vs)) in
    ends_spell (Call name d.more) (Word name ∷ Mark OpenCall ∷ (d.us ++ Mark CloseCall ∷ [])) d.vs (Word name ∷ ts) items (ap (λ l. Word name ∷ l) whole) (differs name e, differs_then name et, d.us, refl, d.spelled) d.ends

sound_item : (t : Token) (ts : List Token) (items : List Item) → accept_turn (move AtItem t) (λ q. accepts q ts) ≡ Some items → Rest ts → Spells (t ∷ ts) items
sound_item (Word name) ts items h rest = sound_name name (is_solve name) (is_then name) refl refl ts items h rest
sound_item _ ts items h rest = cc

sound_open : (name : List ℕ) (t : Token) (ts : List Token) (items : List Item) → accept_turn (move (AtOpen name) t) (λ q. accepts q ts) ≡ Some items → Rest ts → CompletesOpen name (t ∷ ts) items
unfolding Rest
sound_open name (Mark OpenCall) ts items h rest =
    record { us = ts; parts = refl; rest = rest (AtArg name []) items h }
sound_open name _ ts items h rest = cc

sound_list : (name : List ℕ) (args : List Arg) (ts : List Token) (items : List Item) → CompletesFirst name args ts items → CompletesArgs name args (Mark OpenList ∷ ts) items
sound_list name args ts items c =
    let whole = ap (λ l. Mark OpenList ∷ l) (c.parts ∙ sym (append_assoc c.us (Mark CloseList ∷ []) c.vs)) in
    subst (λ l. CompletesArgs name args l items) (sym whole) (args_from name args (Many c.terms) (Mark OpenList ∷ (c.us ++ Mark CloseList ∷ [])) c.vs items (c.us, refl, c.spelled) c.rest)

sound_arg : (name : List ℕ) (args : List Arg) (t : Token) (ts : List Token) (items : List Item) → accept_turn (move (AtArg name args) t) (λ q. accepts q ts) ≡ Some items → Rest ts → CompletesArgs name args (t ∷ ts) items
unfolding Rest
sound_arg name args (Word word) ts items h rest = sound_term (InCall name args) (Word word) ts items h rest
sound_arg name args (Digits ds) ts items h rest = sound_term (InCall name args) (Digits ds) ts items h rest
sound_arg name args (Mark Dash) ts items h rest = sound_term (InCall name args) (Mark Dash) ts items h rest
sound_arg name args (Mark OpenList) ts items h rest = sound_list name args ts items (rest (AtFirst name args) items h)
sound_arg name args _ ts items h rest = cc

more_args : (ts : List Token) (more : List Arg) → SpellsArgs ts more → SpellsMoreArgs (Mark Comma ∷ ts) more
more_args ts [] h = absurd h
more_args ts (a ∷ more) h = (ts, refl, h)

more_terms : (ts : List Token) (more : List Term) → SpellsTerms ts more → SpellsMoreTerms (Mark Comma ∷ ts) more
more_terms ts [] h = absurd h
more_terms ts (t ∷ more) h = (ts, refl, h)

sound_behind_arg : (name : List ℕ) (args : List Arg) (t : Token) (ts : List Token) (items : List Item) → accept_turn (move (BehindArg name args) t) (λ q. accepts q ts) ≡ Some items → Rest ts → CompletesBehindArg name args (t ∷ ts) items
unfolding Rest
sound_behind_arg name args (Mark Comma) ts items h rest =
    let c = rest (AtArg name args) items h in
    record {
      more = c.more;
      us = Mark Comma ∷ c.us;
      vs = c.vs;
      parts = ap (λ l. Mark Comma ∷ l) c.parts;
      spelled = more_args c.us c.more c.spelled;
      ends = c.ends;
    }
sound_behind_arg name args (Mark CloseCall) ts items h rest = record {
  more = [];
  us = [];
  vs = ts;
  parts = refl;
  spelled = refl;
  ends = ends_as (Call name args) (Call name (args ++ [])) ts items (ap (Call name) (sym (append-nil args))) (done (Call name args) ts items h rest);
}
sound_behind_arg name args _ ts items h rest = cc

sound_first : (name : List ℕ) (args : List Arg) (t : Token) (ts : List Token) (items : List Item) → accept_turn (move (AtFirst name args) t) (λ q. accepts q ts) ≡ Some items → Rest ts → CompletesFirst name args (t ∷ ts) items
unfolding Rest
sound_first name args (Word word) ts items h rest =
    first_from name args (Word word ∷ ts) items (sound_term (InList name args []) (Word word) ts items h rest)
sound_first name args (Digits ds) ts items h rest =
    first_from name args (Digits ds ∷ ts) items (sound_term (InList name args []) (Digits ds) ts items h rest)
sound_first name args (Mark Dash) ts items h rest =
    first_from name args (Mark Dash ∷ ts) items (sound_term (InList name args []) (Mark Dash) ts items h rest)
sound_first name args (Mark CloseList) ts items h rest = record {
  terms = [];
  us = [];
  vs = ts;
  parts = refl;
  spelled = refl;
  rest = rest (BehindArg name (args ++ Many [] ∷ [])) items h;
}
sound_first name args _ ts items h rest = cc

sound_behind_term : (name : List ℕ) (args : List Arg) (terms : List Term) (t : Token) (ts : List Token) (items : List Item) → accept_turn (move (BehindTerm name args terms) t) (λ q. accepts q ts) ≡ Some items → Rest ts → CompletesBehindTerm name args terms (t ∷ ts) items
unfolding Rest
sound_behind_term name args terms (Mark Comma) ts items h rest =
    let c = rest (AtTerm name args terms) items h in
    record {
      more = c.more;
      us = Mark Comma ∷ c.us;
      vs = c.vs;
      parts = ap (λ l. Mark Comma ∷ l) c.parts;
      spelled = more_terms c.us c.more c.spelled;
      rest = c.rest;
    }
sound_behind_term name args terms (Mark CloseList) ts items h rest = record {
  more = [];
  us = [];
  vs = ts;
  parts = refl;
  spelled = refl;
  rest = behind_args_as name (args ++ Many terms ∷ []) (args ++ Many (terms ++ []) ∷ []) ts items (ap (λ l. args ++ Many l ∷ []) (sym (append-nil terms))) (rest (BehindArg name (args ++ Many terms ∷ [])) items h);
}
sound_behind_term name args terms _ ts items h rest = cc

sound_dash : (owner : Owner) (t : Token) (ts : List Token) (items : List Item) → accept_turn (move (BehindDash owner) t) (λ q. accepts q ts) ≡ Some items → Rest ts → CompletesDash owner (t ∷ ts) items
sound_dash owner (Word name) ts items h rest = record {
  term = Minus name;
  token = Word name;
  us = ts;
  parts = refl;
  spelled = refl;
  rest = owner_rest owner (Minus name) ts items h rest;
}
sound_dash owner (Digits ds) ts items h rest = record {
  term = Number (neg_ℤ (pos (number_of ds)));
  token = Digits ds;
  us = ts;
  parts = refl;
  spelled = (ds, inr (refl, refl));
  rest = owner_rest owner (Number (neg_ℤ (pos (number_of ds)))) ts items h rest;
}
sound_dash owner _ ts items h rest = cc

-- the tests that tell the kind of a goal
sound_words : (word : List ℕ) (a b c : Bool) → bytes_eq word (codes "satisfy") ≡ a → bytes_eq word (codes "minimize") ≡ b → bytes_eq word (codes "maximize") ≡ c → (ts : List Token) (items : List Item) → accept_turn (begin_goal (cond a (Some Satisfy) (cond b (Some Minimize) (cond c (Some Maximize) None)))) (λ q. accepts q ts) ≡ Some items → Rest ts → CompletesKind (Word word ∷ ts) items
unfolding Rest
sound_words word true b c ea eb ec ts items h rest = record {
  item = Goal Satisfy None None;
  us = Word (codes "satisfy") ∷ [];
  vs = ts;
  parts = ap (λ l. Word l ∷ ts) ((bytes_eq-Decides word (codes "satisfy")).0 ea);
  spelled = refl;
  ends = done (Goal Satisfy None None) ts items h rest;
}
sound_words word false true c ea eb ec ts items h rest =
    let d = rest (AtObjective (FirstOf Minimize)) items h in
    let e = d.rest in
    record {
      item = Goal Minimize (Some d.name) e.second;
      us = Word (codes "minimize") ∷ (d.us ++ e.us);
      vs = e.vs;
      parts = ap (λ l. Word l ∷ ts) ((bytes_eq-Decides word (codes "minimize")).0 eb) ∙ ap (λ l. Word (codes "minimize") ∷ l) (d.parts ∙ ap (λ l. d.us ++ l) e.parts ∙ sym (append_assoc d.us e.us e.vs));
      spelled = (d.us ++ e.us, refl, (d.us, e.us, refl, d.spelled, e.spelled));
      ends = e.ends;
    }
sound_words word false false true ea eb ec ts items h rest =
    let d = rest (AtObjective (FirstOf Maximize)) items h in
    let e = d.rest in
    record {
      item = Goal Maximize (Some d.name) e.second;
      us = Word (codes "maximize") ∷ (d.us ++ e.us);
      vs = e.vs;
      parts = ap (λ l. Word l ∷ ts) ((bytes_eq-Decides word (codes "maximize")).0 ec) ∙ ap (λ l. Word (codes "maximize") ∷ l) (d.parts ∙ ap (λ l. d.us ++ l) e.parts ∙ sym (append_assoc d.us e.us e.vs));
      spelled = (d.us ++ e.us, refl, (d.us, e.us, refl, d.spelled, e.spelled));
      ends = e.ends;
    }
sound_words word false false false ea eb ec ts items h rest = cc

sound_kind : (t : Token) (ts : List Token) (items : List Item) → accept_turn (move AtKind t) (λ q. accepts q ts) ≡ Some items → Rest ts → CompletesKind (t ∷ ts) items
sound_kind (Word word) ts items h rest =
    sound_words word (bytes_eq word (codes "satisfy")) (bytes_eq word (codes "minimize")) (bytes_eq word (codes "maximize")) refl refl refl ts items h rest
sound_kind _ ts items h rest = cc

-- behind an objective
named_rest : (s : Seeking) (name : List ℕ) (ts : List Token) (items : List Item) → accept_turn (behind_name s name) (λ q. accepts q ts) ≡ Some items → Rest ts → CompletesNamed s name ts items
unfolding Rest
named_rest (FirstOf kind) name ts items h rest = rest (BehindObjective kind name) items h
named_rest (SecondOf kind first) name ts items h rest = done (Goal kind (Some first) (Some name)) ts items h rest

sound_objective : (s : Seeking) (t : Token) (ts : List Token) (items : List Item) → accept_turn (move (AtObjective s) t) (λ q. accepts q ts) ≡ Some items → Rest ts → CompletesObjective s (t ∷ ts) items
unfolding Rest
sound_objective s (Word name) ts items h rest = record {
  name = name;
  us = Word name ∷ [];
  vs = ts;
  parts = refl;
  spelled = inl refl;
  rest = named_rest s name ts items h rest;
}
sound_objective s (Mark OpenCall) ts items h rest =
    let c = rest (AtInner s) items h in
    record {
      name = c.name;
      us = Mark OpenCall ∷ Word c.name ∷ Mark CloseCall ∷ [];
      vs = c.us;
      parts = ap (λ l. Mark OpenCall ∷ l) c.parts;
      spelled = inr refl;
      rest = c.rest;
    }
sound_objective s _ ts items h rest = cc

sound_inner : (s : Seeking) (t : Token) (ts : List Token) (items : List Item) → accept_turn (move (AtInner s) t) (λ q. accepts q ts) ≡ Some items → Rest ts → CompletesInner s (t ∷ ts) items
unfolding Rest
sound_inner s (Word name) ts items h rest =
    let c = rest (AtClose s name) items h in
    record { name = name; us = c.us; parts = ap (λ l. Word name ∷ l) c.parts; rest = c.rest }
sound_inner s _ ts items h rest = cc

sound_close : (s : Seeking) (name : List ℕ) (t : Token) (ts : List Token) (items : List Item) → accept_turn (move (AtClose s name) t) (λ q. accepts q ts) ≡ Some items → Rest ts → CompletesClose s name (t ∷ ts) items
sound_close s name (Mark CloseCall) ts items h rest =
    record { us = ts; parts = refl; rest = named_rest s name ts items h rest }
sound_close s name _ ts items h rest = cc

-- an item begins behind the first objective, which is the only one
sound_next : (kind : GoalKind) (name word : List ℕ) (ts : List Token) (items is : List Item) → items ≡ Goal kind (Some name) None ∷ is → Spells (Word word ∷ ts) is → CompletesBehindObjective kind name (Word word ∷ ts) items
sound_next kind name word ts items is e spelled = record {
  second = None;
  us = [];
  vs = Word word ∷ ts;
  parts = refl;
  spelled = refl;
  ends = record { behind = is; items_are = e; spelled = spelled };
}

sound_word : (kind : GoalKind) (name word : List ℕ) (b t : Bool) → is_solve word ≡ b → is_then word ≡ t → (ts : List Token) (items : List Item) → accept_turn (cond t (Go (AtObjective (SecondOf kind name))) (behind_item (Goal kind (Some name) None) (cond b (Go AtKind) (cond t Misfit (Go (AtOpen word)))))) (λ q. accepts q ts) ≡ Some items → Rest ts → CompletesBehindObjective kind name (Word word ∷ ts) items
unfolding Rest
sound_word kind name word b true e et ts items h rest =
    let c = rest (AtObjective (SecondOf kind name)) items h in
    record {
      second = Some c.name;
      us = Word (codes "then") ∷ c.us;
      vs = c.vs;
      parts = ap (λ l. Word l ∷ ts) ((bytes_eq-Decides word (codes "then")).0 et) ∙ ap (λ l. Word (codes "then") ∷ l) c.parts;
      spelled = (c.us, refl, c.spelled);
      ends = c.rest;
    }
sound_word kind name word true false e et ts items h rest =
    let w = option_map_cons (Goal kind (Some name) None) (accepts AtKind ts) items h in
    sound_next kind name word ts items w.0 w.2 (sound_name word true false e et ts w.0 w.1 rest)
sound_word kind name word false false e et ts items h rest =
    let w = option_map_cons (Goal kind (Some name) None) (accepts (AtOpen word) ts) items h in
    sound_next kind name word ts items w.0 w.2 (sound_name word false false e et ts w.0 w.1 rest)

sound_behind_objective : (kind : GoalKind) (name : List ℕ) (t : Token) (ts : List Token) (items : List Item) → accept_turn (move (BehindObjective kind name) t) (λ q. accepts q ts) ≡ Some items → Rest ts → CompletesBehindObjective kind name (t ∷ ts) items
sound_behind_objective kind name (Word word) ts items h rest =
    sound_word kind name word (is_solve word) (is_then word) refl refl ts items h rest
sound_behind_objective kind name _ ts items h rest = cc

sound_step : (p : Place) (t : Token) (ts : List Token) (items : List Item) → accept_turn (move p t) (λ q. accepts q ts) ≡ Some items → Rest ts → Completes p (t ∷ ts) items
sound_step AtItem t ts items h rest = sound_item t ts items h rest
sound_step (AtOpen name) t ts items h rest = sound_open name t ts items h rest
sound_step (AtArg name args) t ts items h rest = sound_arg name args t ts items h rest
sound_step (BehindArg name args) t ts items h rest = sound_behind_arg name args t ts items h rest
sound_step (AtFirst name args) t ts items h rest = sound_first name args t ts items h rest
sound_step (AtTerm name args terms) t ts items h rest = sound_term (InList name args terms) t ts items h rest
sound_step (BehindTerm name args terms) t ts items h rest = sound_behind_term name args terms t ts items h rest
sound_step (BehindDash owner) t ts items h rest = sound_dash owner t ts items h rest
sound_step AtKind t ts items h rest = sound_kind t ts items h rest
sound_step (AtObjective s) t ts items h rest = sound_objective s t ts items h rest
sound_step (AtInner s) t ts items h rest = sound_inner s t ts items h rest
sound_step (AtClose s name) t ts items h rest = sound_close s name t ts items h rest
sound_step (BehindObjective kind name) t ts items h rest = sound_behind_objective kind name t ts items h rest

sound_end : (p : Place) (items : List Item) → accepts p [] ≡ Some items → Completes p [] items
sound_end AtItem items h = subst (λ l. Spells [] l) (some_is [] items h) refl
sound_end (BehindObjective kind name) items h = record {
  second = None;
  us = [];
  vs = [];
  parts = refl;
  spelled = refl;
  ends = record { behind = []; items_are = sym (some_is (Goal kind (Some name) None ∷ []) items h); spelled = refl };
}
sound_end _ items h = cc

completes : (ts : List Token) (p : Place) (items : List Item) → accepts p ts ≡ Some items → Completes p ts items
unfolding Rest
completes [] p items h = sound_end p items h
completes (t ∷ ts) p items h = sound_step p t ts items h (λ q is e. completes ts q is e)

pub spelled_accepted : (ts : List Token) (items : List Item) → accepts AtItem ts ≡ Some items → Spells ts items
spelled_accepted ts items h = completes ts AtItem items h
