-- Tokens that fit begin a text, and only those.
use Rattle.std.proofs.Common.{◌≡◌, true, Some, List, [], ◌∷◌, ◌++◌, refl}
use Rattle.std.specs.Prelude.{codes}
use Rattle.std.proofs.lemmas.Bool.{false≢true}
use Rattle.bumblebee_reader.specs.declared.syntax.Item.{Item}
use Rattle.bumblebee_reader.specs.declared.lexeme.Sign.TheVariants.{CloseCall, OpenCall, CloseList}
use Rattle.bumblebee_reader.specs.Tokens.{Token, Word, Mark}
use Rattle.bumblebee_reader.specs.Grammar.{Begins}
use Rattle.bumblebee_reader.specs.Reading.{InCall, InList, Place, AtItem, AtOpen, AtArg, BehindArg, AtFirst, AtTerm, BehindTerm, BehindDash, AtKind, AtObjective, AtInner, AtClose, BehindObjective, FirstOf, SecondOf, Move, Misfit, Go, Done, move}
use Rattle.bumblebee_reader.proofs.Machine.{accepts, lives, live_turn, lives_front}
use Rattle.bumblebee_reader.proofs.Complete.{accepts_spelled}
use Rattle.bumblebee_reader.proofs.Sound.{spelled_accepted}

-- some tokens that complete a text from the place
abbrev finish : Place → List Token
finish AtItem = []
finish (AtOpen name) = Mark OpenCall ∷ Word (codes "x") ∷ Mark CloseCall ∷ []
finish (AtArg name args) = Word (codes "x") ∷ Mark CloseCall ∷ []
finish (BehindArg name args) = Mark CloseCall ∷ []
finish (AtFirst name args) = Mark CloseList ∷ Mark CloseCall ∷ []
finish (AtTerm name args terms) = Word (codes "x") ∷ Mark CloseList ∷ Mark CloseCall ∷ []
finish (BehindTerm name args terms) = Mark CloseList ∷ Mark CloseCall ∷ []
finish (BehindDash (InCall name args)) = Word (codes "x") ∷ Mark CloseCall ∷ []
finish (BehindDash (InList name args terms)) = Word (codes "x") ∷ Mark CloseList ∷ Mark CloseCall ∷ []
finish AtKind = Word (codes "satisfy") ∷ []
finish (AtObjective seeking) = Word (codes "x") ∷ []
finish (AtInner seeking) = Word (codes "x") ∷ Mark CloseCall ∷ []
finish (AtClose seeking name) = Mark CloseCall ∷ []
finish (BehindObjective kind name) = []

finished : (p : Place) → (items : List Item) × (accepts p (finish p) ≡ Some items)
finished AtItem = (_, refl)
finished (AtOpen name) = (_, refl)
finished (AtArg name args) = (_, refl)
finished (BehindArg name args) = (_, refl)
finished (AtFirst name args) = (_, refl)
finished (AtTerm name args terms) = (_, refl)
finished (BehindTerm name args terms) = (_, refl)
finished (BehindDash (InCall name args)) = (_, refl)
finished (BehindDash (InList name args terms)) = (_, refl)
finished AtKind = (_, refl)
finished (AtObjective (FirstOf kind)) = (_, refl)
finished (AtObjective (SecondOf kind first)) = (_, refl)
finished (AtInner (FirstOf kind)) = (_, refl)
finished (AtInner (SecondOf kind first)) = (_, refl)
finished (AtClose (FirstOf kind) name) = (_, refl)
finished (AtClose (SecondOf kind first) name) = (_, refl)
finished (BehindObjective kind name) = (_, refl)

-- the tokens go on to a text
record Continues (p : Place) (ts : List Token) : Type 0 where
  more : List Token
  items : List Item
  accepted : accepts p (ts ++ more) ≡ Some items

continues-turn : (p : Place) (t : Token) (ts : List Token) (m : Move) → move p t ≡ m → live_turn m (λ q. lives q ts) ≡ true → ((q : Place) → lives q ts ≡ true → Continues q ts) → Continues p (t ∷ ts)
continues-turn p t ts Misfit e h rest = absurd (false≢true h)
continues-turn p t ts (Go q) e h rest =
    let r = rest q h in
    record { more = r.more; items = r.items; accepted = rw e r.accepted }
continues-turn p t ts (Done i q) e h rest =
    let r = rest q h in
    record { more = r.more; items = i ∷ r.items; accepted = rw (e, r.accepted) refl }

continues : (ts : List Token) (p : Place) → lives p ts ≡ true → Continues p ts
continues [] p h =
    record { more = finish p; items = (finished p).0; accepted = (finished p).1 }
continues (t ∷ ts) p h = continues-turn p t ts (move p t) refl h (λ q e. continues ts q e)

pub begins_lives : (ts : List Token) → lives AtItem ts ≡ true → Begins ts
begins_lives ts h =
    let c = continues ts AtItem h in
    (c.more, c.items, spelled_accepted (ts ++ c.more) c.items c.accepted)

pub lives_begins : (ts : List Token) → Begins ts → lives AtItem ts ≡ true
lives_begins ts b =
    lives_front AtItem ts b.0 b.1 (accepts_spelled (ts ++ b.0) b.1 b.2)
