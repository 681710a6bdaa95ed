-- What clap's answer says of the words.
use Rattle.std.proofs.Common.{rules, codes, ap, refl, subst, ◌≡◌, ◌∙◌, List, [], ◌∷◌, true, false, None, ◌≢◌, inl, inr}
use Rattle.clap.specs.Words.{Text, matches_of, fault_of, first_of, first_value, rows_of, is_simple, is_simple_and_free, Kinds, HasKind, kind_of}
use Rattle.clap.specs.declared.parser.matches.Found.{Found}
use Rattle.clap.specs.declared.error.Error.{Error}
use Rattle.clap.specs.declared.error.kind.ErrorKind.TheVariants as kind
use Rattle.clap.proofs.WalkLemmas.{first_value-rows}
use Rattle.command_words.specs.Line.{bee, is_taken, value_of, request}
use Rattle.command_words.specs.Request.{requested}

pub simple : is_simple bee ≡ true
simple = refl

pub free : is_simple_and_free bee ≡ true
free = refl

-- what was found is what the words give, where clap takes them
pub found : (f : Found) (words : List Text) → rows_of f ≡ matches_of bee words → fault_of bee words ≡ []
    → requested (first_value f) ≡ request words
found f words rows none =
    let value : (id : Text) → first_value f id ≡ value_of words id = λ id. first_value-rows f id ∙ ap (first_of id) rows in
    let taken : is_taken words ≡ true = search (rules, none) in
    search (rules, taken, value (codes "mode"), value (codes "input"), value (codes "second"), value (codes "budget"), value (codes "no-restart"), value (codes "progress"))

-- clap doesn't take the words where it has a fault
pub refused : (words : List Text) → fault_of bee words ≢ [] → request words ≡ None
refused words some = go (fault_of bee words) refl
  where
    go : (kinds : Kinds) → fault_of bee words ≡ kinds → request words ≡ None
    go [] e = absurd (some e)
    go (k ∷ ks) e =
        let taken : is_taken words ≡ false = search (rules, e) in
        search (rules, taken)

-- an error that isn't want of memory comes of a fault
pub some_fault : (words : List Text) → (e : Error) → HasKind (fault_of bee words) e → kind_of e ≢ kind.OutOfMemory → fault_of bee words ≢ []
some_fault words e has other none = elim (subst (λ kinds. HasKind kinds e) none has) [
  | inl memory ↦ other memory
  | inr among ↦ absurd among
]
