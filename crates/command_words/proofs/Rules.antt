-- What clap reads of an argument that is built.
use Rattle.std.proofs.Common.{ap, ◌≡◌, ◌∙◌, true, false, Some}
use Rattle.std.specs.Borrow.{Bor}
use Rattle.std.specs.Prelude.{List, ℕ}
use Rattle.clap.specs.Words.{Text, Rule, new_rule, rule_of}
use Rattle.clap.specs.declared.builder.arg.Arg.{Arg}
use Rattle.clap.specs.declared.builder.ArgAction.TheVariants.{Set, SetTrue}
use Rattle.command_words.specs.Line.{required_word, optional_word, option_with_value, flag}

pub required_is : (id : Text) (a b d : Arg) → rule_of a ≡ new_rule id → b ≡ record a { required = true } → d ≡ record b { action = Some Set }
    → rule_of d ≡ required_word id
required_is id a b d rule e f =
    ap rule_of f ∙ (ap (λ x. rule_of (record x { action = Some Set })) e ∙ ap (λ (r : Rule). record r { required = true; action = Some Set }) rule)

pub optional_is : (id : Text) (a b : Arg) → rule_of a ≡ new_rule id → b ≡ record a { action = Some Set } → rule_of b ≡ optional_word id
optional_is id a b rule e = ap rule_of e ∙ ap (λ (r : Rule). record r { action = Some Set }) rule

pub option_is : (id : Text) (name : Bor (List ℕ)) (a b d : Arg) → name.now ≡ id → rule_of a ≡ new_rule id → b ≡ record a { long = Some name } → d ≡ record b { action = Some Set }
    → rule_of d ≡ option_with_value id
option_is id name a b d same rule e f =
    ap rule_of f ∙ (ap (λ x. rule_of (record x { action = Some Set })) e
    ∙ (ap (λ (r : Rule). record r { long = Some name.now; action = Some Set }) rule
    ∙ ap (λ n. record (new_rule id) { long = Some n; action = Some Set }) same))

pub flag_is : (id : Text) (name : Bor (List ℕ)) (a b d : Arg) → name.now ≡ id → rule_of a ≡ new_rule id → b ≡ record a { long = Some name } → d ≡ record b { action = Some SetTrue }
    → rule_of d ≡ flag id
flag_is id name a b d same rule e f =
    ap rule_of f ∙ (ap (λ x. rule_of (record x { action = Some SetTrue })) e
    ∙ (ap (λ (r : Rule). record r { long = Some name.now; action = Some SetTrue }) rule
    ∙ ap (λ n. record (new_rule id) { long = Some n; action = Some SetTrue }) same))

-- an argument stays local to its command
pub local_twice : (a b d : Arg) → a.global ≡ false → b ≡ record a { required = true } → d ≡ record b { action = Some Set } → d.global ≡ false
local_twice a b d h e f = ap (λ (x : Arg). x.global) f ∙ (ap (λ (x : Arg). x.global) e ∙ h)

pub local_once : (a b : Arg) → a.global ≡ false → b ≡ record a { action = Some Set } → b.global ≡ false
local_once a b h e = ap (λ (x : Arg). x.global) e ∙ h

pub local_option : (name : Bor (List ℕ)) (a b d : Arg) → a.global ≡ false → b ≡ record a { long = Some name } → d ≡ record b { action = Some Set } → d.global ≡ false
local_option name a b d h e f = ap (λ (x : Arg). x.global) f ∙ (ap (λ (x : Arg). x.global) e ∙ h)

pub local_flag : (name : Bor (List ℕ)) (a b d : Arg) → a.global ≡ false → b ≡ record a { long = Some name } → d ≡ record b { action = Some SetTrue } → d.global ≡ false
local_flag name a b d h e f = ap (λ (x : Arg). x.global) f ∙ (ap (λ (x : Arg). x.global) e ∙ h)
