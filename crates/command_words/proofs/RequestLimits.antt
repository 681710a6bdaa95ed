-- The numbers of a command that the words ask for are in their limits.
use Rattle.std.proofs.Common.{arith, w64, ◌≡◌, ℕ, zero, suc, ℤ, pos, neg_ℤ, ◌≤◌, Bool, true, false, List, refl, subst, Option, Some, None}
use Rattle.std.specs.Prelude.{FitsSigned, drop, ◌&&◌, nat_le, codes, option_map, option_and_then, if◌then◌else◌}
use Rattle.std.proofs.lemmas.Bool.{and_parts}
use Rattle.std.proofs.lemmas.Bool.Decides.{nat_tests}
use Rattle.clap.specs.Words.{Text}
use Rattle.command_words.specs.declared.command.Options.{Options}
use Rattle.command_words.specs.Numeral.{is_numeral, is_within, read_on, number_within, has_minus, signed_number}
use Rattle.command_words.specs.Request.{Request, Compile, Weigh, Solve, Check, Decode, Queens, Sat, Drup, OpbModel, Opb}
use Rattle.command_words.specs.Request.{All, CheckAll, Core, CheckCore, Bound, Certify, Resume}
use Rattle.command_words.specs.Request.{is_word, budget_of, size_of, options_with, options_of, lone_input, both_inputs, queens_size}
use Rattle.command_words.specs.Request.{reading_of, reading_requested, searching_of, searching_requested, queens_requested, resuming_requested}
use Rattle.command_words.specs.Request.{checking_of, checking_requested, bound_of, bound_requested, or_else, still_requested, mode_requested, requested}
use Rattle.command_words.specs.Line.{is_taken, value_of}
use Rattle.command_words.specs.Limits.{IsBudget, KeepsLimits, RequestsKeepLimits}

-- what is mapped from a value has what each image has
mapped : {A B : Type 0} (f : A → B) (P : B → Type 0) → ((a : A) → P (f a)) → (x : Option A) (b : B) → option_map f x ≡ Some b → P b
mapped f P all (Some a) b e = let same : f a ≡ b = cc in subst P same (all a)
mapped f P all None b e = absurd (let c = e in cc)

within : (least greatest n : ℕ) → is_within least greatest n ≡ true → (least ≤ n) × (n ≤ greatest)
within least greatest n e =
    let parts = and_parts (nat_le least n) (nat_le n greatest) e in
    let low = parts.0 in
    let high = parts.1 in
    (grind (arith, nat_tests, low), grind (arith, nat_tests, high))

number : (least greatest : ℕ) (text : List ℕ) (n : ℕ) → number_within least greatest text ≡ Some n → (least ≤ n) × (n ≤ greatest)
number least greatest text n e = by (is_numeral text && is_within least greatest (read_on 0 text)) refl e
  where
    by : (t : Bool) → (is_numeral text && is_within least greatest (read_on 0 text)) ≡ t → (if t then Some (read_on 0 text) else None) ≡ Some n → (least ≤ n) × (n ≤ greatest)
    by true is f =
        let same : read_on 0 text ≡ n = cc in
        let P : ℕ → Type 0 = λ m. (least ≤ m) × (m ≤ greatest) in
        subst P same (within least greatest (read_on 0 text) (and_parts (is_numeral text) (is_within least greatest (read_on 0 text)) is).1)
    by false is f = absurd (let c = f in cc)

-- a number that is negated fits, and one that isn't
negated : (n : ℕ) → n ≤ 9223372036854775808 → FitsSigned w64 (neg_ℤ (pos n))
negated zero small = omega arith
negated (suc n) small = omega (arith, small)

plain : (n : ℕ) → n ≤ 9223372036854775807 → FitsSigned w64 (pos n)
plain n small = omega (arith, small)

-- what comes of a number within a limit
image : (f : ℕ → ℤ) (greatest : ℕ) (text : List ℕ) (z : ℤ) → ((n : ℕ) → n ≤ greatest → FitsSigned w64 (f n)) → option_map f (number_within 0 greatest text) ≡ Some z → FitsSigned w64 z
image f greatest text z fits e = by (number_within 0 greatest text) refl e
  where
    by : (x : Option ℕ) → number_within 0 greatest text ≡ x → option_map f x ≡ Some z → FitsSigned w64 z
    by (Some n) is g = let same : f n ≡ z = cc in subst (λ y. FitsSigned w64 y) same (fits n (number 0 greatest text n is).1)
    by None is g = absurd (let c = g in cc)

signed : (text : List ℕ) (z : ℤ) → signed_number text ≡ Some z → FitsSigned w64 z
signed text z e = by (has_minus text) e
  where
    by : (t : Bool) → (if t then option_map (λ n. neg_ℤ (pos n)) (number_within 0 9223372036854775808 (drop 1 text)) else option_map (λ n. pos n) (number_within 0 9223372036854775807 text)) ≡ Some z → FitsSigned w64 z
    by true f = image (λ n. neg_ℤ (pos n)) 9223372036854775808 (drop 1 text) z negated f
    by false f = image (λ n. pos n) 9223372036854775807 text z plain f

budget : (word : Option Text) (n : ℕ) → budget_of word ≡ Some n → IsBudget n
budget None n e = let same : 1000000 ≡ n = cc in (omega (arith, same), omega (arith, same))
budget (Some word) n e =
    let p = number 1 9223372036854775807 word n e in
    (p.0, omega (arith, p.1))

-- the options that words give have a budget
options : (value : Text → Option Text) (o : Options) → options_of value ≡ Some o → IsBudget o.search.budget
options value o e = by (budget_of (value (codes "budget"))) refl e
  where
    made : ℕ → Options
    made = options_with value

    by : (b : Option ℕ) → budget_of (value (codes "budget")) ≡ b → option_map made b ≡ Some o → IsBudget o.search.budget
    by (Some n) is f =
        let same : made n ≡ o = cc in
        subst (λ (x : Options). IsBudget x.search.budget) same (budget (value (codes "budget")) n is)
    by None is f = absurd (let c = f in cc)

size : (value : Text → Option Text) (n : ℕ) → queens_size value ≡ Some n → (4 ≤ n) × (n ≤ 24)
size value n e = by (lone_input value) e
  where
    by : (word : Option Text) → option_and_then size_of word ≡ Some n → (4 ≤ n) × (n ≤ 24)
    by (Some word) f = number 4 24 word n f
    by None f = absurd (let c = f in cc)

module _ (value : Text → Option Text) (o : Options) (given : IsBudget o.search.budget) (asked : Request) where
  queens : (n : Option ℕ) → queens_size value ≡ n → option_map (λ size. Queens size o) n ≡ Some asked → KeepsLimits asked
  queens (Some n) is e =
      let same : Queens n o ≡ asked = cc in
      let s = size value n is in
      subst KeepsLimits same (s.0, s.1, given)
  queens None is e = absurd (let c = e in cc)

  -- one request is chosen by a word
  choose : (t : Bool) (first : Request) (other : Option Request) → KeepsLimits first → (other ≡ Some asked → KeepsLimits asked)
      → (if t then Some first else other) ≡ Some asked → KeepsLimits asked
  choose true first other p q e = let same : first ≡ asked = cc in subst KeepsLimits same p
  choose false first other p q e = q e

  reading : (word : Option Text) (input : Text) → reading_of word input ≡ Some asked → KeepsLimits asked
  reading word input =
      choose (is_word (codes "compile") word) (Compile input) _ tt
      (choose (is_word (codes "weigh") word) (Weigh input) _ tt
      (choose (is_word (codes "opbmodel") word) (OpbModel input) None tt (λ e. absurd (let c = e in cc))))

  searching : (word : Option Text) (input : Text) → searching_of word o input ≡ Some asked → KeepsLimits asked
  searching word input =
      choose (is_word (codes "solve") word) (Solve input o) _ given
      (choose (is_word (codes "sat") word) (Sat input o) _ given
      (choose (is_word (codes "opb") word) (Opb input o) _ given
      (choose (is_word (codes "all") word) (All input o) _ given
      (choose (is_word (codes "core") word) (Core input o) None given (λ e. absurd (let c = e in cc))))))

  checking : (word : Option Text) (names : Text × Text) → checking_of word names ≡ Some asked → KeepsLimits asked
  checking word names =
      choose (is_word (codes "check") word) (Check names.0 names.1) _ tt
      (choose (is_word (codes "decode") word) (Decode names.0 names.1) _ tt
      (choose (is_word (codes "drup") word) (Drup names.0 names.1) _ tt
      (choose (is_word (codes "checkall") word) (CheckAll names.0 names.1) _ tt
      (choose (is_word (codes "checkcore") word) (CheckCore names.0 names.1) _ tt
      (choose (is_word (codes "certify") word) (Certify names.0 names.1) None tt (λ e. absurd (let c = e in cc)))))))

  -- what is asked of a value that is there
  given_value : {A : Type 0} (f : A → Option Request) → ((a : A) → f a ≡ Some asked → KeepsLimits asked)
      → (x : Option A) → option_and_then f x ≡ Some asked → KeepsLimits asked
  given_value f all (Some a) e = all a e
  given_value f all None e = absurd (let c = e in cc)

  placing : (t : Bool) → (if t then option_map (λ size. Queens size o) (queens_size value) else None) ≡ Some asked → KeepsLimits asked
  placing true e = queens (queens_size value) refl e
  placing false e = absurd (let c = e in cc)

  resuming : (t : Bool) → (if t then option_map (λ names. Resume names.0 names.1 o) (both_inputs value) else None) ≡ Some asked → KeepsLimits asked
  resuming true e = mapped (λ (names : Text × Text). Resume names.0 names.1 o) KeepsLimits (λ names. given) (both_inputs value) asked e
  resuming false e = absurd (let c = e in cc)

  either : (first other : Option Request) → (first ≡ Some asked → KeepsLimits asked) → (other ≡ Some asked → KeepsLimits asked)
      → or_else first other ≡ Some asked → KeepsLimits asked
  either (Some it) other p q e = p e
  either None other p q e = q e

  bounded : (z : Option ℤ) (word : Text) (input : Text) → bound_of word ≡ z → option_map (Bound input) z ≡ Some asked → KeepsLimits asked
  bounded (Some z) word input is e =
      let same : Bound input z ≡ asked = cc in
      subst KeepsLimits same (signed word z is)
  bounded None word input is e = absurd (let c = e in cc)

  bounding : (t : Bool) → (if t then option_and_then (λ names. option_map (Bound names.0) (bound_of names.1)) (both_inputs value) else None) ≡ Some asked → KeepsLimits asked
  bounding true e = given_value (λ names. option_map (Bound names.0) (bound_of names.1)) (λ names. bounded (bound_of names.1) names.1 names.0 refl) (both_inputs value) e
  bounding false e = absurd (let c = e in cc)

  still : (word : Option Text) → still_requested word value ≡ Some asked → KeepsLimits asked
  still word =
      either (checking_requested word value) _ (given_value (checking_of word) (checking word) (both_inputs value))
      (either (reading_requested word value) (bound_requested word value) (given_value (reading_of word) (reading word) (lone_input value))
      (bounding (is_word (codes "bound") word)))

  silent : (word : Option Text) (t : Bool) → (if t then None else still_requested word value) ≡ Some asked → KeepsLimits asked
  silent word true e = absurd (let c = e in cc)
  silent word false e = still word e

  mode : (word : Option Text) → mode_requested word value o ≡ Some asked → KeepsLimits asked
  mode word =
      either (searching_requested word value o) _ (given_value (searching_of word o) (searching word) (lone_input value))
      (either (queens_requested word value o) _ (placing (is_word (codes "queens") word))
      (either (resuming_requested word value o) _ (resuming (is_word (codes "resume") word)) (silent word o.progress)))

values : (value : Text → Option Text) (asked : Request) → requested value ≡ Some asked → KeepsLimits asked
values value asked e = by (options_of value) refl e
  where
    by : (o : Option Options) → options_of value ≡ o → option_and_then (mode_requested (value (codes "mode")) value) o ≡ Some asked → KeepsLimits asked
    by (Some o) is f = mode value o (options value o is) asked (value (codes "mode")) f
    by None is f = absurd (let c = f in cc)

pub requests_keep_limits : RequestsKeepLimits
requests_keep_limits words asked e = by (is_taken words) e
  where
    by : (t : Bool) → (if t then requested (value_of words) else None) ≡ Some asked → KeepsLimits asked
    by true f = values (value_of words) asked f
    by false f = absurd (let c = f in cc)
