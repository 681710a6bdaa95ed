-- What fits an argument's place is a term of a well typed model.
use Rattle.std.proofs.Common.{◌≡◌, ℕ, zero, suc, ◌<◌, ℤ, ◌≤ℤ◌, Bool, true, false, not, ◌&&◌, ◌||◌, List, [], ◌∷◌, map, length, Option, Some, None, IsSomeAnd, arith, refl, sym}
use Rattle.std.specs.Prelude.{int_lt, slice_get, if◌then◌else◌}
use Rattle.std.specs.Option.{option_and_then, option_map, option_map_or}
use Rattle.std.proofs.lemmas.Bool.{false≢true, and_parts}
use Rattle.std.proofs.lemmas.Bool.Decides.{nat_tests}
use Rattle.std.proofs.lemmas.Int.{ints}
use Rattle.bumblebee_reader.specs.declared.syntax.Term.{Term}
use Rattle.bumblebee_reader.specs.declared.syntax.Term.TheVariants as term
use Rattle.bumblebee_reader.specs.declared.syntax.Arg.{Arg}
use Rattle.bumblebee_reader.specs.declared.syntax.Arg.TheVariants as arg
use Rattle.model_meaning.specs.declared.what.BoolTerm.TheVariants as bool_term
use Rattle.model_meaning.specs.declared.wanted.Wanted.{Wanted}
use Rattle.model_meaning.specs.declared.wanted.Wanted.TheVariants as wanted
use Rattle.model_meaning.specs.declared.model.Kind.{Kind}
use Rattle.model_meaning.specs.declared.model.Kind.TheVariants as kind
use Rattle.model_meaning.specs.declared.model.Decl.{Decl}
use Rattle.model_meaning.specs.Places.{place_of, low_of, is_constant, is_true}
use Rattle.typed_model.specs.Scope.{kind_of, is_bool, is_int, place_or_zero, is_truth, is_number, all_truths, all_numbers, truth, number}
use Rattle.typed_model.specs.Faults.{arg_fits, fit, lists_differ, is_empty, least_in, has_undeclared, declares_twice, has_wrong_lengths, wants_member, wanted_of, empty_domain, division_domain, statement_fault}
use Rattle.typed_model.specs.declared.fault.TypeFault.TheVariants.{Undeclared, Kind as KindFault, Twice, Lengths, EmptyDomain, DivDomain}
use Rattle.model_meaning.specs.Signatures.{signature}
use Rattle.model_meaning.specs.declared.statement.Statement.{Statement}
use Rattle.typed_model.specs.Items.{number_in, terms_in}
use Rattle.model_meaning.specs.WellTyped.{IsInt, IsTruthAt, IsNumberAt, TruthFits, NumberFits, TruthsFit, NumbersFit, IsAtLeast}

pub not_less : (x m : ℤ) → int_lt x m ≡ false → m ≤ℤ x
not_less x m e = grind (arith, ints)

-- every declaration is an earlier item's
abbrev pub AllBefore : ℕ → List Decl → Type 0
AllBefore n [] = Unit {0}
AllBefore n (d ∷ ds) = (d.number < n) × AllBefore n ds

pub before_at : (n : ℕ) (ds : List Decl) (p : ℕ) (P : Decl → Type 0) → AllBefore n ds → IsSomeAnd (slice_get ds p) P → IsSomeAnd (slice_get ds p) (λ d. (d.number < n) × P d)
before_at n [] p P h s = s
before_at n (d ∷ ds) zero P h s = (h.0, s)
before_at n (d ∷ ds) (suc p) P h s = before_at n ds p P h.1 s

bool_is : (k : Kind) → is_bool (Some k) ≡ true → k ≡ kind.Bool
bool_is kind.Bool e = refl
bool_is (kind.Range low high) e = absurd (false≢true e)
bool_is (kind.Listed values) e = absurd (false≢true e)

int_is : (k : Kind) → is_int (Some k) ≡ true → IsInt k
int_is kind.Bool e = absurd (false≢true e)
int_is (kind.Range low high) e = tt
int_is (kind.Listed values) e = tt

bool_found : (o : Option Decl) → is_bool (option_map (λ d. d.kind) o) ≡ true → IsSomeAnd o (λ d. d.kind ≡ kind.Bool)
bool_found None e = absurd (false≢true e)
bool_found (Some d) e = bool_is d.kind e

int_found : (o : Option Decl) → is_int (option_map (λ d. d.kind) o) ≡ true → IsSomeAnd o (λ d. IsInt d.kind)
int_found None e = absurd (false≢true e)
int_found (Some d) e = int_is d.kind e

bool_placed : (ds : List Decl) (o : Option ℕ) → is_bool (option_and_then (λ p. option_map (λ (d : Decl). d.kind) (slice_get ds p)) o) ≡ true → IsSomeAnd (slice_get ds (option_map_or (λ p. p) o 0)) (λ d. d.kind ≡ kind.Bool)
bool_placed ds None e = absurd (false≢true e)
bool_placed ds (Some p) e = bool_found (slice_get ds p) e

pub int_placed : (ds : List Decl) (o : Option ℕ) → is_int (option_and_then (λ p. option_map (λ (d : Decl). d.kind) (slice_get ds p)) o) ≡ true → IsSomeAnd (slice_get ds (option_map_or (λ p. p) o 0)) (λ d. IsInt d.kind)
int_placed ds None e = absurd (false≢true e)
int_placed ds (Some p) e = int_found (slice_get ds p) e

module _ (n : ℕ) (ds : List Decl) (before : AllBefore n ds) where
  bool_at : (name : List ℕ) → is_bool (kind_of name ds) ≡ true → IsTruthAt ds n (place_or_zero name ds)
  bool_at name e = before_at n ds _ (λ d. d.kind ≡ kind.Bool) before (bool_placed ds (place_of name ds) e)

  int_at : (name : List ℕ) → is_int (kind_of name ds) ≡ true → IsNumberAt ds n (place_or_zero name ds)
  int_at name e = before_at n ds _ (λ d. IsInt d.kind) before (int_placed ds (place_of name ds) e)

  plain_truth : (name : List ℕ) (b : Bool) → (b || is_bool (kind_of name ds)) ≡ true → TruthFits ds n (if b then bool_term.Const (is_true name) else bool_term.Of (place_or_zero name ds) true)
  plain_truth name true e = tt
  plain_truth name false e = bool_at name e

  pub truth-fits : (t : Term) → is_truth ds t ≡ true → TruthFits ds n (truth ds t)
  truth-fits (term.Plain name) e = plain_truth name (is_constant name) e
  truth-fits (term.Minus name) e = bool_at name e
  truth-fits (term.Number z) e = tt

  pub number-fits : (t : Term) → is_number ds t ≡ true → NumberFits ds n (number ds t)
  number-fits (term.Plain name) e = int_at name e
  number-fits (term.Minus name) e = tt
  number-fits (term.Number z) e = tt

  pub truths-fit : (ts : List Term) → all_truths ds ts ≡ true → TruthsFit ds n (map (truth ds) ts)
  truths-fit [] e = tt
  truths-fit (t ∷ ts) e =
      let h = and_parts (is_truth ds t) (all_truths ds ts) e in
      (truth-fits t h.0, truths-fit ts h.1)

  pub numbers-fit : (ts : List Term) → all_numbers ds ts ≡ true → NumbersFit ds n (map (number ds) ts)
  numbers-fit [] e = tt
  numbers-fit (t ∷ ts) e =
      let h = and_parts (is_number ds t) (all_numbers ds ts) e in
      (number-fits t h.0, numbers-fit ts h.1)

-- an argument is there, and is what is wanted
abbrev pub ArgFits : List Decl → Wanted → Option Arg → Type 0
ArgFits ds w a = IsSomeAnd a (λ x. arg_fits ds w x ≡ true)

-- the argument at a place is what the signature wants there
abbrev pub FitsAt : List Decl → Option Wanted → Option Arg → Type 0
FitsAt ds None a = Unit {0}
FitsAt ds (Some w) a = ArgFits ds w a

pub fit-at : (ds : List Decl) (ws : List Wanted) (args : List Arg) (k : ℕ) → fit ds ws args ≡ true → FitsAt ds (slice_get ws k) (slice_get args k)
fit-at ds [] args k e = tt
fit-at ds (w ∷ ws) [] k e = absurd (false≢true e)
fit-at ds (w ∷ ws) (a ∷ rest) zero e = (and_parts (arg_fits ds w a) (fit ds ws rest) e).0
fit-at ds (w ∷ ws) (a ∷ rest) (suc k) e = fit-at ds ws rest k (and_parts (arg_fits ds w a) (fit ds ws rest) e).1

pub list-member : (ds : List Decl) (a : Option Arg) → ArgFits ds wanted.Numbers a → is_empty a ≡ false → 0 < length (terms_in a)
list-member ds None h e = absurd h
list-member ds (Some (arg.One t)) h e = absurd (false≢true h)
list-member ds (Some (arg.Many xs)) h e = grind (arith, nat_tests)

-- The least value of an argument.

low_found : (m : ℤ) (o : Option Decl) → is_int (option_map (λ d. d.kind) o) ≡ true → int_lt (low_of (option_map (λ d. d.kind) o)) m ≡ false → IsSomeAnd o (λ d. m ≤ℤ low_of (Some d.kind))
low_found m None i e = absurd (false≢true i)
low_found m (Some d) i e = not_less (low_of (Some d.kind)) m e

low_placed : (m : ℤ) (ds : List Decl) (o : Option ℕ) → is_int (option_and_then (λ p. option_map (λ (d : Decl). d.kind) (slice_get ds p)) o) ≡ true → int_lt (low_of (option_and_then (λ p. option_map (λ (d : Decl). d.kind) (slice_get ds p)) o)) m ≡ false → IsSomeAnd (slice_get ds (option_map_or (λ p. p) o 0)) (λ d. m ≤ℤ low_of (Some d.kind))
low_placed m ds None i e = absurd (false≢true i)
low_placed m ds (Some p) i e = low_found m (slice_get ds p) i e

pub least-fits : (m : ℤ) (ds : List Decl) (a : Option Arg) → ArgFits ds wanted.Number a → int_lt (least_in ds a) m ≡ false → IsAtLeast ds m (number_in ds a)
least-fits m ds None h e = absurd h
least-fits m ds (Some (arg.One (term.Plain name))) h e = low_placed m ds (place_of name ds) h e
least-fits m ds (Some (arg.One (term.Minus name))) h e = absurd (false≢true h)
least-fits m ds (Some (arg.One (term.Number z))) h e = not_less z m e
least-fits m ds (Some (arg.Many ts)) h e = absurd (false≢true h)

-- The tests of a statement without fault.

passed_by : {F : Type 0} (b : Bool) (f : F) (o : Option F) → (if b then Some f else o) ≡ None → (b ≡ false) × (o ≡ None)
passed_by true f o e = cc
passed_by false f o e = (refl, e)

not_false : (b : Bool) → not b ≡ false → b ≡ true
not_false true e = refl
not_false false e = cc

or_parts : (x y : Bool) → (x || y) ≡ false → (x ≡ false) × (y ≡ false)
or_parts true y e = absurd (false≢true (sym e))
or_parts false y e = (refl, e)

pub record NoFault (ds : List Decl) (s : Statement) (args : List Arg) : Type 0 where
  pub fits : fit ds (wanted_of s (slice_get args 1)) args ≡ true
  pub once : declares_twice ds s args ≡ false
  pub lengths : lists_differ (slice_get args 0) (slice_get args 1) ≡ false
  pub member : (wants_member s && is_empty (slice_get args 0)) ≡ false
  pub domain : empty_domain s args ≡ false
  pub division : division_domain ds s args ≡ false

pub no_fault : (n : ℕ) (ds : List Decl) (s : Statement) (args : List Arg) → statement_fault n ds s args ≡ None → NoFault ds s args
unfolding statement_fault
no_fault n ds s args e =
    let a = passed_by (has_undeclared ds (wanted_of s (slice_get args 1)) args) (Undeclared n) (if not (fit ds (wanted_of s (slice_get args 1)) args) then Some (KindFault n) else (if declares_twice ds s args then Some (Twice n) else (if has_wrong_lengths s args then Some (Lengths n) else (if empty_domain s args then Some (EmptyDomain n) else (if division_domain ds s args then Some (DivDomain n) else None))))) e in
    let b = passed_by (not (fit ds (wanted_of s (slice_get args 1)) args)) (KindFault n) (if declares_twice ds s args then Some (Twice n) else (if has_wrong_lengths s args then Some (Lengths n) else (if empty_domain s args then Some (EmptyDomain n) else (if division_domain ds s args then Some (DivDomain n) else None)))) a.1 in
    let c = passed_by (declares_twice ds s args) (Twice n) (if has_wrong_lengths s args then Some (Lengths n) else (if empty_domain s args then Some (EmptyDomain n) else (if division_domain ds s args then Some (DivDomain n) else None))) b.1 in
    let d = passed_by (has_wrong_lengths s args) (Lengths n) (if empty_domain s args then Some (EmptyDomain n) else (if division_domain ds s args then Some (DivDomain n) else None)) c.1 in
    let m = or_parts (lists_differ (slice_get args 0) (slice_get args 1)) (wants_member s && is_empty (slice_get args 0)) d.0 in
    let f = passed_by (empty_domain s args) (EmptyDomain n) (if division_domain ds s args then Some (DivDomain n) else None) d.1 in
    let g = passed_by (division_domain ds s args) (DivDomain n) None f.1 in
    record { fits = not_false (fit ds (wanted_of s (slice_get args 1)) args) b.0; once = c.0; lengths = m.0; member = m.1; domain = f.0; division = g.0 }
