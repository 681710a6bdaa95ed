-- Marks of statements, up to the one that is named.
use Rattle.std.proofs.Common.{◌≡◌, ℕ, zero, suc, ◌+◌, ◌<◌, ◌≤◌, Bool, true, false, not, ◌||◌, ◌==◌, List, [], ◌∷◌, ◌++◌, map, drop, length, append_assoc, length-append, refl, sym, ap, ◌∙◌, subst, arith}
use Rattle.std.specs.Prelude.{nat_lt, slice_get, if◌then◌else◌}
use Rattle.std.proofs.lemmas.Bool.{false≢true}
use Rattle.model_meaning.specs.declared.model.Decl.{Decl}
use Rattle.model_meaning.specs.declared.model.Stmt.{Stmt}
use Rattle.model_meaning.specs.declared.model.Model.{Model}
use Rattle.model_meaning.specs.WellTyped.{StmtsFit, WellTyped}
use Rattle.model_items.specs.Items.{stmts_from}
use Rattle.model_parts.specs.Only.{is_listed, numbers_of}
use Rattle.model_parts.proofs.Chosen.{Rise, fit-rise}
use Rattle.conflict_check.specs.Marks.{marks_before, has_number, begins_with, IsMarkedTo, AreBelow, NumbersBelow, left_out, AreMarked}

less-than : (x y : ℕ) → nat_lt x y ≡ true → x < y
less-than x y e = grind arith

at-least : (x y : ℕ) → nat_lt x y ≡ false → y ≤ x
at-least x y e = grind arith

same : (x y : ℕ) → (x == y) ≡ true → x ≡ y
same x y e = grind arith

equal : (x y : ℕ) → x ≡ y → (x == y) ≡ true
equal x y e = grind arith

greater : (x y : ℕ) → y < x → (x == y) ≡ false
greater x y l = grind arith

lesser : (x y : ℕ) → x < y → (x == y) ≡ false
lesser x y l = grind arith

or-false : (b c : Bool) → b ≡ false → c ≡ false → (b || c) ≡ false
or-false false false e f = refl
or-false true c e f = absurd (false≢true (sym e))
or-false false true e f = absurd (false≢true (sym f))

or-right : (b c d : Bool) → b ≡ false → c ≡ d → (b || c) ≡ d
or-right false c d e f = f
or-right true c d e f = absurd (false≢true (sym e))

or-left : (b c : Bool) → b ≡ true → (b || c) ≡ true
or-left true c e = refl
or-left false c e = absurd (false≢true e)

-- Lists.

map-length : {A B : Type 0} (f : A → B) (xs : List A) → length (map f xs) ≡ length xs
map-length f [] = refl
map-length f (x ∷ xs) = ap suc (map-length f xs)

map-join : {A B : Type 0} (f : A → B) (xs ys : List A) → map f (xs ++ ys) ≡ map f xs ++ map f ys
map-join f [] ys = refl
map-join f (x ∷ xs) ys = ap (λ zs. f x ∷ zs) (map-join f xs ys)

drop-front : {A : Type 0} (xs ys : List A) → drop (length xs) (xs ++ ys) ≡ ys
drop-front [] ys = refl
drop-front (x ∷ xs) ys = drop-front xs ys

front-few : {A : Type 0} (xs ys : List A) → length xs ≤ length (xs ++ ys)
front-few [] ys = omega arith
front-few (x ∷ xs) ys = let h = front-few xs ys in omega (arith, h)

-- Which numbers are listed.

listed-behind : (n b : ℕ) (ss more : List Stmt) → b ≤ n → AreBelow b ss → is_listed n (numbers_of (ss ++ more)) ≡ is_listed n (numbers_of more)
listed-behind n b [] more l h = refl
listed-behind n b (s ∷ ss) more l h =
    let k : s.number < b = h.0 in
    or-right (n == s.number) (is_listed n (numbers_of (ss ++ more))) (is_listed n (numbers_of more)) (greater n s.number (omega arith)) (listed-behind n b ss more l h.1)

unlisted-above : (n m : ℕ) (ss : List Stmt) → n < m → Rise m ss → is_listed n (numbers_of ss) ≡ false
unlisted-above n m [] l h = refl
unlisted-above n m (s ∷ ss) l h =
    let k : m ≤ s.number = h.0 in
    or-false (n == s.number) (is_listed n (numbers_of ss)) (lesser n s.number (omega arith)) (unlisted-above n (s.number + 1) ss (omega arith) h.1)

-- among statements whose numbers ascend a number is listed where the first that isn't below it has it
listed-from : (n m : ℕ) (ss : List Stmt) → Rise m ss → is_listed n (numbers_of ss) ≡ begins_with n (stmts_from n ss)
listed-from n m [] h = refl
listed-from n m (s ∷ ss) h = by (nat_lt s.number n) refl (s.number == n) refl (listed-from n (s.number + 1) ss h.1)
  where
    apart : (s.number == n) ≡ false → (n == s.number) ≡ false
    apart e = grind arith

    by : (b : Bool) → nat_lt s.number n ≡ b → (c : Bool) → (s.number == n) ≡ c → is_listed n (numbers_of ss) ≡ begins_with n (stmts_from n ss)
        → is_listed n (numbers_of (s ∷ ss)) ≡ begins_with n (if b then stmts_from n ss else s ∷ ss)
    by true less c e rest = or-right (n == s.number) (is_listed n (numbers_of ss)) (begins_with n (stmts_from n ss)) (greater n s.number (less-than s.number n less)) rest
    by false less true e rest = or-left (n == s.number) (is_listed n (numbers_of ss)) (equal n s.number (sym (same s.number n e))) ∙ sym e
    by false less false e rest =
        or-false (n == s.number) (is_listed n (numbers_of ss)) (apart e) (unlisted-above n (s.number + 1) ss (let l = at-least s.number n less in omega (arith, l)) h.1) ∙ sym e

unlisted-conflict : (x b : ℕ) (conflict : List ℕ) → b ≤ x → NumbersBelow b conflict → is_listed x conflict ≡ false
unlisted-conflict x b [] l h = refl
unlisted-conflict x b (m ∷ conflict) l h =
    let k : m < b = h.0 in
    or-false (x == m) (is_listed x conflict) (greater x m (omega arith)) (unlisted-conflict x b conflict l h.1)

listed-push : (x n : ℕ) (conflict : List ℕ) → (x == n) ≡ false → is_listed x (conflict ++ n ∷ []) ≡ is_listed x conflict
listed-push x n [] e = or-false (x == n) false e refl
listed-push x n (m ∷ conflict) e = ap (λ b. (x == m) || b) (listed-push x n conflict e)

listed-last : (n : ℕ) (conflict : List ℕ) → is_listed n (conflict ++ n ∷ []) ≡ true
listed-last n [] = or-left (n == n) false (equal n n refl)
listed-last n (m ∷ conflict) = by (n == m) (listed-last n conflict)
  where
    by : (b : Bool) → is_listed n (conflict ++ n ∷ []) ≡ true → (b || is_listed n (conflict ++ n ∷ [])) ≡ true
    by true rest = refl
    by false rest = rest

below-more : (m n : ℕ) (ss : List Stmt) → m ≤ n → AreBelow m ss → AreBelow n ss
below-more m n [] l h = tt
below-more m n (s ∷ ss) l h = let k : s.number < m = h.0 in (omega arith, below-more m n ss l h.1)

below-join : (n : ℕ) (ss ts : List Stmt) → AreBelow n ss → AreBelow n ts → AreBelow n (ss ++ ts)
below-join n [] ts h k = k
below-join n (s ∷ ss) ts h k = (h.0, below-join n ss ts h.1 k)

numbers-push : (m n : ℕ) (conflict : List ℕ) → m ≤ n → NumbersBelow m conflict → NumbersBelow (n + 1) (conflict ++ n ∷ [])
numbers-push m n [] l h = (omega arith, tt)
numbers-push m n (x ∷ conflict) l h = let k : x < m = h.0 in (omega arith, numbers-push m n conflict l h.1)

-- Statements that are cut before the one of a number.

abbrev AreFrom : ℕ → List Stmt → Type 0
AreFrom m [] = Unit {0}
AreFrom m (s ∷ ss) = (m ≤ s.number) × AreFrom m ss

from-less : (m n : ℕ) (ss : List Stmt) → n ≤ m → AreFrom m ss → AreFrom n ss
from-less m n [] l h = tt
from-less m n (s ∷ ss) l h = let k : m ≤ s.number = h.0 in (omega arith, from-less m n ss l h.1)

record IsCut (m n : ℕ) (ss : List Stmt) : Type 0 where
  pub skipped : List Stmt
  pub named : Stmt
  pub others : List Stmt
  pub parts : ss ≡ skipped ++ named ∷ others
  pub number : named.number ≡ n
  pub marks : marks_before n ss ≡ map (λ (s : Stmt). true) skipped
  pub from : AreFrom m skipped
  pub below : AreBelow n skipped
  pub rise : Rise (n + 1) others

cut : (m n : ℕ) (ss : List Stmt) → Rise m ss → begins_with n (stmts_from n ss) ≡ true → IsCut m n ss
cut m n [] h e = absurd (false≢true e)
cut m n (s ∷ ss) h e = by (nat_lt s.number n) refl e (λ f. cut (s.number + 1) n ss h.1 f)
  where
    by : (b : Bool) → nat_lt s.number n ≡ b → begins_with n (if b then stmts_from n ss else s ∷ ss) ≡ true → (begins_with n (stmts_from n ss) ≡ true → IsCut (s.number + 1) n ss) → IsCut m n (s ∷ ss)
    by true less e rest =
        let r = rest e in
        let l : m ≤ s.number = h.0 in
        record {
          skipped = s ∷ r.skipped;
          named = r.named;
          others = r.others;
          parts = ap (λ (ts : List Stmt). s ∷ ts) r.parts;
          number = r.number;
          marks = rw less (ap (λ (bs : List Bool). true ∷ bs) r.marks);
          from = (l, from-less (s.number + 1) m r.skipped (omega arith) r.from);
          below = (less-than s.number n less, r.below);
          rise = r.rise;
        }
    by false less e rest = record {
      skipped = [];
      named = s;
      others = ss;
      parts = refl;
      number = same s.number n e;
      marks = rw less refl;
      from = tt;
      below = tt;
      rise = subst (λ (x : ℕ). Rise (x + 1) ss) (same s.number n e) h.1;
    }

-- Marks with one more number that is named.

marks-kept : (conflict : List ℕ) (b n : ℕ) (ss : List Stmt) → b ≤ n → AreBelow b ss → map (left_out conflict) ss ≡ map (left_out (conflict ++ n ∷ [])) ss
marks-kept conflict b n [] l h = refl
marks-kept conflict b n (s ∷ ss) l h =
    let k : s.number < b = h.0 in
    let e : is_listed s.number conflict ≡ is_listed s.number (conflict ++ n ∷ []) = sym (listed-push s.number n conflict (lesser s.number n (omega arith))) in
    (λ i. not (e i) ∷ marks-kept conflict b n ss l h.1 i)

all-out : (conflict : List ℕ) (b : ℕ) (ss : List Stmt) → NumbersBelow b conflict → AreFrom b ss → map (λ (s : Stmt). true) ss ≡ map (left_out conflict) ss
all-out conflict b [] h f = refl
all-out conflict b (s ∷ ss) h f =
    let e : true ≡ left_out conflict s = sym (ap not (unlisted-conflict s.number b conflict f.0 h)) in
    (λ i. e i ∷ all-out conflict b ss h f.1 i)

rise-from : (m : ℕ) (ss : List Stmt) → Rise m ss → AreFrom m ss
rise-from m [] h = tt
rise-from m (s ∷ ss) h =
    let l : m ≤ s.number = h.0 in
    (l, from-less (s.number + 1) m ss (omega arith) (rise-from (s.number + 1) ss h.1))

skipped-out : (conflict : List ℕ) (b n : ℕ) (ss : List Stmt) → NumbersBelow b conflict → AreFrom b ss → AreBelow n ss → map (λ (s : Stmt). true) ss ≡ map (left_out (conflict ++ n ∷ [])) ss
skipped-out conflict b n [] h f l = refl
skipped-out conflict b n (s ∷ ss) h f l =
    let none : is_listed s.number (conflict ++ n ∷ []) ≡ false = listed-push s.number n conflict (lesser s.number n l.0) ∙ unlisted-conflict s.number b conflict f.0 h in
    let e : true ≡ left_out (conflict ++ n ∷ []) s = sym (ap not none) in
    (λ i. e i ∷ skipped-out conflict b n ss h f.1 l.1 i)

-- the marks of a front, of what is skipped, and of the statement that is named
marks-more : (conflict : List ℕ) (now n : ℕ) (front skipped : List Stmt) (named : Stmt) → now < n → named.number ≡ n → AreBelow (now + 1) front → NumbersBelow (now + 1) conflict → AreFrom (now + 1) skipped → AreBelow n skipped
    → map (left_out conflict) front ++ (map (λ (s : Stmt). true) skipped ++ false ∷ []) ≡ map (left_out (conflict ++ n ∷ [])) (front ++ (skipped ++ named ∷ []))
marks-more conflict now n front skipped named less number below inside from under =
    let more : List ℕ = conflict ++ n ∷ [] in
    let last : is_listed named.number more ≡ true = subst (λ (x : ℕ). is_listed x more ≡ true) (sym number) (listed-last n conflict) in
    let kept : false ≡ left_out more named = sym (ap not last) in
    let first = marks-kept conflict (now + 1) n front (omega arith) below in
    let middle = skipped-out conflict (now + 1) n skipped inside from under in
    (λ i. first i ++ (middle i ++ kept i ∷ []))
    ∙ sym (map-join (left_out more) front (skipped ++ named ∷ []) ∙ ap (λ bs. map (left_out more) front ++ bs) (map-join (left_out more) skipped (named ∷ [])))

module _ (ss : List Stmt) (conflict : List ℕ) (now : ℕ) (out : List Bool) (h : AreMarked ss conflict now out) where
  out-length : length out ≡ length h.front
  out-length = ap length h.marks ∙ map-length (left_out conflict) h.front

  rest-is : drop (length out) ss ≡ h.rest
  rest-is = (λ i. drop (out-length i) (h.parts i)) ∙ drop-front h.front h.rest

  pub few-marks : length out ≤ length ss
  few-marks = let e = out-length in let p : length ss ≡ length (h.front ++ h.rest) = ap length h.parts in let l = front-few h.front h.rest in omega (arith, e, p, l)

  -- a greater number than those that were named is one of the model where the next statements have it
  pub named-next : (n : ℕ) → now < n → is_listed n (numbers_of ss) ≡ begins_with n (stmts_from n (drop (length out) ss))
  named-next n less =
      ap (λ (ts : List Stmt). is_listed n (numbers_of ts)) h.parts
      ∙ (listed-behind n (now + 1) h.front h.rest (omega arith) h.below
      ∙ (listed-from n (now + 1) h.rest h.rise ∙ ap (λ (ts : List Stmt). begins_with n (stmts_from n ts)) (sym rest-is)))

  pub marked-more : (n : ℕ) (new : List Bool) → now < n → IsMarkedTo ss out n new true → AreMarked ss (conflict ++ n ∷ []) n new
  marked-more n new less to =
      let begins : begins_with n (stmts_from n h.rest) ≡ true = subst (λ (ts : List Stmt). begins_with n (stmts_from n ts) ≡ true) rest-is to.0 in
      let c = cut (now + 1) n h.rest h.rise begins in
      let one : AreBelow (n + 1) (c.named ∷ []) = (let e = c.number in omega (arith, e), tt) in
      record {
        front = h.front ++ (c.skipped ++ c.named ∷ []);
        rest = c.others;
        parts = h.parts ∙ (ap (λ (ts : List Stmt). h.front ++ ts) (c.parts ∙ sym (append_assoc c.skipped (c.named ∷ []) c.others)) ∙ sym (append_assoc h.front (c.skipped ++ c.named ∷ []) c.others));
        marks = to.1 ∙ ((λ i. h.marks i ++ ((ap (marks_before n) rest-is ∙ c.marks) i ++ false ∷ [])) ∙ marks-more conflict now n h.front c.skipped c.named less c.number h.below h.named c.from c.below);
        below = below-join (n + 1) h.front (c.skipped ++ c.named ∷ []) (below-more (now + 1) (n + 1) h.front (omega arith) h.below) (below-join (n + 1) c.skipped (c.named ∷ []) (below-more n (n + 1) c.skipped (omega arith) c.below) one);
        named = numbers-push (now + 1) n conflict (omega arith) h.named;
        rise = c.rise;
      }

  -- with the statements that are left all are marked
  pub marked-all : (marks : List Bool) → marks ≡ out ++ map (λ (s : Stmt). true) (drop (length out) ss) → marks ≡ map (left_out conflict) ss
  marked-all marks e =
      e ∙ ((λ i. h.marks i ++ (ap (map (λ (s : Stmt). true)) rest-is ∙ all-out conflict (now + 1) h.rest h.named (rise-from (now + 1) h.rest h.rise)) i)
      ∙ (sym (map-join (left_out conflict) h.front h.rest) ∙ ap (map (left_out conflict)) (sym h.parts)))

pub none-marked : (ds : List Decl) (ss : List Stmt) → StmtsFit ds 1 ss → AreMarked ss [] 0 []
none-marked ds ss h = record { front = []; rest = ss; parts = refl; marks = refl; below = tt; named = tt; rise = fit-rise ds 1 ss h }

pub start-marked : (model : Model) (conflict : List ℕ) (out : List Bool) → conflict ≡ [] → out ≡ [] → WellTyped model → AreMarked model.stmts conflict 0 out
start-marked model conflict out no-conflict no-out typed =
    subst (λ (c : List ℕ). AreMarked model.stmts c 0 out) (sym no-conflict)
    (subst (λ (o : List Bool). AreMarked model.stmts [] 0 o) (sym no-out) (none-marked model.decls model.stmts typed.stmts))

-- What the walk gives.

slice-drop : (ss : List Stmt) (k j i : ℕ) → i ≡ k + j → slice_get ss i ≡ slice_get (drop k ss) j
slice-drop ss zero j i e = let same : i ≡ j = omega (arith, e) in ap (slice_get ss) same
slice-drop [] (suc k) j i e = refl
slice-drop (s ∷ ss) (suc k) j zero e = absurd (omega (arith, e))
slice-drop (s ∷ ss) (suc k) j (suc i) e = slice-drop ss k j i (omega (arith, e))

number-at : (n : ℕ) (ts : List Stmt) → has_number n (slice_get ts (length (marks_before n ts))) ≡ begins_with n (stmts_from n ts)
number-at n [] = refl
number-at n (s ∷ ts) = by (nat_lt s.number n) (number-at n ts)
  where
    by : (b : Bool) → has_number n (slice_get ts (length (marks_before n ts))) ≡ begins_with n (stmts_from n ts)
        → has_number n (slice_get (s ∷ ts) (length (if b then true ∷ marks_before n ts else []))) ≡ begins_with n (if b then stmts_from n ts else s ∷ ts)
    by true rest = rest
    by false rest = refl

-- the statement behind those that are marked is the first that isn't below a number
number-behind : (n : ℕ) (ss : List Stmt) (k i : ℕ) → i ≡ k + length (marks_before n (drop k ss)) → has_number n (slice_get ss i) ≡ begins_with n (stmts_from n (drop k ss))
number-behind n ss k i e = ap (has_number n) (slice-drop ss k (length (marks_before n (drop k ss))) i e) ∙ number-at n (drop k ss)

-- what a test of the statement behind the marks comes to
module _ (ss : List Stmt) (old mid new : List Bool) (n : ℕ) (b : Bool) (walked : mid ≡ old ++ marks_before n (drop (length old) ss)) (test : b ≡ has_number n (slice_get ss (length mid))) where
  at : length mid ≡ length old + length (marks_before n (drop (length old) ss))
  at = ap length walked ∙ length-append old (marks_before n (drop (length old) ss))

  tested : b ≡ begins_with n (stmts_from n (drop (length old) ss))
  tested = test ∙ number-behind n ss (length old) (length mid) at

  pub not-marked : b ≡ false → IsMarkedTo ss old n new false
  not-marked e = sym tested ∙ e

  pub now-marked : b ≡ true → new ≡ mid ++ false ∷ [] → IsMarkedTo ss old n new true
  now-marked e pushed =
      (sym tested ∙ e, pushed ∙ (ap (λ (bs : List Bool). bs ++ false ∷ []) walked ∙ append_assoc old (marks_before n (drop (length old) ss)) (false ∷ [])))
