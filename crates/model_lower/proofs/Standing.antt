-- What is lowered so far stands for the declarations and statements so far; each item keeps this.
use Rattle.std.proofs.Common.{◌≡◌, ◌↔◌, suc, ◌+◌, ℤ, Bool, true, false, ◌&&◌, List, [], ◌∷◌, ◌++◌, length, IsTrue, refl, sym, ap, subst, ◌∙◌, arith}
use Rattle.std.proofs.lemmas.Bool.{false≢true, and_parts}
use Rattle.std.proofs.lemmas.List.{append-nil, append_assoc}
use Rattle.order_ints.specs.Numbers.{numbers_of}
use Rattle.core_forms.specs.declared.form.Core.{Core}
use Rattle.core_forms.specs.Cores.{MeetsAll}
use Rattle.model_meaning.specs.declared.model.Decl.{Decl}
use Rattle.model_meaning.specs.declared.model.Stmt.{Stmt}
use Rattle.model_meaning.specs.Integers.{is_member}
use Rattle.model_meaning.specs.Domains.{domain, in_domains}
use Rattle.model_meaning.specs.Holds.{Holds}
use Rattle.model_meaning.specs.Limits.{KindInLimit, WhatInLimit}
use Rattle.model_meaning.specs.WellTyped.{KindFits, WhatFits}
use Rattle.model_meaning.specs.Solutions.{AllHold}
use Rattle.model_meaning.proofs.AppendLaws.{WhatFits-append}
use Rattle.model_meaning.proofs.BehindLaws.{behind}
use Rattle.model_lower.specs.declared.state.Lowered.{Lowered}
use Rattle.model_items.specs.Items.{ModelItem, Declaration, Statement, Definition}
use Rattle.model_lower.specs.Lowering.{with_declaration, with_statement, with_definition, lowered_items, nothing_lowered}
use Rattle.model_lower.specs.Decoded.{IsDecoded}
use Rattle.model_lower.specs.ItemLaws.{Encodes, TakesEachValue, TakesItsValue, IsDefinition}
use Rattle.statement_lower.proofs.EntryLaws.{numbers_of-agree}
use Rattle.model_lower.proofs.StatementSteps.{statement_law}
use Rattle.model_lower.proofs.DeclarationSteps.{declaration_law}
use Rattle.model_lower.proofs.DefinitionSteps.{definition_law}

-- the statements so far fit the declarations so far
abbrev pub ArePlaced : List Decl → List Stmt → Type 0
ArePlaced ds [] = Unit {0}
ArePlaced ds (s ∷ ss) = WhatFits ds s.number s.what × ArePlaced ds ss

-- what is lowered so far stands for the assignments of the declarations so far under which the statements so far hold
pub record Stands (l : Lowered) (ds : List Decl) (ss : List Stmt) : Type 0 where
  pub encodes : Encodes l ds
  pub placed : ArePlaced ds ss
  pub solutions : (a : List ℤ) → (IsTrue (in_domains ds a) × AllHold a ss) ↔ IsDecoded l a

-- Assignments with one more value.

pub both_true : (x y : Bool) → x ≡ true → y ≡ true → (x && y) ≡ true
both_true x y e f = rw (e, f) refl

-- the values of the declarations but the last, and the value of the last
record Split (ds : List Decl) (d : Decl) (a : List ℤ) : Type 0 where
  front : List ℤ
  value : ℤ
  is : a ≡ front ++ value ∷ []
  in_domains : IsTrue (in_domains ds front)
  member : IsTrue (is_member value (domain d.kind))

in_domains-split : (ds : List Decl) (d : Decl) (a : List ℤ) → IsTrue (in_domains (ds ++ d ∷ []) a) → Split ds d a
in_domains-split [] d [] h = absurd (false≢true h)
in_domains-split [] d (v ∷ []) h = record { front = []; value = v; is = refl; in_domains = refl; member = (and_parts (is_member v (domain d.kind)) true h).0 }
in_domains-split [] d (v ∷ w ∷ a) h = absurd (false≢true (and_parts (is_member v (domain d.kind)) false h).1)
in_domains-split (c ∷ ds) d [] h = absurd (false≢true h)
in_domains-split (c ∷ ds) d (v ∷ a) h =
    let p = and_parts (is_member v (domain c.kind)) (in_domains (ds ++ d ∷ []) a) h in
    let s = in_domains-split ds d a p.1 in
    record { front = v ∷ s.front; value = s.value; is = ap (λ vs. v ∷ vs) s.is; in_domains = both_true _ _ p.0 s.in_domains; member = s.member }

in_domains-join : (ds : List Decl) (d : Decl) (a : List ℤ) (v : ℤ) → IsTrue (in_domains ds a) → IsTrue (is_member v (domain d.kind)) → IsTrue (in_domains (ds ++ d ∷ []) (a ++ v ∷ []))
in_domains-join [] d [] v h k = both_true _ _ k refl
in_domains-join [] d (w ∷ a) v h k = absurd (false≢true h)
in_domains-join (c ∷ ds) d [] v h k = absurd (false≢true h)
in_domains-join (c ∷ ds) d (w ∷ a) v h k =
    let p = and_parts (is_member w (domain c.kind)) (in_domains ds a) h in
    both_true _ _ p.0 (in_domains-join ds d a v p.1 k)

in_domains-length : (ds : List Decl) (a : List ℤ) → IsTrue (in_domains ds a) → length a ≡ length ds
in_domains-length [] [] h = refl
in_domains-length [] (v ∷ a) h = absurd (false≢true h)
in_domains-length (d ∷ ds) [] h = absurd (false≢true h)
in_domains-length (d ∷ ds) (v ∷ a) h = ap suc (in_domains-length ds a (and_parts (is_member v (domain d.kind)) (in_domains ds a) h).1)

-- the statements so far hold or not whatever later values are
AllHold-append : (ds : List Decl) (ss : List Stmt) (a b : List ℤ) → length a ≡ length ds → ArePlaced ds ss → AllHold (a ++ b) ss ↔ AllHold a ss
AllHold-append ds [] a b long p = (λ h. tt, λ h. tt)
AllHold-append ds (s ∷ ss) a b long p =
    let here = (behind ds [] s.number s.what p.0).1 a b (omega (arith, long)) in
    let rest = AllHold-append ds ss a b long p.1 in
    (λ h. (here.0 h.0, rest.0 h.1), λ h. (here.1 h.0, rest.1 h.1))

AllHold-split : (ss : List Stmt) (s : Stmt) (a : List ℤ) → AllHold a (ss ++ s ∷ []) ↔ (AllHold a ss × Holds a s.what)
AllHold-split [] s a = (λ h. (tt, h.0), λ h. (h.1, tt))
AllHold-split (t ∷ ss) s a =
    let rest = AllHold-split ss s a in
    (λ h. let r = rest.0 h.1 in ((h.0, r.0), r.1), λ h. (h.0.0, rest.1 (h.0.1, h.1)))

ArePlaced-more : (ds es : List Decl) (ss : List Stmt) → ArePlaced ds ss → ArePlaced (ds ++ es) ss
ArePlaced-more ds es [] h = tt
ArePlaced-more ds es (s ∷ ss) h = (WhatFits-append ds es s.number s.what h.0, ArePlaced-more ds es ss h.1)

ArePlaced-append : (ds : List Decl) (ss : List Stmt) (s : Stmt) → ArePlaced ds ss → WhatFits ds s.number s.what → ArePlaced ds (ss ++ s ∷ [])
ArePlaced-append ds [] s h fit = (fit, tt)
ArePlaced-append ds (t ∷ ss) s h fit = (h.0, ArePlaced-append ds ss s h.1 fit)

-- One more declaration.

module _ (l m : Lowered) (ds : List Decl) (ss : List Stmt) (d : Decl) (st : Stands l ds ss) (law : TakesEachValue l m d.kind) where
  declared-decoded : (a : List ℤ) → IsTrue (in_domains (ds ++ d ∷ []) a) × AllHold a ss → IsDecoded m a
  declared-decoded a h =
      let s = in_domains-split ds d a h.0 in
      let held : AllHold s.front ss = (AllHold-append ds ss s.front (s.value ∷ []) (in_domains-length ds s.front s.in_domains) st.placed).0 (subst (λ (vs : List ℤ). AllHold vs ss) s.is h.1) in
      let c = (st.solutions s.front).0 (s.in_domains, held) in
      let t = law.each c.0 s.value c.1 s.member in
      (t.0, t.2, s.is ∙ (ap (λ (vs : List ℤ). vs ++ s.value ∷ []) c.2 ∙ sym t.3))

  decoded-declared : (a : List ℤ) → IsDecoded m a → IsTrue (in_domains (ds ++ d ∷ []) a) × AllHold a ss
  decoded-declared a c =
      let s = law.some c.0 c.1 in
      let front : List ℤ = numbers_of c.0 l.map.entries in
      let v : ℤ = s.1.0 in
      let e : a ≡ front ++ v ∷ [] = c.2 ∙ s.1.2 in
      let r = (st.solutions front).1 (c.0, s.0, refl) in (
        subst (λ (vs : List ℤ). IsTrue (in_domains (ds ++ d ∷ []) vs)) (sym e) (in_domains-join ds d front v r.0 s.1.1),
        subst (λ (vs : List ℤ). AllHold vs ss) (sym e) ((AllHold-append ds ss front (v ∷ []) (in_domains-length ds front r.0) st.placed).1 r.1),
      )

pub declaration-stands : (l : Lowered) (ds : List Decl) (ss : List Stmt) (d : Decl) → Stands l ds ss → KindFits d.kind → KindInLimit d.kind → Stands (with_declaration l d.kind) (ds ++ d ∷ []) ss
declaration-stands l ds ss d st fit small =
    let law = declaration_law l ds d st.encodes fit small in
    let m = with_declaration l d.kind in
    record {
      encodes = law.0;
      placed = ArePlaced-more ds (d ∷ []) ss st.placed;
      solutions = λ a. (declared-decoded l m ds ss d st law.1 a, decoded-declared l m ds ss d st law.1 a);
    }

-- One more statement.

pub statement-stands : (l : Lowered) (ds : List Decl) (ss : List Stmt) (s : Stmt) → Stands l ds ss → WhatFits ds s.number s.what → WhatInLimit s.what → Stands (with_statement l s.what) ds (ss ++ s ∷ [])
statement-stands l ds ss s st fit small =
    let law = statement_law l ds s st.encodes fit small in
    let entries = l.map.entries in
    record {
      encodes = law.0;
      placed = ArePlaced-append ds ss s st.placed fit;
      solutions = λ a. (
        λ h.
            let p = (AllHold-split ss s a).0 h.1 in
            let c = (st.solutions a).0 (h.0, p.0) in
            let t = law.1.extends c.0 (c.1, subst (λ (vs : List ℤ). Holds vs s.what) c.2 p.1) in
            (t.0, t.2, c.2 ∙ numbers_of-agree (l.vars + 1) c.0 t.0 ds entries t.1 st.encodes.entries),
        λ c.
            let p = law.1.implies c.0 c.1 in
            let r = (st.solutions a).1 (c.0, p.0, c.2) in
            (r.0, (AllHold-split ss s a).1 (r.1, subst (λ (vs : List ℤ). Holds vs s.what) (sym c.2) p.1)),
      );
    }

-- One more `bool2int` that declares its integer.

module _ (l m : Lowered) (ds : List Decl) (ss : List Stmt) (d : Decl) (s : Stmt) (st : Stands l ds ss) (law : TakesItsValue l m d.kind s.what) where
  defined-decoded : (a : List ℤ) → IsTrue (in_domains (ds ++ d ∷ []) a) × AllHold a (ss ++ s ∷ []) → IsDecoded m a
  defined-decoded a h =
      let p = in_domains-split ds d a h.0 in
      let held = subst (λ (vs : List ℤ). AllHold vs (ss ++ s ∷ [])) p.is h.1 in
      let parts = (AllHold-split ss s (p.front ++ p.value ∷ [])).0 held in
      let c = (st.solutions p.front).0 (p.in_domains, (AllHold-append ds ss p.front (p.value ∷ []) (in_domains-length ds p.front p.in_domains) st.placed).0 parts.0) in
      let v = law.value c.0 in
      let here : Holds (numbers_of c.0 l.map.entries ++ p.value ∷ []) s.what = subst (λ (vs : List ℤ). Holds (vs ++ p.value ∷ []) s.what) c.2 parts.1 in
      let same : p.value ≡ v.0 = (v.3 p.value).0 here in (
        c.0,
        subst (λ (cores : List Core). MeetsAll c.0 cores) (sym law.cores) c.1,
        p.is
            ∙ (ap (λ (vs : List ℤ). vs ++ p.value ∷ []) c.2
            ∙ (ap (λ (z : ℤ). numbers_of c.0 l.map.entries ++ z ∷ []) same ∙ sym v.2)),
      )

  decoded-defined : (a : List ℤ) → IsDecoded m a → IsTrue (in_domains (ds ++ d ∷ []) a) × AllHold a (ss ++ s ∷ [])
  decoded-defined a c =
      let front : List ℤ = numbers_of c.0 l.map.entries in
      let v = law.value c.0 in
      let e : a ≡ front ++ v.0 ∷ [] = c.2 ∙ v.2 in
      let r = (st.solutions front).1 (c.0, subst (λ (cores : List Core). MeetsAll c.0 cores) law.cores c.1, refl) in
      let all : AllHold (front ++ v.0 ∷ []) (ss ++ s ∷ []) =
      (AllHold-split ss s (front ++ v.0 ∷ [])).1
      ((AllHold-append ds ss front (v.0 ∷ []) (in_domains-length ds front r.0) st.placed).1 r.1, (v.3 v.0).1 refl) in (
        subst (λ (vs : List ℤ). IsTrue (in_domains (ds ++ d ∷ []) vs)) (sym e) (in_domains-join ds d front v.0 r.0 v.1),
        subst (λ (vs : List ℤ). AllHold vs (ss ++ s ∷ [])) (sym e) all,
      )

pub definition-stands : (l : Lowered) (ds : List Decl) (ss : List Stmt) (d : Decl) (s : Stmt) → Stands l ds ss → IsDefinition ds d s → WhatFits (ds ++ d ∷ []) s.number s.what → Stands (with_definition l s.what) (ds ++ d ∷ []) (ss ++ s ∷ [])
definition-stands l ds ss d s st def fit =
    let law = definition_law l ds d s st.encodes def in
    let m = with_definition l s.what in
    record {
      encodes = law.0;
      placed = ArePlaced-append (ds ++ d ∷ []) ss s (ArePlaced-more ds (d ∷ []) ss st.placed) fit;
      solutions = λ a. (defined-decoded l m ds ss d s st law.1 a, decoded-defined l m ds ss d s st law.1 a);
    }

-- No item.

empty-alone : (a : List ℤ) → IsTrue (in_domains [] a) → a ≡ []
empty-alone [] h = refl
empty-alone (v ∷ a) h = absurd (false≢true h)

pub nothing-stands : Stands nothing_lowered [] []
nothing-stands = record {
  encodes = record { entries = tt; below = tt; well_formed = tt; ordered = λ σ h. tt };
  placed = tt;
  solutions = λ a. (λ h. ((λ v. false), refl, empty-alone a h.0), λ c. (subst (λ (vs : List ℤ). IsTrue (in_domains [] vs)) (sym c.2) refl, tt));
}

-- All items.

-- what typing and limits say of items behind declarations
abbrev pub ItemsFit : List Decl → List ModelItem → Type 0
ItemsFit ds [] = Unit {0}
ItemsFit ds (Declaration d ∷ items) = KindFits d.kind × KindInLimit d.kind × ItemsFit (ds ++ d ∷ []) items
ItemsFit ds (Statement s ∷ items) = WhatFits ds s.number s.what × WhatInLimit s.what × ItemsFit ds items
ItemsFit ds (Definition d s ∷ items) = IsDefinition ds d s × WhatFits (ds ++ d ∷ []) s.number s.what × ItemsFit (ds ++ d ∷ []) items

abbrev pub decls_in : List ModelItem → List Decl
decls_in [] = []
decls_in (Declaration d ∷ items) = d ∷ decls_in items
decls_in (Statement s ∷ items) = decls_in items
decls_in (Definition d s ∷ items) = d ∷ decls_in items

abbrev pub stmts_in : List ModelItem → List Stmt
stmts_in [] = []
stmts_in (Declaration d ∷ items) = stmts_in items
stmts_in (Statement s ∷ items) = s ∷ stmts_in items
stmts_in (Definition d s ∷ items) = s ∷ stmts_in items

pub items-stand : (l : Lowered) (ds : List Decl) (ss : List Stmt) (items : List ModelItem) → Stands l ds ss → ItemsFit ds items → Stands (lowered_items l items) (ds ++ decls_in items) (ss ++ stmts_in items)
items-stand l ds ss [] st fit = rw (append-nil ds, append-nil ss) st
items-stand l ds ss (Declaration d ∷ items) st fit =
    subst (λ (cs : List Decl). Stands (lowered_items (with_declaration l d.kind) items) cs (ss ++ stmts_in items)) (append_assoc ds (d ∷ []) (decls_in items))
    (items-stand (with_declaration l d.kind) (ds ++ d ∷ []) ss items (declaration-stands l ds ss d st fit.0 fit.1) fit.2)
items-stand l ds ss (Statement s ∷ items) st fit =
    subst (λ (ts : List Stmt). Stands (lowered_items (with_statement l s.what) items) (ds ++ decls_in items) ts) (append_assoc ss (s ∷ []) (stmts_in items))
    (items-stand (with_statement l s.what) ds (ss ++ s ∷ []) items (statement-stands l ds ss s st fit.0 fit.1) fit.2)
items-stand l ds ss (Definition d s ∷ items) st fit =
    subst (λ (ts : List Stmt). Stands (lowered_items (with_definition l s.what) items) (ds ++ d ∷ decls_in items) ts) (append_assoc ss (s ∷ []) (stmts_in items))
    (subst (λ (cs : List Decl). Stands (lowered_items (with_definition l s.what) items) cs ((ss ++ s ∷ []) ++ stmts_in items)) (append_assoc ds (d ∷ []) (decls_in items))
    (items-stand (with_definition l s.what) (ds ++ d ∷ []) (ss ++ s ∷ []) items (definition-stands l ds ss d s st fit.0 fit.1) fit.2))
