-- The first item of some declarations and statements.
use Rattle.std.proofs.Common.{◌≡◌, ◌<◌, true, false, List, [], ◌∷◌, refl, arith}
use Rattle.std.specs.Prelude.{◌==◌, nat_lt}
use Rattle.std.proofs.lemmas.Bool.Decides.{nat_tests}
use Rattle.model_meaning.specs.declared.model.Decl.{Decl}
use Rattle.model_meaning.specs.declared.model.Stmt.{Stmt}
use Rattle.model_items.specs.Items.{Declaration, Statement, Definition, items_of}

pub statement-first : (d : Decl) (ds : List Decl) (s : Stmt) (ss : List Stmt) → s.number < d.number → items_of (d ∷ ds) (s ∷ ss) ≡ Statement s ∷ items_of (d ∷ ds) ss
statement-first d ds s ss lt =
    let t : nat_lt s.number d.number ≡ true = grind (arith, nat_tests, lt) in
    rw t refl

pub declaration-first : (d : Decl) (ds : List Decl) (s : Stmt) (ss : List Stmt) → d.number < s.number → items_of (d ∷ ds) (s ∷ ss) ≡ Declaration d ∷ items_of ds (s ∷ ss)
declaration-first d ds s ss lt =
    let t : nat_lt s.number d.number ≡ false = grind (arith, nat_tests, lt) in
    let u : (s.number == d.number) ≡ false = grind (arith, nat_tests, lt) in
    rw (t, u) refl

pub definition-first : (d : Decl) (ds : List Decl) (s : Stmt) (ss : List Stmt) → s.number ≡ d.number → items_of (d ∷ ds) (s ∷ ss) ≡ Definition d s ∷ items_of ds ss
definition-first d ds s ss e =
    let t : nat_lt s.number d.number ≡ false = grind (arith, nat_tests, e) in
    let u : (s.number == d.number) ≡ true = grind (arith, nat_tests, e) in
    rw (t, u) refl

pub ruleset steps = (statement-first, declaration-first, definition-first)
