use Rattle.std.proofs.Common.{◌≡◌, ◌∙◌, ap, sym, subst, ℕ, List, Option, Some, None, length, true, arith}
use Rattle.std.specs.Prelude.{IfSome, ◌==◌, if◌then◌else◌}
use Rattle.order_ints.specs.declared.atom.Atom.{Atom}
use Rattle.order_ints.specs.View.{label_of}
use Rattle.equation_store.specs.Class.{is_of, after_in, IsMember}
use Rattle.equation_store.specs.Ring.{behind}
use Rattle.equation_store.specs.Store.{Store, IsStore, class_walk}
use Rattle.equation_store.proofs.Walk.{after_in-member}
use Rattle.equation_store.proofs.Facts.{IsWalk-of_member}
use Rattle.equation_store.proofs.Stored.{store-from, walk-goes}
use Rattle.equation_store.proofs.store.EqStore.after.Goals as goal
use Rattle.equation_store.proofs.store.EqStore.after.Goals.{After-member_behind}

value : (c : After-member_behind) → (x : ℕ) → is_of x (label_of c.args.self.now.view c.args.var) ≡ true → c.member_behind.result ≡ after_in c.args.var (class_walk c.args.self.now x)
value c x of_x =
    let view : c.self.inside.labels.items ≡ c.args.self.now.view = ap (λ (s : Store). s.view) c.self.view_is in
    let at : is_of x (label_of c.self.inside.labels.items c.args.var) ≡ true = ap (λ (l : List Atom). is_of x (label_of l c.args.var)) view ∙ of_x in
    let slice : c.as_slice.result.now ≡ c.self.inside.labels.items = c.as_slice.ensures.value in
    let next : c.as_slice-2.result.now ≡ c.self.inside.next.items = c.as_slice-2.ensures.value in
    c.member_behind.ensures x (ap (λ (l : List Atom). is_of x (label_of l c.args.var)) slice ∙ at)
    ∙ ap (λ (l : List ℕ). if behind l c.args.var == x then None else Some (behind l c.args.var)) next
    ∙ walk-goes c.self.inside.labels.items c.self.inside.sizes.items c.self.inside.next.items c.self.invariant x c.args.var c.requires.low (omega (arith, ap length view, c.requires.high)) at
    ∙ ap (λ (s : Store). after_in c.args.var (class_walk s x)) c.self.view_is

pub returns-clause-value : goal.returns-clause-value
returns-clause-value c = value (goal.at.returns-clause-value c).After-member_behind

pub returns-clause-walk : goal.returns-clause-walk
returns-clause-walk c x of_x =
    let store : IsStore c.args.self.now = subst IsStore c.self.view_is (store-from c.self.inside.labels.items c.self.inside.sizes.items c.self.inside.next.items c.self.invariant) in
    IsWalk-of_member c.args.self.now store c.args.var x c.requires.low c.requires.high of_x

pub returns-clause-member : goal.returns-clause-member
returns-clause-member c x of_x =
    let store : IsStore c.args.self.now = subst IsStore c.self.view_is (store-from c.self.inside.labels.items c.self.inside.sizes.items c.self.inside.next.items c.self.invariant) in
    subst (λ (o : Option ℕ). IfSome o (IsMember c.args.self.now.view x)) (sym (value (goal.at.returns-clause-member c).After-member_behind x of_x))
    (after_in-member c.args.self.now.view x c.args.var (class_walk c.args.self.now x) (IsWalk-of_member c.args.self.now store c.args.var x c.requires.low c.requires.high of_x))
