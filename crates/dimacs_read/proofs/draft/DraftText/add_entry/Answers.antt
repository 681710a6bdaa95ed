use Rattle.std.proofs.Common.{◌≡◌, List, [], ◌∷◌, ◌++◌, map, true, false, sym, ap, subst, ◌∙◌}
use Rattle.std.specs.List.{list_any}
use Rattle.std.specs.Str.{bytes_eq}
use Rattle.std.proofs.lemmas.Bool.{not-true, not-false}
use Rattle.bumblebee_reader.specs.Names.{IsNew}
use Rattle.name_map.specs.declared.entries.MapEntry.{MapEntry}
use Rattle.dimacs_read.specs.declared.draft.TextStage.TheVariants.{Names}
use Rattle.dimacs_read.specs.TextSteps.{Draft}
use Rattle.dimacs_read.proofs.NewNames.{known_not_new, unknown_new}
use Rattle.dimacs_read.proofs.draft.DraftText.add_entry.Goals as goal

pub returns-then-not-branch : goal.returns-then-not-branch
returns-then-not-branch c =
    let name = c.in_ok-name.ensures.cases in
    let known = not-false (list_any (bytes_eq c.in_ok-name.name) c.self.inside.names.keys) (sym c.in_ok-insert.ensures.added ∙ c.if-not-branch.true) in
    let there : list_any (bytes_eq c.args.entry.name) (map (λ (e : MapEntry). e.name) c.self.inside.entries.items) ≡ true =
    (λ i. list_any (bytes_eq (sym name i)) (sym c.self.invariant i)) ∙ known in
    let P : Draft → Type 0 = λ d. IsNew c.args.entry.name (map (λ e. e.name) d.entries) → ⊥ in (
      subst P c.self.view_is (known_not_new c.args.entry.name (map (λ e. e.name) c.self.inside.entries.items) there),
      ap (λ (es : List MapEntry). record { stage = c.self.inside.stage; entries = es; ledger = c.self.inside.ledger.items; clauses = c.self.inside.clauses.items }) c.in_ok-reserve.ensures.items ∙ c.self.view_is,
    )

pub returns : goal.returns
returns c =
    let name = c.in_ok-name.ensures.cases in
    let unknown = not-true (list_any (bytes_eq c.in_ok-name.name) c.self.inside.names.keys) (sym c.in_ok-insert.ensures.added ∙ c.if-not-branch.false) in
    let absent : list_any (bytes_eq c.args.entry.name) (map (λ (e : MapEntry). e.name) c.self.inside.entries.items) ≡ false =
    (λ i. list_any (bytes_eq (sym name i)) (sym c.self.invariant i)) ∙ unknown in
    let P : Draft → Type 0 = λ d. IsNew c.args.entry.name (map (λ e. e.name) d.entries) in
    let pushed = rw (c.unwrap.ensures, c.in_ok-reserve.ensures.items) at c.push.ensures.items in (
      subst P c.self.view_is (unknown_new c.args.entry.name (map (λ e. e.name) c.self.inside.entries.items) absent),
      ap (λ (es : List MapEntry). record { stage = Names; entries = es; ledger = c.self.inside.ledger.items; clauses = c.self.inside.clauses.items }) pushed
          ∙ ap (λ (d : Draft). record { stage = Names; entries = d.entries ++ c.args.entry ∷ []; ledger = d.ledger; clauses = d.clauses }) c.self.view_is,
    )
