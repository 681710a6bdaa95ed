use Rattle.std.proofs.Common.{◌<◌, length, refl, ap, subst, ◌∙◌}
use Rattle.std.specs.Prelude.{ℕ, List, slice_index_or}
use Rattle.core_extract.specs.Parts.{whole_of, part_of}
use Rattle.core_extract.proofs.Turns.{meets-as, given-one}
use Rattle.core_extract.proofs.settling.settle_kept.Goals as goal

pub returns-in_ok-given-in-Some : goal.returns-in_ok-given-in-Some
returns-in_ok-given-in-Some g c =
    let p = c.args.progress in
    let part = c.part.ensures.part ∙ ap (part_of (whole_of p.reduction.model)) c.requires.progress.reduced.out in
    let meets = meets-as _ (part_of (whole_of p.reduction.model) p.reduction.out.items) _ _ c.in-Some.a part
    (ap (λ (ns : List ℕ). slice_index_or ns c.args.place 0) c.requires.numbers) c.in-Some.ensures in
    given-one g.F.Oracle.told c.args.asker.now.options c.args.place p c.requires.progress c.requires.place c.requires.kept (subst (λ (ns : List ℕ). c.args.place < length ns) c.requires.numbers c.requires.named) 0 _ c.in-Some.a c.requires.progress.reduced refl refl c.in_ok-given-in-Some.ensures meets
