-- What came behind a list last is what is taken away again.
use Rattle.std.proofs.Common.{◌≡◌, Bool, List, [], ◌∷◌, ◌++◌, ℤ, ap, ◌∙◌}
use Rattle.order_ints.specs.declared.atom.Atom.{Atom}
use Rattle.order_ints.specs.declared.order_int.OrdInt.{OrdInt}
use Rattle.core_forms.specs.declared.form.Core.{Core}
use Rattle.core_forms.specs.declared.form.Core.TheVariants.{Parity, Sum, Amo, Lex}
use Rattle.part_base.specs.declared.cut.Coming.{Coming}
use Rattle.part_base.specs.declared.cut.Coming.TheVariants.{Member, Integer}
use Rattle.part_base.specs.Cuts.{CanCome, by_parity, by_amo, by_sum, by_words, longer_of}

pub parity_before : (coming : Coming) (before : Core) (ls new : List Atom) (odd : Bool) → CanCome coming before → Parity ls odd ≡ longer_of coming before
    → ((members : List Atom) (last : Atom) → ls ≡ members ++ last ∷ [] → new ≡ members) → Parity new odd ≡ before
parity_before coming before ls new odd (by_parity a ms even e f) is gone =
    let i : Parity ls odd ≡ Parity (ms ++ a ∷ []) even = is ∙ (ap (λ (m : Coming). longer_of m before) e ∙ ap (longer_of (Member a)) f) in
    let left = gone ms a cc in cc
parity_before coming before ls new odd (by_amo a ms e f) is gone = let i : Parity ls odd ≡ Amo (ms ++ a ∷ []) = is ∙ (ap (λ (m : Coming). longer_of m before) e ∙ ap (longer_of (Member a)) f) in cc
parity_before coming before ls new odd (by_sum a xs k e f) is gone = let i : Parity ls odd ≡ Sum (xs ++ a ∷ []) k = is ∙ (ap (λ (m : Coming). longer_of m before) e ∙ ap (longer_of (Integer a)) f) in cc
parity_before coming before ls new odd (by_words r strict front back f) is gone = let i : Parity ls odd ≡ Lex r strict front back = is ∙ ap (longer_of coming) f in cc

pub amo_before : (coming : Coming) (before : Core) (ls new : List Atom) → CanCome coming before → Amo ls ≡ longer_of coming before
    → ((members : List Atom) (last : Atom) → ls ≡ members ++ last ∷ [] → new ≡ members) → Amo new ≡ before
amo_before coming before ls new (by_parity a ms even e f) is gone = let i : Amo ls ≡ Parity (ms ++ a ∷ []) even = is ∙ (ap (λ (m : Coming). longer_of m before) e ∙ ap (longer_of (Member a)) f) in cc
amo_before coming before ls new (by_amo a ms e f) is gone =
    let i : Amo ls ≡ Amo (ms ++ a ∷ []) = is ∙ (ap (λ (m : Coming). longer_of m before) e ∙ ap (longer_of (Member a)) f) in
    let left = gone ms a cc in cc
amo_before coming before ls new (by_sum a xs k e f) is gone = let i : Amo ls ≡ Sum (xs ++ a ∷ []) k = is ∙ (ap (λ (m : Coming). longer_of m before) e ∙ ap (longer_of (Integer a)) f) in cc
amo_before coming before ls new (by_words r strict front back f) is gone = let i : Amo ls ≡ Lex r strict front back = is ∙ ap (longer_of coming) f in cc

pub sum_before : (coming : Coming) (before : Core) (xs new : List OrdInt) (k : ℤ) → CanCome coming before → Sum xs k ≡ longer_of coming before
    → ((members : List OrdInt) (last : OrdInt) → xs ≡ members ++ last ∷ [] → new ≡ members) → Sum new k ≡ before
sum_before coming before xs new k (by_parity a ms even e f) is gone = let i : Sum xs k ≡ Parity (ms ++ a ∷ []) even = is ∙ (ap (λ (m : Coming). longer_of m before) e ∙ ap (longer_of (Member a)) f) in cc
sum_before coming before xs new k (by_amo a ms e f) is gone = let i : Sum xs k ≡ Amo (ms ++ a ∷ []) = is ∙ (ap (λ (m : Coming). longer_of m before) e ∙ ap (longer_of (Member a)) f) in cc
sum_before coming before xs new k (by_sum a ys m e f) is gone =
    let i : Sum xs k ≡ Sum (ys ++ a ∷ []) m = is ∙ (ap (λ (m : Coming). longer_of m before) e ∙ ap (longer_of (Integer a)) f) in
    let left = gone ys a cc in cc
sum_before coming before xs new k (by_words r strict front back f) is gone = let i : Sum xs k ≡ Lex r strict front back = is ∙ ap (longer_of coming) f in cc
