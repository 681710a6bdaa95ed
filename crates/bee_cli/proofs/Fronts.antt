-- What a sink took is a front.
use Rattle.std.proofs.Common.{◌≡◌, ℕ, List, [], Option, Some, None, refl, sym, ap, arith}
use Rattle.std.proofs.lemmas.List.{append-nil}
use Rattle.bee_outside.specs.Bytes.{grown, GrewByFront}

pub grown-nil : (o : Option (List ℕ)) → grown o [] ≡ o
grown-nil None = refl
grown-nil (Some bytes) = ap Some (append-nil bytes)

pub untouched : (o : Option (List ℕ)) → GrewByFront o [] o
untouched o = record { count = 0; within = omega arith; grew = sym (grown-nil o) }
