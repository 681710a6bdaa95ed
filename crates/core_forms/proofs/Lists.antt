-- Lists behind others.
use Rattle.std.proofs.Common.{◌≡◌, ℕ, List, [], ◌++◌, ◌∙◌, ap}

-- what stands behind no member is all
pub from_none : (xs old zs : List ℕ) → old ≡ [] → xs ≡ old ++ zs → xs ≡ zs
from_none xs old zs e h = h ∙ ap (λ o. o ++ zs) e
