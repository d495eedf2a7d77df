-- Texts that begin with others.
use Rattle.std.proofs.Common.{◌≡◌, ℕ, List, [], ◌++◌, ◌∙◌, ap, sym, append-nil, append_assoc}
use Rattle.wording.specs.Texts.{BeginsWith}

-- a text begins with what it is
pub begins_equal : (s t : List ℕ) → t ≡ s → BeginsWith s t
begins_equal s t e = ([], e ∙ sym (append-nil s))

-- what a text begins with, one that goes on from it does
pub begins_pushed : (s t u v : List ℕ) → BeginsWith s t → v ≡ t ++ u → BeginsWith s v
begins_pushed s t u v h e = (h.0 ++ u, e ∙ (ap (λ x. x ++ u) h.1 ∙ append_assoc s h.0 u))

-- what the start of a text begins with, the text does
pub begins_through : (s t u : List ℕ) → BeginsWith s t → BeginsWith t u → BeginsWith s u
begins_through s t u h k = begins_pushed s t k.0 u h k.1
