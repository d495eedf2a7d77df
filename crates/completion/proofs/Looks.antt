-- The offers of what is expected, the end among it.
use Rattle.completion.proofs.Std.{◌++◌, ◌≡◌, ◌∷◌, ℕ, Bool, true, false, List, [], Option, Some, None, ap, flat_map, refl}
use Rattle.completion.proofs.Common.{in_file_order, offer_of, RuleText}

-- the offer of what is expected: none of the end
abbrev pub of_look : List (Option RuleText) → List ℕ → Option ℕ → List (ℕ × List ℕ)
of_look texts word None = []
of_look texts word (Some rule) = offer_of texts word rule

pub of_looks : (texts : List (Option RuleText)) (word : List ℕ) (rules : List ℕ) (at_end : Bool)
    → flat_map (of_look texts word) (in_file_order rules at_end) ≡ flat_map (offer_of texts word) rules
of_looks texts word [] true = refl
of_looks texts word [] false = refl
of_looks texts word (rule ∷ rules) at_end = ap (λ l. offer_of texts word rule ++ l) (of_looks texts word rules at_end)
