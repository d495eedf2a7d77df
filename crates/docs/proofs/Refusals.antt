-- A text's refusal, passed on as a document's.
use Rattle.docs.proofs.Std.{◌≡◌, ◌↔◌, ◌<◌, ℕ, Bool, true, false, List, length, refl, sym, ap, subst, ◌∙◌, leb-true, leb-false, Option, Err, Result, Ok, IsErrAnd, nat_le, encode_utf8_all, chars, IsUtf8, err_from_is_err_and}
use Rattle.docs.proofs.Common.{IsText, changed, span, Range, Encoding, IsText-chars, IsText-edit, TextFault, DocFault, TooLarge, Memory, doc_fault, fits, fits_from, too_long, spelled_large, large_from}
use Rattle.text.specs.declared.document.TextFault.TheVariants as text

-- where a text is too large
large_or_not : (t : List ℕ) → IsText t → (fits t ≡ false) ↔ (1_048_576 < length (encode_utf8_all t))
large_or_not t is = (λ over. by (nat_le (length (encode_utf8_all t)) 1_048_576) refl over, too_long t)
  where
    by : (b : Bool) → nat_le (length (encode_utf8_all t)) 1_048_576 ≡ b → fits t ≡ false → 1_048_576 < length (encode_utf8_all t)
    by true e over = absurd (let fit = fits_from t is (leb-true _ _ e) in let f : ⊥ = cc in f)
    by false e over = leb-false _ _ e

spelled_or_not : (bs : List ℕ) → IsUtf8 bs → (fits (chars bs) ≡ false) ↔ (1_048_576 < length bs)
spelled_or_not bs utf8 = (large_from bs utf8, spelled_large bs utf8)

from_text : (fault : TextFault) → doc_fault fault ≡ TooLarge → fault ≡ text.TooLarge
from_text text.TooLarge e = refl
from_text text.Memory e = absurd (let f : ⊥ = cc in f)

-- a changed text is one of characters
pub IsText-changed : (encoding : Encoding) (t : List ℕ) (range : Option Range) (bs : List ℕ) → IsText t → IsUtf8 bs → IsText (changed encoding t range (chars bs))
unfolding changed
IsText-changed encoding t range bs is utf8 = IsText-edit t (span encoding t range).0 (span encoding t range).1 (chars bs) is (IsText-chars bs utf8)

-- facts that are each as much as a third
as_much : {A B C : Type 0} → A ↔ B → C ↔ B → A ↔ C
as_much f g = (λ a. g.1 (f.0 a), λ c. f.1 (g.0 c))

-- a change is too large where the edit that it comes to is
pub large_edit : {S : Type 0} (made : Result S TextFault) {changed_text edited : List ℕ} → IsText changed_text → changed_text ≡ edited
    → (made ≡ Err text.TooLarge) ↔ (1_048_576 < length (encode_utf8_all edited)) → (made ≡ Err text.TooLarge) ↔ (fits changed_text ≡ false)
large_edit made is same by =
    as_much (subst (λ t. (made ≡ Err text.TooLarge) ↔ (1_048_576 < length (encode_utf8_all t))) (sym same) by) (large_or_not _ is)

-- a new text is too large where its bytes are too many
pub large_text : {S : Type 0} (made : Result S TextFault) (bs : List ℕ) → IsUtf8 bs → (made ≡ Err text.TooLarge) ↔ (1_048_576 < length bs) → (made ≡ Err text.TooLarge) ↔ (fits (chars bs) ≡ false)
large_text made bs utf8 by = as_much by (spelled_or_not bs utf8)

module _ {S : Type 0} (made : Result S TextFault) (over : Type 0) (by : (made ≡ Err text.TooLarge) ↔ over) where
  -- a text that was made is not too large
  pub text_made : (x : S) → made ≡ Ok x → over → ⊥
  text_made x was o = let wrong : Ok x ≡ Err text.TooLarge = sym was ∙ by.1 o in let f : ⊥ = cc in f

  module _ {T : Type 0} (result : Result T DocFault) where
    -- the refusal of the text was passed on
    pub passed_on : (fault : TextFault) → made ≡ Err fault → IsErrAnd result (λ e. e ≡ doc_fault fault) → (result ≡ Err TooLarge) ↔ over
    passed_on fault was err =
        let p = err_from_is_err_and result err in (
          λ r.
              let errs : Err p.0 ≡ Err TooLarge = sym p.1 ∙ r in
              let here : p.0 ≡ TooLarge = cc in
              by.0 (was ∙ ap (λ f. Err f) (from_text fault (sym p.2 ∙ here))),
          λ o.
              let errs : Err fault ≡ Err text.TooLarge = sym was ∙ by.1 o in
              let here : fault ≡ text.TooLarge = cc in
              p.1 ∙ ap (λ f. Err f) (p.2 ∙ ap doc_fault here),
        )

    -- memory was refused after it
    pub after_text : (x : S) → made ≡ Ok x → IsErrAnd result (λ e. e ≡ Memory) → (result ≡ Err TooLarge) ↔ over
    after_text x was err =
        let p = err_from_is_err_and result err in (
          λ r. absurd (let errs : Err Memory ≡ Err TooLarge = ap (λ e. Err e) (sym p.2) ∙ sym p.1 ∙ r in let f : ⊥ = cc in f),
          λ o. absurd (text_made x was o),
        )

    -- nothing was refused
    pub all_made : (x : S) (y : T) → made ≡ Ok x → result ≡ Ok y → (result ≡ Err TooLarge) ↔ over
    all_made x y was is = (λ r. absurd (let oks : Ok y ≡ Err TooLarge = sym is ∙ r in let f : ⊥ = cc in f), λ o. absurd (text_made x was o))

-- ---- what `made.and(Ok(x))` is
