use Rattle.server.proofs.Std.{◌≡◌, ℕ, ℤ, w32, List, true, false, ap, sym, subst, ◌∙◌, None, Err, if◌then◌else◌, chars, to_z-of_z}
use Rattle.server.proofs.Common.{open_document, OpenDocument, fits, DocFault, Encoding, TooLarge, is_open, is_lost, new_document}
use Rattle.server.proofs.entry.open_entry.Goals as goal

abbrev first : Encoding → ℤ → List ℕ → OpenDocument
first unit version text = record { unit = unit; version = version; text = text; last = None }

fitting : (unit : Encoding) (version : ℤ) (text : List ℕ) → fits text ≡ true → is_open (first unit version text) ≡ new_document unit version text
fitting unit version text fit = sym (ap (λ b. if b then is_open (first unit version text) else is_lost TooLarge) fit)

over : (unit : Encoding) (version : ℤ) (text : List ℕ) → fits text ≡ false → is_lost TooLarge ≡ new_document unit version text
over unit version text large = sym (ap (λ b. if b then is_open (first unit version text) else is_lost TooLarge) large)

pub returns-in-Ok-clause-is : goal.returns-in-Ok-clause-is
returns-in-Ok-clause-is c =
    let text = chars c.args.text.now in
    let is = subst (λ (v : ℤ). open_document c.in-Ok.doc ≡ first c.args.unit v text) (to_z-of_z w32 c.args.version c.ranges.version) c.in-Ok.ensures.is in
    ap is_open is ∙ fitting c.args.unit c.args.version text c.in-Ok.ensures.fits

pub returns-in-Err-TooLarge-clause-is : goal.returns-in-Err-TooLarge-clause-is
returns-in-Err-TooLarge-clause-is c =
    let refused : c.open.result ≡ Err DocFault.TooLarge = c.in-Err-TooLarge.is ∙ ap (λ (e : DocFault). Err e) c.in-Err-TooLarge.field-0-is in
    over c.args.unit c.args.version (chars c.args.text.now) (c.open.ensures.too_large.0 refused)
