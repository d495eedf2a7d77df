use Rattle.std.proofs.Common.{◌≡◌, ◌∙◌, Result, Ok, Err, IfOk, ap, subst, sym}
use Rattle.mending.specs.Mendings.{IsMended, With_none}
use Rattle.mending.proofs.mending.Mending.unmended.Goals as goal

-- what follows of three facts of a value
if_ok_all : {T E : Type 0} {P Q R S : T → Type 0} (r : Result T E) → ((x : T) → P x → Q x → R x → S x) → IfOk r P → IfOk r Q → IfOk r R → IfOk r S
if_ok_all (Ok x) f p q s = f x p q s
if_ok_all (Err e) f p q s = tt

pub returns : goal.returns
returns c =
    let g = c.args.tables.now.grammar in
    let kinds = c.args.origin.items in
    if_ok_all c.with_copy.result (λ made parse is none.
    let same : made.copy.items ≡ kinds = ap (λ v. v.items) is.1 ∙ c.in_ok-copy.ensures.items ∙ c.deref.ensures.value in
    record {
      origin = ap (λ v. v.items) is.0;
      mended = subst (λ l. IsMended g kinds made.repairs.items l) (sym same) (subst (λ rs. IsMended g kinds rs kinds) (sym none) With_none);
      parse = parse;
    })
    c.with_copy.ensures.parse c.with_copy.ensures.kinds c.with_copy.ensures.repairs
