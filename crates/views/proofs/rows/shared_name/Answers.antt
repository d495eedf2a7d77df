use Rattle.views.proofs.Std.{◌≡◌, ◌∙◌, [], Result, Ok, Err, MatchResult, IfOk, length, slice_index_or, ap, sym, ltb-true}
use Rattle.views.proofs.Common.{kind_name}
use Rattle.std.proofs.lemmas.List.{get_or-map}
use Rattle.std.specs.Str.{chars}
use Rattle.std.specs.String.{string_bytes}
use Rattle.views.proofs.rows.shared_name.Goals as goal

if_ok : {A E : Type 0} {P Q : A → Type 0} (F : E → Type 0) (r : Result A E) → ((a : A) → P a → Q a) → MatchResult r P F → IfOk r Q
if_ok F (Ok a) more h = more a h
if_ok F (Err e) more h = tt

pub returns : goal.returns
returns c =
    let names = c.args.grammar.now.names in
    let rule = c.in-Rule.rule in
    let name = c.in-Some.name.now in
    let at = c.in-Some.ensures.lookup in
    let named : chars (string_bytes name.value) ≡ kind_name names c.args.kind =
    ap (λ n. chars (string_bytes n.value)) at.1 ∙ sym (get_or-map (λ n. chars (string_bytes n.value)) c.args.names.now rule name [] (ltb-true rule (length c.args.names.now) (sym at.0)))
    ∙ ap (λ l. slice_index_or l rule []) c.requires ∙ ap (kind_name names) (sym c.in-Rule.is) in
    if_ok _ c.clone.result (λ copy same. ap (λ v. chars (string_bytes v)) same ∙ named) c.clone.ensures.cases
