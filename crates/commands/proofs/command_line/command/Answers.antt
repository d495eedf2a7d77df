use Rattle.commands.proofs.Std.{◌≡◌, ◌∙◌, true, false, ap, ap₂, codes, Result, Ok, Err, IfOk, IsOkAnd, AllocError, AddsSubcommand, App, app_of, with_subcommand, app_of_fields, on_top, Command, fields_of}
use Rattle.commands.proofs.Common.{alone, one, two}
use Rattle.commands.proofs.command_line.command.Goals as goal

with_one_more : (r below : Result Command AllocError) (old : Command) (above b : App) → app_of old ≡ above → IfOk below (λ x. app_of x ≡ b)
    → IfOk below (λ x. (fields_of x).has_globals ≡ false) → IfOk r (λ c. IsOkAnd below (λ x. AddsSubcommand old x c)) → IfOk r (λ c. app_of c ≡ with_subcommand above b.top)
with_one_more (Err e) below old above b is be local h = tt
with_one_more (Ok c) (Err e) old above b is be local h = absurd h
with_one_more (Ok c) (Ok x) old above b is be local h = h.shape local ∙ ap₂ with_subcommand is (ap (λ (a : App). a.top) be)

pub returns : goal.returns
returns c =
    let top : app_of c.subcommand_required-lrls.result ≡ alone =
    ap app_of_fields c.subcommand_required-lrls.ensures ∙ ap (on_top (λ s. record s { subcommand_required = true })) c.new.ensures.app in
    let first : app_of c.in_ok-lrls.lrls ≡ with_subcommand alone (one (codes "check")).top =
    with_one_more (Ok c.in_ok-lrls.lrls) c.with_grammar.result _ _ _ top c.with_grammar.ensures.command c.with_grammar.ensures.local c.in_ok-lrls.ensures in
    let second : app_of c.in_ok-lrls-2.lrls ≡ with_subcommand (with_subcommand alone (one (codes "check")).top) two.top =
    with_one_more (Ok c.in_ok-lrls-2.lrls) c.parse_command.result _ _ _ first c.parse_command.ensures.command c.parse_command.ensures.local c.in_ok-lrls-2.ensures in
    with_one_more c.with_subcommand-3.result c.with_grammar-2.result _ _ _ second c.with_grammar-2.ensures.command c.with_grammar-2.ensures.local c.with_subcommand-3.ensures
