use Rattle.lexer.proofs.Std.{arith, refl, ap, subst, ◌≡◌, ◌∙◌, ◌+◌, length, take, false, true}
use Rattle.lexer.proofs.Common.{IsWithinReach, is_rejoined, characters, plain_all, prefix_end, horizon}
use Rattle.lexer.proofs.Scans.{made_none, made_more, characters-more, lead_one}
use Rattle.lexer.proofs.Remakes.{removed_fits, prefix_inside, prefix_passed, end_rejoins, end_moved, needed, earlier_one}
use Rattle.lexer.proofs.Walks.{passed_later}
use Rattle.lexer.proofs.tokens.remake.Goals as goal

pub rejoin_place-requires-clause-removed : goal.rejoin_place-requires-clause-removed
rejoin_place-requires-clause-removed g c = removed_fits c.args.scan.now c.args.edit c.args.old.items (g.S.Source.text c.args.source.now) c.requires.edited c.start-at.ensures.fits

pub loop-at-init : goal.loop-at-init
loop-at-init g c =
    let xs = c.args.old.items in
    let lexicon = c.args.scan.now in
    let u = g.S.Source.text c.args.source.now in
    let kept = c.requires.kept_before lexicon.patterns c.requires.edited.text c.requires.edited.tokens.tokens in
    let start : c.start-at.result ≡ prefix_end c.args.edit xs = c.start-at.ensures.is ∙ ap (λ n. characters (take n xs)) kept in
    rw c.new-made.ensures.items (record {
      inside = omega (arith, start, prefix_inside lexicon c.args.edit xs u c.requires.edited);
      sum = omega (arith, start);
      leads = tt;
      made = made_none _ _;
      items = refl;
      passed = prefix_passed lexicon c.args.edit xs u c.requires.edited c.args.old.place c.start-at.result kept;
      earlier = λ k l. absurd (omega arith);
    })

pub token_at-token-requires-clause-window : goal.token_at-token-requires-clause-window
token_at-token-requires-clause-window g c = λ i w.
    let u = g.S.Source.text c.args.source.now in
    let xs = c.args.old.items in
    let old = c.loop-at.invariant in
    let here : is_rejoined c.args.edit (plain_all xs) c.loop-at.at ≡ false =
    subst (λ ys. is_rejoined c.args.edit (plain_all ys) c.loop-at.at ≡ false) old.items (c.in_default.ensures.is old.passed) in
    c.requires.window i
    (needed c.args.scan.now c.args.edit xs u c.requires.edited c.loop-at.made.items old.leads old.earlier
    (subst (λ n. is_rejoined c.args.edit (plain_all xs) n ≡ false) old.sum here)
    i (omega (arith, old.sum, c.loop-at-test.true, c.len.ensures)) (subst (λ n. IsWithinReach c.args.scan.now.patterns u n i) old.sum w))

pub loop-at-preserved : goal.loop-at-preserved
loop-at-preserved g c =
    let u = g.S.Source.text c.args.source.now in
    let xs = c.args.old.items in
    let e = c.args.edit in
    let x = c.token_at-token.result in
    let old = c.loop-at.invariant in
    let here : is_rejoined e (plain_all xs) c.loop-at.at ≡ false = subst (λ ys. is_rejoined e (plain_all ys) c.loop-at.at ≡ false) old.items (c.in_default.ensures.is old.passed) in
    rw (c.in_ok-push.ensures.items, c.length.ensures) (record {
      inside = c.token_at-token.ensures.inside;
      sum = omega (arith, old.sum, characters-more c.loop-at.made.items x);
      leads = lead_one c.args.scan.now.patterns u (prefix_end e xs) c.loop-at.at c.loop-at.made.items x old.sum old.leads c.token_at-token.ensures.token;
      made = made_more _ _ _ _ old.made c.token_at-token.ensures.marked c.token_at-token.ensures.born c.token_at-token.ensures.nonempty c.token_at-token.ensures.near;
      items = c.rejoin_place.ensures.items ∙ old.items;
      passed = passed_later c.rejoin_place.new.old (horizon e c.loop-at.at) (horizon e (c.loop-at.at + x.length)) (omega arith) (c.rejoin_place.ensures.passed old.passed);
      earlier = earlier_one e xs (prefix_end e xs) c.loop-at.made.items x old.earlier (subst (λ n. is_rejoined e (plain_all xs) n ≡ false) old.sum here);
    })

pub returns : goal.returns
returns g c =
    let u = g.S.Source.text c.args.source.now in
    let xs = c.args.old.items in
    let old = c.loop-at.invariant in
    let all : length u ≡ prefix_end c.args.edit xs + characters c.loop-at.made.items = omega (arith, c.loop-at-test.false, c.len.ensures, old.inside, old.sum) in
    let end : c.end.result ≡ length xs = c.end.ensures ∙ ap length old.items in
    record {
      leads = old.leads;
      anew = old.made;
      earlier = old.earlier;
      rejoins = subst (λ n. is_rejoined c.args.edit (plain_all xs) n ≡ true) all (end_rejoins c.args.scan.now c.args.edit xs u c.requires.edited);
      within = omega (arith, end);
      moved = rw end (end_moved c.args.scan.now c.args.edit xs u c.requires.edited ∙ ap (λ n. n + c.args.edit.removed) all);
    }
