use Rattle.lexer.proofs.Std.{arith, rules, vec_len, sym, ap, subst, ◌≡◌, ◌∙◌, ℕ, ◌≤◌, List, ◌++◌, length, take, drop, length-append, length-drop, length-take, append_assoc}
use Rattle.lexer.proofs.Common.{lexicon_of, Edit, plain_splice, Splice, Lexicon, Token, Fits, TokenList, change, significant_kinds, IsEdited, IsRemade, AreTokensAfter}
use Rattle.lexer.proofs.Totals.{few}
use Rattle.lexer.proofs.Rescanned.{prefix_to, remade_fits, remade_after}
use Rattle.lexer.proofs.tokens.Tokens.rescan.Goals.{In_ok-made, In_ok-replace}
use Rattle.lexer.proofs.tokens.Tokens.rescan.Goals as goal

abbrev next_of : List Token → ℕ → TokenList
next_of items scanned = record { items = items; scanned = scanned }

-- the tokens `made` may take the place of the old ones from number `n` up to `to`, and with them the list is that after the edit
record IsReplacement (lexicon : Lexicon) (e : Edit) (xs : List Token) (u : List ℕ) (made : List Token) (to n : ℕ) : Type 0 where
  ordered : n ≤ to
  within : to ≤ length xs
  fits : Fits (take n xs ++ (made ++ drop to xs))
  after : (scanned : ℕ) (s : Splice) → s ≡ change xs n to (significant_kinds made) → AreTokensAfter lexicon e u s (next_of xs scanned) (next_of (take n xs ++ (made ++ drop to xs)) (length made))

replacement : (g : _) (c : In_ok-made g) → IsReplacement (lexicon_of c.args.grammar.now) c.args.edit c.self.inside.items
    (g.S.Source.text c.args.source.now) c.in_ok-made.made.items c.in_ok-made.to c.kept_prefix-kept.result.count
replacement g c =
    let xs = c.self.inside.items in
    let e = c.args.edit in
    let lexicon = lexicon_of c.args.grammar.now in
    let u = g.S.Source.text c.args.source.now in
    let made = c.in_ok-made.made.items in
    let to = c.in_ok-made.to in
    let h : IsEdited lexicon e xs u = subst (λ d. IsEdited lexicon e d.items u) (sym c.self.view_is) c.requires.edited in
    let r : IsRemade lexicon e xs u made to = subst (λ f. IsRemade f e xs u made to) c.new-scan.ensures
    (subst (λ s. IsRemade c.new-scan.result e s.items u made to) c.new-old.ensures c.in_ok-made.ensures) in
    subst (IsReplacement lexicon e xs u made to) (sym (c.kept_prefix-kept.ensures.kept_before lexicon.patterns h.text h.tokens.tokens)) (record {
      ordered = prefix_to lexicon e xs u h made to r c.self.invariant;
      within = r.within;
      fits = remade_fits lexicon e xs u h made to r c.self.invariant c.requires.small;
      after = λ scanned s shown. remade_after lexicon e xs u h made to r scanned s c.self.invariant shown;
    })

-- the list with these tokens in it
list : (g : _) (c : In_ok-replace g) → c.replace.new.self ≡ take c.kept_prefix-kept.result.count c.self.inside.items ++ (c.in_ok-made.made.items ++ drop c.in_ok-made.to c.self.inside.items)
list g c =
    let kept = take c.kept_prefix-kept.result.count c.self.inside.items in
    let rest = drop c.in_ok-made.to c.self.inside.items in
    c.in_ok-replace.ensures.list ∙ append_assoc kept c.deref-2.result.now rest ∙ ap (λ ys. kept ++ (ys ++ rest)) c.deref-2.ensures.value

pub replace-requires-clause-ordered : goal.replace-requires-clause-ordered
replace-requires-clause-ordered g c = (replacement g (goal.at.replace-requires-clause-ordered g c).In_ok-made).ordered

pub replace-requires-clause-fits : goal.replace-requires-clause-fits
replace-requires-clause-fits g c =
    let r = replacement g (goal.at.replace-requires-clause-fits g c).In_ok-made in
    omega (arith, simp (length-append, length-drop, length-take) at (few _ r.fits), r.ordered, r.within, ap length c.deref-2.ensures.value)

-- where memory is refused
pub invariant_of-self : goal.invariant_of-self
invariant_of-self g c = subst Fits (sym c.in_err-replace.ensures.unchanged) c.self.invariant

pub invariant_of-self-2 : goal.invariant_of-self-2
invariant_of-self-2 g c =
    let at = goal.at.invariant_of-self-2 g c in
    subst Fits (sym (list g at.In_ok-replace)) (replacement g at.In_ok-made).fits

pub returns : goal.returns
returns g c =
    let at = goal.at.returns g c in
    let xs = c.self.inside.items in
    let made = c.in_ok-made.made.items in
    let lexicon = lexicon_of c.args.grammar.now in
    let u = g.S.Source.text c.args.source.now in
    let count : vec_len c.in_ok-made.made ≡ length made = search rules in
    let splice = plain_splice c.splice_of-splice.result in
    let shown = c.splice_of-splice.ensures ∙ ap (change xs c.kept_prefix-kept.result.count c.in_ok-made.to) (c.in_ok-kinds.ensures ∙ ap significant_kinds c.deref.ensures.value) in
    let next = ap (λ items. next_of items (length made)) (sym (list g at.In_ok-replace)) ∙ ap (next_of c.replace.new.self) (sym (c.len-self-inside.ensures ∙ count)) in
    record {
      after = subst (λ (old : TokenList). AreTokensAfter lexicon c.args.edit u splice old (next_of c.replace.new.self c.len-self-inside.result)) c.self.view_is
          (subst (AreTokensAfter lexicon c.args.edit u splice (next_of xs c.self.inside.scanned)) next
          ((replacement g at.In_ok-made).after c.self.inside.scanned splice shown));
      err = tt;
    }

pub returns-in_err-replace-clause-err : goal.returns-in_err-replace-clause-err
returns-in_err-replace-clause-err g c = search rules
