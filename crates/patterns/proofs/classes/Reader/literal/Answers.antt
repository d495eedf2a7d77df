use Rattle.patterns.proofs.Std.{List, ℕ, sym, ◌∙◌, ap, subst, arith}
use Rattle.patterns.proofs.Common.{InLiteral, fault_from, is_empty, writing}
use Rattle.patterns.proofs.Literals.{IsLiteralSoFar, literal_closed, one_more_literal, literal_step, not_empty_after, no_literal_char}
use Rattle.patterns.proofs.classes.Reader.literal.Goals as goal

pub returns-in-Some-clause-spelled : goal.returns-in-Some-clause-spelled
returns-in-Some-clause-spelled c =
    literal_closed c.loop-rest.characters.items c.in-Some.field-0-0 (writing c.args.words.now) (writing c.loop-rest.left.now) (writing c.in-Some.rest.now) c.loop-rest.invariant.0 c.in-Some.ensures.0

pub loop-rest-preserved : goal.loop-rest-preserved
loop-rest-preserved c =
    let e = c.in_ok-push.ensures.items in
    let v = c.loop-rest.characters.items in
    let h = c.in-Some-literal_char.ensures in
    let rest = writing c.in-Some-literal_char.rest.now in
    let x = c.in-Some-literal_char.character in
    let P : List ℕ → Type 0 = λ u. IsLiteralSoFar u (writing c.args.words.now) rest in (
      subst P (sym e) (one_more_literal v x (writing c.args.words.now) (writing c.loop-rest.left.now) rest h.0.0 c.loop-rest.invariant.0 h.0.1 h.0.2),
      (λ d. c.loop-rest.invariant.1 d ∙ ap (fault_from c.args.self.end (InLiteral d c.args.quote (is_empty v))) h.0.1 ∙ literal_step c.args.self.end d c.args.quote
          (is_empty v) x h.0.0 rest h.0.2 ∙ ap (λ b. fault_from c.args.self.end (InLiteral d c.args.quote b) rest) (sym (ap is_empty e ∙ not_empty_after v x))),
      omega arith,
    )

pub returns-in_default-literal_char-clause-fault : goal.returns-in_default-literal_char-clause-fault
returns-in_default-literal_char-clause-fault c =
    rw c.syntax.ensures (λ d.
    c.loop-rest.invariant.1 d ∙ no_literal_char c.args.self.end (writing c.loop-rest.left.now) c.in_default-literal_char.ensures c.in_default.ensures d c.args.quote
    (is_empty c.loop-rest.characters.items))
