use Rattle.grammar_file.proofs.Std.{◌≡◌, ◌++◌, ◌∙◌, ap, arith, rules, take_all, flat_map, common_steps}
use Rattle.grammar_file.proofs.Common.{added, marked, texts, lines_view}
use Rattle.grammar_file.proofs.WritingOut.{added_more}
use Rattle.grammar_file.proofs.written_out.write_out.Goals as goal

pub loop-word-preserved : goal.loop-word-preserved
loop-word-preserved c =
    record {
      statements = added_more (lines_view c.args.statements.now.items) (lines_view c.loop-word.statements.items) (lines_view c.add_productions.new.statements.items)
          c.deref-word-items.result.now c.loop-word.word-index _ c.loop-word-test.true c.loop-word.invariant.statements c.in_ok-add_productions.ensures.statements;
      names = c.in_ok-add_productions.ensures.names;
      few = omega (arith, c.in_ok-add_productions.ensures.few, c.loop-word.invariant.few);
    }

pub returns-clause-statements : goal.returns-clause-statements
returns-clause-statements c =
    let ss = lines_view c.args.statements.now.items in
    let copied : c.in_ok-words.words.items ≡ c.as_slice.result.now = search rules in
    let words : texts c.deref-word-items.result.now ≡ marked ss = ap texts (c.deref-word-items.ensures.value ∙ copied) ∙ c.as_slice.ensures ∙ c.requires.names.marked in
    c.loop-word.invariant.statements
    ∙ ap (λ ws. ss ++ flat_map added (texts ws)) (take_all c.loop-word.word-index c.deref-word-items.result.now (omega (arith, c.loop-word-test.false)))
    ∙ ap (λ ws. ss ++ flat_map added ws) words

pub add_productions-requires-clause-few : goal.add_productions-requires-clause-few
add_productions-requires-clause-few c = grind (arith, common_steps)
