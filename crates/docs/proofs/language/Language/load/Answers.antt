use Rattle.docs.proofs.Std.{◌≡◌, ◌∙◌, sym, subst}
use Rattle.docs.proofs.Common.{HasMoreSetsThan, HasNoConflict, FileGrammar, IsRight, TableFault, Conflict, IsReport, Shown, HasAutomaton, IsLanguageOf}
use Rattle.docs.proofs.language.Language.load.Goals as goal

pub returns-in-Err-TooManyStates-clause-fault : goal.returns-in-Err-TooManyStates-clause-fault
returns-in-Err-TooManyStates-clause-fault c =
    (c.in-Ok.grammar, c.in-Ok.ensures.grammar, c.in-Err-TooManyStates.ensures.many c.in-Err-TooManyStates.field-0-is)

pub returns-in-Ok-build-clause-language : goal.returns-in-Ok-build-clause-language
returns-in-Ok-build-clause-language c =
    let lent : c.grammar.result.now ≡ c.in-Ok.grammar = c.grammar.ensures.is ∙ c.in-Ok-new.ensures.grammar in
    subst (λ (f : FileGrammar). IsLanguageOf c.args.text.now f) (sym c.in-Ok-new.ensures.grammar) (record {
      grammar = c.in-Ok.ensures.grammar;
      few_states = c.in-Ok-new.ensures.few;
      few_sets = subst (λ (f : FileGrammar). HasMoreSetsThan f.grammar 8192 → ⊥) lent c.in-Ok-build.ensures.few;
      free = subst (λ (f : FileGrammar). HasNoConflict f.grammar) lent c.in-Ok-build.ensures.free;
    })

pub returns-in-Err-TooManySets-clause-fault : goal.returns-in-Err-TooManySets-clause-fault
returns-in-Err-TooManySets-clause-fault c =
    let lent : c.grammar.result.now ≡ c.in-Ok.grammar = c.grammar.ensures.is ∙ c.in-Ok-new.ensures.grammar in (
      c.in-Ok.grammar,
      record { grammar = c.in-Ok.ensures.grammar; few_states = c.in-Ok-new.ensures.few },
      subst (λ (f : FileGrammar). HasMoreSetsThan f.grammar 8192) lent
          (subst (λ (e : TableFault). IsRight c.grammar.result.now.grammar 8192 e) c.in-Err-TooManySets.field-0-is c.in-Err-TooManySets.ensures.refused),
    )

pub returns-in-Err-Conflict-clause-fault : goal.returns-in-Err-Conflict-clause-fault
returns-in-Err-Conflict-clause-fault c =
    let kept = sym (c.into_grammar.ensures ∙ c.in-Ok-new.ensures.grammar) in
    let lent = c.grammar.ensures.is ∙ sym c.into_grammar.ensures in
    let right : IsRight c.grammar.result.now.grammar 8192 (Conflict c.in-Err-Conflict.conflict) =
    subst (λ (e : TableFault). IsRight c.grammar.result.now.grammar 8192 e) c.in-Err-Conflict.field-0-is c.in-Err-Conflict.ensures.refused in (
      subst (HasAutomaton c.args.text.now) kept (record { grammar = c.in-Ok.ensures.grammar; few_states = c.in-Ok-new.ensures.few }),
      subst (λ (f : FileGrammar). HasMoreSetsThan f.grammar 8192 → ⊥) lent right.1,
      subst (λ (x : Shown). IsReport c.into_grammar.result.grammar x) (sym c.in-Err-Conflict.conflict-is)
          (subst (λ (f : FileGrammar). IsReport f.grammar c.in-Err-Conflict.conflict) lent right.0),
    )
