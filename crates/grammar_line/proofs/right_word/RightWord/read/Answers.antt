use Rattle.grammar_line.proofs.Std.{arith, refl, None, Some, strip_suffix_char}
use Rattle.grammar_line.proofs.Marked.{marked-by, unmarked-by}
use Rattle.grammar_line.proofs.right_word.RightWord.read.Goals as goal

pub returns-in-Some-clause-name : goal.returns-in-Some-clause-name
returns-in-Some-clause-name c = (marked-by c.args.word.now c.in-Some.name.now 42 (strip_suffix_char 42 c.args.word.now (Some c.in-Some.name) c.in-Some.ensures.cases (omega arith)) refl).0

pub returns-in-Some-clause-mark : goal.returns-in-Some-clause-mark
returns-in-Some-clause-mark c = (marked-by c.args.word.now c.in-Some.name.now 42 (strip_suffix_char 42 c.args.word.now (Some c.in-Some.name) c.in-Some.ensures.cases (omega arith)) refl).1

pub returns-in-Some-strip_suffix-clause-name : goal.returns-in-Some-strip_suffix-clause-name
returns-in-Some-strip_suffix-clause-name c =
    (marked-by c.args.word.now c.in-Some-strip_suffix.name.now 43 (strip_suffix_char 43 c.args.word.now (Some c.in-Some-strip_suffix.name) c.in-Some-strip_suffix.ensures.cases (omega arith)) refl).0

pub returns-in-Some-strip_suffix-clause-mark : goal.returns-in-Some-strip_suffix-clause-mark
returns-in-Some-strip_suffix-clause-mark c =
    (marked-by c.args.word.now c.in-Some-strip_suffix.name.now 43 (strip_suffix_char 43 c.args.word.now (Some c.in-Some-strip_suffix.name) c.in-Some-strip_suffix.ensures.cases (omega arith)) refl).1

pub returns-in-Some-strip_suffix-2-clause-name : goal.returns-in-Some-strip_suffix-2-clause-name
returns-in-Some-strip_suffix-2-clause-name c =
    (marked-by c.args.word.now c.in-Some-strip_suffix-2.name.now 63
    (strip_suffix_char 63 c.args.word.now (Some c.in-Some-strip_suffix-2.name) c.in-Some-strip_suffix-2.ensures.cases (omega arith)) refl).0

pub returns-in-Some-strip_suffix-2-clause-mark : goal.returns-in-Some-strip_suffix-2-clause-mark
returns-in-Some-strip_suffix-2-clause-mark c =
    (marked-by c.args.word.now c.in-Some-strip_suffix-2.name.now 63
    (strip_suffix_char 63 c.args.word.now (Some c.in-Some-strip_suffix-2.name) c.in-Some-strip_suffix-2.ensures.cases (omega arith)) refl).1

pub returns-clause-name : goal.returns-clause-name
returns-clause-name c =
    (unmarked-by c.args.word.now
    (strip_suffix_char 42 c.args.word.now None c.in_default.ensures.cases (omega arith))
    (strip_suffix_char 43 c.args.word.now None c.in_default-strip_suffix.ensures.cases (omega arith))
    (strip_suffix_char 63 c.args.word.now None c.in_default-strip_suffix-2.ensures.cases (omega arith))).0

pub returns-clause-mark : goal.returns-clause-mark
returns-clause-mark c =
    (unmarked-by c.args.word.now
    (strip_suffix_char 42 c.args.word.now None c.in_default.ensures.cases (omega arith))
    (strip_suffix_char 43 c.args.word.now None c.in_default-strip_suffix.ensures.cases (omega arith))
    (strip_suffix_char 63 c.args.word.now None c.in_default-strip_suffix-2.ensures.cases (omega arith))).1
