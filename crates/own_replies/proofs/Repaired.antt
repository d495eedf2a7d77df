-- The repairs of a mended copy, as those of a text.
use Rattle.std.proofs.Common.{[], map, subst, sym}
use Rattle.definitions.specs.Tokens.{kinds}
use Rattle.docs.specs.Docs.{IsCurrent}
use Rattle.docs.specs.Languages.{LanguageData}
use Rattle.docs.specs.declared.doc.Doc.{Doc}
use Rattle.lexer.proofs.SignificantKinds.{kinds_plain}
use Rattle.lexer.specs.Rescans.{significant_kinds}
use Rattle.lexer.specs.Tokens.{plain}
use Rattle.mending.specs.Mendings.{IsMended, IsMendingOf, With_none}
use Rattle.mending.specs.declared.mending.Mending.{Mending}
use Rattle.own_replies.specs.Replies.{AreRepairsOf}

-- what mends the kinds of a document mends its text
pub repairs_of_copy : (l : LanguageData) (d : Doc) (m : Mending) → IsCurrent l d → IsMendingOf l.tables (significant_kinds d.tokens.items) m
    → AreRepairsOf l.file d.text m.repairs.items
repairs_of_copy l d m current is =
    let items = d.tokens.items in
    let same = sym (kinds_plain l.file.skips items current.tokens.marked) in
    let mended = subst (λ g. IsMended g (significant_kinds items) m.repairs.items m.copy.items) current.grammar is.mended in
    (map plain items, current.tokens.tokens, (m.copy.items, subst (λ ks. IsMended l.file.grammar ks m.repairs.items m.copy.items) same mended))

-- no repair mends nothing
pub no_repairs : (l : LanguageData) (d : Doc) → IsCurrent l d → AreRepairsOf l.file d.text []
no_repairs l d current =
    let tokens = map plain d.tokens.items in
    (tokens, current.tokens.tokens, (kinds l.file.skips tokens, With_none))
