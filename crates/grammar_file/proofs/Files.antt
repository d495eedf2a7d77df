-- What a file's lines say, as a whole.
use Rattle.grammar_file.proofs.Std.{◌≡◌, ℕ, ◌≤◌, true, false, List, [], ◌∷◌, refl, ap, sym, ◌∙◌, length, drop, subst, Bor, Option, Some, is_some, unwrap_or, lines, IfSome_then}
use Rattle.grammar_file.proofs.Common.{Version, One, File, GrammarFault, Statement, statements, statements_in, version_of, is_headed, NoStart, IsFileFault, line, no_start, reference, IsWhole, IsFirstLineFault, IsFirstReferenceFault, texts, IsRead, Reports}

-- the version that the first line gives
pub version_is : (v xs : List (Bor (List ℕ))) (t : List ℕ) (given o : Option Version) → given ≡ version_of (texts v) → v ≡ xs → texts xs ≡ lines t → given ≡ o → version_of (lines t) ≡ o
version_is v xs t given o is same all found = ap version_of (sym all) ∙ ap (λ y. version_of (texts y)) (sym same) ∙ sym is ∙ found

pub headed : (t : List ℕ) (o : Option Version) → version_of (lines t) ≡ o → is_headed (lines t) ≡ is_some o
headed t o e = ap is_some e

rest_texts : (v : List (Bor (List ℕ))) → texts (drop 1 v) ≡ drop 1 (texts v)
rest_texts [] = refl
rest_texts (w ∷ ws) = refl

pub statements_are : (v xs ys : List (Bor (List ℕ))) (t : List ℕ) (version : Version) → ys ≡ drop 1 v → v ≡ xs → texts xs ≡ lines t
    → version_of (lines t) ≡ Some version → statements_in version (texts ys) ≡ statements t
statements_are v xs ys t version rest same all is =
    ap (λ y. statements_in version (texts y)) rest
    ∙ ap (statements_in version) (rest_texts v ∙ ap (λ y. drop 1 (texts y)) same ∙ ap (λ y. drop 1 y) all)
    ∙ ap (λ o. statements_in (unwrap_or o One) (drop 1 (lines t))) (sym is)

pub line_fault : (t : List ℕ) (ss : List Statement) (f : GrammarFault) → length t ≤ 65536 → is_headed (lines t) ≡ true
    → ss ≡ statements t → Reports f (IsFirstLineFault ss) → Reports f (IsFileFault t)
line_fault t ss f small headed same shows = IfSome_then _ shows (λ c h. line f.line c small headed (subst (λ (xs : List Statement). IsFirstLineFault xs f.line c) same h))

pub no_start_fault : (t : List ℕ) (ss : List Statement) (f : File) → length t ≤ 65536 → is_headed (lines t) ≡ true
    → ss ≡ statements t → IsRead f ss → f.names.started ≡ false → IsFileFault t 0 NoStart
no_start_fault t ss f small headed same read none =
    let whole = subst (λ (xs : List Statement). IsRead f xs) same read in
    no_start small headed whole.faultless (sym whole.names.started ∙ none)

pub is_whole : (t : List ℕ) (ss : List Statement) (f : File) → length t ≤ 65536 → is_headed (lines t) ≡ true → ss ≡ statements t → IsRead f ss → f.names.started ≡ true → IsWhole t
is_whole t ss f small headed same read some =
    let whole = subst (λ (xs : List Statement). IsRead f xs) same read in
    record { small = small; headed = headed; faultless = whole.faultless; started = sym whole.names.started ∙ some }

pub reference_fault : (t : List ℕ) (ss : List Statement) (f : GrammarFault) → IsWhole t → ss ≡ statements t → Reports f (IsFirstReferenceFault ss) → Reports f (IsFileFault t)
reference_fault t ss f whole same shows = IfSome_then _ shows (λ c h. reference f.line c whole (subst (λ (xs : List Statement). IsFirstReferenceFault xs f.line c) same h))
