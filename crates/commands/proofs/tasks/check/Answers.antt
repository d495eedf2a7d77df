use Rattle.commands.proofs.Std.{◌≡◌, ◌++◌, ◌∷◌, [], List, ℕ, map, flat_map, string_bytes, sym, ap, subst, ◌∙◌, append_assoc, codes, chars}
use Rattle.commands.proofs.Common.{FileGrammar, AreNotes, symbol_name, note_line, report}
use Rattle.commands.proofs.tasks.check.Goals as goal

pub loop-name-init : goal.loop-name-init
loop-name-init c =
    let notes = c.notes-name-items.ensures in
    let file = c.args.language.now.file in
    let same = c.grammar.ensures in
    let are : AreNotes file file.defined notes.0 = subst (λ (f : FileGrammar). AreNotes f f.defined notes.0) same notes.1 in
    let names = c.into_iter-name-iterator.ensures.into_iter_gives ∙ (notes.2 ∙ ap (λ (f : FileGrammar). map (symbol_name f) notes.0) same) in
    (notes.0, are, ap (λ out. out ++ report c.into_iter-name-iterator.result) c.new-out.ensures.bytes ∙ ap report names)

-- a line more, and a name fewer
one_more : (before after : List ℕ) (name : List ℕ) (names : List (List ℕ)) → after ≡ before ++ note_line name → after ++ report names ≡ before ++ report (name ∷ names)
one_more before after name names e =
    ap (λ l. l ++ report names) e ∙ (append_assoc before (note_line name) (report names) ∙ ap (λ l. before ++ l) (sym (append_assoc (note_line name) (flat_map note_line names) (codes "ok\n"))))

pub loop-name-preserved : goal.loop-name-preserved
loop-name-preserved c =
    let h = c.loop-name.invariant in
    let shown = one_more (string_bytes c.loop-name.out) (string_bytes c.write_note.new.out) (chars c.in-Some.name.now) c.next.new.self c.in_ok-write_note.ensures in
    (h.0, h.1, shown ∙ (ap (λ names. string_bytes c.loop-name.out ++ report names) (sym c.in-Some.ensures.steps) ∙ h.2))

pub returns : goal.returns
returns c =
    let h = c.loop-name.invariant in
    let end : string_bytes c.push_str.new.self ≡ string_bytes c.loop-name.out ++ report [] = c.in_ok-push_str.ensures.bytes in
    record {
      notes = h.0;
      are = h.1;
      out = c.text.ensures.out ∙ (end ∙ (ap (λ names. string_bytes c.loop-name.out ++ report names) (sym c.in-None.ensures.steps.0) ∙ h.2));
      err = c.text.ensures.err;
      status = c.text.ensures.status;
    }
