use Rattle.commands.proofs.Std.{◌≡◌, ◌++◌, string_bytes, sym, ap, ◌∙◌, append_assoc, codes, encodes-chars}
use Rattle.commands.proofs.tasks.write_note.Goals as goal

pub returns : goal.returns
returns c =
    let before = string_bytes c.args.out.now in
    let name = c.args.name.now in
    let head = codes "note: unreachable " in
    let first : string_bytes c.push_str.new.self ≡ before ++ head = c.in_ok-push_str.ensures.bytes in
    let second : string_bytes c.push_str-2.new.self ≡ (before ++ head) ++ name = c.in_ok-push_str-2.ensures.bytes ∙ ap (λ l. l ++ name) first in
    let third : string_bytes c.push_str-3.new.self ≡ ((before ++ head) ++ name) ++ codes "\n" = c.in_ok-push_str-3.ensures.bytes ∙ ap (λ l. l ++ codes "\n") second in
    third ∙ (append_assoc (before ++ head) name (codes "\n")
    ∙ (append_assoc before head (name ++ codes "\n") ∙ ap (λ n. before ++ (head ++ (n ++ codes "\n"))) (sym (encodes-chars name c.utf8.name))))
