use Rattle.replies.proofs.Std.{ap, subst, ◌∙◌, string_bytes, on_ok_weaker, Logs, text}
use Rattle.replies.proofs.results.send_row.Goals as goal

pub returns : goal.returns
returns g c =
    let w = g.S.Serializer.written in
    let name = subst (λ s. Logs (w c.begin_seq.new.self) (w c.str.new.self) (text s)) (c.as_str.ensures.value ∙ ap string_bytes c.deref.ensures) c.in_ok-str.ensures in
    on_ok_weaker c.end_seq.result
    (λ e. (
      w c.begin_seq.new.self,
      c.in_ok-begin_seq.ensures,
      (
        w c.str.new.self,
        name,
        (w c.u64.new.self, c.in_ok-u64.ensures, (w c.u64-2.new.self, c.in_ok-u64-2.ensures, (w c.u64-3.new.self, c.in_ok-u64-3.ensures, (w c.u64-4.new.self, c.in_ok-u64-4.ensures, e)))),
      ),
    ))
    c.end_seq.ensures
