use Rattle.docs.proofs.Std.{◌≡◌, ◌≤◌, ◌+◌, ◌-◌, ◌∙◌, length, ap, arith, chars}
use Rattle.docs.proofs.Common.{edit, length-edit}
use Rattle.docs.proofs.replacing.put.Goals.{After-len}
use Rattle.docs.proofs.replacing.put.Goals as goal

-- how much longer the text is than without the characters that went
inserted : (c : After-len) → c.len.result - (c.len-before.result - (c.args.to - c.args.from)) ≡ length (chars c.args.new.now)
inserted c =
    let s = chars c.args.new.now in
    let long = length-edit c.args.text.now s c.args.from c.args.to c.requires.ordered c.requires.in_range in
    omega (arith, long, c.len.ensures.count, ap length c.in_ok-replace.ensures.edited, c.len-before.ensures.count, c.requires.ordered, c.requires.in_range)

pub returns-clause-made : goal.returns-clause-made
returns-clause-made c = ap (λ n. record { at = c.args.from; removed = c.args.to - c.args.from; inserted = n; number = c.args.number }) (inserted c)

pub returns-clause-leads : goal.returns-clause-leads
returns-clause-leads c =
    let s = chars c.args.new.now in
    let a = c.args.from in
    let end : c.args.to ≡ a + (c.args.to - a) = omega (arith, c.requires.ordered) in (
      s,
      omega (arith, c.requires.ordered, c.requires.in_range),
      inserted c,
      c.in_ok-replace.ensures.edited ∙ ap (λ e. edit c.args.text.now a e s) end,
    )

pub returns-clause-few : goal.returns-clause-few
returns-clause-few c = omega (arith, c.len.ensures.few)
