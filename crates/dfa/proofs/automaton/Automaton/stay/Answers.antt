use Rattle.dfa.proofs.Std.{rules, ◌≡◌, ◌<◌, drop, take, slice_index_or}
use Rattle.dfa.proofs.Common.{ascii_entry}
use Rattle.dfa.proofs.automaton.Automaton.stay.Goals as goal

pub pass-requires-clause-window : goal.pass-requires-clause-window
pass-requires-clause-window g c = λ n lt passed. c.requires.window n lt (λ i d below.
    let x = slice_index_or (take n (drop c.args.at (g.S.Source.text c.args.source.now))) i d in
    let h = passed i d below in
    let ascii : x < 128 = search rules in
    let led : ascii_entry c.row-row.result x ≡ c.args.state.number = search rules in
    (h.0, c.row-row.ensures c.args.state.number x c.requires.entered ascii led))

pub returns-clause-kept : goal.returns-clause-kept
returns-clause-kept g c = λ i d below.
    let x = slice_index_or (take c.pass.result (drop c.args.at (g.S.Source.text c.args.source.now))) i d in
    let h = c.pass.ensures.passed i d below in
    let ascii : x < 128 = search rules in
    let led : ascii_entry c.row-row.result x ≡ c.args.state.number = search rules in
    (h.0, c.row-row.ensures c.args.state.number x c.requires.entered ascii led)
