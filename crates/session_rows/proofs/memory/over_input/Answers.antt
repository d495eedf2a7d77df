use Rattle.std.specs.Prelude.{ℕ, List, Some, refl}
use Rattle.std.proofs.Common.{ap}
use Rattle.session_rows.proofs.Known.{comes_to}
use Rattle.session_rows.proofs.memory.over_input.Goals as goal

pub returns-clause-session : goal.returns-clause-session
returns-clause-session g c bytes is = comes_to
    (record { some = c.one_split.ensures.some; one = c.one_split.ensures.at_most_one; go_on = c.streams_go_on.ensures })
    c.args.language.file bytes _ _ _ _ _ c.run-result.result
    is (ap (λ (xs : List ℕ). Some xs) c.new.ensures.items) refl c.run-result.ensures.session

pub returns-clause-promises : goal.returns-clause-promises
returns-clause-promises g c =
    let run = c.run-result.ensures in
    record {
      fresh = run.fresh;
      edits = run.edits;
      unicode = run.unicode;
      too_large = run.too_large;
      alone = run.alone;
      histories = run.histories;
      by_history = run.by_history;
      left_out = run.left_out;
      replies = run.replies;
      notifications = run.notifications;
      exit = run.exit;
    }
