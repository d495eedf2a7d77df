use Rattle.replies.proofs.Objects.{sends_object, sends_member}
use Rattle.replies.proofs.results.send_stats.Goals as goal

pub returns : goal.returns
returns g c =
    sends_object _ _ _ c.end_map.result c.in_ok-begin_map.ensures
    (λ e. sends_member _ _ c.in_ok-key.ensures c.in_ok-u64.ensures
    (sends_member _ _ c.in_ok-key-2.ensures c.in_ok-u64-2.ensures
    (sends_member _ _ c.in_ok-key-3.ensures c.in_ok-u64-3.ensures
    (sends_member _ _ c.in_ok-key-4.ensures c.in_ok-u64-4.ensures
    (sends_member _ _ c.in_ok-key-5.ensures c.in_ok-u64-5.ensures
    (sends_member _ _ c.in_ok-key-6.ensures c.in_ok-u64-6.ensures e))))))
    c.end_map.ensures
