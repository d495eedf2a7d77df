use Rattle.std.proofs.Common.{arith, sym, ◌∙◌}
use Rattle.frames.proofs.Searched.{needs_more_shown, needs_more_none, needs_more_few, needs_more_no_end, not_so}
use Rattle.frames.proofs.header.needs_more.Goals as goal
use Rattle.frames.proofs.header.needs_more.Goals.{then-bytes-ge-LONGEST_HEADER-via-then-bytes-ge-LONGEST_HEADER, then-bytes-ge-LONGEST_HEADER-via-else-bytes-ge-LONGEST_HEADER+then-starts_with}

pub returns-then-bytes-ge-LONGEST_HEADER-clause-start : goal.returns-then-bytes-ge-LONGEST_HEADER-clause-start
returns-then-bytes-ge-LONGEST_HEADER-clause-start c = elim c.then-bytes-ge-LONGEST_HEADER.branch [
  | then-bytes-ge-LONGEST_HEADER-via-then-bytes-ge-LONGEST_HEADER w ↦ (not_so _, (λ e. absurd (let few = needs_more_few c.args.bytes.now e in omega (arith, few, w.if-bytes-ge-LONGEST_HEADER.true))))
  | then-bytes-ge-LONGEST_HEADER-via-else-bytes-ge-LONGEST_HEADER+then-starts_with w ↦ (not_so _, (λ e. sym (needs_more_no_end c.args.bytes.now e) ∙ sym w.if-starts_with.ensures.value))
]

pub returns-clause-start : goal.returns-clause-start
returns-clause-start c = (
  (λ h. (needs_more_shown c.args.bytes.now c.bytes_from-unsearched.result.now c.args.searched c.saturating_sub.result c.through.result c.is_none.result
      (omega arith) (sym c.if-starts_with.ensures.value) c.requires.searched c.saturating_sub.ensures c.bytes_from-unsearched.ensures c.through.ensures.value c.is_none.ensures h).0),
  needs_more_none c.args.bytes.now c.bytes_from-unsearched.result.now c.saturating_sub.result c.through.result c.is_none.result
      c.bytes_from-unsearched.ensures c.through.ensures.value c.is_none.ensures,
)

pub returns-clause-holds : goal.returns-clause-holds
returns-clause-holds c h = (needs_more_shown c.args.bytes.now c.bytes_from-unsearched.result.now c.args.searched c.saturating_sub.result c.through.result c.is_none.result
    (omega arith) (sym c.if-starts_with.ensures.value) c.requires.searched c.saturating_sub.ensures c.bytes_from-unsearched.ensures c.through.ensures.value c.is_none.ensures h).1
