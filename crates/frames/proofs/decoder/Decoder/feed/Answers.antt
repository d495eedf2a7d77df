use Rattle.frames.proofs.Std.{◌≡◌, ℕ, List, [], ◌++◌, sym, subst, refl, ap, ◌∙◌, IfOk-weaker, IfErr-weaker}
use Rattle.frames.proofs.Common.{Frame, Memory, contents, Open, Splits, tail_of, IsDecoder}
use Rattle.frames.proofs.LongerStreams.{goes_on_from, some_going_on}
use Rattle.frames.proofs.PrefixDecides.{fault_is, reached_fault}
use Rattle.frames.proofs.KeptBytes.{fault_goes_on, open_goes_on, open_has_no_fault, no_fault_is_open, reached, not_err_of}
use Rattle.frames.proofs.decoder.Decoder.feed.Goals as goal

-- a fault was met before

pub returns-in-Some-clause-fault : goal.returns-in-Some-clause-fault
returns-in-Some-clause-fault c other =
    let stays = fault_goes_on c.args.self.now c.args.piece.now c.in-Some.fault (ap (tail_of c.self.inside.rest.items) (sym c.in-Some.is) ∙ c.self.view_is) in
    (goes_on_from _ _ _ _ stays.0, stays.1)

pub returns-in-Some-clause-goes_on : goal.returns-in-Some-clause-goes_on
returns-in-Some-clause-goes_on c = some_going_on _ _

pub returns-in-Some-clause-stream_fault : goal.returns-in-Some-clause-stream_fault
returns-in-Some-clause-stream_fault c = reached_fault _ (reached c.self.inside.rest.items c.args.self.now c.self.inside.met c.self.view_is c.self.invariant.tail)

pub returns-in-Some-clause-memory : goal.returns-in-Some-clause-memory
returns-in-Some-clause-memory c is = refl

pub returns-in-Some-clause-kind : goal.returns-in-Some-clause-kind
returns-in-Some-clause-kind c = (fault_is c.self.inside.rest.items c.self.inside.met c.in-Some.fault c.self.invariant.tail c.in-Some.is).0

pub returns-in-Some-clause-reached : goal.returns-in-Some-clause-reached
returns-in-Some-clause-reached c =
    let here = reached c.self.inside.rest.items c.args.self.now c.self.inside.met c.self.view_is c.self.invariant.tail in
    (here, here)

-- the piece stands after the rest

pub take_frames-requires : goal.take_frames-requires
take_frames-requires c = subst (IsDecoder c.self.inside.rest.items c.self.inside.awaited c.self.inside.searched) c.in_default.is c.self.invariant

pub invariant_of-self : goal.invariant_of-self
invariant_of-self c = c.in-Ok.ensures.kept

pub invariant_of-self-in-Err : goal.invariant_of-self-in-Err
invariant_of-self-in-Err c =
    subst (λ (rest : List ℕ). IsDecoder rest c.self.inside.awaited c.self.inside.searched c.self.inside.met) (sym c.in-Err.ensures.refused) c.self.invariant

pub returns-in-Ok-clause-ok : goal.returns-in-Ok-clause-ok
returns-in-Ok-clause-ok c =
    let old : Open c.self.inside.rest.items ≡ c.args.self.now = ap (tail_of c.self.inside.rest.items) (sym c.in_default.is) ∙ c.self.view_is in
    let new = tail_of c.take_frames.new.rest.items c.in-Ok.found.fault in
    IfOk-weaker c.answer.result _ _ (λ answered h.
    goes_on_from _ _ _ _ (open_goes_on c.args.self.now c.self.inside.rest.items c.args.piece.now (contents answered.items) new old
    (subst (λ (items : List Frame). Splits (c.self.inside.rest.items ++ c.args.piece.now) (contents items) new) (sym h) c.in-Ok.ensures.split))) c.answer.ensures.ok

pub returns-in-Ok-clause-none : goal.returns-in-Ok-clause-none
returns-in-Ok-clause-none c =
    IfOk-weaker c.answer.result _ _ (λ answered h none. no_fault_is_open c.take_frames.new.rest.items c.in-Ok.found.fault (h none)) c.answer.ensures.none

pub returns-in-Ok-clause-fault : goal.returns-in-Ok-clause-fault
returns-in-Ok-clause-fault c =
    let old : Open c.self.inside.rest.items ≡ c.args.self.now = ap (tail_of c.self.inside.rest.items) (sym c.in_default.is) ∙ c.self.view_is in
    let new = tail_of c.take_frames.new.rest.items c.in-Ok.found.fault in
    IfErr-weaker c.answer.result _ _ (λ met h other. (
      goes_on_from _ _ _ _ (open_goes_on c.args.self.now c.self.inside.rest.items c.args.piece.now [] new old
          (subst (λ (items : List Frame). Splits (c.self.inside.rest.items ++ c.args.piece.now) (contents items) new) h.0 c.in-Ok.ensures.split)),
      ap (tail_of c.take_frames.new.rest.items) h.1,
    )) c.answer.ensures.fault

pub returns-in-Ok-clause-memory : goal.returns-in-Ok-clause-memory
returns-in-Ok-clause-memory c is =
    absurd (not_err_of c.answer.result Memory
    (IfErr-weaker c.answer.result _ _ (λ met h. (fault_is c.take_frames.new.rest.items c.in-Ok.found.fault met c.in-Ok.ensures.kept.tail h.1).1) c.answer.ensures.fault) is)

pub returns-in-Ok-clause-kind : goal.returns-in-Ok-clause-kind
returns-in-Ok-clause-kind c = IfErr-weaker c.answer.result _ _ (λ met h. (fault_is c.take_frames.new.rest.items c.in-Ok.found.fault met c.in-Ok.ensures.kept.tail h.1).0) c.answer.ensures.fault

pub returns-in-Ok-clause-ended : goal.returns-in-Ok-clause-ended
returns-in-Ok-clause-ended c =
    open_has_no_fault c.args.self.now c.self.inside.rest.items _ (ap (tail_of c.self.inside.rest.items) (sym c.in_default.is) ∙ c.self.view_is)

pub returns-in-Ok-clause-reached : goal.returns-in-Ok-clause-reached
returns-in-Ok-clause-reached c = (
  reached c.self.inside.rest.items c.args.self.now c.self.inside.met c.self.view_is c.self.invariant.tail,
  (c.take_frames.new.rest.items, c.in-Ok.ensures.kept.tail),
)

pub returns-in-Ok-clause-goes_on : goal.returns-in-Ok-clause-goes_on
returns-in-Ok-clause-goes_on c = some_going_on _ _

pub returns-in-Ok-clause-stream_fault : goal.returns-in-Ok-clause-stream_fault
returns-in-Ok-clause-stream_fault c = reached_fault _ (c.take_frames.new.rest.items, c.in-Ok.ensures.kept.tail)

pub returns-in-Err-clause-goes_on : goal.returns-in-Err-clause-goes_on
returns-in-Err-clause-goes_on c = some_going_on _ _

pub returns-in-Err-clause-stream_fault : goal.returns-in-Err-clause-stream_fault
returns-in-Err-clause-stream_fault c = reached_fault _ (c.take_frames.new.rest.items, (invariant_of-self-in-Err c).tail)
