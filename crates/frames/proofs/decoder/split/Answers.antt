use Rattle.frames.proofs.Std.{◌≡◌, ◌+◌, ◌-◌, ◌<◌, ◌≤◌, ℕ, List, [], ◌∷◌, ◌++◌, length, drop, sym, subst, ap, ◌∙◌, arith, length-drop, Some, None, map-append}
use Rattle.frames.proofs.Common.{Frame, NeedsMore, Announces, contents, Awaits}
use Rattle.frames.proofs.Splits.{one_more, IsSplitTo, ends, begun, faulty, begins}
use Rattle.frames.proofs.KeptBytes.{kept_anew, awaits_none}
use Rattle.frames.proofs.PrefixDecides.{awaits_frame}
use Rattle.frames.proofs.decoder.split.Goals as goal

pub loop-size-preserved : goal.loop-size-preserved
loop-size-preserved c =
    let at = c.loop-size in
    let bytes = c.args.bytes.now in
    let here = c.in-Some.ensures.some in
    let content = c.in_ok-content-in-Some.content.items in
    let same : content ≡ c.in-Some.content.now = c.in_ok-content-in-Some.ensures.items in
    let len : length content ≡ c.in-Announces.len = ap length same ∙ here.1 in
    let frame = begins (drop at.used bytes) c.bytes_from-rest.result.now content c.in-Announces.size c.in-Announces.len c.bytes_from-rest.ensures c.in-Announces.ensures.value len (same ∙ here.2) in
    let room : c.in-Announces.size + c.in-Announces.len ≤ length (drop at.used bytes) = subst (λ (l : List ℕ). c.in-Announces.size + c.in-Announces.len ≤ length l) c.bytes_from-rest.ensures here.0 in
    let more = one_more bytes (contents at.frames.items) at.used c.in-Announces.size content at.invariant (omega (arith, len, room, length-drop at.used bytes)) frame in
    let found : contents at.frames.items ++ content ∷ [] ≡ contents c.push.new.self.items =
    sym (ap contents c.in_ok-push-in-Some.ensures.items ∙ map-append (λ (f : Frame). f.content.items) at.frames.items _) in
    let P : List (List ℕ) → ℕ → Type 0 = IsSplitTo bytes in
    subst (λ k. P (contents c.push.new.self.items) (at.used + (c.in-Announces.size + k))) len (subst (λ cs. P cs (at.used + (c.in-Announces.size + length content))) found more)

pub returns-in-None-clause-split : goal.returns-in-None-clause-split
returns-in-None-clause-split c =
    let bytes = drop c.loop-size.used c.args.bytes.now in
    let few = subst (λ (l : List ℕ). length l < c.in-Announces.size + c.in-Announces.len) c.bytes_from-rest.ensures c.in-None.ensures.none in
    ends _ _ c.loop-size.used _ c.loop-size.invariant (begun bytes _ (Announces c.in-Announces.size c.in-Announces.len) c.bytes_from-rest.ensures c.in-Announces.ensures.value few)

pub returns-in-Fails-clause-split : goal.returns-in-Fails-clause-split
returns-in-Fails-clause-split c = ends _ _ c.loop-size.used _ c.loop-size.invariant (faulty _ _ _ c.bytes_from-rest.ensures c.in-Fails.ensures.value)

pub returns-in-NeedsMore-clause-split : goal.returns-in-NeedsMore-clause-split
returns-in-NeedsMore-clause-split c = ends _ _ c.loop-size.used _ c.loop-size.invariant (begun _ _ NeedsMore c.bytes_from-rest.ensures c.in-NeedsMore.ensures.value tt)

pub returns-in-None-clause-kept : goal.returns-in-None-clause-kept
returns-in-None-clause-kept c =
    let size = c.in-Announces.size in
    let len = c.in-Announces.len in
    let bytes = drop c.loop-size.used c.args.bytes.now in
    let few = subst (λ (l : List ℕ). length l < size + len) c.bytes_from-rest.ensures c.in-None.ensures.none in
    let tail = begun bytes _ (Announces size len) c.bytes_from-rest.ensures c.in-Announces.ensures.value few in
    let waits = subst (λ (l : List ℕ). Awaits l (size + len)) c.bytes_from-rest.ensures (awaits_frame c.bytes_from-rest.result.now size len (sym c.in-Announces.ensures.value)) in
    kept_anew bytes (size + len) None tail waits

pub returns-in-Fails-clause-kept : goal.returns-in-Fails-clause-kept
returns-in-Fails-clause-kept c =
    let bytes = drop c.loop-size.used c.args.bytes.now in
    kept_anew bytes 0 (Some c.in-Fails.fault) (faulty bytes _ _ c.bytes_from-rest.ensures c.in-Fails.ensures.value) (awaits_none bytes)

pub returns-in-NeedsMore-clause-kept : goal.returns-in-NeedsMore-clause-kept
returns-in-NeedsMore-clause-kept c =
    let bytes = drop c.loop-size.used c.args.bytes.now in
    kept_anew bytes 0 None (begun bytes _ NeedsMore c.bytes_from-rest.ensures c.in-NeedsMore.ensures.value tt) (awaits_none bytes)

pub loop-size-init : goal.loop-size-init
loop-size-init c =
    let none : IsSplitTo c.args.bytes.now [] 0 = record { within = omega arith; prefix = λ contents tail h. h } in
    subst (λ (frames : List Frame). IsSplitTo c.args.bytes.now (contents frames) 0) (sym c.new-frames.ensures.items) none

pub bytes_from-rest-requires : goal.bytes_from-rest-requires
bytes_from-rest-requires c = c.loop-size.invariant.within

pub content_at-requires : goal.content_at-requires
content_at-requires c = c.in-Announces.ensures.within.2

pub loop-size-smaller : goal.loop-size-smaller
loop-size-smaller c =
    let used = c.loop-size.used in
    let bytes = c.args.bytes.now in
    let more = c.in-Announces.size + c.in-Announces.len in
    let low : 2 ≤ c.in-Announces.size = c.in-Announces.ensures.within.0 in
    let room : more ≤ length c.bytes_from-rest.result.now = c.in-Some.ensures.some.0 in
    let smaller : length bytes - (used + more) < length bytes - used =
    omega (arith, low, room, ap length c.bytes_from-rest.ensures, length-drop used bytes)
    in
    smaller
