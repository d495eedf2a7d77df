use Rattle.frames.proofs.Std.{◌≡◌, ℕ, List, ◌++◌, length, take, drop, sym, subst, ap, ◌∙◌, arith, take-append-le, take_all}
use Rattle.frames.proofs.Common.{contents, Splits, tail_of, Awaits, HoldsNone, IsDecoder}
use Rattle.frames.proofs.KeptBytes.{awaits_more, holds_more}
use Rattle.frames.proofs.decoder.take_frames.Goals as goal

pub found_in-requires-clause-waits : goal.found_in-requires-clause-waits
found_in-requires-clause-waits c =
    let whole : c.deref.result.now ≡ c.args.rest.now.items ++ c.args.piece.now = c.deref.ensures.value ∙ c.in_ok-extend_from_slice.ensures.items in
    subst (λ (bytes : List ℕ). Awaits bytes c.args.awaited) (sym whole) (awaits_more c.args.rest.now.items c.args.piece.now c.args.awaited c.requires.waits)

pub found_in-requires-clause-holds : goal.found_in-requires-clause-holds
found_in-requires-clause-holds c =
    let whole : c.deref.result.now ≡ c.args.rest.now.items ++ c.args.piece.now = c.deref.ensures.value ∙ c.in_ok-extend_from_slice.ensures.items in
    subst (λ (bytes : List ℕ). HoldsNone bytes c.args.searched) (sym whole) (holds_more c.args.rest.now.items c.args.piece.now c.args.searched c.requires.within c.requires.holds)

pub returns-in-Ok-clause-split : goal.returns-in-Ok-clause-split
returns-in-Ok-clause-split c =
    let found = c.in-Ok.found in
    let whole : c.deref.result.now ≡ c.args.rest.now.items ++ c.args.piece.now = c.deref.ensures.value ∙ c.in_ok-extend_from_slice.ensures.items in
    let rest : drop found.used c.deref.result.now ≡ c.discard.new.bytes.items = ap (drop found.used) c.deref.ensures.value ∙ sym c.discard.ensures in
    let bytes = subst (λ (l : List ℕ). Splits l (contents found.frames.items) (tail_of (drop found.used c.deref.result.now) found.fault)) whole c.in-Ok.ensures.split in
    subst (λ (l : List ℕ). Splits (c.args.rest.now.items ++ c.args.piece.now) (contents found.frames.items) (tail_of l found.fault)) rest bytes

pub returns-in-Ok-clause-kept : goal.returns-in-Ok-clause-kept
returns-in-Ok-clause-kept c =
    let found = c.in-Ok.found in
    let rest : drop found.used c.deref.result.now ≡ c.discard.new.bytes.items = ap (drop found.used) c.deref.ensures.value ∙ sym c.discard.ensures in
    subst (λ (l : List ℕ). IsDecoder l found.awaited found.searched found.fault) rest c.in-Ok.ensures.kept

pub returns-in-Err-clause-refused : goal.returns-in-Err-clause-refused
returns-in-Err-clause-refused c =
    let rest = c.args.rest.now.items in
    let before : c.len-before.result ≡ length rest = omega arith in
    c.truncate.ensures.items
    ∙ (λ i. take (before i) (c.in_ok-extend_from_slice.ensures.items i))
    ∙ take-append-le (length rest) rest c.args.piece.now (omega arith)
    ∙ take_all (length rest) rest (omega arith)
