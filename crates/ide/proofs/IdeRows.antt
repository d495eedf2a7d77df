-- Worked examples of what the editor's server says of its own accord, and of what happens to it.
use Rattle.std.proofs.Common.{◌≡◌, [], ◌∷◌, None, Ok, Err, arith, true, pos, refl}
use Rattle.std.proofs.lemmas.List.Elements.{All-cons, All-nil}
use Rattle.serde_json.specs.Data.{null}
use Rattle.replies.specs.Ids.{numbered}
use Rattle.replies.specs.Replies.{null_reply}
use Rattle.sessions.specs.declared.fault.RunFault.TheVariants.{Write}
use Rattle.editor_replies.specs.Sent.{Message, call, cancelled, is_remark, notice, of_core}
use Rattle.ide.specs.Runs.{comes, contents_of, looks}
use Rattle.ide.specs.Sessions.{IsTaken}
use Rattle.ide.specs.Written.{AreRemarks}

-- a message that is said of the server's own accord
abbrev remark : Message → Type 0
remark message = is_remark message ≡ true

remarks : AreRemarks (notice [] null ∷ call [] [] None ∷ [])
remarks = All-cons remark (notice [] null) (call [] [] None ∷ []) refl (All-cons remark (call [] [] None) [] refl (All-nil remark))

reply_is_none : AreRemarks (cancelled (numbered (pos 7)) ∷ []) → ⊥
reply_is_none e = let is = e 0 (cancelled (numbered (pos 7))) (omega arith) in cc

core_is_none : AreRemarks (of_core (null_reply (numbered (pos 2))) ∷ []) → ⊥
core_is_none e = let is = e 0 (of_core (null_reply (numbered (pos 2)))) (omega arith) in cc

-- the contents among what happens
two_contents : contents_of (comes (97 ∷ []) ∷ looks None ∷ comes (98 ∷ []) ∷ []) ≡ (97 ∷ []) ∷ (98 ∷ []) ∷ []
two_contents = refl

-- contents may be left unanswered where writing failed, and not where the session ended by itself
cut_short : IsTaken (Err Write) ((97 ∷ []) ∷ [])
cut_short = tt

whole : IsTaken (Ok 0) ((97 ∷ []) ∷ []) → ⊥
whole e = cc
