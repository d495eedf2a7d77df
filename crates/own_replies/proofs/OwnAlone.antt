-- Nothing of a reply to a request that the core doesn't know is the core's.
use Rattle.std.proofs.Common.{◌≡◌, ℕ, List, [], ap, inl, inr, Option, Some, None}
use Rattle.std.specs.FinMap.{get}
use Rattle.readings.specs.Texts.{OpenDocument}
use Rattle.replies.specs.Ids.{Ident}
use Rattle.sessions.specs.Documents.{DocumentState, is_lost, is_open}
use Rattle.questions.specs.Asked.{Asked, Question, a_grammar, about, misfit, its_brackets, its_changes, its_colours, its_fixes, its_hover, its_lines, its_nodes, its_offers, its_outline, its_rows}
use Rattle.editor_replies.specs.Sent.{Message, core_part}
use Rattle.own_replies.specs.Replies.{AreChanges, IsReply, IsReplyAbout, IsReplyOf, IsSomeResultIfFit, since}
use Rattle.own_replies.specs.States.{IdeState}

-- what is true of a reply to a request that is answered here: nothing of it is the core's, and the core stays as it was
abbrev pub IsOwn : IdeState → Message → IdeState → Type 0
IsOwn old message new = (core_part message ≡ []) × (new.core ≡ old.core)

of_changes : (id : Ident) (name : List ℕ) (before : Option (List ℕ)) (numbers : List ℕ) (message : Message) → AreChanges id name before numbers message → core_part message ≡ []
of_changes id name None numbers message r = ap core_part r
of_changes id name (Some before) numbers message r = ap core_part r.2

of_fit : (id : Ident) (message : Message) → IsSomeResultIfFit id message → core_part message ≡ []
of_fit id message (inl r) = ap core_part r.1
of_fit id message (inr r) = ap core_part r

of_open : (old : IdeState) (id : Ident) (uri : List ℕ) (d : OpenDocument) (question : Question) (message : Message) (new : IdeState)
    → IsReplyOf old id uri d question message new → IsOwn old message new
of_open old id uri d its_colours message new r = (ap core_part r.2, ap (λ (s : IdeState). s.core) r.3)
of_open old id uri d (its_changes previous) message new r = (of_changes id _ (since old.told uri previous) r.0 message r.2, ap (λ (s : IdeState). s.core) r.3)
of_open old id uri d (its_lines first end) message new r = (ap core_part r.2, ap (λ (s : IdeState). s.core) r.3)
of_open old id uri d (its_offers place) message new r = (ap core_part r.0.7, ap (λ (s : IdeState). s.core) r.1)
of_open old id uri d its_outline message new r = (ap core_part r.0.5, ap (λ (s : IdeState). s.core) r.1)
of_open old id uri d (its_hover place) message new r = (ap core_part r.0.3, ap (λ (s : IdeState). s.core) r.1)
of_open old id uri d (its_brackets place) message new r = (ap core_part r.0.2, ap (λ (s : IdeState). s.core) r.1)
of_open old id uri d (its_fixes range) message new r = (ap core_part r.0.1, ap (λ (s : IdeState). s.core) r.1)
of_open old id uri d (its_rows first end) message new r = (ap core_part r.0.1, ap (λ (s : IdeState). s.core) r.1)
of_open old id uri d (its_nodes place named) message new r = (of_fit id message r.0, ap (λ (s : IdeState). s.core) r.1)

of_document : (old : IdeState) (id : Ident) (uri : List ℕ) (document : Option DocumentState) (question : Question) (message : Message) (new : IdeState)
    → IsReplyAbout old id uri document question message new → IsOwn old message new
of_document old id uri None question message new r = (ap core_part r.0, ap (λ (s : IdeState). s.core) r.1)
of_document old id uri (Some (is_lost loss)) question message new r = (ap core_part r.0, ap (λ (s : IdeState). s.core) r.1)
of_document old id uri (Some (is_open d)) question message new r = of_open old id uri d question message new r

pub is_own : (old : IdeState) (id : Ident) (asked : Asked) (message : Message) (new : IdeState) → IsReply old id asked message new → IsOwn old message new
is_own old id misfit message new r = (ap core_part r.0, ap (λ (s : IdeState). s.core) r.1)
is_own old id (a_grammar text) message new r = (ap core_part r.0.2, ap (λ (s : IdeState). s.core) r.1)
is_own old id (about uri question) message new r = of_document old id uri (get old.core.documents uri) question message new r
