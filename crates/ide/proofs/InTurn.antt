-- What the contents of frames cancel, and the parts of a piece.
use Rattle.ide.proofs.Std.{◌≡◌, ℕ, List, [], ◌∷◌, ◌++◌, map, drop, refl, ap, sym, subst, ◌∙◌, append-nil, Option, None}
use Rattle.ide.proofs.Common.{contents, Ident, cancels, IdeState, Served, ServedInPart}
use Rattle.std.specs.Prelude.{option_map}
use Rattle.frames.specs.declared.decoder.Frame.{Frame}
use Rattle.replies.specs.Ids.{id_view}
use Rattle.replies.specs.declared.id.Id.{Id}
use Rattle.questions.specs.Cancels.{cancelled_by, later_view}
use Rattle.ide.proofs.Runs.{served_then}
use Rattle.ide.proofs.CutSessions.{part_on, part_then}

pub drop_one : {X Y : Type 0} (f : X → Y) (xs : List X) → map f (drop 1 xs) ≡ drop 1 (map f xs)
drop_one f [] = refl
drop_one f (x ∷ xs) = refl

-- one frame more of a piece is answered; `rest` are those behind it, and `all` it and those
pub one_more : (old mid new : Option (List ℕ)) (a b c : IdeState) (done : List (List ℕ)) (frame : Frame) (rest all : List Frame) (later : List (Option Ident)) (stop : Option ℕ)
    → all ≡ frame ∷ rest → later ≡ cancels (drop 1 (contents all)) → Served old mid a done (cancels (contents all) ++ []) None b
    → Served mid new b (frame.content.items ∷ []) later stop c → Served old new a (done ++ frame.content.items ∷ []) (cancels (contents rest) ++ []) stop c
one_more old mid new a b c done frame rest all later stop is at before here =
    served_then old mid new a b c done (frame.content.items ∷ []) (cancels (contents rest) ++ []) stop
    (subst (λ fs. Served old mid a done (cancels (contents fs) ++ []) None b) is before)
    (subst (λ l. Served mid new b (frame.content.items ∷ []) l stop c) (at ∙ ap (λ fs. cancels (drop 1 (contents fs))) is ∙ sym (append-nil (cancels (contents rest)))) here)

pub part_more : (old mid new : Option (List ℕ)) (a b : IdeState) (done : List (List ℕ)) (frame : Frame) (rest all : List Frame) (later : List (Option Ident))
    → all ≡ frame ∷ rest → later ≡ cancels (drop 1 (contents all)) → Served old mid a done (cancels (contents all) ++ []) None b
    → ServedInPart mid new b (frame.content.items ∷ []) later → ServedInPart old new a ((done ++ frame.content.items ∷ []) ++ contents rest) []
part_more old mid new a b done frame rest all later is at before here =
    part_on old new a (done ++ frame.content.items ∷ []) (contents rest) []
    (part_then old mid new a b done (frame.content.items ∷ []) (cancels (contents rest) ++ [])
    (subst (λ fs. Served old mid a done (cancels (contents fs) ++ []) None b) is before)
    (subst (λ l. ServedInPart mid new b (frame.content.items ∷ []) l) (at ∙ ap (λ fs. cancels (drop 1 (contents fs))) is ∙ sym (append-nil (cancels (contents rest)))) here))

-- what is cancelled behind one frame more
pub later_more : (later now : List (Option Id)) (frame : Frame) (rest all : List Frame) → all ≡ frame ∷ rest → later_view later ≡ cancels (drop 1 (contents all))
    → now ≡ drop 1 later → later_view now ≡ cancels (drop 1 (contents rest))
later_more later now frame rest all is at others =
    ap later_view others ∙ drop_one (option_map id_view) later ∙ ap (drop 1) (at ∙ ap (λ fs. cancels (drop 1 (contents fs))) is)
    ∙ sym (drop_one cancelled_by (contents rest))
