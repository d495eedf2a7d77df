-- Worked examples of changes of colours that were sent, and of what is told of a grammar file.
use Rattle.std.proofs.Common.{◌≡◌, ℕ, List, [], ◌∷◌, Option, Some, None, pos, refl}
use Rattle.std.specs.Prelude.{codes}
use Rattle.serde_json.specs.Data.{Data, array, boolean, member, no_members, null, number, object, string}
use Rattle.serde_json.specs.Find.{get as member_of}
use Rattle.replies.specs.Ids.{numbered}
use Rattle.editor_replies.specs.Sent.{NumbersEdit, changes, colours}
use Rattle.own_replies.specs.Replies.{AreChanges, TellsFault, TellsSettings, edited, since}
use Rattle.own_replies.specs.States.{Told}

-- the colours of `a` were sent last, as the result `7`
told : Option Told
told = Some (record { uri = 97 ∷ []; name = 55 ∷ []; numbers = 1 ∷ 2 ∷ 3 ∷ [] })

-- changes are since the last result of the document alone
since_it : since told (97 ∷ []) (55 ∷ []) ≡ Some (1 ∷ 2 ∷ 3 ∷ [])
unfolding told
since_it = refl

since_another : since told (97 ∷ []) (56 ∷ []) ≡ None
unfolding told
since_another = refl

of_another : since told (98 ∷ []) (55 ∷ []) ≡ None
unfolding told
of_another = refl

since_none : since None (97 ∷ []) (55 ∷ []) ≡ None
since_none = refl

-- one number gives way to two
change : NumbersEdit
change = record { start = 1; delete_count = 1; numbers = 8 ∷ 9 ∷ [] }

changed : edited (Some change) (1 ∷ 2 ∷ 3 ∷ []) ≡ 1 ∷ 8 ∷ 9 ∷ 3 ∷ []
unfolding change
changed = refl

unchanged : edited None (1 ∷ 2 ∷ 3 ∷ []) ≡ 1 ∷ 2 ∷ 3 ∷ []
unchanged = refl

-- where there are numbers before, their change is sent, and else all numbers, with the name of the result
as_change : AreChanges (numbered (pos 1)) (56 ∷ []) (Some (1 ∷ 2 ∷ 3 ∷ [])) (1 ∷ 8 ∷ 9 ∷ 3 ∷ []) (changes (numbered (pos 1)) (56 ∷ []) (Some change))
as_change = (Some change, changed, refl)

other_numbers : AreChanges (numbered (pos 1)) (56 ∷ []) (Some (1 ∷ [])) (2 ∷ []) (changes (numbered (pos 1)) (56 ∷ []) None) → ⊥
other_numbers r = other r.0 r.1 r.2
  where
    other : (e : Option NumbersEdit) → edited e (1 ∷ []) ≡ 2 ∷ [] → changes (numbered (pos 1)) (56 ∷ []) None ≡ changes (numbered (pos 1)) (56 ∷ []) e → ⊥
    other None e f = cc
    other (Some n) e f = cc

whole_again : AreChanges (numbered (pos 1)) (56 ∷ []) None (2 ∷ []) (colours (numbered (pos 1)) (Some (56 ∷ [])) (2 ∷ []))
whole_again = refl

nameless : AreChanges (numbered (pos 1)) (56 ∷ []) None (2 ∷ []) (colours (numbered (pos 1)) None (2 ∷ [])) → ⊥
nameless e = cc

-- ---- what is told of a grammar file

-- a fault with the message `y`, and empty settings
fault : Data
fault = object (member (codes "message") (string (121 ∷ [])) no_members)

faulty : Data
faulty = object (member (codes "fault") fault (member (codes "settings") null no_members))

sound : Data
sound = object (member (codes "fault") null (member (codes "settings") (string []) no_members))

a_fault : TellsFault faulty
unfolding faulty fault
a_fault = (fault, 121 ∷ [], refl, refl)

settings : TellsSettings sound
unfolding sound
settings = ([], refl, refl)

-- a value that lacks both tells neither
neither_fault : TellsFault (object no_members) → ⊥
neither_fault r = cc

neither_settings : TellsSettings (object no_members) → ⊥
neither_settings r = cc

-- what tells one of them doesn't tell the other
no_settings : TellsSettings faulty → ⊥
unfolding faulty fault
no_settings r = cc

no_message : (d : Data) (message : List ℕ) → Some null ≡ Some d → member_of (codes "message") d ≡ Some (string message) → ⊥
no_message null message e f = cc
no_message (boolean b) message e f = cc
no_message (number n) message e f = cc
no_message (string s) message e f = cc
no_message (array ds) message e f = cc
no_message (object ms) message e f = cc

no_fault : TellsFault sound → ⊥
unfolding sound
no_fault r = no_message r.0 r.1 r.2 r.3
