-- What is sent about a document depends on that document alone.
use Rattle.sessions.proofs.Std.{◌≡◌, ◌≢◌, ℕ, ℤ, Bool, true, false, List, [], ◌∷◌, map, refl, sym, ap, subst, ◌∙◌, Option, Some, None, All, chars, get, All-from_recursion}
use Rattle.sessions.proofs.Common.{Encoding, Ident, Request, about, stats, Question, Notification, open_text, change_text, close, malformed, unfit_change, request, notification, Received, accepted, TextChange, Answer, published_diagnostics, log_message, stats_reply, Lost}
use Rattle.sessions.proofs.Common.{TooLarge, MalformedChange, Memory}
use Rattle.sessions.proofs.Common.{changed, AnswersOnce, CountsOnce, LastEdit, OpenDocument, FileGrammar}
use Rattle.sessions.proofs.Common.{named, AreAlikeFor, loses, loses_memory, SameFor, EachDocumentIsAlone, IsAnswer, IsCount, IsPublished, but_nodes, DocumentState, is_open, is_lost, Becomes, IsLastAfter, has_room, Publishes}
use Rattle.sessions.proofs.Common.{State, OnRequest, Changes, Closes, Forgets, Holds, Ignores, Opens, Replies, Spoils, Step, OnNotification, new_document, Phase, Ready}
use Rattle.sessions.proofs.Effects.{Effect, stays, stands, goes, step_effect}
use Rattle.sessions.proofs.Fresh.{one_answer, one_published}
use Rattle.sessions.proofs.LookUps.{get_inserted, get_other, get_removed, get_other_removed}

-- ---- a message that does not name a document

abbrev IsLeft : List ℕ → State → List Answer → State → Type 0
IsLeft uri old answers new = (get new.documents uri ≡ get old.documents uri) × All (λ a. ¬ Publishes uri a) answers

-- another document's URI is another
apart_from : (name : Option (List ℕ)) (uri other : List ℕ) → name ≡ Some other → name ≢ Some uri → uri ≢ other
apart_from name uri other is apart same = apart (is ∙ ap (λ u. Some u) (sym same))

published_elsewhere : (file : FileGrammar) (uri other : List ℕ) (d : OpenDocument) (a : Answer) → IsPublished file other d a → uri ≢ other → ¬ Publishes uri a
published_elsewhere file uri other d a is apart p = apart (sym (subst (Publishes uri) is.2.2 p))

effect_left : (name : Option (List ℕ)) (old : State) (answers : List Answer) (stop : Option ℕ) (new : State)
    → Effect name old answers stop new → (uri : List ℕ) → name ≢ Some uri → IsLeft uri old answers new
effect_left name old answers stop new (stays quiet file documents units) uri apart = (ap (λ h. get h uri) documents, quiet uri)
effect_left name old answers stop new (stands other (is_open d) is fit unit s) uri apart =
    let away = apart_from name uri other is apart in (
      ap (λ (x : State). get x.documents uri) s.3.1 ∙ get_other old.documents other uri (is_open d) away,
      subst (λ (given : List Answer). All (λ a. ¬ Publishes uri a) given) (sym s.2)
          (All-from_recursion (λ a. ¬ Publishes uri a) (s.0 ∷ []) (published_elsewhere old.file uri other d s.0 s.1 away, tt)),
    )
effect_left name old answers stop new (stands other (is_lost loss) is fit unit s) uri apart =
    let away = apart_from name uri other is apart in
    let given : List Answer = published_diagnostics other None None ∷ log_message (Lost loss) ∷ [] in (
      ap (λ (x : State). get x.documents uri) s.1.1 ∙ get_other old.documents other uri (is_lost loss) away,
      subst (λ (given : List Answer). All (λ a. ¬ Publishes uri a) given) (sym s.0) (All-from_recursion (λ a. ¬ Publishes uri a) given (λ p. away (sym p), ((λ p. p), tt))),
    )
effect_left name old answers stop new (goes other is s) uri apart =
    let away = apart_from name uri other is apart in
    let given : List Answer = published_diagnostics other None None ∷ [] in (
      ap (λ (x : State). get x.documents uri) s.1.1 ∙ get_other_removed old.documents other uri away,
      subst (λ (given : List Answer). All (λ a. ¬ Publishes uri a) given) (sym s.0) (All-from_recursion (λ a. ¬ Publishes uri a) given (λ p. away (sym p), tt)),
    )

-- what a step leaves of a document that it does not name
pub step_leaves : (old : State) (received : Received) (answers : List Answer) (stop : Option ℕ) (new : State) → Step old received answers stop new
    → (uri : List ℕ) → named received ≢ Some uri → get new.documents uri ≡ get old.documents uri
step_leaves old received answers stop new s uri apart = (effect_left (named received) old answers stop new (step_effect old answers stop new received s) uri apart).0

-- ---- a message that names it

-- what the last edit is
one_last : (encoding : Encoding) (file : FileGrammar) → CountsOnce file → (text : List ℕ) (changes : List TextChange) (last one other : Option LastEdit)
    → IsLastAfter encoding file text changes last one → IsLastAfter encoding file text changes last other → other ≡ one
one_last encoding file counts text [] last one other a b = b ∙ sym a
one_last encoding file counts text (c ∷ cs) last one other a b =
    let same : b.0 ≡ a.0 = counts.edits encoding text c.range (chars c.text) last a.0 b.0 a.1 b.1 in
    one_last encoding file counts (changed encoding text c.range (chars c.text)) cs (Some a.0) one other a.2
    (subst (λ (e : LastEdit). IsLastAfter encoding file (changed encoding text c.range (chars c.text)) cs (Some e) other) same b.2)

-- what an open document becomes, where memory is refused in both or in neither
one_becomes : (file : FileGrammar) → CountsOnce file → (version : ℤ) (now : OpenDocument) (changes : List TextChange) (s t : DocumentState)
    → loses (Some (is_open now)) (Some t) ≡ loses (Some (is_open now)) (Some s) → Becomes file version now changes s → Becomes file version now changes t → t ≡ s
one_becomes file counts version now changes (is_open d) (is_open e) alike a b =
    let texts : Some e.text ≡ Some d.text = sym b.0 ∙ a.0 in
    let same : e.text ≡ d.text = cc in
    ap (λ u. is_open (record { unit = u; version = e.version; text = e.text; last = e.last })) (b.1 ∙ sym a.1)
    ∙ (ap (λ v. is_open (record { unit = d.unit; version = v; text = e.text; last = e.last })) (b.2 ∙ sym a.2)
    ∙ (ap (λ t. is_open (record { unit = d.unit; version = d.version; text = t; last = e.last })) same
    ∙ ap (λ (l : Option LastEdit). is_open (record { unit = d.unit; version = d.version; text = d.text; last = l })) (one_last now.unit file counts now.text changes now.last d.last e.last a.3 b.3)))
one_becomes file counts version now changes (is_open d) (is_lost TooLarge) alike a b = absurd (let e : Some d.text ≡ None = sym a.0 ∙ b in let f : ⊥ = cc in f)
one_becomes file counts version now changes (is_lost TooLarge) (is_open e) alike a b = absurd (let g : Some e.text ≡ None = sym b.0 ∙ a in let f : ⊥ = cc in f)
one_becomes file counts version now changes (is_lost TooLarge) (is_lost TooLarge) alike a b = refl
one_becomes file counts version now changes (is_lost Memory) (is_lost Memory) alike a b = refl
one_becomes file counts version now changes s (is_lost MalformedChange) alike a b = absurd b
one_becomes file counts version now changes (is_lost MalformedChange) t alike a b = absurd a
one_becomes file counts version now changes s t alike a b = absurd (let f : ⊥ = cc in f)

module _ (file : FileGrammar) (once : AnswersOnce file) (counts : CountsOnce file) (uri : List ℕ) (old two new other : State) (answers other_answers : List Answer)
    (stop other_stop : Option ℕ) (by_file : old.file ≡ file) (held : get two.documents uri ≡ get old.documents uri) (two_file : two.file ≡ file) where
  abbrev Same : Type 0
  Same = SameFor uri answers other_answers stop other_stop new other

  -- nothing changes in either
  both_stay : (given : List Answer) (halt : Option ℕ) → answers ≡ given → other_answers ≡ given → stop ≡ halt → other_stop ≡ halt
      → new.documents ≡ old.documents → other.documents ≡ two.documents → Same
  both_stay given halt a b s t n o = record { sent = ap (map but_nodes) (b ∙ sym a); stops = t ∙ sym s; held = ap (λ h. get h uri) o ∙ (held ∙ sym (ap (λ h. get h uri) n)) }

  both_reply : (answer : Answer) → Replies old answer answers stop new → Replies two answer other_answers other_stop other → Same
  both_reply answer a b = both_stay (answer ∷ []) None a.0 b.0 a.1 b.1 (ap (λ (x : State). x.documents) a.2) (ap (λ (x : State). x.documents) b.2)

  both_ignore : Ignores old answers stop new → Ignores two other_answers other_stop other → Same
  both_ignore a b = both_stay [] None a.0 b.0 a.1 b.1 (ap (λ (x : State). x.documents) a.2) (ap (λ (x : State). x.documents) b.2)

  both_hold : (state : DocumentState) → Holds old uri state answers stop new → Holds two uri state other_answers other_stop other → Same
  both_hold (is_open d) a b =
      let mine : IsPublished file uri d a.0 = subst (λ (f : FileGrammar). IsPublished f uri d a.0) by_file a.1 in
      let yours : IsPublished file uri d b.0 = subst (λ (f : FileGrammar). IsPublished f uri d b.0) two_file b.1 in
      record {
        sent = ap (map but_nodes) (b.2 ∙ (ap (λ (x : Answer). x ∷ []) (one_published file once uri d a.0 b.0 mine yours) ∙ sym a.2));
        stops = b.3.0 ∙ sym a.3.0;
        held = ap (λ (x : State). get x.documents uri) b.3.1
            ∙ (get_inserted two.documents uri (is_open d) ∙ sym (ap (λ (x : State). get x.documents uri) a.3.1 ∙ get_inserted old.documents uri (is_open d)));
      }
  both_hold (is_lost loss) a b = record {
    sent = ap (map but_nodes) (b.0 ∙ sym a.0);
    stops = b.1.0 ∙ sym a.1.0;
    held = ap (λ (x : State). get x.documents uri) b.1.1
        ∙ (get_inserted two.documents uri (is_lost loss) ∙ sym (ap (λ (x : State). get x.documents uri) a.1.1 ∙ get_inserted old.documents uri (is_lost loss)));
  }

  both_forget : Forgets old uri answers stop new → Forgets two uri other_answers other_stop other → Same
  both_forget a b = record {
    sent = ap (map but_nodes) (b.0 ∙ sym a.0);
    stops = b.1.0 ∙ sym a.1.0;
    held = ap (λ (x : State). get x.documents uri) b.1.1 ∙ (get_removed two.documents uri ∙ sym (ap (λ (x : State). get x.documents uri) a.1.1 ∙ get_removed old.documents uri));
  }

  -- one answer about what both hold
  both_answer : (o : Option DocumentState) (id : Ident) (question : Question) (one yours : Answer) → IsAnswer file id o question one → IsAnswer file id o question yours → yours ≡ one
  both_answer (Some (is_open d)) id question one yours a b = one_answer file once d id question one yours a b
  both_answer d id question one yours a b = b ∙ sym a

  both_show : (unit : Encoding) (id : Ident) (question : Question) → OnRequest (Ready unit) old id (about uri question) answers stop new
      → OnRequest (Ready unit) two id (about uri question) other_answers other_stop other → Same
  both_show unit id question a b =
      let mine : IsAnswer file id (get old.documents uri) question a.0 = subst (λ (f : FileGrammar). IsAnswer f id (get old.documents uri) question a.0) by_file a.1 in
      let theirs : IsAnswer file id (get two.documents uri) question b.0 = subst (λ (f : FileGrammar). IsAnswer f id (get two.documents uri) question b.0) two_file b.1 in
      let yours : IsAnswer file id (get old.documents uri) question b.0 = subst (λ (o : Option DocumentState). IsAnswer file id o question b.0) held theirs in
      let same : b.0 ≡ a.0 = both_answer (get old.documents uri) id question a.0 b.0 mine yours in
      both_reply a.0 a.2 (b.2.0 ∙ ap (λ (x : Answer). x ∷ []) same, b.2.1, b.2.2)

  -- the same counts of what both hold, but for the nodes in memory
  both_counts : (o : Option DocumentState) (id : Ident) (one yours : Answer) → IsCount file id o one → IsCount file id o yours → but_nodes yours ≡ but_nodes one
  both_counts (Some (is_open d)) id one yours a b = ap but_nodes b.2 ∙ (ap (stats_reply id) (counts.stats d a.0 b.0 a.1 b.1) ∙ sym (ap but_nodes a.2))
  both_counts d id one yours a b = ap but_nodes (b ∙ sym a)

  both_count : (unit : Encoding) (id : Ident) → OnRequest (Ready unit) old id (stats uri) answers stop new → OnRequest (Ready unit) two id (stats uri) other_answers other_stop other → Same
  both_count unit id a b =
      let mine : IsCount file id (get old.documents uri) a.0 = subst (λ (f : FileGrammar). IsCount f id (get old.documents uri) a.0) by_file a.1 in
      let theirs : IsCount file id (get two.documents uri) b.0 = subst (λ (f : FileGrammar). IsCount f id (get two.documents uri) b.0) two_file b.1 in
      let yours : IsCount file id (get old.documents uri) b.0 = subst (λ (o : Option DocumentState). IsCount file id o b.0) held theirs in
      record {
        sent = ap (map but_nodes) b.2.0 ∙ (ap (λ (x : Answer). x ∷ []) (both_counts (get old.documents uri) id a.0 b.0 mine yours) ∙ sym (ap (map but_nodes) a.2.0));
        stops = b.2.1 ∙ sym a.2.1;
        held = ap (λ (x : State). get x.documents uri) b.2.2 ∙ (held ∙ sym (ap (λ (x : State). get x.documents uri) a.2.2));
      }

  both_open : (room : Bool) (state : DocumentState) → Opens room old uri state answers stop new → Opens room two uri state other_answers other_stop other → Same
  both_open true state a b = both_hold state a b
  both_open false state a b = both_reply _ a b

  held_after : (x y : State) (given : List Answer) (halt : Option ℕ) (state : DocumentState) → Holds x uri state given halt y → get y.documents uri ≡ Some state
  held_after x y given halt (is_open d) s = ap (λ (z : State). get z.documents uri) s.3.1 ∙ get_inserted x.documents uri (is_open d)
  held_after x y given halt (is_lost loss) s = ap (λ (z : State). get z.documents uri) s.1.1 ∙ get_inserted x.documents uri (is_lost loss)

  both_change : (o : Option DocumentState) (version : ℤ) (changes : List TextChange) → get old.documents uri ≡ o → loses_memory uri two other ≡ loses_memory uri old new
      → Changes o old uri version changes answers stop new → Changes o two uri version changes other_answers other_stop other → Same
  both_change None version changes e alike a b = both_reply _ a b
  both_change (Some (is_lost loss)) version changes e alike a b = both_ignore a b
  both_change (Some (is_open d)) version changes e alike a b =
      let mine : loses_memory uri old new ≡ loses (Some (is_open d)) (Some a.0) = ap (λ (o : Option DocumentState). loses o (get new.documents uri)) e
      ∙ ap (loses (Some (is_open d))) (held_after old new answers stop a.0 a.2) in
      let yours : loses_memory uri two other ≡ loses (Some (is_open d)) (Some b.0) = ap (λ (o : Option DocumentState). loses o (get other.documents uri)) (held ∙ e)
      ∙ ap (loses (Some (is_open d))) (held_after two other other_answers other_stop b.0 b.2) in
      let mine_now : Becomes file version d changes a.0 = subst (λ (f : FileGrammar). Becomes f version d changes a.0) by_file a.1 in
      let yours_now : Becomes file version d changes b.0 = subst (λ (f : FileGrammar). Becomes f version d changes b.0) two_file b.1 in
      let same : b.0 ≡ a.0 = one_becomes file counts version d changes a.0 b.0 (sym yours ∙ (alike ∙ mine)) mine_now yours_now in
      both_hold a.0 a.2 (subst (λ (s : DocumentState). Holds two uri s other_answers other_stop other) same b.2)

  both_spoil : (o : Option DocumentState) → Spoils o old uri answers stop new → Spoils o two uri other_answers other_stop other → Same
  both_spoil None a b = both_reply _ a b
  both_spoil (Some (is_lost loss)) a b = both_ignore a b
  both_spoil (Some (is_open d)) a b = both_hold (is_lost MalformedChange) a b

  both_close : (o : Option DocumentState) → Closes o old uri answers stop new → Closes o two uri other_answers other_stop other → Same
  both_close None a b = both_reply _ a b
  both_close (Some state) a b = both_forget a b

  both_ask : (phase : Phase) (id : Ident) (question : Question) → OnRequest phase old id (about uri question) answers stop new
      → OnRequest phase two id (about uri question) other_answers other_stop other → Same
  both_ask (Ready unit) id question a b = both_show unit id question a b
  both_ask d id question a b = both_reply _ a b

  both_ask_counts : (phase : Phase) (id : Ident) → OnRequest phase old id (stats uri) answers stop new → OnRequest phase two id (stats uri) other_answers other_stop other → Same
  both_ask_counts (Ready unit) id a b = both_count unit id a b
  both_ask_counts d id a b = both_reply _ a b

  both_hear_open : (phase : Phase) (version : ℤ) (text : List ℕ) → has_room uri two.documents ≡ has_room uri old.documents
      → OnNotification phase old (open_text uri version text) answers stop new → OnNotification phase two (open_text uri version text) other_answers other_stop other → Same
  both_hear_open (Ready unit) version text room a b = both_open (has_room uri old.documents) (new_document unit version (chars text)) a
      (subst (λ (r : Bool). Opens r two uri (new_document unit version (chars text)) other_answers other_stop other) room b)
  both_hear_open d version text room a b = both_ignore a b

  both_hear_change : (phase : Phase) (version : ℤ) (changes : List TextChange) → loses_memory uri two other ≡ loses_memory uri old new
      → OnNotification phase old (change_text uri version changes) answers stop new → OnNotification phase two (change_text uri version changes) other_answers other_stop other → Same
  both_hear_change (Ready unit) version changes alike a b = both_change (get old.documents uri) version changes refl alike a
      (subst (λ (o : Option DocumentState). Changes o two uri version changes other_answers other_stop other) held b)
  both_hear_change d version changes alike a b = both_ignore a b

  both_hear_close : (phase : Phase) → OnNotification phase old (close uri) answers stop new → OnNotification phase two (close uri) other_answers other_stop other → Same
  both_hear_close (Ready unit) a b = both_close (get old.documents uri) a (subst (λ (o : Option DocumentState). Closes o two uri other_answers other_stop other) held b)
  both_hear_close d a b = both_ignore a b

  both_hear_misfit : (phase : Phase) → OnNotification phase old (malformed (unfit_change (Some uri))) answers stop new
      → OnNotification phase two (malformed (unfit_change (Some uri))) other_answers other_stop other → Same
  both_hear_misfit (Ready unit) a b = both_spoil (get old.documents uri) a (subst (λ (o : Option DocumentState). Spoils o two uri other_answers other_stop other) held b)
  both_hear_misfit d a b = both_ignore a b

-- ---- both

same_name : (one other : List ℕ) → Some one ≡ Some other → one ≡ other
same_name one other e = let same : one ≡ other = cc in same

module _ (file : FileGrammar) (once : AnswersOnce file) (counts : CountsOnce file) (old two new other : State)
    (answers other_answers : List Answer) (stop other_stop : Option ℕ) (by_file : old.file ≡ file) where
  abbrev Alike : Received → List ℕ → Type 0
  Alike received uri = AreAlikeFor uri received old two → loses_memory uri two other ≡ loses_memory uri old new → SameFor uri answers other_answers stop other_stop new other

  shows_alike : (note : Notification) (uri : List ℕ) → named (accepted (notification note)) ≡ Some uri → OnNotification old.phase old note answers stop new
      → OnNotification two.phase two note other_answers other_stop other → Alike (accepted (notification note)) uri
  shows_alike (open_text u version text) uri name a b =
      let there = λ (p : Phase). OnNotification p two (open_text u version text) other_answers other_stop other in
      subst (Alike (accepted (notification (open_text u version text)))) (same_name u uri name)
      (λ look alike. both_hear_open file once counts u old two new other answers other_answers stop other_stop by_file look.held
      (look.file ∙ by_file) old.phase version text look.room a (subst there look.phase b))
  shows_alike (change_text u version changes) uri name a b =
      let there = λ (p : Phase). OnNotification p two (change_text u version changes) other_answers other_stop other in
      subst (Alike (accepted (notification (change_text u version changes)))) (same_name u uri name)
      (λ look alike. both_hear_change file once counts u old two new other answers other_answers stop other_stop by_file look.held
      (look.file ∙ by_file) old.phase version changes alike a (subst there look.phase b))
  shows_alike (close u) uri name a b =
      let there = λ (p : Phase). OnNotification p two (close u) other_answers other_stop other in
      subst (Alike (accepted (notification (close u)))) (same_name u uri name)
      (λ look alike. both_hear_close file once counts u old two new other answers other_answers stop other_stop by_file look.held (look.file ∙ by_file) old.phase a (subst there look.phase b))
  shows_alike (malformed (unfit_change (Some u))) uri name a b =
      let there = λ (p : Phase). OnNotification p two (malformed (unfit_change (Some u))) other_answers other_stop other in
      subst (Alike (accepted (notification (malformed (unfit_change (Some u)))))) (same_name u uri name)
      (λ look alike. both_hear_misfit file once counts u old two new other answers other_answers stop other_stop by_file look.held (look.file ∙ by_file) old.phase a (subst there look.phase b))
  shows_alike d uri name a b = absurd (let f : ⊥ = cc in f)

  asks_alike : (id : Ident) (call : Request) (uri : List ℕ) → named (accepted (request id call)) ≡ Some uri → OnRequest old.phase old id call answers stop new
      → OnRequest two.phase two id call other_answers other_stop other → Alike (accepted (request id call)) uri
  asks_alike id (about u question) uri name a b =
      let there = λ (p : Phase). OnRequest p two id (about u question) other_answers other_stop other in
      subst (Alike (accepted (request id (about u question)))) (same_name u uri name)
      (λ look alike. both_ask file once counts u old two new other answers other_answers stop other_stop by_file look.held
      (look.file ∙ by_file) old.phase id question a (subst there look.phase b))
  asks_alike id (stats u) uri name a b =
      let there = λ (p : Phase). OnRequest p two id (stats u) other_answers other_stop other in
      subst (Alike (accepted (request id (stats u)))) (same_name u uri name)
      (λ look alike. both_ask_counts file once counts u old two new other answers other_answers stop other_stop by_file look.held (look.file ∙ by_file) old.phase id a (subst there look.phase b))
  asks_alike id d uri name a b = absurd (let f : ⊥ = cc in f)

  step_alike : (received : Received) (uri : List ℕ) → named received ≡ Some uri → Step old received answers stop new → Step two received other_answers other_stop other → Alike received uri
  step_alike (accepted (request id call)) uri name a b = asks_alike id call uri name a b
  step_alike (accepted (notification note)) uri name a b = shows_alike note uri name a b
  step_alike received uri name a b = absurd (let f : ⊥ = cc in f)

pub each_document_is_alone : (file : FileGrammar) → AnswersOnce file → CountsOnce file → EachDocumentIsAlone file
each_document_is_alone file once counts uri received old answers stop new by_file step = (
  effect_left (named received) old answers stop new (step_effect old answers stop new received step) uri,
  λ name two other_answers other_stop other look theirs alike. step_alike file once counts old two new other answers other_answers stop other_stop by_file received uri name step theirs look alike,
)
