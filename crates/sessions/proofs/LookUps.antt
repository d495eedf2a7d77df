-- What a look-up finds after a document was inserted or removed.
use Rattle.sessions.proofs.Std.{◌≡◌, ◌≢◌, ◌⊎◌, ◌∙◌}
use Rattle.sessions.proofs.Std.{inl, inr, ℕ, true, false, cond, List, Bool, Option, Some, None, is_some, sym, ap, refl, nat_cmp, is_eq, eq_by_cmp, Ordering, Less, Equal, Greater, eq_by_cmp_equiv, slice_cmp}
use Rattle.sessions.proofs.Std.{get, insert, remove, get-insert, get-remove, same_map, slice_cmp-IsAntisymmetric, nat_cmp-IsAntisymmetric}
use Rattle.sessions.proofs.Std.{nat_list_cmp_total}
use Rattle.sessions.proofs.Common.{DocumentState, Held}

same_uri : (uri : List ℕ) → eq_by_cmp (slice_cmp nat_cmp) uri uri ≡ true
same_uri uri = (eq_by_cmp_equiv nat_list_cmp_total).refl uri

other_uri : (uri other : List ℕ) → other ≢ uri → eq_by_cmp (slice_cmp nat_cmp) other uri ≡ false
other_uri uri other apart = by (slice_cmp nat_cmp other uri) refl
  where
    by : (o : Ordering) → slice_cmp nat_cmp other uri ≡ o → is_eq (slice_cmp nat_cmp other uri) ≡ false
    by Less e = ap is_eq e
    by Equal e = absurd (apart (slice_cmp-IsAntisymmetric nat_cmp-IsAntisymmetric other uri e))
    by Greater e = ap is_eq e

pub get_inserted : (documents : Held) (uri : List ℕ) (state : DocumentState) → get (insert documents uri state) uri ≡ Some state
get_inserted documents uri state = get-insert nat_list_cmp_total documents uri state uri ∙ ap (λ b. cond b (Some state) (get documents uri)) (same_uri uri)

pub get_other : (documents : Held) (uri other : List ℕ) (state : DocumentState) → other ≢ uri → get (insert documents uri state) other ≡ get documents other
get_other documents uri other state apart = get-insert nat_list_cmp_total documents uri state other ∙ ap (λ b. cond b (Some state) (get documents other)) (other_uri uri other apart)

pub get_removed : (documents : Held) (uri : List ℕ) → get (remove documents uri) uri ≡ None
get_removed documents uri = get-remove nat_list_cmp_total documents uri uri ∙ ap (λ b. cond b None (get documents uri)) (same_uri uri)

pub get_other_removed : (documents : Held) (uri other : List ℕ) → other ≢ uri → get (remove documents uri) other ≡ get documents other
get_other_removed documents uri other apart = get-remove nat_list_cmp_total documents uri other ∙ ap (λ b. cond b None (get documents other)) (other_uri uri other apart)

-- what is put in the place of another
pub inserted_again : (documents : Held) (uri : List ℕ) (before state : DocumentState) → insert (insert documents uri before) uri state ≡ insert documents uri state
inserted_again documents uri before state = same_map nat_list_cmp_total (slice_cmp-IsAntisymmetric nat_cmp-IsAntisymmetric) _ _ (λ q.
    get-insert nat_list_cmp_total (insert documents uri before) uri state q
    ∙ (ap (cond (eq_by_cmp (slice_cmp nat_cmp) q uri) (Some state)) (get-insert nat_list_cmp_total documents uri before q)
    ∙ (twice (eq_by_cmp (slice_cmp nat_cmp) q uri) (get documents q) ∙ sym (get-insert nat_list_cmp_total documents uri state q))))
  where
    twice : (b : Bool) (o : Option DocumentState) → cond b (Some state) (cond b (Some before) o) ≡ cond b (Some state) o
    twice true o = refl
    twice false o = refl

-- what is put in the place of one that was removed
pub inserted_removed : (documents : Held) (uri : List ℕ) (state : DocumentState) → insert (remove documents uri) uri state ≡ insert documents uri state
inserted_removed documents uri state = same_map nat_list_cmp_total (slice_cmp-IsAntisymmetric nat_cmp-IsAntisymmetric) _ _ (λ q.
    get-insert nat_list_cmp_total (remove documents uri) uri state q
    ∙ (ap (cond (eq_by_cmp (slice_cmp nat_cmp) q uri) (Some state)) (get-remove nat_list_cmp_total documents uri q)
    ∙ (twice (eq_by_cmp (slice_cmp nat_cmp) q uri) (get documents q) ∙ sym (get-insert nat_list_cmp_total documents uri state q))))
  where
    twice : (b : Bool) (o : Option DocumentState) → cond b (Some state) (cond b None o) ≡ cond b (Some state) o
    twice true o = refl
    twice false o = refl

-- where nothing was found
pub none_is : {A : Type 0} (o : Option A) → is_some o ≡ false → o ≡ None
none_is None e = refl
none_is (Some x) e = absurd (let f : ⊥ = cc in f)

-- to forget what isn't held changes nothing
pub removed_none : (documents : Held) (uri : List ℕ) → get documents uri ≡ None → remove documents uri ≡ documents
removed_none documents uri none = same_map nat_list_cmp_total (slice_cmp-IsAntisymmetric nat_cmp-IsAntisymmetric) _ _ (λ q.
    get-remove nat_list_cmp_total documents uri q ∙ by q (slice_cmp nat_cmp q uri) refl)
  where
    by : (q : List ℕ) (o : Ordering) → slice_cmp nat_cmp q uri ≡ o → cond (is_eq (slice_cmp nat_cmp q uri)) None (get documents q) ≡ get documents q
    by q Less e = ap (λ x. cond (is_eq x) None (get documents q)) e
    by q Equal e = ap (λ x. cond (is_eq x) None (get documents q)) e ∙ (sym none ∙ ap (get documents) (sym (slice_cmp-IsAntisymmetric nat_cmp-IsAntisymmetric q uri e)))
    by q Greater e = ap (λ x. cond (is_eq x) None (get documents q)) e

-- two URIs are one, or not
pub same_or_not : (uri other : List ℕ) → (other ≡ uri) ⊎ (other ≢ uri)
same_or_not uri other = by (slice_cmp nat_cmp other uri) refl
  where
    never : (o : Ordering) → is_eq o ≡ false → slice_cmp nat_cmp other uri ≡ o → other ≢ uri
    never o unequal e same =
        let here : eq_by_cmp (slice_cmp nat_cmp) other uri ≡ false = ap is_eq e ∙ unequal in
        let there : eq_by_cmp (slice_cmp nat_cmp) other uri ≡ true = ap (λ x. eq_by_cmp (slice_cmp nat_cmp) x uri) same ∙ same_uri uri in
        let f : ⊥ = cc in f

    by : (o : Ordering) → slice_cmp nat_cmp other uri ≡ o → (other ≡ uri) ⊎ (other ≢ uri)
    by Less e = inr (never Less refl e)
    by Equal e = inl (slice_cmp-IsAntisymmetric nat_cmp-IsAntisymmetric other uri e)
    by Greater e = inr (never Greater refl e)
