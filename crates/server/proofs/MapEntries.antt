-- What the entries of a map of documents say of the documents that are held.
use Rattle.server.proofs.Std.{◌≡◌, ◌+◌, [], ◌∷◌, ◌∙◌}
use Rattle.server.proofs.Std.{ℕ, Bool, true, false, cond, List, map, length, Option, Some, None, is_some, option_map, IfSome, string_bytes, String, string_cmp, refl, sym, ap, subst, AllByRecursion, bytes_eq, nat_cmp, is_eq, eq_by_cmp, eq_by_cmp_equiv, slice_cmp, Ordering, Less}
use Rattle.server.proofs.Std.{get, insert, remove, len, contains_key, find, get-from_entries, get-insert, get-remove, len-empty, len-insert, same_map, slice_cmp-IsAntisymmetric, nat_cmp-IsAntisymmetric, IsStrictlySortedBy}
use Rattle.server.proofs.Std.{arith, nat_list_cmp_total, is_eq-slice_cmp}
use Rattle.server.proofs.Common.{DocumentState, LanguageData, Entry, entry_view, documents_of, entry_at, IsEntryOf, AreCurrent}

map_cond : {A B : Type 0} (f : A → B) (b : Bool) (x : A) (o : Option A) → option_map f (cond b (Some x) o) ≡ cond b (Some (f x)) (option_map f o)
map_cond f true x o = refl
map_cond f false x o = refl

none_cond : {A B : Type 0} (f : A → B) (b : Bool) (o : Option A) → option_map f (cond b None o) ≡ cond b None (option_map f o)
none_cond f true o = refl
none_cond f false o = refl

same_test : (uri q : List ℕ) → bytes_eq uri q ≡ eq_by_cmp (slice_cmp nat_cmp) q uri
same_test uri q = sym (is_eq-slice_cmp uri q) ∙ (eq_by_cmp_equiv nat_list_cmp_total).symm uri q

-- a key below all others is none of them
none_above : {Y : Type 0} (uri : String Y) (es : List (String Y × Entry)) → AllByRecursion (λ k. string_cmp uri k ≡ Less) (map (λ e. e.0) es) → entry_at es (string_bytes uri) ≡ None
none_above uri [] above = refl
none_above uri (e ∷ es) above = ap (λ (o : Ordering). cond (is_eq o) (Some e.1) (entry_at es (string_bytes uri))) above.0 ∙ none_above uri es above.1

find_held : {Y : Type 0} (es : List (String Y × Entry)) (uri : List ℕ) → find (slice_cmp nat_cmp) uri (map (λ e. (string_bytes e.0, entry_view e.1)) es) ≡ option_map (entry_view) (entry_at es uri)
find_held [] uri = refl
find_held (e ∷ es) uri =
    ap (cond (is_eq (slice_cmp nat_cmp uri (string_bytes e.0))) (Some (entry_view e.1))) (find_held es uri)
    ∙ sym (map_cond (entry_view) (is_eq (slice_cmp nat_cmp uri (string_bytes e.0))) e.1 (entry_at es uri))

pub get_held : {Y : Type 0} (es : List (String Y × Entry)) (uri : List ℕ) → get (documents_of es) uri ≡ option_map (entry_view) (entry_at es uri)
get_held es uri = get-from_entries nat_list_cmp_total _ uri ∙ find_held es uri

-- entries that differ at one URI make documents that differ there
pub insert_held : {Y : Type 0} (es fs : List (String Y × Entry)) (uri : List ℕ) (document : Entry) → ((q : List ℕ) → entry_at fs q ≡ cond (bytes_eq uri q) (Some document) (entry_at es q))
    → documents_of fs ≡ insert (documents_of es) uri (entry_view document)
insert_held es fs uri document differs = same_map nat_list_cmp_total (slice_cmp-IsAntisymmetric nat_cmp-IsAntisymmetric) _ _ (λ q.
    get_held fs q ∙ (ap (option_map (entry_view)) (differs q) ∙ (map_cond (entry_view) (bytes_eq uri q) document (entry_at es q)
    ∙ (ap (λ b. cond b (Some (entry_view document)) (option_map (entry_view) (entry_at es q))) (same_test uri q)
    ∙ sym (get-insert nat_list_cmp_total (documents_of es) uri (entry_view document) q ∙ ap (cond (eq_by_cmp (slice_cmp nat_cmp) q uri) (Some (entry_view document))) (get_held es q))))))

-- entries that lack one URI make documents that lack it
pub remove_held : {Y : Type 0} (es fs : List (String Y × Entry)) (uri : List ℕ) → ((q : List ℕ) → entry_at fs q ≡ cond (bytes_eq uri q) None (entry_at es q))
    → documents_of fs ≡ remove (documents_of es) uri
remove_held es fs uri differs = same_map nat_list_cmp_total (slice_cmp-IsAntisymmetric nat_cmp-IsAntisymmetric) _ _ (λ q.
    get_held fs q ∙ (ap (option_map (entry_view)) (differs q)
    ∙ (none_cond (entry_view) (bytes_eq uri q) (entry_at es q) ∙ (ap (λ b. cond b None (option_map (entry_view) (entry_at es q))) (same_test uri q)
    ∙ sym (get-remove nat_list_cmp_total (documents_of es) uri q ∙ ap (cond (eq_by_cmp (slice_cmp nat_cmp) q uri) None) (get_held es q))))))

pub len_held : {Y : Type 0} (es : List (String Y × Entry)) → IsStrictlySortedBy string_cmp (map (λ e. e.0) es) → len (documents_of es) ≡ length es
unfolding IsStrictlySortedBy
len_held [] sorted = len-empty (slice_cmp nat_cmp) DocumentState
len_held (e ∷ es) sorted =
    let new : contains_key (documents_of es) (string_bytes e.0) ≡ false = ap is_some (get_held es (string_bytes e.0) ∙ ap (option_map (entry_view)) (none_above e.0 es sorted.0)) in
    let one : len (documents_of (e ∷ es)) ≡ len (documents_of es) + 1 = len-insert nat_list_cmp_total (documents_of es) (string_bytes e.0) (entry_view e.1)
    ∙ ap (λ b. cond b (len (documents_of es)) (len (documents_of es) + 1)) new in
    omega (arith, one, len_held es sorted.1)

-- one entry fewer
pub remove_current : (language : LanguageData) → {Y : Type 0} (es fs : List (String Y × Entry)) (uri : List ℕ)
    → ((q : List ℕ) → entry_at fs q ≡ cond (bytes_eq uri q) None (entry_at es q)) → AreCurrent language es → AreCurrent language fs
remove_current language es fs uri differs all q d found = by (bytes_eq uri q) (sym (differs q) ∙ found)
  where
    by : (b : Bool) → cond b None (entry_at es q) ≡ Some d → IsEntryOf language d
    by true e = absurd (let f : ⊥ = cc in f)
    by false e = all q d e

-- one more entry
pub insert_current : (language : LanguageData) → {Y : Type 0} (es fs : List (String Y × Entry)) (uri : List ℕ) (document : Entry)
    → ((q : List ℕ) → entry_at fs q ≡ cond (bytes_eq uri q) (Some document) (entry_at es q)) → AreCurrent language es → IsEntryOf language document → AreCurrent language fs
insert_current language es fs uri document differs all is q d found = by (bytes_eq uri q) (sym (differs q) ∙ found)
  where
    by : (b : Bool) → cond b (Some document) (entry_at es q) ≡ Some d → IsEntryOf language d
    by true e = let same : document ≡ d = cc in subst (λ (x : Entry). IsEntryOf language x) same is
    by false e = all q d e

-- what is found has what all have
pub found_current : (language : LanguageData) → {A : Type 0} (f : A → Entry) (result : Option A) (o : Option (Entry)) → option_map f result ≡ o
    → ((d : Entry) → o ≡ Some d → IsEntryOf language d) → IfSome result (λ a. IsEntryOf language (f a))
found_current language f None o e all = tt
found_current language f (Some a) o e all = all (f a) (sym e)

pub map_twice : {A B C : Type 0} (f : A → B) (g : B → C) (o : Option A) → option_map (λ a. g (f a)) o ≡ option_map g (option_map f o)
map_twice f g None = refl
map_twice f g (Some a) = refl

pub is_some_map : {A B : Type 0} (f : A → B) (o : Option A) → is_some (option_map f o) ≡ is_some o
is_some_map f None = refl
is_some_map f (Some a) = refl
