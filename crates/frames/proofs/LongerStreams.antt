-- A stream that goes on.
use Rattle.frames.proofs.Std.{◌≡◌, ◌≢◌, ◌+◌, ◌<◌, ◌≤◌, ℕ, zero, suc, List, [], ◌∷◌, ◌++◌, length, take, drop, refl, ap, sym, subst, ◌∙◌, arith, length-drop, append-nil, inl, inr, min, take-append-le, drop-append-le, length-take, cases_lt}
use Rattle.frames.proofs.Common.{Start, NeedsMore, Fails, Announces, FrameFault, Tail, Open, Faulty, Splits, BeginsWith, IsTail, IsBegun, HasSplit, start_of, Continues, GoesOn}
use Rattle.frames.proofs.PrefixDecides.{start_stays, start_within, start_low}

-- a frame lies within the bytes
pub frame_within : (bytes content : List ℕ) (size : ℕ) → BeginsWith bytes content size → size + length content ≤ length bytes
frame_within bytes content size f =
    let e : length content ≡ min (length content) (length (drop size bytes)) = sym (ap length f.follows) ∙ length-take (length content) (drop size bytes) in
    omega (arith, e, length-drop size bytes, start_within bytes size (length content) f.header)

known : (bytes : List ℕ) (size n : ℕ) → start_of bytes ≡ Announces size n → start_of bytes ≢ NeedsMore
known bytes size n h e = let f : Announces size n ≡ NeedsMore = sym h ∙ e in cc

faulty_known : (bytes : List ℕ) (fault : FrameFault) → start_of bytes ≡ Fails fault → start_of bytes ≢ NeedsMore
faulty_known bytes fault h e = let f : Fails fault ≡ NeedsMore = sym h ∙ e in cc

begins_stays : (bytes more content : List ℕ) (size : ℕ) → BeginsWith bytes content size → BeginsWith (bytes ++ more) content size
begins_stays bytes more content size f =
    let within = frame_within bytes content size f in
    record {
      header = start_stays bytes more (known bytes size (length content) f.header) ∙ f.header;
      follows = ap (take (length content)) (drop-append-le size bytes more (omega (arith, within)))
          ∙ (take-append-le (length content) (drop size bytes) more (omega (arith, within, length-drop size bytes)) ∙ f.follows);
    }

-- what is split stays so, and the rest goes on with the piece
pub goes_on : (bytes piece : List ℕ) (before contents : List (List ℕ)) (rest : List ℕ) (tail : Tail) → Splits bytes before (Open rest)
    → Splits (rest ++ piece) contents tail → Splits (bytes ++ piece) (before ++ contents) tail
goes_on bytes piece [] contents rest tail s t = subst (λ (b : List ℕ). Splits (b ++ piece) contents tail) (sym s.0) t
goes_on bytes piece (content ∷ before) contents rest tail s t =
    let k = s.0 + length content in
    let within = frame_within bytes content s.0 s.1 in (
      s.0,
      begins_stays bytes piece content s.0 s.1,
      subst (λ (b : List ℕ). Splits b (before ++ contents) tail)
          (sym (drop-append-le k bytes piece within)) (goes_on (drop k bytes) piece before contents rest tail s.2 t),
    )

-- a fault stays
pub fault_stays : (bytes piece : List ℕ) (before : List (List ℕ)) (fault : FrameFault) → Splits bytes before (Faulty fault) → Splits (bytes ++ piece) before (Faulty fault)
fault_stays bytes piece [] fault s = start_stays bytes piece (faulty_known bytes fault s) ∙ s
fault_stays bytes piece (content ∷ before) fault s =
    let k = s.0 + length content in
    let within = frame_within bytes content s.0 s.1 in (
      s.0,
      begins_stays bytes piece content s.0 s.1,
      subst (λ (b : List ℕ). Splits b before (Faulty fault))
          (sym (drop-append-le k bytes piece within)) (fault_stays (drop k bytes) piece before fault s.2),
    )

-- a whole frame is neither begun nor faulty
begun_not_whole : (bytes content rest : List ℕ) (size : ℕ) → BeginsWith bytes content size → IsTail bytes (Open rest) → ⊥
begun_not_whole bytes content rest size f t =
    let short : length bytes < size + length content = subst (IsBegun bytes) f.header t.1 in
    absurd (omega (arith, short, frame_within bytes content size f))

-- there is one split at most
pub one_tail : (bytes : List ℕ) (t u : Tail) → IsTail bytes t → IsTail bytes u → t ≡ u
one_tail bytes (Open r) (Open s) t u = ap (λ l. Open l) (sym t.0 ∙ u.0)
one_tail bytes (Open r) (Faulty f) t u = absurd (subst (IsBegun bytes) u t.1)
one_tail bytes (Faulty f) (Open r) t u = absurd (subst (IsBegun bytes) t u.1)
one_tail bytes (Faulty f) (Faulty g) t u = let e : Fails f ≡ Fails g = sym t ∙ u in let same : f ≡ g = cc in ap (λ x. Faulty x) same

not_both : (bytes content : List ℕ) (size : ℕ) (t : Tail) → BeginsWith bytes content size → IsTail bytes t → ⊥
not_both bytes content size (Open r) f t = begun_not_whole bytes content r size f t
not_both bytes content size (Faulty g) f t = let e : Announces size (length content) ≡ Fails g = sym f.header ∙ t in cc

pub one_split : (bytes : List ℕ) (cs ds : List (List ℕ)) (t u : Tail) → Splits bytes cs t → Splits bytes ds u → (cs ≡ ds) × (t ≡ u)
one_split bytes [] [] t u s r = (refl, one_tail bytes t u s r)
one_split bytes [] (d ∷ ds) t u s r = absurd (not_both bytes d r.0 t r.1 s)
one_split bytes (c ∷ cs) [] t u s r = absurd (not_both bytes c s.0 u s.1 r)
one_split bytes (c ∷ cs) (d ∷ ds) t u s r =
    let e : Announces s.0 (length c) ≡ Announces r.0 (length d) = sym s.1.header ∙ r.1.header in
    let sizes : s.0 ≡ r.0 = cc in
    let lens : length c ≡ length d = cc in
    let same : c ≡ d = sym s.1.follows ∙ (λ i. take (lens i) (drop (sizes i) bytes)) ∙ r.1.follows in
    let left = subst (λ k. Splits (drop k bytes) cs t) (λ i. sizes i + lens i) s.2 in
    let rest = one_split (drop (r.0 + length d) bytes) cs ds t u left r.2 in
    ((λ i. same i ∷ rest.0 i), rest.1)

-- bytes that begin no whole frame are a tail
tail_splits : (bytes : List ℕ) (tail : Tail) → IsTail bytes tail → HasSplit bytes
tail_splits bytes tail h = ([], tail, h)

-- a frame after which the bytes have a split
frame_splits : (bytes content : List ℕ) (size : ℕ) → BeginsWith bytes content size → HasSplit (drop (size + length content) bytes) → HasSplit bytes
frame_splits bytes content size f rest = (content ∷ rest.0, rest.1, (size, f, rest.2))

content_long : (bytes : List ℕ) (size n : ℕ) → size + n ≤ length bytes → length (take n (drop size bytes)) ≡ n
content_long bytes size n room = omega (arith, length-take n (drop size bytes), length-drop size bytes)

announced : (bytes : List ℕ) (size n : ℕ) → start_of bytes ≡ Announces size n → size + n ≤ length bytes → BeginsWith bytes (take n (drop size bytes)) size
announced bytes size n h room =
    let long = content_long bytes size n room in
    record { header = h ∙ ap (Announces size) (sym long); follows = ap (λ k. take k (drop size bytes)) long }

-- a stream has a split if each shorter one has
split_from : (bytes : List ℕ) → ((rest : List ℕ) → length rest < length bytes → HasSplit rest) → (s : Start) → start_of bytes ≡ s → HasSplit bytes
split_from bytes shorter NeedsMore h = tail_splits bytes (Open bytes) (refl, subst (IsBegun bytes) (sym h) tt)
split_from bytes shorter (Fails f) h = tail_splits bytes (Faulty f) h
split_from bytes shorter (Announces size n) h = elim (cases_lt (length bytes) (size + n)) [
  | inl few ↦ tail_splits bytes (Open bytes) (refl, subst (IsBegun bytes) (sym h) few)
  | inr room ↦
      let content = take n (drop size bytes) in
      let left : length (drop (size + length content) bytes) < length bytes =
      omega (arith, length-drop (size + length content) bytes, content_long bytes size n room, start_low bytes size n h, room) in
      frame_splits bytes content size (announced bytes size n h room) (shorter (drop (size + length content) bytes) left)
]

split_within : (k : ℕ) (bytes : List ℕ) → length bytes ≤ k → HasSplit bytes
split_within zero bytes bound = split_from bytes (λ rest less. absurd (omega (arith, bound, less))) (start_of bytes) refl
split_within (suc k) bytes bound = split_from bytes (λ rest less. split_within k rest (omega (arith, bound, less))) (start_of bytes) refl

-- each stream has a split: a frame has two bytes at least, so fewer are left after it
pub some_split : (bytes : List ℕ) → HasSplit bytes
some_split bytes = split_within (length bytes) bytes (omega arith)

pub goes_on_from : (old : Tail) (piece : List ℕ) (contents : List (List ℕ)) (new : Tail) → Continues old piece contents new → GoesOn old piece contents new
goes_on_from (Open rest) piece contents new h bytes before s = goes_on bytes piece before contents rest new s h
goes_on_from (Faulty fault) piece contents new h bytes before s =
    let P : List (List ℕ) → Tail → Type 0 = Splits (bytes ++ piece) in
    subst (λ t. P (before ++ contents) t) (sym h.1) (subst (λ cs. P cs (Faulty fault)) (sym (ap (λ cs. before ++ cs) h.0 ∙ append-nil before)) (fault_stays bytes piece before fault s))

-- each piece makes something of each tail
pub some_going_on : (old : Tail) (piece : List ℕ) → (contents : List (List ℕ)) × (new : Tail) × GoesOn old piece contents new
some_going_on (Open rest) piece = let s = some_split (rest ++ piece) in (s.0, s.1, goes_on_from (Open rest) piece s.0 s.1 s.2)
some_going_on (Faulty fault) piece = ([], Faulty fault, goes_on_from (Faulty fault) piece [] (Faulty fault) (refl, refl))
