-- Bodies of each kind in turn, laid out as records: found again by kind, their lengths, and where each lies. Over any table.
use Rattle.std.specs.Prelude.{ℕ, zero, suc, ◌+◌, ◌*◌, ◌<◌, ◌≡◌, refl, Bool, true, false, cond, not, List, [], ◌∷◌, ◌++◌, map, eqb, length, take, drop, get_or}
use Rattle.std.proofs.Common.{mul-zero, mul-suc, mul_comm, arith, ap, ap₂, ◌∙◌, append_assoc, append-nil, length-append, take_at, eq-eqb}
use Rattle.std.proofs.Math.Seq.{drop-append-add}
use Rattle.std.proofs.lemmas.Bool.{not-true}
use Rattle.endian.specs.Little.{bytes}
use Rattle.record.specs.Record.{Record, encoded, layout}
use Rattle.record.specs.Parts.{of_kind}
use Rattle.record.specs.All.{AllOf}
use Rattle.record.specs.Laid.{layout_append, length_bodies}
use Rattle.record.specs.RoundTrip.{AllEncodable, encodable_append, length-encoded}
use Rattle.record.specs.Opened.{both_true}
use Rattle.floor.specs.Floor.{Kind}
use Rattle.floor.specs.Numbers.{in_order, bodies_of, body_at}
use Rattle.floor.specs.Kinds.{unlisted, distinct, eqb_turned}
use Rattle.floor.specs.Sorted.{Groups, groups_of, other_kind}

---- The bodies of each kind are found again.
bodies_own : (k : ℕ) (xs : List (List ℕ)) (rs : List Record) → bodies_of k (map (of_kind k) xs ++ rs) ≡ xs ++ bodies_of k rs
unfolding bodies_of
bodies_own k [] rs = refl
bodies_own k (x ∷ xs) rs =
    ap (λ (b : Bool). cond b (x ∷ bodies_of k (map (of_kind k) xs ++ rs)) (bodies_of k (map (of_kind k) xs ++ rs))) (eq-eqb k k refl)
    ∙ ap (λ (t : List (List ℕ)). x ∷ t) (bodies_own k xs rs)

bodies_other : (k j : ℕ) (xs : List (List ℕ)) (rs : List Record) → eqb j k ≡ false → bodies_of k (map (of_kind j) xs ++ rs) ≡ bodies_of k rs
bodies_other k j [] rs e = refl
bodies_other k j (x ∷ xs) rs e = other_kind (of_kind j x) (map (of_kind j) xs ++ rs) k e ∙ bodies_other k j xs rs e

-- none of a kind that is not in the table
none_of : (n : ℕ) (ks : List Kind) (groups : List (List (List ℕ))) → unlisted n ks ≡ true → bodies_of n (in_order ks groups) ≡ []
unfolding bodies_of
none_of n [] groups e = refl
none_of n (k ∷ ks) [] e = refl
none_of n (k ∷ ks) (bodies ∷ groups) e =
    let t = both_true (not (eqb n k.number)) (unlisted n ks) e in
    bodies_other n k.number bodies (in_order ks groups) (eqb_turned n k.number (not-true _ t.0)) ∙ none_of n ks groups t.1

others_same : (n : ℕ) (xs : List (List ℕ)) (rs : List Record) (ks : List Kind) → unlisted n ks ≡ true
    → groups_of ks (map (of_kind n) xs ++ rs) ≡ groups_of ks rs
others_same n xs rs [] e = refl
others_same n xs rs (k ∷ ks) e =
    let t = both_true (not (eqb n k.number)) (unlisted n ks) e in
    ap₂ ◌∷◌ (bodies_other k.number n xs rs (not-true _ t.0)) (others_same n xs rs ks t.1)

pub groups_back : (ks : List Kind) (groups : List (List (List ℕ))) → distinct ks ≡ true → length groups ≡ length ks
    → groups_of ks (in_order ks groups) ≡ groups
groups_back [] [] d e = refl
groups_back [] (bodies ∷ groups) d e = absurd (omega arith)
groups_back (k ∷ ks) [] d e = absurd (omega arith)
groups_back (k ∷ ks) (bodies ∷ groups) d e =
    let t = both_true (unlisted k.number ks) (distinct ks) d in
    ap₂ ◌∷◌
    (bodies_own k.number bodies (in_order ks groups) ∙ ap (λ (x : List (List ℕ)). bodies ++ x) (none_of k.number ks groups t.0) ∙ append-nil bodies)
    (others_same k.number bodies (in_order ks groups) ks t.0 ∙ groups_back ks groups t.1 (omega arith))

---- They can be laid out if those of each kind can.
abbrev pub EachEncodable : List Kind → List (List (List ℕ)) → Type 0
EachEncodable [] groups = Unit {0}
EachEncodable (k ∷ ks) [] = Unit {0}
EachEncodable (k ∷ ks) (bodies ∷ groups) = AllEncodable (map (of_kind k.number) bodies) × EachEncodable ks groups

pub all_encodable : (ks : List Kind) (groups : List (List (List ℕ))) → EachEncodable ks groups → AllEncodable (in_order ks groups)
all_encodable [] groups h = tt
all_encodable (k ∷ ks) [] h = tt
all_encodable (k ∷ ks) (bodies ∷ groups) h = encodable_append (map (of_kind k.number) bodies) (in_order ks groups) h.0 (all_encodable ks groups h.1)

---- Their length is that of each kind in turn.
abbrev pub laid_length : List Kind → List (List (List ℕ)) → ℕ
laid_length [] groups = 0
laid_length (k ∷ ks) [] = 0
laid_length (k ∷ ks) (bodies ∷ groups) = length (layout (map (of_kind k.number) bodies)) + laid_length ks groups

pub length_order : (ks : List Kind) (groups : List (List (List ℕ))) → length (layout (in_order ks groups)) ≡ laid_length ks groups
unfolding layout
length_order [] groups = refl
length_order (k ∷ ks) [] = refl
length_order (k ∷ ks) (bodies ∷ groups) =
    ap length (layout_append (map (of_kind k.number) bodies) (in_order ks groups))
    ∙ length-append (layout (map (of_kind k.number) bodies)) (layout (in_order ks groups))
    ∙ ap (λ (n : ℕ). length (layout (map (of_kind k.number) bodies)) + n) (length_order ks groups)

---- Where each body lies.
-- records of one kind and size in a row, whatever stands behind them
row_at : (k size : ℕ) (xs : List (List ℕ)) (t : List ℕ) (i : ℕ) → AllOf size xs → i < length xs
    → body_at size ((4 + size) * i) (layout (map (of_kind k) xs) ++ t) ≡ get_or xs i []
unfolding layout encoded bytes
row_at k size [] t i h l = absurd (omega arith)
row_at k size (x ∷ xs) t zero h l =
    let rest : List ℕ = layout (map (of_kind k) xs) in
    let n : (4 + size) * 0 + 4 ≡ 4 = omega (arith, mul-zero (4 + size)) in
    ap (λ (m : ℕ). take size (drop m ((encoded (of_kind k x) ++ rest) ++ t))) n
    ∙ ap (take size) (append_assoc x rest t) ∙ take_at x (rest ++ t) size h.0
row_at k size (x ∷ xs) t (suc i) h l =
    let rest : List ℕ = layout (map (of_kind k) xs) in
    let n : (4 + size) * suc i + 4 ≡ length (encoded (of_kind k x)) + ((4 + size) * i + 4) =
    omega (arith, mul-suc (4 + size) i, length-encoded (of_kind k x), h.0) in
    ap (take size) (ap₂ drop n (append_assoc (encoded (of_kind k x)) rest t) ∙ drop-append-add (encoded (of_kind k x)) (rest ++ t) ((4 + size) * i + 4))
    ∙ row_at k size xs t i h.1 (omega arith)

-- the offset behind the first kinds of the table, so many records of each
abbrev pub offset_of : List Kind → List ℕ → ℕ → ℕ
offset_of ks ns zero = 0
offset_of [] ns (suc i) = 0
offset_of (k ∷ ks) [] (suc i) = 0
offset_of (k ∷ ks) (n ∷ ns) (suc i) = (4 + k.size) * n + offset_of ks ns i

abbrev pub size_at : List Kind → ℕ → ℕ
size_at [] i = 0
size_at (k ∷ ks) zero = k.size
size_at (k ∷ ks) (suc i) = size_at ks i

-- none is counted yet
abbrev pub none : List Kind → List ℕ
none ks = map (λ (k : Kind). 0) ks

-- the j-th body of the i-th kind
pub located : (ks : List Kind) (before ms : List ℕ) (groups : List (List (List ℕ))) → Groups ks before (none ks) ms groups → (i j : ℕ)
    → i < length ks → j < length (get_or groups i [])
    → body_at (size_at ks i) (offset_of ks ms i + (4 + size_at ks i) * j) (layout (in_order ks groups)) ≡ get_or (get_or groups i []) j []
located [] before ms groups g i j l m = absurd (omega arith)
located (k ∷ ks) before [] groups g i j l m = absurd g
located (k ∷ ks) before (n ∷ ms) [] g i j l m = absurd g
located (k ∷ ks) before (n ∷ ms) (bodies ∷ groups) g zero j l m =
    let at : 0 + (4 + k.size) * j ≡ (4 + k.size) * j = omega arith in
    ap₂ (body_at k.size) at (layout_append (map (of_kind k.number) bodies) (in_order ks groups))
    ∙ row_at k.number k.size bodies (layout (in_order ks groups)) j g.0.sizes m
located (k ∷ ks) before (n ∷ ms) (bodies ∷ groups) g (suc i) j l m =
    let size = size_at ks i in
    let front = layout (map (of_kind k.number) bodies) in
    let here = length_bodies k.number k.size bodies g.0.sizes in
    let count : n ≡ length bodies = omega (arith, g.0.count) in
    let turned : (4 + k.size) * n ≡ length bodies * (4 + k.size) = ap (λ (x : ℕ). (4 + k.size) * x) count ∙ mul_comm (4 + k.size) (length bodies) in
    let at : (4 + k.size) * n + offset_of ks ms i + (4 + size) * j + 4 ≡ length front + (offset_of ks ms i + (4 + size) * j + 4) = omega (arith, here, turned) in
    ap (take size) (ap₂ drop at (layout_append (map (of_kind k.number) bodies) (in_order ks groups))
    ∙ drop-append-add front (layout (in_order ks groups)) (offset_of ks ms i + (4 + size) * j + 4))
    ∙ located ks (before ++ (n ∷ [])) ms groups g.1 i j (omega arith) m
