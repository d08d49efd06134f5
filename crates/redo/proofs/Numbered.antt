-- Rows by their fields: one that commit numbers, one that restart enters from the log. Commit and restart make the same row,
-- so the online table and the log speak of the same records. Lists of such rows: their width, their numbers.
use Prim.Native.Nat.{ℕ, suc, ◌+◌, ◌≤◌, ◌<◌}
use native.Mathlib.Omega.{arith}
use mathlib.Core.Path.{◌≡◌, refl, sym, ap, ◌∙◌}
use mathlib.Core.Logic.{inl}
use mathlib.Core.Bool.{Bool, true, false, not, ◌&&◌, not-not}
use mathlib.Core.List.{List, [], ◌∷◌, ◌++◌}
use lib.ListN.{length, get_or, set, replicate, length-append, length-set, get_or-append}
use lib.Seq.{ext_get_or, take_at, get_or_at, length-take-le}
use lib.Dec.{leb, ltb}
use borrow.Author.Tests.{eqb-true, eq-eqb, ne_eqb, leb-true, ltb-true, ltb-false, lt-ltb, le-leb}
use Rattle.word.proofs.Puts.{get_d_put_below, num_put, take_put}
use Rattle.word.proofs.Tests.{and_both}
use Rattle.record.specs.Rows.{keep}
use Rattle.record.specs.Record.{page_of, offset_of, length_of, kind_of, value_of, owner_of, number_of, committed, owned_by, body_of, well_formed, numbered, entered}
use Rattle.record.proofs.Laws.{numbered_owner}
use Rattle.record.proofs.Rows.{Wide, none, one, length_numbered, length_entered}
use Rattle.rules.specs.Sound.{every, pairs}
use Rattle.rules.proofs.Every.{every_imp}
use Rattle.redo.proofs.Bytes.{Agree, num_agree, put_outside, put_inside}
use Rattle.redo.proofs.View.{SameBody, body_page, body_offset, body_length, numbered_body, entered_body}
use Rattle.redo.proofs.Views.{keep_all, keep_none}
use Rattle.redo.proofs.Loose.{numbered_from}

-- the fields of a body say whether a record is well formed
pub body_formed : (size pages : ℕ) (r s : List ℕ) → SameBody r s → well_formed size pages r ≡ well_formed size pages s
unfolding well_formed
body_formed size pages r s e =
    let p : page_of r ≡ page_of s = body_page r s e in
    let o : offset_of r ≡ offset_of s = body_offset r s e in
    let w : length_of r ≡ length_of s = body_length r s e in
    let k : kind_of r ≡ kind_of s = e 5 (omega arith) (omega arith) in
    let v : value_of r ≡ value_of s = num_agree 8 r s 6 (λ i p q. e i (omega arith) (omega arith)) in
    rw (p, o, w, k, v)

-- a row of the log's record b, with its number
module _ (b : List ℕ) (k : ℕ) (h : length b ≡ 14) where
  blank : length (b ++ replicate 5 0) ≡ 19
  blank = length-append b (replicate 5 0) ∙ ap (λ (n : ℕ). n + 5) h

  pub entered_same : SameBody (entered b k) b
  unfolding entered
  entered_same i p q =
      let m : i < length b = omega arith in
      put_outside 4 (b ++ replicate 5 0) 15 k i (inl (omega arith)) ∙ get_or-append b (replicate 5 0) 0 i m

  pub entered_owner : owner_of (entered b k) ≡ 0
  unfolding entered
  entered_owner = get_d_put_below 4 (b ++ replicate 5 0) 15 k 14 (omega arith) ∙ get_or_at b 0 (replicate 4 0) 0 14 h

  pub entered_committed : committed (entered b k) ≡ true
  entered_committed = eq-eqb (owner_of (entered b k)) 0 entered_owner

  pub entered_number : k ≤ 4294967295 → number_of (entered b k) ≡ k
  unfolding entered
  entered_number p =
      let m : 15 + 4 ≤ length (b ++ replicate 5 0) = omega (arith, blank) in
      let q : k < 4294967296 = omega arith in
      num_put 4 (b ++ replicate 5 0) 15 k m q

  pub entered_page : page_of (entered b k) ≡ page_of b
  entered_page = body_page (entered b k) b entered_same

  pub entered_bytes : body_of (entered b k) ≡ b
  unfolding entered
  entered_bytes = take_put 4 (b ++ replicate 5 0) 15 k 14 (omega arith) ∙ take_at b (replicate 5 0) 14 h

  pub entered_formed : (size pages : ℕ) → well_formed size pages (entered b k) ≡ well_formed size pages b
  entered_formed size pages = body_formed size pages (entered b k) b entered_same

-- an online row that is committed under a number
module _ (r : List ℕ) (k : ℕ) (h : length r ≡ 19) where
  cleared : length (set r 14 0) ≡ 19
  cleared = length-set r 14 0 ∙ h

  pub numbered_committed : committed (numbered r k) ≡ true
  numbered_committed = eq-eqb (owner_of (numbered r k)) 0 (numbered_owner r k h)

  pub numbered_number : k ≤ 4294967295 → number_of (numbered r k) ≡ k
  unfolding numbered
  numbered_number p =
      let m : 15 + 4 ≤ length (set r 14 0) = omega (arith, cleared) in
      let q : k < 4294967296 = omega arith in
      num_put 4 (set r 14 0) 15 k m q

-- the numbers are the same bytes
tails : (r b : List ℕ) (k : ℕ) → length r ≡ 19 → length b ≡ 14 → Agree 15 4 (numbered r k) (entered b k)
unfolding numbered entered
tails r b k h n =
    put_inside 4 (set r 14 0) (b ++ replicate 5 0) 15 k (omega (arith, cleared r k h)) (omega (arith, blank b k n))

-- what commit makes of an online row is what restart makes of its record in the log
pub numbered_entered : (r : List ℕ) (k : ℕ) → length r ≡ 19 → numbered r k ≡ entered (body_of r) k
numbered_entered r k h = ext_get_or 0 (numbered r k) (entered (body_of r) k) (length_numbered r k ∙ h ∙ sym (length_entered (body_of r) k n)) (λ i p. at i p)
  where
    n : length (body_of r) ≡ 14
    n = length-take-le 14 r (omega arith)

    behind : (i : ℕ) → 15 ≤ i → i < 15 + 4 → get_or (numbered r k) i 0 ≡ get_or (entered (body_of r) k) i 0
    behind = tails r (body_of r) k h n

    at : (i : ℕ) → i < length (numbered r k) → get_or (numbered r k) i 0 ≡ get_or (entered (body_of r) k) i 0
    at i p = go (ltb i 14) (ltb i 15) refl refl
      where
        go : (s t : Bool) → ltb i 14 ≡ s → ltb i 15 ≡ t → get_or (numbered r k) i 0 ≡ get_or (entered (body_of r) k) i 0
        go true t e f =
            let q : i < 14 = ltb-true i 14 e in
            numbered_body r k i (omega arith) q ∙ sym (entered_body r k (omega arith) i (omega arith) q)
        go false true e f =
            let q : i ≡ 14 = omega (arith, ltb-false i 14 e, ltb-true i 15 f) in
            rw q (numbered_owner r k h ∙ sym (entered_owner (body_of r) k n))
        go false false e f = behind i (ltb-false i 15 f) (omega (arith, length_numbered r k))

-- committed rows: no test for uncommitted ones picks any of them
pub keep_open_none : (a : List (List ℕ)) → every committed a ≡ true → keep (λ (r : List ℕ). not (committed r)) a ≡ []
keep_open_none a h =
    keep_none (λ (r : List ℕ). not (committed r)) a
    (every_imp committed (λ (r : List ℕ). not (not (committed r))) (λ (r : List ℕ) e. not-not (committed r) ∙ e) a h)

-- an owner has none of them
not_owned : (x : ℕ) → 1 ≤ x → (r : List ℕ) → committed r ≡ true → not (owned_by x r) ≡ true
not_owned x p r h =
    let e : owner_of r ≡ 0 = eqb-true (owner_of r) 0 h in
    ap not (ne_eqb (owner_of r) x (λ f. omega arith))

pub every_not_owned : (x : ℕ) (a : List (List ℕ)) → 1 ≤ x → every committed a ≡ true → every (λ (r : List ℕ). not (owned_by x r)) a ≡ true
every_not_owned x a p h = every_imp committed (λ (r : List ℕ). not (owned_by x r)) (not_owned x p) a h

pub keep_others_all : (x : ℕ) (a : List (List ℕ)) → 1 ≤ x → every committed a ≡ true → keep (λ (r : List ℕ). not (owned_by x r)) a ≡ a
keep_others_all x a p h = keep_all (λ (r : List ℕ). not (owned_by x r)) a (every_not_owned x a p h)

-- rows numbered one after another: in two parts, how many
pub numbered_from_append : (k : ℕ) (a b : List (List ℕ)) → numbered_from k (a ++ b) ≡ numbered_from k a ++ numbered_from (k + length a) b
unfolding numbered_from
numbered_from_append k [] b = let e : k + 0 ≡ k = omega arith in rw e
numbered_from_append k (x ∷ a) b =
    let e : k + 1 + length a ≡ k + suc (length a) = omega arith in
    ap (λ (l : List (List ℕ)). entered x k ∷ l) (numbered_from_append (k + 1) a b)
    ∙ ap (λ (n : ℕ). entered x k ∷ numbered_from (k + 1) a ++ numbered_from n b) e

pub numbered_from_length : (k : ℕ) (l : List (List ℕ)) → length (numbered_from k l) ≡ length l
unfolding numbered_from
numbered_from_length k [] = refl
numbered_from_length k (x ∷ l) = ap suc (numbered_from_length (k + 1) l)

-- they have the width of online rows, and are committed
pub numbered_from_wide : (k : ℕ) {l : List (List ℕ)} → Wide 14 l → Wide 19 (numbered_from k l)
unfolding numbered_from
numbered_from_wide k none = none
numbered_from_wide k (one {r = b} {rs = l} e h) = one (length_entered b k e) (numbered_from_wide (k + 1) h)

pub numbered_from_committed : (k : ℕ) {l : List (List ℕ)} → Wide 14 l → every committed (numbered_from k l) ≡ true
unfolding numbered_from every
numbered_from_committed k none = refl
numbered_from_committed k (one {r = b} {rs = l} e h) = rw (entered_committed b k e) (numbered_from_committed (k + 1) h)

-- and well formed, if their records are
pub numbered_from_formed : (size pages k : ℕ) {l : List (List ℕ)} → Wide 14 l → every (well_formed size pages) l ≡ true → every (well_formed size pages) (numbered_from k l) ≡ true
unfolding numbered_from every
numbered_from_formed size pages k none f = refl
numbered_from_formed size pages k (one {r = b} {rs = l} e h) f =
    let g : (well_formed size pages b ≡ true) × (every (well_formed size pages) l ≡ true) = and_both (well_formed size pages b) (every (well_formed size pages) l) f in
    rw (entered_formed b k e size pages ∙ g.0) (numbered_from_formed size pages (k + 1) h g.1)

-- their numbers are those from k on
pub numbered_from_between : (low high k : ℕ) {l : List (List ℕ)} → Wide 14 l → low ≤ k → k + length l ≤ high → high ≤ 4294967296
    → every (λ (r : List ℕ). leb low (number_of r) && ltb (number_of r) high) (numbered_from k l) ≡ true
unfolding numbered_from every
numbered_from_between low high k none p q m = refl
numbered_from_between low high k (one {r = b} {rs = l} e h) p q m =
    let n : number_of (entered b k) ≡ k = entered_number b k e (omega arith) in
    let f : leb low (number_of (entered b k)) ≡ true = le-leb low (number_of (entered b k)) (omega arith) in
    let g : ltb (number_of (entered b k)) high ≡ true = lt-ltb (number_of (entered b k)) high (omega arith) in
    rw (f, g) (numbered_from_between low high (k + 1) h (omega arith) (omega arith) m)

pub numbered_from_from : (k : ℕ) {l : List (List ℕ)} → Wide 14 l → k + length l ≤ 4294967296
    → every (λ (r : List ℕ). leb k (number_of r) && ltb (number_of r) (k + length l)) (numbered_from k l) ≡ true
numbered_from_from k {l} h m = numbered_from_between k (k + length l) k h (omega arith) (omega arith) m

-- each greater than those before it
pub numbered_from_rising : (k : ℕ) {l : List (List ℕ)} → Wide 14 l → k + length l ≤ 4294967296
    → pairs (λ (a b : List ℕ). ltb (number_of a) (number_of b)) (numbered_from k l) ≡ true
unfolding numbered_from pairs
numbered_from_rising k none m = refl
numbered_from_rising k (one {r = b} {rs = l} e h) m =
    let n : number_of (entered b k) ≡ k = entered_number b k e (omega arith) in
    let f : every (λ (r : List ℕ). ltb (number_of (entered b k)) (number_of r)) (numbered_from (k + 1) l) ≡ true =
    every_imp (λ (r : List ℕ). leb (k + 1) (number_of r) && ltb (number_of r) (k + 1 + length l)) (λ (r : List ℕ). ltb (number_of (entered b k)) (number_of r))
    (λ (r : List ℕ) t. lt-ltb (number_of (entered b k)) (number_of r) (omega (arith, leb-true (k + 1) (number_of r) (and_both (leb (k + 1) (number_of r)) (ltb (number_of r) (k + 1 + length l)) t).0)))
    (numbered_from (k + 1) l) (numbered_from_from (k + 1) h (omega arith)) in
    rw f (numbered_from_rising (k + 1) h (omega arith))
