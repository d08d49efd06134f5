-- What a reader sees: the committed updates and its own. Those of other live owners share no byte with what a read may ask for,
-- so that a frame, which has them all, shows in those bytes what the history shows.
use Prim.Native.Nat.{ℕ, ◌+◌, ◌≤◌, ◌<◌}
use native.Mathlib.Omega.{arith}
use mathlib.Core.Path.{◌≡◌, refl, sym, ap, ◌∙◌}
use mathlib.Core.Bool.{Bool, true, false, not, ◌&&◌, ◌||◌, and-true, and-false}
use mathlib.Core.List.{List, [], ◌∷◌, ◌++◌}
use lib.ListN.{length, get_or, drop}
use lib.Seq.{ext_get_or, get_or-take, get_or-drop}
use lib.Dec.{eqb, leb, ltb}
use borrow.Author.Tests.{eqb-true, eqb-false, ne_eqb, not-true}
use Rattle.word.specs.Word.{num}
use Rattle.word.proofs.Tests.{and_both}
use Rattle.record.specs.Part.{part}
use Rattle.record.specs.Rows.{keep, any}
use Rattle.record.specs.Record.{page_of, offset_of, length_of, kind_of, value_of, owner_of, number_of, committed, apply, applied, on_page, committed_on, owned_by, free}
use Rattle.record.proofs.Parts.{length_part}
use Rattle.rules.proofs.Every.{every_kept_where, every_imp}
use Rattle.record.proofs.Changes.{length_applied}
use Rattle.rules.specs.Lent.{stamp_at}
use Rattle.rules.specs.Sound.{every, pairs, apart}
use Rattle.rules.specs.Calls.{clashes}
use Rattle.redo.proofs.Bytes.{Agree, change_outside}
use Rattle.redo.proofs.Commute.{Disjoint, ranges, disjoint_outside}
use Rattle.redo.proofs.Order.{◌≈◌, as_is, swap, behind, both, parts, ≈-picked, stable_partition}
use Rattle.redo.proofs.View.{applied_append, keep_append}
use Rattle.redo.proofs.Loose.{or_swap}
use Rattle.redo.proofs.Views.{keep_same, keep_both, keep_same_where, keep_none, rising, page_up_to, stored_then_online}

-- two tests that all pass imply a third
pub every_both : (b c d : List ℕ → Bool) → ((r : List ℕ) → b r ≡ true → c r ≡ true → d r ≡ true) → (l : List (List ℕ)) → every b l ≡ true → every c l ≡ true → every d l ≡ true
unfolding every
every_both b c d f [] h k = refl
every_both b c d f (r ∷ l) h k =
    let s : (b r ≡ true) × (every b l ≡ true) = and_both (b r) (every b l) h in
    let t : (c r ≡ true) × (every c l ≡ true) = and_both (c r) (every c l) k in
    rw (f r s.0 t.0) (every_both b c d f l s.1 t.1)

-- a test of each two implies another, where all pass a test
pub pairs_where : (c : List ℕ → Bool) (b d : List ℕ → List ℕ → Bool) → ((x y : List ℕ) → c x ≡ true → c y ≡ true → b x y ≡ true → d x y ≡ true) → (l : List (List ℕ)) → every c l ≡ true → pairs b l ≡ true → pairs d l ≡ true
unfolding every pairs
pairs_where c b d f [] h k = refl
pairs_where c b d f (x ∷ l) h k =
    let s : (c x ≡ true) × (every c l ≡ true) = and_both (c x) (every c l) h in
    let t : (every (b x) l ≡ true) × (pairs b l ≡ true) = and_both (every (b x) l) (pairs b l) k in
    rw (every_both c (b x) (d x) (λ y. f x y s.0) l s.1 t.0) (pairs_where c b d f l s.1 t.1)

-- none passes: each fails
pub none_each : (b : List ℕ → Bool) (l : List (List ℕ)) → any b l ≡ false → every (λ (r : List ℕ). not (b r)) l ≡ true
unfolding any every
none_each b [] h = refl
none_each b (r ∷ l) h = pick (b r) h (none_each b l)
  where
    pick : (t : Bool) → (t || any b l) ≡ false → (any b l ≡ false → every (λ (x : List ℕ). not (b x)) l ≡ true) → (not t && every (λ (x : List ℕ). not (b x)) l) ≡ true
    pick true e f = let z : ◌≡◌ {A = ℕ} 0 1 = cc in absurd (omega arith)
    pick false e f = f e

-- the bytes of a part, one by one
pub part_agree : (a k : ℕ) (g h : List ℕ) → length g ≡ length h → a + k ≤ length g → Agree a k g h → part a k g ≡ part a k h
part_agree a k g h n m e =
    let m' : a + k ≤ length h = omega arith in
    ext_get_or 0 (part a k g) (part a k h) (length_part a k g m ∙ sym (length_part a k h m')) (λ i b. at i (omega (arith, length_part a k g m)))
  where
    inside : (l : List ℕ) (i : ℕ) → i < k → get_or (part a k l) i 0 ≡ get_or l (a + i) 0
    inside l i b = get_or-take k (drop a l) i 0 b ∙ get_or-drop a l i 0

    at : (i : ℕ) → i < k → get_or (part a k g) i 0 ≡ get_or (part a k h) i 0
    at i b = inside g i b ∙ e (a + i) (omega arith) (omega arith) ∙ sym (inside h i b)

-- a record has no byte in common with w bytes from an offset on
unfoldable pub misses : ℕ → ℕ → List ℕ → Bool
misses offset w r = not (ltb (offset_of r) (offset + w) && ltb offset (offset_of r + length_of r))

-- records that miss bytes leave them
apply_misses : (offset w : ℕ) (r g : List ℕ) → misses offset w r ≡ true → Agree offset w (apply r g) g
unfolding misses apply
apply_misses offset w r g h i p q =
    let t : (ltb (offset_of r) (offset + w) && ltb offset (offset_of r + length_of r)) ≡ false = not-true (ltb (offset_of r) (offset + w) && ltb offset (offset_of r + length_of r)) h in
    let d : Disjoint (offset_of r) (length_of r) offset w = ranges (offset_of r) (length_of r) offset w t in
    change_outside (offset_of r) (length_of r) (kind_of r) (value_of r) g i (disjoint_outside (offset_of r) (length_of r) offset w i d p q)

pub applied_misses : (offset w : ℕ) (l : List (List ℕ)) (g : List ℕ) → every (misses offset w) l ≡ true → Agree offset w (applied l g) g
unfolding applied every
applied_misses offset w [] g h i p q = refl
applied_misses offset w (r ∷ l) g h i p q =
    let s : (misses offset w r ≡ true) × (every (misses offset w) l ≡ true) = and_both (misses offset w r) (every (misses offset w) l) h in
    applied_misses offset w l (apply r g) s.1 i p q ∙ apply_misses offset w r g s.0 i p q

-- another owner's record of the page that does not clash with a reader's bytes misses them
clear_misses : (x p offset w : ℕ) (r : List ℕ) → (on_page p r && not (owned_by x r)) ≡ true → not (committed r) ≡ true → not (clashes x p offset w r) ≡ true → misses offset w r ≡ true
unfolding clashes misses
clear_misses x p offset w r h k m = go (not (committed r)) (not (owned_by x r)) (on_page p r) (ltb (offset_of r) (offset + w)) (ltb offset (offset_of r + length_of r)) h k m
  where
    go : (a b c s t : Bool) → (c && b) ≡ true → a ≡ true → not (a && b && (c && s && t)) ≡ true → not (s && t) ≡ true
    go true true true s t e f i = i
    go a false true s t e f i = let z : ◌≡◌ {A = ℕ} 0 1 = cc in absurd (omega arith)
    go a b false s t e f i = let z : ◌≡◌ {A = ℕ} 0 1 = cc in absurd (omega arith)
    go false true true s t e f i = let z : ◌≡◌ {A = ℕ} 0 1 = cc in absurd (omega arith)

-- uncommitted records that are apart may be put in order of their owners, one owner's first
pub apart_parts : (x : ℕ) (o : List (List ℕ)) → every (λ (r : List ℕ). not (committed r)) o ≡ true → pairs apart o ≡ true → pairs (parts (owned_by x)) o ≡ true
unfolding apart
apart_parts x o h k = pairs_where (λ (r : List ℕ). not (committed r)) apart (parts (owned_by x)) two o h k
  where
    two : (a b : List ℕ) → not (committed a) ≡ true → not (committed b) ≡ true → apart a b ≡ true → parts (owned_by x) a b ≡ true
    two a b s t e = go (committed a) (committed b) (owned_by x a) (owned_by x b) refl refl s t e
      where
        go : (c d i j : Bool) → owned_by x a ≡ i → owned_by x b ≡ j → not c ≡ true → not d ≡ true → (c || d || eqb (owner_of a) (owner_of b) || free a b) ≡ true → (i || not j || free a b) ≡ true
        go c d true j u v y z f = refl
        go c d false false u v y z f = refl
        go true d false true u v y z f = let q : ◌≡◌ {A = ℕ} 0 1 = cc in absurd (omega arith)
        go false true false true u v y z f = let q : ◌≡◌ {A = ℕ} 0 1 = cc in absurd (omega arith)
        go false false false true u v y z f =
            let n : eqb (owner_of a) (owner_of b) ≡ false = ne_eqb (owner_of a) (owner_of b) (λ m. eqb-false (owner_of a) x u (m ∙ eqb-true (owner_of b) x v)) in
            rw n at f

-- a list of records in two parts: the page sees one, then the other
pub two_parts : (p : ℕ) (c : List ℕ → Bool) → ((r : List ℕ) → c r ≡ true → page_of r ≡ p) → (l k m : List (List ℕ)) → l ≈ k ++ m → (g : List ℕ) → applied (keep c l) g ≡ applied (keep c m) (applied (keep c k) g)
two_parts p c on l k m e g = ≈-picked p c on e g ∙ ap (λ (z : List (List ℕ)). applied z g) (keep_append c k m) ∙ applied_append (keep c k) (keep c m) g

-- online are the committed records above a test, then the uncommitted: what a page makes of them
pub online_view : (p : ℕ) (above : List ℕ → Bool) (online rows o : List (List ℕ)) → online ≈ keep above rows ++ o → (g : List ℕ) → applied (keep (on_page p) online) g ≡ applied (keep (on_page p) o) (applied (keep (on_page p) (keep above rows)) g)
online_view p above online rows o e g = two_parts p (on_page p) (λ r h. eqb-true (page_of r) p h) online (keep above rows) o e g

-- a page with uncommitted records is the page with one owner's, then with the others'
pub own_first : (x p : ℕ) (o : List (List ℕ)) → every (λ (r : List ℕ). not (committed r)) o ≡ true → pairs apart o ≡ true → (g : List ℕ) → applied (keep (on_page p) o) g ≡ applied (keep (λ (r : List ℕ). on_page p r && not (owned_by x r)) o) (applied (keep (λ (r : List ℕ). on_page p r && owned_by x r) o) g)
own_first x p o h k g =
    two_parts p (on_page p) (λ r e. eqb-true (page_of r) p e) o (keep (owned_by x) o) (keep (λ (r : List ℕ). not (owned_by x r)) o) (stable_partition (owned_by x) o (apart_parts x o h k)) g
    ∙ ap (λ (z : List (List ℕ)). applied z (applied (keep (on_page p) (keep (owned_by x) o)) g)) (keep_both (on_page p) (λ (r : List ℕ). not (owned_by x r)) o)
    ∙ ap (λ (z : List (List ℕ)). applied (keep (λ (r : List ℕ). on_page p r && not (owned_by x r)) o) (applied z g)) (keep_both (on_page p) (owned_by x) o)

-- a reader that is not refused for held bytes sees in them its own updates alone
pub own_bytes : (x p offset w : ℕ) (o : List (List ℕ)) → every (λ (r : List ℕ). not (committed r)) o ≡ true → pairs apart o ≡ true → any (clashes x p offset w) o ≡ false → (g : List ℕ) → offset + w ≤ length g → part offset w (applied (keep (on_page p) o) g) ≡ part offset w (applied (keep (λ (r : List ℕ). on_page p r && owned_by x r) o) g)
own_bytes x p offset w o h k n g m =
    ap (λ (z : List ℕ). part offset w z) (own_first x p o h k g)
    ∙ part_agree offset w (applied others mine) mine (length_applied others mine) room (applied_misses offset w others mine clear)
  where
    own : List (List ℕ)
    own = keep (λ (r : List ℕ). on_page p r && owned_by x r) o

    others : List (List ℕ)
    others = keep (λ (r : List ℕ). on_page p r && not (owned_by x r)) o

    mine : List ℕ
    mine = applied own g

    room : offset + w ≤ length (applied others mine)
    room = omega (arith, length_applied others mine, length_applied own g)

    free_to_read : List ℕ → Bool
    free_to_read r = not (committed r) && not (clashes x p offset w r)

    clear : every (misses offset w) others ≡ true
    clear =
        every_kept_where (λ (r : List ℕ). on_page p r && not (owned_by x r)) free_to_read (misses offset w)
        (λ r a b. let s : (not (committed r) ≡ true) × (not (clashes x p offset w r) ≡ true) = and_both (not (committed r)) (not (clashes x p offset w r)) b in clear_misses x p offset w r a s.0 s.1)
        o
        (every_both (λ (r : List ℕ). not (committed r)) (λ (r : List ℕ). not (clashes x p offset w r)) free_to_read (λ r a b. rw (a, b)) o h (none_each (clashes x p offset w) o n))

-- what the history shows a reader, in the bytes that it asks for: the committed updates, then all the uncommitted
pub shown_bytes : (x p offset w : ℕ) (made rows o : List (List ℕ)) → made ≈ rows ++ o → every committed rows ≡ true → every (λ (r : List ℕ). not (committed r)) o ≡ true → pairs apart o ≡ true → any (clashes x p offset w) o ≡ false → (g : List ℕ) → offset + w ≤ length g
    → part offset w (applied (keep (λ (r : List ℕ). on_page p r && (committed r || owned_by x r)) made) g) ≡ part offset w (applied (keep (on_page p) o) (applied (keep (on_page p) rows) g))
shown_bytes x p offset w made rows o e c h k n g m =
    ap (λ (z : List ℕ). part offset w z)
    (two_parts p sees (λ r q. eqb-true (page_of r) p (and_both (on_page p r) (committed r || owned_by x r) q).0) made rows o e g
    ∙ ap (λ (z : List (List ℕ)). applied (keep sees o) (applied z g)) (keep_same_where committed sees (on_page p) (λ r q. all r (committed r) q) rows c)
    ∙ ap (λ (z : List (List ℕ)). applied z page) (keep_same_where (λ (r : List ℕ). not (committed r)) sees (λ (r : List ℕ). on_page p r && owned_by x r) (λ r q. own r (committed r) q) o h))
    ∙ sym (own_bytes x p offset w o h k n page (omega (arith, length_applied (keep (on_page p) rows) g)))
  where
    sees : List ℕ → Bool
    sees r = on_page p r && (committed r || owned_by x r)

    page : List ℕ
    page = applied (keep (on_page p) rows) g

    all : (r : List ℕ) (t : Bool) → t ≡ true → (on_page p r && (t || owned_by x r)) ≡ on_page p r
    all r true q = and-true (on_page p r)
    all r false q = let z : ◌≡◌ {A = ℕ} 0 1 = cc in absurd (omega arith)

    own : (r : List ℕ) (t : Bool) → not t ≡ true → (on_page p r && (t || owned_by x r)) ≡ (on_page p r && owned_by x r)
    own r false q = refl
    own r true q = let z : ◌≡◌ {A = ℕ} 0 1 = cc in absurd (omega arith)

-- what a stored page has: of all that was made, the committed records that pass a test
pub stored_view : (p : ℕ) (t : List ℕ → Bool) (made rows o : List (List ℕ)) → made ≈ rows ++ o → every committed rows ≡ true → every (λ (r : List ℕ). not (committed r)) o ≡ true → (g : List ℕ)
    → applied (keep (λ (r : List ℕ). committed_on p r && t r) made) g ≡ applied (keep (λ (r : List ℕ). on_page p r && t r) rows) g
unfolding applied
stored_view p t made rows o e c h g =
    two_parts p has (λ r q. eqb-true (page_of r) p (and_both (on_page p r) (committed r) (and_both (committed_on p r) (t r) q).0).0) made rows o e g
    ∙ ap (λ (z : List (List ℕ)). applied z (applied (keep has rows) g)) (keep_none has o (every_imp (λ (r : List ℕ). not (committed r)) (λ (r : List ℕ). not (has r)) (λ r q. none r (committed r) q) o h))
    ∙ ap (λ (z : List (List ℕ)). applied z g) (keep_same_where committed has (λ (r : List ℕ). on_page p r && t r) (λ r q. all r (committed r) q) rows c)
  where
    has : List ℕ → Bool
    has r = committed_on p r && t r

    none : (r : List ℕ) (b : Bool) → not b ≡ true → not (on_page p r && b && t r) ≡ true
    none r false q = ap (λ (z : Bool). not (z && t r)) (and-false (on_page p r))
    none r true q = let z : ◌≡◌ {A = ℕ} 0 1 = cc in absurd (omega arith)

    all : (r : List ℕ) (b : Bool) → b ≡ true → (on_page p r && b && t r) ≡ (on_page p r && t r)
    all r true q = ap (λ (z : Bool). z && t r) (and-true (on_page p r))
    all r false q = let z : ◌≡◌ {A = ℕ} 0 1 = cc in absurd (omega arith)

-- no swap hides a record: whether any passes a test
pub ≈-any : (b : List ℕ → Bool) {l m : List (List ℕ)} → l ≈ m → any b l ≡ any b m
unfolding any
≈-any b as_is = refl
≈-any b (swap a c l h) = or_swap (b a) (b c) (any b l)
≈-any b (behind a e) = ap (λ (t : Bool). b a || t) (≈-any b e)
≈-any b (both e f) = ≈-any b e ∙ ≈-any b f

-- where none of two lists passes, none of the second does
pub none_after : (b : List ℕ → Bool) (k l : List (List ℕ)) → any b (k ++ l) ≡ false → any b l ≡ false
unfolding any
none_after b [] l h = h
none_after b (r ∷ k) l h = none_after b k l (pick (b r) h)
  where
    pick : (t : Bool) → (t || any b (k ++ l)) ≡ false → any b (k ++ l) ≡ false
    pick true e = let z : ◌≡◌ {A = ℕ} 0 1 = cc in absurd (omega arith)
    pick false e = e

-- the whole: a stored page, which has the committed updates up to its stamp, with the online records of the page, is to a reader what the history shows it
pub reader_bytes : (x p offset w : ℕ) (marks : List ℕ) (made online rows o : List (List ℕ)) → made ≈ rows ++ o → online ≈ keep (λ (r : List ℕ). ltb (num 4 marks (stamp_at (page_of r))) (number_of r)) rows ++ o
    → pairs rising rows ≡ true → every committed rows ≡ true → every (λ (r : List ℕ). not (committed r)) o ≡ true → pairs apart o ≡ true → any (clashes x p offset w) online ≡ false
    → (g stored : List ℕ) → stored ≡ applied (keep (λ (r : List ℕ). on_page p r && not (ltb (num 4 marks (stamp_at (page_of r))) (number_of r))) rows) g → offset + w ≤ length g
    → part offset w (applied (keep (on_page p) online) stored) ≡ part offset w (applied (keep (λ (r : List ℕ). on_page p r && (committed r || owned_by x r)) made) g)
reader_bytes x p offset w marks made online rows o e f u c h k n g stored s m =
    ap (λ (z : List ℕ). part offset w z)
    (ap (λ (z : List ℕ). applied (keep (on_page p) online) z) s
    ∙ online_view p above online rows o f (applied (keep (λ (r : List ℕ). on_page p r && not (above r)) rows) g)
    ∙ ap (λ (z : List ℕ). applied (keep (on_page p) o) z) (stored_then_online marks p rows g u))
    ∙ sym (shown_bytes x p offset w made rows o e c h k clear g m)
  where
    above : List ℕ → Bool
    above r = ltb (num 4 marks (stamp_at (page_of r))) (number_of r)

    clear : any (clashes x p offset w) o ≡ false
    clear = none_after (clashes x p offset w) (keep above rows) o (sym (≈-any (clashes x p offset w) f) ∙ n)

-- and a stored page with the committed updates not above the stamp is what the history stores up to that stamp
pub stored_to_stamp : (p : ℕ) (marks : List ℕ) (made rows o : List (List ℕ)) → made ≈ rows ++ o → every committed rows ≡ true → every (λ (r : List ℕ). not (committed r)) o ≡ true → (g : List ℕ)
    → applied (keep (λ (r : List ℕ). on_page p r && not (ltb (num 4 marks (stamp_at (page_of r))) (number_of r))) rows) g ≡ applied (keep (λ (r : List ℕ). committed_on p r && leb (number_of r) (num 4 marks (stamp_at p))) made) g
stored_to_stamp p marks made rows o e c h g =
    ap (λ (z : List (List ℕ)). applied z g) (keep_same (λ (r : List ℕ). on_page p r && not (ltb (num 4 marks (stamp_at (page_of r))) (number_of r))) (λ (r : List ℕ). on_page p r && up_to r) (page_up_to marks p) rows)
    ∙ sym (stored_view p up_to made rows o e c h g)
  where
    up_to : List ℕ → Bool
    up_to r = leb (number_of r) (num 4 marks (stamp_at p))
