-- Laws of the bytes' marks: a page's rows that are free when their turn comes are apart, and so S13 is said page by page.
use Prim.Native.Nat.{ℕ, zero, suc, ◌+◌, ◌*◌, ◌-◌, ◌≤◌, ◌<◌}
use native.Mathlib.Omega.{arith}
use mathlib.Core.Path.{◌≡◌, refl, sym, ap, ◌∙◌}
use mathlib.Core.Bool.{Bool, true, false, cond, not, ◌&&◌, ◌||◌, and-true, and-false, and_assoc, or-true}
use mathlib.Core.List.{List, [], ◌∷◌, ◌++◌}
use lib.ListN.{length, get_or, set, take, drop, replicate, length-set, length-replicate}
use lib.Seq.{get_or-set_same, get_or-set_other, set_out}
use lib.Dec.{eqb, leb, ltb}
use borrow.Author.Tests.{ltb-true, ltb-false, leb-true, leb-false, eqb-true, eqb-false, lt-ltb, le-ltb, le-leb, eq-eqb, ne_eqb, not-true}
use Rattle.word.proofs.Tests.{and_both, so, and_swap}
use Rattle.std.proofs.lemmas.List.{length-take-le, set-append_left, set-append_right}
use borrow.Rule.Slice.PartMut.{put_mid, put_same}
use Rattle.record.specs.Part.{part}
use Rattle.record.proofs.Laws.{get_d_part}
use Rattle.record.proofs.Parts.{length_part}
use Rattle.record.specs.Rows.{keep, cons_if}
use Rattle.record.specs.Record.{page_of, offset_of, length_of, owner_of, number_of, committed, share_byte, is_length, well_formed, free}
use Rattle.rules.specs.Sound.{every, pairs, up_to, between, apart}
use Rattle.rules.proofs.Every.{every_kept, every_keep}
use Rattle.rules.specs.Shape.{page_below}
use Rattle.onlinecheck.specs.Online.{owning_in}
use Rattle.onlinecheck.specs.Bytes.{open_on, bounded, Chain, Linked, Passed, free_byte, mark_bytes, free_row, with_row, free_rows, with_rows}
use Rattle.rules.proofs.Walks.{not_both, up_to_at, up_to_all, up_to_not, up_to_alike, up_to_fail, up_to_turn, up_to_done}
use Rattle.onlinecheck.proofs.Laws.{apart_all}
use Rattle.onlinecheck.proofs.Chains.{chain_none, chain_one, chain_first}

-- marks of n bytes from k on: outside, within, how many, how great
mark_out : (mine n k : ℕ) (a : List ℕ) (b : ℕ) → (k ≤ b → b < k + n → ⊥) → get_or (mark_bytes mine n k a) b 0 ≡ get_or a b 0
unfolding mark_bytes
mark_out mine zero k a b h = refl
mark_out mine (suc n) k a b h =
    mark_out mine n (k + 1) (set a k mine) b (λ p q. h (omega arith) (omega arith))
    ∙ get_or-set_other a k b mine 0 (λ e. h (omega arith) (omega arith))

mark_in : (mine n k : ℕ) (a : List ℕ) (b : ℕ) → k ≤ b → b < k + n → k + n ≤ length a → get_or (mark_bytes mine n k a) b 0 ≡ mine
unfolding mark_bytes
mark_in mine zero k a b p q h = absurd (omega arith)
mark_in mine (suc n) k a b p q h = pick (eqb b k) refl (λ u. mark_in mine n (k + 1) (set a k mine) b u (omega arith) (rw length-set (omega arith)))
  where
    pick : (x : Bool) → eqb b k ≡ x → (k + 1 ≤ b → get_or (mark_bytes mine n (k + 1) (set a k mine)) b 0 ≡ mine) → get_or (mark_bytes mine n (k + 1) (set a k mine)) b 0 ≡ mine
    pick true e g =
        let f : b ≡ k = eqb-true b k e in
        mark_out mine n (k + 1) (set a k mine) b (λ u v. omega arith) ∙ ap (λ (x : ℕ). get_or (set a k mine) x 0) f ∙ get_or-set_same a k mine 0 (omega arith)
    pick false e g =
        let d : (b ≡ k → ⊥) = eqb-false b k e in
        g (omega arith)

mark_length : (mine n k : ℕ) (a : List ℕ) → length (mark_bytes mine n k a) ≡ length a
unfolding mark_bytes
mark_length mine zero k a = refl
mark_length mine (suc n) k a = mark_length mine n (k + 1) (set a k mine) ∙ length-set a k mine

set_most : (top mine k : ℕ) (a : List ℕ) → mine ≤ top → ((b : ℕ) → get_or a b 0 ≤ top) → (b : ℕ) → get_or (set a k mine) b 0 ≤ top
set_most top mine k a h f b = pick (eqb b k) (ltb k (length a)) refl refl
  where
    pick : (x y : Bool) → eqb b k ≡ x → ltb k (length a) ≡ y → get_or (set a k mine) b 0 ≤ top
    pick false y e g = rw (get_or-set_other a k b mine 0 (eqb-false b k e)) (f b)
    pick true true e g = rw (eqb-true b k e, get_or-set_same a k mine 0 (ltb-true k (length a) g)) h
    pick true false e g = rw (set_out a k mine (ltb-false k (length a) g)) (f b)

mark_most : (top mine n k : ℕ) (a : List ℕ) → mine ≤ top → ((b : ℕ) → get_or a b 0 ≤ top) → (b : ℕ) → get_or (mark_bytes mine n k a) b 0 ≤ top
unfolding mark_bytes
mark_most top mine zero k a h f b = f b
mark_most top mine (suc n) k a h f b = mark_most top mine n (k + 1) (set a k mine) h (set_most top mine k a h f) b

-- a byte: no mark above the base, the owner's own, another's
free_low : (base mine : ℕ) (a : List ℕ) (k : ℕ) → get_or a k 0 ≤ base → free_byte base mine a k ≡ true
unfolding free_byte
free_low base mine a k h = rw (le-ltb base (get_or a k 0) h)

free_own : (base mine : ℕ) (a : List ℕ) (k : ℕ) → get_or a k 0 ≡ mine → free_byte base mine a k ≡ true
unfolding free_byte
free_own base mine a k h = rw (eq-eqb (get_or a k 0) mine h, and-false)

free_other : (base mine : ℕ) (a : List ℕ) (k : ℕ) → base < get_or a k 0 → (get_or a k 0 ≡ mine → ⊥) → free_byte base mine a k ≡ false
unfolding free_byte
free_other base mine a k h g = rw (lt-ltb base (get_or a k 0) h, ne_eqb (get_or a k 0) mine g)

free_alike : (base mine : ℕ) (a d : List ℕ) (k : ℕ) → get_or a k 0 ≡ get_or d k 0 → free_byte base mine a k ≡ free_byte base mine d k
unfolding free_byte
free_alike base mine a d k h = rw h

-- the bytes k to k + n get the mark base + x: what another byte, and another n bytes, then are to the owner y
module _ (base x y k n : ℕ) (a : List ℕ) (within : k + n ≤ length a) where
  -- a byte outside
  with_out : (b : ℕ) → (k ≤ b → b < k + n → ⊥) → free_byte base (base + y) (mark_bytes (base + x) n k a) b ≡ free_byte base (base + y) a b
  with_out b h = free_alike base (base + y) (mark_bytes (base + x) n k a) a b (mark_out (base + x) n k a b h)

  -- a byte inside, if x is y: it was free, and is
  with_own : x ≡ y → up_to (free_byte base (base + x) a) n k ≡ true → (b : ℕ) → free_byte base (base + y) (mark_bytes (base + x) n k a) b ≡ free_byte base (base + y) a b
  with_own e h b = pick (leb k b) (ltb b (k + n)) refl refl
    where
      pick : (u v : Bool) → leb k b ≡ u → ltb b (k + n) ≡ v → free_byte base (base + y) (mark_bytes (base + x) n k a) b ≡ free_byte base (base + y) a b
      pick false v f g = with_out b (λ p q. omega (arith, leb-false k b f))
      pick true false f g = with_out b (λ p q. omega (arith, ltb-false b (k + n) g))
      pick true true f g =
          let p = leb-true k b f in
          let q = ltb-true b (k + n) g in
          let m : get_or (mark_bytes (base + x) n k a) b 0 ≡ base + y = mark_in (base + x) n k a b p q within ∙ ap (λ (z : ℕ). base + z) e in
          let s : free_byte base (base + y) a b ≡ true = ap (λ (z : ℕ). free_byte base (base + z) a b) (sym e) ∙ up_to_at (free_byte base (base + x) a) n k b p q h in
          free_own base (base + y) (mark_bytes (base + x) n k a) b m ∙ sym s

  -- a byte inside, if x is not y
  with_other : 1 ≤ x → (x ≡ y → ⊥) → (b : ℕ) → k ≤ b → b < k + n → free_byte base (base + y) (mark_bytes (base + x) n k a) b ≡ false
  with_other h e b p q =
      let m : get_or (mark_bytes (base + x) n k a) b 0 ≡ base + x = mark_in (base + x) n k a b p q within in
      free_other base (base + y) (mark_bytes (base + x) n k a) b (omega arith) (λ f. e (omega arith))

  -- bytes that meet them, if x is not y
  with_clash : (o w : ℕ) → 1 ≤ x → 1 ≤ n → 1 ≤ w → (x ≡ y → ⊥) → k < o + w → o < k + n → up_to (free_byte base (base + y) (mark_bytes (base + x) n k a)) w o ≡ false
  with_clash o w hx hn hw e p q = pick (leb k o) refl
    where
      pick : (u : Bool) → leb k o ≡ u → up_to (free_byte base (base + y) (mark_bytes (base + x) n k a)) w o ≡ false
      pick true f = up_to_not (free_byte base (base + y) (mark_bytes (base + x) n k a)) w o o (omega arith) (omega arith) (with_other hx e o (leb-true k o f) q)
      pick false f =
          let g : o < k = leb-false k o f in
          up_to_not (free_byte base (base + y) (mark_bytes (base + x) n k a)) w o k (omega arith) p (with_other hx e k (omega arith) (omega arith))

  -- w bytes from o on are free of the marks if they were before, and y is x or no byte is among both
  bytes_with : (o w : ℕ) → 1 ≤ x → 1 ≤ n → 1 ≤ w → up_to (free_byte base (base + x) a) n k ≡ true → up_to (free_byte base (base + y) (mark_bytes (base + x) n k a)) w o ≡ (up_to (free_byte base (base + y) a) w o && (eqb x y || not (ltb k (o + w) && ltb o (k + n))))
  bytes_with o w hx hn hw h = go (eqb x y) (ltb k (o + w)) (ltb o (k + n)) refl refl refl
    where
      same : ((b : ℕ) → o ≤ b → b < o + w → free_byte base (base + y) (mark_bytes (base + x) n k a) b ≡ free_byte base (base + y) a b) → up_to (free_byte base (base + y) (mark_bytes (base + x) n k a)) w o ≡ (up_to (free_byte base (base + y) a) w o && true)
      same f = up_to_alike (free_byte base (base + y) (mark_bytes (base + x) n k a)) (free_byte base (base + y) a) w o f ∙ sym (and-true (up_to (free_byte base (base + y) a) w o))

      go : (u v z : Bool) → eqb x y ≡ u → ltb k (o + w) ≡ v → ltb o (k + n) ≡ z → up_to (free_byte base (base + y) (mark_bytes (base + x) n k a)) w o ≡ (up_to (free_byte base (base + y) a) w o && (eqb x y || not (ltb k (o + w) && ltb o (k + n))))
      go true v z e f g = rw e (same (λ b p q. with_own (eqb-true x y e) h b))
      go false true true e f g = rw (e, f, g) (with_clash o w hx hn hw (eqb-false x y e) (ltb-true k (o + w) f) (ltb-true o (k + n) g) ∙ sym (and-false (up_to (free_byte base (base + y) a) w o)))
      go false true false e f g =
          let d : k + n ≤ o = ltb-false o (k + n) g in
          rw (e, f, g) (same (λ b p q. with_out b (λ r s. omega arith)))
      go false false z e f g =
          let d : o + w ≤ k = ltb-false k (o + w) f in
          rw (e, f) (same (λ b p q. with_out b (λ r s. omega arith)))

-- what a bounded row has
placed_of : (r : List ℕ) → bounded r ≡ true → (1 ≤ length_of r) × (offset_of r + length_of r ≤ 4096) × (owner_of r ≤ 32)
placed_of r h =
    let a = and_both (leb 1 (length_of r) && leb (offset_of r + length_of r) 4096) (leb (owner_of r) 32) h in
    let b = and_both (leb 1 (length_of r)) (leb (offset_of r + length_of r) 4096) a.0 in
    (leb-true 1 (length_of r) b.0, leb-true (offset_of r + length_of r) 4096 b.1, leb-true (owner_of r) 32 a.1)

-- a row is free of the marks and of one row more, of the same page
row_with : (p base : ℕ) (a r q : List ℕ) → length a ≡ 4096 → open_on p r ≡ true → open_on p q ≡ true → bounded r ≡ true → bounded q ≡ true → free_row base a r ≡ true → free_row base (with_row base a r) q ≡ (free_row base a q && apart r q)
unfolding free_row with_row apart free share_byte
row_with p base a r q n or oq pr pq h =
    let c = and_both (eqb (page_of r) p) (not (committed r)) or in
    let d = and_both (eqb (page_of q) p) (not (committed q)) oq in
    let u : committed r ≡ false = not-true (committed r) c.1 in
    let v : committed q ≡ false = not-true (committed q) d.1 in
    let e : page_of r ≡ page_of q = eqb-true (page_of r) p c.0 ∙ sym (eqb-true (page_of q) p d.0) in
    let f = placed_of r pr in
    let g = placed_of q pq in
    let x : 1 ≤ owner_of r = pos (owner_of r) u in
    let k : offset_of r + length_of r ≤ length a = rw n f.1 in
    rw (u, v, eq-eqb (page_of r) (page_of q) e) (bytes_with base (owner_of r) (owner_of q) (offset_of r) (length_of r) a k (offset_of q) (length_of q) x f.0 g.0 h)
  where
    pos : (x : ℕ) → eqb x 0 ≡ false → 1 ≤ x
    pos x h = let d : (x ≡ 0 → ⊥) = eqb-false x 0 h in omega arith

row_length : (base : ℕ) (a r : List ℕ) → length (with_row base a r) ≡ length a
unfolding with_row
row_length base a r = mark_length (base + owner_of r) (length_of r) (offset_of r) a

rows_with : (p base : ℕ) (a r : List ℕ) → length a ≡ 4096 → open_on p r ≡ true → bounded r ≡ true → free_row base a r ≡ true → (l : List (List ℕ)) → every (open_on p) l ≡ true → every bounded l ≡ true → every (free_row base (with_row base a r)) l ≡ (every (free_row base a) l && every (apart r) l)
unfolding every
rows_with p base a r n o h f [] g k = refl
rows_with p base a r n o h f (q ∷ l) g k =
    let u = and_both (open_on p q) (every (open_on p) l) g in
    let v = and_both (bounded q) (every bounded l) k in
    rw (row_with p base a r q n o u.0 h v.0 f, rows_with p base a r n o h f l u.1 v.1)
    (and_swap (free_row base a q) (apart r q) (every (free_row base a) l) (every (apart r) l))

-- each row of a page free when its turn comes: free of the marks at the start, and all apart
rows_pairs : (p base : ℕ) (l : List (List ℕ)) (a : List ℕ) → length a ≡ 4096 → every (open_on p) l ≡ true → every bounded l ≡ true → free_rows base a l ≡ (every (free_row base a) l && pairs apart l)
unfolding every pairs free_rows
rows_pairs p base [] a n g k = refl
rows_pairs p base (r ∷ l) a n g k =
    let u = and_both (open_on p r) (every (open_on p) l) g in
    let v = and_both (bounded r) (every bounded l) k in
    pick (free_row base a r) refl (rows_pairs p base l (with_row base a r) (row_length base a r ∙ n) u.1 v.1) (λ f. rows_with p base a r n u.0 v.0 f l u.1 v.1)
  where
    pick : (x : Bool) → free_row base a r ≡ x → free_rows base (with_row base a r) l ≡ (every (free_row base (with_row base a r)) l && pairs apart l) → (free_row base a r ≡ true → every (free_row base (with_row base a r)) l ≡ (every (free_row base a) l && every (apart r) l)) → (free_row base a r && free_rows base (with_row base a r) l) ≡ (free_row base a r && every (free_row base a) l && (every (apart r) l && pairs apart l))
    pick false e f h = rw e
    pick true e f h = rw (e, f, h e) (and_assoc (every (free_row base a) l) (every (apart r) l) (pairs apart l))

-- marks that none of the page has set leave its rows free
free_start : (base : ℕ) (a : List ℕ) → ((b : ℕ) → get_or a b 0 ≤ base) → (l : List (List ℕ)) → every (free_row base a) l ≡ true
unfolding every free_row
free_start base a f [] = refl
free_start base a f (r ∷ l) = rw (up_to_all (free_byte base (base + owner_of r) a) (length_of r) (offset_of r) (λ k p q. free_low base (base + owner_of r) a k (f k))) (free_start base a f l)

rows_apart : (p base : ℕ) (l : List (List ℕ)) (a : List ℕ) → length a ≡ 4096 → ((b : ℕ) → get_or a b 0 ≤ base) → every (open_on p) l ≡ true → every bounded l ≡ true → free_rows base a l ≡ pairs apart l
rows_apart p base l a n f g k = rows_pairs p base l a n g k ∙ (rw (free_start base a f l))

rows_length : (base : ℕ) (l : List (List ℕ)) (a : List ℕ) → length (with_rows base a l) ≡ length a
unfolding with_rows
rows_length base [] a = refl
rows_length base (r ∷ l) a = rows_length base l (with_row base a r) ∙ row_length base a r

rows_most : (top base : ℕ) (l : List (List ℕ)) (a : List ℕ) → base + 32 ≤ top → every bounded l ≡ true → ((b : ℕ) → get_or a b 0 ≤ top) → (b : ℕ) → get_or (with_rows base a l) b 0 ≤ top
unfolding with_rows with_row every
rows_most top base [] a h k f b = f b
rows_most top base (r ∷ l) a h k f b =
    let v = and_both (bounded r) (every bounded l) k in
    let o : owner_of r ≤ 32 = (placed_of r v.0).2 in
    rows_most top base l (with_row base a r) h v.1 (mark_most top (base + owner_of r) (length_of r) (offset_of r) a (omega arith) f) b

-- an uncommitted row is apart from all that are apart from it on its page
apart_off : (r q : List ℕ) → open_on (page_of r) q ≡ false → apart r q ≡ true
unfolding apart free share_byte
apart_off r q h = pick (committed q) (eqb (page_of q) (page_of r)) refl refl
  where
    pick : (x y : Bool) → committed q ≡ x → eqb (page_of q) (page_of r) ≡ y → apart r q ≡ true
    pick true y e f = rw (e, or-true)
    pick false true e f = absurd (not_both (open_on (page_of r) q) (rw (f, e)) h)
    pick false false e f =
        let d : eqb (page_of r) (page_of q) ≡ false = ne_eqb (page_of r) (page_of q) (λ w. eqb-false (page_of q) (page_of r) f (sym w)) in
        rw (d, or-true)

apart_page : (r : List ℕ) (l : List (List ℕ)) → every (apart r) (keep (open_on (page_of r)) l) ≡ true → every (apart r) l ≡ true
unfolding every keep
apart_page r [] h = refl
apart_page r (q ∷ l) h = pick (open_on (page_of r) q) refl h (λ k. apart_page r l k)
  where
    pick : (x : Bool) → open_on (page_of r) q ≡ x → every (apart r) (cons_if x q (keep (open_on (page_of r)) l)) ≡ true → (every (apart r) (keep (open_on (page_of r)) l) ≡ true → every (apart r) l ≡ true) → (apart r q && every (apart r) l) ≡ true
    pick true e k f =
        let u = and_both (apart r q) (every (apart r) (keep (open_on (page_of r)) l)) k in
        rw u.0 (f u.1)
    pick false e k f = rw (apart_off r q e) (f k)

-- rows that are apart on each page are apart
pages_pairs : (pages : ℕ) (l : List (List ℕ)) → every (page_below pages) l ≡ true → ((p : ℕ) → p < pages → pairs apart (keep (open_on p) l) ≡ true) → pairs apart l ≡ true
unfolding every pairs keep
pages_pairs pages [] h f = refl
pages_pairs pages (r ∷ l) h f =
    let u = and_both (page_below pages r) (every (page_below pages) l) h in
    rw (head (committed r) refl (f (page_of r) (ltb-true (page_of r) pages u.0))) (pages_pairs pages l u.1 (λ p q. tail (open_on p r) (keep (open_on p) l) (f p q)))
  where
    tail : (x : Bool) (k : List (List ℕ)) → pairs apart (cons_if x r k) ≡ true → pairs apart k ≡ true
    tail true k g = (and_both (every (apart r) k) (pairs apart k) g).1
    tail false k g = g

    head : (x : Bool) → committed r ≡ x → pairs apart (cons_if (open_on (page_of r) r) r (keep (open_on (page_of r)) l)) ≡ true → every (apart r) l ≡ true
    head true e g = sym (apart_all r (owner_of r) refl (eqb-true (owner_of r) 0 e) l)
    head false e g =
        let k = rw (eq-eqb (page_of r) (page_of r) refl, e) at g in
        apart_page r l (and_both (every (apart r) (keep (open_on (page_of r)) l)) (pairs apart (keep (open_on (page_of r)) l)) k).0

pairs_keep : (d : List ℕ → Bool) (l : List (List ℕ)) → pairs apart l ≡ true → pairs apart (keep d l) ≡ true
unfolding pairs keep
pairs_keep d [] h = refl
pairs_keep d (r ∷ l) h = pick (d r) (pairs_keep d l (and_both (every (apart r) l) (pairs apart l) h).1)
  where
    pick : (x : Bool) → pairs apart (keep d l) ≡ true → pairs apart (cons_if x r (keep d l)) ≡ true
    pick true k = rw (every_keep d (apart r) l (and_both (every (apart r) l) (pairs apart l) h).0) k
    pick false k = k

zeros_at : (n b : ℕ) → get_or {A = ℕ} (replicate n 0) b 0 ≡ 0
zeros_at zero b = refl
zeros_at (suc n) zero = refl
zeros_at (suc n) (suc b) = zeros_at n b

-- the walk over the rows: before it, past a row, at the end
module _ (rs : List (List ℕ)) (heads after : List ℕ) (linked : Linked rs 0 heads after) where
  page_chain : (p : ℕ) → p < 1024 → Chain rs after 0 (get_or heads p 0) (keep (open_on p) rs)
  page_chain p h = linked.chains p h

  -- a page that begins with row i is that row's
  page_first : (i p : ℕ) → i < length rs → p < 1024 → get_or heads p 0 ≡ i → page_of (get_or rs i []) ≡ p
  page_first i p h k e =
      let c : Chain rs after 0 i (keep (open_on p) rs) = rw e at (page_chain p k) in
      eqb-true (page_of (get_or rs i [])) p (and_both (eqb (page_of (get_or rs i [])) p) (not (committed (get_or rs i []))) (chain_first (open_on p) h c (every_kept (open_on p) (open_on p) (λ r e. e) rs))).0

  pass : (i : ℕ) (marks d : List ℕ) → length d ≡ 4096 → ((b : ℕ) → get_or d b 0 ≤ (i + 1) * 64) → ((p : ℕ) → p < 1024 → get_or heads p 0 ≡ i → pairs apart (keep (open_on p) rs) ≡ true) → Passed rs i heads marks → Passed rs (i + 1) heads d
  pass i marks d n f g w = record { wide = n; most = f; clear = λ p h k. pick p h k (eqb (get_or heads p 0) i) refl }
    where
      pick : (p : ℕ) → p < 1024 → get_or heads p 0 < i + 1 → (x : Bool) → eqb (get_or heads p 0) i ≡ x → pairs apart (keep (open_on p) rs) ≡ true
      pick p h k true e = g p h (eqb-true (get_or heads p 0) i e)
      pick p h k false e =
          let d : (get_or heads p 0 ≡ i → ⊥) = eqb-false (get_or heads p 0) i e in
          w.clear p h (omega arith)

  pass_still : (i : ℕ) (marks : List ℕ) → ((p : ℕ) → p < 1024 → get_or heads p 0 ≡ i → pairs apart (keep (open_on p) rs) ≡ true) → Passed rs i heads marks → (true ≡ true → Passed rs (i + 1) heads marks) × (true ≡ false → pairs apart rs ≡ false)
  pass_still i marks g w = (
    λ y. pass i marks marks w.wide (λ b. omega (arith, w.most b)) g w,
    λ y. let z : ◌≡◌ {A = ℕ} 0 1 = cc in absurd (omega arith),
  )

  -- none follows it
  pub pass_alone : (i : ℕ) (marks : List ℕ) → length rs ≤ get_or after i 0 → Passed rs i heads marks → (true ≡ true → Passed rs (i + 1) heads marks) × (true ≡ false → pairs apart rs ≡ false)
  pass_alone i marks h w = pass_still i marks (λ p k f. chain_one h (rw f at (page_chain p k))) w

  -- its page begins with another
  pub pass_later : (i q head : ℕ) (marks : List ℕ) → i < length rs → q ≡ page_of (get_or rs i []) → head ≡ get_or heads q 0 → (head ≡ i → ⊥) → Passed rs i heads marks → (true ≡ true → Passed rs (i + 1) heads marks) × (true ≡ false → pairs apart rs ≡ false)
  pass_later i q head marks h e f g w =
      pass_still i marks (λ p k d. absurd (g (f ∙ ap (λ (x : ℕ). get_or heads x 0) (e ∙ page_first i p h k d) ∙ d))) w

  -- its page begins with it
  pub first_chain : (i q head : ℕ) → q ≡ page_of (get_or rs i []) → q < 1024 → head ≡ get_or heads q 0 → head ≡ i → Chain rs after 0 i (keep (open_on (page_of (get_or rs i []))) rs)
  first_chain i q head e h f g = rw (sym f ∙ g, e) at (page_chain q h)

  pub pass_first : (i : ℕ) (marks d : List ℕ) (x : Bool) → i < length rs → every bounded rs ≡ true → x ≡ free_rows (i * 64) marks (keep (open_on (page_of (get_or rs i []))) rs) → (x ≡ true → d ≡ with_rows (i * 64) marks (keep (open_on (page_of (get_or rs i []))) rs)) → Passed rs i heads marks → (x ≡ true → Passed rs (i + 1) heads d) × (x ≡ false → pairs apart rs ≡ false)
  pass_first i marks d x h k e f w =
      let b = open_on (page_of (get_or rs i [])) in
      let l = keep b rs in
      let g : every bounded l ≡ true = every_keep b bounded rs k in
      let a : x ≡ pairs apart l = e ∙ rows_apart (page_of (get_or rs i [])) (i * 64) l marks w.wide w.most (every_kept b b (λ r e. e) rs) g in (
        λ y. rw (f y) (pass i marks (with_rows (i * 64) marks l) (rows_length (i * 64) l marks ∙ w.wide) (rows_most ((i + 1) * 64) (i * 64) l marks (omega arith) g (λ c. omega (arith, w.most c))) (λ p u v. rw (page_first i p h u v) at (sym a ∙ y)) w),
        λ y. clash b (pairs apart rs) refl (sym a ∙ y),
      )
    where
      clash : (b : List ℕ → Bool) (y : Bool) → pairs apart rs ≡ y → pairs apart (keep b rs) ≡ false → pairs apart rs ≡ false
      clash b true u v = absurd (not_both (pairs apart (keep b rs)) (pairs_keep b rs u) v)
      clash b false u v = u

  pub pass_done : (i : ℕ) (marks : List ℕ) → length rs ≤ i → every (page_below 1024) rs ≡ true → Passed rs i heads marks → true ≡ pairs apart rs
  unfolding pairs
  pass_done i marks h k w = sym (pages_pairs 1024 rs k (λ p q. pick p q (ltb (get_or heads p 0) (length rs)) refl))
    where
      pick : (p : ℕ) → p < 1024 → (x : Bool) → ltb (get_or heads p 0) (length rs) ≡ x → pairs apart (keep (open_on p) rs) ≡ true
      pick p q true e = let g = ltb-true (get_or heads p 0) (length rs) e in w.clear p q (omega arith)
      pick p q false e = rw (chain_none (ltb-false (get_or heads p 0) (length rs) e) (page_chain p q))

pub pass_none : (rs : List (List ℕ)) (heads : List ℕ) → Passed rs 0 heads (replicate 4096 0)
pass_none rs heads = record {
  wide = length-replicate {A = ℕ} 4096 0;
  most = λ b. omega (arith, zeros_at 4096 b);
  clear = λ p h k. absurd (omega arith);
}

-- S7 and S8 place each row
length_some : (w : ℕ) → is_length w ≡ true → 1 ≤ w
unfolding is_length
length_some zero h = let z : ◌≡◌ {A = ℕ} 0 1 = cc in absurd (omega arith)
length_some (suc w) h = omega arith

place_one : (size pages last : ℕ) (tables r : List ℕ) → size ≤ 4096 → well_formed size pages r ≡ true → owning_in tables last r ≡ true → bounded r ≡ true
unfolding well_formed owning_in
place_one size pages last tables r s f k =
    let a : ((ltb (page_of r) pages && is_length (length_of r)) ≡ true) × (leb (offset_of r + length_of r) size ≡ true) = and_both _ _ (and_both _ _ (and_both _ _ f).0).0 in
    let w : 1 ≤ length_of r = length_some (length_of r) (and_both (ltb (page_of r) pages) (is_length (length_of r)) a.0).1 in
    let e : offset_of r + length_of r ≤ size = leb-true (offset_of r + length_of r) size a.1 in
    let o : owner_of r ≤ 32 = few (owner_of r) (committed r) (number_of r) (eqb (get_or tables (2 + owner_of r) 0) 1) refl k in
    rw (le-leb 1 (length_of r) w, le-leb (offset_of r + length_of r) 4096 (omega arith), le-leb (owner_of r) 32 o)
  where
    few : (x : ℕ) (y : Bool) (k : ℕ) (z : Bool) → eqb x 0 ≡ y → cond y (between 1 k last) (leb x 32 && eqb k 0 && z) ≡ true → x ≤ 32
    few x true k z e f = omega (arith, eqb-true x 0 e)
    few x false k z e f = leb-true x 32 (and_both (leb x 32) (eqb k 0) (and_both (leb x 32 && eqb k 0) z f).0).0

place : (size pages last : ℕ) (tables : List ℕ) → size ≤ 4096 → (l : List (List ℕ)) → every (well_formed size pages) l ≡ true → every (owning_in tables last) l ≡ true → every bounded l ≡ true
unfolding every
place size pages last tables s [] h g = refl
place size pages last tables s (r ∷ l) h g =
    let u = and_both (well_formed size pages r) (every (well_formed size pages) l) h in
    let v = and_both (owning_in tables last r) (every (owning_in tables last) l) g in
    rw (place_one size pages last tables r s u.0 v.0) (place size pages last tables s l u.1 v.1)

-- so the clauses of the rows by themselves give it
pub place_give : (tables : List ℕ) (size pages last : ℕ) (l : List (List ℕ)) (x z u y : Bool) → size ≤ 4096 → x ≡ (every (well_formed size pages) l && every (owning_in tables last) l && z && u && y) → not x ≡ false → every bounded l ≡ true
place_give tables size pages last l x z u y s e h =
    let f = every (well_formed size pages) l in
    let o = every (owning_in tables last) l in
    let b = and_both f o (and_both (f && o) z (and_both (f && o && z) u (and_both (f && o && z && u) y (so _ _ e h)).0).0).0 in
    place size pages last tables s l b.0 b.1

-- the loop over a row's bytes: those from k on are as they were, and decide as all do
pub record Taking (base mine : ℕ) (was : List ℕ) (k : ℕ) (marks : List ℕ) : Type 0 where
  pub free : up_to (free_byte base mine was) (length was - k) k ≡ up_to (free_byte base mine was) (length was) 0
  pub marked : mark_bytes mine (length was - k) k marks ≡ mark_bytes mine (length was) 0 was
  pub rest : (b : ℕ) → k ≤ b → get_or marks b 0 ≡ get_or was b 0

module _ (base mine : ℕ) (was : List ℕ) where
  pub take_none : Taking base mine was 0 was
  take_none = let n : length was - 0 ≡ length was = omega arith in record { free = rw n; marked = rw n; rest = λ b h. refl }

  pub take_fail : (k : ℕ) (marks b d : List ℕ) → k < length was → (ltb base (get_or marks k 0) && not (eqb (get_or marks k 0) mine)) ≡ true → Taking base mine was k marks → (false ≡ up_to (free_byte base mine was) (length was) 0) × (false ≡ true → b ≡ d)
  unfolding free_byte
  take_fail k marks b d h g t =
      let f : free_byte base mine was k ≡ false = rw (t.rest k (omega arith)) at (ap not g) in (
        up_to_fail (free_byte base mine was) (length was) k (free_byte base mine was k) (up_to (free_byte base mine was) (length was) 0) h (ap not f) refl t.free,
        λ z. let y : ◌≡◌ {A = ℕ} 0 1 = cc in absurd (omega arith),
      )

  pub take_turn : (k : ℕ) (marks : List ℕ) → k < length was → (ltb base (get_or marks k 0) && not (eqb (get_or marks k 0) mine)) ≡ false → Taking base mine was k marks → Taking base mine was (k + 1) (set marks k mine)
  unfolding free_byte mark_bytes
  take_turn k marks h g t =
      let f : free_byte base mine was k ≡ true = rw (t.rest k (omega arith)) at (ap not g) in
      let n : length was - k ≡ suc (length was - (k + 1)) = omega arith in
      record {
        free = up_to_turn (free_byte base mine was) (length was) k (free_byte base mine was k) (up_to (free_byte base mine was) (length was) 0) h (ap not f) refl t.free;
        marked = rw n at t.marked;
        rest = λ b p. get_or-set_other marks k b mine 0 (λ q. omega arith) ∙ t.rest b (omega arith);
      }

  pub take_done : (k : ℕ) (marks : List ℕ) → length was ≤ k → Taking base mine was k marks → (true ≡ up_to (free_byte base mine was) (length was) 0) × (true ≡ true → marks ≡ mark_bytes mine (length was) 0 was)
  unfolding mark_bytes
  take_done k marks h t =
      let n : length was - k ≡ 0 = omega arith in
      (up_to_done (free_byte base mine was) (length was) k (up_to (free_byte base mine was) (length was) 0) h t.free, λ z. rw n at t.marked)

-- bytes of a part are bytes of the whole: what decides, and marks put back
up_to_part : (b d : ℕ → Bool) (a n i : ℕ) → ((k : ℕ) → k < i + n → b k ≡ d (a + k)) → up_to b n i ≡ up_to d n (a + i)
unfolding up_to
up_to_part b d a zero i f = refl
up_to_part b d a (suc n) i f =
    let e : a + i + 1 ≡ a + (i + 1) = omega arith in
    rw (f i (omega arith), up_to_part b d a n (i + 1) (λ k p. f k (omega arith)), e)

mark_part : (mine n j a : ℕ) (front part back : List ℕ) → length front ≡ a → j + n ≤ length part → front ++ (mark_bytes mine n j part ++ back) ≡ mark_bytes mine n (a + j) (front ++ (part ++ back))
unfolding mark_bytes
mark_part mine zero j a front part back e h = refl
mark_part mine (suc n) j a front part back e h =
    let l : j < length part = omega arith in
    let q : j + 1 + n ≤ length (set part j mine) = omega (arith, length-set part j mine) in
    let f : a + j - a ≡ j = omega arith in
    let g : a + j + 1 ≡ a + (j + 1) = omega arith in
    let s : set (front ++ (part ++ back)) (a + j) mine ≡ front ++ (set part j mine ++ back) =
    set-append_right front (part ++ back) a (a + j) mine e (omega arith) ∙ ap (λ (i : ℕ). front ++ set (part ++ back) i mine) f ∙ ap (λ (z : List ℕ). front ++ z) (set-append_left part back j mine l) in
    mark_part mine n (j + 1) a front (set part j mine) back e q ∙ rw (s, g)

-- a row, by the fields that were read
pub row_fits : (r : List ℕ) (x a w : ℕ) → x ≡ owner_of r → a ≡ offset_of r → w ≡ length_of r → bounded r ≡ true → (x ≤ 32) × (a + w ≤ 4096)
row_fits r x a w e f g h = let k = placed_of r h in (rw e k.2, rw (f, g) k.1)

pub row_taken : (base : ℕ) (marks d r : List ℕ) (x a w k : ℕ) (y : Bool) → x ≡ owner_of r → a ≡ offset_of r → w ≡ length_of r → k ≡ w → a + w ≤ length marks → y ≡ up_to (free_byte base (base + x) (part a k marks)) (length (part a k marks)) 0 → (y ≡ true → d ≡ mark_bytes (base + x) (length (part a k marks)) 0 (part a k marks)) → (y ≡ free_row base marks r) × (y ≡ true → put_mid a k marks d ≡ with_row base marks r)
unfolding free_byte free_row with_row
row_taken base marks d r x a w k y e f g h l p q =
    let n : length (part a k marks) ≡ w = length_part a k marks (omega arith) ∙ h in
    let z : a + 0 ≡ a = omega arith in
    let m : length (take a marks) ≡ a = length-take-le a marks (omega arith) in
    let u : up_to (free_byte base (base + x) (part a k marks)) w 0 ≡ up_to (free_byte base (base + x) marks) w a = rw z at (up_to_part (free_byte base (base + x) (part a k marks)) (free_byte base (base + x) marks) a w 0 (λ c s. free_at c (omega arith))) in
    let v : put_mid a k marks (mark_bytes (base + x) w 0 (part a k marks)) ≡ mark_bytes (base + x) w a marks = rw z at (mark_part (base + x) w 0 a (take a marks) (part a k marks) (drop k (drop a marks)) m (omega arith) ∙ ap (λ (t : List ℕ). mark_bytes (base + x) w (a + 0) t) (put_same a k marks)) in
    (rw (← e, ← f, ← g) (rw n at p ∙ u), λ t. rw (← e, ← f, ← g) (ap (λ (b : List ℕ). put_mid a k marks b) (rw n at (q t)) ∙ v))
  where
    free_at : (c : ℕ) → c < k → free_byte base (base + x) (part a k marks) c ≡ free_byte base (base + x) marks (a + c)
    free_at c s = rw (get_d_part c a k marks s)
