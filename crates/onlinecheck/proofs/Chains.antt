-- Laws of chains: a row put in front of its page's, and the walk along one.
use Prim.Native.Nat.{ℕ, ◌+◌, ◌-◌, ◌≤◌, ◌<◌}
use native.Mathlib.Omega.{arith}
use mathlib.Core.Path.{◌≡◌, refl, sym, ap, ◌∙◌}
use mathlib.Core.Bool.{Bool, true, false, cond, not, ◌&&◌}
use mathlib.Core.List.{List, []}
use lib.ListN.{length, get_or, drop, set, replicate, length-set, length-replicate, get_or-replicate}
use lib.Seq.{get_or-set_same, get_or-set_other}
use lib.Dec.{eqb}
use borrow.Author.Tests.{eqb-true, eqb-false, ne_eqb}
use Rattle.word.proofs.Tests.{and_both}
use Rattle.std.proofs.lemmas.List.{drop_more, drop_all}
use Rattle.record.specs.Rows.{keep, cons_if}
use Rattle.record.specs.Record.{page_of, owner_of, committed}
use Rattle.rules.specs.Sound.{every, pairs, apart}
use Rattle.onlinecheck.specs.Bytes.{open_on, Chain, ends, goes, Linked, heads_with, after_with, free_row, with_row, free_rows, with_rows}

chain_low : {rs : List (List ℕ)} {a : List ℕ} {low j : ℕ} {l : List (List ℕ)} (down : ℕ) → down ≤ low → Chain rs a low j l → Chain rs a down j l
chain_low down h (ends e) = ends e
chain_low down h (goes {j = j} {l = k} g e c) = goes {low = down} {j = j} {l = k} (omega arith) e c

-- a store before the first row of a chain leaves it as it is
chain_set : {rs : List (List ℕ)} {a : List ℕ} {low j : ℕ} {l : List (List ℕ)} (k v : ℕ) → k < low → Chain rs a low j l → Chain rs (set a k v) low j l
chain_set k v h (ends e) = ends e
chain_set {a = a} k v h (goes {j = j} {l = n} g e c) =
    let d : get_or (set a k v) j 0 ≡ get_or a j 0 = get_or-set_other a k j v 0 (λ q. omega arith) in
    goes {j = j} {l = n} g e (rw d (chain_set k v (omega arith) c))

-- row j in front of its page's chain, and the other pages' chains
chain_turn : (rs : List (List ℕ)) (heads after : List ℕ) (j p q : ℕ) (k : List (List ℕ)) (x y : Bool) → j < length rs → j < length after → q < length heads → eqb q p ≡ y → Chain rs after (j + 1) (get_or heads p 0) k → Chain rs (cond x after (set after j (get_or heads q 0))) j (get_or (cond x heads (set heads q j)) p 0) (cons_if (y && not x) (get_or rs j []) k)
chain_turn rs heads after j p q k true true h a b e c = chain_low j (omega arith) c
chain_turn rs heads after j p q k true false h a b e c = chain_low j (omega arith) c
chain_turn rs heads after j p q k false false h a b e c =
    let d : get_or (set heads q j) p 0 ≡ get_or heads p 0 = get_or-set_other heads q p j 0 (λ w. eqb-false q p e (sym w)) in
    rw d (chain_low j (omega arith) (chain_set j (get_or heads q 0) (omega arith) c))
chain_turn rs heads after j p q k false true h a b e c =
    let f : p ≡ q = sym (eqb-true q p e) in
    let d : get_or (set heads q j) p 0 ≡ j = rw f (get_or-set_same heads q j 0 b) in
    let n : get_or (set after j (get_or heads q 0)) j 0 ≡ get_or heads p 0 = get_or-set_same after j (get_or heads q 0) 0 a ∙ ap (λ (x : ℕ). get_or heads x 0) (sym f) in
    rw d (goes {low = j} {j = j} {l = k} (omega arith) h (rw n (chain_set j (get_or heads q 0) (omega arith) c)))

-- before any row, 512 stands everywhere
pub link_start : (rs : List (List ℕ)) → length rs ≤ 512 → Linked rs (length rs) (replicate 1024 512) (replicate 512 512)
unfolding keep
link_start rs h = record {
  wide = length-replicate {A = ℕ} 1024 512;
  long = length-replicate {A = ℕ} 512 512;
  chains = λ p q.
      let e : get_or {A = ℕ} (replicate 1024 512) p 0 ≡ 512 = get_or-replicate {A = ℕ} 1024 p 512 0 q in
      rw (e, drop_all (length rs) rs (omega arith)) (ends h);
}

cond_length : (x : Bool) (a : List ℕ) (k v : ℕ) → length (cond x a (set a k v)) ≡ length a
cond_length true a k v = refl
cond_length false a k v = length-set a k v

pub link_turn : (rs : List (List ℕ)) (i j : ℕ) (heads after b d : List ℕ) → i ≡ j + 1 → i ≤ length rs → length rs ≤ 512 → page_of (get_or rs j []) < 1024 → b ≡ heads_with heads j (get_or rs j []) → d ≡ after_with heads after j (get_or rs j []) → Linked rs i heads after → Linked rs j b d
unfolding heads_with after_with keep
link_turn rs i j heads after b d e h g q eb ed l =
    let r = get_or rs j [] in record {
      wide = ap length eb ∙ cond_length (committed r) heads (page_of r) j ∙ l.wide;
      long = ap length ed ∙ cond_length (committed r) after j (get_or heads (page_of r) 0) ∙ l.long;
      chains = λ p k.
          let u : j < length after = rw l.long (omega arith) in
          let v : page_of r < length heads = rw l.wide q in
          let c : Chain rs after (j + 1) (get_or heads p 0) (keep (open_on p) (drop (j + 1) rs)) = rw e at (l.chains p k) in
          rw (eb, ed, drop_more rs j [] (omega arith)) (chain_turn rs heads after j p (page_of r) (keep (open_on p) (drop (j + 1) rs)) (committed r) (eqb (page_of r) p) (omega arith) u v refl c);
    }

-- what each way out of `link_row` leaves
pub link_none : (heads after r : List ℕ) (i x : ℕ) → x ≡ owner_of r → x ≡ 0 → (heads ≡ heads_with heads i r) × (after ≡ after_with heads after i r)
unfolding heads_with after_with
link_none heads after r i x e h = (rw (← e, h), rw (← e, h))

pub link_one : (heads after r : List ℕ) (i x q : ℕ) → x ≡ owner_of r → (x ≡ 0 → ⊥) → q ≡ page_of r → (set heads q i ≡ heads_with heads i r) × (set after i (get_or heads q 0) ≡ after_with heads after i r)
unfolding heads_with after_with
link_one heads after r i x q e h g = (rw (← e, ne_eqb x 0 h, g), rw (← e, ne_eqb x 0 h, g))

-- the first two indices of a chain: none, one alone, or one of the chain's page
pub chain_none : {rs : List (List ℕ)} {a : List ℕ} {low j : ℕ} {l : List (List ℕ)} → length rs ≤ j → Chain rs a low j l → l ≡ []
chain_none h (ends e) = refl
chain_none h (goes g e c) = absurd (omega arith)

pub chain_one : {rs : List (List ℕ)} {a : List ℕ} {low j : ℕ} {l : List (List ℕ)} → length rs ≤ get_or a j 0 → Chain rs a low j l → pairs apart l ≡ true
unfolding every pairs
chain_one h (ends e) = refl
chain_one h (goes g e c) = rw (chain_none h c)

pub chain_first : {rs : List (List ℕ)} {a : List ℕ} {low j : ℕ} {l : List (List ℕ)} (b : List ℕ → Bool) → j < length rs → Chain rs a low j l → every b l ≡ true → b (get_or rs j []) ≡ true
unfolding every
chain_first b h (ends e) k = absurd (omega arith)
chain_first {rs} {j = j} b h (goes {l = l} g e c) k = (and_both (b (get_or rs j [])) (every b l) k).0

-- along a page's chain: from the rows that are left come the answer z and the marks e
pub record Walk (rs : List (List ℕ)) (after : List ℕ) (base j : ℕ) (a : List ℕ) (z : Bool) (e : List ℕ) : Type 0 where
  pub low : ℕ
  pub left : List (List ℕ)
  pub chain : Chain rs after low j left
  pub free : free_rows base a left ≡ z
  pub marked : with_rows base a left ≡ e

-- at row j
module _ (rs : List (List ℕ)) (after : List ℕ) (base j : ℕ) (a b : List ℕ) (x z : Bool) (e : List ℕ) (h : j < length rs) (w : Walk rs after base j a z e) where
  pub walk_fail : x ≡ free_row base a (get_or rs j []) → x ≡ false → (false ≡ z) × (false ≡ true → b ≡ e)
  unfolding free_rows
  walk_fail f n = (go w.chain w.free, λ k. let y : ◌≡◌ {A = ℕ} 0 1 = cc in absurd (omega arith))
    where
      go : {low : ℕ} {l : List (List ℕ)} → Chain rs after low j l → free_rows base a l ≡ z → false ≡ z
      go (ends k) u = absurd (omega arith)
      go (goes k q c) u = let y = sym f ∙ n in rw y at u

  pub walk_turn : x ≡ free_row base a (get_or rs j []) → x ≡ true → (x ≡ true → b ≡ with_row base a (get_or rs j [])) → Walk rs after base (get_or after j 0) b z e
  unfolding free_rows with_rows
  walk_turn f n g = go w.chain w.free w.marked
    where
      go : {low : ℕ} {l : List (List ℕ)} → Chain rs after low j l → free_rows base a l ≡ z → with_rows base a l ≡ e → Walk rs after base (get_or after j 0) b z e
      go (ends k) u v = absurd (omega arith)
      go (goes {l = l} k q c) u v =
          let y = sym f ∙ n in
          let d = g n in
          record { low = j + 1; left = l; chain = c; free = rw d (rw y at u); marked = rw d v }

  -- indices rise
  pub walk_less : length rs - get_or after j 0 < length rs - j
  walk_less = go w.chain
    where
      rise : {k : ℕ} {l : List (List ℕ)} → Chain rs after (j + 1) k l → length rs - k < length rs - j
      rise (ends g) = omega arith
      rise (goes g q c) = omega arith

      go : {low : ℕ} {l : List (List ℕ)} → Chain rs after low j l → length rs - get_or after j 0 < length rs - j
      go (ends k) = absurd (omega arith)
      go (goes k q c) = rise c

pub walk_done : (rs : List (List ℕ)) (after : List ℕ) (base j : ℕ) (a : List ℕ) (z : Bool) (e : List ℕ) → length rs ≤ j → Walk rs after base j a z e → (true ≡ z) × (true ≡ true → a ≡ e)
unfolding free_rows with_rows
walk_done rs after base j a z e h w = go w.chain w.free w.marked
  where
    go : {low : ℕ} {l : List (List ℕ)} → Chain rs after low j l → free_rows base a l ≡ z → with_rows base a l ≡ e → (true ≡ z) × (true ≡ true → a ≡ e)
    go (ends k) u v = (u, λ y. v)
    go (goes k q c) u v = absurd (omega arith)
