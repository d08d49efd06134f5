-- Laws of marks: what they say of the rows that were passed, and the turns of the loops that set them.
use Prim.Native.Nat.{ℕ, ◌+◌, ◌-◌, ◌%◌, ◌≤◌, ◌<◌}
use native.Mathlib.Omega.{arith}
use mathlib.Core.Path.{◌≡◌, refl, sym, ap, ◌∙◌}
use mathlib.Core.Bool.{Bool, true, false, cond, not, ◌&&◌, ◌||◌, beq, and-true, and-false, and_assoc, or-true, or-false}
use mathlib.Core.List.{List, [], ◌∷◌}
use lib.ListN.{length, get_or, drop, set, replicate, length-set, length-replicate, get_or-replicate}
use lib.Seq.{get_or-set_same, get_or-set_other}
use lib.Dec.{eqb, leb, ltb}
use borrow.Author.Tests.{ltb-true, leb-true, eqb-true, eqb-false, lt-ltb, eq-eqb, ne_eqb}
use Rattle.word.proofs.Tests.{and_both, so, and_swap}
use Rattle.std.proofs.lemmas.List.{drop_more, drop_all}
use Rattle.record.specs.Rows.{any}
use Rattle.record.specs.Record.{page_of, owner_of, number_of, committed, body_of, on_page, well_formed}
use Rattle.rules.specs.Lent.{is_dirty}
use Rattle.rules.specs.Sound.{every, pairs, up_to, between, same, agree}
use Rattle.rules.specs.Shape.{page_below}
use Rattle.onlinecheck.specs.Online.{owning_in, in_log, other_number, entry_agrees}
use Rattle.rules.proofs.Walks.{up_to_alike}
use Rattle.onlinecheck.specs.Marks.{entry_marked, marked_or_on, slotted, unmarked, with_number, all_unmarked}
use Rattle.rules.proofs.Every.{every_imp}
use Rattle.rules.proofs.Clauses.{formed_page}

-- entries agree with marks as they do with rows, where the marks are the rows' pages
pub marked_agree : (entries : List ℕ) (rs : List (List ℕ)) (a : List Bool) (pages n : ℕ) (x : Bool) → pages ≤ 1024 → n ≡ pages → ((p : ℕ) → p < 1024 → get_or a p false ≡ marked_or_on (replicate 1024 false) rs p) → x ≡ up_to (entry_marked entries a) n 0 → x ≡ up_to (entry_agrees entries rs) pages 0
unfolding entry_marked entry_agrees
marked_agree entries rs a pages n x h e f g = rw e at g ∙ up_to_alike (entry_marked entries a) (entry_agrees entries rs) pages 0 (λ p _ l. ap (λ (b : Bool). agree (is_dirty (get_or entries p 0)) b) (at p (omega arith)))
  where
    at : (p : ℕ) → p < 1024 → get_or a p false ≡ any (on_page p) rs
    at p l = f p l ∙ ap (λ (y : Bool). y || any (on_page p) rs) (get_or-replicate {A = Bool} 1024 p false false l)

pub pages_within : (pages : ℕ) (l : List (List ℕ)) → pages ≤ 1024 → every (page_below pages) l ≡ true → every (page_below 1024) l ≡ true
pages_within pages l h k = every_imp (page_below pages) (page_below 1024) (λ r e. lt-ltb (page_of r) 1024 (omega (arith, ltb-true (page_of r) pages e))) l k

-- the loop over the rows: those still to come and the marks so far mark what all rows and the first marks do
module _ (l : List (List ℕ)) where
  pub pages_turn : (i q : ℕ) (a : List Bool) (p : ℕ) → i < length l → q ≡ page_of (get_or l i []) → p < length a → marked_or_on (set a q true) (drop (i + 1) l) p ≡ marked_or_on a (drop i l) p
  unfolding any
  pages_turn i q a p h e k = rw (drop_more l i [] h, ← e) (pick (eqb q p) refl)
    where
      b : Bool
      b = any (on_page p) (drop (i + 1) l)

      pick : (x : Bool) → eqb q p ≡ x → (get_or (set a q true) p false || b) ≡ (get_or a p false || (eqb q p || b))
      pick true g =
          let f : q ≡ p = eqb-true q p g in
          rw (f, get_or-set_same a p true false k, eq-eqb p p refl) (sym (or-true (get_or a p false)))
      pick false g = rw (g, get_or-set_other a q p true false (λ f. eqb-false q p g (sym f)))

  pub pages_done : (i : ℕ) (a : List Bool) (p : ℕ) → length l ≤ i → marked_or_on a (drop i l) p ≡ get_or a p false
  unfolding any
  pages_done i a p h = rw (drop_all i l h, or-false (get_or a p false))

-- the entry's byte and the page's mark
beq_agree : (x y : Bool) → beq x y ≡ agree x y
beq_agree true true = refl
beq_agree true false = refl
beq_agree false true = refl
beq_agree false false = refl

pub marked_read : (entries : List ℕ) (a : List Bool) (p : ℕ) → beq (eqb (get_or entries p 0 % 2) 1) (get_or a p false) ≡ entry_marked entries a p
unfolding entry_marked
marked_read entries a p = beq_agree (eqb (get_or entries p 0 % 2) 1) (get_or a p false)

-- S9: what S8 and S10 say of the numbers
slots_of : (first last n k : ℕ) (x y z u : Bool) → first ≡ last - n + 1 → n ≤ last → n ≤ 2048 → cond x (between 1 k last) (y && eqb k 0 && z) ≡ true → (not x || (leb first k && u)) ≡ true → (eqb k 0 || (leb first k && ltb (k - first) 2048)) ≡ true
slots_of first last n k true y z u e p q h g =
    let a = and_both (leb 1 k) (leb k last) h in
    let b = and_both (leb first k) u g in
    let l : k ≤ last = leb-true k last a.1 in
    let m : k - first < 2048 = omega (arith, leb-true first k b.0) in
    rw (b.0, lt-ltb (k - first) 2048 m) (or-true (eqb k 0))
slots_of first last n k false y z u e p q h g = rw (and_both y (eqb k 0) (and_both (y && eqb k 0) z h).0).1

pub slots : (tables : List ℕ) (log : List (List ℕ)) (first last n : ℕ) → first ≡ last - n + 1 → n ≤ last → n ≤ 2048 → (l : List (List ℕ)) → every (owning_in tables last) l ≡ true → every (in_log log first) l ≡ true → every (slotted first) l ≡ true
unfolding every owning_in in_log
slots tables log first last n e p q [] h g = refl
slots tables log first last n e p q (r ∷ l) h g =
    let a = and_both (owning_in tables last r) (every (owning_in tables last) l) h in
    let b = and_both (in_log log first r) (every (in_log log first) l) g in
    let f : slotted first r ≡ true = slots_of first last n (number_of r) (committed r) (leb (owner_of r) 32) (eqb (get_or tables (2 + owner_of r) 0) 1) (same (body_of r) (get_or log (number_of r - first) [])) e p q a.0 b.0 in
    rw f (slots tables log first last n e p q l a.1 b.1)

-- a row is free of the marks and of one number more
free_one : (first : ℕ) (a : List Bool) (j k : ℕ) → length a ≡ 2048 → (eqb j 0 || (leb first j && ltb (j - first) 2048)) ≡ true → (eqb k 0 || (leb first k && ltb (k - first) 2048)) ≡ true → (eqb k 0 || not (get_or (cond (eqb j 0) a (set a (j - first) true)) (k - first) false)) ≡ ((eqb k 0 || not (get_or a (k - first) false)) && (eqb j 0 || not (eqb j k)))
free_one first a j k n f g = go (eqb j 0) (eqb k 0) (eqb j k) refl refl refl
  where
    go : (x y z : Bool) → eqb j 0 ≡ x → eqb k 0 ≡ y → eqb j k ≡ z → (eqb k 0 || not (get_or (cond (eqb j 0) a (set a (j - first) true)) (k - first) false)) ≡ ((eqb k 0 || not (get_or a (k - first) false)) && (eqb j 0 || not (eqb j k)))
    go true y z ej ek e = rw ej (sym (and-true (eqb k 0 || not (get_or a (k - first) false))))
    go false true true ej ek e = absurd (eqb-false j 0 ej (eqb-true j k e ∙ eqb-true k 0 ek))
    go false true false ej ek e = rw (ej, ek, e)
    go false false true ej ek e =
        let h = rw ej at f in
        let l : j - first < length a = rw n (ltb-true (j - first) 2048 (and_both (leb first j) (ltb (j - first) 2048) h).1) in
        let q : k ≡ j = sym (eqb-true j k e) in
        rw (q, ej, get_or-set_same a (j - first) true false l, eq-eqb j j refl) (sym (and-false (not (get_or a (j - first) false))))
    go false false false ej ek e =
        let h = and_both (leb first j) (ltb (j - first) 2048) (rw ej at f) in
        let i = and_both (leb first k) (ltb (k - first) 2048) (rw ek at g) in
        let l : first ≤ j = leb-true first j h.0 in
        let m : first ≤ k = leb-true first k i.0 in
        let d : (k - first ≡ j - first → ⊥) = λ w. eqb-false j k e (omega arith) in
        rw (ej, ek, e, get_or-set_other a (j - first) (k - first) true false d) (sym (and-true (not (get_or a (k - first) false))))

length_number : (first : ℕ) (a : List Bool) (r : List ℕ) → length (with_number first a r) ≡ length a
unfolding with_number
length_number first a r = pick (eqb (number_of r) 0)
  where
    pick : (x : Bool) → length (cond x a (set a (number_of r - first) true)) ≡ length a
    pick true = refl
    pick false = length-set a (number_of r - first) true

free_each : (first : ℕ) (a : List Bool) (r : List ℕ) → length a ≡ 2048 → slotted first r ≡ true → (l : List (List ℕ)) → every (slotted first) l ≡ true → every (unmarked first (with_number first a r)) l ≡ (every (unmarked first a) l && every (other_number r) l)
unfolding every unmarked with_number other_number
free_each first a r n f [] h = refl
free_each first a r n f (q ∷ l) h =
    let g = and_both (slotted first q) (every (slotted first) l) h in
    rw (free_one first a (number_of r) (number_of q) n f g.0, free_each first a r n f l g.1)
    (and_swap (unmarked first a q) (other_number r q) (every (unmarked first a) l) (every (other_number r) l))

-- each row free when its turn comes: free of the marks at the start, and no number twice
free_pairs : (first : ℕ) (l : List (List ℕ)) (a : List Bool) → length a ≡ 2048 → every (slotted first) l ≡ true → all_unmarked first l a ≡ (every (unmarked first a) l && pairs other_number l)
unfolding every pairs all_unmarked
free_pairs first [] a n h = refl
free_pairs first (r ∷ l) a n h =
    let g = and_both (slotted first r) (every (slotted first) l) h in
    let k : length (with_number first a r) ≡ 2048 = length_number first a r ∙ n in
    rw (free_pairs first l (with_number first a r) k g.1, free_each first a r n g.0 l g.1)
    (shift (unmarked first a r) (every (unmarked first a) l) (every (other_number r) l) (pairs other_number l))
  where
    shift : (x u v w : Bool) → (x && (u && v && w)) ≡ (x && u && (v && w))
    shift true u v w = and_assoc u v w
    shift false u v w = refl

free_start : (first : ℕ) (l : List (List ℕ)) → every (slotted first) l ≡ true → every (unmarked first (replicate 2048 false)) l ≡ true
unfolding unmarked
free_start first l h = every_imp (slotted first) (unmarked first (replicate 2048 false)) one l h
  where
    one : (r : List ℕ) → slotted first r ≡ true → unmarked first (replicate 2048 false) r ≡ true
    one r k = go (eqb (number_of r) 0) refl
      where
        go : (x : Bool) → eqb (number_of r) 0 ≡ x → (eqb (number_of r) 0 || not (get_or (replicate 2048 false) (number_of r - first) false)) ≡ true
        go true e = rw e
        go false e =
            let b = and_both (leb first (number_of r)) (ltb (number_of r - first) 2048) (rw e at k) in
            rw (e, get_or-replicate {A = Bool} 2048 (number_of r - first) false false (ltb-true (number_of r - first) 2048 b.1))

pub free_once : (first : ℕ) (l : List (List ℕ)) → every (slotted first) l ≡ true → all_unmarked first l (replicate 2048 false) ≡ pairs other_number l
free_once first l h = free_pairs first l (replicate 2048 false) (length-replicate {A = Bool} 2048 false) h ∙ (rw (free_start first l h))

-- the loop
module _ (first : ℕ) (l : List (List ℕ)) (i : ℕ) (a : List Bool) where
  pub free_fail : (x z : Bool) → i < length l → x ≡ unmarked first a (get_or l i []) → x ≡ false → all_unmarked first (drop i l) a ≡ z → false ≡ z
  unfolding all_unmarked
  free_fail x z p e h inv = rw (drop_more l i [] p, ← e, h) at inv

  pub free_turn : (b : List Bool) (x z : Bool) → i < length l → x ≡ unmarked first a (get_or l i []) → x ≡ true → b ≡ with_number first a (get_or l i []) → all_unmarked first (drop i l) a ≡ z → all_unmarked first (drop (i + 1) l) b ≡ z
  unfolding all_unmarked
  free_turn b x z p e h g inv = rw g (rw (drop_more l i [] p, ← e, h) at inv)

  pub free_done : (z : Bool) → length l ≤ i → all_unmarked first (drop i l) a ≡ z → true ≡ z
  unfolding all_unmarked
  free_done z p inv = rw (drop_all i l p) at inv

-- a row's number, taken: its place, and the marks
pub take_none : (first : ℕ) (a : List Bool) (r : List ℕ) (k : ℕ) → k ≡ number_of r → k ≡ 0 → (true ≡ unmarked first a r) × (a ≡ with_number first a r)
unfolding unmarked with_number
take_none first a r k e h = (rw (← e, h), rw (← e, h))

pub take_one : (first : ℕ) (a : List Bool) (r : List ℕ) (k : ℕ) → k ≡ number_of r → (k ≡ 0 → ⊥) → (not (get_or a (k - first) false) ≡ unmarked first a r) × (set a (k - first) true ≡ with_number first a r)
unfolding unmarked with_number
take_one first a r k e h = (rw (← e, ne_eqb k 0 h), rw (← e, ne_eqb k 0 h))

-- what the clauses of the rows by themselves give to the others
pub rows_give : (tables : List ℕ) (log : List (List ℕ)) (size pages last n : ℕ) (l : List (List ℕ)) (x z y : Bool) → n ≤ last → n ≤ 2048 → x ≡ (every (well_formed size pages) l && every (owning_in tables last) l && z && every (in_log log (last - n + 1)) l && y) → not x ≡ false → (every (page_below pages) l ≡ true) × (every (slotted (last - n + 1)) l ≡ true)
rows_give tables log size pages last n l x z y p q e h =
    let f = every (well_formed size pages) l in
    let o = every (owning_in tables last) l in
    let g = every (in_log log (last - n + 1)) l in
    let a = and_both (f && o && z) g (and_both (f && o && z && g) y (so _ _ e h)).0 in
    let b = and_both f o (and_both (f && o) z a.0).0 in
    (formed_page size pages l b.0, slots tables log (last - n + 1) last n refl p q l b.1 a.1)
