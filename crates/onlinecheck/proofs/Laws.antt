-- Laws of the clauses: what each way out of a row's test shows, and the whole test as soundness's clauses.
use Prim.Native.Nat.{ℕ, zero, suc, ◌+◌, ◌*◌, ◌-◌, ◌≤◌, ◌<◌}
use native.Mathlib.Omega.{arith}
use native.Mathlib.Numerals.{add-one}
use mathlib.Core.Path.{◌≡◌, refl, sym, ap, ◌∙◌}
use mathlib.Core.Bool.{Bool, true, false, cond, not, ◌&&◌, ◌||◌, and-true, and-false, and_assoc, or-true}
use mathlib.Core.List.{List, [], ◌∷◌}
use lib.ListN.{length, get_or, take, drop, length-drop}
use lib.Seq.{drop-cons, take_all, get_or-drop}
use lib.Dec.{eqb, leb, ltb}
use borrow.Author.Tests.{ltb-true, ltb-false, leb-true, eqb-true, eqb-false, le-leb, lt-leb, eq-eqb, ne_eqb, not-true, not-false}
use Rattle.std.specs.Prelude.{Option, Some, None}
use Rattle.std.specs.List.{position_or_len}
use Rattle.std.proofs.lemmas.List.Sums.{fails_before_first}
use Rattle.std.proofs.lemmas.Option.{none-some}
use Rattle.word.specs.Word.{num}
use Rattle.word.proofs.Tests.{and_both}
use Rattle.record.specs.Part.{part}
use Rattle.record.specs.Rows.{row_at, rows}
use Rattle.record.proofs.Rows.{length_rows}
use Rattle.record.specs.Record.{page_of, offset_of, length_of, kind_of, value_of, owner_of, number_of, committed, body_of, well_formed, share_byte, free}
use Rattle.rules.specs.Lent.{Lent, size_of, pages_of, frames_of, last_of, logged_of, count_of}
use Rattle.rules.specs.Sound.{every, pairs, between, same, apart, owning, s7_online_records, s8_owners, s14_online_zero, s10_in_log, s11_above_stamp, s9_number_once, s12_dirty, s13_apart}
use Rattle.onlinecheck.specs.Online.{owning_in, in_log, past_stamp, row_test, other_number, entry_agrees, online_test}
use Rattle.rules.proofs.Every.{every_imp}
use Rattle.onlinecheck.proofs.Rows.{every_both, every_at, every_all}

-- S8: what later clauses take from it
pub owned_number : (tables : List ℕ) (last : ℕ) (r : List ℕ) → owning_in tables last r ≡ true → number_of r ≤ last
unfolding owning_in
owned_number tables last r h = pick (committed r) (number_of r) (leb (owner_of r) 32) (eqb (get_or tables (2 + owner_of r) 0) 1) h
  where
    pick : (x : Bool) (k : ℕ) (y z : Bool) → cond x (between 1 k last) (y && eqb k 0 && z) ≡ true → k ≤ last
    pick true k y z h = leb-true k last (and_both (leb 1 k) (leb k last) h).1
    pick false k y z h =
        let e : k ≡ 0 = eqb-true k 0 (and_both y (eqb k 0) (and_both (y && eqb k 0) z h).0).1 in
        omega arith

-- the log's row of a number up to the last one, among its rows as in its bytes
row_listed : (w n : ℕ) (t : List ℕ) (i j : ℕ) → j < n → get_or (rows w n t i) j [] ≡ row_at w t (i + j)
unfolding rows
row_listed w zero t i j h = absurd (omega arith)
row_listed w (suc n) t i zero h = let e : i + 0 ≡ i = omega arith in rw e
row_listed w (suc n) t i (suc j) h = let e : i + suc j ≡ i + 1 + j = omega arith in rw e (row_listed w n t (i + 1) j (omega arith))

abbrev in_bytes : List ℕ → ℕ → List ℕ → Bool
in_bytes log first r = not (committed r) || (leb first (number_of r) && same (body_of r) (row_at 14 log (number_of r - first)))

log_alike : (tables log : List ℕ) (last n : ℕ) (r : List ℕ) → owning_in tables last r ≡ true → in_log (rows 14 n log 0) (last - n + 1) r ≡ in_bytes log (last - n + 1) r
unfolding in_log
log_alike tables log last n r h = pick (leb (last - n + 1) (number_of r)) refl
  where
    pick : (x : Bool) → leb (last - n + 1) (number_of r) ≡ x → (not (committed r) || (leb (last - n + 1) (number_of r) && same (body_of r) (get_or (rows 14 n log 0) (number_of r - (last - n + 1)) []))) ≡ in_bytes log (last - n + 1) r
    pick false e = rw e
    pick true e =
        let k : number_of r - (last - n + 1) < n = omega (arith, owned_number tables last r h, leb-true (last - n + 1) (number_of r) e) in
        let f : 0 + (number_of r - (last - n + 1)) ≡ number_of r - (last - n + 1) = omega arith in
        rw (row_listed 14 n log 0 (number_of r - (last - n + 1)) k, f)

every_log : (tables log : List ℕ) (last n : ℕ) (l : List (List ℕ)) → every (owning_in tables last) l ≡ true → every (in_log (rows 14 n log 0) (last - n + 1)) l ≡ every (in_bytes log (last - n + 1)) l
unfolding every
every_log tables log last n [] h = refl
every_log tables log last n (r ∷ l) h =
    let u = and_both (owning_in tables last r) (every (owning_in tables last) l) h in
    rw (log_alike tables log last n r u.0, every_log tables log last n l u.1)

-- the test is soundness's clauses about the online table
pub online_is : (s : Lent) → online_test (rows 19 (count_of s) s.lost.online 0) (drop (count_of s * 19) s.lost.online) (rows 14 (logged_of s) s.durable.log 0) s.durable.marks s.lost.tables (size_of s) (pages_of s) (frames_of s) (last_of s) ≡ (s7_online_records s && s8_owners s && s14_online_zero s && s10_in_log s && s11_above_stamp s && s9_number_once s && s12_dirty s && s13_apart s)
unfolding owning_in owning in_log past_stamp other_number entry_agrees online_test s7_online_records s8_owners s14_online_zero s10_in_log s11_above_stamp s9_number_once s12_dirty s13_apart
online_is s =
    let first = last_of s - logged_of s + 1 in
    rw (length_rows 14 (logged_of s) s.durable.log 0)
    (ap (λ (x : Bool). x && s11_above_stamp s && s9_number_once s && s12_dirty s && s13_apart s) (guarded (s7_online_records s) (s8_owners s) (s14_online_zero s) (every (in_log (rows 14 (logged_of s) s.durable.log 0) first) (rows 19 (count_of s) s.lost.online 0)) (s10_in_log s) (every_log s.lost.tables s.durable.log (last_of s) (logged_of s) (rows 19 (count_of s) s.lost.online 0))))
  where
    guarded : (w o z a b : Bool) → (o ≡ true → a ≡ b) → (w && o && z && a) ≡ (w && o && z && b)
    guarded true true true a b f = f refl
    guarded true true false a b f = refl
    guarded true false z a b f = refl
    guarded false o z a b f = refl

-- S8
pub owned_committed : (tables : List ℕ) (last : ℕ) (r : List ℕ) (x k : ℕ) → x ≡ owner_of r → k ≡ number_of r → x ≡ 0 → (leb 1 k && leb k last) ≡ owning_in tables last r
unfolding owning_in
owned_committed tables last r x k a b h = rw (← a, ← b, h)

pub owned_past : (tables : List ℕ) (last : ℕ) (r : List ℕ) (x : ℕ) → x ≡ owner_of r → 32 < x → false ≡ owning_in tables last r
unfolding owning_in
owned_past tables last r x a h =
    let f : eqb x 0 ≡ false = ne_eqb x 0 (λ e. omega arith) in
    rw (← a, f, lt-leb x 32 h)

pub owned_live : (tables : List ℕ) (last : ℕ) (r : List ℕ) (x k at : ℕ) → x ≡ owner_of r → k ≡ number_of r → (x ≡ 0 → ⊥) → x ≤ 32 → at ≡ 2 + x → (eqb k 0 && eqb (get_or tables at 0) 1) ≡ owning_in tables last r
unfolding owning_in
owned_live tables last r x k at a b n h e = rw (← a, ← b, ne_eqb x 0 n, le-leb x 32 h, e)

-- S10: equal words have equal bytes
part_cons : (a n : ℕ) (t : List ℕ) → a < length t → part a (suc n) t ≡ get_or t a 0 ∷ part (a + 1) n t
part_cons a n t h = rw (drop-cons t a 0 h, add-one)

same_step : (t l : List ℕ) (a n : ℕ) → a < length t → a < length l → same (part a (suc n) t) (part a (suc n) l) ≡ (eqb (get_or t a 0) (get_or l a 0) && same (part (a + 1) n t) (part (a + 1) n l))
unfolding same
same_step t l a n p q = rw (part_cons a n t p, part_cons a n l q)

byte_more : (x y n m : ℕ) → x < 256 → y < 256 → eqb (x + 256 * n) (y + 256 * m) ≡ (eqb x y && eqb n m)
byte_more x y n m p q = pick (eqb x y) (eqb n m) refl refl
  where
    pick : (u v : Bool) → eqb x y ≡ u → eqb n m ≡ v → eqb (x + 256 * n) (y + 256 * m) ≡ (eqb x y && eqb n m)
    pick true true e f =
        let a = eqb-true x y e in
        let b = eqb-true n m f in
        rw (e, f) (eq-eqb (x + 256 * n) (y + 256 * m) (omega arith))
    pick true false e f =
        let a = eqb-true x y e in
        rw (e, f) (ne_eqb (x + 256 * n) (y + 256 * m) (λ g. eqb-false n m f (omega arith)))
    pick false v e f = rw e (ne_eqb (x + 256 * n) (y + 256 * m) (λ g. eqb-false x y e (omega arith)))

module _ (t l : List ℕ) where
  num_same : ((i : ℕ) → get_or t i 0 < 256) → ((i : ℕ) → get_or l i 0 < 256) → (w a : ℕ) → a + w ≤ length t → a + w ≤ length l → eqb (num w t a) (num w l a) ≡ same (part a w t) (part a w l)
  unfolding num same
  num_same f g zero a p q = refl
  num_same f g (suc w) a p q =
      byte_more (get_or t a 0) (get_or l a 0) (num w t (a + 1)) (num w l (a + 1)) (f a) (g a)
      ∙ ap (λ (x : Bool). eqb (get_or t a 0) (get_or l a 0) && x) (num_same f g w (a + 1) (omega arith) (omega arith))
      ∙ sym (same_step t l a w (omega arith) (omega arith))

  byte_same : (a : ℕ) → a < length t → a < length l → eqb (get_or t a 0) (get_or l a 0) ≡ same (part a 1 t) (part a 1 l)
  unfolding same
  byte_same a p q = sym (same_step t l a 0 p q ∙ and-true (eqb (get_or t a 0) (get_or l a 0)))

  same_join : (v w a : ℕ) → a + (v + w) ≤ length t → a + (v + w) ≤ length l → same (part a (v + w) t) (part a (v + w) l) ≡ (same (part a v t) (part a v l) && same (part (a + v) w t) (part (a + v) w l))
  unfolding same
  same_join zero w a p q =
      let e : 0 + w ≡ w = omega arith in
      let n : a + 0 ≡ a = omega arith in
      rw (e, n)
  same_join (suc v) w a p q =
      let e : suc v + w ≡ suc (v + w) = omega arith in
      let n : a + suc v ≡ a + 1 + v = omega arith in
      rw (e, n, same_step t l a (v + w) (omega arith) (omega arith), same_step t l a v (omega arith) (omega arith), same_join v w (a + 1) (omega arith) (omega arith), and_assoc)

  -- the 14 bytes of a record, as its fields of 2, 2, 1, 1 and 8
  pub same_fields : ((i : ℕ) → get_or t i 0 < 256) → ((i : ℕ) → get_or l i 0 < 256) → length t ≡ 19 → length l ≡ 14 → (eqb (page_of t) (page_of l) && eqb (offset_of t) (offset_of l) && eqb (length_of t) (length_of l) && eqb (kind_of t) (kind_of l) && eqb (value_of t) (value_of l)) ≡ same (body_of t) l
  same_fields f g p q =
      let a = num_same f g 2 0 (omega arith) (omega arith) in
      let b = num_same f g 2 2 (omega arith) (omega arith) in
      let c = byte_same 4 (omega arith) (omega arith) in
      let d = byte_same 5 (omega arith) (omega arith) in
      let e = num_same f g 8 6 (omega arith) (omega arith) in
      let s = same_join 2 12 0 (omega arith) (omega arith) in
      let w = same_join 2 10 2 (omega arith) (omega arith) in
      let o = same_join 1 9 4 (omega arith) (omega arith) in
      let r = same_join 1 8 5 (omega arith) (omega arith) in
      let k : same (body_of t) l ≡ same (part 0 14 t) (part 0 14 l) = ap (λ (x : List ℕ). same (take 14 t) x) (sym (take_all 14 l (omega arith))) in
      rw (k, s, w, o, r, a, b, c, d, e) (simp and_assoc)

pub log_free : (log : List (List ℕ)) (first : ℕ) (r : List ℕ) (x : ℕ) → x ≡ owner_of r → (x ≡ 0 → ⊥) → true ≡ in_log log first r
unfolding in_log
log_free log first r x a h = rw (← a, ne_eqb x 0 h)

pub log_before : (log : List (List ℕ)) (first : ℕ) (r : List ℕ) (x k : ℕ) → x ≡ owner_of r → k ≡ number_of r → x ≡ 0 → k < first → false ≡ in_log log first r
unfolding in_log
log_before log first r x k a b h d = rw (← a, ← b, h, lt-leb first k d)

pub log_row : (log : List (List ℕ)) (first : ℕ) (r : List ℕ) (x k : ℕ) (y : Bool) → x ≡ owner_of r → k ≡ number_of r → x ≡ 0 → first ≤ k → y ≡ same (body_of r) (get_or log (k - first) []) → y ≡ in_log log first r
unfolding in_log
log_row log first r x k y a b h d e = rw (← a, ← b, h, le-leb first k d) e

-- S11
pub above_free : (marks r : List ℕ) (x : ℕ) → x ≡ owner_of r → (x ≡ 0 → ⊥) → true ≡ past_stamp marks r
unfolding past_stamp
above_free marks r x a h = rw (← a, ne_eqb x 0 h)

pub above_row : (marks r : List ℕ) (x p k stamp : ℕ) → x ≡ owner_of r → p ≡ page_of r → k ≡ number_of r → x ≡ 0 → stamp ≡ num 4 marks (12 + 4 * p) → ltb stamp k ≡ past_stamp marks r
unfolding past_stamp
above_row marks r x p k stamp a b d h e = rw (← a, ← b, ← d, h, ← e)

-- S7, S8, S10 and S11 row by row, and the bytes past the rows, are these clauses one by one
pub rows_each : (tables : List ℕ) (log : List (List ℕ)) (marks : List ℕ) (size pages last first : ℕ) (l : List (List ℕ)) (x z : Bool) → x ≡ every (row_test tables log marks size pages last first) l → (x && z) ≡ (every (well_formed size pages) l && every (owning_in tables last) l && z && every (in_log log first) l && every (past_stamp marks) l)
rows_each tables log marks size pages last first l x z e =
    let f = well_formed size pages in
    let o = owning_in tables last in
    let g = in_log log first in
    let a = past_stamp marks in
    ap (λ (y : Bool). y && z) (e ∙ every_both (λ r. f r && o r && g r) a l ∙ ap (λ (y : Bool). y && every a l) (every_both (λ r. f r && o r) g l ∙ ap (λ (y : Bool). y && every g l) (every_both f o l)))
    ∙ mid (every f l && every o l) (every g l) (every a l) z
  where
    mid : (x y w z : Bool) → (x && y && w && z) ≡ (x && z && y && w)
    mid true y w true = and-true (y && w)
    mid true y w false = and-false (y && w)
    mid false y w z = refl

-- S13
pub share_other : (r q : List ℕ) (a b : ℕ) → a ≡ page_of r → b ≡ page_of q → true ≡ not (eqb a b) → false ≡ share_byte r q
unfolding share_byte
share_other r q a b e f h = rw (← e, ← f, not-true (eqb a b) (sym h))

pub share_same : (r q : List ℕ) (a b o k p l : ℕ) → a ≡ page_of r → b ≡ page_of q → false ≡ not (eqb a b) → o ≡ offset_of r → k ≡ length_of r → p ≡ offset_of q → l ≡ length_of q → (ltb o (p + l) && ltb p (o + k)) ≡ share_byte r q
unfolding share_byte
share_same r q a b o k p l e f h eo ek ep el = rw (← e, ← f, not-false (eqb a b) (sym h), eo, ek, ep, el)

pub apart_free : (r q : List ℕ) (x y : ℕ) → x ≡ owner_of r → y ≡ owner_of q → (eqb x 0 || eqb y 0 || eqb x y) ≡ true → true ≡ apart r q
unfolding apart
apart_free r q x y e f h = rw (← e, ← f, h)

pub apart_row : (r q : List ℕ) (x y : ℕ) (b : Bool) → x ≡ owner_of r → y ≡ owner_of q → (eqb x 0 || eqb y 0 || eqb x y) ≡ false → b ≡ share_byte r q → not b ≡ apart r q
unfolding apart free
apart_row r q x y b e f h g = rw (← e, ← f, h, g)

-- a committed row is apart from every other
pub apart_all : (r : List ℕ) (x : ℕ) → x ≡ owner_of r → x ≡ 0 → (l : List (List ℕ)) → true ≡ every (apart r) l
unfolding every apart
apart_all r x e h [] = refl
apart_all r x e h (q ∷ l) = rw (← e, h) (apart_all r x e h l)

-- a row that is committed, or of the owner y: rows that are so are apart
abbrev pub of_one : ℕ → List ℕ → Bool
of_one y r = eqb (owner_of r) 0 || eqb (owner_of r) y

one_apart : (y : ℕ) (r q : List ℕ) → of_one y r ≡ true → of_one y q ≡ true → apart r q ≡ true
unfolding apart
one_apart y r q h k = pick (eqb (owner_of r) 0) (eqb (owner_of q) 0) refl refl
  where
    pick : (u v : Bool) → eqb (owner_of r) 0 ≡ u → eqb (owner_of q) 0 ≡ v → apart r q ≡ true
    pick true v e f = rw e
    pick false true e f = rw (e, f)
    pick false false e f =
        let a : owner_of r ≡ y = eqb-true (owner_of r) y (rw e at h) in
        let b : owner_of q ≡ y = eqb-true (owner_of q) y (rw f at k) in
        rw (e, f, eq-eqb (owner_of r) (owner_of q) (a ∙ sym b))

pub one_pairs : (y : ℕ) (l : List (List ℕ)) → every (of_one y) l ≡ true → pairs apart l ≡ true
unfolding every pairs
one_pairs y [] h = refl
one_pairs y (r ∷ l) h =
    let u = and_both (of_one y r) (every (of_one y) l) h in
    rw (every_imp (of_one y) (apart r) (λ q k. one_apart y r q u.0 k) l u.1) (one_pairs y l u.1)

-- what a search for the first uncommitted row finds: none, or row i, after which all are committed or of its owner
abbrev pub is_open : List ℕ → Bool
is_open r = not (eqb (owner_of r) 0)

abbrev pub open_first : List (List ℕ) → Option ℕ
open_first l = cond (ltb (position_or_len is_open l) (length l)) (Some (position_or_len is_open l)) None

module _ (l : List (List ℕ)) where
  before : (y k : ℕ) → k < position_or_len is_open l → of_one y (get_or l k []) ≡ true
  before y k h = rw (not-false (eqb (owner_of (get_or l k [])) 0) (fails_before_first is_open l k [] h))

  pub none_open : open_first l ≡ None → pairs apart l ≡ true
  none_open e = pick (ltb (position_or_len is_open l) (length l)) refl
    where
      pick : (x : Bool) → ltb (position_or_len is_open l) (length l) ≡ x → pairs apart l ≡ true
      pick true f = absurd (none-some (position_or_len is_open l) (sym (rw f at e)))
      pick false f = one_pairs 0 l (every_all (of_one 0) l (λ k h. before 0 k (omega (arith, ltb-false (position_or_len is_open l) (length l) f))))

  open_at : (i : ℕ) → open_first l ≡ Some i → (i < length l) × (position_or_len is_open l ≡ i)
  open_at i e = pick (ltb (position_or_len is_open l) (length l)) refl
    where
      pick : (x : Bool) → ltb (position_or_len is_open l) (length l) ≡ x → (i < length l) × (position_or_len is_open l ≡ i)
      pick true f =
          let s : Some (position_or_len is_open l) ≡ Some i = rw f at e in
          let a : position_or_len is_open l ≡ i = cc in
          (omega (arith, ltb-true (position_or_len is_open l) (length l) f, a), a)
      pick false f = absurd (none-some i (rw f at e))

  pub open_within : (i : ℕ) → open_first l ≡ Some i → i < length l
  open_within i e = (open_at i e).0

  pub first_open : (i x : ℕ) → open_first l ≡ Some i → x ≡ owner_of (get_or l i []) → every (of_one x) (drop (i + 1) l) ≡ true → pairs apart l ≡ true
  first_open i x e o g = one_pairs x l (every_all (of_one x) l one)
    where
      one : (k : ℕ) → k < length l → of_one x (get_or l k []) ≡ true
      one k h = pick (ltb k i) (eqb k i) refl refl
        where
          pick : (u v : Bool) → ltb k i ≡ u → eqb k i ≡ v → of_one x (get_or l k []) ≡ true
          pick true v a b = before x k (omega (arith, ltb-true k i a, (open_at i e).1))
          pick false true a b = rw (eqb-true k i b, eq-eqb (owner_of (get_or l i [])) x (sym o)) (or-true (eqb (owner_of (get_or l i [])) 0))
          pick false false a b =
              let d : (k ≡ i → ⊥) = eqb-false k i b in
              let m : i ≤ k = ltb-false k i a in
              let n : i + 1 + (k - (i + 1)) ≡ k = omega arith in
              rw n at (rw (get_or-drop (i + 1) l (k - (i + 1)) []) at (every_at (of_one x) (drop (i + 1) l) (k - (i + 1)) (omega (arith, length-drop (i + 1) l)) g))
