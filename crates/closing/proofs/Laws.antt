-- Laws of rows that lower dirty numbers, of the smallest committed number, and of what is dropped.
use Prim.Native.Nat.{ℕ, zero, suc, ◌+◌, ◌*◌, ◌-◌, ◌/◌, ◌%◌, ◌≤◌, ◌<◌, min}
use native.Mathlib.Omega.{arith}
use native.Mathlib.Nat.{min-eq_left, min-eq_right}
use mathlib.Core.Path.{◌≡◌, refl, sym, ap, ◌∙◌}
use mathlib.Core.Bool.{Bool, true, false, cond}
use mathlib.Core.List.{List, [], ◌∷◌}
use lib.ListN.{length, get_or, drop, replicate, drop_of_length-le}
use Rattle.std.proofs.lemmas.List.{at_drop_more, at_drop_all}
use lib.Seq.{set_out}
use lib.Dec.{eqb, leb}
use borrow.Author.Tests.{leb-true, leb-false}
use Rattle.word.specs.Word.{num, put}
use Rattle.record.specs.Part.{with_part}
use Rattle.record.specs.Rows.{rows, table, keep}
use Rattle.record.specs.Record.{committed, number_of, lesser, smallest}
use Rattle.record.proofs.Rows.{length_rows}
use Rattle.record.proofs.Listed.{done_more, done_all}
use Rattle.rules.specs.Lent.{Lent, lent_of, dirty_at}
use Rattle.rules.specs.Steps.{lowered, dropped_by, closed}

-- bytes past the end are not there to write
pub put_out : (w : ℕ) (l : List ℕ) (at v : ℕ) → length l ≤ at → put w l at v ≡ l
unfolding put
put_out zero l at v h = refl
put_out (suc w) l at v h =
    let h' : length l ≤ at + 1 = omega arith in
    ap (λ (x : List ℕ). put w x (at + 1) (v / 256)) (set_out l at (v % 256) h) ∙ put_out w l (at + 1) (v / 256) h'

-- `lower_all`: a turn and the end
module _ (pages : ℕ) (rs : List (List ℕ)) (i : ℕ) (ms : List ℕ) where
  pub lowered_left : i < length rs → lowered pages (drop i rs) ms ≡ lowered pages (drop (i + 1) rs) (lowered pages (get_or rs i [] ∷ []) ms)
  unfolding lowered
  lowered_left lt = at_drop_more (λ (l : List (List ℕ)). lowered pages l ms) rs i [] lt

  pub lowered_none_left : length rs ≤ i → lowered pages (drop i rs) ms ≡ ms
  unfolding lowered
  lowered_none_left le = at_drop_all (λ (l : List (List ℕ)). lowered pages l ms) rs i le

-- `smallest_committed`: a turn and the end
module _ (rs : List (List ℕ)) (i a : ℕ) where
  pub smallest_turn : (a' h : ℕ) → i < length rs → a' ≡ cond (committed (get_or rs i [])) (lesser a (number_of (get_or rs i []))) a
      → smallest a (keep committed (drop i rs)) ≡ h → smallest a' (keep committed (drop (i + 1) rs)) ≡ h
  unfolding smallest
  smallest_turn a' h = done_more (λ l x. smallest x l) (λ r x. lesser x (number_of r)) (λ x. refl) (λ r l x. refl) committed rs i a a' h

  pub smallest_done : (h : ℕ) → length rs ≤ i → smallest a (keep committed (drop i rs)) ≡ h → a ≡ h
  unfolding smallest
  smallest_done h = done_all (λ l x. smallest x l) (λ r x. lesser x (number_of r)) (λ x. refl) (λ r l x. refl) committed rs i a h

-- what is left of n rows does not see that no more than n are dropped
pub sub_least : (n d : ℕ) → n - min n d ≡ n - d
sub_least n d = go (leb n d) refl
  where
    go : (b : Bool) → leb n d ≡ b → n - min n d ≡ n - d
    go true e = let k : n ≤ d = leb-true n d e in rw (min-eq_left k) (omega arith)
    go false e = let k : d ≤ n = omega (arith, leb-false n d e) in rw (min-eq_right k)

pub drop_least : {A : Type 0} (n d : ℕ) (l : List A) → length l ≡ n → drop (min n d) l ≡ drop d l
drop_least n d l h = go (leb n d) refl
  where
    go : (b : Bool) → leb n d ≡ b → drop (min n d) l ≡ drop d l
    go true e =
        let k : n ≤ d = leb-true n d e in
        let k₁ : length l ≤ n = omega arith in
        let k₂ : length l ≤ d = omega arith in
        rw (min-eq_left k) (drop_of_length-le l k₁ ∙ sym (drop_of_length-le l k₂))
    go false e = let k : d ≤ n = omega (arith, leb-false n d e) in rw (min-eq_right k)

-- `close`: the log and the marks are those of the step
module _ (fixed marks log stored tables online pool : List ℕ) where
  abbrev lent : Lent
  lent = lent_of fixed marks log stored tables online pool

  abbrev anew : List (List ℕ) → List ℕ
  anew rs = lowered (num 4 fixed 4) rs (with_part (dirty_at (num 4 fixed 4) 0) (4 * num 4 fixed 4) marks (replicate (4 * num 4 fixed 4) 0))

  drops : (rs : List (List ℕ)) (x d : ℕ) → rs ≡ rows 19 (num 2 tables 0) online 0 → x ≡ smallest 0 (keep committed rs)
      → d ≡ min (num 4 marks 8) (cond (eqb x 0) (num 4 marks 8) (x - (num 4 marks 0 - num 4 marks 8 + 1))) → d ≡ min (num 4 marks 8) (dropped_by lent)
  unfolding dropped_by
  drops rs x d er ex ed =
      let e : x ≡ smallest 0 (keep committed (rows 19 (num 2 tables 0) online 0)) = ex ∙ ap (λ (l : List (List ℕ)). smallest 0 (keep committed l)) er in
      ed ∙ ap (λ (k : ℕ). min (num 4 marks 8) (cond (eqb k 0) (num 4 marks 8) (k - (num 4 marks 0 - num 4 marks 8 + 1)))) e

  pub lent_closed : (marks' log' : List ℕ) (rs : List (List ℕ)) (x d : ℕ) → rs ≡ rows 19 (num 2 tables 0) online 0 → x ≡ smallest 0 (keep committed rs)
      → d ≡ min (num 4 marks 8) (cond (eqb x 0) (num 4 marks 8) (x - (num 4 marks 0 - num 4 marks 8 + 1)))
      → log' ≡ table 14 (num 4 fixed 16) (drop d (rows 14 (num 4 marks 8) log 0))
      → marks' ≡ put 4 (put 4 (anew rs) 4 (num 4 marks 0)) 8 (num 4 marks 8 - d)
      → lent_of fixed marks' log' stored tables online pool ≡ (closed lent).lent
  unfolding closed
  lent_closed marks' log' rs x d er ex ed el ek = λ i. lent_of fixed (kept i) (logged i) stored tables online pool
    where
      e : d ≡ min (num 4 marks 8) (dropped_by lent)
      e = drops rs x d er ex ed

      kept : marks' ≡ put 4 (put 4 (anew (rows 19 (num 2 tables 0) online 0)) 4 (num 4 marks 0)) 8 (num 4 marks 8 - dropped_by lent)
      kept =
          ek ∙ ap (λ (l : List (List ℕ)). put 4 (put 4 (anew l) 4 (num 4 marks 0)) 8 (num 4 marks 8 - d)) er
          ∙ ap (λ (k : ℕ). put 4 (put 4 (anew (rows 19 (num 2 tables 0) online 0)) 4 (num 4 marks 0)) 8 k) (ap (λ (k : ℕ). num 4 marks 8 - k) e ∙ sub_least (num 4 marks 8) (dropped_by lent))

      logged : log' ≡ table 14 (num 4 fixed 16) (drop (dropped_by lent) (rows 14 (num 4 marks 8) log 0))
      logged =
          el ∙ ap (λ (k : List (List ℕ)). table 14 (num 4 fixed 16) k)
          (ap (λ (k : ℕ). drop k (rows 14 (num 4 marks 8) log 0)) e ∙ drop_least (num 4 marks 8) (dropped_by lent) (rows 14 (num 4 marks 8) log 0) (length_rows 14 (num 4 marks 8) log 0))
