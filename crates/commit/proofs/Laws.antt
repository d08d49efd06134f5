-- Laws of zero bytes behind a table's rows, of rows added to the log and numbered online, and of the whole commit.
use Prim.Native.Nat.{ℕ, ◌+◌, ◌*◌, ◌-◌, ◌≤◌}
use native.Mathlib.Omega.{arith}
use native.Mathlib.Nat.{add-mul}
use mathlib.Core.Path.{◌≡◌, sym, ap, ◌∙◌}
use mathlib.Core.Bool.{true, cond}
use mathlib.Core.List.{List, ◌++◌, append_assoc, map}
use lib.ListN.{length, take, drop, set, replicate, length-append, length-drop, length-map}
use lib.Seq.{drop-drop}
use lib.Dec.{eqb}
use Rattle.word.specs.Word.{num, put}
use Rattle.record.specs.Rows.{rows, joined, table, keep}
use Rattle.record.specs.Record.{body_of, owned_by, number_rows}
use Rattle.record.proofs.Laws.{drop_zeros}
use Rattle.rules.proofs.Every.{zeros_are}
use Rattle.record.proofs.Rows.{sub_mul, joined_all, joined_append, length_rows, length_number}
use Rattle.rules.specs.Sound.{zeros}
use Rattle.rules.specs.Lent.{Lent, lent_of, live_at}
use Rattle.rules.specs.Steps.{committing}

-- bytes from b on are zero where those from a on are
pub zeros_from : (a b : ℕ) (l : List ℕ) → zeros (drop a l) ≡ true → a ≤ b → drop b l ≡ replicate (length l - b) 0
zeros_from a b l h k =
    let e : a + (b - a) ≡ b = omega arith in
    let n : length (drop a l) - (b - a) ≡ length l - b = rw (length-drop a l) (omega arith) in
    ap (λ (x : ℕ). drop x l) (sym e) ∙ sym (drop-drop (b - a) a l)
    ∙ ap (λ (x : List ℕ). drop (b - a) x) (zeros_are (drop a l) h)
    ∙ drop_zeros (length (drop a l)) (b - a)
    ∙ ap (λ (x : ℕ). replicate x 0) n

-- rows in front of zero bytes are a table
pub table_of : (w size b : ℕ) (rs : List (List ℕ)) (l tail : List ℕ) → length l ≡ size * w → b ≡ length rs * w → tail ≡ replicate (length l - b) 0 → joined rs ++ tail ≡ table w size rs
unfolding table
table_of w size b rs l tail h eb e =
    let n : length l - b ≡ (size - length rs) * w = ap (λ (x : ℕ). x - b) h ∙ ap (λ (x : ℕ). size * w - x) eb ∙ sym (sub_mul size (length rs) w) in
    ap (λ (x : List ℕ). joined rs ++ x) (e ∙ ap (λ (x : ℕ). replicate x 0) n)

-- the log with k rows more
pub log_more : (w size n k : ℕ) (rs : List (List ℕ)) (l : List ℕ) → length rs ≡ k → length l ≡ size * w → zeros (drop (n * w) l) ≡ true
    → take (n * w) l ++ (joined rs ++ drop ((n + k) * w) l) ≡ table w size (rows w n l 0 ++ rs)
log_more w size n k rs l q h z =
    let e : length (rows w n l 0 ++ rs) ≡ n + k = length-append (rows w n l 0) rs ∙ ap (λ (x : ℕ). x + length rs) (length_rows w n l 0) ∙ ap (λ (x : ℕ). n + x) q in
    let m : n * w ≤ (n + k) * w = rw (add-mul n k w) (omega arith) in
    ap (λ (x : List ℕ). x ++ (joined rs ++ drop ((n + k) * w) l)) (sym (joined_all w n l))
    ∙ sym (append_assoc (joined (rows w n l 0)) (joined rs) (drop ((n + k) * w) l))
    ∙ ap (λ (x : List ℕ). x ++ drop ((n + k) * w) l) (sym (joined_append (rows w n l 0) rs))
    ∙ table_of w size ((n + k) * w) (rows w n l 0 ++ rs) l (drop ((n + k) * w) l) h (ap (λ (x : ℕ). x * w) (sym e)) (zeros_from (n * w) ((n + k) * w) l z m)

-- the online table with an owner's rows numbered
pub online_numbered : (size m x k : ℕ) (l : List ℕ) → length l ≡ size * 19 → zeros (drop (m * 19) l) ≡ true
    → joined (number_rows x k (rows 19 m l 0)) ++ drop (m * 19) l ≡ table 19 size (number_rows x k (rows 19 m l 0))
online_numbered size m x k l h z =
    let n : length (number_rows x k (rows 19 m l 0)) ≡ m = length_number x k (rows 19 m l 0) ∙ length_rows 19 m l 0 in
    let i : m * 19 ≤ m * 19 = omega arith in
    table_of 19 size (m * 19) (number_rows x k (rows 19 m l 0)) l (drop (m * 19) l) h (ap (λ (y : ℕ). y * 19) (sym n)) (zeros_from (m * 19) (m * 19) l z i)

-- `commit`: every area is that of the step
module _ (fixed marks log stored tables online pool : List ℕ) (x : ℕ) where
  abbrev lent : Lent
  lent = lent_of fixed marks log stored tables online pool

  abbrev mine : ℕ → List (List ℕ)
  mine m = keep (owned_by x) (rows 19 m online 0)

  log_committed : (log' : List ℕ) (m : ℕ) → m ≡ num 2 tables 0 → length log ≡ 14 * num 4 fixed 16 → zeros (drop (num 4 marks 8 * 14) log) ≡ true
      → log' ≡ take (num 4 marks 8 * 14) log ++ (joined (map body_of (mine m)) ++ drop ((num 4 marks 8 + length (mine m)) * 14) log)
      → log' ≡ table 14 (num 4 fixed 16) (rows 14 (num 4 marks 8) log 0 ++ map body_of (mine (num 2 tables 0)))
  log_committed log' m em h z e =
      let h' : length log ≡ num 4 fixed 16 * 14 = omega arith in
      e ∙ ap (λ (k : ℕ). take (num 4 marks 8 * 14) log ++ (joined (map body_of (mine k)) ++ drop ((num 4 marks 8 + length (mine k)) * 14) log)) em
      ∙ log_more 14 (num 4 fixed 16) (num 4 marks 8) (length (mine (num 2 tables 0))) (map body_of (mine (num 2 tables 0))) log (length-map (mine (num 2 tables 0)) body_of) h' z

  online_committed : (online' : List ℕ) (m : ℕ) → m ≡ num 2 tables 0 → length online ≡ 19 * num 4 fixed 12 → zeros (drop (num 2 tables 0 * 19) online) ≡ true
      → online' ≡ joined (number_rows x (num 4 marks 0 + 1) (rows 19 m online 0)) ++ drop (m * 19) online
      → online' ≡ table 19 (num 4 fixed 12) (number_rows x (num 4 marks 0 + 1) (rows 19 (num 2 tables 0) online 0))
  online_committed online' m em h z e =
      let h' : length online ≡ num 4 fixed 12 * 19 = omega arith in
      e ∙ ap (λ (k : ℕ). joined (number_rows x (num 4 marks 0 + 1) (rows 19 k online 0)) ++ drop (k * 19) online) em
      ∙ online_numbered (num 4 fixed 12) (num 2 tables 0) x (num 4 marks 0 + 1) online h' z

  pub lent_committed : (marks' log' tables' online' : List ℕ) (m k r : ℕ) → m ≡ num 2 tables 0
      → length log ≡ 14 * num 4 fixed 16 → length online ≡ 19 * num 4 fixed 12
      → zeros (drop (num 2 tables 0 * 19) online) ≡ true → zeros (drop (num 4 marks 8 * 14) log) ≡ true
      → log' ≡ take (num 4 marks 8 * 14) log ++ (joined (map body_of (mine m)) ++ drop ((num 4 marks 8 + length (mine m)) * 14) log)
      → online' ≡ joined (number_rows x (num 4 marks 0 + 1) (rows 19 m online 0)) ++ drop (m * 19) online
      → k ≡ length (mine m)
      → marks' ≡ put 4 (put 4 marks 0 (num 4 marks 0 + k)) 8 (num 4 marks 8 + k)
      → tables' ≡ set tables (live_at x) 0
      → r ≡ cond (eqb k 0) 0 1
      → (r ≡ (committing lent x).logs) × (lent_of fixed marks' log' stored tables' online' pool ≡ (committing lent x).lent)
  unfolding committing
  lent_committed marks' log' tables' online' m k r em hl ho zo zl el eo ek eg et er =
      (er ∙ ap (λ (j : ℕ). cond (eqb j 0) 0 1) count, λ i. lent_of fixed (kept i) (logged i) stored (et i) (numbers i) pool)
    where
      count : k ≡ length (mine (num 2 tables 0))
      count = ek ∙ ap (λ (j : ℕ). length (mine j)) em

      kept : marks' ≡ put 4 (put 4 marks 0 (num 4 marks 0 + length (mine (num 2 tables 0)))) 8 (num 4 marks 8 + length (mine (num 2 tables 0)))
      kept = eg ∙ ap (λ (j : ℕ). put 4 (put 4 marks 0 (num 4 marks 0 + j)) 8 (num 4 marks 8 + j)) count

      logged : log' ≡ table 14 (num 4 fixed 16) (rows 14 (num 4 marks 8) log 0 ++ map body_of (mine (num 2 tables 0)))
      logged = log_committed log' m em hl zl el

      numbers : online' ≡ table 19 (num 4 fixed 12) (number_rows x (num 4 marks 0 + 1) (rows 19 (num 2 tables 0) online 0))
      numbers = online_committed online' m em ho zo eo
