-- What the log says after each step that writes it: its rows, that what is behind them is zero, and that the area keeps its length.
use Prim.Native.Nat.{ℕ, zero, suc, ◌+◌, ◌*◌, ◌-◌, ◌≤◌}
use native.Mathlib.Omega.{arith}
use native.Mathlib.Nat.{mul_comm}
use mathlib.Core.Path.{◌≡◌, refl, sym, ap, ◌∙◌}
use mathlib.Core.Bool.{true}
use mathlib.Core.List.{List, [], ◌++◌, map}
use lib.ListN.{length, drop, replicate, length-append, length-drop, length-map, length-replicate}
use Rattle.record.specs.Rows.{rows, table}
use Rattle.record.specs.Record.{body_of, owned_by}
use Rattle.record.proofs.Rows.{Wide, wide_all, wide_keep, wide_drop, wide_append, wide_bodies, length_rows, length_table, rows_table, zeros_table}
use Rattle.rules.specs.declared.Params.{Params}
use Rattle.rules.specs.Lent.{Lent, pages_of, log_size_of, last_of, logged_of, log_of, online_of}
use Rattle.rules.specs.Sound.{every, zeros, in_range}
use Rattle.rules.specs.Steps.{owned, committing, dropped_by, closed, formatted}
use Rattle.readback.proofs.Marks.{logged_commit, logged_close, logged_format}

-- what is left of zero bytes is zero
zeros_left : (k n : ℕ) → zeros (drop k (replicate n 0)) ≡ true
unfolding zeros every
zeros_left zero zero = refl
zeros_left zero (suc n) = zeros_left zero n
zeros_left (suc k) zero = refl
zeros_left (suc k) (suc n) = zeros_left k n

-- n rows of w bytes as a table
module _ {w : ℕ} (size n : ℕ) {rs : List (List ℕ)} (h : Wide w rs) (e : n ≡ length rs) where
  table_rows : rows w n (table w size rs) 0 ≡ rs
  table_rows = ap (λ (k : ℕ). rows w k (table w size rs) 0) e ∙ rows_table size h

  table_zeros : zeros (drop (n * w) (table w size rs)) ≡ true
  table_zeros = ap (λ (k : ℕ). zeros (drop (k * w) (table w size rs))) e ∙ ap (λ (l : List ℕ). zeros l) (zeros_table size h) ∙ zeros_left 0 ((size - length rs) * w)

  table_length : n ≤ size → length (table w size rs) ≡ w * size
  table_length k = length_table size h (omega arith) ∙ mul_comm size w

-- the log's rows, and its area
module _ (s : Lent) (hm : length s.durable.marks ≡ 12 + 8 * pages_of s) (ha : length s.durable.log ≡ 14 * log_size_of s) (hs : logged_of s ≤ log_size_of s) where
  log_wide : Wide 14 (log_of s)
  log_wide = wide_all 14 (logged_of s) s.durable.log (omega arith)

  -- commit appends the records of the owner's rows, in table order
  module _ (x : ℕ) (hw : Wide 19 (online_of s)) (hl : last_of s + length (owned s x) ≤ 4294967295) (hn : logged_of s + length (owned s x) ≤ 4294967295) where
    more_wide : Wide 14 (log_of s ++ map body_of (owned s x))
    more_wide = wide_append log_wide (wide_bodies (wide_keep (owned_by x) hw))

    more_length : logged_of s + length (owned s x) ≡ length (log_of s ++ map body_of (owned s x))
    more_length =
        sym (length-append (log_of s) (map body_of (owned s x))
        ∙ ap (λ (k : ℕ). k + length (map body_of (owned s x))) (length_rows 14 (logged_of s) s.durable.log 0)
        ∙ ap (λ (k : ℕ). logged_of s + k) (length-map (owned s x) body_of))

    more_logged : logged_of (committing s x).lent ≡ length (log_of s ++ map body_of (owned s x))
    more_logged = logged_commit s hm x hl hn ∙ more_length

    pub log_commit : log_of (committing s x).lent ≡ log_of s ++ map body_of (owned s x)
    unfolding committing
    log_commit = table_rows (log_size_of s) (logged_of (committing s x).lent) more_wide more_logged

    pub log_zero_commit : zeros (drop (logged_of (committing s x).lent * 14) (committing s x).lent.durable.log) ≡ true
    unfolding committing
    log_zero_commit = table_zeros (log_size_of s) (logged_of (committing s x).lent) more_wide more_logged

    pub log_length_commit : logged_of s + length (owned s x) ≤ log_size_of s → length (committing s x).lent.durable.log ≡ length s.durable.log
    unfolding committing
    log_length_commit k = table_length (log_size_of s) (logged_of s + length (owned s x)) more_wide more_length k ∙ sym ha

  -- close drops the oldest records
  module _ (hl : last_of s ≤ 4294967295) (hn : logged_of s ≤ 4294967295) where
    less_wide : Wide 14 (drop (dropped_by s) (log_of s))
    less_wide = wide_drop (dropped_by s) log_wide

    less_length : logged_of s - dropped_by s ≡ length (drop (dropped_by s) (log_of s))
    less_length = sym (length-drop (dropped_by s) (log_of s) ∙ ap (λ (k : ℕ). k - dropped_by s) (length_rows 14 (logged_of s) s.durable.log 0))

    less_logged : logged_of (closed s).lent ≡ length (drop (dropped_by s) (log_of s))
    less_logged = logged_close s hm hl hn ∙ less_length

    pub log_close : log_of (closed s).lent ≡ drop (dropped_by s) (log_of s)
    unfolding closed
    log_close = table_rows (log_size_of s) (logged_of (closed s).lent) less_wide less_logged

    pub log_zero_close : zeros (drop (logged_of (closed s).lent * 14) (closed s).lent.durable.log) ≡ true
    unfolding closed
    log_zero_close = table_zeros (log_size_of s) (logged_of (closed s).lent) less_wide less_logged

    pub log_length_close : length (closed s).lent.durable.log ≡ length s.durable.log
    unfolding closed
    log_length_close = table_length (log_size_of s) (logged_of s - dropped_by s) less_wide less_length (omega arith) ∙ sym ha

-- format leaves an empty log
module _ (s : Lent) (g : Params) (last : ℕ) (r : in_range g ≡ true) (h : length s.durable.marks ≡ 12 + 8 * g.pages) (hl : last ≤ 4294967295) where
  pub log_format : log_of (formatted s g last).lent ≡ []
  unfolding formatted rows
  log_format = ap (λ (n : ℕ). rows 14 n (replicate (length s.durable.log) 0) 0) (logged_format s g last r h hl)

  pub log_zero_format : zeros (drop (logged_of (formatted s g last).lent * 14) (formatted s g last).lent.durable.log) ≡ true
  unfolding formatted
  log_zero_format = zeros_left (logged_of (formatted s g last).lent * 14) (length s.durable.log)

  pub log_length_format : length (formatted s g last).lent.durable.log ≡ length s.durable.log
  unfolding formatted
  log_length_format = length-replicate (length s.durable.log) 0
