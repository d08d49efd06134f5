-- The clauses of soundness that are about the online table, over the areas' rows and bytes: crate `rules` has the same over the lent record.
use Rattle.std.specs.Prelude.{ℕ, ◌+◌, ◌*◌, ◌-◌, Bool, cond, not, ◌&&◌, ◌||◌, List, [], length, get_or, eqb, leb, ltb}
use Rattle.word.specs.Word.{num}
use Rattle.record.specs.Part.{part}
use Rattle.record.specs.Rows.{any}
use Rattle.record.specs.Record.{page_of, owner_of, number_of, committed, body_of, on_page, well_formed}
use Rattle.rules.specs.Lent.{order_at, is_dirty}
use Rattle.rules.specs.Sound.{every, pairs, up_to, zeros, between, same, agree, apart}

-- S8: a row's owner and number, by the live set of the tables and the last number
unfoldable pub owning_in : List ℕ → ℕ → List ℕ → Bool
owning_in tables last r = cond (committed r) (between 1 (number_of r) last) (leb (owner_of r) 32 && eqb (number_of r) 0 && eqb (get_or tables (2 + owner_of r) 0) 1)

-- S10: a committed row is the log's row of its number
unfoldable pub in_log : List (List ℕ) → ℕ → List ℕ → Bool
in_log log first r = not (committed r) || (leb first (number_of r) && same (body_of r) (get_or log (number_of r - first) []))

-- S11: a committed row's number is above its page's stamp
unfoldable pub past_stamp : List ℕ → List ℕ → Bool
past_stamp marks r = not (committed r) || ltb (num 4 marks (12 + 4 * page_of r)) (number_of r)

-- S9: two rows have not the same nonzero number
unfoldable pub other_number : List ℕ → List ℕ → Bool
other_number a b = eqb (number_of a) 0 || not (eqb (number_of a) (number_of b))

-- S12: the entry of page p is dirty exactly if a row is of the page
unfoldable pub entry_agrees : List ℕ → List (List ℕ) → ℕ → Bool
entry_agrees entries rs p = agree (is_dirty (get_or entries p 0)) (any (on_page p) rs)

-- S7, S8, S10 and S11 of a row
abbrev pub row_test : List ℕ → List (List ℕ) → List ℕ → ℕ → ℕ → ℕ → ℕ → List ℕ → Bool
row_test tables log marks size pages last first r = well_formed size pages r && owning_in tables last r && in_log log first r && past_stamp marks r

-- S7, S8, S14, S10, S11, S9, S12, S13, of the rows, the bytes behind them and the log's rows
unfoldable pub online_test : List (List ℕ) → List ℕ → List (List ℕ) → List ℕ → List ℕ → ℕ → ℕ → ℕ → ℕ → Bool
online_test online behind log marks tables size pages frames last =
    every (well_formed size pages) online
    && every (owning_in tables last) online
    && zeros behind
    && every (in_log log (last - length log + 1)) online
    && every (past_stamp marks) online
    && pairs other_number online
    && up_to (entry_agrees (part (order_at + frames) pages tables) online) pages 0
    && pairs apart online
