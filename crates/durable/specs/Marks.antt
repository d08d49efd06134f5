-- What is checked of the durable part once parameters and lengths are right: the clauses of `sound_durable` from S3 on, of the plain areas.
use Rattle.std.specs.Prelude.{ℕ, ◌+◌, ◌-◌, ◌*◌, ◌^◌, Bool, ◌&&◌, ◌||◌, List, drop, ◌==◌, nat_le, nat_lt}
use Rattle.word.specs.Word.{num}
use Rattle.record.specs.Rows.{rows}
use Rattle.record.specs.Record.{log_width, is_length, well_formed}
use Rattle.rules.specs.Lent.{last_in, closed_in, logged_in, stamp_at, dirty_at}
use Rattle.rules.specs.Sound.{every, up_to, zeros, between}

-- the fields of a record, as `well_formed` tests them of a row
unfoldable pub is_record : ℕ → ℕ → ℕ → ℕ → ℕ → ℕ → ℕ → Bool
is_record size pages page offset w kind v = nat_lt page pages && is_length w && nat_le (offset + w) size && nat_le kind 1 && nat_lt v (256 ^ w)

-- n within the log and at most L, the log's first number at most K + 1
abbrev pub sound_counts : ℕ → ℕ → ℕ → ℕ → Bool
sound_counts last closed n log_size = nat_le n log_size && nat_le n last && nat_le (last - n + 1) (closed + 1)

-- page p's number in the column from `at` on is at most `most`
abbrev pub number_within : List ℕ → ℕ → ℕ → ℕ → Bool
number_within marks at most p = nat_le (num 4 marks (at + 4 * p)) most

-- K and every stamp at most L
abbrev pub stamp_within : List ℕ → ℕ → ℕ → Bool
stamp_within marks last p = nat_le (num 4 marks (stamp_at p)) last

abbrev pub sound_stamps : List ℕ → ℕ → ℕ → ℕ → Bool
sound_stamps marks pages last closed = nat_le closed last && up_to (stamp_within marks last) pages 0

-- a dirty number is none, or from the log's first number to K
abbrev pub sound_dirty : ℕ → ℕ → ℕ → Bool
sound_dirty first closed d = d == 0 || between first d closed

abbrev pub dirty_within : List ℕ → ℕ → ℕ → ℕ → ℕ → Bool
dirty_within marks pages first closed p = sound_dirty first closed (num 4 marks (dirty_at pages p))

-- page p's dirty number is none, or from the log's first number on
abbrev pub dirty_from : List ℕ → ℕ → ℕ → ℕ → Bool
dirty_from marks pages first p = num 4 marks (dirty_at pages p) == 0 || nat_le first (num 4 marks (dirty_at pages p))

abbrev pub sound_dirties : List ℕ → ℕ → ℕ → ℕ → Bool
sound_dirties marks pages first closed = up_to (dirty_within marks pages first closed) pages 0

unfoldable pub sound_marks : List ℕ → List ℕ → ℕ → ℕ → ℕ → Bool
sound_marks marks log size pages log_size =
    sound_counts (last_in marks) (closed_in marks) (logged_in marks) log_size && sound_stamps marks pages (last_in marks) (closed_in marks)
    && sound_dirties marks pages (last_in marks - logged_in marks + 1) (closed_in marks) && every (well_formed size pages) (rows log_width (logged_in marks) log 0)
    && zeros (drop (logged_in marks * log_width) log)
