-- The lent bytes, durable and lost parts apart, and what they mean: docs/LAYOUT.md as definitions. docs/RULES.md 2 and 3.
use Rattle.std.specs.Prelude.{ℕ, ◌+◌, ◌*◌, ◌-◌, ◌/◌, ◌%◌, Bool, not, List, ◌++◌, length, get_or, take, set, replicate, eqb}
use Rattle.word.specs.Word.{num, put}
use Rattle.record.specs.Part.{part, with_part}
use Rattle.record.specs.Rows.{rows}
use Rattle.record.specs.Record.{log_width, online_width}
use Rattle.rules.specs.declared.Params.{Params}

-- "Durable: stored pages, a stamp for each page, L, the log, checkpoint number K, and a dirty table", and what format was given
pub record Durable : Type 0 where
  pub fixed : List ℕ
  pub marks : List ℕ
  pub log : List ℕ
  pub stored : List ℕ

-- "Lost on power loss: frames, page table, use order, online table, live set"
pub record Lost : Type 0 where
  pub tables : List ℕ
  pub online : List ℕ
  pub pool : List ℕ

pub record Lent : Type 0 where
  pub durable : Durable
  pub lost : Lost

abbrev pub lent_of : List ℕ → List ℕ → List ℕ → List ℕ → List ℕ → List ℕ → List ℕ → Lent
lent_of fixed marks log stored tables online pool =
    record {
      durable = record { fixed = fixed; marks = marks; log = log; stored = stored };
      lost = record { tables = tables; online = online; pool = pool };
    }

-- fixed: page size, pages, frames, online size, log size
abbrev pub size_in : List ℕ → ℕ
size_in fixed = num 4 fixed 0

abbrev pub pages_in : List ℕ → ℕ
pages_in fixed = num 4 fixed 4

abbrev pub frames_in : List ℕ → ℕ
frames_in fixed = num 4 fixed 8

abbrev pub online_size_in : List ℕ → ℕ
online_size_in fixed = num 4 fixed 12

abbrev pub log_size_in : List ℕ → ℕ
log_size_in fixed = num 4 fixed 16

abbrev pub fixed_length : ℕ
fixed_length = 20

abbrev pub size_of : Lent → ℕ
size_of s = size_in s.durable.fixed

abbrev pub pages_of : Lent → ℕ
pages_of s = pages_in s.durable.fixed

abbrev pub frames_of : Lent → ℕ
frames_of s = frames_in s.durable.fixed

abbrev pub online_size_of : Lent → ℕ
online_size_of s = online_size_in s.durable.fixed

abbrev pub log_size_of : Lent → ℕ
log_size_of s = log_size_in s.durable.fixed

-- the parameters, and those that `fixed` holds
abbrev pub given : ℕ → ℕ → ℕ → ℕ → ℕ → Params
given page_size pages frames online_size log_size = record { size = page_size; pages = pages; frames = frames; online = online_size; log = log_size }

abbrev pub params_of : Lent → Params
params_of s = given (size_of s) (pages_of s) (frames_of s) (online_size_of s) (log_size_of s)

-- `fixed` as format writes it
abbrev pub fixed_of : Params → List ℕ
fixed_of g = put 4 (put 4 (put 4 (put 4 (put 4 (replicate fixed_length 0) 0 g.size) 4 g.pages) 8 g.frames) 12 g.online) 16 g.log

-- marks: L, K, n, the stamps, the dirty numbers
abbrev pub last_at : ℕ
last_at = 0

abbrev pub closed_at : ℕ
closed_at = 4

abbrev pub logged_at : ℕ
logged_at = 8

abbrev pub last_in : List ℕ → ℕ
last_in marks = num 4 marks last_at

abbrev pub closed_in : List ℕ → ℕ
closed_in marks = num 4 marks closed_at

abbrev pub logged_in : List ℕ → ℕ
logged_in marks = num 4 marks logged_at

abbrev pub stamps_at : ℕ
stamps_at = 12

abbrev pub stamp_at : ℕ → ℕ
stamp_at p = stamps_at + 4 * p

abbrev pub dirty_at : ℕ → ℕ → ℕ
dirty_at pages p = stamps_at + 4 * pages + 4 * p

abbrev pub marks_length : ℕ → ℕ
marks_length pages = stamps_at + 8 * pages

abbrev pub last_of : Lent → ℕ
last_of s = last_in s.durable.marks

abbrev pub closed_of : Lent → ℕ
closed_of s = closed_in s.durable.marks

abbrev pub logged_of : Lent → ℕ
logged_of s = logged_in s.durable.marks

abbrev pub stamp_of : Lent → ℕ → ℕ
stamp_of s p = num 4 s.durable.marks (stamp_at p)

abbrev pub dirty_of : Lent → ℕ → ℕ
dirty_of s p = num 4 s.durable.marks (dirty_at (pages_of s) p)

-- "its n records carry numbers L−n+1 to L"
abbrev pub first_number_of : Lent → ℕ
first_number_of s = last_of s - logged_of s + 1

abbrev pub log_of : Lent → List (List ℕ)
log_of s = rows log_width (logged_of s) s.durable.log 0

-- tables: m, u, the live set, the use order, the page entries
abbrev pub count_in : List ℕ → ℕ
count_in tables = num 2 tables 0

abbrev pub used_in : List ℕ → ℕ
used_in tables = get_or tables 2 0

abbrev pub order_at : ℕ
order_at = 35

abbrev pub order_in : List ℕ → List ℕ
order_in tables = part order_at (used_in tables) tables

abbrev pub entries_in : List ℕ → ℕ → ℕ → List ℕ
entries_in tables pages frames = part (order_at + frames) pages tables

abbrev pub tables_length : ℕ → ℕ → ℕ
tables_length frames pages = order_at + frames + pages

abbrev pub count_of : Lent → ℕ
count_of s = count_in s.lost.tables

abbrev pub used_of : Lent → ℕ
used_of s = used_in s.lost.tables

abbrev pub live_at : ℕ → ℕ
live_at x = 2 + x

abbrev pub live_of : Lent → ℕ → ℕ
live_of s x = get_or s.lost.tables (live_at x) 0

abbrev pub order_of : Lent → List ℕ
order_of s = order_in s.lost.tables

abbrev pub entry_at : ℕ → ℕ → ℕ
entry_at frames p = order_at + frames + p

abbrev pub entry_of : Lent → ℕ → ℕ
entry_of s p = get_or s.lost.tables (entry_at (frames_of s) p) 0

abbrev pub entries_of : Lent → List ℕ
entries_of s = entries_in s.lost.tables (pages_of s) (frames_of s)

abbrev pub online_of : Lent → List (List ℕ)
online_of s = rows online_width (count_of s) s.lost.online 0

-- an entry: 0 absent, 1 evicted, 2 × (f + 1) clean in frame f, one more dirty there
abbrev pub in_frame : ℕ → Bool
in_frame e = not (eqb (e / 2) 0)

abbrev pub frame_of : ℕ → ℕ
frame_of e = e / 2 - 1

abbrev pub is_dirty : ℕ → Bool
is_dirty e = eqb (e % 2) 1

abbrev pub clean_in : ℕ → ℕ
clean_in f = 2 * (f + 1)

abbrev pub dirty_in : ℕ → ℕ
dirty_in f = 2 * (f + 1) + 1

-- a page in the stored pages, a frame in the pool: the bytes of either
abbrev pub page_in : ℕ → ℕ → List ℕ → List ℕ
page_in size p l = part (p * size) size l

abbrev pub with_page : ℕ → ℕ → List ℕ → List ℕ → List ℕ
with_page size p l g = with_part (p * size) size l g

-- the tables with another use order: its length, and its frames with zeros behind them
abbrev pub with_order : ℕ → List ℕ → List ℕ → List ℕ
with_order frames o t = set (with_part order_at frames t (take frames (o ++ replicate frames 0))) 2 (length o)

-- the tables with other page entries
abbrev pub with_entries : ℕ → ℕ → List ℕ → List ℕ → List ℕ
with_entries frames pages es t = with_part (order_at + frames) pages t es

-- the tables with another count of online rows
abbrev pub with_count : ℕ → List ℕ → List ℕ
with_count m t = put 2 t 0 m
