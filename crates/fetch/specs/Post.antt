-- What fetch and the calls over it leave, named part by part.
use Rattle.std.specs.Prelude.{ℕ, ◌<◌, ◌≡◌, List}
use Rattle.rules.specs.Lent.{Lent, size_of, pages_of, frames_of, entries_of, with_page, with_entries}
use Rattle.rules.specs.Steps.{placed, rebuilt, place_of, fetched_entries, fetched_pool, fetch_reads, lost_now, read_step, read_bytes, updated}

-- page p was put into frame f; the tables are t and the pool is g
pub record PageBrought (s : Lent) (p f : ℕ) (t g : List ℕ) : Type 0 where
  pub tables : t ≡ with_entries (frames_of s) (pages_of s) (placed f p (entries_of s)) s.lost.tables
  pub pool : g ≡ with_page (size_of s) f s.lost.pool (rebuilt s p)

-- page p is in frame f, which took n page reads; the tables are t, as meant, and the pool is g
pub record PageUsed (s : Lent) (p f n : ℕ) (t g meant : List ℕ) : Type 0 where
  pub frame : f ≡ place_of s p
  pub within : f < frames_of s
  pub reads : n ≡ fetch_reads s p
  pub tables : t ≡ meant
  pub pool : g ≡ fetched_pool s p

-- and the use order is as it was
abbrev pub PageFetched : Lent → ℕ → ℕ → ℕ → List ℕ → List ℕ → Type 0
PageFetched s p f n t g = PageUsed s p f n t g (with_entries (frames_of s) (pages_of s) (fetched_entries s p) s.lost.tables)

-- a read of w bytes at an offset of page p, from buffer b to buffer d
pub record ReadDone (s : Lent) (p offset w n : ℕ) (t g b d : List ℕ) : Type 0 where
  pub reads : n ≡ (read_step s p).reads
  pub lent : lost_now s t s.lost.online g ≡ (read_step s p).lent
  pub buffer : d ≡ read_bytes s p offset w b

-- an update by the row r; o is the online table
pub record UpdateDone (s : Lent) (r : List ℕ) (n : ℕ) (t o g : List ℕ) : Type 0 where
  pub reads : n ≡ (updated s r).reads
  pub lent : lost_now s t o g ≡ (updated s r).lent
