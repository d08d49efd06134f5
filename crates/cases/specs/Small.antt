-- "Cases on one small store": page size 512, 8 pages, 2 frames, 4 online, 8 log, L = 0, bytes zero. "Calls follow one another up to P12." docs/RULES.md 11.
-- The expected answers, counts, bytes and tables are 01's; what 01 leaves unsaid of a line (a call's other counts) is what its rules give.
use Rattle.std.specs.Prelude.{ℕ, ◌≡◌, refl, List, [], ◌∷◌, ◌++◌, map, replicate}
use Rattle.rules.specs.Lent.{Lent, lent_of, given}
use Rattle.cases.specs.Play.{Act, play}
use Rattle.cases.specs.Play.Act.{Begin, Commit, Abort, Evict, Read, Update, Compact, Close, Restart, Loss, Format, Stored, Last, Closed, Logged, Online, Tables, Rows, Stamp, Dirty, Entry}

-- seven areas of the right lengths for the small store; format is the first call
unfoldable pub blank : Lent
blank = lent_of (replicate 20 0) (replicate 76 0) (replicate 112 0) (replicate 4096 0) (replicate 45 0) (replicate 76 0) (replicate 1024 0)

-- an event, and what it must show: for a call code, note, page reads, page writes, log writes, then the bytes read
pub record Case : Type 0 where
  pub event : Act
  pub shows : List ℕ

infix 90 ◌gives◌
abbrev pub ◌gives◌ : Act → List ℕ → Case
e gives l = record { event = e; shows = l }

unfoldable pub done : List ℕ
done = 0 ∷ 0 ∷ 0 ∷ 0 ∷ 0 ∷ []

-- after the restart of P8: two online rows, nothing in use, nobody live, page 5 evicted
restarted_tables : List ℕ
restarted_tables = 2 ∷ 0 ∷ 0 ∷ (replicate 32 0 ++ (0 ∷ 0 ∷ (0 ∷ 0 ∷ 0 ∷ 0 ∷ 0 ∷ 1 ∷ 0 ∷ 0 ∷ [])))

-- page 5, offset 17, length 1, add 255 and add 2, committed under 2 and 3
restarted_rows : List ℕ
restarted_rows =
    5 ∷ 0 ∷ 17 ∷ 0 ∷ 1 ∷ 1 ∷ 255 ∷ 0 ∷ 0 ∷ 0 ∷ 0 ∷ 0 ∷ 0 ∷ 0 ∷ 0 ∷ 2 ∷ 0 ∷ 0 ∷ 0
    ∷ 5 ∷ 0 ∷ 17 ∷ 0 ∷ 1 ∷ 1 ∷ 2 ∷ 0 ∷ 0 ∷ 0 ∷ 0 ∷ 0 ∷ 0 ∷ 0 ∷ 0 ∷ 3 ∷ 0 ∷ 0 ∷ 0 ∷ replicate 38 0

unfoldable pub p1_to_p12 : List Case
unfolding done restarted_tables restarted_rows
p1_to_p12 =
    Format (given 512 8 2 4 8) 0 gives done
    -- P1
    ∷ Begin 1 gives done
    ∷ Begin 1 gives (5 ∷ 0 ∷ 0 ∷ 0 ∷ 0 ∷ [])
    ∷ Begin 2 gives done
    -- P2
    ∷ Update 1 5 16 1 0 7 gives (0 ∷ 0 ∷ 1 ∷ 0 ∷ 0 ∷ [])
    ∷ Stored 5 16 gives (0 ∷ [])
    -- P3
    ∷ Read 2 5 16 1 gives (6 ∷ 0 ∷ 0 ∷ 0 ∷ 0 ∷ 99 ∷ 99 ∷ [])
    ∷ Read 2 5 17 1 gives (0 ∷ 0 ∷ 0 ∷ 0 ∷ 0 ∷ 0 ∷ 99 ∷ [])
    -- P4
    ∷ Update 2 5 17 1 1 255 gives done
    ∷ Update 2 5 17 1 1 2 gives done
    ∷ Read 2 5 17 1 gives (0 ∷ 0 ∷ 0 ∷ 0 ∷ 0 ∷ 1 ∷ 99 ∷ [])
    -- P5
    ∷ Evict 5 gives done
    ∷ Read 1 5 16 1 gives (0 ∷ 0 ∷ 1 ∷ 0 ∷ 0 ∷ 7 ∷ 99 ∷ [])
    -- P6
    ∷ Commit 1 gives (0 ∷ 0 ∷ 0 ∷ 0 ∷ 1 ∷ [])
    ∷ Last gives (1 ∷ [])
    ∷ Begin 1 gives done
    ∷ Abort 1 gives done
    ∷ Read 2 5 16 1 gives (0 ∷ 0 ∷ 0 ∷ 0 ∷ 0 ∷ 7 ∷ 99 ∷ [])
    -- P7
    ∷ Compact 5 1 4294967295 gives (0 ∷ 0 ∷ 1 ∷ 1 ∷ 0 ∷ [])
    ∷ Stored 5 16 gives (7 ∷ [])
    ∷ Stored 5 17 gives (0 ∷ [])
    ∷ Stamp 5 gives (1 ∷ [])
    ∷ Entry 5 gives (1 ∷ [])
    -- P8
    ∷ Commit 2 gives (0 ∷ 0 ∷ 0 ∷ 0 ∷ 1 ∷ [])
    ∷ Last gives (3 ∷ [])
    ∷ Loss gives []
    ∷ Restart gives done
    ∷ Online gives (2 ∷ 3 ∷ [])
    ∷ Tables gives restarted_tables
    ∷ Rows gives restarted_rows
    -- P9
    ∷ Restart gives done
    ∷ Tables gives restarted_tables
    ∷ Rows gives restarted_rows
    -- P10
    ∷ Begin 4 gives done
    ∷ Read 4 5 16 2 gives (0 ∷ 0 ∷ 1 ∷ 0 ∷ 0 ∷ 7 ∷ 1 ∷ 99 ∷ [])
    -- P11
    ∷ Close gives (0 ∷ 0 ∷ 0 ∷ 0 ∷ 1 ∷ [])
    ∷ Closed gives (3 ∷ [])
    ∷ Dirty 5 gives (2 ∷ [])
    ∷ Logged gives (2 ∷ 2 ∷ [])
    -- P12
    ∷ Compact 5 16 2 gives (0 ∷ 1 ∷ 0 ∷ 0 ∷ 0 ∷ [])
    ∷ Compact 5 16 1 gives (0 ∷ 0 ∷ 0 ∷ 1 ∷ 0 ∷ [])
    ∷ Stamp 5 gives (3 ∷ [])
    ∷ Entry 5 gives (2 ∷ [])
    ∷ []

-- P1 to P12, as one statement
pub small_store : play blank (map (λ (c : Case). c.event) p1_to_p12) ≡ map (λ (c : Case). c.shows) p1_to_p12
unfolding play blank p1_to_p12
small_store = refl
