-- Further cases on the small store, each from a fresh one: what P1 to P12 leave open. Expected values are worked out by hand from 01's rules.
use Rattle.std.specs.Prelude.{◌≡◌, refl, List, [], ◌∷◌, map, replicate}
use Rattle.rules.specs.Lent.{Lent, lent_of, given}
use Rattle.cases.specs.Play.{play}
use Rattle.cases.specs.Play.Act.{Begin, Commit, Abort, Evict, Read, Update, Checkpoint, Restart, Loss, Format, Stored, Last, Closed, Logged, Online, Order, Stamp, Entry}
use Rattle.cases.specs.Small.{Case, ◌gives◌, done, blank}

-- "pages read 0, 1, 0, 2: page 1 is dropped"; an evict touches nobody
unfoldable pub victim_is_least_recent : List Case
unfolding done
victim_is_least_recent =
    Format (given 512 8 2 4 8) 0 gives done
    ∷ Begin 1 gives done
    ∷ Read 1 0 0 1 gives (0 ∷ 0 ∷ 1 ∷ 0 ∷ 0 ∷ 0 ∷ 99 ∷ [])
    ∷ Read 1 1 0 1 gives (0 ∷ 0 ∷ 1 ∷ 0 ∷ 0 ∷ 0 ∷ 99 ∷ [])
    ∷ Order gives (0 ∷ 1 ∷ [])
    ∷ Read 1 0 0 1 gives (0 ∷ 0 ∷ 0 ∷ 0 ∷ 0 ∷ 0 ∷ 99 ∷ [])
    ∷ Order gives (1 ∷ 0 ∷ [])
    ∷ Read 1 2 0 1 gives (0 ∷ 0 ∷ 1 ∷ 0 ∷ 0 ∷ 0 ∷ 99 ∷ [])
    ∷ Entry 0 gives (2 ∷ [])
    ∷ Entry 1 gives (0 ∷ [])
    ∷ Entry 2 gives (4 ∷ [])
    ∷ Order gives (0 ∷ 1 ∷ [])
    ∷ Evict 1 gives (10 ∷ 0 ∷ 0 ∷ 0 ∷ 0 ∷ [])
    ∷ Evict 0 gives done
    ∷ Order gives (1 ∷ [])
    ∷ Read 1 3 0 1 gives (0 ∷ 0 ∷ 1 ∷ 0 ∷ 0 ∷ 0 ∷ 99 ∷ [])
    ∷ Entry 3 gives (2 ∷ [])
    ∷ []

-- a commit numbers in table order: two sets of one byte, rebuilt from the log, leave the later
unfoldable pub numbered_in_table_order : List Case
unfolding done
numbered_in_table_order =
    Format (given 512 8 2 4 8) 10 gives done
    ∷ Begin 3 gives done
    ∷ Update 3 2 4 1 0 5 gives (0 ∷ 0 ∷ 1 ∷ 0 ∷ 0 ∷ [])
    ∷ Update 3 2 4 1 0 6 gives done
    ∷ Commit 3 gives (0 ∷ 0 ∷ 0 ∷ 0 ∷ 1 ∷ [])
    ∷ Online gives (11 ∷ 12 ∷ [])
    ∷ Loss gives []
    ∷ Restart gives done
    ∷ Begin 3 gives done
    ∷ Read 3 2 4 1 gives (0 ∷ 0 ∷ 1 ∷ 0 ∷ 0 ∷ 6 ∷ 99 ∷ [])
    ∷ []

-- a checkpoint: page 1 is evicted and all committed, page 6 in a frame with an uncommitted record too, page 7 in a frame and all committed
unfoldable pub whole_checkpoint : List Case
unfolding done
whole_checkpoint =
    Format (given 512 8 2 4 8) 0 gives done
    ∷ Begin 1 gives done
    ∷ Begin 2 gives done
    ∷ Update 1 1 0 1 0 9 gives (0 ∷ 0 ∷ 1 ∷ 0 ∷ 0 ∷ [])
    ∷ Update 1 6 0 1 0 8 gives (0 ∷ 0 ∷ 1 ∷ 0 ∷ 0 ∷ [])
    ∷ Update 1 7 0 1 0 4 gives (0 ∷ 0 ∷ 1 ∷ 0 ∷ 0 ∷ [])
    ∷ Entry 1 gives (1 ∷ [])
    ∷ Update 2 6 1 1 0 3 gives done
    ∷ Commit 1 gives (0 ∷ 0 ∷ 0 ∷ 0 ∷ 1 ∷ [])
    ∷ Checkpoint 1 0 gives (0 ∷ 0 ∷ 2 ∷ 3 ∷ 1 ∷ [])
    ∷ Stored 1 0 gives (9 ∷ [])
    ∷ Stored 6 0 gives (8 ∷ [])
    ∷ Stored 6 1 gives (0 ∷ [])
    ∷ Stored 7 0 gives (4 ∷ [])
    ∷ Stamp 1 gives (1 ∷ [])
    ∷ Stamp 6 gives (2 ∷ [])
    ∷ Stamp 7 gives (3 ∷ [])
    ∷ Entry 1 gives (0 ∷ [])
    ∷ Entry 6 gives (1 ∷ [])
    ∷ Entry 7 gives (2 ∷ [])
    ∷ Order gives (0 ∷ [])
    ∷ Online gives (0 ∷ [])
    ∷ Closed gives (3 ∷ [])
    ∷ Logged gives (4 ∷ 0 ∷ [])
    ∷ Read 2 6 0 2 gives (0 ∷ 0 ∷ 1 ∷ 0 ∷ 0 ∷ 8 ∷ 3 ∷ 99 ∷ [])
    ∷ []

-- the ends: a full log and the last number, "full log and L at its end: 8"; refused with not a byte changed
unfoldable pub both_ends : List Case
unfolding done
both_ends =
    Format (given 512 8 2 4 1) 4294967294 gives done
    ∷ Begin 1 gives done
    ∷ Update 1 0 504 8 1 1 gives (0 ∷ 0 ∷ 1 ∷ 0 ∷ 0 ∷ [])
    ∷ Update 1 0 505 8 1 1 gives (2 ∷ 0 ∷ 0 ∷ 0 ∷ 0 ∷ [])
    ∷ Update 1 0 511 1 0 256 gives (2 ∷ 0 ∷ 0 ∷ 0 ∷ 0 ∷ [])
    ∷ Commit 1 gives (0 ∷ 0 ∷ 0 ∷ 0 ∷ 1 ∷ [])
    ∷ Last gives (4294967295 ∷ [])
    ∷ Begin 1 gives done
    ∷ Update 1 0 0 1 0 1 gives done
    ∷ Commit 1 gives (8 ∷ 0 ∷ 0 ∷ 0 ∷ 0 ∷ [])
    ∷ Checkpoint 1 0 gives (0 ∷ 0 ∷ 1 ∷ 1 ∷ 1 ∷ [])
    ∷ Commit 1 gives (9 ∷ 0 ∷ 0 ∷ 0 ∷ 0 ∷ [])
    ∷ Abort 1 gives done
    ∷ Begin 1 gives done
    ∷ Commit 1 gives done
    ∷ []

-- the areas of a store whose log holds one record
unfoldable pub narrow : Lent
narrow = lent_of (replicate 20 0) (replicate 76 0) (replicate 14 0) (replicate 4096 0) (replicate 45 0) (replicate 76 0) (replicate 1024 0)

-- what a list of cases must show
abbrev AsSaid : Lent → List Case → Type 0
AsSaid s l = play s (map (λ (c : Case). c.event) l) ≡ map (λ (c : Case). c.shows) l

pub least_recent : AsSaid blank victim_is_least_recent
unfolding play blank victim_is_least_recent
least_recent = refl

pub table_order : AsSaid blank numbered_in_table_order
unfolding play blank numbered_in_table_order
table_order = refl

pub checkpoint : AsSaid blank whole_checkpoint
unfolding play blank whole_checkpoint
checkpoint = refl

pub ends : AsSaid narrow both_ends
unfolding play narrow both_ends
ends = refl
