-- The sentences of "Sound tables" that the area `tables` alone decides: S3 of its counts, S20, S4, S5, S6 and S14 of the order, as one test.
use Rattle.std.specs.Prelude.{ℕ, ◌+◌, ◌-◌, ◌/◌, Bool, ◌&&◌, List, eqb, leb, ltb}
use Rattle.record.specs.Part.{part}
use Rattle.rules.specs.Lent.{order_at, used_in, order_in, entries_in, count_in}
use Rattle.rules.specs.Sound.{every, up_to, zeros, serving, times}

-- online_size is what the online table holds at most
unfoldable pub tables_test : List ℕ → ℕ → ℕ → ℕ → Bool
tables_test tables pages frames online_size =
    (leb (count_in tables) online_size && leb (used_in tables) frames)
    && every (λ (b : ℕ). leb b 1) (part 3 32 tables)
    && every (λ (e : ℕ). leb (e / 2) frames) (entries_in tables pages frames)
    && up_to (λ (f : ℕ). leb (serving f (entries_in tables pages frames)) 1) frames 0
    && (every (λ (f : ℕ). ltb f frames) (order_in tables)
    && up_to (λ (f : ℕ). eqb (times f (order_in tables)) (serving f (entries_in tables pages frames))) frames 0)
    && zeros (part (order_at + used_in tables) (frames - used_in tables) tables)
