-- "Sound tables": one definition for each sentence, S1 to S20. docs/TRACE.md has the same labels. docs/RULES.md 5.
use Rattle.std.specs.Prelude.{ℕ, zero, suc, ◌+◌, ◌*◌, ◌-◌, ◌/◌, Bool, true, false, cond, not, ◌&&◌, ◌||◌, List, [], ◌∷◌, length, get_or, drop, eqb, leb, ltb}
use Rattle.record.specs.Part.{part}
use Rattle.record.specs.Rows.{row_at, keep, any}
use Rattle.record.specs.Record.{online_width, log_width, page_of, owner_of, number_of, committed, body_of, on_page, well_formed, free}
use Rattle.rules.specs.declared.Params.{Params}
use Rattle.rules.specs.Lent.{Lent, fixed_length, marks_length, tables_length, order_at, params_of, size_of, pages_of, frames_of, online_size_of, log_size_of, last_of, closed_of, logged_of, stamp_of, dirty_of, first_number_of, log_of, count_of, used_of, live_of, order_of, entries_of, online_of, is_dirty}

module _ {A : Type 0} where
  -- each passes the test
  unfoldable pub every : (A → Bool) → List A → Bool
  every b [] = true
  every b (x ∷ l) = b x && every b l

  -- each two pass the test, the earlier first
  unfoldable pub pairs : (A → A → Bool) → List A → Bool
  pairs b [] = true
  pairs b (x ∷ l) = every (b x) l && pairs b l

-- n numbers from i on pass the test
unfoldable pub up_to : (ℕ → Bool) → ℕ → ℕ → Bool
up_to b zero i = true
up_to b (suc n) i = b i && up_to b n (i + 1)

-- every byte is zero
unfoldable pub zeros : List ℕ → Bool
zeros l = every (λ (b : ℕ). eqb b 0) l

abbrev pub between : ℕ → ℕ → ℕ → Bool
between low n high = leb low n && leb n high

-- the parameters that format takes: "page size | 512, 1,024, 2,048 or 4,096 bytes", and so on
unfoldable pub is_page_size : ℕ → Bool
is_page_size n = eqb n 512 || eqb n 1024 || eqb n 2048 || eqb n 4096

unfoldable pub in_range : Params → Bool
in_range g = is_page_size g.size && between 1 g.pages 1024 && between 1 g.frames 64 && between 1 g.online 512 && between 1 g.log 2048

-- the lengths of the other areas for these parameters
unfoldable pub exact_lengths : Lent → Params → Bool
exact_lengths s g =
    eqb (length s.durable.marks) (marks_length g.pages) && eqb (length s.durable.log) (log_width * g.log) && eqb (length s.durable.stored) (g.size * g.pages)
    && eqb (length s.lost.tables) (tables_length g.frames g.pages) && eqb (length s.lost.online) (online_width * g.online) && eqb (length s.lost.pool) (g.size * g.frames)

-- S1 "parameters in range"
unfoldable pub s1_parameters : Lent → Bool
s1_parameters s = eqb (length s.durable.fixed) fixed_length && in_range (params_of s)

-- S2 "lent lengths exact"
unfoldable pub s2_lengths : Lent → Bool
s2_lengths s = exact_lengths s (params_of s)

-- S3 "counts within sizes": the log's is durable, the others lost
unfoldable pub s3_logged : Lent → Bool
s3_logged s = leb (logged_of s) (log_size_of s)

unfoldable pub s3_counts : Lent → Bool
s3_counts s = leb (count_of s) (online_size_of s) && leb (used_of s) (frames_of s)

-- S4 "each page entry is absent, in a frame (clean or dirty) or evicted (always dirty)"
unfoldable pub s4_entries : Lent → Bool
s4_entries s = every (λ (e : ℕ). leb (e / 2) (frames_of s)) (entries_of s)

-- how many entries are in frame f; how often the order names it
unfoldable pub serving : ℕ → List ℕ → ℕ
serving f es = length (keep (λ (e : ℕ). eqb (e / 2) (f + 1)) es)

unfoldable pub times : ℕ → List ℕ → ℕ
times f o = length (keep (λ (g : ℕ). eqb g f) o)

-- S5 "no frame serves two pages"
unfoldable pub s5_frame_once : Lent → Bool
s5_frame_once s = up_to (λ (f : ℕ). leb (serving f (entries_of s)) 1) (frames_of s) 0

-- S6 "the use order names each frame in use once and no other"
unfoldable pub s6_order : Lent → Bool
s6_order s = every (λ (f : ℕ). ltb f (frames_of s)) (order_of s) && up_to (λ (f : ℕ). eqb (times f (order_of s)) (serving f (entries_of s))) (frames_of s) 0

-- S7 "records are well formed": log rows are durable, online rows lost
unfoldable pub s7_log_records : Lent → Bool
s7_log_records s = every (well_formed (size_of s) (pages_of s)) (log_of s)

unfoldable pub s7_online_records : Lent → Bool
s7_online_records s = every (well_formed (size_of s) (pages_of s)) (online_of s)

-- S8 "uncommitted is owner 1 to 32, number 0; committed is owner 0, number 1 to L", "owners live"
unfoldable pub owning : Lent → List ℕ → Bool
owning s r = cond (committed r) (between 1 (number_of r) (last_of s)) (leb (owner_of r) 32 && eqb (number_of r) 0 && eqb (live_of s (owner_of r)) 1)

unfoldable pub s8_owners : Lent → Bool
s8_owners s = every (owning s) (online_of s)

-- S9 "no nonzero number occurs twice"
unfoldable pub s9_number_once : Lent → Bool
s9_number_once s = pairs (λ (a b : List ℕ). eqb (number_of a) 0 || not (eqb (number_of a) (number_of b))) (online_of s)

-- two rows of bytes are the same
unfoldable pub same : List ℕ → List ℕ → Bool
same [] [] = true
same [] (b ∷ l) = false
same (a ∷ k) [] = false
same (a ∷ k) (b ∷ l) = eqb a b && same k l

-- S10 "each committed online record is the log's record of its number"
unfoldable pub s10_in_log : Lent → Bool
s10_in_log s = every (λ (r : List ℕ). not (committed r) || (leb (first_number_of s) (number_of r) && same (body_of r) (row_at log_width s.durable.log (number_of r - first_number_of s)))) (online_of s)

-- S11 "above its page's stamp"
unfoldable pub s11_above_stamp : Lent → Bool
s11_above_stamp s = every (λ (r : List ℕ). not (committed r) || ltb (stamp_of s (page_of r)) (number_of r)) (online_of s)

-- S12 "an entry is dirty exactly if the online table has a record for the page"
abbrev pub agree : Bool → Bool → Bool
agree true b = b
agree false b = not b

unfoldable pub s12_dirty : Lent → Bool
s12_dirty s = up_to (λ (p : ℕ). agree (is_dirty (get_or (entries_of s) p 0)) (any (on_page p) (online_of s))) (pages_of s) 0

-- S13 "uncommitted records of different owners share no byte"
unfoldable pub apart : List ℕ → List ℕ → Bool
apart a b = committed a || committed b || eqb (owner_of a) (owner_of b) || free a b

unfoldable pub s13_apart : Lent → Bool
s13_apart s = pairs apart (online_of s)

-- S14 "rows past a count are zero"
unfoldable pub s14_log_zero : Lent → Bool
s14_log_zero s = zeros (drop (logged_of s * log_width) s.durable.log)

unfoldable pub s14_online_zero : Lent → Bool
s14_online_zero s = zeros (drop (count_of s * online_width) s.lost.online)

unfoldable pub s14_order_zero : Lent → Bool
s14_order_zero s = zeros (part (order_at + used_of s) (frames_of s - used_of s) s.lost.tables)

-- S15 "stamps and K are at most L", S16 "n at most L"
unfoldable pub s15_stamps : Lent → Bool
s15_stamps s = leb (closed_of s) (last_of s) && up_to (λ (p : ℕ). leb (stamp_of s p) (last_of s)) (pages_of s) 0

unfoldable pub s16_logged : Lent → Bool
s16_logged s = leb (logged_of s) (last_of s)

-- S17 "each nonzero dirty number is at most K"
unfoldable pub s17_dirty : Lent → Bool
s17_dirty s = up_to (λ (p : ℕ). eqb (dirty_of s p) 0 || leb (dirty_of s p) (closed_of s)) (pages_of s) 0

-- S19 "the log's first number … at most each nonzero dirty number"
unfoldable pub s19_first : Lent → Bool
s19_first s = up_to (λ (p : ℕ). eqb (dirty_of s p) 0 || leb (first_number_of s) (dirty_of s p)) (pages_of s) 0

-- S17 and S19 in one walk of the dirty table: `both_dirty` (rules, proofs/Clauses.antt) says that it is the two
unfoldable pub s17_s19_dirty : Lent → Bool
s17_s19_dirty s = up_to (λ (p : ℕ). eqb (dirty_of s p) 0 || between (first_number_of s) (dirty_of s p) (closed_of s)) (pages_of s) 0

-- S18 "the log's first number (L−n+1, also when it is empty) is at most K+1"
unfoldable pub s18_first : Lent → Bool
s18_first s = leb (first_number_of s) (closed_of s + 1)

-- S20 the live set has one canonical value for each state: 1 live, 0 not
unfoldable pub s20_live : Lent → Bool
s20_live s = every (λ (b : ℕ). leb b 1) (part 3 32 s.lost.tables)

-- what restart checks: "parameters, lengths and the durable part only"
unfoldable pub sound_durable : Lent → Bool
sound_durable s =
    s1_parameters s && s2_lengths s && s3_logged s && s16_logged s && s18_first s && s15_stamps s && s17_s19_dirty s && s7_log_records s && s14_log_zero s

unfoldable pub sound_lost : Lent → Bool
sound_lost s =
    s3_counts s && s20_live s && s4_entries s && s5_frame_once s && s6_order s && s14_order_zero s && s7_online_records s && s8_owners s && s14_online_zero s
    && s10_in_log s && s11_above_stamp s && s9_number_once s && s12_dirty s && s13_apart s

-- what every other call but format checks
unfoldable pub sound : Lent → Bool
sound s = sound_durable s && sound_lost s
