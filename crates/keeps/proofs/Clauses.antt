-- "Sound tables" as clauses over the lists that are read in the lost areas. A step is judged on the lists; what is lent afterwards is sound by `sound_by`.
use Prim.Native.Nat.{ℕ, ◌+◌, ◌*◌, ◌-◌, ◌≤◌, ◌<◌}
use native.Mathlib.Omega.{arith}
use mathlib.Core.Path.{◌≡◌, refl, sym, ap, ◌∙◌}
use mathlib.Core.Bool.{Bool, true, false, cond, not, ◌&&◌, ◌||◌}
use mathlib.Core.List.{List}
use lib.ListN.{length, get_or, drop}
use lib.Dec.{eqb, leb, ltb}
use borrow.Author.Tests.{eqb-false, eq-eqb, leb-true, le-leb, eqb-true}
use Rattle.word.proofs.Tests.{and_both, and_in}
use Rattle.record.specs.Part.{part}
use Rattle.record.specs.Rows.{row_at, any}
use Rattle.record.specs.Record.{page_of, owner_of, number_of, committed, body_of, on_page, well_formed}
use Rattle.record.proofs.Parts.{length_part}
use Rattle.record.proofs.Rows.{wide_all, length_rows}
use Rattle.rules.specs.Lent.{Lent, Durable, Lost, size_of, pages_of, frames_of, online_size_of, log_size_of, last_of, first_number_of, stamp_of, count_of, used_of, live_of, order_of, entries_of, online_of, is_dirty}
use Rattle.rules.specs.Sound.{every, pairs, up_to, zeros, between, same, agree, apart, owning, serving, times, exact_lengths, s1_parameters, s2_lengths, s3_logged, s16_logged, s18_first, s15_stamps, s17_s19_dirty, s7_log_records, s14_log_zero, s3_counts, s20_live, s4_entries, s5_frame_once, s6_order, s14_order_zero, s7_online_records, s8_owners, s14_online_zero, s10_in_log, s11_above_stamp, s9_number_once, s12_dirty, s13_apart, sound_durable, sound_lost, sound}
use Rattle.rules.specs.Shape.{Sized}
use Rattle.rules.proofs.Ranges.{durable_sized}
use Rattle.seats.proofs.Seated.{Seated}
use Rattle.seats.proofs.Places.{seated_s5, seated_s6}
use Rattle.rules.proofs.Every.{every_imp}
use Rattle.readback.proofs.Seen.{only, lives_of, Areas, Reads, Whole, over, whole}
use Rattle.readback.proofs.Lost.{live_whole}
use Rattle.keeps.proofs.Tests.{up_to_all, up_to_at, agree_same, agree_then, differ}

-- S8, S10 and S11 of a row, by the durable part and the live bytes
abbrev pub owned_right : Durable → List ℕ → List ℕ → Bool
owned_right d lives r = cond (committed r) (between 1 (number_of r) (last_of (only d))) (leb (owner_of r) 32 && eqb (number_of r) 0 && eqb (get_or lives (owner_of r - 1) 0) 1)

abbrev pub in_log : Durable → List ℕ → Bool
in_log d r = not (committed r) || (leb (first_number_of (only d)) (number_of r) && same (body_of r) (row_at 14 d.log (number_of r - first_number_of (only d))))

abbrev pub stamp_below : Durable → List ℕ → Bool
stamp_below d r = not (committed r) || ltb (stamp_of (only d) (page_of r)) (number_of r)

-- the lost part's clauses that look at more than lengths, counts and zeros behind them
pub record Holds (d : Durable) (order lives entries : List ℕ) (online : List (List ℕ)) : Type 0 where
  -- S4 to S6
  pub seated : Seated (frames_of (only d)) entries order
  -- S20
  pub live : every (λ (b : ℕ). leb b 1) lives ≡ true
  -- S7, S8, S10, S11
  pub formed : every (well_formed (size_of (only d)) (pages_of (only d))) online ≡ true
  pub owners : every (owned_right d lives) online ≡ true
  pub logged : every (in_log d) online ≡ true
  pub above : every (stamp_below d) online ≡ true
  -- S9
  pub once : pairs differ online ≡ true
  -- S12
  pub dirty : (p : ℕ) → p < pages_of (only d) → is_dirty (get_or entries p 0) ≡ any (on_page p) online
  -- S13
  pub apart_all : pairs apart online ≡ true

-- of the tables s as they are
abbrev pub HoldsIn : Lent → Type 0
HoldsIn s = Holds s.durable (order_of s) (lives_of s) (entries_of s) (online_of s)

-- the clauses of soundness, one by one
pub record DurableClauses (s : Lent) : Type 0 where
  pub s1 : s1_parameters s ≡ true
  pub s2 : s2_lengths s ≡ true
  pub s3 : s3_logged s ≡ true
  pub s16 : s16_logged s ≡ true
  pub s18 : s18_first s ≡ true
  pub s15 : s15_stamps s ≡ true
  pub s17 : s17_s19_dirty s ≡ true
  pub s7 : s7_log_records s ≡ true
  pub s14 : s14_log_zero s ≡ true

pub record LostClauses (s : Lent) : Type 0 where
  pub s3 : s3_counts s ≡ true
  pub s20 : s20_live s ≡ true
  pub s4 : s4_entries s ≡ true
  pub s5 : s5_frame_once s ≡ true
  pub s6 : s6_order s ≡ true
  pub s14_order : s14_order_zero s ≡ true
  pub s7 : s7_online_records s ≡ true
  pub s8 : s8_owners s ≡ true
  pub s14 : s14_online_zero s ≡ true
  pub s10 : s10_in_log s ≡ true
  pub s11 : s11_above_stamp s ≡ true
  pub s9 : s9_number_once s ≡ true
  pub s12 : s12_dirty s ≡ true
  pub s13 : s13_apart s ≡ true

-- the last of tests in a row, and those before it
front : (a b : Bool) → (a && b) ≡ true → a ≡ true
front a b h = (and_both a b h).0

last : (a b : Bool) → (a && b) ≡ true → b ≡ true
last a b h = (and_both a b h).1

pub durable_clauses : (s : Lent) → sound_durable s ≡ true → DurableClauses s
unfolding sound_durable
durable_clauses s h =
    let a2 : Bool = s1_parameters s && s2_lengths s in
    let a3 : Bool = a2 && s3_logged s in
    let a4 : Bool = a3 && s16_logged s in
    let a5 : Bool = a4 && s18_first s in
    let a6 : Bool = a5 && s15_stamps s in
    let a7 : Bool = a6 && s17_s19_dirty s in
    let a8 : Bool = a7 && s7_log_records s in
    let h8 : a8 ≡ true = front a8 (s14_log_zero s) h in
    let h7 : a7 ≡ true = front a7 (s7_log_records s) h8 in
    let h6 : a6 ≡ true = front a6 (s17_s19_dirty s) h7 in
    let h5 : a5 ≡ true = front a5 (s15_stamps s) h6 in
    let h4 : a4 ≡ true = front a4 (s18_first s) h5 in
    let h3 : a3 ≡ true = front a3 (s16_logged s) h4 in
    let h2 : a2 ≡ true = front a2 (s3_logged s) h3 in
    record {
      s1 = front (s1_parameters s) (s2_lengths s) h2;
      s2 = last (s1_parameters s) (s2_lengths s) h2;
      s3 = last a2 (s3_logged s) h3;
      s16 = last a3 (s16_logged s) h4;
      s18 = last a4 (s18_first s) h5;
      s15 = last a5 (s15_stamps s) h6;
      s17 = last a6 (s17_s19_dirty s) h7;
      s7 = last a7 (s7_log_records s) h8;
      s14 = last a8 (s14_log_zero s) h;
    }

pub clauses_durable : (s : Lent) → DurableClauses s → sound_durable s ≡ true
unfolding sound_durable
clauses_durable s c = rw (c.s1, c.s2, c.s3, c.s16, c.s18, c.s15, c.s17, c.s7, c.s14)

pub lost_clauses : (s : Lent) → sound_lost s ≡ true → LostClauses s
unfolding sound_lost
lost_clauses s h =
    let a2 : Bool = s3_counts s && s20_live s in
    let a3 : Bool = a2 && s4_entries s in
    let a4 : Bool = a3 && s5_frame_once s in
    let a5 : Bool = a4 && s6_order s in
    let a6 : Bool = a5 && s14_order_zero s in
    let a7 : Bool = a6 && s7_online_records s in
    let a8 : Bool = a7 && s8_owners s in
    let a9 : Bool = a8 && s14_online_zero s in
    let a10 : Bool = a9 && s10_in_log s in
    let a11 : Bool = a10 && s11_above_stamp s in
    let a12 : Bool = a11 && s9_number_once s in
    let a13 : Bool = a12 && s12_dirty s in
    let h13 : a13 ≡ true = front a13 (s13_apart s) h in
    let h12 : a12 ≡ true = front a12 (s12_dirty s) h13 in
    let h11 : a11 ≡ true = front a11 (s9_number_once s) h12 in
    let h10 : a10 ≡ true = front a10 (s11_above_stamp s) h11 in
    let h9 : a9 ≡ true = front a9 (s10_in_log s) h10 in
    let h8 : a8 ≡ true = front a8 (s14_online_zero s) h9 in
    let h7 : a7 ≡ true = front a7 (s8_owners s) h8 in
    let h6 : a6 ≡ true = front a6 (s7_online_records s) h7 in
    let h5 : a5 ≡ true = front a5 (s14_order_zero s) h6 in
    let h4 : a4 ≡ true = front a4 (s6_order s) h5 in
    let h3 : a3 ≡ true = front a3 (s5_frame_once s) h4 in
    let h2 : a2 ≡ true = front a2 (s4_entries s) h3 in
    record {
      s3 = front (s3_counts s) (s20_live s) h2;
      s20 = last (s3_counts s) (s20_live s) h2;
      s4 = last a2 (s4_entries s) h3;
      s5 = last a3 (s5_frame_once s) h4;
      s6 = last a4 (s6_order s) h5;
      s14_order = last a5 (s14_order_zero s) h6;
      s7 = last a6 (s7_online_records s) h7;
      s8 = last a7 (s8_owners s) h8;
      s14 = last a8 (s14_online_zero s) h9;
      s10 = last a9 (s10_in_log s) h10;
      s11 = last a10 (s11_above_stamp s) h11;
      s9 = last a11 (s9_number_once s) h12;
      s12 = last a12 (s12_dirty s) h13;
      s13 = last a13 (s13_apart s) h;
    }

pub clauses_lost : (s : Lent) → LostClauses s → sound_lost s ≡ true
unfolding sound_lost
clauses_lost s c = rw (c.s3, c.s20, c.s4, c.s5, c.s6, c.s14_order, c.s7, c.s8, c.s14, c.s10, c.s11, c.s9, c.s12, c.s13)

pub sound_gives_durable : (s : Lent) → sound s ≡ true → sound_durable s ≡ true
unfolding sound
sound_gives_durable s e = front (sound_durable s) (sound_lost s) e

pub sound_gives_lost : (s : Lent) → sound s ≡ true → LostClauses s
unfolding sound
sound_gives_lost s e = lost_clauses s (last (sound_durable s) (sound_lost s) e)

-- what is lent has its ranges and lengths
pub sound_sized : (s : Lent) → sound s ≡ true → Sized s
sound_sized s e = durable_sized s (sound_gives_durable s e)

-- S3 and S14: what is read there is read whole
pub sound_whole : (s : Lent) → sound s ≡ true → Whole s
unfolding s3_counts s14_order_zero s14_online_zero
sound_whole s e =
    let z : Sized s = sound_sized s e in
    let c : LostClauses s = sound_gives_lost s e in
    let k = and_both (leb (count_of s) (online_size_of s)) (leb (used_of s) (frames_of s)) c.s3 in
    let m : count_of s ≤ online_size_of s = leb-true (count_of s) (online_size_of s) k.0 in
    let u : used_of s ≤ frames_of s = leb-true (used_of s) (frames_of s) k.1 in
    let n : length (online_of s) ≡ count_of s = length_rows 19 (count_of s) s.lost.online 0 in
    let o : length (order_of s) ≡ used_of s = length_part 35 (used_of s) s.lost.tables (omega (arith, z.tables)) in
    record {
      areas = record { tables = z.tables; online = z.online; pool = z.pool };
      count = sym n;
      room = omega (arith, n, m);
      used = sym o;
      frames = omega (arith, o, u);
      order_read = refl;
      order_zero = ap (λ (i : ℕ). zeros (part (35 + i) (frames_of s - i) s.lost.tables)) o ∙ c.s14_order;
      lives_read = refl;
      entries_read = refl;
      online_read = refl;
      online_zero = ap (λ (i : ℕ). zeros (drop (i * 19) s.lost.online)) n ∙ c.s14;
      wide = wide_all 19 (count_of s) s.lost.online (omega (arith, z.online));
    }

-- S8 by the tables and by the live bytes that are read there
owning_is : (s : Lent) → Whole s → (r : List ℕ) → owning s r ≡ owned_right s.durable (lives_of s) r
unfolding owning
owning_is s w r = go (committed r) refl (leb (owner_of r) 32) refl
  where
    here : Bool
    here = between 1 (number_of r) (last_of s)

    by_tables : Bool
    by_tables = eqb (live_of s (owner_of r)) 1

    by_lives : Bool
    by_lives = eqb (get_or (lives_of s) (owner_of r - 1) 0) 1

    go : (b : Bool) → committed r ≡ b → (t : Bool) → leb (owner_of r) 32 ≡ t → cond b here (t && eqb (number_of r) 0 && by_tables) ≡ cond b here (t && eqb (number_of r) 0 && by_lives)
    go true e t f = refl
    go false e false f = refl
    go false e true f =
        let n = eqb-false (owner_of r) 0 e in
        ap (λ (x : ℕ). eqb (number_of r) 0 && eqb x 1) (live_whole s (owner_of r) w (omega arith) (leb-true (owner_of r) 32 f))

-- what soundness says of the lists
pub sound_holds : (s : Lent) → sound s ≡ true → HoldsIn s
unfolding s20_live s4_entries s5_frame_once s6_order s7_online_records s8_owners s10_in_log s11_above_stamp s9_number_once s12_dirty s13_apart
sound_holds s e =
    let c : LostClauses s = sound_gives_lost s e in
    let o = and_both (every (λ (f : ℕ). ltb f (frames_of s)) (order_of s)) (up_to (λ (f : ℕ). eqb (times f (order_of s)) (serving f (entries_of s))) (frames_of s) 0) c.s6 in
    record {
      seated =
          record {
            entries_within = c.s4;
            order_within = o.0;
            once = λ f k. leb-true (serving f (entries_of s)) 1 (up_to_at (λ (i : ℕ). leb (serving i (entries_of s)) 1) (frames_of s) f c.s5 k);
            named = λ f k. eqb-true (times f (order_of s)) (serving f (entries_of s)) (up_to_at (λ (i : ℕ). eqb (times i (order_of s)) (serving i (entries_of s))) (frames_of s) f o.1 k);
          };
      live = c.s20;
      formed = c.s7;
      owners = every_imp (owning s) (owned_right s.durable (lives_of s)) (λ r h. sym (owning_is s (sound_whole s e) r) ∙ h) (online_of s) c.s8;
      logged = c.s10;
      above = c.s11;
      once = c.s9;
      dirty = λ p k. agree_then (is_dirty (get_or (entries_of s) p 0)) (any (on_page p) (online_of s)) (up_to_at (λ (i : ℕ). agree (is_dirty (get_or (entries_of s) i 0)) (any (on_page i) (online_of s))) (pages_of s) p c.s12 k);
      apart_all = c.s13;
    }

-- and the other way: lists of which it holds, read whole, are those of sound tables
holds_lost : (s : Lent) → Whole s → HoldsIn s → sound_lost s ≡ true
unfolding s3_counts s14_order_zero s14_online_zero s20_live s4_entries s5_frame_once s6_order s7_online_records s8_owners s10_in_log s11_above_stamp s9_number_once s12_dirty s13_apart
holds_lost s w h =
    clauses_lost s
    record {
      s3 =
          and_in (leb (count_of s) (online_size_of s)) (leb (used_of s) (frames_of s))
          (le-leb (count_of s) (online_size_of s) (omega (arith, w.count, w.room)))
          (le-leb (used_of s) (frames_of s) (omega (arith, w.used, w.frames)));
      s20 = h.live;
      s4 = h.seated.entries_within;
      s5 = seated_s5 h.seated;
      s6 = seated_s6 h.seated;
      s14_order = ap (λ (n : ℕ). zeros (part (35 + n) (frames_of s - n) s.lost.tables)) w.used ∙ w.order_zero;
      s7 = h.formed;
      s8 = every_imp (owned_right s.durable (lives_of s)) (owning s) (λ r k. owning_is s w r ∙ k) (online_of s) h.owners;
      s14 = ap (λ (n : ℕ). zeros (drop (n * 19) s.lost.online)) w.count ∙ w.online_zero;
      s10 = h.logged;
      s11 = h.above;
      s9 = h.once;
      s12 = up_to_all (λ (p : ℕ). agree (is_dirty (get_or (entries_of s) p 0)) (any (on_page p) (online_of s))) (pages_of s) (λ p k. agree_same (is_dirty (get_or (entries_of s) p 0)) (any (on_page p) (online_of s)) (h.dirty p k));
      s13 = h.apart_all;
    }

pub sound_by : {s : Lent} {order lives entries : List ℕ} {online : List (List ℕ)} → sound_durable s ≡ true → Reads s order lives entries online → Holds s.durable order lives entries online → sound s ≡ true
unfolding sound
sound_by {s} d e h =
    and_in (sound_durable s) (sound_lost s) d
    (holds_lost s (whole e) (over e (λ (o l es : List ℕ) (on : List (List ℕ)). Holds s.durable o l es on) h))

-- a step that leaves the durable part as it is, and the lengths of the lost areas, leaves what restart checks
pub durable_again : (d : Durable) (l m : Lost) → sound_durable (record { durable = d; lost = l }) ≡ true → Areas (record { durable = d; lost = m }) → sound_durable (record { durable = d; lost = m }) ≡ true
unfolding s1_parameters s2_lengths exact_lengths s3_logged s16_logged s18_first s15_stamps s17_s19_dirty s7_log_records s14_log_zero
durable_again d l m h a =
    let c : DurableClauses (record { durable = d; lost = l }) = durable_clauses (record { durable = d; lost = l }) h in
    let z : Sized (record { durable = d; lost = l }) = durable_sized (record { durable = d; lost = l }) h in
    clauses_durable (record { durable = d; lost = m })
    record {
      s1 = c.s1;
      s2 =
          rw (
            eq-eqb (length d.marks) (12 + 8 * pages_of (only d)) z.marks,
            eq-eqb (length d.log) (14 * log_size_of (only d)) z.log,
            eq-eqb (length d.stored) (size_of (only d) * pages_of (only d)) z.stored,
            eq-eqb (length m.tables) (35 + frames_of (only d) + pages_of (only d)) a.tables,
            eq-eqb (length m.online) (19 * online_size_of (only d)) a.online,
            eq-eqb (length m.pool) (size_of (only d) * frames_of (only d)) a.pool,
          );
      s3 = c.s3;
      s16 = c.s16;
      s18 = c.s18;
      s15 = c.s15;
      s17 = c.s17;
      s7 = c.s7;
      s14 = c.s14;
    }
