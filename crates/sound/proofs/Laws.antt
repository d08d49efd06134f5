-- Soundness as its two parts, and the shape that it gives.
use Prim.Native.Nat.{◌*◌, ◌≤◌}
use mathlib.Core.Path.{◌≡◌, refl, ◌∙◌}
use mathlib.Core.Bool.{Bool, true, false, ◌&&◌}
use lib.ListN.{drop}
use Rattle.word.proofs.Tests.{and_both}
use Rattle.record.specs.Rows.{rows}
use Rattle.rules.specs.Lent.{Lent, size_of, pages_of, frames_of, online_size_of, last_of, logged_of, count_of}
use Rattle.rules.specs.Sound.{sound_lost, sound, s3_counts, s20_live, s4_entries, s5_frame_once, s6_order, s14_order_zero, s7_online_records, s8_owners, s14_online_zero, s10_in_log, s11_above_stamp, s9_number_once, s12_dirty, s13_apart}
use Rattle.rules.specs.Shape.{Shaped}
use Rattle.rules.proofs.Clauses.{sound_gives_durable, sound_gives_lost}
use Rattle.pagetable.specs.Test.{tables_test}
use Rattle.pagetable.proofs.Laws.{tables_is, count_within, used_within, entries_within, order_within}
use Rattle.onlinecheck.specs.Online.{online_test}
use Rattle.onlinecheck.proofs.Laws.{online_is}
use Rattle.rules.proofs.Ranges.{durable_sized, durable_logged}

-- the lost part is the tables' test and the online table's
nine : (t a b c d e f g h : Bool) → (t && (a && b && c && d && e && f && g && h)) ≡ (t && a && b && c && d && e && f && g && h)
nine true a b c d e f g h = refl
nine false a b c d e f g h = refl

abbrev tables_of : Lent → Bool
tables_of s = tables_test s.lost.tables (pages_of s) (frames_of s) (online_size_of s)

abbrev rows_of : Lent → Bool
rows_of s = online_test (rows 19 (count_of s) s.lost.online 0) (drop (count_of s * 19) s.lost.online) (rows 14 (logged_of s) s.durable.log 0) s.durable.marks s.lost.tables (size_of s) (pages_of s) (frames_of s) (last_of s)

pub lost_is : (s : Lent) → (tables_test s.lost.tables (pages_of s) (frames_of s) (online_size_of s) && online_test (rows 19 (count_of s) s.lost.online 0) (drop (count_of s * 19) s.lost.online) (rows 14 (logged_of s) s.durable.log 0) s.durable.marks s.lost.tables (size_of s) (pages_of s) (frames_of s) (last_of s)) ≡ sound_lost s
unfolding sound_lost
lost_is s =
    (λ i. tables_is s i && online_is s i)
    ∙ nine (s3_counts s && s20_live s && s4_entries s && s5_frame_once s && s6_order s && s14_order_zero s) (s7_online_records s) (s8_owners s) (s14_online_zero s) (s10_in_log s) (s11_above_stamp s) (s9_number_once s) (s12_dirty s) (s13_apart s)

sound_tables : (s : Lent) → sound s ≡ true → tables_of s ≡ true
sound_tables s e = (and_both (tables_of s) (rows_of s) (lost_is s ∙ sound_gives_lost s e)).0

-- what the inner functions ask for
pub sound_shaped : (s : Lent) → sound s ≡ true → Shaped s
sound_shaped s e =
    record {
      sized = durable_sized s (sound_gives_durable s e);
      logged = (durable_logged s (sound_gives_durable s e)).0;
      count = count_within s.lost.tables (pages_of s) (frames_of s) (online_size_of s) (sound_tables s e);
      used = used_within s.lost.tables (pages_of s) (frames_of s) (online_size_of s) (sound_tables s e);
      entries = entries_within s.lost.tables (pages_of s) (frames_of s) (online_size_of s) (sound_tables s e);
      order = order_within s.lost.tables (pages_of s) (frames_of s) (online_size_of s) (sound_tables s e);
    }

pub sound_logged : (s : Lent) → sound s ≡ true → logged_of s ≤ last_of s
sound_logged s e = (durable_logged s (sound_gives_durable s e)).1
