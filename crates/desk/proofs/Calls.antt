-- What the desk reads in a log that the call wrote is what was committed.
use Prim.Native.Nat.{ℕ, ◌+◌, ◌*◌, ◌^◌, ◌<◌}
use native.Mathlib.Omega.{arith}
use mathlib.Core.Path.{◌≡◌, refl, sym, ap, ◌∙◌, subst}
use mathlib.Core.Bool.{Bool, true, false, ◌&&◌}
use mathlib.Core.List.{List, ◌++◌}
use lib.ListN.{length, take, drop}
use lib.Seq.{take_at}
use lib.Dec.{eqb, ltb}
use borrow.Author.Tests.{ltb-true, eqb-true}
use Rattle.rules.proofs.Every.{meet}
use Rattle.word.proofs.Tests.{and_both, among_four}
use Rattle.record.specs.Rows.{keep, any}
use Rattle.record.specs.Record.{committed_on}
use Rattle.record.proofs.Changes.{length_applied}
use Rattle.rules.specs.declared.Refusal.{Refusal}
use Rattle.rules.specs.declared.Refusal.TheVariants.{NotSound, Argument, ShortBuffer, NotLive, Live, Held, OnlineFull, LogFull, NumbersEnd, NoFrame}
use Rattle.rules.specs.Answers.{code_of}
use Rattle.rules.specs.Lent.{Lent, params_of, size_of, pages_of, online_of, page_in}
use Rattle.rules.specs.Sound.{is_page_size, in_range, s1_parameters, s2_lengths, s3_logged, s16_logged, s18_first, s15_stamps, s17_s19_dirty, s7_log_records, s14_log_zero, sound_durable, sound}
use Rattle.rules.proofs.Clauses.{sound_gives_durable}
use Rattle.sound.proofs.Laws.{sound_shaped}
use Rattle.readback.proofs.Pages.{page_length}
use Rattle.wal.specs.Layout as wal
use Rattle.walwrite.specs.declared.Why.{Why}
use Rattle.walwrite.specs.declared.Why.TheVariants.{Store, ShortTarget, EmptyList}
use Rattle.std.specs.Prelude.{Ok, Err}
use Rattle.walwrite.specs.Image.{image_in, image_of}
use Rattle.walwrite.specs.Write.{Ruling, code_of_why, listed, judge_write, log_of, settled, write_call}
use Rattle.walwrite.proofs.Laws.{judged_go, go_parts, go_some}
use Rattle.history.specs.Past.{Past}
use Rattle.history.specs.Run.{Run}
use Rattle.desk.specs.Desk.{committed_page, Reads}
use Rattle.desk.proofs.Images.{image_shows}
use Rattle.desk.proofs.Logs.{log_reads}

-- a refusal has a number
refused_code : (r : Refusal) → code_of r ≡ 0 → ◌≡◌ {A = ℕ} 0 1
refused_code NotSound e = cc
refused_code (Argument b) e = cc
refused_code ShortBuffer e = cc
refused_code NotLive e = cc
refused_code Live e = cc
refused_code Held e = cc
refused_code OnlineFull e = cc
refused_code LogFull e = cc
refused_code NumbersEnd e = cc
refused_code NoFrame e = cc

why_code : (w : Why) → code_of_why w ≡ 0 → ◌≡◌ {A = ℕ} 0 1
why_code (Store r) e = refused_code r e
why_code ShortTarget e = cc
why_code EmptyList e = cc

-- so a call that answers 0 has written its log
went : (s : Lent) (list target : List ℕ) (a b q order : ℕ) → (write_call s list target a b q order).reply.code ≡ 0 → judge_write s list (length target) order ≡ Ok tt
unfolding write_call
went s list target a b q order = pick (judge_write s list (length target) order) refl
  where
    pick : (v : Ruling) → judge_write s list (length target) order ≡ v → (settled v list target (log_of s list a b q order)).reply.code ≡ 0 → judge_write s list (length target) order ≡ Ok tt
    pick (Ok u) f e = f
    pick (Err w) f e = let z : ◌≡◌ {A = ℕ} 0 1 = why_code w e in absurd (omega arith)

target_is : (s : Lent) (list target : List ℕ) (a b q order : ℕ) → judge_write s list (length target) order ≡ Ok tt → (write_call s list target a b q order).target ≡ log_of s list a b q order ++ drop (length (log_of s list a b q order)) target
unfolding write_call
target_is s list target a b q order f = ap (λ (v : Ruling). (settled v list target (log_of s list a b q order)).target) f

-- a store's page size is one of a log's
first_of_nine : (a b c d e f g h i : Bool) → (a && b && c && d && e && f && g && h && i) ≡ true → a ≡ true
first_of_nine true b c d e f g h i k = refl
first_of_nine false b c d e f g h i k = k

first_of_five : (a b c d e : Bool) → (a && b && c && d && e) ≡ true → a ≡ true
first_of_five true b c d e k = refl
first_of_five false b c d e k = k

page_size : (s : Lent) → sound s ≡ true → wal.is_page_size (size_of s) ≡ true
unfolding sound_durable s1_parameters in_range is_page_size wal.is_page_size
page_size s e =
    let n = first_of_nine (s1_parameters s) (s2_lengths s) (s3_logged s) (s16_logged s) (s18_first s) (s15_stamps s) (s17_s19_dirty s) (s7_log_records s) (s14_log_zero s) (sound_gives_durable s e) in
    let r = (and_both (eqb (length s.durable.fixed) 20) (in_range (params_of s)) n).1 in
    among_four (λ (z : ℕ). wal.is_page_size z ≡ true) (size_of s) 512 1024 2048 4096 (first_of_five (is_page_size (size_of s)) _ _ _ _ r) refl refl refl refl

-- an image is as long as a page
image_length : (s : Lent) → sound s ≡ true → (p : ℕ) → p < pages_of s → length (image_of s p) ≡ size_of s
unfolding image_in
image_length s e p m = length_applied (keep (committed_on p) (online_of s)) (page_in (size_of s) p s.durable.stored) ∙ page_length (size_of s) (pages_of s) s.durable.stored (sound_shaped s e).sized.stored p m

-- a log that the call wrote is accepted to its last frame, and each page listed is found with its image
pub written_reads : (s : Lent) (list target : List ℕ) (a b q order : ℕ) → a < 2 ^ 32 → b < 2 ^ 32 → (write_call s list target a b q order).reply.code ≡ 0 → Reads (size_of s) (image_of s) list (take (32 + length list * (24 + size_of s)) (write_call s list target a b q order).target)
written_reads s list target a b q order ha hb e =
    let f = went s list target a b q order e in
    let g = judged_go s list (length target) order f in
    let z = (sound_shaped s g.0).sized in
    let p = go_parts (size_of s) (pages_of s) (length target) order list g.1 in
    let r = log_reads (eqb order 1) (size_of s) q a b (image_of s) (pages_of s) list (page_size s g.0) ha hb z.pages_least z.pages (image_length s g.0) p.0 (go_some (size_of s) (pages_of s) (length target) order list g.1) in
    subst (Reads (size_of s) (image_of s) list) (sym (ap (take (32 + length list * (24 + size_of s))) (target_is s list target a b q order f) ∙ take_at (log_of s list a b q order) (drop (length (log_of s list a b q order)) target) (32 + length list * (24 + size_of s)) r.whole)) r

-- a page listed is one of the store's
listed_below : (pages p : ℕ) (l : List ℕ) → listed pages l ≡ true → any (λ (q : ℕ). eqb q p) l ≡ true → p < pages
listed_below pages p l h k = meet (λ (q : ℕ). ltb q pages) (λ (q : ℕ). eqb q p) l h k (λ q a c. subst (λ (n : ℕ). n < pages) (eqb-true q p c) (ltb-true q pages a))

-- "what the desk reads is what was committed": over every run that is up, each page found in the log is the starting page with all committed updates
pub desk_reads : {h : Past} {s : Lent} → Run h s → h.down ≡ false → (list target : List ℕ) (a b q order : ℕ) → a < 2 ^ 32 → b < 2 ^ 32 → (write_call s list target a b q order).reply.code ≡ 0 → Reads (size_of s) (committed_page h) list (take (32 + length list * (24 + size_of s)) (write_call s list target a b q order).target)
desk_reads {h} {s} u n list target a b q order ha hb e =
    let r = written_reads s list target a b q order ha hb e in
    let g = judged_go s list (length target) order (went s list target a b q order e) in
    let p = go_parts (size_of s) (pages_of s) (length target) order list g.1 in
    record { whole = r.whole; valid = r.valid; found = r.found; shows = λ k m. r.shows k m ∙ image_shows u n k (listed_below (pages_of s) k list p.0 m) }
