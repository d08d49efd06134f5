-- Laws of the call judged and told.
use Prim.Native.Nat.{ℕ, ◌+◌, ◌*◌, ◌/◌, ◌≤◌, ◌<◌}
use native.Mathlib.Omega.{arith}
use mathlib.Core.Path.{◌≡◌, refl, sym, ap}
use mathlib.Core.Bool.{true, false, not}
use mathlib.Core.List.{List}
use lib.ListN.{length}
use borrow.Author.Tests.{not-false}
use Rattle.journal.specs.Layout.{is_size, whole_pages, is_header, nonce_of, records}
use Rattle.journal.specs.Playing.{body_of, counted, run, run_of, to_restore, outside, restored}
use Rattle.std.specs.Prelude.{Ok, Err}
use Rattle.journal.specs.declared.Refusal.{Refusal}
use Rattle.journal.specs.declared.Refusal.TheVariants.{BadParameter, BadLength, BadHeader}
use Rattle.journal.specs.declared.Run.{Run}
use Rattle.journal.specs.Calls.{judge_play, play_call, Told, reply_refused, reply_played}
use Rattle.journal.proofs.Laws.{header_tells}
use Rattle.journal.proofs.Tells.{refused_by, passed_by, went_by, size_range}
use Rattle.journalplay.specs.Seen.{seen}
use Rattle.journalplay.proofs.Looks.{run_fits}

-- each way to the end
module _ (j : List ℕ) (lent size : ℕ) where
  pub judged_26 : is_size size ≡ false → Err BadParameter ≡ judge_play j lent size
  unfolding judge_play
  judged_26 a = refused_by _ _ _ (ap not a)

  pub judged_27 : is_size size ≡ true → whole_pages size lent ≡ false → Err BadLength ≡ judge_play j lent size
  unfolding judge_play
  judged_27 a b = passed_by _ _ _ _ (ap not a) (refused_by _ _ _ (ap not b))

  pub judged_29 : is_size size ≡ true → whole_pages size lent ≡ true → is_header size j ≡ false → Err BadHeader ≡ judge_play j lent size
  unfolding judge_play
  judged_29 a b d = passed_by _ _ _ _ (ap not a) (passed_by _ _ _ _ (ap not b) (refused_by _ _ _ (ap not d)))

  pub judged_seen : is_size size ≡ true → whole_pages size lent ≡ true → is_header size j ≡ true
      → seen (counted size j) (nonce_of j) size (lent / size) (body_of j) ≡ judge_play j lent size
  unfolding judge_play seen to_restore run_of
  judged_seen a b d = passed_by _ _ _ _ (ap not a) (passed_by _ _ _ _ (ap not b) (passed_by _ _ _ _ (ap not d) refl))

-- what restoring asks for, once the call is not refused
pub record Ready (j : List ℕ) (lent size k : ℕ) : Type 0 where
  pub long : 28 ≤ length j
  pub some : 0 < size
  pub room : k * (size + 8) ≤ length (body_of j)
  pub inner : outside (lent / size) (records k size (body_of j)) ≡ false

pub ready : (j : List ℕ) (lent size : ℕ) (r : Run) → Ok r ≡ judge_play j lent size → (r ≡ run_of size j) × Ready j lent size r.count
unfolding judge_play to_restore run_of
ready j lent size r s =
    let a = went_by _ _ _ _ (sym s) in
    let b = went_by _ _ _ _ a.1 in
    let d = went_by _ _ _ _ b.1 in
    let e = went_by _ _ _ _ d.1 in
    let w = size_range size (not-false (is_size size) a.0) in
    let k : r ≡ run (counted size j) (nonce_of j) size (body_of j) = cc in (
      k,
      record {
        long = (header_tells size j (not-false (is_header size j) d.0)).0;
        some = omega (arith, w.0);
        room = rw k (run_fits (counted size j) (nonce_of j) size (body_of j));
        inner = rw k e.0;
      },
    )

-- the door: refused, and done
module _ (j pages : List ℕ) (size : ℕ) where
  pub play_no : (e : Refusal) → Err e ≡ judge_play j (length pages) size → Told (play_call j pages size) (reply_refused e) pages
  unfolding play_call
  play_no e s = rw (← s) (record { reply = refl; bytes = refl })

  pub play_done : (r : Run) (pages' : List ℕ) → Ok r ≡ judge_play j (length pages) size → pages' ≡ restored size (records r.count size (body_of j)) pages
      → Told (play_call j pages size) (reply_played r) pages'
  unfolding play_call to_restore
  play_done r pages' s e =
      let k = (ready j (length pages) size r s).0 in
      rw (← s, ← k) (record { reply = refl; bytes = e })
