-- Commit keeps what is right: what it numbers is all that was ever committed, and more at its end.
use Prim.Native.Nat.{ℕ, ◌+◌, ◌-◌, ◌≤◌}
use native.Mathlib.Omega.{arith}
use mathlib.Core.Path.{◌≡◌, sym, ap, ◌∙◌, subst}
use mathlib.Core.Bool.{Bool, true, not, ◌&&◌}
use mathlib.Core.List.{List, ◌++◌, map, append_assoc}
use lib.ListN.{length, set}
use lib.Seq.{drop-append_seam}
use lib.Dec.{eqb}
use Rattle.record.specs.Rows.{keep}
use Rattle.record.specs.Record.{committed, body_of, owned_by, number_rows, well_formed}
use Rattle.rules.proofs.Every.{every_keep}
use Rattle.record.proofs.Rows.{Wide, keep_length}
use Rattle.rules.specs.Lent.{Lent, frames_of, log_size_of, last_of, logged_of, order_of, entries_of, online_of}
use Rattle.rules.specs.Steps.{owned, committing}
use Rattle.rules.specs.Sound.{every, pairs, apart}
use Rattle.redo.proofs.View.{number_rows_bodies, page_number_rows}
use Rattle.redo.proofs.Loose.{◌≅◌, then, numbered_from, ≅-equal, ≅-number}
use Rattle.redo.proofs.Numbered.{numbered_from_committed}
use Rattle.redo.proofs.Commits.{commit_loose}
use Rattle.readback.proofs.Seen.{lives_of}
use Rattle.readback.proofs.Lost.{reads_committing}
use Rattle.keeps.proofs.Numbering.{bodies_any}
use Rattle.keeps.proofs.Tests.{every_drop}
use Rattle.history.specs.Past.{Past, commits}
use Rattle.history.proofs.Right.{Ground, Right, PastRight, LostRight, rows_of, open_of, uncommitted, above_stamp}
use Rattle.history.proofs.Settle.{settle}
use Rattle.history.proofs.Facts.{open_unset}
use Rattle.history.proofs.Pasts.{open_commit, owned_made, past_commit}
use Rattle.history.proofs.Known.{last_read, owned_read}
use Rattle.history.proofs.Carried.{lost_ended, lost_restated}
use Rattle.history.proofs.CommitDurable.{above_commit, durable_commit}

-- the lost part, as lists: an owner's records `more` are numbered from k on, and no stored page has them
module _ {g : Ground} {done opened : List (List ℕ)} {live : ℕ → Bool} {frames : ℕ} {marks stored pool order lives entries : List ℕ} {online : List (List ℕ)}
    (l : LostRight g done opened live frames marks stored pool order lives entries online) (x k : ℕ) (low : 1 ≤ x)
    (done_wide : Wide 14 done) (open_wide : Wide 19 opened) (unsettled : every uncommitted opened ≡ true) (parted : pairs apart opened ≡ true)
    (marks' : List ℕ) (more : List (List ℕ)) (mine : more ≡ map body_of (keep (owned_by x) opened))
    (above : keep (above_stamp marks') (rows_of g (done ++ more)) ≡ keep (above_stamp marks) (rows_of g done) ++ numbered_from k more) where
  abbrev others : List (List ℕ)
  others = keep (λ (r : List ℕ). not (owned_by x r)) opened

  abbrev before : List (List ℕ)
  before = keep (above_stamp marks) (rows_of g done)

  -- its records come behind what was committed, before those of the others
  online_numbered : number_rows x k online ≅ keep (above_stamp marks') (rows_of g (done ++ more)) ++ others
  online_numbered =
      then (≅-number x k low l.online_is)
      (then (commit_loose x k before opened low (every_keep (above_stamp marks) committed (rows_of g done) (numbered_from_committed (g.base + 1) done_wide)) unsettled parted open_wide)
      (≅-equal (ap (λ (m : List (List ℕ)). before ++ (numbered_from k m ++ others)) (sym mine)
      ∙ sym (append_assoc before (numbered_from k more) others)
      ∙ ap (λ (m : List (List ℕ)). m ++ others) (sym above))))

  lost_commit : LostRight g (done ++ more) others live frames marks' stored pool order lives entries (number_rows x k online)
  lost_commit = lost_restated l online_numbered (λ p. sym (bodies_any p (number_rows_bodies x k online))) (λ p page. sym (page_number_rows p x k online page))

-- "Commit numbers the owner's k records L+1 to L+k in table order, appends them to the log, clears the owner, ends the transaction."
pub keeps_commit : {g : Ground} {done : List (List ℕ)} {h : Past} {s : Lent} (x : ℕ) → 1 ≤ x → x ≤ 32 → logged_of s + length (owned s x) ≤ log_size_of s → last_of s + length (owned s x) ≤ 4294967295 → Right g done h s → Right g (done ++ map body_of (owned s x)) (commits h x) (committing s x).lent
unfolding committing commits
keeps_commit {g} {done} {h} {s} x low high space numbers r =
    settle (reads_committing s x r.whole low high) past (durable_commit x r space numbers formed known)
    (subst (λ (o : List (List ℕ)). LostRight g (done ++ more) o (λ (y : ℕ). not (eqb y x) && h.live y) (frames_of s) marks' s.durable.stored s.lost.pool (order_of s) (set (lives_of s) (x - 1) 0) (entries_of s) (number_rows x (last_of s + 1) (online_of s)))
    (sym (open_commit r.past x low))
    (lost_commit (lost_ended r.lost x low high) x (last_of s + 1) low r.past.done_wide r.past.open_wide (open_unset r.past) r.past.apart marks' more (ap (λ (l : List (List ℕ)). map body_of l) mine) (above_commit x r space numbers formed known)))
  where
    more : List (List ℕ)
    more = map body_of (owned s x)

    marks' : List ℕ
    marks' = (committing s x).lent.durable.marks

    mine : owned s x ≡ keep (owned_by x) (open_of h)
    mine = owned_read g done h s r x low ∙ owned_made h x low

    past : PastRight g (done ++ map body_of (owned s x)) (commits h x)
    past = past_commit r.past x low (owned s x) mine (omega (arith, last_read g done h s r))

    formed : every (well_formed g.size g.pages) (map body_of (owned s x)) ≡ true
    formed =
        ap (λ (l : List (List ℕ)). every (well_formed g.size g.pages) l) (sym (drop-append_seam done (map body_of (owned s x))))
        ∙ every_drop (well_formed g.size g.pages) (length done) (done ++ map body_of (owned s x)) past.formed

    known : length (owned s x) ≤ length (open_of h)
    known = omega (arith, ap (λ (l : List (List ℕ)). length l) mine, keep_length (owned_by x) (open_of h))
