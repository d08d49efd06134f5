-- Begin and evict keep what is right: begin changes one live byte, evict one entry and the use order.
use Prim.Native.Nat.{ℕ, ◌%◌, ◌≤◌, ◌<◌}
use native.Mathlib.Omega.{arith}
use mathlib.Core.Path.{◌≡◌, refl, sym, ap, ◌∙◌, subst}
use mathlib.Core.Bool.{Bool, true, cond, false≢true}
use mathlib.Core.List.{List}
use lib.ListN.{get_or, set}
use lib.Dec.{eqb}
use Rattle.record.specs.Rows.{any}
use Rattle.record.specs.Record.{on_page}
use Rattle.order.specs.Order.{without}
use Rattle.rules.specs.Lent.{Lent, pages_of, entry_of, in_frame, frame_of, is_dirty}
use Rattle.rules.specs.Steps.{freed_of, begun, evicted}
use Rattle.seats.proofs.Seated.{Seated}
use Rattle.seats.proofs.Places.{left_none, seated_leave}
use Rattle.readback.proofs.Lost.{entry_whole, reads_begun, reads_evicted}
use Rattle.history.specs.Past.{Past, begins}
use Rattle.history.proofs.Right.{Ground, LostRight, Right}
use Rattle.history.proofs.Settle.{settle}
use Rattle.history.proofs.Pasts.{past_begin}
use Rattle.history.proofs.Carried.{lost_begun, lost_entry}

-- evict of page p, whose entry is e: "clean becomes absent, dirty becomes evicted"
module _ {g : Ground} {done opened : List (List ℕ)} {live : ℕ → Bool} {frames : ℕ} {marks stored pool order lives entries : List ℕ} {online : List (List ℕ)} (l : LostRight g done opened live frames marks stored pool order lives entries online) (p e : ℕ) (m : p < g.pages) (k : e ≡ get_or entries p 0) where
  evicted_seated : in_frame e ≡ true → Seated frames (set entries p (e % 2)) (without (frame_of e) order)
  evicted_seated i =
      let w : Seated frames (set entries p (e % 2)) (freed_of (get_or entries p 0) order) = seated_leave l.seated p (e % 2) (omega (arith, l.entries_length)) (omega arith) in
      let f : freed_of (get_or entries p 0) order ≡ without (frame_of e) order = ap (λ (x : ℕ). freed_of x order) (sym k) ∙ ap (λ (t : Bool). cond t (without (frame_of e) order) order) i in
      subst (λ (o : List ℕ). Seated frames (set entries p (e % 2)) o) f w

  -- it is as dirty as it was
  dirty_still : is_dirty (e % 2) ≡ any (on_page p) online
  dirty_still = let z : e % 2 % 2 ≡ e % 2 = omega arith in ap (λ (x : ℕ). eqb x 1) z ∙ ap (λ (x : ℕ). is_dirty x) k ∙ l.dirty p m

  lost_evict : in_frame e ≡ true → LostRight g done opened live frames marks stored pool (without (frame_of e) order) lives (set entries p (e % 2)) online
  lost_evict i = lost_entry l p (e % 2) m (evicted_seated i) l.online_is dirty_still (λ z. absurd (false≢true (sym (left_none e) ∙ z))) (λ q n. refl) (λ q h n. refl) (λ q h n f. refl)

-- begin keeps what is right
pub keeps_begin : {g : Ground} {done : List (List ℕ)} {h : Past} {s : Lent} (x : ℕ) → 1 ≤ x → x ≤ 32 → Right g done h s → Right g done (begins h x) (begun s x).lent
unfolding begun begins
keeps_begin {g} {done} {h} {s} x m n r = settle (reads_begun s x r.whole m n) (past_begin r.past x) r.durable (lost_begun r.lost x m n)

-- evict keeps what is right: "Nothing is written", so a page that stays in its frame holds what it held
pub keeps_evict : {g : Ground} {done : List (List ℕ)} {h : Past} {s : Lent} (p : ℕ) → p < pages_of s → in_frame (entry_of s p) ≡ true → Right g done h s → Right g done h (evicted s p).lent
unfolding evicted
keeps_evict {g} {s = s} p m f r =
    let n : p < g.pages = omega (arith, r.durable.pages) in
    settle (reads_evicted s p r.whole m) r.past r.durable (lost_evict r.lost p (entry_of s p) n (entry_whole s p r.whole m) f)
