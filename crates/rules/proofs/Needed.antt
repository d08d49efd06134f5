-- What the history needs of the steps. Each law is broken by a store that tempts: one that reads fewer marks, folds more, drops more or remembers less.
use Prim.Native.Nat.{ℕ, ◌+◌, ◌-◌, ◌%◌, ◌≤◌, ◌<◌}
use native.Mathlib.Omega.{arith}
use mathlib.Core.Path.{◌≡◌, refl, sym, ap, ◌∙◌}
use mathlib.Core.Bool.{Bool, true, false, cond, not, ◌&&◌, ◌||◌, and-false}
use mathlib.Core.List.{List, [], ◌∷◌}
use lib.ListN.{length, get_or, set, length-set}
use lib.Seq.{get_or-set_same, get_or-set_other}
use lib.Dec.{eqb, leb}
use borrow.Author.Tests.{eqb-true, eqb-false, leb-true, leb-false, not-true}
use Rattle.word.proofs.Tests.{and_both}
use Rattle.record.specs.Rows.{rows, cons_if, keep, any}
use Rattle.record.specs.Record.{page_of, number_of, committed, entered, on_page, committed_on, owned_by, smallest}
use Rattle.order.specs.Order.{without}
use Rattle.rules.specs.Lent.{Lent, frames_of, closed_of, logged_of, stamp_of, dirty_of, first_number_of, order_of, entry_at, entry_of, online_of, frame_of, is_dirty}
use Rattle.rules.specs.Sound.{every}
use Rattle.rules.specs.Steps.{others, judged_anew, evicted, foldable, unfolded, dropped_by, enters, entering}
use Rattle.rules.proofs.Every.{meet, every_kept, keep_within}
use Rattle.rules.proofs.Extremes.{has_number, smallest_all, smallest_found, smallest_empty}
use Rattle.rules.proofs.Tables.{changed_count, changed_entry}

-- Restart: what enters is numbered above its page's stamp, so no stored page holds it; what is passed over adds nothing
pub enters_above : (s : Lent) (k : ℕ) (b : List ℕ) → enters s k b ≡ true → stamp_of s (page_of b) < k
enters_above s k b h =
    leb-false k (stamp_of s (page_of b))
    (not-true (leb k (stamp_of s (page_of b))) (and_both (not (leb k (closed_of s) && eqb (dirty_of s (page_of b)) 0)) (not (leb k (stamp_of s (page_of b)))) h).1)

pub entering_passed : (s : Lent) (k : ℕ) (b : List ℕ) (bs : List (List ℕ)) → enters s k b ≡ false → entering s k (b ∷ bs) ≡ entering s (k + 1) bs
unfolding entering
entering_passed s k b bs e = ap (λ (t : Bool). cons_if t (entered b k) (entering s (k + 1) bs)) e

-- Compact: what is folded into the stored page is committed, and no uncommitted record leaves the online table
pub folds_committed : (s : Lent) (p : ℕ) → every committed (foldable s p) ≡ true
folds_committed s p = every_kept (committed_on p) committed (λ r h. (and_both (on_page p r) (committed r) h).1) (online_of s)

pub open_stays : (p : ℕ) (r : List ℕ) → not (committed r) ≡ true → not (committed_on p r) ≡ true
open_stays p r h = ap (λ (t : Bool). not (on_page p r && t)) (not-true (committed r) h) ∙ ap not (and-false (on_page p r))

pub unfolded_open : (s : Lent) (p : ℕ) → keep (λ (r : List ℕ). not (committed r)) (unfolded s p) ≡ keep (λ (r : List ℕ). not (committed r)) (online_of s)
unfolded_open s p = keep_within (λ (r : List ℕ). not (committed r)) (λ (r : List ℕ). not (committed_on p r)) (open_stays p) (online_of s)

-- a walk over rows, that sets what stands at the place of each row's page to what v says of the page
unfoldable pub walked : (ℕ → ℕ) → (ℕ → ℕ) → List (List ℕ) → List ℕ → List ℕ
walked place v [] t = t
walked place v (r ∷ rs) t = walked place v rs (set t (place (page_of r)) (v (page_of r)))

pub walked_length : (place v : ℕ → ℕ) (rs : List (List ℕ)) (t : List ℕ) → length (walked place v rs t) ≡ length t
unfolding walked
walked_length place v [] t = refl
walked_length place v (r ∷ rs) t = walked_length place v rs (set t (place (page_of r)) (v (page_of r))) ∙ length-set t (place (page_of r)) (v (page_of r))

pub cond_same : (b : Bool) (x : ℕ) → cond b x x ≡ x
cond_same true x = refl
cond_same false x = refl

-- no two pages have one place: there stands what the walk says of the page if a row is on it, else what stood there
pub walked_at : (place v : ℕ → ℕ) → ((p q : ℕ) → place p ≡ place q → p ≡ q) → (rs : List (List ℕ)) (t : List ℕ) (p : ℕ) → place p < length t
    → get_or (walked place v rs t) (place p) 0 ≡ cond (any (on_page p) rs) (v p) (get_or t (place p) 0)
unfolding walked any
walked_at place v one [] t p h = refl
walked_at place v one (r ∷ rs) t p h =
    walked_at place v one rs (set t (place (page_of r)) (v (page_of r))) p (omega (arith, length-set t (place (page_of r)) (v (page_of r)))) ∙ go (on_page p r) refl
  where
    go : (b : Bool) → on_page p r ≡ b → cond (any (on_page p) rs) (v p) (get_or (set t (place (page_of r)) (v (page_of r))) (place p) 0) ≡ cond (b || any (on_page p) rs) (v p) (get_or t (place p) 0)
    go true e =
        let q : page_of r ≡ p = eqb-true (page_of r) p e in
        ap (λ (k : ℕ). cond (any (on_page p) rs) (v p) (get_or (set t (place k) (v k)) (place p) 0)) q
        ∙ ap (λ (x : ℕ). cond (any (on_page p) rs) (v p) x) (get_or-set_same t (place p) (v p) 0 h)
        ∙ cond_same (any (on_page p) rs) (v p)
    go false e =
        ap (λ (x : ℕ). cond (any (on_page p) rs) (v p) x)
        (get_or-set_other t (place (page_of r)) (place p) (v (page_of r)) 0 (λ q. eqb-false (page_of r) p e (sym (one p (page_of r) q))))

-- Abort: of the pages that had one of these rows, one for which records remain becomes evicted, so they are not forgotten, and one without becomes absent
judged_walk : (frames : ℕ) (remain rs : List (List ℕ)) (t : List ℕ) → judged_anew frames remain rs t ≡ walked (entry_at frames) (λ (p : ℕ). cond (any (on_page p) remain) 1 0) rs t
unfolding judged_anew walked
judged_walk frames remain [] t = refl
judged_walk frames remain (r ∷ rs) t = judged_walk frames remain rs (set t (entry_at frames (page_of r)) (cond (any (on_page (page_of r)) remain) 1 0))

judged_at : (frames : ℕ) (remain rs : List (List ℕ)) (t : List ℕ) (p : ℕ) → entry_at frames p < length t → any (on_page p) rs ≡ true
    → get_or (judged_anew frames remain rs t) (entry_at frames p) 0 ≡ cond (any (on_page p) remain) 1 0
judged_at frames remain rs t p h e =
    ap (λ (l : List ℕ). get_or l (entry_at frames p) 0) (judged_walk frames remain rs t)
    ∙ walked_at (entry_at frames) (λ (q : ℕ). cond (any (on_page q) remain) 1 0) (λ i j k. omega arith) rs t p h
    ∙ ap (λ (b : Bool). cond b (cond (any (on_page p) remain) 1 0) (get_or t (entry_at frames p) 0)) e

pub judged_remains : (frames : ℕ) (remain rs : List (List ℕ)) (t : List ℕ) (p : ℕ) → entry_at frames p < length t → any (on_page p) rs ≡ true → any (on_page p) remain ≡ true
    → get_or (judged_anew frames remain rs t) (entry_at frames p) 0 ≡ 1
judged_remains frames remain rs t p h e k = judged_at frames remain rs t p h e ∙ ap (λ (b : Bool). cond b 1 0) k

pub judged_gone : (frames : ℕ) (remain rs : List (List ℕ)) (t : List ℕ) (p : ℕ) → entry_at frames p < length t → any (on_page p) rs ≡ true → any (on_page p) remain ≡ false
    → get_or (judged_anew frames remain rs t) (entry_at frames p) 0 ≡ 0
judged_gone frames remain rs t p h e k = judged_at frames remain rs t p h e ∙ ap (λ (b : Bool). cond b 1 0) k

-- and the records of the others all remain, in their order
pub others_remain : (s : Lent) (x : ℕ) (b : List ℕ → Bool) → ((r : List ℕ) → b r ≡ true → owned_by x r ≡ false) → keep b (others s x) ≡ keep b (online_of s)
others_remain s x b f = keep_within b (λ (r : List ℕ). not (owned_by x r)) (λ r h. ap not (f r h)) (online_of s)

-- Close: no record is dropped from the log that is still online
pub dropped_below : (s : Lent) → every has_number (keep committed (online_of s)) ≡ true → every (λ (r : List ℕ). leb (first_number_of s) (number_of r)) (keep committed (online_of s)) ≡ true
    → every (λ (r : List ℕ). leb (first_number_of s + dropped_by s) (number_of r)) (keep committed (online_of s)) ≡ true
unfolding dropped_by smallest every
dropped_below s h k = go (eqb least 0) refl
  where
    still : List (List ℕ)
    still = keep committed (online_of s)

    least : ℕ
    least = smallest 0 still

    -- an online record has the smallest number, so the log does not begin behind it
    from : 1 ≤ length still → first_number_of s ≤ least
    from n =
        meet (λ (r : List ℕ). leb (first_number_of s) (number_of r)) (λ (r : List ℕ). eqb (number_of r) least) still k (smallest_found still h n)
        (λ r a e. omega (arith, leb-true (first_number_of s) (number_of r) a, eqb-true (number_of r) least e))

    some : (l : List (List ℕ)) → (l ≡ [] → ⊥) → 1 ≤ length l
    some [] f = absurd (f refl)
    some (r ∷ l) f = omega arith

    go : (z : Bool) → eqb least 0 ≡ z → every (λ (r : List ℕ). leb (first_number_of s + cond z (logged_of s) (least - first_number_of s)) (number_of r)) still ≡ true
    go true e = ap (λ (l : List (List ℕ)). every (λ (r : List ℕ). leb (first_number_of s + logged_of s) (number_of r)) l) (smallest_empty still h (eqb-true least 0 e))
    go false e =
        let n : first_number_of s ≤ least = from (some still (λ q. eqb-false least 0 e (ap (λ (l : List (List ℕ)). smallest 0 l) q))) in
        let d : first_number_of s + (least - first_number_of s) ≡ least = omega arith in
        ap (λ (m : ℕ). every (λ (r : List ℕ). leb m (number_of r)) still) d ∙ smallest_all still h

-- Evict: the page's entry tells as before whether it has online records, and they all stay
pub evicted_dirty : (s : Lent) (p : ℕ) → entry_at (frames_of s) p < length s.lost.tables → is_dirty (entry_of (evicted s p).lent p) ≡ is_dirty (entry_of s p)
unfolding evicted
evicted_dirty s p h =
    let k : entry_of s p % 2 % 2 ≡ entry_of s p % 2 = omega arith in
    ap (λ (e : ℕ). is_dirty e) (changed_entry (frames_of s) p (entry_of s p % 2) (without (frame_of (entry_of s p)) (order_of s)) s.lost.tables h) ∙ ap (λ (x : ℕ). eqb x 1) k

pub evicted_rows : (s : Lent) (p : ℕ) → 35 + frames_of s ≤ length s.lost.tables → online_of (evicted s p).lent ≡ online_of s
unfolding evicted
evicted_rows s p h = ap (λ (n : ℕ). rows 19 n s.lost.online 0) (changed_count (frames_of s) p _ (without (frame_of (entry_of s p)) (order_of s)) s.lost.tables h)
