-- The walks of abort and of restart over page entries and use order: what each entry is after them, which frames have left the order,
-- and that entries and order still agree.
use Prim.Native.Nat.{ℕ, zero, suc, ◌+◌, ◌-◌, ◌/◌, ◌≤◌, ◌<◌}
use native.Mathlib.Omega.{arith}
use mathlib.Core.Path.{◌≡◌, refl, sym, ap, ◌∙◌}
use mathlib.Core.Bool.{Bool, true, false, cond, not, ◌||◌, false≢true}
use mathlib.Core.List.{List, [], ◌∷◌}
use lib.ListN.{length, get_or, set, replicate, length-set, length-replicate, get_or-replicate}
use lib.Seq.{get_or-set_same, get_or-set_other}
use lib.Dec.{eqb, leb, ltb}
use borrow.Author.Tests.{ltb-true, le-leb, eqb-true, eqb-false, eq-eqb, ne_eqb}
use Rattle.word.proofs.Tests.{and_both}
use Rattle.record.specs.Rows.{cons_if, keep, any}
use Rattle.record.specs.Record.{page_of, on_page, owned_by}
use Rattle.order.specs.Order.{without}
use Rattle.rules.specs.Lent.{entry_at, in_frame, frame_of, is_dirty}
use Rattle.rules.specs.Steps.{freed_of, frames_freed}
use Rattle.rules.specs.Sound.{every, serving, times}
use Rattle.rules.proofs.Every.{every_set, every_without}
use Rattle.rules.proofs.Needed.{cond_same, walked, walked_length, walked_at}
use Rattle.seats.proofs.Seated.{Seated}
use Rattle.seats.proofs.Counting.{times_without, serving_set}
use Rattle.seats.proofs.Places.{seated_evicted, absent_out}

-- the entries once these rows' pages are judged anew by the rows that remain: "evicted if records remain, else absent"
unfoldable pub judged_entries : List (List ℕ) → List (List ℕ) → List ℕ → List ℕ
judged_entries remain [] es = es
judged_entries remain (r ∷ rs) es = judged_entries remain rs (set es (page_of r) (cond (any (on_page (page_of r)) remain) 1 0))

-- the entries once these rows have entered: "and its page becomes evicted"
unfoldable pub evicted_entries : List (List ℕ) → List ℕ → List ℕ
evicted_entries [] es = es
evicted_entries (r ∷ rs) es = evicted_entries rs (set es (page_of r) 1)

-- both are one walk, that sets the entry of each row's page to what v says of the page
abbrev walk : (ℕ → ℕ) → List (List ℕ) → List ℕ → List ℕ
walk v rs es = walked (λ (p : ℕ). p) v rs es

abbrev judge : List (List ℕ) → ℕ → ℕ
judge remain p = cond (any (on_page p) remain) 1 0

abbrev evict : ℕ → ℕ
evict p = 1

judged_walk : (remain rs : List (List ℕ)) (es : List ℕ) → judged_entries remain rs es ≡ walk (judge remain) rs es
unfolding judged_entries walked
judged_walk remain [] es = refl
judged_walk remain (r ∷ rs) es = judged_walk remain rs (set es (page_of r) (judge remain (page_of r)))

evicted_walk : (rs : List (List ℕ)) (es : List ℕ) → evicted_entries rs es ≡ walk evict rs es
unfolding evicted_entries walked
evicted_walk [] es = refl
evicted_walk (r ∷ rs) es = evicted_walk rs (set es (page_of r) 1)

-- an abort judges the pages of its rows anew, and no other entry changes
pub judged_length : (remain rs : List (List ℕ)) (es : List ℕ) → length (judged_entries remain rs es) ≡ length es
judged_length remain rs es = ap (λ (l : List ℕ). length l) (judged_walk remain rs es) ∙ walked_length (λ (p : ℕ). p) (judge remain) rs es

pub judged_entry : (remain rs : List (List ℕ)) (es : List ℕ) (p : ℕ) → p < length es → get_or (judged_entries remain rs es) p 0 ≡ cond (any (on_page p) rs) (cond (any (on_page p) remain) 1 0) (get_or es p 0)
judged_entry remain rs es p h = ap (λ (l : List ℕ). get_or l p 0) (judged_walk remain rs es) ∙ walked_at (λ (p : ℕ). p) (judge remain) (λ p q e. e) rs es p h

-- a restart makes the pages of its rows evicted, and no other entry changes
pub evicted_length : (rs : List (List ℕ)) (es : List ℕ) → length (evicted_entries rs es) ≡ length es
evicted_length rs es = ap (λ (l : List ℕ). length l) (evicted_walk rs es) ∙ walked_length (λ (p : ℕ). p) evict rs es

pub evicted_entry : (rs : List (List ℕ)) (es : List ℕ) (p : ℕ) → p < length es → get_or (evicted_entries rs es) p 0 ≡ cond (any (on_page p) rs) 1 (get_or es p 0)
evicted_entry rs es p h = ap (λ (l : List ℕ). get_or l p 0) (evicted_walk rs es) ∙ walked_at (λ (p : ℕ). p) evict (λ p q e. e) rs es p h

-- how often the order names a frame once a page of this entry has lost its own
freed_times : (g e : ℕ) (o : List ℕ) → times g (freed_of e o) ≡ cond (eqb (e / 2) (g + 1)) 0 (times g o)
freed_times g e o = go (eqb (e / 2) 0) refl
  where
    same : (b c : Bool) → b ≡ c → cond b 0 (times g o) ≡ cond c 0 (times g o)
    same b c q = ap (λ (z : Bool). cond z 0 (times g o)) q

    turn : (b : Bool) → eqb (e / 2) (g + 1) ≡ b → (e / 2 ≡ 0 → ⊥) → eqb g (frame_of e) ≡ b
    turn true q h = eq-eqb g (frame_of e) (omega (arith, eqb-true (e / 2) (g + 1) q))
    turn false q h = ne_eqb g (frame_of e) (λ k. eqb-false (e / 2) (g + 1) q (positive (e / 2) k h))
      where
        positive : (d : ℕ) → g ≡ d - 1 → (d ≡ 0 → ⊥) → d ≡ g + 1
        positive zero k h = absurd (h refl)
        positive (suc d) k h = omega arith

    go : (b : Bool) → eqb (e / 2) 0 ≡ b → times g (cond (not b) (without (frame_of e) o) o) ≡ cond (eqb (e / 2) (g + 1)) 0 (times g o)
    go true q = same false (eqb (e / 2) (g + 1)) (sym (ne_eqb (e / 2) (g + 1) (λ k. omega (arith, k, eqb-true (e / 2) 0 q))))
    go false q = times_without g (frame_of e) o ∙ same (eqb g (frame_of e)) (eqb (e / 2) (g + 1)) (turn (eqb (e / 2) (g + 1)) refl (eqb-false (e / 2) 0 q))

-- the row's page is in frame g, by the entries of the tables
abbrev pub sits : ℕ → List ℕ → ℕ → List ℕ → Bool
sits frames t g r = eqb (get_or t (entry_at frames (page_of r)) 0 / 2) (g + 1)

-- the frames of these rows' pages have left the order, and each other frame is named as often as before
pub freed_order : (frames : ℕ) (t : List ℕ) (rs : List (List ℕ)) (o : List ℕ) (g : ℕ) → times g (frames_freed frames t rs o) ≡ cond (any (sits frames t g) rs) 0 (times g o)
unfolding frames_freed any
freed_order frames t [] o g = refl
freed_order frames t (r ∷ rs) o g =
    freed_order frames t rs (freed_of (get_or t (entry_at frames (page_of r)) 0) o) g
    ∙ ap (λ (n : ℕ). cond (any (sits frames t g) rs) 0 n) (freed_times g (get_or t (entry_at frames (page_of r)) 0) o)
    ∙ go (sits frames t g r)
  where
    go : (b : Bool) → cond (any (sits frames t g) rs) 0 (cond b 0 (times g o)) ≡ cond (b || any (sits frames t g) rs) 0 (times g o)
    go true = cond_same (any (sits frames t g) rs) 0
    go false = refl

pub freed_every : (b : ℕ → Bool) (frames : ℕ) (t : List ℕ) (rs : List (List ℕ)) (o : List ℕ) → every b o ≡ true → every b (frames_freed frames t rs o) ≡ true
unfolding frames_freed
freed_every b frames t [] o h = h
freed_every b frames t (r ∷ rs) o h = freed_every b frames t rs (freed_of (get_or t (entry_at frames (page_of r)) 0) o) (go (in_frame (get_or t (entry_at frames (page_of r)) 0)))
  where
    go : (z : Bool) → every b (cond z (without (frame_of (get_or t (entry_at frames (page_of r)) 0)) o) o) ≡ true
    go true = every_without b (frame_of (get_or t (entry_at frames (page_of r)) 0)) o h
    go false = h

-- a page that is in no frame any more: its frame, if it had one, has lost its only page
leave_serving : (g : ℕ) (es : List ℕ) (p e : ℕ) → p < length es → e ≤ 1 → serving g es ≤ 1 → serving g (set es p e) ≡ cond (eqb (get_or es p 0 / 2) (g + 1)) 0 (serving g es)
leave_serving g es p e h k m = go (eqb (get_or es p 0 / 2) (g + 1)) (serving_set g es p e h ∙ ap (λ (b : Bool). serving g es + cond b 1 0) none)
  where
    none : eqb (e / 2) (g + 1) ≡ false
    none = ne_eqb (e / 2) (g + 1) (λ q. omega arith)

    go : (b : Bool) → serving g (set es p e) + cond b 1 0 ≡ serving g es + 0 → serving g (set es p e) ≡ cond b 0 (serving g es)
    go true q = omega arith
    go false q = omega arith

-- tests that agree on every row of a kind find one or none alike
any_same : (d b c : List ℕ → Bool) → ((r : List ℕ) → d r ≡ true → b r ≡ c r) → (rs : List (List ℕ)) → every d rs ≡ true → any b rs ≡ any c rs
unfolding any every
any_same d b c f [] h = refl
any_same d b c f (r ∷ rs) h =
    let k = and_both (d r) (every d rs) h in
    ap (λ (x : Bool). x || any b rs) (f r k.0) ∙ ap (λ (x : Bool). c r || x) (any_same d b c f rs k.1)

-- the row's page is one of so many; it is in frame g, by the entries
abbrev within : ℕ → List ℕ → Bool
within n r = ltb (page_of r) n

abbrev seat : List ℕ → ℕ → List ℕ → Bool
seat es g r = eqb (get_or es (page_of r) 0 / 2) (g + 1)

-- a frame serves no page after the walk if it served one of the walk's, else as many as before
module _ (v : ℕ → ℕ) (small : (p : ℕ) → v p ≤ 1) (g : ℕ) where
  walked_serving : (rs : List (List ℕ)) (es : List ℕ) → every (within (length es)) rs ≡ true → serving g es ≤ 1 → serving g (walk v rs es) ≡ cond (any (seat es g) rs) 0 (serving g es)
  unfolding walked any every
  walked_serving [] es h m = refl
  walked_serving (r ∷ rs) es h m = go (seat es g r) refl left (walked_serving rs after all_within (few (seat es g r) left))
    where
      p : ℕ
      p = page_of r

      after : List ℕ
      after = set es p (v p)

      inside : p < length es
      inside = ltb-true p (length es) (and_both (within (length es) r) (every (within (length es)) rs) h).0

      all_within : every (within (length after)) rs ≡ true
      all_within = ap (λ (n : ℕ). every (within n) rs) (length-set es p (v p)) ∙ (and_both (within (length es) r) (every (within (length es)) rs) h).1

      left : serving g after ≡ cond (seat es g r) 0 (serving g es)
      left = leave_serving g es p (v p) inside (small p) m

      few : (b : Bool) → serving g after ≡ cond b 0 (serving g es) → serving g after ≤ 1
      few true k = omega arith
      few false k = omega arith

      unseated : seat es g r ≡ false → (q : List ℕ) → within (length after) q ≡ true → seat after g q ≡ seat es g q
      unseated e q w = pick (eqb (page_of q) p) refl
        where
          pick : (b : Bool) → eqb (page_of q) p ≡ b → seat after g q ≡ seat es g q
          pick true z =
              let k : page_of q ≡ p = eqb-true (page_of q) p z in
              let d : get_or after p 0 ≡ v p = get_or-set_same es p (v p) 0 inside in
              ne_eqb (get_or after (page_of q) 0 / 2) (g + 1) (λ y. omega (arith, ap (λ (i : ℕ). get_or after i 0) k, d, small p))
              ∙ sym (ap (λ (i : ℕ). eqb (get_or es i 0 / 2) (g + 1)) k ∙ e)
          pick false z = ap (λ (n : ℕ). eqb (n / 2) (g + 1)) (get_or-set_other es p (page_of q) (v p) 0 (eqb-false (page_of q) p z))

      go : (b : Bool) → seat es g r ≡ b → serving g after ≡ cond b 0 (serving g es) → serving g (walk v rs after) ≡ cond (any (seat after g) rs) 0 (serving g after)
          → serving g (walk v rs after) ≡ cond (b || any (seat es g) rs) 0 (serving g es)
      go true e k rest = rest ∙ ap (λ (n : ℕ). cond (any (seat after g) rs) 0 n) k ∙ cond_same (any (seat after g) rs) 0
      go false e k rest =
          rest
          ∙ ap (λ (n : ℕ). cond (any (seat after g) rs) 0 n) k
          ∙ ap (λ (b : Bool). cond b 0 (serving g es)) (any_same (within (length after)) (seat after g) (seat es g) (unseated e) rs all_within)

walked_every : (b : ℕ → Bool) (v : ℕ → ℕ) → ((p : ℕ) → b (v p) ≡ true) → (rs : List (List ℕ)) (es : List ℕ) → every b es ≡ true → every b (walk v rs es) ≡ true
unfolding walked
walked_every b v f [] es h = h
walked_every b v f (r ∷ rs) es h = walked_every b v f rs (set es (page_of r) (v (page_of r))) (every_set b es (page_of r) (v (page_of r)) h (f (page_of r)))

-- entries and order agree after the walk, where the order has lost just the frames of the walk's pages
walked_seated : (v : ℕ → ℕ) → ((p : ℕ) → v p ≤ 1) → (frames : ℕ) (rs : List (List ℕ)) (es o o' : List ℕ) → Seated frames es o → every (within (length es)) rs ≡ true
    → every (λ (f : ℕ). ltb f frames) o' ≡ true → ((g : ℕ) → times g o' ≡ cond (any (seat es g) rs) 0 (times g o)) → Seated frames (walk v rs es) o'
walked_seated v small frames rs es o o' s h w e =
    record {
      entries_within = walked_every (λ (d : ℕ). leb (d / 2) frames) v (λ p. le-leb (v p / 2) frames (omega (arith, small p))) rs es s.entries_within;
      order_within = w;
      once = λ f k. few f k (any (seat es f) rs) (serves f k);
      named = λ f k. e f ∙ ap (λ (n : ℕ). cond (any (seat es f) rs) 0 n) (s.named f k) ∙ sym (serves f k);
    }
  where
    serves : (f : ℕ) → f < frames → serving f (walk v rs es) ≡ cond (any (seat es f) rs) 0 (serving f es)
    serves f k = walked_serving v small f rs es h (s.once f k)

    few : (f : ℕ) → f < frames → (b : Bool) → serving f (walk v rs es) ≡ cond b 0 (serving f es) → serving f (walk v rs es) ≤ 1
    few f k true q = omega arith
    few f k false q = omega (arith, q, s.once f k)

-- after an abort entries and order agree: each page of the owner's has lost its frame
pub seated_abort : (frames : ℕ) (remain rs : List (List ℕ)) (es t o : List ℕ) → Seated frames es o → every (λ (r : List ℕ). ltb (page_of r) (length es)) rs ≡ true
    → ((p : ℕ) → p < length es → get_or t (entry_at frames p) 0 ≡ get_or es p 0) → Seated frames (judged_entries remain rs es) (frames_freed frames t rs o)
seated_abort frames remain rs es t o s h e =
    rw (judged_walk remain rs es)
    (walked_seated (judge remain) bit frames rs es o (frames_freed frames t rs o) s h
    (freed_every (λ (f : ℕ). ltb f frames) frames t rs o s.order_within)
    (λ g. freed_order frames t rs o g ∙ ap (λ (b : Bool). cond b 0 (times g o)) (alike g)))
  where
    bit : (p : ℕ) → judge remain p ≤ 1
    bit p = go (any (on_page p) remain)
      where
        go : (b : Bool) → cond b 1 0 ≤ 1
        go true = omega arith
        go false = omega arith

    alike : (g : ℕ) → any (sits frames t g) rs ≡ any (seat es g) rs
    alike g = any_same (within (length es)) (sits frames t g) (seat es g) (λ r w. ap (λ (n : ℕ). eqb (n / 2) (g + 1)) (e (page_of r) (ltb-true (page_of r) (length es) w))) rs h

-- after a restart no frame is in use
pub seated_restart : (frames pages : ℕ) (rs : List (List ℕ)) → Seated frames (evicted_entries rs (replicate pages 0)) []
seated_restart frames pages rs =
    rw (evicted_walk rs (replicate pages 0))
    (seated_evicted frames (walk evict rs (replicate pages 0)) (walked_every (λ (e : ℕ). eqb (e / 2) 0) evict (λ p. refl) rs (replicate pages 0) (absent_out pages)))

-- each page is evicted if a row is on it, else absent
pub restart_entry : (pages : ℕ) (rs : List (List ℕ)) (p : ℕ) → p < pages → get_or (evicted_entries rs (replicate pages 0)) p 0 ≡ cond (any (on_page p) rs) 1 0
restart_entry pages rs p h =
    evicted_entry rs (replicate pages 0) p (omega (arith, length-replicate {A = ℕ} pages 0))
    ∙ ap (λ (n : ℕ). cond (any (on_page p) rs) 1 n) (get_or-replicate pages p 0 0 h)

bit_unframed : (b : Bool) → in_frame (cond b 1 0) ≡ false
bit_unframed true = refl
bit_unframed false = refl

bit_dirty : (b : Bool) → is_dirty (cond b 1 0) ≡ b
bit_dirty true = refl
bit_dirty false = refl

pub restart_unframed : (pages : ℕ) (rs : List (List ℕ)) (p : ℕ) → p < pages → in_frame (get_or (evicted_entries rs (replicate pages 0)) p 0) ≡ false
restart_unframed pages rs p h = ap (λ (e : ℕ). in_frame e) (restart_entry pages rs p h) ∙ bit_unframed (any (on_page p) rs)

pub restart_dirty : (pages : ℕ) (rs : List (List ℕ)) (p : ℕ) → p < pages → is_dirty (get_or (evicted_entries rs (replicate pages 0)) p 0) ≡ any (on_page p) rs
restart_dirty pages rs p h = ap (λ (e : ℕ). is_dirty e) (restart_entry pages rs p h) ∙ bit_dirty (any (on_page p) rs)

-- a page that is in a frame after an abort had no row of the owner's, and its entry is as before
pub abort_stays : (remain rs : List (List ℕ)) (es : List ℕ) (p : ℕ) → p < length es → in_frame (get_or (judged_entries remain rs es) p 0) ≡ true
    → (any (on_page p) rs ≡ false) × (get_or (judged_entries remain rs es) p 0 ≡ get_or es p 0)
abort_stays remain rs es p h k = go (any (on_page p) rs) refl (judged_entry remain rs es p h)
  where
    go : (b : Bool) → any (on_page p) rs ≡ b → get_or (judged_entries remain rs es) p 0 ≡ cond b (judge remain p) (get_or es p 0)
        → (any (on_page p) rs ≡ false) × (get_or (judged_entries remain rs es) p 0 ≡ get_or es p 0)
    go true e q = absurd (false≢true (sym (bit_unframed (any (on_page p) remain)) ∙ sym (ap (λ (d : ℕ). in_frame d) q) ∙ k))
    go false e q = (e, q)

neither : (s t : Bool) → (s || t) ≡ false → (s ≡ false) × (t ≡ false)
neither true t h = absurd (false≢true (sym h))
neither false t h = (refl, h)

-- where none of those apart passes the test, those that pass it are among the rest
rest_kept : (b c : List ℕ → Bool) (l : List (List ℕ)) → any b (keep c l) ≡ false → keep b (keep (λ (r : List ℕ). not (c r)) l) ≡ keep b l
unfolding any keep
rest_kept b c [] h = refl
rest_kept b c (r ∷ l) h = go (c r) h (λ k. rest_kept b c l k)
  where
    rest : List (List ℕ)
    rest = keep (λ (r : List ℕ). not (c r)) l

    go : (s : Bool) → any b (cons_if s r (keep c l)) ≡ false → (any b (keep c l) ≡ false → keep b rest ≡ keep b l) → keep b (cons_if (not s) r rest) ≡ cons_if (b r) r (keep b l)
    go true k f =
        let n = neither (b r) (any b (keep c l)) k in
        f n.1 ∙ ap (λ (z : Bool). cons_if z r (keep b l)) (sym n.0)
    go false k f = ap (λ (m : List (List ℕ)). cons_if (b r) r m) (f k)

-- one passes, or none is kept
pub any_kept : (b : List ℕ → Bool) (l : List (List ℕ)) → any b l ≡ not (eqb (length (keep b l)) 0)
unfolding any keep
any_kept b [] = refl
any_kept b (r ∷ l) = pick (b r) (any_kept b l)
  where
    pick : (t : Bool) → any b l ≡ not (eqb (length (keep b l)) 0) → (t || any b l) ≡ not (eqb (length (cons_if t r (keep b l))) 0)
    pick true e = ap not (sym (ne_eqb (suc (length (keep b l))) 0 (λ z. omega arith)))
    pick false e = e

-- so rows of which the same are kept have one alike
pub any_by : (b : List ℕ → Bool) (l m : List (List ℕ)) → keep b l ≡ keep b m → any b l ≡ any b m
any_by b l m e = any_kept b l ∙ ap (λ (k : List (List ℕ)). not (eqb (length k) 0)) e ∙ sym (any_kept b m)

-- a page that had no row of the owner's has the rows that it had
pub abort_rows : (x p : ℕ) (l : List (List ℕ)) → any (on_page p) (keep (owned_by x) l) ≡ false → keep (on_page p) (keep (λ (r : List ℕ). not (owned_by x r)) l) ≡ keep (on_page p) l
abort_rows x p l h = rest_kept (on_page p) (owned_by x) l h

-- after an abort an entry is dirty exactly if a record remains for the page
pub abort_dirty : (x p : ℕ) (l : List (List ℕ)) (es : List ℕ) → p < length es → is_dirty (get_or es p 0) ≡ any (on_page p) l
    → is_dirty (get_or (judged_entries (keep (λ (r : List ℕ). not (owned_by x r)) l) (keep (owned_by x) l) es) p 0) ≡ any (on_page p) (keep (λ (r : List ℕ). not (owned_by x r)) l)
abort_dirty x p l es h d = ap (λ (e : ℕ). is_dirty e) (judged_entry remain (keep (owned_by x) l) es p h) ∙ go (any (on_page p) (keep (owned_by x) l)) refl
  where
    remain : List (List ℕ)
    remain = keep (λ (r : List ℕ). not (owned_by x r)) l

    go : (b : Bool) → any (on_page p) (keep (owned_by x) l) ≡ b → is_dirty (cond b (judge remain p) (get_or es p 0)) ≡ any (on_page p) remain
    go true e = bit_dirty (any (on_page p) remain)
    go false e = d ∙ any_by (on_page p) l remain (sym (abort_rows x p l e))
