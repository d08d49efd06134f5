-- What a step leaves of the lost part carries over. Shown once for each thing that a step changes: one live byte, the rows where no page sees it, one page's entry.
use Prim.Native.Nat.{ℕ, ◌-◌, ◌≤◌, ◌<◌}
use native.Mathlib.Omega.{arith}
use mathlib.Core.Path.{◌≡◌, refl, sym, ap, ◌∙◌}
use mathlib.Core.Bool.{Bool, true, false, cond, not, ◌&&◌, ◌||◌}
use mathlib.Core.List.{List, ◌++◌}
use lib.ListN.{length, get_or, set, length-set}
use lib.Seq.{get_or-set_same, get_or-set_other}
use lib.Dec.{eqb, leb}
use borrow.Author.Tests.{eqb-true, eqb-false}
use Rattle.record.specs.Rows.{keep, any}
use Rattle.record.specs.Record.{applied, on_page}
use Rattle.rules.specs.Lent.{in_frame, frame_of, is_dirty, page_in}
use Rattle.rules.proofs.Every.{every_set}
use Rattle.redo.proofs.Loose.{◌≅◌}
use Rattle.seats.proofs.Seated.{Seated}
use Rattle.seats.proofs.Loops.{any_by}
use Rattle.history.proofs.Right.{Ground, LostRight, rows_of, above_stamp}

-- begin makes a number live, commit and abort end that: one live byte is set
module _ {g : Ground} {done opened : List (List ℕ)} {live : ℕ → Bool} {frames : ℕ} {marks stored pool order lives entries : List ℕ} {online : List (List ℕ)} (l : LostRight g done opened live frames marks stored pool order lives entries online) (x : ℕ) (low : 1 ≤ x) (high : x ≤ 32) where
  -- the live byte of x is the one set, the others are as they were
  alive_set : (b y : ℕ) → 1 ≤ y → y ≤ 32 → eqb (get_or (set lives (x - 1) b) (y - 1) 0) 1 ≡ cond (eqb y x) (eqb b 1) (live y)
  alive_set b y p q = go (eqb y x) refl
    where
      go : (t : Bool) → eqb y x ≡ t → eqb (get_or (set lives (x - 1) b) (y - 1) 0) 1 ≡ cond t (eqb b 1) (live y)
      go true e =
          let i : y - 1 ≡ x - 1 = ap (λ (n : ℕ). n - 1) (eqb-true y x e) in
          let k : x - 1 < length lives = omega (arith, l.lives_length) in
          ap (λ (n : ℕ). eqb (get_or (set lives (x - 1) b) n 0) 1) i ∙ ap (λ (n : ℕ). eqb n 1) (get_or-set_same lives (x - 1) b 0 k)
      go false e =
          let d : y - 1 ≡ x - 1 → ⊥ = λ i. eqb-false y x e (omega arith) in
          ap (λ (n : ℕ). eqb n 1) (get_or-set_other lives (x - 1) (y - 1) b 0 d) ∙ l.alive y p q

  lives_set : (b : ℕ) (on : ℕ → Bool) → leb b 1 ≡ true → ((y : ℕ) → cond (eqb y x) (eqb b 1) (live y) ≡ on y) → LostRight g done opened on frames marks stored pool order (set lives (x - 1) b) entries online
  lives_set b on bit same =
      record {
        seated = l.seated;
        entries_length = l.entries_length;
        lives_length = length-set lives (x - 1) b ∙ l.lives_length;
        lives_bits = every_set (λ (n : ℕ). leb n 1) lives (x - 1) b l.lives_bits bit;
        alive = λ y p q. alive_set b y p q ∙ same y;
        dirty = l.dirty;
        online_is = l.online_is;
        frame = l.frame;
      }

  pub lost_begun : LostRight g done opened (λ (y : ℕ). eqb y x || live y) frames marks stored pool order (set lives (x - 1) 1) entries online
  lost_begun = lives_set 1 (λ (y : ℕ). eqb y x || live y) refl (λ y. go (eqb y x) (live y))
    where
      go : (t u : Bool) → cond t true u ≡ (t || u)
      go true u = refl
      go false u = refl

  pub lost_ended : LostRight g done opened (λ (y : ℕ). not (eqb y x) && live y) frames marks stored pool order (set lives (x - 1) 0) entries online
  lost_ended = lives_set 0 (λ (y : ℕ). not (eqb y x) && live y) refl (λ y. go (eqb y x) (live y))
    where
      go : (t u : Bool) → cond t false u ≡ (not t && u)
      go true u = refl
      go false u = refl

module _ {g : Ground} {done opened : List (List ℕ)} {live : ℕ → Bool} {frames : ℕ} {marks stored pool order lives entries : List ℕ} {online : List (List ℕ)} (l : LostRight g done opened live frames marks stored pool order lives entries online) where
  -- commit and close: other stamps, more that is committed, other numbers in the rows; a page has the rows that it had, and shows what it showed
  pub lost_restated : {done' opened' : List (List ℕ)} {marks' : List ℕ} {online' : List (List ℕ)} → online' ≅ keep (above_stamp marks') (rows_of g done') ++ opened'
      → ((p : ℕ) → any (on_page p) online ≡ any (on_page p) online') → ((p : ℕ) (page : List ℕ) → applied (keep (on_page p) online) page ≡ applied (keep (on_page p) online') page)
      → LostRight g done' opened' live frames marks' stored pool order lives entries online'
  lost_restated is some shows =
      record {
        seated = l.seated;
        entries_length = l.entries_length;
        lives_length = l.lives_length;
        lives_bits = l.lives_bits;
        alive = l.alive;
        dirty = λ p m. l.dirty p m ∙ some p;
        online_is = is;
        frame = λ p m i. l.frame p m i ∙ shows p (page_in g.size p stored);
      }

  -- update, evict and compact: the entry of page p becomes e, and the other pages have the rows, the stored pages and the frames that they had
  module _ (p e : ℕ) (k : p < g.pages) where
    entry_here : (q : ℕ) → q ≡ p → get_or (set entries p e) q 0 ≡ e
    entry_here q z = ap (λ (i : ℕ). get_or (set entries p e) i 0) z ∙ get_or-set_same entries p e 0 (omega (arith, l.entries_length))

    entry_else : (q : ℕ) → (q ≡ p → ⊥) → get_or (set entries p e) q 0 ≡ get_or entries q 0
    entry_else q n = get_or-set_other entries p q e 0 n

    pub lost_entry : {opened' : List (List ℕ)} {marks' stored' pool' order' : List ℕ} {online' : List (List ℕ)} → Seated frames (set entries p e) order' → online' ≅ keep (above_stamp marks') (rows_of g done) ++ opened'
        → is_dirty e ≡ any (on_page p) online' → (in_frame e ≡ true → page_in g.size (frame_of e) pool' ≡ applied (keep (on_page p) online') (page_in g.size p stored'))
        → ((q : ℕ) → (q ≡ p → ⊥) → keep (on_page q) online' ≡ keep (on_page q) online)
        → ((q : ℕ) → q < g.pages → (q ≡ p → ⊥) → page_in g.size q stored' ≡ page_in g.size q stored)
        → ((q : ℕ) → q < g.pages → (q ≡ p → ⊥) → in_frame (get_or entries q 0) ≡ true → page_in g.size (frame_of (get_or entries q 0)) pool' ≡ page_in g.size (frame_of (get_or entries q 0)) pool)
        → LostRight g done opened' live frames marks' stored' pool' order' lives (set entries p e) online'
    lost_entry {stored' = stored'} {pool' = pool'} {online' = online'} seat is dirt shows rows page held =
        record {
          seated = seat;
          entries_length = length-set entries p e ∙ l.entries_length;
          lives_length = l.lives_length;
          lives_bits = l.lives_bits;
          alive = l.alive;
          dirty = λ q h. dirty_there q h (eqb q p) refl;
          online_is = is;
          frame = λ q h. frame_at q h (eqb q p) refl;
        }
      where
        dirty_there : (q : ℕ) → q < g.pages → (t : Bool) → eqb q p ≡ t → is_dirty (get_or (set entries p e) q 0) ≡ any (on_page q) online'
        dirty_there q h true z =
            let i : q ≡ p = eqb-true q p z in
            ap (λ (x : ℕ). is_dirty x) (entry_here q i) ∙ dirt ∙ ap (λ (x : ℕ). any (on_page x) online') (sym i)
        dirty_there q h false z =
            let n : q ≡ p → ⊥ = eqb-false q p z in
            ap (λ (x : ℕ). is_dirty x) (entry_else q n) ∙ l.dirty q h
            ∙ any_by (on_page q) online online' (sym (rows q n))

        frame_at : (q : ℕ) → q < g.pages → (t : Bool) → eqb q p ≡ t → in_frame (get_or (set entries p e) q 0) ≡ true
            → page_in g.size (frame_of (get_or (set entries p e) q 0)) pool' ≡ applied (keep (on_page q) online') (page_in g.size q stored')
        frame_at q h true z f =
            let i : q ≡ p = eqb-true q p z in
            ap (λ (x : ℕ). page_in g.size (frame_of x) pool') (entry_here q i)
            ∙ shows (ap (λ (x : ℕ). in_frame x) (sym (entry_here q i)) ∙ f)
            ∙ ap (λ (x : ℕ). applied (keep (on_page x) online') (page_in g.size x stored')) (sym i)
        frame_at q h false z f =
            let n : q ≡ p → ⊥ = eqb-false q p z in
            let i : in_frame (get_or entries q 0) ≡ true = ap (λ (x : ℕ). in_frame x) (sym (entry_else q n)) ∙ f in
            ap (λ (x : ℕ). page_in g.size (frame_of x) pool') (entry_else q n) ∙ held q h n i ∙ l.frame q h i
            ∙ ap (λ (rs : List (List ℕ)). applied rs (page_in g.size q stored)) (sym (rows q n))
            ∙ ap (λ (x : List ℕ). applied (keep (on_page q) online') x) (sym (page q h n))
