-- Every step keeps entries and use order in agreement, and what the entries are after a page was placed.
-- The invariant's `seated` needs it: fetch, update, evict, abort, compact and restart each change the entries or the order by one of these.
use Prim.Native.Nat.{ℕ, zero, suc, ◌+◌, ◌/◌, ◌%◌, ◌≤◌, ◌<◌}
use native.Mathlib.Omega.{arith}
use mathlib.Core.Path.{◌≡◌, refl, sym, ap, ◌∙◌}
use mathlib.Core.Bool.{Bool, true, false, cond, ◌&&◌}
use mathlib.Core.List.{List, [], ◌∷◌, ◌++◌, map}
use lib.ListN.{length, get_or, set, replicate, length-set, length-map, get_or-map}
use lib.Seq.{get_or-set_same, get_or-set_other}
use lib.Dec.{eqb, leb, ltb}
use borrow.Author.Tests.{leb-true, lt-ltb, le-leb, eqb-true, eqb-false, eq-eqb, ne_eqb, not-true, not-false}
use Rattle.word.proofs.Tests.{and_both}
use Rattle.order.specs.Order.{without, touched, frame_for}
use Rattle.rules.specs.Lent.{in_frame, frame_of, is_dirty, clean_in, dirty_in}
use Rattle.rules.specs.Sound.{every, up_to, serving, times}
use Rattle.rules.specs.Steps.{freed_of, freed, placed}
use Rattle.rules.proofs.Every.{every_at, every_set, every_without}
use Rattle.rules.proofs.Kept.{frame_below}
use Rattle.seats.proofs.Seated.{Seated}
use Rattle.rules.proofs.Walks.{up_to_all}
use Rattle.seats.proofs.Counting.{times_without, times_touched, serving_none, serving_cons, serving_set, serving_at, serving_freed, times_none, pigeonhole}

-- an entry in a frame is made of the frame; one in none is absent or evicted
pub in_frame_placed : (e : ℕ) → in_frame e ≡ true → e / 2 ≡ frame_of e + 1
in_frame_placed e h = let k = eqb-false (e / 2) 0 (not-true (eqb (e / 2) 0) h) in omega arith

pub no_frame : (e : ℕ) → in_frame e ≡ false → e / 2 ≡ 0
no_frame e h = eqb-true (e / 2) 0 (not-false (eqb (e / 2) 0) h)

-- an entry of frame f
pub half_in : (e f : ℕ) → e / 2 ≡ f + 1 → in_frame e ≡ true
half_in e f h = rw (ne_eqb (e / 2) 0 (λ q. omega arith))

pub half_frame : (e f : ℕ) → e / 2 ≡ f + 1 → frame_of e ≡ f
half_frame e f h = omega arith

pub half_none : (e : ℕ) → e ≤ 1 → in_frame e ≡ false
half_none e h = let k : e / 2 ≡ 0 = omega arith in rw (eq-eqb (e / 2) 0 k)

-- clean in frame f
pub clean_frame : (f : ℕ) → frame_of (clean_in f) ≡ f
clean_frame f = omega arith

pub clean_not_dirty : (f : ℕ) → is_dirty (clean_in f) ≡ false
clean_not_dirty f = ne_eqb (clean_in f % 2) 1 (λ e. omega arith)

-- dirty in frame f
pub dirty_frame : (f : ℕ) → frame_of (dirty_in f) ≡ f
dirty_frame f = omega arith

pub dirty_dirty : (f : ℕ) → is_dirty (dirty_in f) ≡ true
dirty_dirty f = eq-eqb (dirty_in f % 2) 1 (omega arith)

-- an entry that lost its frame: "clean becomes absent, dirty becomes evicted"
pub left_none : (e : ℕ) → in_frame (e % 2) ≡ false
left_none e = half_none (e % 2) (omega arith)

-- the entries after a page was placed in frame f
pub placed_length : (f p : ℕ) (es : List ℕ) → length (placed f p es) ≡ length es
unfolding placed
placed_length f p es = length-set (map (freed f) es) p (clean_in f + get_or es p 0 % 2) ∙ length-map es (freed f)

-- its own
pub placed_at : (f p : ℕ) (es : List ℕ) → p < length es → get_or (placed f p es) p 0 ≡ clean_in f + get_or es p 0 % 2
unfolding placed
placed_at f p es h =
    let k : length (map (freed f) es) ≡ length es = length-map es (freed f) in
    get_or-set_same (map (freed f) es) p (clean_in f + get_or es p 0 % 2) 0 (omega arith)

freed_zero : (f : ℕ) → freed f 0 ≡ 0
freed_zero f = go (eqb 0 (f + 1))
  where
    go : (b : Bool) → ◌≡◌ {A = ℕ} (cond b 0 0) 0
    go true = refl
    go false = refl

map_freed : (f q : ℕ) (es : List ℕ) → get_or (map (freed f) es) q 0 ≡ freed f (get_or es q 0)
map_freed f q es = ap (λ (d : ℕ). get_or (map (freed f) es) q d) (sym (freed_zero f)) ∙ get_or-map (freed f) es q 0

-- another page's: freed if it was in that frame
pub placed_else : (f p q : ℕ) (es : List ℕ) → (q ≡ p → ⊥) → get_or (placed f p es) q 0 ≡ freed f (get_or es q 0)
unfolding placed
placed_else f p q es n = get_or-set_other (map (freed f) es) p q (clean_in f + get_or es p 0 % 2) 0 n ∙ map_freed f q es

-- the page is in that frame
placed_half : (f p : ℕ) (es : List ℕ) → p < length es → get_or (placed f p es) p 0 / 2 ≡ f + 1
placed_half f p es h = let k = placed_at f p es h in omega arith

pub placed_in : (f p : ℕ) (es : List ℕ) → p < length es → in_frame (get_or (placed f p es) p 0) ≡ true
placed_in f p es h = half_in (get_or (placed f p es) p 0) f (placed_half f p es h)

pub placed_frame : (f p : ℕ) (es : List ℕ) → p < length es → frame_of (get_or (placed f p es) p 0) ≡ f
placed_frame f p es h = half_frame (get_or (placed f p es) p 0) f (placed_half f p es h)

-- each page is as dirty as before
freed_parity : (f e : ℕ) → freed f e % 2 ≡ e % 2
freed_parity f e = go (eqb (e / 2) (f + 1))
  where
    go : (b : Bool) → cond b (e % 2) e % 2 ≡ e % 2
    go true = omega arith
    go false = refl

pub placed_dirty : (f p q : ℕ) (es : List ℕ) → p < length es → is_dirty (get_or (placed f p es) q 0) ≡ is_dirty (get_or es q 0)
placed_dirty f p q es h = ap (λ (x : ℕ). eqb x 1) (go (eqb q p) refl)
  where
    go : (b : Bool) → eqb q p ≡ b → get_or (placed f p es) q 0 % 2 ≡ get_or es q 0 % 2
    go true e = rw (eqb-true q p e) (rw (placed_at f p es h) (omega arith))
    go false e = rw (placed_else f p q es (eqb-false q p e)) (freed_parity f (get_or es q 0))

-- another page that is in a frame then was there before, and in another frame
freed_stays : (f e : ℕ) → in_frame (freed f e) ≡ true → (freed f e ≡ e) × (e / 2 ≡ f + 1 → ⊥)
freed_stays f e = go (eqb (e / 2) (f + 1)) refl
  where
    go : (b : Bool) → eqb (e / 2) (f + 1) ≡ b → in_frame (cond b (e % 2) e) ≡ true → (cond b (e % 2) e ≡ e) × (e / 2 ≡ f + 1 → ⊥)
    go true p h = absurd (omega (arith, in_frame_placed (e % 2) h))
    go false p h = (refl, eqb-false (e / 2) (f + 1) p)

pub placed_stays : (f p q : ℕ) (es : List ℕ) → (q ≡ p → ⊥) → in_frame (get_or (placed f p es) q 0) ≡ true → (get_or (placed f p es) q 0 ≡ get_or es q 0) × (in_frame (get_or es q 0) ≡ true) × (frame_of (get_or es q 0) ≡ f → ⊥)
placed_stays f p q es n h =
    let e = placed_else f p q es n in
    let k = freed_stays f (get_or es q 0) (rw e at h) in
    let s : get_or (placed f p es) q 0 ≡ get_or es q 0 = e ∙ k.0 in
    let i : in_frame (get_or es q 0) ≡ true = rw s at h in
    (s, i, λ z. k.1 (omega (arith, in_frame_placed (get_or es q 0) i)))

freed_none : (f e : ℕ) → e / 2 ≡ 0 → freed f e / 2 ≡ 0
freed_none f e h = go (eqb (e / 2) (f + 1))
  where
    go : (b : Bool) → cond b (e % 2) e / 2 ≡ 0
    go true = omega arith
    go false = h

-- a test that every element passes, one more element
every_last : (b : ℕ → Bool) (o : List ℕ) (f : ℕ) → every b o ≡ true → b f ≡ true → every b (o ++ (f ∷ [])) ≡ true
unfolding every
every_last b [] f h k = rw k
every_last b (x ∷ o) f h k = let e = and_both (b x) (every b o) h in rw e.0 (every_last b o f e.1 k)

every_touched : (b : ℕ → Bool) (f : ℕ) (o : List ℕ) → every b o ≡ true → b f ≡ true → every b (touched f o) ≡ true
unfolding touched
every_touched b f o h k = every_last b (without f o) f (every_without b f o h) k

-- the frame serves that page then, the others as before
serving_placed : (g f p : ℕ) (es : List ℕ) → p < length es → in_frame (get_or es p 0) ≡ false → serving g (placed f p es) ≡ cond (eqb g f) 1 (serving g es)
unfolding placed
serving_placed g f p es h i =
    let e : ℕ = clean_in f + get_or es p 0 % 2 in
    let l : p < length (map (freed f) es) = omega (arith, length-map es (freed f)) in
    let d : get_or (map (freed f) es) p 0 / 2 ≡ 0 = rw (map_freed f p es) (freed_none f (get_or es p 0) (no_frame (get_or es p 0) i)) in
    go e (eqb g f) refl (omega arith) (rw (d, ne_eqb 0 (g + 1) (λ q. omega arith), serving_freed g f es) at (serving_set g (map (freed f) es) p e l))
  where
    go : (e : ℕ) (b : Bool) → eqb g f ≡ b → e / 2 ≡ f + 1 → serving g (set (map (freed f) es) p e) + 0 ≡ cond (eqb g f) 0 (serving g es) + cond (eqb (e / 2) (g + 1)) 1 0 → serving g (set (map (freed f) es) p e) ≡ cond b 1 (serving g es)
    go e true q c k =
        let a : e / 2 ≡ g + 1 = omega (arith, eqb-true g f q) in
        omega (arith, rw (q, eq-eqb (e / 2) (g + 1) a) at k)
    go e false q c k =
        let a : e / 2 ≡ g + 1 → ⊥ = λ z. eqb-false g f q (omega arith) in
        omega (arith, rw (q, ne_eqb (e / 2) (g + 1) a) at k)

-- entries stay within the frames
every_freed : (frames f : ℕ) (es : List ℕ) → every (λ (e : ℕ). leb (e / 2) frames) es ≡ true → every (λ (e : ℕ). leb (e / 2) frames) (map (freed f) es) ≡ true
unfolding every
every_freed frames f [] h = refl
every_freed frames f (x ∷ es) h =
    let k = and_both (leb (x / 2) frames) (every (λ (e : ℕ). leb (e / 2) frames) es) h in
    rw (go (eqb (x / 2) (f + 1)) k.0) (every_freed frames f es k.1)
  where
    go : (b : Bool) → leb (x / 2) frames ≡ true → leb (cond b (x % 2) x / 2) frames ≡ true
    go true q = le-leb (x % 2 / 2) frames (omega arith)
    go false q = q

placed_within : (frames f p : ℕ) (es : List ℕ) → f < frames → every (λ (e : ℕ). leb (e / 2) frames) es ≡ true → every (λ (e : ℕ). leb (e / 2) frames) (placed f p es) ≡ true
unfolding placed
placed_within frames f p es h k =
    let e : ℕ = clean_in f + get_or es p 0 % 2 in
    every_set (λ (x : ℕ). leb (x / 2) frames) (map (freed f) es) p e (every_freed frames f es k) (le-leb (e / 2) frames (omega arith))

-- no entry is in a frame
serving_out : (g : ℕ) (es : List ℕ) → every (λ (e : ℕ). eqb (e / 2) 0) es ≡ true → serving g es ≡ 0
unfolding every
serving_out g [] h = serving_none g
serving_out g (x ∷ es) h =
    let k = and_both (eqb (x / 2) 0) (every (λ (e : ℕ). eqb (e / 2) 0) es) h in
    let n : eqb (x / 2) (g + 1) ≡ false = ne_eqb (x / 2) (g + 1) (λ q. omega (arith, eqb-true (x / 2) 0 k.0)) in
    omega (arith, rw n at (serving_cons g x es), serving_out g es k.1)

out_within : (frames : ℕ) (es : List ℕ) → every (λ (e : ℕ). eqb (e / 2) 0) es ≡ true → every (λ (e : ℕ). leb (e / 2) frames) es ≡ true
unfolding every
out_within frames [] h = refl
out_within frames (x ∷ es) h =
    let k = and_both (eqb (x / 2) 0) (every (λ (e : ℕ). eqb (e / 2) 0) es) h in
    rw (le-leb (x / 2) frames (omega (arith, eqb-true (x / 2) 0 k.0))) (out_within frames es k.1)

none_within : (b : ℕ → Bool) → every b [] ≡ true
unfolding every
none_within b = refl

-- restart: no page is in a frame, and the order is empty
pub seated_evicted : (frames : ℕ) (es : List ℕ) → every (λ (e : ℕ). eqb (e / 2) 0) es ≡ true → Seated frames es []
seated_evicted frames es h =
    record {
      entries_within = out_within frames es h;
      order_within = none_within (λ (f : ℕ). ltb f frames);
      once = λ f k. omega (arith, serving_out f es h);
      named = λ f k. times_none f ∙ sym (serving_out f es h);
    }

-- format: every page is absent
pub absent_out : (pages : ℕ) → every (λ (e : ℕ). eqb (e / 2) 0) (replicate pages 0) ≡ true
unfolding every
absent_out zero = refl
absent_out (suc n) = absent_out n

pub seated_none : (frames pages : ℕ) → Seated frames (replicate pages 0) []
seated_none frames pages = seated_evicted frames (replicate pages 0) (absent_out pages)

module _ {frames : ℕ} {es o : List ℕ} (w : Seated frames es o) where
  -- a page's frame is one of the frames
  half_below : (p : ℕ) → p < length es → get_or es p 0 / 2 ≤ frames
  half_below p h = leb-true (get_or es p 0 / 2) frames (every_at (λ (e : ℕ). leb (e / 2) frames) es p w.entries_within h)

  pub seated_below : (p : ℕ) → p < length es → in_frame (get_or es p 0) ≡ true → frame_of (get_or es p 0) < frames
  seated_below p h i = omega (arith, half_below p h, in_frame_placed (get_or es p 0) i)

  -- two pages never share a frame
  pub seated_apart : (p q : ℕ) → p < length es → q < length es → (p ≡ q → ⊥) → in_frame (get_or es p 0) ≡ true → in_frame (get_or es q 0) ≡ true → frame_of (get_or es p 0) ≡ frame_of (get_or es q 0) → ⊥
  seated_apart p q h k n i j e =
      let f = frame_of (get_or es p 0) in
      let a = in_frame_placed (get_or es p 0) i in
      let b = in_frame_placed (get_or es q 0) j in
      let c : get_or (set es p 0) q 0 ≡ get_or es q 0 = get_or-set_other es p q 0 0 (λ z. n (sym z)) in
      let l : q < length (set es p 0) = omega (arith, length-set es p 0) in
      omega (arith, serving_at f es p h a, serving_at f (set es p 0) q l (omega arith), w.once f (seated_below p h i))

  -- the order names a frame once at most, so it is no longer than there are frames
  pub seated_length : length o ≤ frames
  seated_length = pigeonhole frames o w.order_within (λ f h. omega (arith, w.once f h, w.named f h))

  -- the frame that fetch takes for a page
  pub seated_frame : 1 ≤ frames → frame_for frames o < frames
  seated_frame h = frame_below frames o h w.order_within

  -- a page in a frame is used there: the frame becomes the latest used
  pub seated_touch : (p : ℕ) → p < length es → in_frame (get_or es p 0) ≡ true → Seated frames es (touched (frame_of (get_or es p 0)) o)
  seated_touch p h i =
      record {
        entries_within = w.entries_within;
        order_within = every_touched (λ (g : ℕ). ltb g frames) f o w.order_within (lt-ltb f frames below);
        once = w.once;
        named = λ g k. times_touched g f o ∙ go g (eqb g f) refl (w.named g k);
      }
    where
      f : ℕ
      f = frame_of (get_or es p 0)

      below : f < frames
      below = seated_below p h i

      used : serving f es ≡ 1
      used = omega (arith, serving_at f es p h (in_frame_placed (get_or es p 0) i), w.once f below)

      go : (g : ℕ) (b : Bool) → eqb g f ≡ b → times g o ≡ serving g es → cond b 1 (times g o) ≡ serving g es
      go g true e k = rw (eqb-true g f e) (sym used)
      go g false e k = k

  -- a page that was in no frame is placed in frame f, which is freed before
  pub seated_place : (f p : ℕ) → f < frames → p < length es → in_frame (get_or es p 0) ≡ false → Seated frames (placed f p es) (touched f o)
  seated_place f p h k i =
      record {
        entries_within = within;
        order_within = every_touched (λ (g : ℕ). ltb g frames) f o w.order_within (lt-ltb f frames h);
        once = λ g q. rw (serving_placed g f p es k i) (go (eqb g f) (serving g es) (w.once g q));
        named = λ g q. times_touched g f o ∙ ap (λ (n : ℕ). cond (eqb g f) 1 n) (w.named g q) ∙ sym (serving_placed g f p es k i);
      }
    where
      within : every (λ (e : ℕ). leb (e / 2) frames) (placed f p es) ≡ true
      within = placed_within frames f p es h w.entries_within

      go : (b : Bool) (n : ℕ) → n ≤ 1 → cond b 1 n ≤ 1
      go true n q = omega arith
      go false n q = q

  -- an entry that stays in its frame: it becomes dirty there, or clean
  seated_same : (p e : ℕ) → p < length es → e / 2 ≡ get_or es p 0 / 2 → Seated frames (set es p e) o
  seated_same p e h q =
      record {
        entries_within = every_set (λ (x : ℕ). leb (x / 2) frames) es p e w.entries_within (le-leb (e / 2) frames (omega (arith, half_below p h)));
        order_within = w.order_within;
        once = λ g k. omega (arith, same g, w.once g k);
        named = λ g k. w.named g k ∙ sym (same g);
      }
    where
      same : (g : ℕ) → serving g (set es p e) ≡ serving g es
      same g = omega (arith, rw q at (serving_set g es p e h))

  pub seated_dirty : (p : ℕ) → p < length es → in_frame (get_or es p 0) ≡ true → Seated frames (set es p (dirty_in (frame_of (get_or es p 0)))) o
  seated_dirty p h i = seated_same p (dirty_in (frame_of (get_or es p 0))) h (omega (arith, in_frame_placed (get_or es p 0) i))

  pub seated_clean : (p : ℕ) → p < length es → in_frame (get_or es p 0) ≡ true → Seated frames (set es p (clean_in (frame_of (get_or es p 0)))) o
  seated_clean p h i = seated_same p (clean_in (frame_of (get_or es p 0))) h (omega (arith, in_frame_placed (get_or es p 0) i))

  -- an entry that becomes absent or evicted: its frame, if it had one, leaves the order
  seated_freed : (p e : ℕ) → p < length es → e ≤ 1 → in_frame (get_or es p 0) ≡ true → Seated frames (set es p e) (without (frame_of (get_or es p 0)) o)
  seated_freed p e h q i =
      record {
        entries_within = every_set (λ (x : ℕ). leb (x / 2) frames) es p e w.entries_within (le-leb (e / 2) frames (omega arith));
        order_within = every_without (λ (g : ℕ). ltb g frames) f o w.order_within;
        once = λ g k. omega (arith, less g, w.once g k);
        named = λ g k. times_without g f o ∙ ap (λ (n : ℕ). cond (eqb g f) 0 n) (w.named g k) ∙ go g (eqb g f) refl (less g) (w.once g k);
      }
    where
      f : ℕ
      f = frame_of (get_or es p 0)

      half : get_or es p 0 / 2 ≡ f + 1
      half = in_frame_placed (get_or es p 0) i

      less : (g : ℕ) → serving g (set es p e) + cond (eqb (f + 1) (g + 1)) 1 0 ≡ serving g es
      less g =
          let n : eqb (e / 2) (g + 1) ≡ false = ne_eqb (e / 2) (g + 1) (λ z. omega arith) in
          omega (arith, rw (half, n) at (serving_set g es p e h))

      go : (g : ℕ) (b : Bool) → eqb g f ≡ b → serving g (set es p e) + cond (eqb (f + 1) (g + 1)) 1 0 ≡ serving g es → serving g es ≤ 1 → cond b 0 (serving g es) ≡ serving g (set es p e)
      go g true z k l = omega (arith, rw (eq-eqb (f + 1) (g + 1) (omega (arith, eqb-true g f z))) at k)
      go g false z k l = omega (arith, rw (ne_eqb (f + 1) (g + 1) (λ y. eqb-false g f z (omega arith))) at k)

  pub seated_leave : (p e : ℕ) → p < length es → e ≤ 1 → Seated frames (set es p e) (freed_of (get_or es p 0) o)
  seated_leave p e h q = go (in_frame (get_or es p 0)) refl
    where
      go : (b : Bool) → in_frame (get_or es p 0) ≡ b → Seated frames (set es p e) (cond b (without (frame_of (get_or es p 0)) o) o)
      go true i = seated_freed p e h q i
      go false i = seated_same p e h (omega (arith, no_frame (get_or es p 0) i))

  -- S5 and S6 of "Sound tables"
  pub seated_s5 : up_to (λ (f : ℕ). leb (serving f es) 1) frames 0 ≡ true
  seated_s5 = up_to_all (λ (f : ℕ). leb (serving f es) 1) frames 0 (λ i _ h. le-leb (serving i es) 1 (w.once i (omega arith)))

  pub seated_s6 : (every (λ (f : ℕ). ltb f frames) o && up_to (λ (f : ℕ). eqb (times f o) (serving f es)) frames 0) ≡ true
  seated_s6 =
      let k = up_to_all (λ (f : ℕ). eqb (times f o) (serving f es)) frames 0 (λ i _ h. eq-eqb (times i o) (serving i es) (w.named i (omega arith))) in
      rw w.order_within k
