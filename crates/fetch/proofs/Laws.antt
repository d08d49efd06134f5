-- Laws of pages and frames within their areas, and of what fetch finds.
use Prim.Native.Nat.{ℕ, ◌+◌, ◌*◌, ◌-◌, ◌/◌, ◌%◌, ◌≤◌, ◌<◌}
use native.Mathlib.Omega.{arith}
use mathlib.Core.Path.{◌≡◌, sym, ◌∙◌}
use mathlib.Core.Bool.{true, false, cond}
use mathlib.Core.List.{List, ◌++◌}
use lib.ListN.{length, get_or, take, drop, length-take, length-drop}
use lib.Dec.{eqb}
use borrow.Rule.Slice.PartMut.{put_mid, put_same}
use Rattle.record.specs.Part.{part, with_part}
use Rattle.record.specs.Rows.{keep}
use Rattle.record.specs.Record.{on_page, applied}
use Rattle.record.proofs.Parts.{part_inner, one_fits}
use Rattle.order.specs.Order.{touched, frame_for}
use Rattle.rules.specs.Lent.{Lent, size_of, pages_of, frames_of, order_of, entry_at, entry_of, in_frame, frame_of, page_in, with_page, with_order, with_entries, online_of}
use Rattle.rules.specs.Shape.{Shaped}
use Rattle.rules.specs.Steps.{placed, rebuilt, fetched_entries, fetched_pool, read_tables, read_step, read_bytes}
use Rattle.rules.proofs.Kept.{frame_below}
use Rattle.rules.proofs.Tables.{entry_below}
use Rattle.layout.specs.Read.{ParamsRead}
use Rattle.rules.specs.declared.Params.{Params}
use Rattle.frames.proofs.Laws.{in_frame_placed}
use Rattle.fetch.specs.Post.{PageBrought, PageFetched, PageUsed, ReadDone}

-- a middle part put back
pub mid_put : (l ys zs : List ℕ) (a k e : ℕ) → e ≡ a + k → ys ≡ zs → put_mid a (e - a) l ys ≡ with_part a k l zs
mid_put l ys zs a k e h q =
    let d : e - a ≡ k = omega arith in
    rw (d, q)

-- the entry and the frame, by the parameters that were read
pub entry_in : (s : Lent) (p : ℕ) (given : Params) (e : ℕ) → ParamsRead s.durable.fixed given → e ≡ get_or s.lost.tables (entry_at given.frames p) 0 → e ≡ entry_of s p
entry_in s p given e z h = rw (← z.frames) h

pub frame_in : (s : Lent) (given : Params) (f : ℕ) (o : List ℕ) → o ≡ order_of s → ParamsRead s.durable.fixed given → f ≡ frame_for given.frames o → f ≡ frame_for (frames_of s) (order_of s)
frame_in s given f o h z e = rw (← z.frames, ← h) e

pub frame_within : (s : Lent) (given : Params) (f : ℕ) (o : List ℕ) → Shaped s → o ≡ order_of s → ParamsRead s.durable.fixed given → f ≡ frame_for given.frames o → f < frames_of s
frame_within s given f o w h z e =
    rw (frame_in s given f o h z e) (frame_below (frames_of s) (order_of s) w.sized.frames_least w.order)

-- fetch, of a page that is in a frame, and of one that is not
pub fetched_there : (s : Lent) (p e f : ℕ) → Shaped s → p < pages_of s → e ≡ entry_of s p → in_frame e ≡ true → f ≡ frame_of e → PageFetched s p f 0 s.lost.tables s.lost.pool
unfolding fetched_entries fetched_pool
fetched_there s p e f h q i n k =
    let b : in_frame (entry_of s p) ≡ true = rw i at n in
    let w : e / 2 ≤ frames_of s = rw i (entry_below s p h q) in
    let l : 1 ≤ e / 2 = in_frame_placed e n in
    record {
      frame = rw (b, ← i) k;
      within = omega (arith, k);
      reads = rw b;
      tables = rw b (sym (put_same (35 + frames_of s) (pages_of s) s.lost.tables));
      pool = rw b;
    }

pub fetched_new : (s : Lent) (p e f : ℕ) {t g : List ℕ} → Shaped s → e ≡ entry_of s p → in_frame e ≡ false → f ≡ frame_for (frames_of s) (order_of s) → PageBrought s p f t g → PageFetched s p f 1 t g
unfolding fetched_entries fetched_pool
fetched_new s p e f h i n m w =
    let b : in_frame (entry_of s p) ≡ false = rw i at n in
    record {
      frame = rw b m;
      within = rw m (frame_below (frames_of s) (order_of s) h.sized.frames_least h.order);
      reads = rw b;
      tables = rw (b, ← m) w.tables;
      pool = rw (b, ← m) w.pool;
    }

-- a frame and a stored page lie within their areas
pub fill_fits : (s : Lent) (p f size : ℕ) → Shaped s → p < pages_of s → f < frames_of s → size ≡ size_of s → (f * size + size ≤ length s.lost.pool) × (p * size + size ≤ length s.durable.stored)
fill_fits s p f size h q r e = (
  rw e (one_fits f (frames_of s) (size_of s) (length s.lost.pool) r h.sized.pool),
  rw e (one_fits p (pages_of s) (size_of s) (length s.durable.stored) q h.sized.stored),
)

-- what `bring_in` leaves
pub brought : (s : Lent) (p f : ℕ) (given : Params) (o : List (List ℕ)) (e : ℕ) (t g : List ℕ) → ParamsRead s.durable.fixed given → o ≡ online_of s → e ≡ get_or s.lost.tables (entry_at given.frames p) 0 → t ≡ with_entries given.frames given.pages (placed f p (part (35 + given.frames) given.pages s.lost.tables)) s.lost.tables → g ≡ with_page given.size f s.lost.pool (cond (eqb (e % 2) 1) (applied (keep (on_page p) o) (page_in given.size p s.durable.stored)) (page_in given.size p s.durable.stored)) → PageBrought s p f t g
unfolding rebuilt
brought s p f given o e t g z i j et eg =
    record {
      tables = rw (← z.frames, ← z.pages) et;
      pool = rw (← z.frames, ← z.size, ← i, ← j) eg;
    }

-- bytes of a page, out of its frame
pub out_length : (l m : List ℕ) (a w : ℕ) → w ≤ length m → a + w ≤ length l → length (take w m) ≡ length (take (a + w - a) (drop a l))
out_length l m a w h i =
    let d : a + w - a ≡ w = omega arith in
    rw d (omega (arith, length-take w m, length-take w (drop a l), length-drop a l))

pub out_part : (l b ys : List ℕ) (f size offset w : ℕ) → offset + w ≤ size → ys ≡ take (f * size + offset + w - (f * size + offset)) (drop (f * size + offset) l) → ys ++ drop w b ≡ part offset w (page_in size f l) ++ drop w b
out_part l b ys f size offset w h e =
    let d : f * size + offset + w - (f * size + offset) ≡ w = omega arith in
    rw (e, d, part_inner (f * size) size offset w l h)

-- the frame is the latest used
pub used : (s : Lent) (p f n : ℕ) (given : Params) (o t t' g : List ℕ) → ParamsRead s.durable.fixed given → o ≡ order_of s → PageFetched s p f n t g → t' ≡ with_order given.frames (touched f o) t → PageUsed s p f n t' g (read_tables s p)
unfolding read_tables
used s p f n given o t t' g z i h e =
    record {
      frame = h.frame;
      within = h.within;
      reads = h.reads;
      tables = e ∙ rw (z.frames, i, h.frame, h.tables);
      pool = h.pool;
    }

-- its bytes lie within the pool
pub used_fits : (s : Lent) (p f n : ℕ) (given : Params) (t g m : List ℕ) → Shaped s → ParamsRead s.durable.fixed given → PageUsed s p f n t g m → length g ≡ length s.lost.pool → f * given.size + given.size ≤ length g
used_fits s p f n given t g m h z w e =
    rw z.size (one_fits f (frames_of s) (size_of s) (length g) w.within (e ∙ h.sized.pool))

pub read_done : (s : Lent) (p offset w f n : ℕ) (given : Params) (t g b d : List ℕ) → ParamsRead s.durable.fixed given → PageUsed s p f n t g (read_tables s p) → d ≡ part offset w (page_in given.size f g) ++ drop w b → ReadDone s p offset w n t g b d
unfolding read_step read_bytes
read_done s p offset w f n given t g b d z h e =
    record {
      reads = h.reads;
      lent = rw (h.tables, h.pool);
      buffer = e ∙ rw (z.size, h.frame, h.pool);
    }
