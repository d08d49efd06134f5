-- The pass: a turn over a valid frame, and its two ends.
use Rattle.std.proofs.Common.{◌≡◌, ℕ, suc, ◌+◌, ◌-◌, ◌≤◌, ◌<◌, List, ◌++◌, length, take, drop, sym, ap, ◌∙◌, arith, length-append, length-drop, drop-drop, take_at, drop_at, None, Some}
use Rattle.std.proofs.Math.Seq.{take-length}
use mathlib.Core.Bool.{and-false}
use lib.Dec.{leb}
use borrow.Author.Tests.{lt-leb}
use Rattle.wal.specs.declared.Sums.{Sums}
use Rattle.wal.specs.declared.Header.{Header}
use Rattle.wal.specs.declared.Seen.{Seen}
use Rattle.wal.specs.Layout.{Frame, frame_size, seen, frame_at, frames_from, valid_frames}
use Rattle.wal.proofs.Frames.{stop_part, more, none}
use Rattle.waljudge.specs.declared.Pass.{Pass}
use Rattle.waljudge.specs.Pass.{started, taken, passed}

-- all behind a place
pub rest_all : (at : ℕ) (l : List ℕ) → take (length l - at) (drop at l) ≡ drop at l
rest_all at l = rw (← length-drop at l) (take-length (drop at l))

pub begun : (page : ℕ) (h : Header) (l : List ℕ) (a : Pass) → a ≡ started → passed page h.size (frames_from h l (length l - a.frames) 32 h.sums) a ≡ passed page h.size (valid_frames h l) started
unfolding valid_frames
begun page h l a e = let n : length l - 0 ≡ length l = omega arith in rw (e, n)

-- a frame's bytes, taken off the front of what is left of the file
module _ (h : Header) (l f rest : List ℕ) (at : ℕ) (e : drop at l ≡ f ++ rest) (n : length f ≡ frame_size h) where
  pub frame_is : frame_at h l at ≡ f
  frame_is = ap (take (frame_size h)) e ∙ take_at f rest (frame_size h) n

  pub frame_fits : at ≤ length l → at + frame_size h ≤ length l
  frame_fits m = omega (arith, simp length-append at (ap length e), length-drop at l)

  pub rest_is : rest ≡ drop (at + frame_size h) l
  rest_is = sym (drop_at f rest (frame_size h) n) ∙ ap (drop (frame_size h)) (sym e) ∙ drop-drop (frame_size h) at l

  pub turn : (page : ℕ) (s : Sums) (x : Seen) (a a' t : Pass) → a.frames < at → at ≤ length l → seen h s f ≡ Some x → a' ≡ taken page h.size (record { page = x.page; commit = x.commit; place = at + 24 }) a → passed page h.size (frames_from h l (length l - a.frames) at s) a ≡ t → passed page h.size (frames_from h l (length l - a'.frames) (at + (24 + h.size)) x.sums) a' ≡ t
  unfolding passed taken
  turn page s x a a' t few within es ea inv =
      let k : a'.frames ≡ a.frames + 1 = ap (λ (y : Pass). y.frames) ea in
      let m : length l - a.frames ≡ suc (length l - a'.frames) = omega arith in
      let g = more h l (length l - a'.frames) at s x (frame_fits within) (ap (seen h s) frame_is ∙ es) in
      ap (passed page h.size (frames_from h l (length l - a'.frames) (at + frame_size h) x.sums)) ea
      ∙ sym (ap (λ (y : List Frame). passed page h.size y a) (ap (λ (y : ℕ). frames_from h l y at s) m ∙ g))
      ∙ inv

  pub stop : (page : ℕ) (s : Sums) (a t : Pass) → seen h s f ≡ None → passed page h.size (frames_from h l (length l - a.frames) at s) a ≡ t → a ≡ t
  unfolding passed
  stop page s a t es inv =
      let v = stop_part h s (frame_at h l at) (ap (seen h s) frame_is ∙ es) in
      let g = none h l (length l - a.frames) at s (rw v (and-false (leb (at + frame_size h) (length l)))) in
      sym (ap (λ (y : List Frame). passed page h.size y a) g) ∙ inv

-- a frame more is counted, and the place goes on by its bytes
pub turn_few : (page size at k : ℕ) (f : Frame) (a a' : Pass) → a.frames < at → 0 < k → a' ≡ taken page size f a → a'.frames < at + k
unfolding taken
turn_few page size at k f a a' few more ea =
    let e : a'.frames ≡ a.frames + 1 = ap (λ (x : Pass). x.frames) ea in
    omega arith

-- what is left is no whole frame
pub done : (page : ℕ) (h : Header) (l : List ℕ) (at : ℕ) (s : Sums) (a t : Pass) → length (drop at l) < frame_size h → at ≤ length l → passed page h.size (frames_from h l (length l - a.frames) at s) a ≡ t → a ≡ t
unfolding passed
done page h l at s a t short within inv =
    let b : length l < at + frame_size h = omega (arith, length-drop at l) in
    let g = none h l (length l - a.frames) at s (rw (lt-leb (at + frame_size h) (length l) b)) in
    sym (ap (λ (y : List Frame). passed page h.size y a) g) ∙ inv
