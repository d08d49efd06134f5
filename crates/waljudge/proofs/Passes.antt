-- The pass finds what the frames say: how many, where the last commit frame ends, where a page's last image begins.
use Prim.Native.Nat.{ℕ, zero, suc, ◌+◌, ◌≤◌, ◌<◌}
use native.Mathlib.Omega.{arith}
use mathlib.Core.Path.{◌≡◌, refl, sym, ap, ◌∙◌}
use mathlib.Core.Bool.{Bool, true, false, cond, not, ◌&&◌, ◌||◌}
use mathlib.Core.List.{List, [], ◌∷◌}
use lib.ListN.{length}
use lib.Dec.{eqb, leb, ltb}
use borrow.Author.Tests.{ltb-true, lt-ltb}
use Rattle.word.proofs.Tests.{and_both, and_in}
use Rattle.record.specs.Rows.{any}
use Rattle.rules.specs.Sound.{every}
use Rattle.wal.specs.declared.Sums.{Sums}
use Rattle.wal.specs.declared.Header.{Header}
use Rattle.wal.specs.Layout.{Frame, frame_size, frame_sums, is_valid, frame_at, frames_from, opened, valid_frames}
use Rattle.std.specs.Prelude.{Option, None, Some, Ok, unwrap_or}
use Rattle.word.specs.Word.{big as field}
use Rattle.wal.proofs.Opens.{good_parts, good_size}
use Rattle.waljudge.specs.declared.Pass.{Pass}
use Rattle.waljudge.specs.Pass.{started, taken, passed}
use Rattle.waljudge.specs.Judge.{is_commit, is_of, up_to_commit, last_place, end_of, judged_by, found_by}

pub count_passed : (page size : ℕ) (fs : List Frame) (a : Pass) → (passed page size fs a).frames ≡ a.frames + length fs
unfolding passed taken
count_passed page size [] a = omega arith
count_passed page size (f ∷ fs) a = count_passed page size fs (taken page size f a) ∙ omega arith

-- the last of some: whatever stands for none, and that itself where there is none
pub last_any : (b : Frame → Bool) (fs : List Frame) (d e : ℕ) → any b fs ≡ true → last_place b d fs ≡ last_place b e fs
unfolding any last_place
last_any b [] d e h = let z : ◌≡◌ {A = ℕ} 0 1 = cc in absurd (omega arith)
last_any b (f ∷ fs) d e h = go (b f) (last_any b fs d e) h
  where
    go : (x : Bool) → (any b fs ≡ true → last_place b d fs ≡ last_place b e fs) → (x || any b fs) ≡ true → last_place b (cond x f.place d) fs ≡ last_place b (cond x f.place e) fs
    go true r k = refl
    go false r k = r k

pub last_none : (b : Frame → Bool) (fs : List Frame) (d : ℕ) → any b fs ≡ false → last_place b d fs ≡ d
unfolding any last_place
last_none b [] d h = refl
last_none b (f ∷ fs) d h = go (b f) (last_none b fs d) h
  where
    go : (x : Bool) → (any b fs ≡ false → last_place b d fs ≡ d) → (x || any b fs) ≡ false → last_place b (cond x f.place d) fs ≡ d
    go true r k = let z : ◌≡◌ {A = ℕ} 0 1 = cc in absurd (omega arith)
    go false r k = r k

none_up : (fs : List Frame) → any is_commit fs ≡ false → up_to_commit fs ≡ []
unfolding any up_to_commit
none_up [] h = refl
none_up (f ∷ fs) h = rw h

pub end_passed : (page size : ℕ) (fs : List Frame) (a : Pass) → (passed page size fs a).end ≡ cond (any is_commit fs) (Some (last_place is_commit 0 fs + size)) a.end
unfolding passed taken any last_place
end_passed page size [] a = refl
end_passed page size (f ∷ fs) a = end_passed page size fs (taken page size f a) ∙ go (eqb f.commit 0) (any is_commit fs) refl
  where
    go : (x y : Bool) → any is_commit fs ≡ y → cond y (Some (last_place is_commit 0 fs + size)) (cond x a.end (Some (f.place + size))) ≡ cond (not x || y) (Some (last_place is_commit (cond (not x) f.place 0) fs + size)) a.end
    go true true e = refl
    go true false e = refl
    go false true e = ap (λ (k : ℕ). Some (k + size)) (last_any is_commit fs 0 f.place e)
    go false false e = sym (ap (λ (k : ℕ). Some (k + size)) (last_none is_commit fs f.place e))

-- the place of the last of some that passes the test; other where none passes
unfoldable last_of : (Frame → Bool) → Option ℕ → List Frame → Option ℕ
last_of b other [] = other
last_of b other (f ∷ fs) = last_of b (cond (b f) (Some f.place) other) fs

last_is : (b : Frame → Bool) (fs : List Frame) (other : Option ℕ) (d : ℕ) → last_of b other fs ≡ cond (any b fs) (Some (last_place b d fs)) other
unfolding last_of any last_place
last_is b [] other d = refl
last_is b (f ∷ fs) other d = last_is b fs (cond (b f) (Some f.place) other) (cond (b f) f.place d) ∙ go (b f) (any b fs) refl
  where
    go : (x y : Bool) → any b fs ≡ y → cond y (Some (last_place b (cond x f.place d) fs)) (cond x (Some f.place) other) ≡ cond (x || y) (Some (last_place b (cond x f.place d) fs)) other
    go true true e = refl
    go true false e = sym (ap Some (last_none b fs f.place e))
    go false y e = refl

at_passed : (page size : ℕ) (fs : List Frame) (a : Pass) → (passed page size fs a).at ≡ cond (any is_commit fs) (last_of (is_of page) a.pending (up_to_commit fs)) a.at
unfolding passed taken any last_of up_to_commit
at_passed page size [] a = refl
at_passed page size (f ∷ fs) a = at_passed page size fs (taken page size f a) ∙ go (eqb f.commit 0) (any is_commit fs) refl
  where
    pend : Option ℕ
    pend = cond (eqb f.page page) (Some f.place) a.pending

    go : (x y : Bool) → any is_commit fs ≡ y → cond y (last_of (is_of page) pend (up_to_commit fs)) (cond x a.at pend) ≡ cond (not x || y) (last_of (is_of page) a.pending (cond (not x || y) (f ∷ up_to_commit fs) [])) a.at
    go true true e = refl
    go true false e = refl
    go false true e = refl
    go false false e = sym (ap (λ (l : List Frame). last_of (is_of page) pend l) (none_up fs e))

-- what the calls answer
pub frames_found : (page size : ℕ) (fs : List Frame) → (passed page size fs started).frames ≡ length fs
frames_found page size fs = count_passed page size fs started ∙ omega arith

pub end_found : (page size : ℕ) (fs : List Frame) → unwrap_or (passed page size fs started).end 0 ≡ end_of size fs
end_found page size fs = ap (λ (x : Option ℕ). unwrap_or x 0) (end_passed page size fs started) ∙ go (any is_commit fs)
  where
    go : (y : Bool) → unwrap_or (cond y (Some (last_place is_commit 0 fs + size)) None) 0 ≡ cond y (last_place is_commit 0 fs + size) 0
    go true = refl
    go false = refl

pub at_found : (page size : ℕ) (fs : List Frame) → (passed page size fs started).at ≡ cond (any (is_of page) (up_to_commit fs)) (Some (last_place (is_of page) 0 (up_to_commit fs))) None
unfolding any
at_found page size fs = at_passed page size fs started ∙ go (any is_commit fs) refl
  where
    go : (y : Bool) → any is_commit fs ≡ y → cond y (last_of (is_of page) None (up_to_commit fs)) None ≡ cond (any (is_of page) (up_to_commit fs)) (Some (last_place (is_of page) 0 (up_to_commit fs))) None
    go true e = last_is (is_of page) (up_to_commit fs) None 0
    go false e = sym (ap (λ (l : List Frame). cond (any (is_of page) l) (Some (last_place (is_of page) 0 l)) None) (none_up fs e))

-- no image begins at 0
placed : Frame → Bool
placed f = ltb 0 f.place

framed_placed : (h : Header) (l : List ℕ) (n at : ℕ) (s : Sums) → every placed (frames_from h l n at s) ≡ true
unfolding frames_from every placed
framed_placed h l zero at s = refl
framed_placed h l (suc n) at s = go (leb (at + frame_size h) (length l) && is_valid h s (frame_at h l at)) (framed_placed h l n (at + frame_size h) (frame_sums h s (frame_at h l at)))
  where
    go : (x : Bool) → every placed (frames_from h l n (at + frame_size h) (frame_sums h s (frame_at h l at))) ≡ true → every placed (cond x (record { page = field (frame_at h l at) 0; commit = field (frame_at h l at) 4; place = at + 24 } ∷ frames_from h l n (at + frame_size h) (frame_sums h s (frame_at h l at))) []) ≡ true
    go true r = and_in (ltb 0 (at + 24)) _ (lt-ltb 0 (at + 24) (omega arith)) r
    go false r = refl

up_placed : (fs : List Frame) → every placed fs ≡ true → every placed (up_to_commit fs) ≡ true
unfolding every up_to_commit
up_placed [] h = refl
up_placed (f ∷ fs) h =
    let b = and_both (placed f) (every placed fs) h in
    go (is_commit f || any is_commit fs) b.0 (up_placed fs b.1)
  where
    go : (x : Bool) → placed f ≡ true → every placed (up_to_commit fs) ≡ true → every placed (cond x (f ∷ up_to_commit fs) []) ≡ true
    go true k r = and_in (placed f) _ k r
    go false k r = refl

last_some : (b : Frame → Bool) (fs : List Frame) (d : ℕ) → every placed fs ≡ true → any b fs ≡ true → 0 < last_place b d fs
unfolding every any last_place placed
last_some b [] d p h = let z : ◌≡◌ {A = ℕ} 0 1 = cc in absurd (omega arith)
last_some b (f ∷ fs) d p h =
    let u = and_both (placed f) (every placed fs) p in
    go (b f) (any b fs) (last_some b fs (cond (b f) f.place d) u.1) u.0 refl refl h
  where
    go : (x y : Bool) → (any b fs ≡ true → 0 < last_place b (cond (b f) f.place d) fs) → placed f ≡ true → b f ≡ x → any b fs ≡ y → (x || y) ≡ true → 0 < last_place b (cond (b f) f.place d) fs
    go x true r q g e k = r e
    go true false r q g e k = rw (g, last_none b fs f.place e) (ltb-true 0 f.place q)
    go false false r q g e k = let z : ◌≡◌ {A = ℕ} 0 1 = cc in absurd (omega arith)

pub none_found : (page x : ℕ) (h : Header) (l : List ℕ) → x ≡ last_place (is_of page) 0 (up_to_commit (valid_frames h l)) → x ≡ 0 → any (is_of page) (up_to_commit (valid_frames h l)) ≡ false
unfolding valid_frames
none_found page x h l e z = go (any (is_of page) (up_to_commit (valid_frames h l))) refl
  where
    go : (y : Bool) → any (is_of page) (up_to_commit (valid_frames h l)) ≡ y → any (is_of page) (up_to_commit (valid_frames h l)) ≡ false
    go true k = absurd (omega (arith, last_some (is_of page) (up_to_commit (valid_frames h l)) 0 (up_placed (valid_frames h l) (framed_placed h l (length l) 32 h.sums)) k))
    go false k = k

-- `judged_by`, `found_by`
pub good_ask : (l : List ℕ) (h : Header) → opened l ≡ Ok h → (32 ≤ length l) × (h.size ≤ 65536)
good_ask l h e = ((good_parts l h e).0, (good_size l h e).1)

pub judged_as : (page : ℕ) (h : Header) (l : List ℕ) (a : Pass) → a ≡ passed page h.size (valid_frames h l) started → record { code = 0; frames = a.frames; end = unwrap_or a.end 0 } ≡ judged_by l (Ok h)
judged_as page h l a e =
    let n : a.frames ≡ length (valid_frames h l) = ap (λ (x : Pass). x.frames) e ∙ frames_found page h.size (valid_frames h l) in
    let k : unwrap_or a.end 0 ≡ end_of h.size (valid_frames h l) = ap (λ (x : Pass). unwrap_or x.end 0) e ∙ end_found page h.size (valid_frames h l) in
    λ i. record { code = 0; frames = n i; end = k i }

pub found_none : (page : ℕ) (h : Header) (l : List ℕ) (a : Pass) → a ≡ passed page h.size (valid_frames h l) started → a.at ≡ None → record { code = 0; found = 0; at = 0 } ≡ found_by l page (Ok h)
found_none page h l a e z = go (any (is_of page) (up_to_commit (valid_frames h l))) refl (sym z ∙ ap (λ (x : Pass). x.at) e ∙ at_found page h.size (valid_frames h l))
  where
    place : ℕ
    place = last_place (is_of page) 0 (up_to_commit (valid_frames h l))

    go : (y : Bool) → any (is_of page) (up_to_commit (valid_frames h l)) ≡ y → None ≡ cond y (Some place) None → record { code = 0; found = 0; at = 0 } ≡ found_by l page (Ok h)
    go true k f = cc
    go false k f = rw (k, last_none (is_of page) (up_to_commit (valid_frames h l)) 0 k) refl

pub found_some : (page x : ℕ) (h : Header) (l : List ℕ) (a : Pass) → a ≡ passed page h.size (valid_frames h l) started → a.at ≡ Some x → record { code = 0; found = 1; at = x } ≡ found_by l page (Ok h)
found_some page x h l a e z = go (any (is_of page) (up_to_commit (valid_frames h l))) refl (sym z ∙ ap (λ (x : Pass). x.at) e ∙ at_found page h.size (valid_frames h l))
  where
    place : ℕ
    place = last_place (is_of page) 0 (up_to_commit (valid_frames h l))

    go : (y : Bool) → any (is_of page) (up_to_commit (valid_frames h l)) ≡ y → Some x ≡ cond y (Some place) None → record { code = 0; found = 1; at = x } ≡ found_by l page (Ok h)
    go true k f = let g : x ≡ place = cc in rw (k, g) refl
    go false k f = cc
