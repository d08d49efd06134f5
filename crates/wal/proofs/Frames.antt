-- What a look at a frame says, and the frames from a place on: one more, or none.
use Rattle.std.proofs.Common.{◌≡◌, ℕ, zero, suc, ◌+◌, ◌≤◌, true, false, ◌&&◌, leb, List, [], ◌∷◌, length, refl, arith, le-leb, None, Some}
use Rattle.std.proofs.lemmas.Bool.Decides.{nat_tests}
use Rattle.wal.specs.declared.Sums.{Sums}
use Rattle.wal.specs.declared.Header.{Header}
use Rattle.wal.specs.declared.Seen.{Seen}
use Rattle.word.specs.Word.{big as field}
use Rattle.wal.specs.Layout.{frame_size, frame_sums, is_valid, seen, frame_at, frames_from}

-- what a look says
pub valid_parts : (h : Header) (s : Sums) (f : List ℕ) (x : Seen) → seen h s f ≡ Some x → (is_valid h s f ≡ true) × (field f 0 ≡ x.page) × (field f 4 ≡ x.commit) × (frame_sums h s f ≡ x.sums)
unfolding seen
valid_parts h s f x e = grind (arith, nat_tests)

pub stop_part : (h : Header) (s : Sums) (f : List ℕ) → seen h s f ≡ None → is_valid h s f ≡ false
unfolding seen
stop_part h s f e = grind (arith, nat_tests)

-- one frame more
pub more : (h : Header) (l : List ℕ) (k at : ℕ) (s : Sums) (x : Seen) → at + frame_size h ≤ length l → seen h s (frame_at h l at) ≡ Some x → frames_from h l (suc k) at s ≡ record { page = x.page; commit = x.commit; place = at + 24 } ∷ frames_from h l k (at + frame_size h) x.sums
unfolding frames_from
more h l k at s x fits e =
    let v = valid_parts h s (frame_at h l at) x e in
    rw (le-leb (at + frame_size h) (length l) fits, v.0, v.1, v.2, v.3)

pub none : (h : Header) (l : List ℕ) (k at : ℕ) (s : Sums) → (leb (at + frame_size h) (length l) && is_valid h s (frame_at h l at)) ≡ false → frames_from h l k at s ≡ []
unfolding frames_from
none h l zero at s e = refl
none h l (suc k) at s e = rw e
