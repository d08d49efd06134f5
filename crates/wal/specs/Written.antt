-- A write-ahead log as bytes: the header, and a frame for each page listed.
use Rattle.std.specs.Prelude.{ℕ, ◌+◌, ◌/◌, Bool, List, [], ◌∷◌, ◌++◌}
use Rattle.wal.specs.declared.Sums.{Sums}
use Rattle.wal.specs.declared.Header.{Header}
use Rattle.wal.specs.Sum.{fields_of, no_sums, summed}
use Rattle.wal.specs.Layout.{magic_of, version}

-- the header's bytes 0 to 23
unfoldable pub head_fields : Bool → ℕ → ℕ → ℕ → ℕ → List ℕ
head_fields big size sequence salt1 salt2 = fields_of (magic_of big ∷ version ∷ size ∷ sequence ∷ salt1 ∷ salt2 ∷ [])

-- what it says to the frames: their byte order, page size, salts, and the sums that they go on from
unfoldable pub head_of : Bool → ℕ → ℕ → ℕ → ℕ → Header
head_of big size sequence salt1 salt2 =
    record { big = big; size = size; salt1 = salt1; salt2 = salt2; sums = summed big 3 (head_fields big size sequence salt1 salt2) 0 no_sums }

abbrev pub sum_fields : Sums → List ℕ
sum_fields s = fields_of (s.s0 ∷ s.s1 ∷ [])

-- the header's 32 bytes
unfoldable pub head_bytes : Bool → ℕ → ℕ → ℕ → ℕ → List ℕ
head_bytes big size sequence salt1 salt2 = head_fields big size sequence salt1 salt2 ++ sum_fields (head_of big size sequence salt1 salt2).sums

-- the sums gone on over a frame of this page number, commit field and image
unfoldable pub image_sums : Header → Sums → ℕ → ℕ → List ℕ → Sums
image_sums h s page commit image = summed h.big (h.size / 8) image 0 (summed h.big 1 (fields_of (page ∷ commit ∷ [])) 0 s)

-- the frame's bytes
unfoldable pub frame_bytes : Header → Sums → ℕ → ℕ → List ℕ → List ℕ
frame_bytes h s page commit image = fields_of (page ∷ commit ∷ h.salt1 ∷ h.salt2 ∷ (image_sums h s page commit image).s0 ∷ (image_sums h s page commit image).s1 ∷ []) ++ image

-- "the last a commit frame giving the page count", the others 0: the commit field of a frame before these pages
abbrev pub commit_before : ℕ → List ℕ → ℕ
commit_before count [] = count
commit_before count (p ∷ ps) = 0

-- "one frame for each" page listed, numbered from 1 there
unfoldable pub frames_bytes : Header → (ℕ → List ℕ) → ℕ → List ℕ → Sums → List ℕ
frames_bytes h image count [] s = []
frames_bytes h image count (p ∷ ps) s =
    frame_bytes h s (p + 1) (commit_before count ps) (image p) ++ frames_bytes h image count ps (image_sums h s (p + 1) (commit_before count ps) (image p))

-- the log of these pages: byte order, page size, sequence number, salts; each page's image, the page count, the list
unfoldable pub written : Bool → ℕ → ℕ → ℕ → ℕ → (ℕ → List ℕ) → ℕ → List ℕ → List ℕ
written big size sequence salt1 salt2 image count list =
    head_bytes big size sequence salt1 salt2 ++ frames_bytes (head_of big size sequence salt1 salt2) image count list (head_of big size sequence salt1 salt2).sums
