-- The header and the frames of a write-ahead log, and which of its frames are valid.
use Rattle.std.specs.Prelude.{ℕ, zero, suc, ◌+◌, ◌/◌, Bool, true, false, cond, ◌&&◌, ◌||◌, List, [], ◌∷◌, length, take, drop, ◌==◌, nat_le, Option, None, Some, Result, Ok, Err}
use Rattle.wal.specs.declared.Sums.{Sums}
use Rattle.wal.specs.declared.Header.{Header}
use Rattle.wal.specs.declared.BadHeader.{BadHeader}
use Rattle.wal.specs.declared.BadHeader.TheVariants.{Field, Sum}
use Rattle.wal.specs.declared.Seen.{Seen}
use Rattle.word.specs.Word.{big as field}
use Rattle.wal.specs.Sum.{no_sums, summed}

-- 377f0682: the words are summed lowest byte first; 377f0683: highest byte first
abbrev pub magic_of : Bool → ℕ
magic_of false = 931071618
magic_of true = 931071619

abbrev pub version : ℕ
version = 3007000

-- a power of two from 512 to 65,536
unfoldable pub is_page_size : ℕ → Bool
is_page_size n = n == 512 || n == 1024 || n == 2048 || n == 4096 || n == 8192 || n == 16384 || n == 32768 || n == 65536

-- the header's fields are as they must be
unfoldable pub is_header : List ℕ → Bool
is_header l = (field l 0 == magic_of false || field l 0 == magic_of true) && field l 4 == version && is_page_size (field l 8)

-- what a header says: the byte order of the words, the page size, the salts, and the sums of its bytes 0 to 23
unfoldable pub head_in : List ℕ → Header
head_in l =
    record {
      big = (field l 0 == magic_of true);
      size = field l 8;
      salt1 = field l 16;
      salt2 = field l 20;
      sums = summed (field l 0 == magic_of true) 3 l 0 no_sums;
    }

-- two fields hold these sums
abbrev pub holds_sums : List ℕ → ℕ → Sums → Bool
holds_sums l at s = field l at == s.s0 && field l (at + 4) == s.s1

-- a file's header judged
unfoldable pub opened : List ℕ → Result Header BadHeader
opened l = cond (nat_le 32 (length l) && is_header l) (cond (holds_sums l 24 (head_in l).sums) (Ok (head_in l)) (Err Sum)) (Err Field)

-- how many bytes a frame has
abbrev pub frame_size : Header → ℕ
frame_size h = 24 + h.size

-- the sums gone on over a frame f: its bytes 0 to 7, then its page
unfoldable pub frame_sums : Header → Sums → List ℕ → Sums
frame_sums h s f = summed h.big (h.size / 8) f 24 (summed h.big 1 f 0 s)

-- "salts equal, checksums running": the frame's salts are the header's, and it holds the sums
unfoldable pub is_valid : Header → Sums → List ℕ → Bool
is_valid h s f = (field f 8 == h.salt1 && field f 12 == h.salt2) && holds_sums f 16 (frame_sums h s f)

-- a whole frame looked at, with the sums before it: its page number, its commit field and the sums after it; none where validity stops
unfoldable pub seen : Header → Sums → List ℕ → Option Seen
seen h s f = cond (is_valid h s f) (Some (record { page = field f 0; commit = field f 4; sums = frame_sums h s f })) None

-- a valid frame: the page number, the commit field, where the page's image begins
pub record Frame : Type 0 where
  pub page : ℕ
  pub commit : ℕ
  pub place : ℕ

-- the frame's bytes, where it begins at a place of the file
abbrev pub frame_at : Header → List ℕ → ℕ → List ℕ
frame_at h l at = take (frame_size h) (drop at l)

-- the frames from a place on, up to the first that is not whole or not valid; n is at least how many there are
unfoldable pub frames_from : Header → List ℕ → ℕ → ℕ → Sums → List Frame
frames_from h l zero at s = []
frames_from h l (suc n) at s =
    cond (nat_le (at + frame_size h) (length l) && is_valid h s (frame_at h l at))
    (record { page = field (frame_at h l at) 0; commit = field (frame_at h l at) 4; place = at + 24 } ∷ frames_from h l n (at + frame_size h) (frame_sums h s (frame_at h l at)))
    []

-- the valid frames of a file: there are fewer than bytes
unfoldable pub valid_frames : Header → List ℕ → List Frame
valid_frames h l = frames_from h l (length l) 32 h.sums
